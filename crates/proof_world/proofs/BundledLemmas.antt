-- What an end emits are packets in which an INIT and an INIT ACK are alone, and a COOKIE ECHO comes first: along any trace, whatever rules it
-- follows.
use Rattle.std.proofs.Common.{◌≡◌, ℕ, Bool, true, false, cond, ◌||◌, ◌==◌, Option, Some, None, List, [], ◌∷◌, ◌++◌, slice_get, All, refl, sym, subst, arith}
use Rattle.std.proofs.lemmas.List.Elements.{All-nil, All-cons, All-head, All-tail, All-append, All-weaker}
use Rattle.rand_core.specs.Stream.{Stream}
use Rattle.sctp_packet.specs.Packet.{PacketTree}
use Rattle.sctp_state.specs.declared.api.GivenUpCause.TheVariants.{Reset}
use Rattle.sctp_state.specs.Options.{Options}
use Rattle.sctp_state.specs.Events.{Event, SendPacket, OnError, OnConnected, OnConnectionRestarted, OnClosed, OnIncomingStreamReset, OnStreamsResetPerformed, OnStreamsResetFailed, Emitted, emit_events, emit_given_up, expired_events, nothing_emitted, numbers_of}
use Rattle.sctp_capabilities.specs.StateCookie.{Cookie}
use Rattle.sctp_tx_queue.specs.SendQueue.{Queued, stream}
use Rattle.sctp_tx_queue.specs.Resets.{is_partly, emit_unsent}
use Rattle.spec_endpoint.specs.Association.{Endpoint, Packing, Context}
use Rattle.spec_endpoint.specs.Packets.{header_to, room, packets_in}
use Rattle.spec_endpoint.specs.ResetRequests.{Outcome, Unsettled, Done, Denied, outcome}
use Rattle.spec_endpoint.specs.Sack.{clean_blocks}
use Rattle.spec_endpoint.specs.Calls.{lifecycle_end_events, refusal_events}
use Rattle.spec_endpoint.specs.Shutdown.{ended, over, emptied_if}
use Rattle.spec_endpoint.specs.StreamReset.{on_outcome}
use Rattle.spec_endpoint.specs.Input.{packet_refusal}
use Rattle.spec_endpoint.specs.Laws.{Call, ReceivePacket, called, IsShort, ending}
use Rattle.proof_endpoint.specs.Mapped.{Carried, as_carried}
use Rattle.proof_endpoint.specs.Acts.{EndWithPacket, in_open, with_context, opened_by, point_of, IsBundled, PacketAct, emits, emits_error, before_packets, after_packets, OpeningAct, establishes, opens, restarts, opens_again, maintains, before_opening, after_opening, ClosingAct, closes, before_closing, after_closing, DataAct, takes_data, before_data, after_data, SackAct, takes_sack, before_sack, after_sack, SendingAct, expires, sends, before_sending, after_sending, TimeAct, times_out, before_time, after_time, CallAct, refuses, sets_low_threshold, before_call, after_call, ResetAct, prepares, performs, takes_response, before_reset, after_reset, HandoverAct, leaves, takes_up, before_handover, after_handover, InputAct, ends_packet, before_input, after_input, Preserves}
use Rattle.proof_endpoint.proofs.ActsLemmas.{keeps_call}
use Rattle.proof_endpoint.proofs.StepsLemmas.{Emits}
use Rattle.proof_endpoint.proofs.EmptiedLemmas.{emits_emptied}
use Rattle.proof_endpoint.proofs.EmitsLemmas.{quiet_both, quiet_expiry, quiet_end, quiet_refusal, emits_nothing, emits_given_up, emits_all, emits_then, emits_sack, emits_expired, emits_sent, emits_nack_all, emits_threshold}
use Rattle.proof_pair.specs.Trace.{Side, new_side, emitted_packets, EndAction, Calls, Gives, Refuses, drain, as_received, give_carried, foreign_if, act}
use Rattle.proof_pair.proofs.JoinActsLemmas.{packets_both}
use Rattle.spec_endpoint.specs.Opening.{restarted}

abbrev EventIsBundled : Event Carried → Type 0
EventIsBundled (SendPacket p) = IsBundled p.chunks
EventIsBundled e = Unit {0}

-- no packet has no bytes at all
quiet_bundled : (e : Event Carried) → IsShort as_carried 0 e → EventIsBundled e
quiet_bundled (SendPacket p) w = absurd (omega (arith, w.short))
quiet_bundled e w = tt

ends_bundled : (e : Event Carried) → ending e ≡ 1 → EventIsBundled e
ends_bundled (SendPacket p) h = cc
ends_bundled e h = tt

drops_if : (b : Bool) (t u : Emitted Carried) → Emits as_carried 0 0 t u → Emits as_carried 0 0 t (cond b t u)
drops_if true t u h = emits_nothing as_carried 0 t
drops_if false t u h = h

drops : (ms : List Queued) (t : Emitted Carried) → Emits as_carried 0 0 t (emit_unsent ms t)
drops [] t = emits_nothing as_carried 0 t
drops (m ∷ ms) t =
    let gone : Emitted Carried = emit_given_up m.number Reset t in
    let said : Emitted Carried = emit_events (expired_events m.lifecycle) gone in
    let u : Emitted Carried = cond (is_partly m) t said in
    emits_then as_carried 0 t u (emit_unsent ms u)
    (drops_if (is_partly m) t said (emits_then as_carried 0 t gone said (emits_given_up as_carried 0 m.number Reset t) (emits_all as_carried 0 (expired_events m.lifecycle) gone (quiet_expiry Carried m.lifecycle))))
    (drops ms u)

-- ---- an end at work

record Bundles (pack : Packing Carried) (es : List (Event Carried)) : Type 0 where
  packing : pack ≡ as_carried
  bundled : All EventIsBundled es

saying : (pack : Packing Carried) (es : List (Event Carried)) (e : Event Carried) → EventIsBundled e → Bundles pack es → Bundles pack (es ++ e ∷ [])
saying pack es e can h = record { packing = h.packing; bundled = All-append EventIsBundled es (e ∷ []) h.bundled (All-cons EventIsBundled e [] can (All-nil EventIsBundled)) }

quietly : (pack : Packing Carried) (t u : Emitted Carried) → Emits as_carried 0 0 t u → Bundles pack t.events → Bundles pack u.events
quietly pack t u e h = record {
  packing = h.packing;
  bundled = subst (All EventIsBundled) (sym e.behind)
      (All-append EventIsBundled t.events e.events h.bundled (All-weaker (IsShort as_carried 0) EventIsBundled quiet_bundled e.events e.short));
}

abbrev BundlesAt : EndWithPacket Carried → Type 0
BundlesAt m = Bundles m.context.pack m.context.emitted.events

abbrev Onward : EndWithPacket Carried → EndWithPacket Carried → Type 0
Onward m n = BundlesAt m → BundlesAt n

opened : (resets : Bool) (k : Cookie) (m : EndWithPacket Carried) → Onward m (opened_by resets k m)
opened resets k m h = saying m.context.pack m.context.emitted.events OnConnected tt h

answered : (o : Outcome) (m : EndWithPacket Carried) → Onward m (with_context (on_outcome o m.context) m)
answered Unsettled m h = h
answered (Done streams) m h = saying m.context.pack m.context.emitted.events (OnStreamsResetPerformed streams) tt h
answered (Denied streams) m h = saying m.context.pack m.context.emitted.events (OnStreamsResetFailed streams) tt h

module _ (call : Call) where
  b_packets : (act : PacketAct Carried call) → Onward (before_packets act) (after_packets act)
  b_packets (emits m some bundled) h =
      saying m.context.pack m.context.emitted.events (SendPacket (m.context.pack.write (header_to m.context.options m.packet.tag) m.packet.is_summed m.packet.chunks))
      (subst (λ (k : Packing Carried). IsBundled (k.write (header_to m.context.options m.packet.tag) m.packet.is_summed m.packet.chunks).chunks) (sym h.packing) bundled) h
  b_packets (emits_error kind text m) h = saying m.context.pack m.context.emitted.events (OnError kind text) tt h
  b_packets act h = h

  b_opening : (act : OpeningAct Carried call) → Onward (before_opening act) (after_opening act)
  b_opening (establishes tag t1 cookie t m received) h = saying m.context.pack m.context.emitted.events OnConnected tt h
  b_opening (opens tag k m echoed none own) h = opened m.context.options.avoid_stalls k m h
  b_opening (restarts tag k phase t m echoed resolution) h =
      let c : Context Carried = m.context in
      let d : Context Carried = emptied_if c.options.avoid_stalls c in
      opened true k (with_context (restarted c) (in_open phase t m)) (saying c.pack d.emitted.events OnConnectionRestarted tt
      (quietly c.pack c.emitted d.emitted (emits_emptied as_carried 0 c.options.avoid_stalls c.queue c.emitted) h))
  b_opening (opens_again tag k phase t m echoed resolution) h = opened true k (in_open phase t m) h
  b_opening (maintains tag k t1 cookie t m echoed resolution) h = saying m.context.pack m.context.emitted.events OnConnected tt h
  b_opening act h = h

  b_closing : (act : ClosingAct Carried call) → Onward (before_closing act) (after_closing act)
  b_closing (closes e m there is) h =
      quietly m.context.pack (ended e m.context).emitted (over e m.context).emitted (emits_emptied as_carried 0 m.context.options.avoid_stalls m.context.queue (ended e m.context).emitted)
      (saying m.context.pack m.context.emitted.events e (ends_bundled e is) h)
  b_closing act h = h

  b_data : (act : DataAct Carried call) → Onward (before_data act) (after_data act)
  b_data (takes_data tag tsn is_immediate f phase t m received right some takes) h = h
  b_data act h = h

  b_sack : (act : SackAct Carried call) → Onward (before_sack act) (after_sack act)
  b_sack (takes_sack tag k phase t m received valid) h =
      quietly m.context.pack m.context.emitted _ (emits_sack as_carried 0 true (point_of k t) (clean_blocks k.gap_ack_blocks) t.sender m.context.emitted) h
  b_sack act h = h

  b_sending : (act : SendingAct Carried call) → Onward (before_sending act) (after_sending act)
  b_sending (expires phase t m) h = quietly m.context.pack m.context.emitted _ (emits_expired as_carried 0 m.context.now t.sender.outstanding.items m.context.emitted) h
  b_sending (sends phase t m) h = quietly m.context.pack m.context.emitted _ (emits_sent as_carried 0 m.context.now (room m.packet) t.sender m.context.queue m.context.emitted) h
  b_sending act h = h

  b_time : (act : TimeAct Carried call) → Onward (before_time act) (after_time act)
  b_time (times_out phase t m due) h = quietly m.context.pack m.context.emitted _ (emits_nack_all as_carried 0 t.sender.outstanding.items m.context.emitted) h
  b_time act h = h

  b_calls : (act : CallAct Carried call) → Onward (before_call act) (after_call act)
  b_calls (refuses message o e m offered is) h =
      let es : List (Event Carried) = lifecycle_end_events o.lifecycle_id ++ refusal_events e in
      quietly m.context.pack m.context.emitted _
      (emits_all as_carried 0 es m.context.emitted (quiet_both (lifecycle_end_events o.lifecycle_id) (refusal_events e) (quiet_end Carried o.lifecycle_id) (quiet_refusal Carried e))) h
  b_calls (sets_low_threshold id bytes m is) h = quietly m.context.pack m.context.emitted _ (emits_threshold as_carried 0 id bytes m.context.queue m.context.emitted) h
  b_calls act h = h

  b_resets : (act : ResetAct Carried call) → Onward (before_reset act) (after_reset act)
  b_resets (prepares id phase t m asked can) h = quietly m.context.pack m.context.emitted _ (drops (stream id m.context.queue.streams).messages m.context.emitted) h
  b_resets (performs number response last_tsn streams phase t m asked known there) h = saying m.context.pack m.context.emitted.events (OnIncomingStreamReset (numbers_of streams)) tt h
  b_resets (takes_response rto number result sender receiver phase t m asked) h = answered (outcome number result t.requests.current) (in_open phase t m) h
  b_resets act h = h

  b_handover : (act : HandoverAct Carried call) → Onward (before_handover act) (after_handover act)
  b_handover (leaves phase t m is) h = saying m.context.pack m.context.emitted.events OnClosed tt h
  b_handover (takes_up s m is valid) h = saying m.context.pack m.context.emitted.events OnConnected tt h

  b_input : (act : InputAct Carried call) → Onward (before_input act) (after_input act)
  b_input (ends_packet phase t m) h = h

  bundles : Preserves call Onward
  bundles = record {
    same = λ m h. h;
    through = λ {a} {b} {c} f g h. g (f h);
    packets = b_packets;
    opening = b_opening;
    closing = b_closing;
    data_acts = b_data;
    acknowledging = b_sack;
    sending = b_sending;
    time = b_time;
    calls = b_calls;
    resets = b_resets;
    handover = b_handover;
    input = b_input;
  }

-- ---- between actions

abbrev pub PacketIsBundled : Carried → Type 0
PacketIsBundled p = IsBundled p.chunks

pub record SideIsBundled (x : Side) : Type 0 where
  pub packing : x.end.endpoint_state.context.pack ≡ as_carried
  pub quiet : x.end.endpoint_state.context.emitted ≡ nothing_emitted
  pub said : All PacketIsBundled (emitted_packets x)

packets_bundled : (es : List (Event Carried)) → All EventIsBundled es → All PacketIsBundled (packets_in es)
packets_bundled [] h = All-nil PacketIsBundled
packets_bundled (SendPacket p ∷ es) h =
    All-cons PacketIsBundled p (packets_in es) (All-head EventIsBundled (SendPacket p) es h) (packets_bundled es (All-tail EventIsBundled (SendPacket p) es h))
packets_bundled (e ∷ es) h = packets_bundled es (All-tail EventIsBundled e es h)

took : (e : Endpoint Carried) (x : Side) → Bundles e.endpoint_state.context.pack e.endpoint_state.context.emitted.events → SideIsBundled x → SideIsBundled (drain e x)
took e x k h = record {
  packing = k.packing;
  quiet = refl;
  said = subst (All PacketIsBundled) (sym (packets_both x.emitted e.endpoint_state.context.emitted.events))
      (All-append PacketIsBundled (packets_in x.emitted) (packets_in e.endpoint_state.context.emitted.events) h.said (packets_bundled e.endpoint_state.context.emitted.events k.bundled));
}

asked : (b : Bool) (x : Side) → SideIsBundled x → SideIsBundled (record x { got_init = b })
asked b x h = record { packing = h.packing; quiet = h.quiet; said = h.said }

module _ (x y : Side) (h : SideIsBundled x) where
  called_bundled : (call : Call) → SideIsBundled (drain (called call x.end) x)
  called_bundled call =
      let none : All EventIsBundled x.end.endpoint_state.context.emitted.events =
      subst (λ (t : Emitted Carried). All EventIsBundled t.events) (sym h.quiet) (All-nil EventIsBundled) in
      took (called call x.end) x (keeps_call call (bundles call) x.end (record { packing = h.packing; bundled = none })) h

  given_bundled : (p : Option Carried) (checksum : ℕ) → SideIsBundled (give_carried p checksum x)
  given_bundled None checksum = h
  given_bundled (Some p) checksum =
      let call : Call = ReceivePacket (as_received p checksum) in
      asked (x.got_init || (p.header.verification_tag == 0)) (drain (called call x.end) x) (called_bundled call)

  refused_bundled : (r : Option (List ℕ)) (p : PacketTree) → SideIsBundled (foreign_if r p x)
  refused_bundled None p = h
  refused_bundled (Some text) p = called_bundled (ReceivePacket p)

  pub act_bundled : (t : EndAction) → SideIsBundled (act t x y)
  act_bundled (Calls call) = called_bundled call
  act_bundled (Gives which checksum) = given_bundled (slice_get (emitted_packets y) which) checksum
  act_bundled (Refuses p) = refused_bundled (packet_refusal p.header.verification_tag p.chunks x.end.endpoint_state.state) p

pub new_bundled : (o : Options) (draws : Stream) → SideIsBundled (new_side o draws)
new_bundled o draws = record { packing = refl; quiet = refl; said = All-nil PacketIsBundled }
