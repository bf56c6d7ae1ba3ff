-- The acts of calls that receive nothing of an opening: what holds of an end, over every trace, is kept.
use Rattle.std.proofs.Common.{◌≡◌, ℕ, Bool, true, false, Some, None, List, [], ◌∷◌, ◌++◌, inl, inr, refl, sym, ap, subst, ◌∙◌, All, arith}
use Rattle.std.proofs.lemmas.List.Elements.{All-nil}
use Rattle.std.proofs.lemmas.Bool.{both_ways}
use Rattle.sctp_packet.specs.Chunk.{ChunkTree, InitTree, init_chunk, init_ack_chunk, cookie_echo_chunk, cookie_ack_chunk, re_config_chunk}
use Rattle.sctp_capabilities.specs.Capabilities.{announced_parameters}
use Rattle.sctp_capabilities.specs.StateCookie.{Cookie, CapabilitiesFit}
use Rattle.sctp_state.specs.Handover.{HandoverState}
use Rattle.sctp_state.specs.Options.{Options}
use Rattle.sctp_state.specs.Events.{Event, OnError, OnClosed}
use Rattle.sctp_capabilities.proofs.CapabilitiesLemmas.{announced_with_options}
use Rattle.spec_endpoint.specs.Association.{Tcb, Phase, CookieEchoed, Established, ShutdownPending, Closed, CookieWait, Open, Context}
use Rattle.spec_endpoint.specs.Packets.{PacketDraft, packet_to, add}
use Rattle.spec_endpoint.specs.ResetRequests.{Outcome, Unsettled, Done, Denied, outcome, request_chunk}
use Rattle.spec_endpoint.specs.StreamReset.{on_outcome}
use Rattle.spec_endpoint.specs.Shutdown.{ended, over}
use Rattle.spec_endpoint.specs.Sending.{asks_at_once, selective_ack, fast_most}
use Rattle.spec_endpoint.specs.Opening.{init_of}
use Rattle.spec_endpoint.specs.Laws.{Call, Connect, Restore, ending}
use Rattle.sctp_tx.specs.RetransmissionQueue.{Sender}
use Rattle.sctp_tx.specs.Resent.{resent_fast}
use Rattle.sctp_tx.specs.ForwardPoints.{chunk_if, forward_chunk}
use Rattle.sctp_tx.specs.Sending as fragments
use Rattle.proof_endpoint.specs.Mapped.{Carried}
use Rattle.proof_endpoint.specs.Acts.{EndWithPacket, in_state, with_context, in_open, may_shut, BringsChunk, IsEchoed, fragments_of, PacketAct, begins, adds_plain, emits, emits_error, counts, before_packets, after_packets, OpeningAct, connects, adds_init, answers_new, answers_waiting, answers_echoed, answers_again, echoes, adds_cookie, establishes, opens, restarts, opens_again, maintains, adds_cookie_ack, before_opening, after_opening, ClosingAct, closes, shuts, shuts_on, before_closing, after_closing, DataAct, takes_data, takes_idata, takes_forward, takes_iforward, before_data, after_data, SackAct, takes_sack, samples, counts_errors, before_sack, after_sack, SendingAct, asks, forces_ack, adds_ack, expires, adds_forward, forwards_later, asks_no_reset, asks_reset, adds_request, sends, sends_fast, before_sending, after_sending, TimeAct, advances, delay_ends, times_out, beats, times_init, times_cookie, times_request, times_items, wakes_request, before_time, after_time, CallAct, accepts, refuses, takes_message, sets_low_threshold, sets_priority, sets_max_message_size, before_call, after_call, ResetAct, prepares, defers, performs, processes, takes_response, adds_responses, before_reset, after_reset, HandoverAct, leaves, takes_up, before_handover, after_handover, InputAct, ends_packet, before_input, after_input, Preserves}
use Rattle.proof_pair.specs.Trace.{AreValidOptions}
use Rattle.proof_pair.specs.Agreement.{association_of}
use Rattle.proof_pair.proofs.EmittedLemmas.{EmitsNoPacketOrStatus}
use Rattle.proof_pair.proofs.UntilLemmas.{over_gives_up, sack_act_emits_no_packet_or_status, sending_act_emits_no_packet_or_status, time_act_emits_no_packet_or_status, call_act_emits_no_packet_or_status, reset_act_emits_no_packet_or_status}
use Rattle.proof_pair.proofs.AgreeLemmas.{Past, View, rests, holds, view_of, late_phase, FitsDraw, FitsInit, Says, Shape, Holds, tagged_rests, tagged_holds, later_same}
use Rattle.proof_pair.proofs.AgreeActsLemmas.{Setting, Inv, InvAt, inv_made, inv_view, inv_no_packet_or_status, inv_emitted, inv_options, inv_later, adds, IsLoad, adds_load, adds_data, adds_simple}
use Rattle.proof_pair.proofs.JoinActsLemmas.{ends_no_packet}

-- chunks that don't open an association
abbrev pub opens_nothing : ChunkTree → Bool
opens_nothing (init_chunk i) = false
opens_nothing (init_ack_chunk i) = false
opens_nothing (cookie_echo_chunk c) = false
opens_nothing cookie_ack_chunk = false
opens_nothing chunk = true

pub record Quiet (call : Call) : Type 0 where
  pub on_received : (tag : ℕ) (chunk : ChunkTree) → BringsChunk call tag chunk → opens_nothing chunk ≡ true
  pub connects : call ≡ Connect → ⊥
  pub restores : (h : HandoverState) → call ≡ Restore h → ⊥

-- ---- an INIT

pub fits_init : (o os : Options) (size tag first : ℕ) → AreValidOptions o → os ≡ record o { max_message_size = size } → FitsDraw (record { tag = tag; first = first })
    → FitsInit (init_of os tag first (announced_parameters os os.zero_checksum_method))
fits_init o os size tag first fine e fits =
    subst (λ (z : Options). FitsInit (init_of z tag first (announced_parameters z z.zero_checksum_method))) (sym e)
    (record {
      draw = fits;
      window = omega (arith, fine.valid.sizes.receiver_window);
      can = subst CapabilitiesFit (sym (announced_with_options o.zero_checksum_method o))
          (record { zero_checksum_method = fine.method; incoming = fine.outgoing; outgoing = fine.incoming });
    })

one_alone : (p q : PacketDraft) (c : ChunkTree) → p ≡ q → Shape (q.chunks ++ c ∷ []) → Shape (p.chunks ++ c ∷ [])
one_alone p q c e h = subst (λ (z : PacketDraft). Shape (z.chunks ++ c ∷ [])) (sym e) h

module _ (g : Setting) (x y : Past) (call : Call) (own : AreValidOptions g.own) (q : Quiet call) where
  emits_all : (v : View) (m n : EndWithPacket Carried) (tag : ℕ) (cs : List ChunkTree) → EmitsNoPacketOrStatus m.context.emitted n.context.emitted
      → Inv g x y v m.context.options m.context.pack m.context.emitted.events tag cs → Inv g x y v m.context.options m.context.pack n.context.emitted.events tag cs
  emits_all v m n tag cs l inv =
      inv_no_packet_or_status g x y v m.context.options m.context.pack m.context.emitted.events tag cs inv l.events n.context.emitted.events l.behind l.all

  loads : (v : View) (m : EndWithPacket Carried) (c : ChunkTree) → Inv g x y v m.context.options m.context.pack m.context.emitted.events m.packet.tag m.packet.chunks
      → IsLoad g x y v m.context.options m.context.pack m.context.emitted.events c
      → Inv g x y v m.context.options m.context.pack m.context.emitted.events (add c m.packet).tag (add c m.packet).chunks
  loads v m c inv l = adds_load g x y v m.context.options m.context.pack m.context.emitted.events m.packet c inv l

  -- ---- packets

  keeps_packets : (act : PacketAct Carried call) → InvAt g x y (before_packets act) → InvAt g x y (after_packets act)
  keeps_packets (begins p m new summed to) inv =
      inv_made g x y (view_of m.state) m.context.options m.context.pack m.context.emitted.events m.packet.tag m.packet.chunks inv p.tag p.chunks
      (subst (All (Says x y p.tag)) (sym new) (All-nil (Says x y p.tag))) (subst Shape (sym new) (inl refl))
  keeps_packets (adds_plain chunk m plain others fair) inv =
      adds_simple g x y (view_of m.state) m.context.options m.context.pack m.context.emitted.events m.packet chunk inv plain others
  keeps_packets (emits m some bundled) inv =
      inv_emitted g x y (view_of m.state) m.context.options m.context.pack m.context.emitted.events m.packet.tag m.packet.chunks inv m.context.options m.packet.is_summed
      m.packet.tag
  keeps_packets (emits_error kind text m) inv =
      inv_no_packet_or_status g x y (view_of m.state) m.context.options m.context.pack m.context.emitted.events m.packet.tag m.packet.chunks inv (OnError kind text ∷ [])
      (m.context.emitted.events ++ OnError kind text ∷ []) refl refl
  keeps_packets (counts m) inv = inv

  -- ---- the handshake

  no_echo : {A : Type 0} (tag : ℕ) (k : Cookie) → IsEchoed call tag k → A
  no_echo tag k h = absurd (both_ways (opens_nothing (cookie_echo_chunk h.cookie)) refl (q.on_received tag (cookie_echo_chunk h.cookie) h.received))

  keeps_opening : (act : OpeningAct Carried call) → InvAt g x y (before_opening act) → InvAt g x y (after_opening act)
  keeps_opening (connects m is) inv = absurd (q.connects is)
  keeps_opening (adds_init tag first t1 m to) inv =
      let v : View = view_of (CookieWait tag first t1) in
      let o : Options = m.context.options in
      let i : InitTree = init_of o tag first (announced_parameters o o.zero_checksum_method) in
      adds g x y v o m.context.pack m.context.emitted.events m.packet (init_chunk i) inv
      (record { own = inv.stands.own; fits = fits_init g.own o inv.size tag first own inv.options inv.stands.fits })
      (one_alone m.packet (packet_to 0 o.mtu) (init_chunk i) to (inl refl))
  keeps_opening (answers_new tag i m h to) inv = absurd (both_ways false refl (q.on_received tag (init_chunk i) h))
  keeps_opening (answers_waiting tag i my_tag first t1 m h to) inv = absurd (both_ways false refl (q.on_received tag (init_chunk i) h))
  keeps_opening (answers_echoed tag i t1 cookie t m h to) inv = absurd (both_ways false refl (q.on_received tag (init_chunk i) h))
  keeps_opening (answers_again tag i phase t m h late to) inv = absurd (both_ways false refl (q.on_received tag (init_chunk i) h))
  keeps_opening (echoes tag i cookie my_tag first t1 m h brought) inv = absurd (both_ways false refl (q.on_received tag (init_ack_chunk i) h))
  keeps_opening (adds_cookie t1 cookie t m to) inv =
      let v : View = view_of (Open (CookieEchoed t1 cookie) t) in
      let o : Options = m.context.options in
      let h : Holds x y (association_of t) (Some cookie) = inv.stands in
      adds g x y v o m.context.pack m.context.emitted.events m.packet (cookie_echo_chunk cookie) inv
      (record {
        a = association_of t;
        echoed = h.is_kept.echoed;
        held = h.held;
        names = h.is_kept.names;
        own = h.own;
        other = h.other;
        under = ap (λ (p : PacketDraft). p.tag) to;
      })
      (one_alone m.packet (packet_to t.identity.peer_tag o.mtu) (cookie_echo_chunk cookie) to (inr (refl, refl)))
  keeps_opening (establishes tag t1 cookie t m h) inv = absurd (both_ways false refl (q.on_received tag cookie_ack_chunk h))
  keeps_opening (opens tag k m h none is) inv = no_echo tag k h
  keeps_opening (restarts tag k phase t m h resolution) inv = no_echo tag k h
  keeps_opening (opens_again tag k phase t m h resolution) inv = no_echo tag k h
  keeps_opening (maintains tag k t1 cookie t m h resolution) inv = no_echo tag k h
  keeps_opening (adds_cookie_ack tag back phase t m h late) inv = no_echo tag back h

  -- ---- closing

  closed_from : (v : View) (m : EndWithPacket Carried) (e : Event Carried) → ending e ≡ 1
      → Inv g x y v m.context.options m.context.pack m.context.emitted.events m.packet.tag m.packet.chunks
      → Inv g x y rests m.context.options m.context.pack (m.context.emitted.events ++ e ∷ []) m.packet.tag m.packet.chunks
  closed_from v m e is inv =
      inv_view g x y v m.context.options m.context.pack m.context.emitted.events m.packet.tag m.packet.chunks inv rests (e ∷ []) (ends_no_packet e is) tt (λ h. tt)
      (tagged_rests g.under)

  -- the cookie isn't kept any more
  shuts_from : (phase : Phase) (t : Tcb) (m : EndWithPacket Carried) → may_shut phase ≡ true → InvAt g x y (in_open phase t m) → InvAt g x y (in_open ShutdownPending t m)
  shuts_from (CookieEchoed t1 cookie) t m early inv =
      let h : Holds x y (association_of t) (Some cookie) = inv.stands in
      inv_later g x y (holds (association_of t) (Some cookie)) m.context.options m.context.pack m.context.emitted.events m.packet.tag m.packet.chunks inv x y (later_same x)
      (later_same y) (holds (association_of t) None) (record { own = h.own; other = h.other; held = h.held; is_kept = tt }) inv.agreed
      (tagged_holds g.under (association_of t) (Some cookie) None inv.tagged)
  shuts_from Established t m early inv = inv
  shuts_from phase t m early inv = cc

  keeps_closing : (act : ClosingAct Carried call) → InvAt g x y (before_closing act) → InvAt g x y (after_closing act)
  keeps_closing (closes e m there is) inv =
      emits_all rests (in_state Closed (with_context (ended e m.context) m)) (in_state Closed (with_context (over e m.context) m)) m.packet.tag m.packet.chunks
      (over_gives_up e m.context) (closed_from (view_of m.state) m e is inv)
  keeps_closing (shuts phase t m is early) inv = shuts_from phase t m early inv
  keeps_closing (shuts_on phase next t m late later) inv =
      subst (λ (v : View). Inv g x y v m.context.options m.context.pack m.context.emitted.events m.packet.tag m.packet.chunks)
      (late_phase phase t late ∙ sym (late_phase next t later)) inv

  -- ---- what the peer sent

  keeps_data : (act : DataAct Carried call) → InvAt g x y (before_data act) → InvAt g x y (after_data act)
  keeps_data (takes_data tag tsn is_immediate f phase t m received right some is) inv = inv
  keeps_data (takes_idata tag tsn is_immediate f phase t m received right some is) inv = inv
  keeps_data (takes_forward tag tsn skipped phase t m received right valid) inv = inv
  keeps_data (takes_iforward tag tsn skipped phase t m received right valid) inv = inv

  keeps_sack : (act : SackAct Carried call) → InvAt g x y (before_sack act) → InvAt g x y (after_sack act)
  keeps_sack (takes_sack tag k phase t m received valid) inv =
      let act : SackAct Carried call = takes_sack tag k phase t m received valid in
      emits_all (view_of (Open phase t)) m (after_sack act) m.packet.tag m.packet.chunks (sack_act_emits_no_packet_or_status act) inv
  keeps_sack (samples k phase t m) inv = inv
  keeps_sack (counts_errors e m) inv = inv

  -- ---- sending

  forward_load : (b : Bool) (v : View) (m : EndWithPacket Carried) (s : Sender) → IsLoad g x y v m.context.options m.context.pack m.context.emitted.events (chunk_if b s)
  forward_load true v m s = record { says = λ tag. tt; load = refl }
  forward_load false v m s = record { says = λ tag. tt; load = refl }

  keeps_sending : (act : SendingAct Carried call) → InvAt g x y (before_sending act) → InvAt g x y (after_sending act)
  keeps_sending (asks also_if_delayed phase t m) inv = inv
  keeps_sending (forces_ack phase t m) inv = inv
  keeps_sending (adds_ack phase t m) inv =
      loads (view_of (Open phase t)) m (selective_ack t) inv (record { says = λ tag. tt; load = refl })
  keeps_sending (expires phase t m) inv =
      let act : SendingAct Carried call = expires phase t m in
      emits_all (view_of (Open phase t)) m (after_sending act) m.packet.tag m.packet.chunks (sending_act_emits_no_packet_or_status act) inv
  keeps_sending (adds_forward phase t m due) inv =
      loads (view_of (Open phase t)) m (forward_chunk t.sender) inv (forward_load _ (view_of (Open phase t)) m t.sender)
  keeps_sending (forwards_later n m) inv = inv
  keeps_sending (asks_no_reset most m none) inv = inv
  keeps_sending (asks_reset most stream streams phase t m some free) inv = inv
  keeps_sending (adds_request k phase t m is) inv =
      loads (view_of (Open phase t)) m (request_chunk k) inv (record { says = λ tag. tt; load = refl })
  keeps_sending (sends phase t m) inv =
      let act : SendingAct Carried call = sends phase t m in
      let v : View = view_of (Open phase t) in
      let f : fragments.Filling Carried = fragments_of t m in
      emits_all v m (after_sending act) _ _ (sending_act_emits_no_packet_or_status act)
      (adds_data g x y v m.context.options m.context.pack m.context.emitted.events t (asks_at_once m.context.options t.sender) f.chunks m.packet inv)
  keeps_sending (sends_fast phase t m some) inv =
      let v : View = view_of (Open phase t) in
      adds_data g x y v m.context.options m.context.pack m.context.emitted.events t false (resent_fast (fast_most m.context.options) t.sender).chunks m.packet inv

  -- ---- time and calls

  keeps_time : (act : TimeAct Carried call) → InvAt g x y (before_time act) → InvAt g x y (after_time act)
  keeps_time (times_out phase t m due) inv =
      let act : TimeAct Carried call = times_out phase t m due in
      emits_all (view_of (Open phase t)) m (after_time act) m.packet.tag m.packet.chunks (time_act_emits_no_packet_or_status act) inv
  keeps_time (advances now m is on) inv = inv
  keeps_time (delay_ends phase t m) inv = inv
  keeps_time (beats h m) inv = inv
  keeps_time (times_init tag first old new m) inv = inv
  keeps_time (times_cookie old new cookie t m) inv = inv
  keeps_time (times_request timer phase t m) inv = inv
  keeps_time (times_items timer phase t m) inv = inv
  keeps_time (wakes_request phase t m) inv = inv

  keeps_calls : (act : CallAct Carried call) → InvAt g x y (before_call act) → InvAt g x y (after_call act)
  keeps_calls (accepts message o m offered fine) inv = inv
  keeps_calls (refuses message o e m offered is) inv =
      let act : CallAct Carried call = refuses message o e m offered is in
      emits_all (view_of m.state) m (after_call act) m.packet.tag m.packet.chunks (call_act_emits_no_packet_or_status act) inv
  keeps_calls (takes_message phase t m is) inv = inv
  keeps_calls (sets_low_threshold stream bytes m is) inv =
      let act : CallAct Carried call = sets_low_threshold stream bytes m is in
      emits_all (view_of m.state) m (after_call act) m.packet.tag m.packet.chunks (call_act_emits_no_packet_or_status act) inv
  keeps_calls (sets_priority stream priority m is) inv = inv
  keeps_calls (sets_max_message_size bytes m is) inv =
      inv_options g x y (view_of m.state) m.context.options m.context.pack m.context.emitted.events m.packet.tag m.packet.chunks inv
      (record m.context.options { max_message_size = bytes }) bytes (ap (λ (z : Options). record z { max_message_size = bytes }) inv.options)

  -- ---- resets of streams

  with_outcome : (o : Outcome) (v : View) (c : Context Carried) (tag : ℕ) (cs : List ChunkTree) → Inv g x y v c.options c.pack c.emitted.events tag cs
      → Inv g x y v (on_outcome o c).options (on_outcome o c).pack (on_outcome o c).emitted.events tag cs
  with_outcome Unsettled v c tag cs inv = inv
  with_outcome (Done streams) v c tag cs inv = inv_no_packet_or_status g x y v c.options c.pack c.emitted.events tag cs inv _ (on_outcome (Done streams) c).emitted.events refl refl
  with_outcome (Denied streams) v c tag cs inv = inv_no_packet_or_status g x y v c.options c.pack c.emitted.events tag cs inv _ (on_outcome (Denied streams) c).emitted.events refl refl

  keeps_resets : (act : ResetAct Carried call) → InvAt g x y (before_reset act) → InvAt g x y (after_reset act)
  keeps_resets (prepares stream phase t m asked can) inv =
      let act : ResetAct Carried call = prepares stream phase t m asked can in
      emits_all (view_of (Open phase t)) m (after_reset act) m.packet.tag m.packet.chunks (reset_act_emits_no_packet_or_status act) inv
  keeps_resets (defers number response last_tsn streams phase t m asked known ahead) inv = inv
  keeps_resets (performs number response last_tsn streams phase t m asked known there) inv =
      let act : ResetAct Carried call = performs number response last_tsn streams phase t m asked known there in
      emits_all (view_of (Open phase t)) m (after_reset act) m.packet.tag m.packet.chunks (reset_act_emits_no_packet_or_status act) inv
  keeps_resets (processes number streams phase t m asked known) inv = inv
  keeps_resets (takes_response rto number result sender receiver phase t m asked) inv =
      with_outcome (outcome number result t.requests.current) (view_of (Open phase t)) m.context m.packet.tag m.packet.chunks inv
  keeps_resets (adds_responses responses phase t m are answers) inv =
      loads (view_of (Open phase t)) m (re_config_chunk responses) inv (record { says = λ tag. tt; load = refl })

  -- ---- handover, and the end of a packet

  keeps_handover : (act : HandoverAct Carried call) → InvAt g x y (before_handover act) → InvAt g x y (after_handover act)
  keeps_handover (leaves phase t m is) inv = closed_from (view_of (Open phase t)) m OnClosed refl inv
  keeps_handover (takes_up h m is valid) inv = absurd (q.restores h is)

  keeps_input : (act : InputAct Carried call) → InvAt g x y (before_input act) → InvAt g x y (after_input act)
  keeps_input (ends_packet phase t m) inv = inv

  pub quiet : Preserves call (λ a b. InvAt g x y a → InvAt g x y b)
  quiet = record {
    same = λ m inv. inv;
    through = λ {a} {b} {c} f h inv. h (f inv);
    packets = keeps_packets;
    opening = keeps_opening;
    closing = keeps_closing;
    data_acts = keeps_data;
    acknowledging = keeps_sack;
    sending = keeps_sending;
    time = keeps_time;
    calls = keeps_calls;
    resets = keeps_resets;
    handover = keeps_handover;
    input = keeps_input;
  }
