-- Lifecycles across each act of a call that hands in no message: each end that is emitted is taken from what is alive.
use Rattle.std.proofs.Common.{◌≡◌, ℕ, ◌+◌, ◌≤◌, ◌||◌, Bool, true, false, refl, ap, arith}
use Rattle.std.proofs.lemmas.Bool.{both_ways}
use Rattle.sctp_serial.specs.Messages.{Message}
use Rattle.sctp_capabilities.specs.Capabilities.{negotiate}
use Rattle.sctp_capabilities.specs.StateCookie.{Cookie}
use Rattle.sctp_state.specs.Options.{SendOptions}
use Rattle.sctp_state.specs.Events.{Event, SendPacket, OnError, OnConnected, OnConnectionRestarted, OnClosed, OnIncomingStreamReset, OnStreamsResetPerformed, OnStreamsResetFailed, OnLifecycleEnd, Emitted, numbers_of}
use Rattle.sctp_tx_queue.specs.declared.send_queue.stream.ResetStep.TheVariants.{Requested, Performed, Refused}
use Rattle.sctp_tx_queue.specs.SendQueue.{Queue}
use Rattle.sctp_tx_queue.specs.Resets.{streams_to_request, request_resets}
use Rattle.sctp_tx_queue.specs.Settings.{set_priority}
use Rattle.spec_endpoint.specs.Association.{Closed, Established}
use Rattle.spec_endpoint.specs.Packets.{room, header_to, emit_event_in}
use Rattle.spec_endpoint.specs.ResetRequests.{Outcome, Unsettled, Done, Denied, outcome}
use Rattle.spec_endpoint.specs.Sending.{fast_most}
use Rattle.spec_endpoint.specs.Opening.{agreed_by, queue_anew, queue_if, other_mode, restarted}
use Rattle.spec_endpoint.specs.Sack.{clean_blocks}
use Rattle.spec_endpoint.specs.StreamReset.{on_outcome}
use Rattle.spec_endpoint.specs.Shutdown.{emptied_if}
use Rattle.spec_endpoint.specs.Shutdown as shutdown
use Rattle.spec_endpoint.specs.Laws.{Call, Send, SendMany, ending}
use Rattle.proof_endpoint.specs.Lifecycles.{end_count, kept_in, waiting_count, alive_count, is_restore}
use Rattle.proof_endpoint.specs.Acts.{EndWithPacket, end_of, in_state, in_open, with_context, opened_by, point_of, IsOffered, alone, among, PacketAct, emits, emits_error, before_packets, after_packets, OpeningAct, echoes, establishes, opens, restarts, opens_again, maintains, before_opening, after_opening, ClosingAct, closes, before_closing, after_closing, DataAct, takes_data, before_data, after_data, SackAct, takes_sack, before_sack, after_sack, SendingAct, expires, asks_no_reset, asks_reset, sends, sends_fast, before_sending, after_sending, TimeAct, times_out, before_time, after_time, CallAct, accepts, refuses, sets_low_threshold, sets_priority, before_call, after_call, ResetAct, prepares, performs, takes_response, before_reset, after_reset, HandoverAct, leaves, takes_up, before_handover, after_handover, InputAct, ends_packet, before_input, after_input, Preserves}
use Rattle.proof_endpoint.proofs.SpendsLemmas.{Spends, spends_nothing, spends_one, spends_then, spends_within}
use Rattle.proof_endpoint.proofs.QueueSpendsLemmas.{in_queue, waiting_priority, waiting_each_stepped, waiting_reset, spends_prepared, spends_threshold}
use Rattle.proof_endpoint.proofs.EmptiedLemmas.{spends_emptied}
use Rattle.proof_endpoint.proofs.ItemSpendsLemmas.{kept_fast, spends_nack_all, spends_expired, spends_sack, spends_sent}

-- messages are handed in
abbrev pub offers : Call → Bool
offers (Send m o) = true
offers (SendMany ms o) = true
offers call = false

pub not_offered : (call : Call) (message : Message) (o : SendOptions) → IsOffered call message o → offers call ≡ false → ⊥
not_offered call message o (alone is) none = both_ways (offers call) none (ap offers is)
not_offered call message o (among messages is at) none = both_ways (offers call) none (ap offers is)

waiting_if : (l : ℕ) (b : Bool) (q : Queue) → in_queue l (queue_if b q) ≤ in_queue l q
waiting_if l true q = waiting_reset l q
waiting_if l false q = omega arith

module _ {P : Type 0} (l : ℕ) where
  abbrev living : EndWithPacket P → ℕ
  living m = alive_count l (end_of m).endpoint_state

  abbrev pub Lives : (before after : EndWithPacket P) → Type 0
  Lives m n = Spends l m.context.emitted n.context.emitted (living m) (living n)

  same : (m : EndWithPacket P) → Lives m m
  same m = spends_nothing l m.context.emitted (living m) (living m) (omega arith)

  -- what waits goes on, or what is kept
  waiting_on : {t u : Emitted P} {x y : ℕ} (kept : ℕ) → Spends l t u x y → Spends l t u (x + kept) (y + kept)
  waiting_on {t} {u} {x} {y} kept h = spends_within l (x + kept) (y + kept) h (omega arith)

  kept_on : {t u : Emitted P} {x y : ℕ} (waiting : ℕ) → Spends l t u x y → Spends l t u (waiting + x) (waiting + y)
  kept_on {t} {u} {x} {y} waiting h = spends_within l (waiting + x) (waiting + y) h (omega arith)

  -- another queue, in which no more waits
  requeued : (q : Queue) (m : EndWithPacket P) → in_queue l q ≤ in_queue l m.context.queue → Lives m (with_context (record m.context { queue = q }) m)
  requeued q m h = spends_nothing l m.context.emitted (living m) (in_queue l q + kept_in l m.state) (omega (arith, h))

  -- an event of something else
  said : (e : Event P) (m : EndWithPacket P) → end_count l e ≡ 0 → Lives m (with_context (emit_event_in e m.context) m)
  said e m is = spends_one l e m.context.emitted (living m) (living m) (omega (arith, is))

  -- what is kept is forgotten
  ended : (e : Event P) (m : EndWithPacket P) → end_count l e ≡ 0 → Lives m (in_state Closed (with_context (emit_event_in e m.context) m))
  ended e m is = spends_one l e m.context.emitted (living m) (waiting_count l m.context + 0) (omega (arith, is))

  -- and what waits is given up
  emptied : (b : Bool) (m : EndWithPacket P) → Lives m (with_context (emptied_if b m.context) m)
  emptied b m = waiting_on (kept_in l m.state) (spends_emptied l b m.context.queue m.context.emitted)

  no_lifecycle : (e : Event P) → ending e ≡ 1 → end_count l e ≡ 0
  no_lifecycle (OnLifecycleEnd id) is = cc
  no_lifecycle e is = refl

  opened : (resets : Bool) (k : Cookie) (m : EndWithPacket P) → Lives m (opened_by resets k m)
  opened resets k m =
      let q : Queue = m.context.queue in
      let mode : Bool = (negotiate m.context.options k.peer_capabilities).message_interleaving in
      spends_one l OnConnected m.context.emitted (living m) (living (opened_by resets k m))
      (omega (arith, waiting_if l (resets || other_mode mode q.scheduler.is_interleaved) q))

  answered : (o : Outcome) (m : EndWithPacket P) → Lives m (with_context (on_outcome o m.context) m)
  answered Unsettled m = same m
  answered (Done streams) m =
      spends_one l (OnStreamsResetPerformed streams) m.context.emitted (living m) (living (with_context (on_outcome (Done streams) m.context) m))
      (omega (arith, waiting_each_stepped l Performed streams m.context.queue))
  answered (Denied streams) m =
      spends_one l (OnStreamsResetFailed streams) m.context.emitted (living m) (living (with_context (on_outcome (Denied streams) m.context) m))
      (omega (arith, waiting_each_stepped l Refused streams m.context.queue))

  -- ---- each act

  module _ (call : Call) (none : offers call ≡ false) (goes_on : is_restore call ≡ false) where
    lives_packets : (act : PacketAct P call) → Lives (before_packets act) (after_packets act)
    lives_packets (emits m some bundled) =
        said (SendPacket (m.context.pack.write (header_to m.context.options m.packet.tag) m.packet.is_summed m.packet.chunks)) m refl
    lives_packets (emits_error kind text m) = said (OnError kind text) m refl
    lives_packets act = same (before_packets act)

    lives_opening : (act : OpeningAct P call) → Lives (before_opening act) (after_opening act)
    lives_opening (echoes tag i cookie my_tag first t1 m received brought) =
        requeued (queue_anew (agreed_by m.context.options i).message_interleaving m.context.queue) (in_state Closed m) (waiting_reset l m.context.queue)
    lives_opening (establishes tag t1 cookie t m received) = said OnConnected (in_open Established t m) refl
    lives_opening (opens tag k m echoed none own) = opened m.context.options.avoid_stalls k m
    lives_opening (restarts tag k phase t m echoed resolution) =
        let b : Bool = m.context.options.avoid_stalls in
        let a : EndWithPacket P = in_open phase t m in
        let d : EndWithPacket P = with_context (emptied_if b m.context) a in
        spends_then l (emptied b a) (spends_then l (said OnConnectionRestarted d refl) (opened true k (with_context (restarted m.context) a)))
    lives_opening (opens_again tag k phase t m echoed resolution) = opened true k (in_open phase t m)
    lives_opening (maintains tag k t1 cookie t m echoed resolution) = said OnConnected (in_open Established t m) refl
    lives_opening act = same (before_opening act)

    lives_closing : (act : ClosingAct P call) → Lives (before_closing act) (after_closing act)
    lives_closing (closes e m there is) =
        spends_then l (ended e m (no_lifecycle e is)) (emptied m.context.options.avoid_stalls (in_state Closed (with_context (shutdown.ended e m.context) m)))
    lives_closing act = same (before_closing act)

    lives_data : (act : DataAct P call) → Lives (before_data act) (after_data act)
    lives_data (takes_data tag tsn is_immediate f phase t m received right some takes) = same (in_open phase t m)
    lives_data act = same (before_data act)

    lives_sack : (act : SackAct P call) → Lives (before_sack act) (after_sack act)
    lives_sack (takes_sack tag k phase t m received valid) =
        kept_on (waiting_count l m.context) (spends_sack l true m.context.now (point_of k t) k.a_rwnd (clean_blocks k.gap_ack_blocks) t.sender m.context.emitted)
    lives_sack act = same (before_sack act)

    lives_sending : (act : SendingAct P call) → Lives (before_sending act) (after_sending act)
    lives_sending (expires phase t m) = kept_on (waiting_count l m.context) (spends_expired l m.context.now t.sender.outstanding.items m.context.emitted)
    lives_sending (asks_no_reset most m some) =
        let q : Queue = m.context.queue in
        requeued (request_resets most q) m (waiting_each_stepped l Requested (streams_to_request most q) q)
    lives_sending (asks_reset most stream streams phase t m some free) =
        let q : Queue = m.context.queue in
        requeued (request_resets most q) (in_open phase t m) (waiting_each_stepped l Requested (streams_to_request most q) q)
    lives_sending (sends phase t m) = spends_sent l m.context.now (room m.packet) t.sender m.context.queue m.context.emitted
    lives_sending (sends_fast phase t m some) =
        spends_nothing l m.context.emitted (living (in_open phase t m)) (living (after_sending {call = call} (sends_fast phase t m some)))
        (omega (arith, kept_fast l m.context.now (fast_most m.context.options) t.sender))
    lives_sending act = same (before_sending act)

    lives_time : (act : TimeAct P call) → Lives (before_time act) (after_time act)
    lives_time (times_out phase t m due) = kept_on (waiting_count l m.context) (spends_nack_all l t.sender.outstanding.items m.context.emitted)
    lives_time act = same (before_time act)

    lives_calls : (act : CallAct P call) → Lives (before_call act) (after_call act)
    lives_calls (accepts message o m offered fine) = absurd (not_offered call message o offered none)
    lives_calls (refuses message o e m offered is) = absurd (not_offered call message o offered none)
    lives_calls (sets_low_threshold stream bytes m is) =
        waiting_on (kept_in l m.state) (spends_threshold l stream bytes m.context.queue m.context.emitted)
    lives_calls (sets_priority stream priority m is) =
        requeued (set_priority stream priority m.context.queue) m (waiting_priority l stream priority m.context.queue)
    lives_calls act = same (before_call act)

    lives_resets : (act : ResetAct P call) → Lives (before_reset act) (after_reset act)
    lives_resets (prepares stream phase t m asked can) =
        waiting_on (kept_in l (in_open phase t m).state) (spends_prepared l stream m.context.queue m.context.emitted)
    lives_resets (performs number response last_tsn streams phase t m asked known there) =
        said (OnIncomingStreamReset (numbers_of streams)) (in_open phase t m) refl
    lives_resets (takes_response rto number result sender receiver phase t m asked) = answered (outcome number result t.requests.current) (in_open phase t m)
    lives_resets act = same (before_reset act)

    lives_handover : (act : HandoverAct P call) → Lives (before_handover act) (after_handover act)
    lives_handover (leaves phase t m is) = ended OnClosed (in_open phase t m) refl
    lives_handover (takes_up h m is valid) = absurd (both_ways (is_restore call) goes_on (ap is_restore is))

    lives_input : (act : InputAct P call) → Lives (before_input act) (after_input act)
    lives_input (ends_packet phase t m) = same (in_open phase t m)

    pub lives : Preserves call Lives
    lives = record {
      same = same;
      through = λ {a} {b} {c} f g. spends_then l f g;
      packets = lives_packets;
      opening = lives_opening;
      closing = lives_closing;
      data_acts = lives_data;
      acknowledging = lives_sack;
      sending = lives_sending;
      time = lives_time;
      calls = lives_calls;
      resets = lives_resets;
      handover = lives_handover;
      input = lives_input;
    }
