-- SACK (RFC 9260 sections 3.3.4, 6.2.1).
use Rattle.std.specs.Prelude.{ℕ, ◌+◌, ◌&&◌, not, nat_lt, nat_le, min, max, Bool, true, false, if◌then◌else◌, Option, Some, None, List, [], ◌∷◌, codes}
use Rattle.sctp_chunk.specs.declared.sack.GapAckBlock.{GapAckBlock}
use Rattle.sctp_packet.specs.Chunk.{SackTree}
use Rattle.sctp_state.specs.declared.api.ErrorKind.TheVariants.{NotConnected}
use Rattle.sctp_state.specs.RetransmissionTimeout.{Rtt, rto, observe_rto}
use Rattle.sctp_state.specs.Timer.{set_duration}
use Rattle.sctp_state.specs.Options.{Options}
use Rattle.sctp_tx_outstanding.specs.OutstandingData.{Items, number_of}
use Rattle.sctp_tx_outstanding.specs.Sack.{is_valid, is_open_at}
use Rattle.sctp_rx.specs.DataTracker.{update_rto}
use Rattle.sctp_tx.specs.RetransmissionQueue.{SackAnswer, Invalid, Valid, sender_if, emitted_if, answer_if}
use Rattle.spec_endpoint.specs.Association.{Tcb, Phase, State, Closed, CookieWait, Open, Context, EndpointState, open_as}
use Rattle.spec_endpoint.specs.Packets.{emit_error}
use Rattle.spec_endpoint.specs.Sending.{AfterSending, is_before_cookie_ack, open_with, send_lost, answer_packet, send_with}
use Rattle.spec_endpoint.specs.Shutdown.{PhaseStep, cleared_if, maybe_send_shutdown_or_ack}

-- ---- blocks, as the maximal runs of the offsets that they cover

abbrev pub merge_block : GapAckBlock → List GapAckBlock → List GapAckBlock
merge_block b [] = b ∷ []
merge_block b (r ∷ rs) =
    if nat_lt (b.end + 1) r.start then b ∷ (r ∷ rs)
    else (if nat_lt (r.end + 1) b.start then r ∷ merge_block b rs else merge_block (record { start = min b.start r.start; end = max b.end r.end }) rs)

abbrev pub clean_blocks : List GapAckBlock → List GapAckBlock
clean_blocks [] = []
clean_blocks (b ∷ bs) = if nat_le b.start b.end then merge_block b (clean_blocks bs) else clean_blocks bs

-- ---- what was received

-- a round trip sets the retransmission timeout, which each part counts by
abbrev pub timed_by : Rtt → Tcb → Tcb
timed_by r t = record t {
  rtt = r;
  sender = record t.sender { t3 = set_duration (rto r) t.sender.t3; is_sampled = true };
  tracker = record t.tracker { tracker = update_rto (rto r) t.tracker.tracker };
}

abbrev pub sample_rtt : Option ℕ → Tcb → Tcb
sample_rtt None t = t
sample_rtt (Some sample) t = timed_by (observe_rto sample t.rtt) t

-- the packet of what was lost, and what else may be sent
abbrev pub send_after : {P : Type 0} → Phase → Tcb → Context P → AfterSending P
send_after phase t c = let x = send_lost t c in send_with (is_before_cookie_ack phase) (answer_packet phase x.context.options x.tcb) x.tcb x.context

abbrev pub send_after_sack : {P : Type 0} → Tcb → PhaseStep P → EndpointState P
send_after_sack t o = open_with o.phase (send_after o.phase t o.context)

abbrev pub clear_errors_if : {P : Type 0} → (is_progress : Bool) → Context P → Context P
clear_errors_if is_progress c = record c { errors = cleared_if is_progress c.errors }

abbrev pub after_sack : {P : Type 0} → SackAnswer → Phase → Tcb → Context P → EndpointState P
after_sack Invalid phase t c = open_as phase t c
after_sack (Valid rtt is_progress) phase t c = send_after_sack (sample_rtt rtt t) (maybe_send_shutdown_or_ack phase (sample_rtt rtt t) (clear_errors_if is_progress c))

-- With stalls avoided no round trip is sampled of an item that a block acknowledged before, nor of one that was given up: its SACK says nothing of
-- when it came (RFC 9260 section 6.3.1).
abbrev pub without_sample : SackAnswer → SackAnswer
without_sample Invalid = Invalid
without_sample (Valid rtt is_progress) = Valid None is_progress

abbrev pub sampled_unless : (is_late : Bool) → SackAnswer → SackAnswer
sampled_unless true answer = without_sample answer
sampled_unless false answer = answer

abbrev pub is_late : Options → (cumulative : ℕ) → Items → Bool
is_late o n s = o.avoid_stalls && not (is_open_at n s)

-- with blocks that are maximal runs
abbrev pub on_clean_sack : {P : Type 0} → (cumulative a_rwnd : ℕ) → List GapAckBlock → Phase → Tcb → Context P → EndpointState P
on_clean_sack n a_rwnd blocks phase t c =
    after_sack (sampled_unless (is_late c.options n t.sender.outstanding.items) (answer_if (is_valid n blocks t.sender.outstanding.items) c.now n blocks t.sender)) phase
    (record t { sender = sender_if (is_valid n blocks t.sender.outstanding.items) c.now n a_rwnd blocks t.sender c.emitted })
    (record c { emitted = emitted_if (is_valid n blocks t.sender.outstanding.items) n blocks t.sender c.emitted })

abbrev pub on_sack_open : {P : Type 0} → SackTree → Phase → Tcb → Context P → EndpointState P
on_sack_open k phase t c =
    on_clean_sack (number_of t.sender.outstanding k.cumulative_tsn_ack) k.a_rwnd (clean_blocks k.gap_ack_blocks) phase t c

abbrev pub no_block : {P : Type 0} → Context P → Context P
no_block c = emit_error NotConnected (codes "No TCB") c

abbrev pub on_sack_in : {P : Type 0} → State → SackTree → Context P → EndpointState P
on_sack_in Closed k c = record { state = Closed; context = no_block c }
on_sack_in (CookieWait tag first t1) k c = record { state = CookieWait tag first t1; context = no_block c }
on_sack_in (Open phase t) k c = on_sack_open k phase t c

abbrev pub on_sack : {P : Type 0} → SackTree → EndpointState P → EndpointState P
on_sack k s = on_sack_in s.state k s.context
