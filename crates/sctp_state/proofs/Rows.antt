-- Worked examples of the definitions, computed.
use Rattle.std.proofs.Common.{◌≡◌, ℕ, ◌+◌, ◌*◌, true, false, Some, None, List, [], ◌∷◌, codes, refl}
use Rattle.sctp_state.specs.Numbers.{ms}
use Rattle.sctp_state.specs.Options.{Options, defaults}
use Rattle.sctp_state.specs.Readiness.{readiness_text}
use Rattle.sctp_state.specs.RetransmissionTimeout.{Rtt, observe_rto, rto, unsampled}
use Rattle.sctp_state.specs.Timer.{Timer, expire, start, timer}
use Rattle.sctp_state.specs.Validity.{is_valid_state}
use Rattle.sctp_state.specs.Handover.{HandoverState, StreamMessage, closed_state, no_message}
use Rattle.sctp_state.specs.declared.timer.BackoffAlgorithm.TheVariants.{Fixed, Exponential}
use Rattle.sctp_state.specs.declared.api.handover.HandoverSocketState.TheVariants.{Connected}
use Rattle.sctp_state.specs.declared.api.handover.HandoverOutgoingStream.{HandoverOutgoingStream}

-- ---- a timer of a second that doubles, looked at late

abbrev second : Timer
second = start 0 (timer (1000 * ms) Exponential None None)

first_expiry : (expire (1050 * ms) second).due ≡ Some (2000 * ms)
first_expiry = refl

second_expiry : (expire (2100 * ms) (expire (1050 * ms) second)).due ≡ Some (4000 * ms)
second_expiry = refl

third_expiry : (expire (4400 * ms) (expire (2100 * ms) (expire (1050 * ms) second))).due ≡ Some (8000 * ms)
third_expiry = refl

not_yet : expire (1000 * ms + 0) (start 1 (timer (1000 * ms) Fixed None None)) ≡ start 1 (timer (1000 * ms) Fixed None None)
not_yet = refl

-- one restart, so the second expiry is the last
stops : (expire (9 * ms) (expire (5 * ms) (start 0 (timer (4 * ms) Fixed (Some 1) None)))).due ≡ None
stops = refl

-- ---- samples of 124, 128, 123, 125, 127 milliseconds

abbrev quick : Options
quick = record defaults { rto_initial = 200 * ms; rto_max = 800 * ms; rto_min = 120 * ms; min_rtt_variance = 220 * ms }

abbrev sampled : List ℕ → Rtt → Rtt
sampled [] r = r
sampled (n ∷ ns) r = sampled ns (observe_rto (n * ms) r)

before : rto (unsampled quick) ≡ 200 * ms
before = refl

one_sample : rto (sampled (124 ∷ []) (unsampled quick)) ≡ 372000000
one_sample = refl

two_samples : rto (sampled (124 ∷ 128 ∷ []) (unsampled quick)) ≡ 314500000
two_samples = refl

five_samples : rto (sampled (124 ∷ 128 ∷ 123 ∷ 125 ∷ 127 ∷ []) (unsampled quick)) ≡ 234723632
five_samples = refl

-- ---- what stands in the way of a handover

two_reasons : readiness_text 66 ≡ codes "send_queue_not_empty,stream_reset_deferred"
two_reasons = refl

no_reason : readiness_text 0 ≡ []
no_reason = refl

-- ---- records

abbrev opened : HandoverState
opened = record closed_state {
  socket_state = Connected;
  my_verification_tag = 1;
  peer_verification_tag = 2;
  tx = record closed_state.tx { next_tsn = 0; last_cumulative_tsn_ack = 4294967295; cwnd = 1 };
}

closed_is_valid : is_valid_state closed_state ≡ true
closed_is_valid = refl

opened_is_valid : is_valid_state opened ≡ true
opened_is_valid = refl

no_tag : is_valid_state (record opened { my_verification_tag = 0 }) ≡ false
no_tag = refl

no_window : is_valid_state (record opened { tx = record opened.tx { cwnd = 0 } }) ≡ false
no_window = refl

off_by_one : is_valid_state (record opened { tx = record opened.tx { next_tsn = 1 } }) ≡ false
off_by_one = refl

abbrev stream : ℕ → HandoverOutgoingStream
stream id = record { id = id; next_ssn = 0; next_unordered_mid = 0; next_ordered_mid = 0; priority = 256 }

abbrev queueing : List StreamMessage → HandoverState
queueing ms = record opened { tx = record opened.tx { streams = stream 1 ∷ stream 5 ∷ []; queued_messages = ms; next_outgoing_message_id = 3 } }

abbrev message : ℕ → ℕ → ℕ → StreamMessage
message stream id offset = record no_message { stream_id = stream; message_id = id; remaining_offset = offset; payload = 97 ∷ 98 ∷ [] }

queued_is_valid : is_valid_state (queueing (message 1 0 1 ∷ message 1 2 0 ∷ message 5 1 0 ∷ [])) ≡ true
queued_is_valid = refl

two_begun : is_valid_state (queueing (message 1 0 1 ∷ message 5 1 1 ∷ [])) ≡ false
two_begun = refl

begun_behind : is_valid_state (queueing (message 1 0 0 ∷ message 1 1 1 ∷ [])) ≡ false
begun_behind = refl

same_id : is_valid_state (queueing (message 1 0 0 ∷ message 5 0 0 ∷ [])) ≡ false
same_id = refl

all_sent : is_valid_state (queueing (message 1 0 2 ∷ [])) ≡ false
all_sent = refl

no_stream : is_valid_state (queueing (message 2 0 0 ∷ [])) ≡ false
no_stream = refl
