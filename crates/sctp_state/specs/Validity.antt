-- Which records a socket can take up: those that one could have written.
use Rattle.std.specs.Prelude.{ℕ, ℤ, pos, negsuc, ◌+◌, ◌%◌, ◌^◌, ◌==◌, ◌&&◌, ◌||◌, not, nat_lt, nat_le, Bool, true, false, List, [], ◌∷◌, length, map}
use Rattle.std.specs.List.{count_by, list_all, list_any, sum_by}
use Rattle.sctp_state.specs.Numbers.{most_u32}
use Rattle.sctp_state.specs.Handover.{HandoverState, OutstandingData, Receive, StreamMessage, Transmission}
use Rattle.sctp_state.specs.declared.api.handover.HandoverSocketState.{HandoverSocketState}
use Rattle.sctp_state.specs.declared.api.handover.HandoverSocketState.TheVariants.{Closed, Connected}
use Rattle.sctp_state.specs.declared.api.handover.HandoverOutgoingStream.{HandoverOutgoingStream}
use Rattle.sctp_state.specs.declared.api.handover.HandoverOrderedStream.{HandoverOrderedStream}
use Rattle.sctp_state.specs.declared.api.handover.HandoverUnorderedStream.{HandoverUnorderedStream}

-- each number is at least `least`, and greater than the one before it
abbrev pub rises_from : ℕ → List ℕ → Bool
rises_from least [] = true
rises_from least (n ∷ ns) = nat_le least n && rises_from (n + 1) ns

abbrev pub outgoing_ids : List HandoverOutgoingStream → List ℕ
outgoing_ids ss = map (λ (s : HandoverOutgoingStream). s.id) ss

abbrev pub ordered_ids : List HandoverOrderedStream → List ℕ
ordered_ids ss = map (λ (s : HandoverOrderedStream). s.id) ss

abbrev pub unordered_ids : List HandoverUnorderedStream → List ℕ
unordered_ids ss = map (λ (s : HandoverUnorderedStream). s.id) ss

-- ---- what is received: without interleaving the next number of a stream is an SSN

abbrev pub has_small_numbers : List HandoverOrderedStream → Bool
has_small_numbers ss = list_all (λ (s : HandoverOrderedStream). nat_le s.next_ssn 65535) ss

abbrev pub is_valid_reception : Bool → Receive → Bool
is_valid_reception interleaving r =
    rises_from 0 (ordered_ids r.ordered_streams) && (rises_from 0 (unordered_ids r.unordered_streams)
    && (interleaving || has_small_numbers r.ordered_streams))

-- ---- the queue

abbrev pub has_stream : List HandoverOutgoingStream → ℕ → Bool
has_stream ss id = list_any (λ (s : HandoverOutgoingStream). s.id == id) ss

-- something of the payload is left to be sent, on a stream that is there, under a number that was given out
abbrev pub is_valid_message : List HandoverOutgoingStream → ℕ → StreamMessage → Bool
is_valid_message ss next m =
    nat_lt m.remaining_offset (length m.payload) && (has_stream ss m.stream_id && nat_lt m.message_id next)

abbrev pub has_message_id : ℕ → List StreamMessage → Bool
has_message_id id ms = list_any (λ (m : StreamMessage). m.message_id == id) ms

abbrev pub message_ids_differ : List StreamMessage → Bool
message_ids_differ [] = true
message_ids_differ (m ∷ ms) = not (has_message_id m.message_id ms) && message_ids_differ ms

abbrev pub is_partly_sent : StreamMessage → Bool
is_partly_sent m = nat_lt 0 m.remaining_offset

abbrev pub has_partly_sent : ℕ → List StreamMessage → Bool
has_partly_sent stream ms = list_any (λ (m : StreamMessage). (m.stream_id == stream) && is_partly_sent m) ms

-- behind a message none of its stream is partly sent
abbrev pub first_alone_is_partly_sent : List StreamMessage → Bool
first_alone_is_partly_sent [] = true
first_alone_is_partly_sent (m ∷ ms) = not (has_partly_sent m.stream_id ms) && first_alone_is_partly_sent ms

abbrev pub partly_sent_count : List StreamMessage → ℕ
partly_sent_count ms = count_by is_partly_sent ms

abbrev pub are_valid_messages : List HandoverOutgoingStream → ℕ → List StreamMessage → Bool
are_valid_messages ss next ms = list_all (is_valid_message ss next) ms

abbrev pub has_valid_queue : Bool → Transmission → Bool
has_valid_queue interleaving t =
    nat_le t.next_outgoing_message_id (2 ^ 32)
    && (are_valid_messages t.streams t.next_outgoing_message_id t.queued_messages
    && (message_ids_differ t.queued_messages && (first_alone_is_partly_sent t.queued_messages
    && (interleaving || nat_le (partly_sent_count t.queued_messages) 1))))

-- ---- what is outstanding: an item for each number from the acknowledged one up to the next one

abbrev pub is_in_one_state : OutstandingData → Bool
is_in_one_state d =
    not (d.acked && d.is_abandoned) && (not (d.acked && d.is_to_be_retransmitted) && not (d.is_abandoned && d.is_to_be_retransmitted))

-- a span since a moment that is past
abbrev pub is_past : ℤ → Bool
is_past (pos n) = true
is_past (negsuc n) = false

abbrev pub is_valid_item : OutstandingData → Bool
is_valid_item d = is_past d.time_since_sent_ms && is_in_one_state d

abbrev pub are_valid_items : List OutstandingData → Bool
are_valid_items ds = list_all is_valid_item ds

abbrev pub has_valid_items : Transmission → Bool
has_valid_items t =
    nat_lt (length t.outstanding_data) (2 ^ 30)
    && ((t.next_tsn == (t.last_cumulative_tsn_ack + 1 + length t.outstanding_data) % 2 ^ 32) && are_valid_items t.outstanding_data)

-- ---- all of it

abbrev pub queued_bytes : List StreamMessage → ℕ
queued_bytes ms = sum_by (λ (m : StreamMessage). length m.payload) ms

abbrev pub outstanding_bytes : List OutstandingData → ℕ
outstanding_bytes ds = sum_by (λ (d : OutstandingData). length d.payload) ds

abbrev pub payload_fits : Transmission → Bool
payload_fits t = nat_le (queued_bytes t.queued_messages + outstanding_bytes t.outstanding_data) most_u32

abbrev pub is_valid_transmission : Bool → Transmission → Bool
is_valid_transmission interleaving t =
    nat_lt 0 t.cwnd && (rises_from 0 (outgoing_ids t.streams) && (has_valid_queue interleaving t
    && (has_valid_items t && payload_fits t)))

abbrev pub is_valid_connection : HandoverState → Bool
is_valid_connection s =
    nat_lt 0 s.my_verification_tag && (nat_lt 0 s.peer_verification_tag
    && (is_valid_reception s.capabilities.message_interleaving s.rx
    && is_valid_transmission s.capabilities.message_interleaving s.tx))

abbrev pub is_valid_as : HandoverSocketState → HandoverState → Bool
is_valid_as Closed s = true
is_valid_as Connected s = is_valid_connection s

abbrev pub is_valid_state : HandoverState → Bool
is_valid_state s = is_valid_as s.socket_state s
