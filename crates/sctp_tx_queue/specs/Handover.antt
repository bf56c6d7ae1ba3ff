-- The queue in the record of a socket that is handed over. Like a packet it has wire numbers.
use Rattle.std.specs.Prelude.{ℕ, if◌then◌else◌, None, unwrap_or, option_map, List, map}
use Rattle.std.specs.List.{flat_map}
use Rattle.sctp_serial.specs.Unwrapped.{u32_space, halves, wire}
use Rattle.sctp_state.specs.declared.api.handover.HandoverOutgoingStream.{HandoverOutgoingStream}
use Rattle.sctp_state.specs.Handover.{StreamMessage, Transmission}
use Rattle.sctp_state.specs.HandoverTimes.{ms_from}
use Rattle.sctp_tx_queue.specs.SendQueue.{Queued, Stream, Entries, Queue}

abbrev pub queued_message : ℕ → ℕ → Queued → StreamMessage
queued_message now id m = record {
  stream_id = id;
  ppid = m.ppid;
  payload = m.payload;
  expires_in_ms = option_map (ms_from now) m.expires;
  max_retransmissions = m.limit;
  unordered = m.is_unordered;
  lifecycle_id = unwrap_or m.lifecycle 0;
  message_id = m.number;
  remaining_offset = m.offset;
  mid = option_map (λ n. wire u32_space 0 n.mid) m.numbers;
  ssn = if m.is_unordered then None else option_map (λ n. wire halves 0 n.ssn) m.numbers;
  fsn = m.fsn;
}

abbrev pub messages_of : ℕ → ℕ → Stream → List StreamMessage
messages_of now id s = map (queued_message now id) s.messages

abbrev pub outgoing_stream : ℕ → Stream → HandoverOutgoingStream
outgoing_stream id s = record {
  id = id;
  next_ssn = wire halves 0 s.next_ssn;
  next_unordered_mid = wire u32_space 0 s.next_unordered_mid;
  next_ordered_mid = wire u32_space 0 s.next_ordered_mid;
  priority = s.priority;
}

abbrev pub outgoing_streams : Entries → List HandoverOutgoingStream
outgoing_streams es = map (λ e. outgoing_stream e.0 e.1) es

-- by stream, ascending, and in each stream in order
abbrev pub queued_messages : ℕ → Entries → List StreamMessage
queued_messages now es = flat_map (λ e. messages_of now e.0 e.1) es

abbrev pub write_handover : ℕ → Queue → Transmission → Transmission
write_handover now q tx = record tx { next_outgoing_message_id = q.next_number; streams = outgoing_streams q.streams.entries; queued_messages = queued_messages now q.streams.entries }
