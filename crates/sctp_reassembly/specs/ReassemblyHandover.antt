-- The reassembly's part of a handover record: which streams there are, and the numbers of their next messages.
use Rattle.std.specs.Prelude.{ℕ, ◌+◌, nat_lt, Bool, if◌then◌else◌, Option, None, Some, bit_or, List, [], map}
use Rattle.sctp_serial.specs.Unwrapped.{origin, u32_space, halves, wire}
use Rattle.sctp_state.specs.declared.api.handover.HandoverOrderedStream.{HandoverOrderedStream}
use Rattle.sctp_state.specs.declared.api.handover.HandoverUnorderedStream.{HandoverUnorderedStream}
use Rattle.sctp_state.specs.Handover.{Receive}
use Rattle.sctp_reassembly.specs.Delivery.{OrderedStream, UnorderedStream, fresh_unordered}
use Rattle.sctp_reassembly.specs.ReassemblyStreams.{Entries, Streams, fragments_of}
use Rattle.sctp_reassembly.specs.ReassemblyQueue.{Reassembly, Deferred}

-- ---- what stands in the way

-- the bit of fragments that are held
abbrev pub streams_readiness : Streams → ℕ
streams_readiness ss = if nat_lt 0 (fragments_of ss) then 128 else 0

-- the bit of a reset that is deferred
abbrev pub deferred_readiness : Option Deferred → ℕ
deferred_readiness None = 0
deferred_readiness (Some d) = 64

abbrev pub readiness : Reassembly → ℕ
readiness r = bit_or (streams_readiness r.streams) (deferred_readiness r.deferred)

-- ---- what is written: the next number as it is on the wire, an SSN, or with interleaving a MID

abbrev pub space_of : Bool → ℕ
space_of is_interleaved = if is_interleaved then u32_space else halves

abbrev pub ordered_record : Bool → ℕ × OrderedStream → HandoverOrderedStream
ordered_record is_interleaved e = record { id = e.0; next_ssn = wire (space_of is_interleaved) 0 e.1.next }

abbrev pub ordered_records : Bool → Entries OrderedStream → List HandoverOrderedStream
ordered_records is_interleaved es = map (ordered_record is_interleaved) es

abbrev pub unordered_record : ℕ × UnorderedStream → HandoverUnorderedStream
unordered_record e = record { id = e.0 }

abbrev pub unordered_records : Entries UnorderedStream → List HandoverUnorderedStream
unordered_records es = map unordered_record es

abbrev pub streams_written : Streams → Receive → Receive
streams_written ss rx = record rx {
  ordered_streams = ordered_records ss.is_interleaved ss.ordered;
  unordered_streams = unordered_records ss.unordered;
}

abbrev pub write_handover : Reassembly → Receive → Receive
write_handover r rx = record (streams_written r.streams rx) { last_completed_deferred_reset_req_sn = 0 }

-- ---- what is read: nothing is held, and no MID is named; numbers count on from the first one that is written so

abbrev pub ordered_restored : HandoverOrderedStream → ℕ × OrderedStream
ordered_restored s = (s.id, record { next = origin + s.next_ssn; held = [] })

abbrev pub ordered_entries : List HandoverOrderedStream → Entries OrderedStream
ordered_entries ss = map ordered_restored ss

abbrev pub unordered_restored : HandoverUnorderedStream → ℕ × UnorderedStream
unordered_restored s = (s.id, fresh_unordered)

abbrev pub unordered_entries : List HandoverUnorderedStream → Entries UnorderedStream
unordered_entries ss = map unordered_restored ss

-- these take the place of the streams
abbrev pub streams_restored : Receive → Streams → Streams
streams_restored rx ss = record ss { ordered = ordered_entries rx.ordered_streams; unordered = unordered_entries rx.unordered_streams }

abbrev pub restore : Receive → Reassembly → Reassembly
restore rx r = record r { streams = streams_restored rx r.streams }
