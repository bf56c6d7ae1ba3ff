use Rattle.std.proofs.Common.{◌≡◌, ◌++◌, take, false}
use Rattle.std.specs.List.{flat_map}
use Rattle.sctp_trace.specs.Pcapng.{row_bytes, has_long_packet}
use Rattle.sctp_trace.proofs.pcapng.push_packets.Given as goal

abbrev pub invariant-loop-row : goal.invariant-loop-row
invariant-loop-row l = record {
  wrote : l.bytes.items ≡ l.initial.bytes.items ++ flat_map (row_bytes l.conversation.rows.now) (take l.row-index l.conversation.rows.now);
  short : has_long_packet (take l.row-index l.conversation.rows.now) ≡ false;
}
