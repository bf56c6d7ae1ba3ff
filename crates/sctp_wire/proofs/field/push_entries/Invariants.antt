use Rattle.std.proofs.Common.{◌≡◌, ◌+◌, ◌*◌, ◌≤◌, ◌++◌, take}
use Rattle.std.specs.Prelude.{vec_len, vec_capacity}
use Rattle.std.specs.List.{flat_map}
use Rattle.sctp_wire.proofs.field.push_entries.Given as goal

abbrev pub invariant-loop-entry : goal.invariant-loop-entry
invariant-loop-entry g l = record {
  wrote : l.output.items ≡ l.initial.output.items ++ flat_map g.E.Entry.bytes_of (take l.entry-index l.entries);
  len : vec_len l.output ≡ vec_len l.initial.output + l.entry-index * g.E.Entry.width;
  capacity : vec_capacity l.initial.output ≤ vec_capacity l.output;
}
