use Rattle.std.proofs.Common.{◌≡◌, ◌++◌, length}
use Rattle.std.specs.List.{All, flat_map}
use Rattle.sctp_wire.proofs.field.entries_from_bytes.Given as goal

abbrev pub invariant-loop-rest : goal.invariant-loop-rest
invariant-loop-rest g l = record {
  read : l.fn.bytes ≡ flat_map g.E.Entry.bytes_of l.entries.items ++ l.rest;
  fit : All g.E.Entry.in_range l.entries.items;
}

abbrev pub decreases-loop-rest : goal.decreases-loop-rest
decreases-loop-rest g l = length l.rest
