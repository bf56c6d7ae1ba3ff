use Rattle.std.proofs.Common.{◌≡◌, ◌++◌, List}
use Rattle.sctp_fragments.specs.Held.{NoneInTurn}
use Rattle.sctp_reassembly.specs.Places.{runs_at}
use Rattle.sctp_reassembly.proofs.places.place_in_turn.Given as goal

abbrev pub invariant-loop-place : goal.invariant-loop-place
invariant-loop-place g l = record {
  next : (goal.iterator-loop-place g).can_next l.rest;
  finite : (goal.iterator-loop-place g).is_finite l.rest;
  passed : (front : List _) × ((l.later.entries ≡ front ++ l.rest) × NoneInTurn l.number (runs_at g.K.ReassemblyKey.number g.K.ReassemblyKey.index front));
}
