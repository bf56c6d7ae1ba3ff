use Rattle.std.proofs.Common.{◌≡◌, ◌≤◌, ℕ, true}
use Rattle.sctp_fragments.specs.Runs.{is_held}
use Rattle.sctp_fragments.specs.ReassemblyKey.{rank_at}
use Rattle.std.specs.List.{All}
use Rattle.sctp_reassembly.proofs.finished.drop_before.Given as goal

abbrev pub invariant-loop : goal.invariant-loop
invariant-loop g l = record {
  keys : All g.K.ReassemblyKey.is_key l.keys.keys;
  held : (n : ℕ) → rank_at g.K.ReassemblyKey.number g.K.ReassemblyKey.index l.key ≤ n → is_held (rank_at g.K.ReassemblyKey.number g.K.ReassemblyKey.index) n l.initial.keys.keys ≡ true → is_held (rank_at g.K.ReassemblyKey.number g.K.ReassemblyKey.index) n l.keys.keys ≡ true;
}
