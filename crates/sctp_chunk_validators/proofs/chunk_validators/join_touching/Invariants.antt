use Rattle.std.proofs.Common.{◌≡◌, ◌<◌, ◌++◌, take, drop, vec_len}
use Rattle.sctp_chunk_validators.proofs.CoveredLemmas.{joined_to, joined_all}
use Rattle.sctp_chunk_validators.proofs.chunk_validators.join_touching.Given as goal

abbrev pub invariant-loop-place : goal.invariant-loop-place
invariant-loop-place l = record {
  whole : joined_all l.initial.blocks.items ≡ take l.count l.blocks.items ++ joined_to l.run (drop l.place l.blocks.items);
  behind : l.count < l.place;
  same_length : vec_len l.blocks ≡ l.place-end;
}
