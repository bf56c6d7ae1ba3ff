use Rattle.std.specs.Prelude.{None}
use Rattle.proof_refines.proofs.BreakLemmas.{requests_break, staying_keeps, points_end}
use Rattle.proof_refines.proofs.sender.points_end_at_requests.Goals as goal

pub returns : goal.returns
returns c = record {
  requests = λ message lifecycle is_interleaved x q s ids sh h. requests_break message lifecycle is_interleaved ids x q s sh h;
  sacks = staying_keeps;
  points = λ message is_interleaved x s h p. points_end message (λ n. None) is_interleaved x s h p;
}
