use Rattle.std.proofs.Common.{◌≡◌, ℕ, List, ◌++◌}
use Rattle.sctp_channels.proofs.unanswered.answer_each.Given as goal

abbrev pub invariant-loop : goal.invariant-loop
invariant-loop g l = (answered : List ℕ) × (l.initial.unanswered ≡ answered ++ l.unanswered)
