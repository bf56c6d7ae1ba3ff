use Rattle.std.proofs.Common.{arith}
use Rattle.sctp_channels.proofs.UnansweredLemmas.{few_wait}
use Rattle.sctp_channels.proofs.unanswered.Unanswered.len.Goals as goal

pub returns-clause-few : goal.returns-clause-few
returns-clause-few c = omega (arith, c.len.ensures, few_wait c.self.inside.waiting.keys c.self.inside.streams.items c.self.invariant)
