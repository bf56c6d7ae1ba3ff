use Rattle.std.proofs.lemmas.Bool.Decides.{Decides-at}
use Rattle.sctp_state.proofs.EqualityLemmas.{batches_decide}
use Rattle.sctp_state.proofs.api.laws.is_same_batch_fault.Goals as goal

pub returns : goal.returns
returns c = Decides-at c.eq.result _ c.eq.ensures (batches_decide c.args.a.now c.args.b.now)
