use Rattle.std.proofs.Common.{rules}
use Rattle.std.specs.Cmp.Lexicographic.{pointwise_decides}
use Rattle.std.proofs.lemmas.Bool.Decides.{Decides-at}
use Rattle.sctp_state.proofs.api.laws.is_same_batch_send_error.Goals as goal

pub returns : goal.returns
returns c =
    Decides-at c.eq.result _ c.eq.ensures (pointwise_decides (λ x y. search rules) c.args.a.now.0.items c.args.b.now.0.items)
