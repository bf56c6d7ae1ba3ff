use Rattle.std.proofs.Common.{rules}
use Rattle.std.proofs.lemmas.Bool.Decides.{Decides-at}
use Rattle.sctp_state.proofs.EqualityLemmas.{send_options_decide}
use Rattle.sctp_state.proofs.api.laws.are_same_send_options.Goals as goal

pub returns : goal.returns
returns c = Decides-at c.eq.result _ c.eq.ensures (send_options_decide _ _ (λ x y. search rules) (λ x y. search rules) c.args.a c.args.b)
