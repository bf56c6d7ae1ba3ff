use Rattle.std.proofs.Common.{rules}
use Rattle.std.proofs.lemmas.Fn.{filter_same}
use Rattle.sctp_tx_outstanding.specs.Touched.{is_kept}
use Rattle.sctp_tx_outstanding.proofs.passed.forget_left.Goals as goal

pub returns : goal.returns
returns c = filter_same _ (λ t. is_kept c.args.left t) _ (λ x b f' k. search rules) _ _ c.retain.ensures.filtered
