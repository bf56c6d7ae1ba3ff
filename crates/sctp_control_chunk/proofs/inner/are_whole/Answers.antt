use Rattle.std.proofs.Common.{sym, ap, ◌∙◌, rules}
use Rattle.std.proofs.lemmas.Grind.{common_steps}
use Rattle.std.proofs.lemmas.List.Folds.{list_all-map, list_all_at}
use Rattle.sctp_wire.specs.Parameter.{parameter_is_whole}
use Rattle.sctp_parameter.specs.ParameterViews.{parameter_tree}
use Rattle.sctp_control_chunk.proofs.inner.are_whole.Goals as goal

pub returns-then-not-is_whole : goal.returns-then-not-is_whole
returns-then-not-is_whole c =
    rw list_all-map (sym (list_all_at (λ it. parameter_is_whole (parameter_tree it)) c.args.parameters.now c.loop-parameter.parameter-index c.parameter-item.result
    (search rules) (ap (λ it. parameter_is_whole (parameter_tree it)) (sym c.parameter-item.is) ∙ search rules)))

pub returns : goal.returns
returns c = rw list_all-map (search (rules, common_steps))
