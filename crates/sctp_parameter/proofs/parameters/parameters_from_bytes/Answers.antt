use Rattle.std.proofs.Common.{[], inl, inr, ⊎_elim}
use Rattle.std.proofs.lemmas.Result.{IfOk-weaker, IfErr-weaker}
use Rattle.sctp_wire.specs.Parameter.{IsParameter, RefusesParameter}
use Rattle.sctp_parameter.specs.ParameterViews.{parameter_tree}
use Rattle.sctp_wire.proofs.RefusalLemmas.{ParsesAll_map, BreaksAs_map}
use Rattle.sctp_parameter.proofs.parameters.parameters_from_bytes.Goals as goal

pub returns-clause-ok : goal.returns-clause-ok
returns-clause-ok c =
    IfOk-weaker c.items_from_bytes.result _ _ (λ list tiles. ParsesAll_map (λ i it. IsParameter i (parameter_tree it)) IsParameter parameter_tree (λ i it means. means) c.args.bytes.now list.items [] tiles) c.items_from_bytes.ensures.ok

pub returns-clause-refused : goal.returns-clause-refused
returns-clause-refused c =
    IfErr-weaker c.items_from_bytes.result _ _ (λ fault. λ broken. ⊎_elim inl (λ b. inr (BreaksAs_map (λ i it. IsParameter i (parameter_tree it)) IsParameter parameter_tree (λ i it means. means) RefusesParameter c.args.bytes.now fault b)) broken) c.items_from_bytes.ensures.refused
