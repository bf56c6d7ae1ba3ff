use Rattle.std.proofs.Common.{[], inl, inr, ⊎_elim}
use Rattle.std.proofs.lemmas.Result.{IfOk-weaker, IfErr-weaker}
use Rattle.sctp_wire.specs.Cause.{IsCause, RefusesCause}
use Rattle.sctp_error_cause.specs.CauseViews.{cause_tree}
use Rattle.sctp_wire.proofs.RefusalLemmas.{ParsesAll_map, BreaksAs_map}
use Rattle.sctp_error_cause.proofs.error_cause.error_cause_from_bytes.Goals as goal

pub returns-clause-ok : goal.returns-clause-ok
returns-clause-ok c =
    IfOk-weaker c.items_from_bytes.result _ _ (λ list tiles. ParsesAll_map (λ i it. IsCause i (cause_tree it)) IsCause cause_tree (λ i it means. means) c.args.bytes.now list.items [] tiles) c.items_from_bytes.ensures.ok

pub returns-clause-refused : goal.returns-clause-refused
returns-clause-refused c =
    IfErr-weaker c.items_from_bytes.result _ _ (λ fault. λ broken. ⊎_elim inl (λ b. inr (BreaksAs_map (λ i it. IsCause i (cause_tree it)) IsCause cause_tree (λ i it means. means) RefusesCause c.args.bytes.now fault b)) broken) c.items_from_bytes.ensures.refused
