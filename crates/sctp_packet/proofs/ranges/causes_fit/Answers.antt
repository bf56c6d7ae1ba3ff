use Rattle.std.proofs.Common.{rules, sym, subst}
use Rattle.std.proofs.lemmas.Grind.{common_steps}
use Rattle.std.proofs.lemmas.Simd.{map-map}
use Rattle.std.proofs.lemmas.List.Elements.{All-map}
use Rattle.sctp_error_cause.specs.declared.error_cause.ErrorCause.{ErrorCause}
use Rattle.sctp_wire.specs.Serialize.{IsEncodable}
use Rattle.sctp_wire.specs.Cause.{CauseFits, cause_item}
use Rattle.sctp_error_cause.specs.CauseViews.{cause_tree}
use Rattle.sctp_wire.specs.ReadBack.{IsText}
use Rattle.sctp_control_chunk.proofs.InnerLemmas.{each_fits}
use Rattle.sctp_packet.proofs.ranges.causes_fit.Goals as goal

pub cause_fits-requires : goal.cause_fits-requires
cause_fits-requires c =
    let each = each_fits (λ it. cause_item (cause_tree it)) c.args.causes.now (rw map-map at c.requires) in
    subst (λ (it : ErrorCause). IsEncodable (cause_item (cause_tree it))) (sym c.cause-item.is) (each c.loop-cause.cause-index _ (search rules))

pub returns-clause-fits : goal.returns-clause-fits
returns-clause-fits c = All-map CauseFits cause_tree c.args.causes.now (λ k d less. (c.loop-cause.invariant k d (search (rules, common_steps))).0)

pub returns-clause-texts : goal.returns-clause-texts
returns-clause-texts c = All-map IsText cause_tree c.args.causes.now (λ k d less. (c.loop-cause.invariant k d (search (rules, common_steps))).1)
