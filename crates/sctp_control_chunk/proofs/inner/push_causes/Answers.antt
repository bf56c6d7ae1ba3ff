use Rattle.std.proofs.Common.{rules}
use Rattle.std.proofs.lemmas.Simd.{map-map}
use Rattle.sctp_wire.specs.Cause.{cause_item}
use Rattle.sctp_error_cause.specs.CauseViews.{cause_tree}
use Rattle.sctp_control_chunk.proofs.InnerLemmas.{each_fits}
use Rattle.sctp_control_chunk.proofs.inner.push_causes.Goals as goal

pub parameters_serialize_to-requires-clause-fit : goal.parameters_serialize_to-requires-clause-fit
parameters_serialize_to-requires-clause-fit c = each_fits (λ it. cause_item (cause_tree it)) c.args.causes.now (rw map-map at c.requires)

pub returns-clause-wrote : goal.returns-clause-wrote
returns-clause-wrote c = rw map-map (search rules)

pub returns-clause-room : goal.returns-clause-room
returns-clause-room c = rw map-map (search rules)
