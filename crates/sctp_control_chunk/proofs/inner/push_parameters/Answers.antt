use Rattle.std.proofs.Common.{rules}
use Rattle.std.proofs.lemmas.Simd.{map-map}
use Rattle.std.proofs.lemmas.List.Folds.{list_all-map}
use Rattle.std.proofs.lemmas.List.Sums.{AllPass-from_list_all}
use Rattle.sctp_wire.specs.Parameter.{parameter_item, parameter_is_whole}
use Rattle.sctp_parameter.specs.ParameterViews.{parameter_tree}
use Rattle.sctp_control_chunk.proofs.InnerLemmas.{each_fits}
use Rattle.sctp_control_chunk.proofs.inner.push_parameters.Goals as goal

pub parameters_serialize_to-requires-clause-fit : goal.parameters_serialize_to-requires-clause-fit
parameters_serialize_to-requires-clause-fit c = each_fits (λ it. parameter_item (parameter_tree it)) c.args.parameters.now (rw map-map at c.requires.fits)

pub parameters_serialize_to-requires-clause-whole : goal.parameters_serialize_to-requires-clause-whole
parameters_serialize_to-requires-clause-whole c =
    AllPass-from_list_all (λ it. parameter_is_whole (parameter_tree it)) c.args.parameters.now (rw list_all-map at c.requires.whole)

pub returns-clause-wrote : goal.returns-clause-wrote
returns-clause-wrote c = rw map-map (search rules)

pub returns-clause-room : goal.returns-clause-room
returns-clause-room c = rw map-map (search rules)
