use Rattle.std.proofs.Common.{◌≡◌, map, drop}
use Rattle.sctp_parameter.specs.ParameterViews.{parameter_tree}
use Rattle.sctp_capabilities.specs.Capabilities.{extensions_in}
use Rattle.sctp_capabilities.proofs.capabilities.supported_chunk_types.Given as goal

-- no parameter so far names chunk types
abbrev pub invariant-loop-parameter : goal.invariant-loop-parameter
invariant-loop-parameter l =
    extensions_in (map parameter_tree l.parameters) ≡ extensions_in (map parameter_tree (drop l.parameter-index l.parameters))
