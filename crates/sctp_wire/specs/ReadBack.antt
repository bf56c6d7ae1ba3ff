-- What holds of a tree that is read back as itself once it was written.
use Rattle.std.specs.Prelude.{◌≡◌, true}
use Rattle.std.specs.Str.{IsUtf8}
use Rattle.sctp_wire.specs.Serialize.{IsEncodable}
use Rattle.sctp_wire.specs.Parameter.{ParameterTree, parameter_item, parameter_is_whole, IsOfItsVariant, ParameterFits}
use Rattle.sctp_wire.specs.Cause.{CauseTree, user_initiated_abort, protocol_violation, cause_item, CauseIsOfItsVariant, CauseFits}

-- the parameter can be written, and its type is one of its variant
pub record ParameterReadsBack (t : ParameterTree) : Type 0 where
  pub encodable : IsEncodable (parameter_item t)
  pub fits : ParameterFits t
  pub whole : parameter_is_whole t ≡ true
  pub of_its_variant : IsOfItsVariant t

-- its text is UTF-8
abbrev pub IsText : CauseTree → Type 0
IsText (user_initiated_abort reason) = IsUtf8 reason
IsText (protocol_violation information) = IsUtf8 information
IsText _ = Unit {0}

-- the cause can be written, and its type is one of its variant
pub record CauseReadsBack (t : CauseTree) : Type 0 where
  pub encodable : IsEncodable (cause_item t)
  pub fits : CauseFits t
  pub text : IsText t
  pub of_its_variant : CauseIsOfItsVariant t
