-- Error causes: RFC 9260 section 3.3.10. One grammar for reader and writer: the type and the value of a tree.
use Rattle.std.specs.Prelude.{◌≡◌, ℕ, ◌<◌, ◌^◌, All, Bool, false, cond, ◌==◌, ◌||◌, List, [], ◌++◌, length}
use Rattle.std.specs.List.{flat_map}
use Rattle.sctp_serial.specs.declared.types.tsn.Tsn.{Tsn}
use Rattle.sctp_wire.specs.declared.error.ChunkParseError.{ChunkParseError}
use Rattle.sctp_wire.specs.Field.{be16, be32}
use Rattle.sctp_item.specs.Item.{Item}
use Rattle.sctp_wire.specs.Serialize.{item_of_type, type_of}
use Rattle.sctp_wire.specs.Shape.{Shape, any_length, exactly, counted, RefusesAs}
use Rattle.sctp_wire.specs.Text.{IsTextOf}

-- what a cause says; texts are UTF-8
pub data CauseTree : Type 0 where
  missing_mandatory_parameter : (types : List ℕ) → CauseTree
  unrecognized_chunk : (chunk : List ℕ) → CauseTree
  no_user_data : (tsn : Tsn) → CauseTree
  cookie_received_while_shutting_down : CauseTree
  user_initiated_abort : (reason : List ℕ) → CauseTree
  protocol_violation : (information : List ℕ) → CauseTree
  unknown_cause : (typ : ℕ) (value : List ℕ) → CauseTree

abbrev pub cause_type : CauseTree → ℕ
cause_type (missing_mandatory_parameter types) = 2
cause_type (unrecognized_chunk chunk) = 6
cause_type (no_user_data tsn) = 9
cause_type cookie_received_while_shutting_down = 10
cause_type (user_initiated_abort reason) = 12
cause_type (protocol_violation information) = 13
cause_type (unknown_cause typ value) = typ

-- the value as it is written
unfoldable pub cause_value : CauseTree → List ℕ
cause_value (missing_mandatory_parameter types) = be32 (length types) ++ flat_map be16 types
cause_value (unrecognized_chunk chunk) = chunk
cause_value (no_user_data tsn) = be32 tsn.0
cause_value cookie_received_while_shutting_down = []
cause_value (user_initiated_abort reason) = reason
cause_value (protocol_violation information) = information
cause_value (unknown_cause typ value) = value

-- A value that is read as the tree: the one that is written; but a text may be read from bytes that are no UTF-8.
abbrev pub ReadsCause : List ℕ → CauseTree → Type 0
ReadsCause value (user_initiated_abort reason) = IsTextOf value reason
ReadsCause value (protocol_violation information) = IsTextOf value information
ReadsCause value t = value ≡ cause_value t

-- the types of the causes above
abbrev pub is_known_cause : ℕ → Bool
is_known_cause typ = (typ == 2) || ((typ == 6) || ((typ == 9) || ((typ == 10) || ((typ == 12) || (typ == 13)))))

-- an unknown cause has none of the known types
abbrev pub CauseIsOfItsVariant : CauseTree → Type 0
CauseIsOfItsVariant (unknown_cause typ value) = is_known_cause typ ≡ false
CauseIsOfItsVariant _ = Unit {0}

-- the tree's numbers fit their fields
abbrev pub CauseFits : CauseTree → Type 0
CauseFits (missing_mandatory_parameter types) = (length types < 2 ^ 32) × All (λ typ. typ < 2 ^ 16) types
CauseFits (no_user_data tsn) = tsn.0 < 2 ^ 32
CauseFits _ = Unit {0}

-- a cause of this type and this value says what the tree says
pub record SaysCause (typ : ℕ) (value : List ℕ) (t : CauseTree) : Type 0 where
  pub typed : typ ≡ cause_type t
  pub valued : ReadsCause value t
  pub of_its_variant : CauseIsOfItsVariant t
  pub fits : CauseFits t

-- the item stands for the tree
abbrev pub IsCause : Item → CauseTree → Type 0
IsCause i t = SaysCause (type_of i) i.value t

-- the item that is written for the tree
abbrev pub cause_item : CauseTree → Item
cause_item t = item_of_type (cause_type t) (cause_value t)

-- the lengths that each type allows
abbrev pub cause_shape : ℕ → Shape
cause_shape typ = cond (typ == 2) (counted 2) (cond (typ == 9) (exactly 4) (cond (typ == 10) (exactly 0) any_length))

-- no number in a cause stands for nothing
abbrev pub RefusesCauseAs : ℕ → ℕ → List ℕ → ChunkParseError → Type 0
RefusesCauseAs = RefusesAs cause_shape (λ _ _. ⊥)

-- the item stands for no cause, for this reason
abbrev pub RefusesCause : Item → ChunkParseError → Type 0
RefusesCause i = RefusesCauseAs (type_of i) (type_of i) i.value
