-- The bytes of a value that is one field.
use Rattle.std.specs.Prelude.{ℕ, List}
use Rattle.sctp_wire.specs.Field.{be32}
use Rattle.sctp_wire.specs.declared.kind.FieldValue.{FieldValue}
use Rattle.sctp_wire.specs.declared.kind.FieldValue.TheVariants.{Bytes, Number}

abbrev pub field_bytes : FieldValue → List ℕ
field_bytes (Bytes bytes) = bytes.now
field_bytes (Number number) = be32 number
