-- What a handle owns: a value in a box, or nothing where its pointer is null.
use Rattle.std.specs.Prelude.{Option, Some, None}
use mir.Syntax.{Ty}
use base.Fml.{Fml, feq}
use denote.RattleType.{RattleType}
use denote.RawPtr.{Ptr, null_ptr}
use Rattle.std_alloc.specs.Box.Ownership.{box_owns}

abbrev pub held_at : (Ty → Ptr → Fml) → (R : RattleType) → Ptr → Option R.Denot → Fml
held_at token R p None = feq Ptr p null_ptr
held_at token R p (Some x) = box_owns token R p x
