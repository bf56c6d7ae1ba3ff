use Rattle.std.proofs.Common.{◌≡◌, ◌++◌, ℕ, List, length, map, take, drop, All}
use Rattle.std.specs.List.{flat_map}
use Rattle.sctp_handover.proofs.part.parts_at.Given as goal

abbrev pub invariant-loop-place : goal.invariant-loop-place
invariant-loop-place g l = (xs : List g.P.Part.Value) (after : List ℕ) → l.fn.count ≡ length xs → All g.P.Part.Fits xs
    → l.fn.bytes ≡ flat_map g.P.Part.bytes_of xs ++ after
    → (map g.P.Part.value_of l.parts.items ≡ take l.place xs) × (l.rest ≡ flat_map g.P.Part.bytes_of (drop l.place xs) ++ after)
