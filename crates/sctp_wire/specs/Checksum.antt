-- The checksum of a packet: RFC 9260 section 6.8, and RFC 9653 section 5.3 for a zero in its place.
use Rattle.std.specs.Prelude.{ℕ, List, [], ◌∷◌, ◌++◌, Bool, ◌||◌, ◌&&◌, not, ◌==◌}

-- the bytes that are summed: those before the checksum's field, four zeros in its place, and those after it
abbrev pub with_zero_field : List ℕ → List ℕ → List ℕ
with_zero_field before after = before ++ ((0 ∷ 0 ∷ 0 ∷ 0 ∷ []) ++ after)

-- Whether a packet with this number in its checksum field is let through: the check is off, the number is the word
-- of the packet, or it is zero where a method other than 0 finds damage.
abbrev pub accepts : Bool → ℕ → ℕ → ℕ → Bool
accepts disabled method word field = disabled || ((field == word) || ((field == 0) && not (method == 0)))
