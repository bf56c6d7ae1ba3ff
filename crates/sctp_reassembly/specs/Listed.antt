-- How an interval list keeps its fragments, and how many.
use Rattle.std.specs.Prelude.{◌≡◌, ℕ, Option, List, length}
use Rattle.sctp_fragments.specs.declared.interval.Interval.{Interval}
use Rattle.sctp_fragments.specs.Interval.{held_of, entries_of}
use Rattle.sctp_reassembly.specs.Places.{all_of, IsKept}

pub record IsListed {K : Type 0} (is_key : K → Type 0) (number index : K → ℕ) (first : Option (Interval K)) (later : List (K × Interval K)) (bytes fragments : ℕ) : Type 0 where
  pub kept : IsKept is_key number index first later bytes
  pub counted : fragments ≡ length (entries_of (held_of number index) (all_of first later))
