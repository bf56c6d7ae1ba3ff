-- The laws of pairs of numbers in the order of their ranks.
use Rattle.std.specs.Prelude.{◌≡◌, ℕ, suc, ◌<◌, ◌≤◌, ◌^◌}
use Rattle.std.specs.Ordering.{nat_cmp, ordering_then}
use Rattle.std.proofs.Common.{arith}
use Rattle.std.proofs.lemmas.Bool.Decides.{nat_tests}
use Rattle.sctp_fragments.specs.ReassemblyKey.{IsPair, pair_rank, pair_bound, pair_after_number, pair_after_index}

pub pair_number : (a b c d : ℕ) → IsPair a b → IsPair c d → pair_rank a b ≡ pair_rank c d → a ≡ c
pair_number a b c d p q same = omega (arith, p.0, p.1, q.0, q.1, same)

pub pair_index : (a b c d : ℕ) → IsPair a b → IsPair c d → pair_rank a b ≡ pair_rank c d → b ≡ d
pair_index a b c d p q same = omega (arith, p.0, p.1, q.0, q.1, same)

pub pair_by_rank : (a b c d : ℕ) → IsPair a b → IsPair c d → ordering_then (nat_cmp a c) (nat_cmp b d) ≡ nat_cmp (pair_rank a b) (pair_rank c d)
pair_by_rank a b c d p q = grind (arith, nat_tests)

pub pair_within : (a b : ℕ) → IsPair a b → pair_rank a b ≤ pair_bound
pair_within a b p = omega (arith, p.0, p.1)

pub pair_follows : (a b : ℕ) → IsPair a b → pair_rank a b < pair_bound → IsPair (pair_after_number a b) (pair_after_index b) × (pair_rank (pair_after_number a b) (pair_after_index b) ≡ suc (pair_rank a b))
pair_follows a b p less = grind (arith, nat_tests)

pub pair_made : {K : Type 0} (f : ℕ → ℕ → K) (a b c d : ℕ) → a ≡ c → b ≡ d → f a b ≡ f c d
pair_made f a b c d p q = cc
