-- Logs in which no end emits that an association is over, and the first event of a run that ends one.
use Rattle.std.proofs.Common.{◌≡◌, ◌⊎◌, inl, inr, ℕ, zero, suc, ◌+◌, List, ◌++◌, length, refl, ap, ◌∙◌, length-append, arith}
use Rattle.std.specs.List.{flat_map}
use Rattle.std.proofs.lemmas.Grind.{flat_map-append}
use Rattle.spec_world.specs.Observations.{End, A, B, Entry}
use Rattle.proof_world.specs.Consistent.{association_ends_by, times_ended, NoEndingIsLogged}

pub times_more : (x : End) (early late : List Entry) → times_ended x (early ++ late) ≡ times_ended x early + times_ended x late
times_more x early late = ap (λ (l : List End). length l) (flat_map-append (association_ends_by x) early late) ∙ length-append (flat_map (association_ends_by x) early) (flat_map (association_ends_by x) late)

pub stands_front : (early late log : List Entry) → log ≡ early ++ late → NoEndingIsLogged log → NoEndingIsLogged early
stands_front early late log e h x =
    let m = times_more x early late in
    let n = h x in
    let s = ap (times_ended x) e in
    omega (arith, m, n, s)

none_or_some : (n : ℕ) → (n ≡ 0) ⊎ (n ≡ 0 → ⊥)
none_or_some zero = inl refl
none_or_some (suc n) = inr (λ e. absurd (omega (arith, e)))

pub stands_or_not : (log : List Entry) → NoEndingIsLogged log ⊎ (NoEndingIsLogged log → ⊥)
stands_or_not log = go (none_or_some (times_ended A log)) (none_or_some (times_ended B log))
  where
    both : times_ended A log ≡ 0 → times_ended B log ≡ 0 → NoEndingIsLogged log
    both a b A = a
    both a b B = b

    go : (times_ended A log ≡ 0) ⊎ (times_ended A log ≡ 0 → ⊥) → (times_ended B log ≡ 0) ⊎ (times_ended B log ≡ 0 → ⊥) → NoEndingIsLogged log ⊎ (NoEndingIsLogged log → ⊥)
    go (inl a) (inl b) = inl (both a b)
    go (inr a) b = inr (λ h. a (h A))
    go (inl a) (inr b) = inr (λ h. b (h B))
