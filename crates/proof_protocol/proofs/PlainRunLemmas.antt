-- The runs may happen.
use Rattle.std.proofs.Common.{◌≡◌, ℕ, zero, suc, ◌<◌, ◌≤◌, Bool, true, false, ◌&&◌, inl, inr, take, refl, sym, ap, ◌∙◌, subst, arith, eqb, leb}
use Rattle.std.proofs.lemmas.Bool.{or_cases, and_parts, eqb-true, leb-true}
use Rattle.std.proofs.lemmas.Bool.Decides.{nat_tests}
use Rattle.proof_protocol.specs.State.{Transfer, fragment, place_of, start}
use Rattle.proof_protocol.specs.Rules.{begin, IsSettled, IsRipe, IsDue, IsAllowed, Happens, covers, run}
use Rattle.proof_protocol.specs.Runs.{three, over_two, plain_run}

at_zero : {A : Type 0} (f : ℕ → A) (v : A) (t : ℕ) → f 0 ≡ v → t < 1 → f t ≡ v
at_zero f v t e h = let z : t ≡ 0 = omega (arith, h) in ap f z ∙ e

four : (P : ℕ → Type 0) → P 0 → P 1 → P 2 → P 3 → (t : ℕ) → t < 4 → P t
four P a b c d zero h = a
four P a b c d (suc zero) h = b
four P a b c d (suc (suc zero)) h = c
four P a b c d (suc (suc (suc zero))) h = d
four P a b c d (suc (suc (suc (suc n)))) h = absurd (omega (arith, h))

abbrev before : ℕ → Transfer
before n = run three false start (take n plain_run)

-- message 2 is complete
ripe_two : IsRipe three (before 12).sender (before 12).receiver 2
ripe_two = record {
  complete = record {
    ended = (3, omega arith, refl, refl);
    all_held = four (λ t. place_of (before 12).sender t ≡ 2 → (before 12).receiver.held t ≡ true) (λ e. absurd (omega (arith, e))) (λ e. absurd (omega (arith, e))) (λ e. absurd (omega (arith, e))) (λ e. refl);
  };
  in_turn = λ e. cc;
}

-- with the first of message 0's two fragments nothing is ripe: message 1 is held, and not the next
none_at_first : (p : ℕ) → IsRipe three (before 14).sender (before 14).receiver p → ⊥
none_at_first p r =
    let e = r.complete.ended in
    four (λ t. place_of (before 14).sender t ≡ p → (fragment (before 14).sender t).is_end ≡ true → ⊥)
    (λ a l. cc)
    (λ a l. let h = r.complete.all_held 1 (omega arith) a in cc)
    (λ a l. let n = subst (λ z. (three z).ordered ≡ true → (before 14).sender.number z ≡ (before 14).receiver.next (three z).stream) (sym a) r.in_turn in let m = n refl in absurd (omega (arith, m)))
    (λ a l. let h = r.complete.all_held 3 (omega arith) a in cc)
    e.0 e.1 e.2 e.3

due_first : IsDue three false (before 17).sender (before 17).acknowledged over_two
due_first =
    let one : ((t : ℕ) → 1 ≤ t → t < 2 → t ≡ 1) = (λ t lo hi. omega (arith, lo, hi)) in
    record {
      ahead = omega arith;
      within = omega arith;
      all_given_up = λ t lo hi. ap (λ z. (before 17).sender.given_up (place_of (before 17).sender z)) (one t lo hi);
      touched = λ t lo hi k. ap (λ z. covers over_two.entries (three (place_of (before 17).sender z)).ordered (three (place_of (before 17).sender z)).stream ((before 17).sender.number (place_of (before 17).sender z))) (one t lo hi);
      sound = sound;
      only_ordered = λ m a n. refl;
      as_written = ((1, omega arith, omega arith, refl, refl, refl, refl), tt);
    }
  where
    sound : (kind : Bool) (s n : ℕ) → covers over_two.entries kind s n ≡ true
        → (t : ℕ) × (1 ≤ t) × (t < 2) × ((three (place_of (before 17).sender t)).ordered ≡ kind) × ((three (place_of (before 17).sender t)).stream ≡ s) × (n ≤ (before 17).sender.number (place_of (before 17).sender t))
    sound kind s n c =
        elim (or_cases (kind && (eqb 0 s && leb n 0)) false c) [
          | inr f ↦ cc
          | inl h ↦
              let a = and_parts kind (eqb 0 s && leb n 0) h in
              let b = and_parts (eqb 0 s) (leb n 0) a.1 in
              (1, omega arith, omega arith, sym a.0, eqb-true 0 s b.0, leb-true n 0 b.1)
        ]

ripe_one : IsRipe three (before 19).sender (before 19).receiver 1
ripe_one = record {
  complete = record {
    ended = (2, omega arith, refl, refl);
    all_held = four (λ t. place_of (before 19).sender t ≡ 1 → (before 19).receiver.held t ≡ true) (λ e. absurd (omega (arith, e))) (λ e. absurd (omega (arith, e))) (λ e. refl) (λ e. absurd (omega (arith, e)));
  };
  in_turn = λ e. refl;
}

none_at_last : (p : ℕ) → IsRipe three (before 20).sender (before 20).receiver p → ⊥
none_at_last p r =
    let e = r.complete.ended in
    let h = r.complete.all_held e.0 e.1 e.2 in
    let n = four (λ t. (before 20).receiver.held t ≡ false) refl refl refl refl e.0 e.1 in
    cc

may_begin_zero : IsAllowed three false (before 3) (begin 0)
may_begin_zero = (record { below = omega arith; not_begun = refl; not_given_up = refl }, (λ q l s. absurd (omega (arith, l))), (λ m q. refl))

may_begin_one : IsAllowed three false (before 6) (begin 1)
may_begin_one = (
  record { below = omega arith; not_begun = refl; not_given_up = refl },
  (λ q l s. let z : 0 ≡ q = omega (arith, l) in subst (λ n. IsSettled (before 6).sender n) z (record { not_partly = refl; begun_or_given_up = inl refl })),
  (λ m q. idle q),
)
  where
    idle : (q : ℕ) → (before 6).sender.partly q ≡ false
    idle q = grind (arith, nat_tests)

may_begin_two : IsAllowed three false (before 8) (begin 2)
may_begin_two = (
  record { below = omega arith; not_begun = refl; not_given_up = refl },
  (λ q l s. other q l s),
  (λ m q. idle q),
)
  where
    idle : (q : ℕ) → (before 8).sender.partly q ≡ false
    idle q = grind (arith, nat_tests)

    other : (q : ℕ) → q < 2 → (three q).stream ≡ 1 → IsSettled (before 8).sender q
    other zero l s = absurd (omega (arith, s))
    other (suc zero) l s = absurd (omega (arith, s))
    other (suc (suc n)) l s = absurd (omega (arith, l))

-- the whole of it may happen
pub plain_happens : Happens three false start plain_run
plain_happens =
    let all_seen = four (λ t. (before 20).receiver.seen t ≡ true) refl refl refl refl in (
      tt,
      (
        tt,
        (
          tt,
          (
            may_begin_zero,
            (
              (refl, refl),
              (
                (refl, refl),
                (
                  may_begin_one,
                  (
                    (refl, refl),
                    (
                      may_begin_two,
                      (
                        (refl, refl),
                        (
                          (omega arith, refl, refl),
                          (
                            (omega arith, refl, refl),
                            (
                              ripe_two,
                              (
                                (omega arith, refl, refl),
                                (
                                  (λ t h. at_zero (before 14).receiver.seen true t refl h, none_at_first),
                                  (
                                    (inl refl, omega arith),
                                    (
                                      (omega arith, refl, refl),
                                      (
                                        due_first,
                                        (
                                          inl refl,
                                          (
                                            ripe_one,
                                            (
                                              (all_seen, none_at_last),
                                              ((inl refl, omega arith), ((inl refl, omega arith), ((inl refl, omega arith), tt))),
                                            ),
                                          ),
                                        ),
                                      ),
                                    ),
                                  ),
                                ),
                              ),
                            ),
                          ),
                        ),
                      ),
                    ),
                  ),
                ),
              ),
            ),
          ),
        ),
      ),
    )
