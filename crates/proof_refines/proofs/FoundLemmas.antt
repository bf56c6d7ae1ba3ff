-- Messages are found by their places.
use Rattle.std.proofs.Common.{◌≡◌, ◌≢◌, ℕ, ◌+◌, ◌<◌, ◌≤◌, true, cond, inl, inr, Option, Some, None, List, [], ◌∷◌, ◌++◌, refl, sym, ap, ◌∙◌, arith, eqb}
use Rattle.std.specs.Prelude.{nat_le, nat_lt, ◌&&◌}
use Rattle.std.proofs.lemmas.Bool.{cases_eq, eq-eqb, ne_eqb, cond-true, cond-false, and_parts, leb-true, ltb-true}
use Rattle.sctp_tx_queue.specs.SendQueue.{Queued}
use Rattle.sctp_tx_queue.specs.InOrder.{are_rising}
use Rattle.proof_refines.specs.SenderRefinement.{find}
use Rattle.proof_protocol.proofs.CommonLemmas.{none_some}

pub funext : {A B : Type 0} (f g : A → B) → ((a : A) → f a ≡ g a) → f ≡ g
funext f g h = λ i a. h a i

pub one_value : {A : Type 0} (o : Option A) (v w : A) → o ≡ Some v → o ≡ Some w → v ≡ w
one_value o v w a b = cc

pub found_at : (p : ℕ) (m : Queued) (rest : List Queued) → m.number ≡ p → find p (m ∷ rest) ≡ Some m
found_at p m rest e = cond-true (eqb m.number p) (Some m) (find p rest) (eq-eqb m.number p e)

pub found_off : (p : ℕ) (m : Queued) (rest : List Queued) → m.number ≢ p → find p (m ∷ rest) ≡ find p rest
found_off p m rest d = cond-false (eqb m.number p) (Some m) (find p rest) (ne_eqb m.number p d)

-- ---- places rise along a stream

pub record Rises (least most : ℕ) (m : Queued) (rest : List Queued) : Type 0 where
  pub low : least ≤ m.number
  pub high : m.number < most
  pub behind : are_rising (m.number + 1) most rest ≡ true

pub rises : (least most : ℕ) (m : Queued) (rest : List Queued) → are_rising least most (m ∷ rest) ≡ true → Rises least most m rest
rises least most m rest h =
    let a = and_parts (nat_le least m.number && nat_lt m.number most) (are_rising (m.number + 1) most rest) h in
    let b = and_parts (nat_le least m.number) (nat_lt m.number most) a.0 in
    record { low = leb-true least m.number b.0; high = ltb-true m.number most b.1; behind = a.1 }

pub none_below : (p least most : ℕ) (ms : List Queued) → p < least → are_rising least most ms ≡ true → find p ms ≡ None
none_below p least most [] l h = refl
none_below p least most (m ∷ rest) l h =
    let r = rises least most m rest h in
    let low = r.low in
    found_off p m rest (λ e. absurd (omega (arith, e, low, l))) ∙ none_below p (m.number + 1) most rest (omega (arith, low, l)) r.behind

-- the first of a stream is found there alone, and nothing before it
pub once : (least most : ℕ) (m : Queued) (rest : List Queued) → are_rising least most (m ∷ rest) ≡ true → find m.number rest ≡ None
once least most m rest h = none_below m.number (m.number + 1) most rest (omega arith) (rises least most m rest h).behind

pub first_least : (p least most : ℕ) (m : Queued) (rest : List Queued) → are_rising least most (m ∷ rest) ≡ true → p < m.number → find p (m ∷ rest) ≡ None
first_least p least most m rest h l =
    let r = rises least most m rest h in
    found_off p m rest (λ e. absurd (omega (arith, e, l))) ∙ none_below p (m.number + 1) most rest (omega (arith, l)) r.behind

-- ---- behind others

pub found_behind : (p : ℕ) (front back : List Queued) → find p front ≡ None → find p (front ++ back) ≡ find p back
found_behind p [] back n = refl
found_behind p (a ∷ rest) back n =
    elim (cases_eq a.number p) [
      | inl s ↦ absurd (none_some (find p (a ∷ rest)) a (found_at p a rest s) n)
      | inr d ↦ found_off p a (rest ++ back) d ∙ found_behind p rest back (sym (found_off p a rest d) ∙ n)
    ]

pub found_alike : (p : ℕ) (front one other : List Queued) → find p one ≡ find p other → find p (front ++ one) ≡ find p (front ++ other)
found_alike p [] one other h = h
found_alike p (a ∷ rest) one other h = ap (λ z. cond (eqb a.number p) (Some a) z) (found_alike p rest one other h)

-- ---- one more message

pub found_push_off : (p : ℕ) (ms : List Queued) (m : Queued) → m.number ≢ p → find p (ms ++ m ∷ []) ≡ find p ms
found_push_off p [] m d = found_off p m [] d
found_push_off p (a ∷ rest) m d = ap (λ z. cond (eqb a.number p) (Some a) z) (found_push_off p rest m d)

pub found_push : (p : ℕ) (ms : List Queued) (m : Queued) → find p ms ≡ None → m.number ≡ p → find p (ms ++ m ∷ []) ≡ Some m
found_push p [] m n e = found_at p m [] e
found_push p (a ∷ rest) m n e =
    elim (cases_eq a.number p) [
      | inl s ↦ absurd (none_some (find p (a ∷ rest)) a (found_at p a rest s) n)
      | inr d ↦ found_off p a (rest ++ m ∷ []) d ∙ found_push p rest m (sym (found_off p a rest d) ∙ n) e
    ]
