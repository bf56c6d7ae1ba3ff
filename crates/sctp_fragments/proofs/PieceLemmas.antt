-- Entries in pieces.
use Rattle.std.proofs.Common.{◌≡◌, ℕ, zero, suc, ◌+◌, ◌-◌, ◌<◌, ◌≤◌, ◌==◌, false, true, List, [], ◌∷◌, ◌++◌, length, get_or, drop, map, refl, ap, sym, ◌∙◌, arith, append_assoc, append-nil, length-append}
use Rattle.std.proofs.lemmas.List.{map-append}
use Rattle.std.proofs.lemmas.Bool.Decides.{nat_tests}
use Rattle.sctp_fragments.specs.declared.interval.Entry.{Entry}
use Rattle.sctp_fragments.specs.Runs.{flat}
use Rattle.sctp_fragments.specs.Held.{Held, bytes_of, payload_of}
use Rattle.sctp_fragments.specs.Pieces.{are_some}
use Rattle.sctp_fragments.proofs.RunLemmas.{flat_append}

module _ {E : Type 0} where
  -- the first piece, and the others
  pub some_first : (x : List E) (xs : List (List E)) → are_some (x ∷ xs) ≡ true → (0 < length x) × (are_some xs ≡ true)
  some_first [] xs a = grind (arith, a)
  some_first (e ∷ es) xs a = (omega arith, a)

  pub some_cons : (x : List E) (xs : List (List E)) → 0 < length x → are_some xs ≡ true → are_some (x ∷ xs) ≡ true
  some_cons [] xs h a = absurd (omega (arith, h))
  some_cons (e ∷ es) xs h a = a

  pub some_append : (xs ys : List (List E)) → are_some xs ≡ true → are_some ys ≡ true → are_some (xs ++ ys) ≡ true
  some_append [] ys a b = b
  some_append (x ∷ xs) ys a b = let s = some_first x xs a in some_cons x (xs ++ ys) s.0 (some_append xs ys s.1 b)

  pub flat_some : (ls : List (List E)) → 0 < length ls → are_some ls ≡ true → 0 < length (flat ls)
  flat_some [] h a = h
  flat_some (x ∷ xs) h a = let s = some_first x xs a in let n = length-append x (flat xs) in omega (arith, s.0, n)

  pub none_left : (xs : List E) (n : ℕ) → n ≡ length xs → (0 < n → false ≡ true) → xs ≡ []
  none_left [] n h k = refl
  none_left (x ∷ xs) n h k = let no = k (omega (arith, h)) in grind (arith, no)

  pub more_left : (xs : List E) (n : ℕ) → n ≡ length xs → false ≡ (n == 0) → 0 < length xs
  more_left [] n h k = grind (arith, nat_tests)
  more_left (x ∷ xs) n h k = omega arith

  -- the last item
  pub back_of : (xs ys : List E) (d : E) → 0 < length ys → get_or (xs ++ ys) (length (xs ++ ys) - 1) d ≡ get_or ys (length ys - 1) d
  back_of [] ys d h = refl
  back_of (x ∷ xs) ys d h =
      let n = length-append xs ys in
      let up : length (x ∷ (xs ++ ys)) - 1 ≡ suc (length (xs ++ ys) - 1) = omega (arith, n, h) in
      ap (λ (k : ℕ). get_or (x ∷ (xs ++ ys)) k d) up ∙ back_of xs ys d h

  pub alone : (first : List E) (ls : List (List E)) (last : List E) → ls ≡ [] → length first + length last ≡ length (first ++ (flat ls ++ last))
  alone first ls last a = rw a (sym (length-append first last))

  pub not_alone : (first : List E) (ls : List (List E)) (last : List E) → 0 < length first → 0 < length ls → are_some ls ≡ true → false ≡ (length (first ++ (flat ls ++ last)) == 1)
  not_alone first ls last h m a =
      let n = length-append first (flat ls ++ last) in
      let k = length-append (flat ls) last in
      let p = flat_some ls m a in
      let more : 1 < length (first ++ (flat ls ++ last)) = omega (arith, n, k, p, h) in
      grind (arith, nat_tests)

  pub behind : (first middle last : List E) (x : E) → first ++ (middle ++ (last ++ x ∷ [])) ≡ (first ++ (middle ++ last)) ++ x ∷ []
  behind first middle last x = ap (λ (t : List E). first ++ t) (sym (append_assoc middle last (x ∷ []))) ∙ sym (append_assoc first (middle ++ last) (x ∷ []))

module _ {D E : Type 0} (f : D → List E) where
  pub mapped_some : (ks : List D) → 0 < length ks → 0 < length (map f ks)
  mapped_some [] h = h
  mapped_some (k ∷ ks) h = omega arith

  pub last_some : (ms : List D) (m : D) → 0 < length ms → m ≡ get_or ms (length ms - 1) m → are_some (map f ms) ≡ true → 0 < length (f m)
  last_some [] m h read a = absurd (omega (arith, h))
  last_some (n ∷ []) m h read a = rw read (some_first (f n) [] a).0
  last_some (n ∷ (k ∷ ms)) m h read a =
      let s = some_first (f n) (map f (k ∷ ms)) a in
      let up : length (n ∷ (k ∷ ms)) - 1 ≡ suc (length (k ∷ ms) - 1) = omega arith in
      last_some (k ∷ ms) m (omega arith) (read ∙ ap (λ (i : ℕ). get_or (n ∷ (k ∷ ms)) i m) up) s.1

  pub flat_last : (ms : List D) (m : D) (d : E) → 0 < length ms → m ≡ get_or ms (length ms - 1) m → are_some (map f ms) ≡ true
      → get_or (flat (map f ms)) (length (flat (map f ms)) - 1) d ≡ get_or (f m) (length (f m) - 1) d
  flat_last [] m d h read a = absurd (omega (arith, h))
  flat_last (n ∷ []) m d h read a = rw read (rw (append-nil (f n)) refl)
  flat_last (n ∷ (k ∷ ms)) m d h read a =
      let s = some_first (f n) (map f (k ∷ ms)) a in
      let up : length (n ∷ (k ∷ ms)) - 1 ≡ suc (length (k ∷ ms) - 1) = omega arith in
      back_of (f n) (flat (map f (k ∷ ms))) d (flat_some (map f (k ∷ ms)) (omega arith) s.1) ∙ flat_last (k ∷ ms) m d (omega arith) (read ∙ ap (λ (i : ℕ). get_or (n ∷ (k ∷ ms)) i m) up) s.1

  pub back_middle : (first : List E) (ms : List D) (last : List E) (m : D) (d : E) → 0 < length ms → m ≡ get_or ms (length ms - 1) m → are_some (map f ms) ≡ true → last ≡ []
      → d ≡ get_or (f m) (length (f m) - 1) d → d ≡ get_or (first ++ (flat (map f ms) ++ last)) (length (first ++ (flat (map f ms) ++ last)) - 1) d
  back_middle first ms last m d some at a none read =
      let l = flat_last ms m d some at a in
      rw none (rw (append-nil (flat (map f ms))) (read ∙ sym (back_of first (flat (map f ms)) d (flat_some (map f ms) (mapped_some ms some) a) ∙ l)))

  -- the pieces from a place on
  flat_suc : (ms : List D) (i : ℕ) (d : D) → i < length ms → d ≡ get_or ms i d → flat (drop i (map f ms)) ≡ f d ++ flat (drop (suc i) (map f ms))
  flat_suc [] i d h read = absurd (omega (arith, h))
  flat_suc (m ∷ ms) zero d h read = ap (λ (t : D). f t ++ flat (map f ms)) (sym read)
  flat_suc (m ∷ ms) (suc i) d h read = flat_suc ms i d (omega (arith, h)) read

  pub flat_step : (ms : List D) (i : ℕ) (d : D) → i < length ms → d ≡ get_or ms i d → flat (drop i (map f ms)) ≡ f d ++ flat (drop (i + 1) (map f ms))
  flat_step ms i d h read = let up : suc i ≡ i + 1 = omega arith in rw (← up) (flat_suc ms i d h read)

  -- one piece more
  pub pieces_back : (old new : List D) (d : D) → new ≡ old ++ d ∷ [] → flat (map f new) ≡ flat (map f old) ++ f d
  pieces_back old new d is = rw is (rw (map-append f old (d ∷ [])) (rw (flat_append (map f old) (f d ∷ [])) (rw (append-nil (f d)) refl)))

  pub some_back : (old new : List D) (d : D) → new ≡ old ++ d ∷ [] → are_some (map f old) ≡ true → 0 < length (f d) → are_some (map f new) ≡ true
  some_back old new d is a h = rw is (rw (map-append f old (d ∷ [])) (some_append (map f old) (f d ∷ []) a (some_cons (f d) [] h refl)))

  pub pieces_append : (old more new : List D) → new ≡ old ++ more → flat (map f new) ≡ flat (map f old) ++ flat (map f more)
  pieces_append old more new is = rw is (rw (map-append f old more) (flat_append (map f old) (map f more)))

  pub some_both : (old more new : List D) → new ≡ old ++ more → are_some (map f old) ≡ true → are_some (map f more) ≡ true → are_some (map f new) ≡ true
  some_both old more new is a b = rw is (rw (map-append f old more) (some_append (map f old) (map f more) a b))

  -- the last piece came to the others
  pub begun : (first last : List E) (m0 m1 : List D) (a : D) (rest : List E) → f a ≡ last → m1 ≡ m0 ++ a ∷ [] → rest ≡ []
      → first ++ (flat (map f m1) ++ rest) ≡ first ++ (flat (map f m0) ++ last)
  begun first last m0 m1 a rest is put none = rw none (rw (pieces_back m0 m1 a put) (rw is (ap (λ (t : List E). first ++ t) (append-nil (flat (map f m0) ++ last)))))

  -- an entry and others behind it
  pub appended : (first last first2 last2 : List E) (x : E) (m0 m1 m2 m3 more : List D) (a b : D) → f a ≡ last ++ x ∷ [] → f b ≡ first2
      → m1 ≡ m0 ++ a ∷ [] → m2 ≡ m1 ++ b ∷ [] → m3 ≡ m2 ++ more
      → first ++ (flat (map f m3) ++ last2) ≡ (first ++ (flat (map f m0) ++ last)) ++ x ∷ (first2 ++ (flat (map f more) ++ last2))
  appended first last first2 last2 x m0 m1 m2 m3 more a b is is2 one two three =
      rw (pieces_append m2 more m3 three) (rw (pieces_back m1 m2 b two) (rw (pieces_back m0 m1 a one) (rw is (rw is2 (simp append_assoc)))))

  -- an entry and others before it
  pub prepended : (first last first2 last2 : List E) (x : E) (m0 m1 m2 m3 more : List D) (a : D) → f a ≡ x ∷ first
      → m1 ≡ a ∷ m0 → flat (map f m2) ≡ last2 ++ flat (map f m1) → m3 ≡ more ++ m2
      → first2 ++ (flat (map f m3) ++ last) ≡ (first2 ++ (flat (map f more) ++ last2)) ++ x ∷ (first ++ (flat (map f m0) ++ last))
  prepended first last first2 last2 x m0 m1 m2 m3 more a is one two three =
      let flat1 : flat (map f m1) ≡ f a ++ flat (map f m0) = rw one refl in
      rw (pieces_append more m2 m3 three) (rw two (rw flat1 (rw is (simp append_assoc))))

  pub some_two : (last first2 : List E) (x : E) (m0 m1 m2 m3 more : List D) (a b : D) → f a ≡ last ++ x ∷ [] → f b ≡ first2
      → m1 ≡ m0 ++ a ∷ [] → m2 ≡ m1 ++ b ∷ [] → m3 ≡ m2 ++ more → 0 < length first2 → are_some (map f m0) ≡ true → are_some (map f more) ≡ true → are_some (map f m3) ≡ true
  some_two last first2 x m0 m1 m2 m3 more a b is is2 one two three some old new =
      let n = ap length is ∙ length-append last (x ∷ []) in
      let k = ap length is2 in
      some_both m2 more m3 three (some_back m1 m2 b two (some_back m0 m1 a one old (omega (arith, n))) (omega (arith, k, some))) new

module _ {K : Type 0} (h : Entry K → Held) where
  pub bytes_append : (xs ys : List (Entry K)) → bytes_of (map h (xs ++ ys)) ≡ bytes_of (map h xs) + bytes_of (map h ys)
  bytes_append [] ys = omega arith
  bytes_append (x ∷ xs) ys = let r = bytes_append xs ys in omega (arith, r)

  pub payload_append : (xs ys : List (Entry K)) → payload_of (map h (xs ++ ys)) ≡ payload_of (map h xs) ++ payload_of (map h ys)
  payload_append [] ys = refl
  payload_append (x ∷ xs) ys = ap (λ (t : List ℕ). (h x).fragment.payload ++ t) (payload_append xs ys) ∙ sym (append_assoc (h x).fragment.payload (payload_of (map h xs)) (payload_of (map h ys)))

  pub bytes_all : (first middle last : List (Entry K)) → bytes_of (map h (first ++ (middle ++ last))) ≡ bytes_of (map h first) + (bytes_of (map h middle) + bytes_of (map h last))
  bytes_all first middle last = let a = bytes_append first (middle ++ last) in let b = bytes_append middle last in omega (arith, a, b)

  pub payload_all : (first middle last : List (Entry K)) (old new : List ℕ) → new ≡ old ++ payload_of (map h first)
      → new ++ (payload_of (map h middle) ++ payload_of (map h last)) ≡ old ++ payload_of (map h (first ++ (middle ++ last)))
  payload_all first middle last old new is =
      rw is (rw (payload_append first (middle ++ last)) (rw (payload_append middle last) (append_assoc old (payload_of (map h first)) (payload_of (map h middle) ++ payload_of (map h last)))))

-- a piece's payloads were put behind others
pub payload_on : (old piece rest last new all whole : List ℕ) → all ≡ piece ++ rest → new ≡ old ++ piece → old ++ (all ++ last) ≡ whole → new ++ (rest ++ last) ≡ whole
payload_on old piece rest last new all whole is put before =
    rw put ((simp append_assoc) ∙ (ap (λ (t : List ℕ). old ++ t) (sym (append_assoc piece rest last) ∙ ap (λ (t : List ℕ). t ++ last) (sym is)) ∙ before))
