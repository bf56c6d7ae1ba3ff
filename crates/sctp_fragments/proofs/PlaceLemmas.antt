-- Intervals by their place in a vector.
use Rattle.std.proofs.Common.{◌≡◌, ℕ, zero, suc, ◌+◌, ◌-◌, ◌<◌, ◌≤◌, Bool, true, false, List, [], ◌∷◌, ◌++◌, length, get_or, ltb, drop, refl, ap, sym, ◌∙◌, arith, append_assoc, map, length-append}
use Rattle.std.proofs.lemmas.Bool.Decides.{nat_tests}
use Rattle.std.proofs.lemmas.List.{map-append}
use Rattle.sctp_fragments.specs.declared.interval.Entry.{Entry}
use Rattle.sctp_fragments.specs.declared.interval.Interval.{Interval}
use Rattle.sctp_fragments.specs.Runs.{last_of}
use Rattle.sctp_fragments.specs.Held.{Held, bytes_of, payload_of, is_complete}
use Rattle.sctp_fragments.specs.Interval.{run_of, lists_of}
use Rattle.sctp_fragments.specs.Entries.{items_of}

pub last_read : {E : Type 0} (e d : E) (es : List E) → get_or (e ∷ es) (length es) d ≡ last_of e es
last_read e d [] = refl
last_read e d (f ∷ fs) = last_read f d fs

pub last_at : {E : Type 0} (xs : List E) (e d : E) (es : List E) (n : ℕ) → n + 1 ≡ length xs → d ≡ get_or xs n d → xs ≡ e ∷ es → d ≡ last_of e es
last_at {E = E} xs e d es n h read is =
    let m : n ≡ length es = omega (arith, h, ap length is) in
    read ∙ (ap (λ (t : List E). get_or t n d) is ∙ (ap (λ (k : ℕ). get_or (e ∷ es) k d) m ∙ last_read e d es))

pub emitted_less : (r : Bool) (a b : ℕ) → r ≡ true → r ≡ ltb a b → a < b
emitted_less r a b h k = grind (arith, nat_tests)

pub emitted_not_less : (r : Bool) (a b : ℕ) → r ≡ false → r ≡ ltb a b → b ≤ a
emitted_not_less r a b h k = grind (arith, nat_tests)

pub record IsCons {E : Type 0} (xs : List E) : Type 0 where
  pub head : E
  pub tail : List E
  pub is : xs ≡ head ∷ tail

pub cons : {E : Type 0} (xs : List E) → 0 < length xs → IsCons xs
cons [] h = absurd (omega arith)
cons (x ∷ xs) h = record { head = x; tail = xs; is = refl }

-- what the first and the last item say of a whole run
pub whole_run : (r : List Held) (first last : Held) → 0 < length r → ((h : Held) (hs : List Held) → r ≡ h ∷ hs → first ≡ h) → ((h : Held) (hs : List Held) → r ≡ h ∷ hs → last ≡ last_of h hs)
    → first.fragment.is_beginning ≡ true → last.fragment.is_end ≡ is_complete r
whole_run [] first last some f l on = absurd (omega arith)
whole_run (h ∷ hs) first last some f l on = rw (← l h hs refl) (rw (← f h hs refl) (rw on refl))

module _ {K : Type 0} (f : Entry K → Held) where
  some_mapped : (es : List (Entry K)) → 0 < length es → 0 < length (map f es)
  some_mapped [] h = h
  some_mapped (e ∷ es) h = omega arith

  pub some_run : (i : Interval K) → 0 < length (run_of f i)
  some_run i = some_mapped (items_of i.entries.value) i.some

  last_mapped : (e : Entry K) (es : List (Entry K)) → last_of (f e) (map f es) ≡ f (last_of e es)
  last_mapped e [] = refl
  last_mapped e (g ∷ es) = last_mapped g es

  pub last_held : (es : List (Entry K)) (d : Entry K) (h : Held) (hs : List Held) (n : ℕ) → n + 1 ≡ length es → d ≡ get_or es n d → map f es ≡ h ∷ hs → f d ≡ last_of h hs
  last_held [] d h hs n long read is = absurd (omega arith)
  last_held (e ∷ es) d h hs n long read is =
      ap f (last_at (e ∷ es) e d es n long read refl) ∙ (sym (last_mapped e es) ∙ ap (λ (t : List Held). last_of (get_or t 0 h) (drop 1 t)) is)

  pub lists_of_append : (xs ys : List (Interval K)) → lists_of f (xs ++ ys) ≡ lists_of f xs ++ lists_of f ys
  lists_of_append [] ys = refl
  lists_of_append (x ∷ xs) ys = ap (λ (t : List (List Held)). run_of f x ∷ t) (lists_of_append xs ys)

  -- the bytes from an entry on
  bytes_suc : (es : List (Entry K)) (i : ℕ) (d : Entry K) → i < length es → d ≡ get_or es i d → bytes_of (drop i (map f es)) ≡ length (f d).fragment.payload + bytes_of (drop (suc i) (map f es))
  bytes_suc [] i d h read = absurd (omega arith)
  bytes_suc (e ∷ es) zero d h read = ap (λ (t : Entry K). length (f t).fragment.payload + bytes_of (map f es)) (sym read)
  bytes_suc (e ∷ es) (suc i) d h read = bytes_suc es i d (omega arith) read

  pub bytes_step : (es : List (Entry K)) (i : ℕ) (d : Entry K) → i < length es → d ≡ get_or es i d → bytes_of (drop i (map f es)) ≡ length (f d).fragment.payload + bytes_of (drop (i + 1) (map f es))
  bytes_step es i d h read = let up : suc i ≡ i + 1 = omega arith in rw (← up) (bytes_suc es i d h read)

  payload_suc : (es : List (Entry K)) (i : ℕ) (d : Entry K) → i < length es → d ≡ get_or es i d → payload_of (drop i (map f es)) ≡ (f d).fragment.payload ++ payload_of (drop (suc i) (map f es))
  payload_suc [] i d h read = absurd (omega arith)
  payload_suc (e ∷ es) zero d h read = ap (λ (t : Entry K). (f t).fragment.payload ++ payload_of (map f es)) (sym read)
  payload_suc (e ∷ es) (suc i) d h read = payload_suc es i d (omega arith) read

  pub payload_step : (es : List (Entry K)) (i : ℕ) (d : Entry K) (old new whole : List ℕ) → i < length es → d ≡ get_or es i d → new ≡ old ++ (f d).fragment.payload → old ++ payload_of (drop i (map f es)) ≡ whole → new ++ payload_of (drop (i + 1) (map f es)) ≡ whole
  payload_step es i d old new whole h read made before =
      let up : suc i ≡ i + 1 = omega arith in
      rw (← up) (ap (λ (t : List ℕ). t ++ payload_of (drop (suc i) (map f es))) made ∙ (append_assoc old (f d).fragment.payload (payload_of (drop (suc i) (map f es))) ∙ (ap (λ (t : List ℕ). old ++ t) (sym (payload_suc es i d h read)) ∙ before)))

  -- an entry at an interval's end, or in front of it
  pub run_back : (new old : List (Entry K)) (i : Interval K) (x : Entry K) → new ≡ old ++ x ∷ [] → old ≡ (items_of i.entries.value) → map f new ≡ run_of f i ++ f x ∷ []
  run_back new old i x made is = ap (map f) made ∙ (map-append f old (x ∷ []) ∙ ap (λ (t : List (Entry K)). map f t ++ f x ∷ []) is)

  pub run_front : (new old : List (Entry K)) (i : Interval K) (x : Entry K) → new ≡ x ∷ old → old ≡ (items_of i.entries.value) → map f new ≡ f x ∷ run_of f i
  run_front new old i x made is = ap (map f) made ∙ ap (λ (t : List (Entry K)). f x ∷ map f t) is

pub length_payload : (hs : List Held) → length (payload_of hs) ≡ bytes_of hs
length_payload [] = refl
length_payload (h ∷ hs) = length-append h.fragment.payload (payload_of hs) ∙ ap (λ (t : ℕ). length h.fragment.payload + t) (length_payload hs)
