-- A loop over ids sets the bit of each.
use Rattle.std.proofs.lemmas.Bool.{cases_lt, cases_eq}
use Rattle.std.proofs.lemmas.List.{drop_more, get_or-replicate, length-replicate, get_or_past, get_or-set_same, get_or-set_other}
use Rattle.std.proofs.lemmas.Grind.{get_or_default_zero}
use Rattle.std.proofs.lemmas.Nat.Bits.{bit_at-zero, bit_at_set_same, bit_at_set_other}
use Rattle.std.proofs.Common.{◌≡◌, ℕ, ◌+◌, ◌<◌, ◌==◌, ◌||◌, ◌/◌, ◌%◌, ◌^◌, ◌*◌, Bool, true, false, List, [], length, drop, get_or, replicate, slice_set, w64, refl, ap, sym, ◌∙◌, inl, inr, arith}
use Rattle.std.specs.List.{list_any}
use Rattle.std.specs.Int.{bit_at}
use Rattle.std.specs.Int.Bits.{bit_or}
use Rattle.std.proofs.lemmas.Bool.Decides.{nat_tests}
use Rattle.sctp_serial.specs.declared.api.StreamId.{StreamId}
use Rattle.sctp_reassembly.specs.StreamIdSet.{has_bit, AreNamedIn}

abbrev any : ℕ → List StreamId → Bool
any k ids = list_any (λ i. i.0 == k) ids

-- those whose bits are set, and those still to come, are those that are named
pub record ComesTo (words : List ℕ) (left ids : List StreamId) : Type 0 where
  pub whole : length words ≡ 1024
  pub named : (k : ℕ) → (has_bit words k || any k left) ≡ any k ids

swap : (b c r : Bool) → ((b || c) || r) ≡ (c || (b || r))
swap true true r = refl
swap true false r = refl
swap false true r = refl
swap false false r = refl

pub comes_one : (ids : List StreamId) (i : ℕ) (d : StreamId) (words new : List ℕ) → i < length ids → length new ≡ 1024 → ((k : ℕ) → has_bit new k ≡ (((get_or ids i d).0 == k) || has_bit words k))
    → ComesTo words (drop i ids) ids → ComesTo new (drop (i + 1) ids) ids
comes_one ids i d words new l whole set h = record {
  whole = whole;
  named = λ k. ap (λ b. b || any k (drop (i + 1) ids)) (set k)
      ∙ (swap ((get_or ids i d).0 == k) (has_bit words k) (any k (drop (i + 1) ids))
      ∙ (ap (λ left. has_bit words k || any k left) (sym (drop_more ids i d l)) ∙ h.named k));
}

-- no bit is set at first
none_set : (n : ℕ) (words : List ℕ) → words ≡ replicate n 0 → (k : ℕ) → has_bit words k ≡ false
none_set n words is k = ap (λ (w : ℕ). bit_at w (k % 64) == 1) (elim (cases_lt (k / 64) n) [
  | inl less ↦ ap (λ (ws : List ℕ). get_or ws (k / 64) 0) is ∙ get_or-replicate n (k / 64) 0 0 less
  | inr past ↦ ap (λ (ws : List ℕ). get_or ws (k / 64) 0) is ∙ get_or_past (replicate n 0) (k / 64) 0 (omega (arith, past, length-replicate {A = ℕ} n 0))
]) ∙ ap (λ (b : ℕ). b == 1) (bit_at-zero (k % 64))

pub begins : (n : ℕ) (words : List ℕ) (ids : List StreamId) → words ≡ replicate n 0 → n ≡ 1024 → ComesTo words ids ids
begins n words ids is count = record {
  whole = ap length is ∙ (length-replicate {A = ℕ} n 0 ∙ count);
  named = λ k. ap (λ b. b || any k ids) (none_set n words is k);
}

pub ended : (words : List ℕ) (left ids : List StreamId) → left ≡ [] → ComesTo words left ids → AreNamedIn words ids
ended words left ids none h = record { whole = h.whole; named = λ k. at (has_bit words k) (any k left) (any k ids) (ap (any k) none) (h.named k) }
  where
    at : (a b c : Bool) → b ≡ false → (a || b) ≡ c → a ≡ c
    at true b c e h = h
    at false b c e h = sym e ∙ h

-- one bit more
module _ (words : List ℕ) (id word : ℕ) (whole : length words ≡ 1024) (small : id < 65536) (is : word ≡ get_or words (id / 64) word) where
  abbrev more : ℕ
  more = bit_or word (1 * 2 ^ (id % 64) % 2 ^ 64)

  abbrev new : List ℕ
  new = slice_set words (id / 64) more

  read : (k : ℕ) → k / 64 ≡ id / 64 → get_or new (k / 64) 0 ≡ more
  read k same = ap (λ (p : ℕ). get_or new p 0) same ∙ get_or-set_same words (id / 64) more 0 (omega (arith, whole, small))

  here : (k : ℕ) → id ≡ k → has_bit new k ≡ ((id == k) || has_bit words k)
  here k same =
      let on : (id == k) ≡ true = grind (arith, nat_tests) in
      let bit : bit_at more (k % 64) ≡ 1 = ap (λ (n : ℕ). bit_at more (n % 64)) (sym same) ∙ bit_at_set_same w64 word (id % 64) (omega arith) in
      ap (λ (w : ℕ). bit_at w (k % 64) == 1) (read k (ap (λ (n : ℕ). n / 64) (sym same))) ∙ (ap (λ (b : ℕ). b == 1) bit ∙ sym (ap (λ (b : Bool). b || has_bit words k) on))

  elsewhere : (k : ℕ) → (id ≡ k → ⊥) → has_bit new k ≡ ((id == k) || has_bit words k)
  elsewhere k other =
      let off : (id == k) ≡ false = grind (arith, nat_tests) in
      let at : word ≡ get_or words (id / 64) 0 = is ∙ get_or_default_zero words (id / 64) word (omega (arith, whole, small)) in
      elim (cases_eq (k / 64) (id / 64)) [
        | inl same ↦
            let bit : bit_at more (k % 64) ≡ bit_at word (k % 64) = bit_at_set_other w64 word (id % 64) (omega arith) (k % 64) (λ e. other (omega (arith, e, same))) in
            ap (λ (w : ℕ). bit_at w (k % 64) == 1) (read k same) ∙ (ap (λ (b : ℕ). b == 1) (bit ∙ ap (λ (w : ℕ). bit_at w (k % 64)) (at ∙ ap (λ (p : ℕ). get_or words p 0) (sym same))) ∙ sym (ap (λ (b : Bool). b || has_bit words k) off))
        | inr apart ↦ ap (λ (w : ℕ). bit_at w (k % 64) == 1) (get_or-set_other words (id / 64) (k / 64) more 0 apart) ∙ sym (ap (λ (b : Bool). b || has_bit words k) off)
      ]

  pub one_more : (k : ℕ) → has_bit new k ≡ ((id == k) || has_bit words k)
  one_more k = elim (cases_eq id k) [
    | inl same ↦ here k same
    | inr other ↦ elsewhere k other
  ]
