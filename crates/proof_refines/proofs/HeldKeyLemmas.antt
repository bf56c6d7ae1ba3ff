-- Keys of held fragments, and maps that are changed at keys.
use Rattle.std.proofs.Common.{◌≡◌, ℕ, suc, ◌-◌, ◌^◌, ◌<◌, Bool, true, false, ◌⊎◌, inl, inr, Option, Some, None, List, [], ◌∷◌, refl, ap, sym, ◌∙◌, arith}
use Rattle.std.specs.Prelude.{not, ◌&&◌, ◌==◌}
use Rattle.std.proofs.lemmas.Bool.{cases_eq, and_parts}
use Rattle.std.proofs.lemmas.Option.{none-some}
use Rattle.sctp_serial.specs.Unwrapped.{origin}
use Rattle.sctp_rx.specs.ReassemblyKey.{pair_rank}
use Rattle.sctp_rx.specs.Runs.{is_next}
use Rattle.sctp_rx.specs.Held.{Held, rank_of, goes_on}
use Rattle.proof_protocol.specs.State.{IsAmong}
use Rattle.proof_protocol.specs.Reassembly.{Chunk, MessageKey, KeyOf, next_of}
use Rattle.proof_protocol.proofs.KeysLemmas.{decide_Bool}
use Rattle.proof_refines.specs.View.{IsFiled, key_of_held}
use Rattle.proof_refines.proofs.RisingLemmas.{next_rank}

-- whether two keys are one
abbrev pub Decided : Bool → Type 0
Decided is_interleaved = (κ μ : KeyOf is_interleaved) → (κ ≡ μ) ⊎ (κ ≡ μ → ⊥)

pub place_cases : (k kind : Bool) (a s : ℕ) → ((k ≡ kind) × (a ≡ s)) ⊎ (k ≡ kind → a ≡ s → ⊥)
place_cases k kind a s =
    elim (decide_Bool k kind) [
      | inr d ↦ inr (λ e f. d e)
      | inl e ↦ elim (cases_eq a s) [
        | inl f ↦ inl (e, f)
        | inr d ↦ inr (λ e f. d f)
      ]
    ]

pub kind_back : (a b k c : Bool) → a ≡ not k → b ≡ not c → not a ≡ not b → k ≡ c
kind_back a b true true p q e = refl
kind_back a b true false p q e = cc
kind_back a b false true p q e = cc
kind_back a b false false p q e = refl

pub twice_not : (a k : Bool) → a ≡ not k → not a ≡ k
twice_not a true e = cc
twice_not a false e = cc

pub ordered_is : (a b k : Bool) → a ≡ not k → a ≡ b → k ≡ not b
ordered_is a b k e f = sym (twice_not a k e) ∙ ap not f

pub rank_same : (g h : Held) → g.number ≡ h.number → g.index ≡ h.index → rank_of g ≡ rank_of h
rank_same g h n i = ap (λ (z : ℕ). pair_rank z g.index) n ∙ ap (λ (z : ℕ). pair_rank h.number z) i

pub index_same : (is_interleaved : Bool) (shift : ℕ) (kind c : Bool) (s b : ℕ) (g h : Held) → IsFiled is_interleaved shift kind s g → IsFiled is_interleaved shift c b h → key_of_held is_interleaved shift g ≡ key_of_held is_interleaved shift h → g.index ≡ h.index
index_same false shift kind c s b g h fg fh e = let p = fg.index_from refl in let q = fh.index_from refl in omega (arith, e, p, q)
index_same true shift kind c s b g h fg fh e = ap (λ (z : MessageKey). z.index) e

-- the next item of a run has the next key
pub record Next (g h : Held) : Type 0 where
  pub number : h.number ≡ g.number
  pub index : h.index ≡ suc g.index
  pub no_end : g.fragment.is_end ≡ false
  pub no_beginning : h.fragment.is_beginning ≡ false

not_one : (a b : Bool) → (not a && not b) ≡ true → (a ≡ false) × (b ≡ false)
not_one true b e = cc
not_one false true e = cc
not_one false false e = (refl, refl)

pairs : (a b c d : ℕ) → b < 2 ^ 63 → d < 2 ^ 63 → pair_rank c d ≡ suc (pair_rank a b) → (c ≡ a) × (d ≡ suc b)
pairs a b c d p q e = (omega (arith, p, q, e), omega (arith, p, q, e))

pub next_item : (g h : Held) → g.index < 2 ^ 63 → h.index < 2 ^ 63 → is_next rank_of goes_on g h ≡ true → Next g h
next_item g h p q e =
    let r = pairs g.number g.index h.number h.index p q (next_rank rank_of goes_on g h e) in
    let n = not_one g.fragment.is_end h.fragment.is_beginning (and_parts (rank_of h == suc (rank_of g)) (goes_on g h) e).1 in
    record { number = r.0; index = r.1; no_end = n.0; no_beginning = n.1 }

pub next_key : (is_interleaved : Bool) (shift : ℕ) (kind : Bool) (s : ℕ) (g h : Held) → IsFiled is_interleaved shift kind s g → IsFiled is_interleaved shift kind s h → Next g h → next_of is_interleaved (key_of_held is_interleaved shift g) ≡ key_of_held is_interleaved shift h
next_key false shift kind s g h fg fh n = let p = fg.index_from refl in let i = n.index in omega (arith, p, i)
next_key true shift kind s g h fg fh n =
    let k : not g.fragment.is_unordered ≡ not h.fragment.is_unordered = ap not (fg.kind_is ∙ sym fh.kind_is) in
    let a : g.fragment.stream_id ≡ h.fragment.stream_id = fg.stream_is ∙ sym fh.stream_is in
    let m : g.number - origin ≡ h.number - origin = ap (λ (z : ℕ). z - origin) (sym n.number) in
    let j : suc g.index ≡ h.index = sym n.index in
    λ i. record { ordered = k i; stream = a i; number = m i; index = j i }

-- ---- maps

abbrev pub pick : {A B C : Type 0} → A ⊎ B → C → C → C
pick (inl a) x y = x
pick (inr b) x y = y

pub pick_yes : {A C : Type 0} (d : A ⊎ (A → ⊥)) (x y : C) → A → pick d x y ≡ x
pick_yes (inl a) x y h = refl
pick_yes (inr b) x y h = absurd (b h)

pub pick_no : {A C : Type 0} (d : A ⊎ (A → ⊥)) (x y : C) → (A → ⊥) → pick d x y ≡ y
pick_no (inl a) x y h = absurd (h a)
pick_no (inr b) x y h = refl

module _ (is_interleaved : Bool) (shift : ℕ) (decide : Decided is_interleaved) where
  -- without the keys of these items
  abbrev pub without : List Held → (KeyOf is_interleaved → Option Chunk) → KeyOf is_interleaved → Option Chunk
  without [] c κ = c κ
  without (e ∷ es) c κ = pick (decide κ (key_of_held is_interleaved shift e)) None (without es c κ)

  pub without_among : (es : List Held) (c : KeyOf is_interleaved → Option Chunk) (κ : KeyOf is_interleaved) (h : Held) → IsAmong h es → κ ≡ key_of_held is_interleaved shift h → without es c κ ≡ None
  without_among [] c κ h a e = absurd a
  without_among (f ∷ es) c κ h (inl s) e = pick_yes (decide κ (key_of_held is_interleaved shift f)) None (without es c κ) (e ∙ ap (key_of_held is_interleaved shift) s)
  without_among (f ∷ es) c κ h (inr a) e = go (decide κ (key_of_held is_interleaved shift f)) (without_among es c κ h a e)
    where
      go : (d : (κ ≡ key_of_held is_interleaved shift f) ⊎ (κ ≡ key_of_held is_interleaved shift f → ⊥)) → without es c κ ≡ None → pick d None (without es c κ) ≡ None
      go (inl y) ih = refl
      go (inr n) ih = ih

  pub without_apart : (es : List Held) (c : KeyOf is_interleaved → Option Chunk) (κ : KeyOf is_interleaved) → ((h : Held) → IsAmong h es → κ ≡ key_of_held is_interleaved shift h → ⊥) → without es c κ ≡ c κ
  without_apart [] c κ apart = refl
  without_apart (f ∷ es) c κ apart = pick_no (decide κ (key_of_held is_interleaved shift f)) None (without es c κ) (apart f (inl refl)) ∙ without_apart es c κ (λ h a. apart h (inr a))

  pub without_some : (es : List Held) (c : KeyOf is_interleaved → Option Chunk) (κ : KeyOf is_interleaved) (w : Chunk) → without es c κ ≡ Some w → (c κ ≡ Some w) × ((h : Held) → IsAmong h es → κ ≡ key_of_held is_interleaved shift h → ⊥)
  without_some [] c κ w e = (e, λ h a. absurd a)
  without_some (f ∷ es) c κ w e = go (decide κ (key_of_held is_interleaved shift f)) (without_some es c κ w) e
    where
      go : (d : (κ ≡ key_of_held is_interleaved shift f) ⊎ (κ ≡ key_of_held is_interleaved shift f → ⊥))
          → (without es c κ ≡ Some w → (c κ ≡ Some w) × ((h : Held) → IsAmong h es → κ ≡ key_of_held is_interleaved shift h → ⊥)) → pick d None (without es c κ) ≡ Some w → (c κ ≡ Some w) × ((h : Held) → IsAmong h (f ∷ es) → κ ≡ key_of_held is_interleaved shift h → ⊥)
      go (inl y) ih e = absurd (none-some w e)
      go (inr n) ih e =
          let r = ih e in
          (r.0, λ h a. elim a [ inl s ↦ (λ k. n (k ∙ ap (key_of_held is_interleaved shift) s)) | inr b ↦ r.1 h b ])
