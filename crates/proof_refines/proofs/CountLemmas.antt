-- There are no more numbers than accepted messages.
use Rattle.std.proofs.Common.{◌≡◌, ℕ, zero, suc, ◌≤◌, Bool, true, inl, inr, refl, sym, ap, arith}
use Rattle.std.proofs.lemmas.Bool.{cases_order}
use Rattle.proof_protocol.specs.State.{Message, Sender, ordered_of, stream_of}
use Rattle.proof_protocol.specs.Invariant.{Outgoing}

module _ (message : ℕ → Message) (o : Sender) (out : Outgoing message o) where
  number_within : (n p : ℕ) → o.begun p ≡ true → o.number p ≡ n → n ≤ p
  number_within zero p b e = omega arith
  number_within (suc n) p b e =
      let c = out.counted p b in
      let y = out.dense (ordered_of message p) (stream_of message p) n (omega (arith, c, e)) in
      let ih = number_within n y.0 y.1 y.4 in
      let m = y.4 in
      elim (cases_order y.0 p) [
        | inl f ↦ let g = ap o.number f in absurd (omega (arith, g, m, e))
        | inr (inl l) ↦ omega (arith, ih, l)
        | inr (inr l) ↦ let r = out.rises p y.0 b y.1 (sym y.2) (sym y.3) l in absurd (omega (arith, r, m, e))
      ]

  pub counts_within : (kind : Bool) (s : ℕ) → o.counts kind s ≤ o.accepted
  counts_within kind s = go (o.counts kind s) refl
    where
      go : (n : ℕ) → o.counts kind s ≡ n → n ≤ o.accepted
      go zero e = omega arith
      go (suc n) e =
          let y = out.dense kind s n (omega (arith, e)) in
          let a = number_within n y.0 y.1 y.4 in
          let b = out.begun_below y.0 y.1 in
          omega (arith, a, b)

  pub following_within : (kind : Bool) (s : ℕ) → o.following kind s ≤ o.accepted
  following_within kind s = let f = out.following_counts kind s in let c = counts_within kind s in omega (arith, f, c)
