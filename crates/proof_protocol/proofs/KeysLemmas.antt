-- Fragment numbers are keys without interleaving, and message keys with it.
use Rattle.std.proofs.Common.{◌≡◌, ℕ, suc, ◌+◌, ◌-◌, ◌<◌, Bool, true, false, ◌⊎◌, inl, inr, refl, sym, ap, ◌∙◌, subst, arith, ltb}
use Rattle.std.proofs.lemmas.Bool.{cases_lt, cases_eq, cases_order}
use Rattle.proof_protocol.specs.State.{Message, Sender, fragment, place_of, count, ordered_of, stream_of}
use Rattle.proof_protocol.specs.Reassembly.{MessageKey, KeyLaws, message_key, next_index}
use Rattle.proof_protocol.specs.Invariant.{Outgoing, InRuns}
use Rattle.proof_protocol.specs.Invariant.{IsIndexed}
use Rattle.proof_protocol.proofs.DeliverLemmas.{one_place}
use Rattle.proof_protocol.proofs.DueLemmas.{goes_on}
use Rattle.proof_protocol.proofs.IndexedLemmas.{one_index}

pub decide_Bool : (a b : Bool) → (a ≡ b) ⊎ (a ≡ b → ⊥)
decide_Bool true true = inl refl
decide_Bool true false = inr (λ e. cc)
decide_Bool false true = inr (λ e. cc)
decide_Bool false false = inl refl

key_same : (κ μ : MessageKey) → κ.ordered ≡ μ.ordered → κ.stream ≡ μ.stream → κ.number ≡ μ.number → κ.index ≡ μ.index → κ ≡ μ
key_same κ μ a b c d =
    ap (λ z. let y : MessageKey = record { ordered = z; stream = κ.stream; number = κ.number; index = κ.index } in y) a
    ∙ (ap (λ z. let y : MessageKey = record { ordered = μ.ordered; stream = z; number = κ.number; index = κ.index } in y) b
    ∙ (ap (λ z. let y : MessageKey = record { ordered = μ.ordered; stream = μ.stream; number = z; index = κ.index } in y) c
    ∙ ap (λ z. let y : MessageKey = record { ordered = μ.ordered; stream = μ.stream; number = μ.number; index = z } in y) d))

decide_key : (κ μ : MessageKey) → (κ ≡ μ) ⊎ (κ ≡ μ → ⊥)
decide_key κ μ =
    elim (decide_Bool κ.ordered μ.ordered) [
      | inr n ↦ inr (λ e. n (ap (λ z. z.ordered) e))
      | inl a ↦ elim (cases_eq κ.stream μ.stream) [
        | inr n ↦ inr (λ e. n (ap (λ z. z.stream) e))
        | inl b ↦ elim (cases_eq κ.number μ.number) [
          | inr n ↦ inr (λ e. n (ap (λ z. z.number) e))
          | inl c ↦ elim (cases_eq κ.index μ.index) [
            | inr n ↦ inr (λ e. n (ap (λ z. z.index) e))
            | inl d ↦ inl (key_same κ μ a b c d)
          ]
        ]
      ]
    ]

module _ (message : ℕ → Message) (o : Sender) (out : Outgoing message o) (x : IsIndexed o.numbered) where
  -- with interleaving
  key_place : (t u : ℕ) → t < count o → u < count o → ordered_of message (place_of o t) ≡ ordered_of message (place_of o u) → stream_of message (place_of o t) ≡ stream_of message (place_of o u) → o.number (place_of o t) ≡ o.number (place_of o u) → place_of o t ≡ place_of o u
  key_place t u ht hu k s n = one_place message o out (place_of o t) (place_of o u) (out.place_begun t ht) (out.place_begun u hu) k s n

  pub message_keys : KeyLaws MessageKey next_index true o (message_key message o) (λ κ n. false)
  message_keys = record {
    decide = decide_key;
    one = λ t u ht hu e. one_index o x t u ht hu (key_place t u ht hu (ap (λ z. z.ordered) e) (ap (λ z. z.stream) e) (ap (λ z. z.number) e)) (ap (λ z. z.index) e);
    follows = λ t u ht hu l e. (key_place u t hu ht (ap (λ z. z.ordered) e) (ap (λ z. z.stream) e) (ap (λ z. z.number) e), ap (λ z. z.index) e);
    leads = λ t u ht hu e n. key_same (message_key message o u) (next_index (message_key message o t)) (ap (ordered_of message) e) (ap (stream_of message) e) (ap o.number e) n;
    below_is = λ m t n. cc;
  }

  -- without
  module _ (r : InRuns message o) where
    between : (t u v : ℕ) → t < u → u < v → v < count o → place_of o t ≡ place_of o v → place_of o u ≡ place_of o t
    between t u v l m h e =
        let d : t + (u - t) ≡ u = omega (arith, l) in
        elim (goes_on message o r t (u - t) (omega (arith, d, m, h))) [
          | inl y ↦
              let yl = y.1 in
              let w = out.last_ends y.0 v (omega (arith, yl, d, m, h)) h (y.2 ∙ e) y.3 in
              absurd (omega (arith, w, yl, d, m))
          | inr q ↦ sym (ap (place_of o) d) ∙ q
        ]

    follow : (t : ℕ) → suc t < count o → (fragment o t).is_end ≡ false → (place_of o (suc t) ≡ place_of o t) × ((fragment o (suc t)).index ≡ suc (fragment o t).index)
    follow t h l =
        let e = r.next_same t h l in
        let up = x.index_rises t (suc t) (omega arith) h (sym e) in (
          e,
          elim (cases_lt (suc (fragment o t).index) ((fragment o (suc t)).index)) [
            | inr g ↦ omega (arith, up, g)
            | inl m ↦
                let below = x.index_below (suc t) h in
                let v = x.index_found (place_of o (suc t)) (suc (fragment o t).index) (omega (arith, m, below)) in
                let vi = v.3 in
                elim (cases_order v.0 (suc t)) [
                  | inl s ↦ let n = ap (λ z. (fragment o z).index) s in absurd (omega (arith, n, vi, m))
                  | inr (inr g) ↦ let n = x.index_rises (suc t) v.0 g v.1 (sym v.2) in absurd (omega (arith, n, vi, m))
                  | inr (inl b) ↦
                      elim (cases_eq v.0 t) [
                        | inl s ↦ let n = ap (λ z. (fragment o z).index) s in absurd (omega (arith, n, vi))
                        | inr d ↦ let n = x.index_rises v.0 t (omega (arith, b, d)) (omega (arith, h)) (v.2 ∙ e) in absurd (omega (arith, n, vi))
                      ]
                ]
          ],
        )

    lead : (t u : ℕ) → t < count o → u < count o → place_of o u ≡ place_of o t → (fragment o u).index ≡ suc (fragment o t).index → u ≡ suc t
    lead t u ht hu e n =
        elim (cases_order u t) [
          | inl s ↦ let a = ap (λ z. (fragment o z).index) s in absurd (omega (arith, a, n))
          | inr (inl l) ↦ let a = x.index_rises u t l ht e in absurd (omega (arith, a, n))
          | inr (inr g) ↦
              elim (cases_eq u (suc t)) [
                | inl s ↦ s
                | inr d ↦
                    let gt : suc t < u = omega (arith, g, d) in
                    let p = between t (suc t) u (omega arith) gt hu (sym e) in
                    let a = x.index_rises t (suc t) (omega arith) (omega (arith, gt, hu)) (sym p) in
                    let b = x.index_rises (suc t) u gt hu (p ∙ sym e) in
                    absurd (omega (arith, a, b, n))
              ]
        ]

    pub own_keys : KeyLaws ℕ suc false o (λ t. t) ltb
    own_keys = record {
      decide = cases_eq;
      one = λ t u ht hu e. e;
      follows = λ t u ht hu l e. let f = follow t (subst (λ z. z < count o) e hu) l in (ap (place_of o) e ∙ f.0, ap (λ z. (fragment o z).index) e ∙ f.1);
      leads = lead;
      below_is = λ m t n. refl;
    }
