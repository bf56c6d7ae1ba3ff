-- A SACK is sent.
use Rattle.std.proofs.Common.{◌≡◌, ℕ, ◌<◌, Bool, true, false, inl, inr, refl, sym, ap, ◌∙◌, subst, arith}
use Rattle.std.proofs.lemmas.Bool.{cases_order, cases_Bool}
use Rattle.proof_protocol.specs.State.{Message, Sender, Receiver, fragment, place_of, count, has, ordered_of, stream_of}
use Rattle.proof_protocol.specs.Rules.{Complete, IsRipe}
use Rattle.proof_protocol.specs.Invariant.{Outgoing, Incoming, IsPassed, SackTrue}
use Rattle.proof_protocol.proofs.ToolsLemmas.{not_both}
use Rattle.proof_protocol.proofs.DeliverLemmas.{lower_place}

-- the end of an earlier message of the stream stands before the later message's fragments
module _ (message : ℕ → Message) (o : Sender) (out : Outgoing message o) where
  pub end_before : (q p t : ℕ) → o.begun q ≡ true → q < p → stream_of message q ≡ stream_of message p → t < count o → place_of o t ≡ p
      → (u : ℕ) × (u < t) × (place_of o u ≡ q) × ((fragment o u).is_end ≡ true)
  end_before q p t bq l s h e =
      let bp = sym (ap o.begun e) ∙ out.place_begun t h in
      let np = (out.settled p q bp l s).not_partly in
      let x = out.ended q bq np in
      let eu = x.2 in
      elim (cases_order x.0 t) [
        | inl f ↦ let g = sym eu ∙ (ap (place_of o) f ∙ e) in absurd (omega (arith, g, l))
        | inr (inl a) ↦ (x.0, a, x.2, x.3)
        | inr (inr b) ↦
            let m = out.fifo t x.0 b x.1 (ap (stream_of message) e ∙ (sym s ∙ sym (ap (stream_of message) eu))) in
            absurd (omega (arith, m, e, eu, l))
      ]

module _ (message : ℕ → Message) (is_interleaved : Bool) (o : Sender) (out : Outgoing message o) (i : Receiver) (inc : Incoming message o i)
    (c : ℕ) (all_seen : (t : ℕ) → t < c → i.seen t ≡ true) (full : (p : ℕ) → IsRipe message o i p → ⊥) where
  -- a message whose end is below, which neither became ready nor passed, is complete
  complete : (p t : ℕ) → t < c → place_of o t ≡ p → (fragment o t).is_end ≡ true → has p i.places ≡ false → (IsPassed message o i p → ⊥) → Complete message o i p
  complete p t h e l n g = record {
    ended = (t, inc.seen_below t (all_seen t h), e, l);
    all_held = λ u hu eu.
        let le = out.last_ends t u (inc.seen_below t (all_seen t h)) hu (e ∙ sym eu) l in
        let s = all_seen u (omega (arith, le, h)) in
        elim (cases_Bool (i.held u)) [
          | inl y ↦ y
          | inr y ↦
              elim (inc.passed u s y) [
                | inl r ↦ absurd (not_both r (ap (λ z. has z i.places) eu ∙ n))
                | inr x ↦ absurd (g (subst (λ z. IsPassed message o i z) eu x))
              ]
        ];
  }

  -- no ordered message that ends below is the next
  not_next : (p t : ℕ) → t < c → place_of o t ≡ p → (fragment o t).is_end ≡ true → ordered_of message p ≡ true → o.number p ≡ i.next (stream_of message p) → ⊥
  not_next p t h e l k n =
      elim (cases_Bool (has p i.places)) [
        | inl r ↦ let y = inc.ready_below p r k in absurd (omega (arith, y, n))
        | inr r ↦ full p (record { complete = complete p t h e l r (λ w. let v = w.1 k in absurd (omega (arith, v, n))); in_turn = λ _. n })
      ]

  behind : (p t : ℕ) → t < c → place_of o t ≡ p → (fragment o t).is_end ≡ true → ordered_of message p ≡ true → o.number p < i.next (stream_of message p)
  behind p t h e l k =
      elim (cases_order (o.number p) (i.next (stream_of message p))) [
        | inl n ↦ absurd (not_next p t h e l k n)
        | inr (inl a) ↦ a
        | inr (inr g) ↦
            let ht = inc.seen_below t (all_seen t h) in
            let b = sym (ap o.begun e) ∙ out.place_begun t ht in
            let n = subst (λ z. o.number p < o.counts z (stream_of message p)) k (out.counted p b) in
            let d = out.dense true (stream_of message p) (i.next (stream_of message p)) (omega (arith, g, n)) in
            let nq = d.4 in
            let lt = lower_place message o out d.0 p d.1 b (d.2 ∙ sym k) d.3 (omega (arith, nq, g)) in
            let z = end_before message o out d.0 p t d.1 lt d.3 ht e in
            let zl = z.1 in
            absurd (not_next d.0 z.0 (omega (arith, zl, h)) z.2 z.3 d.2 (d.4 ∙ ap i.next (sym d.3)))
      ]

  pub sack_true : SackTrue message o i c
  sack_true = record {
    all_seen = all_seen;
    done = λ t h l.
        let p = place_of o t in
        elim (cases_Bool (o.given_up p)) [
          | inl g ↦ inr g
          | inr ng ↦
              elim (cases_Bool (has p i.places)) [
                | inl r ↦ inl r
                | inr nr ↦
                    let x = complete p t h refl l nr (λ w. not_both w.0 ng) in
                    elim (cases_Bool (ordered_of message p)) [
                      | inl k ↦ inc.below_next p (out.place_begun t (inc.seen_below t (all_seen t h))) k (behind p t h refl l k)
                      | inr k ↦ absurd (full p (record { complete = x; in_turn = λ y. absurd (not_both y k) }))
                    ]
              ]
        ];
    behind = λ t h l k. behind (place_of o t) t h refl l k;
  }
