-- A forward point is sent.
use Rattle.std.proofs.Common.{◌≡◌, ℕ, zero, suc, ◌+◌, ◌-◌, ◌<◌, ◌≤◌, Bool, true, false, ◌⊎◌, inl, inr, refl, sym, ap, ◌∙◌, subst, arith}
use Rattle.std.proofs.lemmas.Bool.{cases_lt, cases_eq, cases_Bool, or_left}
use Rattle.proof_protocol.specs.State.{Message, ForwardPoint, Sender, Receiver, fragment, place_of, count, ordered_of, stream_of}
use Rattle.proof_protocol.specs.Rules.{IsDue, covers}
use Rattle.proof_protocol.specs.Invariant.{Outgoing, InRuns, IsDone, SackTrue, ForwardTrue}
use Rattle.proof_protocol.proofs.DeliverLemmas.{one_place, lower_place}
use Rattle.proof_protocol.proofs.SackLemmas.{end_before}

-- without interleaving, a message goes on until its end
module _ (message : ℕ → Message) (o : Sender) (r : InRuns message o) (t : ℕ) where
  pub goes_on : (d : ℕ) → t + d < count o
      → ((u : ℕ) × (u < t + d) × (place_of o u ≡ place_of o t) × ((fragment o u).is_end ≡ true) × (t ≤ u)) ⊎ (place_of o (t + d) ≡ place_of o t)
  goes_on zero h = let e : t + 0 ≡ t = omega arith in inr (ap (place_of o) e)
  goes_on (suc d) h =
      let hd : t + d < count o = omega (arith, h) in
      let es : t + suc d ≡ suc (t + d) = omega arith in
      elim (goes_on d hd) [
        | inl x ↦ let a = x.1 in inl (x.0, omega (arith, a), x.2, x.3, x.4)
        | inr e ↦
            elim (cases_Bool ((fragment o (t + d)).is_end)) [
              | inl l ↦ inl (t + d, omega arith, e, l, omega arith)
              | inr nl ↦ inr (ap (place_of o) es ∙ (r.next_same (t + d) (omega (arith, h)) nl ∙ e))
            ]
      ]

module _ (message : ℕ → Message) (is_interleaved : Bool) (o : Sender) (out : Outgoing message o) (i : Receiver) (runs : is_interleaved ≡ false → InRuns message o)
    (left : ℕ) (lt : SackTrue message o i left) (f : ForwardPoint) (due : IsDue message is_interleaved o left f) where
  named_done : (p : ℕ) → o.begun p ≡ true → covers f.entries (ordered_of message p) (stream_of message p) (o.number p) ≡ true → IsDone o i p
  named_done p b c =
      let x = due.sound (ordered_of message p) (stream_of message p) (o.number p) c in
      let q = place_of o x.0 in
      let up = x.2 in
      let w = due.within in
      let h : x.0 < count o = omega (arith, up, w) in
      let bq = out.place_begun x.0 h in
      elim (cases_eq (o.number p) (o.number q)) [
        | inl e ↦ inr (ap o.given_up (one_place message o out p q b bq (sym x.3) (sym x.4) e) ∙ due.all_given_up x.0 x.1 x.2)
        | inr d ↦
            let le = x.5 in
            let l = lower_place message o out p q b bq (sym x.3) (sym x.4) (omega (arith, le, d)) in
            let y = end_before message o out p q x.0 b l (sym x.4) h refl in
            elim (cases_lt y.0 left) [
              | inl a ↦ subst (λ z. IsDone o i z) y.2 (lt.done y.0 a y.3)
              | inr g ↦ let yl = y.1 in inr (sym (ap o.given_up y.2) ∙ due.all_given_up y.0 g (omega (arith, yl, up)))
            ]
      ]

  unordered_done : is_interleaved ≡ false → (t : ℕ) → t < f.upto → ordered_of message (place_of o t) ≡ false → IsDone o i (place_of o t)
  unordered_done m t h k =
      elim (cases_lt t left) [
        | inr g ↦ inr (due.all_given_up t g h)
        | inl l ↦
            let e : t + (left - t) ≡ left = omega (arith, l) in
            let a = due.ahead in
            let w = due.within in
            elim (goes_on message o (runs m) t (left - t) (omega (arith, e, a, w))) [
              | inl x ↦ let xl = x.1 in subst (λ z. IsDone o i z) x.2 (lt.done x.0 (omega (arith, xl, e)) x.3)
              | inr y ↦
                  let z = sym (ap (place_of o) e) ∙ y in
                  inr (sym (ap o.given_up z) ∙ due.all_given_up left (omega arith) a)
            ]
      ]

  pub forward_true : ForwardTrue message is_interleaved o i f
  forward_true = record {
    within = due.within;
    seen_or_given_up = λ t h.
        elim (cases_lt t left) [
          | inl l ↦ inl (lt.all_seen t l)
          | inr g ↦ inr (
            due.all_given_up t g h,
            λ k.
                subst (λ z. covers f.entries z (stream_of message (place_of o t)) (o.number (place_of o t)) ≡ true) k
                (due.touched t g h (or_left (ordered_of message (place_of o t)) is_interleaved k)),
          )
        ];
    named_done = named_done;
    named_counts = λ kind s n c.
        let x = due.sound kind s n c in
        let q = place_of o x.0 in
        let up = x.2 in
        let w = due.within in
        let h : x.0 < count o = omega (arith, up, w) in
        let a = out.counted q (out.place_begun x.0 h) in
        let a1 = subst (λ z. o.number q < o.counts z (stream_of message q)) x.3 a in
        let a2 = subst (λ z. o.number q < o.counts kind z) x.4 a1 in
        let le = x.5 in
        omega (arith, a2, le);
    only_ordered = due.only_ordered;
    unordered_done = unordered_done;
    reach = λ s n c.
        let x = due.sound true s n c in
        record {
          at = x.0;
          below = x.2;
          is_ordered = x.3;
          on_stream = x.4;
          above = x.5;
          further = λ t lo hi kt st.
              let from = x.1 in
              let a = due.touched t (omega (arith, lo, from)) hi (or_left (ordered_of message (place_of o t)) is_interleaved kt) in
              subst (λ z. covers f.entries true z (o.number (place_of o t)) ≡ true) st (subst (λ z. covers f.entries z (stream_of message (place_of o t)) (o.number (place_of o t)) ≡ true) kt a);
        };
  }
