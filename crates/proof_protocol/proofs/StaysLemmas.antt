-- What the receiver knows stays true when the sender goes on, and what was sent stays true.
use Rattle.std.proofs.Common.{◌≡◌, ℕ, ◌<◌, ◌≤◌, Bool, true, false, inl, inr, refl, sym, ap, ◌∙◌, subst, arith}
use Rattle.std.proofs.lemmas.Bool.{cases_lt}
use Rattle.proof_protocol.specs.State.{Message, ForwardPoint, Sender, Receiver, place_of, count, has, ordered_of, stream_of}
use Rattle.proof_protocol.specs.Rules.{covers}
use Rattle.proof_protocol.specs.Invariant.{Outgoing, Incoming, IsDone, IsPassed, SackTrue, ForwardTrue}
use Rattle.proof_protocol.proofs.ToolsLemmas.{not_both}
use Rattle.proof_protocol.proofs.LaterLemmas.{Later, Onward}

module _ (message : ℕ → Message) where
  pub later_same : (o : Sender) → Later message o o
  later_same o = record {
    count_grows = omega arith;
    same_fragment = λ t h. refl;
    given_stays = λ p h. h;
    begun_stays = λ p h. h;
    number_stays = λ p h. refl;
    written_stays = λ p h. refl;
    newly = λ p h. inl h;
    counts_grow = λ kind s. omega arith;
    ended_stays = λ p b e. e;
    new_part = λ t g l. absurd (omega (arith, g, l));
  }

  pub onward_same : (i : Receiver) → Onward message i i
  onward_same i = record { seen_stays = λ t h. h; ready_stays = λ p h. h; next_stays = λ s. omega arith }

module _ (message : ℕ → Message) (o o' : Sender) (out : Outgoing message o) (l : Later message o o') where
  place_same : (t : ℕ) → t < count o → place_of o' t ≡ place_of o t
  place_same t h = ap (λ z. z.place) (l.same_fragment t h)

  number_of : (t : ℕ) → t < count o → o'.number (place_of o t) ≡ o.number (place_of o t)
  number_of t h = l.number_stays (place_of o t) (out.place_begun t h)

  passed_stays : (i : Receiver) (t : ℕ) → t < count o → IsPassed message o i (place_of o t) → IsPassed message o' i (place_of o' t)
  passed_stays i t h x =
      let n = number_of t h in
      let y : IsPassed message o' i (place_of o t) =
      (l.given_stays (place_of o t) x.0, λ k. let b = x.1 k in subst (λ z. z < i.next (stream_of message (place_of o t))) (sym n) b) in
      subst (λ z. IsPassed message o' i z) (sym (place_same t h)) y

  module _ (i : Receiver) (inc : Incoming message o i) where
    old_part : (t : ℕ) → t < count o' → has (place_of o' t) i.places ≡ true → t < count o
    old_part t h r =
        elim (cases_lt t (count o)) [
          | inl a ↦ a
          | inr b ↦ absurd (not_both (l.new_part t b h) (inc.ready_ended (place_of o' t) r))
        ]

    pub incoming_stays : Incoming message o' i
    incoming_stays = record {
      seen_below = λ t h. let a = inc.seen_below t h in let b = l.count_grows in omega (arith, a, b);
      held_seen = inc.held_seen;
      held_real = λ t h. ap (λ z. z.placeholder) (l.same_fragment t (inc.seen_below t (inc.held_seen t h))) ∙ inc.held_real t h;
      passed = λ t s h.
          let b = inc.seen_below t s in
          elim (inc.passed t s h) [
            | inl r ↦ inl (ap (λ z. has z i.places) (place_same t b) ∙ r)
            | inr x ↦ inr (passed_stays i t b x)
          ];
      below_next = λ p b k n.
          elim (l.newly p b) [
            | inl a ↦
                elim (inc.below_next p a k (subst (λ z. z < i.next (stream_of message p)) (l.number_stays p a) n)) [
                  | inl r ↦ inl r
                  | inr g ↦ inr (l.given_stays p g)
                ]
            | inr c ↦
                let c' = subst (λ z. o.counts z (stream_of message p) ≤ o'.number p) k c in
                let m = inc.next_counts (stream_of message p) in
                absurd (omega (arith, c', m, n))
          ];
      below_passed = λ p b k n.
          elim (l.newly p b) [
            | inl a ↦
                elim (inc.below_passed p a k (subst (λ z. z < i.passed_below (stream_of message p)) (l.number_stays p a) n)) [
                  | inl r ↦ inl r
                  | inr g ↦ inr (l.given_stays p g)
                ]
            | inr c ↦
                let c' = subst (λ z. o.counts z (stream_of message p) ≤ o'.number p) k c in
                let m = inc.passed_counts (stream_of message p) in
                absurd (omega (arith, c', m, n))
          ];
      passed_counts = λ s. let a = inc.passed_counts s in let b = l.counts_grow false s in omega (arith, a, b);
      next_counts = λ s. let a = inc.next_counts s in let b = l.counts_grow true s in omega (arith, a, b);
      ready_below = λ p r k. subst (λ z. z < i.next (stream_of message p)) (sym (l.number_stays p (inc.ready_begun p r))) (inc.ready_below p r k);
      ready_parts = λ t h r.
          let b = old_part t h r in
          inc.ready_parts t b (sym (ap (λ z. has z i.places) (place_same t b)) ∙ r);
      ready_begun = λ p r. l.begun_stays p (inc.ready_begun p r);
      ready_ended = λ p r. l.ended_stays p (inc.ready_begun p r) (inc.ready_ended p r);
      alike = inc.alike;
      apart = inc.apart;
    }

    module _ (i' : Receiver) (w : Onward message i i') where
      done_stays : (p : ℕ) → IsDone o i p → IsDone o' i' p
      done_stays p d = elim d [ inl r ↦ inl (w.ready_stays p r) | inr g ↦ inr (l.given_stays p g) ]

      done_at : (t : ℕ) → t < count o → IsDone o i (place_of o t) → IsDone o' i' (place_of o' t)
      done_at t h d = subst (λ z. IsDone o' i' z) (sym (place_same t h)) (done_stays (place_of o t) d)

      pub sack_stays : (c : ℕ) → SackTrue message o i c → SackTrue message o' i' c
      sack_stays c s = record {
        all_seen = λ t h. w.seen_stays t (s.all_seen t h);
        done = λ t h e.
            let b = inc.seen_below t (s.all_seen t h) in
            done_at t b (s.done t h (sym (ap (λ z. z.is_end) (l.same_fragment t b)) ∙ e));
        behind = λ t h e k.
            let b = inc.seen_below t (s.all_seen t h) in
            let p = place_of o t in
            let a = s.behind t h (sym (ap (λ z. z.is_end) (l.same_fragment t b)) ∙ e) (sym (ap (ordered_of message) (place_same t b)) ∙ k) in
            let n = number_of t b in
            let w' = w.next_stays (stream_of message (place_of o t)) in
            let here : o'.number p < i'.next (stream_of message p) = omega (arith, a, n, w') in
            subst (λ z. o'.number z < i'.next (stream_of message z)) (sym (place_same t b)) here;
      }

      pub forward_stays : (is_interleaved : Bool) (f : ForwardPoint) → ForwardTrue message is_interleaved o i f → ForwardTrue message is_interleaved o' i' f
      forward_stays is_interleaved f x = record {
        within = let a = x.within in let b = l.count_grows in omega (arith, a, b);
        seen_or_given_up = λ t h.
            let b : t < count o = (let a = x.within in omega (arith, a, h)) in
            elim (x.seen_or_given_up t h) [
              | inl s ↦ inl (w.seen_stays t s)
              | inr g ↦ inr (
                  subst (λ z. (o'.given_up z ≡ true) × (ordered_of message z ≡ true → covers f.entries true (stream_of message z) (o'.number z) ≡ true)) (sym (place_same t b))
                  (l.given_stays (place_of o t) g.0, λ k. subst (λ z. covers f.entries true (stream_of message (place_of o t)) z ≡ true) (sym (number_of t b)) (g.1 k)))
            ];
        named_done = λ p b c.
            elim (l.newly p b) [
              | inl a ↦ done_stays p (x.named_done p a (subst (λ z. covers f.entries (ordered_of message p) (stream_of message p) z ≡ true) (l.number_stays p a) c))
              | inr d ↦ let e = x.named_counts (ordered_of message p) (stream_of message p) (o'.number p) c in absurd (omega (arith, d, e))
            ];
        named_counts = λ kind s n c. let a = x.named_counts kind s n c in let b = l.counts_grow kind s in omega (arith, a, b);
        only_ordered = x.only_ordered;
        unordered_done = λ m t h k.
            let b : t < count o = (let a = x.within in omega (arith, a, h)) in
            done_at t b (x.unordered_done m t h (sym (ap (ordered_of message) (place_same t b)) ∙ k));
        reach = λ s n c.
            let y = x.reach s n c in
            let w' = x.within in
            let yb = y.below in
            let b : y.at < count o = omega (arith, w', yb) in
            let e = place_same y.at b in
            let num : n ≤ o'.number (place_of o y.at) = (let a = y.above in let m = number_of y.at b in omega (arith, a, m)) in
            record {
              at = y.at;
              below = y.below;
              is_ordered = ap (ordered_of message) e ∙ y.is_ordered;
              on_stream = ap (stream_of message) e ∙ y.on_stream;
              above = subst (λ z. n ≤ o'.number z) (sym e) num;
              further = λ t lo hi kt st.
                  let bt : t < count o = omega (arith, w', hi) in
                  let et = place_same t bt in
                  let old = y.further t lo hi (sym (ap (ordered_of message) et) ∙ kt) (sym (ap (stream_of message) et) ∙ st) in
                  let here = subst (λ z. covers f.entries true s z ≡ true) (sym (number_of t bt)) old in
                  subst (λ z. covers f.entries true s (o'.number z) ≡ true) (sym et) here;
            };
      }
