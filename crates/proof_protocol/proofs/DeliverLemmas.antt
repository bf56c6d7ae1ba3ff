-- A message becomes ready.
use Rattle.std.proofs.Common.{◌≡◌, ◌≢◌, ℕ, suc, ◌<◌, ◌≤◌, Bool, true, false, not, ◌&&◌, ◌⊎◌, inl, inr, [], ◌∷◌, ◌++◌, length, get_or, map, sym, ap, ◌∙◌, subst, arith, eqb}
use Rattle.std.proofs.lemmas.Bool.{cases_eq, cases_order, cases_Bool, eq-eqb, eqb-true, and_from, and_parts, and_cases, and_left, and_right, cond-true, cond-false, not-false, not_from_true, false_from_ne_true}
use Rattle.std.proofs.lemmas.List.{map_push}
use Rattle.proof_protocol.specs.State.{Message, Sender, Receiver, ReadyMessage, place_of, count, has, gather, ordered_of, stream_of}
use Rattle.proof_protocol.specs.Rules.{IsRipe, makes_ready}
use Rattle.proof_protocol.specs.Claims.{ready_message}
use Rattle.proof_protocol.specs.Invariant.{Outgoing, Incoming, IsDone, Apart}
use Rattle.proof_protocol.proofs.ToolsLemmas.{not_both, has_push, has_keeps, has_last, has_at, pairs_push}
use Rattle.proof_protocol.proofs.LaterLemmas.{Onward}

-- on a stream, a number belongs to one ordered message
module _ (message : ℕ → Message) (o : Sender) (out : Outgoing message o) where
  pub one_place : (p q : ℕ) → o.begun p ≡ true → o.begun q ≡ true → ordered_of message p ≡ ordered_of message q → stream_of message p ≡ stream_of message q → o.number p ≡ o.number q → p ≡ q
  one_place p q bp bq k s n =
      elim (cases_order p q) [
        | inl e ↦ e
        | inr (inl l) ↦ let r = out.rises p q bp bq k s l in absurd (omega (arith, n, r))
        | inr (inr g) ↦ let r = out.rises q p bq bp (sym k) (sym s) g in absurd (omega (arith, n, r))
      ]

  pub lower_place : (p q : ℕ) → o.begun p ≡ true → o.begun q ≡ true → ordered_of message p ≡ ordered_of message q → stream_of message p ≡ stream_of message q → o.number p < o.number q → p < q
  lower_place p q bp bq k s n =
      elim (cases_order p q) [
        | inl e ↦ let h = ap o.number e in absurd (omega (arith, n, h))
        | inr (inl l) ↦ l
        | inr (inr g) ↦ let r = out.rises q p bq bp (sym k) (sym s) g in absurd (omega (arith, n, r))
      ]

module _ (message : ℕ → Message) (is_interleaved : Bool) (o : Sender) (out : Outgoing message o) (i : Receiver) (inc : Incoming message o i) (p : ℕ) (ripe : IsRipe message o i p) where
  abbrev new : Receiver
  new = makes_ready message o i p

  begun : o.begun p ≡ true
  begun = let e = ripe.complete.ended in sym (ap o.begun e.2) ∙ out.place_begun e.0 e.1

  ended : o.partly p ≡ false
  ended =
      let e = ripe.complete.ended in
      false_from_ne_true (o.partly p) (λ h. not_both e.3 (out.partly_no_last e.0 e.1 (ap o.partly e.2 ∙ h)))

  not_ready : has p i.places ≡ true → ⊥
  not_ready h =
      let e = ripe.complete.ended in
      not_both (ripe.complete.all_held e.0 e.1 e.2) (inc.ready_parts e.0 e.1 (ap (λ z. has z i.places) e.2 ∙ h)).1

  at_stream : (s : ℕ) → (ordered_of message p && eqb s (stream_of message p)) ≡ true → new.next s ≡ suc (o.number p)
  at_stream s h = cond-true (ordered_of message p && eqb s (stream_of message p)) (suc (o.number p)) (i.next s) h

  off_stream : (s : ℕ) → (ordered_of message p && eqb s (stream_of message p)) ≡ false → new.next s ≡ i.next s
  off_stream s h = cond-false (ordered_of message p && eqb s (stream_of message p)) (suc (o.number p)) (i.next s) h

  next_up : (s : ℕ) → i.next s ≤ new.next s
  next_up s =
      elim (cases_Bool (ordered_of message p && eqb s (stream_of message p))) [
        | inl h ↦
            let ab = and_parts (ordered_of message p) (eqb s (stream_of message p)) h in
            let a = at_stream s h in
            let n = ripe.in_turn ab.0 ∙ ap i.next (sym (eqb-true s (stream_of message p) ab.1)) in
            omega (arith, a, n)
        | inr h ↦ let a = off_stream s h in omega (arith, a)
      ]

  old_ready : (q : ℕ) → has q i.places ≡ true → has q new.places ≡ true
  old_ready q h = has_keeps q i.places (p ∷ []) h

  done_up : (q : ℕ) → IsDone o i q → IsDone o new q
  done_up q d = elim d [ inl r ↦ inl (old_ready q r) | inr g ↦ inr g ]

  passed : (t : ℕ) → i.seen t ≡ true → new.held t ≡ false → (has (place_of o t) new.places ≡ true) ⊎ ((o.given_up (place_of o t) ≡ true) × (ordered_of message (place_of o t) ≡ true → o.number (place_of o t) < new.next (stream_of message (place_of o t))))
  passed t s h =
      elim (and_cases (i.held t) (not (eqb (place_of o t) p)) h) [
        | inl a ↦
            elim (inc.passed t s a) [
              | inl r ↦ inl (old_ready (place_of o t) r)
              | inr x ↦ inr (x.0, λ k. let b = x.1 k in let u = next_up (stream_of message (place_of o t)) in omega (arith, b, u))
            ]
        | inr b ↦
            let e = eqb-true (place_of o t) p (not-false (eqb (place_of o t) p) b) in
            inl (subst (λ z. has z new.places ≡ true) (sym e) (has_last p i.places))
      ]

  below_next : (q : ℕ) → o.begun q ≡ true → ordered_of message q ≡ true → o.number q < new.next (stream_of message q) → IsDone o new q
  below_next q b k n =
      elim (cases_Bool (ordered_of message p && eqb (stream_of message q) (stream_of message p))) [
        | inr h ↦ done_up q (inc.below_next q b k (subst (λ z. o.number q < z) (off_stream (stream_of message q) h) n))
        | inl h ↦
            let ab = and_parts (ordered_of message p) (eqb (stream_of message q) (stream_of message p)) h in
            let s = eqb-true (stream_of message q) (stream_of message p) ab.1 in
            let a = at_stream (stream_of message q) h in
            elim (cases_eq (o.number q) (o.number p)) [
              | inl e ↦ inl (subst (λ z. has z new.places ≡ true) (sym (one_place message o out q p b begun (k ∙ sym ab.0) s e)) (has_last p i.places))
              | inr d ↦
                  let t = ripe.in_turn ab.0 ∙ ap i.next (sym s) in
                  let l : o.number q < i.next (stream_of message q) = omega (arith, n, a, d, t) in
                  done_up q (inc.below_next q b k l)
            ]
      ]

  next_counts : (s : ℕ) → new.next s ≤ o.counts true s
  next_counts s =
      elim (cases_Bool (ordered_of message p && eqb s (stream_of message p))) [
        | inr h ↦ let a = off_stream s h in let b = inc.next_counts s in omega (arith, a, b)
        | inl h ↦
            let ab = and_parts (ordered_of message p) (eqb s (stream_of message p)) h in
            let a = at_stream s h in
            let c = subst (λ z. o.number p < o.counts z (stream_of message p)) ab.0 (out.counted p begun) in
            let c' = subst (λ z. o.number p < o.counts true z) (sym (eqb-true s (stream_of message p) ab.1)) c in
            omega (arith, a, c')
      ]

  ready_below : (q : ℕ) → has q new.places ≡ true → ordered_of message q ≡ true → o.number q < new.next (stream_of message q)
  ready_below q r k =
      elim (has_push q i.places p r) [
        | inl a ↦ let b = inc.ready_below q a k in let u = next_up (stream_of message q) in omega (arith, b, u)
        | inr e ↦
            let t = and_from (ordered_of message p) (eqb (stream_of message q) (stream_of message p)) (sym (ap (ordered_of message) e) ∙ k) (eq-eqb (stream_of message q) (stream_of message p) (ap (stream_of message) e)) in
            let a = at_stream (stream_of message q) t in
            let n = ap o.number e in
            omega (arith, a, n)
      ]

  ready_parts : (t : ℕ) → t < count o → has (place_of o t) new.places ≡ true → (i.seen t ≡ true) × (new.held t ≡ false)
  ready_parts t h r =
      elim (has_push (place_of o t) i.places p r) [
        | inl a ↦ let x = inc.ready_parts t h a in (x.0, and_left (i.held t) (not (eqb (place_of o t) p)) x.1)
        | inr e ↦ (
          inc.held_seen t (ripe.complete.all_held t h e),
          and_right (i.held t) (not (eqb (place_of o t) p)) (not_from_true (eqb (place_of o t) p) (eq-eqb (place_of o t) p e)),
        )
      ]

  whole : gather p o.numbered ≡ (message p).payload
  whole =
      let e = ripe.complete.ended in
      let w = out.whole e.0 e.1 e.3 (inc.held_real e.0 (ripe.complete.all_held e.0 e.1 e.2)) in
      subst (λ z. gather z o.numbered ≡ (message z).payload) e.2 w

  alike : new.ready ≡ map (ready_message message) new.places
  alike =
      let y : ReadyMessage = record { stream = stream_of message p; protocol_id = (message p).protocol_id; payload = gather p o.numbered } in
      let e : y ≡ ready_message message p = ap (λ z. record { stream = stream_of message p; protocol_id = (message p).protocol_id; payload = z }) whole in
      ap (λ z. i.ready ++ z ∷ []) e ∙ (ap (λ z. z ++ ready_message message p ∷ []) inc.alike ∙ sym (map_push (ready_message message) i.places p))

  apart : (j k : ℕ) → j < k → k < length new.places → Apart message (get_or new.places j 0) (get_or new.places k 0)
  apart = pairs_push 0 (Apart message) i.places p inc.apart (λ k h.
      let q = get_or i.places k 0 in
      let r = has_at i.places k h in
      let d : q ≢ p = λ e. not_ready (subst (λ z. has z i.places ≡ true) e r) in
      record {
        distinct = d;
        rising = λ kq kp s.
            let n = inc.ready_below q r kq in
            let t = ripe.in_turn kp ∙ ap i.next (sym s) in
            let l : o.number q < o.number p = omega (arith, n, t) in
            lower_place message o out q p (inc.ready_begun q r) begun (kq ∙ sym kp) s l;
      })

  pub delivers_onward : Onward message i new
  delivers_onward = record { seen_stays = λ u h. h; ready_stays = old_ready; next_stays = next_up }

  pub delivers_incoming : Incoming message o new
  delivers_incoming = record {
    seen_below = inc.seen_below;
    held_seen = λ t h. inc.held_seen t (and_parts (i.held t) (not (eqb (place_of o t) p)) h).0;
    held_real = λ t h. inc.held_real t (and_parts (i.held t) (not (eqb (place_of o t) p)) h).0;
    passed = passed;
    below_next = below_next;
    below_passed = λ q b k n. done_up q (inc.below_passed q b k n);
    passed_counts = inc.passed_counts;
    next_counts = next_counts;
    ready_below = ready_below;
    ready_parts = ready_parts;
    ready_begun = λ q r. elim (has_push q i.places p r) [ inl a ↦ inc.ready_begun q a | inr e ↦ ap o.begun e ∙ begun ];
    ready_ended = λ q r. elim (has_push q i.places p r) [ inl a ↦ inc.ready_ended q a | inr e ↦ ap o.partly e ∙ ended ];
    alike = alike;
    apart = apart;
  }
