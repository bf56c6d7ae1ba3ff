-- A stream is reset: all its fragments are seen, and nothing is left to make ready or partly sent.
use Rattle.std.proofs.Common.{◌≡◌, ℕ, ◌<◌, ◌≤◌, Bool, true, false, not, ◌⊎◌, inl, inr, ap, ◌∙◌, subst, arith, eqb}
use Rattle.std.proofs.lemmas.Bool.{cases_lt, cases_eq, and_parts, and_left, and_right, and_cases, eqb-true, eq-eqb, not-false, not_from_true}
use Rattle.proof_protocol.specs.State.{Message, Sender, Receiver, fragment, place_of, count, has, stream_of, ordered_of}
use Rattle.proof_protocol.specs.Rules.{IsResettable, performs_reset}
use Rattle.proof_protocol.specs.Invariant.{Outgoing, Incoming, IsDone, IsPassed, SackTrue}
use Rattle.proof_protocol.proofs.ToolsLemmas.{put_at, put_off}
use Rattle.proof_protocol.proofs.SackLemmas.{sack_true}
use Rattle.proof_protocol.proofs.LaterLemmas.{Onward}

module _ (message : ℕ → Message) (is_interleaved : Bool) (o : Sender) (out : Outgoing message o) (i : Receiver) (inc : Incoming message o i)
    (s c : ℕ) (r : IsResettable message o i s c) where
  truth : SackTrue message o i c
  truth = sack_true message is_interleaved o out i inc c r.all_seen r.none_ripe

  -- the end of a numbered message of the stream
  end_at : (p : ℕ) → o.begun p ≡ true → stream_of message p ≡ s → (t : ℕ) × (t < c) × (place_of o t ≡ p) × ((fragment o t).is_end ≡ true)
  end_at p b e =
      let z = out.ended p b (r.none_partly p e) in
      (z.0, r.all_below z.0 z.1 (ap (stream_of message) z.2 ∙ e), z.2, z.3)

  -- the receiver's next number is the sender's count
  pub reset_aligned : i.next s ≡ o.counts true s
  reset_aligned =
      let n = inc.next_counts s in
      elim (cases_lt (i.next s) (o.counts true s)) [
        | inr g ↦ omega (arith, g, n)
        | inl l ↦
            let d = out.dense true s (i.next s) l in
            let z = end_at d.0 d.1 d.3 in
            let v = truth.behind z.0 z.1 z.3 (ap (ordered_of message) z.2 ∙ d.2) in
            let v2 = subst (λ y. o.number (place_of o z.0) < i.next y) (ap (stream_of message) z.2 ∙ d.3) v in
            let e = ap o.number z.2 ∙ d.4 in
            absurd (omega (arith, v2, e))
      ]

  -- each of its numbered messages is ready or given up
  pub reset_done : (p : ℕ) → o.begun p ≡ true → stream_of message p ≡ s → IsDone o i p
  reset_done p b e =
      let z = end_at p b e in
      subst (λ y. IsDone o i y) z.2 (truth.done z.0 z.1 z.3)

  abbrev new : Receiver
  new = performs_reset message o i s

  passed_at : (t : ℕ) → t < count o → stream_of message (place_of o t) ≡ s → (has (place_of o t) i.places ≡ true) ⊎ IsPassed message o i (place_of o t)
  passed_at t h e =
      let b = out.place_begun t h in
      elim (reset_done (place_of o t) b e) [
        | inl y ↦ inl y
        | inr g ↦
            let z = end_at (place_of o t) b e in
            inr (g, λ k. subst (λ y. o.number y < i.next (stream_of message y)) z.2 (truth.behind z.0 z.1 z.3 (ap (ordered_of message) z.2 ∙ k)))
      ]

  passed : (t : ℕ) → i.seen t ≡ true → new.held t ≡ false → (has (place_of o t) i.places ≡ true) ⊎ IsPassed message o i (place_of o t)
  passed t y h =
      elim (and_cases (i.held t) (not (eqb (stream_of message (place_of o t)) s)) h) [
        | inl a ↦ inc.passed t y a
        | inr b ↦ passed_at t (inc.seen_below t y) (eqb-true (stream_of message (place_of o t)) s (not-false (eqb (stream_of message (place_of o t)) s) b))
      ]

  below_passed : (p : ℕ) → o.begun p ≡ true → ordered_of message p ≡ false → o.number p < new.passed_below (stream_of message p) → IsDone o i p
  below_passed p b k n =
      elim (cases_eq (stream_of message p) s) [
        | inl e ↦ reset_done p b e
        | inr d ↦ inc.below_passed p b k (subst (λ z. o.number p < z) (put_off i.passed_below s (o.counts false s) (stream_of message p) d) n)
      ]

  passed_counts : (a : ℕ) → new.passed_below a ≤ o.counts false a
  passed_counts a =
      elim (cases_eq a s) [
        | inl e ↦
            let at = put_at i.passed_below s (o.counts false s) a e in
            let c = ap (o.counts false) e in
            omega (arith, at, c)
        | inr d ↦
            let off = put_off i.passed_below s (o.counts false s) a d in
            let h = inc.passed_counts a in
            omega (arith, off, h)
      ]

  pub forgets_onward : Onward message i new
  forgets_onward = record { seen_stays = λ t h. h; ready_stays = λ p h. h; next_stays = λ a. omega arith }

  pub forgets_incoming : Incoming message o new
  forgets_incoming = record {
    seen_below = inc.seen_below;
    held_seen = λ t h. inc.held_seen t (and_parts (i.held t) (not (eqb (stream_of message (place_of o t)) s)) h).0;
    held_real = λ t h. inc.held_real t (and_parts (i.held t) (not (eqb (stream_of message (place_of o t)) s)) h).0;
    passed = passed;
    below_next = inc.below_next;
    below_passed = below_passed;
    next_counts = inc.next_counts;
    passed_counts = passed_counts;
    ready_below = inc.ready_below;
    ready_parts = λ t h y. let x = inc.ready_parts t h y in (x.0, and_left (i.held t) (not (eqb (stream_of message (place_of o t)) s)) x.1);
    ready_begun = inc.ready_begun;
    ready_ended = inc.ready_ended;
    alike = inc.alike;
    apart = inc.apart;
  }

  -- no fragment of the stream is held
  pub none_held : (t : ℕ) → stream_of message (place_of o t) ≡ s → new.held t ≡ false
  none_held t e = and_right (i.held t) (not (eqb (stream_of message (place_of o t)) s)) (not_from_true (eqb (stream_of message (place_of o t)) s) (eq-eqb (stream_of message (place_of o t)) s e))
