-- A fragment that was not seen comes.
use Rattle.std.proofs.Common.{◌≡◌, ◌≢◌, ℕ, ◌<◌, true, false, inl, inr, sym, ap, ◌∙◌, subst, arith}
use Rattle.std.proofs.lemmas.Bool.{cases_eq, cases_Bool}
use Rattle.proof_protocol.specs.State.{Message, Sender, Receiver, fragment, place_of, count, has, stream_of, ordered_of}
use Rattle.proof_protocol.specs.Rules.{takes, marks, floor}
use Rattle.proof_protocol.specs.Invariant.{Outgoing, Incoming, IsPassed}
use Rattle.proof_protocol.proofs.ToolsLemmas.{put_at, put_off, put_true, put_keeps, not_both}
use Rattle.proof_protocol.proofs.LaterLemmas.{Onward}

module _ (message : ℕ → Message) (o : Sender) (i : Receiver) (inc : Incoming message o i) (t : ℕ) (within : t < count o)
    (real : (fragment o t).placeholder ≡ false) (fresh : i.seen t ≡ false) where
  pub takes_onward : Onward message i (takes i t)
  takes_onward = record { seen_stays = λ u h. put_keeps i.seen t u h; ready_stays = λ p h. h; next_stays = λ s. omega arith }

  pub takes_incoming : Incoming message o (takes i t)
  takes_incoming = record {
    seen_below = λ u h. elim (put_true i.seen t u h) [ inl e ↦ subst (λ z. z < count o) (sym e) within | inr s ↦ inc.seen_below u s ];
    held_seen = λ u h. elim (put_true i.held t u h) [ inl e ↦ put_at i.seen t true u e | inr s ↦ put_keeps i.seen t u (inc.held_seen u s) ];
    held_real = λ u h. elim (put_true i.held t u h) [ inl e ↦ ap (λ z. (fragment o z).placeholder) e ∙ real | inr s ↦ inc.held_real u s ];
    passed = λ u s h.
        elim (cases_eq u t) [
          | inl e ↦ absurd (not_both (put_at i.held t true u e) h)
          | inr d ↦ inc.passed u (sym (put_off i.seen t true u d) ∙ s) (sym (put_off i.held t true u d) ∙ h)
        ];
    below_next = inc.below_next;
    below_passed = inc.below_passed;
    passed_counts = inc.passed_counts;
    next_counts = inc.next_counts;
    ready_below = inc.ready_below;
    ready_parts = λ u h r.
        let x = inc.ready_parts u h r in
        let d : u ≢ t = λ e. not_both (sym (ap i.seen e) ∙ x.0) fresh in
        (put_keeps i.seen t u x.0, put_off i.held t true u d ∙ x.1);
    ready_begun = inc.ready_begun;
    ready_ended = inc.ready_ended;
    alike = inc.alike;
    apart = inc.apart;
  }

-- a fragment of a message that was given up comes too late
module _ (message : ℕ → Message) (o : Sender) (i : Receiver) (inc : Incoming message o i) (t : ℕ) (within : t < count o) (fresh : i.seen t ≡ false)
    (given : IsPassed message o i (place_of o t)) where
  pub marks_onward : Onward message i (marks i t)
  marks_onward = record { seen_stays = λ u h. put_keeps i.seen t u h; ready_stays = λ p h. h; next_stays = λ s. omega arith }

  pub marks_incoming : Incoming message o (marks i t)
  marks_incoming = record {
    seen_below = λ u h. elim (put_true i.seen t u h) [ inl e ↦ subst (λ z. z < count o) (sym e) within | inr s ↦ inc.seen_below u s ];
    held_seen = λ u h. put_keeps i.seen t u (inc.held_seen u h);
    held_real = inc.held_real;
    passed = λ u s h.
        elim (cases_eq u t) [
          | inl e ↦ inr (subst (λ z. IsPassed message o i (place_of o z)) (sym e) given)
          | inr d ↦ inc.passed u (sym (put_off i.seen t true u d) ∙ s) h
        ];
    below_next = inc.below_next;
    below_passed = inc.below_passed;
    passed_counts = inc.passed_counts;
    next_counts = inc.next_counts;
    ready_below = inc.ready_below;
    ready_parts = λ u h r. let x = inc.ready_parts u h r in (put_keeps i.seen t u x.0, x.1);
    ready_begun = inc.ready_begun;
    ready_ended = inc.ready_ended;
    alike = inc.alike;
    apart = inc.apart;
  }

-- a number below the floor is that of a message that became ready or was given up, and its fragment was not seen
pub late_passed : (message : ℕ → Message) (o : Sender) (out : Outgoing message o) (i : Receiver) → Incoming message o i → (t : ℕ) → t < count o → i.seen t ≡ false
    → o.number (place_of o t) < floor i (ordered_of message (place_of o t)) (stream_of message (place_of o t)) → IsPassed message o i (place_of o t)
late_passed message o out i inc t h fresh below =
    let p = place_of o t in
    let begun = out.place_begun t h in
    let unready : has p i.places ≡ true → ⊥ = (λ r. not_both (inc.ready_parts t h r).0 fresh) in
    elim (cases_Bool (ordered_of message p)) [
      | inl k ↦
          let b : o.number p < i.next (stream_of message p) = subst (λ z. o.number p < floor i z (stream_of message p)) k below in
          (elim (inc.below_next p begun k b) [ inl r ↦ absurd (unready r) | inr g ↦ g ], λ e. b)
      | inr k ↦
          let b : o.number p < i.passed_below (stream_of message p) = subst (λ z. o.number p < floor i z (stream_of message p)) k below in
          (elim (inc.below_passed p begun k b) [ inl r ↦ absurd (unready r) | inr g ↦ g ], λ e. absurd (not_both e k))
    ]
