-- A forward point comes.
use Rattle.std.proofs.Common.{◌≡◌, ℕ, ◌<◌, ◌≤◌, Bool, true, false, not, ◌&&◌, ◌⊎◌, inl, inr, sym, subst, arith, ltb}
use Rattle.std.proofs.lemmas.Bool.{cases_lt, cases_Bool, or_cases, or_right, and_parts, and_left, and_cases, not-true, not-false, ltb-true}
use Rattle.proof_protocol.specs.State.{Message, ForwardPoint, Sender, Receiver, place_of, count, has, ordered_of, stream_of}
use Rattle.proof_protocol.specs.Rules.{covers, drops, skips}
use Rattle.proof_protocol.specs.Invariant.{Outgoing, Incoming, IsDone, ForwardTrue}
use Rattle.proof_protocol.proofs.ToolsLemmas.{not_both, raised_up, raised_covers, raised_cases}
use Rattle.proof_protocol.proofs.LaterLemmas.{Onward}

module _ (message : ℕ → Message) (is_interleaved : Bool) (o : Sender) (out : Outgoing message o) (i : Receiver) (inc : Incoming message o i) (f : ForwardPoint) (ft : ForwardTrue message is_interleaved o i f) where
  abbrev new : Receiver
  new = skips message is_interleaved o i f

  abbrev IsOver : ℕ → Type 0
  IsOver p = (has p i.places ≡ true) ⊎ ((o.given_up p ≡ true) × (ordered_of message p ≡ true → o.number p < new.next (stream_of message p)))

  next_up : (s : ℕ) → i.next s ≤ new.next s
  next_up s = raised_up f.entries true s (i.next s)

  -- it was dropped
  dropped : (t : ℕ) → t < count o → drops message is_interleaved o f t ≡ true → IsOver (place_of o t)
  dropped t h d =
      let p = place_of o t in
      let b = out.place_begun t h in
      elim (or_cases (covers f.entries (ordered_of message p) (stream_of message p) (o.number p)) (not is_interleaved && (not (ordered_of message p) && ltb t f.upto)) d) [
        | inl c ↦
            elim (ft.named_done p b c) [
              | inl r ↦ inl r
              | inr g ↦ inr (g, λ k. raised_covers f.entries true (stream_of message p) (i.next (stream_of message p)) (o.number p) (subst (λ z. covers f.entries z (stream_of message p) (o.number p) ≡ true) k c))
            ]
        | inr a ↦
            let ab = and_parts (not is_interleaved) (not (ordered_of message p) && ltb t f.upto) a in
            let bc = and_parts (not (ordered_of message p)) (ltb t f.upto) ab.1 in
            let un = not-true (ordered_of message p) bc.0 in
            elim (ft.unordered_done (not-true is_interleaved ab.0) t (ltb-true t f.upto bc.1) un) [
              | inl r ↦ inl r
              | inr g ↦ inr (g, λ k. absurd (not_both k un))
            ]
      ]

  -- it was no longer held before
  before : (t : ℕ) → i.seen t ≡ true → i.held t ≡ false → IsOver (place_of o t)
  before t s h =
      elim (inc.passed t s h) [
        | inl r ↦ inl r
        | inr x ↦ inr (x.0, λ k. let b = x.1 k in let u = next_up (stream_of message (place_of o t)) in omega (arith, b, u))
      ]

  passed : (t : ℕ) → new.seen t ≡ true → new.held t ≡ false → IsOver (place_of o t)
  passed t s h =
      elim (and_cases (i.held t) (not (drops message is_interleaved o f t)) h) [
        | inr d ↦
            elim (cases_Bool (i.held t)) [
              | inl a ↦ dropped t (inc.seen_below t (inc.held_seen t a)) (not-false (drops message is_interleaved o f t) d)
              | inr a ↦ unheld t s a
            ]
        | inl a ↦ unheld t s a
      ]
    where
      unheld : (t : ℕ) → new.seen t ≡ true → i.held t ≡ false → IsOver (place_of o t)
      unheld t s a =
          elim (or_cases (ltb t f.upto) (i.seen t) s) [
            | inr b ↦ before t b a
            | inl b ↦
                elim (ft.seen_or_given_up t (ltb-true t f.upto b)) [
                  | inl c ↦ before t c a
                  | inr g ↦ inr (g.0, λ k. raised_covers f.entries true (stream_of message (place_of o t)) (i.next (stream_of message (place_of o t))) (o.number (place_of o t)) (g.1 k))
                ]
          ]

  below_next : (q : ℕ) → o.begun q ≡ true → ordered_of message q ≡ true → o.number q < new.next (stream_of message q) → IsDone o i q
  below_next q b k n =
      elim (raised_cases f.entries true (stream_of message q) (i.next (stream_of message q)) (o.number q) n) [
        | inl l ↦ inc.below_next q b k l
        | inr c ↦ ft.named_done q b (subst (λ z. covers f.entries z (stream_of message q) (o.number q) ≡ true) (sym k) c)
      ]

  below_passed : (q : ℕ) → o.begun q ≡ true → ordered_of message q ≡ false → o.number q < new.passed_below (stream_of message q) → IsDone o i q
  below_passed q b k n =
      elim (raised_cases f.entries false (stream_of message q) (i.passed_below (stream_of message q)) (o.number q) n) [
        | inl l ↦ inc.below_passed q b k l
        | inr c ↦ ft.named_done q b (subst (λ z. covers f.entries z (stream_of message q) (o.number q) ≡ true) (sym k) c)
      ]

  passed_counts : (s : ℕ) → new.passed_below s ≤ o.counts false s
  passed_counts s =
      elim (cases_lt (o.counts false s) (new.passed_below s)) [
        | inr g ↦ g
        | inl l ↦
            elim (raised_cases f.entries false s (i.passed_below s) (o.counts false s) l) [
              | inl a ↦ let b = inc.passed_counts s in absurd (omega (arith, a, b))
              | inr c ↦ let b = ft.named_counts false s (o.counts false s) c in absurd (omega (arith, b))
            ]
      ]

  next_counts : (s : ℕ) → new.next s ≤ o.counts true s
  next_counts s =
      elim (cases_lt (o.counts true s) (new.next s)) [
        | inr g ↦ g
        | inl l ↦
            elim (raised_cases f.entries true s (i.next s) (o.counts true s) l) [
              | inl a ↦ let b = inc.next_counts s in absurd (omega (arith, a, b))
              | inr c ↦ let b = ft.named_counts true s (o.counts true s) c in absurd (omega (arith, b))
            ]
      ]

  pub skips_onward : Onward message i new
  skips_onward = record { seen_stays = λ u h. or_right (ltb u f.upto) (i.seen u) h; ready_stays = λ p h. h; next_stays = next_up }

  pub skips_incoming : Incoming message o new
  skips_incoming = record {
    seen_below = λ t h.
        elim (or_cases (ltb t f.upto) (i.seen t) h) [
          | inl a ↦ let b = ltb-true t f.upto a in let c = ft.within in omega (arith, b, c)
          | inr a ↦ inc.seen_below t a
        ];
    held_seen = λ t h. or_right (ltb t f.upto) (i.seen t) (inc.held_seen t (and_parts (i.held t) (not (drops message is_interleaved o f t)) h).0);
    held_real = λ t h. inc.held_real t (and_parts (i.held t) (not (drops message is_interleaved o f t)) h).0;
    passed = passed;
    below_next = below_next;
    below_passed = below_passed;
    passed_counts = passed_counts;
    next_counts = next_counts;
    ready_below = λ q r k. let b = inc.ready_below q r k in let u = next_up (stream_of message q) in omega (arith, b, u);
    ready_parts = λ t h r.
        let x = inc.ready_parts t h r in
        (or_right (ltb t f.upto) (i.seen t) x.0, and_left (i.held t) (not (drops message is_interleaved o f t)) x.1);
    ready_begun = inc.ready_begun;
    ready_ended = inc.ready_ended;
    alike = inc.alike;
    apart = inc.apart;
  }
