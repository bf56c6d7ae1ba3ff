-- A message takes its number.
use Rattle.std.proofs.Common.{◌≡◌, ◌≢◌, ℕ, suc, ◌<◌, ◌≤◌, Bool, true, false, cond, ◌&&◌, inl, inr, refl, sym, ap, ◌∙◌, subst, arith, eqb}
use Rattle.std.proofs.lemmas.Bool.{cases_lt, cases_Bool, eq-eqb, eqb-true, and_from, and_parts, cond-true, cond-false}
use Rattle.proof_protocol.specs.State.{Message, Sender, fragment, place_of, count, ordered_of, stream_of}
use Rattle.proof_protocol.specs.Rules.{IsSettled, Waits, begins, same}
use Rattle.proof_protocol.specs.Invariant.{Outgoing, InRuns}
use Rattle.proof_protocol.proofs.ToolsLemmas.{put_at, put_off, put_true, put_keeps, not_both, same_is, same_self}
use Rattle.proof_protocol.proofs.LaterLemmas.{Later}

module _ (message : ℕ → Message) (is_interleaved : Bool) (o : Sender) (i : Outgoing message o) (p : ℕ) (w : Waits o p)
    (first : (q : ℕ) → q < p → stream_of message q ≡ stream_of message p → IsSettled o q) where
  abbrev new : Sender
  new = begins message o p

  begun_off : (q : ℕ) → o.begun q ≡ true → q ≢ p
  begun_off q b e = not_both (sym (ap o.begun e) ∙ b) w.not_begun

  pub number_off : (q : ℕ) → o.begun q ≡ true → new.number q ≡ o.number q
  number_off q b = put_off o.number p (o.counts (ordered_of message p) (stream_of message p)) q (begun_off q b)

  pub number_at : (q : ℕ) → q ≡ p → new.number q ≡ o.counts (ordered_of message p) (stream_of message p)
  number_at q e = put_at o.number p (o.counts (ordered_of message p) (stream_of message p)) q e

  pub unsettled : IsSettled o p → ⊥
  unsettled x = elim x.begun_or_given_up [ inl b ↦ not_both b w.not_begun | inr g ↦ not_both g w.not_given_up ]

  pub moved : (q : ℕ) → q ≢ p → IsSettled o q → IsSettled new q
  moved q d x = record {
    not_partly = put_off o.partly p true q d ∙ x.not_partly;
    begun_or_given_up = elim x.begun_or_given_up [ inl b ↦ inl (put_keeps o.begun p q b) | inr g ↦ inr g ];
  }

  pub grows : (kind : Bool) (s : ℕ) → o.counts kind s ≤ new.counts kind s
  grows kind s = elim (same (ordered_of message p) kind && eqb s (stream_of message p)) as (λ b. o.counts kind s ≤ cond b (suc (o.counts kind s)) (o.counts kind s)) [ true ↦ omega arith | false ↦ omega arith ]

  count_at : new.counts (ordered_of message p) (stream_of message p) ≡ suc (o.counts (ordered_of message p) (stream_of message p))
  count_at = cond-true (same (ordered_of message p) (ordered_of message p) && eqb (stream_of message p) (stream_of message p)) (suc (o.counts (ordered_of message p) (stream_of message p))) (o.counts (ordered_of message p) (stream_of message p))
      (and_from (same (ordered_of message p) (ordered_of message p)) (eqb (stream_of message p) (stream_of message p)) (same_self (ordered_of message p) (ordered_of message p) refl) (eq-eqb (stream_of message p) (stream_of message p) refl))

  begun_below : (q : ℕ) → new.begun q ≡ true → q < o.accepted
  begun_below q b = elim (put_true o.begun p q b) [ inl e ↦ subst (λ n. n < o.accepted) (sym e) w.below | inr h ↦ i.begun_below q h ]

  partly_begun : (q : ℕ) → new.partly q ≡ true → new.begun q ≡ true
  partly_begun q b = elim (put_true o.partly p q b) [ inl e ↦ put_at o.begun p true q e | inr h ↦ put_keeps o.begun p q (i.partly_begun q h) ]

  settled : (a q : ℕ) → new.begun a ≡ true → q < a → stream_of message q ≡ stream_of message a → IsSettled new q
  settled a q b l s =
      elim (put_true o.begun p a b) [
        | inl e ↦ let lt : q < p = omega (arith, e, l) in let d : q ≢ p = omega (arith, lt) in moved q d (first q lt (s ∙ ap (stream_of message) e))
        | inr h ↦ moved q (λ e. unsettled (subst (λ n. IsSettled o n) e (i.settled a q h l s))) (i.settled a q h l s)
      ]

  rises : (a b : ℕ) → new.begun a ≡ true → new.begun b ≡ true → ordered_of message a ≡ ordered_of message b → stream_of message a ≡ stream_of message b → a < b → new.number a < new.number b
  rises a b ba bb k s l =
      elim (put_true o.begun p a ba) [
        | inl e ↦
            elim (put_true o.begun p b bb) [
              | inl f ↦ absurd (omega (arith, e, f, l))
              | inr h ↦ absurd (unsettled (subst (λ n. IsSettled o n) e (i.settled b a h l s)))
            ]
        | inr g ↦
            elim (put_true o.begun p b bb) [
              | inl f ↦
                  let c = i.counted a g in
                  let c1 = subst (λ z. o.number a < o.counts z (stream_of message a)) (k ∙ ap (ordered_of message) f) c in
                  let c2 = subst (λ z. o.number a < o.counts (ordered_of message p) z) (s ∙ ap (stream_of message) f) c1 in
                  let n1 = number_off a g in
                  let n2 = number_at b f in
                  omega (arith, c2, n1, n2)
              | inr h ↦
                  let r = i.rises a b g h k s l in
                  let n1 = number_off a g in
                  let n2 = number_off b h in
                  omega (arith, r, n1, n2)
            ]
      ]

  counted : (a : ℕ) → new.begun a ≡ true → new.number a < new.counts (ordered_of message a) (stream_of message a)
  counted a b =
      elim (put_true o.begun p a b) [
        | inl e ↦
            let n = number_at p refl in
            let c = count_at in
            let at : new.number p < new.counts (ordered_of message p) (stream_of message p) = omega (arith, n, c) in
            subst (λ z. new.number z < new.counts (ordered_of message z) (stream_of message z)) (sym e) at
        | inr h ↦
            let c = i.counted a h in
            let n = number_off a h in
            let g = grows (ordered_of message a) (stream_of message a) in
            omega (arith, c, n, g)
      ]

  dense_old : (kind : Bool) (s k : ℕ) → k < o.counts kind s → (q : ℕ) × (new.begun q ≡ true) × (ordered_of message q ≡ kind) × (stream_of message q ≡ s) × (new.number q ≡ k)
  dense_old kind s k l = let d = i.dense kind s k l in (d.0, put_keeps o.begun p d.0 d.1, d.2, d.3, number_off d.0 d.1 ∙ d.4)

  dense : (kind : Bool) (s k : ℕ) → k < new.counts kind s → (q : ℕ) × (new.begun q ≡ true) × (ordered_of message q ≡ kind) × (stream_of message q ≡ s) × (new.number q ≡ k)
  dense kind s k l =
      elim (cases_Bool (same (ordered_of message p) kind && eqb s (stream_of message p))) [
        | inl t ↦
            let ab = and_parts (same (ordered_of message p) kind) (eqb s (stream_of message p)) t in
            let ek = same_is (ordered_of message p) kind ab.0 in
            let es = eqb-true s (stream_of message p) ab.1 in
            let c : new.counts kind s ≡ suc (o.counts kind s) = cond-true (same (ordered_of message p) kind && eqb s (stream_of message p)) (suc (o.counts kind s)) (o.counts kind s) t in
            elim (cases_lt k (o.counts kind s)) [
              | inl a ↦ dense_old kind s k a
              | inr b ↦
                  let ke : o.counts kind s ≡ k = omega (arith, l, c, b) in
                  let n : new.number p ≡ k = number_at p refl ∙ (ap (λ z. o.counts z (stream_of message p)) ek ∙ (ap (λ z. o.counts kind z) (sym es) ∙ ke)) in
                  (p, put_at o.begun p true p refl, ek, sym es, n)
            ]
        | inr f ↦ dense_old kind s k (subst (λ z. k < z) (cond-false (same (ordered_of message p) kind && eqb s (stream_of message p)) (suc (o.counts kind s)) (o.counts kind s) f) l)
      ]

  following_counts : (kind : Bool) (s : ℕ) → new.following kind s ≤ new.counts kind s
  following_counts kind s = go (same (ordered_of message p) kind && eqb s (stream_of message p))
    where
      go : (b : Bool) → cond b (suc (o.following kind s)) (o.following kind s) ≤ cond b (suc (o.counts kind s)) (o.counts kind s)
      go true = let f = i.following_counts kind s in omega (arith, f)
      go false = i.following_counts kind s

  ended : (a : ℕ) → new.begun a ≡ true → new.partly a ≡ false → (t : ℕ) × (t < count o) × (place_of o t ≡ a) × ((fragment o t).is_end ≡ true)
  ended a b np =
      elim (put_true o.begun p a b) [
        | inl e ↦ absurd (not_both (put_at o.partly p true a e) np)
        | inr h ↦ i.ended a h (sym (put_off o.partly p true a (begun_off a h)) ∙ np)
      ]

  partly_no_last : (t : ℕ) → t < count o → new.partly (place_of o t) ≡ true → (fragment o t).is_end ≡ false
  partly_no_last t h b =
      elim (put_true o.partly p (place_of o t) b) [
        | inl e ↦ absurd (begun_off (place_of o t) (i.place_begun t h) e)
        | inr g ↦ i.partly_no_last t h g
      ]

  pub begins_outgoing : Outgoing message new
  begins_outgoing = record {
    place_begun = λ t h. put_keeps o.begun p (place_of o t) (i.place_begun t h);
    begun_below = begun_below;
    given_up_below = i.given_up_below;
    partly_begun = partly_begun;
    partly_kept = λ q b. elim (put_true o.partly p q b) [ inl e ↦ ap o.given_up e ∙ w.not_given_up | inr h ↦ i.partly_kept q h ];
    fifo = i.fifo;
    settled = settled;
    rises = rises;
    counted = counted;
    following_counts = following_counts;
    dense = dense;
    ended = ended;
    last_ends = i.last_ends;
    partly_no_last = partly_no_last;
    whole = i.whole;
  }

  pub begins_later : Later message o new
  begins_later = record {
    count_grows = omega arith;
    same_fragment = λ t h. refl;
    given_stays = λ q h. h;
    begun_stays = λ q h. put_keeps o.begun p q h;
    number_stays = number_off;
    written_stays = λ q b. put_off o.written p (o.following (ordered_of message p) (stream_of message p)) q (begun_off q b);
    newly = λ q b. elim (put_true o.begun p q b) [
      | inl e ↦
          let at : o.counts (ordered_of message p) (stream_of message p) ≤ new.number p = (let n = number_at p refl in omega (arith, n)) in
          inr (subst (λ z. o.counts (ordered_of message z) (stream_of message z) ≤ new.number z) (sym e) at)
      | inr h ↦ inl h
    ];
    counts_grow = grows;
    ended_stays = λ q b e. put_off o.partly p true q (begun_off q b) ∙ e;
    new_part = λ t g l. absurd (omega (arith, g, l));
  }

  pub begins_runs : is_interleaved ≡ false → (is_interleaved ≡ false → (q : ℕ) → o.partly q ≡ false) → InRuns message o → InRuns message new
  begins_runs m none r = record {
    next_same = r.next_same;
    tail_partly = λ t h l. absurd (not_both (r.tail_partly t h l) (none m (place_of o t)));
    single = λ a b pa pb.
        elim (put_true o.partly p a pa) [
          | inr x ↦ absurd (not_both x (none m a))
          | inl e ↦ elim (put_true o.partly p b pb) [ inr y ↦ absurd (not_both y (none m b)) | inl f ↦ e ∙ sym f ]
        ];
  }
