-- A fragment takes the next number.
use Rattle.std.proofs.Common.{◌≡◌, ◌≢◌, ℕ, suc, ◌<◌, ◌≤◌, true, false, not, inl, inr, [], ◌∷◌, ◌++◌, refl, sym, ap, ◌∙◌, subst, arith, length-append}
use Rattle.std.proofs.lemmas.Bool.{cases_eq, cases_lt, not-true, not-false}
use Rattle.std.proofs.lemmas.List.{get_or_append_left, get_or_push}
use Rattle.proof_protocol.specs.State.{Message, Fragment, Sender, blank, fragment, place_of, count, gather, stream_of}
use Rattle.proof_protocol.specs.Rules.{IsSettled, numbers}
use Rattle.proof_protocol.specs.Invariant.{Outgoing, InRuns}
use Rattle.proof_protocol.proofs.ToolsLemmas.{put_at, put_off, not_both, at_push, each_push, pairs_push, gathered_push, gathered_off}
use Rattle.proof_protocol.proofs.LaterLemmas.{Later}

module _ (message : ℕ → Message) (o : Sender) (i : Outgoing message o) (f : Fragment) (is_partly : o.partly f.place ≡ true)
    (fin : f.is_end ≡ true → f.placeholder ≡ false → gather f.place o.numbered ++ f.payload ≡ (message f.place).payload) where
  abbrev new : Sender
  new = numbers o f

  longer : count new ≡ suc (count o)
  longer = omega (arith, length-append o.numbered (f ∷ []))

  pub fragment_old : (t : ℕ) → t < count o → fragment new t ≡ fragment o t
  fragment_old t h = get_or_append_left o.numbered (f ∷ []) blank t h

  fragment_new : fragment new (count o) ≡ f
  fragment_new = get_or_push o.numbered f blank (count o) refl

  partly_begun : (q : ℕ) → new.partly q ≡ true → o.begun q ≡ true
  partly_begun q b =
      elim (cases_eq q f.place) [
        | inl e ↦ subst (λ z. o.begun z ≡ true) (sym e) (i.partly_begun f.place is_partly)
        | inr d ↦ i.partly_begun q (sym (put_off o.partly f.place (not f.is_end) q d) ∙ b)
      ]

  partly_kept : (q : ℕ) → new.partly q ≡ true → o.given_up q ≡ false
  partly_kept q b =
      elim (cases_eq q f.place) [
        | inl e ↦ ap o.given_up e ∙ i.partly_kept f.place is_partly
        | inr d ↦ i.partly_kept q (sym (put_off o.partly f.place (not f.is_end) q d) ∙ b)
      ]

  behind : (t : ℕ) → t < count o → stream_of message (place_of o t) ≡ stream_of message f.place → place_of o t ≤ f.place
  behind t h s =
      elim (cases_lt f.place (place_of o t)) [
        | inl l ↦ absurd (not_both is_partly (i.settled (place_of o t) f.place (i.place_begun t h) l (sym s)).not_partly)
        | inr g ↦ g
      ]

  settled : (a q : ℕ) → o.begun a ≡ true → q < a → stream_of message q ≡ stream_of message a → IsSettled new q
  settled a q b l s =
      let x = i.settled a q b l s in
      let d : q ≢ f.place = λ e. not_both is_partly (sym (ap o.partly e) ∙ x.not_partly) in
      record { not_partly = put_off o.partly f.place (not f.is_end) q d ∙ x.not_partly; begun_or_given_up = x.begun_or_given_up }

  ended : (a : ℕ) → o.begun a ≡ true → new.partly a ≡ false → (t : ℕ) × (t < count new) × (place_of new t ≡ a) × ((fragment new t).is_end ≡ true)
  ended a b np =
      elim (cases_eq a f.place) [
        | inl e ↦ (
          count o,
          omega (arith, longer),
          ap (λ z. z.place) fragment_new ∙ sym e,
          ap (λ z. z.is_end) fragment_new ∙ not-false f.is_end (sym (put_at o.partly f.place (not f.is_end) a e) ∙ np),
        )
        | inr d ↦
            let x = i.ended a b (sym (put_off o.partly f.place (not f.is_end) a d) ∙ np) in
            (x.0, omega (arith, longer, x.1), ap (λ z. z.place) (fragment_old x.0 x.1) ∙ x.2, ap (λ z. z.is_end) (fragment_old x.0 x.1) ∙ x.3)
      ]

  -- no fragment of the message is its end yet
  not_last : (t : ℕ) → t < count o → place_of o t ≡ f.place → (fragment o t).is_end ≡ false
  not_last t h e = i.partly_no_last t h (ap o.partly e ∙ is_partly)

  last_ends : (t u : ℕ) → t < count new → u < count new → place_of new t ≡ place_of new u → (fragment new t).is_end ≡ true → u ≤ t
  last_ends t u ht hu e l =
      elim (at_push o.numbered f blank t ht) [
        | inr a ↦ omega (arith, a.0, hu, longer)
        | inl a ↦
            let l' = sym (ap (λ z. z.is_end) a.1) ∙ l in
            elim (at_push o.numbered f blank u hu) [
              | inl b ↦ i.last_ends t u a.0 b.0 (sym (ap (λ z. z.place) a.1) ∙ (e ∙ ap (λ z. z.place) b.1)) l'
              | inr b ↦ absurd (not_both l' (not_last t a.0 (sym (ap (λ z. z.place) a.1) ∙ (e ∙ ap (λ z. z.place) b.1))))
            ]
      ]

  partly_no_last : (t : ℕ) → t < count new → new.partly (place_of new t) ≡ true → (fragment new t).is_end ≡ false
  partly_no_last = each_push blank (λ t z. new.partly z.place ≡ true → z.is_end ≡ false) o.numbered f
      (λ t h b. elim (cases_eq (place_of o t) f.place) [
        | inl e ↦ not_last t h e
        | inr d ↦ i.partly_no_last t h (sym (put_off o.partly f.place (not f.is_end) (place_of o t) d) ∙ b)
      ])
      (λ b. not-true f.is_end (sym (put_at o.partly f.place (not f.is_end) f.place refl) ∙ b))

  whole : (t : ℕ) → t < count new → (fragment new t).is_end ≡ true → (fragment new t).placeholder ≡ false → gather (place_of new t) new.numbered ≡ (message (place_of new t)).payload
  whole = each_push blank (λ t z. z.is_end ≡ true → z.placeholder ≡ false → gather z.place new.numbered ≡ (message z.place).payload) o.numbered f
      (λ t h l nf.
      let d : f.place ≢ place_of o t = λ e. not_both l (not_last t h (sym e)) in
      gathered_off (place_of o t) o.numbered f d ∙ i.whole t h l nf)
      (λ l nf. gathered_push f.place o.numbered f refl ∙ fin l nf)

  pub numbers_outgoing : Outgoing message new
  numbers_outgoing = record {
    place_begun = each_push blank (λ t z. o.begun z.place ≡ true) o.numbered f i.place_begun (i.partly_begun f.place is_partly);
    begun_below = i.begun_below;
    given_up_below = i.given_up_below;
    partly_begun = partly_begun;
    partly_kept = partly_kept;
    fifo = pairs_push blank (λ y z. stream_of message y.place ≡ stream_of message z.place → y.place ≤ z.place) o.numbered f i.fifo behind;
    settled = settled;
    rises = i.rises;
    counted = i.counted;
    following_counts = i.following_counts;
    dense = i.dense;
    ended = ended;
    last_ends = last_ends;
    partly_no_last = partly_no_last;
    whole = whole;
  }

  pub numbers_later : Later message o new
  numbers_later = record {
    count_grows = omega (arith, longer);
    same_fragment = fragment_old;
    given_stays = λ q h. h;
    begun_stays = λ q h. h;
    number_stays = λ q h. refl;
    written_stays = λ q h. refl;
    newly = λ q b. inl b;
    counts_grow = λ kind s. omega arith;
    ended_stays = λ q b e.
        let d : q ≢ f.place = λ h. not_both is_partly (sym (ap o.partly h) ∙ e) in
        put_off o.partly f.place (not f.is_end) q d ∙ e;
    new_part = λ t g l.
        let e : t ≡ count o = omega (arith, g, l, longer) in
        ap (λ z. o.partly (place_of new z)) e ∙ (ap (λ z. o.partly z.place) fragment_new ∙ is_partly);
  }

  pub numbers_runs : InRuns message o → InRuns message new
  numbers_runs r = record {
    next_same = λ t h l.
        let ht : t < count o = omega (arith, h, longer) in
        let l' = sym (ap (λ z. z.is_end) (fragment_old t ht)) ∙ l in
        elim (at_push o.numbered f blank (suc t) h) [
          | inl a ↦ ap (λ z. z.place) a.1 ∙ (r.next_same t a.0 l' ∙ sym (ap (λ z. z.place) (fragment_old t ht)))
          | inr a ↦ ap (λ z. z.place) a.1 ∙ (sym (r.single (place_of o t) f.place (r.tail_partly t a.0 l') is_partly) ∙ sym (ap (λ z. z.place) (fragment_old t ht)))
        ];
    tail_partly = λ t h l.
        let e : t ≡ count o = omega (arith, h, longer) in
        let e2 = ap (fragment new) e ∙ fragment_new in
        let nl = sym (ap (λ z. z.is_end) e2) ∙ l in
        ap (λ z. new.partly z.place) e2 ∙ (put_at o.partly f.place (not f.is_end) f.place refl ∙ ap not nl);
    single = λ a b pa pb. r.single a b (was a pa) (was b pb);
  }
    where
      was : (q : ℕ) → new.partly q ≡ true → o.partly q ≡ true
      was q h =
          elim (cases_eq q f.place) [
            | inl e ↦ ap o.partly e ∙ is_partly
            | inr d ↦ sym (put_off o.partly f.place (not f.is_end) q d) ∙ h
          ]
