-- The MIDs of unordered streams stay near as the rules go on.
use Rattle.std.proofs.Common.{◌≡◌, ◌≢◌, ℕ, zero, suc, ◌+◌, ◌-◌, ◌<◌, ◌≤◌, Bool, true, false, ◌⊎◌, inl, inr, Option, List, refl, sym, ap, ◌∙◌, subst, arith}
use Rattle.std.specs.Prelude.{◌||◌, nat_lt}
use Rattle.std.proofs.lemmas.Bool.{cases_eq, cases_lt, cond-true, or_cases, or_right, ltb-true, false≢true}
use Rattle.sctp_serial.specs.Messages as messages
use Rattle.sctp_serial.specs.Unwrapped.{origin}
use Rattle.sctp_packet.specs.Chunk.{FragmentTree}
use Rattle.sctp_chunk.specs.declared.forward_tsn.SkippedStream.{SkippedStream}
use Rattle.sctp_rx.specs.ReassemblyStreams.{is_far}
use Rattle.sctp_rx.specs.DataTracker as tracker
use Rattle.sctp_rx.specs.DataTracker.{Tracker, IsTracker, observe}
use Rattle.sctp_rx.specs.ReassemblyQueue.{Reassembly, Deferred, number_of, is_kept_back, came, add, forward, reassembly, forward_now}
use Rattle.proof_protocol.specs.State.{Message, ForwardPoint, Sender, Receiver, Transfer, IsAmong, place_of, count, start, put, ordered_of, stream_of}
use Rattle.proof_protocol.specs.Rules.{TransferEvent, accept, begin, number, end_with_placeholder, give_up, data_comes, late_comes, become_ready, send_sack, acknowledge_next, send_forward, forward_comes, perform_reset, IsAllowed, IsDue, after, run, covers, raise}
use Rattle.proof_protocol.specs.Lifted.{no_base, wire_point, IsOfCurrentEpoch, AreEntriesOfCurrentEpoch}
use Rattle.proof_protocol.specs.Invariant.{Invariant}
use Rattle.proof_protocol.proofs.LaterLemmas.{Later}
use Rattle.proof_protocol.proofs.LiftedLemmas.{raised_wire}
use Rattle.proof_protocol.proofs.StepLemmas.{later}
use Rattle.proof_protocol.proofs.ToolsLemmas.{not_both, put_true, put_keeps, raised_up, raised_covers, raised_cases}
use Rattle.proof_refines.specs.View.{was_seen, unordered_at}
use Rattle.proof_refines.specs.Read.{Carries, IsRead, StandForAll, number_read, shift_after}
use Rattle.proof_protocol.specs.Points.{AreApart}
use Rattle.proof_refines.specs.ReceiverRefinement.{ReceiverRefines, Goes}
use Rattle.proof_refines.specs.Near.{IsOn, IsOf, IsNearStream, IsNamed, AreNearStreams, IsInWindow}
use Rattle.proof_refines.proofs.FragmentLemmas.{added_now, number_near}
use Rattle.proof_refines.proofs.FragmentRowLemmas.{observed_seen}
use Rattle.proof_refines.proofs.ForwardRowLemmas.{written_apart, point_seen}
use Rattle.proof_refines.proofs.NearTsnLemmas.{not_acknowledged}
use Rattle.proof_refines.proofs.NearMidLemmas.{rising, few_ahead}
use Rattle.proof_refines.proofs.NearStreamLemmas.{ordered_leaves, near_here, near_off, point_nears}
use Rattle.proof_refines.proofs.HeldKeyLemmas.{ordered_is}

-- ---- the receiver goes on

abbrev with_receiver : Transfer → Receiver → Transfer
with_receiver x i = record x { receiver = i }

still_named : (message : ℕ → Message) (x : Transfer) (i : Receiver) (f : ForwardPoint) → ((t : ℕ) → x.receiver.seen t ≡ true → i.seen t ≡ true) → IsNamed message x f → IsNamed message (with_receiver x i) f
still_named message x i f stays q = record {
  unseen = λ s t on l. elim (q.unseen s t on l) [ inl h ↦ inl (stays t h) | inr c ↦ inr c ];
  last = q.last;
}

-- a stream of which nothing came
still_near : (message : ℕ → Message) (base : Bool → ℕ → ℕ) (s : ℕ) (x : Transfer) (i : Receiver) (near later : ℕ) → later ≡ near → ((t : ℕ) → i.seen t ≡ true → IsOn message x.sender s t → x.receiver.seen t ≡ true)
    → IsNearStream message base s x near → IsNearStream message base s (with_receiver x i) later
still_near message base s x i near later same old q = record { number = q.number; near_is = same ∙ q.near_is; met = q.met; seen = λ t h on. q.seen t (old t h on) on }

module _ (message : ℕ → Message) (is_interleaved : Bool) (base : Bool → ℕ → ℕ) (before : ℕ) (x : Transfer) (kept : Invariant message is_interleaved x) (windows : IsInWindow x) (handed : List messages.Message) (t : Tracker) (r : Reassembly)
    (shown : ReceiverRefines message is_interleaved base before x handed t r) (interleaved : is_interleaved ≡ true) (near : AreNearStreams message base x r) where
  -- ---- a fragment

  module _ (is_tracker : IsTracker t) (k tsn : ℕ) (f : FragmentTree) (at_once : is_kept_back (number_of r tsn) f.stream_id r.deferred ≡ false) (carries : Carries message is_interleaved x.sender k f) (read : IsRead message is_interleaved (shift_after r.first before k) x.sender r k tsn f) (unseen : was_seen t k ≡ false)
      (is_now : IsOfCurrentEpoch base message x.sender k) where
    abbrev place : ℕ
    place = place_of x.sender k

    number_is : f.is_unordered ≡ true → number_read true f r.streams ≡ origin + x.sender.written place
    number_is e =
        ap (λ z. number_read z f r.streams) (sym e) ∙ (read.number_is
        ∙ ap (λ z. origin + z) (cond-true (ordered_of message place || is_interleaved) (x.sender.written place) 0 (or_right (ordered_of message place) is_interleaved interleaved)))

    near_number : f.is_unordered ≡ true → is_far (number_read true f r.streams) ≡ false
    near_number e = ap (λ z. is_far (number_read z f r.streams)) (sym e) ∙ number_near message is_interleaved (shift_after r.first before k) x.sender r k tsn f carries read shown.mode

    module _ (i : Receiver) (seen_is : (n : ℕ) → i.seen n ≡ put x.receiver.seen k true n) where
      came_or_was : (n : ℕ) → i.seen n ≡ true → (n ≡ k) ⊎ (x.receiver.seen n ≡ true)
      came_or_was n h = put_true x.receiver.seen k n (sym (seen_is n) ∙ h)

      stream_kept : (s : ℕ) (b : Bool) → f.is_unordered ≡ b → IsNearStream message base s (with_receiver x i) (unordered_at (add tsn f r).streams s).near
      stream_kept s false e =
          still_near message base s x i (unordered_at r.streams s).near (unordered_at (add tsn f r).streams s).near
          (ap (λ z. (unordered_at z.streams s).near) (added_now message is_interleaved (shift_after r.first before k) x.sender r k tsn f carries read shown.mode at_once) ∙ ap (λ z. z.near) (ordered_leaves (number_of r tsn) f r.streams e s))
          (λ n h on. elim (came_or_was n h) [ inr a ↦ a | inl q ↦ absurd (not_both (ordered_is f.is_unordered false (ordered_of message place) carries.kind e) (ap (λ z. ordered_of message (place_of x.sender z)) (sym q) ∙ on.unordered)) ]) (near.streams s)
      stream_kept s true e = elim (cases_eq s f.stream_id) [
        | inr d ↦
            still_near message base s x i (unordered_at r.streams s).near (unordered_at (add tsn f r).streams s).near
            (ap (λ z. (unordered_at z.streams s).near) (added_now message is_interleaved (shift_after r.first before k) x.sender r k tsn f carries read shown.mode at_once) ∙ ap (λ z. z.near) (near_off (number_of r tsn) f r.streams e (near_number e) s d))
            (λ n h on. elim (came_or_was n h) [ inr a ↦ a | inl q ↦ absurd (d (sym on.stream ∙ (ap (λ z. stream_of message (place_of x.sender z)) q ∙ sym carries.stream))) ]) (near.streams s)
        | inl q ↦
            let here : IsOn message x.sender s k = record { numbered = carries.numbered; unordered = ordered_is f.is_unordered true (ordered_of message place) carries.kind e; stream = sym carries.stream ∙ sym q } in
            let n = number_is e in
            let own : base false s + x.sender.written place ≡ x.sender.number place =
            subst (λ z. base false z + x.sender.written place ≡ x.sender.number place) here.stream
            (subst (λ z. base z (stream_of message place) + x.sender.written place ≡ x.sender.number place) here.unordered is_now) in
            let is = ap (λ z. (unordered_at z.streams s).near) (added_now message is_interleaved (shift_after r.first before k) x.sender r k tsn f carries read shown.mode at_once) ∙ near_here (number_of r tsn) f r.streams e (near_number e) s q in
            record {
              number = x.sender.written place;
              near_is = omega (arith, is, n);
              met = inr (k, record { on = here; number = sym own });
              seen = λ u h on.
                  let l = few_ahead message is_interleaved base x kept windows s k here (not_acknowledged message is_interleaved x kept k (sym (shown.seen k) ∙ unseen)) u on in
                  omega (arith, l, own);
            }
      ]

      all_kept : AreNearStreams message base (with_receiver x i) (add tsn f r)
      all_kept = record {
        streams = λ s. stream_kept s f.is_unordered refl;
        points = λ p a. still_named message x i p (λ n h. seen_is n ∙ put_keeps x.receiver.seen k n h) (near.points p a);
      }

    pub fragment_keeps_mids : (now : Bool) (es : List TransferEvent) (waiting : Option Deferred) → Goes message is_interleaved base (shift_after r.first before k) x es handed waiting (observe (origin + k) now t) (add tsn f r) → AreNearStreams message base (run message is_interleaved x es) (add tsn f r)
    fragment_keeps_mids now es waiting goes =
        subst (λ z. AreNearStreams message base z (add tsn f r)) (sym goes.rest_stays)
        (all_kept (run message is_interleaved x es).receiver (λ n. sym (goes.refines.seen n) ∙ observed_seen t is_tracker x.receiver.seen shown.seen k n now))

  -- ---- a forward point

  module _ (k tsn : ℕ) (xs : List SkippedStream) (call_is : forward tsn xs r ≡ forward_now (number_of r tsn) xs (came tsn r)) (f : ForwardPoint) (sent : IsAmong f x.forward_points) (last : f.upto ≡ suc k)
      (stand : StandForAll is_interleaved r.streams xs (wire_point f).entries) (apart : AreApart f.entries) (are_now : AreEntriesOfCurrentEpoch base f) where
    -- the number behind all that are named, as it is on the wire, and as it is in the rules
    abbrev top : ℕ → ℕ
    top s = raise (wire_point f).entries false s (suc (near.streams s).number)

    top_is : (s : ℕ) → base false s + top s ≡ raise f.entries false s (suc (base false s + (near.streams s).number))
    top_is s =
        let e : base false s + suc (near.streams s).number ≡ suc (base false s + (near.streams s).number) = omega arith in
        raised_wire base false s f.entries are_now (suc (near.streams s).number) ∙ ap (λ z. raise f.entries false s z) e

    near_top : (s : ℕ) → suc (unordered_at (forward tsn xs r).streams s).near ≡ origin + top s
    near_top s =
        ap (λ z. suc (unordered_at z.streams s).near) call_is
        ∙ point_nears s xs (wire_point f).entries r.streams (number_of r tsn) (near.streams s).number (subst (λ z. StandForAll z r.streams xs (wire_point f).entries) interleaved stand)
        (written_apart f.entries apart) (shown.mode ∙ interleaved) (near.streams s).near_is

    module _ (i : Receiver) (seen_is : (n : ℕ) → i.seen n ≡ (nat_lt n f.upto || x.receiver.seen n)) where
      point_met : (s : ℕ) → (top s - 1 ≡ 0) ⊎ ((u : ℕ) × IsOf message x.sender s (base false s + (top s - 1)) u)
      point_met s =
          let q = near.streams s in
          let n : ℕ = base false s + q.number in
          let is = top_is s in
          let up = raised_up f.entries false s (suc n) in
          elim (raised_cases f.entries false s (suc n) (base false s + (top s - 1)) (omega (arith, up, is))) [
            | inl l ↦ let e : q.number ≡ top s - 1 = omega (arith, up, l, is) in subst (λ m. (m ≡ 0) ⊎ ((u : ℕ) × IsOf message x.sender s (base false s + m) u)) e q.met
            | inr c ↦
                let z = (near.points f sent).last s (base false s + (top s - 1)) c in
                let lo = z.4 in
                let hi = raised_covers f.entries false s (suc n) (x.sender.number (place_of x.sender z.0)) z.5 in
                inr (z.0, record { on = z.1; number = omega (arith, lo, hi, is, up) })
          ]

      point_stream : (s : ℕ) → IsNearStream message base s (with_receiver x i) (unordered_at (forward tsn xs r).streams s).near
      point_stream s =
          let q = near.streams s in
          let n : ℕ = base false s + q.number in
          let now = top_is s in
          let up = raised_up f.entries false s (suc n) in
          let is = near_top s in
          record {
            number = top s - 1;
            near_is = omega (arith, is, up, now);
            met = point_met s;
            seen = λ u h on. elim (or_cases (nat_lt u f.upto) (x.receiver.seen u) (sym (seen_is u) ∙ h)) [
              | inr a ↦ let l = q.seen u a on in omega (arith, l, up, now)
              | inl a ↦ elim ((near.points f sent).unseen s u on (ltb-true u f.upto a)) [
                | inl b ↦ let l = q.seen u b on in omega (arith, l, up, now)
                | inr c ↦ let l = raised_covers f.entries false s (suc n) (x.sender.number (place_of x.sender u)) c in omega (arith, l, up, now)
              ]
            ];
          }

      all_pointed : AreNearStreams message base (with_receiver x i) (forward tsn xs r)
      all_pointed = record {
        streams = point_stream;
        points = λ p a. still_named message x i p (λ n h. seen_is n ∙ or_right (nat_lt n f.upto) (x.receiver.seen n) h) (near.points p a);
      }

    pub point_keeps_mids : (es : List TransferEvent) (waiting : Option Deferred) → Goes message is_interleaved base (shift_after r.first before k) x es handed waiting (tracker.forward (origin + k) t) (forward tsn xs r) → AreNearStreams message base (run message is_interleaved x es) (forward tsn xs r)
    point_keeps_mids es waiting goes =
        subst (λ z. AreNearStreams message base z (forward tsn xs r)) (sym goes.rest_stays)
        (all_pointed (run message is_interleaved x es).receiver (λ n. sym (goes.refines.seen n) ∙ point_seen t x.receiver.seen shown.seen k f.upto n last))

-- ---- the sender goes on

-- of the stream, from fragment t on
module _ (message : ℕ → Message) (o : Sender) (s t : ℕ) (on : IsOn message o s t) where
  record IsLast (upto : ℕ) : Type 0 where
    at : ℕ
    on_it : IsOn message o s at
    from : t ≤ at
    below : at < upto
    none : (u : ℕ) → IsOn message o s u → at < u → u < upto → ⊥

  last_below : (n : ℕ) → t + suc n ≤ count o → IsLast (t + suc n)
  last_below zero h = record { at = t; on_it = on; from = omega arith; below = omega arith; none = λ u a l b. omega (arith, l, b) }
  last_below (suc n) h =
      go (ordered_of message (place_of o (t + suc n))) refl (cases_eq (stream_of message (place_of o (t + suc n))) s) (last_below n (omega (arith, h)))
    where
      not_here : IsLast (t + suc n) → (IsOn message o s (t + suc n) → ⊥) → IsLast (t + suc (suc n))
      not_here r off =
          let f = r.from in
          let b = r.below in
          record {
            at = r.at;
            on_it = r.on_it;
            from = f;
            below = omega (arith, b);
            none = λ u a l h. elim (cases_eq u (t + suc n)) [
              | inl e ↦ off (subst (λ (z : ℕ). IsOn message o s z) e a)
              | inr d ↦ r.none u a l (elim (cases_lt u (t + suc n)) [ inl k ↦ k | inr g ↦ absurd (d (omega (arith, g, h))) ])
            ];
          }

      go : (b : Bool) → ordered_of message (place_of o (t + suc n)) ≡ b → (stream_of message (place_of o (t + suc n)) ≡ s) ⊎ (stream_of message (place_of o (t + suc n)) ≢ s) → IsLast (t + suc n) → IsLast (t + suc (suc n))
      go true e i r = not_here r (λ a. not_both e a.unordered)
      go false e (inr d) r = not_here r (λ a. d a.stream)
      go false e (inl i) r = record {
        at = t + suc n;
        on_it = record { numbered = omega (arith, h); unordered = e; stream = i };
        from = omega arith;
        below = omega arith;
        none = λ u a l b. omega (arith, l, b);
      }

  last_on : (upto : ℕ) → t < upto → upto ≤ count o → IsLast upto
  last_on upto l h =
      let e : t + suc (upto - suc t) ≡ upto = omega (arith, l) in
      subst IsLast e (last_below (upto - suc t) (omega (arith, e, h)))

module _ (message : ℕ → Message) (is_interleaved : Bool) (x : Transfer) (kept : Invariant message is_interleaved x) (interleaved : is_interleaved ≡ true) where
  -- one that may be sent now
  due_named : (f : ForwardPoint) → IsDue message is_interleaved x.sender x.acknowledged f → IsNamed message x f
  due_named f due = record {
    unseen = λ s t on l. elim (cases_lt t x.acknowledged) [
      | inl a ↦ inl (kept.acknowledged_true.all_seen t a)
      | inr g ↦ inr (named s t on g l)
    ];
    last = λ s n c.
        let z = due.sound false s n c in
        let a = z.1 in
        let b = z.2 in
        let w = due.within in
        let le = z.5 in
        let on : IsOn message x.sender s z.0 = record { numbered = omega (arith, b, w); unordered = z.3; stream = z.4 } in
        let l = last_on message x.sender s z.0 on f.upto b w in
        let from = l.from in
        let up = rising message x.sender kept.outgoing s z.0 l.at on l.on_it from in
        (l.at, l.on_it, l.below, λ u h v. rising message x.sender kept.outgoing s u l.at h l.on_it (up_to f.upto s z.0 on l u h v), omega (arith, le, up), named s l.at l.on_it (omega (arith, a, from)) l.below);
  }
    where
      named : (s t : ℕ) → IsOn message x.sender s t → x.acknowledged ≤ t → t < f.upto → covers f.entries false s (x.sender.number (place_of x.sender t)) ≡ true
      named s t on a b =
          subst (λ z. covers f.entries false z (x.sender.number (place_of x.sender t)) ≡ true) on.stream
          (subst (λ z. covers f.entries z (stream_of message (place_of x.sender t)) (x.sender.number (place_of x.sender t)) ≡ true) on.unordered
          (due.touched t a b (or_right (ordered_of message (place_of x.sender t)) is_interleaved interleaved)))

      up_to : (upto s t : ℕ) (on : IsOn message x.sender s t) (l : IsLast message x.sender s t on upto) (u : ℕ) → IsOn message x.sender s u → u < upto → u ≤ l.at
      up_to upto s t on l u h v = elim (cases_lt l.at u) [ inr g ↦ g | inl k ↦ absurd (l.none u h k v) ]

  point_within : (e : TransferEvent) → IsAllowed message is_interleaved x e → (f : ForwardPoint) → IsAmong f (after message is_interleaved x e).forward_points → IsAmong f x.forward_points ⊎ IsDue message is_interleaved x.sender x.acknowledged f
  point_within accept may f a = inl a
  point_within (begin p) may f a = inl a
  point_within (number p bytes more) may f a = inl a
  point_within (end_with_placeholder p) may f a = inl a
  point_within (give_up p) may f a = inl a
  point_within (data_comes t) may f a = inl a
  point_within (late_comes t) may f a = inl a
  point_within (become_ready p) may f a = inl a
  point_within (send_sack c) may f a = inl a
  point_within (acknowledge_next c) may f a = inl a
  point_within (send_forward g) may f (inl s) = inr (subst (λ z. IsDue message is_interleaved x.sender x.acknowledged z) (sym s) may)
  point_within (send_forward g) may f (inr a) = inl a
  point_within (forward_comes g) may f a = inl a
  point_within (perform_reset s c) may f a = inl a

  module _ (e : TransferEvent) (may : IsAllowed message is_interleaved x e) (same : (after message is_interleaved x e).receiver ≡ x.receiver) where
    abbrev y : Transfer
    y = after message is_interleaved x e

    l : Later message x.sender y.sender
    l = later message is_interleaved x kept e may

    place_same : (t : ℕ) → t < count x.sender → place_of y.sender t ≡ place_of x.sender t
    place_same t h = ap (λ z. z.place) (l.same_fragment t h)

    number_same : (t : ℕ) → t < count x.sender → y.sender.number (place_of y.sender t) ≡ x.sender.number (place_of x.sender t)
    number_same t h = ap y.sender.number (place_same t h) ∙ l.number_stays (place_of x.sender t) (kept.outgoing.place_begun t h)

    on_after : (s t : ℕ) → IsOn message x.sender s t → IsOn message y.sender s t
    on_after s t on = record {
      numbered = let a = on.numbered in let b = l.count_grows in omega (arith, a, b);
      unordered = ap (ordered_of message) (place_same t on.numbered) ∙ on.unordered;
      stream = ap (stream_of message) (place_same t on.numbered) ∙ on.stream;
    }

    on_before : (s t : ℕ) → t < count x.sender → IsOn message y.sender s t → IsOn message x.sender s t
    on_before s t h on = record {
      numbered = h;
      unordered = ap (ordered_of message) (sym (place_same t h)) ∙ on.unordered;
      stream = ap (stream_of message) (sym (place_same t h)) ∙ on.stream;
    }

    seen_before : (t : ℕ) → y.receiver.seen t ≡ true → x.receiver.seen t ≡ true
    seen_before t h = sym (ap (λ z. z.seen t) same) ∙ h

    named_after : (f : ForwardPoint) → f.upto ≤ count x.sender → IsNamed message x f → IsNamed message y f
    named_after f within q = record {
      unseen = λ s t on h.
          let below : t < count x.sender = omega (arith, h, within) in
          elim (q.unseen s t (on_before s t below on) h) [
            | inl a ↦ inl (ap (λ z. z.seen t) same ∙ a)
            | inr c ↦ inr (ap (λ z. covers f.entries false s z) (number_same t below) ∙ c)
          ];
      last = λ s n c.
          let z = q.last s n c in
          let b = z.2 in
          let m = number_same z.0 z.1.numbered in
          let le = z.4 in (
            z.0,
            on_after s z.0 z.1,
            z.2,
            λ u on h.
                let below : u < count x.sender = omega (arith, h, within) in
                let up = z.3 u (on_before s u below on) h in
                let k = number_same u below in
                omega (arith, up, k, m),
            omega (arith, le, m),
            ap (λ b. covers f.entries false s b) m ∙ z.5,
          );
    }

    pub sender_keeps_mids : (base : Bool → ℕ → ℕ) (r : Reassembly) → AreNearStreams message base x r → AreNearStreams message base y r
    sender_keeps_mids base r near = record {
      streams = λ s.
          let q = near.streams s in
          record {
            number = q.number;
            near_is = q.near_is;
            met = elim q.met [ inl z ↦ inl z | inr m ↦ inr (m.0, record { on = on_after s m.0 m.1.on; number = number_same m.0 m.1.on.numbered ∙ m.1.number }) ];
            seen = λ t h on.
                let a = seen_before t h in
                let b = kept.incoming.seen_below t a in
                let c = q.seen t a (on_before s t b on) in
                let m = number_same t b in
                omega (arith, c, m);
          };
      points = λ f a. elim (point_within e may f a) [
        | inl b ↦ named_after f (kept.forwards_true f b).within (near.points f b)
        | inr due ↦ named_after f due.within (due_named f due)
      ];
    }

-- ---- the rest

pub new_mids : (message : ℕ → Message) (is_interleaved : Bool) (max_size max_fragments : ℕ) → AreNearStreams message no_base start (record (reassembly max_size is_interleaved) { max_fragments = max_fragments })
new_mids message is_interleaved max_size max_fragments = record {
  streams = λ s. record { number = 0; near_is = refl; met = inl refl; seen = λ t h on. absurd (false≢true h) };
  points = λ f a. absurd a;
}
