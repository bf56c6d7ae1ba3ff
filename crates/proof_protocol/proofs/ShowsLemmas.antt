-- A chunk is added, a forward point comes, the sender goes on, and a SACK takes several items away.
use Rattle.std.proofs.Common.{◌≡◌, ℕ, zero, suc, ◌+◌, ◌<◌, ◌≤◌, Bool, true, false, not, cond, ◌&&◌, ◌||◌, inl, inr, Option, Some, None, ◌++◌, replicate, refl, sym, ap, ◌∙◌, subst, arith, eqb, ltb, append-nil, append_assoc}
use Rattle.std.proofs.lemmas.Bool.{cases_eq, and_parts, and_from, or_left, or_right, cond-true, cond-false, not-true, not_from_false}
use Rattle.proof_protocol.specs.State.{Message, Fragment, ForwardPoint, Sender, Receiver, Transfer, fragment, place_of, count, ordered_of, stream_of}
use Rattle.proof_protocol.specs.Rules.{acknowledge_next, Happens, after, run, report, drops, skips, takes, performs_reset, covers, raise, floor}
use Rattle.proof_protocol.specs.Reassembly.{Chunk, MessageKey, chunk_with, chunk_of, message_key, Queue, Added, IsLate, keep_undropped, Forwarded, keep_other_streams, ResetPerformed, Sees, KeyLaws}
use Rattle.proof_protocol.specs.State.{IsAmong}
use Rattle.proof_protocol.specs.Invariant.{Outgoing, Incoming}
use Rattle.proof_protocol.proofs.ToolsLemmas.{put_at, put_off, put_true, put_keeps}
use Rattle.proof_protocol.proofs.LaterLemmas.{Later}
use Rattle.proof_protocol.specs.Joints.{reports_of}

cond_none : (b : Bool) (v w : Chunk) → cond b None (Some v) ≡ Some w → (b ≡ false) × (v ≡ w)
cond_none true v w e = cc
cond_none false v w e = (refl, cc)

module _ (Key : Type 0) (succ : Key → Key) (message : ℕ → Message) (is_interleaved : Bool) (o : Sender) (i : Receiver) (inc : Incoming message o i)
    (key : ℕ → Key) (below : Key → ℕ → Bool) (laws : KeyLaws Key succ is_interleaved o key below) (q r : Queue Key succ) (s : Sees Key succ message is_interleaved o i key q) where
  pub sees_added : (t : ℕ) → t < count o → Added Key succ q r (key t) (chunk_of message is_interleaved o t) → Sees Key succ message is_interleaved o (takes i t) key r
  sees_added t h z = record {
    holds = λ u k.
        elim (cases_eq u t) [
          | inl e ↦ ap (λ n. r.chunks (key n)) e ∙ (z.here ∙ ap (λ n. Some (chunk_of message is_interleaved o n)) (sym e))
          | inr d ↦
              elim (put_true i.held t u k) [
                | inl e ↦ absurd (d e)
                | inr old ↦
                    let hu = inc.seen_below u (inc.held_seen u old) in
                    z.kept (key u) (λ e. d (laws.one u t hu h e)) ∙ s.holds u old
              ]
        ];
    held = λ κ w e.
        elim (laws.decide κ (key t)) [
          | inl y ↦
              let same : chunk_of message is_interleaved o t ≡ w = (let a = z.here in let b = ap r.chunks y in cc) in
              (t, put_at i.held t true t refl, sym y, sym same)
          | inr n ↦
              let f = s.held κ w (sym (z.kept κ n) ∙ e) in
              (f.0, put_keeps i.held t f.0 f.1, f.2, f.3)
        ];
    next_is = λ a. z.next a ∙ s.next_is a;
    passed_is = λ m a. z.passed a ∙ s.passed_is m a;
    ready_is = z.ready ∙ s.ready_is;
  }

  abbrev test : ForwardPoint → Key → Chunk → Bool
  test f κ w = covers f.entries w.ordered w.stream w.number || (not is_interleaved && (not w.ordered && below κ f.upto))

  undropped_some : (f : ForwardPoint) (κ : Key) (c : Option Chunk) (w : Chunk) → keep_undropped Key succ is_interleaved below f κ c ≡ Some w → (c ≡ Some w) × (test f κ w ≡ false)
  undropped_some f κ None w e = cc
  undropped_some f κ (Some v) w e = let x = cond_none (test f κ v) v w e in (ap Some x.1, subst (λ z. test f κ z ≡ false) x.1 x.0)

  -- unordered DATA has no number, and no entry names it
  named_same : (f : ForwardPoint) (kind m : Bool) (a n : ℕ) → (m ≡ false → (b k : ℕ) → covers f.entries false b k ≡ false) → covers f.entries kind a (cond (kind || m) n 0) ≡ covers f.entries kind a n
  named_same f true m a n h = refl
  named_same f false true a n h = refl
  named_same f false false a n h = h refl a 0 ∙ sym (h refl a n)

  test_is : (f : ForwardPoint) → (is_interleaved ≡ false → (a n : ℕ) → covers f.entries false a n ≡ false) → (u : ℕ) → test f (key u) (chunk_of message is_interleaved o u) ≡ drops message is_interleaved o f u
  test_is f only u =
      ap (λ z. z || (not is_interleaved && (not (ordered_of message (place_of o u)) && below (key u) f.upto))) (named_same f (ordered_of message (place_of o u)) is_interleaved (stream_of message (place_of o u)) (o.number (place_of o u)) only)
      ∙ ap (λ z. covers f.entries (ordered_of message (place_of o u)) (stream_of message (place_of o u)) (o.number (place_of o u)) || z) part
    where
      at : (m : Bool) (b c y : Bool) → (m ≡ false → b ≡ c) → (not m && (y && b)) ≡ (not m && (y && c))
      at true b c y h = refl
      at false b c y h = ap (λ z. y && z) (h refl)

      part : (not is_interleaved && (not (ordered_of message (place_of o u)) && below (key u) f.upto))
          ≡ (not is_interleaved && (not (ordered_of message (place_of o u)) && ltb u f.upto))
      part = at is_interleaved (below (key u) f.upto) (ltb u f.upto) (not (ordered_of message (place_of o u))) (λ m. laws.below_is m u f.upto)

  pub sees_forwarded : (f : ForwardPoint) → (is_interleaved ≡ false → (a n : ℕ) → covers f.entries false a n ≡ false) → Forwarded Key succ is_interleaved below q r f → Sees Key succ message is_interleaved o (skips message is_interleaved o i f) key r
  sees_forwarded f only z = record {
    holds = λ u h.
        let p = and_parts (i.held u) (not (drops message is_interleaved o f u)) h in
        let n = test_is f only u ∙ not-true (drops message is_interleaved o f u) p.1 in
        z.chunks (key u) ∙ (ap (keep_undropped Key succ is_interleaved below f (key u)) (s.holds u p.0) ∙ cond-false (test f (key u) (chunk_of message is_interleaved o u)) None (Some (chunk_of message is_interleaved o u)) n);
    held = λ κ w e.
        let x = undropped_some f κ (q.chunks κ) w (sym (z.chunks κ) ∙ e) in
        let y = s.held κ w x.0 in
        let n = sym (test_is f only y.0) ∙ (ap (λ c. test f c (chunk_of message is_interleaved o y.0)) y.2 ∙ (ap (test f κ) (sym y.3) ∙ x.1)) in
        (y.0, and_from (i.held y.0) (not (drops message is_interleaved o f y.0)) y.1 (not_from_false (drops message is_interleaved o f y.0) n), y.2, y.3);
    next_is = λ a. z.next a ∙ ap (λ n. raise f.entries true a n) (s.next_is a);
    passed_is = λ m a. z.passed a ∙ ap (λ n. raise f.entries false a n) (s.passed_is m a);
    ready_is = z.ready ∙ s.ready_is;
  }

  pub unforgotten_some : (a : ℕ) (c : Option Chunk) (w : Chunk) → keep_other_streams Key succ a c ≡ Some w → (c ≡ Some w) × (eqb w.stream a ≡ false)
  unforgotten_some a None w e = cc
  unforgotten_some a (Some v) w e = let x = cond_none (eqb v.stream a) v w e in (ap Some x.1, subst (λ z. eqb z.stream a ≡ false) x.1 x.0)

  -- a stream was reset, and its next number is the sender's count
  pub sees_forgotten : (a : ℕ) → i.next a ≡ o.counts true a → ResetPerformed Key succ q r a (o.counts true a) (o.counts false a) → Sees Key succ message is_interleaved o (performs_reset message o i a) key r
  sees_forgotten a aligned z = record {
    holds = λ u h.
        let p = and_parts (i.held u) (not (eqb (stream_of message (place_of o u)) a)) h in
        z.chunks (key u) ∙ (ap (keep_other_streams Key succ a) (s.holds u p.0)
        ∙ cond-false (eqb (stream_of message (place_of o u)) a) None (Some (chunk_of message is_interleaved o u)) (not-true (eqb (stream_of message (place_of o u)) a) p.1));
    held = λ κ w e.
        let x = unforgotten_some a (q.chunks κ) w (sym (z.chunks κ) ∙ e) in
        let y = s.held κ w x.0 in
        let n = ap (λ c. eqb c.stream a) (sym y.3) ∙ x.1 in
        (y.0, and_from (i.held y.0) (not (eqb (stream_of message (place_of o y.0)) a)) y.1 (not_from_false (eqb (stream_of message (place_of o y.0)) a) n), y.2, y.3);
    next_is = λ b.
        z.next b ∙ elim (cases_eq b a) [
          | inl e ↦ put_at q.next a (o.counts true a) b e ∙ (sym aligned ∙ ap i.next (sym e))
          | inr d ↦ put_off q.next a (o.counts true a) b d ∙ s.next_is b
        ];
    passed_is = λ m b.
        z.passed b ∙ elim (cases_eq b a) [
          | inl e ↦ put_at q.passed_below a (o.counts false a) b e ∙ sym (put_at i.passed_below a (o.counts false a) b e)
          | inr d ↦ put_off q.passed_below a (o.counts false a) b d ∙ (s.passed_is m b ∙ sym (put_off i.passed_below a (o.counts false a) b d))
        ];
    ready_is = z.ready ∙ s.ready_is;
  }

  -- what the queue calls late is behind the floor
  pub late_below : (t : ℕ) → IsLate Key succ is_interleaved q (chunk_of message is_interleaved o t) → o.number (place_of o t) < floor i (ordered_of message (place_of o t)) (stream_of message (place_of o t))
  late_below t h =
      let p = place_of o t in
      elim h [
        | inl a ↦
            let n : (chunk_of message is_interleaved o t).number ≡ o.number p = cond-true (ordered_of message p || is_interleaved) (o.number p) 0 (or_left (ordered_of message p) is_interleaved a.0) in
            let e = s.next_is (stream_of message p) in
            let b = a.1 in
            let l : o.number p < i.next (stream_of message p) = omega (arith, n, e, b) in
            subst (λ z. o.number p < floor i z (stream_of message p)) (sym a.0) l
        | inr a ↦
            let n : (chunk_of message is_interleaved o t).number ≡ o.number p = cond-true (ordered_of message p || is_interleaved) (o.number p) 0 (or_right (ordered_of message p) is_interleaved a.0) in
            let e = s.passed_is a.0 (stream_of message p) in
            let b = a.2 in
            let l : o.number p < i.passed_below (stream_of message p) = omega (arith, n, e, b) in
            subst (λ z. o.number p < floor i z (stream_of message p)) (sym a.1) l
      ]

-- the sender's steps change no chunk and no key
module _ (Key : Type 0) (succ : Key → Key) (message : ℕ → Message) (is_interleaved : Bool) (o o' : Sender) (out : Outgoing message o) (l : Later message o o') (i : Receiver) (inc : Incoming message o i) where
  abbrev chunk_from : Message → ℕ → Fragment → Chunk
  chunk_from m n f = chunk_with is_interleaved m n f.index f.is_end f.payload

  pub chunk_same : (t : ℕ) → t < count o → chunk_of message is_interleaved o' t ≡ chunk_of message is_interleaved o t
  chunk_same t h =
      ap (λ f. chunk_from (message f.place) (o'.number f.place) f) (l.same_fragment t h)
      ∙ ap (λ n. chunk_from (message (place_of o t)) n (fragment o t)) (l.number_stays (place_of o t) (out.place_begun t h))

  pub sees_later : (key key' : ℕ → Key) → ((t : ℕ) → t < count o → key' t ≡ key t) → (q : Queue Key succ) → Sees Key succ message is_interleaved o i key q → Sees Key succ message is_interleaved o' i key' q
  sees_later key key' same q s = record {
    holds = λ t h.
        let b = inc.seen_below t (inc.held_seen t h) in
        ap q.chunks (same t b) ∙ (s.holds t h ∙ ap Some (sym (chunk_same t b)));
    held = λ κ w e.
        let y = s.held κ w e in
        let b = inc.seen_below y.0 (inc.held_seen y.0 y.1) in
        (y.0, y.1, same y.0 b ∙ y.2, y.3 ∙ sym (chunk_same y.0 b));
    next_is = s.next_is;
    passed_is = s.passed_is;
    ready_is = s.ready_is;
  }

-- a SACK takes all items below its point away, one after another
module _ (message : ℕ → Message) (is_interleaved : Bool) where
  pub leave_all : (n c : ℕ) (x : Transfer) → IsAmong c x.sacks → x.acknowledged + n ≤ c
      → Happens message is_interleaved x (replicate n (acknowledge_next c)) × (run message is_interleaved x (replicate n (acknowledge_next c)) ≡ record x { acknowledged = x.acknowledged + n; reports = x.reports ++ reports_of x.sender x.acknowledged n })
  leave_all zero c x a h =
      let e : x.acknowledged ≡ x.acknowledged + 0 = omega arith in
      (tt, ap (λ z. let y : Transfer = record x { acknowledged = z } in y) e ∙ ap (λ z. let y : Transfer = record x { acknowledged = x.acknowledged + 0; reports = z } in y) (sym (append-nil x.reports)))
  leave_all (suc n) c x a h =
      let ih = leave_all n c (after message is_interleaved x (acknowledge_next c)) a (omega (arith, h)) in
      let e : suc x.acknowledged + n ≡ x.acknowledged + suc n = omega arith in
      let lt : x.acknowledged < c = omega (arith, h) in (
        ((a, lt), ih.0),
        ih.1 ∙ (ap (λ z. let y : Transfer = record x { acknowledged = z; reports = (x.reports ++ report x.sender x.acknowledged) ++ reports_of x.sender (suc x.acknowledged) n } in y) e
            ∙ ap (λ z. let y : Transfer = record x { acknowledged = x.acknowledged + suc n; reports = z } in y) (append_assoc x.reports (report x.sender x.acknowledged) (reports_of x.sender (suc x.acknowledged) n))),
      )

-- with interleaving, the keys of the fragments stay
pub message_key_same : (message : ℕ → Message) (o o' : Sender) → Outgoing message o → Later message o o' → (t : ℕ) → t < count o → message_key message o' t ≡ message_key message o t
message_key_same message o o' out l t h =
    ap (λ f. key_from (message f.place) (o'.number f.place) f.index) (l.same_fragment t h)
    ∙ ap (λ n. key_from (message (place_of o t)) n (fragment o t).index) (l.number_stays (place_of o t) (out.place_begun t h))
  where
    key_from : Message → ℕ → ℕ → MessageKey
    key_from m n j = record { ordered = m.ordered; stream = m.stream; number = n; index = j }
