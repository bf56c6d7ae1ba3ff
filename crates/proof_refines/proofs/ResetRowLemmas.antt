-- A reset of streams is performed: what is held of them is forgotten, and their numbers begin at 0 again.
use Rattle.std.proofs.Common.{◌≡◌, ◌≢◌, ℕ, suc, ◌+◌, ◌-◌, ◌<◌, ◌≤◌, Bool, true, false, not, cond, inl, inr, Option, Some, None, List, [], ◌∷◌, ◌++◌, length, refl, ap, sym, ◌∙◌, subst, arith, eqb}
use Rattle.std.specs.Prelude.{◌&&◌, ◌||◌, ◌==◌, unwrap_or}
use Rattle.std.specs.List.{list_any}
use Rattle.std.specs.Map.{lookup}
use Rattle.std.specs.Ordering.{nat_cmp}
use Rattle.std.specs.BTreeMap.{is_at}
use Rattle.std.proofs.lemmas.Bool.{cases_eq, cond-true, cond-false, eqb-true, eq-eqb, ne_eqb}
use Rattle.std.proofs.lemmas.Bool.Decides.{nat_tests}
use Rattle.sctp_serial.specs.Messages as messages
use Rattle.sctp_serial.specs.Unwrapped.{origin}
use Rattle.sctp_serial.specs.declared.api.StreamId.{StreamId}
use Rattle.sctp_rx.specs.Held.{Held}
use Rattle.sctp_rx.specs.Delivery.{fresh_ordered, fresh_unordered}
use Rattle.proof_refines.specs.SettledStreams.{AreSettled}
use Rattle.sctp_rx.specs.ReassemblyStreams as streams
use Rattle.sctp_rx.specs.ReassemblyStreams.{Entries, Streams, stream_at, is_named, forget}
use Rattle.sctp_rx.specs.ReassemblyQueue.{Reassembly, waiting_in, reset, apply_each}
use Rattle.sctp_rx.specs.DataTracker.{Tracker}
use Rattle.proof_refines.proofs.SettledQueueLemmas.{settled_begins_anew}
use Rattle.proof_protocol.specs.State.{Message, IsAmong, put, place_of, count, stream_of}
use Rattle.proof_protocol.specs.Reassembly.{Chunk, Queue, KeyOf, next_of, nth, ResetPerformed, NoneReady, keep_other_streams}
use Rattle.proof_protocol.specs.Invariant.{Invariant}
use Rattle.proof_protocol.specs.Joints.{Refines}
use Rattle.proof_protocol.specs.Lifted.{lift, IsRebased}
use Rattle.proof_protocol.specs.Resets.{Request, Epochs, perform, MayReset, goes, MayAll, go_all}
use Rattle.proof_protocol.specs.Based.{InEpochs}
use Rattle.proof_protocol.proofs.ToolsLemmas.{put_at, put_off}
use Rattle.proof_protocol.proofs.EpochLemmas.{resettable}
use Rattle.proof_protocol.proofs.BasedLemmas.{keeps_epochs}
use Rattle.proof_protocol.proofs.WireResetLemmas.{wire_reset_row, wire_sack_row}
use Rattle.proof_refines.specs.View.{View, IsSeenAs, chunk_of_held, ordered_at, unordered_at, held_on, view_with, view_of}
use Rattle.proof_refines.specs.ReceiverRefinement.{ReceiverRefines}
use Rattle.proof_refines.specs.Near.{IsOn, IsNearStream, IsNamed, ReadsNear}
use Rattle.proof_refines.specs.Resets.{base_now, AreNext, performs, named_by, Performs}
use Rattle.proof_refines.proofs.TakesLemmas.{AreAlike, seen_alike}
use Rattle.proof_refines.proofs.ReceivesLemmas.{none_ready}

-- ---- the maps of streams

module _ {S : Type 0} (fresh : S) (ids : List StreamId) where
  -- those that are named are as at first
  pub left_at : (s : ℕ) (es : Entries S) → stream_at fresh s (forget ids es) ≡ cond (is_named ids s) fresh (stream_at fresh s es)
  left_at s [] = by (is_named ids s)
    where
      by : (b : Bool) → fresh ≡ cond b fresh fresh
      by true = refl
      by false = refl
  left_at s (e ∷ es) = go (is_named ids e.0) refl (is_at (nat_cmp s) e.0) refl (left_at s es)
    where
      dropped : is_named ids e.0 ≡ true → forget ids (e ∷ es) ≡ forget ids es
      dropped n = cond-false (not (is_named ids e.0)) (e ∷ forget ids es) (forget ids es) (ap not n)

      kept : is_named ids e.0 ≡ false → forget ids (e ∷ es) ≡ e ∷ forget ids es
      kept n = cond-true (not (is_named ids e.0)) (e ∷ forget ids es) (forget ids es) (ap not n)

      same : is_at (nat_cmp s) e.0 ≡ true → s ≡ e.0
      same t = grind (arith, nat_tests)

      -- the stream among these
      at : Bool → Entries S → S
      at c fs = unwrap_or (cond c (Some e.1) (lookup (is_at (nat_cmp s)) fs)) fresh

      go : (b : Bool) → is_named ids e.0 ≡ b → (c : Bool) → is_at (nat_cmp s) e.0 ≡ c → stream_at fresh s (forget ids es) ≡ cond (is_named ids s) fresh (stream_at fresh s es)
          → stream_at fresh s (forget ids (e ∷ es)) ≡ cond (is_named ids s) fresh (stream_at fresh s (e ∷ es))
      go true n true t ih =
          let here : is_named ids s ≡ true = ap (is_named ids) (same t) ∙ n in
          ap (stream_at fresh s) (dropped n)
          ∙ (ih ∙ (cond-true (is_named ids s) fresh (stream_at fresh s es) here ∙ sym (cond-true (is_named ids s) fresh (stream_at fresh s (e ∷ es)) here)))
      go true n false t ih = ap (stream_at fresh s) (dropped n) ∙ (ih ∙ ap (λ z. cond (is_named ids s) fresh z) (sym (ap (λ c. at c es) t)))
      go false n true t ih =
          let here : is_named ids s ≡ false = ap (is_named ids) (same t) ∙ n in
          ap (stream_at fresh s) (kept n)
          ∙ (ap (λ c. at c (forget ids es)) t ∙ (sym (ap (λ c. at c es) t) ∙ sym (cond-false (is_named ids s) fresh (stream_at fresh s (e ∷ es)) here)))
      go false n false t ih =
          ap (stream_at fresh s) (kept n) ∙ (ap (λ c. at c (forget ids es)) t ∙ (ih ∙ ap (λ z. cond (is_named ids s) fresh z) (sym (ap (λ c. at c es) t))))

-- ---- views, and queues of numbers on the wire

abbrev without : ℕ → View → View
without s v = record {
  held = λ kind a. cond (a == s) [] (v.held kind a);
  next = λ a. cond (a == s) origin (v.next a);
  passed = λ a. cond (a == s) 0 (v.passed a);
  ready = v.ready;
}

module _ (is_interleaved : Bool) where
  abbrev forget_one : ℕ → Queue (KeyOf is_interleaved) (next_of is_interleaved) → Queue (KeyOf is_interleaved) (next_of is_interleaved)
  forget_one s q = record { chunks = λ κ. keep_other_streams (KeyOf is_interleaved) (next_of is_interleaved) s (q.chunks κ); next = put q.next s 0; passed_below = put q.passed_below s 0; ready = q.ready }

  is_forgotten : (s : ℕ) (q : Queue (KeyOf is_interleaved) (next_of is_interleaved)) → ResetPerformed (KeyOf is_interleaved) (next_of is_interleaved) q (forget_one s q) s 0 0
  is_forgotten s q = record { chunks = λ κ. refl; next = λ a. refl; passed = λ a. refl; ready = refl }

  left_some : (s : ℕ) (o : Option Chunk) (w : Chunk) → keep_other_streams (KeyOf is_interleaved) (next_of is_interleaved) s o ≡ Some w → (o ≡ Some w) × (eqb w.stream s ≡ false)
  left_some s None w e = cc
  left_some s (Some v) w e = go (eqb v.stream s) refl e
    where
      go : (b : Bool) → eqb v.stream s ≡ b → cond b None (Some v) ≡ Some w → (Some v ≡ Some w) × (eqb w.stream s ≡ false)
      go true t h = cc
      go false t h = (h, ap (λ (o : Option Chunk). eqb (stream_of_some o) s) (sym h) ∙ t)
        where
          stream_of_some : Option Chunk → ℕ
          stream_of_some None = 0
          stream_of_some (Some c) = c.stream

  -- no run is left there either
  none_there : (s : ℕ) (q : Queue (KeyOf is_interleaved) (next_of is_interleaved)) → NoneReady is_interleaved q → NoneReady is_interleaved (forget_one s q)
  none_there s q none κ n w y =
      let first = left_some s (q.chunks (nth (KeyOf is_interleaved) (next_of is_interleaved) κ 0)) (w 0) (y.held 0 (omega arith)) in
      none κ n w (record {
        held = λ j l. (left_some s (q.chunks (nth (KeyOf is_interleaved) (next_of is_interleaved) κ j)) (w j) (y.held j l)).0;
        begins = y.begins;
        ends = y.ends;
        inner = y.inner;
        in_turn = λ o. y.in_turn o ∙ cond-false (eqb (w 0).stream s) 0 (q.next (w 0).stream) first.1;
      })

  module _ (shift s : ℕ) (v : View) (q : Queue (KeyOf is_interleaved) (next_of is_interleaved)) (p : IsSeenAs is_interleaved shift v q) where
    was : (kind : Bool) (a : ℕ) (h : Held) → IsAmong h ((without s v).held kind a) → IsAmong h (v.held kind a) × (eqb a s ≡ false)
    was kind a h m = go (eqb a s) refl m
      where
        go : (b : Bool) → eqb a s ≡ b → IsAmong h (cond b [] (v.held kind a)) → IsAmong h (v.held kind a) × (eqb a s ≡ false)
        go true e m = absurd m
        go false e m = (m, e)

    forgotten_seen : IsSeenAs is_interleaved shift (without s v) (forget_one s q)
    forgotten_seen = record {
      filed = λ kind a h m. p.filed kind a h (was kind a h m).0;
      holds = λ kind a h m.
          let c = was kind a h m in
          let z = p.holds kind a h c.0 in
          let off : eqb h.fragment.stream_id s ≡ false = ap (λ n. eqb n s) (p.filed kind a h c.0).stream_is ∙ c.1 in (
            z.0,
            ap (keep_other_streams (KeyOf is_interleaved) (next_of is_interleaved) s) z.1 ∙ cond-false (eqb h.fragment.stream_id s) None (Some (chunk_of_held z.0 h)) off,
            z.2,
          );
      found = λ κ w e.
          let l = left_some s (q.chunks κ) w e in
          let f = p.found κ w l.0 in
          let on : f.1 ≡ w.stream = sym (p.filed f.0 f.1 f.2 f.3).stream_is ∙ ap (λ (c : Chunk). c.stream) f.5.1 in
          let off : eqb f.1 s ≡ false = ap (λ n. eqb n s) on ∙ l.1 in
          (f.0, f.1, f.2, subst (λ (hs : List Held). IsAmong f.2 hs) (sym (cond-false (eqb f.1 s) [] (v.held f.0 f.1) off)) f.3, f.4, f.5);
      next = λ a. numbers (eqb a s) (v.next a) (q.next a) (p.next a);
      passed = λ m a. passes (eqb a s) (v.passed a) (q.passed_below a) (p.passed m a);
      none_passed = λ m a. least (eqb a s) (v.passed a) (p.none_passed m a);
      ready = p.ready;
    }
      where
        numbers : (b : Bool) (m n : ℕ) → m ≡ origin + n → cond b origin m ≡ origin + cond b 0 n
        numbers true m n e = omega arith
        numbers false m n e = e

        passes : (b : Bool) (m n : ℕ) → n ≡ m - origin → cond b 0 n ≡ cond b 0 m - origin
        passes true m n e = omega arith
        passes false m n e = e

        least : (b : Bool) (m : ℕ) → m ≤ origin → cond b 0 m ≤ origin
        least true m e = omega arith
        least false m e = e

  -- one stream after the other
  abbrev without_all : List Request → View → View
  without_all [] v = v
  without_all (r ∷ rs) v = without_all rs (without r.stream v)

  abbrev forget_all : List Request → Queue (KeyOf is_interleaved) (next_of is_interleaved) → Queue (KeyOf is_interleaved) (next_of is_interleaved)
  forget_all [] q = q
  forget_all (r ∷ rs) q = forget_all rs (forget_one r.stream q)

  all_seen : (rs : List Request) (shift : ℕ) (v : View) (q : Queue (KeyOf is_interleaved) (next_of is_interleaved)) → IsSeenAs is_interleaved shift v q → IsSeenAs is_interleaved shift (without_all rs v) (forget_all rs q)
  all_seen [] shift v q p = p
  all_seen (r ∷ rs) shift v q p = all_seen rs shift (without r.stream v) (forget_one r.stream q) (forgotten_seen shift r.stream v q p)

  -- whether one of the requests names the stream
  abbrev names : List Request → ℕ → Bool
  names rs a = list_any (λ (i : StreamId). i.0 == a) (named_by rs)

  one_or : {A : Type 0} (b c : Bool) (first v : A) → cond c first (cond b first v) ≡ cond (b || c) first v
  one_or true true first v = refl
  one_or true false first v = refl
  one_or false c first v = refl

  turned : (a s : ℕ) → eqb a s ≡ eqb s a
  turned a s = elim (cases_eq a s) [ inl e ↦ eq-eqb a s e ∙ sym (eq-eqb s a (sym e)) | inr d ↦ ne_eqb a s d ∙ sym (ne_eqb s a (λ e. d (sym e))) ]

  all_held : (rs : List Request) (v : View) (kind : Bool) (a : ℕ) → (without_all rs v).held kind a ≡ cond (names rs a) [] (v.held kind a)
  all_held [] v kind a = refl
  all_held (r ∷ rs) v kind a =
      all_held rs (without r.stream v) kind a
      ∙ (ap (λ b. cond (names rs a) [] (cond b [] (v.held kind a))) (turned a r.stream) ∙ one_or (eqb r.stream a) (names rs a) [] (v.held kind a))

  all_next : (rs : List Request) (v : View) (a : ℕ) → (without_all rs v).next a ≡ cond (names rs a) origin (v.next a)
  all_next [] v a = refl
  all_next (r ∷ rs) v a =
      all_next rs (without r.stream v) a
      ∙ (ap (λ b. cond (names rs a) origin (cond b origin (v.next a))) (turned a r.stream) ∙ one_or (eqb r.stream a) (names rs a) origin (v.next a))

  all_passed : (rs : List Request) (v : View) (a : ℕ) → (without_all rs v).passed a ≡ cond (names rs a) 0 (v.passed a)
  all_passed [] v a = refl
  all_passed (r ∷ rs) v a =
      all_passed rs (without r.stream v) a
      ∙ (ap (λ b. cond (names rs a) 0 (cond b 0 (v.passed a))) (turned a r.stream) ∙ one_or (eqb r.stream a) (names rs a) 0 (v.passed a))

  all_ready : (rs : List Request) (v : View) → (without_all rs v).ready ≡ v.ready
  all_ready [] v = refl
  all_ready (r ∷ rs) v = all_ready rs (without r.stream v)

-- the streams of the code
module _ (r : Request) (rs : List Request) (ss : Streams) where
  abbrev ids : List StreamId
  ids = named_by (r ∷ rs)

  push : {A B : Type 0} (f : A → B) (b : Bool) (u v : A) → f (cond b u v) ≡ cond b (f u) (f v)
  push f true u v = refl
  push f false u v = refl

  -- they name only those among them
  pub named_is : (a : ℕ) → is_named ids a ≡ list_any (λ (i : StreamId). i.0 == a) ids
  named_is a = ap (λ b. b || list_any (λ (i : StreamId). i.0 == a) ids) (ne_eqb (length ids) 0 (λ e. omega (arith, e)))

  pub reset_held : (kind : Bool) (a : ℕ) → held_on (streams.reset ids ss) kind a ≡ cond (is_named ids a) [] (held_on ss kind a)
  reset_held true a = ap (λ z. z.held) (left_at fresh_ordered ids a ss.ordered) ∙ push (λ z. z.held) (is_named ids a) fresh_ordered (ordered_at ss a)
  reset_held false a = ap (λ z. z.held) (left_at fresh_unordered ids a ss.unordered) ∙ push (λ z. z.held) (is_named ids a) fresh_unordered (unordered_at ss a)

  pub reset_near : (a : ℕ) → (unordered_at (streams.reset ids ss) a).near ≡ cond (is_named ids a) origin (unordered_at ss a).near
  reset_near a = ap (λ z. z.near) (left_at fresh_unordered ids a ss.unordered) ∙ push (λ z. z.near) (is_named ids a) fresh_unordered (unordered_at ss a)

  pub reset_view : (is_interleaved : Bool) (ready : List messages.Message) → AreAlike (without_all is_interleaved (r ∷ rs) (view_with ss ready)) (view_with (streams.reset ids ss) ready)
  reset_view is_interleaved ready = record {
    held = λ kind a. reset_held kind a ∙ (ap (λ b. cond b [] (held_on ss kind a)) (named_is a) ∙ sym (all_held is_interleaved (r ∷ rs) (view_with ss ready) kind a));
    next = λ a.
        (ap (λ z. z.next) (left_at fresh_ordered ids a ss.ordered) ∙ push (λ z. z.next) (is_named ids a) fresh_ordered (ordered_at ss a))
        ∙ (ap (λ b. cond b fresh_ordered.next (ordered_at ss a).next) (named_is a) ∙ sym (all_next is_interleaved (r ∷ rs) (view_with ss ready) a));
    passed = λ a.
        (ap (λ z. z.passed) (left_at fresh_unordered ids a ss.unordered) ∙ push (λ z. z.passed) (is_named ids a) fresh_unordered (unordered_at ss a))
        ∙ (ap (λ b. cond b fresh_unordered.passed (unordered_at ss a).passed) (named_is a) ∙ sym (all_passed is_interleaved (r ∷ rs) (view_with ss ready) a));
    ready = sym (all_ready is_interleaved (r ∷ rs) (view_with ss ready));
  }

-- ---- the rules

module _ (message : ℕ → Message) (is_interleaved : Bool) where
  -- the new base
  rebased_now : (x : Epochs) (r : Request) → IsRebased (base_now x) (base_now (goes message is_interleaved x (perform r))) x.transfer.sender r.stream
  rebased_now x r kind a = elim (cases_eq a r.stream) [
    | inl e ↦
        let there : put x.performed r.stream r.epoch a ≡ r.epoch = put_at x.performed r.stream r.epoch a e in
        cond-true ((a == r.stream) && (put x.performed r.stream r.epoch a == r.epoch)) (x.transfer.sender.counts kind a) (x.base a (put x.performed r.stream r.epoch a) kind)
        (ap (λ b. b && (put x.performed r.stream r.epoch a == r.epoch)) (eq-eqb a r.stream e) ∙ eq-eqb (put x.performed r.stream r.epoch a) r.epoch there)
        ∙ (ap (x.transfer.sender.counts kind) e ∙ sym (cond-true (a == r.stream) (x.transfer.sender.counts kind r.stream) (base_now x kind a) (eq-eqb a r.stream e)))
    | inr d ↦
        cond-false ((a == r.stream) && (put x.performed r.stream r.epoch a == r.epoch)) (x.transfer.sender.counts kind a) (x.base a (put x.performed r.stream r.epoch a) kind)
        (ap (λ b. b && (put x.performed r.stream r.epoch a == r.epoch)) (ne_eqb a r.stream d))
        ∙ (ap (λ n. x.base a n kind) (put_off x.performed r.stream r.epoch a d) ∙ sym (cond-false (a == r.stream) (x.transfer.sender.counts kind r.stream) (base_now x kind a) (ne_eqb a r.stream d)))
  ]

  record Performed (x : Epochs) (rs : List Request) (q : Queue (KeyOf is_interleaved) (next_of is_interleaved)) : Type 0 where
    may : MayAll message is_interleaved x (performs rs)
    epochs : InEpochs message is_interleaved (go_all message is_interleaved x (performs rs))
    refines : Refines message is_interleaved (go_all message is_interleaved x (performs rs)).transfer (lift (base_now (go_all message is_interleaved x (performs rs))) is_interleaved (forget_all is_interleaved rs q))
    seen : (n : ℕ) → (go_all message is_interleaved x (performs rs)).transfer.receiver.seen n ≡ x.transfer.receiver.seen n
    sender : (go_all message is_interleaved x (performs rs)).transfer.sender ≡ x.transfer.sender
    points : (go_all message is_interleaved x (performs rs)).transfer.forward_points ≡ x.transfer.forward_points
    base : (kind : Bool) (a : ℕ) → base_now (go_all message is_interleaved x (performs rs)) kind a ≡ cond (names is_interleaved rs a) (x.transfer.sender.counts kind a) (base_now x kind a)

  -- what is left to be performed is so still
  next_still : (x : Epochs) (r : Request) (rs : List Request) → ((q : Request) → IsAmong q rs → r.stream ≢ q.stream) → AreNext x rs → AreNext (goes message is_interleaved x (perform r)) rs
  next_still x r [] d h = tt
  next_still x r (s ∷ rs) d h = (
    record { sent = h.0.sent; epoch = h.0.epoch ∙ ap suc (sym (put_off x.performed r.stream r.epoch s.stream (λ e. d s (inl refl) (sym e)))); all_seen = h.0.all_seen },
    h.1,
    next_still x r rs (λ q a. d q (inr a)) h.2,
  )

  performed : (rs : List Request) (x : Epochs) (q : Queue (KeyOf is_interleaved) (next_of is_interleaved)) → InEpochs message is_interleaved x → Refines message is_interleaved x.transfer (lift (base_now x) is_interleaved q) → NoneReady is_interleaved q
      → AreNext x rs → Performed x rs q
  performed [] x q k shows none h = record { may = tt; epochs = k; refines = shows; seen = λ n. refl; sender = refl; points = refl; base = λ kind a. refl }
  performed (r ∷ rs) x q k shows none h =
      let kept : Invariant message is_interleaved x.transfer = k.order.kept in
      let ripe = wire_sack_row message is_interleaved (base_now x) x.transfer q 0 kept shows (λ t l. absurd (omega (arith, l))) none in
      let may : MayReset message is_interleaved x (perform r) = (h.0.sent, h.0.epoch, h.0.all_seen, ripe.1) in
      let y : Epochs = goes message is_interleaved x (perform r) in
      let l = wire_reset_row message is_interleaved (base_now x) (base_now y) x.transfer q (forget_one is_interleaved r.stream q) r.stream r.upto kept shows (resettable message is_interleaved x k.order r may) (rebased_now x r)
      (is_forgotten is_interleaved r.stream q) none in
      let z = performed rs y (forget_one is_interleaved r.stream q) (keeps_epochs message is_interleaved x k (perform r) may) l.sees (none_there is_interleaved r.stream q none) (next_still x r rs h.1 h.2) in
      record {
        may = (may, z.may);
        epochs = z.epochs;
        refines = z.refines;
        seen = z.seen;
        sender = z.sender;
        points = z.points;
        base = λ kind a.
            z.base kind a
            ∙ (ap (λ n. cond (names is_interleaved rs a) (x.transfer.sender.counts kind a) n)
            (rebased_now x r kind a ∙ (same kind a (eqb a r.stream) refl ∙ ap (λ b. cond b (x.transfer.sender.counts kind a) (base_now x kind a)) (turned is_interleaved a r.stream)))
            ∙ one_or is_interleaved (eqb r.stream a) (names is_interleaved rs a) (x.transfer.sender.counts kind a) (base_now x kind a));
      }
    where
      same : (kind : Bool) (a : ℕ) (b : Bool) → eqb a r.stream ≡ b
          → cond (eqb a r.stream) (x.transfer.sender.counts kind r.stream) (base_now x kind a) ≡ cond (eqb a r.stream) (x.transfer.sender.counts kind a) (base_now x kind a)
      same kind a true e = ap (λ s. cond (eqb a r.stream) (x.transfer.sender.counts kind s) (base_now x kind a)) (sym (eqb-true a r.stream e))
      same kind a false e = ap (λ b. cond b (x.transfer.sender.counts kind r.stream) (base_now x kind a)) e ∙ sym (ap (λ b. cond b (x.transfer.sender.counts kind a) (base_now x kind a)) e)

-- ---- the values

module _ (message : ℕ → Message) (is_interleaved : Bool) (first shift : ℕ) (x : Epochs) (k : InEpochs message is_interleaved x) (handed : List messages.Message) (t : Tracker) (r : Reassembly)
    (shown : ReceiverRefines message is_interleaved (base_now x) shift x.transfer handed t r) (near : ReadsNear message is_interleaved (base_now x) first shift x.transfer r)
    (q : Request) (rs : List Request) (next : AreNext x (q ∷ rs)) (idle : waiting_in r.deferred ≡ []) where
  abbrev y : Epochs
  y = go_all message is_interleaved x (performs (q ∷ rs))

  abbrev plain : Reassembly
  plain = record r { streams = streams.reset (named_by (q ∷ rs)) r.streams; deferred = None }

  call_is : reset (named_by (q ∷ rs)) r ≡ plain
  call_is = ap (λ ws. apply_each ws plain) idle

  done : Performed message is_interleaved x (q ∷ rs) shown.queue
  done = performed message is_interleaved (q ∷ rs) x shown.queue k shown.refines (none_ready message is_interleaved (base_now x) shift x.transfer k.order.kept handed t r shown) next

  receives_then : ReceiverRefines message is_interleaved (base_now y) shift y.transfer handed t plain
  receives_then = record {
    queue = forget_all is_interleaved (q ∷ rs) shown.queue;
    refines = done.refines;
    seen_as = seen_alike is_interleaved shift (without_all is_interleaved (q ∷ rs) (view_of handed r)) (view_of handed plain) (forget_all is_interleaved (q ∷ rs) shown.queue)
        (reset_view q rs r.streams is_interleaved (handed ++ r.ready)) (all_seen is_interleaved (q ∷ rs) shift (view_of handed r) shown.queue shown.seen_as);
    seen = λ n. shown.seen n ∙ sym (done.seen n);
    mode = shown.mode;
    settled = subst (λ (z : Reassembly). AreSettled z.streams) call_is (settled_begins_anew (named_by (q ∷ rs)) r shown.settled);
    fresh = λ e kind s h a. shown.fresh e kind s h (was_held kind s h (is_named (named_by (q ∷ rs)) s) (subst (λ (hs : List Held). IsAmong h hs) (reset_held q rs r.streams kind s) a));
  }
    where
      was_held : (kind : Bool) (s : ℕ) (h : Held) (b : Bool) → IsAmong h (cond b [] (held_on r.streams kind s)) → IsAmong h (held_on r.streams kind s)
      was_held kind s h true a = absurd a
      was_held kind s h false a = a

  near_stream : (s : ℕ) → IsNearStream message (base_now x) s x.transfer (unordered_at r.streams s).near → IsNearStream message (base_now y) s y.transfer (unordered_at plain.streams s).near
  near_stream s n = go (is_named (named_by (q ∷ rs)) s) refl
    where
      on_before : (u : ℕ) → IsOn message y.transfer.sender s u → IsOn message x.transfer.sender s u
      on_before u on = subst (λ o. IsOn message o s u) done.sender on

      base_is : base_now y false s ≡ cond (is_named (named_by (q ∷ rs)) s) (x.transfer.sender.counts false s) (base_now x false s)
      base_is = done.base false s ∙ ap (λ b. cond b (x.transfer.sender.counts false s) (base_now x false s)) (sym (named_is q rs r.streams s))

      go : (b : Bool) → is_named (named_by (q ∷ rs)) s ≡ b → IsNearStream message (base_now y) s y.transfer (unordered_at plain.streams s).near
      go true e =
          let base : base_now y false s ≡ x.transfer.sender.counts false s =
          base_is ∙ cond-true (is_named (named_by (q ∷ rs)) s) (x.transfer.sender.counts false s) (base_now x false s) e in
          record {
            number = 0;
            near_is = reset_near q rs r.streams s ∙ (cond-true (is_named (named_by (q ∷ rs)) s) origin (unordered_at r.streams s).near e ∙ let z : origin ≡ origin + 0 = omega arith in z);
            met = inl refl;
            seen = λ u h on.
                let o = on_before u on in
                let below = subst (λ a. x.transfer.sender.number (place_of x.transfer.sender u) < x.transfer.sender.counts false a) o.stream
                (subst (λ b. x.transfer.sender.number (place_of x.transfer.sender u) < x.transfer.sender.counts b (stream_of message (place_of x.transfer.sender u))) o.unordered
                (k.order.kept.outgoing.counted (place_of x.transfer.sender u) (k.order.kept.outgoing.place_begun u o.numbered))) in
                let same : y.transfer.sender.number (place_of y.transfer.sender u) ≡ x.transfer.sender.number (place_of x.transfer.sender u) = ap (λ o. o.number (place_of o u)) done.sender in
                omega (arith, below, base, same);
          }
      go false e =
          let base : base_now y false s ≡ base_now x false s =
          base_is ∙ cond-false (is_named (named_by (q ∷ rs)) s) (x.transfer.sender.counts false s) (base_now x false s) e in
          record {
            number = n.number;
            near_is = reset_near q rs r.streams s ∙ (cond-false (is_named (named_by (q ∷ rs)) s) origin (unordered_at r.streams s).near e ∙ n.near_is);
            met = elim n.met [
              | inl z ↦ inl z
              | inr m ↦ inr (
                m.0,
                record {
                  on = subst (λ o. IsOn message o s m.0) (sym done.sender) m.1.on;
                  number = ap (λ o. o.number (place_of o m.0)) done.sender ∙ (m.1.number ∙ ap (λ b. b + n.number) (sym base));
                },
              )
            ];
            seen = λ u h on.
                let l = n.seen u (sym (done.seen u) ∙ h) (on_before u on) in
                let same : y.transfer.sender.number (place_of y.transfer.sender u) ≡ x.transfer.sender.number (place_of x.transfer.sender u) = ap (λ o. o.number (place_of o u)) done.sender in
                omega (arith, l, base, same);
          }

  near_then : ReadsNear message is_interleaved (base_now y) first shift y.transfer plain
  near_then = record {
    tsns = λ w h.
        let n = near.tsns w h in
        let numbered = n.numbered in
        let same = ap count done.sender in
        record {
          written = n.written;
          last = n.last;
          upto = n.upto;
          near_is = n.near_is;
          from = n.from;
          ahead = n.ahead;
          window = n.window;
          numbered = omega (arith, numbered, same);
          seen = λ u s. n.seen u (sym (done.seen u) ∙ s);
        };
    start = near.start;
    mids = λ m. record {
      streams = λ s. near_stream s ((near.mids m).streams s);
      points = λ f a.
          let p = (near.mids m).points f (subst (IsAmong f) done.points a) in
          subst (λ o. IsNamed message (record y.transfer { sender = o }) f) (sym done.sender)
          (record {
            unseen = λ s u on l. elim (p.unseen s u on l) [ inl b ↦ inl (done.seen u ∙ b) | inr c ↦ inr c ];
            last = p.last;
          });
    };
  }

  pub reset_row : Performs message is_interleaved first shift x (q ∷ rs) handed t r
  reset_row = record {
    may = done.may;
    refines = subst (λ (z : Reassembly). ReceiverRefines message is_interleaved (base_now y) shift y.transfer handed t z) (sym call_is) receives_then;
    near = subst (λ (z : Reassembly). ReadsNear message is_interleaved (base_now y) first shift y.transfer z) (sym call_is) near_then;
    none_deferred = ap (λ (z : Reassembly). z.deferred) call_is;
  }
