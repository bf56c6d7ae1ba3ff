-- Which streams wait for the answer to their reset, through each call.
use Rattle.std.proofs.Common.{◌≡◌, ℕ, zero, suc, ◌+◌, Bool, true, false, cond, inl, inr, ◌⊎◌, Option, Some, None, List, [], ◌∷◌, length, filter, refl, sym, ap, ◌∙◌, subst}
use Rattle.std.specs.Prelude.{◌==◌, ◌&&◌, ◌||◌, not, nat_lt}
use Rattle.std.proofs.lemmas.Bool.{cases_eq, eq-eqb, ne_eqb, and_parts, and_from, or_left, or_right, or_from, not-true, false_from_ne_true}
use Rattle.sctp_state.specs.Events.{Emitted}
use Rattle.sctp_tx_queue.specs.declared.send_queue.stream.PauseState.{PauseState}
use Rattle.sctp_tx_queue.specs.declared.send_queue.stream.PauseState.TheVariants.{NotPaused, Pending, Paused, Resetting}
use Rattle.sctp_tx_queue.specs.declared.send_queue.stream.ResetStep.TheVariants.{Requested, Performed}
use Rattle.sctp_tx_queue.specs.SendQueue as queue
use Rattle.sctp_tx_queue.specs.SendQueue.{Queued, Queue, Stream, Streams, stream, add, push, with_stream}
use Rattle.sctp_tx_queue.specs.Produced.{Produced, Turn, pause_if_pending, pause_after, front_ends, without_stale, streams_without_stale, advance, turn, next_stream, produce_within, produce}
use Rattle.sctp_tx_queue.specs.Settings.{Changed, with_threshold, with_priority, set_priority, set_low_threshold, without_front, streams_discarded, front_discarded, discard}
use Rattle.sctp_tx_queue.specs.Resets.{pause_for_reset, is_partly, prepare_stream, prepare_reset, streams_to_request, request_resets, commit_resets, after_step, apply_reset_step, each_stepped}
use Rattle.sctp_tx_queue.proofs.InOrderLemmas.{put_elsewhere, discard_streams}
use Rattle.sctp_tx_queue.proofs.ProduceLemmas.{idles, gives, turned}
use Rattle.sctp_tx_outstanding.specs.OutstandingData.{Discard}
use Rattle.proof_protocol.specs.State.{IsAmong, has}
use Rattle.proof_protocol.proofs.ToolsLemmas.{not_both, has_from}
use Rattle.sctp_tx.specs.RetransmissionQueue.{Sender}
use Rattle.sctp_tx.specs.Resent.{may_send_new, resent}
use Rattle.sctp_tx.specs.Sending as packets
use Rattle.sctp_tx.specs.Sending.{Filling, offered_payload, append, queue_step_if, fill, discard_all, without_discards, filled_with, send}
use Rattle.proof_refines.specs.Line.{are_ascending}
use Rattle.proof_refines.specs.Records.{are_distinct}
use Rattle.proof_refines.specs.Pauses.{AreEach}
use Rattle.proof_refines.specs.Asked.{AreSameAsked, CallsKeepAsked, AreRequested}
use Rattle.proof_refines.proofs.ProduceLemmas.{is_other}
use Rattle.proof_refines.proofs.AcceptLemmas.{written, unwritten}
use Rattle.proof_refines.proofs.ResetLemmas.{put_cases, off}
use Rattle.proof_refines.proofs.PauseRowLemmas.{still_each}
use Rattle.proof_refines.proofs.QueueKeyLemmas.{requested_ready}

-- ---- streams

-- a stream that waits for the answer
abbrev IsAsked : Streams → ℕ → Type 0
IsAsked ss k = (stream k ss).pause ≡ Resetting

-- one waits exactly where the other does
record Alike (s t : Stream) : Type 0 where
  still : s.pause ≡ Resetting → t.pause ≡ Resetting
  before : t.pause ≡ Resetting → s.pause ≡ Resetting

record Same (ss ts : Streams) : Type 0 where
  still : (k : ℕ) → IsAsked ss k → IsAsked ts k
  before : (k : ℕ) → IsAsked ts k → IsAsked ss k

same_all : (ss : Streams) → Same ss ss
same_all ss = record { still = λ k e. e; before = λ k e. e }

same_then : (ss ts us : Streams) → Same ss ts → Same ts us → Same ss us
same_then ss ts us a b = record { still = λ k e. b.still k (a.still k e); before = λ k e. a.before k (b.before k e) }

same_asked : (q r : Queue) → Same q.streams r.streams → AreSameAsked q r
same_asked q r h = record { still = h.still; before = h.before }

-- one stream changes
one_alike : (id : ℕ) (ss ts : Streams) → Alike (stream id ss) (stream id ts) → ((k : ℕ) → (k ≡ id → ⊥) → stream k ts ≡ stream k ss) → Same ss ts
one_alike id ss ts a elsewhere = record {
  still = λ k e. elim (cases_eq k id) [
    | inl c ↦ subst (IsAsked ts) (sym c) (a.still (subst (IsAsked ss) c e))
    | inr d ↦ ap (λ (z : Stream). z.pause) (elsewhere k d) ∙ e
  ];
  before = λ k e. elim (cases_eq k id) [
    | inl c ↦ subst (IsAsked ss) (sym c) (a.before (subst (IsAsked ts) c e))
    | inr d ↦ ap (λ (z : Stream). z.pause) (sym (elsewhere k d)) ∙ e
  ];
}

-- which is there from then on
opened_same : (id : ℕ) (t : Stream) (ss : Streams) → Alike (stream id ss) t → Same ss (queue.put_stream id t (with_stream id ss))
opened_same id t ss a =
    one_alike id ss (queue.put_stream id t (with_stream id ss)) (subst (λ (z : Stream). Alike (stream id ss) z) (sym (written id t ss)) a) (λ k d. unwritten k id t ss d)

-- or where it is there
put_same : (id : ℕ) (t : Stream) (ss : Streams) → Alike (stream id ss) t → Same ss (queue.put_stream id t ss)
put_same id t ss a = one_alike id ss (queue.put_stream id t ss) here (λ k d. put_elsewhere k id t ss (is_other k id d))
  where
    here : Alike (stream id ss) (stream id (queue.put_stream id t ss))
    here = elim (put_cases id t ss) [
      | inl c ↦ subst (λ (z : Stream). Alike (stream id ss) z) (sym c) a
      | inr c ↦ subst (λ (z : Stream). Alike (stream id ss) z) (sym c.0) (record { still = λ e. e; before = λ e. e })
    ]

-- ---- calls

same_pause : (s t : Stream) → t.pause ≡ s.pause → Alike s t
same_pause s t h = record { still = λ e. h ∙ e; before = λ e. sym h ∙ e }

waiting_before : (b : Bool) (p : PauseState) → pause_for_reset b p ≡ Resetting → p ≡ Resetting
waiting_before true NotPaused e = absurd (cc)
waiting_before false NotPaused e = absurd (cc)
waiting_before b Pending e = absurd (cc)
waiting_before b Paused e = absurd (cc)
waiting_before b Resetting e = refl

settled_before : (p : PauseState) → pause_if_pending p ≡ Resetting → p ≡ Resetting
settled_before NotPaused e = absurd (cc)
settled_before Pending e = absurd (cc)
settled_before Paused e = absurd (cc)
settled_before Resetting e = refl

prepared_alike : (s : Stream) → Alike s (prepare_stream s)
prepared_alike s = record { still = λ e. ap (pause_for_reset (length (filter is_partly s.messages) == 0)) e; before = waiting_before (length (filter is_partly s.messages) == 0) s.pause }

cut_alike : (number : ℕ) (ms : List Queued) (s : Stream) → Alike s (without_front number ms s)
cut_alike number [] s = same_pause s s refl
cut_alike number (m ∷ rest) s = go (m.number == number)
  where
    go : (b : Bool) → Alike s (cond b (record s { messages = rest; pause = pause_if_pending s.pause }) s)
    go true = record { still = λ e. ap pause_if_pending e; before = settled_before s.pause }
    go false = same_pause s s refl

after_alike : (size : ℕ) (s : Stream) → Alike s (advance size s)
after_alike size s = go (front_ends size s.messages) refl
  where
    go : (b : Bool) → front_ends size s.messages ≡ b → Alike s (advance size s)
    go true e = record { still = λ c. ap (λ z. pause_after z s.pause) e ∙ ap pause_if_pending c; before = λ c. settled_before s.pause (sym (ap (λ z. pause_after z s.pause) e) ∙ c) }
    go false e = same_pause s (advance size s) (ap (λ z. pause_after z s.pause) e)

module _ {P : Type 0} where
  discard_same : (id number : ℕ) (q : Queue) (emitted : Emitted P) → Same q.streams (discard id number q emitted).queue.streams
  discard_same id number q emitted =
      let s : Stream = stream id q.streams in
      subst (λ (ss : Streams). Same q.streams ss) (sym (discard_streams id (streams_discarded id number q.streams) (front_discarded number s.messages) q emitted))
      (put_same id (without_front number s.messages s) q.streams (cut_alike number s.messages s))

  discards_same : (ds : List Discard) (q : Queue) (emitted : Emitted P) → Same q.streams (discard_all ds q emitted).queue.streams
  discards_same [] q emitted = same_all q.streams
  discards_same (d ∷ ds) q emitted =
      let y : Changed P = discard d.stream d.number q emitted in
      same_then q.streams y.queue.streams (discard_all ds y.queue y.emitted).queue.streams (discard_same d.stream d.number q emitted) (discards_same ds y.queue y.emitted)

  turn_same : (now id size : ℕ) (q : Queue) (emitted : Emitted P) → Same q.streams (turn now id size q emitted).queue.streams
  turn_same now id size q emitted =
      let ss : Streams = streams_without_stale now id q.streams in
      let s : Stream = stream id ss in
      same_then q.streams ss (queue.put_stream id (advance size s) ss) (put_same id (without_stale now (stream id q.streams)) q.streams (same_pause (stream id q.streams) (without_stale now (stream id q.streams)) refl))
      (put_same id (advance size s) ss (after_alike size s))

  within_same : (n now size : ℕ) (q : Queue) (emitted : Emitted P) → Same q.streams (produce_within n now size q emitted).queue.streams
  within_same zero now size q emitted = same_all q.streams
  within_same (suc n) now size q emitted = go (next_stream q) refl (within_same n now size)
    where
      Rest : Type 0
      Rest = (r : Queue) (later : Emitted P) → Same r.streams (produce_within n now size r later).queue.streams

      given : (id : ℕ) → next_stream q ≡ Some id → Rest → (made : Option Produced) → (turn now id size q emitted).made ≡ made → Same q.streams (produce_within (suc n) now size q emitted).queue.streams
      given id next rest None m =
          let t = turn now id size q emitted in
          subst (λ (t : Turn P). Same q.streams t.queue.streams) (sym (turned n now size id q emitted next (sym m)))
          (same_then q.streams t.queue.streams (produce_within n now size t.queue t.emitted).queue.streams (turn_same now id size q emitted) (rest t.queue t.emitted))
      given id next rest (Some made) m = subst (λ (t : Turn P). Same q.streams t.queue.streams) (sym (gives n now size id q emitted made next (sym m))) (turn_same now id size q emitted)

      go : (o : Option ℕ) → next_stream q ≡ o → Rest → Same q.streams (produce_within (suc n) now size q emitted).queue.streams
      go None c rest = subst (λ (t : Turn P). Same q.streams t.queue.streams) (sym (idles n now size q emitted c)) (same_all q.streams)
      go (Some id) c rest = given id c rest (turn now id size q emitted).made refl

  turned_same : (b : Bool) (now : ℕ) (f : Filling P) → Same f.queue.streams (queue_step_if b now f).filling.queue.streams
  turned_same false now f = same_all f.queue.streams
  turned_same true now f =
      let t : Turn P = produce now (offered_payload f.left f.sender) f.queue f.emitted in
      go t t.made (within_same (length f.queue.scheduler.times + 2) now (offered_payload f.left f.sender) f.queue f.emitted)
    where
      go : (t : Turn P) (made : Option Produced) → Same f.queue.streams t.queue.streams → Same f.queue.streams (append now made (record f { queue = t.queue; emitted = t.emitted })).queue.streams
      go t None c = c
      go t (Some p) c = c

  fills_same : (n now : ℕ) (f : Filling P) → Same f.queue.streams (fill n now f).queue.streams
  fills_same zero now f = same_all f.queue.streams
  fills_same (suc n) now f =
      let y : Filling P = (packets.next_turn now f).filling in
      let one : Same f.queue.streams y.queue.streams = turned_same (may_send_new f.sender && nat_lt 0 (offered_payload f.left f.sender)) now f in
      by (packets.next_turn now f).is_more y (fill n now y) one (fills_same n now y)
    where
      by : (b : Bool) (y z : Filling P) → Same f.queue.streams y.queue.streams → Same y.queue.streams z.queue.streams → Same f.queue.streams (cond b z y).queue.streams
      by true y z a c = same_then f.queue.streams y.queue.streams z.queue.streams a c
      by false y z a c = a

  pub send_asked : (now most : ℕ) (s : Sender) (q : Queue) (emitted : Emitted P) → AreSameAsked q (send now most s q emitted).queue
  send_asked now most s q emitted =
      let left : Changed P = discard_all s.outstanding.items.discards q emitted in
      let begun : Filling P = filled_with most (without_discards s) (resent most (without_discards s)) left in
      same_asked q (send now most s q emitted).queue
      (same_then q.streams left.queue.streams (fill (suc begun.left) now begun).queue.streams (discards_same s.outstanding.items.discards q emitted) (fills_same (suc begun.left) now begun))

  pub prepare_asked : (id : ℕ) (q : Queue) (emitted : Emitted P) → AreSameAsked q (prepare_reset id q emitted).queue
  prepare_asked id q emitted = same_asked q (prepare_reset id q emitted).queue (opened_same id (prepare_stream (stream id q.streams)) q.streams (prepared_alike (stream id q.streams)))

  pub watch_asked : (id n : ℕ) (q : Queue) (emitted : Emitted P) → AreSameAsked q (set_low_threshold id n q emitted).queue
  watch_asked id n q emitted =
      let s : Stream = stream id q.streams in
      same_asked q (set_low_threshold id n q emitted).queue (opened_same id (with_threshold n s) q.streams (same_pause s (with_threshold n s) refl))

pub calls_keep_asked : CallsKeepAsked
calls_keep_asked = record {
  accepting = λ id m q. let s : Stream = stream id q.streams in same_asked q (add id m q) (opened_same id (push m s) q.streams (same_pause s (push m s) refl));
  preparing = λ id q emitted. prepare_asked id q emitted;
  prioritised = λ id n q. let s : Stream = stream id q.streams in same_asked q (set_priority id n q) (opened_same id (with_priority n s) q.streams (same_pause s (with_priority n s) refl));
  watched = λ id n q emitted. watch_asked id n q emitted;
  mode = λ is_interleaved q. record { still = λ k e. e; before = λ k e. e };
  sending = λ now most s q emitted. send_asked now most s q emitted;
}

-- ---- a request

-- those that go into it wait from then on
now_asked : (id : ℕ) (q : Queue) → (stream id q.streams).pause ≡ Paused → IsAsked (apply_reset_step Requested id q).streams id
now_asked id q ready = elim (put_cases id (after_step Requested (stream id q.streams)) q.streams) [
  | inl here ↦ ap (λ (z : Stream). z.pause) here
  | inr there ↦ absurd (flows (sym ready ∙ ap (λ (z : Stream). z.pause) there.1))
]
  where
    flows : Paused ≡ NotPaused → ⊥
    flows e = cc

step_still : (id : ℕ) (q : Queue) (k : ℕ) → IsAsked q.streams k → IsAsked (apply_reset_step Requested id q).streams k
step_still id q k e = elim (cases_eq k id) [
  | inr d ↦ ap (λ (z : Stream). z.pause) (off Requested id q k d) ∙ e
  | inl c ↦
      subst (IsAsked (apply_reset_step Requested id q).streams) (sym c) (elim (put_cases id (after_step Requested (stream id q.streams)) q.streams) [
        | inl here ↦ ap (λ (z : Stream). z.pause) here
        | inr there ↦ ap (λ (z : Stream). z.pause) there.0 ∙ subst (IsAsked q.streams) c e
      ])
]

steps_still : (ids : List ℕ) (q : Queue) (k : ℕ) → IsAsked q.streams k → IsAsked (each_stepped Requested ids q).streams k
steps_still [] q k e = e
steps_still (id ∷ ids) q k e = steps_still ids (apply_reset_step Requested id q) k (step_still id q k e)

pub all_asked : (ids : List ℕ) (q : Queue) → AreEach Paused q ids → AreEach Resetting (each_stepped Requested ids q) ids
all_asked [] q e = tt
all_asked (id ∷ ids) q e =
    let r : Queue = apply_reset_step Requested id q in (
      steps_still ids r id (now_asked id q e.0),
      e.1,
      all_asked ids r (still_each Requested Paused id ids q e.1 e.2),
    )

pub has_this : (k id : ℕ) (ids : List ℕ) → k ≡ id → has k (id ∷ ids) ≡ true
has_this k id ids e = or_left (k == id) (has k ids) (eq-eqb k id e)

steps_others : (ids : List ℕ) (q : Queue) (k : ℕ) → IsAsked (each_stepped Requested ids q).streams k → (has k ids ≡ true) ⊎ IsAsked q.streams k
steps_others [] q k e = inr e
steps_others (id ∷ ids) q k e = elim (steps_others ids (apply_reset_step Requested id q) k e) [
  | inl t ↦ inl (or_right (k == id) (has k ids) t)
  | inr t ↦ elim (cases_eq k id) [
    | inl c ↦ inl (has_this k id ids c)
    | inr d ↦ inr (ap (λ (z : Stream). z.pause) (sym (off Requested id q k d)) ∙ t)
  ]
]

-- ---- lists of streams

among_from : (k : ℕ) (ids : List ℕ) → has k ids ≡ true → IsAmong k ids
among_from k [] t = absurd (cc)
among_from k (id ∷ ids) t = elim (cases_eq k id) [
  | inl e ↦ inl e
  | inr d ↦ inr (among_from k ids (ap (λ b. b || has k ids) (sym (ne_eqb k id d)) ∙ t))
]

each_once : (p : PauseState) (q : Queue) (ids : List ℕ) → AreEach p q ids → are_distinct ids ≡ true
each_once p q [] e = refl
each_once p q (id ∷ ids) e =
    and_from (not (has id ids)) (are_distinct ids) (ap not (false_from_ne_true (has id ids) (λ t. e.1 id (among_from id ids t) refl))) (each_once p q ids e.2)

each_paused : (p : PauseState) (q : Queue) (ids : List ℕ) → AreEach p q ids → (k : ℕ) → has k ids ≡ true → (stream k q.streams).pause ≡ p
each_paused p q [] e k t = absurd (cc)
each_paused p q (id ∷ ids) e k t = elim (cases_eq k id) [
  | inl c ↦ subst (λ j. (stream j q.streams).pause ≡ p) (sym c) e.0
  | inr d ↦ each_paused p q ids e.2 k (ap (λ b. b || has k ids) (sym (ne_eqb k id d)) ∙ t)
]

pub each_asked : (q : Queue) (ids : List ℕ) → are_distinct ids ≡ true → ((k : ℕ) → has k ids ≡ true → (stream k q.streams).pause ≡ Resetting) → AreEach Resetting q ids
each_asked q [] d h = tt
each_asked q (id ∷ ids) d h =
    let a = and_parts (not (has id ids)) (are_distinct ids) d in
    let none = not-true (has id ids) a.0 in (
      h id (has_this id id ids refl),
      (λ j m c. not_both (has_from j ids m) (ap (λ z. has z ids) (sym c) ∙ none)),
      each_asked q ids a.1 (λ k t. h k (or_right (k == id) (has k ids) t)),
    )

pub requested_asked : (q : Queue) (most : ℕ) → are_ascending 0 q.streams.entries ≡ true → AreRequested q (request_resets most q) (streams_to_request most q)
requested_asked q most h =
    let ids = streams_to_request most q in
    let e = requested_ready q most h in
    record {
      once = each_once Paused q ids e;
      ready = each_paused Paused q ids e;
      asked = each_paused Resetting (request_resets most q) ids (all_asked ids q e);
      still = steps_still ids q;
      others = steps_others ids q;
    }

-- ---- the answer

pub answered_open : (ids : List ℕ) (q : Queue) (k : ℕ) → IsAsked (commit_resets ids q).streams k → (has k ids ≡ false) × IsAsked q.streams k
answered_open [] q k e = (refl, e)
answered_open (id ∷ ids) q k e =
    let z = answered_open ids (apply_reset_step Performed id q) k e in
    elim (cases_eq k id) [
      | inl c ↦ absurd (here (subst (IsAsked (apply_reset_step Performed id q).streams) c z.1))
      | inr d ↦ (or_from (k == id) (has k ids) (ne_eqb k id d) z.0, ap (λ (s : Stream). s.pause) (sym (off Performed id q k d)) ∙ z.1)
    ]
  where
    flows : NotPaused ≡ Resetting → ⊥
    flows e = cc

    here : IsAsked (apply_reset_step Performed id q).streams id → ⊥
    here t = elim (put_cases id (after_step Performed (stream id q.streams)) q.streams) [
      | inl c ↦ flows (sym (ap (λ (s : Stream). s.pause) c) ∙ t)
      | inr c ↦ flows (sym (ap (λ (s : Stream). s.pause) (c.0 ∙ c.1)) ∙ t)
    ]
