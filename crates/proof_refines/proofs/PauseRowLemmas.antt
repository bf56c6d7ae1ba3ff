-- A stream's pause agrees with its epochs through settings, discards and turns of a stream, and where several streams go into a request.
use Rattle.std.proofs.Common.{◌≡◌, ◌≢◌, ℕ, ◌+◌, ◌≤◌, Bool, true, false, not, cond, inl, inr, Option, Some, None, List, [], ◌∷◌, map, refl, sym, ap, ◌∙◌, subst, arith}
use Rattle.std.specs.Prelude.{◌==◌, nat_lt, is_some}
use Rattle.std.specs.List.{list_all}
use Rattle.std.proofs.lemmas.Bool.{cases_eq, and_parts, and_from, cond-true, cond-false, not-true}
use Rattle.sctp_state.specs.Events.{Emitted}
use Rattle.sctp_tx_queue.specs.declared.send_queue.stream.PauseState.{PauseState}
use Rattle.sctp_tx_queue.specs.declared.send_queue.stream.PauseState.TheVariants.{NotPaused, Pending, Paused, Resetting}
use Rattle.sctp_tx_queue.specs.declared.send_queue.stream.ResetStep.{ResetStep}
use Rattle.sctp_tx_queue.specs.declared.send_queue.stream.ResetStep.TheVariants.{Requested, Performed}
use Rattle.sctp_tx_queue.specs.SendQueue.{Queued, Queue, Stream, Streams, stream, is_stopped}
use Rattle.sctp_tx_queue.specs.Produced.{is_stale, is_expired, fresh, without_stale, streams_without_stale, numbers_of, took, move_past, ends, pause_if_pending, advance, turn}
use Rattle.sctp_tx_queue.specs.Settings.{with_threshold, with_priority, set_priority, set_low_threshold, without_front, discard}
use Rattle.sctp_tx_queue.specs.InOrder.{is_unsent, is_begun_or_waiting, are_in_order, is_first_begun, are_rising, IsInOrder, IsNumbered}
use Rattle.sctp_tx_queue.specs.Resets.{apply_reset_step, each_stepped, commit_resets}
use Rattle.sctp_tx_queue.proofs.InOrderLemmas.{put_elsewhere}
use Rattle.sctp_tx_outstanding.specs.OutstandingData.{Items, Discard}
use Rattle.proof_protocol.specs.State.{Message, Sender, IsAmong}
use Rattle.proof_protocol.specs.Rules.{TransferEvent, accept, begin, number, end_with_placeholder, give_up, data_comes, late_comes, become_ready, send_sack, acknowledge_next, send_forward, forward_comes, perform_reset}
use Rattle.proof_protocol.specs.Resets.{Epochs, transfers, send_request, commit, epochs_after, goes, MayAll, go_all}
use Rattle.proof_protocol.proofs.ToolsLemmas.{not_both}
use Rattle.proof_protocol.proofs.CommonLemmas.{none_some}
use Rattle.sctp_tx.specs.Sending.{discard_all}
use Rattle.proof_refines.specs.SenderRefinement.{find, messages_of, AreDiscards, QueueRefines, SenderRefines}
use Rattle.proof_refines.specs.Reachable.{is_sending}
use Rattle.proof_refines.specs.Pauses.{IsPausedAs, ArePausedAs, AreEach}
use Rattle.proof_refines.proofs.FoundLemmas.{one_value, found_at, found_off, once, rises}
use Rattle.proof_refines.proofs.ProduceLemmas.{stream_changed, is_other}
use Rattle.proof_refines.proofs.AcceptLemmas.{written, unwritten}
use Rattle.proof_refines.proofs.DiscardLemmas as discards
use Rattle.proof_refines.proofs.DiscardLemmas.{discard_queue, discard_named}
use Rattle.proof_refines.proofs.ResetLemmas.{off, request_row, commit_row}
use Rattle.proof_refines.proofs.PausedLemmas.{requesting_may, requesting_keeps, committing_keeps}
use Rattle.sctp_tx_queue.proofs.NumberLemmas.{lowered}

-- ---- a stream later on

-- nothing waits in it that didn't, and its pause agrees with its first message
pub record Follows (s t : Stream) : Type 0 where
  pub flows : t.pause ≡ NotPaused → s.pause ≡ NotPaused
  pub shut : (t.pause ≡ NotPaused → ⊥) → s.pause ≡ NotPaused → ⊥
  pub stopped : is_stopped t.pause ≡ true → is_first_begun t.messages ≡ false
  pub pending : t.pause ≡ Pending → is_first_begun t.messages ≡ true
  pub new : (p : ℕ) (m : Queued) → find p t.messages ≡ Some m → m.numbers ≡ None → find p s.messages ≡ Some m

keeps_paused : (x : Epochs) (k : ℕ) (s t : Stream) → Follows s t → IsPausedAs x k s → IsPausedAs x k t
keeps_paused x k s t f i = record {
  flows = λ e. i.flows (f.flows e);
  shut = λ e. i.shut (f.shut e);
  stopped = f.stopped;
  pending = f.pending;
  newest = λ p m g e. i.newest p m (f.new p m g e) e;
}

keeps_others : (x : Epochs) (q r : Queue) (id : ℕ) → ((j : ℕ) → j ≢ id → stream j r.streams ≡ stream j q.streams) → IsPausedAs x id (stream id r.streams)
    → ArePausedAs x q → ArePausedAs x r
keeps_others x q r id elsewhere here h k =
    elim (cases_eq k id) [
      | inl e ↦ subst (λ z. IsPausedAs x z (stream z r.streams)) (sym e) here
      | inr d ↦ subst (λ (z : Stream). IsPausedAs x k z) (sym (elsewhere k d)) (h k)
    ]

settled_flows : (p : PauseState) → pause_if_pending p ≡ NotPaused → p ≡ NotPaused
settled_flows NotPaused e = refl
settled_flows Pending e = cc
settled_flows Paused e = cc
settled_flows Resetting e = cc

settled_pends : (p : PauseState) → pause_if_pending p ≡ Pending → ⊥
settled_pends NotPaused e = cc
settled_pends Pending e = cc
settled_pends Paused e = cc
settled_pends Resetting e = cc

first_waits : (ms : List Queued) → list_all is_unsent ms ≡ true → is_first_begun ms ≡ false
first_waits [] h = refl
first_waits (m ∷ rest) h = not-true (is_some m.numbers) (and_parts (not (is_some m.numbers)) (m.offset == 0) (and_parts (is_unsent m) (list_all is_unsent rest) h).0).0

-- what is found behind the first message
found_later : (p : ℕ) (m n : Queued) (rest : List Queued) (least most : ℕ) → are_rising least most (m ∷ rest) ≡ true → find p rest ≡ Some n → find p (m ∷ rest) ≡ Some n
found_later p m n rest least most r f = found_off p m rest (λ e. none_some (find p rest) n f (ap (λ z. find z rest) (sym e) ∙ once least most m rest r)) ∙ f

-- ---- settings

module _ {P : Type 0} (x : Epochs) (q : Queue) (h : ArePausedAs x q) (id n : ℕ) (emitted : Emitted P) where
  set_stream : (t : Stream) → t.messages ≡ (stream id q.streams).messages → t.pause ≡ (stream id q.streams).pause → IsPausedAs x id t
  set_stream t ms p =
      let i = h id in
      record {
        flows = λ e. i.flows (sym p ∙ e);
        shut = λ e. i.shut (λ c. e (p ∙ c));
        stopped = λ e. ap is_first_begun ms ∙ i.stopped (ap is_stopped (sym p) ∙ e);
        pending = λ e. ap is_first_begun ms ∙ i.pending (sym p ∙ e);
        newest = λ r m f e. i.newest r m (ap (find r) (sym ms) ∙ f) e;
      }

  pub settings_pause : ArePausedAs x (set_priority id n q) × ArePausedAs x (set_low_threshold id n q emitted).queue
  settings_pause = (
    keeps_others x q (set_priority id n q) id (λ j d. unwritten j id (with_priority n (stream id q.streams)) q.streams d)
        (subst (λ (z : Stream). IsPausedAs x id z) (sym (written id (with_priority n (stream id q.streams)) q.streams)) (set_stream (with_priority n (stream id q.streams)) refl refl)) h,
    keeps_others x q (set_low_threshold id n q emitted).queue id (λ j d. unwritten j id (with_threshold n (stream id q.streams)) q.streams d)
        (subst (λ (z : Stream). IsPausedAs x id z) (sym (written id (with_threshold n (stream id q.streams)) q.streams)) (set_stream (with_threshold n (stream id q.streams)) refl refl)) h,
  )

-- ---- discards

module _ {P : Type 0} (message : ℕ → Message) (lifecycle : ℕ → Option ℕ) (is_interleaved : Bool) (o : Sender) (q : Queue) (id number : ℕ) (emitted : Emitted P) (h : QueueRefines message lifecycle is_interleaved o q)
    (x : Epochs) (a : ArePausedAs x q) where
  abbrev s0 : Stream
  s0 = stream id q.streams

  same_stream : Follows s0 s0
  same_stream = record { flows = λ e. e; shut = λ e. e; stopped = (a id).stopped; pending = (a id).pending; new = λ p m f e. f }

  pub dropped_follows : (ms : List Queued) → s0.messages ≡ ms → Follows s0 (without_front number ms s0)
  dropped_follows [] e = same_stream
  dropped_follows (m ∷ rest) e = by (m.number == number)
    where
      waits : list_all is_unsent rest ≡ true
      waits = (and_parts (is_begun_or_waiting m) (list_all is_unsent rest) (sym (ap are_in_order e) ∙ h.order.order id)).1

      rising : are_rising 0 q.next_number (m ∷ rest) ≡ true
      rising = sym (ap (are_rising 0 q.next_number) e) ∙ h.rising.rising id

      by : (b : Bool) → Follows s0 (cond b (record s0 { messages = rest; pause = pause_if_pending s0.pause }) s0)
      by false = same_stream
      by true = record {
        flows = settled_flows s0.pause;
        shut = λ f g. f (ap pause_if_pending g);
        stopped = λ g. first_waits rest waits;
        pending = λ g. absurd (settled_pends s0.pause g);
        new = λ p n f g. ap (find p) e ∙ found_later p m n rest 0 q.next_number rising f;
      }

  pub discard_pauses : ArePausedAs x (discard id number q emitted).queue
  discard_pauses =
      keeps_others x q (discard id number q emitted).queue id (discards.elsewhere message lifecycle is_interleaved o q id number emitted)
      (subst (λ (z : Stream). IsPausedAs x id z) (sym (discards.there message lifecycle is_interleaved o q id number emitted))
      (keeps_paused x id s0 (without_front number s0.messages s0) (dropped_follows s0.messages refl) (a id))) a

pub discards_pause : {P : Type 0} (message : ℕ → Message) (lifecycle : ℕ → Option ℕ) (is_interleaved : Bool) (o : Sender) (x : Epochs) (ds : List Discard) (q : Queue) (emitted : Emitted P)
    → QueueRefines message lifecycle is_interleaved o q → AreDiscards o (messages_of q) ds → ArePausedAs x q → ArePausedAs x (discard_all ds q emitted).queue
discards_pause message lifecycle is_interleaved o x [] q emitted h a paused = paused
discards_pause message lifecycle is_interleaved o x (d ∷ ds) q emitted h a paused =
    let given_up = a.given_up d (inl refl) in
    let y = discard d.stream d.number q emitted in
    discards_pause message lifecycle is_interleaved o x ds y.queue y.emitted (discard_queue message lifecycle is_interleaved o q d.stream d.number emitted h given_up)
    (discard_named message lifecycle is_interleaved o q d.stream d.number emitted h given_up ds a) (discard_pauses message lifecycle is_interleaved o q d.stream d.number emitted h x paused)

-- ---- a turn

pub record IsFresh (now least most : ℕ) (ms : List Queued) : Type 0 where
  pub order : are_in_order (fresh now ms) ≡ true
  pub rising : are_rising least most (fresh now ms) ≡ true
  pub old : (p : ℕ) (n : Queued) → find p (fresh now ms) ≡ Some n → find p ms ≡ Some n
  pub begun : is_first_begun ms ≡ true → fresh now ms ≡ ms

waiting_ordered : (ms : List Queued) → list_all is_unsent ms ≡ true → are_in_order ms ≡ true
waiting_ordered [] h = refl
waiting_ordered (m ∷ rest) h =
    let a = and_parts (is_unsent m) (list_all is_unsent rest) h in
    let w = and_parts (not (is_some m.numbers)) (m.offset == 0) a.0 in
    and_from (is_begun_or_waiting m) (list_all is_unsent rest) (cond-false (is_some m.numbers) (nat_lt 0 m.offset) (m.offset == 0) (not-true (is_some m.numbers) w.0) ∙ w.1) a.1

is_fresh : (now least most : ℕ) (ms : List Queued) → are_rising least most ms ≡ true → are_in_order ms ≡ true → IsFresh now least most ms
is_fresh now least most [] r h = record { order = refl; rising = refl; old = λ p n f. f; begun = λ e. refl }
is_fresh now least most (m ∷ rest) r h =
    go (is_stale now m) refl
    (is_fresh now (m.number + 1) most rest (rises least most m rest r).behind (waiting_ordered rest (and_parts (is_begun_or_waiting m) (list_all is_unsent rest) h).1))
  where
    go : (b : Bool) → is_stale now m ≡ b → IsFresh now (m.number + 1) most rest → IsFresh now least most (m ∷ rest)
    go true t z =
        let l : fresh now (m ∷ rest) ≡ fresh now rest = cond-true (is_stale now m) (fresh now rest) (m ∷ rest) t in
        let u = rises least most m rest r in
        let low = u.low in
        record {
          order = ap are_in_order l ∙ z.order;
          rising = ap (are_rising least most) l ∙ lowered least (m.number + 1) most (fresh now rest) (omega (arith, low)) z.rising;
          old = λ p n f. found_later p m n rest least most r (z.old p n (sym (ap (find p) l) ∙ f));
          begun = λ e. absurd (not_both e (not-true (is_some m.numbers) (and_parts (not (is_some m.numbers)) (is_expired now m.expires) t).0));
        }
    go false t z =
        let l : fresh now (m ∷ rest) ≡ m ∷ rest = cond-false (is_stale now m) (fresh now rest) (m ∷ rest) t in
        record {
          order = ap are_in_order l ∙ h;
          rising = ap (are_rising least most) l ∙ r;
          old = λ p n f. sym (ap (find p) l) ∙ f;
          begun = λ e. l;
        }

module _ {P : Type 0} (x : Epochs) (q : Queue) (ordered : IsInOrder q) (numbered : IsNumbered q) (h : ArePausedAs x q) (now id size : ℕ) (emitted : Emitted P)
    (goes_on : is_stopped (stream id q.streams).pause ≡ false) where
  abbrev t0 : Stream
  t0 = stream id q.streams

  abbrev ss1 : Streams
  ss1 = streams_without_stale now id q.streams

  -- with these in the place of its messages
  abbrev with_these : List Queued → Stream
  with_these ms = record t0 { messages = ms }

  pub freshened : IsFresh now 0 q.next_number t0.messages
  freshened = is_fresh now 0 q.next_number t0.messages (numbered.rising id) (ordered.order id)

  pub turned_follows : (ms : List Queued) → fresh now t0.messages ≡ ms → Follows t0 (advance size (with_these ms))
  turned_follows [] e = record {
    flows = λ c. c;
    shut = λ c. c;
    stopped = λ c. absurd (not_both c goes_on);
    pending = λ c. absurd (let b = (h id).pending c in not_both b (ap is_first_begun (sym (freshened.begun b) ∙ e)));
    new = λ p m f g. absurd (cc);
  }
  turned_follows (m ∷ rest) e = by (ends size m)
    where
      waits : list_all is_unsent rest ≡ true
      waits = (and_parts (is_begun_or_waiting m) (list_all is_unsent rest) (sym (ap are_in_order e) ∙ freshened.order)).1

      rising : are_rising 0 q.next_number (m ∷ rest) ≡ true
      rising = sym (ap (are_rising 0 q.next_number) e) ∙ freshened.rising

      part : Queued
      part = move_past size (numbers_of (with_these (m ∷ rest)) m) m

      part_found : (p : ℕ) (n : Queued) → find p (part ∷ rest) ≡ Some n → n.numbers ≡ None → find p (m ∷ rest) ≡ Some n
      part_found p n f g =
          elim (cases_eq m.number p) [
            | inl c ↦ absurd (not_both (ap (λ (v : Queued). is_some v.numbers) (sym (one_value (find p (part ∷ rest)) part n (found_at p part rest c) f))) (ap is_some g))
            | inr d ↦ found_off p m rest d ∙ (sym (found_off p part rest d) ∙ f)
          ]

      by : (b : Bool) → Follows t0 (let t : Stream = record (took m (with_these (m ∷ rest))) { messages = cond b rest (part ∷ rest); pause = cond b (pause_if_pending t0.pause) t0.pause } in t)
      by true = record {
        flows = settled_flows t0.pause;
        shut = λ f g. f (ap pause_if_pending g);
        stopped = λ g. first_waits rest waits;
        pending = λ g. absurd (settled_pends t0.pause g);
        new = λ p n f g. freshened.old p n (ap (find p) e ∙ found_later p m n rest 0 q.next_number rising f);
      }
      by false = record {
        flows = λ c. c;
        shut = λ c. c;
        stopped = λ c. absurd (not_both c goes_on);
        pending = λ c. refl;
        new = λ p n f g. freshened.old p n (ap (find p) e ∙ part_found p n f g);
      }

  pub there : stream id (turn now id size q emitted).queue.streams ≡ advance size (without_stale now t0)
  there = stream_changed id (advance size) ss1 refl ∙ ap (advance size) (stream_changed id (without_stale now) q.streams refl)

  pub elsewhere : (j : ℕ) → j ≢ id → stream j (turn now id size q emitted).queue.streams ≡ stream j q.streams
  elsewhere j d = put_elsewhere j id (advance size (stream id ss1)) ss1 (is_other j id d) ∙ put_elsewhere j id (without_stale now t0) q.streams (is_other j id d)

  pub turn_pauses : ArePausedAs x (turn now id size q emitted).queue
  turn_pauses =
      keeps_others x q (turn now id size q emitted).queue id elsewhere
      (subst (λ (z : Stream). IsPausedAs x id z) (sym there) (keeps_paused x id t0 (advance size (without_stale now t0)) (turned_follows (fresh now t0.messages) refl) (h id))) h

-- ---- several streams

pub still_each : (step : ResetStep) (p : PauseState) (id : ℕ) (ids : List ℕ) (q : Queue) → ((j : ℕ) → IsAmong j ids → id ≢ j) → AreEach p q ids → AreEach p (apply_reset_step step id q) ids
still_each step p id [] q d e = tt
still_each step p id (j ∷ ids) q d e = (ap (λ (z : Stream). z.pause) (off step id q j (λ c. d j (inl refl) (sym c))) ∙ e.0, e.1, still_each step p id ids q (λ i a. d i (inr a)) e.2)

module _ (message : ℕ → Message) (lifecycle : ℕ → Option ℕ) (is_interleaved : Bool) (s : Items) where
  pub requests_pause : (ids : List ℕ) (x : Epochs) (q : Queue) → SenderRefines message lifecycle is_interleaved x.transfer q s → ArePausedAs x q → AreEach Paused q ids
      → MayAll message is_interleaved x (map send_request ids) × ArePausedAs (go_all message is_interleaved x (map send_request ids)) (each_stepped Requested ids q)
  requests_pause [] x q sh h e = (tt, h)
  requests_pause (id ∷ ids) x q sh h e =
      let z = requests_pause ids (goes message is_interleaved x (send_request id)) (apply_reset_step Requested id q) (request_row message lifecycle is_interleaved x.transfer q s sh id)
      (requesting_keeps message lifecycle is_interleaved x q s sh h id e.0) (still_each Requested Paused id ids q e.1 e.2) in
      ((requesting_may message lifecycle is_interleaved x q s sh h id e.0, z.0), z.1)

  pub answers_pause : (ids : List ℕ) (x : Epochs) (q : Queue) → SenderRefines message lifecycle is_interleaved x.transfer q s → ArePausedAs x q → AreEach Resetting q ids
      → ((id : ℕ) → IsAmong id ids → x.raised id ≤ x.performed id)
      → MayAll message is_interleaved x (map commit ids) × ArePausedAs (go_all message is_interleaved x (map commit ids)) (commit_resets ids q)
  answers_pause [] x q sh h e done = (tt, h)
  answers_pause (id ∷ ids) x q sh h e done =
      let one = committing_keeps message lifecycle is_interleaved x q s sh h id e.0 (done id (inl refl)) in
      let z = answers_pause ids (goes message is_interleaved x (commit id)) (apply_reset_step Performed id q) (commit_row message lifecycle is_interleaved x.transfer q s sh id) one.1
      (still_each Performed Resetting id ids q e.1 e.2) (λ i a. done i (inr a)) in
      ((one.0, z.0), z.1)

-- ---- the rules of a sender

module _ (message : ℕ → Message) (is_interleaved : Bool) where
  pub same_epochs : (x : Epochs) (e : TransferEvent) → is_sending e ≡ true → epochs_after message is_interleaved x e ≡ x.epoch
  same_epochs x accept h = cc
  same_epochs x (begin p) h = refl
  same_epochs x (number p bytes more) h = refl
  same_epochs x (end_with_placeholder p) h = refl
  same_epochs x (give_up p) h = refl
  same_epochs x (data_comes t) h = refl
  same_epochs x (late_comes t) h = refl
  same_epochs x (become_ready p) h = refl
  same_epochs x (send_sack c) h = refl
  same_epochs x (acknowledge_next c) h = refl
  same_epochs x (send_forward f) h = refl
  same_epochs x (forward_comes f) h = refl
  same_epochs x (perform_reset s c) h = refl

  pub sending_pauses : (es : List TransferEvent) (x : Epochs) (q : Queue) → list_all is_sending es ≡ true → ArePausedAs x q → ArePausedAs (go_all message is_interleaved x (map transfers es)) q
  sending_pauses [] x q all h = h
  sending_pauses (e ∷ es) x q all h =
      let a = and_parts (is_sending e) (list_all is_sending es) all in
      sending_pauses es (goes message is_interleaved x (transfers e)) q a.1
      (λ k. let i = h k in record { flows = i.flows; shut = i.shut; stopped = i.stopped; pending = i.pending; newest = λ p m f g. ap (λ y. y p) (same_epochs x e a.0) ∙ i.newest p m f g })
