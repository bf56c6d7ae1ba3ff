-- An association has ended, a stream at a time.
use Rattle.std.proofs.Common.{◌≡◌, ℕ, suc, ◌+◌, ◌<◌, Bool, true, false, List, [], ◌∷◌, Option, Some, None, length, drop, get_or, refl, ap, sym, ◌∙◌, add-one}
use Rattle.std.specs.Prelude.{map, is_some, unwrap_or, ◌||◌, ◌==◌}
use Rattle.std.specs.List.{list_all}
use Rattle.std.specs.Map.{lookup, keys_of}
use Rattle.std.specs.Ordering.{nat_cmp}
use Rattle.std.specs.BTreeMap.{is_at}
use Rattle.std.proofs.Math.Seq.{drop-cons}
use Rattle.std.proofs.lemmas.Bool.{eqb-true}
use Rattle.sctp_serial.specs.declared.api.StreamId.{StreamId}
use Rattle.sctp_state.specs.declared.api.GivenUpCause.TheVariants.{Ended}
use Rattle.sctp_state.specs.Events.{Emitted, Grown, emit_events, emit_given_up, expired_events}
use Rattle.sctp_state.proofs.EventLemmas.{grown_same, grown_through}
use Rattle.sctp_tx_queue.specs.SendQueue.{Queued, Queue, Stream, Streams, blank, stream, put_stream, sendable}
use Rattle.sctp_tx_queue.specs.declared.send_queue.stream.PauseState.{PauseState}
use Rattle.sctp_tx_queue.specs.declared.send_queue.stream.PauseState.TheVariants.{NotPaused, Pending, Paused, Resetting}
use Rattle.sctp_tx_queue.specs.Emptied.{emptied, emptied_one, each_emptied, emit_ended, empty}
use Rattle.sctp_tx_queue.specs.InOrder.{are_in_order, is_first_begun, are_rising, has_rest, IsInOrder, IsUnsent, IsNumbered, HasRests}
use Rattle.sctp_tx_queue.proofs.EmittingLemmas.{grown_dropped}
use Rattle.sctp_tx_queue.proofs.InOrderLemmas.{each_put, put_messages, is_among, found_among, is_none}
use Rattle.sctp_tx_queue.proofs.StreamsLemmas.{changed_there, changed_nowhere}

-- what was emitted stands
pub grown_ended : {P : Type 0} (ms : List Queued) (t : Emitted P) → Grown t (emit_ended ms t)
grown_ended [] t = grown_same t
grown_ended {P} (m ∷ rest) t =
    let next : Emitted P = emit_events (expired_events m.lifecycle) (emit_given_up m.number Ended t) in
    grown_through t next (emit_ended rest next) (grown_dropped m.number Ended m.lifecycle t) (grown_ended rest next)

-- a stream without messages has nothing to send
pub nothing_sendable : (s : Stream) → sendable (emptied s) ≡ 0
nothing_sendable s = go s.pause
  where
    go : (p : PauseState) → (let t : Stream = record s { messages = []; pause = p } in sendable t) ≡ 0
    go NotPaused = refl
    go Pending = refl
    go Paused = refl
    go Resetting = refl

pub emptied_sendable : (id : ℕ) (ss : Streams) → sendable (stream id (put_stream id (emptied (stream id ss)) ss)) ≡ 0
emptied_sendable id ss = go (lookup (is_at (nat_cmp id)) ss.entries) refl
  where
    go : (o : Option Stream) → lookup (is_at (nat_cmp id)) ss.entries ≡ o → sendable (stream id (put_stream id (emptied (stream id ss)) ss)) ≡ 0
    go None e = ap sendable (changed_nowhere id (emptied (stream id ss)) ss (sym e))
    go (Some s) e = ap sendable (changed_there id s (emptied (stream id ss)) ss (sym e)) ∙ nothing_sendable (stream id ss)

pub empty_each : (ids : List StreamId) (i : ℕ) (none : StreamId) (q r : Queue) → i < length ids → r ≡ emptied_one (get_or ids i none).0 q
    → each_emptied (map (λ id. id.0) (drop (i + 1) ids)) r ≡ each_emptied (map (λ id. id.0) (drop i ids)) q
empty_each ids i none q r more after =
    ap (λ k. each_emptied (map (λ id. id.0) (drop k ids)) r) (add-one i)
    ∙ ap (λ s. each_emptied (map (λ id. id.0) (drop (suc i) ids)) s) after
    ∙ sym (ap (λ (xs : List StreamId). each_emptied (map (λ id. id.0) xs) q) (drop-cons ids i none more))

-- ---- what is left

-- a stream without messages stays so
stays_empty : (ids : List ℕ) (k : ℕ) (q : Queue) → (stream k q.streams).messages ≡ [] → (stream k (each_emptied ids q).streams).messages ≡ []
stays_empty [] k q h = h
stays_empty (id ∷ ids) k q h =
    stays_empty ids k (emptied_one id q)
    (each_put (λ i ms. i ≡ k → ms ≡ []) id (emptied (stream id q.streams)) q.streams (λ i e. ap (λ j. (stream j q.streams).messages) e ∙ h) (λ e. refl) k refl)

among_empty : (ids : List ℕ) (k : ℕ) (q : Queue) → is_among k ids ≡ true → (stream k (each_emptied ids q).streams).messages ≡ []
among_empty [] k q h = absurd (cc)
among_empty (id ∷ ids) k q h = go (k == id) refl h (λ g. among_empty ids k (emptied_one id q) g)
  where
    go : (b : Bool) → (k == id) ≡ b → b || is_among k ids ≡ true → (is_among k ids ≡ true → (stream k (each_emptied ids (emptied_one id q)).streams).messages ≡ []) → (stream k (each_emptied ids (emptied_one id q)).streams).messages ≡ []
    go true e g ih = stays_empty ids k (emptied_one id q) (ap (λ i. (stream i (emptied_one id q).streams).messages) (eqb-true k id e) ∙ put_messages id emptied q.streams refl)
    go false e g ih = ih g

pub emptied_messages : {P : Type 0} (k : ℕ) (q : Queue) (emitted : Emitted P) → (stream k (empty q emitted).queue.streams).messages ≡ []
emptied_messages k q emitted = go (is_some (lookup (is_at (nat_cmp k)) q.streams.entries)) refl
  where
    ids : List ℕ
    ids = keys_of q.streams.entries

    go : (b : Bool) → is_some (lookup (is_at (nat_cmp k)) q.streams.entries) ≡ b → (stream k (each_emptied ids q).streams).messages ≡ []
    go true e = among_empty ids k q (found_among k q.streams.entries e)
    go false e = stays_empty ids k q (ap (λ o. (unwrap_or o (blank q.streams)).messages) (is_none (lookup (is_at (nat_cmp k)) q.streams.entries) e))

pub empty_is : (s : Stream) → s.messages ≡ [] → s ≡ emptied s
empty_is s none = ap (λ (ms : List Queued). let t : Stream = record s { messages = ms } in t) none

pub emptied_begun : {P : Type 0} (q : Queue) (emitted : Emitted P) → (empty q emitted).queue.begun ≡ None
emptied_begun q emitted = refl

-- ---- what holds of it

pub emptied_unsent : {P : Type 0} (q : Queue) (emitted : Emitted P) → IsUnsent (empty q emitted).queue
emptied_unsent q emitted = record { first = λ k. ap is_first_begun (emptied_messages k q emitted); begun = refl }

pub emptied_in_order : {P : Type 0} (q : Queue) (emitted : Emitted P) → IsInOrder (empty q emitted).queue
emptied_in_order q emitted = record { order = λ k. ap are_in_order (emptied_messages k q emitted); begun = λ mode k. ap is_first_begun (emptied_messages k q emitted) }

pub emptied_numbered : {P : Type 0} (q : Queue) (emitted : Emitted P) → IsNumbered (empty q emitted).queue
emptied_numbered q emitted = record { rising = λ k. ap (λ ms. are_rising 0 (empty q emitted).queue.next_number ms) (emptied_messages k q emitted) }

pub emptied_rests : {P : Type 0} (q : Queue) (emitted : Emitted P) → HasRests (empty q emitted).queue
emptied_rests q emitted = record { rests = λ k. ap (λ ms. list_all has_rest ms) (emptied_messages k q emitted) }
