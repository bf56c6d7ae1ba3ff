-- Resets of streams at the sender, by the epochs of the rules (RFC 6525 section 5.1.2).
use Rattle.std.specs.List.{list_all}
use Rattle.std.specs.Prelude.{◌≡◌, ℕ, suc, ◌+◌, ◌≤◌, ◌⊎◌, not, Bool, true, false, Option, None, Some, List, [], ◌∷◌, ◌++◌, map, filter, ◌≢◌}
use Rattle.sctp_serial.specs.Unwrapped.{origin}
use Rattle.sctp_state.specs.Events.{Emitted}
use Rattle.sctp_tx_queue.specs.declared.send_queue.stream.PauseState.{PauseState}
use Rattle.sctp_tx_queue.specs.declared.send_queue.stream.PauseState.TheVariants.{NotPaused, Pending, Paused, Resetting}
use Rattle.sctp_tx_queue.specs.declared.send_queue.stream.ResetStep.TheVariants.{Requested, Performed}
use Rattle.sctp_tx_queue.specs.SendQueue.{Queued, Stream, Queue, stream, add, is_stopped}
use Rattle.sctp_tx_queue.specs.Produced.{turn}
use Rattle.sctp_tx_queue.specs.Settings.{set_priority, set_low_threshold}
use Rattle.sctp_tx_queue.specs.InOrder.{is_first_begun}
use Rattle.sctp_tx_queue.specs.Resets.{is_partly, prepare_reset, apply_reset_step, each_stepped, commit_resets}
use Rattle.sctp_tx_outstanding.specs.OutstandingData.{Items, begin_reset}
use Rattle.sctp_tx_outstanding.specs.Sack.{staying}
use Rattle.sctp_tx.specs.RetransmissionQueue.{Sender}
use Rattle.sctp_tx.specs.Sending.{discard_all}
use Rattle.proof_protocol.specs.State.{Message, Transfer, IsAmong, stream_of}
use Rattle.proof_protocol.specs.Rules.{TransferEvent, accept, give_up, send_forward, Happens, run}
use Rattle.proof_protocol.specs.Invariant.{Invariant}
use Rattle.proof_protocol.specs.Resets.{Request, Epochs, ResetEvent, transfers, reset_stream, send_request, commit, InEpoch, MayReset, goes, MayAll, go_all}
use Rattle.proof_refines.specs.SenderRefinement.{find, messages_of, SenderRefines}
use Rattle.proof_refines.specs.Reachable.{is_sending}
use Rattle.proof_refines.specs.Points.{IsSendable}
use Rattle.proof_refines.specs.Rows.{offered_entry, InEachState}

-- ---- a stream is to be reset

-- the messages of a stream of which nothing was sent
abbrev pub unsent_of : Queue → ℕ → List ℕ
unsent_of q id = map (λ (m : Queued). m.number) (filter (λ m. not (is_partly m)) (messages_of q id))

abbrev pub give_up_rules : List ℕ → List TransferEvent
give_up_rules ps = map give_up ps

-- each of these is given up, and nothing else
pub record Prepares {P : Type 0} (message : ℕ → Message) (lifecycle : ℕ → Option ℕ) (is_interleaved : Bool) (x : Transfer) (q : Queue) (s : Items) (id : ℕ) (emitted : Emitted P) : Type 0 where
  pub may : Happens message is_interleaved x (give_up_rules (unsent_of q id))
  pub kept : Invariant message is_interleaved (run message is_interleaved x (give_up_rules (unsent_of q id)))
  pub refines : SenderRefines message lifecycle is_interleaved (run message is_interleaved x (give_up_rules (unsent_of q id))) (prepare_reset id q emitted).queue s

abbrev pub PreparesRefine : Type 0
PreparesRefine = InEachState (λ message lifecycle is_interleaved x q s. (id : ℕ) (emitted : Emitted (List ℕ)) → Prepares message lifecycle is_interleaved x q s.outstanding.items id emitted)

-- ---- a stream's pause

-- A stream that flows is open; any other waits for the answer to its reset, and what is accepted meanwhile is of the next epoch. One that
-- is stopped has nothing that is partly sent, and of one that is not yet a message is. What waits is of the newest epoch.
pub record IsPausedAs (x : Epochs) (k : ℕ) (s : Stream) : Type 0 where
  pub flows : s.pause ≡ NotPaused → x.raised k ≡ x.opened k
  pub shut : (s.pause ≡ NotPaused → ⊥) → x.raised k ≡ suc (x.opened k)
  pub stopped : is_stopped s.pause ≡ true → is_first_begun s.messages ≡ false
  pub pending : s.pause ≡ Pending → is_first_begun s.messages ≡ true
  pub newest : (p : ℕ) (m : Queued) → find p s.messages ≡ Some m → m.numbers ≡ None → x.epoch p ≡ x.raised k

abbrev pub ArePausedAs : Epochs → Queue → Type 0
ArePausedAs x q = (k : ℕ) → IsPausedAs x k (stream k q.streams)

-- ---- breakpoints

-- that of each request that was sent is there still, or all below it is acknowledged
abbrev pub HasBreaks : Epochs → Items → Type 0
HasBreaks x s = (r : Request) → IsAmong r x.requests → IsAmong (origin + r.upto) s.breaks ⊎ (r.upto ≤ x.transfer.acknowledged)

-- a request of these streams is sent
abbrev pub RequestsBreak : Type 0
RequestsBreak = (message : ℕ → Message) (lifecycle : ℕ → Option ℕ) (is_interleaved : Bool) (x : Epochs) (q : Queue) (s : Items) (ids : List ℕ)
    → SenderRefines message lifecycle is_interleaved x.transfer q s → HasBreaks x s → HasBreaks (go_all message is_interleaved x (map send_request ids)) (begin_reset s)

-- a SACK of c has come
abbrev pub SacksPassBreaks : Type 0
SacksPassBreaks = (x y : Epochs) (s : Items) (cumulative c : ℕ) → y.requests ≡ x.requests → x.transfer.acknowledged ≤ y.transfer.acknowledged
    → cumulative + 1 ≡ origin + c → c ≤ y.transfer.acknowledged → HasBreaks x s → HasBreaks y (staying cumulative s)

-- a forward point that is due goes on over no request
abbrev pub PointsEndAtBreaks : Type 0
PointsEndAtBreaks = (message : ℕ → Message) (is_interleaved : Bool) (x : Epochs) (s : Sender) → HasBreaks x s.outstanding.items
    → (p : IsSendable message is_interleaved x.transfer s) → InEpoch message is_interleaved x (send_forward p.point)

-- ---- where streams that are prepared lead

-- a stream that was open waits from now on
abbrev pub opens_next : PauseState → ℕ → List ResetEvent
opens_next NotPaused id = reset_stream id ∷ []
opens_next Pending id = []
opens_next Paused id = []
opens_next Resetting id = []

abbrev pub prepare_events : Queue → ℕ → List ResetEvent
prepare_events q id = map transfers (give_up_rules (unsent_of q id)) ++ opens_next (stream id q.streams).pause id

pub record PreparesPause {P : Type 0} (message : ℕ → Message) (is_interleaved : Bool) (x : Epochs) (q : Queue) (id : ℕ) (emitted : Emitted P) : Type 0 where
  pub may : MayAll message is_interleaved x (prepare_events q id)
  pub paused : ArePausedAs (go_all message is_interleaved x (prepare_events q id)) (prepare_reset id q emitted).queue

-- ---- each call leaves pauses that agree with the epochs

-- of each state that the rules with epochs lead to, and values that show it
abbrev pub InEachEpochs : ((ℕ → Message) → (ℕ → Option ℕ) → Bool → Epochs → Queue → Type 0) → Type 0
InEachEpochs P = (message : ℕ → Message) (lifecycle : ℕ → Option ℕ) (is_interleaved : Bool) (x : Epochs) (q : Queue) (s : Items)
    → Invariant message is_interleaved x.transfer → SenderRefines message lifecycle is_interleaved x.transfer q s → ArePausedAs x q → P message lifecycle is_interleaved x q

abbrev pub AcceptingPauses : Type 0
AcceptingPauses = InEachEpochs (λ message lifecycle is_interleaved x q.
    (expires : Option ℕ) (limit : ℕ) → ArePausedAs (goes message is_interleaved x (transfers accept))
    (add (stream_of message x.transfer.sender.accepted) (offered_entry message lifecycle x.transfer.sender.accepted expires limit) q))

abbrev pub PreparingPauses : Type 0
PreparingPauses = InEachEpochs (λ message lifecycle is_interleaved x q. (id : ℕ) (emitted : Emitted (List ℕ)) → PreparesPause message is_interleaved x q id emitted)

-- a stream that is ready goes into a request
abbrev pub RequestingPauses : Type 0
RequestingPauses = InEachEpochs (λ message lifecycle is_interleaved x q.
    (id : ℕ) → (stream id q.streams).pause ≡ Paused
    → MayReset message is_interleaved x (send_request id) × ArePausedAs (goes message is_interleaved x (send_request id)) (apply_reset_step Requested id q))

-- the answer to a reset that was performed
abbrev pub CommittingPauses : Type 0
CommittingPauses = InEachEpochs (λ message lifecycle is_interleaved x q.
    (id : ℕ) → (stream id q.streams).pause ≡ Resetting → x.raised id ≤ x.performed id
    → MayReset message is_interleaved x (commit id) × ArePausedAs (goes message is_interleaved x (commit id)) (apply_reset_step Performed id q))

-- so many streams, each of them once, have this pause
abbrev pub AreEach : PauseState → Queue → List ℕ → Type 0
AreEach p q [] = Unit {0}
AreEach p q (id ∷ ids) = ((stream id q.streams).pause ≡ p) × ((j : ℕ) → IsAmong j ids → id ≢ j) × AreEach p q ids

-- those that are ready go into one request
abbrev pub RequestPauses : Type 0
RequestPauses = InEachEpochs (λ message lifecycle is_interleaved x q.
    (ids : List ℕ) → AreEach Paused q ids
    → MayAll message is_interleaved x (map send_request ids) × ArePausedAs (go_all message is_interleaved x (map send_request ids)) (each_stepped Requested ids q))

-- and have its answer
abbrev pub AnswerPauses : Type 0
AnswerPauses = InEachEpochs (λ message lifecycle is_interleaved x q.
    (ids : List ℕ) → AreEach Resetting q ids → ((id : ℕ) → IsAmong id ids → x.raised id ≤ x.performed id)
    → MayAll message is_interleaved x (map commit ids) × ArePausedAs (go_all message is_interleaved x (map commit ids)) (commit_resets ids q))

-- settings of a stream
abbrev pub SettingPauses : Type 0
SettingPauses = InEachEpochs (λ message lifecycle is_interleaved x q.
    (id n : ℕ) (emitted : Emitted (List ℕ)) → ArePausedAs x (set_priority id n q) × ArePausedAs x (set_low_threshold id n q emitted).queue)

-- what is left of messages that were given up leaves
abbrev pub DiscardingPauses : Type 0
DiscardingPauses = (message : ℕ → Message) (lifecycle : ℕ → Option ℕ) (is_interleaved : Bool) (x : Epochs) (q : Queue) (s : Items) (emitted : Emitted (List ℕ))
    → SenderRefines message lifecycle is_interleaved x.transfer q s → ArePausedAs x q → ArePausedAs x (discard_all s.discards q emitted).queue

-- a turn of a stream that isn't stopped
abbrev pub TurningPauses : Type 0
TurningPauses = InEachEpochs (λ message lifecycle is_interleaved x q.
    (now id size : ℕ) (emitted : Emitted (List ℕ)) → is_stopped (stream id q.streams).pause ≡ false → ArePausedAs x (turn now id size q emitted).queue)

-- the rules of a sender, but for acceptance, leave the epochs
abbrev pub SendingPauses : Type 0
SendingPauses = (message : ℕ → Message) (is_interleaved : Bool) (x : Epochs) (q : Queue) (es : List TransferEvent)
    → list_all is_sending es ≡ true → ArePausedAs x q → ArePausedAs (go_all message is_interleaved x (map transfers es)) q

-- what leads to it may happen by the rules with epochs: what it begins is of the epoch in which its stream is open
abbrev pub TurnsBegin : Type 0
TurnsBegin = InEachEpochs (λ message lifecycle is_interleaved x q.
    (now id size : ℕ) (emitted : Emitted (List ℕ)) (es : List TransferEvent) (t : Items) → is_stopped (stream id q.streams).pause ≡ false
    → Happens message is_interleaved x.transfer es → list_all is_sending es ≡ true → (run message is_interleaved x.transfer es).forward_points ≡ x.transfer.forward_points
    → SenderRefines message lifecycle is_interleaved (run message is_interleaved x.transfer es) (turn now id size q emitted).queue t
    → MayAll message is_interleaved x (map transfers es))
