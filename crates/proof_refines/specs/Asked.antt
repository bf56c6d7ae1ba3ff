-- Streams that are in a request wait for its answer: which ones, through each call.
use Rattle.std.specs.Prelude.{◌≡◌, ◌≢◌, ◌⊎◌, ℕ, suc, Bool, true, false, List, map}
use Rattle.sctp_state.specs.Events.{Emitted}
use Rattle.sctp_tx_queue.specs.declared.send_queue.stream.PauseState.TheVariants.{NotPaused, Paused, Resetting}
use Rattle.sctp_tx_queue.specs.SendQueue.{Queued, Queue, stream, add}
use Rattle.sctp_tx_queue.specs.Settings.{set_priority, set_low_threshold, set_mode}
use Rattle.sctp_tx_queue.specs.Resets.{prepare_reset, streams_to_request, request_resets, commit_resets}
use Rattle.sctp_tx_outstanding.specs.OutstandingData.{Items}
use Rattle.sctp_tx.specs.RetransmissionQueue.{Sender}
use Rattle.sctp_tx.specs.Sending.{send}
use Rattle.proof_protocol.specs.State.{Message, IsAmong, has, count}
use Rattle.proof_protocol.specs.Resets.{Request, Epochs, send_request, commit, go_all}
use Rattle.proof_refines.specs.Line.{are_ascending}
use Rattle.proof_refines.specs.Records.{are_distinct}
use Rattle.proof_refines.specs.Rows.{restart_numbers}
use Rattle.proof_refines.specs.Pauses.{prepare_events, AreEach}
use Rattle.proof_refines.specs.Following.{FollowsEpochs, NoneIsReset}

-- the same streams wait for an answer
pub record AreSameAsked (q r : Queue) : Type 0 where
  pub still : (k : ℕ) → (stream k q.streams).pause ≡ Resetting → (stream k r.streams).pause ≡ Resetting
  pub before : (k : ℕ) → (stream k r.streams).pause ≡ Resetting → (stream k q.streams).pause ≡ Resetting

-- all calls but a request and its answer leave them
pub record CallsKeepAsked : Type 0 where
  pub accepting : (id : ℕ) (m : Queued) (q : Queue) → AreSameAsked q (add id m q)
  pub preparing : (id : ℕ) (q : Queue) (emitted : Emitted (List ℕ)) → AreSameAsked q (prepare_reset id q emitted).queue
  pub prioritised : (id n : ℕ) (q : Queue) → AreSameAsked q (set_priority id n q)
  pub watched : (id n : ℕ) (q : Queue) (emitted : Emitted (List ℕ)) → AreSameAsked q (set_low_threshold id n q emitted).queue
  pub mode : (is_interleaved : Bool) (q : Queue) → AreSameAsked q (set_mode is_interleaved q)
  pub sending : (now most : ℕ) (s : Sender) (q : Queue) (emitted : Emitted (List ℕ)) → AreSameAsked q (send now most s q emitted).queue

-- these streams, which were ready, go into a request
pub record AreRequested (q r : Queue) (ids : List ℕ) : Type 0 where
  pub once : are_distinct ids ≡ true
  pub ready : (k : ℕ) → has k ids ≡ true → (stream k q.streams).pause ≡ Paused
  pub asked : (k : ℕ) → has k ids ≡ true → (stream k r.streams).pause ≡ Resetting
  pub still : (k : ℕ) → (stream k q.streams).pause ≡ Resetting → (stream k r.streams).pause ≡ Resetting
  pub others : (k : ℕ) → (stream k r.streams).pause ≡ Resetting → (has k ids ≡ true) ⊎ ((stream k q.streams).pause ≡ Resetting)

abbrev pub RequestedAreAsked : Type 0
RequestedAreAsked = (q : Queue) (most : ℕ) → are_ascending 0 q.streams.entries ≡ true → AreRequested q (request_resets most q) (streams_to_request most q)

-- none of those that have the answer waits any more
abbrev pub AnsweredAreOpen : Type 0
AnsweredAreOpen = (ids : List ℕ) (q : Queue) (k : ℕ) → (stream k (commit_resets ids q).streams).pause ≡ Resetting → (has k ids ≡ false) × ((stream k q.streams).pause ≡ Resetting)

-- distinct streams that wait for the answer may have it
abbrev pub EachIsAsked : Type 0
EachIsAsked = (q : Queue) (ids : List ℕ) → are_distinct ids ≡ true → ((k : ℕ) → has k ids ≡ true → (stream k q.streams).pause ≡ Resetting) → AreEach Resetting q ids

-- before a first reset all streams flow
abbrev pub NoneIsAsked : Type 0
NoneIsAsked = (x : Epochs) (q : Queue) (s : Items) → NoneIsReset x → FollowsEpochs x q s → (k : ℕ) → (stream k q.streams).pause ≡ NotPaused

-- ---- what resets change of the epochs, and nothing else

-- a stream that was open raises its epoch, as `reset_streams` names it
pub record Raises (x y : Epochs) (q : Queue) (id : ℕ) : Type 0 where
  pub opens : (stream id q.streams).pause ≡ NotPaused → y.raised id ≡ suc (x.raised id)
  pub waits : ((stream id q.streams).pause ≡ NotPaused → ⊥) → y.raised ≡ x.raised
  pub others : (k : ℕ) → k ≢ id → y.raised k ≡ x.raised k
  pub rest : y ≡ record x { transfer = y.transfer; raised = y.raised }

abbrev pub PreparingRaises : Type 0
PreparingRaises = (message : ℕ → Message) (is_interleaved : Bool) (x : Epochs) (q : Queue) (id : ℕ) → Raises x (go_all message is_interleaved x (prepare_events q id)) q id

-- a request of streams is one of each
pub record SenderRequests (x y : Epochs) (ids : List ℕ) : Type 0 where
  pub sent : (s : ℕ) → has s ids ≡ true → IsAmong (record { stream = s; upto = count x.transfer.sender; epoch = x.raised s }) y.requests
  pub stay : (r : Request) → IsAmong r x.requests → IsAmong r y.requests
  pub rest : y ≡ record x { requests = y.requests }

abbrev pub RequestingSends : Type 0
RequestingSends = (message : ℕ → Message) (is_interleaved : Bool) (x : Epochs) (ids : List ℕ) → SenderRequests x (go_all message is_interleaved x (map send_request ids)) ids

-- streams that have the answer are open, and their numbers on the wire begin again
pub record SenderOpens (x y : Epochs) (ids : List ℕ) : Type 0 where
  pub opened : (s : ℕ) → has s ids ≡ true → y.opened s ≡ x.raised s
  pub others : (s : ℕ) → has s ids ≡ false → y.opened s ≡ x.opened s
  pub rest : y ≡ record x { transfer = restart_numbers ids x.transfer; opened = y.opened }

abbrev pub AnsweringOpens : Type 0
AnsweringOpens = (message : ℕ → Message) (is_interleaved : Bool) (x : Epochs) (ids : List ℕ) → SenderOpens x (go_all message is_interleaved x (map commit ids)) ids
