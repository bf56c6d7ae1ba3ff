-- Which fragment the send queue gives: the next one of the stream that goes next.
use Rattle.std.specs.Prelude.{◌≡◌, ℕ, Some, None, List, []}
use Rattle.sctp_state.specs.Events.{Emitted}
use Rattle.sctp_tx_queue.specs.SendQueue.{Queue}
use Rattle.sctp_tx_queue.specs.Produced.{Produced, Turn, turn, idle, next_stream, produce}

module _ {P : Type 0} (now size : ℕ) where
  -- The stream that goes next gives its next fragment. One whose messages all expired gives none, and another one goes next. The
  -- stream is the scheduler's `peek`, or without interleaving that of the message which is partly sent.
  pub data IsProduced : Queue → Emitted P → Turn P → Type 0 where
    none_waits : {q : Queue} {emitted : Emitted P} → next_stream q ≡ None → IsProduced q emitted (idle q emitted)
    gives : {q : Queue} {emitted : Emitted P} (id : ℕ) (made : Produced) → next_stream q ≡ Some id → (turn now id size q emitted).made ≡ Some made → IsProduced q emitted (turn now id size q emitted)
    all_expired : {q : Queue} {emitted : Emitted P} (id : ℕ) (t : Turn P) → next_stream q ≡ Some id → (turn now id size q emitted).made ≡ None
        → IsProduced (turn now id size q emitted).queue (turn now id size q emitted).emitted t → IsProduced q emitted t

-- ---- the laws

abbrev pub ProducesByTheScheduler : Type 0
ProducesByTheScheduler = (now size : ℕ) (q : Queue) (emitted : Emitted (List ℕ)) → IsProduced now size q emitted (produce now size q emitted)

-- where it gives none, no stream has anything to send
abbrev pub ProducesWhatWaits : Type 0
ProducesWhatWaits = (now size : ℕ) (q : Queue) (emitted : Emitted (List ℕ)) → (produce now size q emitted).made ≡ None → (produce now size q emitted).queue.scheduler.times ≡ []
