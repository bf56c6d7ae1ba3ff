-- What a call leaves that ran out of memory before its end: nothing is lost but messages that expired, and their events are emitted.
use Rattle.std.specs.Prelude.{◌≡◌, ◌⊎◌, ℕ, zero, suc, Some, None, List, take}
use Rattle.sctp_state.specs.Events.{Emitted}
use Rattle.sctp_tx_queue.specs.declared.send_queue.stream.ResetStep.{ResetStep}
use Rattle.sctp_tx_queue.specs.SendQueue.{Queue}
use Rattle.sctp_tx_queue.specs.Produced.{turn, next_stream, streams_without_stale, emit_stale}
use Rattle.sctp_tx_queue.specs.Resets.{each_stepped}

-- all is as it was
pub record Same {P : Type 0} (q : Queue) (emitted : Emitted P) (after : Queue) (later : Emitted P) : Type 0 where
  pub queue : after ≡ q
  pub events : later ≡ emitted

-- the expired messages at the front of a stream are dropped, with their events, and nothing else
pub record Freed {P : Type 0} (now id : ℕ) (q : Queue) (emitted : Emitted P) (after : Queue) (later : Emitted P) : Type 0 where
  pub queue : after ≡ record q { streams = streams_without_stale now id q.streams }
  pub events : later ≡ emit_stale now id q.streams emitted

-- a stream had its turn, and gave no fragment
pub record TurnOver {P : Type 0} (now id size : ℕ) (q : Queue) (emitted : Emitted P) (after : Queue) (later : Emitted P) : Type 0 where
  pub queue : after ≡ (turn now id size q emitted).queue
  pub events : later ≡ (turn now id size q emitted).emitted
  pub none : (turn now id size q emitted).made ≡ None

-- so many streams had their turn and gave no fragment: all their messages had expired
abbrev pub Passed : {P : Type 0} → ℕ → ℕ → ℕ → Queue → Emitted P → Queue → Emitted P → Type 0
Passed zero now size q emitted after later = Same q emitted after later
Passed (suc turns) now size q emitted after later =
    (id : ℕ) × ((next_stream q ≡ Some id) × (((turn now id size q emitted).made ≡ None) × Passed turns now size (turn now id size q emitted).queue (turn now id size q emitted).emitted after later))

-- a turn that was not taken to its end
abbrev pub Stopped : {P : Type 0} → ℕ → ℕ → Queue → Emitted P → Queue → Emitted P → Type 0
Stopped now id q emitted after later = Same q emitted after later ⊎ Freed now id q emitted after later

-- `produce` was not taken to its end: no fragment was made
pub record Interrupted {P : Type 0} (now size : ℕ) (first : Queue) (before : Emitted P) (after : Queue) (later : Emitted P) : Type 0 where
  pub turns : ℕ
  pub queue : Queue
  pub emitted : Emitted P
  pub passed : Passed turns now size first before queue emitted
  pub id : ℕ
  pub next : next_stream queue ≡ Some id
  pub stopped : Stopped now id queue emitted after later

-- the first of these streams took the step, and the others did not
abbrev pub SomeStepped : ResetStep → List ℕ → Queue → Queue → Type 0
SomeStepped step ids q after = (count : ℕ) × (after ≡ each_stepped step (take count ids) q)
