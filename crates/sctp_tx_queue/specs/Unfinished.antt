-- What holds of a queue holds of what a call leaves that ran out of memory. Calls that are not named here leave the queue as
-- it was.
use Rattle.std.specs.Prelude.{ℕ, ◌<◌, List}
use Rattle.sctp_state.specs.Events.{Emitted}
use Rattle.sctp_tx_queue.specs.declared.send_queue.stream.ResetStep.{ResetStep}
use Rattle.sctp_tx_queue.specs.SendQueue.{Queue}
use Rattle.sctp_tx_queue.specs.Interrupted.{Interrupted, SomeStepped}
use Rattle.sctp_tx_queue.specs.Restarted.{SomeRestarted}

pub record IsKept (P : Queue → Type 0) : Type 0 where
  pub produced : (now size : ℕ) (q : Queue) (emitted : Emitted (List ℕ)) (after : Queue) (later : Emitted (List ℕ)) → 0 < size → P q → Interrupted now size q emitted after later → P after
  pub stepped : (step : ResetStep) (ids : List ℕ) (q after : Queue) → P q → SomeStepped step ids q after → P after
  pub restarted : (q after : Queue) → P q → SomeRestarted q after → P after
