-- What a packet keeps that was being filled when memory ran out.
use Rattle.std.specs.Prelude.{ℕ, List}
use Rattle.sctp_state.specs.Events.{Emitted, Grown}
use Rattle.sctp_tx_outstanding.specs.Keeps.{Keeps}
use Rattle.sctp_tx_queue.specs.SendQueue.{Queue}
use Rattle.sctp_tx_queue.specs.InOrder.{IsInOrder, IsNumbered, HasRests}
use Rattle.sctp_tx.specs.RetransmissionQueue.{Sender}
use Rattle.sctp_tx.specs.Interrupted.{PartlySent}

-- the order of the queue holds as before, and what was emitted stands
pub record QueueStays (q : Queue) (emitted : Emitted (List ℕ)) (rest : Queue) (later : Emitted (List ℕ)) : Type 0 where
  pub order : IsInOrder q → IsInOrder rest
  pub numbers : IsNumbered q → IsNumbered rest
  pub rests : HasRests q → HasRests rest
  pub events : Grown emitted later

-- each item is kept at its place as well; others may stand behind them
pub record Stays (s : Sender) (q : Queue) (emitted : Emitted (List ℕ)) (after : Sender) (rest : Queue) (later : Emitted (List ℕ)) : Type 0 where
  pub items : Keeps s.outstanding.items after.outstanding.items
  pub queue : QueueStays q emitted rest later

abbrev pub UnfinishedStays : Type 0
UnfinishedStays = (now most : ℕ) (s : Sender) (q : Queue) (emitted : Emitted (List ℕ)) (after : Sender) (rest : Queue) (later : Emitted (List ℕ))
    → PartlySent now most s q emitted after rest later → Stays s q emitted after rest later
