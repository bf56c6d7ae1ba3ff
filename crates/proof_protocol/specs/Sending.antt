-- The send queue as it sees itself: what waits and what is partly sent, by place.
use Rattle.std.specs.Prelude.{◌≡◌, ℕ, ◌<◌, ◌++◌, Bool, true, false, Option, Some, None, List}
use Rattle.proof_protocol.specs.State.{Message, Sender, gather}
use Rattle.proof_protocol.specs.Rules.{Waits, IsSettled}

pub record Waiting : Type 0 where
  pub begun : Bool
  pub rest : List ℕ  -- the bytes that no fragment has yet

-- the queue is that of the sender of the rules. Messages given up and not yet discarded are not counted in
pub record Queued (message : ℕ → Message) (o : Sender) (queue : ℕ → Option Waiting) : Type 0 where
  pub dequeued : (p : ℕ) → p < o.accepted → queue p ≡ None → IsSettled o p
  pub waits : (p : ℕ) (w : Waiting) → queue p ≡ Some w → w.begun ≡ false → Waits o p
  pub partly : (p : ℕ) (w : Waiting) → queue p ≡ Some w → w.begun ≡ true → o.partly p ≡ true
  pub rest : (p : ℕ) (w : Waiting) → queue p ≡ Some w → gather p o.numbered ++ w.rest ≡ (message p).payload
