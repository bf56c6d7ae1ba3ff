-- Where a row of code leads by the rules.
use Rattle.std.specs.Prelude.{◌≡◌, ℕ, suc, Bool, Option, List, zero, [], ◌∷◌, ◌++◌}
use Rattle.proof_protocol.specs.State.{Message, Sender, Transfer}
use Rattle.proof_protocol.specs.Rules.{TransferEvent, Happens, after, run, IsRipe, report}
use Rattle.proof_protocol.specs.Reassembly.{Queue, Sees, KeyOf, next_of, key_of}
use Rattle.proof_protocol.specs.Sending.{Waiting, Queued}
use Rattle.proof_protocol.specs.Invariant.{Invariant}

-- the receiver's events may happen, and lead to what the reassembly queue r sees, with nothing left to make ready
pub record Leads (Key : Type 0) (succ : Key → Key) (message : ℕ → Message) (is_interleaved : Bool) (key : ℕ → Key) (x : Transfer) (e : TransferEvent) (es : List TransferEvent) (r : Queue Key succ) : Type 0 where
  pub may : Happens message is_interleaved x (e ∷ es)
  pub kept : Invariant message is_interleaved (run message is_interleaved x (e ∷ es))
  pub sees : Sees Key succ message is_interleaved x.sender (run message is_interleaved x (e ∷ es)).receiver key r
  pub none_ripe : (p : ℕ) → IsRipe message x.sender (run message is_interleaved x (e ∷ es)).receiver p → ⊥
  pub seen_is : (t : ℕ) → (run message is_interleaved x (e ∷ es)).receiver.seen t ≡ (after message is_interleaved x e).receiver.seen t
  pub rest_stays : run message is_interleaved x (e ∷ es) ≡ record x { receiver = (run message is_interleaved x (e ∷ es)).receiver }

-- the same in either mode, and what the queue refines of x
module _ (message : ℕ → Message) (is_interleaved : Bool) (x : Transfer) where
  abbrev pub Refines : Queue (KeyOf is_interleaved) (next_of is_interleaved) → Type 0
  Refines q = Sees (KeyOf is_interleaved) (next_of is_interleaved) message is_interleaved x.sender x.receiver (key_of is_interleaved message x.sender) q

  abbrev pub LeadsTo : TransferEvent → List TransferEvent → Queue (KeyOf is_interleaved) (next_of is_interleaved) → Type 0
  LeadsTo e es r = Leads (KeyOf is_interleaved) (next_of is_interleaved) message is_interleaved (key_of is_interleaved message x.sender) x e es r

-- the sender's events may happen, and lead to the send queue r
pub record Sends (message : ℕ → Message) (is_interleaved : Bool) (x : Transfer) (es : List TransferEvent) (r : ℕ → Option Waiting) : Type 0 where
  pub may : Happens message is_interleaved x es
  pub kept : Invariant message is_interleaved (run message is_interleaved x es)
  pub queued : Queued message (run message is_interleaved x es).sender r
  pub rest_stays : run message is_interleaved x es ≡ record x { sender = (run message is_interleaved x es).sender }

-- the reports of n fragments from t on, in their order
abbrev pub reports_of : Sender → ℕ → ℕ → List ℕ
reports_of o t zero = []
reports_of o t (suc n) = report o t ++ reports_of o (suc t) n
