-- The values of the code are the receiver of the rules, and where a call leads.
use Rattle.std.specs.Prelude.{◌≡◌, ℕ, Bool, Option, None, List}
use Rattle.sctp_serial.specs.Messages as messages
use Rattle.sctp_rx.specs.DataTracker.{Tracker}
use Rattle.sctp_rx.specs.Held.{Held}
use Rattle.proof_refines.specs.SettledStreams.{AreSettled}
use Rattle.sctp_rx.specs.ReassemblyQueue.{Reassembly, Deferred}
use Rattle.proof_protocol.specs.State.{Message, Transfer, IsAmong}
use Rattle.proof_protocol.specs.Rules.{TransferEvent, Happens, run}
use Rattle.proof_protocol.specs.Invariant.{Invariant}
use Rattle.proof_protocol.specs.Reassembly.{Queue, KeyOf, next_of}
use Rattle.proof_protocol.specs.Joints.{Refines}
use Rattle.proof_protocol.specs.Lifted.{lift}
use Rattle.proof_refines.specs.View.{IsSeenAs, held_on, view_of, was_seen}

-- the tracker has seen what the receiver of the rules has, and the reassembly, where the first messages that became ready
-- were handed out, is a queue that refines it, once the numbers are added that were before the last reset of each stream. Nothing that is complete and in turn is held, and nothing at all before a
-- first TSN came
pub record ReceiverRefines (message : ℕ → Message) (is_interleaved : Bool) (base : Bool → ℕ → ℕ) (shift : ℕ) (x : Transfer) (handed : List messages.Message) (t : Tracker) (r : Reassembly) : Type 0 where
  pub queue : Queue (KeyOf is_interleaved) (next_of is_interleaved)
  pub refines : Refines message is_interleaved x (lift base is_interleaved queue)
  pub seen_as : IsSeenAs is_interleaved shift (view_of handed r) queue
  pub seen : (n : ℕ) → was_seen t n ≡ x.receiver.seen n
  pub mode : r.streams.is_interleaved ≡ is_interleaved
  pub settled : AreSettled r.streams
  pub fresh : r.first ≡ None → (kind : Bool) (s : ℕ) (h : Held) → IsAmong h (held_on r.streams kind s) → ⊥

-- these events may happen, the invariant is kept, nothing of the sender or of the packets changes, and they lead to
-- these values, with this reset deferred, or none
pub record Goes (message : ℕ → Message) (is_interleaved : Bool) (base : Bool → ℕ → ℕ) (shift : ℕ) (x : Transfer) (es : List TransferEvent) (handed : List messages.Message) (waiting : Option Deferred) (t : Tracker) (r : Reassembly) : Type 0 where
  pub may : Happens message is_interleaved x es
  pub kept : Invariant message is_interleaved (run message is_interleaved x es)
  pub rest_stays : run message is_interleaved x es ≡ record x { receiver = (run message is_interleaved x es).receiver }
  pub deferred : r.deferred ≡ waiting
  pub refines : ReceiverRefines message is_interleaved base shift (run message is_interleaved x es) handed t r
