-- Resets of streams at the receiver, by the epochs of the rules (RFC 6525 section 5.2.2).
use Rattle.std.specs.Prelude.{◌≡◌, ◌≢◌, ℕ, suc, ◌+◌, ◌<◌, Bool, true, Option, Some, None, List, [], ◌∷◌, map}
use Rattle.sctp_serial.specs.Messages as messages
use Rattle.sctp_serial.specs.Unwrapped.{origin}
use Rattle.sctp_serial.specs.declared.api.StreamId.{StreamId}
use Rattle.sctp_rx.specs.DataTracker.{Tracker}
use Rattle.sctp_rx.specs.ReassemblyQueue.{Reassembly, Deferred, reset}
use Rattle.proof_protocol.specs.State.{Message, IsAmong}
use Rattle.proof_protocol.specs.Rules.{TransferEvent}
use Rattle.proof_protocol.specs.Resets.{Request, Epochs, ResetEvent, transfers, perform, MayAll, go_all}
use Rattle.proof_refines.specs.ReceiverRefinement.{ReceiverRefines}
use Rattle.proof_refines.specs.Near.{ReadsNear}

-- by kind and stream, what was numbered before the epoch that the receiver is in
abbrev pub base_now : Epochs → Bool → ℕ → ℕ
base_now x kind s = x.base s (x.performed s) kind

-- the request was sent, is the next one of its stream, and all below its last TSN was seen
pub record IsNext (x : Epochs) (r : Request) : Type 0 where
  pub sent : IsAmong r x.requests
  pub epoch : r.epoch ≡ suc (x.performed r.stream)
  pub all_seen : (t : ℕ) → t < r.upto → x.transfer.receiver.seen t ≡ true

-- so are these, each of another stream
abbrev pub AreNext : Epochs → List Request → Type 0
AreNext x [] = Unit {0}
AreNext x (r ∷ rs) = IsNext x r × ((q : Request) → IsAmong q rs → r.stream ≢ q.stream) × AreNext x rs

abbrev pub performs : List Request → List ResetEvent
performs rs = map perform rs

-- the streams that they name
abbrev pub named_by : List Request → List StreamId
named_by rs = map (λ (r : Request). let i : StreamId = record { 0 = r.stream } in i) rs

-- they are performed, and these values show the state
pub record Performs (message : ℕ → Message) (is_interleaved : Bool) (first shift : ℕ) (x : Epochs) (rs : List Request) (handed : List messages.Message) (t : Tracker) (r : Reassembly) : Type 0 where
  pub may : MayAll message is_interleaved x (performs rs)
  pub refines : ReceiverRefines message is_interleaved (base_now (go_all message is_interleaved x (performs rs))) shift (go_all message is_interleaved x (performs rs)).transfer handed t (reset (named_by rs) r)
  pub near : ReadsNear message is_interleaved (base_now (go_all message is_interleaved x (performs rs))) first shift (go_all message is_interleaved x (performs rs)).transfer (reset (named_by rs) r)
  pub none_deferred : (reset (named_by rs) r).deferred ≡ None

-- ---- a reset that is deferred

-- the request was sent with this last TSN, and is the next one of its stream
pub record IsNextTo (x : Epochs) (upto : ℕ) (r : Request) : Type 0 where
  pub sent : IsAmong r x.requests
  pub epoch : r.epoch ≡ suc (x.performed r.stream)
  pub last : r.upto ≡ upto

-- so are these, each of another stream
abbrev pub AreNextTo : Epochs → (upto : ℕ) → List Request → Type 0
AreNextTo x upto [] = Unit {0}
AreNextTo x upto (r ∷ rs) = IsNextTo x upto r × ((q : Request) → IsAmong q rs → r.stream ≢ q.stream) × AreNextTo x upto rs

-- they are deferred until their last TSN comes, and nothing waits for that
pub record IsDeferral (shift : ℕ) (x : Epochs) (first : Option ℕ) (d : Deferred) : Type 0 where
  pub request : Request
  pub more : List Request
  pub upto : ℕ
  pub next : AreNextTo x upto (request ∷ more)
  pub names : d.streams ≡ named_by (request ∷ more)
  pub last : d.last + shift + 1 ≡ origin + upto
  pub idle : d.waiting ≡ []
  pub counts_from : ℕ  -- a TSN that the queue counts from
  pub begun : first ≡ Some counts_from

-- no reset is deferred, or such a one
abbrev pub IsWaitingFor : (shift : ℕ) → Epochs → (first : Option ℕ) → Option Deferred → Type 0
IsWaitingFor shift x first None = Unit {0}
IsWaitingFor shift x first (Some d) = IsDeferral shift x first d

-- the rules go on by these events, and these values show the state
pub record Comes (message : ℕ → Message) (is_interleaved : Bool) (first shift : ℕ) (x : Epochs) (es : List TransferEvent) (handed : List messages.Message) (t : Tracker) (r : Reassembly) : Type 0 where
  pub may : MayAll message is_interleaved x (map transfers es)
  pub refines : ReceiverRefines message is_interleaved (base_now (go_all message is_interleaved x (map transfers es))) shift (go_all message is_interleaved x (map transfers es)).transfer handed t r
  pub near : ReadsNear message is_interleaved (base_now (go_all message is_interleaved x (map transfers es))) first shift (go_all message is_interleaved x (map transfers es)).transfer r
  pub waiting : IsWaitingFor shift (go_all message is_interleaved x (map transfers es)) r.first r.deferred
