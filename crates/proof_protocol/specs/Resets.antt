-- Stream resets over the transfer (RFC 6525). A message belongs to the epoch that its stream is in at its acceptance.
use Rattle.std.specs.Prelude.{◌≡◌, ℕ, suc, ◌<◌, ◌≤◌, ◌==◌, ◌&&◌, ◌⊎◌, Bool, true, false, cond, List, [], ◌∷◌}
use Rattle.proof_protocol.specs.State.{Message, Sender, Transfer, IsAmong, put, count, place_of, stream_of, start}
use Rattle.proof_protocol.specs.Rules.{TransferEvent, accept, begin, send_forward, perform_reset, IsSettled, IsRipe, IsAllowed, after}
use Rattle.proof_protocol.specs.Invariant.{Invariant}

-- an outgoing reset request: with it the epoch begins, and all fragments of the earlier ones are below `upto`
pub record Request : Type 0 where
  pub stream : ℕ
  pub upto : ℕ
  pub epoch : ℕ

pub record Epochs : Type 0 where
  pub transfer : Transfer
  pub epoch : ℕ → ℕ  -- by place
  pub raised : ℕ → ℕ  -- by stream: the epoch of what is accepted now
  pub opened : ℕ → ℕ  -- by stream: what is of this epoch or an earlier one may be sent
  pub performed : ℕ → ℕ  -- by stream: how often the receiver has reset it
  pub requests : List Request  -- all that were ever sent
  pub base : ℕ → ℕ → Bool → ℕ  -- by stream, epoch and kind: how many messages were numbered before the epoch. It is 0 on the wire

pub data ResetEvent : Type 0 where
  transfers : (e : TransferEvent) → ResetEvent
  reset_stream : (s : ℕ) → ResetEvent  -- `reset_streams` names an open stream
  send_request : (s : ℕ) → ResetEvent
  perform : (r : Request) → ResetEvent
  commit : (s : ℕ) → ResetEvent  -- the answer has come

abbrev pub first_epoch : Epochs
first_epoch = record {
  transfer = start;
  epoch = λ p. 0;
  raised = λ s. 0;
  opened = λ s. 0;
  performed = λ s. 0;
  requests = [];
  base = λ s e kind. 0;
}

-- the stream's numbers on the wire begin again
abbrev pub restarts : Sender → ℕ → Sender
restarts o s = record o { following = λ kind a. cond (a == s) 0 (o.following kind a) }

-- an epoch begins with the counts of what was numbered before it
abbrev pub rebase : Epochs → Request → ℕ → ℕ → Bool → ℕ
rebase x r s e kind = cond ((s == r.stream) && (e == r.epoch)) (x.transfer.sender.counts kind s) (x.base s e kind)

module _ (message : ℕ → Message) (is_interleaved : Bool) where
  -- a message waits until its stream is open again, and no forward point goes on where a request was sent
  abbrev pub InEpoch : Epochs → TransferEvent → Type 0
  InEpoch x (begin p) = x.epoch p ≤ x.opened (stream_of message p)
  InEpoch x (send_forward f) = (r : Request) → IsAmong r x.requests → (f.upto ≤ r.upto) ⊎ (r.upto ≤ x.transfer.acknowledged)
  InEpoch x (perform_reset s c) = ⊥
  InEpoch x e = Unit {0}

  abbrev pub MayReset : Epochs → ResetEvent → Type 0
  MayReset x (transfers e) = IsAllowed message is_interleaved x.transfer e × InEpoch x e
  MayReset x (reset_stream s) = x.raised s ≡ x.opened s
  MayReset x (send_request s) =
      (x.raised s ≡ suc (x.opened s))
      × ((p : ℕ) → p < x.transfer.sender.accepted → stream_of message p ≡ s → x.epoch p < x.raised s → IsSettled x.transfer.sender p)
  MayReset x (perform r) =
      IsAmong r x.requests × (r.epoch ≡ suc (x.performed r.stream))
      × ((t : ℕ) → t < r.upto → x.transfer.receiver.seen t ≡ true) × ((p : ℕ) → IsRipe message x.transfer.sender x.transfer.receiver p → ⊥)
  MayReset x (commit s) = (x.raised s ≡ suc (x.opened s)) × (x.raised s ≤ x.performed s)

  abbrev pub epochs_after : Epochs → TransferEvent → ℕ → ℕ
  epochs_after x accept = put x.epoch x.transfer.sender.accepted (x.raised (stream_of message x.transfer.sender.accepted))
  epochs_after x e = x.epoch

  abbrev pub goes : Epochs → ResetEvent → Epochs
  goes x (transfers e) = record x { transfer = after message is_interleaved x.transfer e; epoch = epochs_after x e }
  goes x (reset_stream s) = record x { raised = put x.raised s (suc (x.raised s)) }
  goes x (send_request s) = record x { requests = record { stream = s; upto = count x.transfer.sender; epoch = x.raised s } ∷ x.requests }
  goes x (perform r) = record x {
    transfer = after message is_interleaved x.transfer (perform_reset r.stream r.upto);
    performed = put x.performed r.stream r.epoch;
    base = rebase x r;
  }
  goes x (commit s) = record x { opened = put x.opened s (x.raised s); transfer = record x.transfer { sender = restarts x.transfer.sender s } }

  abbrev pub MayAll : Epochs → List ResetEvent → Type 0
  MayAll x [] = Unit {0}
  MayAll x (e ∷ es) = MayReset x e × MayAll (goes x e) es

  abbrev pub go_all : Epochs → List ResetEvent → Epochs
  go_all x [] = x
  go_all x (e ∷ es) = go_all (goes x e) es

  -- what a request says
  pub record RequestTrue (x : Epochs) (r : Request) : Type 0 where
    pub begins : r.epoch ≤ x.raised r.stream
    pub settled : (p : ℕ) → p < x.transfer.sender.accepted → stream_of message p ≡ r.stream → x.epoch p < r.epoch → IsSettled x.transfer.sender p
    pub below : (t : ℕ) → t < count x.transfer.sender → stream_of message (place_of x.transfer.sender t) ≡ r.stream → x.epoch (place_of x.transfer.sender t) < r.epoch → t < r.upto

  pub record EpochInvariant (x : Epochs) : Type 0 where
    pub kept : Invariant message is_interleaved x.transfer
    pub chain : (s : ℕ) → (x.opened s ≤ x.performed s) × (x.performed s ≤ x.raised s) × (x.raised s ≤ suc (x.opened s))
    pub placed : (p : ℕ) → p < x.transfer.sender.accepted → x.epoch p ≤ x.raised (stream_of message p)
    pub begun : (p : ℕ) → x.transfer.sender.begun p ≡ true → x.epoch p ≤ x.opened (stream_of message p)
    pub asked : (r : Request) → IsAmong r x.requests → RequestTrue x r
    -- a message of an earlier epoch than the receiver's is out of the send queue, and doesn't become ready any more
    pub settled : (p : ℕ) → p < x.transfer.sender.accepted → x.epoch p < x.performed (stream_of message p) → IsSettled x.transfer.sender p
    pub over : (p : ℕ) → x.transfer.sender.begun p ≡ true → x.epoch p < x.performed (stream_of message p)
        → (t : ℕ) × (t < count x.transfer.sender) × (place_of x.transfer.sender t ≡ p) × (x.transfer.receiver.seen t ≡ true) × (x.transfer.receiver.held t ≡ false)

  -- what can become ready is of the epoch that the receiver is in
  abbrev pub EachInItsEpoch : Epochs → Type 0
  EachInItsEpoch x = (p : ℕ) → IsRipe message x.transfer.sender x.transfer.receiver p → x.epoch p ≡ x.performed (stream_of message p)
