-- Numbers by epoch: on the wire they begin again at 0 with each epoch of their stream. What that asks, and what follows.
use Rattle.std.specs.Prelude.{◌≡◌, ℕ, ◌+◌, ◌^◌, ◌<◌, ◌≤◌, Bool, true, false, List, ◌++◌}
use Rattle.proof_protocol.specs.State.{Message, Entry, ForwardPoint, Sender, IsAmong, has, count, place_of, stream_of, ordered_of}
use Rattle.proof_protocol.specs.Rules.{covers}
use Rattle.proof_protocol.specs.Resets.{Request, Epochs, EpochInvariant}

-- how many messages of its kind were numbered on its stream before a message's epoch
abbrev pub base_at : (ℕ → Message) → Epochs → ℕ → ℕ
base_at message x p = x.base (stream_of message p) (x.epoch p) (ordered_of message p)

-- An entry of a forward point stands for a fragment that the point passes, with the greatest number that is named of its stream
-- and kind up to here. Where its message is of an epoch before a request, the point ends before that request.
pub record Names (message : ℕ → Message) (o : Sender) (epoch : ℕ → ℕ) (requests : List Request) (f : ForwardPoint) (kind : Bool) (s n : ℕ) : Type 0 where
  pub at : ℕ
  pub below : at < f.upto
  pub kind_is : ordered_of message (place_of o at) ≡ kind
  pub on_stream : stream_of message (place_of o at) ≡ s
  pub above : n ≤ o.number (place_of o at)
  pub named : covers f.entries kind s (o.number (place_of o at)) ≡ true
  pub ends : (r : Request) → IsAmong r requests → r.stream ≡ s → epoch (place_of o at) < r.epoch → f.upto ≤ r.upto

-- an entry of a forward point is written as this message
pub record IsWritten (message : ℕ → Message) (o : Sender) (e : Entry) : Type 0 where
  pub place : ℕ
  pub begun : o.begun place ≡ true
  pub kind_is : ordered_of message place ≡ e.ordered
  pub on_stream : stream_of message place ≡ e.stream
  pub number : o.number place ≡ e.number
  pub written : o.written place ≡ e.written

-- the last request that was performed of a stream
pub record LastPerformed (x : Epochs) (s : ℕ) : Type 0 where
  pub request : Request
  pub sent : IsAmong request x.requests
  pub on_stream : request.stream ≡ s
  pub epoch : request.epoch ≡ x.performed s
  pub all_seen : (t : ℕ) → t < request.upto → x.transfer.receiver.seen t ≡ true

module _ (message : ℕ → Message) where
  pub record Based (x : Epochs) : Type 0 where
    pub at_first : (s : ℕ) (kind : Bool) → x.base s 0 kind ≡ 0
    -- a begun message has a number from its epoch's base on, and below that of each later epoch
    pub numbered : (p : ℕ) → x.transfer.sender.begun p ≡ true → base_at message x p ≤ x.transfer.sender.number p
    pub earlier : (p e : ℕ) → x.transfer.sender.begun p ≡ true → e ≤ x.performed (stream_of message p) → x.epoch p < e
        → x.transfer.sender.number p < x.base (stream_of message p) e (ordered_of message p)
    -- what is on the wire is the number less the base
    pub written : (p : ℕ) → x.transfer.sender.begun p ≡ true → base_at message x p + x.transfer.sender.written p ≡ x.transfer.sender.number p
    pub following : (s : ℕ) (kind : Bool) → x.base s (x.opened s) kind + x.transfer.sender.following kind s ≡ x.transfer.sender.counts kind s
    pub entries : (f : ForwardPoint) → IsAmong f x.transfer.forward_points → (e : Entry) → IsAmong e f.entries → IsWritten message x.transfer.sender e
    -- until the answer comes, nothing is numbered
    pub frozen : (s : ℕ) (kind : Bool) → x.opened s < x.performed s → x.base s (x.performed s) kind ≡ x.transfer.sender.counts kind s
    pub within : (s e : ℕ) (kind : Bool) → e ≤ x.performed s → x.base s e kind ≤ x.transfer.sender.counts kind s
    -- the receiver's numbers are of the epoch that it is in
    pub next_from : (s : ℕ) → x.base s (x.performed s) true ≤ x.transfer.receiver.next s
    pub passed_from : (s : ℕ) → x.base s (x.performed s) false ≤ x.transfer.receiver.passed_below s
    pub held_now : (t : ℕ) → x.transfer.receiver.held t ≡ true → x.epoch (place_of x.transfer.sender t) ≡ x.performed (stream_of message (place_of x.transfer.sender t))
    pub last : (s : ℕ) → 0 < x.performed s → LastPerformed x s
    pub points : (f : ForwardPoint) → IsAmong f x.transfer.forward_points → (kind : Bool) (s n : ℕ) → covers f.entries kind s n ≡ true
        → Names message x.transfer.sender x.epoch x.requests f kind s n

  -- ---- what comes is of the epoch that the receiver is in

  -- a fragment that was not seen
  abbrev pub UnseenIsOfCurrentEpoch : Epochs → Type 0
  UnseenIsOfCurrentEpoch x = (t : ℕ) → t < count x.transfer.sender → x.transfer.receiver.seen t ≡ false
      → x.epoch (place_of x.transfer.sender t) ≡ x.performed (stream_of message (place_of x.transfer.sender t))

  -- a message with the number that a forward point names, where the point passes a fragment that was not seen: no number of its stream
  -- and kind is named above it
  abbrev pub NamedIsOfCurrentEpoch : Epochs → Type 0
  NamedIsOfCurrentEpoch x = (f : ForwardPoint) (u s n : ℕ) (kind : Bool) → IsAmong f x.transfer.forward_points → u < f.upto → x.transfer.receiver.seen u ≡ false
      → covers f.entries kind s n ≡ true → ((m : ℕ) → covers f.entries kind s m ≡ true → m ≤ n)
      → (p : ℕ) × (x.transfer.sender.begun p ≡ true) × (ordered_of message p ≡ kind) × (stream_of message p ≡ s) × (x.transfer.sender.number p ≡ n)
      × (x.epoch p ≡ x.performed s) × (x.base s (x.performed s) kind ≤ n)

  -- so its entry is written with the base that the receiver has
  abbrev pub EntriesAreOfCurrentEpoch : Epochs → Type 0
  EntriesAreOfCurrentEpoch x = (f : ForwardPoint) (u : ℕ) (e : Entry) → IsAmong f x.transfer.forward_points → u < f.upto → x.transfer.receiver.seen u ≡ false
      → IsAmong e f.entries → ((m : ℕ) → covers f.entries e.ordered e.stream m ≡ true → m ≤ e.number)
      → x.base e.stream (x.performed e.stream) e.ordered + e.written ≡ e.number

  -- ---- while a reset is not performed

  -- no fragment of the stream is numbered above the request, and a point that goes on above it names nothing of the stream
  pub record NothingWaits (x : Epochs) (r : Request) : Type 0 where
    pub fragments : (t : ℕ) → t < count x.transfer.sender → stream_of message (place_of x.transfer.sender t) ≡ r.stream → t < r.upto
    pub points : (f : ForwardPoint) → IsAmong f x.transfer.forward_points → r.upto < f.upto → (kind : Bool) (n : ℕ) → covers f.entries kind r.stream n ≡ false

  -- ---- windows

  -- As without resets, but of the stream's messages those of the epoch alone that is sent now: the numbered ones from the first
  -- with a kept fragment on are fewer than 32,000.
  pub record EpochWindows (x : Epochs) : Type 0 where
    pub items : x.transfer.acknowledged < count x.transfer.sender → count x.transfer.sender ≤ x.transfer.acknowledged + 2 ^ 30
    pub messages : (t : ℕ) → x.transfer.acknowledged ≤ t → t < count x.transfer.sender → ordered_of message (place_of x.transfer.sender t) ≡ true
        → x.epoch (place_of x.transfer.sender t) ≡ x.opened (stream_of message (place_of x.transfer.sender t))
        → x.transfer.sender.counts true (stream_of message (place_of x.transfer.sender t)) < x.transfer.sender.number (place_of x.transfer.sender t) + 32000

  -- ---- the epoch of what becomes ready meanwhile

  -- from x to y, these places were added. Each message's epoch lies between the resets performed before and after
  pub record Bracketed (x y : Epochs) : Type 0 where
    pub more : List ℕ
    pub places : y.transfer.receiver.places ≡ x.transfer.receiver.places ++ more
    pub least : (p : ℕ) → has p more ≡ true → x.performed (stream_of message p) ≤ y.epoch p
    pub most : (p : ℕ) → has p more ≡ true → y.epoch p ≤ y.performed (stream_of message p)

module _ (message : ℕ → Message) (is_interleaved : Bool) where
  pub record InEpochs (x : Epochs) : Type 0 where
    pub order : EpochInvariant message is_interleaved x
    pub based : Based message x
