-- The premises under which wire numbers are read as they were meant.
use Rattle.std.specs.Prelude.{◌≡◌, ℕ, ◌+◌, ◌^◌, ◌<◌, ◌≤◌, true, false}
use Rattle.proof_protocol.specs.State.{Message, Receiver, Transfer, place_of, count, stream_of, ordered_of}

-- less than half the space apart
abbrev pub IsNear : ℕ → ℕ → ℕ → Type 0
IsNear half m n = (m < n + half) × (n < m + half)

-- no fragment is kept while 2^30 later ones are numbered; and on each ordered stream, the numbered messages from the
-- first with a kept fragment on are fewer than 32,000
pub record Windows (message : ℕ → Message) (x : Transfer) : Type 0 where
  pub items : x.acknowledged < count x.sender → count x.sender ≤ x.acknowledged + 2 ^ 30
  pub messages : (t : ℕ) → x.acknowledged ≤ t → t < count x.sender → ordered_of message (place_of x.sender t) ≡ true
      → x.sender.counts true (stream_of message (place_of x.sender t)) < x.sender.number (place_of x.sender t) + 32000

-- a packet that was emitted when n fragments were numbered comes before 2^30 more are
abbrev pub IsTimely : Transfer → ℕ → Type 0
IsTimely x n = (n ≤ count x.sender) × (count x.sender < n + 2 ^ 30)

-- the first fragment that is not seen
abbrev pub IsFirstUnseen : Receiver → ℕ → Type 0
IsFirstUnseen i f = (i.seen f ≡ false) × ((t : ℕ) → t < f → i.seen t ≡ true)
