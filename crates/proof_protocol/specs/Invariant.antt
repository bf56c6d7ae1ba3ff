-- The invariant of the rules, in groups by what they read, and what only grows.
use Rattle.std.proofs.Common.{◌≡◌, ◌≢◌, ℕ, suc, ◌<◌, ◌≤◌, Bool, true, false, ◌⊎◌, List, length, get_or, map}
use Rattle.proof_protocol.specs.State.{Message, Fragment, Sender, Receiver, ForwardPoint, Transfer, blank, fragment, place_of, count, has, gather, parts, IsAmong, stream_of, ordered_of}
use Rattle.proof_protocol.specs.Rules.{IsSettled, covers}
use Rattle.proof_protocol.specs.Claims.{ready_message}
use Rattle.proof_protocol.specs.Reassembly.{concatenation}

abbrev pub at : List Fragment → ℕ → Fragment
at fs t = get_or fs t blank

-- the fragments of each message are counted from 0, and their payloads in that order are its own
pub record IsIndexed (fs : List Fragment) : Type 0 where
  pub index_below : (t : ℕ) → t < length fs → (at fs t).index < parts (at fs t).place fs
  pub index_found : (p j : ℕ) → j < parts p fs → (t : ℕ) × (t < length fs) × ((at fs t).place ≡ p) × ((at fs t).index ≡ j)
  pub index_rises : (t u : ℕ) → t < u → u < length fs → (at fs t).place ≡ (at fs u).place → (at fs t).index < (at fs u).index
  pub joins : (p : ℕ) (ts : ℕ → ℕ) → ((j : ℕ) → j < parts p fs → (ts j < length fs) × ((at fs (ts j)).place ≡ p) × ((at fs (ts j)).index ≡ j))
      → gather p fs ≡ concatenation (λ j. (at fs (ts j)).payload) (parts p fs)

-- ready, or given up
abbrev pub IsDone : Sender → Receiver → ℕ → Type 0
IsDone o i p = (has p i.places ≡ true) ⊎ (o.given_up p ≡ true)

module _ (message : ℕ → Message) where
  pub record Outgoing (o : Sender) : Type 0 where
    pub place_begun : (t : ℕ) → t < count o → o.begun (place_of o t) ≡ true
    pub begun_below : (p : ℕ) → o.begun p ≡ true → p < o.accepted
    pub given_up_below : (p : ℕ) → o.given_up p ≡ true → p < o.accepted
    pub partly_begun : (p : ℕ) → o.partly p ≡ true → o.begun p ≡ true
    pub partly_kept : (p : ℕ) → o.partly p ≡ true → o.given_up p ≡ false
    -- on a stream, messages are numbered one after another
    pub fifo : (t u : ℕ) → t < u → u < count o → stream_of message (place_of o t) ≡ stream_of message (place_of o u) → place_of o t ≤ place_of o u
    pub settled : (p q : ℕ) → o.begun p ≡ true → q < p → stream_of message q ≡ stream_of message p → IsSettled o q
    -- the numbers of a stream and kind rise with the places, without gaps, below the count
    pub rises : (p q : ℕ) → o.begun p ≡ true → o.begun q ≡ true → ordered_of message p ≡ ordered_of message q → stream_of message p ≡ stream_of message q
        → p < q → o.number p < o.number q
    pub counted : (p : ℕ) → o.begun p ≡ true → o.number p < o.counts (ordered_of message p) (stream_of message p)
    pub following_counts : (kind : Bool) (s : ℕ) → o.following kind s ≤ o.counts kind s
    pub dense : (kind : Bool) (s k : ℕ) → k < o.counts kind s
        → (p : ℕ) × (o.begun p ≡ true) × (ordered_of message p ≡ kind) × (stream_of message p ≡ s) × (o.number p ≡ k)
    pub ended : (p : ℕ) → o.begun p ≡ true → o.partly p ≡ false → (t : ℕ) × (t < count o) × (place_of o t ≡ p) × ((fragment o t).is_end ≡ true)
    pub last_ends : (t u : ℕ) → t < count o → u < count o → place_of o t ≡ place_of o u → (fragment o t).is_end ≡ true → u ≤ t
    pub partly_no_last : (t : ℕ) → t < count o → o.partly (place_of o t) ≡ true → (fragment o t).is_end ≡ false
    pub whole : (t : ℕ) → t < count o → (fragment o t).is_end ≡ true → (fragment o t).placeholder ≡ false
        → gather (place_of o t) o.numbered ≡ (message (place_of o t)).payload

  -- two places of which the first became ready first
  pub record Apart (p q : ℕ) : Type 0 where
    pub distinct : p ≢ q
    pub rising : ordered_of message p ≡ true → ordered_of message q ≡ true → stream_of message p ≡ stream_of message q → p < q

  -- given up, and if ordered, below the next number
  abbrev pub IsPassed : Sender → Receiver → ℕ → Type 0
  IsPassed o i p = (o.given_up p ≡ true) × (ordered_of message p ≡ true → o.number p < i.next (stream_of message p))

  pub record Incoming (o : Sender) (i : Receiver) : Type 0 where
    pub seen_below : (t : ℕ) → i.seen t ≡ true → t < count o
    pub held_seen : (t : ℕ) → i.held t ≡ true → i.seen t ≡ true
    pub held_real : (t : ℕ) → i.held t ≡ true → (fragment o t).placeholder ≡ false
    -- what was seen and is no longer held
    pub passed : (t : ℕ) → i.seen t ≡ true → i.held t ≡ false → (has (place_of o t) i.places ≡ true) ⊎ IsPassed o i (place_of o t)
    pub below_next : (p : ℕ) → o.begun p ≡ true → ordered_of message p ≡ true → o.number p < i.next (stream_of message p) → IsDone o i p
    pub below_passed : (p : ℕ) → o.begun p ≡ true → ordered_of message p ≡ false → o.number p < i.passed_below (stream_of message p) → IsDone o i p
    pub next_counts : (s : ℕ) → i.next s ≤ o.counts true s
    pub passed_counts : (s : ℕ) → i.passed_below s ≤ o.counts false s
    pub ready_below : (p : ℕ) → has p i.places ≡ true → ordered_of message p ≡ true → o.number p < i.next (stream_of message p)
    pub ready_parts : (t : ℕ) → t < count o → has (place_of o t) i.places ≡ true → (i.seen t ≡ true) × (i.held t ≡ false)
    pub ready_begun : (p : ℕ) → has p i.places ≡ true → o.begun p ≡ true
    pub ready_ended : (p : ℕ) → has p i.places ≡ true → o.partly p ≡ false
    pub alike : i.ready ≡ map (ready_message message) i.places
    pub apart : (j k : ℕ) → j < k → k < length i.places → Apart (get_or i.places j 0) (get_or i.places k 0)

  -- what a cumulative point says
  pub record SackTrue (o : Sender) (i : Receiver) (c : ℕ) : Type 0 where
    pub all_seen : (t : ℕ) → t < c → i.seen t ≡ true
    pub done : (t : ℕ) → t < c → (fragment o t).is_end ≡ true → IsDone o i (place_of o t)
    -- an ordered message that ends below c has a number below its stream's next one
    pub behind : (t : ℕ) → t < c → (fragment o t).is_end ≡ true → ordered_of message (place_of o t) ≡ true
        → o.number (place_of o t) < i.next (stream_of message (place_of o t))

  -- of a number n of an ordered stream s that the entries cover: some fragment below the point has this number or a greater one, and from
  -- there on the entries cover each ordered fragment of the stream below the point
  pub record Reach (o : Sender) (f : ForwardPoint) (s n : ℕ) : Type 0 where
    pub at : ℕ
    pub below : at < f.upto
    pub is_ordered : ordered_of message (place_of o at) ≡ true
    pub on_stream : stream_of message (place_of o at) ≡ s
    pub above : n ≤ o.number (place_of o at)
    pub further : (t : ℕ) → at ≤ t → t < f.upto → ordered_of message (place_of o t) ≡ true → stream_of message (place_of o t) ≡ s
        → covers f.entries true s (o.number (place_of o t)) ≡ true

  -- what a forward point says
  pub record ForwardTrue (is_interleaved : Bool) (o : Sender) (i : Receiver) (f : ForwardPoint) : Type 0 where
    pub within : f.upto ≤ count o
    pub seen_or_given_up : (t : ℕ) → t < f.upto → (i.seen t ≡ true)
        ⊎ ((o.given_up (place_of o t) ≡ true) × (ordered_of message (place_of o t) ≡ true → covers f.entries true (stream_of message (place_of o t)) (o.number (place_of o t)) ≡ true))
    pub named_done : (p : ℕ) → o.begun p ≡ true → covers f.entries (ordered_of message p) (stream_of message p) (o.number p) ≡ true → IsDone o i p
    pub named_counts : (kind : Bool) (s n : ℕ) → covers f.entries kind s n ≡ true → n < o.counts kind s
    pub only_ordered : is_interleaved ≡ false → (s n : ℕ) → covers f.entries false s n ≡ false
    pub unordered_done : is_interleaved ≡ false → (t : ℕ) → t < f.upto → ordered_of message (place_of o t) ≡ false → IsDone o i (place_of o t)
    pub reach : (s n : ℕ) → covers f.entries true s n ≡ true → Reach o f s n

  -- without interleaving, a begun message is ended before another begins
  pub record InRuns (o : Sender) : Type 0 where
    pub next_same : (t : ℕ) → suc t < count o → (fragment o t).is_end ≡ false → place_of o (suc t) ≡ place_of o t
    pub tail_partly : (t : ℕ) → suc t ≡ count o → (fragment o t).is_end ≡ false → o.partly (place_of o t) ≡ true
    pub single : (p q : ℕ) → o.partly p ≡ true → o.partly q ≡ true → p ≡ q

  pub record Invariant (is_interleaved : Bool) (x : Transfer) : Type 0 where
    pub outgoing : Outgoing x.sender
    pub incoming : Incoming x.sender x.receiver
    pub indexed : IsIndexed x.sender.numbered
    pub runs : is_interleaved ≡ false → InRuns x.sender
    pub acknowledged_true : SackTrue x.sender x.receiver x.acknowledged
    pub sacks_true : (c : ℕ) → IsAmong c x.sacks → SackTrue x.sender x.receiver c
    pub forwards_true : (f : ForwardPoint) → IsAmong f x.forward_points → ForwardTrue is_interleaved x.sender x.receiver f
    pub reports_true : (p : ℕ) → has p x.reports ≡ true → has p x.receiver.places ≡ true
