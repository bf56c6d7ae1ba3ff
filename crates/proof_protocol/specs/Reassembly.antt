-- The reassembly queue as it sees itself: a map from keys to what stood in the chunks, the next numbers and the ready
-- messages. It knows no place. A key is the fragment's number (TSN), or with interleaving the message's kind, stream
-- and MID with the FSN (RFC 8260 section 2.1).
use Rattle.std.specs.Prelude.{◌≡◌, ℕ, zero, suc, ◌<◌, ◌≤◌, ◌==◌, ◌&&◌, ◌||◌, ◌⊎◌, not, nat_lt, Bool, true, false, cond, Option, Some, None, List, [], ◌∷◌, ◌++◌}
use Rattle.proof_protocol.specs.State.{Message, ReadyMessage, ForwardPoint, Sender, Receiver, fragment, place_of, count, put}
use Rattle.proof_protocol.specs.Rules.{covers, raise}

-- payloads one after another
abbrev pub concatenation : (ℕ → List ℕ) → ℕ → List ℕ
concatenation f zero = []
concatenation f (suc n) = concatenation f n ++ f n

pub record Chunk : Type 0 where
  pub ordered : Bool
  pub stream : ℕ
  pub number : ℕ  -- SSN or MID. Unordered DATA has none, and 0 here
  pub is_beginning : Bool
  pub is_end : Bool
  pub protocol_id : ℕ
  pub payload : List ℕ

abbrev pub chunk_with : Bool → Message → ℕ → ℕ → Bool → List ℕ → Chunk
chunk_with is_interleaved m number index is_end payload = record {
  ordered = m.ordered;
  stream = m.stream;
  number = cond (m.ordered || is_interleaved) number 0;
  is_beginning = index == 0;
  is_end = is_end;
  protocol_id = m.protocol_id;
  payload = payload;
}

-- the chunk that carries a fragment
abbrev pub chunk_of : (ℕ → Message) → Bool → Sender → ℕ → Chunk
chunk_of message is_interleaved o t =
    chunk_with is_interleaved (message (place_of o t)) (o.number (place_of o t)) ((fragment o t).index) ((fragment o t).is_end) ((fragment o t).payload)

-- the key with interleaving
pub record MessageKey : Type 0 where
  pub ordered : Bool
  pub stream : ℕ
  pub number : ℕ
  pub index : ℕ

abbrev pub message_key : (ℕ → Message) → Sender → ℕ → MessageKey
message_key message o t =
    record { ordered = (message (place_of o t)).ordered; stream = (message (place_of o t)).stream; number = o.number (place_of o t); index = (fragment o t).index }

abbrev pub next_index : MessageKey → MessageKey
next_index κ = record κ { index = suc κ.index }

-- the keys of either mode, the next key, each fragment's key, and whether a key is one below a TSN
abbrev pub KeyOf : Bool → Type 0
KeyOf false = ℕ
KeyOf true = MessageKey

abbrev pub next_of : (is_interleaved : Bool) → KeyOf is_interleaved → KeyOf is_interleaved
next_of false = suc
next_of true = next_index

abbrev pub key_of : (is_interleaved : Bool) → (ℕ → Message) → Sender → ℕ → KeyOf is_interleaved
key_of false message o = λ t. t
key_of true message o = message_key message o

abbrev pub below_of : (is_interleaved : Bool) → KeyOf is_interleaved → ℕ → Bool
below_of false = nat_lt
below_of true = λ κ n. false

module _ (Key : Type 0) (succ : Key → Key) where
  pub record Queue : Type 0 where
    pub chunks : Key → Option Chunk
    pub next : ℕ → ℕ
    pub passed_below : ℕ → ℕ  -- with interleaving: above the greatest unordered MID that a forward point named
    pub ready : List ReadyMessage

  abbrev pub nth : Key → ℕ → Key
  nth κ zero = κ
  nth κ (suc j) = succ (nth κ j)

  -- chunks at one key after another from a beginning to the next end, and it is their turn
  pub record ReadyRun (q : Queue) (κ : Key) (n : ℕ) (w : ℕ → Chunk) : Type 0 where
    pub held : (j : ℕ) → j ≤ n → q.chunks (nth κ j) ≡ Some (w j)
    pub begins : (w 0).is_beginning ≡ true
    pub ends : (w n).is_end ≡ true
    pub inner : (j : ℕ) → j < n → (w j).is_end ≡ false
    pub in_turn : (w 0).ordered ≡ true → (w 0).number ≡ q.next (w 0).stream

  -- a run became ready
  pub record RunTaken (q r : Queue) (κ : Key) (n : ℕ) (w : ℕ → Chunk) : Type 0 where
    pub removed : (j : ℕ) → j ≤ n → r.chunks (nth κ j) ≡ None
    pub kept : (κ' : Key) → ((j : ℕ) → j ≤ n → κ' ≡ nth κ j → ⊥) → r.chunks κ' ≡ q.chunks κ'
    pub next : (s : ℕ) → r.next s ≡ cond ((w 0).ordered && (s == (w 0).stream)) (suc (w 0).number) (q.next s)
    pub passed : (s : ℕ) → r.passed_below s ≡ q.passed_below s
    pub ready :
        r.ready ≡ q.ready ++ record { stream = (w 0).stream; protocol_id = (w 0).protocol_id; payload = concatenation (λ j. (w j).payload) (suc n) } ∷ []

  -- run after run became ready, until none is left
  pub data Readied : Queue → Queue → Type 0 where
    no_more : {q : Queue} → ((κ : Key) (n : ℕ) (w : ℕ → Chunk) → ReadyRun q κ n w → ⊥) → Readied q q
    one_more : {q r : Queue} (m : Queue) (κ : Key) (n : ℕ) (w : ℕ → Chunk) → ReadyRun q κ n w → RunTaken q m κ n w → Readied m r → Readied q r

  -- a chunk came that is not to be kept: its message became ready or was given up
  abbrev pub IsLate : Bool → Queue → Chunk → Type 0
  IsLate is_interleaved q w = ((w.ordered ≡ true) × (w.number < q.next w.stream)) ⊎ ((is_interleaved ≡ true) × (w.ordered ≡ false) × (w.number < q.passed_below w.stream))

  -- a chunk was put under its key
  pub record Added (q r : Queue) (κ : Key) (w : Chunk) : Type 0 where
    pub here : r.chunks κ ≡ Some w
    pub kept : (κ' : Key) → (κ' ≡ κ → ⊥) → r.chunks κ' ≡ q.chunks κ'
    pub next : (s : ℕ) → r.next s ≡ q.next s
    pub passed : (s : ℕ) → r.passed_below s ≡ q.passed_below s
    pub ready : r.ready ≡ q.ready

  -- what a forward point leaves of a chunk
  abbrev pub keep_undropped : Bool → (Key → ℕ → Bool) → ForwardPoint → Key → Option Chunk → Option Chunk
  keep_undropped is_interleaved below f κ None = None
  keep_undropped is_interleaved below f κ (Some w) = cond (covers f.entries w.ordered w.stream w.number || (not is_interleaved && (not w.ordered && below κ f.upto))) None (Some w)

  -- a forward point came
  pub record Forwarded (is_interleaved : Bool) (below : Key → ℕ → Bool) (q r : Queue) (f : ForwardPoint) : Type 0 where
    pub chunks : (κ : Key) → r.chunks κ ≡ keep_undropped is_interleaved below f κ (q.chunks κ)
    pub next : (s : ℕ) → r.next s ≡ raise f.entries true s (q.next s)
    pub passed : (s : ℕ) → r.passed_below s ≡ raise f.entries false s (q.passed_below s)
    pub ready : r.ready ≡ q.ready

  -- what the reset of stream s leaves of a chunk
  abbrev pub keep_other_streams : ℕ → Option Chunk → Option Chunk
  keep_other_streams s None = None
  keep_other_streams s (Some w) = cond (w.stream == s) None (Some w)

  -- a stream was reset: its numbers count on from what the sender counted
  pub record ResetPerformed (q r : Queue) (s ordered_count unordered_count : ℕ) : Type 0 where
    pub chunks : (κ : Key) → r.chunks κ ≡ keep_other_streams s (q.chunks κ)
    pub next : (a : ℕ) → r.next a ≡ put q.next s ordered_count a
    pub passed : (a : ℕ) → r.passed_below a ≡ put q.passed_below s unordered_count a
    pub ready : r.ready ≡ q.ready

  -- the queue is the receiver of the rules, where `key` gives the key of each numbered fragment
  pub record Sees (message : ℕ → Message) (is_interleaved : Bool) (o : Sender) (i : Receiver) (key : ℕ → Key) (q : Queue) : Type 0 where
    pub holds : (t : ℕ) → i.held t ≡ true → q.chunks (key t) ≡ Some (chunk_of message is_interleaved o t)
    pub held : (κ : Key) (w : Chunk) → q.chunks κ ≡ Some w → (t : ℕ) × (i.held t ≡ true) × (key t ≡ κ) × (w ≡ chunk_of message is_interleaved o t)
    pub next_is : (s : ℕ) → q.next s ≡ i.next s
    pub passed_is : is_interleaved ≡ true → (s : ℕ) → q.passed_below s ≡ i.passed_below s
    pub ready_is : q.ready ≡ i.ready

  -- what the keys must meet
  pub record KeyLaws (is_interleaved : Bool) (o : Sender) (key : ℕ → Key) (below : Key → ℕ → Bool) : Type 0 where
    pub decide : (κ κ' : Key) → (κ ≡ κ') ⊎ (κ ≡ κ' → ⊥)
    pub one : (t u : ℕ) → t < count o → u < count o → key t ≡ key u → t ≡ u
    pub follows : (t u : ℕ) → t < count o → u < count o → (fragment o t).is_end ≡ false → key u ≡ succ (key t)
        → (place_of o u ≡ place_of o t) × ((fragment o u).index ≡ suc (fragment o t).index)
    pub leads : (t u : ℕ) → t < count o → u < count o → place_of o u ≡ place_of o t → (fragment o u).index ≡ suc (fragment o t).index → key u ≡ succ (key t)
    pub below_is : is_interleaved ≡ false → (t n : ℕ) → below (key t) n ≡ nat_lt t n

-- no run is left to make ready
abbrev pub NoneReady : (is_interleaved : Bool) → Queue (KeyOf is_interleaved) (next_of is_interleaved) → Type 0
NoneReady is_interleaved q = (κ : KeyOf is_interleaved) (n : ℕ) (w : ℕ → Chunk) → ReadyRun (KeyOf is_interleaved) (next_of is_interleaved) q κ n w → ⊥
