-- What the values of a sender show of a state of the transfer's rules: the messages of the send queue by place, and the
-- items as the fragments from the acknowledged ones on. Two functions say what was accepted at each place: the message and
-- its lifecycle id. Numbers of the rules begin at 0, those of the values at `origin`.
use Rattle.std.specs.Prelude.{◌≡◌, ℕ, suc, ◌+◌, ◌%◌, ◌^◌, ◌<◌, ◌==◌, ◌&&◌, not, Bool, true, false, if◌then◌else◌, Option, Some, None, is_some, option_map, List, [], ◌∷◌, drop}
use Rattle.sctp_serial.specs.Unwrapped.{origin, u32_space, halves, wire}
use Rattle.sctp_packet.specs.Chunk.{FragmentTree}
use Rattle.sctp_tx_queue.specs.declared.send_queue.message.MessageNumbers.{MessageNumbers}
use Rattle.sctp_tx_queue.specs.SendQueue.{Queued, Stream, Queue, stream}
use Rattle.sctp_tx_queue.specs.InOrder.{IsInOrder, IsNumbered, HasRests}
use Rattle.sctp_tx_outstanding.specs.Item.{Item, is_abandoned}
use Rattle.sctp_tx_outstanding.specs.OutstandingData.{Items, Discard}
use Rattle.proof_protocol.specs.State.{Message, Fragment, Sender, Transfer, IsAmong, fragment, count, parts, stream_of, ordered_of}
use Rattle.proof_protocol.specs.Sending as sending
use Rattle.proof_protocol.specs.Sending.{Waiting}

-- ---- the send queue

-- the message of this place
abbrev pub find : ℕ → List Queued → Option Queued
find p [] = None
find p (m ∷ rest) = if m.number == p then Some m else find p rest

abbrev pub messages_of : Queue → ℕ → List Queued
messages_of q k = (stream k q.streams).messages

abbrev pub waiting_of : Queued → Waiting
waiting_of m = record { begun = is_some m.numbers; rest = drop m.offset m.payload }

-- the next numbers of a stream
pub record IsNext (o : Sender) (k : ℕ) (s : Stream) : Type 0 where
  pub ssn : s.next_ssn ≡ origin + o.following true k
  pub ordered_mid : s.next_ordered_mid ≡ origin + o.following true k
  pub unordered_mid : s.next_unordered_mid ≡ origin + o.following false k

-- what is still queued of messages given up is to be discarded, and nothing else is
pub record AreDiscards (o : Sender) (ms : ℕ → List Queued) (discards : List Discard) : Type 0 where
  pub named : (k p : ℕ) (m : Queued) → find p (ms k) ≡ Some m → o.given_up p ≡ true → IsAmong (record { stream = k; number = p }) discards
  pub given_up : (d : Discard) → IsAmong d discards → o.given_up d.number ≡ true

module _ (message : ℕ → Message) where
  -- by place: a message is looked for on its own stream, and one that was given up is not counted in
  abbrev pub queue_of : Sender → (ℕ → List Queued) → ℕ → Option Waiting
  queue_of o ms p = if o.given_up p then None else option_map waiting_of (find p (ms (stream_of message p)))

  -- the SSN and MID of a message that has its number. Unordered ones have no SSN
  abbrev pub numbers_at : Sender → ℕ → MessageNumbers
  numbers_at o p = record { ssn = if ordered_of message p then origin + o.written p else origin; mid = origin + o.written p }

  -- a fragment as a chunk carries it
  abbrev pub tree_of : Sender → Fragment → FragmentTree
  tree_of o f = record {
    stream_id = stream_of message f.place;
    is_unordered = not (ordered_of message f.place);
    ssn = wire halves 0 (numbers_at o f.place).ssn;
    mid = wire u32_space 0 (numbers_at o f.place).mid;
    fsn = f.index % 2 ^ 32;
    ppid = (message f.place).protocol_id;
    payload = f.payload;
    is_beginning = f.index == 0;
    is_end = f.is_end;
  }

-- the end of a message has its lifecycle id, but for the end of a message that was cut off
abbrev pub lifecycle_at : (ℕ → Option ℕ) → Fragment → Option ℕ
lifecycle_at lifecycle f = if f.is_end && not f.placeholder then lifecycle f.place else None

module _ (message : ℕ → Message) (lifecycle : ℕ → Option ℕ) where
  -- a message of stream k is the one that was accepted at place p. If it is partly sent, it has the numbers of the rules, or
  -- it was given up and waits to be discarded
  pub record IsEntry (o : Sender) (k p : ℕ) (m : Queued) : Type 0 where
    pub accepted : p < o.accepted
    pub on_stream : stream_of message p ≡ k
    pub kind : m.is_unordered ≡ not (ordered_of message p)
    pub protocol_id : m.ppid ≡ (message p).protocol_id
    pub payload : m.payload ≡ (message p).payload
    pub lifecycle_id : m.lifecycle ≡ lifecycle p
    pub numbers : o.given_up p ≡ false → (n : MessageNumbers) → m.numbers ≡ Some n → n ≡ numbers_at message o p
    pub index : o.given_up p ≡ false → m.fsn ≡ parts p o.numbered % 2 ^ 32
    pub begins : o.given_up p ≡ false → (m.offset == 0) ≡ (parts p o.numbered == 0)
    pub partly_sent : o.given_up p ≡ true → is_some m.numbers ≡ true

  -- the messages of all streams
  pub record AreQueued (o : Sender) (ms : ℕ → List Queued) : Type 0 where
    pub entries : (k p : ℕ) (m : Queued) → find p (ms k) ≡ Some m → IsEntry o k p m
    pub queued : sending.Queued message o (queue_of message o ms)

  pub record QueueRefines (is_interleaved : Bool) (o : Sender) (q : Queue) : Type 0 where
    pub mode : q.scheduler.is_interleaved ≡ is_interleaved
    pub order : IsInOrder q
    pub rising : IsNumbered q
    pub rests : HasRests q
    pub accepted : q.next_number ≡ o.accepted
    pub few : o.accepted < 2 ^ 32
    pub next : (k : ℕ) → IsNext o k (stream k q.streams)
    pub messages : AreQueued o (messages_of q)

  -- ---- the items

  pub record StandsFor (o : Sender) (f : Fragment) (i : Item) : Type 0 where
    pub place : i.number ≡ f.place
    pub carried : i.fragment ≡ tree_of message o f
    pub lifecycle_id : i.lifecycle ≡ lifecycle_at lifecycle f
    pub given_up : is_abandoned i ≡ o.given_up f.place
    pub placeholder : f.placeholder ≡ true → o.given_up f.place ≡ true

  -- the items stand for the fragments from t on
  abbrev pub AreKept : Sender → ℕ → List Item → Type 0
  AreKept o t [] = t ≡ count o
  AreKept o t (i ∷ is) = StandsFor o (fragment o t) i × AreKept o (suc t) is

  pub record ItemsRefine (is_interleaved : Bool) (o : Sender) (acknowledged : ℕ) (s : Items) : Type 0 where
    pub mode : s.is_interleaved ≡ is_interleaved
    pub point : s.acked + 1 ≡ origin + acknowledged
    pub kept : AreKept o acknowledged s.kept

  -- ---- both

  pub record SenderRefines (is_interleaved : Bool) (x : Transfer) (q : Queue) (s : Items) : Type 0 where
    pub queue : QueueRefines is_interleaved x.sender q
    pub items : ItemsRefine is_interleaved x.sender x.acknowledged s
    pub discards : AreDiscards x.sender (messages_of q) s.discards
