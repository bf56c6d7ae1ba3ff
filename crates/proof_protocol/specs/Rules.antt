-- The rules of a transfer, for DATA (`is_interleaved` false) and for I-DATA (`is_interleaved` true). A loss is a packet that never comes;
-- what was sent once may come at any time, and again. The messages are a function of the place: no rule changes one.
use Rattle.std.specs.Prelude.{◌≡◌, ℕ, suc, ◌<◌, ◌≤◌, ◌==◌, ◌&&◌, ◌||◌, not, nat_lt, nat_le, max, Bool, true, false, cond, ◌⊎◌, List, [], ◌∷◌, ◌++◌}
use Rattle.proof_protocol.specs.State.{Message, Fragment, Entry, ForwardPoint, Sender, Receiver, Transfer, fragment, place_of, count, put, IsAmong, gather, parts, is_empty, stream_of, ordered_of}

pub data TransferEvent : Type 0 where
  accept : TransferEvent  -- the next message goes into the send queue
  begin : (p : ℕ) → TransferEvent  -- a message takes its SSN or MID
  number : (p : ℕ) (bytes more : List ℕ) → TransferEvent  -- its next fragment takes a TSN, and `more` is left of it
  end_with_placeholder : (p : ℕ) → TransferEvent  -- a placeholder end takes a TSN
  give_up : (p : ℕ) → TransferEvent
  data_comes : (t : ℕ) → TransferEvent
  late_comes : (t : ℕ) → TransferEvent  -- a fragment of a message that was given up: seen, and not held
  become_ready : (p : ℕ) → TransferEvent  -- a message becomes ready
  send_sack : (c : ℕ) → TransferEvent  -- it acknowledges the fragments below c
  acknowledge_next : (c : ℕ) → TransferEvent  -- such a SACK has come, and one fragment leaves the sender
  send_forward : (f : ForwardPoint) → TransferEvent
  forward_comes : (f : ForwardPoint) → TransferEvent
  perform_reset : (s c : ℕ) → TransferEvent  -- an outgoing reset request of stream s is performed (RFC 6525 section 5.2.2)

-- not numbered, and not given up
pub record Waits (o : Sender) (p : ℕ) : Type 0 where
  pub below : p < o.accepted
  pub not_begun : o.begun p ≡ false
  pub not_given_up : o.given_up p ≡ false

-- out of the send queue
pub record IsSettled (o : Sender) (p : ℕ) : Type 0 where
  pub not_partly : o.partly p ≡ false
  pub begun_or_given_up : (o.begun p ≡ true) ⊎ (o.given_up p ≡ true)

abbrev pub same : Bool → Bool → Bool
same true b = b
same false b = not b

-- some entry names this number or one above it
abbrev pub covers : List Entry → Bool → ℕ → ℕ → Bool
covers [] kind s n = false
covers (e ∷ es) kind s n = (same e.ordered kind && ((e.stream == s) && nat_le n e.number)) || covers es kind s n

-- the least number above all that the entries name, and at least n
abbrev pub raise : List Entry → Bool → ℕ → ℕ → ℕ
raise [] kind s n = n
raise (e ∷ es) kind s n = raise es kind s (cond (same e.ordered kind && (e.stream == s)) (max n (suc e.number)) n)

-- messages of this kind and stream with a lower number don't become ready any more
abbrev pub floor : Receiver → Bool → ℕ → ℕ
floor i true s = i.next s
floor i false s = i.passed_below s

abbrev pub accepts : Sender → Sender
accepts o = record o { accepted = suc o.accepted }

abbrev pub numbers : Sender → Fragment → Sender
numbers o f = record o { partly = put o.partly f.place (not f.is_end); numbered = o.numbered ++ f ∷ [] }

abbrev pub gives_up : Sender → ℕ → Sender
gives_up o p = record o { given_up = put o.given_up p true }

abbrev pub part : Sender → ℕ → List ℕ → List ℕ → Fragment
part o p bytes more = record { place = p; index = parts p o.numbered; is_end = is_empty more; placeholder = false; payload = bytes }

abbrev pub placeholder_of : Sender → ℕ → Fragment
placeholder_of o p = record { place = p; index = parts p o.numbered; is_end = true; placeholder = true; payload = [] }

abbrev pub takes : Receiver → ℕ → Receiver
takes i t = record i { seen = put i.seen t true; held = put i.held t true }

abbrev pub marks : Receiver → ℕ → Receiver
marks i t = record i { seen = put i.seen t true }

-- the fragment at t reports its message as delivered as it leaves, where it is the end and the message was not given up
abbrev pub report : Sender → ℕ → List ℕ
report o t = cond ((fragment o t).is_end && not (o.given_up (place_of o t))) (place_of o t ∷ []) []

module _ (message : ℕ → Message) where
  abbrev pub begins : Sender → ℕ → Sender
  begins o p = record o {
    begun = put o.begun p true;
    partly = put o.partly p true;
    number = put o.number p (o.counts (ordered_of message p) (stream_of message p));
    counts = λ kind s. cond (same (ordered_of message p) kind && (s == stream_of message p)) (suc (o.counts kind s)) (o.counts kind s);
    written = put o.written p (o.following (ordered_of message p) (stream_of message p));
    following = λ kind s. cond (same (ordered_of message p) kind && (s == stream_of message p)) (suc (o.following kind s)) (o.following kind s);
  }

  -- all of the message's fragments, its end among them, wait in the reassembly queue
  pub record Complete (o : Sender) (i : Receiver) (p : ℕ) : Type 0 where
    pub ended : (t : ℕ) × (t < count o) × (place_of o t ≡ p) × ((fragment o t).is_end ≡ true)
    pub all_held : (t : ℕ) → t < count o → place_of o t ≡ p → i.held t ≡ true

  -- it can become ready
  pub record IsRipe (o : Sender) (i : Receiver) (p : ℕ) : Type 0 where
    pub complete : Complete o i p
    pub in_turn : ordered_of message p ≡ true → o.number p ≡ i.next (stream_of message p)

  abbrev pub makes_ready : Sender → Receiver → ℕ → Receiver
  makes_ready o i p = record i {
    held = λ t. i.held t && not (place_of o t == p);
    next = λ s. cond (ordered_of message p && (s == stream_of message p)) (suc (o.number p)) (i.next s);
    places = i.places ++ p ∷ [];
    ready = i.ready ++ record { stream = stream_of message p; protocol_id = (message p).protocol_id; payload = gather p o.numbered } ∷ [];
  }

  -- a stream is reset: no fragment of it is held, and none of its old messages comes any more
  abbrev pub performs_reset : Sender → Receiver → ℕ → Receiver
  performs_reset o i s = record i {
    held = λ t. i.held t && not (stream_of message (place_of o t) == s);
    passed_below = put i.passed_below s (o.counts false s);
  }

  -- all fragments of the stream are below c, all below c are seen, and nothing is left to make ready or partly sent
  pub record IsResettable (o : Sender) (i : Receiver) (s c : ℕ) : Type 0 where
    pub all_seen : (t : ℕ) → t < c → i.seen t ≡ true
    pub none_ripe : (p : ℕ) → IsRipe o i p → ⊥
    pub all_below : (t : ℕ) → t < count o → stream_of message (place_of o t) ≡ s → t < c
    pub none_partly : (p : ℕ) → stream_of message p ≡ s → o.partly p ≡ false

module _ (message : ℕ → Message) (is_interleaved : Bool) where
  -- what a forward point drops: what its entries name, and without interleaving unordered fragments by TSN
  abbrev pub drops : Sender → ForwardPoint → ℕ → Bool
  drops o f t =
      covers f.entries (ordered_of message (place_of o t)) (stream_of message (place_of o t)) (o.number (place_of o t))
      || (not is_interleaved && (not (ordered_of message (place_of o t)) && nat_lt t f.upto))

  abbrev pub skips : Sender → Receiver → ForwardPoint → Receiver
  skips o i f = record i {
    seen = λ t. nat_lt t f.upto || i.seen t;
    held = λ t. i.held t && not (drops o f t);
    next = λ s. raise f.entries true s (i.next s);
    passed_below = λ s. raise f.entries false s (i.passed_below s);
  }

  -- each entry is written as the message of a fragment among these
  abbrev pub AreWritten : Sender → (from upto : ℕ) → List Entry → Type 0
  AreWritten o from upto [] = Unit {0}
  AreWritten o from upto (e ∷ es) =
      ((t : ℕ) × (from ≤ t) × (t < upto) × (ordered_of message (place_of o t) ≡ e.ordered) × (stream_of message (place_of o t) ≡ e.stream)
      × (o.number (place_of o t) ≡ e.number) × (o.written (place_of o t) ≡ e.written))
      × AreWritten o from upto es

  -- a forward point that may be sent (RFC 3758 section 3.5)
  pub record IsDue (o : Sender) (acknowledged : ℕ) (f : ForwardPoint) : Type 0 where
    pub ahead : acknowledged < f.upto
    pub within : f.upto ≤ count o
    pub all_given_up : (t : ℕ) → acknowledged ≤ t → t < f.upto → o.given_up (place_of o t) ≡ true
    -- each stream touched is named, with the greatest number touched
    pub touched : (t : ℕ) → acknowledged ≤ t → t < f.upto → (ordered_of message (place_of o t) || is_interleaved) ≡ true
        → covers f.entries (ordered_of message (place_of o t)) (stream_of message (place_of o t)) (o.number (place_of o t)) ≡ true
    pub sound : (kind : Bool) (s n : ℕ) → covers f.entries kind s n ≡ true
        → (t : ℕ) × (acknowledged ≤ t) × (t < f.upto) × (ordered_of message (place_of o t) ≡ kind) × (stream_of message (place_of o t) ≡ s) × (n ≤ o.number (place_of o t))
    pub only_ordered : is_interleaved ≡ false → (s n : ℕ) → covers f.entries false s n ≡ false
    pub as_written : AreWritten o acknowledged f.upto f.entries

  -- may this happen now?
  abbrev pub IsAllowed : Transfer → TransferEvent → Type 0
  IsAllowed x accept = Unit {0}
  IsAllowed x (begin p) =
      Waits x.sender p × ((q : ℕ) → q < p → stream_of message q ≡ stream_of message p → IsSettled x.sender q)
      × (is_interleaved ≡ false → (q : ℕ) → x.sender.partly q ≡ false)
  IsAllowed x (number p bytes more) = (x.sender.partly p ≡ true) × (gather p x.sender.numbered ++ (bytes ++ more) ≡ (message p).payload)
  IsAllowed x (end_with_placeholder p) = x.sender.partly p ≡ true
  IsAllowed x (give_up p) = (p < x.sender.accepted) × (x.sender.partly p ≡ false) × (x.sender.given_up p ≡ false)
  IsAllowed x (data_comes t) = (t < count x.sender) × ((fragment x.sender t).placeholder ≡ false) × (x.receiver.seen t ≡ false)
  IsAllowed x (late_comes t) =
      (t < count x.sender) × (x.receiver.seen t ≡ false)
      × (x.sender.number (place_of x.sender t) < floor x.receiver (ordered_of message (place_of x.sender t)) (stream_of message (place_of x.sender t)))
  IsAllowed x (become_ready p) = IsRipe message x.sender x.receiver p
  IsAllowed x (send_sack c) = ((t : ℕ) → t < c → x.receiver.seen t ≡ true) × ((p : ℕ) → IsRipe message x.sender x.receiver p → ⊥)
  IsAllowed x (acknowledge_next c) = IsAmong c x.sacks × (x.acknowledged < c)
  IsAllowed x (send_forward f) = IsDue x.sender x.acknowledged f
  IsAllowed x (forward_comes f) = IsAmong f x.forward_points
  IsAllowed x (perform_reset s c) = IsResettable message x.sender x.receiver s c

  abbrev pub after : Transfer → TransferEvent → Transfer
  after x accept = record x { sender = accepts x.sender }
  after x (begin p) = record x { sender = begins message x.sender p }
  after x (number p bytes more) = record x { sender = numbers x.sender (part x.sender p bytes more) }
  after x (end_with_placeholder p) = record x { sender = numbers x.sender (placeholder_of x.sender p) }
  after x (give_up p) = record x { sender = gives_up x.sender p }
  after x (data_comes t) = record x { receiver = takes x.receiver t }
  after x (late_comes t) = record x { receiver = marks x.receiver t }
  after x (become_ready p) = record x { receiver = makes_ready message x.sender x.receiver p }
  after x (send_sack c) = record x { sacks = c ∷ x.sacks }
  after x (acknowledge_next c) = record x { acknowledged = suc x.acknowledged; reports = x.reports ++ report x.sender x.acknowledged }
  after x (send_forward f) = record x { forward_points = f ∷ x.forward_points }
  after x (forward_comes f) = record x { receiver = skips x.sender x.receiver f }
  after x (perform_reset s c) = record x { receiver = performs_reset message x.sender x.receiver s }

  -- a whole schedule may happen from this state
  abbrev pub Happens : Transfer → List TransferEvent → Type 0
  Happens x [] = Unit {0}
  Happens x (e ∷ es) = IsAllowed x e × Happens (after x e) es

  abbrev pub run : Transfer → List TransferEvent → Transfer
  run x [] = x
  run x (e ∷ es) = run (after x e) es
