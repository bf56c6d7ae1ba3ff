-- One direction of an association's data transfer, counted without bounds: the sender's first fragment is fragment 0,
-- whatever its TSN, and SSNs and MIDs count from 0. A message's place is how many were accepted before it.
use Rattle.std.specs.Prelude.{◌≡◌, ℕ, suc, ◌==◌, ◌||◌, Bool, true, false, cond, ◌⊎◌, List, [], ◌∷◌, ◌++◌, length, slice_index_or}

pub record Message : Type 0 where
  pub stream : ℕ
  pub ordered : Bool
  pub protocol_id : ℕ
  pub payload : List ℕ

-- a DATA or I-DATA chunk that has its TSN (RFC 9260 section 3.3.1, RFC 8260 section 2.1)
pub record Fragment : Type 0 where
  pub place : ℕ  -- of its message
  pub index : ℕ  -- in its message: the FSN
  pub is_end : Bool  -- the E bit
  pub placeholder : Bool  -- ends a message that is given up. It is never sent as data
  pub payload : List ℕ

-- a message that became ready at the receiver, handed out or not
pub record ReadyMessage : Type 0 where
  pub stream : ℕ
  pub protocol_id : ℕ
  pub payload : List ℕ

-- of a forward point: messages of this stream and kind, up to this number, come no more
pub record Entry : Type 0 where
  pub ordered : Bool
  pub stream : ℕ
  pub number : ℕ
  pub written : ℕ  -- the number as it is on the wire: less the base of its epoch

-- FORWARD-TSN or I-FORWARD-TSN (RFC 3758 section 3.2, RFC 8260 section 2.3.1): each fragment below `upto` counts as seen
pub record ForwardPoint : Type 0 where
  pub upto : ℕ  -- the first fragment that it doesn't cover: the new cumulative TSN, and 1
  pub entries : List Entry

pub record Sender : Type 0 where
  pub accepted : ℕ  -- how many messages
  pub begun : ℕ → Bool  -- by place: the message has its number
  pub partly : ℕ → Bool  -- by place: begun, and its end has no TSN yet
  pub given_up : ℕ → Bool  -- by place
  pub number : ℕ → ℕ  -- by place, once begun: the SSN or MID, counted on across stream resets
  pub counts : Bool → ℕ → ℕ  -- by kind (ordered or not) and stream: the number of the next message
  pub written : ℕ → ℕ  -- by place, once begun: the SSN or MID on the wire, counted from the stream's last reset
  pub following : Bool → ℕ → ℕ  -- by kind and stream: that of the next message
  pub numbered : List Fragment  -- all that have a TSN, in its order

pub record Receiver : Type 0 where
  pub seen : ℕ → Bool  -- by fragment: its TSN came, or a forward point passed it
  pub held : ℕ → Bool  -- by fragment: it waits in the reassembly queue
  pub next : ℕ → ℕ  -- by stream: the number of the ordered message that becomes ready next
  pub passed_below : ℕ → ℕ  -- by stream: unordered messages below were named by a forward point or reset away
  pub places : List ℕ  -- of the ready messages. No packet carries them
  pub ready : List ReadyMessage

pub record Transfer : Type 0 where
  pub sender : Sender
  pub receiver : Receiver
  pub acknowledged : ℕ  -- the first fragment that hasn't left the sender: its cumulative TSN ack point, and 1
  pub reports : List ℕ  -- the places reported as delivered
  pub sacks : List ℕ  -- of all SACKs ever sent the first fragment that each doesn't cover: its cumulative TSN ack, and 1
  pub forward_points : List ForwardPoint  -- all that were ever sent

abbrev pub stream_of : (ℕ → Message) → ℕ → ℕ
stream_of message p = (message p).stream

abbrev pub ordered_of : (ℕ → Message) → ℕ → Bool
ordered_of message p = (message p).ordered

abbrev pub blank : Fragment
blank = record { place = 0; index = 0; is_end = false; placeholder = false; payload = [] }

abbrev pub fragment : Sender → ℕ → Fragment
fragment o t = slice_index_or o.numbered t blank

abbrev pub place_of : Sender → ℕ → ℕ
place_of o t = (fragment o t).place

abbrev pub count : Sender → ℕ
count o = length o.numbered

-- a function changed at one number
abbrev pub put : {A : Type 0} → (ℕ → A) → ℕ → A → ℕ → A
put f k v n = cond (n == k) v (f n)

abbrev pub has : ℕ → List ℕ → Bool
has p [] = false
has p (q ∷ qs) = (p == q) || has p qs

abbrev pub IsAmong : {A : Type 0} → A → List A → Type 0
IsAmong x [] = ⊥
IsAmong {A} x (y ∷ ys) = ◌⊎◌ (x ≡ y) (IsAmong x ys)

-- a message's payloads, joined
abbrev pub gather : ℕ → List Fragment → List ℕ
gather p [] = []
gather p (f ∷ fs) = cond (f.place == p) (f.payload ++ gather p fs) (gather p fs)

-- how many fragments a message has
abbrev pub parts : ℕ → List Fragment → ℕ
parts p [] = 0
parts p (f ∷ fs) = cond (f.place == p) (suc (parts p fs)) (parts p fs)

abbrev pub is_empty : List ℕ → Bool
is_empty [] = true
is_empty (x ∷ xs) = false

abbrev pub new_sender : Sender
new_sender = record { accepted = 0; begun = λ p. false; partly = λ p. false; given_up = λ p. false; number = λ p. 0; counts = λ kind s. 0; written = λ p. 0; following = λ kind s. 0; numbered = [] }

abbrev pub new_receiver : Receiver
new_receiver = record { seen = λ t. false; held = λ t. false; next = λ s. 0; passed_below = λ s. 0; places = []; ready = [] }

abbrev pub start : Transfer
start = record { sender = new_sender; receiver = new_receiver; acknowledged = 0; reports = []; sacks = []; forward_points = [] }
