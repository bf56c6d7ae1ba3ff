-- What becomes ready on a stream.
use Rattle.std.specs.Prelude.{◌≡◌, ℕ, zero, suc, ◌+◌, ◌^◌, ◌<◌, ◌≤◌, nat_lt, max, Bool, true, if◌then◌else◌, Option, Some, None, option_map, option_to_list, List, [], ◌∷◌, ◌++◌, length}
use Rattle.std.specs.List.{find, sum_by}
use Rattle.sctp_serial.specs.Messages.{Message}
use Rattle.sctp_serial.specs.Unwrapped.{origin}
use Rattle.sctp_fragments.specs.ReassemblyKey.{pair_rank}
use Rattle.sctp_fragments.specs.Runs.{with_item, from_rank}
use Rattle.sctp_fragments.specs.Held.{Held, rank_of, intervals_of, is_complete, message_of_run, is_in_turn, left_by, NoneInTurn, NoneComplete}

pub record OrderedStream : Type 0 where
  pub next : ℕ  -- the number of the message that becomes ready next
  pub held : List Held

pub record UnorderedStream : Type 0 where
  pub near : ℕ  -- MIDs are read near it: the last number that came, or a greater one that a forward point named since
  pub passed : ℕ  -- above the greatest MID that a forward point named since the last reset
  pub held : List Held

-- a stream after a call, and the messages that became ready in it
pub record OrderedDelivery : Type 0 where
  pub stream : OrderedStream
  pub messages : List Message

pub record UnorderedDelivery : Type 0 where
  pub stream : UnorderedStream
  pub messages : List Message

abbrev pub fresh_ordered : OrderedStream
fresh_ordered = record { next = origin; held = [] }

abbrev pub fresh_unordered : UnorderedStream
fresh_unordered = record { near = origin; passed = 0; held = [] }

-- ---- ordered streams

abbrev pub at_rest : ℕ → List Held → OrderedDelivery
at_rest next hs = record { stream = record { next = next; held = hs }; messages = [] }

abbrev pub preceded_by : Message → OrderedDelivery → OrderedDelivery
preceded_by m d = record { stream = d.stream; messages = m ∷ d.messages }

abbrev pub delivering : Option (List Held) → ℕ → List Held → OrderedDelivery → OrderedDelivery
delivering None next hs later = at_rest next hs
delivering (Some r) next hs later = preceded_by (message_of_run r) later

-- complete messages with the next number become ready, one after the other, at most so many
abbrev pub deliver_within : ℕ → ℕ → List Held → OrderedDelivery
deliver_within zero next hs = at_rest next hs
deliver_within (suc most) next hs =
    delivering (find (is_in_turn next) (intervals_of hs)) next hs (deliver_within most (suc next) (left_by (is_in_turn next) hs))

-- all of them
abbrev pub deliver : ℕ → List Held → OrderedDelivery
deliver next hs = deliver_within (length (intervals_of hs)) next hs

-- a fragment comes; one of a message below the next number is late, and not held
abbrev pub ordered_arrival : Held → OrderedStream → OrderedDelivery
ordered_arrival h s = if nat_lt h.number s.next then at_rest s.next s.held else deliver s.next (with_item rank_of h s.held)

-- a forward point names message n: it and those before it are dropped, and the next number moves behind it, never back
abbrev pub ordered_forward : ℕ → OrderedStream → OrderedDelivery
ordered_forward n s = deliver (max (suc n) s.next) (from_rank rank_of (pair_rank (suc n) 0) s.held)

-- what is true of every ordered stream: where it is settled, no complete message has the next number
pub record IsOrdered (s : OrderedStream) (is_settled : Bool) : Type 0 where
  pub least : origin ≤ s.next
  pub settled : is_settled ≡ true → NoneInTurn s.next (intervals_of s.held)

-- ---- unordered streams

-- the first complete message, if there is one, becomes ready
abbrev pub first_complete : List Held → List Message
first_complete hs = option_to_list (option_map message_of_run (find is_complete (intervals_of hs)))

abbrev pub deliver_first_complete : UnorderedStream → UnorderedDelivery
deliver_first_complete s = record { stream = record s { held = left_by is_complete s.held }; messages = first_complete s.held }

-- a fragment comes; one of a message that a forward point passed is late, and not held
abbrev pub unordered_arrival : Held → UnorderedStream → UnorderedDelivery
unordered_arrival h s =
    if nat_lt h.number s.passed then record { stream = record s { near = max origin h.number }; messages = [] }
    else deliver_first_complete (record s { near = max origin h.number; held = with_item rank_of h s.held })

-- a forward point names message n: it and those before it are dropped
abbrev pub unordered_forward : ℕ → UnorderedStream → UnorderedStream
unordered_forward n s = record { near = max s.near n; passed = max s.passed (suc n); held = from_rank rank_of (pair_rank (suc n) 0) s.held }

abbrev pub held_from : ℕ → UnorderedStream → UnorderedStream
held_from rank s = record s { held = from_rank rank_of rank s.held }

-- without interleaving, it passes the TSNs up to n, whatever the message
abbrev pub unordered_forward_tsn : ℕ → UnorderedStream → UnorderedStream
unordered_forward_tsn n s = held_from (pair_rank origin (n + 1)) s

-- what is true of every unordered stream: no complete message stays
pub record IsUnordered (s : UnorderedStream) : Type 0 where
  pub least : origin ≤ s.near
  pub most : s.near < 2 ^ 63
  pub behind : s.passed < 2 ^ 63
  pub settled : NoneComplete (intervals_of s.held)

-- ---- messages that are ready

-- what was ready stays ready, in front and in order
pub record Extends (old new : List Message) : Type 0 where
  pub more : List Message
  pub made : new ≡ old ++ more

-- ---- bytes

abbrev pub ready_bytes : List Message → ℕ
ready_bytes ms = sum_by (λ m. length m.payload) ms
