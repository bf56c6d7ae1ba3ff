-- The fragments that have their TSN and are kept: all from the cumulative TSN on, in order. Numbers are unwrapped, and the
-- first TSN is `origin`.
use Rattle.std.specs.Prelude.{ℕ, zero, suc, ◌+◌, ◌-◌, ◌%◌, ◌^◌, ◌==◌, Bool, false, if◌then◌else◌, Option, Some, None, List, [], ◌∷◌, ◌++◌, length}
use Rattle.std.specs.List.{sum_by}
use Rattle.sctp_serial.specs.SerialNumber.{serial_difference}
use Rattle.sctp_serial.specs.Unwrapped.{origin, u32_space, wire, nearest}
use Rattle.sctp_chunk.specs.Chunk.{FragmentTree}
use Rattle.sctp_tx_outstanding.specs.declared.item.ItemState.TheVariants.{InFlight}
use Rattle.sctp_tx_outstanding.specs.Item.{Item, is_of, abandon, is_outstanding, should_be_retransmitted, is_fast, chunk_size}

-- a message of which the send queue is to drop what is left
pub record Discard : Type 0 where
  pub stream : ℕ
  pub number : ℕ

pub record Items : Type 0 where
  pub acked : ℕ  -- the cumulative TSN
  pub kept : List Item  -- the items from acked + 1 on
  pub breaks : List ℕ  -- the numbers that were next when streams were reset
  pub discards : List Discard
  pub is_partial : Bool  -- partial reliability: messages may be given up
  pub is_interleaved : Bool

-- the items, and how `origin` is written
pub record Outstanding : Type 0 where
  pub first : ℕ
  pub items : Items

abbrev pub no_items : (is_partial is_interleaved : Bool) → Items
no_items is_partial is_interleaved = record {
  acked = origin - 1;
  kept = [];
  breaks = [];
  discards = [];
  is_partial = is_partial;
  is_interleaved = is_interleaved;
}

abbrev pub next_number : Items → ℕ
next_number s = s.acked + 1 + length s.kept

-- ---- on the wire

abbrev pub wire_tsn : Outstanding → ℕ → ℕ
wire_tsn d n = wire u32_space d.first n

-- what a TSN stands for: the number nearest to the cumulative TSN
abbrev pub number_of : Outstanding → ℕ → ℕ
number_of d tsn = nearest u32_space d.first d.items.acked tsn

-- ---- sums

abbrev pub when : Bool → ℕ → ℕ
when b n = if b then n else 0

abbrev pub packet_part : (is_interleaved : Bool) → Item → ℕ
packet_part is_interleaved i = when (is_outstanding i) (chunk_size is_interleaved i)

abbrev pub payload_part : Item → ℕ
payload_part i = when (is_outstanding i) (length i.fragment.payload)

abbrev pub flight_part : Item → ℕ
flight_part i = when (is_outstanding i) 1

abbrev pub queued_part : Item → ℕ
queued_part i = when (should_be_retransmitted i) 1

abbrev pub fast_part : Item → ℕ
fast_part i = when (is_fast i) 1

-- the bytes of the chunks in flight or missing, those of their payloads, and how many they are
abbrev pub flight_bytes : Items → ℕ
flight_bytes s = sum_by (packet_part s.is_interleaved) s.kept

abbrev pub flight_payload : Items → ℕ
flight_payload s = sum_by payload_part s.kept

abbrev pub flight_items : Items → ℕ
flight_items s = sum_by flight_part s.kept

-- how many wait to be sent again, in all and for the packet that ignores the congestion window
abbrev pub waiting_items : Items → ℕ
waiting_items s = sum_by queued_part s.kept

abbrev pub fast_items : Items → ℕ
fast_items s = sum_by fast_part s.kept

-- ---- one item changes

abbrev pub change_at : ℕ → (Item → Item) → List Item → List Item
change_at k f [] = []
change_at zero f (i ∷ is) = f i ∷ is
change_at (suc k) f (i ∷ is) = i ∷ change_at k f is

-- the kept items alone
pub record Kept : Type 0 where
  pub is_interleaved : Bool
  pub items : List Item

-- ---- what is given up of a message

-- all its fragments that are kept
abbrev pub abandon_if_of : ℕ → Item → Item
abandon_if_of number i = if is_of number i then abandon i else i

abbrev pub without_payload : FragmentTree → FragmentTree
without_payload f = record f { payload = [] }

-- the last fragment of a message, or the one found before
abbrev pub later_of : ℕ → Option FragmentTree → List Item → Option FragmentTree
later_of number found [] = found
later_of number found (i ∷ is) = later_of number (if is_of number i then Some (without_payload i.fragment) else found) is

-- the last kept fragment of a message, without its payload
abbrev pub last_of : ℕ → List Item → Option FragmentTree
last_of number is = later_of number None is

-- the fragment at the place, where it is one of the message, or the one found before
abbrev pub later_at : ℕ → ℕ → Option FragmentTree → List Item → Option FragmentTree
later_at number k found [] = found
later_at number zero found (i ∷ is) = if is_of number i then Some (without_payload i.fragment) else found
later_at number (suc k) found (i ∷ is) = later_at number k found is

-- whether the item at the place is one of them
abbrev pub is_of_at : ℕ → ℕ → List Item → Bool
is_of_at number k [] = false
is_of_at number zero (i ∷ is) = is_of number i
is_of_at number (suc k) (i ∷ is) = is_of_at number k is

-- ---- new items

-- a fragment that is sent for the first time
abbrev pub first_sent : (number : ℕ) → FragmentTree → (now limit : ℕ) → (expires lifecycle : Option ℕ) → Item
first_sent number fragment now limit expires lifecycle = record {
  number = number;
  fragment = fragment;
  expires = expires;
  limit = limit;
  lifecycle = lifecycle;
  state = InFlight;
  sent = 1;
  reports = 0;
  counts_from = 0;
  sent_at = now;
}

-- it takes the next TSN
abbrev pub append_item : Item → Items → Items
append_item i s = record s { kept = s.kept ++ i ∷ [] }

-- whether the number is the last of a list
abbrev pub is_last : ℕ → List ℕ → Bool
is_last n [] = false
is_last n (b ∷ []) = b == n
is_last n (b ∷ c ∷ bs) = is_last n (c ∷ bs)

-- one breakpoint more, unless it is the last one
abbrev pub with_break : ℕ → List ℕ → List ℕ
with_break n breaks = if is_last n breaks then breaks else breaks ++ n ∷ []

-- streams are reset: no forward point crosses the number that is next
abbrev pub begin_reset : Items → Items
begin_reset s = record s { breaks = with_break (next_number s) s.breaks }

-- a restored socket begins behind this TSN: at the least number that is written so
abbrev pub begun_at : (first tsn : ℕ) → Items → Items
begun_at first tsn s = record s { acked = origin - 1 + serial_difference u32_space ((tsn + 1) % 2 ^ 32) first }
