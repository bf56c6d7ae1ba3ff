-- A fragment that has its TSN, until the peer's cumulative TSN passes it.
use Rattle.std.specs.Prelude.{◌≡◌, ◌<◌, ◌^◌, ℕ, suc, ◌+◌, ◌-◌, ◌*◌, ◌/◌, ◌==◌, ◌&&◌, ◌||◌, nat_lt, nat_le, min, Bool, true, false, if◌then◌else◌, Option, Some, None, List, [], ◌∷◌, length}
use Rattle.sctp_chunk.specs.Chunk.{FragmentTree}
use Rattle.sctp_tx_outstanding.specs.declared.item.MissIndication.{MissIndication}
use Rattle.sctp_tx_outstanding.specs.declared.item.MissIndication.TheVariants.{Timeout, Report}
use Rattle.sctp_tx_outstanding.specs.declared.item.ItemState.{ItemState}
use Rattle.sctp_tx_outstanding.specs.declared.item.ItemState.TheVariants.{InFlight, Missing, Queued, QueuedFast, Acked, GivenUp}

pub record Item : Type 0 where
  pub number : ℕ  -- of its message
  pub fragment : FragmentTree
  pub expires : Option ℕ
  pub limit : ℕ  -- how often it may be sent again
  pub lifecycle : Option ℕ  -- with the end of the message alone
  pub state : ItemState
  pub sent : ℕ  -- how often it was handed out to be sent
  pub reports : ℕ  -- that it is missing, since it was sent
  pub counts_from : ℕ  -- the first number whose acknowledgement reports it missing, where it was lost before
  pub sent_at : ℕ  -- the first time

-- ---- what it is

abbrev pub is_in_flight : ItemState → Bool
is_in_flight InFlight = true
is_in_flight Missing = true
is_in_flight Queued = false
is_in_flight QueuedFast = false
is_in_flight Acked = false
is_in_flight GivenUp = false

abbrev pub waits : ItemState → Bool
waits InFlight = false
waits Missing = false
waits Queued = true
waits QueuedFast = true
waits Acked = false
waits GivenUp = false

abbrev pub waits_fast : ItemState → Bool
waits_fast InFlight = false
waits_fast Missing = false
waits_fast Queued = false
waits_fast QueuedFast = true
waits_fast Acked = false
waits_fast GivenUp = false

abbrev pub has_nack : ItemState → Bool
has_nack InFlight = false
has_nack Missing = true
has_nack Queued = true
has_nack QueuedFast = true
has_nack Acked = false
has_nack GivenUp = false

abbrev pub has_ack : ItemState → Bool
has_ack InFlight = false
has_ack Missing = false
has_ack Queued = false
has_ack QueuedFast = false
has_ack Acked = true
has_ack GivenUp = false

abbrev pub is_given_up : ItemState → Bool
is_given_up InFlight = false
is_given_up Missing = false
is_given_up Queued = false
is_given_up QueuedFast = false
is_given_up Acked = false
is_given_up GivenUp = true

-- in flight or missing
abbrev pub is_outstanding : Item → Bool
is_outstanding i = is_in_flight i.state

-- it is to be sent again
abbrev pub should_be_retransmitted : Item → Bool
should_be_retransmitted i = waits i.state

-- by the packet that ignores the congestion window
abbrev pub is_fast : Item → Bool
is_fast i = waits_fast i.state

-- reported missing, or to be sent again
abbrev pub is_nacked : Item → Bool
is_nacked i = has_nack i.state

abbrev pub is_acked : Item → Bool
is_acked i = has_ack i.state

abbrev pub is_abandoned : Item → Bool
is_abandoned i = is_given_up i.state

-- neither acknowledged nor given up
abbrev pub is_open : Item → Bool
is_open i = is_in_flight i.state || waits i.state

abbrev pub has_been_retransmitted : Item → Bool
has_been_retransmitted i = nat_lt 1 i.sent

abbrev pub is_past : ℕ → Option ℕ → Bool
is_past now None = false
is_past now (Some moment) = nat_le moment now

abbrev pub has_expired : ℕ → Item → Bool
has_expired now i = is_past now i.expires

abbrev pub never : ℕ
never = 2 ^ 128 - 1

abbrev pub or_never : Option ℕ → ℕ
or_never None = never
or_never (Some moment) = moment

-- from when on it isn't worth sending, where it is missing or lost
abbrev pub expiry : Item → ℕ
expiry i = if has_nack i.state then or_never i.expires else never

-- the earliest moment at which one expires, or the one found before
abbrev pub earliest_of : ℕ → List Item → ℕ
earliest_of found [] = found
earliest_of found (i ∷ is) = earliest_of (min found (expiry i)) is

-- it doesn't expire before this moment
abbrev pub NotBefore : ℕ → Item → Type 0
NotBefore earliest i = (now : ℕ) → now < earliest → (has_nack i.state && has_expired now i) ≡ false

-- it was sent again as often as it may be
abbrev pub is_used_up : Item → Bool
is_used_up i = nat_le i.limit (i.sent - 1)

-- a fragment of this message
abbrev pub is_of : ℕ → Item → Bool
is_of number i = i.number == number

-- the bytes of a fragment's chunk, with the header and the padding (RFC 9260 section 3.3.1, RFC 8260 section 2.1)
abbrev pub header_size : (is_interleaved : Bool) → ℕ
header_size is_interleaved = if is_interleaved then 20 else 16

abbrev pub size_of : (is_interleaved : Bool) → FragmentTree → ℕ
size_of is_interleaved f = (header_size is_interleaved + length f.payload + 3) / 4 * 4

abbrev pub chunk_size : (is_interleaved : Bool) → Item → ℕ
chunk_size is_interleaved i = size_of is_interleaved i.fragment

-- ---- what happens to it. Given up is for good

abbrev pub acked : ItemState → ItemState
acked InFlight = Acked
acked Missing = Acked
acked Queued = Acked
acked QueuedFast = Acked
acked Acked = Acked
acked GivenUp = GivenUp

-- by a block of a SACK
abbrev pub ack : Item → Item
ack i = record i { state = acked i.state; reports = if is_given_up i.state then i.reports else 0 }

abbrev pub uncovered : ItemState → ItemState
uncovered InFlight = InFlight
uncovered Missing = Missing
uncovered Queued = Queued
uncovered QueuedFast = QueuedFast
uncovered Acked = InFlight
uncovered GivenUp = GivenUp

-- no block covers it any more
abbrev pub uncover : Item → Item
uncover i = record i { state = uncovered i.state }

-- Whether an indication counts. With stalls avoided an item is lost once a flight: a report counts anew where it is made by the acknowledgement of
-- a fragment that was first sent behind the loss (RFC 9260 section 7.2.4 step 5). Else `counts_from` stays 0, and each counts.
abbrev pub counts : MissIndication → Item → Bool
counts Timeout i = true
counts (Report newest next) i = nat_le i.counts_from newest

-- the third missing report that counts says that it is lost, a timeout at once
abbrev pub is_lost : MissIndication → Item → Bool
is_lost Timeout i = true
is_lost (Report newest next) i = counts (Report newest next) i && nat_le 2 i.reports

-- the reports of one that isn't lost
abbrev pub reported : MissIndication → Item → ℕ
reported indication i = if counts indication i then suc i.reports else i.reports

-- from which number on reports count of one that is lost now
abbrev pub counts_again : MissIndication → Item → ℕ
counts_again Timeout i = i.counts_from
counts_again (Report newest next) i = next

abbrev pub nack_state : (is_lost fast : Bool) → ItemState
nack_state true true = QueuedFast
nack_state true false = Queued
nack_state false fast = Missing

-- it is missing, by a report or a timeout. What is lost is to be sent again
abbrev pub nack : (indication : MissIndication) (fast : Bool) → Item → Item
nack indication fast i = record i {
  state = if is_in_flight i.state then nack_state (is_lost indication i) fast else i.state;
  reports = if is_in_flight i.state then (if is_lost indication i then 0 else reported indication i) else i.reports;
  counts_from = if is_in_flight i.state && is_lost indication i then counts_again indication i else i.counts_from;
}

abbrev pub resent : ItemState → ItemState
resent InFlight = InFlight
resent Missing = Missing
resent Queued = InFlight
resent QueuedFast = InFlight
resent Acked = Acked
resent GivenUp = GivenUp

-- it is handed out to be sent once more
abbrev pub mark_as_retransmitted : Item → Item
mark_as_retransmitted i = record i { state = resent i.state; sent = min (suc i.sent) 65536 }

abbrev pub demote_fast : ItemState → ItemState
demote_fast InFlight = InFlight
demote_fast Missing = Missing
demote_fast Queued = Queued
demote_fast QueuedFast = Queued
demote_fast Acked = Acked
demote_fast GivenUp = GivenUp

-- the fast packet had no room for it
abbrev pub miss_fast : Item → Item
miss_fast i = record i { state = demote_fast i.state }

abbrev pub abandon : Item → Item
abandon i = record i { state = GivenUp }

-- ---- a sending's round trip time

abbrev pub rtt_from : ℕ → Item → ℕ
rtt_from now i = now - i.sent_at
