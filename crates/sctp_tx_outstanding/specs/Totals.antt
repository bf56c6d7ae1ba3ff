-- Running totals over the kept items.
use Rattle.std.specs.Prelude.{◌≡◌, ℕ, zero, suc, ◌+◌, ◌-◌, ◌^◌, ◌<◌, ◌≤◌, min, Bool, List, [], ◌∷◌, length}
use Rattle.std.specs.List.{sum_by, All}
use Rattle.sctp_tx_outstanding.specs.declared.totals.Totals.{Totals}
use Rattle.sctp_tx_outstanding.specs.declared.kept.Change.{Change}
use Rattle.sctp_tx_outstanding.specs.Item.{Item, expiry, never, NotBefore}
use Rattle.sctp_tx_outstanding.specs.Change.{apply_change}
use Rattle.sctp_tx_outstanding.specs.OutstandingData.{packet_part, payload_part, flight_part, queued_part, fast_part}

-- what one item adds
abbrev pub parts : (is_interleaved : Bool) → Item → Totals
parts is_interleaved i = record {
  packet_bytes = packet_part is_interleaved i;
  payload_bytes = payload_part i;
  flights = flight_part i;
  queued = queued_part i;
  fast = fast_part i;
  earliest = expiry i;
}

abbrev pub nothing : Totals
nothing = record { packet_bytes = 0; payload_bytes = 0; flights = 0; queued = 0; fast = 0; earliest = never }

-- the totals with one part in place of another
abbrev pub replace_part : (old new : Totals) → Totals → Totals
replace_part old new t = record {
  packet_bytes = min (t.packet_bytes - old.packet_bytes + new.packet_bytes) (2 ^ 128 - 1);
  payload_bytes = min (t.payload_bytes - old.payload_bytes + new.payload_bytes) (2 ^ 128 - 1);
  flights = min (t.flights - old.flights + new.flights) (2 ^ 64 - 1);
  queued = min (t.queued - old.queued + new.queued) (2 ^ 64 - 1);
  fast = min (t.fast - old.fast + new.fast) (2 ^ 64 - 1);
  earliest = min t.earliest new.earliest;
}

-- the totals hold a part, and another that counts as many in flight or missing has as many bytes
pub record HasPart (old new t : Totals) : Type 0 where
  pub packet : old.packet_bytes ≤ t.packet_bytes
  pub payload : old.payload_bytes ≤ t.payload_bytes
  pub flights : old.flights ≤ t.flights
  pub queued : old.queued ≤ t.queued
  pub fast : old.fast ≤ t.fast
  pub same_packet : old.flights ≡ new.flights → old.packet_bytes ≡ new.packet_bytes
  pub same_payload : old.flights ≡ new.flights → old.payload_bytes ≡ new.payload_bytes

abbrev pub IsSmall : Item → Type 0
IsSmall i = length i.fragment.payload < 2 ^ 32

-- they are the sums, none expires before the earliest moment, and no payload is too long for the sums
pub record AreTotals (is_interleaved : Bool) (is : List Item) (t : Totals) : Type 0 where
  pub packet : t.packet_bytes ≡ sum_by (packet_part is_interleaved) is
  pub payload : t.payload_bytes ≡ sum_by payload_part is
  pub flights : t.flights ≡ sum_by flight_part is
  pub queued : t.queued ≡ sum_by queued_part is
  pub fast : t.fast ≡ sum_by fast_part is
  pub earliest : All (NotBefore t.earliest) is
  pub small : All IsSmall is

-- what the item at a place adds before a change, and after it
abbrev pub Exchanges : (is_interleaved : Bool) → ℕ → Change → List Item → Totals → Totals → Type 0
Exchanges m k change [] old new = (old ≡ nothing) × (new ≡ nothing)
Exchanges m zero change (i ∷ is) old new = (old ≡ parts m i) × (new ≡ parts m (apply_change change i))
Exchanges m (suc k) change (i ∷ is) old new = Exchanges m k change is old new
