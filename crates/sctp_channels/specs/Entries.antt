-- Channels by the numbers of their streams.
use Rattle.std.specs.Prelude.{◌≡◌, ℕ, ◌+◌, ◌^◌, ◌<◌, Option, Some, None, List, [], ◌∷◌, All}
use Rattle.std.specs.BTreeMap.{insert_entry, is_at}
use Rattle.std.specs.Map.{keys_of, lookup, remove_entry, set_value, values_of}
use Rattle.std.specs.Ordering.{nat_cmp}
use Rattle.sctp_channels.specs.declared.lifecycle.Lifecycle.{Lifecycle}
use Rattle.sctp_channels.specs.declared.payload.PayloadProtocol.{PayloadProtocol}
use Rattle.sctp_channels.specs.Channel.{Channel, Received, kept_by, nothing, received}

abbrev pub Entries : Type 0
Entries = List (ℕ × Channel)

abbrev pub channel_at : ℕ → Entries → Option Channel
channel_at id es = lookup (is_at (nat_cmp id)) es

-- a channel that is new, or in place of another one
abbrev pub put : ℕ → Channel → Entries → Entries
put id c es = insert_entry nat_cmp es id c

abbrev pub forget : ℕ → Entries → Entries
forget id es = remove_entry (is_at (nat_cmp id)) es

abbrev pub changed_from : Option Channel → (Channel → Channel) → ℕ → Entries → Entries
changed_from None f id es = es
changed_from (Some c) f id es = set_value (is_at (nat_cmp id)) es (f c)

-- what f makes of the channel, where there is one
abbrev pub changed : (Channel → Channel) → ℕ → Entries → Entries
changed f id es = changed_from (channel_at id es) f id es

-- what the channel hands out of a payload, where there is one
abbrev pub received_at : Option Channel → ℕ → PayloadProtocol → List ℕ → Received
received_at None limit protocol payload = nothing
received_at (Some c) limit protocol payload = received limit protocol payload c

-- whether the peer has reset its stream is in this lifecycle as in the channel's
abbrev pub KeepsIncoming : Lifecycle → Channel → Type 0
KeepsIncoming l c = l.is_incoming_reset ≡ c.lifecycle.is_incoming_reset

-- ---- bytes that are kept

abbrev pub kept_at : Option Channel → ℕ
kept_at None = 0
kept_at (Some c) = kept_by c

-- those of all channels
abbrev pub kept_bytes : Entries → ℕ
kept_bytes [] = 0
kept_bytes (e ∷ es) = kept_by e.1 + kept_bytes es

abbrev pub IsSmall : Channel → Type 0
IsSmall c = kept_by c < 2 ^ 66

abbrev pub IsStream : ℕ → Type 0
IsStream id = id < 2 ^ 16

-- the count is that of the bytes, of which there are never too many for it
pub record AreCounted (kept : ℕ) (es : Entries) : Type 0 where
  pub sum : kept ≡ kept_bytes es
  pub small : All IsSmall (values_of es)
  pub streams : All IsStream (keys_of es)
