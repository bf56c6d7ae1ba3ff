-- What `pigeon_new_sized` makes.
use Rattle.std.specs.Prelude.{◌≡◌, ◌<◌, Option, Some, None, false}
use Rattle.rand_chacha.specs.ChaCha.{ChaCha}
use Rattle.sctp_state.specs.Options.{Options}
use Rattle.spec_endpoint.specs.Association.{fresh}
use Rattle.spec_endpoint.specs.Wire.{writing}
use Rattle.sctp_c_records.specs.Checksum.{word_by}
use Rattle.sctp_c_records.specs.declared.checksum.PacketChecksum.{PacketChecksum}
use Rattle.sctp_c_records.specs.declared.options.OptionsRecord.{OptionsRecord}
use Rattle.sctp_c.specs.Calls.{end_of, stream}
use Rattle.sctp_c.specs.declared.endpoint.Endpoint.{Endpoint}

-- a closed socket at moment zero, which has emitted nothing
pub record IsFresh (options : Options) (checksum : PacketChecksum) (rng : ChaCha) (e : Endpoint) : Type 0 where
  pub start : end_of e.socket ≡ fresh options (writing (word_by checksum)) (stream rng)
  pub working : e.socket.has_failed ≡ false
  pub event : e.event ≡ None
  pub handed_over : e.handed_over ≡ None
  pub channels : e.channels ≡ None

abbrev pub Made : Options → PacketChecksum → ChaCha → Option Endpoint → Type 0
Made options checksum rng None = ⊥
Made options checksum rng (Some e) = IsFresh options checksum rng e

-- flags and a checksum that there are
abbrev pub NamesKnown : OptionsRecord → Type 0
NamesKnown o = (o.flags < 64) × (o.checksum < 2)
