-- Lengths of parameters' values.
use Rattle.std.proofs.Common.{◌≡◌, ℕ, ◌+◌, ◌*◌, List, length, Option, Some, arith}
use Rattle.std.specs.List.{flat_map}
use Rattle.std.proofs.lemmas.List.{length-append}
use Rattle.sctp_serial.specs.declared.api.StreamId.{StreamId}
use Rattle.sctp_serial.specs.declared.types.tsn.Tsn.{Tsn}
use Rattle.sctp_wire.specs.Field.{be32, length_be16}
use Rattle.sctp_wire.specs.Parameter.{parameter_value, outgoing_reset_request, incoming_reset_request, reset_response, zero_checksum_acceptable, stream_bytes, optional_tsn_bytes}
use Rattle.sctp_wire.proofs.SerializeLemmas.{length_entries}

pub length_streams : (ids : List StreamId) → length (flat_map stream_bytes ids) ≡ length ids * 2
length_streams ids = length_entries stream_bytes 2 (λ id. length_be16 id.0) ids

pub length_outgoing : (request response : ℕ) (tsn : Tsn) (ids : List StreamId) → length (parameter_value (outgoing_reset_request request response tsn ids)) ≡ 12 + length ids * 2
unfolding parameter_value be32
length_outgoing request response tsn ids = omega (arith, length_streams ids)

pub length_incoming : (request : ℕ) (ids : List StreamId) → length (parameter_value (incoming_reset_request request ids)) ≡ 4 + length ids * 2
unfolding parameter_value be32
length_incoming request ids = omega (arith, length_streams ids)

pub length_zero_checksum : (method : ℕ) → length (parameter_value (zero_checksum_acceptable method)) ≡ 4
unfolding parameter_value be32
length_zero_checksum method = omega arith

pub length_response : (response result : ℕ) (sender receiver : Option Tsn)
    → length (parameter_value (reset_response response result sender receiver)) ≡ 8 + (length (optional_tsn_bytes sender) + length (optional_tsn_bytes receiver))
unfolding parameter_value be32
length_response response result sender receiver = omega (arith, length-append (optional_tsn_bytes sender) (optional_tsn_bytes receiver))

pub length_present : (tsn : Tsn) → 4 ≡ length (optional_tsn_bytes (Some tsn))
unfolding be32
length_present tsn = omega arith
