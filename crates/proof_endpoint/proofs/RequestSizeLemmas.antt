-- The sizes of requests to reset streams.
use Rattle.std.proofs.Common.{◌≡◌, ℕ, ◌+◌, ◌*◌, ◌/◌, ◌^◌, ◌<◌, ◌≤◌, true, List, [], ◌∷◌, length, refl, sym, arith}
use Rattle.std.proofs.lemmas.Bool.{lt-ltb, le-leb, and_from}
use Rattle.sctp_wire.specs.Serialize.{inner_items}
use Rattle.sctp_wire.specs.Parameter.{outgoing_reset_request, parameter_item}
use Rattle.sctp_wire.proofs.SerializeLemmas.{length_item_bytes, length_padded_item}
use Rattle.sctp_parameter.proofs.ParameterLemmas.{length_outgoing}
use Rattle.sctp_packet.specs.Written.{chunk_item, chunk_value, chunk_bytes}
use Rattle.spec_endpoint.specs.ResetRequests.{Request, ids, request_chunk}
use Rattle.spec_endpoint.specs.Packets.{PacketDraft, room, fits}
use Rattle.spec_endpoint.specs.Sending.{most_streams}
use Rattle.spec_endpoint.proofs.SizeLemmas.{size_of_chunk}

length_request : (r : Request) → length (chunk_item (request_chunk r)).value ≡ 16 + length (ids r.streams) * 2
unfolding chunk_value inner_items
length_request r =
    let p = outgoing_reset_request r.number r.number (record { 0 = r.last_tsn }) (ids r.streams) in
    omega (arith, length_item_bytes (parameter_item p), length_outgoing r.number r.number (record { 0 = r.last_tsn }) (ids r.streams))

length_ids : (streams : List ℕ) → length (ids streams) ≡ length streams
length_ids [] = refl
length_ids (n ∷ streams) = omega (arith, length_ids streams)

length_request_chunk : (r : Request) → length (chunk_bytes (request_chunk r)) ≡ (20 + length r.streams * 2 + 3) / 4 * 4
length_request_chunk r =
    omega (arith, sym (size_of_chunk (request_chunk r)), length_padded_item (chunk_item (request_chunk r)), length_request r, length_ids r.streams)

pub request_fits : (p : PacketDraft) (r : Request) → room p < 2 ^ 16 → 0 < length r.streams → length r.streams ≤ most_streams p → fits p (request_chunk r) ≡ true
request_fits p r small some most =
    and_from _ _
    (and_from _ _ (lt-ltb (4 + length (chunk_item (request_chunk r)).value) (2 ^ 16) (omega (arith, length_request r, length_ids r.streams, small, some, most))) refl)
    (le-leb (length (chunk_bytes (request_chunk r))) (room p) (omega (arith, length_request_chunk r, some, most)))
