-- What of a packet's chunks says whether it is taken.
use Rattle.std.specs.Prelude.{ℕ, Bool, true, false, ◌||◌, Option, Some, None, List, [], ◌==◌}
use Rattle.std.specs.Option.{option_or}
use Rattle.sctp_packet.specs.Chunk.{ChunkTree}
use Rattle.spec_endpoint.specs.Association.{State}
use Rattle.spec_endpoint.specs.Input.{my_tag, abort_flag, complete_flag, has_shutdown_ack, begins_with_cookie, is_single_init, packet_refusal_by, plain_refusal}
use Rattle.sctp_handshake.specs.declared.validation.Outline.{Outline}

abbrev pub outline_of : List ChunkTree → Outline
outline_of chunks = record {
  abort = abort_flag chunks;
  complete = complete_flag chunks;
  has_shutdown_ack = has_shutdown_ack chunks;
  begins_with_cookie = begins_with_cookie chunks;
  is_single_init = is_single_init chunks;
}

-- with the chunks of another packet behind: what the first ABORT and the first SHUTDOWN COMPLETE say, and what any chunk does
abbrev pub followed_by : Outline → Outline → Outline
followed_by o behind = record {
  abort = option_or o.abort behind.abort;
  complete = option_or o.complete behind.complete;
  has_shutdown_ack = o.has_shutdown_ack || behind.has_shutdown_ack;
  begins_with_cookie = o.begins_with_cookie;
  is_single_init = false;
}

-- the first rule that applies; the last one alone asks whether the chunks begin with a cookie, or are a single INIT
abbrev pub outlined_by : (abort complete : Option Bool) → (is_shutdown_ack begins_with_cookie is_single_init : Bool) → (tag : ℕ) → State → Option (List ℕ)
outlined_by (Some reflected) complete is_shutdown_ack is_cookie is_init tag s = packet_refusal_by (Some reflected) complete is_shutdown_ack tag [] s
outlined_by None (Some reflected) is_shutdown_ack is_cookie is_init tag s = packet_refusal_by None (Some reflected) is_shutdown_ack tag [] s
outlined_by None None true is_cookie is_init tag s = packet_refusal_by None None true tag [] s
outlined_by None None false is_cookie is_init tag s = plain_refusal is_cookie (tag == 0) is_init (tag == my_tag s) tag (my_tag s)

abbrev pub outlined_refusal : Outline → (tag : ℕ) → State → Option (List ℕ)
outlined_refusal o tag s = outlined_by o.abort o.complete o.has_shutdown_ack o.begins_with_cookie o.is_single_init tag s
