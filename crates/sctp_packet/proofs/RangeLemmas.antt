-- A chunk that can be written, whose numbers and texts fit, is read back where its types are those of its variants.
use Rattle.std.proofs.Common.{◌≡◌, ◌+◌, ◌^◌, ◌<◌, true, List, length, map, subst, arith}
use Rattle.std.specs.Prelude.{All}
use Rattle.std.specs.List.{list_all}
use Rattle.std.proofs.lemmas.List.{length-append}
use Rattle.std.proofs.lemmas.List.Sums.{AllPass-from_list_all}
use Rattle.sctp_wire.specs.Serialize.{IsEncodable, inner_items}
use Rattle.sctp_wire.specs.Parameter.{ParameterTree, ParameterFits, parameter_item, parameter_is_whole, IsOfItsVariant}
use Rattle.sctp_wire.specs.Cause.{CauseTree, CauseFits, cause_item, CauseIsOfItsVariant}
use Rattle.sctp_wire.specs.ReadBack.{ParameterReadsBack, CauseReadsBack, IsText}
use Rattle.sctp_serial.specs.declared.types.tsn.Tsn.{Tsn}
use Rattle.sctp_chunk.specs.declared.sack.GapAckBlock.{GapAckBlock}
use Rattle.sctp_chunk.specs.Chunk.{ChunkTree, SackTree, init_chunk, init_ack_chunk, sack_chunk, heartbeat_request_chunk, heartbeat_ack_chunk, abort_chunk, error_chunk, cookie_echo_chunk, re_config_chunk, unknown_chunk}
use Rattle.sctp_chunk.specs.Written.{chunk_item, chunk_value, chunk_is_whole, init_fields}
use Rattle.sctp_chunk.specs.Grammar.{FitsChunk, FitsSack, FitsBlock, FitsTsn}
use Rattle.sctp_packet.specs.ReadBack.{ChunkReadsBack, IsReadable, HasItsTypes, InsideFits}
use Rattle.sctp_control_chunk.proofs.InnerLemmas.{each_fits}
use Rattle.sctp_chunk.proofs.ValueLemmas.{length_sack}

parameters_back : (ps : List ParameterTree) → All (λ p. IsEncodable (parameter_item p)) ps → All (λ p. parameter_is_whole p ≡ true) ps → All ParameterFits ps → All IsOfItsVariant ps
    → All ParameterReadsBack ps
parameters_back ps written whole fits typed k d less = record { encodable = written k d less; fits = fits k d less; whole = whole k d less; of_its_variant = typed k d less }

causes_back : (cs : List CauseTree) → All (λ c. IsEncodable (cause_item c)) cs → All CauseFits cs → All IsText cs → All CauseIsOfItsVariant cs → All CauseReadsBack cs
causes_back cs written fits texts typed k d less = record { encodable = written k d less; fits = fits k d less; text = texts k d less; of_its_variant = typed k d less }

parameters_readable : (ps : List ParameterTree) → 4 + length (inner_items (map parameter_item ps)) < 2 ^ 16 → list_all parameter_is_whole ps ≡ true → All ParameterFits ps → All IsOfItsVariant ps
    → All ParameterReadsBack ps
parameters_readable ps short whole = parameters_back ps (each_fits parameter_item ps short) (AllPass-from_list_all parameter_is_whole ps whole)

causes_readable : (cs : List CauseTree) → 4 + length (inner_items (map cause_item cs)) < 2 ^ 16 → All CauseFits cs × All IsText cs → All CauseIsOfItsVariant cs → All CauseReadsBack cs
causes_readable cs short fit = causes_back cs (each_fits cause_item cs short) fit.0 fit.1

readable : (t : ChunkTree) → IsEncodable (chunk_item t) → chunk_is_whole t ≡ true → InsideFits t → HasItsTypes t → IsReadable t
unfolding chunk_value init_fields
readable (init_chunk init) written whole fit typed =
    parameters_readable init.parameters (omega (arith, written, length-append (init_fields init) (inner_items (map parameter_item init.parameters)))) whole fit typed
readable (init_ack_chunk init) written whole fit typed =
    parameters_readable init.parameters (omega (arith, written, length-append (init_fields init) (inner_items (map parameter_item init.parameters)))) whole fit typed
readable (heartbeat_request_chunk ps) written whole fit typed = parameters_readable ps written whole fit typed
readable (heartbeat_ack_chunk ps) written whole fit typed = parameters_readable ps written whole fit typed
readable (abort_chunk reflected causes) written whole fit typed = causes_readable causes written fit typed
readable (error_chunk causes) written whole fit typed = causes_readable causes written fit typed
readable (cookie_echo_chunk cookie) written whole fit typed = typed
readable (re_config_chunk ps) written whole fit typed = parameters_readable ps written whole fit typed
readable (unknown_chunk typ flags value) written whole fit typed = typed
readable _ written whole fit typed = tt

pub reads_back : (t : ChunkTree) → IsEncodable (chunk_item t) → chunk_is_whole t ≡ true → FitsChunk t → InsideFits t → HasItsTypes t → ChunkReadsBack t
reads_back t written whole fits inside typed = record { encodable = written; whole = whole; fits = fits; readable = readable t written whole inside typed }

-- ---- numbers

-- so few as the length allows
pub sack_fits_lem : (s : SackTree) (blocks : List GapAckBlock) (duplicates : List Tsn) → IsEncodable (chunk_item (sack_chunk s)) → blocks ≡ s.gap_ack_blocks → duplicates ≡ s.duplicate_tsns
    → s.cumulative_tsn_ack < 2 ^ 32 → s.a_rwnd < 2 ^ 32 → All FitsBlock blocks → All FitsTsn duplicates → FitsSack s
sack_fits_lem s blocks duplicates written same_blocks same_duplicates tsn window each each_tsn = record {
  cumulative_tsn_ack = tsn;
  a_rwnd = window;
  few_blocks = omega (arith, written, length_sack s);
  few_duplicates = omega (arith, written, length_sack s);
  blocks = subst (λ (bs : List GapAckBlock). All FitsBlock bs) same_blocks each;
  duplicates = subst (λ (ts : List Tsn). All FitsTsn ts) same_duplicates each_tsn;
}
