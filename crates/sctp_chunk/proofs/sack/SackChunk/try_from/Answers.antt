use Rattle.std.proofs.Common.{◌≡◌, ◌*◌, ◌++◌, ℕ, List, take, length, arith, refl, ap, sym, ◌∙◌}
use Rattle.sctp_wire.specs.Field.{be16, be32, length_be32}
use Rattle.sctp_chunk.proofs.SackLemmas.{counted_entries, sack_read}
use Rattle.std.proofs.lemmas.List.{take-append-drop}
use Rattle.sctp_chunk.specs.Written.{block_bytes, length_block_bytes, tsn_bytes}
use Rattle.sctp_chunk.proofs.sack.SackChunk.try_from.Goals as goal

pub returns-clause-ok : goal.returns-clause-ok
returns-clause-ok c =
    let v = c.in_ok-value.ensures.ok in
    let front = c.in_ok-front.front in
    let said = c.in_ok-front.ensures in
    let whole : c.args.raw.value.now ≡ be32 front.cumulative_tsn_ack ++ (be32 front.a_rwnd ++ (be16 front.block_count ++ (be16 front.duplicate_count ++ front.rest.now))) = sym v.1 ∙ said.ok in
    let rest : List ℕ = front.rest.now in
    let blocks = c.in_ok-gap_ack_blocks.gap_ack_blocks.items in
    let tsns = c.in_ok-duplicate_tsns.duplicate_tsns.items in
    let joined : rest ≡ c.split_at.result.0.now ++ c.split_at.result.1.now = sym (ap (λ (x : List ℕ). x ++ c.split_at.result.1.now) c.split_at.ensures.front ∙ ap (λ (x : List ℕ). take (4 * front.block_count) rest ++ x) c.split_at.ensures.back ∙ take-append-drop (4 * front.block_count) rest) in
    let many : length blocks ≡ front.block_count = counted_entries block_bytes length_block_bytes blocks c.split_at.result.0.now _ c.in_ok-gap_ack_blocks.ensures.ok (omega (arith, c.split_at.ensures.front_len)) in
    let others : length tsns ≡ front.duplicate_count = counted_entries tsn_bytes (λ t. length_be32 t.0) tsns c.split_at.result.1.now _ c.in_ok-duplicate_tsns.ensures.ok
    (omega (arith, c.split_at.ensures.back_len, said.counted)) in
    record {
      kind = v.0;
      of_its_type = tt;
      flags = tt;
      value = sack_read _ c.args.raw.value.now c.split_at.result.0.now c.split_at.result.1.now rest _ _ whole joined c.in_ok-gap_ack_blocks.ensures.ok c.in_ok-duplicate_tsns.ensures.ok many others;
      fits = record {
        cumulative_tsn_ack = said.tsn_fits;
        a_rwnd = said.window_fits;
        few_blocks = omega (arith, many, said.blocks_fit);
        few_duplicates = omega (arith, others, said.duplicates_fit);
        blocks = c.in_ok-gap_ack_blocks.ensures.fits;
        duplicates = c.in_ok-duplicate_tsns.ensures.fits;
      };
      carries = refl;
    }
