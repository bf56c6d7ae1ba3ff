use Rattle.std.proofs.Common.{arith}
use Rattle.sctp_chunk.proofs.SackLemmas.{counted_is_long, counted_otherwise, four_fields}
use Rattle.sctp_chunk.proofs.sack.SackFront.at.Goals as goal

pub returns-then-value-lt12-clause-other : goal.returns-then-value-lt12-clause-other
returns-then-value-lt12-clause-other c = counted_is_long c.args.value.now (omega (arith, c.if-value-lt12.true))

pub returns-then-rest-blocks_size-clause-other : goal.returns-then-rest-blocks_size-clause-other
returns-then-rest-blocks_size-clause-other c =
    counted_otherwise c.args.value.now _ _ _ _ _ c.first_u16-block_count.ensures.fits c.first_u16-duplicate_count.ensures.fits
    (four_fields c.args.value.now _ _ _ _ _ _ _ _ c.first_u32-cumulative_tsn_ack.ensures.number c.first_u32-a_rwnd.ensures.number c.first_u16-block_count.ensures.number c.first_u16-duplicate_count.ensures.number)
    c.if-rest-blocks_size.true

pub returns-clause-ok : goal.returns-clause-ok
returns-clause-ok c =
    four_fields c.args.value.now _ _ _ _ _ _ _ _ c.first_u32-cumulative_tsn_ack.ensures.number c.first_u32-a_rwnd.ensures.number c.first_u16-block_count.ensures.number c.first_u16-duplicate_count.ensures.number
