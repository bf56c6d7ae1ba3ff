use Rattle.sctp_chunk.proofs.SackLemmas.{counted_as}
use Rattle.sctp_chunk.proofs.sack.SackChunk.check_value.Goals as goal

pub returns-clause-ok : goal.returns-clause-ok
returns-clause-ok c =
    counted_as c.args.value.now _ _ _ _ _ c.in_ok-at.ensures.blocks_fit c.in_ok-at.ensures.duplicates_fit c.in_ok-at.ensures.ok c.in_ok-at.ensures.counted
