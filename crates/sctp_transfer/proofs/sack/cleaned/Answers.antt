use Rattle.sctp_transfer.proofs.CleanedLemmas.{AreRuns_cleaned, SameOffsets_cleaned}
use Rattle.sctp_transfer.proofs.sack.cleaned.Goals as goal

pub returns-clause-blocks : goal.returns-clause-blocks
returns-clause-blocks c =
    c.clean_sack.ensures.only _ (AreRuns_cleaned c.args.sack.gap_ack_blocks.items) (SameOffsets_cleaned c.args.sack.gap_ack_blocks.items)
