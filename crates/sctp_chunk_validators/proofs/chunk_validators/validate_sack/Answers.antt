use Rattle.std.proofs.Common.{List, sym, subst, arith}
use Rattle.sctp_chunk.specs.declared.sack.GapAckBlock.{GapAckBlock}
use Rattle.sctp_chunk.specs.Covered.{AreRuns}
use Rattle.sctp_chunk_validators.proofs.ValidLemmas.{valid_from_runs, runs_from_valid}
use Rattle.sctp_chunk_validators.proofs.chunk_validators.validate_sack.Goals as goal
use Rattle.sctp_chunk.proofs.SackLemmas.{runs_lower}

pub returns-clause-valid : goal.returns-clause-valid
returns-clause-valid c =
    let blocks = c.args.sack.now.gap_ack_blocks.items in
    let same = c.deref.ensures.value in
    let says = c.are_runs.ensures in (
      λ yes.
          let runs = subst (λ (bs : List GapAckBlock). AreRuns 2 bs) same (says.0 yes) in
          valid_from_runs blocks runs (runs_lower 0 2 blocks (omega arith) runs),
      λ valid. says.1 (subst (λ (bs : List GapAckBlock). AreRuns 2 bs) (sym same) (runs_from_valid blocks valid)),
    )
