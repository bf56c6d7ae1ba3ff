use Rattle.std.proofs.Common.{rules, ◌≡◌, ◌∙◌, List, sym, ap, subst, arith}
use Rattle.std.proofs.lemmas.Grind.{common_steps}
use Rattle.sctp_chunk.specs.declared.sack.GapAckBlock.{GapAckBlock}
use Rattle.sctp_chunk.specs.Covered.{is_covered, AreRuns}
use Rattle.sctp_chunk_validators.proofs.CoveredLemmas.{joined_all, is_covered_joined_all, AreRuns_joined_all}
use Rattle.sctp_chunk_validators.proofs.chunk_validators.join_touching.Goals as goal

pub returns-clause-covered : goal.returns-clause-covered
returns-clause-covered c =
    let whole : c.truncate.new.self.items ≡ joined_all c.args.blocks.now.items = first_of (search rules, grind (arith, common_steps)) in
    λ offset. ap (λ (bs : List GapAckBlock). is_covered bs offset) whole ∙ is_covered_joined_all offset _ c.requires

pub returns-clause-runs : goal.returns-clause-runs
returns-clause-runs c =
    let whole : c.truncate.new.self.items ≡ joined_all c.args.blocks.now.items = first_of (search rules, grind (arith, common_steps)) in
    subst (λ (bs : List GapAckBlock). AreRuns 0 bs) (sym whole) (AreRuns_joined_all _ c.requires)
