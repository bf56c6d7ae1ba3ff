use Rattle.std.proofs.Common.{sym, subst}
use Rattle.sctp_reassembly.specs.UnorderedByTsn.{AreNoted}
use Rattle.sctp_reassembly.proofs.NoteLemmas.{restored_noted}
use Rattle.sctp_reassembly.proofs.unordered_by_tsn.UnorderedByTsn.restored.Goals as goal

pub invariant_of-result : goal.invariant_of-result
invariant_of-result c noted = subst (AreNoted c.new.result.entries) (sym c.in_ok-restored.ensures) (restored_noted c.new.result.entries c.args.records.now)
