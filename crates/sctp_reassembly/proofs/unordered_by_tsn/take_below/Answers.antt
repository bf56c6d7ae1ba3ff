use Rattle.std.proofs.Common.{sym, subst}
use Rattle.sctp_serial.specs.Unwrapped.{origin}
use Rattle.sctp_fragments.specs.ReassemblyKey.{pair_rank}
use Rattle.sctp_reassembly.specs.UnorderedByTsn.{NoneBelow}
use Rattle.sctp_reassembly.proofs.NoteLemmas.{none_from}
use Rattle.sctp_reassembly.proofs.unordered_by_tsn.take_below.Goals as goal

pub returns-in-Ok-clause-rest : goal.returns-in-Ok-clause-rest
returns-in-Ok-clause-rest c = subst (λ s. NoneBelow (pair_rank origin c.args.index) s.entries) (sym c.replace.ensures.after) (none_from c.args.index c.in-Ok.rest.entries c.in-Ok.ensures.all_from)
