use Rattle.sctp_reassembly.proofs.NamedLemmas.{one_more}
use Rattle.sctp_reassembly.proofs.stream_id_set.set_bit.Goals as goal

pub returns-clause-bits : goal.returns-clause-bits
returns-clause-bits c = one_more c.args.words.now.items c.args.id c.index-word.result.now c.requires c.ranges.id.fits c.index-word.ensures
