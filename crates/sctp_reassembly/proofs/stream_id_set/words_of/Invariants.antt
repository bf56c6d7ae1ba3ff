use Rattle.std.proofs.Common.{drop}
use Rattle.sctp_reassembly.proofs.NamedLemmas.{ComesTo}
use Rattle.sctp_reassembly.proofs.stream_id_set.words_of.Given as goal

abbrev pub invariant-loop-id : goal.invariant-loop-id
invariant-loop-id l = record { comes : ComesTo l.words.items (drop l.id-index l.ids) l.ids }
