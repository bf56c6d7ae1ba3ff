use Rattle.sctp_reassembly.proofs.NoteLemmas.{NotedOrLeft}
use Rattle.sctp_reassembly.proofs.unordered_by_tsn.make_notes.Given as goal

abbrev pub invariant-loop-id : goal.invariant-loop-id
invariant-loop-id l = NotedOrLeft l.id-iterator l.notes.entries l.streams.entries
