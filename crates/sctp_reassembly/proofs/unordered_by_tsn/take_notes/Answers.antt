use Rattle.sctp_reassembly.proofs.NoteLemmas.{not_named}
use Rattle.sctp_reassembly.proofs.unordered_by_tsn.take_notes.Goals as goal

pub loop-id-preserved : goal.loop-id-preserved
loop-id-preserved c note named there = c.take_note.ensures note (not_named c.args.ids.now c.loop-id.id-index note.1 _ c.loop-id-test.true named) (c.loop-id.invariant note named there)
