use Rattle.sctp_reassembly.proofs.NoteLemmas.{forgets}
use Rattle.sctp_reassembly.proofs.unordered_by_tsn.UnorderedByTsn.forget.Goals as goal

pub invariant_of-self : goal.invariant_of-self
invariant_of-self c noted = forgets c.args.ids.now c.self.inside.notes.entries c.take_notes.new.notes.entries c.self.inside.streams c.forget.new.self c.take_notes.ensures c.forget.ensures.value (c.self.invariant noted)
