use Rattle.sctp_reassembly.proofs.NoteLemmas.{changed_others}
use Rattle.sctp_reassembly.proofs.unordered_by_tsn.UnorderedByTsn.add.Goals as goal

pub invariant_of-self-2 : goal.invariant_of-self-2
invariant_of-self-2 c made =
    let both = c.renew_note-self-inside.ensures made in
    both.1 (changed_others c.args.id.0 _ c.self.inside.notes.entries c.self.inside.streams c.add.new.self c.in_ok-add.ensures.ok (c.self.invariant both.0))
