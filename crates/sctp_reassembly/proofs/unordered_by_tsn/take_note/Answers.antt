use Rattle.std.proofs.Common.{rules}
use Rattle.sctp_reassembly.specs.UnorderedByTsn.{IsNoted}
use Rattle.sctp_reassembly.proofs.NoteLemmas.{out_others}
use Rattle.sctp_reassembly.proofs.unordered_by_tsn.take_note.Goals as goal

pub returns-then-eq : goal.returns-then-eq
returns-then-eq c =
    let own : IsNoted c.args.notes.now.entries (c.in-Some.key.index, c.args.id.0) = search rules in
    out_others c.in-Some.key.index c.args.id.0 c.args.notes.now.entries c.remove.new.self.entries own c.remove.ensures.updates.0
