use Rattle.std.proofs.Common.{rules, ◌≡◌, ap, ◌∙◌}
use Rattle.sctp_state.specs.Validity.{rises_from, unordered_ids}
use Rattle.sctp_reassembly.specs.ReassemblyHandover.{unordered_records}
use Rattle.sctp_reassembly.proofs.WrittenLemmas.{rises_unordered}
use Rattle.sctp_reassembly.proofs.unordered_streams.records.Goals as goal

pub returns-clause-rises : goal.returns-clause-rises
returns-clause-rises g c =
    let is : c.loop-id.records.items ≡ unordered_records c.args.streams.now.entries = search rules in
    ap (λ t. rises_from 0 (unordered_ids t)) is ∙ rises_unordered c.args.streams.now.entries c.len-count.ensures.ordered
