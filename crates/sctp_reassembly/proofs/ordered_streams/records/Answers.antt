use Rattle.std.proofs.Common.{rules, ◌≡◌, ap, ◌∙◌}
use Rattle.sctp_state.specs.Validity.{rises_from, ordered_ids}
use Rattle.sctp_reassembly.specs.ReassemblyHandover.{ordered_records}
use Rattle.sctp_reassembly.proofs.WrittenLemmas.{rises_ordered}
use Rattle.sctp_reassembly.proofs.ordered_streams.records.Goals as goal

pub returns-clause-rises : goal.returns-clause-rises
returns-clause-rises g c =
    let is : c.loop-id.records.items ≡ ordered_records c.args.is_interleaved c.args.streams.now.entries = search rules in
    ap (λ t. rises_from 0 (ordered_ids t)) is ∙ rises_ordered c.args.is_interleaved c.args.streams.now.entries c.len-count.ensures.ordered
