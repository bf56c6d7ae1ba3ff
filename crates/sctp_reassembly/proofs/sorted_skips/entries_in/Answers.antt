use Rattle.std.proofs.Common.{◌≡◌, rules, ap, ◌∙◌}
use Rattle.std.proofs.lemmas.Fn.{filter_same}
use Rattle.sctp_reassembly.specs.ReassemblyStreams.{skipped_id, is_part, entries_in}
use Rattle.sctp_reassembly.proofs.sorted_skips.entries_in.Goals as goal

pub returns : goal.returns
returns c =
    let given : c.in_ok-part.part.items ≡ c.args.entries.now = search rules in
    c.shrink_to_fit.ensures.items ∙ (filter_same _ (λ e. is_part c.args.named c.args.ids.now (skipped_id e)) _ (λ x b f' k. search rules) c.in_ok-part.part.items c.retain.new.self.items c.retain.ensures.filtered
    ∙ ap (entries_in c.args.named c.args.ids.now) given)
