use Rattle.std.proofs.Common.{sym, ap, ◌∙◌}
use Rattle.sctp_rx.specs.SeenSteps.{last_entry}
use Rattle.sctp_rx.proofs.SeenPlacesLemmas.{last_entry_end}
use Rattle.sctp_rx.proofs.data_tracker.seen.run_at.Goals as goal

pub returns-in-Some : goal.returns-in-Some
returns-in-Some c =
    let last = last_entry_end c.next_back.new.self (c.in-Some.first.now, c.in-Some.last.now) in
    sym (ap last_entry (sym (c.range.ensures.between tt) ∙ c.in-Some.ensures.steps) ∙ last)
