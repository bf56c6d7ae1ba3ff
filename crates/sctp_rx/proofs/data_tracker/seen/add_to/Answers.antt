use Rattle.std.proofs.Common.{◌≡◌, ◌+◌, true, false, sym, ap, ◌∙◌, arith}
use Rattle.std.specs.Map.{remove_entry}
use Rattle.std.specs.Ordering.{nat_cmp}
use Rattle.std.specs.BTreeMap.{is_at}
use Rattle.sctp_rx.specs.SeenSteps.{run_at, is_held, first_with}
use Rattle.sctp_rx.proofs.SeenPlacesLemmas.{adds_held, adds_written, written_joined, written_put}
use Rattle.sctp_rx.proofs.data_tracker.seen.add_to.Goals as goal

pub returns-then-is_held-clause-ok : goal.returns-then-is_held-clause-ok
returns-then-is_held-clause-ok c =
    let n = c.args.number in
    let held : is_held n (run_at n c.args.runs.now.entries) ≡ true = ap (is_held n) (sym c.run_at-run.ensures) ∙ (sym c.is_held.ensures ∙ c.if-is_held.true) in
    adds_held n c.args.runs.now.entries c.requires.runs held

pub returns-then-number-last-clause-ok : goal.returns-then-number-last-clause-ok
returns-then-number-last-clause-ok c =
    let n = c.args.number in
    let es = c.args.runs.now.entries in
    let f = c.first_with.result in
    let l = c.last_with-last.result in
    let free : is_held n (run_at n es) ≡ false = ap (is_held n) (sym c.run_at-run.ensures) ∙ (sym c.is_held.ensures ∙ c.if-is_held.false) in
    let first = c.first_with.ensures ∙ ap (first_with n) c.run_at-run.ensures in
    let new = c.remove.ensures.entries ∙ (ap (λ z. remove_entry (is_at (nat_cmp (n + 1))) z) c.in_ok-insert.ensures.entries ∙ sym (written_joined n f l es (omega arith))) in
    adds_written n f l es c.remove.new.self.entries c.requires.runs free first c.last_with-last.ensures new

pub returns-else-number-last-clause-ok : goal.returns-else-number-last-clause-ok
returns-else-number-last-clause-ok c =
    let n = c.args.number in
    let es = c.args.runs.now.entries in
    let f = c.first_with.result in
    let l = c.last_with-last.result in
    let free : is_held n (run_at n es) ≡ false = ap (is_held n) (sym c.run_at-run.ensures) ∙ (sym c.is_held.ensures ∙ c.if-is_held.false) in
    let first = c.first_with.ensures ∙ ap (first_with n) c.run_at-run.ensures in
    let new = c.in_ok-insert.ensures.entries ∙ sym (written_put n f l es (omega arith)) in
    adds_written n f l es c.insert.new.self.entries c.requires.runs free first c.last_with-last.ensures new
