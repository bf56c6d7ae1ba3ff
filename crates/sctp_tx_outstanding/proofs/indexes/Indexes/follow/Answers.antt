use Rattle.std.proofs.Common.{◌≡◌, ◌<◌, ◌^◌, List, ap, subst, sym, length, arith}
use Rattle.sctp_tx_outstanding.specs.Item.{Item}
use Rattle.sctp_tx_outstanding.specs.Change.{apply_change}
use Rattle.sctp_tx_outstanding.specs.OutstandingData.{change_at}
use Rattle.sctp_tx_outstanding.specs.LastBlocks.{Knows}
use Rattle.sctp_tx_outstanding.specs.Messages.{Finds}
use Rattle.sctp_tx_outstanding.specs.Expiries.{Expects}
use Rattle.sctp_tx_outstanding.specs.Passed.{IsPassed}
use Rattle.sctp_tx_outstanding.specs.Runs.{HasRuns, SameBut}
use Rattle.sctp_tx_outstanding.specs.Totals.{replace_part, AreTotals}
use Rattle.sctp_tx_outstanding.proofs.TotalsLemmas.{totals_changed, totals_as, length_change, has_part}
use Rattle.sctp_tx_outstanding.proofs.MessagesLemmas.{finds_changed}
use Rattle.sctp_tx_outstanding.proofs.ExpiriesLemmas.{moves_changed}
use Rattle.sctp_tx_outstanding.proofs.PassedLemmas.{passed_changed}
use Rattle.sctp_tx_outstanding.proofs.RunsLemmas.{same_changed, runs_still}
use Rattle.sctp_tx_outstanding.proofs.indexes.Indexes.follow.Goals as goal

pub returns-then-stays_listed : goal.returns-then-stays_listed
returns-then-stays_listed c = λ m is changed parts before.
    let how = c.args.how in
    let k = c.args.place in
    let old = c.args.parts.0 in
    let new = c.args.parts.1 in
    let all = c.args.items.now.items in
    let js = change_at k (apply_change how) is in
    let yes = c.if-stays_listed.true in
    let flights : old.flights ≡ new.flights = c.stays_listed.ensures.flights yes in
    let queued : old.queued ≡ new.queued = c.stays_listed.ensures.queued yes in
    let fast : old.fast ≡ new.fast = c.stays_listed.ensures.fast yes in
    let few : length is < 2 ^ 64 = omega (arith, ap (λ (xs : List Item). length xs) changed, length_change k (apply_change how) is) in
    let totals = c.args.self.now.totals in
    let same : totals ≡ replace_part old new totals = c.stays_listed.ensures.totals yes (has_part m k how is old new totals before.totals parts) in
    record {
      totals = totals_as m js all (replace_part old new totals) totals (totals_changed m k how is old new totals before.totals few parts) changed same;
      last_blocks = subst (λ (xs : List Item). Knows c.see.new.self xs) (sym changed) (c.see.ensures k is before.last_blocks);
      runs = subst (λ (xs : List Item). HasRuns c.args.self.now.runs xs) (sym changed) (runs_still m how old new queued fast k is parts c.args.self.now.runs (λ none. omega (arith, flights)) before.runs);
      messages = subst (λ (xs : List Item). Finds c.args.self.now.messages xs) (sym changed) (finds_changed c.args.self.now.messages how k is before.messages);
      expiries = subst (λ (xs : List Item). Expects c.renew.new.self xs) (sym changed) (c.renew.ensures is js (moves_changed m how k is old new parts) before.expiries);
      passed = subst (λ (xs : List Item). IsPassed m xs c.args.self.now.passed) (sym changed)
          (passed_changed how m k is c.args.self.now.passed.count c.args.self.now.passed.left c.args.self.now.passed.touched.items before.passed);
    }

pub returns-then-stays_in_runs : goal.returns-then-stays_in_runs
returns-then-stays_in_runs c = λ m is changed parts before.
    let how = c.args.how in
    let k = c.args.place in
    let old = c.args.parts.0 in
    let new = c.args.parts.1 in
    let all = c.args.items.now.items in
    let js = change_at k (apply_change how) is in
    let yes = c.if-stays_in_runs.true in
    let queued : old.queued ≡ new.queued = c.stays_in_runs.ensures.queued yes in
    let fast : old.fast ≡ new.fast = c.stays_in_runs.ensures.fast yes in
    let few : length is < 2 ^ 64 = omega (arith, ap (λ (xs : List Item). length xs) changed, length_change k (apply_change how) is) in
    record {
      totals = totals_as m js all (replace_part old new c.args.self.now.totals) c.exchanged-self.result (totals_changed m k how is old new c.args.self.now.totals before.totals few parts) changed (c.exchanged-self.ensures (has_part m k how is old new c.args.self.now.totals before.totals parts));
      last_blocks = subst (λ (xs : List Item). Knows c.see.new.self xs) (sym changed) (c.see.ensures k is before.last_blocks);
      runs = subst (λ (xs : List Item). HasRuns c.args.self.now.runs xs) (sym changed) (runs_still m how old new queued fast k is parts c.args.self.now.runs (c.stays_in_runs.ensures.flights yes) before.runs);
      messages = subst (λ (xs : List Item). Finds c.args.self.now.messages xs) (sym changed) (finds_changed c.args.self.now.messages how k is before.messages);
      expiries = subst (λ (xs : List Item). Expects c.renew.new.self xs) (sym changed) (c.renew.ensures is js (moves_changed m how k is old new parts) before.expiries);
      passed = subst (λ (xs : List Item). IsPassed m xs c.args.self.now.passed) (sym changed)
          (passed_changed how m k is c.args.self.now.passed.count c.args.self.now.passed.left c.args.self.now.passed.touched.items before.passed);
    }

pub returns : goal.returns
returns c = λ m is changed parts before.
    let how = c.args.how in
    let k = c.args.place in
    let old = c.args.parts.0 in
    let new = c.args.parts.1 in
    let all = c.args.items.now.items in
    let js = change_at k (apply_change how) is in
    let few : length is < 2 ^ 64 = omega (arith, ap (λ (xs : List Item). length xs) changed, length_change k (apply_change how) is) in
    let totals : AreTotals m all c.exchanged-self.result =
    totals_as m js all (replace_part old new c.args.self.now.totals) c.exchanged-self.result (totals_changed m k how is old new c.args.self.now.totals before.totals few parts) changed (c.exchanged-self.ensures (has_part m k how is old new c.args.self.now.totals before.totals parts)) in
    let same : SameBut k is all = subst (λ (xs : List Item). SameBut k is xs) (sym changed) (same_changed (apply_change how) k is) in
    record {
      totals = totals;
      last_blocks = subst (λ (xs : List Item). Knows c.see.new.self xs) (sym changed) (c.see.ensures k is before.last_blocks);
      runs = c.see-2.ensures is same totals.queued before.runs;
      messages = subst (λ (xs : List Item). Finds c.args.self.now.messages xs) (sym changed) (finds_changed c.args.self.now.messages how k is before.messages);
      expiries = subst (λ (xs : List Item). Expects c.renew.new.self xs) (sym changed) (c.renew.ensures is js (moves_changed m how k is old new parts) before.expiries);
      passed = subst (λ (xs : List Item). IsPassed m xs c.args.self.now.passed) (sym changed)
          (passed_changed how m k is c.args.self.now.passed.count c.args.self.now.passed.left c.args.self.now.passed.touched.items before.passed);
    }
