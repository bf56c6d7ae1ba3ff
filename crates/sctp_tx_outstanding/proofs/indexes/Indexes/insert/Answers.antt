use Rattle.std.proofs.Common.{◌<◌, ◌^◌, ◌≡◌, ◌≤◌, ◌+◌, ◌-◌, ◌∷◌, ◌++◌, [], List, ap, sym, subst, ◌∙◌, length, take, rules, arith, refl}
use Rattle.std.specs.List.{sum_by}
use Rattle.std.proofs.lemmas.List.{take_all, take_more, length-take-le}
use Rattle.sctp_tx_outstanding.specs.declared.totals.Totals.{Totals}
use Rattle.sctp_tx_outstanding.specs.Item.{Item}
use Rattle.sctp_tx_outstanding.specs.Indexes.{AreIndexes}
use Rattle.sctp_tx_outstanding.specs.OutstandingData.{queued_part}
use Rattle.sctp_tx_outstanding.specs.Totals.{AreTotals, replace_part, nothing, parts}
use Rattle.sctp_tx_outstanding.proofs.TotalsLemmas.{totals_pushed, totals_as}
use Rattle.sctp_tx_outstanding.specs.Runs.{SameBut, HasRuns}
use Rattle.sctp_tx_outstanding.proofs.ExpiriesLemmas.{gains_pushed}
use Rattle.sctp_tx_outstanding.proofs.PassedLemmas.{passed_before}
use Rattle.sctp_tx_outstanding.proofs.RunsLemmas.{same_pushed}
use Rattle.sctp_tx_outstanding.proofs.indexes.Indexes.insert.Goals as goal

pub returns-in_default : goal.returns-in_default
returns-in_default c =
    let items = c.args.items.now.items in
    let none : length items ≤ c.saturating_sub-place.result = search rules in
    let len : c.len.result ≡ length items = search rules in
    subst (λ (js : List Item). AreIndexes c.args.is_interleaved js c.args.self.now) (take_all (length items - 1) items (omega (arith, none, len, c.saturating_sub-place.ensures))) c.requires

pub returns : goal.returns
returns c =
    let m = c.args.is_interleaved in
    let items = c.args.items.now.items in
    let old = c.args.self.now in
    let i = c.in-Some.item.now in
    let place = c.saturating_sub-place.result in
    let is = take place items in
    let len : c.len.result ≡ length items = search rules in
    let within : place < length items = search rules in
    let last : place ≡ length items - 1 = omega (arith, len, c.saturating_sub-place.ensures) in
    let before : AreIndexes m is old = subst (λ n. AreIndexes m (take n items) old) (sym last) c.requires in
    let all : items ≡ is ++ i ∷ [] =
    sym (take_all (place + 1) items (omega (arith, last))) ∙ (take_more items place i within ∙ ap (λ j. is ++ j ∷ []) (sym c.in-Some.ensures.lookup)) in
    let count : length is ≡ place = length-take-le place items (omega (arith, within)) in
    let few : length (is ++ i ∷ []) < 2 ^ 64 = omega (arith, len, ap (λ (js : List Item). length js) all) in
    let same : SameBut place is (is ++ i ∷ []) = same_pushed is i place count in
    let exchanged : c.with_part-self.result ≡ replace_part nothing (parts m i) old.totals =
    c.with_part-self.ensures ∙ ap (λ (t : Totals). replace_part nothing t old.totals) c.of-part.ensures.parts in
    let totals : AreTotals m (is ++ i ∷ []) c.with_part-self.result =
    totals_as m (is ++ i ∷ []) (is ++ i ∷ []) (replace_part nothing (parts m i) old.totals) c.with_part-self.result (totals_pushed m is i old.totals before.totals few c.of-part.ensures.small) refl exchanged in
    subst (λ (js : List Item). AreIndexes m js (record { totals = c.with_part-self.result; last_blocks = c.take.new.self; runs = c.see.new.self; messages = c.add.new.self; expiries = c.list.new.self; passed = old.passed })) (sym all)
    (record {
      totals = totals;
      last_blocks = c.take.ensures is i (sym c.is_acked.ensures) before.last_blocks;
      runs = subst (λ (js : List Item). HasRuns c.see.new.self js) all (c.see.ensures is (subst (λ (js : List Item). SameBut place is js) (sym all) same) (subst (λ (js : List Item). c.with_part-self.result.queued ≡ sum_by queued_part js) (sym all) totals.queued) (c.begin.ensures is count before.runs));
      messages = c.add.ensures is i count (sym c.message_id.ensures) before.messages;
      expiries = c.list.ensures is (is ++ i ∷ []) (gains_pushed place c.deadline.result is i count c.deadline.ensures) before.expiries;
      passed = passed_before m is (i ∷ []) old.passed.count old.passed.left old.passed.touched.items before.passed;
    })
