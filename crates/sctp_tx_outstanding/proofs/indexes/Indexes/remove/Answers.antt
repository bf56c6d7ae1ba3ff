use Rattle.std.proofs.Common.{◌<◌, ◌^◌, ◌∷◌, ap, ◌∙◌, length, refl, arith}
use Rattle.sctp_tx_outstanding.specs.declared.totals.Totals.{Totals}
use Rattle.sctp_tx_outstanding.specs.Totals.{replace_part, nothing, parts}
use Rattle.sctp_tx_outstanding.proofs.TotalsLemmas.{totals_popped, totals_as}
use Rattle.sctp_tx_outstanding.proofs.indexes.Indexes.remove.Goals as goal

pub returns : goal.returns
returns c =
    let m = c.args.is_interleaved in
    let i = c.args.item.now in
    let is = c.args.others.now.items in
    let old = c.args.self.now in
    let few : length is < 2 ^ 64 = omega arith in
    record {
      totals = totals_as m is is (replace_part (parts m i) nothing old.totals) c.without_part-self.result (totals_popped m i is old.totals c.requires.totals few)
          refl (c.without_part-self.ensures ∙ ap (λ (t : Totals). replace_part t nothing old.totals) c.of-part.ensures.parts);
      last_blocks = c.pass.ensures (i ∷ is) c.requires.last_blocks;
      runs = c.pass-2.ensures i is c.requires.runs;
      messages = c.leave.ensures i is c.requires.messages;
      expiries = c.leave-2.ensures i is c.requires.expiries;
      passed = c.leave-3.ensures m i is c.requires.passed;
    }
