use Rattle.std.proofs.Common.{◌≡◌, ◌-◌, ◌<◌, ◌∷◌, suc, ap, ◌∙◌, drop, length, slice_index_or, arith}
use Rattle.std.proofs.Math.Seq.{drop-cons}
use Rattle.sctp_chunk.specs.declared.sack.GapAckBlock.{GapAckBlock}
use Rattle.sctp_tx_outstanding.proofs.SackLemmas.{alike_next}
use Rattle.sctp_tx_outstanding.proofs.stretches.border.Goals as goal

pub loop-left-preserved : goal.loop-left-preserved
loop-left-preserved c =
    let bs = c.args.blocks.now in
    let k = c.loop-left.left - 1 in
    let b : GapAckBlock = slice_index_or bs k (record { start = 0; end = 0 }) in
    let before = c.loop-left.invariant in
    let least = c.min-next.ensures in
    let within : k < length bs = omega (arith, before.within) in
    let one : suc k ≡ c.loop-left.left = omega arith in
    let is : drop k bs ≡ b ∷ drop c.loop-left.left bs = drop-cons bs k (record { start = 0; end = 0 }) within ∙ ap (λ n. b ∷ drop n bs) one in
    record {
      within = omega (arith, before.within);
      onward = omega (arith, least, before.onward, c.border_of.ensures.onward);
      alike = λ p le less. alike_next b (drop c.loop-left.left bs) (drop k bs) c.args.place c.loop-left.next c.border_of.result is c.border_of.ensures.alike before.alike p le (omega (arith, less, least));
    }
