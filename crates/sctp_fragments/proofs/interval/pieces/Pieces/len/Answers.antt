use Rattle.std.proofs.Common.{◌+◌, arith, ap, ◌∙◌, length, length-append, map, drop}
use Rattle.sctp_fragments.specs.Runs.{flat}
use Rattle.sctp_fragments.proofs.PieceLemmas.{flat_step}
use Rattle.sctp_fragments.proofs.interval.pieces.Pieces.len.Goals as goal

pub overflow_add-count-in-loop-index : goal.overflow_add-count-in-loop-index
overflow_add-count-in-loop-index g c =
    let middle = c.args.self.now.middle in
    let piece = c.index.result.now in
    let s = ap length (flat_step (λ d. d.items) middle.items c.loop-index.index piece (omega (arith, c.loop-index-test.true, c.len-index-end.ensures, middle.ok.0)) c.index.ensures)
    ∙ length-append piece.items (flat (drop (c.loop-index.index + 1) (map (λ d. d.items) middle.items))) in
    omega (arith, s, c.loop-index.invariant, c.requires, c.len-count.ensures, piece.ok.0)

pub loop-index-preserved : goal.loop-index-preserved
loop-index-preserved g c =
    let middle = c.args.self.now.middle in
    let piece = c.index.result.now in
    let s = ap length (flat_step (λ d. d.items) middle.items c.loop-index.index piece (omega (arith, c.loop-index-test.true, c.len-index-end.ensures, middle.ok.0)) c.index.ensures)
    ∙ length-append piece.items (flat (drop (c.loop-index.index + 1) (map (λ d. d.items) middle.items))) in
    omega (arith, s, c.loop-index.invariant, c.len-count.ensures, piece.ok.0)
