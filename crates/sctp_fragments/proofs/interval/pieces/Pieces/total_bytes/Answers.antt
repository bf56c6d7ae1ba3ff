use Rattle.std.proofs.Common.{◌+◌, arith, ap, ◌∙◌, map, drop}
use Rattle.sctp_fragments.specs.Runs.{flat}
use Rattle.sctp_fragments.specs.Held.{bytes_of}
use Rattle.sctp_fragments.specs.Interval.{held_of}
use Rattle.sctp_fragments.proofs.PieceLemmas.{flat_step, bytes_append, bytes_all}
use Rattle.sctp_fragments.proofs.interval.pieces.Pieces.total_bytes.Goals as goal

pub with_bytes-bytes-requires : goal.with_bytes-bytes-requires
with_bytes-bytes-requires g c =
    let h = held_of g.K.ReassemblyKey.number g.K.ReassemblyKey.index in
    let p = c.args.self.now in
    omega (arith, bytes_all h p.first.items (flat (map (λ d. d.items) p.middle.items)) p.last.items, c.requires)

pub loop-index-init : goal.loop-index-init
loop-index-init g c =
    let h = held_of g.K.ReassemblyKey.number g.K.ReassemblyKey.index in
    let p = c.args.self.now in
    omega (arith, bytes_all h p.first.items (flat (map (λ d. d.items) p.middle.items)) p.last.items, c.with_bytes-bytes.ensures)

pub with_bytes-bytes-requires-in-loop-index : goal.with_bytes-bytes-requires-in-loop-index
with_bytes-bytes-requires-in-loop-index g c =
    let h = held_of g.K.ReassemblyKey.number g.K.ReassemblyKey.index in
    let middle = c.args.self.now.middle in
    let piece = c.index.result.now in
    let s = ap (λ t. bytes_of (map h t)) (flat_step (λ d. d.items) middle.items c.loop-index.index piece (omega (arith, c.loop-index-test.true, c.len-index-end.ensures, middle.ok.0)) c.index.ensures)
    ∙ bytes_append h piece.items (flat (drop (c.loop-index.index + 1) (map (λ d. d.items) middle.items))) in
    omega (arith, s, c.loop-index.invariant, c.requires)

pub loop-index-preserved : goal.loop-index-preserved
loop-index-preserved g c =
    let h = held_of g.K.ReassemblyKey.number g.K.ReassemblyKey.index in
    let middle = c.args.self.now.middle in
    let piece = c.index.result.now in
    let s = ap (λ t. bytes_of (map h t)) (flat_step (λ d. d.items) middle.items c.loop-index.index piece (omega (arith, c.loop-index-test.true, c.len-index-end.ensures, middle.ok.0)) c.index.ensures)
    ∙ bytes_append h piece.items (flat (drop (c.loop-index.index + 1) (map (λ d. d.items) middle.items))) in
    omega (arith, s, c.loop-index.invariant, c.with_bytes-bytes-in-loop-index.ensures)
