use Rattle.std.proofs.Common.{◌+◌, ◌++◌, arith, ap, sym, ◌∙◌, map, drop, append_assoc}
use Rattle.sctp_fragments.specs.Runs.{flat}
use Rattle.sctp_fragments.specs.Held.{payload_of}
use Rattle.sctp_fragments.specs.Interval.{held_of}
use Rattle.sctp_fragments.proofs.PieceLemmas.{flat_step, payload_append, payload_all, payload_on}
use Rattle.sctp_fragments.proofs.interval.pieces.Pieces.put_payloads.Goals as goal

pub loop-index-init : goal.loop-index-init
loop-index-init g c =
    let h = held_of g.K.ReassemblyKey.number g.K.ReassemblyKey.index in
    let p = c.args.self.now in
    payload_all h p.first.items (flat (map (λ d. d.items) p.middle.items)) p.last.items c.args.payload.now.items c.put_payloads.new.payload.items c.in_ok-put_payloads.ensures

pub loop-index-preserved : goal.loop-index-preserved
loop-index-preserved g c =
    let h = held_of g.K.ReassemblyKey.number g.K.ReassemblyKey.index in
    let middle = c.args.self.now.middle in
    let piece = c.index.result.now in
    let s = ap (λ t. payload_of (map h t)) (flat_step (λ d. d.items) middle.items c.loop-index.index piece (omega (arith, c.loop-index-test.true, c.len-index-end.ensures, middle.ok.0)) c.index.ensures)
    ∙ payload_append h piece.items (flat (drop (c.loop-index.index + 1) (map (λ d. d.items) middle.items))) in
    payload_on c.loop-index.payload.items (payload_of (map h piece.items)) (payload_of (map h (flat (drop (c.loop-index.index + 1) (map (λ d. d.items) middle.items))))) (payload_of (map h c.args.self.now.last.items)) _ _ _ s c.in_ok-put_payloads-2.ensures c.loop-index.invariant
