use Rattle.std.proofs.Common.{arith}
use Rattle.sctp_fragments.specs.Interval.{held_of}
use Rattle.sctp_fragments.proofs.PlaceLemmas.{bytes_step}
use Rattle.sctp_fragments.proofs.interval.reading.with_bytes.Goals as goal

pub overflow_add-bytes : goal.overflow_add-bytes
overflow_add-bytes g c =
    let s = bytes_step (held_of g.K.ReassemblyKey.number g.K.ReassemblyKey.index) c.args.entries.now.items c.loop-index.index c.index.result.now (omega (arith, c.loop-index-test.true, c.len-index-end.ensures, c.args.entries.now.ok.0)) c.index.ensures in
    omega (arith, s, c.loop-index.invariant, c.requires, c.len-bytes.ensures)

pub loop-index-preserved : goal.loop-index-preserved
loop-index-preserved g c =
    let s = bytes_step (held_of g.K.ReassemblyKey.number g.K.ReassemblyKey.index) c.args.entries.now.items c.loop-index.index c.index.result.now (omega (arith, c.loop-index-test.true, c.len-index-end.ensures, c.args.entries.now.ok.0)) c.index.ensures in
    omega (arith, s, c.loop-index.invariant, c.len-bytes.ensures)
