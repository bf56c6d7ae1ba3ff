use Rattle.std.proofs.Common.{arith}
use Rattle.sctp_reassembly.proofs.ExtendsLemmas.{extends_both}
use Rattle.sctp_reassembly.proofs.InterruptedLemmas.{on_err}
use Rattle.sctp_reassembly.proofs.StandsLemmas.{streams_after, messages_after, skips_step, skips_end}
use Rattle.sctp_reassembly.proofs.reassembly_streams.ReassemblyStreams.skip_each.Goals as goal

pub loop-entry-preserved : goal.loop-entry-preserved
loop-entry-preserved c =
    let es = c.args.entries.now in
    let i = c.loop-entry.entry-index in
    let ss = c.loop-entry.self in
    let new = c.skip.new.self in
    let made = c.in_ok-skip.ensures.ok in
    let more = c.in_ok-skip.ensures.ready in
    record {
      streams = streams_after es i _ c.loop-entry-test.true ss c.loop-entry.ready new c.skip.new.ready made more _ c.loop-entry.invariant.streams;
      messages = messages_after es i _ c.loop-entry-test.true ss c.loop-entry.ready new c.skip.new.ready made more _ c.loop-entry.invariant.messages;
      part = skips_step es i _ c.loop-entry-test.true ss c.loop-entry.ready new c.skip.new.ready made more _ c.args.ready.now c.loop-entry.invariant.part;
      kept = extends_both _ _ _ c.loop-entry.invariant.kept c.skip.ensures.kept;
      bytes = omega (arith, c.skip.ensures.bytes, c.loop-entry.invariant.bytes);
      fragments = omega (arith, c.skip.ensures.fragments, c.loop-entry.invariant.fragments);
    }

pub returns-in_err-skip-clause-err : goal.returns-in_err-skip-clause-err
returns-in_err-skip-clause-err c =
    on_err c.from_residual.result
    (skips_end c.args.entries.now c.loop-entry.entry-index _ c.loop-entry-test.true c.loop-entry.self c.loop-entry.ready c.skip.new.self c.skip.new.ready _ c.args.ready.now c.loop-entry.invariant.part c.in_err-skip.ensures.err)
