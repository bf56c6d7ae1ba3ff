use Rattle.std.proofs.Common.{ap, arith, length}
use Rattle.sctp_fragments.specs.Held.{bytes_of}
use Rattle.sctp_reassembly.specs.ReassemblyStreams.{bytes_held, fragments_held}
use Rattle.sctp_reassembly.proofs.ForgetLemmas.{takes_one, takes_all, sum_removed, sum_absent}
use Rattle.sctp_reassembly.proofs.stream_map.remove_each.Goals.{in-Some, in_default}
use Rattle.sctp_reassembly.proofs.stream_map.remove_each.Goals as goal

pub overflow_sub-bytes : goal.overflow_sub-bytes
overflow_sub-bytes g c =
    let sums = sum_removed (λ s. bytes_of (g.S.ReassemblyStream.held s)) _ c.loop-id.streams.entries c.in-Some.stream c.in-Some.ensures.value in
    omega (arith, sums, c.queued_bytes.ensures, c.loop-id.invariant.counted.bytes_are)

pub overflow_sub-fragments : goal.overflow_sub-fragments
overflow_sub-fragments g c =
    let sums = sum_removed (λ s. length (g.S.ReassemblyStream.held s)) _ c.loop-id.streams.entries c.in-Some.stream c.in-Some.ensures.value in
    omega (arith, sums, c.held_fragments.ensures, c.loop-id.invariant.counted.fragments_are)

pub loop-id-preserved : goal.loop-id-preserved
loop-id-preserved g c =
    let made_bytes = ap (bytes_held g.S.ReassemblyStream.held) c.remove.ensures.entries in
    let made_fragments = ap (fragments_held g.S.ReassemblyStream.held) c.remove.ensures.entries in
    record {
      streams = takes_one c.args.ids.now c.loop-id.id-index _ c.loop-id.streams.entries c.remove.new.self.entries c.args.streams.now.entries c.loop-id-test.true c.loop-id.invariant.ordered c.remove.ensures.entries c.loop-id.invariant.streams;
      counted = record {
        bytes_are = elim c.match-remove.branch [
          | in-Some w ↦ omega (arith, made_bytes, sum_removed (λ s. bytes_of (g.S.ReassemblyStream.held s)) _ c.loop-id.streams.entries w.in-Some.stream w.in-Some.ensures.value, w.queued_bytes.ensures, c.loop-id.invariant.counted.bytes_are, w.bytes-is)
          | in_default w ↦ omega (arith, made_bytes, sum_absent (λ s. bytes_of (g.S.ReassemblyStream.held s)) _ c.loop-id.streams.entries w.in_default.ensures.value, c.loop-id.invariant.counted.bytes_are, w.bytes-is)
        ];
        fragments_are = elim c.match-remove.branch [
          | in-Some w ↦ omega (arith, made_fragments, sum_removed (λ s. length (g.S.ReassemblyStream.held s)) _ c.loop-id.streams.entries w.in-Some.stream w.in-Some.ensures.value, w.held_fragments.ensures, c.loop-id.invariant.counted.fragments_are, w.fragments-is)
          | in_default w ↦ omega (arith, made_fragments, sum_absent (λ s. length (g.S.ReassemblyStream.held s)) _ c.loop-id.streams.entries w.in_default.ensures.value, c.loop-id.invariant.counted.fragments_are, w.fragments-is)
        ];
      };
      ordered = c.remove.ensures.ordered;
    }

pub returns-clause-streams : goal.returns-clause-streams
returns-clause-streams g c = takes_all c.args.ids.now c.loop-id.id-index c.loop-id.streams.entries c.args.streams.now.entries (omega (arith, c.loop-id-test.false)) c.loop-id.invariant.streams
