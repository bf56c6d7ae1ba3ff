use Rattle.std.proofs.Common.{ap, sym, subst, ◌∙◌, arith, length}
use Rattle.sctp_fragments.specs.Held.{IsTaken, bytes_of, intervals_of}
use Rattle.sctp_fragments.specs.Interval.{held_of, run_of, lists_of, entries_of}
use Rattle.sctp_reassembly.specs.Places.{all_of}
use Rattle.sctp_reassembly.proofs.ListLemmas.{takes, intervals_flat}
use Rattle.sctp_reassembly.proofs.JoinedLemmas.{none_holds}
use Rattle.sctp_reassembly.proofs.TurnLemmas.{taken_indexed}
use Rattle.sctp_reassembly.proofs.CountLemmas.{counts_taken, run_length}
use Rattle.sctp_reassembly.proofs.interval_map.IntervalMap.pop_if_complete.Goals as goal

pub returns-in_err-interval-clause-incomplete : goal.returns-in_err-interval-clause-incomplete
returns-in_err-interval-clause-incomplete g c =
    none_holds c.from_residual.result _ (λ front back r at here.
    c.in_err-interval.ensures.incomplete front back r (sym (intervals_flat (lists_of (held_of g.K.ReassemblyKey.number g.K.ReassemblyKey.index) (all_of c.self.inside.first c.self.inside.later.entries)) c.self.invariant.kept.runs) ∙ (ap intervals_of c.self.view_is ∙ at)) here)

pub total_bytes-requires : goal.total_bytes-requires
total_bytes-requires g c =
    let t = takes (lists_of (held_of g.K.ReassemblyKey.number g.K.ReassemblyKey.index) (all_of c.self.inside.first c.self.inside.later.entries)) (lists_of (held_of g.K.ReassemblyKey.number g.K.ReassemblyKey.index) (all_of c.take_if_complete.new.first c.take_if_complete.new.later.entries)) (run_of (held_of g.K.ReassemblyKey.number g.K.ReassemblyKey.index) c.in_ok-interval.interval) c.self.invariant.kept.runs c.in_ok-interval.ensures.taken c.in_ok-interval.ensures.complete in
    omega (arith, t.bytes, c.self.invariant.kept.counted, c.self.ranges)

pub overflow_sub-self : goal.overflow_sub-self
overflow_sub-self g c =
    let t = takes (lists_of (held_of g.K.ReassemblyKey.number g.K.ReassemblyKey.index) (all_of c.self.inside.first c.self.inside.later.entries)) (lists_of (held_of g.K.ReassemblyKey.number g.K.ReassemblyKey.index) (all_of c.take_if_complete.new.first c.take_if_complete.new.later.entries)) (run_of (held_of g.K.ReassemblyKey.number g.K.ReassemblyKey.index) c.in_ok-interval.interval) c.self.invariant.kept.runs c.in_ok-interval.ensures.taken c.in_ok-interval.ensures.complete in
    omega (arith, t.bytes, c.self.invariant.kept.counted, c.total_bytes.ensures)

pub len-requires : goal.len-requires
len-requires g c =
    let t = takes (lists_of (held_of g.K.ReassemblyKey.number g.K.ReassemblyKey.index) (all_of c.self.inside.first c.self.inside.later.entries)) (lists_of (held_of g.K.ReassemblyKey.number g.K.ReassemblyKey.index) (all_of c.take_if_complete.new.first c.take_if_complete.new.later.entries)) (run_of (held_of g.K.ReassemblyKey.number g.K.ReassemblyKey.index) c.in_ok-interval.interval) c.self.invariant.kept.runs c.in_ok-interval.ensures.taken c.in_ok-interval.ensures.complete in
    omega (arith, counts_taken _ _ _ t.taken, c.self.invariant.counted, c.self.ranges, run_length (held_of g.K.ReassemblyKey.number g.K.ReassemblyKey.index) c.in_ok-interval.interval)

pub overflow_sub-self-2 : goal.overflow_sub-self-2
overflow_sub-self-2 g c =
    let t = takes (lists_of (held_of g.K.ReassemblyKey.number g.K.ReassemblyKey.index) (all_of c.self.inside.first c.self.inside.later.entries)) (lists_of (held_of g.K.ReassemblyKey.number g.K.ReassemblyKey.index) (all_of c.take_if_complete.new.first c.take_if_complete.new.later.entries)) (run_of (held_of g.K.ReassemblyKey.number g.K.ReassemblyKey.index) c.in_ok-interval.interval) c.self.invariant.kept.runs c.in_ok-interval.ensures.taken c.in_ok-interval.ensures.complete in
    omega (arith, counts_taken _ _ _ t.taken, c.self.invariant.counted, c.len.ensures, run_length (held_of g.K.ReassemblyKey.number g.K.ReassemblyKey.index) c.in_ok-interval.interval)

pub invariant_of-self-2 : goal.invariant_of-self-2
invariant_of-self-2 g c =
    let t = takes (lists_of (held_of g.K.ReassemblyKey.number g.K.ReassemblyKey.index) (all_of c.self.inside.first c.self.inside.later.entries)) (lists_of (held_of g.K.ReassemblyKey.number g.K.ReassemblyKey.index) (all_of c.take_if_complete.new.first c.take_if_complete.new.later.entries)) (run_of (held_of g.K.ReassemblyKey.number g.K.ReassemblyKey.index) c.in_ok-interval.interval) c.self.invariant.kept.runs c.in_ok-interval.ensures.taken c.in_ok-interval.ensures.complete in
    record {
      kept = record {
        runs = t.runs;
        named = c.take_if_complete.ensures.named;
        led = c.take_if_complete.ensures.led;
        counted = omega (arith, t.bytes, c.self.invariant.kept.counted, c.total_bytes.ensures);
        small = taken_indexed _ _ _ t.taken c.self.invariant.kept.small;
      };
      counted = omega (arith, c.self.invariant.counted, counts_taken _ _ _ t.taken, c.len.ensures, run_length (held_of g.K.ReassemblyKey.number g.K.ReassemblyKey.index) c.in_ok-interval.interval);
    }

pub returns-clause-taken : goal.returns-clause-taken
returns-clause-taken g c =
    let t = takes (lists_of (held_of g.K.ReassemblyKey.number g.K.ReassemblyKey.index) (all_of c.self.inside.first c.self.inside.later.entries)) (lists_of (held_of g.K.ReassemblyKey.number g.K.ReassemblyKey.index) (all_of c.take_if_complete.new.first c.take_if_complete.new.later.entries)) (run_of (held_of g.K.ReassemblyKey.number g.K.ReassemblyKey.index) c.in_ok-interval.interval) c.self.invariant.kept.runs c.in_ok-interval.ensures.taken c.in_ok-interval.ensures.complete in
    subst (λ v. IsTaken v (run_of (held_of g.K.ReassemblyKey.number g.K.ReassemblyKey.index) c.in_ok-interval.interval) (entries_of (held_of g.K.ReassemblyKey.number g.K.ReassemblyKey.index) (all_of c.take_if_complete.new.first c.take_if_complete.new.later.entries))) c.self.view_is t.taken

pub returns-clause-bytes : goal.returns-clause-bytes
returns-clause-bytes g c =
    let t = takes (lists_of (held_of g.K.ReassemblyKey.number g.K.ReassemblyKey.index) (all_of c.self.inside.first c.self.inside.later.entries)) (lists_of (held_of g.K.ReassemblyKey.number g.K.ReassemblyKey.index) (all_of c.take_if_complete.new.first c.take_if_complete.new.later.entries)) (run_of (held_of g.K.ReassemblyKey.number g.K.ReassemblyKey.index) c.in_ok-interval.interval) c.self.invariant.kept.runs c.in_ok-interval.ensures.taken c.in_ok-interval.ensures.complete in
    omega (arith, t.bytes, ap bytes_of c.self.view_is)

pub returns-clause-fragments : goal.returns-clause-fragments
returns-clause-fragments g c =
    let t = takes (lists_of (held_of g.K.ReassemblyKey.number g.K.ReassemblyKey.index) (all_of c.self.inside.first c.self.inside.later.entries)) (lists_of (held_of g.K.ReassemblyKey.number g.K.ReassemblyKey.index) (all_of c.take_if_complete.new.first c.take_if_complete.new.later.entries)) (run_of (held_of g.K.ReassemblyKey.number g.K.ReassemblyKey.index) c.in_ok-interval.interval) c.self.invariant.kept.runs c.in_ok-interval.ensures.taken c.in_ok-interval.ensures.complete in
    omega (arith, counts_taken _ _ _ t.taken, ap length c.self.view_is)
