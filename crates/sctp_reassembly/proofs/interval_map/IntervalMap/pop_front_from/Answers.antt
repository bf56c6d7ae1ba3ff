use Rattle.std.proofs.Common.{◌≡◌, None, ap, sym, subst, ◌∙◌, arith, rules, length}
use Rattle.std.specs.Prelude.{option_map}
use Rattle.sctp_fragments.specs.Runs.{flat}
use Rattle.std.specs.List.{find}
use Rattle.sctp_fragments.specs.Held.{is_in_turn, NoneInTurn, bytes_of, intervals_of, without_first_of, left_by}
use Rattle.sctp_fragments.specs.Interval.{held_of, run_of, lists_of}
use Rattle.sctp_fragments.specs.ReassemblyKey.{rank_at}
use Rattle.sctp_reassembly.specs.Places.{all_of}
use Rattle.sctp_reassembly.specs.Finished.{NoneEarlier}
use Rattle.sctp_reassembly.proofs.ListLemmas.{takes, turn_complete, intervals_flat}
use Rattle.sctp_reassembly.proofs.FindLemmas.{not_found, without_none, left_none}
use Rattle.sctp_reassembly.proofs.PopLemmas.{popped, popped_intervals, popped_left}
use Rattle.sctp_reassembly.proofs.TurnLemmas.{taken_indexed}
use Rattle.sctp_reassembly.proofs.CountLemmas.{counts_taken, run_length}
use Rattle.sctp_reassembly.proofs.interval_map.IntervalMap.pop_front_from.Goals as goal

pub take_in_turn-requires-clause-earlier : goal.take_in_turn-requires-clause-earlier
take_in_turn-requires-clause-earlier g c =
    let m = rank_at g.K.ReassemblyKey.number g.K.ReassemblyKey.index c.args.key in
    subst (NoneEarlier c.args.number m) (intervals_flat (lists_of (held_of g.K.ReassemblyKey.number g.K.ReassemblyKey.index) (all_of c.self.inside.first c.self.inside.later.entries)) c.self.invariant.kept.runs)
    (subst (λ hs. NoneEarlier c.args.number m (intervals_of hs)) (sym c.self.view_is) c.requires.earlier)

pub total_bytes-requires : goal.total_bytes-requires
total_bytes-requires g c =
    let t = takes (lists_of (held_of g.K.ReassemblyKey.number g.K.ReassemblyKey.index) (all_of c.self.inside.first c.self.inside.later.entries)) (lists_of (held_of g.K.ReassemblyKey.number g.K.ReassemblyKey.index) (all_of c.take_in_turn.new.first c.take_in_turn.new.later.entries)) (run_of (held_of g.K.ReassemblyKey.number g.K.ReassemblyKey.index) c.in_ok-interval.interval) c.self.invariant.kept.runs c.in_ok-interval.ensures.taken.out (turn_complete c.args.number (run_of (held_of g.K.ReassemblyKey.number g.K.ReassemblyKey.index) c.in_ok-interval.interval) c.in_ok-interval.ensures.taken.passes) in
    omega (arith, t.bytes, c.self.invariant.kept.counted, c.self.ranges)

pub overflow_sub-self : goal.overflow_sub-self
overflow_sub-self g c =
    let t = takes (lists_of (held_of g.K.ReassemblyKey.number g.K.ReassemblyKey.index) (all_of c.self.inside.first c.self.inside.later.entries)) (lists_of (held_of g.K.ReassemblyKey.number g.K.ReassemblyKey.index) (all_of c.take_in_turn.new.first c.take_in_turn.new.later.entries)) (run_of (held_of g.K.ReassemblyKey.number g.K.ReassemblyKey.index) c.in_ok-interval.interval) c.self.invariant.kept.runs c.in_ok-interval.ensures.taken.out (turn_complete c.args.number (run_of (held_of g.K.ReassemblyKey.number g.K.ReassemblyKey.index) c.in_ok-interval.interval) c.in_ok-interval.ensures.taken.passes) in
    omega (arith, t.bytes, c.self.invariant.kept.counted, c.total_bytes.ensures)

pub len-requires : goal.len-requires
len-requires g c =
    let t = takes (lists_of (held_of g.K.ReassemblyKey.number g.K.ReassemblyKey.index) (all_of c.self.inside.first c.self.inside.later.entries)) (lists_of (held_of g.K.ReassemblyKey.number g.K.ReassemblyKey.index) (all_of c.take_in_turn.new.first c.take_in_turn.new.later.entries)) (run_of (held_of g.K.ReassemblyKey.number g.K.ReassemblyKey.index) c.in_ok-interval.interval) c.self.invariant.kept.runs c.in_ok-interval.ensures.taken.out (turn_complete c.args.number (run_of (held_of g.K.ReassemblyKey.number g.K.ReassemblyKey.index) c.in_ok-interval.interval) c.in_ok-interval.ensures.taken.passes) in
    omega (arith, counts_taken _ _ _ t.taken, c.self.invariant.counted, c.self.ranges, run_length (held_of g.K.ReassemblyKey.number g.K.ReassemblyKey.index) c.in_ok-interval.interval)

pub overflow_sub-self-2 : goal.overflow_sub-self-2
overflow_sub-self-2 g c =
    let t = takes (lists_of (held_of g.K.ReassemblyKey.number g.K.ReassemblyKey.index) (all_of c.self.inside.first c.self.inside.later.entries)) (lists_of (held_of g.K.ReassemblyKey.number g.K.ReassemblyKey.index) (all_of c.take_in_turn.new.first c.take_in_turn.new.later.entries)) (run_of (held_of g.K.ReassemblyKey.number g.K.ReassemblyKey.index) c.in_ok-interval.interval) c.self.invariant.kept.runs c.in_ok-interval.ensures.taken.out (turn_complete c.args.number (run_of (held_of g.K.ReassemblyKey.number g.K.ReassemblyKey.index) c.in_ok-interval.interval) c.in_ok-interval.ensures.taken.passes) in
    omega (arith, counts_taken _ _ _ t.taken, c.self.invariant.counted, c.len.ensures, run_length (held_of g.K.ReassemblyKey.number g.K.ReassemblyKey.index) c.in_ok-interval.interval)

pub invariant_of-self-2 : goal.invariant_of-self-2
invariant_of-self-2 g c =
    let t = takes (lists_of (held_of g.K.ReassemblyKey.number g.K.ReassemblyKey.index) (all_of c.self.inside.first c.self.inside.later.entries)) (lists_of (held_of g.K.ReassemblyKey.number g.K.ReassemblyKey.index) (all_of c.take_in_turn.new.first c.take_in_turn.new.later.entries)) (run_of (held_of g.K.ReassemblyKey.number g.K.ReassemblyKey.index) c.in_ok-interval.interval) c.self.invariant.kept.runs c.in_ok-interval.ensures.taken.out (turn_complete c.args.number (run_of (held_of g.K.ReassemblyKey.number g.K.ReassemblyKey.index) c.in_ok-interval.interval) c.in_ok-interval.ensures.taken.passes) in
    record {
      kept = record {
        runs = t.runs;
        named = c.take_in_turn.ensures.named;
        led = c.take_in_turn.ensures.led;
        counted = omega (arith, t.bytes, c.self.invariant.kept.counted, c.total_bytes.ensures);
        small = taken_indexed _ _ _ t.taken c.self.invariant.kept.small;
      };
      counted = omega (arith, c.self.invariant.counted, counts_taken _ _ _ t.taken, c.len.ensures, run_length (held_of g.K.ReassemblyKey.number g.K.ReassemblyKey.index) c.in_ok-interval.interval);
    }

pub returns-clause-taken : goal.returns-clause-taken
returns-clause-taken g c = popped (is_in_turn c.args.number) (lists_of (held_of g.K.ReassemblyKey.number g.K.ReassemblyKey.index) (all_of c.self.inside.first c.self.inside.later.entries)) (lists_of (held_of g.K.ReassemblyKey.number g.K.ReassemblyKey.index) (all_of c.take_in_turn.new.first c.take_in_turn.new.later.entries)) (run_of (held_of g.K.ReassemblyKey.number g.K.ReassemblyKey.index) c.in_ok-interval.interval) c.self.invariant.kept.runs c.in_ok-interval.ensures.taken ∙ ap (λ v. find (is_in_turn c.args.number) (intervals_of v)) c.self.view_is

pub returns-clause-intervals : goal.returns-clause-intervals
returns-clause-intervals g c =
    popped_intervals (is_in_turn c.args.number) (lists_of (held_of g.K.ReassemblyKey.number g.K.ReassemblyKey.index) (all_of c.self.inside.first c.self.inside.later.entries)) (lists_of (held_of g.K.ReassemblyKey.number g.K.ReassemblyKey.index) (all_of c.take_in_turn.new.first c.take_in_turn.new.later.entries)) (run_of (held_of g.K.ReassemblyKey.number g.K.ReassemblyKey.index) c.in_ok-interval.interval) c.self.invariant.kept.runs c.in_ok-interval.ensures.taken (takes (lists_of (held_of g.K.ReassemblyKey.number g.K.ReassemblyKey.index) (all_of c.self.inside.first c.self.inside.later.entries)) (lists_of (held_of g.K.ReassemblyKey.number g.K.ReassemblyKey.index) (all_of c.take_in_turn.new.first c.take_in_turn.new.later.entries)) (run_of (held_of g.K.ReassemblyKey.number g.K.ReassemblyKey.index) c.in_ok-interval.interval) c.self.invariant.kept.runs c.in_ok-interval.ensures.taken.out (turn_complete c.args.number (run_of (held_of g.K.ReassemblyKey.number g.K.ReassemblyKey.index) c.in_ok-interval.interval) c.in_ok-interval.ensures.taken.passes)) ∙ ap (λ v. without_first_of (is_in_turn c.args.number) (intervals_of v)) c.self.view_is

pub returns-clause-value : goal.returns-clause-value
returns-clause-value g c = popped_left (is_in_turn c.args.number) (lists_of (held_of g.K.ReassemblyKey.number g.K.ReassemblyKey.index) (all_of c.self.inside.first c.self.inside.later.entries)) (lists_of (held_of g.K.ReassemblyKey.number g.K.ReassemblyKey.index) (all_of c.take_in_turn.new.first c.take_in_turn.new.later.entries)) (run_of (held_of g.K.ReassemblyKey.number g.K.ReassemblyKey.index) c.in_ok-interval.interval) c.self.invariant.kept.runs c.in_ok-interval.ensures.taken ∙ ap (left_by (is_in_turn c.args.number)) c.self.view_is

pub returns-clause-bytes : goal.returns-clause-bytes
returns-clause-bytes g c =
    let t = takes (lists_of (held_of g.K.ReassemblyKey.number g.K.ReassemblyKey.index) (all_of c.self.inside.first c.self.inside.later.entries)) (lists_of (held_of g.K.ReassemblyKey.number g.K.ReassemblyKey.index) (all_of c.take_in_turn.new.first c.take_in_turn.new.later.entries)) (run_of (held_of g.K.ReassemblyKey.number g.K.ReassemblyKey.index) c.in_ok-interval.interval) c.self.invariant.kept.runs c.in_ok-interval.ensures.taken.out (turn_complete c.args.number (run_of (held_of g.K.ReassemblyKey.number g.K.ReassemblyKey.index) c.in_ok-interval.interval) c.in_ok-interval.ensures.taken.passes) in
    omega (arith, t.bytes, ap bytes_of c.self.view_is)

pub returns-clause-fragments : goal.returns-clause-fragments
returns-clause-fragments g c =
    let t = takes (lists_of (held_of g.K.ReassemblyKey.number g.K.ReassemblyKey.index) (all_of c.self.inside.first c.self.inside.later.entries)) (lists_of (held_of g.K.ReassemblyKey.number g.K.ReassemblyKey.index) (all_of c.take_in_turn.new.first c.take_in_turn.new.later.entries)) (run_of (held_of g.K.ReassemblyKey.number g.K.ReassemblyKey.index) c.in_ok-interval.interval) c.self.invariant.kept.runs c.in_ok-interval.ensures.taken.out (turn_complete c.args.number (run_of (held_of g.K.ReassemblyKey.number g.K.ReassemblyKey.index) c.in_ok-interval.interval) c.in_ok-interval.ensures.taken.passes) in
    omega (arith, counts_taken _ _ _ t.taken, ap length c.self.view_is)

pub returns-in_err-interval-clause-taken : goal.returns-in_err-interval-clause-taken
returns-in_err-interval-clause-taken g c =
    let nothing : c.from_residual.result ≡ None = search rules in
    let none = subst (NoneInTurn c.args.number) (sym (intervals_flat (lists_of (held_of g.K.ReassemblyKey.number g.K.ReassemblyKey.index) (all_of c.self.inside.first c.self.inside.later.entries)) c.self.invariant.kept.runs) ∙ ap intervals_of c.self.view_is) c.in_err-interval.ensures.unturned in
    ap (λ o. option_map (λ i. run_of (held_of g.K.ReassemblyKey.number g.K.ReassemblyKey.index) i) o) nothing ∙ sym (not_found (is_in_turn c.args.number) (intervals_of c.args.self.now) none)

pub returns-in_err-interval-clause-intervals : goal.returns-in_err-interval-clause-intervals
returns-in_err-interval-clause-intervals g c =
    let none = subst (NoneInTurn c.args.number) (sym (intervals_flat (lists_of (held_of g.K.ReassemblyKey.number g.K.ReassemblyKey.index) (all_of c.self.inside.first c.self.inside.later.entries)) c.self.invariant.kept.runs) ∙ ap intervals_of c.self.view_is) c.in_err-interval.ensures.unturned in
    ap (λ rs. intervals_of (flat rs)) c.in_err-interval.ensures.none ∙ (ap intervals_of c.self.view_is ∙ sym (without_none (is_in_turn c.args.number) (intervals_of c.args.self.now) none))

pub returns-in_err-interval-clause-value : goal.returns-in_err-interval-clause-value
returns-in_err-interval-clause-value g c =
    let none = subst (NoneInTurn c.args.number) (sym (intervals_flat (lists_of (held_of g.K.ReassemblyKey.number g.K.ReassemblyKey.index) (all_of c.self.inside.first c.self.inside.later.entries)) c.self.invariant.kept.runs) ∙ ap intervals_of c.self.view_is) c.in_err-interval.ensures.unturned in
    ap flat c.in_err-interval.ensures.none ∙ (c.self.view_is ∙ sym (left_none (is_in_turn c.args.number) c.args.self.now none))
