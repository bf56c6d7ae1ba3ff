use Rattle.std.proofs.Common.{arith}
use Rattle.sctp_rx.proofs.SeenRunsLemmas.{next_is_new, front_is_seen, added_to}
use Rattle.sctp_rx.proofs.SeenPassingLemmas.{AreRuns_from_none, last_above_max, within_last, last_above_passed, passed_next}
use Rattle.sctp_rx.specs.SeenSteps.{runs_of}
use Rattle.sctp_rx.proofs.SeenEdits.{seen_of}
use Rattle.sctp_rx.proofs.SeenOneFormLemmas.{is_add}
use Rattle.sctp_rx.proofs.data_tracker.seen.Seen.insert.Goals as goal

pub returns-then-number-self-clause-highest : goal.returns-then-number-self-clause-highest
returns-then-number-self-clause-highest c = rw (← c.self.view_is) (within_last c.args.number c.self.inside.front (runs_of c.self.inside.runs.entries) c.self.invariant.runs (omega arith))

pub pass-self-inside-requires-clause-runs : goal.pass-self-inside-requires-clause-runs
pass-self-inside-requires-clause-runs c = AreRuns_from_none c.self.inside.front (runs_of c.self.inside.runs.entries) c.self.invariant.runs

pub pass-self-inside-requires-clause-small : goal.pass-self-inside-requires-clause-small
pass-self-inside-requires-clause-small c = omega (arith, last_above_max c.self.inside.front (runs_of c.self.inside.runs.entries) c.self.invariant.runs)

pub invariant_of-self : goal.invariant_of-self
invariant_of-self c =
    record { runs = c.pass-self-inside.ensures.runs; some = omega (arith, c.pass-self-inside.ensures.onward); small = omega (arith, last_above_passed c.args.number c.self.inside.front c.pass-self-inside.result (runs_of c.self.inside.runs.entries) (runs_of c.pass-self-inside.new.runs.entries) c.self.invariant.runs c.pass-self-inside.ensures (omega arith)) }

pub returns-then-number-self-2-clause-answer : goal.returns-then-number-self-2-clause-answer
returns-then-number-self-2-clause-answer c = rw (← c.self.view_is) (next_is_new c.self.inside.front c.args.number (runs_of c.self.inside.runs.entries) c.self.invariant.runs (omega arith))

pub returns-then-number-self-2-clause-highest : goal.returns-then-number-self-2-clause-highest
returns-then-number-self-2-clause-highest c =
    rw (← c.self.view_is) (last_above_passed c.args.number c.self.inside.front c.pass-self-inside.result (runs_of c.self.inside.runs.entries) (runs_of c.pass-self-inside.new.runs.entries) c.self.invariant.runs c.pass-self-inside.ensures (omega arith))

pub add_to-requires-clause-runs : goal.add_to-requires-clause-runs
add_to-requires-clause-runs c = AreRuns_from_none c.self.inside.front (runs_of c.self.inside.runs.entries) c.self.invariant.runs

pub returns-then-number-self-clause-value : goal.returns-then-number-self-clause-value
returns-then-number-self-clause-value c = rw (← c.self.view_is) (is_add c.args.number (seen_of c.self.inside.front (runs_of c.self.inside.runs.entries)) (seen_of c.self.inside.front (runs_of c.self.inside.runs.entries)) c.self.invariant.runs c.self.invariant.some c.self.invariant.runs (front_is_seen c.self.inside.front c.args.number (runs_of c.self.inside.runs.entries) (omega arith)))

pub returns-then-number-self-2-clause-value : goal.returns-then-number-self-2-clause-value
returns-then-number-self-2-clause-value c =
    rw (← c.self.view_is)
    (is_add c.args.number (seen_of c.self.inside.front (runs_of c.self.inside.runs.entries)) (seen_of c.pass-self-inside.result (runs_of c.pass-self-inside.new.runs.entries)) c.self.invariant.runs c.self.invariant.some c.pass-self-inside.ensures.runs
    (passed_next c.args.number c.self.inside.front c.pass-self-inside.result (runs_of c.self.inside.runs.entries) (runs_of c.pass-self-inside.new.runs.entries) c.pass-self-inside.ensures (omega arith)))

pub returns-clause-value : goal.returns-clause-value
returns-clause-value c =
    rw (← c.self.view_is)
    (is_add c.args.number (seen_of c.self.inside.front (runs_of c.self.inside.runs.entries)) (seen_of c.self.inside.front (runs_of c.add_to.new.runs.entries)) c.self.invariant.runs c.self.invariant.some
    (c.in_ok-is_new.ensures.ok.runs c.self.inside.front c.self.invariant.runs (omega arith))
    (added_to c.self.inside.front c.args.number (runs_of c.self.inside.runs.entries) c.in_ok-is_new.is_new (runs_of c.add_to.new.runs.entries) c.in_ok-is_new.ensures.ok))
