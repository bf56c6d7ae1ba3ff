use Rattle.std.proofs.Common.{arith}
use Rattle.sctp_rx.proofs.SeenPassingLemmas.{AreRuns_from_none, last_above_max, within_last, last_above_passed, passed_over, below_front}
use Rattle.sctp_rx.specs.SeenSteps.{runs_of}
use Rattle.sctp_rx.proofs.SeenEdits.{seen_of}
use Rattle.sctp_rx.proofs.SeenOneFormLemmas.{is_up_to}
use Rattle.sctp_rx.proofs.data_tracker.seen.Seen.forward.Goals as goal

pub returns-then-number-self-clause-highest : goal.returns-then-number-self-clause-highest
returns-then-number-self-clause-highest c = rw (← c.self.view_is) (within_last c.args.number c.self.inside.front (runs_of c.self.inside.runs.entries) c.self.invariant.runs (omega arith))

pub pass_far-self-inside-requires-clause-runs : goal.pass_far-self-inside-requires-clause-runs
pass_far-self-inside-requires-clause-runs c = AreRuns_from_none c.self.inside.front (runs_of c.self.inside.runs.entries) c.self.invariant.runs

pub pass_far-self-inside-requires-clause-small : goal.pass_far-self-inside-requires-clause-small
pass_far-self-inside-requires-clause-small c = omega (arith, last_above_max c.self.inside.front (runs_of c.self.inside.runs.entries) c.self.invariant.runs)

pub invariant_of-self : goal.invariant_of-self
invariant_of-self c =
    record { runs = c.pass_far-self-inside.ensures.runs; some = omega (arith, c.pass_far-self-inside.ensures.onward); small = omega (arith, last_above_passed c.args.number c.self.inside.front c.pass_far-self-inside.result (runs_of c.self.inside.runs.entries) (runs_of c.pass_far-self-inside.new.runs.entries) c.self.invariant.runs c.pass_far-self-inside.ensures (omega arith)) }

pub returns-clause-highest : goal.returns-clause-highest
returns-clause-highest c =
    rw (← c.self.view_is) (last_above_passed c.args.number c.self.inside.front c.pass_far-self-inside.result (runs_of c.self.inside.runs.entries) (runs_of c.pass_far-self-inside.new.runs.entries) c.self.invariant.runs c.pass_far-self-inside.ensures (omega arith))

pub returns-then-number-self-clause-value : goal.returns-then-number-self-clause-value
returns-then-number-self-clause-value c = rw (← c.self.view_is) (is_up_to c.args.number (seen_of c.self.inside.front (runs_of c.self.inside.runs.entries)) (seen_of c.self.inside.front (runs_of c.self.inside.runs.entries)) c.self.invariant.runs c.self.invariant.runs (below_front c.self.inside.front c.args.number (runs_of c.self.inside.runs.entries) (omega arith)))

pub returns-clause-value : goal.returns-clause-value
returns-clause-value c =
    rw (← c.self.view_is)
    (is_up_to c.args.number (seen_of c.self.inside.front (runs_of c.self.inside.runs.entries)) (seen_of c.pass_far-self-inside.result (runs_of c.pass_far-self-inside.new.runs.entries)) c.self.invariant.runs c.pass_far-self-inside.ensures.runs
    (passed_over c.args.number c.self.inside.front c.pass_far-self-inside.result (runs_of c.self.inside.runs.entries) (runs_of c.pass_far-self-inside.new.runs.entries) c.pass_far-self-inside.ensures (omega arith)))
