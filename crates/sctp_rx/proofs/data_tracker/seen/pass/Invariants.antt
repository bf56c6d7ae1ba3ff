use Rattle.std.proofs.Common.{◌≡◌, ℕ, ◌^◌, ◌<◌, ◌≤◌, ◌||◌, leb, max, length}
use Rattle.sctp_rx.specs.Seen.{in_runs, AreRuns, last_above}
use Rattle.sctp_rx.specs.SeenSteps.{runs_of}
use Rattle.sctp_rx.proofs.data_tracker.seen.pass.Given as goal

abbrev pub invariant-loop-first : goal.invariant-loop-first
invariant-loop-first l = record {
  numbers : (m : ℕ) → (leb m l.point || in_runs (runs_of l.runs.entries) m) ≡ (leb m l.initial.point || in_runs (runs_of l.initial.runs.entries) m);
  last : max l.point (last_above 0 (runs_of l.runs.entries)) ≡ max l.initial.point (last_above 0 (runs_of l.initial.runs.entries));
  onward : l.initial.point ≤ l.point;
  runs : AreRuns 0 (runs_of l.runs.entries);
  small : max l.point (last_above 0 (runs_of l.runs.entries)) < 2 ^ 63;
}

abbrev pub decreases-loop-first : goal.decreases-loop-first
decreases-loop-first l = length l.runs.entries
