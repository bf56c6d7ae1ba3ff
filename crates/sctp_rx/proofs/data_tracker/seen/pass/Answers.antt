use Rattle.std.proofs.Common.{◌≡◌, sym, ◌∙◌, arith}
use Rattle.std.specs.Prelude.{None, slice_get}
use Rattle.sctp_rx.specs.SeenSteps.{run_of, runs_of}
use Rattle.sctp_rx.proofs.SeenPassingLemmas.{passes_one}
use Rattle.sctp_rx.proofs.SeenPlacesLemmas.{Entry, at_front, apart, none_left}
use Rattle.sctp_rx.proofs.data_tracker.seen.pass.Goals as goal

pub loop-first-preserved : goal.loop-first-preserved
loop-first-preserved c =
    let i = c.loop-first.invariant in
    let es = c.loop-first.runs.entries in
    let new = c.drop_first.new.runs.entries in
    let e : Entry = (c.in-Some.first, c.in-Some.last) in
    let split = at_front es new e (sym c.in-Some.ensures) c.drop_first.ensures in
    let one = passes_one c.loop-first.point c.max-point.result (run_of e) (runs_of es) (runs_of new) i.runs split c.max-point.ensures (omega arith) in
    record {
      numbers = λ m. one.numbers m ∙ i.numbers m;
      last = one.last ∙ i.last;
      onward = omega (arith, i.onward);
      runs = one.runs;
      small = omega (arith, one.last, i.small);
    }

pub returns-then-point-first : goal.returns-then-point-first
returns-then-point-first c =
    let i = c.loop-first.invariant in
    let e : Entry = (c.in-Some.first, c.in-Some.last) in
    record {
      numbers = i.numbers;
      runs = apart c.loop-first.point c.loop-first.runs.entries e (sym c.in-Some.ensures) i.runs (omega arith);
      onward = i.onward;
      last = i.last;
    }

pub returns-in_default : goal.returns-in_default
returns-in_default c =
    let i = c.loop-first.invariant in
    let none : slice_get c.loop-first.runs.entries 0 ≡ None = cc in
    record { numbers = i.numbers; runs = none_left c.loop-first.point c.loop-first.runs.entries none; onward = i.onward; last = i.last }
