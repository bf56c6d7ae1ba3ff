use Rattle.std.proofs.Common.{◌≡◌, true, None, ap, sym, subst}
use Rattle.sctp_fragments.specs.Runs.{flat, is_held, AreRuns}
use Rattle.sctp_fragments.specs.Held.{rank_of, goes_on}
use Rattle.sctp_fragments.specs.Interval.{held_of, run_of, lists_of}
use Rattle.sctp_reassembly.specs.Places.{all_of, runs_at}
use Rattle.sctp_reassembly.proofs.AddedLemmas.{first_added, held_first, below_last, leads_first}
use Rattle.sctp_fragments.proofs.PlaceLemmas.{some_run}
use Rattle.sctp_reassembly.proofs.places.add_to.Goals as goal

pub returns-in_default-clause-ok : goal.returns-in_default-clause-ok
returns-in_default-clause-ok g c = first_added g.K.ReassemblyKey.is_key g.K.ReassemblyKey.number g.K.ReassemblyKey.index c.args.first.now c.args.later.now.entries c.in_ok-alone.field-0 (held_of g.K.ReassemblyKey.number g.K.ReassemblyKey.index c.args.entry) c.in_default.is c.requires.led c.in_ok-alone.ensures

pub returns-then-not-is_before-clause-ok : goal.returns-then-not-is_before-clause-ok
returns-then-not-is_before-clause-ok g c =
    let n = rank_of (held_of g.K.ReassemblyKey.number g.K.ReassemblyKey.index c.args.entry) in
    let all = subst (λ o. AreRuns rank_of goes_on None (lists_of (held_of g.K.ReassemblyKey.number g.K.ReassemblyKey.index) (all_of o c.args.later.now.entries))) c.in-Some.is c.requires.runs in
    let held = held_first g.K.ReassemblyKey.is_key g.K.ReassemblyKey.number g.K.ReassemblyKey.index n (run_of (held_of g.K.ReassemblyKey.number g.K.ReassemblyKey.index) c.in-Some.interval) (runs_at g.K.ReassemblyKey.number g.K.ReassemblyKey.index c.args.later.now.entries) (held_of g.K.ReassemblyKey.number g.K.ReassemblyKey.index c.first.result.now) (held_of g.K.ReassemblyKey.number g.K.ReassemblyKey.index c.last.result.now) c.is_before.result c.is_before-2.result all c.first.ensures c.last.ensures c.is_before.ensures c.if-is_before.false c.is_before-2.ensures c.if-not-is_before.true in (
      subst (λ o. is_held rank_of n (flat (lists_of (held_of g.K.ReassemblyKey.number g.K.ReassemblyKey.index) (all_of o c.args.later.now.entries))) ≡ true) (sym c.in-Some.is) held,
      (sym (ap (λ o. lists_of (held_of g.K.ReassemblyKey.number g.K.ReassemblyKey.index) (all_of o c.args.later.now.entries)) c.in-Some.is), c.requires.named),
    )

pub add_behind-requires-clause-behind : goal.add_behind-requires-clause-behind
add_behind-requires-clause-behind g c =
    let f = held_of g.K.ReassemblyKey.number g.K.ReassemblyKey.index in
    below_last (run_of f c.in-Some.interval) (f c.last.result.now) (rank_of (f c.args.entry)) c.is_before-2.result (some_run f c.in-Some.interval) c.last.ensures c.if-not-is_before.false c.is_before-2.ensures

pub put_ahead-requires-clause-ahead : goal.put_ahead-requires-clause-ahead
put_ahead-requires-clause-ahead g c =
    let f = held_of g.K.ReassemblyKey.number g.K.ReassemblyKey.index in
    leads_first (run_of f c.in-Some.interval) (f c.first.result.now) (rank_of (f c.args.entry)) c.is_before.result (some_run f c.in-Some.interval) c.first.ensures c.if-is_before.true c.is_before.ensures
