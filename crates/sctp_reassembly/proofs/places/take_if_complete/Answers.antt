use Rattle.std.proofs.Common.{◌≡◌, true, None, ap, sym, subst, ◌∙◌}
use Rattle.sctp_fragments.specs.ReassemblyKey.{rank_at}
use Rattle.sctp_fragments.specs.Held.{is_complete, rank_of}
use Rattle.sctp_fragments.specs.Interval.{held_of, run_of}
use Rattle.sctp_fragments.specs.Runs.{is_held}
use Rattle.sctp_reassembly.specs.Places.{runs_at, AreNamed}
use Rattle.sctp_reassembly.proofs.MapLemmas.{taken_at, taken_there}
use Rattle.sctp_reassembly.proofs.HolderLemmas.{some_then, some_or_none, named_without, later_runs, runs_here, first_only, none_here, later_only, later_out, none_empty, first_gone}
use Rattle.sctp_reassembly.proofs.places.take_if_complete.Goals as goal

pub returns-then-not-is_complete-clause-incomplete : goal.returns-then-not-is_complete-clause-incomplete
returns-then-not-is_complete-clause-incomplete g c front back r at here =
    let n = rank_at g.K.ReassemblyKey.number g.K.ReassemblyKey.index c.args.key in
    ap is_complete (sym (first_only g.K.ReassemblyKey.is_key g.K.ReassemblyKey.number g.K.ReassemblyKey.index n c.args.first.now c.args.later.now.entries c.in-Some.interval c.in-Some.is c.requires.runs (sym (c.has_key.ensures None (runs_at g.K.ReassemblyKey.number g.K.ReassemblyKey.index c.args.later.now.entries) (runs_here g.K.ReassemblyKey.is_key g.K.ReassemblyKey.number g.K.ReassemblyKey.index n c.args.first.now c.args.later.now.entries c.in-Some.interval c.in-Some.is c.requires.runs)) ∙ c.if-has_key.true) front back r at here)) ∙ (sym c.is_complete.ensures ∙ c.if-not-is_complete.true)

pub found_with-requires-clause-runs : goal.found_with-requires-clause-runs
found_with-requires-clause-runs g c = later_runs g.K.ReassemblyKey.is_key g.K.ReassemblyKey.number g.K.ReassemblyKey.index c.args.first.now c.args.later.now.entries c.requires.led c.requires.runs

pub returns-in_err-found-clause-incomplete : goal.returns-in_err-found-clause-incomplete
returns-in_err-found-clause-incomplete g c =
    let n = rank_at g.K.ReassemblyKey.number g.K.ReassemblyKey.index c.args.key in
    rw c.from_residual.ensures (λ front back r at here. none_here g.K.ReassemblyKey.is_key g.K.ReassemblyKey.number g.K.ReassemblyKey.index n c.args.first.now c.args.later.now.entries c.in-Some.interval c.in-Some.is c.requires.runs (sym (c.has_key.ensures None (runs_at g.K.ReassemblyKey.number g.K.ReassemblyKey.index c.args.later.now.entries) (runs_here g.K.ReassemblyKey.is_key g.K.ReassemblyKey.number g.K.ReassemblyKey.index n c.args.first.now c.args.later.now.entries c.in-Some.interval c.in-Some.is c.requires.runs)) ∙ c.if-has_key.false) c.in_err-found.ensures.none front back r at here)

pub returns-then-not-is_complete-2-clause-incomplete : goal.returns-then-not-is_complete-2-clause-incomplete
returns-then-not-is_complete-2-clause-incomplete g c front back r at here =
    let n = rank_at g.K.ReassemblyKey.number g.K.ReassemblyKey.index c.args.key in
    let found = c.in_ok-found.ensures.some in
    ap is_complete (sym (later_only g.K.ReassemblyKey.is_key g.K.ReassemblyKey.number g.K.ReassemblyKey.index n c.args.first.now c.args.later.now.entries c.in-Some.interval c.in-Some.is c.requires.runs c.in_ok-found.found.0 found.0 front back r at here)) ∙ (ap (λ i. is_complete (run_of (held_of g.K.ReassemblyKey.number g.K.ReassemblyKey.index) i)) (sym found.1) ∙ (sym c.is_complete-2.ensures ∙ c.if-not-is_complete-2.true))

pub returns-clause-taken : goal.returns-clause-taken
returns-clause-taken g c =
    let n = rank_at g.K.ReassemblyKey.number g.K.ReassemblyKey.index c.args.key in
    let j = c.in_ok-found.ensures.some.0 in
    some_then c.remove.result (λ d told. let t = told j.front j.back j.interval j.is j.low in later_out g.K.ReassemblyKey.is_key g.K.ReassemblyKey.number g.K.ReassemblyKey.index n c.args.first.now c.args.later.now.entries c.in-Some.interval c.in-Some.is c.requires.runs c.in_ok-found.found.0 j c.remove.new.self.entries d t.0 t.1)
    (taken_at g.K.Ord.cmp g.K.ReassemblyKey.is_key g.K.ReassemblyKey.number g.K.ReassemblyKey.index g.met.K.ReassemblyKey.by_rank c.in_ok-found.found.0 c.known.ensures c.args.later.now.entries c.remove.result c.remove.new.self.entries c.remove.ensures.value c.remove.ensures.entries)

pub returns-clause-complete : goal.returns-clause-complete
returns-clause-complete g c =
    let found = c.in_ok-found.ensures.some in
    let j = found.0 in
    some_then c.remove.result (λ d told. ap (λ i. is_complete (run_of (held_of g.K.ReassemblyKey.number g.K.ReassemblyKey.index) i)) ((told j.front j.back j.interval j.is j.low).0 ∙ sym found.1) ∙ (sym c.is_complete-2.ensures ∙ c.if-not-is_complete-2.false))
    (taken_at g.K.Ord.cmp g.K.ReassemblyKey.is_key g.K.ReassemblyKey.number g.K.ReassemblyKey.index g.met.K.ReassemblyKey.by_rank c.in_ok-found.found.0 c.known.ensures c.args.later.now.entries c.remove.result c.remove.new.self.entries c.remove.ensures.value c.remove.ensures.entries)

pub returns-clause-held : goal.returns-clause-held
returns-clause-held g c =
    let n = rank_at g.K.ReassemblyKey.number g.K.ReassemblyKey.index c.args.key in
    let j = c.in_ok-found.ensures.some.0 in
    some_then c.remove.result (λ d told. subst (λ i. is_held rank_of n (run_of (held_of g.K.ReassemblyKey.number g.K.ReassemblyKey.index) i) ≡ true) (sym (told j.front j.back j.interval j.is j.low).0) j.held)
    (taken_at g.K.Ord.cmp g.K.ReassemblyKey.is_key g.K.ReassemblyKey.number g.K.ReassemblyKey.index g.met.K.ReassemblyKey.by_rank c.in_ok-found.found.0 c.known.ensures c.args.later.now.entries c.remove.result c.remove.new.self.entries c.remove.ensures.value c.remove.ensures.entries)

pub returns-clause-incomplete : goal.returns-clause-incomplete
returns-clause-incomplete g c =
    let j = c.in_ok-found.ensures.some.0 in
    taken_there _ g.K.Ord.cmp g.K.ReassemblyKey.is_key g.K.ReassemblyKey.number g.K.ReassemblyKey.index g.met.K.ReassemblyKey.by_rank c.in_ok-found.found.0 c.known.ensures c.args.later.now.entries j.front j.back j.interval c.remove.result j.is j.low c.remove.ensures.value

pub returns-clause-named : goal.returns-clause-named
returns-clause-named g c =
    let j = c.in_ok-found.ensures.some.0 in
    some_or_none c.remove.result
    (some_then c.remove.result (λ d told. subst (AreNamed g.K.ReassemblyKey.is_key g.K.ReassemblyKey.number g.K.ReassemblyKey.index) (sym (told j.front j.back j.interval j.is j.low).1) (named_without g.K.ReassemblyKey.is_key g.K.ReassemblyKey.number g.K.ReassemblyKey.index j.front j.back c.in_ok-found.found.0 j.interval (subst (AreNamed g.K.ReassemblyKey.is_key g.K.ReassemblyKey.number g.K.ReassemblyKey.index) j.is c.requires.named)))
    (taken_at g.K.Ord.cmp g.K.ReassemblyKey.is_key g.K.ReassemblyKey.number g.K.ReassemblyKey.index g.met.K.ReassemblyKey.by_rank c.in_ok-found.found.0 c.known.ensures c.args.later.now.entries c.remove.result c.remove.new.self.entries c.remove.ensures.value c.remove.ensures.entries))
    (taken_there _ g.K.Ord.cmp g.K.ReassemblyKey.is_key g.K.ReassemblyKey.number g.K.ReassemblyKey.index g.met.K.ReassemblyKey.by_rank c.in_ok-found.found.0 c.known.ensures c.args.later.now.entries j.front j.back j.interval c.remove.result j.is j.low c.remove.ensures.value)

pub returns-in_default-clause-incomplete : goal.returns-in_default-clause-incomplete
returns-in_default-clause-incomplete g c front back r at here =
    none_empty g.K.ReassemblyKey.is_key g.K.ReassemblyKey.number g.K.ReassemblyKey.index (rank_at g.K.ReassemblyKey.number g.K.ReassemblyKey.index c.args.key) c.args.first.now c.args.later.now.entries c.in_default.is c.requires.led front back r at here

pub returns-then-has_key-clause-taken : goal.returns-then-has_key-clause-taken
returns-then-has_key-clause-taken g c = first_gone g.K.ReassemblyKey.is_key g.K.ReassemblyKey.number g.K.ReassemblyKey.index c.args.first.now c.take_first.new.first c.args.later.now.entries c.take_first.new.later.entries c.take_first.result c.in-Some.interval c.in-Some.is c.take_first.ensures.result c.take_first.ensures.others

pub returns-then-has_key-clause-complete : goal.returns-then-has_key-clause-complete
returns-then-has_key-clause-complete g c = rw c.take_first.ensures.result (sym c.is_complete.ensures ∙ c.if-not-is_complete.false)

pub returns-then-has_key-clause-held : goal.returns-then-has_key-clause-held
returns-then-has_key-clause-held g c =
    let n = rank_at g.K.ReassemblyKey.number g.K.ReassemblyKey.index c.args.key in
    rw c.take_first.ensures.result (sym (c.has_key.ensures None (runs_at g.K.ReassemblyKey.number g.K.ReassemblyKey.index c.args.later.now.entries) (runs_here g.K.ReassemblyKey.is_key g.K.ReassemblyKey.number g.K.ReassemblyKey.index n c.args.first.now c.args.later.now.entries c.in-Some.interval c.in-Some.is c.requires.runs)) ∙ c.if-has_key.true)

pub returns-then-has_key-clause-none : goal.returns-then-has_key-clause-none
returns-then-has_key-clause-none g c = rw c.take_first.ensures.result tt

pub returns-then-has_key-clause-incomplete : goal.returns-then-has_key-clause-incomplete
returns-then-has_key-clause-incomplete g c = rw c.take_first.ensures.result tt
