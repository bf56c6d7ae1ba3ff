use Rattle.std.proofs.Common.{ap, refl, ◌++◌, ◌∙◌, ◌∷◌, [], sym, subst}
use Rattle.std.proofs.lemmas.Result.{err_from_is_err_and}
use Rattle.sctp_fragments.specs.Interval.{held_of, run_of}
use Rattle.sctp_reassembly.proofs.MapLemmas.{read_there, removed_at, not_absent, run_joined}
use Rattle.sctp_fragments.specs.Entries.{items_of, size_of, FitsBefore}
use Rattle.sctp_reassembly.proofs.places.join_first_to_second.Goals as goal

pub prepend-requires : goal.prepend-requires
prepend-requires g c =
    let w = c.requires in
    let r = c.in_ok-reserve_before.ensures.ok [] w.back w.there w.is tt in
    let m = read_there g.K.Ord.cmp g.K.ReassemblyKey.is_key g.K.ReassemblyKey.number g.K.ReassemblyKey.index g.met.K.ReassemblyKey.by_rank c.args.place c.known.ensures c.reserve_before.new.later.entries [] w.back r.interval r.is tt c.in-Some.next c.in-Some.ensures.value in
    subst (λ i. FitsBefore (size_of c.replace-moved.result.entries.value) i.entries.value) (sym c.replace-moved.ensures.after)
    (subst (λ i. FitsBefore (size_of i.entries.value) c.in-Some.next.entries.value) (sym c.replace-moved.ensures.value)
    (subst (λ s. FitsBefore s c.in-Some.next.entries.value) c.size.ensures (subst (λ i. FitsBefore c.size.result i.entries.value) (sym m) r.room)))

pub returns-clause-ok : goal.returns-clause-ok
returns-clause-ok g c j qs is =
    let r = c.in_ok-reserve_before.ensures.ok [] qs j is tt in
    let m = read_there g.K.Ord.cmp g.K.ReassemblyKey.is_key g.K.ReassemblyKey.number g.K.ReassemblyKey.index g.met.K.ReassemblyKey.by_rank c.args.place c.known.ensures c.reserve_before.new.later.entries [] qs r.interval r.is tt c.in-Some.next c.in-Some.ensures.value in
    (run_joined (held_of g.K.ReassemblyKey.number g.K.ReassemblyKey.index) _ c.args.first.now c.in-Some.next c.args.entry _ _ (c.prepend.ensures ∙ (ap (λ t. (items_of t.entries.value) ++ c.args.entry ∷ (items_of c.replace-moved.new.dest.entries.value)) c.replace-moved.ensures.value ∙ ap (λ t. (items_of c.args.first.now.entries.value) ++ c.args.entry ∷ (items_of t.entries.value)) c.replace-moved.ensures.after)) refl (ap (run_of (held_of g.K.ReassemblyKey.number g.K.ReassemblyKey.index)) m ∙ r.run_is), removed_at g.K.Ord.cmp g.K.ReassemblyKey.is_key g.K.ReassemblyKey.number g.K.ReassemblyKey.index g.met.K.ReassemblyKey.by_rank c.args.place c.known.ensures c.reserve_before.new.later.entries [] qs r.interval r.is tt _ c.in-Some.ensures.entries)

pub returns-in_err-reserve_before-clause-later : goal.returns-in_err-reserve_before-clause-later
returns-in_err-reserve_before-clause-later g c =
    let p = err_from_is_err_and c.from_residual.result c.from_residual.ensures.1 in
    rw p.1 (λ j qs is. c.reserve_before.ensures.kept [] qs j is tt)

pub returns-in_default-clause-later : goal.returns-in_default-clause-later
returns-in_default-clause-later g c j qs is =
    let r = c.in_ok-reserve_before.ensures.ok [] qs j is tt in
    not_absent g.K.Ord.cmp g.K.ReassemblyKey.is_key g.K.ReassemblyKey.number g.K.ReassemblyKey.index g.met.K.ReassemblyKey.by_rank c.args.place c.known.ensures c.reserve_before.new.later.entries [] qs r.interval r.is tt c.in_default.ensures.value
