use Rattle.std.proofs.Common.{ap, refl, ◌++◌, ◌∙◌, ◌∷◌, [], sym, subst}
use Rattle.std.proofs.lemmas.Result.{err_from_is_err_and}
use Rattle.sctp_fragments.specs.Interval.{held_of, run_of}
use Rattle.sctp_reassembly.proofs.MapLemmas.{read_there, removed_at, run_joined}
use Rattle.sctp_fragments.specs.Entries.{items_of, size_of, FitsBehind}
use Rattle.sctp_reassembly.proofs.places.join_second_to_first.Goals as goal

pub append-requires : goal.append-requires
append-requires g c =
    let w = c.requires in
    let m = read_there g.K.Ord.cmp g.K.ReassemblyKey.is_key g.K.ReassemblyKey.number g.K.ReassemblyKey.index g.met.K.ReassemblyKey.by_rank c.args.place c.known.ensures c.args.later.now.entries [] w.back w.there w.is tt c.in-Some.moved c.in-Some.ensures.value in
    let size = c.size_at-size.ensures [] w.back w.there w.is tt in
    subst (λ s. FitsBehind s c.reserve_behind.new.self.entries.value) (size ∙ ap (λ t. size_of t.entries.value) (sym m)) c.in_ok-reserve_behind.ensures.ok

pub returns-clause-ok : goal.returns-clause-ok
returns-clause-ok g c j qs is =
    let m = read_there g.K.Ord.cmp g.K.ReassemblyKey.is_key g.K.ReassemblyKey.number g.K.ReassemblyKey.index g.met.K.ReassemblyKey.by_rank c.args.place c.known.ensures c.args.later.now.entries [] qs j is tt c.in-Some.moved c.in-Some.ensures.value in
    (run_joined (held_of g.K.ReassemblyKey.number g.K.ReassemblyKey.index) _ c.args.first.now c.in-Some.moved c.args.entry _ _ (c.append.ensures ∙ ap (λ t. t ++ c.args.entry ∷ (items_of c.in-Some.moved.entries.value)) c.reserve_behind.ensures.items) refl (ap (run_of (held_of g.K.ReassemblyKey.number g.K.ReassemblyKey.index)) m), removed_at g.K.Ord.cmp g.K.ReassemblyKey.is_key g.K.ReassemblyKey.number g.K.ReassemblyKey.index g.met.K.ReassemblyKey.by_rank c.args.place c.known.ensures c.args.later.now.entries [] qs j is tt _ c.in-Some.ensures.entries)

pub returns-in_err-reserve_behind-clause-later : goal.returns-in_err-reserve_behind-clause-later
returns-in_err-reserve_behind-clause-later g c =
    let p = err_from_is_err_and c.from_residual.result c.from_residual.ensures.1 in
    rw p.1 (λ j qs is. record { interval = j; is = is; run_is = refl })
