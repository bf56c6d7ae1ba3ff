use Rattle.std.proofs.Common.{ap, ◌∙◌, ◌∷◌, ◌++◌, [], sym, subst}
use Rattle.std.proofs.lemmas.Result.{err_from_is_err_and}
use Rattle.sctp_fragments.specs.Interval.{held_of, run_of}
use Rattle.sctp_reassembly.proofs.MapLemmas.{changed_at, read_there, not_absent, low_second, second_is, second_gone, run_joined}
use Rattle.sctp_fragments.specs.Entries.{size_of, FitsBehind}
use Rattle.sctp_reassembly.proofs.places.join_to_first.Goals as goal

pub returns-in_err-reserve_behind-clause-err : goal.returns-in_err-reserve_behind-clause-err
returns-in_err-reserve_behind-clause-err g c =
    let p = err_from_is_err_and c.from_residual.result c.from_residual.ensures.1 in
    rw p.1 (λ ps qs i j is low up. c.reserve_behind.ensures.kept ps ((c.args.next, j) ∷ qs) i is low)

pub returns-in_default-clause-err : goal.returns-in_default-clause-err
returns-in_default-clause-err g c ps qs i j is low up =
    let r = c.in_ok-reserve_behind.ensures.ok ps ((c.args.next, j) ∷ qs) i is low in
    not_absent g.K.Ord.cmp g.K.ReassemblyKey.is_key g.K.ReassemblyKey.number g.K.ReassemblyKey.index g.met.K.ReassemblyKey.by_rank c.args.next c.known-2.ensures c.reserve_behind.new.later.entries (ps ++ (c.args.place, r.interval) ∷ []) qs j
    (second_is g.K.Ord.cmp g.K.ReassemblyKey.is_key g.K.ReassemblyKey.number g.K.ReassemblyKey.index g.met.K.ReassemblyKey.by_rank c.args.place c.args.next c.known.ensures c.known-2.ensures up c.reserve_behind.new.later.entries ps qs r.interval j r.is)
    (low_second g.K.Ord.cmp g.K.ReassemblyKey.is_key g.K.ReassemblyKey.number g.K.ReassemblyKey.index g.met.K.ReassemblyKey.by_rank c.args.place c.args.next c.known.ensures c.known-2.ensures up ps r.interval low) c.in_default.ensures.value

pub returns-in_default-get_mut-clause-err : goal.returns-in_default-get_mut-clause-err
returns-in_default-get_mut-clause-err g c ps qs i j is low up =
    let r = c.in_ok-reserve_behind.ensures.ok ps ((c.args.next, j) ∷ qs) i is low in
    let s = second_gone g.K.Ord.cmp g.K.ReassemblyKey.is_key g.K.ReassemblyKey.number g.K.ReassemblyKey.index g.met.K.ReassemblyKey.by_rank c.args.place c.args.next c.known.ensures c.known-2.ensures up c.reserve_behind.new.later.entries c.remove.new.self.entries ps qs r.interval j c.in-Some.moved r.is low c.in-Some.ensures.value c.in-Some.ensures.entries in
    not_absent g.K.Ord.cmp g.K.ReassemblyKey.is_key g.K.ReassemblyKey.number g.K.ReassemblyKey.index g.met.K.ReassemblyKey.by_rank c.args.place c.known.ensures c.remove.new.self.entries ps qs r.interval s.left_is low c.in_default-get_mut.ensures.value

pub append-requires : goal.append-requires
append-requires g c =
    let w = c.requires in
    let r = c.in_ok-reserve_behind.ensures.ok w.front ((c.args.next, w.there) ∷ w.back) w.here w.is w.low in
    let s = second_gone g.K.Ord.cmp g.K.ReassemblyKey.is_key g.K.ReassemblyKey.number g.K.ReassemblyKey.index g.met.K.ReassemblyKey.by_rank c.args.place c.args.next c.known.ensures c.known-2.ensures w.ascend c.reserve_behind.new.later.entries c.remove.new.self.entries w.front w.back r.interval w.there c.in-Some.moved r.is w.low c.in-Some.ensures.value c.in-Some.ensures.entries in
    let d = read_there g.K.Ord.cmp g.K.ReassemblyKey.is_key g.K.ReassemblyKey.number g.K.ReassemblyKey.index g.met.K.ReassemblyKey.by_rank c.args.place c.known.ensures c.remove.new.self.entries w.front w.back r.interval s.left_is w.low c.in-Some-get_mut.interval.now c.in-Some-get_mut.ensures.value in
    let size = c.size_at-size.ensures (w.front ++ (c.args.place, w.here) ∷ []) w.back w.there (second_is g.K.Ord.cmp g.K.ReassemblyKey.is_key g.K.ReassemblyKey.number g.K.ReassemblyKey.index g.met.K.ReassemblyKey.by_rank c.args.place c.args.next c.known.ensures c.known-2.ensures w.ascend c.args.later.now.entries w.front w.back w.here w.there w.is)
    (low_second g.K.Ord.cmp g.K.ReassemblyKey.is_key g.K.ReassemblyKey.number g.K.ReassemblyKey.index g.met.K.ReassemblyKey.by_rank c.args.place c.args.next c.known.ensures c.known-2.ensures w.ascend w.front w.here w.low) in
    subst (λ i. FitsBehind (size_of c.in-Some.moved.entries.value) i.entries.value) (sym d)
    (subst (λ s. FitsBehind s r.interval.entries.value) (size ∙ ap (λ t. size_of t.entries.value) (sym s.moved_is)) r.room)

pub returns-clause-ok : goal.returns-clause-ok
returns-clause-ok g c ps qs i j is low up =
    let r = c.in_ok-reserve_behind.ensures.ok ps ((c.args.next, j) ∷ qs) i is low in
    let s = second_gone g.K.Ord.cmp g.K.ReassemblyKey.is_key g.K.ReassemblyKey.number g.K.ReassemblyKey.index g.met.K.ReassemblyKey.by_rank c.args.place c.args.next c.known.ensures c.known-2.ensures up c.reserve_behind.new.later.entries c.remove.new.self.entries ps qs r.interval j c.in-Some.moved r.is low c.in-Some.ensures.value c.in-Some.ensures.entries in
    changed_at g.K.Ord.cmp g.K.ReassemblyKey.is_key g.K.ReassemblyKey.number g.K.ReassemblyKey.index g.met.K.ReassemblyKey.by_rank c.args.place c.known.ensures c.remove.new.self.entries ps qs r.interval s.left_is low _ c.in-Some-get_mut.interval.now _ _ c.in-Some-get_mut.ensures.value (c.get_mut.follows.holds _).0
    (λ same. run_joined (held_of g.K.ReassemblyKey.number g.K.ReassemblyKey.index) _ c.in-Some-get_mut.interval.now c.in-Some.moved c.args.entry _ _ c.append.ensures (ap (run_of (held_of g.K.ReassemblyKey.number g.K.ReassemblyKey.index)) same ∙ r.run_is) (ap (run_of (held_of g.K.ReassemblyKey.number g.K.ReassemblyKey.index)) s.moved_is))
