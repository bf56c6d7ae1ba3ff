use Rattle.std.proofs.Common.{ap, ◌∙◌, map}
use Rattle.sctp_fragments.specs.Interval.{held_of}
use Rattle.sctp_fragments.proofs.PlaceLemmas.{run_front}
use Rattle.std.proofs.lemmas.Result.{err_from_is_err_and}
use Rattle.sctp_reassembly.proofs.MapLemmas.{changed_at, not_absent}
use Rattle.sctp_fragments.specs.Entries.{items_of}
use Rattle.sctp_reassembly.proofs.places.push_front_at.Goals as goal

pub returns-in_default-clause-err : goal.returns-in_default-clause-err
returns-in_default-clause-err g c ps qs i is low =
    not_absent g.K.Ord.cmp g.K.ReassemblyKey.is_key g.K.ReassemblyKey.number g.K.ReassemblyKey.index g.met.K.ReassemblyKey.by_rank c.args.place c.known.ensures c.args.later.now.entries ps qs i is low c.in_default.ensures.value

pub returns-in_err-push_front-clause-err : goal.returns-in_err-push_front-clause-err
returns-in_err-push_front-clause-err g c =
    let p = err_from_is_err_and c.from_residual.result c.from_residual.ensures.1 in
    rw p.1 (λ ps qs i is low. changed_at g.K.Ord.cmp g.K.ReassemblyKey.is_key g.K.ReassemblyKey.number g.K.ReassemblyKey.index g.met.K.ReassemblyKey.by_rank c.args.place c.known.ensures c.args.later.now.entries ps qs i is low _ c.in-Some.interval.now _ _ c.in-Some.ensures.value (c.get_mut.follows.holds _).0
    (λ same. ap (map (held_of g.K.ReassemblyKey.number g.K.ReassemblyKey.index)) (c.in_err-push_front.ensures.items ∙ ap (λ t. (items_of t.entries.value)) same)))

pub returns-clause-ok : goal.returns-clause-ok
returns-clause-ok g c ps qs i is low =
    changed_at g.K.Ord.cmp g.K.ReassemblyKey.is_key g.K.ReassemblyKey.number g.K.ReassemblyKey.index g.met.K.ReassemblyKey.by_rank c.args.place c.known.ensures c.args.later.now.entries ps qs i is low _ c.in-Some.interval.now _ _ c.in-Some.ensures.value (c.get_mut.follows.holds _).0
    (λ same. run_front (held_of g.K.ReassemblyKey.number g.K.ReassemblyKey.index) _ (items_of c.in-Some.interval.now.entries.value) i c.args.entry c.in_ok-push_front.ensures.items (ap (λ t. (items_of t.entries.value)) same))
