use Rattle.std.proofs.Common.{ap, map, ◌∙◌}
use Rattle.std.proofs.lemmas.Result.{on_ok_weaker}
use Rattle.sctp_fragments.specs.Interval.{held_of}
use Rattle.sctp_reassembly.proofs.MapLemmas.{changed_at, room_at, not_absent}
use Rattle.sctp_fragments.specs.Entries.{items_of, FitsBefore}
use Rattle.sctp_reassembly.proofs.places.reserve_before.Goals as goal

pub returns-in_default-clause-kept : goal.returns-in_default-clause-kept
returns-in_default-clause-kept g c ps qs i is low = not_absent g.K.Ord.cmp g.K.ReassemblyKey.is_key g.K.ReassemblyKey.number g.K.ReassemblyKey.index g.met.K.ReassemblyKey.by_rank c.args.place c.known.ensures c.args.later.now.entries ps qs i is low c.in_default.ensures.value

pub returns-clause-kept : goal.returns-clause-kept
returns-clause-kept g c ps qs i is low =
    changed_at g.K.Ord.cmp g.K.ReassemblyKey.is_key g.K.ReassemblyKey.number g.K.ReassemblyKey.index g.met.K.ReassemblyKey.by_rank c.args.place c.known.ensures c.args.later.now.entries ps qs i is low _ c.in-Some.interval.now _ _ c.in-Some.ensures.value (c.get_mut.follows.holds _).0
    (λ same. ap (map (held_of g.K.ReassemblyKey.number g.K.ReassemblyKey.index)) (c.reserve_before.ensures.items ∙ ap (λ t. (items_of t.entries.value)) same))

pub returns-clause-ok : goal.returns-clause-ok
returns-clause-ok g c =
    on_ok_weaker c.reserve_before.result (λ room ps qs i is low.
    room_at g.K.Ord.cmp g.K.ReassemblyKey.is_key g.K.ReassemblyKey.number g.K.ReassemblyKey.index g.met.K.ReassemblyKey.by_rank c.args.place c.known.ensures c.args.later.now.entries ps qs i is low _ c.in-Some.interval.now _ _ (FitsBefore c.args.size) c.in-Some.ensures.value (c.get_mut.follows.holds _).0
    (λ same. ap (map (held_of g.K.ReassemblyKey.number g.K.ReassemblyKey.index)) (c.reserve_before.ensures.items ∙ ap (λ t. (items_of t.entries.value)) same)) room) c.reserve_before.ensures.ok
