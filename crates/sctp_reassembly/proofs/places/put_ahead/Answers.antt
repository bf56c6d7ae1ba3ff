use Rattle.std.proofs.Common.{[], refl, ap, ◌∙◌}
use Rattle.sctp_fragments.specs.ReassemblyKey.{rank_at}
use Rattle.sctp_fragments.specs.Interval.{held_of, run_of}
use Rattle.sctp_fragments.proofs.PlaceLemmas.{run_front}
use Rattle.sctp_reassembly.proofs.MapLemmas.{insert_mid}
use Rattle.sctp_reassembly.proofs.AddedLemmas.{ahead_joined, ahead_apart, high_first}
use Rattle.sctp_fragments.specs.Entries.{items_of}
use Rattle.sctp_reassembly.proofs.places.put_ahead.Goals as goal

pub returns-then-goes_on_to-clause-ok : goal.returns-then-goes_on_to-clause-ok
returns-then-goes_on_to-clause-ok g c =
    let made = run_front (held_of g.K.ReassemblyKey.number g.K.ReassemblyKey.index) _ (items_of c.args.first.now.entries.value) c.args.first.now c.args.entry c.in_ok-push_front.ensures.items refl in
    ahead_joined g.K.ReassemblyKey.is_key g.K.ReassemblyKey.number g.K.ReassemblyKey.index (run_of (held_of g.K.ReassemblyKey.number g.K.ReassemblyKey.index) c.args.first.now) _ c.args.later.now.entries (held_of g.K.ReassemblyKey.number g.K.ReassemblyKey.index c.args.entry) (held_of g.K.ReassemblyKey.number g.K.ReassemblyKey.index c.first.result.now) c.goes_on_to.result c.requires.named c.requires.runs c.requires.ahead c.first.ensures c.goes_on_to.ensures c.if-goes_on_to.true made

pub returns-in-Ok-clause-ok : goal.returns-in-Ok-clause-ok
returns-in-Ok-clause-ok g c =
    let first = run_of (held_of g.K.ReassemblyKey.number g.K.ReassemblyKey.index) c.args.first.now in
    let k = c.first-2.result.now.key in
    let high = high_first g.K.ReassemblyKey.is_key g.K.ReassemblyKey.number g.K.ReassemblyKey.index first c.args.later.now.entries (held_of g.K.ReassemblyKey.number g.K.ReassemblyKey.index c.first-2.result.now) k c.requires.named c.requires.runs c.first-2.ensures refl in
    let entries = c.in-Ok.ensures.entries ∙ insert_mid g.K.Ord.cmp g.K.ReassemblyKey.is_key (rank_at g.K.ReassemblyKey.number g.K.ReassemblyKey.index) g.met.K.ReassemblyKey.by_rank k c.known.ensures [] c.args.later.now.entries c.replace-old.result tt high in
    ahead_apart g.K.ReassemblyKey.is_key g.K.ReassemblyKey.number g.K.ReassemblyKey.index first _ c.args.later.now.entries c.insert.new.self.entries (held_of g.K.ReassemblyKey.number g.K.ReassemblyKey.index c.args.entry) (held_of g.K.ReassemblyKey.number g.K.ReassemblyKey.index c.first.result.now) (held_of g.K.ReassemblyKey.number g.K.ReassemblyKey.index c.first-2.result.now) c.goes_on_to.result k c.replace-old.result c.requires.named c.requires.runs c.requires.ahead c.first.ensures c.goes_on_to.ensures c.if-goes_on_to.false
    (ap (run_of (held_of g.K.ReassemblyKey.number g.K.ReassemblyKey.index)) c.replace-old.ensures.value) c.known.ensures c.first-2.ensures refl entries (ap (run_of (held_of g.K.ReassemblyKey.number g.K.ReassemblyKey.index)) c.replace-old.ensures.after ∙ c.in_ok-new.ensures)
