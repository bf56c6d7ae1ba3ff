use Rattle.std.proofs.Common.{[], sym, refl}
use Rattle.std.proofs.lemmas.Result.{on_ok_weaker, on_err_weaker}
use Rattle.sctp_fragments.specs.Interval.{held_of, run_of}
use Rattle.sctp_fragments.proofs.PlaceLemmas.{run_back}
use Rattle.sctp_reassembly.proofs.PutLemmas.{same_there}
use Rattle.sctp_reassembly.proofs.AddedLemmas.{first_at, extends_back, extends_both}
use Rattle.sctp_fragments.specs.Entries.{items_of}
use Rattle.sctp_reassembly.proofs.places.extend_first.Goals as goal

pub returns-in_default-clause-ok : goal.returns-in_default-clause-ok
returns-in_default-clause-ok g c =
    let made = run_back (held_of g.K.ReassemblyKey.number g.K.ReassemblyKey.index) _ (items_of c.args.first.now.entries.value) c.args.first.now c.args.entry c.in_ok-push_back.ensures.items refl in
    extends_back g.K.ReassemblyKey.is_key g.K.ReassemblyKey.number g.K.ReassemblyKey.index (run_of (held_of g.K.ReassemblyKey.number g.K.ReassemblyKey.index) c.args.first.now) _ c.args.later.now.entries (held_of g.K.ReassemblyKey.number g.K.ReassemblyKey.index c.args.entry) c.args.joined.before c.args.joined.behind c.requires.joined c.requires.named c.requires.runs c.requires.left (sym c.in_default.is) made

pub join_first-requires : goal.join_first-requires
join_first-requires g c = first_at g.K.ReassemblyKey.is_key g.K.ReassemblyKey.number g.K.ReassemblyKey.index (run_of (held_of g.K.ReassemblyKey.number g.K.ReassemblyKey.index) c.args.first.now) c.args.later.now.entries (held_of g.K.ReassemblyKey.number g.K.ReassemblyKey.index c.args.entry) c.args.joined.before c.args.joined.behind c.requires.joined c.requires.runs c.requires.left c.in-Some.next (sym c.in-Some.is)

pub returns-clause-ok : goal.returns-clause-ok
returns-clause-ok g c =
    let at = first_at g.K.ReassemblyKey.is_key g.K.ReassemblyKey.number g.K.ReassemblyKey.index (run_of (held_of g.K.ReassemblyKey.number g.K.ReassemblyKey.index) c.args.first.now) c.args.later.now.entries (held_of g.K.ReassemblyKey.number g.K.ReassemblyKey.index c.args.entry) c.args.joined.before c.args.joined.behind c.requires.joined c.requires.runs c.requires.left c.in-Some.next (sym c.in-Some.is) in
    on_ok_weaker c.join_first.result (λ made. let m = made at.there at.back at.is in
    extends_both g.K.ReassemblyKey.is_key g.K.ReassemblyKey.number g.K.ReassemblyKey.index (run_of (held_of g.K.ReassemblyKey.number g.K.ReassemblyKey.index) c.args.first.now) _ c.args.later.now.entries c.join_first.new.later.entries at.back (held_of g.K.ReassemblyKey.number g.K.ReassemblyKey.index c.args.entry) c.args.joined.before c.args.joined.behind c.in-Some.next at.there c.requires.joined c.requires.named c.requires.runs c.requires.left (sym c.in-Some.is) at.is m.0 m.1) c.join_first.ensures.ok

pub returns-clause-later : goal.returns-clause-later
returns-clause-later g c =
    let at = first_at g.K.ReassemblyKey.is_key g.K.ReassemblyKey.number g.K.ReassemblyKey.index (run_of (held_of g.K.ReassemblyKey.number g.K.ReassemblyKey.index) c.args.first.now) c.args.later.now.entries (held_of g.K.ReassemblyKey.number g.K.ReassemblyKey.index c.args.entry) c.args.joined.before c.args.joined.behind c.requires.joined c.requires.runs c.requires.left c.in-Some.next (sym c.in-Some.is) in
    on_err_weaker c.join_first.result (λ made. same_there g.K.ReassemblyKey.is_key g.K.ReassemblyKey.number g.K.ReassemblyKey.index c.args.later.now.entries [] at.back c.join_first.new.later.entries c.in-Some.next at.there at.is c.requires.named (made at.there at.back at.is)) c.join_first.ensures.later
