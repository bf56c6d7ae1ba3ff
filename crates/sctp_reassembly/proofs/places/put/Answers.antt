use Rattle.std.proofs.Common.{[], sym, refl, ◌∙◌}
use Rattle.std.proofs.lemmas.Result.{on_ok_weaker, on_err_weaker}
use Rattle.sctp_fragments.specs.Held.{rank_of}
use Rattle.sctp_fragments.specs.Interval.{held_of}
use Rattle.sctp_reassembly.proofs.PutLemmas.{beside, previous_is, same_both, same_last, same_next, same_entries}
use Rattle.sctp_reassembly.proofs.AddedLemmas.{both_added, back_added, front_added, alone_added}
use Rattle.sctp_reassembly.proofs.places.put.Goals as goal

pub join-requires : goal.join-requires
join-requires g c =
    beside g.K.ReassemblyKey.is_key g.K.ReassemblyKey.number g.K.ReassemblyKey.index c.args.later.now.entries (held_of g.K.ReassemblyKey.number g.K.ReassemblyKey.index c.args.entry) c.args.joined.before c.args.joined.behind c.in-Some-Some.place c.in-Some-Some.next c.requires.joined (sym c.in-Some-Some.is-0) (sym c.in-Some-Some.is-1) c.requires.named c.requires.runs

pub returns-in-Some-Some-clause-ok : goal.returns-in-Some-Some-clause-ok
returns-in-Some-Some-clause-ok g c =
    on_ok_weaker c.join.result (λ made first all below left.
    both_added g.K.ReassemblyKey.is_key g.K.ReassemblyKey.number g.K.ReassemblyKey.index first c.args.later.now.entries (held_of g.K.ReassemblyKey.number g.K.ReassemblyKey.index c.args.entry) c.args.joined.before c.args.joined.behind c.requires.joined c.requires.named all below left c.join.new.later.entries c.in-Some-Some.place c.in-Some-Some.next (sym c.in-Some-Some.is-0) (sym c.in-Some-Some.is-1)
    (λ front back i d is low up. made front back i d is low up)) c.join.ensures.ok

pub returns-in-Some-Some-clause-err : goal.returns-in-Some-Some-clause-err
returns-in-Some-Some-clause-err g c =
    let x = held_of g.K.ReassemblyKey.number g.K.ReassemblyKey.index c.args.entry in
    let j = c.requires.joined in
    let last = previous_is g.K.ReassemblyKey.is_key g.K.ReassemblyKey.number g.K.ReassemblyKey.index x j.ps c.in-Some-Some.place (sym c.in-Some-Some.is-0 ∙ j.before_is) in
    on_err_weaker c.join.result (λ made.
    same_both g.K.ReassemblyKey.is_key g.K.ReassemblyKey.number g.K.ReassemblyKey.index [] x c.args.later.now.entries j.ps j.qs c.join.new.later.entries (rank_of x) c.in-Some-Some.place c.in-Some-Some.next j.split c.requires.named c.requires.runs last.1 (sym c.in-Some-Some.is-1 ∙ j.behind_is) (λ front back i d is low up. made front back i d is low up)) c.join.ensures.err

pub returns-in-Some-None-clause-ok : goal.returns-in-Some-None-clause-ok
returns-in-Some-None-clause-ok g c =
    on_ok_weaker c.push_back_at.result (λ made first all below left.
    back_added g.K.ReassemblyKey.is_key g.K.ReassemblyKey.number g.K.ReassemblyKey.index first c.args.later.now.entries (held_of g.K.ReassemblyKey.number g.K.ReassemblyKey.index c.args.entry) c.args.joined.before c.args.joined.behind c.requires.joined c.requires.named all below left c.push_back_at.new.later.entries c.in-Some-None.place (sym c.in-Some-None.is-0) (sym c.in-Some-None.is-1)
    (λ front back i is low. made front back i is low)) c.push_back_at.ensures.ok

pub returns-in-Some-None-clause-err : goal.returns-in-Some-None-clause-err
returns-in-Some-None-clause-err g c =
    let x = held_of g.K.ReassemblyKey.number g.K.ReassemblyKey.index c.args.entry in
    let j = c.requires.joined in
    let last = previous_is g.K.ReassemblyKey.is_key g.K.ReassemblyKey.number g.K.ReassemblyKey.index x j.ps c.in-Some-None.place (sym c.in-Some-None.is-0 ∙ j.before_is) in
    on_err_weaker c.push_back_at.result (λ made.
    same_last g.K.ReassemblyKey.is_key g.K.ReassemblyKey.number g.K.ReassemblyKey.index c.args.later.now.entries j.ps j.qs c.push_back_at.new.later.entries (rank_of x) c.in-Some-None.place j.split c.requires.named c.requires.runs last.1 (λ front i is low. made front j.qs i is low)) c.push_back_at.ensures.err

pub returns-in-None-Some-clause-ok : goal.returns-in-None-Some-clause-ok
returns-in-None-Some-clause-ok g c =
    on_ok_weaker c.push_front_at.result (λ made first all below left.
    front_added g.K.ReassemblyKey.is_key g.K.ReassemblyKey.number g.K.ReassemblyKey.index first c.args.later.now.entries (held_of g.K.ReassemblyKey.number g.K.ReassemblyKey.index c.args.entry) c.args.joined.before c.args.joined.behind c.requires.joined c.requires.named all below left c.push_front_at.new.later.entries c.in-None-Some.next (sym c.in-None-Some.is-0) (sym c.in-None-Some.is-1)
    (λ front back i is low. made front back i is low)) c.push_front_at.ensures.ok

pub returns-in-None-Some-clause-err : goal.returns-in-None-Some-clause-err
returns-in-None-Some-clause-err g c =
    let x = held_of g.K.ReassemblyKey.number g.K.ReassemblyKey.index c.args.entry in
    let j = c.requires.joined in
    on_err_weaker c.push_front_at.result (λ made.
    same_next g.K.ReassemblyKey.is_key g.K.ReassemblyKey.number g.K.ReassemblyKey.index [] x c.args.later.now.entries j.ps j.qs c.push_front_at.new.later.entries (rank_of x) c.in-None-Some.next j.split c.requires.named c.requires.runs (sym c.in-None-Some.is-1 ∙ j.behind_is) (λ back i is low. made j.ps back i is low)) c.push_front_at.ensures.err

pub returns-in-None-None-clause-ok : goal.returns-in-None-None-clause-ok
returns-in-None-None-clause-ok g c =
    on_ok_weaker c.put_alone.result (λ made first all below left.
    alone_added g.K.ReassemblyKey.is_key g.K.ReassemblyKey.number g.K.ReassemblyKey.index first c.args.later.now.entries (held_of g.K.ReassemblyKey.number g.K.ReassemblyKey.index c.args.entry) c.args.joined.before c.args.joined.behind c.requires.joined c.requires.named all below left c.put_alone.new.later.entries c.args.entry.key c.known.ensures refl (sym c.in-None-None.is-0) (sym c.in-None-None.is-1)
    (λ front back is low high. made front back is low high)) c.put_alone.ensures.ok

pub returns-in-None-None-clause-err : goal.returns-in-None-None-clause-err
returns-in-None-None-clause-err g c = on_err_weaker c.put_alone.result (λ made. same_entries g.K.ReassemblyKey.is_key g.K.ReassemblyKey.number g.K.ReassemblyKey.index c.args.later.now.entries c.put_alone.new.later.entries c.requires.named made) c.put_alone.ensures.err
