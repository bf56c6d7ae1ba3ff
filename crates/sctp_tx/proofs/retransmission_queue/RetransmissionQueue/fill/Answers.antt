use Rattle.std.proofs.Common.{◌++◌, ℕ, List, [], suc, length, refl, sym, ap, ◌∙◌, arith}
use Rattle.std.specs.Prelude.{nat_lt}
use Rattle.sctp_chunk.specs.Chunk.{FragmentTree}
use Rattle.sctp_tx.specs.Sending.{Filling, filling, next_turn}
use Rattle.sctp_tx.specs.Taken.{taken_all}
use Rattle.sctp_tx.proofs.PartlyLemmas.{on_err, turned_none, turned_on, turned_stops}
use Rattle.sctp_tx.proofs.TakenLemmas.{ended_with, goes_with, none_more, on_with, some_joined, some_more, stopped_with, taken_append, with_none}
use Rattle.sctp_tx.proofs.retransmission_queue.RetransmissionQueue.fill.Goals as goal

pub loop-rest-init : goal.loop-rest-init
loop-rest-init g c = ([], suc c.args.opportunity.max_bytes, omega arith, c.requires.small, refl, turned_none c.args.opportunity.now (filling c.args.self.now c.args.queue.now c.args.events.now [] c.args.opportunity.max_bytes), refl, refl)

pub loop-rest-preserved : goal.loop-rest-preserved
loop-rest-preserved g c =
    let here = c.loop-rest in
    let new = c.add_new.new in
    let said = c.in_ok-rest.ensures in
    let cs : List (ℕ × FragmentTree) = here.invariant.0 in
    let ds : List (ℕ × FragmentTree) = (next_turn c.args.opportunity.now (filling here.self here.queue here.events [] here.left)).filling.chunks in
    let is_as = c.at.ensures in
    let sender = rw is_as at said.sender in
    let queue = rw is_as at said.queue in
    let emitted = rw is_as at said.emitted in
    let left = rw is_as at (rw c.in-Some.is at said.left) in
    let more = sym (rw is_as at (rw c.in-Some.is at said.more)) in
    let less = rw is_as at (rw c.in-Some.is at said.less) in
    let on = goes_with c.args.opportunity.now here.left here.self here.queue here.events cs new.self new.queue new.events c.in-Some.rest sender queue emitted left
    here.invariant.1 _ here.invariant.2 here.invariant.4 more less in
    let is = on_with c.args.opportunity.now here.left here.self here.queue here.events cs new.self new.queue new.events c.in-Some.rest sender queue emitted left in (
      cs ++ ds,
      on.0,
      on.1,
      omega (arith, here.invariant.3, less),
      on.2,
      turned_on c.args.opportunity.now _ (filling here.self here.queue here.events cs here.left) here.invariant.5 (filling new.self new.queue new.events (cs ++ ds) c.in-Some.rest) is,
      (rw is_as at said.packet) ∙ ap (taken_all (g.P.TakesFragments.taken c.args.opportunity.form) ds) here.invariant.6 ∙ sym (taken_append (g.P.TakesFragments.taken c.args.opportunity.form) cs ds _),
      some_joined cs ds (some_more c.args.opportunity.now here.left here.self here.queue here.events more),
    )

pub returns-clause-sender : goal.returns-clause-sender
returns-clause-sender g c =
    let here = c.loop-rest in
    (rw c.at.ensures at c.in_ok-rest.ensures.sender) ∙ ap (λ (f : Filling (List ℕ)). f.sender)
    (ended_with c.args.opportunity.now here.left here.self here.queue here.events here.invariant.0 here.invariant.1 _ here.invariant.2 here.invariant.4
    (sym (rw c.at.ensures at (rw c.in_default.is at c.in_ok-rest.ensures.more))))

pub returns-clause-queue : goal.returns-clause-queue
returns-clause-queue g c =
    let here = c.loop-rest in
    (rw c.at.ensures at c.in_ok-rest.ensures.queue) ∙ ap (λ (f : Filling (List ℕ)). f.queue)
    (ended_with c.args.opportunity.now here.left here.self here.queue here.events here.invariant.0 here.invariant.1 _ here.invariant.2 here.invariant.4
    (sym (rw c.at.ensures at (rw c.in_default.is at c.in_ok-rest.ensures.more))))

pub returns-clause-emitted : goal.returns-clause-emitted
returns-clause-emitted g c =
    let here = c.loop-rest in
    (rw c.at.ensures at c.in_ok-rest.ensures.emitted) ∙ ap (λ (f : Filling (List ℕ)). f.emitted)
    (ended_with c.args.opportunity.now here.left here.self here.queue here.events here.invariant.0 here.invariant.1 _ here.invariant.2 here.invariant.4
    (sym (rw c.at.ensures at (rw c.in_default.is at c.in_ok-rest.ensures.more))))

pub returns-clause-packet : goal.returns-clause-packet
returns-clause-packet g c =
    let here = c.loop-rest in
    let cs : List (ℕ × FragmentTree) = here.invariant.0 in
    let ds : List (ℕ × FragmentTree) = (next_turn c.args.opportunity.now (filling here.self here.queue here.events [] here.left)).filling.chunks in
    let end = ended_with c.args.opportunity.now here.left here.self here.queue here.events cs here.invariant.1 _ here.invariant.2 here.invariant.4 (sym (rw c.at.ensures at (rw c.in_default.is at c.in_ok-rest.ensures.more))) in
    (rw c.at.ensures at c.in_ok-rest.ensures.packet) ∙ (ap (taken_all (g.P.TakesFragments.taken c.args.opportunity.form) ds) here.invariant.6
    ∙ (sym (taken_append (g.P.TakesFragments.taken c.args.opportunity.form) cs ds _) ∙ ap (λ (f : Filling (List ℕ)). taken_all (g.P.TakesFragments.taken c.args.opportunity.form) f.chunks c.args.packet.now) end))

pub returns-clause-sent : goal.returns-clause-sent
returns-clause-sent g c =
    let here = c.loop-rest in
    let cs : List (ℕ × FragmentTree) = here.invariant.0 in
    let stop = sym (rw c.at.ensures at (rw c.in_default.is at c.in_ok-rest.ensures.more)) in
    let none = none_more c.args.opportunity.now here.left here.self here.queue here.events stop in
    let end = ended_with c.args.opportunity.now here.left here.self here.queue here.events cs here.invariant.1 _ here.invariant.2 here.invariant.4 stop in
    here.invariant.7 ∙ (ap (λ (l : List (ℕ × FragmentTree)). nat_lt 0 (length l)) (sym (ap (λ (l : List (ℕ × FragmentTree)). cs ++ l) none ∙ with_none cs))
    ∙ ap (λ (f : Filling (List ℕ)). nat_lt 0 (length f.chunks)) end)

pub returns-in_err-rest-clause-err : goal.returns-in_err-rest-clause-err
returns-in_err-rest-clause-err g c =
    let here = c.loop-rest in
    let new = c.add_new.new in
    let stopped = stopped_with c.args.opportunity.now here.left here.self here.queue here.events [] here.invariant.0 new.self new.queue new.events (rw c.at.ensures at c.in_err-rest.ensures.err) in
    on_err _ _ (turned_stops c.args.opportunity.now _ (filling here.self here.queue here.events here.invariant.0 here.left) here.invariant.5 new.self new.queue new.events stopped)
