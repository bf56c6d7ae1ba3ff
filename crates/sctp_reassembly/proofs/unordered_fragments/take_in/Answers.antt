use Rattle.std.proofs.Common.{◌≡◌, false, inr, ◌++◌, ap, sym, subst, ◌∙◌, arith, rules}
use Rattle.std.proofs.lemmas.Result.{on_ok_weaker}
use Rattle.sctp_fragments.specs.Held.{intervals_of, is_complete, left_by, NoneComplete}
use Rattle.sctp_fragments.specs.Interval.{as_held, held_of, run_of}
use Rattle.sctp_reassembly.specs.Delivery.{first_complete}
use Rattle.sctp_reassembly.proofs.FindLemmas.{left_none}
use Rattle.sctp_reassembly.proofs.DeliverLemmas.{added_none, nothing_more, first_complete_none, none_incomplete, none_taken, left_taken, found_taken}
use Rattle.sctp_reassembly.proofs.InterruptedLemmas.{on_err}
use Rattle.sctp_reassembly.proofs.unordered_fragments.take_in.Goals as goal

pub returns-then-not-branch-clause-held : goal.returns-then-not-branch-clause-held
returns-then-not-branch-clause-held g c =
    let off : c.in_ok-add.field-0 ≡ false = search rules in
    let same = added_none c.args.list.now c.add.new.self (as_held (g.K.ReassemblyKey.number c.args.key) (g.K.ReassemblyKey.index c.args.key) c.args.fragment) c.in_ok-add.field-0 c.in_ok-add.ensures.value c.in_ok-add.ensures.answer off in
    let none = subst (λ t. NoneComplete (intervals_of t)) (sym same) c.requires.settled in
    sym (left_none is_complete c.add.new.self none) ∙ ap (left_by is_complete) c.in_ok-add.ensures.value

pub returns-then-not-branch-clause-ready : goal.returns-then-not-branch-clause-ready
returns-then-not-branch-clause-ready g c =
    let off : c.in_ok-add.field-0 ≡ false = search rules in
    let same = added_none c.args.list.now c.add.new.self (as_held (g.K.ReassemblyKey.number c.args.key) (g.K.ReassemblyKey.index c.args.key) c.args.fragment) c.in_ok-add.field-0 c.in_ok-add.ensures.value c.in_ok-add.ensures.answer off in
    let none = subst (λ t. NoneComplete (intervals_of t)) (sym same) c.requires.settled in
    nothing_more c.args.ready.now _ (ap first_complete (sym c.in_ok-add.ensures.value) ∙ first_complete_none c.add.new.self none)

pub returns-in_default-clause-held : goal.returns-in_default-clause-held
returns-in_default-clause-held g c =
    let placed = c.in_ok-add.ensures.place (search rules) in
    let none = none_incomplete c.args.list.now c.add.new.self (as_held (g.K.ReassemblyKey.number c.args.key) (g.K.ReassemblyKey.index c.args.key) c.args.fragment) c.requires.settled placed c.in_default.ensures.incomplete in
    c.in_default.ensures.none ∙ (sym (left_none is_complete c.add.new.self none) ∙ ap (left_by is_complete) c.in_ok-add.ensures.value)

pub returns-in_default-clause-ready : goal.returns-in_default-clause-ready
returns-in_default-clause-ready g c =
    let placed = c.in_ok-add.ensures.place (search rules) in
    let none = none_incomplete c.args.list.now c.add.new.self (as_held (g.K.ReassemblyKey.number c.args.key) (g.K.ReassemblyKey.index c.args.key) c.args.fragment) c.requires.settled placed c.in_default.ensures.incomplete in
    nothing_more c.args.ready.now _ (ap first_complete (sym c.in_ok-add.ensures.value) ∙ first_complete_none c.add.new.self none)

pub returns-in_default-clause-settled : goal.returns-in_default-clause-settled
returns-in_default-clause-settled g c =
    let placed = c.in_ok-add.ensures.place (search rules) in
    let none = none_incomplete c.args.list.now c.add.new.self (as_held (g.K.ReassemblyKey.number c.args.key) (g.K.ReassemblyKey.index c.args.key) c.args.fragment) c.requires.settled placed c.in_default.ensures.incomplete in
    subst (λ t. NoneComplete (intervals_of t)) (sym c.in_default.ensures.none) none

pub returns-clause-settled : goal.returns-clause-settled
returns-clause-settled g c =
    let placed = c.in_ok-add.ensures.place (search rules) in
    none_taken c.args.list.now c.add.new.self (as_held (g.K.ReassemblyKey.number c.args.key) (g.K.ReassemblyKey.index c.args.key) c.args.fragment) c.requires.settled placed (run_of (held_of g.K.ReassemblyKey.number g.K.ReassemblyKey.index) c.in-Some.interval) c.pop_if_complete.new.self c.in-Some.ensures.held c.in-Some.ensures.taken

pub returns-clause-held : goal.returns-clause-held
returns-clause-held g c =
    let placed = c.in_ok-add.ensures.place (search rules) in
    let left = left_taken c.args.list.now c.add.new.self (as_held (g.K.ReassemblyKey.number c.args.key) (g.K.ReassemblyKey.index c.args.key) c.args.fragment) c.requires.settled placed (run_of (held_of g.K.ReassemblyKey.number g.K.ReassemblyKey.index) c.in-Some.interval) c.pop_if_complete.new.self c.in-Some.ensures.held c.in-Some.ensures.taken in
    on_ok_weaker c.push_complete.result (λ e. left ∙ ap (left_by is_complete) c.in_ok-add.ensures.value) c.push_complete.ensures.ok

pub returns-clause-ready : goal.returns-clause-ready
returns-clause-ready g c =
    let placed = c.in_ok-add.ensures.place (search rules) in
    let one = found_taken c.args.list.now c.add.new.self (as_held (g.K.ReassemblyKey.number c.args.key) (g.K.ReassemblyKey.index c.args.key) c.args.fragment) c.requires.settled placed (run_of (held_of g.K.ReassemblyKey.number g.K.ReassemblyKey.index) c.in-Some.interval) c.pop_if_complete.new.self c.in-Some.ensures.held c.in-Some.ensures.taken in
    on_ok_weaker c.push_complete.result (λ e. e ∙ ap (λ ms. c.args.ready.now ++ ms) (sym one ∙ ap first_complete c.in_ok-add.ensures.value)) c.push_complete.ensures.ok

pub returns-clause-fragments : goal.returns-clause-fragments
returns-clause-fragments g c = omega (arith, c.in_ok-add.ensures.fragments, c.in-Some.ensures.fragments)

pub push_complete-requires : goal.push_complete-requires
push_complete-requires g c = omega (arith, c.requires.room, c.in_ok-add.ensures.bytes, c.in-Some.ensures.bytes)

pub returns-clause-bytes : goal.returns-clause-bytes
returns-clause-bytes g c = omega (arith, c.push_complete.ensures.bytes, c.in_ok-add.ensures.bytes, c.in-Some.ensures.bytes)

pub returns-clause-err : goal.returns-clause-err
returns-clause-err g c =
    let placed = c.in_ok-add.ensures.place (search rules) in
    let left = left_taken c.args.list.now c.add.new.self (as_held (g.K.ReassemblyKey.number c.args.key) (g.K.ReassemblyKey.index c.args.key) c.args.fragment) c.requires.settled placed (run_of (held_of g.K.ReassemblyKey.number g.K.ReassemblyKey.index) c.in-Some.interval) c.pop_if_complete.new.self c.in-Some.ensures.held c.in-Some.ensures.taken in
    on_err c.push_complete.result (inr (left ∙ ap (left_by is_complete) c.in_ok-add.ensures.value))
