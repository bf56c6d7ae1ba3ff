use Rattle.std.proofs.Common.{◌≡◌, ℕ, List, map, take, ap, sym, subst, ◌∙◌, rules}
use Rattle.std.specs.Prelude.{filter}
use Rattle.std.specs.Map.{keys_of}
use Rattle.sctp_tx_queue.specs.SendQueue.{Queue}
use Rattle.sctp_tx_queue.specs.Restarted.{each_restarted, may_differ, after_reset, unbegun, ResetKeeps, NumbersGoOn, SomeRestarted}
use Rattle.sctp_tx_queue.proofs.RestartLemmas.{restarted_numbers}
use Rattle.sctp_tx_queue.proofs.SettledLemmas.{reset_is, reset_keeps, reset_some}
use Rattle.sctp_tx_queue.proofs.send_queue.SendQueue.reset_changed.Goals as goal

pub returns-in_err-are_settled-clause-numbers : goal.returns-in_err-are_settled-clause-numbers
returns-in_err-are_settled-clause-numbers c =
    let q = c.args.self.now in
    let some = c.in_err-are_settled.ensures.err in
    subst (λ (t : Queue). NumbersGoOn q t) (sym some.1) (restarted_numbers (take some.0 (map (λ id. id.0) c.deref.result.now)) q)

pub returns-in_err-are_settled-clause-err : goal.returns-in_err-are_settled-clause-err
returns-in_err-are_settled-clause-err c =
    let q = c.args.self.now in
    let some = c.in_err-are_settled.ensures.err in
    let keeps : ResetKeeps c.self.inside.changed q = subst (λ (t : Queue). ResetKeeps c.self.inside.changed t) c.self.view_is c.self.invariant in
    let ids : map (λ id. id.0) c.deref.result.now ≡ filter (may_differ c.self.inside.changed) (keys_of q.streams.entries) =
    ap (λ items. map (λ id. id.0) items) c.deref.ensures.value
    ∙ c.in_ok-ids.ensures
    ∙ ap (λ (t : Queue). filter (may_differ c.self.inside.changed) (keys_of t.streams.entries)) c.self.view_is in
    let left : SomeRestarted q c.restart_all.new.self = reset_some c.self.inside.changed some.0 q c.restart_all.new.self (map (λ id. id.0) c.deref.result.now) keeps ids some.1 in
    search (rules, left)

pub invariant_of-self : goal.invariant_of-self
invariant_of-self c =
    let q = c.args.self.now in
    let keeps : ResetKeeps c.self.inside.changed q = subst (λ (t : Queue). ResetKeeps c.self.inside.changed t) c.self.view_is c.self.invariant in
    let ids : map (λ id. id.0) c.deref.result.now ≡ filter (may_differ c.self.inside.changed) (keys_of q.streams.entries) =
    ap (λ items. map (λ id. id.0) items) c.deref.ensures.value
    ∙ c.in_ok-ids.ensures
    ∙ ap (λ (t : Queue). filter (may_differ c.self.inside.changed) (keys_of t.streams.entries)) c.self.view_is in
    let kept : ResetKeeps (after_reset c.in_ok-are_settled.are_settled) (unbegun c.restart_all.new.self) =
    reset_keeps c.self.inside.changed q c.restart_all.new.self (map (λ id. id.0) c.deref.result.now) c.in_ok-are_settled.are_settled keeps ids c.in_ok-are_settled.ensures.ok c.in_ok-are_settled.ensures.settled in
    let here : ResetKeeps c.after_reset.result (unbegun c.restart_all.new.self) = subst (λ o. ResetKeeps o (unbegun c.restart_all.new.self)) (sym c.after_reset.ensures) kept in
    subst (λ (t : Queue). ResetKeeps c.after_reset.result (unbegun t)) (sym c.self-2.view_is) here

pub returns-clause-ok : goal.returns-clause-ok
returns-clause-ok c =
    let q = c.args.self.now in
    let keeps : ResetKeeps c.self.inside.changed q = subst (λ (t : Queue). ResetKeeps c.self.inside.changed t) c.self.view_is c.self.invariant in
    let ids : map (λ id. id.0) c.deref.result.now ≡ filter (may_differ c.self.inside.changed) (keys_of q.streams.entries) =
    ap (λ items. map (λ id. id.0) items) c.deref.ensures.value
    ∙ c.in_ok-ids.ensures
    ∙ ap (λ (t : Queue). filter (may_differ c.self.inside.changed) (keys_of t.streams.entries)) c.self.view_is in
    ap unbegun c.self-2.view_is
    ∙ reset_is c.self.inside.changed q c.restart_all.new.self (map (λ id. id.0) c.deref.result.now) keeps ids c.in_ok-are_settled.ensures.ok

pub returns-clause-numbers : goal.returns-clause-numbers
returns-clause-numbers c =
    let q = c.args.self.now in
    let ids : List ℕ = map (λ id. id.0) c.deref.result.now in
    let is : c.restart_all.new.self ≡ each_restarted ids q = c.in_ok-are_settled.ensures.ok in
    let h : NumbersGoOn q c.restart_all.new.self = subst (λ (t : Queue). NumbersGoOn q t) (sym is) (restarted_numbers ids q) in
    let k = rw (← c.self-2.view_is) at h in
    record { next = k.next; waiting = k.waiting }
