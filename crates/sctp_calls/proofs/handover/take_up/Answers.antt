use Rattle.std.proofs.Common.{◌≡◌, ℕ, List, inl, inr, refl, ap, ◌∙◌}
use Rattle.std.specs.Prelude.{Result, Ok, Err, OnErr, OnOk}
use Rattle.sctp_state.specs.Handover.{HandoverState, handover_state_of}
use Rattle.sctp_tx_queue.specs.SendQueue.{Queue}
use Rattle.spec_endpoint.specs.Association.{Tcb, EndpointState, Open, Established}
use Rattle.spec_endpoint.specs.Shown.{association_in}
use Rattle.spec_endpoint.specs.Sending.{AfterSending}
use Rattle.spec_endpoint.specs.Handover as table
use Rattle.sctp_endpoint.specs.Views.{ContextValue, context_of, endpoint_state_of, tcb_of, after_sending_of}
use Rattle.sctp_endpoint.proofs.GoesOnLemmas.{goes_on_from, goes_on_through, with_behind, with_quiet}
use Rattle.sctp_endpoint.proofs.QuietLemmas.{quietly_same}
use Rattle.sctp_calls.proofs.handover.take_up.Goals as goal

where_err : {T F P : Type 0} (r : Result T F) → P → OnErr r P
where_err (Ok x) p = record {}
where_err (Err x) p = p

pub returns-in_err-restore_from_state-clause-goes_on : goal.returns-in_err-restore_from_state-clause-goes_on
returns-in_err-restore_from_state-clause-goes_on g c =
    with_quiet c.args.context.now _ _ (goes_on_from c.args.context.now _ _ c.context.view_is (quietly_same c.context.inside.events) refl)

pub returns-in_err-tcb-clause-goes_on : goal.returns-in_err-tcb-clause-goes_on
returns-in_err-tcb-clause-goes_on g c =
    with_quiet c.args.context.now _ _ (goes_on_from c.args.context.now _ _ c.context.view_is (quietly_same c.context.inside.events) refl)

pub returns-clause-goes_on : goal.returns-clause-goes_on
returns-clause-goes_on g c =
    with_behind c.args.context.now c.wake.new.context c.go_on.new.context _
    (goes_on_through c.args.context.now _ c.wake.new.context (goes_on_from c.args.context.now _ _ c.context.view_is (quietly_same c.context.inside.events) refl) c.wake.ensures.goes_on)
    c.go_on.ensures.goes_on

woken_as : {C : Type 0} (w : C → List ℕ → ℕ) (h : HandoverState) (c v : ContextValue C) (q : Queue) (t : Tcb) → v ≡ c
    → q ≡ (table.context_restored h (context_of w v)).queue → t ≡ table.tcb_from v.clock v.options h
    → table.woken_if v.options.avoid_stalls t (record (context_of w v) { queue = q; last_tag = h.my_verification_tag }) ≡ table.woken_if c.options.avoid_stalls (table.tcb_from c.clock c.options h) (table.context_restored h (context_of w c))
woken_as {C} w h c v q t is queue block =
    ap (λ (u : Tcb). table.woken_if v.options.avoid_stalls u (record (context_of w v) { queue = q; last_tag = h.my_verification_tag })) block
    ∙ ap (λ (p : Queue). table.woken_if v.options.avoid_stalls (table.tcb_from v.clock v.options h) (record (context_of w v) { queue = p; last_tag = h.my_verification_tag })) queue
    ∙ ap (λ (u : ContextValue C). table.woken_if u.options.avoid_stalls (table.tcb_from u.clock u.options h) (table.context_restored h (context_of w u))) is

taken_up : {C T F : Type 0} (r : Result T F) (w : C → List ℕ → ℕ) (h : HandoverState) (c v : ContextValue C) (q : Queue) (t : Tcb) (x : AfterSending (List ℕ)) (s : EndpointState (List ℕ)) → v ≡ c
    → q ≡ (table.context_restored h (context_of w v)).queue → t ≡ table.tcb_from v.clock v.options h
    → x ≡ table.woken_if v.options.avoid_stalls t (record (context_of w v) { queue = q; last_tag = h.my_verification_tag })
    → OnOk r (s ≡ table.goes_on x) → OnOk r (s ≡ table.take_up h (context_of w c))
taken_up (Ok y) w h c v q t x s is queue block woken ok = ok ∙ ap (λ (u : AfterSending (List ℕ)). table.goes_on u) (woken ∙ woken_as w h c v q t is queue block)
taken_up (Err y) w h c v q t x s is queue block woken ok = record {}

pub returns-clause-ok : goal.returns-clause-ok
returns-clause-ok g c =
    let word_of = g.C.Checksum.word_of in
    taken_up c.go_on.result word_of (handover_state_of c.args.handed_over.now) c.args.context.now _ c.restore_from_state.new.self _
    (after_sending_of word_of c.wake.new.tcb c.wake.new.context) (endpoint_state_of word_of c.go_on.new.state c.go_on.new.context)
    c.context.view_is c.in_ok-restore_from_state.ensures.ok c.in_ok-tcb.ensures c.wake.ensures.ok c.go_on.ensures.ok

held_as : {C : Type 0} (h : HandoverState) (c v : ContextValue C) (t u : Tcb) → v ≡ c → t ≡ table.tcb_from v.clock v.options h → association_in (Open Established u) ≡ association_in (Open Established t)
    → association_in (Open Established u) ≡ association_in (Open Established (table.tcb_from c.clock c.options h))
held_as {C} h c v t u is block same =
    same ∙ ap (λ (x : Tcb). association_in (Open Established x)) block ∙ ap (λ (x : ContextValue C). association_in (Open Established (table.tcb_from x.clock x.options h))) is

pub returns-clause-held : goal.returns-clause-held
returns-clause-held g c =
    where_err c.go_on.result (inr (c.go_on.ensures.association ∙ held_as (handover_state_of c.args.handed_over.now) c.args.context.now _ _ (tcb_of c.wake.new.tcb) c.context.view_is c.in_ok-tcb.ensures c.wake.ensures.association))

pub returns-clause-association : goal.returns-clause-association
returns-clause-association g c =
    inr (c.go_on.ensures.association ∙ held_as (handover_state_of c.args.handed_over.now) c.args.context.now _ _ (tcb_of c.wake.new.tcb) c.context.view_is c.in_ok-tcb.ensures c.wake.ensures.association)

emitted_kept : {C : Type 0} (c v : ContextValue C) → v ≡ c → v.emitted ≡ c.emitted
emitted_kept {C} c v is = ap (λ (u : ContextValue C). u.emitted) is

pub returns-in_err-restore_from_state-clause-held : goal.returns-in_err-restore_from_state-clause-held
returns-in_err-restore_from_state-clause-held g c = where_err c.from_residual.result (inl (emitted_kept c.args.context.now _ c.context.view_is))

pub returns-in_err-tcb-clause-held : goal.returns-in_err-tcb-clause-held
returns-in_err-tcb-clause-held g c = where_err c.from_residual-in_err-tcb.result (inl (emitted_kept c.args.context.now _ c.context.view_is))

pub returns-in_err-restore_from_state-clause-association : goal.returns-in_err-restore_from_state-clause-association
returns-in_err-restore_from_state-clause-association g c = inl refl

pub returns-in_err-tcb-clause-association : goal.returns-in_err-tcb-clause-association
returns-in_err-tcb-clause-association g c = inl refl
