use Rattle.std.proofs.Common.{◌≡◌, ℕ, List, refl, ap, sym, ◌∙◌}
use Rattle.std.specs.Prelude.{Result, Ok, Err, OnErr, OnOk}
use Rattle.sctp_state.specs.declared.api.errors.SendError.{SendError}
use Rattle.sctp_state.specs.Events.{emit_events}
use Rattle.sctp_endpoint.specs.Views.{ContextValue, context_of}
use Rattle.spec_endpoint.specs.Association.{Context}
use Rattle.spec_endpoint.specs.Calls.{refusal_events}
use Rattle.sctp_calls.proofs.calls.emit_refusal.Goals as goal

refused : {T F : Type 0} (r : Result T F) (c x : Context (List ℕ)) (e f : SendError) → e ≡ f
    → OnOk r (x ≡ record c { emitted = emit_events (refusal_events f) c.emitted }) → OnOk r (x ≡ record c { emitted = emit_events (refusal_events e) c.emitted })
refused (Ok y) c x e f is ok = ok ∙ ap (λ (u : SendError). record c { emitted = emit_events (refusal_events u) c.emitted }) (sym is)
refused (Err y) c x e f is ok = record {}

queue_kept : {C T F : Type 0} (r : Result T F) (w : C → List ℕ → ℕ) (c d : ContextValue C) (x : Context (List ℕ)) → x.queue ≡ c.queue → OnOk r (context_of w d ≡ x) → OnErr r (d ≡ c) → d.queue ≡ c.queue
queue_kept (Ok y) w c d x q ok err = ap (λ (u : Context (List ℕ)). u.queue) ok ∙ q
queue_kept {C} (Err y) w c d x q ok err = ap (λ (u : ContextValue C). u.queue) err

pub returns-in-EmptyPayload-clause-ok : goal.returns-in-EmptyPayload-clause-ok
returns-in-EmptyPayload-clause-ok g c =
    let word_of = g.C.Checksum.word_of in
    refused c.emit_error.result (context_of word_of c.args.context.now) (context_of word_of c.emit_error.new.self) c.args.refusal.now _ c.in-EmptyPayload.is c.emit_error.ensures.ok

pub returns-in-EmptyPayload-clause-goes_on : goal.returns-in-EmptyPayload-clause-goes_on
returns-in-EmptyPayload-clause-goes_on g c = c.emit_error.ensures.goes_on

pub returns-in-EmptyPayload-clause-kept : goal.returns-in-EmptyPayload-clause-kept
returns-in-EmptyPayload-clause-kept g c = queue_kept c.emit_error.result g.C.Checksum.word_of c.args.context.now c.emit_error.new.self _ refl c.emit_error.ensures.ok c.emit_error.ensures.err

pub returns-in-MessageTooLarge-clause-ok : goal.returns-in-MessageTooLarge-clause-ok
returns-in-MessageTooLarge-clause-ok g c =
    let word_of = g.C.Checksum.word_of in
    refused c.emit_error-in-MessageTooLarge.result (context_of word_of c.args.context.now) (context_of word_of c.emit_error-in-MessageTooLarge.new.self) c.args.refusal.now _ c.in-MessageTooLarge.is c.emit_error-in-MessageTooLarge.ensures.ok

pub returns-in-MessageTooLarge-clause-goes_on : goal.returns-in-MessageTooLarge-clause-goes_on
returns-in-MessageTooLarge-clause-goes_on g c = c.emit_error-in-MessageTooLarge.ensures.goes_on

pub returns-in-MessageTooLarge-clause-kept : goal.returns-in-MessageTooLarge-clause-kept
returns-in-MessageTooLarge-clause-kept g c = queue_kept c.emit_error-in-MessageTooLarge.result g.C.Checksum.word_of c.args.context.now c.emit_error-in-MessageTooLarge.new.self _ refl c.emit_error-in-MessageTooLarge.ensures.ok c.emit_error-in-MessageTooLarge.ensures.err

pub returns-in-ShuttingDown-clause-ok : goal.returns-in-ShuttingDown-clause-ok
returns-in-ShuttingDown-clause-ok g c =
    let word_of = g.C.Checksum.word_of in
    refused c.emit_error-in-ShuttingDown.result (context_of word_of c.args.context.now) (context_of word_of c.emit_error-in-ShuttingDown.new.self) c.args.refusal.now _ c.in-ShuttingDown.is c.emit_error-in-ShuttingDown.ensures.ok

pub returns-in-ShuttingDown-clause-goes_on : goal.returns-in-ShuttingDown-clause-goes_on
returns-in-ShuttingDown-clause-goes_on g c = c.emit_error-in-ShuttingDown.ensures.goes_on

pub returns-in-ShuttingDown-clause-kept : goal.returns-in-ShuttingDown-clause-kept
returns-in-ShuttingDown-clause-kept g c = queue_kept c.emit_error-in-ShuttingDown.result g.C.Checksum.word_of c.args.context.now c.emit_error-in-ShuttingDown.new.self _ refl c.emit_error-in-ShuttingDown.ensures.ok c.emit_error-in-ShuttingDown.ensures.err

pub returns-in-ResourceExhaustion-clause-ok : goal.returns-in-ResourceExhaustion-clause-ok
returns-in-ResourceExhaustion-clause-ok g c =
    let word_of = g.C.Checksum.word_of in
    refused c.emit_error-in-ResourceExhaustion.result (context_of word_of c.args.context.now) (context_of word_of c.emit_error-in-ResourceExhaustion.new.self) c.args.refusal.now _ c.in-ResourceExhaustion.is c.emit_error-in-ResourceExhaustion.ensures.ok

pub returns-in-ResourceExhaustion-clause-goes_on : goal.returns-in-ResourceExhaustion-clause-goes_on
returns-in-ResourceExhaustion-clause-goes_on g c = c.emit_error-in-ResourceExhaustion.ensures.goes_on

pub returns-in-ResourceExhaustion-clause-kept : goal.returns-in-ResourceExhaustion-clause-kept
returns-in-ResourceExhaustion-clause-kept g c = queue_kept c.emit_error-in-ResourceExhaustion.result g.C.Checksum.word_of c.args.context.now c.emit_error-in-ResourceExhaustion.new.self _ refl c.emit_error-in-ResourceExhaustion.ensures.ok c.emit_error-in-ResourceExhaustion.ensures.err
