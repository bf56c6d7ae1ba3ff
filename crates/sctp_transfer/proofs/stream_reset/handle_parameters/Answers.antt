use Rattle.std.proofs.Common.{◌≡◌, Bool, true, false, List, ◌∷◌, map, sym, ap, ◌∙◌}
use Rattle.std.specs.Prelude.{◌&&◌, ◌||◌}
use Rattle.sctp_wire.specs.Parameter.{ParameterTree}
use Rattle.sctp_reassembly.proofs.ExtendsLemmas.{extends_both}
use Rattle.spec_endpoint.specs.StreamReset.{Handling, is_outgoing, on_parameter, handled_parameters, handle_next, handle_all}
use Rattle.sctp_endpoint.proofs.GoesOnLemmas.{goes_on_through}
use Rattle.sctp_parameter.specs.ParameterViews.{parameter_tree}
use Rattle.sctp_endpoint.specs.Views.{handling_of}
use Rattle.sctp_transfer.proofs.stream_reset.handle_parameters.Goals.{else-is_outgoing-via-then-is_outgoing+else-has_outgoing, else-is_outgoing-via-else-is_outgoing, then-is_outgoing-2, else-is_outgoing-2}
use Rattle.sctp_transfer.proofs.stream_reset.handle_parameters.Goals as goal

-- one parameter more, which is no second request
handled_one : {A P : Type 0} (f : A → ParameterTree) (ps rest : List A) (p : A) (has now : Bool) (x y : Handling P) → ps ≡ p ∷ rest → (is_outgoing (f p) && has) ≡ false
    → now ≡ (is_outgoing (f p) || has) → y ≡ on_parameter (f p) x → handle_all (map f rest) now y ≡ handle_all (map f ps) has x
handled_one {P = P} f ps rest p has now x y items first told done =
    ap (λ h. handle_all (map f rest) h y) told
    ∙ (ap (λ (z : Handling P). handle_all (map f rest) (is_outgoing (f p) || has) z) done
    ∙ (sym (ap (λ b. handle_next b (handle_all (map f rest) (is_outgoing (f p) || has)) (f p) x) first) ∙ sym (ap (λ qs. handle_all (map f qs) has x) items)))

-- a second request ends it
stopped_at : {A P : Type 0} (f : A → ParameterTree) (ps rest : List A) (p : A) (has : Bool) (x : Handling P) → ps ≡ p ∷ rest → is_outgoing (f p) ≡ true → has ≡ true
    → handled_parameters false x ≡ handle_all (map f ps) has x
stopped_at f ps rest p has x items out had =
    sym (ap (λ qs. handle_all (map f qs) has x) items
    ∙ (ap (λ b. handle_next (b && has) (handle_all (map f rest) (b || has)) (f p) x) out ∙ ap (λ h. handle_next h (handle_all (map f rest) true) (f p) x) had))

pub loop-parameter-preserved : goal.loop-parameter-preserved
loop-parameter-preserved g c =
    let was = c.loop-parameter.invariant in
    let is = c.in_ok-handle_parameter.ensures in
    let has = c.loop-parameter.has_outgoing in
    let says = sym c.is_outgoing-is_outgoing.ensures in
    let first : (is_outgoing (parameter_tree c.in-Some.parameter) && has) ≡ false = elim c.else-is_outgoing.branch [
      | else-is_outgoing-via-then-is_outgoing+else-has_outgoing w ↦ ap (λ b. b && has) (says ∙ w.if-is_outgoing.true) ∙ w.if-has_outgoing.false
      | else-is_outgoing-via-else-is_outgoing w ↦ ap (λ b. b && has) (says ∙ w.if-is_outgoing.false)
    ] in
    let told : c.if-is_outgoing-2.has_outgoing ≡ (is_outgoing (parameter_tree c.in-Some.parameter) || has) = elim c.if-is_outgoing-2.branch [
      | then-is_outgoing-2 w ↦ w.has_outgoing-is ∙ (w.if-is_outgoing-2.true ∙ sym (ap (λ b. b || has) (says ∙ w.if-is_outgoing-2.true)))
      | else-is_outgoing-2 w ↦ w.has_outgoing-is ∙ sym (ap (λ b. b || has) (says ∙ w.if-is_outgoing-2.false))
    ] in record {
      handled = handled_one parameter_tree c.loop-parameter.parameter-iterator.rest.items c.next.new.self.rest.items c.in-Some.parameter has c.if-is_outgoing-2.has_outgoing
          (handling_of g.C.Checksum.word_of c.loop-parameter.tcb c.loop-parameter.context (map parameter_tree c.loop-parameter.responses.items)) _
          c.in-Some.ensures.steps.0 first told is.ok ∙ was.handled;
      goes_on = goes_on_through c.args.context.now c.loop-parameter.context c.handle_parameter.new.context was.goes_on is.goes_on;
      ready = extends_both _ _ _ was.ready is.ready;
      identity = is.identity ∙ was.identity;
    }

pub returns-then-has_outgoing-clause-ok : goal.returns-then-has_outgoing-clause-ok
returns-then-has_outgoing-clause-ok g c =
    stopped_at parameter_tree c.loop-parameter.parameter-iterator.rest.items c.next.new.self.rest.items c.in-Some.parameter c.loop-parameter.has_outgoing
    (handling_of g.C.Checksum.word_of c.loop-parameter.tcb c.loop-parameter.context (map parameter_tree c.loop-parameter.responses.items))
    c.in-Some.ensures.steps.0 (sym c.is_outgoing-is_outgoing.ensures ∙ c.if-is_outgoing.true) c.if-has_outgoing.true ∙ c.loop-parameter.invariant.handled

pub returns-then-has_outgoing-clause-goes_on : goal.returns-then-has_outgoing-clause-goes_on
returns-then-has_outgoing-clause-goes_on g c = c.loop-parameter.invariant.goes_on

pub returns-then-has_outgoing-clause-ready : goal.returns-then-has_outgoing-clause-ready
returns-then-has_outgoing-clause-ready g c = c.loop-parameter.invariant.ready

pub returns-in_err-handle_parameter-clause-goes_on : goal.returns-in_err-handle_parameter-clause-goes_on
returns-in_err-handle_parameter-clause-goes_on g c = goes_on_through c.args.context.now c.loop-parameter.context c.handle_parameter.new.context c.loop-parameter.invariant.goes_on c.handle_parameter.ensures.goes_on

pub returns-in_err-handle_parameter-clause-ready : goal.returns-in_err-handle_parameter-clause-ready
returns-in_err-handle_parameter-clause-ready g c = extends_both _ _ _ c.loop-parameter.invariant.ready c.handle_parameter.ensures.ready

pub returns-clause-goes_on : goal.returns-clause-goes_on
returns-clause-goes_on g c = c.loop-parameter.invariant.goes_on

pub returns-clause-ready : goal.returns-clause-ready
returns-clause-ready g c = c.loop-parameter.invariant.ready
