-- The second end is the image of the first one between actions; so it is after each call, under the same names.
use Rattle.std.proofs.Common.{◌≡◌, ℕ, Bool, List, [], ◌∷◌, ◌++◌, map, refl, sym, ap, subst, ◌∙◌}
use Rattle.sctp_state.specs.declared.api.ErrorKind.TheVariants.{ParseFailed}
use Rattle.sctp_state.specs.Events.{Event, SendPacket, OnError, OnAborted}
use Rattle.spec_endpoint.specs.Association.{State, Context, EndpointState, Endpoint, Packing}
use Rattle.spec_endpoint.specs.Opening.{emit_parse_error}
use Rattle.spec_endpoint.specs.Input.{count_packet_at, count_packet}
use Rattle.spec_endpoint.specs.Laws.{Call, called}
use Rattle.proof_endpoint.specs.Mapped.{Carried, map_event, map_context, as_carried}
use Rattle.proof_pair.specs.Trace.{Side, drain, state_of}
use Rattle.proof_draws.specs.NamedChunks.{Names, AreNames}
use Rattle.proof_draws.specs.Names.{named_state, plain, with_random, named_context}
use Rattle.proof_draws.specs.NamedCalls.{named_call, CallIsNamed, EachCallIsNamed}
use Rattle.proof_draws.specs.Images.{named_carried, as_named, image}
use Rattle.proof_draws.specs.Alike.{IsAlike, AreEventsAlike, AreAlike}

abbrev pub endpoint_state : State → Context Carried → EndpointState Carried
endpoint_state s c = record { state = s; context = c }

abbrev pub emitted_under : Names → List (Event Carried) → List (Event Carried)
emitted_under n es = map (map_event (as_named n)) es

-- an end that has emitted nothing is its image where its state is
pub is_image : (n : Names) (s t : EndpointState Carried) → s.context.pack ≡ as_carried → s.context.emitted.events ≡ [] → t.state ≡ named_state n s.state
    → t.context ≡ named_context n.tag s.context → t ≡ image n s
is_image n s t packing quiet state context =
    let c : Context Carried = s.context in
    let emitted_is : emitted_under n c.emitted.events ≡ c.emitted.events = ap (λ (es : List (Event Carried)). emitted_under n es) quiet ∙ sym quiet in
    let back : named_context n.tag c ≡ plain n as_carried (map_context (as_named n) c) =
    ap (λ (w : Packing Carried). record (named_context n.tag c) { pack = w }) packing
    ∙ ap (λ (es : List (Event Carried)). record (named_context n.tag c) { emitted = record { events = es; given_up = c.emitted.given_up }; pack = as_carried }) (sym emitted_is) in
    ap (λ (st : State). endpoint_state st t.context) state ∙ ap (λ (d : Context Carried). endpoint_state (named_state n s.state) d) (context ∙ back)

module _ (named : EachCallIsNamed) where
  pub mirrored : (n : Names) → AreNames n → (call : Call) (e f : Endpoint Carried) → e.endpoint_state.context.pack ≡ as_carried
      → e.endpoint_state.context.emitted.events ≡ [] → f.endpoint_state.state ≡ named_state n e.endpoint_state.state → f.endpoint_state.context ≡ named_context n.tag e.endpoint_state.context
      → CallIsNamed n call e.endpoint_state.state e.draws f.draws → (called (named_call n call) f).endpoint_state ≡ image n (called call e).endpoint_state
  mirrored n are call e f packing quiet state context is =
      ap (λ (s : EndpointState Carried). (called (named_call n call) (with_random f.draws s)).endpoint_state) (is_image n e.endpoint_state f.endpoint_state packing quiet state context)
      ∙ named n are call e.endpoint_state e.draws f.draws packing is

-- ---- what is emitted

pub emitted_both : (es fs gs hs : List (Event Carried)) → AreEventsAlike es fs → AreEventsAlike gs hs → AreEventsAlike (es ++ gs) (fs ++ hs)
emitted_both [] [] gs hs p q = q
emitted_both [] (f ∷ fs) gs hs p q = absurd p
emitted_both (e ∷ es) [] gs hs p q = absurd p
emitted_both (e ∷ es) (f ∷ fs) gs hs p q = (p.0, emitted_both es fs gs hs p.1 q)

module _ (n : Names) (are : AreNames n) where
  event_under : (e : Event Carried) → IsAlike e (map_event (as_named n) e)
  event_under (SendPacket p) = (named_carried n p, refl, record { names = n; are = are; is = refl })
  event_under (OnError kind text) = (text, refl)
  event_under (OnAborted kind text) = (text, refl)
  event_under e = refl

  pub emitted_alike : (es : List (Event Carried)) → AreEventsAlike es (emitted_under n es)
  emitted_alike [] = tt
  emitted_alike (e ∷ es) = (event_under e, emitted_alike es)

-- ---- an end after a call, in both traces

-- it is the image, or both have refused a packet
pub data Mirrors (x y : Side) (e f : Endpoint Carried) : Type 0 where
  named : (n : Names) → AreNames n → state_of y ≡ named_state n (state_of x) → f.endpoint_state ≡ image n e.endpoint_state → e.endpoint_state.context.pack ≡ as_carried → Mirrors x y e f
  refused : (text other : List ℕ) → e ≡ emit_parse_error text (count_packet_at x.end) → f ≡ emit_parse_error other (count_packet_at y.end) → Mirrors x y e f

-- without what was emitted
abbrev pub taken : Context Carried → Context Carried
taken c = record c { emitted = record { events = []; given_up = [] } }

abbrev pub asked_as : Bool → Side → Side
asked_as b x = record x { got_init = b }

-- an error whose text holds other tags
error_alike : (text other : List ℕ) (es fs : List (Event Carried)) → es ≡ [] → fs ≡ []
    → AreEventsAlike (es ++ OnError ParseFailed text ∷ []) (fs ++ OnError ParseFailed other ∷ [])
error_alike text other [] [] p q = ((other, refl), tt)
error_alike text other [] (f ∷ fs) p q = cc
error_alike text other (e ∷ es) fs p q = cc

module _ (x y : Side) (alike : AreAlike x y) (quiet : x.end.endpoint_state.context.emitted.events ≡ []) where
  refused_alike : (text other : List ℕ) (a b : Bool) → b ≡ a
      → AreAlike (asked_as a (drain (emit_parse_error text (count_packet_at x.end)) x)) (asked_as b (drain (emit_parse_error other (count_packet_at y.end)) y))
  refused_alike text other a b asked = record {
    names = alike.names;
    are = alike.are;
    state = alike.state;
    context = ap (λ (c : Context Carried). taken (count_packet c)) alike.context;
    emitted = emitted_both x.emitted y.emitted (x.end.endpoint_state.context.emitted.events ++ OnError ParseFailed text ∷ [])
        (y.end.endpoint_state.context.emitted.events ++ OnError ParseFailed other ∷ []) alike.emitted
        (error_alike text other x.end.endpoint_state.context.emitted.events y.end.endpoint_state.context.emitted.events quiet
        (ap (λ (c : Context Carried). c.emitted.events) alike.context ∙ quiet));
    asked = asked;
  }

  -- what was emitted is taken
  pub alike_after : (e f : Endpoint Carried) (a b : Bool) → b ≡ a → Mirrors x y e f → AreAlike (asked_as a (drain e x)) (asked_as b (drain f y))
  alike_after e f a b asked (named n are state is packing) = record {
    names = n;
    are = are;
    state = ap (λ (s : EndpointState Carried). s.state) is;
    context = ap (λ (s : EndpointState Carried). taken s.context) is
        ∙ ap (λ (w : Packing Carried). record (named_context n.tag (taken e.endpoint_state.context)) { pack = w }) (sym packing);
    emitted = subst (λ (es : List (Event Carried)). AreEventsAlike (x.emitted ++ e.endpoint_state.context.emitted.events) (y.emitted ++ es))
        (sym (ap (λ (s : EndpointState Carried). s.context.emitted.events) is))
        (emitted_both x.emitted y.emitted e.endpoint_state.context.emitted.events (emitted_under n e.endpoint_state.context.emitted.events) alike.emitted
        (emitted_alike n are e.endpoint_state.context.emitted.events));
    asked = asked;
  }
  alike_after e f a b asked (refused text other is so) =
      subst (λ (z : Endpoint Carried). AreAlike (asked_as a (drain z x)) (asked_as b (drain f y))) (sym is)
      (subst (λ (z : Endpoint Carried). AreAlike (asked_as a (drain (emit_parse_error text (count_packet_at x.end)) x)) (asked_as b (drain z y))) (sym so)
      (refused_alike text other a b asked))

  -- and so were the messages given up
  pub given_up_after : (e f : Endpoint Carried) → Mirrors x y e f → f.endpoint_state.context.emitted.given_up ≡ e.endpoint_state.context.emitted.given_up
  given_up_after e f (named n are state is packing) = ap (λ (s : EndpointState Carried). s.context.emitted.given_up) is
  given_up_after e f (refused text other is so) =
      ap (λ (z : Endpoint Carried). z.endpoint_state.context.emitted.given_up) so
      ∙ (ap (λ (c : Context Carried). c.emitted.given_up) alike.context ∙ sym (ap (λ (z : Endpoint Carried). z.endpoint_state.context.emitted.given_up) is))
