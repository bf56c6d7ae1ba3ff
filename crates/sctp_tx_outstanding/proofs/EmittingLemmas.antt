-- What is emitted as items leave.
use Rattle.std.proofs.Common.{◌≡◌, ℕ, suc, ◌-◌, ◌<◌, ◌++◌, List, ◌∷◌, take, ap, sym, subst, ◌∙◌, append_assoc, arith}
use Rattle.sctp_state.specs.Events.{Event, Emitted, Grown, emit_events}
use Rattle.sctp_state.proofs.EventLemmas.{grown_through, grown_emitted}
use Rattle.sctp_tx_outstanding.specs.Item.{Item}
use Rattle.sctp_tx_outstanding.specs.Sack.{leaving_events, all_leaving_events}

emit_event_two : {P : Type 0} (a b : List (Event P)) (t : Emitted P) → emit_events b (emit_events a t) ≡ emit_events (a ++ b) t
emit_event_two a b t = ap (λ es. record t { events = es }) (append_assoc t.events a b)

step_one : {P : Type 0} (n : ℕ) (i : Item) (rest : List Item) (t : Emitted P) → emit_events (all_leaving_events (take n rest)) (emit_events (leaving_events i) t) ≡ emit_events (all_leaving_events (take (suc n) (i ∷ rest))) t
step_one n i rest t = emit_event_two (leaving_events i) (all_leaving_events (take n rest)) t

pub emit_event_step : {P : Type 0} (left : ℕ) (is rest : List Item) (i : Item) (t u : Emitted P) → 0 < left → is ≡ i ∷ rest → u ≡ emit_events (leaving_events i) t
    → emit_events (all_leaving_events (take (left - 1) rest)) u ≡ emit_events (all_leaving_events (take left is)) t
emit_event_step left is rest i t u more is_is is_u =
    let e : suc (left - 1) ≡ left = omega (arith, more) in
    ap (λ v. emit_events (all_leaving_events (take (left - 1) rest)) v) is_u ∙ step_one (left - 1) i rest t
    ∙ ap (λ n. emit_events (all_leaving_events (take n (i ∷ rest))) t) e ∙ ap (λ js. emit_events (all_leaving_events (take left js)) t) (sym is_is)

pub grown_step : {P : Type 0} (es : List (Event P)) (t u v : Emitted P) → Grown t u → v ≡ emit_events es u → Grown t v
grown_step es t u v g e = grown_through t u v g (subst (λ x. Grown u x) (sym e) (grown_emitted es u))
