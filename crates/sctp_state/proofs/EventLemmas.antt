-- What is emitted stays at the front, and what was emitted since a moment can be taken back.
use Rattle.std.proofs.Common.{◌≡◌, ℕ, ◌≤◌, List, [], ◌∷◌, length, take, refl, ap, sym, ◌∙◌, arith, take_all, take-take, length-take}
use Rattle.std.proofs.lemmas.List.{take_at}
use Rattle.sctp_state.specs.declared.api.GivenUpCause.{GivenUpCause}
use Rattle.sctp_state.specs.Events.{Event, GivenUp, Emitted, Grown, emit_events, emit_given_up, mark_of, rolled_back}

at_most : {X : Type 0} (xs ys : List X) → take (length xs) ys ≡ xs → length xs ≤ length ys
at_most xs ys e = omega (arith, ap length e, length-take (length xs) ys)

through : {X : Type 0} (xs ys zs : List X) → take (length xs) ys ≡ xs → take (length ys) zs ≡ ys → take (length xs) zs ≡ xs
through xs ys zs e f = sym (take-take (length xs) (length ys) zs (at_most xs ys e)) ∙ ap (take (length xs)) f ∙ e

pub grown_same : {P : Type 0} (t : Emitted P) → Grown t t
grown_same t = record { events = take_all (length t.events) t.events (omega arith); given_up = take_all (length t.given_up) t.given_up (omega arith) }

pub grown_through : {P : Type 0} (t u v : Emitted P) → Grown t u → Grown u v → Grown t v
grown_through t u v g h = record { events = through t.events u.events v.events g.events h.events; given_up = through t.given_up u.given_up v.given_up g.given_up h.given_up }

pub grown_emitted : {P : Type 0} (es : List (Event P)) (t : Emitted P) → Grown t (emit_events es t)
grown_emitted es t = record { events = take_at t.events es (length t.events) refl; given_up = take_all (length t.given_up) t.given_up (omega arith) }

pub grown_given_up : {P : Type 0} (n : ℕ) (cause : GivenUpCause) (t : Emitted P) → Grown t (emit_given_up n cause t)
grown_given_up n cause t = record { events = take_all (length t.events) t.events (omega arith); given_up = take_at t.given_up (record { number = n; cause = cause } ∷ []) (length t.given_up) refl }

pub taken_back : {P : Type 0} (t u : Emitted P) → Grown t u → rolled_back (mark_of t) u ≡ t
taken_back {P} t u g =
    ap (λ (es : List (Event P)). let r : Emitted P = record { events = es; given_up = take (length t.given_up) u.given_up } in r) g.events
    ∙ ap (λ (gs : List GivenUp). let r : Emitted P = record { events = t.events; given_up = gs } in r) g.given_up
