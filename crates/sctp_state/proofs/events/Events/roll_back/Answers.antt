use Rattle.std.proofs.Common.{ℕ, List, ap, sym, ◌∙◌, take}
use Rattle.std.specs.Prelude.{map}
use Rattle.std.proofs.lemmas.List.{take-map}
use Rattle.sctp_state.specs.Events.{Event, GivenUp, Emitted, event_of, given_up_of, rolled_back}
use Rattle.sctp_state.proofs.events.Events.roll_back.Goals as goal

pub returns : goal.returns
returns c =
    let emitted_with : List (Event (List ℕ)) → List GivenUp → Emitted (List ℕ) = λ es gs. record { events = es; given_up = gs } in
    ap (λ es. emitted_with es (map given_up_of c.truncate-2.new.self.items)) (ap (map event_of) c.truncate.ensures.items ∙ sym (take-map event_of c.args.mark.events c.self.inside.events.items))
    ∙ ap (λ gs. emitted_with (take c.args.mark.events (map event_of c.self.inside.events.items)) gs) (ap (map given_up_of) c.truncate-2.ensures.items ∙ sym (take-map given_up_of c.args.mark.given_up c.self.inside.given_up.items))
    ∙ ap (λ t. rolled_back c.args.mark t) c.self.view_is
