-- The messages that a reset drops are given up, each with its record.
use Rattle.std.proofs.Common.{◌≡◌, ℕ, Bool, true, false, cond, Option, List, [], ◌∷◌, ◌++◌, map, filter, refl, sym, ap, ◌∙◌, append_assoc, append-nil}
use Rattle.std.specs.Prelude.{not}
use Rattle.std.specs.List.{list_all}
use Rattle.std.proofs.lemmas.Bool.{and_from}
use Rattle.std.proofs.lemmas.List.{map-append}
use Rattle.sctp_state.specs.Events as events
use Rattle.sctp_state.specs.Events.{Emitted, emit_events, expired_events}
use Rattle.sctp_state.specs.declared.api.GivenUpCause.TheVariants.{Reset}
use Rattle.sctp_tx_queue.specs.SendQueue.{Queued, Queue, stream}
use Rattle.sctp_tx_queue.specs.Resets.{is_partly, emit_unsent}
use Rattle.sctp_tx_outstanding.specs.OutstandingData.{Items}
use Rattle.proof_protocol.specs.State.{Message, Transfer}
use Rattle.proof_protocol.specs.Rules.{give_up, after, run}
use Rattle.proof_protocol.specs.Invariant.{Invariant}
use Rattle.proof_refines.specs.SenderRefinement.{SenderRefines}
use Rattle.proof_refines.specs.Reachable.{is_sending, given_up_places, recorded_places}
use Rattle.proof_refines.specs.Pauses.{unsent_of, give_up_rules}
use Rattle.proof_refines.specs.Following.{PreparesLead}
use Rattle.proof_refines.proofs.PrepareLemmas.{prepares_row}

emitted_dropped : {P : Type 0} (ms : List Queued) (emitted : Emitted P) → recorded_places (emit_unsent ms emitted) ≡ recorded_places emitted ++ map (λ (m : Queued). m.number) (filter (λ m. not (is_partly m)) ms)
emitted_dropped [] emitted = sym (append-nil (recorded_places emitted))
emitted_dropped {P} (m ∷ rest) emitted = go (is_partly m) (emitted_dropped rest)
  where
    later : Emitted P
    later = emit_events (expired_events m.lifecycle) (events.emit_given_up m.number Reset emitted)

    behind : List Queued
    behind = filter (λ m. not (is_partly m)) rest

    numbers : List Queued → List ℕ
    numbers ms = map (λ (m : Queued). m.number) ms

    go : (b : Bool) → ((t : Emitted P) → recorded_places (emit_unsent rest t) ≡ recorded_places t ++ numbers behind)
        → recorded_places (emit_unsent rest (cond b emitted later)) ≡ recorded_places emitted ++ numbers (cond (not b) (m ∷ behind) behind)
    go true ih = ih emitted
    go false ih =
        ih later
        ∙ (ap (λ z. z ++ numbers behind) (map-append (λ g. g.number) emitted.given_up (record { number = m.number; cause = Reset } ∷ []))
        ∙ append_assoc (recorded_places emitted) (m.number ∷ []) (numbers behind))

all_sending : (ps : List ℕ) → list_all is_sending (give_up_rules ps) ≡ true
all_sending [] = refl
all_sending (p ∷ ps) = and_from true (list_all is_sending (give_up_rules ps)) refl (all_sending ps)

given_are : (ps : List ℕ) → given_up_places (give_up_rules ps) ≡ ps
given_are [] = refl
given_are (p ∷ ps) = ap (λ z. p ∷ z) (given_are ps)

-- only the sender changes
pub rest_same : (message : ℕ → Message) (is_interleaved : Bool) (ps : List ℕ) (x : Transfer) → run message is_interleaved x (give_up_rules ps) ≡ record x { sender = (run message is_interleaved x (give_up_rules ps)).sender }
rest_same message is_interleaved [] x = refl
rest_same message is_interleaved (p ∷ ps) x = rest_same message is_interleaved ps (after message is_interleaved x (give_up p))

pub prepares_lead : {P : Type 0} (message : ℕ → Message) (lifecycle : ℕ → Option ℕ) (is_interleaved : Bool) (x : Transfer) (q : Queue) (s : Items) → Invariant message is_interleaved x → SenderRefines message lifecycle is_interleaved x q s
    → (id : ℕ) (emitted : Emitted P) → PreparesLead message lifecycle is_interleaved x q s id emitted
prepares_lead message lifecycle is_interleaved x q s k sh id emitted =
    let z = prepares_row message lifecycle is_interleaved x q s k sh id emitted in
    let ps = unsent_of q id in
    record {
      leads = record {
        after = run message is_interleaved x (give_up_rules ps);
        places = ps;
        leads = record { events = give_up_rules ps; may = z.may; leads = refl; sends = all_sending ps; given_up = given_are ps; rest_stays = rest_same message is_interleaved ps x };
        kept = z.kept;
        refines = z.refines;
        recorded = emitted_dropped (stream id q.streams).messages emitted;
      };
      gives_up = refl;
      leads_to = refl;
      places_are = refl;
    }
