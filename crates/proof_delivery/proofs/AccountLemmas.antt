-- The messages that the rules gave up are those that records of their sender name, and what they reported is what it emitted.
use Rattle.std.proofs.Common.{◌≡◌, ℕ, ◌||◌, Bool, true, Option, List, [], ◌∷◌, ◌++◌, sym, ap, ◌∙◌, subst, append-nil, append_assoc}
use Rattle.std.proofs.Math.Bool.{or_comm}
use Rattle.proof_protocol.specs.State.{Message, has}
use Rattle.proof_protocol.specs.Rules.{TransferEvent}
use Rattle.proof_protocol.specs.Resets.{Epochs, ResetEvent, transfers, reset_stream, send_request, perform, commit, goes, MayAll, go_all}
use Rattle.proof_refines.specs.Reachable.{given_up_by, given_up_places, recorded_places, delivered_ids, ids_at}
use Rattle.proof_refines.specs.Records.{are_distinct}
use Rattle.proof_refines.proofs.RecordLemmas.{one_more}
use Rattle.proof_refines.proofs.SenderRestLemmas.{has_more, all_records}
use Rattle.proof_refines.proofs.SackLemmas.{delivered_more, ids_more}
use Rattle.spec_endpoint.specs.Association.{Endpoint}
use Rattle.proof_endpoint.specs.Mapped.{Carried}
use Rattle.proof_endpoint.specs.Acts.{calm}
use Rattle.proof_pair.specs.Trace.{Side}
use Rattle.proof_delivery.specs.GivenUp.{pending_emitted}
use Rattle.proof_delivery.proofs.ClaimLemmas.{Direction, transfer_of, of_transfer, goes_in, GoesOn, SenderClaim}
use Rattle.proof_delivery.proofs.ReceiverToolLemmas.{SameSender, sender_stays}
use Rattle.proof_delivery.proofs.ActionLemmas.{Offers, after_action}

-- ---- what rules give up

has_behind : (p : ℕ) (abandoned more : List ℕ) → has p (abandoned ++ more) ≡ (has p more || has p abandoned)
has_behind p abandoned more = has_more p abandoned more ∙ or_comm (has p abandoned) (has p more)

module _ (message : ℕ → Message) (is_interleaved : Bool) where
  given_up_once : (e : TransferEvent) (x : Epochs) (p : ℕ) (abandoned : List ℕ) → x.transfer.sender.given_up p ≡ has p abandoned
      → (goes message is_interleaved x (transfers e)).transfer.sender.given_up p ≡ has p (abandoned ++ given_up_by e)
  given_up_once e x p abandoned is =
      all_records message is_interleaved (e ∷ []) x.transfer p
      ∙ (ap (λ (ps : List ℕ). has p ps || x.transfer.sender.given_up p) (append-nil (given_up_by e))
      ∙ (ap (λ (b : Bool). has p (given_up_by e) || b) is ∙ sym (has_behind p abandoned (given_up_by e))))

  given_up_along : (es : List ResetEvent) (x : Epochs) (p : ℕ) (abandoned : List ℕ) → x.transfer.sender.given_up p ≡ has p abandoned
      → (go_all message is_interleaved x es).transfer.sender.given_up p ≡ has p (abandoned ++ given_up_places (of_transfer es))
  given_up_along [] x p abandoned is = is ∙ ap (λ (ps : List ℕ). has p ps) (sym (append-nil abandoned))
  given_up_along (transfers e ∷ es) x p abandoned is =
      given_up_along es (goes message is_interleaved x (transfers e)) p (abandoned ++ given_up_by e) (given_up_once e x p abandoned is)
      ∙ ap (λ (ps : List ℕ). has p ps) (append_assoc abandoned (given_up_by e) (given_up_places (of_transfer es)))
  given_up_along (reset_stream s ∷ es) x p abandoned is = given_up_along es (goes message is_interleaved x (reset_stream s)) p abandoned is
  given_up_along (send_request s ∷ es) x p abandoned is = given_up_along es (goes message is_interleaved x (send_request s)) p abandoned is
  given_up_along (perform r ∷ es) x p abandoned is = given_up_along es (goes message is_interleaved x (perform r)) p abandoned is
  given_up_along (commit s ∷ es) x p abandoned is = given_up_along es (goes message is_interleaved x (commit s)) p abandoned is

  once_along : (es : List ResetEvent) (x : Epochs) (abandoned : List ℕ) → MayAll message is_interleaved x es → are_distinct abandoned ≡ true → ((p : ℕ) → x.transfer.sender.given_up p ≡ has p abandoned)
      → are_distinct (abandoned ++ given_up_places (of_transfer es)) ≡ true
  once_along [] x abandoned may once is = ap are_distinct (append-nil abandoned) ∙ once
  once_along (transfers e ∷ es) x abandoned may once is =
      let first : are_distinct (abandoned ++ given_up_by e) ≡ true =
      sym (ap (λ (ps : List ℕ). are_distinct (abandoned ++ ps)) (append-nil (given_up_by e))) ∙ one_more message is_interleaved abandoned (e ∷ []) x.transfer (may.0.0, tt) once is in
      sym (ap are_distinct (append_assoc abandoned (given_up_by e) (given_up_places (of_transfer es))))
      ∙ once_along es (goes message is_interleaved x (transfers e)) (abandoned ++ given_up_by e) may.1 first (λ p. given_up_once e x p abandoned (is p))
  once_along (reset_stream s ∷ es) x abandoned may once is = once_along es (goes message is_interleaved x (reset_stream s)) abandoned may.1 once is
  once_along (send_request s ∷ es) x abandoned may once is = once_along es (goes message is_interleaved x (send_request s)) abandoned may.1 once is
  once_along (perform r ∷ es) x abandoned may once is = once_along es (goes message is_interleaved x (perform r)) abandoned may.1 once is
  once_along (commit s ∷ es) x abandoned may once is = once_along es (goes message is_interleaved x (commit s)) abandoned may.1 once is

-- ---- what an end emits

-- where its records named these so far
pub record Accounted (lifecycle : ℕ → Option ℕ) (s : Side) (abandoned : List ℕ) (x : Direction) : Type 0 where
  pub given_up_is : (p : ℕ) → (transfer_of x).sender.given_up p ≡ has p abandoned
  pub once : are_distinct abandoned ≡ true
  pub emitted_is : delivered_ids s.emitted ≡ ids_at lifecycle (transfer_of x).reports

pub accounts_still : (lifecycle : ℕ → Option ℕ) (s : Side) (abandoned : List ℕ) (x : Direction) → Accounted lifecycle s abandoned x → Accounted lifecycle s (abandoned ++ []) x
accounts_still lifecycle s abandoned x a = subst (λ (ps : List ℕ). Accounted lifecycle s ps x) (sym (append-nil abandoned)) a

module _ (message : ℕ → Message) (lifecycle : ℕ → Option ℕ) (is_interleaved : Bool) (s : Side) (abandoned : List ℕ) (x : Direction) (a : Accounted lifecycle s abandoned x) where
  -- an action of the sender
  pub accounts_out : (n : ℕ) (prepared : List ℕ) (mid y : Direction) (e : Endpoint Carried) (asked : Bool) → Offers message is_interleaved n x mid
      → SenderClaim message lifecycle is_interleaved mid prepared (calm e) y → Accounted lifecycle (after_action asked e s) (abandoned ++ recorded_places (pending_emitted e)) y
  accounts_out n prepared mid y e asked offers c =
      let before : (p : ℕ) → mid.rules.transfer.sender.given_up p ≡ has p abandoned = λ p. ap (λ (f : ℕ → Bool). f p) offers.given_up ∙ a.given_up_is p in
      record {
        given_up_is = λ p.
            ap (λ (z : Epochs). z.transfer.sender.given_up p) (sym c.goes.leads)
            ∙ (given_up_along message is_interleaved c.goes.events mid.rules p abandoned (before p) ∙ ap (λ (ps : List ℕ). has p (abandoned ++ ps)) (sym c.given_up));
        once = ap (λ (ps : List ℕ). are_distinct (abandoned ++ ps)) c.given_up ∙ once_along message is_interleaved c.goes.events mid.rules abandoned c.goes.may a.once before;
        emitted_is =
            delivered_more s.emitted (pending_emitted e).events
            ∙ (ap (λ (ids : List ℕ). ids ++ delivered_ids (pending_emitted e).events) a.emitted_is
            ∙ (ap (λ (ids : List ℕ). ids_at lifecycle (transfer_of x).reports ++ ids) c.reported.delivered_are
            ∙ (sym (ids_more lifecycle (transfer_of x).reports c.reported.places)
            ∙ ap (λ (ps : List ℕ). ids_at lifecycle ps) (ap (λ (ps : List ℕ). ps ++ c.reported.places) (sym offers.reports) ∙ sym c.reported.more))));
      }

  -- an action of the receiver
  pub accounts_in : (y : Direction) → GoesOn message is_interleaved goes_in x y → Accounted lifecycle s (abandoned ++ []) y
  accounts_in y g =
      let same : SameSender message is_interleaved x.rules y.rules = sender_stays message is_interleaved x y g in
      accounts_still lifecycle s abandoned y (record {
        given_up_is = λ p. ap (λ o. o.given_up p) same.sender ∙ a.given_up_is p;
        once = a.once;
        emitted_is = a.emitted_is ∙ ap (λ (ps : List ℕ). ids_at lifecycle ps) (sym same.reports);
      })
