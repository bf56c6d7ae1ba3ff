-- At one point of a trace: what became ready fits, and what became of the other messages.
use Rattle.std.proofs.Common.{◌≡◌, ℕ, ◌<◌, ◌==◌, not, Bool, true, false, inl, inr, Option, Some, None, List, [], ◌∷◌, ◌++◌, length, map, take, slice_get, refl, sym, ap, subst, ◌∙◌, arith}
use Rattle.std.proofs.lemmas.Bool.{or_cases, or_left, or_right, eq-eqb, eqb-true}
use Rattle.std.proofs.lemmas.Option.{slice_get_cases}
use Rattle.sctp_serial.specs.Messages as messages
use Rattle.sctp_tx_queue.specs.SendQueue.{Queue, is_empty}
use Rattle.proof_protocol.specs.State.{Message, has}
use Rattle.proof_protocol.specs.Claims.{AtRest, Claims}
use Rattle.proof_protocol.specs.Invariant.{Invariant}
use Rattle.proof_protocol.proofs.ClaimsLemmas.{claimed}
use Rattle.proof_refines.specs.View.{ready_of}
use Rattle.sctp_tx_outstanding.specs.OutstandingData.{no_items}
use Rattle.proof_refines.specs.Reachable.{id_of, ids_at}
use Rattle.proof_refines.specs.Records.{are_distinct}
use Rattle.proof_refines.proofs.SenderRestLemmas.{rest_outgoing}
use Rattle.spec_endpoint.specs.Association.{State, Closed, CookieWait, Open}
use Rattle.proof_pair.specs.Trace.{Side, state_of}
use Rattle.proof_delivery.specs.Accepted.{AcceptedMessage}
use Rattle.proof_delivery.specs.GivenUp.{kept_in, IsAtRest}
use Rattle.proof_delivery.specs.Windows.{queue_of}
use Rattle.proof_delivery.specs.Delivery.{Fits, SkippedAreGivenUp, ReportsAreTrue, AllAreDone}
use Rattle.proof_delivery.proofs.ClaimLemmas.{Direction, transfer_of, SendsIn}
use Rattle.proof_delivery.proofs.AccountLemmas.{Accounted}
use Rattle.proof_delivery.proofs.ActionLemmas.{message_in}
use Rattle.proof_delivery.proofs.FitsLemmas.{places_fit, first_places}

-- where these were accepted at an end, became ready beyond, and were given up
pub record Point (s : Side) (offers : List AcceptedMessage) (ready : List messages.Message) (abandoned places : List ℕ) : Type 0 where
  pub fits : Fits offers ready (take (length ready) places)
  pub skipped : SkippedAreGivenUp offers abandoned (take (length ready) places)
  pub reports : ReportsAreTrue offers s.emitted (take (length ready) places)
  pub once : are_distinct abandoned ≡ true
  pub rest : IsAtRest s → AllAreDone offers abandoned (take (length ready) places)

-- ---- ids and places

record Reported (lifecycle : ℕ → Option ℕ) (ps : List ℕ) (id : ℕ) : Type 0 where
  place : ℕ
  among : has place ps ≡ true
  its_id : lifecycle place ≡ Some id

reported_behind : (lifecycle : ℕ → Option ℕ) (p : ℕ) (ps : List ℕ) (id : ℕ) → Reported lifecycle ps id → Reported lifecycle (p ∷ ps) id
reported_behind lifecycle p ps id r = record { place = r.place; among = or_right (r.place == p) (has r.place ps) r.among; its_id = r.its_id }

reported_at : (lifecycle : ℕ → Option ℕ) (ps : List ℕ) (id : ℕ) → has id (ids_at lifecycle ps) ≡ true → Reported lifecycle ps id
reported_at lifecycle [] id h = cc
reported_at lifecycle (p ∷ ps) id h = by_id (lifecycle p) refl h (reported_at lifecycle ps id)
  where
    by_id : (l : Option ℕ) → lifecycle p ≡ l → has id (id_of l ++ ids_at lifecycle ps) ≡ true → (has id (ids_at lifecycle ps) ≡ true → Reported lifecycle ps id)
        → Reported lifecycle (p ∷ ps) id
    by_id None e h rest = reported_behind lifecycle p ps id (rest h)
    by_id (Some k) e h rest =
        elim (or_cases (id == k) (has id (ids_at lifecycle ps)) h) [
          | inl same ↦ record { place = p; among = or_left (p == p) (has p ps) (eq-eqb p p refl); its_id = e ∙ ap (λ (n : ℕ). Some n) (sym (eqb-true id k same)) }
          | inr later ↦ reported_behind lifecycle p ps id (rest later)
        ]

offer_at : (offers : List AcceptedMessage) (p : ℕ) → p < length offers → (o : AcceptedMessage) × (slice_get offers p ≡ Some o)
offer_at offers p l =
    elim (slice_get_cases offers p).1 [
      | inl a ↦ (a.0, a.2)
      | inr b ↦ let past = b.0 in absurd (omega (arith, past, l))
    ]

-- ---- rest

pub rests : (message : ℕ → Message) (lifecycle : ℕ → Option ℕ) (is_interleaved : Bool) (s : State) (q : Queue) (x : Direction) → Invariant message is_interleaved (transfer_of x)
    → SendsIn message lifecycle is_interleaved s q x → is_empty q ≡ true → kept_in s ≡ [] → AtRest (transfer_of x)
rests message lifecycle is_interleaved Closed q x k h empty none = rest_outgoing message lifecycle false (transfer_of x) q (no_items false false) k.outgoing h.refines empty refl
rests message lifecycle is_interleaved (CookieWait tag first t1) q x k h empty none = rest_outgoing message lifecycle false (transfer_of x) q (no_items false false) k.outgoing h.refines empty refl
rests message lifecycle is_interleaved (Open phase t) q x k h empty none = rest_outgoing message lifecycle is_interleaved (transfer_of x) q t.sender.outstanding.items k.outgoing h.refines empty none

-- ---- the point

module _ (message : ℕ → Message) (lifecycle : ℕ → Option ℕ) (is_interleaved : Bool) (offers : List AcceptedMessage)
    (there : (p : ℕ) (o : AcceptedMessage) → slice_get offers p ≡ Some o → message p ≡ message_in o)
    (ids : (p : ℕ) (o : AcceptedMessage) → slice_get offers p ≡ Some o → lifecycle p ≡ o.options.lifecycle_id)
    (s : Side) (x : Direction) (kept : Invariant message is_interleaved (transfer_of x)) (few : (transfer_of x).sender.accepted ≡ length offers) where
  claims : Claims message (transfer_of x)
  claims = claimed message is_interleaved (transfer_of x) kept

  its_id : (p : ℕ) (o : AcceptedMessage) (id : ℕ) → slice_get offers p ≡ Some o → lifecycle p ≡ Some id → o.options.lifecycle_id ≡ Some id
  its_id p o id at_p e = sym (ids p o at_p) ∙ e

  module _ (abandoned : List ℕ) (a : Accounted lifecycle s abandoned x) where
    skipped_now : SkippedAreGivenUp offers abandoned (transfer_of x).receiver.places
    skipped_now p q o r at_p at_q line l is not_yet =
        let first : message p ≡ message_in o = there p o at_p in
        let second : message q ≡ message_in r = there q r at_q in
        sym (a.given_up_is p)
        ∙ claims.skipped p q (ap (λ (z : Message). z.ordered) first ∙ ap not line.first) (ap (λ (z : Message). z.ordered) second ∙ ap not line.second)
        (ap (λ (z : Message). z.stream) first ∙ (line.stream ∙ sym (ap (λ (z : Message). z.stream) second))) l is not_yet

    reports_now : ReportsAreTrue offers s.emitted (transfer_of x).receiver.places
    reports_now id h =
        let r : Reported lifecycle (transfer_of x).reports id = reported_at lifecycle (transfer_of x).reports id (sym (ap (λ (z : List ℕ). has id z) a.emitted_is) ∙ h) in
        let ready : has r.place (transfer_of x).receiver.places ≡ true = claims.reports r.place r.among in
        let below = kept.outgoing.begun_below r.place (kept.incoming.ready_begun r.place ready) in
        let o : (o : AcceptedMessage) × (slice_get offers r.place ≡ Some o) = offer_at offers r.place (omega (arith, below, few)) in
        record { place = r.place; offer = o.0; there = o.1; its_id = its_id r.place o.0 id o.1 r.its_id; is_ready = ready }

    rest_now : AtRest (transfer_of x) → AllAreDone offers abandoned (transfer_of x).receiver.places
    rest_now rest p l =
        elim (claims.rest rest p (omega (arith, l, few))) [
          | inl ready ↦ inl ready
          | inr given ↦ inr (sym (a.given_up_is p) ∙ given)
        ]

    pub point : SendsIn message lifecycle is_interleaved (state_of s) (queue_of s) x → (ready : List messages.Message) → (transfer_of x).receiver.ready ≡ map ready_of ready
        → (places more : List ℕ) → places ≡ (transfer_of x).receiver.places ++ more → Point s offers ready abandoned places
    point sends ready is places more e =
        let first : take (length ready) places ≡ (transfer_of x).receiver.places = first_places message offers there is_interleaved (transfer_of x) ready kept is places more e in
        record {
          fits = subst (λ (ps : List ℕ). Fits offers ready ps) (sym first) (places_fit message offers there is_interleaved (transfer_of x) ready kept few is);
          skipped = subst (λ (ps : List ℕ). SkippedAreGivenUp offers abandoned ps) (sym first) skipped_now;
          reports = subst (λ (ps : List ℕ). ReportsAreTrue offers s.emitted ps) (sym first) reports_now;
          once = a.once;
          rest = λ r. subst (λ (ps : List ℕ). AllAreDone offers abandoned ps) (sym first) (rest_now (rests message lifecycle is_interleaved (state_of s) (queue_of s) x kept sends r.none_waits r.none_kept));
        }
