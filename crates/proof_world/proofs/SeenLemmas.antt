-- What the log shows of an event, by the action that it is.
use Rattle.std.proofs.Common.{◌≡◌, ◌⊎◌, inl, inr, ℕ, zero, suc, ◌+◌, Bool, true, false, Option, Some, None, List, [], ◌∷◌, ◌++◌, length, map, drop, slice_get, refl, sym, ap, subst, ◌∙◌, append-nil}
use Rattle.std.proofs.lemmas.List.{map-append}
use Rattle.sctp_serial.specs.Messages.{Message}
use Rattle.sctp_state.specs.Events.{Event, GivenUp}
use Rattle.spec_endpoint.specs.Association.{State, Endpoint}
use Rattle.spec_endpoint.specs.Calls.{ready_in, ready_at}
use Rattle.spec_endpoint.specs.Input.{packet_refusal}
use Rattle.spec_endpoint.specs.Shown.{Association, association_in}
use Rattle.proof_endpoint.specs.Mapped.{Mapping, Carried, map_event, as_bytes}
use Rattle.proof_pair.specs.Trace as traces
use Rattle.proof_pair.specs.Trace.{EndAction, Calls, Gives, Refuses, emitted_packets, give_carried, foreign_if, act, state_of}
use Rattle.proof_delivery.specs.Justified.{records_by}
use Rattle.proof_draws.specs.Alike.{AreEventsAlike}
use Rattle.spec_world.specs.Observations.{End, Entry, BecameReady, same_association, given_up}
use Rattle.spec_world.specs.World.{Side, association_entries, association, emitted_entries, given_up_entries, ready_entries, ready_before, news_of, take_emitted}
use Rattle.spec_endpoint.specs.Packets.{packets_in}
use Rattle.proof_world.specs.Traces.{emitted_in}
use Rattle.proof_world.proofs.EventLemmas.{mapped, entries_both, same_itself}
use Rattle.proof_world.proofs.NewsLemmas.{emitted_both, news_own, one_association}
use Rattle.proof_world.proofs.LoggedLemmas.{given_up_news}
use Rattle.proof_world.proofs.BlockLemmas.{same_front}
use Rattle.proof_world.proofs.SidesLemmas.{IsFirst, Good}
use Rattle.proof_world.proofs.EmittingLemmas.{association_same}
use Rattle.proof_world.specs.Visible.{shown_by, visible}
use Rattle.proof_world.proofs.VisibleLemmas.{visible_both, none_associated, emitted_shown}

-- ---- what was emitted in an action

pub record Grows (before after : traces.Side) : Type 0 where
  pub since : List (Event Carried)
  pub is : after.emitted ≡ before.emitted ++ since

pub emitted_grows : (t : EndAction) (x y : traces.Side) → Grows x (act t x y)
emitted_grows (Calls call) x y = record { since = _; is = refl }
emitted_grows (Gives which checksum) x y = by (slice_get (emitted_packets y) which)
  where
    by : (p : Option Carried) → Grows x (give_carried p checksum x)
    by None = record { since = []; is = sym (append-nil x.emitted) }
    by (Some p) = record { since = _; is = refl }
emitted_grows (Refuses p) x y = by (packet_refusal p.header.verification_tag p.chunks (state_of x))
  where
    by : (r : Option (List ℕ)) → Grows x (foreign_if r p x)
    by None = record { since = []; is = sym (append-nil x.emitted) }
    by (Some text) = record { since = _; is = refl }

-- ---- the parts of what is shown

-- messages that became ready in an end that went from one state to another
abbrev pub ready_part : End → (before after : State) → List Entry
ready_part x s u = ready_entries x (ready_before (same_association (association_in s) (association_in u)) (length (ready_in s))) (ready_in u)

abbrev pub shows : (log first emitted_part given_up_part ready : List Entry) → List Entry
shows log first emitted_part given_up_part ready = log ++ (first ++ (emitted_part ++ (given_up_part ++ ready)))

-- so many packets were emitted before
abbrev pub sent : (f : Mapping Carried (List ℕ)) → traces.Side → ℕ
sent f end = 0 + length (packets_in (mapped f end.emitted))

module _ (word_of : List ℕ → ℕ) (x : End) (log longer : List Entry) (others others_now : List (List ℕ)) (side new : Side) (end beside : traces.Side) (t : EndAction)
    (g : Good word_of x log others side end) (h : Good word_of x longer others_now new (act t end beside)) (first : Entry) (k : IsFirst first) (after : Endpoint (List ℕ))
    (settles : new ≡ take_emitted side after) (logged : longer ≡ log ++ first ∷ news_of x side after)
    (records : given_up x (first ∷ news_of x side after) ≡ records_by t end beside) (since : List (Event Carried)) (grows : (act t end beside).emitted ≡ end.emitted ++ since) where
  abbrev f : Mapping Carried (List ℕ)
  f = as_bytes word_of

  emitted_more : emitted_in x (first ∷ news_of x side after) ≡ emitted_entries x (sent f end) (mapped f since)
  emitted_more =
      same_front (emitted_in x log) (emitted_in x (first ∷ news_of x side after)) (emitted_entries x (sent f end) (mapped f since))
      (sym (emitted_both x log (first ∷ news_of x side after))
      ∙ (ap (emitted_in x) (sym logged)
      ∙ (h.image.emitted
      ∙ (ap (λ (es : List (Event Carried)). emitted_entries x 0 (mapped f es)) grows
      ∙ (ap (emitted_entries x 0) (map-append (map_event f) end.emitted since)
      ∙ (entries_both x 0 (mapped f end.emitted) (mapped f since) ∙ ap (λ (l : List Entry). l ++ emitted_entries x (sent f end) (mapped f since)) (sym g.image.emitted)))))))

  emitted_is : emitted_entries x (length side.packets) after.endpoint_state.context.emitted.events ≡ emitted_entries x (sent f end) (mapped f since)
  emitted_is =
      sym (news_own x (length side.packets) (length (ready_at side.socket)) (association side.socket) after)
      ∙ (ap (λ (l : List Entry). l ++ emitted_in x (news_of x side after)) (sym (k.emitted x)) ∙ emitted_more)

  given_up_is : after.endpoint_state.context.emitted.given_up ≡ records_by t end beside
  given_up_is =
      sym (given_up_news x (same_itself x) (length side.packets) (length (ready_at side.socket)) (association side.socket) after)
      ∙ (ap (λ (l : List GivenUp). l ++ given_up x (news_of x side after)) (sym (k.given_up x)) ∙ records)

  state_before : side.socket.endpoint_state.state ≡ state_of end
  state_before = ap (λ (z : Endpoint (List ℕ)). z.endpoint_state.state) g.image.socket

  state_after : after.endpoint_state.state ≡ state_of (act t end beside)
  state_after = sym (ap (λ (z : Side). z.socket.endpoint_state.state) settles) ∙ ap (λ (z : Endpoint (List ℕ)). z.endpoint_state.state) h.image.socket

  ready_is : ready_part x side.socket.endpoint_state.state after.endpoint_state.state ≡ ready_part x (state_of end) (state_of (act t end beside))
  ready_is = ap (λ (s : State). ready_part x s after.endpoint_state.state) state_before ∙ ap (λ (u : State). ready_part x (state_of end) u) state_after

  pub shown_is : visible longer ≡ shows (visible log) (shown_by first) (visible (emitted_entries x (sent f end) (mapped f since))) (visible (given_up_entries x (records_by t end beside)))
      (visible (ready_part x (state_of end) (state_of (act t end beside))))
  shown_is =
      let emitted_part : List Entry = emitted_entries x (length side.packets) after.endpoint_state.context.emitted.events in
      let given_up_part : List Entry = given_up_entries x after.endpoint_state.context.emitted.given_up in
      let ready : List Entry = ready_part x side.socket.endpoint_state.state after.endpoint_state.state in
      let start : List Entry = association_entries x (association side.socket) (association after) in
      ap visible logged
      ∙ (visible_both log (first ∷ news_of x side after)
      ∙ (ap (λ (l : List Entry). visible log ++ (shown_by first ++ l))
      (visible_both start (emitted_part ++ (given_up_part ++ ready))
      ∙ (ap (λ (l : List Entry). l ++ visible (emitted_part ++ (given_up_part ++ ready))) (none_associated (same_association (association side.socket) (association after)) x (association after))
      ∙ (visible_both emitted_part (given_up_part ++ ready) ∙ ap (λ (l : List Entry). visible emitted_part ++ l) (visible_both given_up_part ready))))
      ∙ (ap (λ (l : List Entry). shows (visible log) (shown_by first) (visible l) (visible given_up_part) (visible ready)) emitted_is
      ∙ (ap (λ (gs : List GivenUp). shows (visible log) (shown_by first) (visible (emitted_entries x (sent f end) (mapped f since))) (visible (given_up_entries x gs)) (visible ready)) given_up_is
      ∙ ap (λ (l : List Entry). shows (visible log) (shown_by first) (visible (emitted_entries x (sent f end) (mapped f since))) (visible (given_up_entries x (records_by t end beside))) (visible l)) ready_is))))

-- ---- messages that became ready, in two ends

same_bool : (b c : Bool) → (b ≡ true → c ≡ true) → (c ≡ true → b ≡ true) → c ≡ b
same_bool true c f g = f refl
same_bool false true f g = sym (g refl)
same_bool false false f g = refl

abbrev the_none : (X : Type 0) → List X
the_none X = []

drop_none : {X : Type 0} (n : ℕ) → drop n (the_none X) ≡ []
drop_none zero = refl
drop_none (suc n) = refl

module _ (x : End) (s u r w : State) (before : ready_in r ≡ ready_in s) (after : ready_in w ≡ ready_in u) (stays : association_in u ≡ association_in s → association_in w ≡ association_in r) where
  by_test : same_association (association_in r) (association_in w) ≡ same_association (association_in s) (association_in u) → ready_part x r w ≡ ready_part x s u
  by_test same =
      ap (λ (b : Bool). ready_entries x (ready_before b (length (ready_in r))) (ready_in w)) same
      ∙ (ap (λ (ms : List Message). ready_entries x (ready_before (same_association (association_in s) (association_in u)) (length ms)) (ready_in w)) before
      ∙ ap (λ (ms : List Message). ready_entries x (ready_before (same_association (association_in s) (association_in u)) (length (ready_in s))) ms) after)

  same_test : (association_in w ≡ association_in r → association_in u ≡ association_in s)
      → same_association (association_in r) (association_in w) ≡ same_association (association_in s) (association_in u)
  same_test stayed =
      same_bool (same_association (association_in s) (association_in u)) (same_association (association_in r) (association_in w))
      (λ e. subst (λ (a : Option Association). same_association (association_in r) a ≡ true) (sym (stays (sym (one_association (association_in s) (association_in u) e)))) (association_same (association_in r)))
      (λ e. subst (λ (a : Option Association). same_association (association_in s) a ≡ true) (sym (stayed (sym (one_association (association_in r) (association_in w) e)))) (association_same (association_in s)))

  none_ready : ready_in u ≡ [] → ready_part x r w ≡ ready_part x s u
  none_ready none =
      ap (λ (ms : List Message). ready_entries x (ready_before (same_association (association_in r) (association_in w)) (length (ready_in r))) ms) (after ∙ none)
      ∙ (ap (map (BecameReady x)) (drop_none (ready_before (same_association (association_in r) (association_in w)) (length (ready_in r))))
      ∙ (sym (ap (map (BecameReady x)) (drop_none (ready_before (same_association (association_in s) (association_in u)) (length (ready_in s)))))
      ∙ sym (ap (λ (ms : List Message). ready_entries x (ready_before (same_association (association_in s) (association_in u)) (length (ready_in s))) ms) none)))

  -- an association stays in the one where it stays in the other, or none is left
  pub ready_alike : (association_in w ≡ association_in r → association_in u ≡ association_in s) ⊎ (ready_in u ≡ []) → ready_part x r w ≡ ready_part x s u
  ready_alike (inl stayed) = by_test (same_test stayed)
  ready_alike (inr none) = none_ready none

-- ---- two ends

module _ (f : Mapping Carried (List ℕ)) (x : End) (log other : List Entry) (first first_too : List Entry) (m n : ℕ) (es fs : List (Event Carried)) (given_ups given_ups_too : List GivenUp) (s u r w : State)
    (logs : visible other ≡ visible log) (firsts : first_too ≡ first) (sent_same : n ≡ m) (emitted_alike : AreEventsAlike es fs) (given_ups_same : given_ups_too ≡ given_ups) (ready : ready_part x r w ≡ ready_part x s u) where
  pub same_shown : shows (visible other) first_too (visible (emitted_entries x n (mapped f fs))) (visible (given_up_entries x given_ups_too)) (visible (ready_part x r w))
      ≡ shows (visible log) first (visible (emitted_entries x m (mapped f es))) (visible (given_up_entries x given_ups)) (visible (ready_part x s u))
  same_shown =
      ap (λ (l : List Entry). shows l first_too (visible (emitted_entries x n (mapped f fs))) (visible (given_up_entries x given_ups_too)) (visible (ready_part x r w))) logs
      ∙ (ap (λ (l : List Entry). shows (visible log) l (visible (emitted_entries x n (mapped f fs))) (visible (given_up_entries x given_ups_too)) (visible (ready_part x r w))) firsts
      ∙ (ap (λ (k : ℕ). shows (visible log) first (visible (emitted_entries x k (mapped f fs))) (visible (given_up_entries x given_ups_too)) (visible (ready_part x r w))) sent_same
      ∙ (ap (λ (l : List Entry). shows (visible log) first l (visible (given_up_entries x given_ups_too)) (visible (ready_part x r w))) (emitted_shown f x m es fs emitted_alike)
      ∙ (ap (λ (gs : List GivenUp). shows (visible log) first (visible (emitted_entries x m (mapped f es))) (visible (given_up_entries x gs)) (visible (ready_part x r w))) given_ups_same
      ∙ ap (λ (l : List Entry). shows (visible log) first (visible (emitted_entries x m (mapped f es))) (visible (given_up_entries x given_ups)) (visible l)) ready))))
