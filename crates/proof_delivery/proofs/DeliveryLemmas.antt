-- Along a trace each direction is a run of the rules, action by action, and at each point what became ready fits, each in its epoch.
use Rattle.std.proofs.Common.{◌≡◌, ℕ, ◌+◌, ◌-◌, ◌^◌, ◌<◌, ◌||◌, not, Bool, true, false, Option, Some, None, List, [], ◌∷◌, ◌++◌, length, map, take, slice_get, refl, sym, ap, subst, ◌∙◌, append-nil, append_assoc, length-append, arith}
use Rattle.std.proofs.lemmas.Bool.{or_parts}
use Rattle.sctp_serial.specs.Messages as messages
use Rattle.sctp_packet.specs.Packet.{PacketTree}
use Rattle.sctp_state.specs.Events.{Event}
use Rattle.sctp_state.specs.Options.{Options}
use Rattle.sctp_capabilities.specs.Capabilities.{agreed}
use Rattle.sctp_capabilities.proofs.CapabilitiesLemmas.{agreed_exchanged}
use Rattle.proof_refines.specs.View.{ready_of}
use Rattle.proof_protocol.specs.State.{Message, has}
use Rattle.proof_protocol.specs.Based.{Bracketed}
use Rattle.proof_protocol.specs.Invariant.{Invariant}
use Rattle.proof_protocol.proofs.ToolsLemmas.{has_keeps}
use Rattle.proof_refines.specs.Reachable.{delivered_ids}
use Rattle.proof_refines.proofs.SackLemmas.{delivered_more}
use Rattle.proof_endpoint.specs.Mapped.{Carried}
use Rattle.spec_endpoint.specs.Input.{packet_refusal}
use Rattle.spec_endpoint.specs.Laws.{endings}
use Rattle.proof_pair.specs.Trace.{Side, Pair, emitted_packets, EndAction, Calls, Gives, Refuses, give_carried, foreign_if, act, goes, run, MayAct, side_of, KeepsRules, NoAssociationHasEnded, AreValidOptions, state_of}
use Rattle.proof_pair.specs.Handing.{ready_at, handed_by, handed_at, new_behind, messages_made_ready}
use Rattle.proof_pair.proofs.TraceLemmas.{Halves, swapped, before_run, goes_consistent}
use Rattle.proof_pair.proofs.HandingLemmas.{Hands, hands_at}
use Rattle.proof_delivery.specs.Accepted.{AcceptedMessage, accepted_in, accepted_at, accepted}
use Rattle.proof_delivery.specs.Windows.{Stamp, numbered, stamp, Stamps, stamps_after, stamps_for, IsTimely, AreWithin, KeepsWindows}
use Rattle.proof_delivery.specs.Answered.{NumberedBefore, asked_after, AreAnswered, KeepsRequests, performed_in}
use Rattle.proof_delivery.specs.StreamEpochs.{StreamEpoch, epochs_after, epochs_of, message_epochs, emitted_along, failed_in}
use Rattle.proof_delivery.specs.GivenUp.{emitted_by, given_up_at, given_up}
use Rattle.proof_delivery.specs.Delivery.{ReportsAreTrue}
use Rattle.proof_delivery.specs.Ending.{stamps_along}
use Rattle.proof_delivery.proofs.ClaimLemmas.{Direction, transfer_of, ReceivesIn}
use Rattle.proof_delivery.proofs.DirectionLemmas.{SoFar, Flows, IsSilent}
use Rattle.proof_delivery.proofs.ResetEventsLemmas.{failed_more}
use Rattle.proof_delivery.proofs.TraceResetLemmas.{few_before, answered_now, asked_of, asked_again, epochs_beside}
use Rattle.proof_delivery.proofs.ActionLemmas.{AreOffered}
use Rattle.proof_delivery.proofs.AccountLemmas.{Accounted}
use Rattle.proof_delivery.proofs.SenderActionLemmas.{PreservedByActs, DirectionAfterAction, flows_again, action_out, action_until}
use Rattle.proof_delivery.proofs.ReceiverActionLemmas.{action_in}
use Rattle.proof_delivery.proofs.FitsLemmas.{message_of, lifecycle_of, offered_from, accepted_there, lifecycle_accepted, ready_is, many_places, first_places}
use Rattle.proof_delivery.proofs.DoneLemmas.{Point, point}
use Rattle.proof_delivery.proofs.EpochPointLemmas.{BecomeReady, become_ready}

-- ---- what was emitted is taken after each action

pub record AreSilent (w : Pair) : Type 0 where
  pub a : IsSilent w.a
  pub b : IsSilent w.b

silent_given : (p : Option Carried) (checksum : ℕ) (x : Side) → IsSilent x → IsSilent (give_carried p checksum x)
silent_given None checksum x h = h
silent_given (Some p) checksum x h = record { emitted = refl }

silent_foreign : (text : Option (List ℕ)) (p : PacketTree) (x : Side) → IsSilent x → IsSilent (foreign_if text p x)
silent_foreign None p x h = h
silent_foreign (Some text) p x h = record { emitted = refl }

silent_action : (t : EndAction) (x y : Side) → IsSilent x → IsSilent (act t x y)
silent_action (Calls call) x y h = record { emitted = refl }
silent_action (Gives which checksum) x y h = silent_given (slice_get (emitted_packets y) which) checksum x h
silent_action (Refuses p) x y h = silent_foreign (packet_refusal p.header.verification_tag p.chunks (state_of x)) p x h

pub silent_goes : (at_a : Bool) (t : EndAction) (w : Pair) → AreSilent w → AreSilent (goes at_a t w)
silent_goes true t w h = record { a = silent_action t w.a w.b h.a; b = h.b }
silent_goes false t w h = record { a = h.a; b = silent_action t w.b w.a h.b }

-- ---- one direction: true is from a to b

-- the number of its sender's fragments
abbrev pub of_end : Bool → Stamp → ℕ
of_end true s = s.a
of_end false s = s.b

-- the stamps of the packets that an end emitted
abbrev pub stamps_of : Bool → Stamps → List Stamp
stamps_of true s = s.of_a
stamps_of false s = s.of_b

-- what the trace says so far of this direction: how its streams stand, the epochs of its messages, and since when its request waits
abbrev pub so_far : Bool → (ℕ → StreamEpoch) → List ℕ → NumberedBefore → SoFar
so_far from_a f epochs k = record { streams = f; epochs = epochs; asked = asked_of from_a k }

abbrev pub FlowsFrom : (ℕ → Message) → (ℕ → Option ℕ) → (is_interleaved from_a : Bool) → Pair → Stamps → (accepted : ℕ) → (handed : List messages.Message) → SoFar → Direction → Type 0
FlowsFrom message lifecycle is_interleaved from_a w stamps n handed said x =
    Flows message lifecycle is_interleaved (of_end from_a) (side_of from_a w) (side_of (not from_a) w) n handed (stamps_of from_a stamps) (stamps_of (not from_a) stamps) said x

-- from a pair before, where the sender gave these up
pub record Stepped (message : ℕ → Message) (lifecycle : ℕ → Option ℕ) (is_interleaved from_a : Bool) (w : Pair) (stamps : Stamps) (n : ℕ) (handed : List messages.Message) (said : SoFar)
    (x : Direction) (before : Pair) (by : List ℕ) : Type 0 where
  pub to : Direction
  pub flows : FlowsFrom message lifecycle is_interleaved from_a w stamps n handed said to
  pub bracketed : Bracketed message x.rules to.rules
  pub accounts : (abandoned : List ℕ) → Accounted lifecycle (side_of from_a before) abandoned x → Accounted lifecycle (side_of from_a w) (abandoned ++ by) to

-- fewer resets were performed than numbers tell apart
abbrev pub AreFewPerformed : Pair → Type 0
AreFewPerformed w = (x : Bool) → performed_in (side_of x w).emitted < 2 ^ 32 - 1

module _ (message : ℕ → Message) (lifecycle : ℕ → Option ℕ) (is_interleaved : Bool) (parts : PreservedByActs message lifecycle is_interleaved) (a b : Options) (own : AreValidOptions a) (other : AreValidOptions b)
    (mode : is_interleaved ≡ (agreed a b).message_interleaving) where
  mode_back : is_interleaved ≡ (agreed b a).message_interleaving
  mode_back = mode ∙ sym (ap (λ c. c.message_interleaving) (agreed_exchanged a b))

  more_by_none : (n : ℕ) → n ≡ n + 0
  more_by_none n = omega arith

  pub stepped : (from_a at_a : Bool) (t : EndAction) (w : Pair) (stamps : Stamps) → Halves a b w.a w.b → AreSilent w → AreWithin w → (k : NumberedBefore) → AreAnswered w k → AreFewPerformed w
      → MayAct t (side_of at_a w) → IsTimely t (numbered w) (stamps_for at_a stamps) → NoAssociationHasEnded (goes at_a t w) → (n : ℕ) (handed : List messages.Message)
      → AreOffered message lifecycle n (accepted_at from_a at_a t w) → n + length (accepted_at from_a at_a t w) < 2 ^ 32
      → (f : ℕ → StreamEpoch) (epochs : List ℕ) (x : Direction) → FlowsFrom message lifecycle is_interleaved from_a w stamps n handed (so_far from_a f epochs k) x
      → Stepped message lifecycle is_interleaved from_a (goes at_a t w) (stamps_after at_a t w stamps) (n + length (accepted_at from_a at_a t w)) (handed ++ handed_at (not from_a) at_a t w)
      (so_far from_a (epochs_after from_a at_a t w f) (epochs ++ epochs_of (accepted_at from_a at_a t w) f) (asked_after at_a t w k)) x w (given_up_at from_a at_a t w)
  stepped true true t w stamps h quiet within k soon emitted may timely none n handed are few f epochs x flows =
      let r = action_out message lifecycle is_interleaved (of_end true) parts a b own other mode w.a w.b h quiet.a quiet.b within.a n handed stamps.of_a stamps.of_b (so_far true f epochs k) x flows
      (emitted true) (numbered w) (stamp true w) refl refl (λ old y. y.a) t may timely none.a are few in
      record {
        to = r.to;
        flows = subst (λ (ms : List messages.Message). FlowsFrom message lifecycle is_interleaved true (goes true t w) (stamps_after true t w stamps) (n + length (accepted_in t w.a)) ms
            (so_far true (epochs_after true true t w f) (epochs ++ epochs_of (accepted_at true true t w) f) (asked_after true t w k)) r.to) (sym (append-nil handed)) r.flows;
        bracketed = r.bracketed;
        accounts = r.accounts;
      }
  stepped true false t w stamps h quiet within k soon emitted may timely none n handed are few f epochs x flows =
      let r = action_in message lifecycle is_interleaved (of_end true) parts a b own other mode w.a w.b h quiet.a quiet.b within.a n handed stamps.of_a stamps.of_b (so_far true f epochs k) x flows
      soon.a (emitted true) (numbered w) (stamp true w) (stamp false w) refl refl refl (λ old y. y.a) t may timely none.b in
      record {
        to = r.to;
        flows = subst (λ (m : ℕ). FlowsFrom message lifecycle is_interleaved true (goes false t w) (stamps_after false t w stamps) m (handed ++ handed_by t w.b)
            (so_far true (epochs_after true false t w f) (epochs ++ epochs_of (accepted_at true false t w) f) (asked_after false t w k)) r.to) (more_by_none n)
            (flows_again message lifecycle is_interleaved (of_end true) w.a (goes false t w).b n (handed ++ handed_by t w.b) stamps.of_a (stamps_after false t w stamps).of_b (so_far true f epochs k)
            (so_far true (epochs_after true false t w f) (epochs ++ epochs_of (accepted_at true false t w) f) (asked_after false t w k)) r.to
            (epochs_beside true t w f) (append-nil epochs) (asked_again (state_of w.a) k.a) r.flows);
        bracketed = r.bracketed;
        accounts = r.accounts;
      }
  stepped false false t w stamps h quiet within k soon emitted may timely none n handed are few f epochs x flows =
      let r = action_out message lifecycle is_interleaved (of_end false) parts b a other own mode_back w.b w.a (swapped a b w.a w.b h) quiet.b quiet.a within.b n handed stamps.of_b stamps.of_a
      (so_far false f epochs k) x flows (emitted false) (numbered w) (stamp false w) refl refl (λ old y. y.b) t may timely none.b are few in
      record {
        to = r.to;
        flows = subst (λ (ms : List messages.Message). FlowsFrom message lifecycle is_interleaved false (goes false t w) (stamps_after false t w stamps) (n + length (accepted_in t w.b)) ms
            (so_far false (epochs_after false false t w f) (epochs ++ epochs_of (accepted_at false false t w) f) (asked_after false t w k)) r.to) (sym (append-nil handed)) r.flows;
        bracketed = r.bracketed;
        accounts = r.accounts;
      }
  stepped false true t w stamps h quiet within k soon emitted may timely none n handed are few f epochs x flows =
      let r = action_in message lifecycle is_interleaved (of_end false) parts b a other own mode_back w.b w.a (swapped a b w.a w.b h) quiet.b quiet.a within.b n handed stamps.of_b stamps.of_a
      (so_far false f epochs k) x flows soon.b (emitted false) (numbered w) (stamp false w) (stamp true w) refl refl refl (λ old y. y.b) t may timely none.a in
      record {
        to = r.to;
        flows = subst (λ (m : ℕ). FlowsFrom message lifecycle is_interleaved false (goes true t w) (stamps_after true t w stamps) m (handed ++ handed_by t w.a)
            (so_far false (epochs_after false true t w f) (epochs ++ epochs_of (accepted_at false true t w) f) (asked_after true t w k)) r.to) (more_by_none n)
            (flows_again message lifecycle is_interleaved (of_end false) w.b (goes true t w).a n (handed ++ handed_by t w.a) stamps.of_b (stamps_after true t w stamps).of_a (so_far false f epochs k)
            (so_far false (epochs_after false true t w f) (epochs ++ epochs_of (accepted_at false true t w) f) (asked_after true t w k)) r.to
            (epochs_beside false t w f) (append-nil epochs) (asked_again (state_of w.b) k.b) r.flows);
        bracketed = r.bracketed;
        accounts = r.accounts;
      }

-- ---- traces

abbrev first_action : List (Bool × EndAction) → (Bool × EndAction) → Bool × EndAction
first_action [] d = d
first_action (e ∷ es) d = e

abbrev other_actions : List (Bool × EndAction) → List (Bool × EndAction)
other_actions [] = []
other_actions (e ∷ es) = es

module _ (all : List AcceptedMessage) (all_epochs : List ℕ) (is_interleaved : Bool) (parts : PreservedByActs (message_of all) (lifecycle_of all) is_interleaved) (a b : Options) (own : AreValidOptions a) (other : AreValidOptions b)
    (mode : is_interleaved ≡ (agreed a b).message_interleaving) (few : length all < 2 ^ 32) (from_a : Bool) where
  abbrev From : Pair → Stamps → ℕ → List messages.Message → SoFar → Direction → Type 0
  From w stamps n handed said x = FlowsFrom (message_of all) (lifecycle_of all) is_interleaved from_a w stamps n handed said x

  -- where such a trace leads, whose places are all that became ready
  pub record Leads (w : Pair) (stamps : Stamps) (done : List AcceptedMessage) (ready : List messages.Message) (abandoned places : List ℕ) : Type 0 where
    pub handed : List messages.Message
    pub ready_are : ready ≡ handed ++ ready_at (side_of (not from_a) w)
    pub last : Direction
    pub said : SoFar
    pub flows : From w stamps (length done) handed said last
    pub accounts : Accounted (lifecycle_of all) (side_of from_a w) abandoned last
    pub places_are : places ≡ (transfer_of last).receiver.places

  -- what becomes ready at this action behind these
  abbrev BecomeReadyAt : List ℕ → Pair → List messages.Message → (early : List (Bool × EndAction)) → Bool × EndAction → Type 0
  BecomeReadyAt places w ready early e =
      BecomeReady all all_epochs places (emitted_along (not from_a) early w) (emitted_along (not from_a) (early ++ e ∷ []) w) (length (ready ++ messages_made_ready (not from_a) early w))
      (length (ready ++ messages_made_ready (not from_a) (early ++ e ∷ []) w))

  -- where this was accepted, became ready and was given up before, one list of places serves all along
  pub record DeliversOn (es : List (Bool × EndAction)) (w : Pair) (stamps : Stamps) (done : List AcceptedMessage) (ready : List messages.Message) (abandoned : List ℕ) (x : Direction) : Type 0 where
    pub places : List ℕ
    pub more : List ℕ
    pub grown : places ≡ (transfer_of x).receiver.places ++ more
    pub points : (early late : List (Bool × EndAction)) → es ≡ early ++ late
        → Point (side_of from_a (run early w)) (done ++ accepted from_a early w) (ready ++ messages_made_ready (not from_a) early w) (abandoned ++ given_up from_a early w) places
    pub in_epochs : (early late : List (Bool × EndAction)) (e : Bool × EndAction) → es ≡ early ++ e ∷ late → BecomeReadyAt places w ready early e
    pub leads : Leads (run es w) (stamps_along es w stamps) (done ++ accepted from_a es w) (ready ++ messages_made_ready (not from_a) es w) (abandoned ++ given_up from_a es w) places

  -- what is ready is what the rules made ready
  ready_now : (w : Pair) (handed ready : List messages.Message) → ready ≡ handed ++ ready_at (side_of (not from_a) w) → (stamps : Stamps) (n : ℕ) (said : SoFar) (x : Direction)
      → From w stamps n handed said x → (transfer_of x).receiver.ready ≡ map ready_of ready
  ready_now w handed ready r stamps n said x f =
      subst (λ (ms : List messages.Message). (transfer_of x).receiver.ready ≡ map ready_of ms) (sym r)
      (ready_is (message_of all) is_interleaved (state_of (side_of (not from_a) w)) handed x f.refines)

  -- now
  point_now : (w : Pair) (stamps : Stamps) (done later : List AcceptedMessage) → all ≡ done ++ later → (handed ready : List messages.Message)
      → ready ≡ handed ++ ready_at (side_of (not from_a) w) → (abandoned : List ℕ) (said : SoFar) (x : Direction) → From w stamps (length done) handed said x
      → Accounted (lifecycle_of all) (side_of from_a w) abandoned x → (places more : List ℕ) → places ≡ (transfer_of x).receiver.places ++ more → Point (side_of from_a w) done ready abandoned places
  point_now w stamps done later e handed ready r abandoned said x f a places more grown =
      point (message_of all) (lifecycle_of all) is_interleaved done (accepted_there all done later e) (lifecycle_accepted all done later e) (side_of from_a w) x f.kept.epochs.order.kept f.accepted_is abandoned a
      f.sends ready (ready_now w handed ready r stamps (length done) said x f) places more grown

  -- behind nothing more
  here : (w : Pair) (done : List AcceptedMessage) (ready : List messages.Message) (abandoned places : List ℕ) → Point (side_of from_a w) done ready abandoned places
      → Point (side_of from_a w) (done ++ []) (ready ++ []) (abandoned ++ []) places
  here w done ready abandoned places p =
      subst (λ (os : List AcceptedMessage). Point (side_of from_a w) os (ready ++ []) (abandoned ++ []) places) (sym (append-nil done))
      (subst (λ (ms : List messages.Message). Point (side_of from_a w) done ms (abandoned ++ []) places) (sym (append-nil ready))
      (subst (λ (ps : List ℕ). Point (side_of from_a w) done ready ps places) (sym (append-nil abandoned)) p))

  -- at one action
  timed_now : (w v : Pair) (done : List AcceptedMessage) (handed ready : List messages.Message) → ready ≡ handed ++ ready_at (side_of (not from_a) w)
      → (done_then : List AcceptedMessage) (handed_then new : List messages.Message) → ready ++ new ≡ handed_then ++ ready_at (side_of (not from_a) v)
      → (stamps stamps_then : Stamps) (n m : ℕ) (said then : SoFar) (x y : Direction) → From w stamps n handed said x → From v stamps_then m handed_then then y
      → Bracketed (message_of all) x.rules y.rules → (later : List ℕ) → all_epochs ≡ then.epochs ++ later → (places more : List ℕ) → places ≡ (transfer_of y).receiver.places ++ more
      → BecomeReady all all_epochs places (side_of (not from_a) w).emitted (side_of (not from_a) v).emitted (length ready) (length (ready ++ new))
  timed_now w v done handed ready r done_then handed_then new r_then stamps stamps_then n m said then x y f g b later split places more grown k p o l h =
      let there = accepted_there all all [] (sym (append-nil all)) in
      let from = many_places (message_of all) all there is_interleaved (transfer_of x) ready f.kept.epochs.order.kept (ready_now w handed ready r stamps n said x f) in
      let to = many_places (message_of all) all there is_interleaved (transfer_of y) (ready ++ new) g.kept.epochs.order.kept (ready_now v handed_then (ready ++ new) r_then stamps_then m then y g) in
      become_ready (message_of all) is_interleaved all there x y b g.kept.epochs.order.kept (side_of (not from_a) w).emitted (side_of (not from_a) v).emitted f.performed g.performed then.epochs later
      all_epochs (g.many ∙ sym g.accepted_is) g.epochs split places more grown k p o (omega (arith, l, from)) (omega (arith, h, to))

  -- one action, then the others
  on_then : (e : Bool × EndAction) (es : List (Bool × EndAction)) (w : Pair) (stamps : Stamps) (done : List AcceptedMessage) (ready : List messages.Message) (abandoned : List ℕ) (x y : Direction)
      → Bracketed (message_of all) x.rules y.rules
      → ((places more : List ℕ) → places ≡ (transfer_of x).receiver.places ++ more → Point (side_of from_a w) done ready abandoned places)
      → ((places more : List ℕ) → places ≡ (transfer_of y).receiver.places ++ more → BecomeReady all all_epochs places (side_of (not from_a) w).emitted (side_of (not from_a) (goes e.0 e.1 w)).emitted
      (length ready) (length (ready ++ new_behind (ready_at (side_of (not from_a) w)) (ready_at (side_of (not from_a) (goes e.0 e.1 w))))))
      → DeliversOn es (goes e.0 e.1 w) (stamps_after e.0 e.1 w stamps) (done ++ accepted_at from_a e.0 e.1 w)
      (ready ++ new_behind (ready_at (side_of (not from_a) w)) (ready_at (side_of (not from_a) (goes e.0 e.1 w)))) (abandoned ++ given_up_at from_a e.0 e.1 w) y
      → DeliversOn (e ∷ es) w stamps done ready abandoned x
  on_then e es w stamps done ready abandoned x y b now timed d = record {
    places = d.places;
    more = b.more ++ d.more;
    grown = grown;
    points = points;
    in_epochs = in_epochs;
    leads =
        regrouped (run es v) (stamps_along es v (stamps_after e.0 e.1 w stamps)) (accepted from_a es v) (messages_made_ready (not from_a) es v) (given_up from_a es v) d.leads;
  }
    where
      v : Pair
      v = goes e.0 e.1 w

      os : List AcceptedMessage
      os = accepted_at from_a e.0 e.1 w

      new : List messages.Message
      new = new_behind (ready_at (side_of (not from_a) w)) (ready_at (side_of (not from_a) v))

      left : List ℕ
      left = given_up_at from_a e.0 e.1 w

      grown : d.places ≡ (transfer_of x).receiver.places ++ (b.more ++ d.more)
      grown = d.grown ∙ (ap (λ (l : List ℕ). l ++ d.more) b.places ∙ append_assoc (transfer_of x).receiver.places b.more d.more)

      later : (s : Side) (os2 : List AcceptedMessage) (ms2 : List messages.Message) (ps2 : List ℕ) → Point s ((done ++ os) ++ os2) ((ready ++ new) ++ ms2) ((abandoned ++ left) ++ ps2) d.places
          → Point s (done ++ (os ++ os2)) (ready ++ (new ++ ms2)) (abandoned ++ (left ++ ps2)) d.places
      later s os2 ms2 ps2 p =
          subst (λ (o : List AcceptedMessage). Point s o (ready ++ (new ++ ms2)) (abandoned ++ (left ++ ps2)) d.places) (append_assoc done os os2)
          (subst (λ (m : List messages.Message). Point s ((done ++ os) ++ os2) m (abandoned ++ (left ++ ps2)) d.places) (append_assoc ready new ms2)
          (subst (λ (l : List ℕ). Point s ((done ++ os) ++ os2) ((ready ++ new) ++ ms2) l d.places) (append_assoc abandoned left ps2) p))

      regrouped : (u : Pair) (z : Stamps) (os2 : List AcceptedMessage) (ms2 : List messages.Message) (ps2 : List ℕ)
          → Leads u z ((done ++ os) ++ os2) ((ready ++ new) ++ ms2) ((abandoned ++ left) ++ ps2) d.places → Leads u z (done ++ (os ++ os2)) (ready ++ (new ++ ms2)) (abandoned ++ (left ++ ps2)) d.places
      regrouped u z os2 ms2 ps2 l =
          subst (λ (o : List AcceptedMessage). Leads u z o (ready ++ (new ++ ms2)) (abandoned ++ (left ++ ps2)) d.places) (append_assoc done os os2)
          (subst (λ (m : List messages.Message). Leads u z ((done ++ os) ++ os2) m (abandoned ++ (left ++ ps2)) d.places) (append_assoc ready new ms2)
          (subst (λ (p : List ℕ). Leads u z ((done ++ os) ++ os2) ((ready ++ new) ++ ms2) p d.places) (append_assoc abandoned left ps2) l))

      points : (early late : List (Bool × EndAction)) → (e ∷ es) ≡ early ++ late
          → Point (side_of from_a (run early w)) (done ++ accepted from_a early w) (ready ++ messages_made_ready (not from_a) early w) (abandoned ++ given_up from_a early w) d.places
      points [] late is = here w done ready abandoned d.places (now d.places (b.more ++ d.more) grown)
      points (f ∷ early) late is =
          subst (λ (z : Bool × EndAction). Point (side_of from_a (run (z ∷ early) w)) (done ++ accepted from_a (z ∷ early) w) (ready ++ messages_made_ready (not from_a) (z ∷ early) w)
          (abandoned ++ given_up from_a (z ∷ early) w) d.places) (ap (λ (z : List (Bool × EndAction)). first_action z e) is)
          (later (side_of from_a (run early v)) (accepted from_a early v) (messages_made_ready (not from_a) early v) (given_up from_a early v) (d.points early late (ap other_actions is)))

      first : BecomeReadyAt d.places w ready [] e
      first k n o l h =
          let lo = ap (λ (ms : List messages.Message). length ms) (append-nil ready) in
          let hi = ap (λ (ms : List messages.Message). length (ready ++ ms)) (append-nil new) in
          timed d.places d.more d.grown k n o (omega (arith, l, lo)) (omega (arith, h, hi))

      behind : (early : List (Bool × EndAction)) (z : Bool × EndAction) → BecomeReadyAt d.places v (ready ++ new) early z → BecomeReadyAt d.places w ready (e ∷ early) z
      behind early z r k n o l h =
          let lo = ap (λ (ms : List messages.Message). length ms) (append_assoc ready new (messages_made_ready (not from_a) early v)) in
          let hi = ap (λ (ms : List messages.Message). length ms) (append_assoc ready new (messages_made_ready (not from_a) (early ++ z ∷ []) v)) in
          r k n o (omega (arith, l, lo)) (omega (arith, h, hi))

      in_epochs : (early late : List (Bool × EndAction)) (z : Bool × EndAction) → (e ∷ es) ≡ early ++ z ∷ late → BecomeReadyAt d.places w ready early z
      in_epochs [] late z is = subst (λ (t : Bool × EndAction). BecomeReadyAt d.places w ready [] t) (ap (λ (ts : List (Bool × EndAction)). first_action ts e) is) first
      in_epochs (f ∷ early) late z is =
          subst (λ (t : Bool × EndAction). BecomeReadyAt d.places w ready (t ∷ early) z) (ap (λ (ts : List (Bool × EndAction)). first_action ts e) is) (behind early z (d.in_epochs early late z (ap other_actions is)))

  pub delivers_on : (es : List (Bool × EndAction)) (w : Pair) (stamps : Stamps) → KeepsRules es w → NoAssociationHasEnded (run es w) → KeepsWindows es w stamps
      → (k : NumberedBefore) → KeepsRequests es w k → AreFewPerformed (run es w) → Halves a b w.a w.b → AreSilent w
      → (done more : List AcceptedMessage) → all ≡ done ++ (accepted from_a es w ++ more)
      → (f : ℕ → StreamEpoch) (epochs more_epochs : List ℕ) → all_epochs ≡ epochs ++ (message_epochs from_a es w f ++ more_epochs) → (handed ready : List messages.Message)
      → ready ≡ handed ++ ready_at (side_of (not from_a) w) → (abandoned : List ℕ) (x : Direction) → From w stamps (length done) handed (so_far from_a f epochs k) x
      → Accounted (lifecycle_of all) (side_of from_a w) abandoned x → DeliversOn es w stamps done ready abandoned x
  delivers_on [] w stamps follows none windows k soon emitted h quiet done more is f epochs more_epochs are handed ready r abandoned x flows accounts = record {
    places = (transfer_of x).receiver.places;
    more = [];
    grown = sym (append-nil (transfer_of x).receiver.places);
    points = points;
    in_epochs = in_epochs;
    leads =
        subst (λ (os : List AcceptedMessage). Leads w stamps os (ready ++ []) (abandoned ++ []) (transfer_of x).receiver.places) (sym (append-nil done))
        (subst (λ (ms : List messages.Message). Leads w stamps done ms (abandoned ++ []) (transfer_of x).receiver.places) (sym (append-nil ready))
        (subst (λ (ps : List ℕ). Leads w stamps done ready ps (transfer_of x).receiver.places) (sym (append-nil abandoned)) now));
  }
    where
      now : Leads w stamps done ready abandoned (transfer_of x).receiver.places
      now = record {
        handed = handed;
        ready_are = r;
        last = x;
        said = so_far from_a f epochs k;
        flows = flows;
        accounts = accounts;
        places_are = refl;
      }

      points : (early late : List (Bool × EndAction)) → [] ≡ early ++ late
          → Point (side_of from_a (run early w)) (done ++ accepted from_a early w) (ready ++ messages_made_ready (not from_a) early w) (abandoned ++ given_up from_a early w) (transfer_of x).receiver.places
      points [] late e =
          here w done ready abandoned (transfer_of x).receiver.places
          (point_now w stamps done more is handed ready r abandoned (so_far from_a f epochs k) x flows accounts (transfer_of x).receiver.places [] (sym (append-nil (transfer_of x).receiver.places)))
      points (e ∷ early) late is = cc

      in_epochs : (early late : List (Bool × EndAction)) (e : Bool × EndAction) → [] ≡ early ++ e ∷ late → BecomeReadyAt (transfer_of x).receiver.places w ready early e
      in_epochs [] late e is = cc
      in_epochs (g ∷ early) late e is = cc
  delivers_on (e ∷ es) w stamps follows none windows k soon emitted h quiet done more is f epochs more_epochs are handed ready r abandoned x flows accounts =
      let v : Pair = goes e.0 e.1 w in
      let os : List AcceptedMessage = accepted_at from_a e.0 e.1 w in
      let later : List AcceptedMessage = accepted from_a es v ++ more in
      let split : all ≡ done ++ (os ++ later) = is ∙ ap (λ (l : List AcceptedMessage). done ++ l) (append_assoc os (accepted from_a es v) more) in
      let new : List messages.Message = new_behind (ready_at (side_of (not from_a) w)) (ready_at (side_of (not from_a) v)) in
      let not_yet : NoAssociationHasEnded v = before_run es v none in
      let few_now : AreFewPerformed w = λ y. few_before y (e ∷ es) w (2 ^ 32 - 1) (emitted y) in
      let g : ℕ → StreamEpoch = epochs_after from_a e.0 e.1 w f in
      let ns : List ℕ = epochs_of os f in
      let later_epochs : List ℕ = message_epochs from_a es v g ++ more_epochs in
      let split_epochs : all_epochs ≡ (epochs ++ ns) ++ later_epochs =
      are ∙ (ap (λ (l : List ℕ). epochs ++ l) (append_assoc ns (message_epochs from_a es v g) more_epochs) ∙ sym (append_assoc epochs ns later_epochs)) in
      let s = stepped (message_of all) (lifecycle_of all) is_interleaved parts a b own other mode from_a e.0 e.1 w stamps h quiet windows.0 k (answered_now (e ∷ es) w k soon) few_now follows.0 windows.1 not_yet
      (length done) handed (offered_from all done os later split) (below done os later split) f epochs x flows in
      let hand : Hands (handed_at (not from_a) e.0 e.1 w) (state_of (side_of (not from_a) w)) (state_of (side_of (not from_a) v)) =
      hands_at a b own other (not from_a) e.0 e.1 w follows.0 not_yet h in
      let handed_then : List messages.Message = handed ++ handed_at (not from_a) e.0 e.1 w in
      let now_ready : ready ++ new ≡ handed_then ++ ready_at (side_of (not from_a) v) =
      ap (λ (ms : List messages.Message). ms ++ new) r
      ∙ (append_assoc handed (ready_at (side_of (not from_a) w)) new
      ∙ (ap (λ (ms : List messages.Message). handed ++ ms) hand.all ∙ sym (append_assoc handed (handed_at (not from_a) e.0 e.1 w) (ready_at (side_of (not from_a) v))))) in
      let said : SoFar = so_far from_a g (epochs ++ ns) (asked_after e.0 e.1 w k) in
      on_then e es w stamps done ready abandoned x s.to s.bracketed (point_now w stamps done (accepted from_a (e ∷ es) w ++ more) is handed ready r abandoned (so_far from_a f epochs k) x flows accounts)
      (timed_now w v done handed ready r (done ++ os) handed_then new now_ready stamps (stamps_after e.0 e.1 w stamps) (length done) (length done + length os) (so_far from_a f epochs k) said x s.to flows
      s.flows s.bracketed later_epochs split_epochs)
      (delivers_on es v (stamps_after e.0 e.1 w stamps) follows.1 none windows.2 (asked_after e.0 e.1 w k) soon.1 emitted (goes_consistent a b own other e.0 e.1 w follows.0 not_yet h)
      (silent_goes e.0 e.1 w quiet) (done ++ os) more (split ∙ sym (append_assoc done os later)) g (epochs ++ ns) more_epochs split_epochs handed_then (ready ++ new) now_ready
      (abandoned ++ given_up_at from_a e.0 e.1 w) s.to
      (subst (λ (n : ℕ). From v (stamps_after e.0 e.1 w stamps) n handed_then said s.to) (sym (length-append done os)) s.flows) (s.accounts abandoned accounts))
    where
      below : (done os later : List AcceptedMessage) → all ≡ done ++ (os ++ later) → length done + length os < 2 ^ 32
      below done os later e =
          let n = ap (λ (z : List AcceptedMessage). length z) e in
          let m = length-append done (os ++ later) in
          let k = length-append os later in
          omega (arith, few, n, m, k)

  -- ---- at one more action of the sender, up to the first end of an association

  -- what it emits is emitted behind what was emitted before
  emitted_both : (side : Side) (past early rest : List (Event Carried)) → side.emitted ≡ past ++ (early ++ rest) → (offers : List AcceptedMessage) (places : List ℕ)
      → ReportsAreTrue offers side.emitted places → ReportsAreTrue offers (past ++ early) places
  emitted_both side past early rest e offers places true_of id is =
      let all_emitted : delivered_ids side.emitted ≡ delivered_ids (past ++ early) ++ delivered_ids rest =
      ap (λ (es : List (Event Carried)). delivered_ids es) (e ∙ sym (append_assoc past early rest)) ∙ delivered_more (past ++ early) rest in
      true_of id (ap (λ (ids : List ℕ). has id ids) all_emitted ∙ has_keeps id (delivered_ids (past ++ early)) (delivered_ids rest) is)

  -- nor does it emit that a reset failed
  none_both : (side : Side) (past early rest : List (Event Carried)) → side.emitted ≡ past ++ (early ++ rest) → failed_in side.emitted ≡ false → failed_in (past ++ early) ≡ false
  none_both side past early rest e none =
      let all_emitted : failed_in side.emitted ≡ (failed_in (past ++ early) || failed_in rest) =
      ap (λ (es : List (Event Carried)). failed_in es) (e ∙ sym (append_assoc past early rest)) ∙ failed_more (past ++ early) rest in
      (or_parts (failed_in (past ++ early)) (failed_in rest) (sym all_emitted ∙ none)).0

  until_then : (s r side : Side) (of : Stamp → ℕ) (stamps_s stamps_r : List Stamp) (done os : List AcceptedMessage) → all ≡ done ++ os → (handed ready : List messages.Message)
      → ready ≡ handed ++ ready_at r → (x : Direction) → Invariant (message_of all) is_interleaved (transfer_of x) → ReceivesIn (message_of all) is_interleaved (state_of r) handed x
      → (abandoned by : List ℕ) → Accounted (lifecycle_of all) s abandoned x → (then : SoFar)
      → DirectionAfterAction (message_of all) (lifecycle_of all) is_interleaved of side r (length done + length os) handed stamps_s stamps_r then x s by
      → ReportsAreTrue (done ++ os) side.emitted (take (length ready) (transfer_of x).receiver.places)
  until_then s r side of stamps_s stamps_r done os is handed ready ready_are x kept receives abandoned by emitted then t =
      let whole : all ≡ (done ++ os) ++ [] = is ∙ sym (append-nil (done ++ os)) in
      let shown = λ (y : Direction) (h : ReceivesIn (message_of all) is_interleaved (state_of r) handed y).
      subst (λ (ms : List messages.Message). (transfer_of y).receiver.ready ≡ map ready_of ms) (sym ready_are) (ready_is (message_of all) is_interleaved (state_of r) handed y h) in
      let to : List ℕ = (transfer_of t.to).receiver.places in
      let p : Point side (done ++ os) ready (abandoned ++ by) to =
      point (message_of all) (lifecycle_of all) is_interleaved (done ++ os) (accepted_there all (done ++ os) [] whole) (lifecycle_accepted all (done ++ os) [] whole) side t.to
      t.flows.kept.epochs.order.kept (t.flows.accepted_is ∙ sym (length-append done os)) (abandoned ++ by) (t.accounts abandoned emitted) t.flows.sends ready (shown t.to t.flows.refines) to []
      (sym (append-nil to)) in
      let there = accepted_there all (done ++ os) [] whole in
      let now : take (length ready) to ≡ (transfer_of x).receiver.places =
      first_places (message_of all) (done ++ os) there is_interleaved (transfer_of x) ready kept (shown x receives) to t.bracketed.more t.bracketed.places in
      let before : take (length ready) (transfer_of x).receiver.places ≡ (transfer_of x).receiver.places =
      first_places (message_of all) (done ++ os) there is_interleaved (transfer_of x) ready kept (shown x receives) (transfer_of x).receiver.places [] (sym (append-nil (transfer_of x).receiver.places)) in
      subst (λ (ps : List ℕ). ReportsAreTrue (done ++ os) side.emitted ps) (now ∙ sym before) p.reports

-- what an end emitted, and emits in front of the first end of an association
pub record EmitsThen (emitted early : List (Event Carried)) (offers : List AcceptedMessage) (places : List ℕ) : Type 0 where
  pub reports : ReportsAreTrue offers (emitted ++ early) places
  pub none_refused : failed_in (emitted ++ early) ≡ false

module _ (all : List AcceptedMessage) (all_epochs : List ℕ) (is_interleaved : Bool) (parts : PreservedByActs (message_of all) (lifecycle_of all) is_interleaved) (few : length all < 2 ^ 32) where
  below_all : (done os : List AcceptedMessage) → all ≡ done ++ os → length done + length os < 2 ^ 32
  below_all done os e =
      let n = ap (λ (z : List AcceptedMessage). length z) e in
      let m = length-append done os in
      omega (arith, few, n, m)

  pub emits_then : (from_a : Bool) (a b : Options) (own : AreValidOptions a) (other : AreValidOptions b) (mode : is_interleaved ≡ (agreed a b).message_interleaving) (w : Pair) (stamps : Stamps)
      → Halves a b w.a w.b → AreSilent w → AreWithin w → AreFewPerformed w → NoAssociationHasEnded w → (t : EndAction) → MayAct t (side_of from_a w)
      → IsTimely t (numbered w) (stamps_for from_a stamps) → (done : List AcceptedMessage) → all ≡ done ++ accepted_in t (side_of from_a w) → (ready : List messages.Message) (abandoned places : List ℕ)
      → Leads all all_epochs is_interleaved parts a b own other mode few from_a w stamps done ready abandoned places
      → (early late : List (Event Carried)) → (emitted_by t (side_of from_a w) (side_of (not from_a) w)).events ≡ early ++ late → endings early ≡ 0
      → EmitsThen (side_of from_a w).emitted early (done ++ accepted_in t (side_of from_a w)) (take (length ready) places)
  emits_then true a b own other mode w stamps h quiet within performed none t may timely done is ready abandoned places l early late emitted before =
      let offered = offered_from all done (accepted_in t w.a) [] (is ∙ ap (λ (os : List AcceptedMessage). done ++ os) (sym (append-nil (accepted_in t w.a)))) in
      let u = action_until (message_of all) (lifecycle_of all) is_interleaved (of_end true) parts a b own other mode w.a w.b h quiet.a quiet.b within.a (length done) l.handed stamps.of_a stamps.of_b
      l.said l.last l.flows (performed true) (numbered w) (stamp true w) refl refl (λ old y. y.a) t may timely none.a offered (below_all done (accepted_in t w.a) is) early late emitted before in
      record {
        reports = emitted_both all all_epochs is_interleaved parts a b own other mode few true u.side w.a.emitted early u.rest u.emitted (done ++ accepted_in t w.a) (take (length ready) places)
            (subst (λ (ps : List ℕ). ReportsAreTrue (done ++ accepted_in t w.a) u.side.emitted (take (length ready) ps)) (sym l.places_are)
            (until_then all all_epochs is_interleaved parts a b own other mode few true w.a w.b u.side (of_end true) _ _ done (accepted_in t w.a) is l.handed ready l.ready_are l.last
            l.flows.kept.epochs.order.kept l.flows.refines abandoned u.by l.accounts u.then u.out));
        none_refused = none_both all all_epochs is_interleaved parts a b own other mode few true u.side w.a.emitted early u.rest u.emitted u.out.flows.none_failed;
      }
  emits_then false a b own other mode w stamps h quiet within performed none t may timely done is ready abandoned places l early late emitted before =
      let offered = offered_from all done (accepted_in t w.b) [] (is ∙ ap (λ (os : List AcceptedMessage). done ++ os) (sym (append-nil (accepted_in t w.b)))) in
      let u = action_until (message_of all) (lifecycle_of all) is_interleaved (of_end false) parts b a other own (mode_back (message_of all) (lifecycle_of all) is_interleaved parts a b own other mode) w.b w.a (swapped a b w.a w.b h)
      quiet.b quiet.a within.b (length done) l.handed stamps.of_b stamps.of_a
      l.said l.last l.flows (performed false) (numbered w) (stamp false w) refl refl (λ old y. y.b) t may timely none.b offered (below_all done (accepted_in t w.b) is) early late emitted before in
      record {
        reports = emitted_both all all_epochs is_interleaved parts a b own other mode few false u.side w.b.emitted early u.rest u.emitted (done ++ accepted_in t w.b) (take (length ready) places)
            (subst (λ (ps : List ℕ). ReportsAreTrue (done ++ accepted_in t w.b) u.side.emitted (take (length ready) ps)) (sym l.places_are)
            (until_then all all_epochs is_interleaved parts a b own other mode few false w.b w.a u.side (of_end false) _ _ done (accepted_in t w.b) is l.handed ready l.ready_are l.last
            l.flows.kept.epochs.order.kept l.flows.refines abandoned u.by l.accounts u.then u.out));
        none_refused = none_both all all_epochs is_interleaved parts a b own other mode few false u.side w.b.emitted early u.rest u.emitted u.out.flows.none_failed;
      }
