-- A run keeps the windows that its trace keeps, where each packet that is given is let through; and its requests are answered as there.
use Rattle.std.proofs.Common.{◌≡◌, ℕ, Bool, true, false, Some, List, [], ◌∷◌, slice_get, sym, subst}
use Rattle.std.specs.Prelude.{All}
use Rattle.std.specs.List.{list_any}
use Rattle.std.proofs.lemmas.List.Elements.{All-head, All-tail}
use Rattle.std.proofs.lemmas.Bool.{or_parts}
use Rattle.spec_endpoint.specs.Association.{Endpoint}
use Rattle.spec_endpoint.specs.Laws.{ReceiveNoPacket}
use Rattle.spec_endpoint.specs.Wire.{field_of}
use Rattle.proof_endpoint.specs.Mapped.{Mapping, Carried, map_end, as_bytes}
use Rattle.proof_pair.specs.Trace as traces
use Rattle.proof_pair.specs.Trace.{Pair, EndAction, Calls, goes, state_of}
use Rattle.proof_delivery.specs.Answered as requests
use Rattle.proof_delivery.specs.Answered.{NumberedBefore, IsAnswered}
use Rattle.proof_delivery.specs.Windows as windows
use Rattle.proof_delivery.specs.Windows.{IsWithin, Stamp, Stamps, IsYoung}
use Rattle.spec_world.specs.Observations.{A, B}
use Rattle.spec_world.specs.World.{Side, World, Action, CallOf, Give, GiveForeign, AdvanceTime, Runs}
use Rattle.proof_world.specs.Reachable.{ActionFits, IsInBytes}
use Rattle.proof_world.specs.Traces.{is_a, end_of, is_let_through, give_action, IsGiveAction, IsActionOf, AreActionsOf}
use Rattle.proof_world.specs.Delivered.{SideIsWithin, WorldIsWithin, world_numbered, stamps_after, ActionIsTimely, WorldKeepsWindows, asked_after, WorldIsAnswered, WorldKeepsRequests}
use Rattle.proof_world.specs.Worlds.{is_foreign, NoneIsForeign}
use Rattle.proof_world.proofs.WorldLemmas.{Both, extends_then, in_bytes_before}
use Rattle.proof_world.proofs.RunsLemmas.{runs_extends, happens_extends}
use Rattle.proof_world.proofs.DeliveredLemmas.{numbered_same, stamps_same, asked_same}
use Rattle.proof_world.proofs.NextLemmas.{goes_next}

-- a packet that isn't let through is received as none
abbrev pub is_of_none : EndAction → Bool
is_of_none (Calls ReceiveNoPacket) = true
is_of_none turn = false

abbrev pub AllAreReceived : List (Bool × EndAction) → Type 0
AllAreReceived trace = list_any (λ (e : Bool × EndAction). is_of_none e.1) trace ≡ false

receiving_timely : (b : Bool) (n sum : ℕ) (now : Stamp) (stamps : List Stamp) → is_of_none (give_action b n sum) ≡ false → windows.IsTimely (give_action b n sum) now stamps
    → (old : Stamp) → slice_get stamps n ≡ Some old → IsYoung now old
receiving_timely true n sum now stamps k t = t
receiving_timely false n sum now stamps k t = cc

given_timely : (f g : List ℕ → ℕ) (n : ℕ) (own beside : traces.Side) (turn : EndAction) (now : Stamp) (stamps : List Stamp) → IsGiveAction f g n own beside turn → is_of_none turn ≡ false
    → windows.IsTimely turn now stamps → (old : Stamp) → slice_get stamps n ≡ Some old → IsYoung now old
given_timely f g n own beside turn now stamps is k t =
    receiving_timely (is_let_through f g own.end.endpoint_state.context.options is.carried) n (field_of g is.carried.header is.carried.is_summed is.carried.chunks) now stamps
    (subst (λ (z : EndAction). is_of_none z ≡ false) is.received k) (subst (λ (z : EndAction). windows.IsTimely z now stamps) is.received t)

module _ (word_of_a word_of_b : List ℕ → ℕ) where
  within_of : (f : Mapping Carried (List ℕ)) (side : Side) (end : traces.Side) → side.socket ≡ map_end f end.end → IsWithin (state_of end) (windows.queue_of end) → SideIsWithin side
  within_of f side end e h = subst (λ (z : Endpoint (List ℕ)). IsWithin z.endpoint_state.state z.endpoint_state.context.queue) (sym e) h

  are_within : (w : World) (c : Pair) → Both word_of_a word_of_b w c → windows.AreWithin c → WorldIsWithin w
  are_within w c h k = record {
    a = within_of (as_bytes word_of_a) w.a c.a h.a.image.socket k.a;
    b = within_of (as_bytes word_of_b) w.b c.b h.b.image.socket k.b;
  }

  timely : (action : Action) (w : World) (c : Pair) (turn : EndAction) (s : Stamps) → Both word_of_a word_of_b w c → is_of_none turn ≡ false → IsActionOf word_of_a word_of_b action turn c
      → windows.IsTimely turn (windows.numbered c) (windows.stamps_for (is_a (end_of action)) s) → ActionIsTimely action (world_numbered w) s
  timely (CallOf x call) w c turn s h k is t = tt
  timely (Give n A) w c turn s h k is t = λ old e.
      subst (λ (z : Stamp). IsYoung z old) (sym (numbered_same word_of_a word_of_b w c h)) (given_timely word_of_a word_of_b n c.a c.b turn (windows.numbered c) s.of_b is k t old e)
  timely (Give n B) w c turn s h k is t = λ old e.
      subst (λ (z : Stamp). IsYoung z old) (sym (numbered_same word_of_a word_of_b w c h)) (given_timely word_of_b word_of_a n c.b c.a turn (windows.numbered c) s.of_a is k t old e)
  timely (GiveForeign x bytes) w c turn s h k is t = tt
  timely (AdvanceTime x now) w c turn s h k is t = tt

  pub keeps : (actions : List Action) (trace : List (Bool × EndAction)) (w v : World) (c : Pair) (s : Stamps) → All ActionFits actions → NoneIsForeign actions → AllAreReceived trace
      → AreActionsOf word_of_a word_of_b actions trace c → (r : Runs actions w v) → IsInBytes v → Both word_of_a word_of_b w c
      → windows.KeepsWindows trace c s → WorldKeepsWindows actions w v r s
  keeps [] [] w v c s fit none received are r small h k = λ stands. are_within w c h k
  keeps [] (e ∷ es) w v c s fit none received are r small h k = absurd are
  keeps (action ∷ actions) [] w v c s fit none received are r small h k = absurd are
  keeps (action ∷ actions) ((at_a, turn) ∷ es) w v c s fit none received are r small h k =
      let u : World = r.0 in
      let here : IsInBytes w = in_bytes_before w v (extends_then w u v (happens_extends action w u r.1) (runs_extends actions u v r.2)) small in
      let own : is_foreign action ≡ false = (or_parts (is_foreign action) (list_any is_foreign actions) none).0 in
      let some : is_of_none turn ≡ false = (or_parts (is_of_none turn) (list_any (λ (e : Bool × EndAction). is_of_none e.1) es) received).0 in
      let both : Both word_of_a word_of_b u (goes at_a turn c) =
      subst (λ (b : Bool). Both word_of_a word_of_b u (goes b turn c)) (sym are.0)
      (goes_next word_of_a word_of_b action w u c turn own (All-head ActionFits action actions fit) here r.1 are.1 h) in (
        (λ stands. (
          are_within w c h k.0,
          timely action w c turn s h some are.1 (subst (λ (b : Bool). windows.IsTimely turn (windows.numbered c) (windows.stamps_for b s)) are.0 k.1),
        )),
        keeps actions es u v (goes at_a turn c) (stamps_after w u s) (All-tail ActionFits action actions fit)
            ((or_parts (is_foreign action) (list_any is_foreign actions) none).1) ((or_parts (is_of_none turn) (list_any (λ (e : Bool × EndAction). is_of_none e.1) es) received).1)
            are.2 r.2 small both
            (subst (λ (z : Stamps). windows.KeepsWindows es (goes at_a turn c) z) (sym (stamps_same word_of_a word_of_b at_a turn w u c s h both)) k.2),
      )

  -- ---- requests to reset streams

  answered_of : (f : Mapping Carried (List ℕ)) (side : Side) (end : traces.Side) (n : ℕ) → side.socket ≡ map_end f end.end → IsAnswered (state_of end) n → IsAnswered side.socket.endpoint_state.state n
  answered_of f side end n e h = subst (λ (z : Endpoint (List ℕ)). IsAnswered z.endpoint_state.state n) (sym e) h

  are_answered : (w : World) (c : Pair) (k : NumberedBefore) → Both word_of_a word_of_b w c → requests.AreAnswered c k → WorldIsAnswered w k
  are_answered w c k h i = record {
    a = answered_of (as_bytes word_of_a) w.a c.a k.a h.a.image.socket i.a;
    b = answered_of (as_bytes word_of_b) w.b c.b k.b h.b.image.socket i.b;
  }

  pub keeps_requests : (actions : List Action) (trace : List (Bool × EndAction)) (w v : World) (c : Pair) (k : NumberedBefore) → All ActionFits actions → NoneIsForeign actions
      → AreActionsOf word_of_a word_of_b actions trace c → (r : Runs actions w v) → IsInBytes v → Both word_of_a word_of_b w c
      → requests.KeepsRequests trace c k → WorldKeepsRequests actions w v r k
  keeps_requests [] [] w v c k fit none are r small h i = λ stands. are_answered w c k h i
  keeps_requests [] (e ∷ es) w v c k fit none are r small h i = absurd are
  keeps_requests (action ∷ actions) [] w v c k fit none are r small h i = absurd are
  keeps_requests (action ∷ actions) ((at_a, turn) ∷ es) w v c k fit none are r small h i =
      let u : World = r.0 in
      let here : IsInBytes w = in_bytes_before w v (extends_then w u v (happens_extends action w u r.1) (runs_extends actions u v r.2)) small in
      let own : is_foreign action ≡ false = (or_parts (is_foreign action) (list_any is_foreign actions) none).0 in
      let both : Both word_of_a word_of_b u (goes at_a turn c) =
      subst (λ (b : Bool). Both word_of_a word_of_b u (goes b turn c)) (sym are.0)
      (goes_next word_of_a word_of_b action w u c turn own (All-head ActionFits action actions fit) here r.1 are.1 h) in (
        (λ stands. are_answered w c k h i.0),
        keeps_requests actions es u v (goes at_a turn c) (asked_after w u k) (All-tail ActionFits action actions fit)
            ((or_parts (is_foreign action) (list_any is_foreign actions) none).1) are.2 r.2 small both
            (subst (λ (z : NumberedBefore). requests.KeepsRequests es (goes at_a turn c) z) (sym (asked_same word_of_a word_of_b at_a turn w u c k h both)) i.1),
      )
