-- What may happen next at a world; and each trace without bytes from elsewhere is that of a world.
use Rattle.std.proofs.Common.{◌≡◌, ℕ, Bool, true, false, Option, Some, None, List, [], ◌∷◌, ◌++◌, map, slice_get, refl, sym, ap, subst, ◌∙◌, append-nil, arith}
use Rattle.std.specs.Prelude.{All, option_map}
use Rattle.std.specs.List.{list_any}
use Rattle.std.proofs.lemmas.List.{map-append}
use Rattle.std.proofs.lemmas.List.Elements.{All-head, All-tail}
use Rattle.std.proofs.lemmas.Option.{slice_get-map, same_Some}
use Rattle.std.proofs.lemmas.Bool.{or_parts}
use Rattle.sctp_packet.specs.Packet.{PacketTree, Accepts, IsSized, lets_through}
use Rattle.sctp_packet.specs.declared.packet.PacketParseError.TheVariants.{InvalidChecksum}
use Rattle.sctp_state.specs.Options.{Options}
use Rattle.sctp_state.specs.Events.{Event}
use Rattle.spec_endpoint.specs.Association.{Endpoint}
use Rattle.spec_endpoint.specs.Input.{packet_refusal, on_packet, on_no_packet}
use Rattle.spec_endpoint.specs.Receiving.{Receives, read, not_read, policy_of}
use Rattle.spec_endpoint.specs.Wire.{field_of, word_at, AreBytes}
use Rattle.proof_endpoint.specs.Mapped.{Carried, as_written}
use Rattle.proof_endpoint.specs.ReceivedBack.{IsReceivable, as_received}
use Rattle.proof_endpoint.proofs.ReceivedBackLemmas.{is_accepted, length_written}
use Rattle.proof_pair.specs.Trace as traces
use Rattle.proof_pair.specs.Trace.{Pair, EndAction, Calls, Refuses, emitted_packets, give_carried, foreign_if, act, goes, run, start}
use Rattle.proof_pair.proofs.JoinActsLemmas.{packets_both}
use Rattle.proof_pair.proofs.AddedLemmas.{all_get}
use Rattle.spec_world.specs.Observations.{End, A, B, Call, Given}
use Rattle.spec_world.specs.World.{World, Action, CallOf, Give, GiveForeign, AdvanceTime, Gives, Happens, Runs, clock, record_news, call_socket, advance_time, fresh_world}
use Rattle.proof_world.specs.Reachable.{ActionFits, IsInBytes}
use Rattle.proof_world.specs.Traces.{is_a, end_of, is_let_through, give_action, IsGiveAction, IsActionOf, AreActionsOf}
use Rattle.proof_world.specs.Worlds.{is_foreign, NoneIsForeign, EmitsBytes, BothEmitBytes, TracesHaveWorlds}
use Rattle.proof_world.proofs.EventLemmas.{Readable}
use Rattle.proof_world.proofs.ActionsLemmas.{field_in}
use Rattle.proof_world.proofs.WorldLemmas.{Both, all_front, Stepped, steps}
use Rattle.proof_world.proofs.RunsLemmas.{fresh_both}
use Rattle.spec_endpoint.specs.Packets.{packets_in}

-- ---- each packet of the other end is received, or refused for its checksum

module _ (writes : List ℕ → ℕ) (p : Carried) (reads : Readable p) (s : Endpoint (List ℕ)) (by : List ℕ → ℕ) where
  abbrev packet : List ℕ
  packet = as_written writes p

  abbrev sum : ℕ
  sum = field_of writes p.header p.is_summed p.chunks

  abbrev lenient : Options
  lenient = record s.endpoint_state.context.options { disable_checksum_verification = true }

  hearable : IsReceivable lenient p
  hearable = record { header = reads.header; chunks = reads.chunks; short = reads.short; sum = refl }

  lenient_too : Accepts (policy_of lenient) (word_at writes packet) packet (as_received writes p)
  lenient_too = is_accepted writes p lenient hearable

  sized : IsSized packet
  sized = record { low = omega (arith, length_written p.header sum p.chunks); high = lenient_too.short_enough }

  receives_by : (b : Bool) → lets_through (policy_of s.endpoint_state.context.options) (word_at by packet) sum ≡ b → (t : Endpoint (List ℕ)) × Receives by packet s t
  receives_by true e =
      (on_packet (as_received writes p) s, read (as_received writes p) (record { packet = lenient_too.packet; short_enough = lenient_too.short_enough; sum = e }) refl)
  receives_by false e = (
    on_no_packet s,
    not_read InvalidChecksum (λ k. cc)
        (sized, ap (lets_through (policy_of s.endpoint_state.context.options) (word_at by packet)) (field_in p.header sum p.chunks lenient_too.packet.checksum_fits) ∙ e) refl,
  )

  receives : (t : Endpoint (List ℕ)) × Receives by packet s t
  receives = receives_by (lets_through (policy_of s.endpoint_state.context.options) (word_at by packet) sum) refl

there_in : (f : Carried → List ℕ) (packets : List (List ℕ)) (ps : List Carried) (n : ℕ) (p : Carried) → packets ≡ map f ps → slice_get ps n ≡ Some p → slice_get packets n ≡ Some (f p)
there_in f packets ps n p e there = ap (λ (l : List (List ℕ)). slice_get l n) e ∙ (slice_get-map f ps n ∙ ap (option_map f) there)

one_there : {X : Type 0} (x : X) → (y : X) × (y ≡ x)
one_there x = (x, refl)

never : true ≡ false → ⊥
never e = cc

next_call : (x : End) (call : Call) (w : World) → (u : World) × (u ≡ call_socket x call w)
next_call x call w = one_there (call_socket x call w)

next_time : (x : End) (now : ℕ) (w : World) → (u : World) × (u ≡ advance_time x now w)
next_time x now w = one_there (advance_time x now w)

-- ---- an end's action is that of one action of the world, which has one

module _ (word_of_a word_of_b : List ℕ → ℕ) where
  give_a : (n : ℕ) (w : World) (c : Pair) → Both word_of_a word_of_b w c → (p : Carried) → slice_get (emitted_packets c.b) n ≡ Some p → (u : World) × Gives A n w u
  give_a n w c h p there =
      let t = receives word_of_b p (all_get Readable (emitted_packets c.b) n p there h.b.readable) w.a.socket w.a.socket.endpoint_state.context.pack.word_of in (
        record_news A (Given A (clock w.a.socket) n) t.0 w,
        record {
          bytes = as_written word_of_b p;
          there = there_in (as_written word_of_b) w.b.packets (emitted_packets c.b) n p h.b.image.packets there;
          takes_bytes = record {
            after = t.0;
            takes = t.1;
            side = refl;
            logged = refl;
          };
          other_side = refl;
        },
      )

  give_b : (n : ℕ) (w : World) (c : Pair) → Both word_of_a word_of_b w c → (p : Carried) → slice_get (emitted_packets c.a) n ≡ Some p → (u : World) × Gives B n w u
  give_b n w c h p there =
      let t = receives word_of_a p (all_get Readable (emitted_packets c.a) n p there h.a.readable) w.b.socket w.b.socket.endpoint_state.context.pack.word_of in (
        record_news B (Given B (clock w.b.socket) n) t.0 w,
        record {
          bytes = as_written word_of_a p;
          there = there_in (as_written word_of_a) w.a.packets (emitted_packets c.a) n p h.a.image.packets there;
          takes_bytes = record {
            after = t.0;
            takes = t.1;
            side = refl;
            logged = refl;
          };
          other_side = refl;
        },
      )

  next : (action : Action) (w : World) (c : Pair) (turn : EndAction) → is_foreign action ≡ false → Both word_of_a word_of_b w c → IsActionOf word_of_a word_of_b action turn c
      → (u : World) × Happens action w u
  next (CallOf x call) w c turn k h is = next_call x call w
  next (Give n A) w c turn k h is = give_a n w c h is.carried is.there
  next (Give n B) w c turn k h is = give_b n w c h is.carried is.there
  next (GiveForeign x bytes) w c turn k h is = absurd (never k)
  next (AdvanceTime x now) w c turn k h is = next_time x now w

  one_receiving : (f g : List ℕ → ℕ) (n : ℕ) (end beside : traces.Side) (t u : EndAction) → IsGiveAction f g n end beside t → IsGiveAction f g n end beside u → t ≡ u
  one_receiving f g n end beside t u i j =
      i.received
      ∙ (ap (λ (p : Carried). give_action (is_let_through f g end.end.endpoint_state.context.options p) n (field_of g p.header p.is_summed p.chunks)) (same_Some i.carried j.carried (sym i.there ∙ j.there))
      ∙ sym j.received)

  one_action : (action : Action) (t u : EndAction) (c : Pair) → is_foreign action ≡ false → IsActionOf word_of_a word_of_b action t c → IsActionOf word_of_a word_of_b action u c → t ≡ u
  one_action (CallOf x call) t u c k i j = i ∙ sym j
  one_action (Give n A) t u c k i j = one_receiving word_of_a word_of_b n c.a c.b t u i j
  one_action (Give n B) t u c k i j = one_receiving word_of_b word_of_a n c.b c.a t u i j
  one_action (GiveForeign x bytes) t u c k i j = cc
  one_action (AdvanceTime x now) t u c k i j = i ∙ sym j

  pub goes_next : (action : Action) (w u : World) (c : Pair) (turn : EndAction) → is_foreign action ≡ false → ActionFits action → IsInBytes w → Happens action w u
      → IsActionOf word_of_a word_of_b action turn c → Both word_of_a word_of_b w c → Both word_of_a word_of_b u (goes (is_a (end_of action)) turn c)
  goes_next action w u c turn k fits small happens is h =
      let step : Stepped word_of_a word_of_b action w u c = steps word_of_a word_of_b action w u c fits small happens h in
      subst (λ (t : EndAction). Both word_of_a word_of_b u (goes (is_a (end_of action)) t c)) (one_action action step.turn turn c k step.is is) step.both

  pub one_trace : (actions : List Action) (es fs : List (Bool × EndAction)) (c : Pair) → NoneIsForeign actions → AreActionsOf word_of_a word_of_b actions es c
      → AreActionsOf word_of_a word_of_b actions fs c → es ≡ fs
  one_trace [] [] [] c none i j = refl
  one_trace [] [] (f ∷ fs) c none i j = absurd j
  one_trace [] (e ∷ es) fs c none i j = absurd i
  one_trace (action ∷ actions) [] fs c none i j = absurd i
  one_trace (action ∷ actions) (e ∷ es) [] c none i j = absurd j
  one_trace (action ∷ actions) ((at_a, t) ∷ es) ((at, u) ∷ fs) c none i j =
      let ends : at_a ≡ at = i.0 ∙ sym j.0 in
      let trace : t ≡ u = one_action action t u c ((or_parts (is_foreign action) (list_any is_foreign actions) none).0) i.1 j.1 in
      let same : (at_a, t) ≡ (at, u) = ap (λ (z : Bool). (z, t)) ends ∙ ap (λ (z : EndAction). (at, z)) trace in
      let rest : es ≡ fs =
      one_trace actions es fs (goes at_a t c) ((or_parts (is_foreign action) (list_any is_foreign actions) none).1) i.2
      (subst (λ (z : Bool × EndAction). AreActionsOf word_of_a word_of_b actions fs (goes z.0 z.1 c)) (sym same) j.2) in
      ap (λ (z : Bool × EndAction). z ∷ es) same ∙ ap (λ (l : List (Bool × EndAction)). (at, u) ∷ l) rest

-- ---- packets stay

abbrev EmitsMore : (x y : traces.Side) → Type 0
EmitsMore x y = (more : List (Event Carried)) × (y.emitted ≡ x.emitted ++ more)

given_more : (o : Option Carried) (checksum : ℕ) (x : traces.Side) → EmitsMore x (give_carried o checksum x)
given_more None checksum x = ([], sym (append-nil x.emitted))
given_more (Some p) checksum x = (_, refl)

foreign_more : (o : Option (List ℕ)) (p : PacketTree) (x : traces.Side) → EmitsMore x (foreign_if o p x)
foreign_more None p x = ([], sym (append-nil x.emitted))
foreign_more (Some text) p x = (_, refl)

turned_more : (t : EndAction) (x y : traces.Side) → EmitsMore x (act t x y)
turned_more (Calls call) x y = (_, refl)
turned_more (traces.Gives which checksum) x y = given_more (slice_get (emitted_packets y) which) checksum x
turned_more (Refuses p) x y = foreign_more (packet_refusal p.header.verification_tag p.chunks (traces.state_of x)) p x

bytes_front : (f : List ℕ → ℕ) (x y : traces.Side) → EmitsMore x y → EmitsBytes f y → EmitsBytes f x
bytes_front f x y m h =
    all_front AreBytes (map (as_written f) (emitted_packets x)) (map (as_written f) (packets_in m.0)) (map (as_written f) (emitted_packets y))
    (ap (λ (es : List (Event Carried)). map (as_written f) (packets_in es)) m.1
    ∙ (ap (map (as_written f)) (packets_both x.emitted m.0) ∙ map-append (as_written f) (emitted_packets x) (packets_in m.0))) h

module _ (word_of_a word_of_b : List ℕ → ℕ) where
  bytes_action : (at_a : Bool) (t : EndAction) (c : Pair) → BothEmitBytes word_of_a word_of_b (goes at_a t c) → BothEmitBytes word_of_a word_of_b c
  bytes_action true t c h = record { a = bytes_front word_of_a c.a (act t c.a c.b) (turned_more t c.a c.b) h.a; b = h.b }
  bytes_action false t c h = record { a = h.a; b = bytes_front word_of_b c.b (act t c.b c.a) (turned_more t c.b c.a) h.b }

  bytes_before : (es : List (Bool × EndAction)) (c : Pair) → BothEmitBytes word_of_a word_of_b (run es c) → BothEmitBytes word_of_a word_of_b c
  bytes_before [] c h = h
  bytes_before (e ∷ es) c h = bytes_action e.0 e.1 c (bytes_before es (goes e.0 e.1 c) h)

  pub in_bytes : (w : World) (c : Pair) → Both word_of_a word_of_b w c → BothEmitBytes word_of_a word_of_b c → IsInBytes w
  in_bytes w c h k = record { a = subst (All AreBytes) (sym h.a.image.packets) k.a; b = subst (All AreBytes) (sym h.b.image.packets) k.b }

  -- ---- traces

  pub record Reaches (actions : List Action) (w : World) (c : Pair) : Type 0 where
    pub world : World
    pub runs : Runs actions w world
    pub both : Both word_of_a word_of_b world c

  pub reaches : (actions : List Action) (trace : List (Bool × EndAction)) (w : World) (c : Pair) → All ActionFits actions → NoneIsForeign actions
      → AreActionsOf word_of_a word_of_b actions trace c → BothEmitBytes word_of_a word_of_b (run trace c) → Both word_of_a word_of_b w c → Reaches actions w (run trace c)
  reaches [] [] w c fit none are bytes h = record { world = w; runs = refl; both = h }
  reaches [] (e ∷ es) w c fit none are bytes h = absurd are
  reaches (action ∷ actions) [] w c fit none are bytes h = absurd are
  reaches (action ∷ actions) (e ∷ es) w c fit none are bytes h =
      let own : is_foreign action ≡ false = (or_parts (is_foreign action) (list_any is_foreign actions) none).0 in
      let n = next word_of_a word_of_b action w c e.1 own h are.1 in
      let small : IsInBytes w = in_bytes w c h (bytes_before (e ∷ es) c bytes) in
      let both : Both word_of_a word_of_b n.0 (goes (is_a (end_of action)) e.1 c) =
      goes_next word_of_a word_of_b action w n.0 c e.1 own (All-head ActionFits action actions fit) small n.1 are.1 h in
      let rest : Reaches actions n.0 (run es (goes e.0 e.1 c)) =
      reaches actions es n.0 (goes e.0 e.1 c) (All-tail ActionFits action actions fit)
      ((or_parts (is_foreign action) (list_any is_foreign actions) none).1) are.2 bytes
      (subst (λ (b : Bool). Both word_of_a word_of_b n.0 (goes b e.1 c)) (sym are.0) both) in
      record { world = rest.world; runs = (n.0, n.1, rest.runs); both = rest.both }

pub have_worlds : TracesHaveWorlds
have_worlds a b draws_a draws_b word_of_a word_of_b actions trace fits_a fits_b fit none are bytes =
    let r : Reaches word_of_a word_of_b actions (fresh_world a b draws_a draws_b word_of_a word_of_b) (run trace (start a b draws_a draws_b)) =
    reaches word_of_a word_of_b actions trace (fresh_world a b draws_a draws_b word_of_a word_of_b) (start a b draws_a draws_b) fit none are bytes
    (fresh_both a b draws_a draws_b word_of_a word_of_b fits_a fits_b) in
    record { world = r.world; runs = r.runs; images = record { a = r.both.a.image; b = r.both.b.image } }
