-- One event in two worlds that are alike.
use Rattle.std.proofs.Common.{◌≡◌, ◌⊎◌, inl, inr, ℕ, ◌+◌, ◌||◌, ◌==◌, not, Bool, true, false, Option, Some, None, List, [], ◌∷◌, ◌++◌, slice_get, refl, sym, ap, subst, ◌∙◌, All}
use Rattle.sctp_state.specs.Events.{Event}
use Rattle.sctp_state.specs.Options.{Options}
use Rattle.spec_endpoint.specs.Association.{Context, Endpoint}
use Rattle.spec_endpoint.specs.Calls.{ready_in}
use Rattle.spec_endpoint.specs.Laws as table
use Rattle.spec_endpoint.specs.Laws.{endings}
use Rattle.spec_endpoint.specs.Wire.{field_of}
use Rattle.proof_endpoint.specs.Mapped.{Carried, map_context, as_bytes}
use Rattle.proof_endpoint.specs.ReceivedBack.{IsReceivable}
use Rattle.proof_endpoint.proofs.ReceivedBackLemmas.{is_accepted}
use Rattle.proof_pair.specs.Trace as traces
use Rattle.proof_pair.specs.Trace.{Pair, EndAction, Calls, Gives, Refuses, emitted_packets, act, goes, state_of}
use Rattle.proof_pair.proofs.AddedLemmas.{all_get}
use Rattle.proof_delivery.specs.Justified.{records_by, records_at}
use Rattle.proof_delivery.specs.Justified as justified
use Rattle.proof_draws.specs.NamedChunks.{Names}
use Rattle.proof_draws.specs.Names.{named_state, named_context}
use Rattle.proof_draws.specs.Alike as alike
use Rattle.proof_draws.specs.Alike.{AreEventsAlike, AreAlike, ArePairsAlike, ActsAlike, SameAction, PassesAt, ArePassed}
use Rattle.spec_world.specs.Observations.{End, A, B, Entry, Called, Given, Timed, given_up}
use Rattle.spec_world.specs.World.{Side, World, Action, CallOf, Give, GiveForeign, AdvanceTime, Happens, take_emitted, news_of, side_of, other, clock, answer_to, call_entry, after_call, time_entry, after_time, table_call}
use Rattle.proof_world.specs.Traces.{is_a, end_of, is_let_through, give_action, IsGiveAction, IsActionOf}
use Rattle.proof_world.proofs.EventLemmas.{Readable}
use Rattle.proof_world.proofs.BlockLemmas.{same_front}
use Rattle.proof_world.proofs.SidesLemmas.{IsFirst, Good}
use Rattle.proof_world.proofs.WorldLemmas.{Both, Stepped}
use Rattle.proof_world.specs.Visible.{without_record, shown_by, ShowTheSame}
use Rattle.proof_world.specs.Worlds.{is_foreign}
use Rattle.proof_world.proofs.VisibleLemmas.{packets_emitted, emitted_behind}
use Rattle.proof_world.proofs.AnswerLemmas.{ready_named, answers_alike}
use Rattle.proof_world.proofs.SeenLemmas.{Grows, emitted_grows, sent, shown_is, ready_alike, same_shown}

-- ---- what an event does, where it isn't one of bytes from elsewhere

abbrev pub first_of : Action → World → Entry
first_of (CallOf x call) w = call_entry x call (side_of x w).socket
first_of (Give n x) w = Given x (clock (side_of x w).socket) n
first_of (GiveForeign x bytes) w = Given x (clock (side_of x w).socket) 0
first_of (AdvanceTime x now) w = time_entry x now (side_of x w).socket

first_is : (action : Action) (w : World) → IsFirst (first_of action w)
first_is (CallOf x call) w = record { emitted = λ y. refl; quiet = λ y o. refl; given_up = λ y. refl }
first_is (Give n x) w = record { emitted = λ y. refl; quiet = λ y o. refl; given_up = λ y. refl }
first_is (GiveForeign x bytes) w = record { emitted = λ y. refl; quiet = λ y o. refl; given_up = λ y. refl }
first_is (AdvanceTime x now) w = record { emitted = λ y. refl; quiet = λ y o. refl; given_up = λ y. refl }

record Happening (x : End) (first : Entry) (old new : Side) (log longer : List Entry) : Type 0 where
  after : Endpoint (List ℕ)
  settles : new ≡ take_emitted old after
  logged : longer ≡ log ++ first ∷ news_of x old after

happening : (action : Action) (w u : World) → is_foreign action ≡ false → Happens action w u
    → Happening (end_of action) (first_of action w) (side_of (end_of action) w) (side_of (end_of action) u) w.log u.log
happening (CallOf A call) w u own e = record { after = after_call call w.a.socket; settles = ap (λ (z : World). z.a) e; logged = ap (λ (z : World). z.log) e }
happening (CallOf B call) w u own e = record { after = after_call call w.b.socket; settles = ap (λ (z : World). z.b) e; logged = ap (λ (z : World). z.log) e }
happening (Give n x) w u own g = record { after = g.takes_bytes.after; settles = g.takes_bytes.side; logged = g.takes_bytes.logged }
happening (GiveForeign x bytes) w u own g = cc
happening (AdvanceTime A now) w u own e = record { after = after_time now w.a.socket; settles = ap (λ (z : World). z.a) e; logged = ap (λ (z : World). z.log) e }
happening (AdvanceTime B now) w u own e = record { after = after_time now w.b.socket; settles = ap (λ (z : World). z.b) e; logged = ap (λ (z : World). z.log) e }

-- the clock that an end is given
clock_then : (x : End) (now : ℕ) (w u : World) → Happens (AdvanceTime x now) w u → clock (after_time now (side_of x w).socket) ≡ clock (side_of x u).socket
clock_then A now w u e = sym (ap (λ (z : World). z.a.socket.endpoint_state.context.now) e)
clock_then B now w u e = sym (ap (λ (z : World). z.b.socket.endpoint_state.context.now) e)

-- ---- the first entry

first_alike : (action : Action) (w u v z : World) → is_foreign action ≡ false → (n m : Names)
    → (side_of (end_of action) v).socket.endpoint_state.state ≡ named_state n (side_of (end_of action) w).socket.endpoint_state.state
    → (side_of (end_of action) v).socket.endpoint_state.context ≡ named_context n.tag (side_of (end_of action) w).socket.endpoint_state.context
    → (side_of (end_of action) z).socket.endpoint_state.context ≡ named_context m.tag (side_of (end_of action) u).socket.endpoint_state.context
    → Happens action w u → Happens action v z → shown_by (first_of action v) ≡ shown_by (first_of action w)
first_alike (CallOf x call) w u v z own n m state context after e f =
    ap (λ (c : Context (List ℕ)). Called x c.now call (without_record (answer_to call (side_of x v).socket)) ∷ []) context
    ∙ ap (λ a. Called x (clock (side_of x w).socket) call a ∷ []) (answers_alike n (side_of x w).socket (side_of x v).socket state context call)
first_alike (Give k x) w u v z own n m state context after e f = ap (λ (c : Context (List ℕ)). Given x c.now k ∷ []) context
first_alike (GiveForeign x bytes) w u v z own n m state context after e f = cc
first_alike (AdvanceTime x now) w u v z own n m state context after e f =
    ap (λ (k : ℕ). Timed x k now ∷ []) (clock_then x now v z f ∙ (ap (λ (c : Context (List ℕ)). c.now) after ∙ sym (clock_then x now w u e)))

-- ---- of either end

alike_of : (x : End) (c d : Pair) → ArePairsAlike c d → AreAlike (traces.side_of (is_a x) c) (traces.side_of (is_a x) d)
alike_of A c d h = h.a
alike_of B c d h = h.b

alike_after : (x : End) (t u : EndAction) (c d : Pair) → ArePairsAlike (goes (is_a x) t c) (goes (is_a x) u d)
    → AreAlike (act t (traces.side_of (is_a x) c) (traces.side_of (not (is_a x)) c)) (act u (traces.side_of (is_a x) d) (traces.side_of (not (is_a x)) d))
alike_after A t u c d h = h.a
alike_after B t u c d h = h.b

given_up_own : (x : End) (t : EndAction) (c : Pair) → records_at (is_a x) (is_a x) t c ≡ records_by t (traces.side_of (is_a x) c) (traces.side_of (not (is_a x)) c)
given_up_own A t c = refl
given_up_own B t c = refl

-- ---- the actions

-- no packet that an end refuses comes from elsewhere
abbrev IsOwn : EndAction → Type 0
IsOwn (Calls call) = Unit {0}
IsOwn (Gives which checksum) = Unit {0}
IsOwn (Refuses p) = ⊥

own_receiving : (b : Bool) (n checksum : ℕ) → IsOwn (give_action b n checksum)
own_receiving true n checksum = tt
own_receiving false n checksum = tt

own_action : (f : List ℕ → ℕ) (action : Action) (t : EndAction) (c : Pair) → is_foreign action ≡ false → IsActionOf f f action t c → IsOwn t
own_action f (CallOf x call) t c own is = subst IsOwn (sym is) tt
own_action f (Give n A) t c own is = subst IsOwn (sym is.received) (own_receiving _ n _)
own_action f (Give n B) t c own is = subst IsOwn (sym is.received) (own_receiving _ n _)
own_action f (GiveForeign x bytes) t c own is = cc
own_action f (AdvanceTime x now) t c own is = subst IsOwn (sym is) tt

given_up_given_same : (p : Option Carried) (checksum : ℕ) (x : traces.Side) → justified.records_given p checksum x ≡ alike.records_given p checksum x
given_up_given_same None checksum x = refl
given_up_given_same (Some p) checksum x = refl

given_up_same : (t : EndAction) (x y : traces.Side) → IsOwn t → records_by t x y ≡ alike.records_by t x y
given_up_same (Calls call) x y own = refl
given_up_same (Gives which checksum) x y own = given_up_given_same (slice_get (emitted_packets y) which) checksum x
given_up_same (Refuses p) x y own = absurd own

module _ (f : List ℕ → ℕ) where
  -- ---- packets pass

  sums : (d b z : Bool) → (b ≡ false → z ≡ false) → (d || (b || not z)) ≡ true
  sums true b z h = refl
  sums false true z h = refl
  sums false false z h = ap not (h refl)

  let_through : (o : Options) (p : Carried) → Readable p → (p.is_summed ≡ false → (o.zero_checksum_method == 0) ≡ false) → is_let_through f f o p ≡ true
  let_through o p reads passes =
      let hearable : IsReceivable o p =
      record { header = reads.header; chunks = reads.chunks; short = reads.short; sum = sums o.disable_checksum_verification p.is_summed (o.zero_checksum_method == 0) passes } in
      (is_accepted f p o hearable).sum

  received_given : (n : ℕ) (end beside : traces.Side) (t : EndAction) → IsGiveAction f f n end beside t → All Readable (emitted_packets beside) → All (PassesAt end) (emitted_packets beside)
      → (checksum : ℕ) × (t ≡ Gives n checksum)
  received_given n end beside t h reads passes = (
    field_of f h.carried.header h.carried.is_summed h.carried.chunks,
    h.received ∙ ap (λ (b : Bool). give_action b n (field_of f h.carried.header h.carried.is_summed h.carried.chunks))
        (let_through end.end.endpoint_state.context.options h.carried (all_get Readable (emitted_packets beside) n h.carried h.there reads) (all_get (PassesAt end) (emitted_packets beside) n h.carried h.there passes)),
  )

  same_given : (n : ℕ) (t u : EndAction) → (k : ℕ) × (t ≡ Gives n k) → (m : ℕ) × (u ≡ Gives n m) → SameAction t u
  same_given n t u first second = subst (λ (z : EndAction). SameAction z u) (sym first.1) second

  pub same_action : (action : Action) (t u : EndAction) (w v : World) (c d : Pair) → is_foreign action ≡ false → IsActionOf f f action t c → IsActionOf f f action u d
      → Both f f w c → Both f f v d → ArePassed c → ArePassed d → SameAction t u
  same_action (CallOf x call) t u w v c d own is too h k p q =
      subst (λ (z : EndAction). SameAction z u) (sym is) (subst (λ (z : EndAction). SameAction (Calls (table_call call)) z) (sym too) refl)
  same_action (Give n A) t u w v c d own is too h k p q =
      same_given n t u (received_given n c.a c.b t is h.b.readable p.b) (received_given n d.a d.b u too k.b.readable q.b)
  same_action (Give n B) t u w v c d own is too h k p q =
      same_given n t u (received_given n c.b c.a t is h.a.readable p.a) (received_given n d.b d.a u too k.a.readable q.a)
  same_action (GiveForeign x bytes) t u w v c d own is too h k p q = cc
  same_action (AdvanceTime x now) t u w v c d own is too h k p q =
      subst (λ (z : EndAction). SameAction z u) (sym is) (subst (λ (z : EndAction). SameAction (Calls (table.Advance now)) z) (sym too) refl)

  -- ---- worlds

  good_of : (x : End) (w : World) (c : Pair) → Both f f w c → Good f x w.log (side_of (other x) w).packets (side_of x w) (traces.side_of (is_a x) c)
  good_of A w c h = h.a
  good_of B w c h = h.b

  good_after : (x : End) (u : World) (t : EndAction) (c : Pair) → Both f f u (goes (is_a x) t c)
      → Good f x u.log (side_of (other x) u).packets (side_of x u) (act t (traces.side_of (is_a x) c) (traces.side_of (not (is_a x)) c))
  good_after A u t c h = h.a
  good_after B u t c h = h.b

  -- the context of a socket, by the trace
  context_in : (x : End) (log : List Entry) (others : List (List ℕ)) (side : Side) (end : traces.Side) → Good f x log others side end
      → side.socket.endpoint_state.context ≡ map_context (as_bytes f) end.end.endpoint_state.context
  context_in x log others side end g = ap (λ (z : Endpoint (List ℕ)). z.endpoint_state.context) g.image.socket

  contexts : (x : End) (log other_log : List Entry) (others others_too : List (List ℕ)) (side side_too : Side) (end end_too : traces.Side) → Good f x log others side end
      → Good f x other_log others_too side_too end_too → (a : AreAlike end end_too) → side_too.socket.endpoint_state.context ≡ named_context a.names.tag side.socket.endpoint_state.context
  contexts x log other_log others others_too side side_too end end_too g h a =
      context_in x other_log others_too side_too end_too h ∙ (ap (map_context (as_bytes f)) a.context ∙ ap (named_context a.names.tag) (sym (context_in x log others side end g)))

  states : (x : End) (log other_log : List Entry) (others others_too : List (List ℕ)) (side side_too : Side) (end end_too : traces.Side) → Good f x log others side end
      → Good f x other_log others_too side_too end_too → (a : AreAlike end end_too) → side_too.socket.endpoint_state.state ≡ named_state a.names side.socket.endpoint_state.state
  states x log other_log others others_too side side_too end end_too g h a =
      ap (λ (z : Endpoint (List ℕ)). z.endpoint_state.state) h.image.socket
      ∙ (a.state ∙ ap (named_state a.names) (sym (ap (λ (z : Endpoint (List ℕ)). z.endpoint_state.state) g.image.socket)))

  module _ (action : Action) (w u v z : World) (c d : Pair) (own : is_foreign action ≡ false) (first_happens : Happens action w u) (second_happens : Happens action v z)
      (h : Both f f w c) (k : Both f f v d) (s : Stepped f f action w u c) (r : Stepped f f action v z d) (before : ArePairsAlike c d)
      (after : ArePairsAlike (goes (is_a (end_of action)) s.turn c) (goes (is_a (end_of action)) r.turn d)) where
    abbrev x : End
    x = end_of action

    abbrev at : Bool
    at = is_a (end_of action)

    abbrev end : traces.Side
    end = traces.side_of (is_a (end_of action)) c

    abbrev beside : traces.Side
    beside = traces.side_of (not (is_a (end_of action))) c

    abbrev end_too : traces.Side
    end_too = traces.side_of (is_a (end_of action)) d

    abbrev beside_too : traces.Side
    beside_too = traces.side_of (not (is_a (end_of action))) d

    -- what it gives up, by the trace
    records_of : (w u : World) (c : Pair) (s : Stepped f f action w u c) (p : Happening x (first_of action w) (side_of x w) (side_of x u) w.log u.log)
        → given_up x (first_of action w ∷ news_of x (side_of x w) p.after) ≡ records_by s.turn (traces.side_of at c) (traces.side_of (not at) c)
    records_of w u c s p =
        ap (given_up x) (same_front w.log (first_of action w ∷ news_of x (side_of x w) p.after) s.extends.more (sym p.logged ∙ s.extends.logged))
        ∙ (s.records x ∙ given_up_own x s.turn c)

    pub event_shown : ActsAlike s.turn r.turn end beside end_too beside_too
        → (endings (act s.turn end beside).emitted ≡ 0) ⊎ (ready_in (state_of (act s.turn end beside)) ≡ []) → ShowTheSame w v → ShowTheSame u z
    event_shown acts closes shown =
        let p = happening action w u own first_happens in
        let q = happening action v z own second_happens in
        let g1 = good_of x w c h in
        let g2 = good_of x v d k in
        let h1 = good_after x u s.turn c s.both in
        let h2 = good_after x z r.turn d r.both in
        let a : AreAlike end end_too = alike_of x c d before in
        let b : AreAlike (act s.turn end beside) (act r.turn end_too beside_too) = alike_after x s.turn r.turn c d after in
        let m : Grows end (act s.turn end beside) = emitted_grows s.turn end beside in
        let n : Grows end_too (act r.turn end_too beside_too) = emitted_grows r.turn end_too beside_too in
        let emitted : AreEventsAlike m.since n.since =
        emitted_behind end.emitted end_too.emitted m.since n.since a.emitted
        (subst (λ (es : List (Event Carried)). AreEventsAlike es (end_too.emitted ++ n.since)) m.is (subst (λ (es : List (Event Carried)). AreEventsAlike (act s.turn end beside).emitted es) n.is b.emitted)) in
        let firsts : shown_by (first_of action v) ≡ shown_by (first_of action w) =
        first_alike action w u v z own a.names b.names (states x _ _ _ _ _ _ _ _ g1 g2 a) (contexts x _ _ _ _ _ _ _ _ g1 g2 a) (contexts x _ _ _ _ _ _ _ _ h1 h2 b) first_happens second_happens in
        let records : records_by r.turn end_too beside_too ≡ records_by s.turn end beside =
        given_up_same r.turn end_too beside_too (own_action f action r.turn d own r.is) ∙ (acts.given_up ∙ sym (given_up_same s.turn end beside (own_action f action s.turn c own s.is))) in
        shown_is f x v.log z.log _ _ (side_of x v) (side_of x z) end_too beside_too r.turn g2 h2 (first_of action v) (first_is action v) q.after q.settles q.logged (records_of v z d r q) n.since n.is
        ∙ (same_shown (as_bytes f) x w.log v.log (shown_by (first_of action w)) (shown_by (first_of action v)) (sent (as_bytes f) end) (sent (as_bytes f) end_too) m.since n.since
        (records_by s.turn end beside) (records_by r.turn end_too beside_too) (state_of end) (state_of (act s.turn end beside)) (state_of end_too) (state_of (act r.turn end_too beside_too))
        shown firsts (ap (λ (i : ℕ). 0 + i) (packets_emitted (as_bytes f) end.emitted end_too.emitted a.emitted)) emitted records
        (ready_alike x (state_of end) (state_of (act s.turn end beside)) (state_of end_too) (state_of (act r.turn end_too beside_too))
        (ap ready_in a.state ∙ ready_named a.names (state_of end)) (ap ready_in b.state ∙ ready_named b.names (state_of (act s.turn end beside))) acts.stays
        (elim closes [ inl none ↦ inl (acts.stayed none) | inr none ↦ inr none ]))
        ∙ sym (shown_is f x w.log u.log _ _ (side_of x w) (side_of x u) end beside s.turn g1 h1 (first_of action w) (first_is action w) p.after p.settles p.logged (records_of w u c s p) m.since m.is))
