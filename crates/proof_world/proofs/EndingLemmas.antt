-- An end that emits in an action that its association is over holds no message that is ready.
use Rattle.std.proofs.Common.{◌≡◌, ◌⊎◌, inl, inr, ℕ, ◌+◌, ◌&&◌, ◌==◌, not, Bool, true, false, Option, Some, None, List, [], ◌∷◌, ◌++◌, length, map, slice_get, refl, sym, ap, subst, ◌∙◌, arith}
use Rattle.std.specs.Prelude.{All}
use Rattle.std.specs.List.{list_all}
use Rattle.std.proofs.lemmas.Bool.{and_parts}
use Rattle.rand_core.specs.Stream.{Stream}
use Rattle.sctp_packet.specs.Chunk.{ChunkTree, FragmentTree, data_chunk, idata_chunk, init_chunk, init_ack_chunk, sack_chunk, heartbeat_request_chunk, heartbeat_ack_chunk, abort_chunk, shutdown_chunk, shutdown_ack_chunk, error_chunk, cookie_echo_chunk, cookie_ack_chunk, shutdown_complete_chunk, re_config_chunk, forward_tsn_chunk, i_forward_tsn_chunk, unknown_chunk}
use Rattle.sctp_packet.specs.Grammar.{carried}
use Rattle.sctp_packet.specs.Packet.{PacketTree}
use Rattle.sctp_state.specs.Events.{Event}
use Rattle.sctp_state.specs.Options.{Options}
use Rattle.spec_endpoint.specs.Association.{State, Closed, CookieWait, Open, Context, Endpoint, where_open}
use Rattle.spec_endpoint.specs.Calls.{ready_in}
use Rattle.spec_endpoint.specs.Data.{on_data_if}
use Rattle.spec_endpoint.specs.Input.{packet_refusal, is_reported, on_unknown_if, in_endpoint_state, receive, receive_rest, receive_all, has_data_chunk, repeats_if, on_packet_end, count_packet_at, packet_unless}
use Rattle.spec_endpoint.specs.Laws.{Call, Connect, ReceivePacket, called, endings, is_closed, ends, endings_after, endings_by, endings_unless, endings_in_call, EmitsEndings}
use Rattle.proof_endpoint.specs.Mapped.{Carried}
use Rattle.proof_endpoint.proofs.LawsLemmas.{emits_endings}
use Rattle.proof_endpoint.proofs.EmitsLemmas.{endings_append}
use Rattle.proof_pair.specs.Trace as traces
use Rattle.proof_pair.specs.Trace.{Pair, EndAction, Calls, Gives, Refuses, emitted_packets, as_received, drain, give_carried, foreign_if, act, run, MayCall, MayAct, NoAssociationHasEnded, AreValidOptions, KeepsRules, start, state_of}
use Rattle.proof_pair.proofs.AddedLemmas.{all_get}
use Rattle.proof_draws.specs.Laws.{is_flowing}
use Rattle.proof_draws.specs.Kinds.{IsKind, an_init, an_answer, an_echo, a_flow, AreOfAKind}
use Rattle.spec_world.specs.Observations.{End, A, B}
use Rattle.spec_world.specs.World.{World}
use Rattle.proof_world.specs.Traces.{is_a}
use Rattle.proof_world.proofs.WorldLemmas.{Both}
use Rattle.proof_draws.proofs.WholeTraceLemmas.{packets_of_a_kind}

-- ---- chunks that open no association of a closed end

abbrev is_no_echo : ChunkTree → Bool
is_no_echo (cookie_echo_chunk cookie) = false
is_no_echo c = true

ends_or : (s u : State) → (ends s u ≡ 0) ⊎ (is_closed u ≡ true)
ends_or Closed u = inl refl
ends_or (CookieWait tag first t1) Closed = inr refl
ends_or (CookieWait tag first t1) (CookieWait new_tag new_first new_t1) = inl refl
ends_or (CookieWait tag first t1) (Open phase t) = inl refl
ends_or (Open phase t) Closed = inr refl
ends_or (Open phase t) (CookieWait tag first t1) = inl refl
ends_or (Open phase t) (Open new_phase u) = inl refl

-- a COOKIE ECHO comes first, if any
abbrev NoneBehind : List ChunkTree → Type 0
NoneBehind [] = Unit {0}
NoneBehind (c ∷ cs) = list_all is_no_echo cs ≡ true

behind_too : (c : ChunkTree) (cs : List ChunkTree) → list_all is_no_echo (c ∷ cs) ≡ true → NoneBehind (c ∷ cs)
behind_too c cs h = (and_parts (is_no_echo c) (list_all is_no_echo cs) h).1

none_of_all : (cs : List ChunkTree) → list_all is_no_echo cs ≡ true → NoneBehind cs
none_of_all [] h = tt
none_of_all (c ∷ cs) h = behind_too c cs h

both_none : (a b : ℕ) → a ≡ 0 → b ≡ 0 → a + b ≡ 0
both_none a b e f = omega (arith, e, f)

module _ {P : Type 0} where
  data_closed : (b : Bool) (tsn : ℕ) (immediate : Bool) (f : FragmentTree) (c : Context P) → is_closed (on_data_if b tsn immediate f (record { state = Closed; context = c })).state ≡ true
  data_closed true tsn immediate f c = refl
  data_closed false tsn immediate f c = refl

  unknown_closed : (b : Bool) (typ flags : ℕ) (value : List ℕ) (c : Context P) → is_closed (on_unknown_if b typ flags value (record { state = Closed; context = c })).state ≡ true
  unknown_closed true typ flags value c = refl
  unknown_closed false typ flags value c = refl

  abbrev end_of : State → Context P → Stream → Endpoint P
  end_of s c w = record { endpoint_state = record { state = s; context = c }; draws = w }

  closed_stays : (tag : ℕ) (chunk : ChunkTree) (c : Context P) (w : Stream) → is_no_echo chunk ≡ true → is_closed (receive tag chunk (end_of Closed c w)).end.endpoint_state.state ≡ true
  closed_stays tag (data_chunk tsn immediate f) c w h = data_closed (length f.payload == 0) tsn immediate f c
  closed_stays tag (idata_chunk tsn immediate f) c w h = data_closed (length f.payload == 0) tsn immediate f c
  closed_stays tag (init_chunk i) c w h = refl
  closed_stays tag (init_ack_chunk i) c w h = refl
  closed_stays tag (sack_chunk k) c w h = refl
  closed_stays tag (heartbeat_request_chunk parameters) c w h = refl
  closed_stays tag (heartbeat_ack_chunk parameters) c w h = refl
  closed_stays tag (abort_chunk reflected causes) c w h = refl
  closed_stays tag (shutdown_chunk tsn) c w h = refl
  closed_stays tag shutdown_ack_chunk c w h = refl
  closed_stays tag (error_chunk causes) c w h = refl
  closed_stays tag (cookie_echo_chunk cookie) c w h = cc
  closed_stays tag cookie_ack_chunk c w h = refl
  closed_stays tag (shutdown_complete_chunk reflected) c w h = refl
  closed_stays tag (re_config_chunk parameters) c w h = refl
  closed_stays tag (forward_tsn_chunk tsn skipped) c w h = refl
  closed_stays tag (i_forward_tsn_chunk tsn skipped) c w h = refl
  closed_stays tag (unknown_chunk typ flags value) c w h = unknown_closed (is_reported typ) typ flags value c

  still_closed : (tag : ℕ) (chunk : ChunkTree) (s : State) (c : Context P) (w : Stream) → is_no_echo chunk ≡ true → is_closed s ≡ true
      → is_closed (receive tag chunk (end_of s c w)).end.endpoint_state.state ≡ true
  still_closed tag chunk Closed c w h e = closed_stays tag chunk c w h
  still_closed tag chunk (CookieWait my_tag first t1) c w h e = cc
  still_closed tag chunk (Open phase t) c w h e = cc

  -- ---- several

  rest_closed : (rest : Endpoint P → Endpoint P) (b : Bool) (f : Endpoint P) → is_closed f.endpoint_state.state ≡ true
      → (is_closed f.endpoint_state.state ≡ true → is_closed (rest f).endpoint_state.state ≡ true) → is_closed (receive_rest rest (record { end = f; allows_next = b })).endpoint_state.state ≡ true
  rest_closed rest true f k h = h k
  rest_closed rest false f k h = k

  all_closed : (tag : ℕ) (cs : List ChunkTree) (e : Endpoint P) → list_all is_no_echo cs ≡ true → is_closed e.endpoint_state.state ≡ true → is_closed (receive_all tag cs e).endpoint_state.state ≡ true
  all_closed tag [] e h k = k
  all_closed tag (c ∷ cs) e h k =
      let both = and_parts (is_no_echo c) (list_all is_no_echo cs) h in
      rest_closed (receive_all tag cs) (receive tag c e).allows_next (receive tag c e).end (still_closed tag c e.endpoint_state.state e.endpoint_state.context e.draws both.0 k)
      (λ closed. all_closed tag cs (receive tag c e).end both.1 closed)

  first_or_rest : (tag : ℕ) (cs : List ChunkTree) (s : State) (b : Bool) (f : Endpoint P) → (ends s f.endpoint_state.state ≡ 0) ⊎ (is_closed f.endpoint_state.state ≡ true) → list_all is_no_echo cs ≡ true
      → (endings_by tag cs f ≡ 0) ⊎ (is_closed (receive_all tag cs f).endpoint_state.state ≡ true)
      → (ends s f.endpoint_state.state + endings_after (endings_by tag cs) (record { end = f; allows_next = b }) ≡ 0)
      ⊎ (is_closed (receive_rest (receive_all tag cs) (record { end = f; allows_next = b })).endpoint_state.state ≡ true)
  first_or_rest tag cs s true f (inl none) h (inl rest) = inl (both_none (ends s f.endpoint_state.state) (endings_by tag cs f) none rest)
  first_or_rest tag cs s true f (inl none) h (inr closed) = inr closed
  first_or_rest tag cs s true f (inr closed) h rest = inr (all_closed tag cs f h closed)
  first_or_rest tag cs s false f (inl none) h rest = inl (both_none (ends s f.endpoint_state.state) 0 none refl)
  first_or_rest tag cs s false f (inr closed) h rest = inr closed

  ended_or_closed : (tag : ℕ) (cs : List ChunkTree) (e : Endpoint P) → NoneBehind cs → (endings_by tag cs e ≡ 0) ⊎ (is_closed (receive_all tag cs e).endpoint_state.state ≡ true)
  ended_or_closed tag [] e h = inl refl
  ended_or_closed tag (c ∷ cs) e h =
      first_or_rest tag cs e.endpoint_state.state (receive tag c e).allows_next (receive tag c e).end (ends_or e.endpoint_state.state (receive tag c e).end.endpoint_state.state) h
      (ended_or_closed tag cs (receive tag c e).end (none_of_all cs h))

  -- ---- a packet

  end_closed : (s : State) (c : Context P) → is_closed s ≡ true → is_closed (where_open on_packet_end (record { state = s; context = c })).state ≡ true
  end_closed Closed c h = refl
  end_closed (CookieWait tag first t1) c h = cc
  end_closed (Open phase t) c h = cc

  taken_or : (r : Option (List ℕ)) (tag : ℕ) (cs : List ChunkTree) (e : Endpoint P) → NoneBehind cs → (endings_unless r tag cs e ≡ 0) ⊎ (is_closed (packet_unless r tag cs e).endpoint_state.state ≡ true)
  taken_or (Some text) tag cs e h = inl refl
  taken_or None tag cs e h =
      let begun : Endpoint P = in_endpoint_state (repeats_if (has_data_chunk cs)) e in
      elim (ended_or_closed tag cs begun h) [
        | inl none ↦ inl none
        | inr closed ↦ inr (end_closed (receive_all tag cs begun).endpoint_state.state (receive_all tag cs begun).endpoint_state.context closed)
      ]

none_ready : (s : State) → is_closed s ≡ true → ready_in s ≡ []
none_ready Closed e = refl
none_ready (CookieWait tag first t1) e = cc
none_ready (Open phase t) e = cc

-- ---- kinds of packets

flow_no_echo : (c : ChunkTree) → is_flowing c ≡ true → is_no_echo (carried c) ≡ true
flow_no_echo (cookie_echo_chunk cookie) h = cc
flow_no_echo (init_chunk i) h = cc
flow_no_echo (init_ack_chunk i) h = cc
flow_no_echo (re_config_chunk parameters) h = refl
flow_no_echo c h = refl

all_no_echo : (cs : List ChunkTree) → list_all is_flowing cs ≡ true → list_all is_no_echo (map carried cs) ≡ true
all_no_echo [] h = refl
all_no_echo (c ∷ cs) h =
    let both = and_parts (is_flowing c) (list_all is_flowing cs) h in
    ap (λ (b : Bool). b && list_all is_no_echo (map carried cs)) (flow_no_echo c both.0) ∙ all_no_echo cs both.1

kind_behind : (cs : List ChunkTree) → IsKind cs → NoneBehind (map carried cs)
kind_behind cs (an_init i is) = subst (λ (l : List ChunkTree). NoneBehind (map carried l)) (sym is) refl
kind_behind cs (an_answer i is) = subst (λ (l : List ChunkTree). NoneBehind (map carried l)) (sym is) refl
kind_behind cs (an_echo cookie rest is flows) = subst (λ (l : List ChunkTree). NoneBehind (map carried l)) (sym is) (all_no_echo rest flows)
kind_behind cs (a_flow flows) = none_of_all (map carried cs) (all_no_echo cs flows)

-- ---- an action

abbrev Ends : (before after : traces.Side) → Type 0
Ends x z = (endings z.emitted ≡ 0) ⊎ (ready_in (state_of z) ≡ [])

module _ (x y : traces.Side) (quiet : x.end.endpoint_state.context.emitted.events ≡ []) (none : endings x.emitted ≡ 0) where
  call_ends : (call : Call) → (endings_in_call call x.end ≡ 0) ⊎ (is_closed (called call x.end).endpoint_state.state ≡ true) → Ends x (drain (called call x.end) x)
  call_ends call (inr closed) = inr (none_ready (called call x.end).endpoint_state.state closed)
  call_ends call (inl none_ended) =
      let t : EmitsEndings (endings_in_call call x.end) x.end.endpoint_state.context (called call x.end).endpoint_state.context = emits_endings call x.end in
      let emitted_is : (called call x.end).endpoint_state.context.emitted.events ≡ t.events = t.behind ∙ ap (λ (es : List (Event Carried)). es ++ t.events) quiet in
      inl (sum (called call x.end).endpoint_state.context.emitted.events (ap endings emitted_is ∙ (t.counted ∙ none_ended)))
    where
      sum : (es : List (Event Carried)) → endings es ≡ 0 → endings (x.emitted ++ es) ≡ 0
      sum es e = omega (arith, endings_append x.emitted es, none, e)

  plain_ends : (call : Call) → MayCall call x → (endings_in_call call x.end ≡ 0) ⊎ (is_closed (called call x.end).endpoint_state.state ≡ true)
  plain_ends (ReceivePacket p) may = absurd may
  plain_ends Connect may = ends_or (state_of x) (called Connect x.end).endpoint_state.state
  plain_ends call may = ends_or (state_of x) (called call x.end).endpoint_state.state

  given_ends : (n checksum : ℕ) (o : Option Carried) → slice_get (emitted_packets y) n ≡ o → All (λ (p : Carried). IsKind p.chunks) (emitted_packets y) → Ends x (give_carried o checksum x)
  given_ends n checksum None there kinds = inl none
  given_ends n checksum (Some p) there kinds =
      call_ends (ReceivePacket (as_received p checksum))
      (taken_or (packet_refusal p.header.verification_tag (map carried p.chunks) (state_of x)) p.header.verification_tag (map carried p.chunks) (count_packet_at x.end)
      (kind_behind p.chunks (all_get (λ (p : Carried). IsKind p.chunks) (emitted_packets y) n p there kinds)))

  foreign_ends : (o : Option (List ℕ)) (p : PacketTree) → packet_refusal p.header.verification_tag p.chunks (state_of x) ≡ o → Ends x (foreign_if o p x)
  foreign_ends None p is = inl none
  foreign_ends (Some text) p is =
      call_ends (ReceivePacket p) (inl (ap (λ (r : Option (List ℕ)). endings_unless r p.header.verification_tag p.chunks (count_packet_at x.end)) is))

  action_ends : (t : EndAction) → MayAct t x → All (λ (p : Carried). IsKind p.chunks) (emitted_packets y) → Ends x (act t x y)
  action_ends (Calls call) may kinds = call_ends call (plain_ends call may)
  action_ends (Gives which checksum) may kinds = given_ends which checksum (slice_get (emitted_packets y) which) refl kinds
  action_ends (Refuses p) may kinds = foreign_ends (packet_refusal p.header.verification_tag p.chunks (state_of x)) p refl

-- of either end
pub ended_or_none : (a b : Options) (draws_a draws_b : Stream) (f : List ℕ → ℕ) (w : World) (es : List (Bool × EndAction)) (t : EndAction) (x : End) → AreValidOptions a → AreValidOptions b
    → KeepsRules es (start a b draws_a draws_b) → NoAssociationHasEnded (run es (start a b draws_a draws_b)) → MayAct t (traces.side_of (is_a x) (run es (start a b draws_a draws_b)))
    → Both f f w (run es (start a b draws_a draws_b))
    → (endings (act t (traces.side_of (is_a x) (run es (start a b draws_a draws_b))) (traces.side_of (not (is_a x)) (run es (start a b draws_a draws_b)))).emitted ≡ 0)
    ⊎ (ready_in (state_of (act t (traces.side_of (is_a x) (run es (start a b draws_a draws_b))) (traces.side_of (not (is_a x)) (run es (start a b draws_a draws_b))))) ≡ [])
ended_or_none a b draws_a draws_b f w es t x given_a given_b follows none may h =
    go x (run es (start a b draws_a draws_b)) none may h (packets_of_a_kind a b draws_a draws_b es given_a given_b follows none)
  where
    go : (x : End) (c : Pair) → NoAssociationHasEnded c → MayAct t (traces.side_of (is_a x) c) → Both f f w c → AreOfAKind c
        → Ends (traces.side_of (is_a x) c) (act t (traces.side_of (is_a x) c) (traces.side_of (not (is_a x)) c))
    go A c none may h kinds = action_ends c.a c.b (ap (λ emitted. emitted.events) h.a.image.quiet) none.a t may kinds.b
    go B c none may h kinds = action_ends c.b c.a (ap (λ emitted. emitted.events) h.b.image.quiet) none.b t may kinds.a
