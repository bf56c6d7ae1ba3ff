-- At each end of a world no stream is in line while nothing is kept: what comes to it asks once, since the other end sent it.
use Rattle.std.proofs.Common.{◌≡◌, inl, inr, ℕ, zero, suc, ◌≤◌, Bool, true, false, Option, Some, None, List, [], ◌∷◌, map, slice_get, refl, sym, ap, subst, ◌∙◌}
use Rattle.std.specs.Prelude.{◌&&◌, ◌||◌, ◌==◌}
use Rattle.std.specs.List.{list_all}
use Rattle.std.proofs.lemmas.Bool.{and_parts, and_from}
use Rattle.std.proofs.lemmas.List.Folds.{list_all-append}
use Rattle.rand_core.specs.Stream.{Stream}
use Rattle.sctp_packet.specs.Chunk.{ChunkTree, data_chunk, idata_chunk}
use Rattle.sctp_packet.specs.Grammar.{carried}
use Rattle.sctp_packet.specs.Packet.{PacketTree}
use Rattle.sctp_state.specs.Events.{Event, SendPacket}
use Rattle.sctp_state.specs.Options.{Options, IsValid}
use Rattle.spec_endpoint.specs.Association.{Endpoint}
use Rattle.spec_endpoint.specs.Input.{packet_refusal}
use Rattle.spec_endpoint.specs.Laws.{Call, ReceivePacket, called}
use Rattle.proof_endpoint.specs.Mapped.{Carried, as_carried}
use Rattle.proof_pair.specs.Trace as traces
use Rattle.proof_pair.specs.Trace.{Pair, EndAction, Calls, Gives, Refuses, emitted_packets, new_side, drain, as_received, give_carried, foreign_if, act, goes, run, start}
use Rattle.spec_world.specs.Observations as observed
use Rattle.spec_world.specs.Observations.{A, B, Connect, Shutdown, Close, Send, SendMany, TakeMessage, Reset, SetPriority, SetMaxMessageSize, SetLowThreshold, HandOver}
use Rattle.spec_world.specs.World.{Action, CallOf, Give, GiveForeign, AdvanceTime, table_call}
use Rattle.proof_world.specs.Readable.{PacketsReadBack}
use Rattle.proof_world.specs.Traces.{give_action, IsGiveAction, IsForeign, IsActionOf, AreActionsOf}
use Rattle.proof_world.proofs.ReadBackLemmas.{packets_read_back}
use Rattle.proof_endpoint.specs.Lifecycles.{is_restore}
use Rattle.spec_endpoint.specs.Packets.{packets_in}
use Rattle.proof_awake.specs.Line.{HasNoLine, chunk_asks_once, all_ask_once, call_asks_once, IsLined}
use Rattle.proof_awake.specs.Asking.{event_asks_once}
use Rattle.proof_awake.specs.Worlds.{WorldsHaveNoLine}
use Rattle.proof_awake.proofs.InputRowLemmas.{each_stays_timed}
use Rattle.proof_awake.proofs.LawLemmas.{new_ends}
use Rattle.proof_awake.proofs.WorldLemmas.{no_restore}
use Rattle.proof_awake.proofs.LineInputLemmas.{call_lined, refused_lined}
use Rattle.proof_awake.proofs.AskingLemmas.{Asks, call_asks}

-- ---- packets

-- as they are received
carried_asks : (c : ChunkTree) → chunk_asks_once (carried c) ≡ chunk_asks_once c
carried_asks (data_chunk tsn immediate f) = refl
carried_asks (idata_chunk tsn immediate f) = refl
carried_asks c = refl

received_ask : (cs : List ChunkTree) → all_ask_once (map carried cs) ≡ all_ask_once cs
received_ask [] = refl
received_ask (c ∷ cs) =
    ap (λ (b : Bool). b && all_ask_once (map carried cs)) (carried_asks c) ∙ ap (λ (b : Bool). chunk_asks_once c && b) (received_ask cs)

-- one of those that were emitted
asks_at : (es : List (Event Carried)) (n : ℕ) (p : Carried) → slice_get (packets_in es) n ≡ Some p → list_all event_asks_once es ≡ true → all_ask_once p.chunks ≡ true
asks_at [] n p there h = cc
asks_at (SendPacket q ∷ es) zero p there h =
    let same : q ≡ p = cc in
    subst (λ (z : Carried). all_ask_once z.chunks ≡ true) same (and_parts (all_ask_once q.chunks) (list_all event_asks_once es) h).0
asks_at (SendPacket q ∷ es) (suc n) p there h = asks_at es n p there (and_parts (all_ask_once q.chunks) (list_all event_asks_once es) h).1
asks_at (e ∷ es) n p there h = asks_at es n p there h

-- ---- an end between actions

pub record SideAsks (o : Options) (x : traces.Side) : Type 0 where
  pub packing : x.end.endpoint_state.context.pack ≡ as_carried
  pub taken : x.end.endpoint_state.context.emitted.events ≡ []
  pub asks : list_all event_asks_once x.emitted ≡ true
  pub lined : 2 ≤ o.max_burst → IsLined x.end.endpoint_state

-- what is done, of all that a world does
abbrev MayTurn : EndAction → Type 0
MayTurn (Calls call) = (is_restore call ≡ false) × (call_asks_once call ≡ true)
MayTurn (Gives which checksum) = Unit {0}
MayTurn (Refuses p) = Unit {0}

module _ (o : Options) (x : traces.Side) (h : SideAsks o x) where
  -- after a call that leaves no line
  goes_on : (call : Call) (got_init : Bool) → (IsLined x.end.endpoint_state → IsLined (called call x.end).endpoint_state)
      → SideAsks o (record (drain (called call x.end) x) { got_init = got_init })
  goes_on call got_init f =
      let e : Endpoint Carried = called call x.end in
      let k : Asks e.endpoint_state.context.pack e.endpoint_state.context.emitted.events [] = call_asks call x.end (record {
        packing = h.packing;
        emitted = ap (list_all event_asks_once) h.taken;
        packet = refl;
      }) in
      record {
        packing = k.packing;
        taken = refl;
        asks = list_all-append event_asks_once x.emitted e.endpoint_state.context.emitted.events
            ∙ and_from (list_all event_asks_once x.emitted) (list_all event_asks_once e.endpoint_state.context.emitted.events) h.asks k.emitted;
        lined = λ burst. let l : IsLined e.endpoint_state = f (h.lined burst) in record { timed = l.timed; burst = l.burst; line = l.line };
      }

  called_lined : (call : Call) → is_restore call ≡ false → call_asks_once call ≡ true → IsLined x.end.endpoint_state → IsLined (called call x.end).endpoint_state
  called_lined call r e l =
      let k = call_lined x.end.endpoint_state.context.options.avoid_stalls call x.end r e l.timed (l.burst, l.line) in
      record { timed = each_stays_timed call x.end r l.timed; burst = k.0; line = k.1 }

  given_asks : (q : Option Carried) (checksum : ℕ) → ((p : Carried) → q ≡ Some p → all_ask_once p.chunks ≡ true) → SideAsks o (give_carried q checksum x)
  given_asks None checksum f = h
  given_asks (Some p) checksum f =
      let call : Call = ReceivePacket (as_received p checksum) in
      goes_on call (x.got_init || (p.header.verification_tag == 0)) (called_lined call refl (received_ask p.chunks ∙ f p refl))

  refused_asks : (r : Option (List ℕ)) (p : PacketTree) → packet_refusal p.header.verification_tag p.chunks x.end.endpoint_state.state ≡ r → SideAsks o (foreign_if r p x)
  refused_asks None p is = h
  refused_asks (Some text) p is = goes_on (ReceivePacket p) x.got_init (λ l.
      let k = refused_lined x.end.endpoint_state.context.options.avoid_stalls p text x.end is (l.burst, l.line) in
      record { timed = each_stays_timed (ReceivePacket p) x.end refl l.timed; burst = k.0; line = k.1 })

  turns : (t : EndAction) (y : traces.Side) → MayTurn t → list_all event_asks_once y.emitted ≡ true → SideAsks o (act t x y)
  turns (Calls call) y may asks = goes_on call x.got_init (called_lined call may.0 may.1)
  turns (Gives which checksum) y may asks = given_asks (slice_get (emitted_packets y) which) checksum (λ p there. asks_at y.emitted which p there asks)
  turns (Refuses p) y may asks = refused_asks (packet_refusal p.header.verification_tag p.chunks x.end.endpoint_state.state) p refl

-- ---- both ends

pub record PairAsks (o q : Options) (c : Pair) : Type 0 where
  pub a : SideAsks o c.a
  pub b : SideAsks q c.b

pair_goes : (o q : Options) (at_a : Bool) (t : EndAction) (c : Pair) → MayTurn t → PairAsks o q c → PairAsks o q (goes at_a t c)
pair_goes o q true t c may h = record { a = turns o c.a h.a t c.b may h.b.asks; b = h.b }
pair_goes o q false t c may h = record { a = h.a; b = turns q c.b h.b t c.a may h.a.asks }

-- ---- what a world does

table_asks : (call : observed.Call) → call_asks_once (table_call call) ≡ true
table_asks Connect = refl
table_asks Shutdown = refl
table_asks Close = refl
table_asks (Send m o) = refl
table_asks (SendMany ms o) = refl
table_asks TakeMessage = refl
table_asks (Reset streams) = refl
table_asks (SetPriority stream priority) = refl
table_asks (SetMaxMessageSize bytes) = refl
table_asks (SetLowThreshold stream bytes) = refl
table_asks HandOver = refl

may_receive : (b : Bool) (packet checksum : ℕ) → MayTurn (give_action b packet checksum)
may_receive true packet checksum = tt
may_receive false packet checksum = (refl, refl)

may_give : (f g : List ℕ → ℕ) (packet : ℕ) (x y : traces.Side) (t : EndAction) → IsGiveAction f g packet x y t → MayTurn t
may_give f g packet x y t h = subst MayTurn (sym h.received) (may_receive _ packet _)

may_come : (bytes : List ℕ) (t : EndAction) → IsForeign bytes t → MayTurn t
may_come bytes t (inl x) = subst MayTurn (sym x.2) tt
may_come bytes t (inr e) = subst MayTurn (sym e) (refl, refl)

may_turn : (f g : List ℕ → ℕ) (action : Action) (t : EndAction) (c : Pair) → IsActionOf f g action t c → MayTurn t
may_turn f g (CallOf x call) t c is = subst MayTurn (sym is) (no_restore call, table_asks call)
may_turn f g (Give packet A) t c is = may_give f g packet c.a c.b t is
may_turn f g (Give packet B) t c is = may_give g f packet c.b c.a t is
may_turn f g (GiveForeign x bytes) t c is = may_come bytes t is
may_turn f g (AdvanceTime x now) t c is = subst MayTurn (sym is) (refl, refl)

pair_runs : (o q : Options) (f g : List ℕ → ℕ) (actions : List Action) (ts : List (Bool × EndAction)) (c : Pair) → AreActionsOf f g actions ts c → PairAsks o q c → PairAsks o q (run ts c)
pair_runs o q f g [] [] c are h = h
pair_runs o q f g [] (t ∷ ts) c are h = absurd are
pair_runs o q f g (action ∷ actions) [] c are h = absurd are
pair_runs o q f g (action ∷ actions) (t ∷ ts) c are h =
    pair_runs o q f g actions ts (goes t.0 t.1 c) are.2 (pair_goes o q t.0 t.1 c (may_turn f g action t.1 c are.1) h)

new_asks : (o : Options) (draws : Stream) → IsValid o → SideAsks o (new_side o draws)
new_asks o draws v = record { packing = refl; taken = refl; asks = refl; lined = λ burst. record { timed = new_ends o as_carried draws v; burst = burst; line = tt } }

pub worlds_lined : WorldsHaveNoLine
worlds_lined o actions w l =
    let r : PacketsReadBack o actions w = packets_read_back o actions w l in
    let k : PairAsks o.a o.b (run r.has.trace (start o.a o.b o.draws_a o.draws_b)) =
    pair_runs o.a o.b o.word_of_a o.word_of_b actions r.has.trace (start o.a o.b o.draws_a o.draws_b) r.has.are
    (record { a = new_asks o.a o.draws_a l.valid_a; b = new_asks o.b o.draws_b l.valid_b }) in
    record {
      a = λ burst. subst (λ (s : Endpoint (List ℕ)). HasNoLine s.endpoint_state) (sym r.has.images.a.socket) (k.a.lined burst).line;
      b = λ burst. subst (λ (s : Endpoint (List ℕ)). HasNoLine s.endpoint_state) (sym r.has.images.b.socket) (k.b.lined burst).line;
    }
