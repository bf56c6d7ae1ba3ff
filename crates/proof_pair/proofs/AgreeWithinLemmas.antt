-- Within a packet: what is held between two chunks was held before it or is held after it, and an end that emitted that it is
-- connected holds an association after it.
use Rattle.std.proofs.Common.{◌≡◌, ℕ, ◌==◌, ◌||◌, Bool, true, false, Option, Some, None, Result, Ok, Err, List, [], ◌∷◌, ◌++◌, ◌⊎◌, inl, inr, All, codes, length, refl, sym, ap, subst, ◌∙◌, ◌&&◌, not}
use Rattle.std.specs.List.{list_all}
use Rattle.std.proofs.lemmas.List.Elements.{All-nil, All-cons, All-head, All-tail}
use Rattle.std.proofs.lemmas.Bool.{and_parts, both_ways}
use Rattle.sctp_wire.specs.Cause.{missing_mandatory_parameter}
use Rattle.sctp_packet.specs.Chunk.{ChunkTree, InitTree, data_chunk, init_ack_chunk, sack_chunk, abort_chunk, cookie_echo_chunk, cookie_ack_chunk, idata_chunk, re_config_chunk, forward_tsn_chunk, i_forward_tsn_chunk}
use Rattle.sctp_packet.specs.Packet.{PacketTree}
use Rattle.sctp_state.specs.declared.api.ErrorKind.TheVariants.{ParseFailed, ProtocolViolation}
use Rattle.sctp_capabilities.specs.declared.state_cookie.StateCookieError.{StateCookieError}
use Rattle.sctp_capabilities.specs.StateCookie.{Cookie, read_cookie, refusal_text}
use Rattle.sctp_state.specs.Events.{Event, OnAborted, OnError}
use Rattle.sctp_tx.specs.RetransmissionQueue.{SackAnswer, Invalid, Valid}
use Rattle.spec_endpoint.specs.Association.{Tcb, Phase, CookieEchoed, Established, ShutdownPending, ShutdownSent, ShutdownReceived, ShutdownAckSent, State, Closed, CookieWait, Open, Context, EndpointState, Endpoint, where_open}
use Rattle.spec_endpoint.specs.Packets.{PacketDraft, packet_to, round_down_to_4, add, emit}
use Rattle.spec_endpoint.specs.Data.{on_data_if}
use Rattle.spec_endpoint.specs.Sack as acknowledging
use Rattle.spec_endpoint.specs.StreamReset.{Handling, finish_reconfig_if}
use Rattle.spec_endpoint.specs.Opening.{CookieResolution, EstablishNew, RestartDetected, SimultaneousInit, MaintainExisting, Discard, InvalidTag, new_if, resolve_by_tags, cookie_in, echo_or_abort, on_resolution, on_read_cookie, new_unless, as_restart, spent_chunk, on_cookie_unless, is_spent_at}
use Rattle.sctp_rx.specs.DataTracker.{is_ack_due}
use Rattle.spec_endpoint.specs.Sending.{take_due_ack, is_before_cookie_ack}
use Rattle.spec_endpoint.specs.Input.{AfterChunk, receive, received_unless, receive_all, receive_rest, violation, on_chunk, in_endpoint_state, ack_if_due, at_end, packet_acked, shut_waiting, shut_if, on_packet_end}
use Rattle.spec_endpoint.specs.Laws.{ReceivePacket as Given, ReceiveNoPacket}
use Rattle.proof_endpoint.specs.Mapped.{Carried}
use Rattle.proof_endpoint.proofs.OpeningStepsLemmas.{end_in}
use Rattle.proof_endpoint.specs.Acts.{idle, calm, is_opened, BringsChunk, always, Preserves}
use Rattle.proof_pair.specs.Trace.{has_connected}
use Rattle.proof_pair.specs.Agreement.{Association, Has, History, association_of, held_in, drawn_for}
use Rattle.proof_endpoint.proofs.PacketActsLemmas.{rounded_addressed, does_plain, whole_addressed}
use Rattle.proof_endpoint.proofs.RowActsLemmas.{does_closed, does_where_open}
use Rattle.proof_endpoint.proofs.ActsLemmas.{does_receive, does_ended}
use Rattle.proof_pair.proofs.AddedLemmas.{all_at}
use Rattle.proof_pair.proofs.JoinActsLemmas.{connected_both}
use Rattle.proof_pair.proofs.AgreeLemmas.{is_opening, is_silent, is_load, load_is_silent, all_pass, Shape}
use Rattle.proof_pair.proofs.AgreeNotesLemmas.{noted, noted_after, noted_receiving}
use Rattle.proof_pair.proofs.AgreeWithoutOpeningLemmas.{BringsNoOpening, RestsAt, rests}

-- ---- one chunk that opens nothing

silent_opens_nothing : (c : ChunkTree) → is_silent c ≡ true → is_opening c ≡ false
silent_opens_nothing (init_ack_chunk i) e = cc
silent_opens_nothing (cookie_echo_chunk c) e = cc
silent_opens_nothing cookie_ack_chunk e = cc
silent_opens_nothing c e = refl

abbrev packet_of : PacketTree → (c : ChunkTree) → PacketTree
packet_of p c = record p { chunks = c ∷ [] }

packet_brings_no_opening : (p : PacketTree) → All (λ c. is_opening c ≡ false) p.chunks → BringsNoOpening (Given p)
packet_brings_no_opening p all = record {
  on_received = λ tag chunk h.
      let same : p ≡ h.packet = ap (λ call. elim call [ Given q ↦ q | call ↦ p ]) h.given in
      let there : All (λ c. is_opening c ≡ false) h.packet.chunks = subst (λ (q : PacketTree). All (λ c. is_opening c ≡ false) q.chunks) same all in
      all_at (λ c. is_opening c ≡ false) h.among.before h.among.behind chunk (subst (All (λ c. is_opening c ≡ false)) h.among.split there);
  restores = λ h e. cc;
}

pub no_packet_brings_no_opening : BringsNoOpening ReceiveNoPacket
no_packet_brings_no_opening = record { on_received = λ tag chunk h. no_packet h.given; restores = λ h e. cc }
  where
    no_packet : {A : Type 0} {p : PacketTree} → ReceiveNoPacket ≡ Given p → A
    no_packet e = cc

-- ---- what is held

pub has_either : (a : Association) (xs ys : List Association) → Has a (xs ++ ys) → Has a xs ⊎ Has a ys
has_either a [] ys h = inr h
has_either a (x ∷ xs) ys (inl e) = inl (inl e)
has_either a (x ∷ xs) ys (inr h) = elim (has_either a xs ys h) [ inl q ↦ inl (inr q) | inr q ↦ inr q ]

held_opened : (s : State) (a : Association) → Has a (held_in s) → is_opened s ≡ true
held_opened Closed a h = absurd h
held_opened (CookieWait tag first t1) a h = absurd h
held_opened (Open phase t) a h = refl

one_held : (s : State) (a b : Association) → Has a (held_in s) → Has b (held_in s) → a ≡ b
one_held Closed a b h k = absurd h
one_held (CookieWait tag first t1) a b h k = absurd h
one_held (Open phase t) a b h k = elim h [ inl e ↦ elim k [ inl f ↦ e ∙ sym f | inr f ↦ absurd f ] | inr e ↦ absurd e ]

-- an open end that took up nothing holds what it held
still_held : (s t : State) (a : Association) → ((b : Association) → Has b (held_in t) → Has b (held_in s)) → is_opened t ≡ true → Has a (held_in s) → Has a (held_in t)
still_held s Closed a f e h = cc
still_held s (CookieWait tag first t1) a f e h = cc
still_held s (Open phase u) a f e h = inl (one_held s a (association_of u) h (f (association_of u) (inl refl)))

ended_if_open : (b : Bool) (phase : Phase) (t : Tcb) (c : Context Carried) → is_opened (ack_if_due b phase t c).state ≡ true
ended_if_open true phase t c = refl
ended_if_open false phase t c = refl

-- a shutdown that waited may go on then
shut_open : (b : Bool) (s : EndpointState Carried) → is_opened s.state ≡ true → is_opened (shut_if b s).state ≡ true
shut_open true s e = by s.state s.context e
  where
    by : (st : State) (c : Context Carried) → is_opened st ≡ true → is_opened (where_open shut_waiting (record { state = st; context = c })).state ≡ true
    by Closed c e = cc
    by (CookieWait tag first t1) c e = cc
    by (Open phase t) c e = refl
shut_open false s e = e

acked_open : (phase : Phase) (t : Tcb) (c : Context Carried) → is_opened (packet_acked phase t c).state ≡ true
acked_open phase t c = let u : Tcb = at_end c.now t in ended_if_open (is_ack_due false u.tracker.tracker.ack) phase (take_due_ack false u) c

ended_open : (st : State) (s : Endpoint Carried) → is_opened st ≡ true → is_opened (in_endpoint_state (where_open on_packet_end) (end_in st s)).endpoint_state.state ≡ true
ended_open Closed s e = cc
ended_open (CookieWait tag first t1) s e = cc
ended_open (Open phase t) s e =
    let c : Context Carried = s.endpoint_state.context in shut_open c.options.avoid_stalls (packet_acked phase t c) (acked_open phase t c)

-- ---- what is emitted

-- an error is emitted, and no `OnConnected`
emitted_error : {A : Type 0} (es : List (Event Carried)) (e : Event Carried) → has_connected (e ∷ []) ≡ false → has_connected es ≡ false
    → has_connected (es ++ e ∷ []) ≡ true → A
emitted_error es e plain none h =
    absurd (both_ways true (sym h ∙ (connected_both es (e ∷ []) ∙ (ap (λ (b : Bool). b || has_connected (e ∷ [])) none ∙ plain))) refl)

-- an end that emits that it is connected is open then
abbrev pub Stands : Endpoint Carried → Type 0
Stands e = has_connected e.endpoint_state.context.emitted.events ≡ true → is_opened e.endpoint_state.state ≡ true

pub not_yet : (s e : Endpoint Carried) → has_connected s.endpoint_state.context.emitted.events ≡ false → RestsAt (calm s) (calm e) → Stands e
not_yet s e none r h = absurd (both_ways true (sym h ∙ (r.emitted ∙ none)) refl)

module _ (p : PacketTree) where
  abbrev tag : ℕ
  tag = p.header.verification_tag

  -- ---- one chunk

  silent_chunk_rests : (c : ChunkTree) (e : Endpoint Carried) → is_silent c ≡ true → RestsAt (calm e) (calm (receive tag c e).end)
  silent_chunk_rests c e silent =
      let one : PacketTree = packet_of p c in
      let all : All (λ d. is_opening d ≡ false) (c ∷ []) =
      All-cons (λ d. is_opening d ≡ false) c [] (silent_opens_nothing c silent) (All-nil (λ d. is_opening d ≡ false)) in
      let h : BringsChunk (Given one) tag c = record { packet = one; given = refl; under = refl; among = record { before = []; behind = []; split = refl } } in
      does_receive (rests (Given one) (packet_brings_no_opening one all)) tag c e h

  -- a load that isn't misused leaves an end open
  data_open : (b : Bool) (tsn : ℕ) (is_immediate : Bool) (f : _) (phase : Phase) (t : Tcb) (c : Context Carried)
      → is_opened (on_data_if b tsn is_immediate f (record { state = Open phase t; context = c })).state ≡ true
  data_open true tsn is_immediate f phase t c = refl
  data_open false tsn is_immediate f phase t c = refl

  sack_open : (a : SackAnswer) (phase : Phase) (t : Tcb) (c : Context Carried) → is_opened (acknowledging.after_sack a phase t c).state ≡ true
  sack_open Invalid phase t c = refl
  sack_open (Valid rtt is_progress) phase t c = refl

  finished_open : (b : Bool) (phase : Phase) (h : Handling Carried) → is_opened (finish_reconfig_if b phase h).state ≡ true
  finished_open true phase h = refl
  finished_open false phase h = refl

  load_on : (c : ChunkTree) (phase : Phase) (t : Tcb) (s : Endpoint Carried) → is_load c ≡ true
      → is_opened (on_chunk tag c (end_in (Open phase t) s)).endpoint_state.state ≡ true
  load_on (data_chunk tsn is_immediate f) phase t s is = data_open (length f.payload == 0) tsn is_immediate f phase t s.endpoint_state.context
  load_on (idata_chunk tsn is_immediate f) phase t s is = data_open (length f.payload == 0) tsn is_immediate f phase t s.endpoint_state.context
  load_on (sack_chunk k) phase t s is = sack_open _ phase _ _
  load_on (forward_tsn_chunk tsn skipped) phase t s is = refl
  load_on (i_forward_tsn_chunk tsn skipped) phase t s is = refl
  load_on (re_config_chunk []) phase t s is = refl
  load_on (re_config_chunk (q ∷ qs)) phase t s is = finished_open _ phase _
  load_on c phase t s is = cc

  load_received : (v : Option (List ℕ)) (c : ChunkTree) (phase : Phase) (t : Tcb) (s : Endpoint Carried) → v ≡ None → is_load c ≡ true
      → is_opened (received_unless v tag c (end_in (Open phase t) s)).end.endpoint_state.state ≡ true
  load_received None c phase t s e is = load_on c phase t s is
  load_received (Some text) c phase t s e is = cc

  load_in : (c : ChunkTree) (st : State) (s : Endpoint Carried) → is_load c ≡ true → violation st c ≡ None → is_opened st ≡ true
      → is_opened (receive tag c (end_in st s)).end.endpoint_state.state ≡ true
  load_in c Closed s is right e = cc
  load_in c (CookieWait own first t1) s is right e = cc
  load_in c (Open phase t) s is right e = load_received (violation (Open phase t) c) c phase t s right is

  -- ---- one that opens

  acked : (st : State) (s : Endpoint Carried) → has_connected s.endpoint_state.context.emitted.events ≡ false → Stands (receive tag cookie_ack_chunk (end_in st s)).end
  acked Closed s none h = absurd (both_ways true (sym h ∙ none) refl)
  acked (CookieWait own first t1) s none h = absurd (both_ways true (sym h ∙ none) refl)
  acked (Open (CookieEchoed t1 cookie) t) s none h = refl
  acked (Open Established t) s none h = refl
  acked (Open ShutdownPending t) s none h = refl
  acked (Open (ShutdownSent t2) t) s none h = refl
  acked (Open ShutdownReceived t) s none h = refl
  acked (Open (ShutdownAckSent t2) t) s none h = refl

  echoes_by : (o : Option (List ℕ)) (i : InitTree) (own first : ℕ) (t1 : _) (s : Endpoint Carried) → has_connected s.endpoint_state.context.emitted.events ≡ false
      → Stands (echo_or_abort i o own first (end_in (CookieWait own first t1) s))
  echoes_by (Some cookie) i own first t1 s none h = refl
  echoes_by None i own first t1 s none h =
      let c : Context Carried = s.endpoint_state.context in
      let st : State = CookieWait own first t1 in
      let k : Preserves ReceiveNoPacket RestsAt = rests ReceiveNoPacket no_packet_brings_no_opening in
      let chunk : ChunkTree = abort_chunk false (missing_mandatory_parameter (7 ∷ []) ∷ []) in
      let q : PacketDraft = packet_to i.initiate_tag (round_down_to_4 c.options.mtu) in
      let d : Context Carried = emit (add chunk q) c in
      let sent : RestsAt (idle st c s.draws) (idle st d s.draws) =
      does_plain k chunk q st c s.draws refl refl (always refl) (rounded_addressed st c s.draws i.initiate_tag (λ f. absurd (f.some refl)))
      (λ f. absurd (f.some refl)) in
      let over : RestsAt (idle st d s.draws) (calm (echo_or_abort i None own first (end_in st s))) =
      does_closed k s.draws (OnAborted ProtocolViolation (codes "InitAck chunk doesn't contain a cookie")) st d refl refl in
      not_yet (end_in st s) (echo_or_abort i None own first (end_in st s)) none (record { held = λ a b. sent.held a (over.held a b); emitted = over.emitted ∙ sent.emitted }) h

  answered : (i : InitTree) (st : State) (s : Endpoint Carried) → has_connected s.endpoint_state.context.emitted.events ≡ false
      → Stands (receive tag (init_ack_chunk i) (end_in st s)).end
  answered i Closed s none h = absurd (both_ways true (sym h ∙ none) refl)
  answered i (CookieWait own first t1) s none h = echoes_by (cookie_in i.parameters) i own first t1 s none h
  answered i (Open phase t) s none h = refl

  judged_open : (v : CookieResolution) (k : Cookie) (phase : Phase) (t : Tcb) (s : Endpoint Carried) → is_opened (on_resolution v k (end_in (Open phase t) s)).endpoint_state.state ≡ true
  judged_open EstablishNew k phase t s = refl
  judged_open RestartDetected k (CookieEchoed t1 cookie) t s = refl
  judged_open RestartDetected k Established t s = refl
  judged_open RestartDetected k ShutdownPending t s = refl
  judged_open RestartDetected k (ShutdownSent t2) t s = refl
  judged_open RestartDetected k ShutdownReceived t s = refl
  judged_open RestartDetected k (ShutdownAckSent t2) t s = refl
  judged_open SimultaneousInit k phase t s = refl
  judged_open MaintainExisting k (CookieEchoed t1 cookie) t s = refl
  judged_open MaintainExisting k Established t s = refl
  judged_open MaintainExisting k ShutdownPending t s = refl
  judged_open MaintainExisting k (ShutdownSent t2) t s = refl
  judged_open MaintainExisting k ShutdownReceived t s = refl
  judged_open MaintainExisting k (ShutdownAckSent t2) t s = refl
  judged_open Discard k phase t s = refl
  judged_open InvalidTag k phase t s = refl

  judged_new : (b : Bool) (k : Cookie) (st : State) (s : Endpoint Carried) → has_connected s.endpoint_state.context.emitted.events ≡ false
      → Stands (on_resolution (new_if b) k (end_in st s))
  judged_new true k st s none h = refl
  judged_new false k st s none h =
      emitted_error s.endpoint_state.context.emitted.events (OnError ParseFailed (codes "Received CookieEcho with invalid verification tag")) refl none h

  judged_unless : (late b : Bool) (k : Cookie) (st : State) (s : Endpoint Carried) → has_connected s.endpoint_state.context.emitted.events ≡ false
      → Stands (on_resolution (new_unless late b) k (end_in st s))
  judged_unless true b k st s none h = absurd (both_ways true (sym h ∙ none) refl)
  judged_unless false b k st s none h = judged_new b k st s none h

  judged_spent : (b : Bool) (k : Cookie) (s : Endpoint Carried) → has_connected s.endpoint_state.context.emitted.events ≡ false
      → Stands (on_cookie_unless b tag k (end_in Closed s))
  judged_spent true k s none h =
      let c : Context Carried = s.endpoint_state.context in
      let q : PacketDraft = packet_to k.peer_tag c.options.mtu in
      not_yet (end_in Closed s) (on_cookie_unless true tag k (end_in Closed s)) none
      (does_plain (rests ReceiveNoPacket no_packet_brings_no_opening) spent_chunk q Closed c s.draws refl refl (always refl)
      (whole_addressed Closed c s.draws q refl (λ f held. absurd (f.some refl))) (λ f. absurd (f.some refl))) h
  judged_spent false k s none h = judged_new (tag == k.my_tag) k Closed s none h

  read_as : (r : Result Cookie StateCookieError) (st : State) (s : Endpoint Carried) → has_connected s.endpoint_state.context.emitted.events ≡ false
      → Stands (on_read_cookie tag r (end_in st s))
  read_as (Err fault) st s none h = emitted_error s.endpoint_state.context.emitted.events (OnError ParseFailed (refusal_text fault)) refl none h
  read_as (Ok k) Closed s none h = judged_spent (is_spent_at k (end_in Closed s).endpoint_state) k s none h
  read_as (Ok k) (CookieWait own first t1) s none h =
      judged_unless (s.endpoint_state.context.options.avoid_stalls && not (k.my_tag == own)) (tag == k.my_tag) k (CookieWait own first t1) s none h
  read_as (Ok k) (Open phase t) s none h =
      judged_open (as_restart (s.endpoint_state.context.options.avoid_stalls && not (is_before_cookie_ack phase)) (resolve_by_tags tag t.identity k)) k phase t s

  came_back : (cookie : List ℕ) (st : State) (s : Endpoint Carried) → has_connected s.endpoint_state.context.emitted.events ≡ false
      → Stands (receive tag (cookie_echo_chunk cookie) (end_in st s)).end
  came_back cookie Closed s none h = read_as (read_cookie cookie) Closed s none h
  came_back cookie (CookieWait own first t1) s none h = read_as (read_cookie cookie) (CookieWait own first t1) s none h
  came_back cookie (Open phase t) s none h = read_as (read_cookie cookie) (Open phase t) s none h

  opening_stands : (c : ChunkTree) (e : Endpoint Carried) → is_opening c ≡ true → has_connected e.endpoint_state.context.emitted.events ≡ false → Stands (receive tag c e).end
  opening_stands (init_ack_chunk i) e is none = answered i e.endpoint_state.state e none
  opening_stands (cookie_echo_chunk cookie) e is none = came_back cookie e.endpoint_state.state e none
  opening_stands cookie_ack_chunk e is none = acked e.endpoint_state.state e none
  opening_stands c e is none = cc

  -- ---- chunk by chunk

  silent_tail : (c : ChunkTree) (cs : List ChunkTree) → list_all is_silent (c ∷ cs) ≡ true → (is_silent c ≡ true) × (list_all is_silent cs ≡ true)
  silent_tail c cs h = and_parts (is_silent c) (list_all is_silent cs) h

  through : (a b c : Endpoint Carried) → RestsAt (calm a) (calm b) → RestsAt (calm b) (calm c) → RestsAt (calm a) (calm c)
  through a b c f g = record { held = λ x h. f.held x (g.held x h); emitted = g.emitted ∙ f.emitted }

  rests_rest : (b : Bool) (f : Endpoint Carried → Endpoint Carried) (s e : Endpoint Carried) → RestsAt (calm s) (calm e) → RestsAt (calm e) (calm (f e))
      → RestsAt (calm s) (calm (receive_rest f (record { end = e; allows_next = b })))
  rests_rest true f s e r q = through s e (f e) r q
  rests_rest false f s e r q = r

  rests_all : (cs : List ChunkTree) (e : Endpoint Carried) → list_all is_silent cs ≡ true → RestsAt (calm e) (calm (receive_all tag cs e))
  rests_all [] e h = record { held = λ a q. q; emitted = refl }
  rests_all (c ∷ cs) e h =
      let x : AfterChunk Carried = receive tag c e in
      let parts = silent_tail c cs h in
      rests_rest x.allows_next (receive_all tag cs) e x.end (silent_chunk_rests c e parts.0) (rests_all cs x.end parts.1)

  -- what is held between two chunks that open nothing was held before them
  held_rest : (b : Bool) (rest : Endpoint Carried → History → History) (s e : Endpoint Carried) (n m : History) (a : Association)
      → ((b : Association) → Has b (held_in e.endpoint_state.state) → Has b (held_in s.endpoint_state.state))
      → (Has a m.held → Has a n.held ⊎ Has a (held_in s.endpoint_state.state))
      → (Has a (rest e m).held → Has a m.held ⊎ Has a (held_in e.endpoint_state.state))
      → Has a (noted_after rest (record { end = e; allows_next = b }) m).held → Has a n.held ⊎ Has a (held_in s.endpoint_state.state)
  held_rest true rest s e n m a was before f h = elim (f h) [ inl q ↦ before q | inr q ↦ inr (was a q) ]
  held_rest false rest s e n m a was before f h = before h

  held_within : (cs : List ChunkTree) (e : Endpoint Carried) (n : History) (a : Association) → list_all is_silent cs ≡ true → Has a (noted_receiving tag cs e n).held
      → Has a n.held ⊎ Has a (held_in e.endpoint_state.state)
  held_within [] e n a silent h = inl h
  held_within (c ∷ cs) e n a silent h =
      let x : AfterChunk Carried = receive tag c e in
      let parts = silent_tail c cs silent in
      let r : RestsAt (calm e) (calm x.end) = silent_chunk_rests c e parts.0 in
      let m : History = noted (drawn_for c e) x.end.endpoint_state.state n in
      held_rest x.allows_next (noted_receiving tag cs) e x.end n m a r.held
      (λ q. elim (has_either a (held_in x.end.endpoint_state.state) n.held q) [ inl k ↦ inr (r.held a k) | inr k ↦ inl k ])
      (held_within cs x.end m a parts.1) h

  -- ---- the packet

  -- what holds of the end at each chunk, by which no chunk is misused
  module _ (Can : Endpoint Carried → Type 0) (Said : ChunkTree → Type 0)
      (goes : (c : ChunkTree) (e : Endpoint Carried) → Said c → Can e → Can (receive tag c e).end)
      (right : (c : ChunkTree) (e : Endpoint Carried) → Said c → Can e → violation e.endpoint_state.state c ≡ None) where
    stays_rest : (b : Bool) (f : Endpoint Carried → Endpoint Carried) (e : Endpoint Carried) → is_opened e.endpoint_state.state ≡ true → is_opened (f e).endpoint_state.state ≡ true
        → is_opened (receive_rest f (record { end = e; allows_next = b })).endpoint_state.state ≡ true
    stays_rest true f e h k = k
    stays_rest false f e h k = h

    loads_stay : (cs : List ChunkTree) (e : Endpoint Carried) → list_all is_load cs ≡ true → All Said cs → Can e → is_opened e.endpoint_state.state ≡ true
        → is_opened (receive_all tag cs e).endpoint_state.state ≡ true
    loads_stay [] e loads said can open_now = open_now
    loads_stay (c ∷ cs) e loads said can open_now =
        let x : AfterChunk Carried = receive tag c e in
        let parts = and_parts (is_load c) (list_all is_load cs) loads in
        let here : Said c = All-head Said c cs said in
        let next : is_opened x.end.endpoint_state.state ≡ true = load_in c e.endpoint_state.state e parts.0 (right c e here can) open_now in
        stays_rest x.allows_next (receive_all tag cs) x.end next (loads_stay cs x.end parts.1 (All-tail Said c cs said) (goes c e here can) next)

    pub record Within (n m : History) (s e : Endpoint Carried) : Type 0 where
      pub held : (a : Association) → Has a m.held → Has a n.held ⊎ (Has a (held_in s.endpoint_state.state) ⊎ Has a (held_in e.endpoint_state.state))
      pub stands : Stands e

    packet_end_rests : (e : Endpoint Carried) → RestsAt (calm e) (calm (in_endpoint_state (where_open on_packet_end) e))
    packet_end_rests e = let k : Preserves ReceiveNoPacket RestsAt = rests ReceiveNoPacket no_packet_brings_no_opening in does_where_open k e.draws on_packet_end e.endpoint_state (does_ended k e.draws)

    -- the first chunk opens
    led : (c : ChunkTree) (cs : List ChunkTree) (s e : Endpoint Carried) (n : History) → RestsAt (calm s) (calm e) → has_connected s.endpoint_state.context.emitted.events ≡ false
        → is_opening c ≡ true → list_all is_load cs ≡ true → All Said (c ∷ cs) → Can e
        → Within n (noted_receiving tag (c ∷ cs) e n) s (in_endpoint_state (where_open on_packet_end) (receive_all tag (c ∷ cs) e))
    led c cs s e n r none opening loads said can =
        let x : AfterChunk Carried = receive tag c e in
        let m : History = noted (drawn_for c e) x.end.endpoint_state.state n in
        let silent : list_all is_silent cs ≡ true = all_pass is_load is_silent load_is_silent cs loads in
        let mid : Endpoint Carried = receive_all tag (c ∷ cs) e in
        let last : Endpoint Carried = in_endpoint_state (where_open on_packet_end) mid in
        let on : RestsAt (calm x.end) (calm mid) =
        rests_rest x.allows_next (receive_all tag cs) x.end x.end (record { held = λ a q. q; emitted = refl }) (rests_all cs x.end silent) in
        let all : RestsAt (calm x.end) (calm last) = through x.end mid last on (packet_end_rests mid) in
        let stays : is_opened x.end.endpoint_state.state ≡ true → is_opened last.endpoint_state.state ≡ true =
        λ q. ended_open mid.endpoint_state.state mid
        (stays_rest x.allows_next (receive_all tag cs) x.end q (loads_stay cs x.end loads (All-tail Said c cs said) (goes c e (All-head Said c cs said) can) q)) in
        let before : has_connected e.endpoint_state.context.emitted.events ≡ false = r.emitted ∙ none in
        record {
          held = λ a h. elim (held_rest x.allows_next (noted_receiving tag cs) x.end x.end n m a (λ b q. q)
              (λ q. elim (has_either a (held_in x.end.endpoint_state.state) n.held q) [ inl k ↦ inr k | inr k ↦ inl k ]) (held_within cs x.end m a silent) h) [
                | inl q ↦ inl q
                | inr q ↦ inr (inr (still_held x.end.endpoint_state.state last.endpoint_state.state a all.held (stays (held_opened x.end.endpoint_state.state a q)) q))
              ];
          stands = λ h. stays (opening_stands c e opening before (sym all.emitted ∙ h));
        }

    -- none does
    silent_within : (cs : List ChunkTree) (s e : Endpoint Carried) (n : History) → RestsAt (calm s) (calm e) → has_connected s.endpoint_state.context.emitted.events ≡ false
        → list_all is_silent cs ≡ true → Within n (noted_receiving tag cs e n) s (in_endpoint_state (where_open on_packet_end) (receive_all tag cs e))
    silent_within cs s e n r none silent =
        let mid : Endpoint Carried = receive_all tag cs e in
        let last : Endpoint Carried = in_endpoint_state (where_open on_packet_end) mid in
        let all : RestsAt (calm s) (calm last) = through s e last r (through e mid last (rests_all cs e silent) (packet_end_rests mid)) in
        record {
          held = λ a h. elim (held_within cs e n a silent h) [ inl q ↦ inl q | inr q ↦ inr (inl (r.held a q)) ];
          stands = not_yet s last none all;
        }

    pub receives_within : (cs : List ChunkTree) (s e : Endpoint Carried) (n : History) → RestsAt (calm s) (calm e) → has_connected s.endpoint_state.context.emitted.events ≡ false
        → Shape cs → All Said cs → Can e → Within n (noted_receiving tag cs e n) s (in_endpoint_state (where_open on_packet_end) (receive_all tag cs e))
    receives_within cs s e n r none (inl silent) said can = silent_within cs s e n r none silent
    receives_within [] s e n r none (inr h) said can = absurd h
    receives_within (c ∷ cs) s e n r none (inr h) said can = led c cs s e n r none h.0 h.1 said can
