-- Packets that are taken, also those that begin with what opens an association, and packets that are refused.
use Rattle.std.proofs.Common.{◌≡◌, ℕ, Bool, true, false, Option, Some, None, is_some, List, [], ◌∷◌, refl, sym, ap, subst, ◌∙◌}
use Rattle.std.proofs.lemmas.Bool.{and_parts}
use Rattle.std.specs.List.{list_all}
use Rattle.rand_core.specs.Stream.{Stream}
use Rattle.sctp_packet.specs.Chunk.{ChunkTree, InitTree, data_chunk, idata_chunk, init_chunk, init_ack_chunk, sack_chunk, heartbeat_request_chunk, heartbeat_ack_chunk, abort_chunk, shutdown_chunk, shutdown_ack_chunk, error_chunk, cookie_echo_chunk, cookie_ack_chunk, shutdown_complete_chunk, re_config_chunk, forward_tsn_chunk, i_forward_tsn_chunk, unknown_chunk}
use Rattle.sctp_packet.specs.Packet.{PacketTree}
use Rattle.sctp_capabilities.specs.StateCookie.{Cookie}
use Rattle.spec_endpoint.specs.Association.{Tcb, Phase, CookieEchoed, Established, ShutdownPending, ShutdownSent, ShutdownReceived, ShutdownAckSent, State, Closed, CookieWait, Open, Context, EndpointState, Endpoint, with_context, where_open, Packing}
use Rattle.spec_endpoint.specs.Opening.{resolve_cookie}
use Rattle.spec_endpoint.specs.Input.{packet_refusal, violation, on_chunk, allows_next, AfterChunk, received_unless, receive, receive_rest, receive_all, has_data_chunk, repeats_if, on_packet_end, on_accepted_packet, count_packet, count_packet_at, packet_unless, on_packet}
use Rattle.proof_endpoint.proofs.OpeningStepsLemmas.{steps_init, steps_init_ack, steps_cookie_echo}
use Rattle.proof_endpoint.proofs.RowMapsLemmas.{endpoint_state_in}
use Rattle.proof_endpoint.proofs.InputMapsLemmas.{received_as}
use Rattle.proof_draws.specs.NamedChunks.{Names, AreNames, flip, named_chunk, named_chunks}
use Rattle.proof_draws.specs.Names.{named_state, named_endpoint_state, with_random}
use Rattle.proof_draws.specs.Laws.{TiesTell, NumbersFitIn, is_flowing}
use Rattle.proof_draws.specs.NamedCalls.{is_new, CookieIsNamed, AreNamed, IsNamed, named_received}
use Rattle.proof_draws.proofs.WritingLemmas.{Knows}
use Rattle.proof_draws.proofs.TagLemmas.{data_named, refused_named, behind_named}
use Rattle.proof_draws.proofs.ClosingLemmas.{where_named, ended_named}
use Rattle.proof_draws.proofs.NumberLemmas.{repeats_if_fits, cookie_echo_fits}
use Rattle.proof_draws.proofs.ReceiveLemmas.{all_stay, repeats_if_stays, violation_named, all_named, repeats_if_named}
use Rattle.proof_draws.proofs.HandshakeNamedLemmas.{init_named, init_ack_named, cookie_echo_named}

-- ---- chunks that open nothing draw nothing

-- with other words
abbrev worded : {P : Type 0} → Stream → Endpoint P → Endpoint P
worded v e = with_random v e.endpoint_state

module _ {P : Type 0} (v : Stream) where
  chunk_quiet : (tag : ℕ) (chunk : ChunkTree) (e : Endpoint P) → is_flowing chunk ≡ true → on_chunk tag chunk (worded v e) ≡ worded v (on_chunk tag chunk e)
  chunk_quiet tag (data_chunk tsn immediate f) e h = refl
  chunk_quiet tag (idata_chunk tsn immediate f) e h = refl
  chunk_quiet tag (init_chunk i) e h = cc
  chunk_quiet tag (init_ack_chunk i) e h = cc
  chunk_quiet tag (sack_chunk k) e h = refl
  chunk_quiet tag (heartbeat_request_chunk parameters) e h = refl
  chunk_quiet tag (heartbeat_ack_chunk parameters) e h = refl
  chunk_quiet tag (abort_chunk reflected causes) e h = refl
  chunk_quiet tag (shutdown_chunk tsn) e h = refl
  chunk_quiet tag shutdown_ack_chunk e h = refl
  chunk_quiet tag (error_chunk causes) e h = refl
  chunk_quiet tag (cookie_echo_chunk cookie) e h = cc
  chunk_quiet tag cookie_ack_chunk e h = refl
  chunk_quiet tag (shutdown_complete_chunk reflected) e h = refl
  chunk_quiet tag (re_config_chunk parameters) e h = refl
  chunk_quiet tag (forward_tsn_chunk tsn skipped) e h = refl
  chunk_quiet tag (i_forward_tsn_chunk tsn skipped) e h = refl
  chunk_quiet tag (unknown_chunk typ flags value) e h = refl

  received_quiet : (o : Option (List ℕ)) (tag : ℕ) (chunk : ChunkTree) (e : Endpoint P) → is_flowing chunk ≡ true
      → received_unless o tag chunk (worded v e) ≡ received_as (received_unless o tag chunk e).allows_next (worded v (received_unless o tag chunk e).end)
  received_quiet (Some reason) tag chunk e h = refl
  received_quiet None tag chunk e h = ap (λ (x : Endpoint P). received_as (allows_next e.endpoint_state.context.options.avoid_stalls e.endpoint_state.context.last_tag tag e.endpoint_state.state chunk) x) (chunk_quiet tag chunk e h)

  rest_quiet : (rest : Endpoint P → Endpoint P) (b : Bool) (e : Endpoint P) → rest (worded v e) ≡ worded v (rest e)
      → receive_rest rest (received_as b (worded v e)) ≡ worded v (receive_rest rest (received_as b e))
  rest_quiet rest true e h = h
  rest_quiet rest false e h = refl

  all_quiet : (tag : ℕ) (cs : List ChunkTree) (e : Endpoint P) → list_all is_flowing cs ≡ true → receive_all tag cs (worded v e) ≡ worded v (receive_all tag cs e)
  all_quiet tag [] e h = refl
  all_quiet tag (c ∷ cs) e h =
      let both = and_parts (is_flowing c) (list_all is_flowing cs) h in
      let x : AfterChunk P = receive tag c e in
      ap (λ (y : AfterChunk P). receive_rest (receive_all tag cs) y) (received_quiet (violation e.endpoint_state.state c) tag c e both.0)
      ∙ rest_quiet (receive_all tag cs) x.allows_next x.end (all_quiet tag cs x.end both.1)

-- ---- the first chunk

module _ {P : Type 0} where
  -- one that nothing forbids
  first_received : (tag : ℕ) (c : ChunkTree) (cs : List ChunkTree) (e : Endpoint P) → violation e.endpoint_state.state c ≡ None
      → receive_all tag (c ∷ cs) e
      ≡ receive_rest (receive_all tag cs) (received_as (allows_next e.endpoint_state.context.options.avoid_stalls e.endpoint_state.context.last_tag tag e.endpoint_state.state c) (on_chunk tag c e))
  first_received tag c cs e allowed = ap (λ (o : Option (List ℕ)). receive_rest (receive_all tag cs) (received_unless o tag c e)) allowed

init_allowed : (st : State) (i : InitTree) → violation st (init_chunk i) ≡ None
init_allowed Closed i = refl
init_allowed (CookieWait tag first t1) i = refl
init_allowed (Open phase t) i = refl

init_ack_allowed : (st : State) (i : InitTree) → violation st (init_ack_chunk i) ≡ None
init_ack_allowed Closed i = refl
init_ack_allowed (CookieWait tag first t1) i = refl
init_ack_allowed (Open phase t) i = refl

cookie_echo_allowed : (st : State) (cookie : List ℕ) → violation st (cookie_echo_chunk cookie) ≡ None
cookie_echo_allowed Closed cookie = refl
cookie_echo_allowed (CookieWait tag first t1) cookie = refl
cookie_echo_allowed (Open phase t) cookie = refl

-- ---- a SHUTDOWN that is sent again leaves the control block as it is

abbrev block_or : Tcb → State → Tcb
block_or u Closed = u
block_or u (CookieWait tag first t1) = u
block_or u (Open phase t) = t

-- the control block is that of this state
abbrev HasBlockOf : (before after : State) → Type 0
HasBlockOf before after = (phase : Phase) (t : Tcb) → after ≡ Open phase t → (q : Phase) × (before ≡ Open q t)

same_block : (p q : Phase) (u : Tcb) → HasBlockOf (Open p u) (Open q u)
same_block p q u phase t e = (p, ap (λ (x : Tcb). Open p x) (ap (λ (st : State). block_or u st) e))

module _ {P : Type 0} where
  repeats_block : (b : Bool) (st : State) (c : Context P) → HasBlockOf st (repeats_if b (endpoint_state_in st c)).state
  repeats_block false st c = λ phase t e. (phase, e)
  repeats_block true Closed c = λ phase t e. (phase, e)
  repeats_block true (CookieWait tag first t1) c = λ phase t e. (phase, e)
  repeats_block true (Open (CookieEchoed t1 cookie) t) c = λ phase u e. (phase, e)
  repeats_block true (Open Established t) c = λ phase u e. (phase, e)
  repeats_block true (Open ShutdownPending t) c = λ phase u e. (phase, e)
  repeats_block true (Open (ShutdownSent t2) t) c = same_block (ShutdownSent t2) _ t
  repeats_block true (Open ShutdownReceived t) c = λ phase u e. (phase, e)
  repeats_block true (Open (ShutdownAckSent t2) t) c = λ phase u e. (phase, e)

  repeats_judged : (b : Bool) (tag : ℕ) (k : Cookie) (st : State) (c : Context P) → resolve_cookie false tag k (repeats_if b (endpoint_state_in st c)).state ≡ resolve_cookie false tag k st
  repeats_judged false tag k st c = refl
  repeats_judged true tag k Closed c = refl
  repeats_judged true tag k (CookieWait mine first t1) c = refl
  repeats_judged true tag k (Open (CookieEchoed t1 cookie) t) c = refl
  repeats_judged true tag k (Open Established t) c = refl
  repeats_judged true tag k (Open ShutdownPending t) c = refl
  repeats_judged true tag k (Open (ShutdownSent t2) t) c = refl
  repeats_judged true tag k (Open ShutdownReceived t) c = refl
  repeats_judged true tag k (Open (ShutdownAckSent t2) t) c = refl

ties_from : (n : Names) (tag : ℕ) (k : Cookie) (before after : State) → HasBlockOf before after
    → ((phase : Phase) (t : Tcb) → before ≡ Open phase t → TiesTell n tag t.identity k) → (phase : Phase) (t : Tcb) → after ≡ Open phase t → TiesTell n tag t.identity k
ties_from n tag k before after same ties_before phase t e = let had = same phase t e in ties_before had.0 t had.1

-- ---- packets

pub none_of : (o : Option (List ℕ)) → is_some o ≡ false → o ≡ None
none_of None h = refl
none_of (Some text) h = cc

pub some_of : (o : Option (List ℕ)) → is_some o ≡ true → (text : List ℕ) × (o ≡ Some text)
some_of None h = cc
some_of (Some text) h = (text, refl)

-- request numbers are of 32 bits, where some chunk may read one
abbrev FitsFor : List ChunkTree → State → Type 0
FitsFor [] st = Unit {0}
FitsFor (c ∷ cs) st = NumbersFitIn st

fits_for : (cs : List ChunkTree) (st : State) → NumbersFitIn st → FitsFor cs st
fits_for [] st f = tt
fits_for (c ∷ cs) st f = f

-- these chunks are received under both names alike
record ReceivedAlike {P : Type 0} (n : Names) (pack : Packing P) (tag : ℕ) (cs : List ChunkTree) (s : EndpointState P) (w v : Stream) : Type 0 where
  alike : (receive_all (n.tag tag) (named_chunks (flip n) cs) (with_random v (named_endpoint_state n pack s))).endpoint_state ≡ named_endpoint_state n pack (receive_all tag cs (with_random w s)).endpoint_state
  knows : Knows n pack (receive_all tag cs (with_random w s)).endpoint_state.context

abbrev HandledAlike : {P : Type 0} → Names → Packing P → (tag : ℕ) → List ChunkTree → EndpointState P → (w v : Stream) → Type 0
HandledAlike {P} n pack tag cs s w v =
    (on_accepted_packet (n.tag tag) (named_chunks (flip n) cs) (with_random v (named_endpoint_state n pack s))).endpoint_state ≡ named_endpoint_state n pack (on_accepted_packet tag cs (with_random w s)).endpoint_state

module _ {P : Type 0} (n : Names) (are : AreNames n) (pack : Packing P) where
  -- ends that stand alike
  flow_alike : (tag : ℕ) (cs : List ChunkTree) (x y : Endpoint P) → list_all is_flowing cs ≡ true → FitsFor cs x.endpoint_state.state → Knows n pack x.endpoint_state.context
      → y.endpoint_state ≡ named_endpoint_state n pack x.endpoint_state → (receive_all (n.tag tag) (named_chunks (flip n) cs) y).endpoint_state ≡ named_endpoint_state n pack (receive_all tag cs x).endpoint_state
  flow_alike tag [] x y h f k same = same
  flow_alike tag (c ∷ cs) x y h f k same =
      ap (λ (s : EndpointState P). (receive_all (n.tag tag) (named_chunks (flip n) (c ∷ cs)) (with_random y.draws s)).endpoint_state) same
      ∙ (ap (λ (e : Endpoint P). e.endpoint_state) (all_named n are pack tag (c ∷ cs) (worded y.draws x) h f k)
      ∙ ap (λ (e : Endpoint P). named_endpoint_state n pack e.endpoint_state) (all_quiet y.draws tag (c ∷ cs) x h))

  flow_received : (tag : ℕ) (cs : List ChunkTree) (s : EndpointState P) (w v : Stream) → list_all is_flowing cs ≡ true → NumbersFitIn s.state → Knows n pack s.context → ReceivedAlike n pack tag cs s w v
  flow_received tag cs s w v h f k = record {
    alike = flow_alike tag cs (with_random w s) (with_random v (named_endpoint_state n pack s)) h (fits_for cs s.state f) k refl;
    knows = all_stay tag cs (with_random w s) h ∙ k;
  }

  -- where both go on, or neither
  rest_alike : (b : Bool) (tag : ℕ) (cs : List ChunkTree) (x y : Endpoint P) → list_all is_flowing cs ≡ true → FitsFor cs x.endpoint_state.state → Knows n pack x.endpoint_state.context
      → y.endpoint_state ≡ named_endpoint_state n pack x.endpoint_state
      → ((receive_rest (receive_all (n.tag tag) (named_chunks (flip n) cs)) (received_as b y)).endpoint_state
      ≡ named_endpoint_state n pack (receive_rest (receive_all tag cs) (received_as b x)).endpoint_state)
      × Knows n pack (receive_rest (receive_all tag cs) (received_as b x)).endpoint_state.context
  rest_alike true tag cs x y h f k alike = (flow_alike tag cs x y h f k alike, all_stay tag cs x h ∙ k)
  rest_alike false tag cs x y h f k alike = (alike, k)

  -- behind a first chunk that both take alike
  first_alike : (tag : ℕ) (c : ChunkTree) (cs : List ChunkTree) (s : EndpointState P) (w v : Stream)
      → violation s.state c ≡ None
      → allows_next s.context.options.avoid_stalls (n.tag s.context.last_tag) (n.tag tag) (named_state n s.state) (named_chunk (flip n) c)
      ≡ allows_next s.context.options.avoid_stalls s.context.last_tag tag s.state c
      → list_all is_flowing cs ≡ true
      → FitsFor cs (on_chunk tag c (with_random w s)).endpoint_state.state → Knows n pack (on_chunk tag c (with_random w s)).endpoint_state.context
      → (on_chunk (n.tag tag) (named_chunk (flip n) c) (with_random v (named_endpoint_state n pack s))).endpoint_state ≡ named_endpoint_state n pack (on_chunk tag c (with_random w s)).endpoint_state
      → ReceivedAlike n pack tag (c ∷ cs) s w v
  first_alike tag c cs s w v allowed on h f k alike =
      let x : Endpoint P = on_chunk tag c (with_random w s) in
      let d : ChunkTree = named_chunk (flip n) c in
      let r : EndpointState P = named_endpoint_state n pack s in
      let y : Endpoint P = on_chunk (n.tag tag) d (with_random v r) in
      let b : Bool = allows_next s.context.options.avoid_stalls s.context.last_tag tag s.state c in
      let here : receive_all tag (c ∷ cs) (with_random w s) ≡ receive_rest (receive_all tag cs) (received_as b x) = first_received tag c cs (with_random w s) allowed in
      let there : receive_all (n.tag tag) (named_chunks (flip n) (c ∷ cs)) (with_random v r) ≡ receive_rest (receive_all (n.tag tag) (named_chunks (flip n) cs)) (received_as b y) =
      first_received (n.tag tag) d (named_chunks (flip n) cs) (with_random v r) (violation_named n (flip n) s.state c ∙ allowed)
      ∙ ap (λ (a : Bool). receive_rest (receive_all (n.tag tag) (named_chunks (flip n) cs)) (received_as a y)) on in
      let rest = rest_alike b tag cs x y h f k alike in
      record {
        alike = ap (λ (e : Endpoint P). e.endpoint_state) there ∙ (rest.0 ∙ sym (ap (λ (e : Endpoint P). named_endpoint_state n pack e.endpoint_state) here));
        knows = ap (λ (e : Endpoint P). e.endpoint_state.context.pack) here ∙ rest.1;
      }

  -- the beginning and the end of a packet
  handled_alike : (tag : ℕ) (cs : List ChunkTree) (s : EndpointState P) (w v : Stream) → ReceivedAlike n pack tag cs (repeats_if (has_data_chunk cs) s) w v → Knows n pack s.context
      → HandledAlike n pack tag cs s w v
  handled_alike tag cs s w v h k =
      let ds : List ChunkTree = named_chunks (flip n) cs in
      let x : EndpointState P = (receive_all tag cs (with_random w (repeats_if (has_data_chunk cs) s))).endpoint_state in
      ap (λ (b : Bool). where_open on_packet_end (receive_all (n.tag tag) ds (with_random v (repeats_if b (named_endpoint_state n pack s)))).endpoint_state) (data_named (flip n) cs)
      ∙ (ap (λ (r : EndpointState P). where_open on_packet_end (receive_all (n.tag tag) ds (with_random v r)).endpoint_state) (repeats_if_named n are pack (has_data_chunk cs) s k)
      ∙ (ap (λ (r : EndpointState P). where_open on_packet_end r) h.alike
      ∙ where_named n are pack on_packet_end x (ended_named n are pack) h.knows))

  cookie_after : (b : Bool) (tag : ℕ) (cookie : List ℕ) (st : State) (c : Context P) (w v : Stream) → CookieIsNamed n tag cookie st w v
      → CookieIsNamed n tag cookie (repeats_if b (endpoint_state_in st c)).state w v
  cookie_after b tag cookie st c w v is = record {
    reads = is.reads;
    ties = λ k e. ties_from n tag k st (repeats_if b (endpoint_state_in st c)).state (repeats_block b st c) (is.ties k e);
    draws = λ k e new. is.draws k e (sym (ap is_new (repeats_judged b tag k st c)) ∙ new);
    first = is.first;
  }

  taken_as : (tag : ℕ) (cs : List ChunkTree) (s : EndpointState P) (w v : Stream) → AreNamed n tag cs s.state w v → NumbersFitIn s.state → Knows n pack s.context → HandledAlike n pack tag cs s w v
  taken_as tag cs s w v (AreNamed.flow h) f k =
      let r : EndpointState P = repeats_if (has_data_chunk cs) s in
      handled_alike tag cs s w v (flow_received tag cs r w v h (repeats_if_fits (has_data_chunk cs) s f) (repeats_if_stays (has_data_chunk cs) s ∙ k)) k
  taken_as tag cs s w v (AreNamed.init i e is) f k =
      subst (λ (ds : List ChunkTree). HandledAlike n pack tag ds s w v) (sym e)
      (handled_alike tag (init_chunk i ∷ []) s w v
      (first_alike tag (init_chunk i) [] s w v (init_allowed s.state i) refl refl tt ((steps_init i (with_random w s)).pack ∙ k) (init_named n are pack i s w v is k)) k)
  taken_as tag cs s w v (AreNamed.init_ack i e is) f k =
      subst (λ (ds : List ChunkTree). HandledAlike n pack tag ds s w v) (sym e)
      (handled_alike tag (init_ack_chunk i ∷ []) s w v
      (first_alike tag (init_ack_chunk i) [] s w v (init_ack_allowed s.state i) refl refl tt ((steps_init_ack i (with_random w s)).pack ∙ k) (init_ack_named n are pack i s w v is k)) k)
  taken_as tag cs s w v (AreNamed.cookie_echo cookie rest e is h) f k =
      let b : Bool = has_data_chunk rest in
      let r : EndpointState P = repeats_if b s in
      let at : Knows n pack r.context = repeats_if_stays b s ∙ k in
      let after = cookie_after b tag cookie s.state s.context w v is in
      subst (λ (ds : List ChunkTree). HandledAlike n pack tag ds s w v) (sym e)
      (handled_alike tag (cookie_echo_chunk cookie ∷ rest) s w v
      (first_alike tag (cookie_echo_chunk cookie) rest r w v (cookie_echo_allowed r.state cookie) (behind_named n are r.context.options.avoid_stalls r.context.last_tag tag cookie r.state after.reads after.ties) h
      (fits_for rest (on_chunk tag (cookie_echo_chunk cookie) (with_random w r)).endpoint_state.state (cookie_echo_fits tag cookie (with_random w r) is.first (repeats_if_fits b s f)))
      ((steps_cookie_echo tag cookie (with_random w r)).pack ∙ at)
      (cookie_echo_named n are pack tag cookie r w v after at)) k)

  pub packet_named : (p : PacketTree) (s : EndpointState P) (w v : Stream) → IsNamed n p s.state w v → Knows n pack s.context
      → (on_packet (named_received n p) (with_random v (named_endpoint_state n pack s))).endpoint_state ≡ named_endpoint_state n pack (on_packet p (with_random w s)).endpoint_state
  packet_named p s w v is k =
      let tag : ℕ = p.header.verification_tag in
      let ds : List ChunkTree = named_chunks (flip n) p.chunks in
      let other : packet_refusal (n.tag tag) ds (named_state n s.state) ≡ None = none_of (packet_refusal (n.tag tag) ds (named_state n s.state)) (refused_named n are (flip n) tag p.chunks s.state ∙ ap (λ (o : Option (List ℕ)). is_some o) is.taken) in
      ap (λ (o : Option (List ℕ)). (packet_unless o (n.tag tag) ds (count_packet_at (with_random v (named_endpoint_state n pack s)))).endpoint_state) other
      ∙ (taken_as tag p.chunks (with_context s (count_packet s.context)) w v is.chunks is.numbers k
      ∙ sym (ap (λ (o : Option (List ℕ)). named_endpoint_state n pack (packet_unless o tag p.chunks (count_packet_at (with_random w s))).endpoint_state) is.taken))
