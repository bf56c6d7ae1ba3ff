-- The walk over the rows: the handshake.
use Rattle.std.proofs.Common.{◌≡◌, ℕ, ◌<◌, ◌^◌, subst, arith, ◌==◌, not, Bool, true, false, Option, Some, None, Result, Ok, Err, List, [], ◌∷◌, codes, refl, ◌&&◌, ap}
use Rattle.rand_core.specs.Stream.{Stream}
use Rattle.sctp_wire.specs.Cause.{missing_mandatory_parameter, cookie_received_while_shutting_down}
use Rattle.sctp_packet.specs.Chunk.{ChunkTree, InitTree, init_chunk, init_ack_chunk, abort_chunk, error_chunk, cookie_echo_chunk, cookie_ack_chunk, shutdown_ack_chunk}
use Rattle.sctp_state.specs.declared.api.ErrorKind.TheVariants.{ParseFailed, ProtocolViolation, WrongSequence}
use Rattle.sctp_capabilities.specs.declared.state_cookie.StateCookieError.{StateCookieError}
use Rattle.sctp_state.specs.Options.{Options}
use Rattle.sctp_state.specs.Timer.{Timer}
use Rattle.sctp_capabilities.specs.Capabilities.{announced_parameters, zero_checksum_enabled}
use Rattle.sctp_capabilities.specs.StateCookie.{Cookie, read_cookie, refusal_text}
use Rattle.sctp_state.specs.Events.{OnAborted}
use Rattle.spec_endpoint.specs.Association.{Tcb, tcb, Phase, CookieEchoed, Established, ShutdownPending, ShutdownSent, ShutdownReceived, ShutdownAckSent, State, Closed, CookieWait, Open, Context, Endpoint}
use Rattle.spec_endpoint.specs.Packets.{PacketDraft, fits, add, packet_to, new_packet, round_down_to_4, emit}
use Rattle.spec_endpoint.specs.Sending.{is_before_cookie_ack}
use Rattle.spec_endpoint.specs.Opening.{long_word, init_of, init_ack_of, next_first, send_init, t1_init, connect_in, connect, agreed_by, answers, answers_new, answers_again, on_init_open, on_init_in, on_init, cookie_in, without_cookie, t1_cookie, identity_of_init_ack, echo_or_abort, on_init_ack_in, on_init_ack, enter_connected, on_cookie_ack, CookieResolution, EstablishNew, RestartDetected, SimultaneousInit, MaintainExisting, Discard, InvalidTag, by_tags, new_if, new_unless, resolve_by_tags, resolve_cookie, cookie_ack, tcb_by, establishes as establishes_by, maintain_existing, too_late, restarts as restarts_by, restarts_in, on_resolution, on_read_cookie, on_cookie_echo, restarted, as_restart, is_spent_at, spent_chunk, on_cookie_unless}
use Rattle.spec_endpoint.specs.Laws.{Call, Connect}
use Rattle.proof_endpoint.proofs.ReceivedLemmas.{FitsCookie, FitsRead, read_fits}
use Rattle.proof_endpoint.proofs.OwnChunksLemmas.{fair_shutdown_ack, fair_too_late, fair_missing, fair_spent}
use Rattle.proof_endpoint.specs.Acts.{EndWithPacket, at, no_packet, idle, calm, Fitting, IsAddressed, drawn_first, drawn_tag, drawn_tag_alone, drew_two, drew_one, echo_step, opened_by, BringsChunk, IsEchoed, IsBundled, an_init_alone, an_init_ack_alone, all_along, always, as_held, as_asked, adds_plain, connects, adds_init, answers_new as answers_new_act, answers_waiting, answers_echoed, answers_again as answers_again_act, echoes, establishes, opens, restarts, opens_again, maintains, adds_cookie_ack, Preserves}
use Rattle.proof_endpoint.proofs.BundledLemmas.{added_more, one_bundled, first_more, plain_added}
use Rattle.proof_endpoint.proofs.PacketActsLemmas.{new_addressed, whole_addressed, rounded_addressed, does_out, does_begin, does_plain, does_emit_error, does_send_with, does_send_buffered, does_send_cookie}
use Rattle.proof_endpoint.proofs.RowActsLemmas.{placed, OpenActs, does_closed, does_send_shutdown_ack}
use Rattle.proof_endpoint.proofs.OpeningStepsLemmas.{end_in}

-- the packet of an INIT ACK, of a COOKIE ACK
abbrev pub answering : Options → InitTree → PacketDraft
answering o i = record (packet_to i.initiate_tag o.mtu) { is_summed = not (zero_checksum_enabled (agreed_by o i)) }

abbrev pub accepting : Options → (peer_tag : ℕ) → Tcb → PacketDraft
accepting o peer_tag t = record (packet_to peer_tag o.mtu) { is_summed = not (zero_checksum_enabled t.capabilities) }

answering_addressed : {P : Type 0} {call : Call} (tag : ℕ) (i : InitTree) (s : State) (c : Context P) (w : Stream) → BringsChunk call tag (init_chunk i)
    → IsAddressed call (idle s c w) (answering c.options i)
answering_addressed tag i s c w h = whole_addressed s c w (answering c.options i) refl (λ f held. (f.chunks tag (init_chunk i) h).1)

-- the cookie that came
pub echoed_fits : {call : Call} (tag : ℕ) (a : Cookie) → IsEchoed call tag a → Fitting call → FitsCookie a
echoed_fits tag a h f = subst FitsRead h.reads (read_fits h.cookie (f.chunks tag (cookie_echo_chunk h.cookie) h.received).1)

answered_bundled : (o : Options) (i : InitTree) (tag first tie : ℕ) → IsBundled (add (init_ack_chunk (init_ack_of o i tag first tie)) (answering o i)).chunks
answered_bundled o i tag first tie =
    let a : InitTree = init_ack_of o i tag first tie in one_bundled (init_ack_chunk a) (answering o i) refl (an_init_ack_alone a refl)

no_new : (a b c d : Bool) → by_tags a b c d ≡ EstablishNew → ⊥
no_new true true true d e = cc
no_new true true false d e = cc
no_new false true c d e = cc
no_new true false c true e = cc
no_new true false c false e = cc
no_new false false c d e = cc

-- what stays of a verdict where crossed INITs count as a restart
by_tags_alone : (is_late : Bool) (v : CookieResolution) → as_restart is_late v ≡ EstablishNew → v ≡ EstablishNew
by_tags_alone false v e = e
by_tags_alone true EstablishNew e = refl
by_tags_alone true RestartDetected e = cc
by_tags_alone true SimultaneousInit e = cc
by_tags_alone true MaintainExisting e = cc
by_tags_alone true Discard e = cc
by_tags_alone true InvalidTag e = cc

crossed_alone : (is_late : Bool) (v : CookieResolution) → as_restart is_late v ≡ SimultaneousInit → v ≡ SimultaneousInit
crossed_alone false v e = e
crossed_alone true EstablishNew e = cc
crossed_alone true RestartDetected e = cc
crossed_alone true SimultaneousInit e = refl
crossed_alone true MaintainExisting e = cc
crossed_alone true Discard e = cc
crossed_alone true InvalidTag e = cc

pub maintained_alone : (is_late : Bool) (v : CookieResolution) → as_restart is_late v ≡ MaintainExisting → v ≡ MaintainExisting
maintained_alone false v e = e
maintained_alone true EstablishNew e = cc
maintained_alone true RestartDetected e = cc
maintained_alone true SimultaneousInit e = cc
maintained_alone true MaintainExisting e = refl
maintained_alone true Discard e = cc
maintained_alone true InvalidTag e = cc

restarted_late : (is_late : Bool) (v : CookieResolution) → as_restart is_late v ≡ RestartDetected → as_restart true v ≡ RestartDetected
restarted_late true v e = e
restarted_late false v e = ap (λ (w : CookieResolution). as_restart true w) e

module _ {P : Type 0} {call : Call} {R : EndWithPacket P → EndWithPacket P → Type 0} (k : Preserves call R) where
  -- ---- INIT

  pub does_send_init : (tag first : ℕ) (t1 : Timer) (c : Context P) (w : Stream)
      → R (idle (CookieWait tag first t1) c w) (idle (CookieWait tag first t1) (send_init tag first c) w)
  does_send_init tag first t1 c w =
      let s : State = CookieWait tag first t1 in
      let p : PacketDraft = packet_to 0 c.options.mtu in
      let i : InitTree = init_of c.options tag first (announced_parameters c.options c.options.zero_checksum_method) in
      let zero_small : 0 < 2 ^ 32 = omega arith in
      k.through (does_begin k s c w p refl (always refl) (whole_addressed s c w p refl (λ f held. zero_small)))
      (k.through (k.opening (adds_init tag first t1 (at s c w p) refl))
      (does_out k s c w (add (init_chunk i) p) (one_bundled (init_chunk i) p refl (an_init_alone i refl))))

  does_opened : (c : Context P) (w : Stream) (s : Endpoint P) → call ≡ Connect → R (calm (end_in Closed s)) (calm (connect_in Closed (end_in Closed s)))
  does_opened c w s is =
      let m : EndWithPacket P = calm (end_in Closed s) in
      k.through (k.opening (connects m is)) (does_send_init (drawn_tag m) (drawn_first m) (t1_init m.context) m.context (drew_two m).draws)

  does_connect_in : (st : State) (s : Endpoint P) → call ≡ Connect → R (calm (end_in st s)) (calm (connect_in st (end_in st s)))
  does_connect_in Closed s is = does_opened s.endpoint_state.context s.draws s is
  does_connect_in (CookieWait tag first t1) s is = k.same (calm (end_in (CookieWait tag first t1) s))
  does_connect_in (Open phase t) s is = k.same (calm (end_in (Open phase t) s))

  pub does_connect : (s : Endpoint P) → call ≡ Connect → R (calm s) (calm (connect s))
  does_connect s is = does_connect_in s.endpoint_state.state s is

  module _ (tag : ℕ) (i : InitTree) (h : BringsChunk call tag (init_chunk i)) where
    does_answers_new : (s : Endpoint P) → R (calm (end_in Closed s)) (calm (answers_new i (end_in Closed s)))
    does_answers_new s =
        let c : Context P = s.endpoint_state.context in
        let p : PacketDraft = answering c.options i in
        let m : EndWithPacket P = at Closed c s.draws p in
        k.through (does_begin k Closed c s.draws p refl (as_asked tag i h refl) (answering_addressed tag i Closed c s.draws h))
        (k.through (k.opening (answers_new_act tag i m h refl))
        (does_out k Closed c (drew_two m).draws (add (init_ack_chunk (init_ack_of c.options i (drawn_tag m) (drawn_first m) 0)) p)
        (answered_bundled c.options i (drawn_tag m) (drawn_first m) 0)))

    does_answers_waiting : (my_tag first : ℕ) (t1 : Timer) (s : Endpoint P)
        → R (calm (end_in (CookieWait my_tag first t1) s)) (calm (answers i my_tag first 0 (end_in (CookieWait my_tag first t1) s)))
    does_answers_waiting my_tag first t1 s =
        let c : Context P = s.endpoint_state.context in
        let st : State = CookieWait my_tag first t1 in
        let p : PacketDraft = answering c.options i in
        let m : EndWithPacket P = at st c s.draws p in
        k.through (does_begin k st c s.draws p refl (as_asked tag i h refl) (answering_addressed tag i st c s.draws h))
        (k.through (k.opening (answers_waiting tag i my_tag first t1 m h refl))
        (does_out k st c s.draws (add (init_ack_chunk (init_ack_of c.options i my_tag first 0)) p)
        (answered_bundled c.options i my_tag first 0)))

    does_answers_echoed : (t1 : Timer) (cookie : List ℕ) (t : Tcb) (s : Endpoint P) → R (calm (end_in (Open (CookieEchoed t1 cookie) t) s))
        (calm (answers i t.identity.my_tag t.identity.my_first 0 (end_in (Open (CookieEchoed t1 cookie) t) s)))
    does_answers_echoed t1 cookie t s =
        let c : Context P = s.endpoint_state.context in
        let st : State = Open (CookieEchoed t1 cookie) t in
        let p : PacketDraft = answering c.options i in
        let m : EndWithPacket P = at st c s.draws p in
        k.through (does_begin k st c s.draws p refl (as_asked tag i h refl) (answering_addressed tag i st c s.draws h))
        (k.through (k.opening (answers_echoed tag i t1 cookie t m h refl))
        (does_out k st c s.draws (add (init_ack_chunk (init_ack_of c.options i t.identity.my_tag t.identity.my_first 0)) p)
        (answered_bundled c.options i t.identity.my_tag t.identity.my_first 0)))

    does_answers_again : (phase : Phase) (t : Tcb) (s : Endpoint P) → is_before_cookie_ack phase ≡ false
        → R (calm (end_in (Open phase t) s)) (calm (answers_again i t (end_in (Open phase t) s)))
    does_answers_again phase t s late =
        let c : Context P = s.endpoint_state.context in
        let st : State = Open phase t in
        let p : PacketDraft = answering c.options i in
        let m : EndWithPacket P = at st c s.draws p in
        k.through (does_begin k st c s.draws p refl (as_asked tag i h refl) (answering_addressed tag i st c s.draws h))
        (k.through (k.opening (answers_again_act tag i phase t m h late refl))
        (does_out k st c (drew_one m).draws (add (init_ack_chunk (init_ack_of c.options i (drawn_tag_alone m) (next_first t) t.identity.tie)) p)
        (answered_bundled c.options i (drawn_tag_alone m) (next_first t) t.identity.tie)))

    does_init_open : (phase : Phase) (t : Tcb) (s : Endpoint P)
        → R (calm (end_in (Open phase t) s)) (calm (on_init_open phase i t (end_in (Open phase t) s)))
    does_init_open (CookieEchoed t1 cookie) t s = does_answers_echoed t1 cookie t s
    does_init_open Established t s = does_answers_again Established t s refl
    does_init_open ShutdownPending t s = does_answers_again ShutdownPending t s refl
    does_init_open (ShutdownSent t2) t s = does_answers_again (ShutdownSent t2) t s refl
    does_init_open ShutdownReceived t s = does_answers_again ShutdownReceived t s refl
    does_init_open (ShutdownAckSent t2) t s = does_send_shutdown_ack k s.draws (ShutdownAckSent t2) t s.endpoint_state.context

    does_init_in : (st : State) (s : Endpoint P) → R (calm (end_in st s)) (calm (on_init_in st i (end_in st s)))
    does_init_in Closed s = does_answers_new s
    does_init_in (CookieWait my_tag first t1) s = does_answers_waiting my_tag first t1 s
    does_init_in (Open phase t) s = does_init_open phase t s

    pub does_init : (s : Endpoint P) → R (calm s) (calm (on_init i s))
    does_init s = does_init_in s.endpoint_state.state s

  -- ---- INIT ACK

  does_without_cookie : (tag : ℕ) (my_tag first : ℕ) (t1 : Timer) (c : Context P) (w : Stream) → (Fitting call → tag < 2 ^ 32)
      → R (idle (CookieWait my_tag first t1) c w) (placed (without_cookie tag c) w)
  does_without_cookie tag my_tag first t1 c w small =
      let s : State = CookieWait my_tag first t1 in
      let p : PacketDraft = packet_to tag (round_down_to_4 c.options.mtu) in
      let chunk : ChunkTree = abort_chunk false (missing_mandatory_parameter (7 ∷ []) ∷ []) in
      k.through (does_plain k chunk p s c w refl refl (always refl) (rounded_addressed s c w tag small) (λ f. fair_missing))
      (does_closed k w (OnAborted ProtocolViolation (codes "InitAck chunk doesn't contain a cookie")) s (emit (add chunk p) c) refl refl)

  module _ (tag : ℕ) (i : InitTree) (h : BringsChunk call tag (init_ack_chunk i)) where
    does_echoed : (o : Option (List ℕ)) (my_tag first : ℕ) (t1 : Timer) (s : Endpoint P) → cookie_in i.parameters ≡ o
        → R (calm (end_in (CookieWait my_tag first t1) s)) (calm (echo_or_abort i o my_tag first (end_in (CookieWait my_tag first t1) s)))
    does_echoed None my_tag first t1 s is =
        does_without_cookie i.initiate_tag my_tag first t1 s.endpoint_state.context s.draws (λ f. (f.chunks tag (init_ack_chunk i) h).1.0)
    does_echoed (Some cookie) my_tag first t1 s is =
        let c : Context P = s.endpoint_state.context in
        let m : EndWithPacket P = at (CookieWait my_tag first t1) c s.draws no_packet in
        let n : EndWithPacket P = echo_step i cookie my_tag first m in
        let t : Tcb = tcb c.options (identity_of_init_ack i my_tag first (long_word s)) i.a_rwnd (agreed_by c.options i) in
        k.through (k.opening (echoes tag i cookie my_tag first t1 m h is)) (does_send_cookie k (t1_cookie c) cookie n.draws t n.context)

    does_init_ack_in : (st : State) (s : Endpoint P) → R (calm (end_in st s)) (calm (on_init_ack_in st i (end_in st s)))
    does_init_ack_in Closed s = k.same (calm (end_in Closed s))
    does_init_ack_in (CookieWait my_tag first t1) s = does_echoed (cookie_in i.parameters) my_tag first t1 s refl
    does_init_ack_in (Open phase t) s = k.same (calm (end_in (Open phase t) s))

    pub does_init_ack : (s : Endpoint P) → R (calm s) (calm (on_init_ack i s))
    does_init_ack s = does_init_ack_in s.endpoint_state.state s

  -- ---- COOKIE ACK

  pub does_cookie_ack : (tag : ℕ) (w : Stream) → BringsChunk call tag cookie_ack_chunk → OpenActs R w on_cookie_ack
  does_cookie_ack tag w h (CookieEchoed t1 cookie) t c =
      k.through (k.opening (establishes tag t1 cookie t (idle (Open (CookieEchoed t1 cookie) t) c w) h)) (does_send_buffered k Established w false t (enter_connected c))
  does_cookie_ack tag w h Established t c = k.same (idle (Open Established t) c w)
  does_cookie_ack tag w h ShutdownPending t c = k.same (idle (Open ShutdownPending t) c w)
  does_cookie_ack tag w h (ShutdownSent t2) t c = k.same (idle (Open (ShutdownSent t2) t) c w)
  does_cookie_ack tag w h ShutdownReceived t c = k.same (idle (Open ShutdownReceived t) c w)
  does_cookie_ack tag w h (ShutdownAckSent t2) t c = k.same (idle (Open (ShutdownAckSent t2) t) c w)

  -- ---- COOKIE ECHO

  module _ (tag : ℕ) (a : Cookie) (h : IsEchoed call tag a) where
    -- its answer, with data behind it
    does_accept : (phase : Phase) (t : Tcb) (c : Context P) (w : Stream) → is_before_cookie_ack phase ≡ false
        → R (idle (Open phase t) c w) (idle (Open phase (cookie_ack a.peer_tag t c).tcb) (cookie_ack a.peer_tag t c).context w)
    does_accept phase t c w late =
        let s : State = Open phase t in
        let p : PacketDraft = accepting c.options a.peer_tag t in
        k.through (does_begin k s c w p refl (as_held phase t refl refl) (whole_addressed s c w p refl (λ f held. (echoed_fits tag a h f).peer_tag)))
        (k.through (k.opening (adds_cookie_ack tag a phase t (at (Open phase t) c w p) h late))
        (does_send_with k phase w false (add cookie_ack_chunk p) t c (first_more cookie_ack_chunk p refl refl)))

    -- a new control block, made from this state and context
    does_anew : (resets : Bool) (c : Context P) (s : Endpoint P) (m : EndWithPacket P) → R m (opened_by resets a (idle s.endpoint_state.state c s.draws))
        → R m (calm (establishes_by resets a c s))
    does_anew resets c s m done =
        let n : EndWithPacket P = opened_by resets a (idle s.endpoint_state.state c s.draws) in
        k.through done (does_accept Established (tcb_by c.options a (long_word s)) n.context n.draws refl)

    does_kept : (phase : Phase) (t : Tcb) (c : Context P) (w : Stream) → resolve_by_tags tag t.identity a ≡ MaintainExisting
        → R (idle (Open phase t) c w) (placed (maintain_existing a phase t c) w)
    does_kept (CookieEchoed t1 cookie) t c w is =
        k.through (k.opening (maintains tag a t1 cookie t (idle (Open (CookieEchoed t1 cookie) t) c w) h is))
        (does_accept Established t (enter_connected c) w refl)
    does_kept Established t c w is = does_accept Established t c w refl
    does_kept ShutdownPending t c w is = does_accept ShutdownPending t c w refl
    does_kept (ShutdownSent t2) t c w is = does_accept (ShutdownSent t2) t c w refl
    does_kept ShutdownReceived t c w is = does_accept ShutdownReceived t c w refl
    does_kept (ShutdownAckSent t2) t c w is = does_accept (ShutdownAckSent t2) t c w refl

    -- a restart comes too late
    does_too_late : (phase : Phase) (t : Tcb) (c : Context P) (w : Stream) → R (idle (Open phase t) c w) (idle (Open phase t) (too_late t c) w)
    does_too_late phase t c w =
        let p : PacketDraft = new_packet c.options t in
        let q : PacketDraft = add shutdown_ack_chunk p in
        let r : PacketDraft = add (error_chunk (cookie_received_while_shutting_down ∷ [])) q in
        let s : State = Open phase t in
        k.through (does_begin k s c w p refl (as_held phase t refl refl) (new_addressed phase t c w))
        (k.through (k.packets (adds_plain shutdown_ack_chunk (at s c w p) refl refl (λ f. fair_shutdown_ack)))
        (k.through (k.packets (adds_plain (error_chunk (cookie_received_while_shutting_down ∷ [])) (at s c w q) refl (plain_added (fits p shutdown_ack_chunk) p refl) (λ f. fair_too_late)))
        (k.through (does_out k s c w r (all_along (added_more (error_chunk (cookie_received_while_shutting_down ∷ [])) q (first_more shutdown_ack_chunk p refl refl) refl))) (does_emit_error k WrongSequence (codes "Received COOKIE-ECHO while shutting down") s (emit r c) w))))

    does_restarts : (phase : Phase) (t : Tcb) (s : Endpoint P) → as_restart true (resolve_by_tags tag t.identity a) ≡ RestartDetected
        → R (calm (end_in (Open phase t) s)) (calm (restarts_by a (end_in (Open phase t) s)))
    does_restarts phase t s is =
        let e : Endpoint P = end_in (Open phase t) s in
        does_anew true (restarted s.endpoint_state.context) e (calm e) (k.opening (restarts tag a phase t (calm e) h is))

    does_restarts_in : (phase : Phase) (t : Tcb) (s : Endpoint P) → as_restart true (resolve_by_tags tag t.identity a) ≡ RestartDetected
        → R (calm (end_in (Open phase t) s)) (calm (restarts_in phase t a (end_in (Open phase t) s)))
    does_restarts_in (CookieEchoed t1 cookie) t s is = does_restarts (CookieEchoed t1 cookie) t s is
    does_restarts_in Established t s is = does_restarts Established t s is
    does_restarts_in ShutdownPending t s is = does_restarts ShutdownPending t s is
    does_restarts_in (ShutdownSent t2) t s is = does_restarts (ShutdownSent t2) t s is
    does_restarts_in ShutdownReceived t s is = does_restarts ShutdownReceived t s is
    does_restarts_in (ShutdownAckSent t2) t s is = does_too_late (ShutdownAckSent t2) t s.endpoint_state.context s.draws

    does_invalid : (s : Endpoint P) → R (calm s) (calm (on_resolution InvalidTag a s))
    does_invalid s =
        does_emit_error k ParseFailed (codes "Received CookieEcho with invalid verification tag") s.endpoint_state.state s.endpoint_state.context s.draws

    does_verdict_open : (is_late : Bool) (v : CookieResolution) (phase : Phase) (t : Tcb) (s : Endpoint P) → as_restart is_late (resolve_by_tags tag t.identity a) ≡ v
        → R (calm (end_in (Open phase t) s)) (calm (on_resolution v a (end_in (Open phase t) s)))
    does_verdict_open is_late EstablishNew phase t s is =
        absurd (no_new (not (tag == t.identity.my_tag)) (not (a.peer_tag == t.identity.peer_tag)) (a.tie_tag == t.identity.tie) (a.tie_tag == 0) (by_tags_alone is_late _ is))
    does_verdict_open is_late RestartDetected phase t s is = does_restarts_in phase t s (restarted_late is_late _ is)
    does_verdict_open is_late SimultaneousInit phase t s is =
        let e : Endpoint P = end_in (Open phase t) s in
        does_anew true s.endpoint_state.context e (calm e) (k.opening (opens_again tag a phase t (calm e) h (crossed_alone is_late _ is)))
    does_verdict_open is_late MaintainExisting phase t s is = does_kept phase t s.endpoint_state.context s.draws (maintained_alone is_late _ is)
    does_verdict_open is_late Discard phase t s is = k.same (calm (end_in (Open phase t) s))
    does_verdict_open is_late InvalidTag phase t s is = does_invalid (end_in (Open phase t) s)

    -- without a control block
    does_new_if : (b : Bool) (s : Endpoint P) → (tag == a.my_tag) ≡ b → ((b ≡ true) → R (calm s) (opened_by s.endpoint_state.context.options.avoid_stalls a (calm s)))
        → R (calm s) (calm (on_resolution (new_if b) a s))
    does_new_if true s is may = does_anew s.endpoint_state.context.options.avoid_stalls s.endpoint_state.context s (calm s) (may refl)
    does_new_if false s is may = does_invalid s

    does_unless : (late b : Bool) (s : Endpoint P) → (tag == a.my_tag) ≡ b → ((b ≡ true) → R (calm s) (opened_by s.endpoint_state.context.options.avoid_stalls a (calm s)))
        → R (calm s) (calm (on_resolution (new_unless late b) a s))
    does_unless true b s is may = k.same (calm s)
    does_unless false b s is may = does_new_if b s is may

    does_judged : (st : State) (s : Endpoint P)
        → R (calm (end_in st s)) (calm (on_resolution (resolve_cookie s.endpoint_state.context.options.avoid_stalls tag a st) a (end_in st s)))
    does_judged Closed s =
        let e : Endpoint P = end_in Closed s in
        does_new_if (tag == a.my_tag) e refl (λ own. k.opening (opens tag a (calm e) h refl own))
    does_judged (CookieWait my_tag first t1) s =
        let e : Endpoint P = end_in (CookieWait my_tag first t1) s in
        does_unless (s.endpoint_state.context.options.avoid_stalls && not (a.my_tag == my_tag)) (tag == a.my_tag) e refl (λ own. k.opening (opens tag a (calm e) h refl own))
    does_judged (Open phase t) s =
        let is_late : Bool = s.endpoint_state.context.options.avoid_stalls && not (is_before_cookie_ack phase) in
        does_verdict_open is_late (as_restart is_late (resolve_by_tags tag t.identity a)) phase t s refl

    does_cookie_unless : (b : Bool) (s : Endpoint P) → R (calm s) (calm (on_cookie_unless b tag a s))
    does_cookie_unless true s =
        let c : Context P = s.endpoint_state.context in
        let p : PacketDraft = packet_to a.peer_tag c.options.mtu in
        does_plain k spent_chunk p s.endpoint_state.state c s.draws refl refl (always refl)
        (whole_addressed s.endpoint_state.state c s.draws p refl (λ f held. (echoed_fits tag a h f).peer_tag)) (λ f. fair_spent)
    does_cookie_unless false s = does_judged s.endpoint_state.state s

  does_read_cookie : (tag : ℕ) (cookie : List ℕ) (r : Result Cookie StateCookieError) (s : Endpoint P) → BringsChunk call tag (cookie_echo_chunk cookie)
      → read_cookie cookie ≡ r → R (calm s) (calm (on_read_cookie tag r s))
  does_read_cookie tag cookie (Ok a) s h is = does_cookie_unless tag a (record { cookie = cookie; received = h; reads = is }) (is_spent_at a s.endpoint_state) s
  does_read_cookie tag cookie (Err fault) s h is = does_emit_error k ParseFailed (refusal_text fault) s.endpoint_state.state s.endpoint_state.context s.draws

  pub does_cookie_echo : (tag : ℕ) (cookie : List ℕ) (s : Endpoint P) → BringsChunk call tag (cookie_echo_chunk cookie)
      → R (calm s) (calm (on_cookie_echo tag cookie s))
  does_cookie_echo tag cookie s h = does_read_cookie tag cookie (read_cookie cookie) s h refl
