-- Rows that open an association: its timers run from the first on.
use Rattle.std.proofs.Common.{ℕ, Bool, true, false, Option, Some, None, Result, Ok, Err, List, [], ◌∷◌, codes}
use Rattle.std.specs.Prelude.{min, not}
use Rattle.sctp_wire.specs.Cause.{missing_mandatory_parameter}
use Rattle.sctp_packet.specs.Chunk.{InitTree, abort_chunk, cookie_ack_chunk}
use Rattle.sctp_state.specs.declared.api.ErrorKind.TheVariants.{ProtocolViolation}
use Rattle.sctp_state.specs.declared.timer.BackoffAlgorithm.TheVariants.{Exponential}
use Rattle.sctp_state.specs.Timer.{timer}
use Rattle.sctp_state.specs.Events.{OnAborted}
use Rattle.sctp_capabilities.specs.declared.state_cookie.StateCookieError.{StateCookieError}
use Rattle.sctp_capabilities.specs.Capabilities.{negotiate, zero_checksum_enabled}
use Rattle.sctp_capabilities.specs.StateCookie.{Cookie, read_cookie}
use Rattle.spec_endpoint.specs.Association.{Identity, Tcb, tcb, Phase, CookieEchoed, Established, ShutdownPending, ShutdownSent, ShutdownReceived, ShutdownAckSent, State, Closed, CookieWait, Open, Context, Endpoint}
use Rattle.spec_endpoint.specs.Packets.{PacketDraft, add, packet_to, round_down_to_4, emit}
use Rattle.spec_endpoint.specs.Opening.{waiting, connect_in, answers, on_init_open, on_init_in, queue_anew, agreed_by, maker, echo, echo_or_abort, cookie_in, on_init_ack_in, enter_connected, on_cookie_ack, CookieResolution, EstablishNew, RestartDetected, SimultaneousInit, MaintainExisting, Discard, InvalidTag, resolve_cookie, cookie_ack, tcb_by, queue_for, identity_of, anew, maintain_existing, maintain_existing_in, restarts_in, on_resolution, on_read_cookie, on_cookie_echo, restarted, on_cookie_unless, is_spent_at}
use Rattle.proof_awake.specs.Invariant.{is_established, StateHolds}
use Rattle.proof_awake.proofs.TimerLemmas.{started}
use Rattle.proof_awake.proofs.BlockLemmas.{new_block}
use Rattle.proof_awake.proofs.SendingRowLemmas.{quieter, interval_started, Beside, goes_out, Holds, Left, sends_with, sends_buffered, cookie_goes}
use Rattle.proof_awake.proofs.RowLemmas.{Going, EndHolds, closes}

module _ {P : Type 0} (avoids : Bool) where
  abbrev pub Whole : Endpoint P → Type 0
  Whole s = EndHolds avoids s.endpoint_state

  -- ---- INIT

  connects : (tag first : ℕ) (c : Context P) → Beside avoids false c → EndHolds avoids (waiting tag first c)
  connects tag first c h =
      (goes_out avoids false _ c h, started c.now (timer c.options.t1_init_timeout Exponential c.options.max_init_retransmits None) h.options.t1_init)

  pub connect_holds : (st : State) (s : Endpoint P) → StateHolds avoids st s.endpoint_state.context.options s.endpoint_state.context.heartbeats → Whole s → Whole (connect_in st s)
  connect_holds Closed s h k = connects _ _ s.endpoint_state.context h
  connect_holds (CookieWait tag first t1) s h k = k
  connect_holds (Open phase t) s h k = k

  -- what goes out leaves the state
  says : (p : PacketDraft) (s : State) (c : Context P) → StateHolds avoids s c.options c.heartbeats → StateHolds avoids s (emit p c).options (emit p c).heartbeats
  says p Closed c h = goes_out avoids false p c h
  says p (CookieWait tag first t1) c h = (goes_out avoids false p c h.0, h.1)
  says p (Open phase t) c h = (goes_out avoids (is_established phase) p c h.0, h.1)

  pub answers_hold : (i : InitTree) (tag first tie : ℕ) (s : Endpoint P) → Whole s → Whole (answers i tag first tie s)
  answers_hold i tag first tie s h = says _ s.endpoint_state.state s.endpoint_state.context h

  init_open_holds : (phase : Phase) (i : InitTree) (t : Tcb) (s : Endpoint P) → Whole s → Whole (on_init_open phase i t s)
  init_open_holds (CookieEchoed t1 cookie) i t s h = answers_hold i _ _ _ s h
  init_open_holds Established i t s h = says _ s.endpoint_state.state s.endpoint_state.context h
  init_open_holds ShutdownPending i t s h = says _ s.endpoint_state.state s.endpoint_state.context h
  init_open_holds (ShutdownSent t2) i t s h = says _ s.endpoint_state.state s.endpoint_state.context h
  init_open_holds ShutdownReceived i t s h = says _ s.endpoint_state.state s.endpoint_state.context h
  init_open_holds (ShutdownAckSent t2) i t s h = says _ s.endpoint_state.state s.endpoint_state.context h

  pub init_holds : (st : State) (i : InitTree) (s : Endpoint P) → Whole s → Whole (on_init_in st i s)
  init_holds Closed i s h = says _ s.endpoint_state.state s.endpoint_state.context h
  init_holds (CookieWait tag first t1) i s h = answers_hold i tag first 0 s h
  init_holds (Open phase t) i s h = init_open_holds phase i t s h

  -- ---- INIT ACK

  echoes : (i : InitTree) (cookie : List ℕ) (me : Identity) (c : Context P) → Beside avoids false c → EndHolds avoids (echo i cookie me c)
  echoes i cookie me c h =
      let k = agreed_by c.options i in
      let d : Context P = record c { peer = maker cookie; last_tag = me.my_tag; queue = queue_anew k.message_interleaving c.queue } in
      let x = cookie_goes avoids false false cookie (tcb c.options me i.a_rwnd k) d (h, new_block avoids c.options me i.a_rwnd k h.options) in
      (x.0, (started c.now (timer c.options.t1_cookie_timeout Exponential c.options.max_init_retransmits None) h.options.t1_cookie, x.1))

  echoes_or_ends : (i : InitTree) (o : Option (List ℕ)) (tag first : ℕ) (s : Endpoint P) → Beside avoids false s.endpoint_state.context → Whole (echo_or_abort i o tag first s)
  echoes_or_ends i None tag first s h =
      let p : PacketDraft = add (abort_chunk false (missing_mandatory_parameter (7 ∷ []) ∷ [])) (packet_to i.initiate_tag (round_down_to_4 s.endpoint_state.context.options.mtu)) in
      closes avoids false (OnAborted ProtocolViolation (codes "InitAck chunk doesn't contain a cookie")) (emit p s.endpoint_state.context) (goes_out avoids false p s.endpoint_state.context h)
  echoes_or_ends i (Some cookie) tag first s h = echoes i cookie _ s.endpoint_state.context h

  pub init_ack_holds : (st : State) (i : InitTree) (s : Endpoint P) → StateHolds avoids st s.endpoint_state.context.options s.endpoint_state.context.heartbeats → Whole s → Whole (on_init_ack_in st i s)
  init_ack_holds Closed i s h k = k
  init_ack_holds (CookieWait tag first t1) i s h k = echoes_or_ends i (cookie_in i.parameters) tag first s h.0
  init_ack_holds (Open phase t) i s h k = k

  -- ---- COOKIE ACK

  pub enters : (b : Bool) (c : Context P) → Beside avoids b c → Beside avoids true (enter_connected c)
  enters b c h = interval_started avoids b true c.now c.options c.heartbeats h

  pub cookie_ack_holds : (phase : Phase) (t : Tcb) (c : Context P) → Going avoids phase t c → EndHolds avoids (on_cookie_ack phase t c)
  cookie_ack_holds (CookieEchoed t1 cookie) t c h =
      let x = sends_buffered avoids true false false t (enter_connected c) (enters false c h.0, h.1.1) in
      (x.0, (tt, x.1))
  cookie_ack_holds Established t c h = h
  cookie_ack_holds ShutdownPending t c h = h
  cookie_ack_holds (ShutdownSent t2) t c h = h
  cookie_ack_holds ShutdownReceived t c h = h
  cookie_ack_holds (ShutdownAckSent t2) t c h = h

  -- ---- COOKIE ECHO

  acked : (beats waiting : Bool) (tag : ℕ) (t : Tcb) (c : Context P) → Holds avoids beats waiting t c → Left avoids beats waiting (cookie_ack tag t c)
  acked beats waiting tag t c h =
      sends_with avoids beats waiting false (add cookie_ack_chunk (record (packet_to tag c.options.mtu) { is_summed = not (zero_checksum_enabled t.capabilities) })) t c h

  opens : (b resets : Bool) (k : Cookie) (tie : ℕ) (c : Context P) → Beside avoids b c → EndHolds avoids (anew resets k tie c)
  opens b resets k tie c h =
      let d : Context P = record c { queue = queue_for resets (negotiate c.options k.peer_capabilities).message_interleaving c.queue; last_tag = k.my_tag } in
      let n = new_block avoids c.options (identity_of k tie) (min k.a_rwnd c.options.max_send_buffer_size) (negotiate c.options k.peer_capabilities) h.options in
      let x = acked true false k.peer_tag (tcb_by c.options k tie) (enter_connected d) (enters b d h, n) in
      (x.0, (tt, x.1))

  pub beside_in : (s : State) (c : Context P) → StateHolds avoids s c.options c.heartbeats → Beside avoids false c
  beside_in Closed c h = h
  beside_in (CookieWait tag first t1) c h = h.0
  beside_in (Open phase t) c h = quieter avoids (is_established phase) c.options c.heartbeats h.0

  maintains : (k : Cookie) (phase : Phase) (t : Tcb) (c : Context P) → Going avoids phase t c → EndHolds avoids (maintain_existing k phase t c)
  maintains k (CookieEchoed t1 cookie) t c h =
      let x = acked true false k.peer_tag t (enter_connected c) (enters false c h.0, h.1.1) in
      (x.0, (tt, x.1))
  maintains k Established t c h = let x = acked true false k.peer_tag t c (h.0, h.1.1) in (x.0, (tt, x.1))
  maintains k ShutdownPending t c h = let x = acked false (not avoids) k.peer_tag t c (h.0, h.1.1) in (x.0, (tt, x.1))
  maintains k (ShutdownSent t2) t c h = let x = acked false false k.peer_tag t c (h.0, h.1.1) in (x.0, (h.1.0, x.1))
  maintains k ShutdownReceived t c h = let x = acked false (not avoids) k.peer_tag t c (h.0, h.1.1) in (x.0, (tt, x.1))
  maintains k (ShutdownAckSent t2) t c h = let x = acked false false k.peer_tag t c (h.0, h.1.1) in (x.0, (h.1.0, x.1))

  maintains_in : (k : Cookie) (s : State) (c : Context P) → StateHolds avoids s c.options c.heartbeats → EndHolds avoids (maintain_existing_in k (record { state = s; context = c }))
  maintains_in k Closed c h = h
  maintains_in k (CookieWait tag first t1) c h = h
  maintains_in k (Open phase t) c h = maintains k phase t c h

  restarts_hold : (phase : Phase) (t : Tcb) (k : Cookie) (s : Endpoint P) → Beside avoids false s.endpoint_state.context → Whole s → Whole (restarts_in phase t k s)
  restarts_hold (CookieEchoed t1 cookie) t k s b h = opens false true k _ (restarted s.endpoint_state.context) b
  restarts_hold Established t k s b h = opens false true k _ (restarted s.endpoint_state.context) b
  restarts_hold ShutdownPending t k s b h = opens false true k _ (restarted s.endpoint_state.context) b
  restarts_hold (ShutdownSent t2) t k s b h = opens false true k _ (restarted s.endpoint_state.context) b
  restarts_hold ShutdownReceived t k s b h = opens false true k _ (restarted s.endpoint_state.context) b
  restarts_hold (ShutdownAckSent t2) t k s b h = says _ s.endpoint_state.state s.endpoint_state.context h

  restart_by : (st : State) (k : Cookie) (s : Endpoint P) → Beside avoids false s.endpoint_state.context → Whole s
      → Whole (elim st [ Closed ↦ s | CookieWait tag first t1 ↦ s | Open phase t ↦ restarts_in phase t k s ])
  restart_by Closed k s b h = h
  restart_by (CookieWait tag first t1) k s b h = h
  restart_by (Open phase t) k s b h = restarts_hold phase t k s b h

  resolved : (r : CookieResolution) (k : Cookie) (s : Endpoint P) → Beside avoids false s.endpoint_state.context → Whole s → Whole (on_resolution r k s)
  resolved EstablishNew k s b h = opens false s.endpoint_state.context.options.avoid_stalls k _ s.endpoint_state.context b
  resolved RestartDetected k s b h = restart_by s.endpoint_state.state k s b h
  resolved SimultaneousInit k s b h = opens false true k _ s.endpoint_state.context b
  resolved MaintainExisting k s b h = maintains_in k s.endpoint_state.state s.endpoint_state.context h
  resolved Discard k s b h = h
  resolved InvalidTag k s b h = h

  cookie_unless_holds : (b : Bool) (tag : ℕ) (k : Cookie) (s : Endpoint P) → Whole s → Whole (on_cookie_unless b tag k s)
  cookie_unless_holds true tag k s h = says _ s.endpoint_state.state s.endpoint_state.context h
  cookie_unless_holds false tag k s h =
      resolved (resolve_cookie s.endpoint_state.context.options.avoid_stalls tag k s.endpoint_state.state) k s (beside_in s.endpoint_state.state s.endpoint_state.context h) h

  read_cookie_holds : (tag : ℕ) (r : Result Cookie StateCookieError) (s : Endpoint P) → Whole s → Whole (on_read_cookie tag r s)
  read_cookie_holds tag (Ok k) s h = cookie_unless_holds (is_spent_at k s.endpoint_state) tag k s h
  read_cookie_holds tag (Err fault) s h = h

  pub cookie_echo_holds : (tag : ℕ) (cookie : List ℕ) (s : Endpoint P) → Whole s → Whole (on_cookie_echo tag cookie s)
  cookie_echo_holds tag cookie s h = read_cookie_holds tag (read_cookie cookie) s h
