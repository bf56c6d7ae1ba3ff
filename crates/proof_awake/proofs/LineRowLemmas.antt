-- Rows leave no stream in line where no item is kept: those that send, and those that change neither line nor items.
use Rattle.std.proofs.Common.{ℕ, zero, suc, ◌≤◌, Bool, true, false, Option, List, [], ◌∷◌, length, arith, None, subst, sym}
use Rattle.std.specs.Prelude.{◌==◌, nat_lt, nat_le, is_some}
use Rattle.sctp_packet.specs.Chunk.{ChunkTree, FragmentTree, SackTree, abort_chunk, shutdown_complete_chunk, cookie_echo_chunk}
use Rattle.sctp_chunk.specs.declared.forward_tsn.SkippedStream.{SkippedStream}
use Rattle.sctp_chunk.specs.declared.sack.GapAckBlock.{GapAckBlock}
use Rattle.sctp_wire.specs.Cause.{CauseTree}
use Rattle.sctp_state.specs.Events.{Event, OnClosed}
use Rattle.sctp_rx.specs.DataTracker.{is_ack_due}
use Rattle.sctp_tx_outstanding.specs.OutstandingData.{fast_items, number_of}
use Rattle.sctp_tx_outstanding.specs.Forward.{is_forward_due}
use Rattle.sctp_tx_outstanding.specs.Sack as sack
use Rattle.sctp_tx_queue.specs.Resets.{streams_to_request, request_resets}
use Rattle.sctp_tx.specs.RetransmissionQueue.{Sender, sender_if, emitted_if, answer_if, Valid, nothing_in_flight}
use Rattle.sctp_tx.specs.ForwardPoints.{forward_chunk}
use Rattle.spec_endpoint.specs.Association.{Tcb, Phase, CookieEchoed, Established, ShutdownPending, ShutdownSent, ShutdownReceived, ShutdownAckSent, State, Closed, CookieWait, Open, Context, EndpointState, where_open}
use Rattle.spec_endpoint.specs.Packets.{PacketDraft, round_down_to_4, fits, add, packet_to, new_packet, has_chunks, emit_if, emit, emit_chunk}
use Rattle.spec_endpoint.specs.Sending.{Filling, take_due_ack, ack_if, has_data_to_send, with_ack, forward_added_if, forward_if, with_expired_abandoned, forward_if_time, with_forward, most_streams, request_of, request_unless, filled_as, BurstStep, burst_step_if, next_packet, continue_burst, burst, AfterSending, is_before_cookie_ack, open_with, send_with, send_buffered, cookie_if, send_cookie, fast_packet, fast_if, send_lost, cookie_packet_if, answer_packet}
use Rattle.spec_endpoint.specs.Shutdown.{close_with, PhaseStep, pending_next, received_next, maybe_send_shutdown_or_ack, shutdown_in_phase, shutdown_in, shut_by_peer, on_shutdown, on_shutdown_ack_open, on_shutdown_ack_in, on_shutdown_complete, abort, close_in, is_quiet}
use Rattle.spec_endpoint.specs.Data.{fragment_if, accepts_fragment, handle_forward_tsn_if, accepts_point, on_no_data, on_data_in, on_data_if, on_data, on_forward, has_room, told_of_drop}
use Rattle.spec_endpoint.specs.Sack.{clean_blocks, sample_rtt, clear_errors_if, send_after_sack, after_sack, on_sack_in, is_late, sampled_unless}
use Rattle.proof_awake.specs.Invariant.{BlockHolds, is_established, waits, WindowsHaveRoom}
use Rattle.proof_awake.specs.Line.{StateHasNoLine}
use Rattle.proof_awake.proofs.SenderLemmas.{sack_holds}
use Rattle.proof_awake.proofs.BlockLemmas.{with_sender, sampled_holds}
use Rattle.proof_awake.proofs.SendingRowLemmas.{lost_goes}
use Rattle.proof_awake.proofs.RowLemmas.{Going, EndHolds, Steps, shutdown_goes_on}
use Rattle.proof_awake.proofs.LineLemmas.{none_in_line, limit_added}
use Rattle.sctp_state.specs.Options.{Options}

-- a packet in which something is answered is long enough
cookie_limit : (b : Bool) (cookie : List ℕ) (o : Options) (t : Tcb) → 44 ≤ round_down_to_4 o.mtu → 44 ≤ o.mtu → 44 ≤ (cookie_packet_if b cookie o t).limit
cookie_limit true cookie o t l m = subst (λ (n : ℕ). 44 ≤ n) (sym (limit_added (cookie_echo_chunk cookie) (packet_to t.identity.peer_tag o.mtu))) m
cookie_limit false cookie o t l m = l

pub answer_limit : (phase : Phase) (o : Options) (t : Tcb) → 256 ≤ o.mtu → 44 ≤ (answer_packet phase o t).limit
answer_limit (CookieEchoed t1 cookie) o t m = let k : 44 ≤ o.mtu = omega (arith, m) in cookie_limit o.avoid_stalls cookie o t (omega (arith, m)) k
answer_limit Established o t m = omega (arith, m)
answer_limit ShutdownPending o t m = omega (arith, m)
answer_limit (ShutdownSent t2) o t m = omega (arith, m)
answer_limit ShutdownReceived o t m = omega (arith, m)
answer_limit (ShutdownAckSent t2) o t m = omega (arith, m)

module _ {P : Type 0} (avoids : Bool) where
  -- bursts are of two packets or more
  abbrev pub Big : Context P → Type 0
  Big c = 2 ≤ c.options.max_burst

  abbrev pub Lined : State → Context P → Type 0
  Lined s c = Big c × StateHasNoLine s c.queue

  abbrev pub EndLined : EndpointState P → Type 0
  EndLined s = Lined s.state s.context

  pub big_out : (b : Bool) (p : PacketDraft) (c : Context P) → Big c → Big (emit_if b p c)
  big_out true p c h = h
  big_out false p c h = h

  pub big_emitted : (p : PacketDraft) (c : Context P) → Big c → Big (emit p c)
  big_emitted p c h = big_out (has_chunks p) p c h

  pub big_chunk : (chunk : ChunkTree) (t : Tcb) (c : Context P) → Big c → Big (emit_chunk chunk t c)
  big_chunk chunk t c h = big_emitted (add chunk (new_packet c.options t)) c h

  out_if : (b : Bool) (p : PacketDraft) (s : State) (c : Context P) → Lined s c → Lined s (emit_if b p c)
  out_if true p s c h = h
  out_if false p s c h = h

  pub out_lined : (p : PacketDraft) (s : State) (c : Context P) → Lined s c → Lined s (emit p c)
  out_lined p s c h = out_if (has_chunks p) p s c h

  pub chunk_lined : (chunk : ChunkTree) (t : Tcb) (s : State) (c : Context P) → Lined s c → Lined s (emit_chunk chunk t c)
  chunk_lined chunk t s c h = out_lined (add chunk (new_packet c.options t)) s c h

  -- ---- bursts stay as large

  big_ack : (b : Bool) (x : Filling P) → Big x.context → Big (ack_if b x).context
  big_ack true x h = h
  big_ack false x h = h

  big_added : (b : Bool) (x : Filling P) → Big x.context → Big (forward_added_if b x).context
  big_added true x h = h
  big_added false x h = h

  big_due : (b : Bool) (x : Filling P) → Big x.context → Big (forward_if b x).context
  big_due true x h = big_added (fits x.packet (forward_chunk x.tcb.sender)) x h
  big_due false x h = h

  big_time : (b : Bool) (x : Filling P) → Big x.context → Big (forward_if_time b x).context
  big_time true x h = let y : Filling P = with_expired_abandoned x in big_due (is_forward_due y.tcb.sender.outstanding.items) y h
  big_time false x h = h

  big_of : (ids : List ℕ) (x : Filling P) → Big x.context → Big (request_of ids x).context
  big_of [] x h = h
  big_of (id ∷ ids) x h = h

  big_request : (b : Bool) (x : Filling P) → Big x.context → Big (request_unless b x).context
  big_request true x h = h
  big_request false x h =
      let most : ℕ = most_streams x.packet in
      big_of (streams_to_request most x.context.queue) (record x { context = record x.context { queue = request_resets most x.context.queue } }) h

  big_filled : (is_first : Bool) (x : Filling P) → Big x.context → Big (filled_as is_first x).context
  big_filled true x h =
      let y : Filling P = with_ack x in
      let z : Filling P = with_forward y in
      big_request (is_some z.tcb.requests.current) z
      (big_time (nat_le y.context.forward_from y.context.now) y
      (big_ack (is_ack_due (has_data_to_send x) x.tcb.tracker.tracker.ack) (record x { tcb = take_due_ack (has_data_to_send x) x.tcb }) h))
  big_filled false x h = h

  big_step : (b alone : Bool) (x : Filling P) → Big x.context → Big (burst_step_if b alone x).filling.context
  big_step true alone x h = big_emitted x.packet x.context h
  big_step false alone x h = h

  big_on : (rest : Filling P → Filling P) (b : Bool) (x : Filling P) → ((y : Filling P) → Big y.context → Big (rest y).context) → Big x.context
      → Big (continue_burst rest (record { filling = x; is_more = b })).context
  big_on rest true x f h = f x h
  big_on rest false x f h = h

  big_burst : (most : ℕ) (is_first alone : Bool) (x : Filling P) → Big x.context → Big (burst most is_first alone x).context
  big_burst zero is_first alone x h = h
  big_burst (suc most) is_first alone x h =
      let y : Filling P = filled_as is_first x in
      let t : BurstStep P = next_packet is_first alone x in
      big_on (burst most false alone) t.is_more t.filling (big_burst most false alone) (big_step (has_chunks y.packet) alone y (big_filled is_first x h))

  pub big_sent : (alone : Bool) (p : PacketDraft) (t : Tcb) (c : Context P) → Big c → Big (send_with alone p t c).context
  big_sent alone p t c h = big_burst c.options.max_burst true alone (record { packet = p; tcb = t; context = c }) h

  big_cookie_if : (b : Bool) (cookie : List ℕ) (t : Tcb) (c : Context P) → Big c → Big (cookie_if b cookie t c).context
  big_cookie_if true cookie t c h = big_sent true (add (cookie_echo_chunk cookie) (packet_to t.identity.peer_tag c.options.mtu)) t c h
  big_cookie_if false cookie t c h = h

  pub big_cookie : (cookie : List ℕ) (t : Tcb) (c : Context P) → Big c → Big (send_cookie cookie t c).context
  big_cookie cookie t c h = big_cookie_if (fits (packet_to t.identity.peer_tag c.options.mtu) (cookie_echo_chunk cookie)) cookie t c h

  big_fast : (b : Bool) (t : Tcb) (c : Context P) → Big c → Big (fast_if b t c).context
  big_fast true t c h = big_emitted (fast_packet c.options t) c h
  big_fast false t c h = h

  -- ---- a sending

  no_line_by : (phase : Phase) (p : PacketDraft) (t : Tcb) (c : Context P) → Big c → 44 ≤ p.limit → WindowsHaveRoom t.sender.windows
      → let x : AfterSending P = send_with (is_before_cookie_ack phase) p t c in StateHasNoLine (Open phase x.tcb) x.context.queue
  no_line_by (CookieEchoed t1 cookie) p t c b l w = tt
  no_line_by Established p t c b l w = none_in_line p t c b l w
  no_line_by ShutdownPending p t c b l w = tt
  no_line_by (ShutdownSent t2) p t c b l w = tt
  no_line_by ShutdownReceived p t c b l w = tt
  no_line_by (ShutdownAckSent t2) p t c b l w = tt

  pub sent_lined : (phase : Phase) (p : PacketDraft) (t : Tcb) (c : Context P) → Big c → 44 ≤ p.limit → WindowsHaveRoom t.sender.windows
      → EndLined (open_with phase (send_with (is_before_cookie_ack phase) p t c))
  sent_lined phase p t c b l w = (big_sent (is_before_cookie_ack phase) p t c b, no_line_by phase p t c b l w)

  pub buffered_lined : (phase : Phase) (t : Tcb) (c : Context P) → Big c → Going avoids phase t c → EndLined (open_with phase (send_buffered (is_before_cookie_ack phase) t c))
  buffered_lined phase t c b h =
      let m = h.0.options.mtu_least in
      let l : 44 ≤ round_down_to_4 c.options.mtu = omega (arith, m) in
      sent_lined phase (new_packet c.options t) t c b l h.1.1.sender.windows

  pub open_lined : (row : Phase → Tcb → Context P → EndpointState P)
      → ((phase : Phase) (t : Tcb) (c : Context P) → Going avoids phase t c → Lined (Open phase t) c → EndLined (row phase t c))
      → (s : EndpointState P) → EndHolds avoids s → EndLined s → EndLined (where_open row s)
  open_lined row f s h l = by s.state s.context h l
    where
      by : (st : State) (c : Context P) → EndHolds avoids (record { state = st; context = c }) → Lined st c → EndLined (where_open row (record { state = st; context = c }))
      by Closed c h l = l
      by (CookieWait tag first t1) c h l = l
      by (Open phase t) c h l = f phase t c h l

  -- ---- endings and shutdown

  pub closes_lined : (e : Event P) (c : Context P) → Big c → EndLined (close_with e c)
  closes_lined e c b = (b, tt)

  pub abort_lined : (cause : CauseTree) (e : Event P) (t : Tcb) (c : Context P) → Big c → EndLined (abort cause e t c)
  abort_lined cause e t c b =
      let chunk : ChunkTree = abort_chunk false (cause ∷ []) in
      closes_lined e (emit_chunk chunk t c) (big_chunk chunk t c b)

  abbrev pub StepLined : Tcb → PhaseStep P → Type 0
  StepLined t o = Lined (Open o.phase t) o.context

  pending_lined : (b : Bool) (t : Tcb) (c : Context P) → Big c → StepLined t (pending_next b t c)
  pending_lined true t c h = (big_chunk _ t c h, tt)
  pending_lined false t c h = (h, tt)

  received_lined : (b : Bool) (t : Tcb) (c : Context P) → Big c → StepLined t (received_next b t c)
  received_lined true t c h = (big_chunk _ t c h, tt)
  received_lined false t c h = (h, tt)

  -- what goes on is as large
  big_goes_on : (phase : Phase) (t : Tcb) (c : Context P) → Big c → Big (maybe_send_shutdown_or_ack phase t c).context
  big_goes_on (CookieEchoed t1 cookie) t c b = b
  big_goes_on Established t c b = b
  big_goes_on ShutdownPending t c b = (pending_lined (is_quiet t c) t c b).0
  big_goes_on (ShutdownSent t2) t c b = b
  big_goes_on ShutdownReceived t c b = (received_lined (is_quiet t c) t c b).0
  big_goes_on (ShutdownAckSent t2) t c b = b

  -- what waits has no line to keep
  pub goes_on_lined : (phase : Phase) (t : Tcb) (c : Context P) → Lined (Open phase t) c → StepLined t (maybe_send_shutdown_or_ack phase t c)
  goes_on_lined (CookieEchoed t1 cookie) t c l = l
  goes_on_lined Established t c l = l
  goes_on_lined ShutdownPending t c l = pending_lined (is_quiet t c) t c l.0
  goes_on_lined (ShutdownSent t2) t c l = l
  goes_on_lined ShutdownReceived t c l = received_lined (is_quiet t c) t c l.0
  goes_on_lined (ShutdownAckSent t2) t c l = l

  shuts_lined : (phase : Phase) (t : Tcb) (c : Context P) → Lined (Open phase t) c → StepLined t (shutdown_in_phase phase t c)
  shuts_lined (CookieEchoed t1 cookie) t c l = pending_lined (nothing_in_flight t.sender.outstanding.items) t c l.0
  shuts_lined Established t c l = pending_lined (is_quiet t c) t c l.0
  shuts_lined ShutdownPending t c l = l
  shuts_lined (ShutdownSent t2) t c l = l
  shuts_lined ShutdownReceived t c l = l
  shuts_lined (ShutdownAckSent t2) t c l = l

  pub shutdown_lined : (s : State) (c : Context P) → Lined s c → EndLined (shutdown_in s c)
  shutdown_lined Closed c l = l
  shutdown_lined (CookieWait tag first t1) c l = (l.0, tt)
  shutdown_lined (Open phase t) c l = shuts_lined phase t c l

  shut_lined : (phase : Phase) (t : Tcb) (c : Context P) → Lined (Open phase t) c → StepLined t (shut_by_peer phase t c)
  shut_lined (CookieEchoed t1 cookie) t c l = l
  shut_lined Established t c l = received_lined (is_quiet t c) t c l.0
  shut_lined ShutdownPending t c l = received_lined (is_quiet t c) t c l.0
  shut_lined (ShutdownSent t2) t c l = (big_chunk _ t c l.0, tt)
  shut_lined ShutdownReceived t c l = l
  shut_lined (ShutdownAckSent t2) t c l = (big_chunk _ t c l.0, tt)

  pub on_shutdown_lined : (phase : Phase) (t : Tcb) (c : Context P) → Going avoids phase t c → Lined (Open phase t) c → EndLined (on_shutdown phase t c)
  on_shutdown_lined phase t c h l = shut_lined phase t c l

  ack_open_lined : (tag : ℕ) (phase : Phase) (t : Tcb) (c : Context P) → Lined (Open phase t) c → EndLined (on_shutdown_ack_open tag phase t c)
  ack_open_lined tag (CookieEchoed t1 cookie) t c l = out_lined (add (shutdown_complete_chunk true) (packet_to tag c.options.mtu)) (Open (CookieEchoed t1 cookie) t) c l
  ack_open_lined tag Established t c l = out_lined (add (shutdown_complete_chunk true) (packet_to tag c.options.mtu)) (Open Established t) c l
  ack_open_lined tag ShutdownPending t c l = out_lined (add (shutdown_complete_chunk true) (packet_to tag c.options.mtu)) (Open ShutdownPending t) c l
  ack_open_lined tag (ShutdownSent t2) t c l = (big_chunk (shutdown_complete_chunk false) t c l.0, tt)
  ack_open_lined tag ShutdownReceived t c l = out_lined (add (shutdown_complete_chunk true) (packet_to tag c.options.mtu)) (Open ShutdownReceived t) c l
  ack_open_lined tag (ShutdownAckSent t2) t c l = (big_chunk (shutdown_complete_chunk false) t c l.0, tt)

  pub on_shutdown_ack_lined : (tag : ℕ) (s : State) (c : Context P) → Lined s c → EndLined (on_shutdown_ack_in tag s c)
  on_shutdown_ack_lined tag Closed c l = out_lined (add (shutdown_complete_chunk true) (packet_to tag c.options.mtu)) Closed c l
  on_shutdown_ack_lined tag (CookieWait my_tag first t1) c l = out_lined (add (shutdown_complete_chunk true) (packet_to tag c.options.mtu)) (CookieWait my_tag first t1) c l
  on_shutdown_ack_lined tag (Open phase t) c l = ack_open_lined tag phase t c l

  pub on_complete_lined : (phase : Phase) (t : Tcb) (c : Context P) → Going avoids phase t c → Lined (Open phase t) c → EndLined (on_shutdown_complete phase t c)
  on_complete_lined (CookieEchoed t1 cookie) t c h l = l
  on_complete_lined Established t c h l = l
  on_complete_lined ShutdownPending t c h l = l
  on_complete_lined (ShutdownSent t2) t c h l = l
  on_complete_lined ShutdownReceived t c h l = l
  on_complete_lined (ShutdownAckSent t2) t c h l = (l.0, tt)

  pub close_lined : (s : State) (c : Context P) → Lined s c → EndLined (close_in s c)
  close_lined Closed c l = l
  close_lined (CookieWait tag first t1) c l = (l.0, tt)
  close_lined (Open phase t) c l = abort_lined _ OnClosed t c l.0

  -- ---- data

  taken_lined : (b : Bool) (phase : Phase) (tsn : ℕ) (immediate : Bool) (f : FragmentTree) (t : Tcb) (c : Context P) → Lined (Open phase t) c → Lined (Open phase (fragment_if b tsn immediate f t)) c
  taken_lined true phase tsn immediate f t c l = l
  taken_lined false phase tsn immediate f t c l = l

  told_lined : (avoids room : Bool) (phase : Phase) (t : Tcb) (c : Context P) → Lined (Open phase t) c → Lined (Open phase (told_of_drop avoids room t)) c
  told_lined true true phase t c l = l
  told_lined true false phase t c l = l
  told_lined false room phase t c l = l

  data_in_lined : (s : State) (tsn : ℕ) (immediate : Bool) (f : FragmentTree) (c : Context P) → Lined s c → EndLined (on_data_in s tsn immediate f c)
  data_in_lined Closed tsn immediate f c l = l
  data_in_lined (CookieWait tag first t1) tsn immediate f c l = l
  data_in_lined (Open phase t) tsn immediate f c l =
      let room : Bool = has_room c.options tsn t in
      taken_lined (accepts_fragment c.options tsn f t) phase tsn immediate f (told_of_drop c.options.avoid_stalls room t) c (told_lined c.options.avoid_stalls room phase t c l)

  no_data_lined : (tsn : ℕ) (s : State) (c : Context P) → Lined s c → Lined s (on_no_data tsn s c)
  no_data_lined tsn Closed c l = l
  no_data_lined tsn (CookieWait tag first t1) c l = l
  no_data_lined tsn (Open phase t) c l = chunk_lined _ t (Open phase t) _ l

  data_if_lined : (b : Bool) (tsn : ℕ) (immediate : Bool) (f : FragmentTree) (s : EndpointState P) → EndLined s → EndLined (on_data_if b tsn immediate f s)
  data_if_lined true tsn immediate f s l = no_data_lined tsn s.state s.context l
  data_if_lined false tsn immediate f s l = data_in_lined s.state tsn immediate f s.context l

  pub on_data_lined : (tsn : ℕ) (immediate : Bool) (f : FragmentTree) (s : EndpointState P) → EndLined s → EndLined (on_data tsn immediate f s)
  on_data_lined tsn immediate f s l = data_if_lined (length f.payload == 0) tsn immediate f s l

  passed_lined : (b : Bool) (phase : Phase) (tsn : ℕ) (skipped : List SkippedStream) (t : Tcb) (c : Context P) → Lined (Open phase t) c → Lined (Open phase (handle_forward_tsn_if b tsn skipped t)) c
  passed_lined true phase tsn skipped t c l = l
  passed_lined false phase tsn skipped t c l = l

  forward_in_lined : (tsn : ℕ) (skipped : List SkippedStream) (s : State) (c : Context P) → Lined s c → EndLined (on_forward tsn skipped (record { state = s; context = c }))
  forward_in_lined tsn skipped Closed c l = l
  forward_in_lined tsn skipped (CookieWait tag first t1) c l = l
  forward_in_lined tsn skipped (Open phase t) c l = passed_lined (accepts_point tsn skipped t) phase tsn skipped t c l

  pub on_forward_lined : (tsn : ℕ) (skipped : List SkippedStream) (s : EndpointState P) → EndLined s → EndLined (on_forward tsn skipped s)
  on_forward_lined tsn skipped s l = forward_in_lined tsn skipped s.state s.context l

  -- ---- SACK

  after_lined : (t : Tcb) (o : PhaseStep P) → Steps avoids t o → Big o.context → EndLined (send_after_sack t o)
  after_lined t o h b =
      let x : AfterSending P = send_lost t o.context in
      let k = lost_goes avoids (is_established o.phase) (waits avoids o.phase) t o.context (h.0, h.1.1) in
      sent_lined o.phase (answer_packet o.phase x.context.options x.tcb) x.tcb x.context (big_fast (nat_lt 0 (fast_items t.sender.outstanding.items)) t o.context b)
      (answer_limit o.phase x.context.options x.tcb k.0.options.mtu_least) k.1.sender.windows

  answered_lined : (rtt : Option ℕ) (n a_rwnd : ℕ) (blocks : List GapAckBlock) (phase : Phase) (t : Tcb) (c : Context P) → Going avoids phase t c → Lined (Open phase t) c → EndLined (after_sack
      (Valid rtt (nat_lt 0 (sack.acked_bytes n blocks t.sender.outstanding.items))) phase (record t { sender = sender_if true c.now n a_rwnd blocks t.sender c.emitted })
      (record c { emitted = emitted_if true n blocks t.sender c.emitted }))
  answered_lined rtt n a_rwnd blocks phase t c h l =
      let s : Sender = sender_if true c.now n a_rwnd blocks t.sender c.emitted in
      let u : Tcb = record t { sender = s } in
      let progress : Bool = nat_lt 0 (sack.acked_bytes n blocks t.sender.outstanding.items) in
      let d : Context P = clear_errors_if progress (record c { emitted = emitted_if true n blocks t.sender c.emitted }) in
      let k : BlockHolds false u = with_sender (waits avoids phase) false t s (sack_holds c.now n a_rwnd blocks t.sender c.emitted (waits avoids phase) true h.1.1.sender) h.1.1 in
      after_lined (sample_rtt rtt u) (maybe_send_shutdown_or_ack phase (sample_rtt rtt u) d) (shutdown_goes_on avoids phase (sample_rtt rtt u) d h.0 h.1.0 (sampled_holds false rtt u k))
      (big_goes_on phase (sample_rtt rtt u) d l.0)

  clean_lined : (late valid : Bool) (n a_rwnd : ℕ) (blocks : List GapAckBlock) (phase : Phase) (t : Tcb) (c : Context P) → Going avoids phase t c → Lined (Open phase t) c → EndLined (after_sack
      (sampled_unless late (answer_if valid c.now n blocks t.sender)) phase (record t { sender = sender_if valid c.now n a_rwnd blocks t.sender c.emitted }) (record c { emitted = emitted_if valid n blocks t.sender c.emitted }))
  clean_lined true true n a_rwnd blocks phase t c h l = answered_lined None n a_rwnd blocks phase t c h l
  clean_lined false true n a_rwnd blocks phase t c h l = answered_lined (sack.sample c.now n t.sender.outstanding.items) n a_rwnd blocks phase t c h l
  clean_lined true false n a_rwnd blocks phase t c h l = l
  clean_lined false false n a_rwnd blocks phase t c h l = l

  pub on_sack_lined : (k : SackTree) (s : State) (c : Context P) → EndHolds avoids (record { state = s; context = c }) → Lined s c → EndLined (on_sack_in s k c)
  on_sack_lined k Closed c h l = l
  on_sack_lined k (CookieWait tag first t1) c h l = l
  on_sack_lined k (Open phase t) c h l = clean_lined (is_late c.options (number_of t.sender.outstanding k.cumulative_tsn_ack) t.sender.outstanding.items) (sack.is_valid _ (clean_blocks k.gap_ack_blocks) t.sender.outstanding.items) _ k.a_rwnd (clean_blocks k.gap_ack_blocks) phase t c h l
