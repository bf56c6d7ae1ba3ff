-- Rows that an end goes through with a control block: its timers run after each where they ran before.
use Rattle.std.proofs.Common.{not, ◌≡◌, ℕ, Bool, true, false, Option, None, List, [], ◌∷◌, length, refl, arith, ◌&&◌, ◌==◌, sym, ap, ◌∙◌}
use Rattle.std.specs.Prelude.{◌==◌, nat_lt}
use Rattle.sctp_packet.specs.Chunk.{ChunkTree, FragmentTree, SackTree, abort_chunk, shutdown_complete_chunk}
use Rattle.sctp_wire.specs.Cause.{CauseTree}
use Rattle.sctp_chunk.specs.declared.forward_tsn.SkippedStream.{SkippedStream}
use Rattle.sctp_chunk.specs.declared.sack.GapAckBlock.{GapAckBlock}
use Rattle.sctp_state.specs.Events.{Event, OnClosed}
use Rattle.sctp_state.specs.RetransmissionTimeout.{rto}
use Rattle.sctp_state.specs.declared.timer.BackoffAlgorithm.TheVariants.{Exponential}
use Rattle.sctp_state.specs.Timer.{Timer, timer, start, set_duration}
use Rattle.sctp_rx.specs.DataTracker.{Tracker, number_of}
use Rattle.sctp_reassembly.specs.ReassemblyQueue.{Reassembly}
use Rattle.sctp_tx_outstanding.specs.Sack as sack
use Rattle.sctp_tx.specs.RetransmissionQueue.{Sender, nothing_in_flight, answer_if, sender_if, emitted_if, Valid}
use Rattle.spec_endpoint.specs.Association.{Tcb, Phase, CookieEchoed, Established, ShutdownPending, ShutdownSent, ShutdownReceived, ShutdownAckSent, State, Closed, CookieWait, Open, Context, EndpointState, where_open}
use Rattle.spec_endpoint.specs.Packets.{add, packet_to, emit_chunk}
use Rattle.spec_endpoint.specs.Sending.{AfterSending, is_before_cookie_ack, open_with, send_lost, send_unless, send_in, force_ack, answer_packet}
use Rattle.spec_endpoint.specs.Shutdown.{close_with, PhaseStep, pending_next, received_next, maybe_send_shutdown_or_ack, shutdown_in_phase, shutdown_in, shut_by_peer, on_shutdown, on_shutdown_ack_open, on_shutdown_ack_in, on_shutdown_complete, abort, close_in, is_quiet_if, is_quiet}
use Rattle.spec_endpoint.specs.Data.{fragment_if, accepts_fragment, handle_forward_tsn_if, accepts_point, on_no_data, on_data_in, on_data_if, on_data, on_forward, has_room, told_of_drop}
use Rattle.spec_endpoint.specs.Sack.{clean_blocks, sample_rtt, clear_errors_if, send_after_sack, after_sack, on_sack_in, is_late, sampled_unless}
use Rattle.sctp_rx.specs.declared.data_tracker.AckState.TheVariants.{Immediate}
use Rattle.sctp_rx.specs.DataTracker.{acking}
use Rattle.sctp_tx_outstanding.specs.OutstandingData.{number_of as item_number_of}
use Rattle.sctp_tx_queue.specs.SendQueue.{is_empty}
use Rattle.proof_awake.specs.Awake.{Runs}
use Rattle.proof_awake.specs.Invariant.{TrackerHolds, BlockHolds, is_established, waits, PhaseRuns, OpenHolds, StateHolds}
use Rattle.proof_awake.proofs.TimerLemmas.{started}
use Rattle.proof_awake.proofs.ItemsLemmas.{some_flight}
use Rattle.proof_awake.proofs.SenderLemmas.{sack_holds}
use Rattle.proof_awake.proofs.BlockLemmas.{rto_least, observed_holds, forward_holds, with_sender, sampled_holds, with_tracker}
use Rattle.proof_awake.proofs.SendingRowLemmas.{quieter, Beside, goes_out, chunk_goes_out, sends_buffered, lost_goes, sends_with}

-- ---- states

pub emptier : (b : Bool) (t : Tcb) → BlockHolds b t → BlockHolds false t
emptier b t h = record {
  sender = record { lasts = h.sender.lasts; timed = h.sender.timed; some = tt; windows = h.sender.windows };
  requests = h.requests;
  tracker = h.tracker;
  rtt = h.rtt;
}

still_flies : (t : Tcb) → nothing_in_flight t.sender.outstanding.items ≡ false → BlockHolds false t → BlockHolds true t
still_flies t e h = record {
  sender = record { lasts = h.sender.lasts; timed = h.sender.timed; some = some_flight t.sender.outstanding.items e; windows = h.sender.windows };
  requests = h.requests;
  tracker = h.tracker;
  rtt = h.rtt;
}

-- without stalls avoided a shutdown waits for what is in flight
quiet_by : (b at_rest : Bool) (t : Tcb) → is_quiet_if b at_rest (nothing_in_flight t.sender.outstanding.items) ≡ false → BlockHolds false t → BlockHolds (not b) t
quiet_by true at_rest t e k = k
quiet_by false at_rest t e k = still_flies t e k

-- before the COOKIE ACK it does in any case
flies_by : (b : Bool) (t : Tcb) → nothing_in_flight t.sender.outstanding.items ≡ false → BlockHolds false t → BlockHolds (not b) t
flies_by true t e k = k
flies_by false t e k = still_flies t e k

pub t2_runs : (now : ℕ) (most : Option ℕ) (t : Tcb) → BlockHolds false t → Runs (start now (timer (rto t.rtt) Exponential most None))
t2_runs now most t h = let l = rto_least t.rtt h.rtt in started now (timer (rto t.rtt) Exponential most None) (omega (arith, l))

pub t2_runs_again : (now : ℕ) (t2 : Timer) (t : Tcb) → BlockHolds false t → Runs (start now (set_duration (rto t.rtt) t2))
t2_runs_again now t2 t h = let l = rto_least t.rtt h.rtt in started now (set_duration (rto t.rtt) t2) (omega (arith, l))

-- ---- what is received

reassembled : (b : Bool) (t : Tcb) (d : Tracker) (r : Reassembly) → TrackerHolds d → BlockHolds b t → BlockHolds b (record t { tracker = record t.tracker { tracker = d }; reassembly = r })
reassembled b t d r k h = record { sender = h.sender; requests = h.requests; tracker = k; rtt = h.rtt }

takes_if : (b takes : Bool) (tsn : ℕ) (immediate : Bool) (f : FragmentTree) (t : Tcb) → BlockHolds b t → BlockHolds b (fragment_if takes tsn immediate f t)
takes_if b true tsn immediate f t h = reassembled b t _ _ (observed_holds (number_of t.tracker tsn) immediate t.tracker.tracker h.tracker) h
takes_if b false tsn immediate f t h = h

pub ack_forced : (b : Bool) (t : Tcb) → BlockHolds b t → BlockHolds b (force_ack t)
ack_forced b t h =
    with_tracker b t (acking Immediate t.tracker.tracker) (record { duration = h.tracker.duration; most_delay = h.tracker.most_delay; timed = tt }) h

told_holds : (b avoids room : Bool) (t : Tcb) → BlockHolds b t → BlockHolds b (told_of_drop avoids room t)
told_holds b true true t h = h
told_holds b true false t h = ack_forced b t h
told_holds b false room t h = h

passes_if : (b takes : Bool) (tsn : ℕ) (skipped : List SkippedStream) (t : Tcb) → BlockHolds b t → BlockHolds b (handle_forward_tsn_if takes tsn skipped t)
passes_if b true tsn skipped t h = reassembled b t _ _ (forward_holds (number_of t.tracker tsn) t.tracker.tracker h.tracker) h
passes_if b false tsn skipped t h = h

module _ {P : Type 0} (avoids : Bool) where
  abbrev pub Going : Phase → Tcb → Context P → Type 0
  Going phase t c = OpenHolds avoids phase t c.options c.heartbeats

  abbrev pub EndHolds : EndpointState P → Type 0
  EndHolds s = StateHolds avoids s.state s.context.options s.context.heartbeats

  -- a row for states with a control block
  pub where_open_holds : (row : Phase → Tcb → Context P → EndpointState P) → ((phase : Phase) (t : Tcb) (c : Context P) → Going phase t c → EndHolds (row phase t c))
      → (s : State) (c : Context P) → StateHolds avoids s c.options c.heartbeats → EndHolds (where_open row (record { state = s; context = c }))
  where_open_holds row f Closed c h = h
  where_open_holds row f (CookieWait tag first t1) c h = h
  where_open_holds row f (Open phase t) c h = f phase t c h

  pub send_in_holds : (phase : Phase) (t : Tcb) (c : Context P) → Going phase t c → EndHolds (send_in phase t c)
  send_in_holds phase t c h = go (is_before_cookie_ack phase && c.options.avoid_stalls)
    where
      go : (b : Bool) → EndHolds (open_with phase (send_unless b (is_before_cookie_ack phase) t c))
      go true = h
      go false =
          let x = sends_buffered avoids (is_established phase) (waits avoids phase) (is_before_cookie_ack phase) t c (h.0, h.1.1) in
          (x.0, (h.1.0, x.1))

  -- ---- endings

  pub closes : (b : Bool) (e : Event P) (c : Context P) → Beside avoids b c → EndHolds (close_with e c)
  closes b e c h = record { options = h.options; restarts = h.restarts; interval = tt }

  -- ---- shutdown

  abbrev pub Steps : Tcb → PhaseStep P → Type 0
  Steps t o = Going o.phase t o.context

  still_waits : (t : Tcb) (c : Context P) → is_quiet t c ≡ false → c.options.avoid_stalls ≡ avoids → BlockHolds false t → BlockHolds (not avoids) t
  still_waits t c e is k =
      let at_rest : Bool = (length t.sender.outstanding.items.kept == 0) && is_empty c.queue in
      quiet_by avoids at_rest t
      (ap (λ (b : Bool). is_quiet_if b at_rest (nothing_in_flight t.sender.outstanding.items)) (sym is) ∙ e) k

  pending_if : (b : Bool) (t : Tcb) (c : Context P) → is_quiet t c ≡ b → Beside avoids false c → BlockHolds false t → Steps t (pending_next b t c)
  pending_if true t c e h k = (chunk_goes_out avoids false _ t c h, (t2_runs c.now c.options.max_retransmissions t k, k))
  pending_if false t c e h k = (h, (tt, still_waits t c e h.options.stalls k))

  early_if : (b : Bool) (t : Tcb) (c : Context P) → nothing_in_flight t.sender.outstanding.items ≡ b → Beside avoids false c → BlockHolds false t → Steps t (pending_next b t c)
  early_if true t c e h k = (chunk_goes_out avoids false _ t c h, (t2_runs c.now c.options.max_retransmissions t k, k))
  early_if false t c e h k = (h, (tt, flies_by avoids t e k))

  received_if : (b : Bool) (t : Tcb) (c : Context P) → is_quiet t c ≡ b → Beside avoids false c → BlockHolds false t → Steps t (received_next b t c)
  received_if true t c e h k = (chunk_goes_out avoids false _ t c h, (t2_runs c.now c.options.max_retransmissions t k, k))
  received_if false t c e h k = (h, (tt, still_waits t c e h.options.stalls k))

  pub shutdown_goes_on : (phase : Phase) (t : Tcb) (c : Context P) → Beside avoids (is_established phase) c → PhaseRuns phase → BlockHolds false t
      → Steps t (maybe_send_shutdown_or_ack phase t c)
  shutdown_goes_on (CookieEchoed t1 cookie) t c h r k = (h, (r, k))
  shutdown_goes_on Established t c h r k = (h, (r, k))
  shutdown_goes_on ShutdownPending t c h r k = pending_if (is_quiet t c) t c refl h k
  shutdown_goes_on (ShutdownSent t2) t c h r k = (h, (r, k))
  shutdown_goes_on ShutdownReceived t c h r k = received_if (is_quiet t c) t c refl h k
  shutdown_goes_on (ShutdownAckSent t2) t c h r k = (h, (r, k))

  shuts : (phase : Phase) (t : Tcb) (c : Context P) → Going phase t c → Steps t (shutdown_in_phase phase t c)
  shuts (CookieEchoed t1 cookie) t c h = early_if (nothing_in_flight t.sender.outstanding.items) t c refl h.0 h.1.1
  shuts Established t c h = shutdown_goes_on ShutdownPending t c (quieter avoids true c.options c.heartbeats h.0) tt h.1.1
  shuts ShutdownPending t c h = h
  shuts (ShutdownSent t2) t c h = h
  shuts ShutdownReceived t c h = h
  shuts (ShutdownAckSent t2) t c h = h

  pub shutdown_holds : (s : State) (c : Context P) → StateHolds avoids s c.options c.heartbeats → EndHolds (shutdown_in s c)
  shutdown_holds Closed c h = h
  shutdown_holds (CookieWait tag first t1) c h = closes false OnClosed c h.0
  shutdown_holds (Open phase t) c h = shuts phase t c h

  shut_by : (phase : Phase) (t : Tcb) (c : Context P) → Going phase t c → Steps t (shut_by_peer phase t c)
  shut_by (CookieEchoed t1 cookie) t c h = h
  shut_by Established t c h = shutdown_goes_on ShutdownReceived t c (quieter avoids true c.options c.heartbeats h.0) tt h.1.1
  shut_by ShutdownPending t c h = shutdown_goes_on ShutdownReceived t c h.0 tt (emptier (not avoids) t h.1.1)
  shut_by (ShutdownSent t2) t c h = (chunk_goes_out avoids false _ t c h.0, (t2_runs c.now c.options.max_retransmissions t h.1.1, h.1.1))
  shut_by ShutdownReceived t c h = h
  shut_by (ShutdownAckSent t2) t c h = (chunk_goes_out avoids false _ t c h.0, (t2_runs_again c.now t2 t h.1.1, h.1.1))

  pub on_shutdown_holds : (phase : Phase) (t : Tcb) (c : Context P) → Going phase t c → EndHolds (on_shutdown phase t c)
  on_shutdown_holds phase t c h = shut_by phase t c h

  ack_open_holds : (tag : ℕ) (phase : Phase) (t : Tcb) (c : Context P) → Going phase t c → EndHolds (on_shutdown_ack_open tag phase t c)
  ack_open_holds tag (CookieEchoed t1 cookie) t c h = (goes_out avoids false (add (shutdown_complete_chunk true) (packet_to tag c.options.mtu)) c h.0, h.1)
  ack_open_holds tag Established t c h = (goes_out avoids true (add (shutdown_complete_chunk true) (packet_to tag c.options.mtu)) c h.0, h.1)
  ack_open_holds tag ShutdownPending t c h = (goes_out avoids false (add (shutdown_complete_chunk true) (packet_to tag c.options.mtu)) c h.0, h.1)
  ack_open_holds tag (ShutdownSent t2) t c h = closes false OnClosed (emit_chunk (shutdown_complete_chunk false) t c) (chunk_goes_out avoids false (shutdown_complete_chunk false) t c h.0)
  ack_open_holds tag ShutdownReceived t c h = (goes_out avoids false (add (shutdown_complete_chunk true) (packet_to tag c.options.mtu)) c h.0, h.1)
  ack_open_holds tag (ShutdownAckSent t2) t c h = closes false OnClosed (emit_chunk (shutdown_complete_chunk false) t c) (chunk_goes_out avoids false (shutdown_complete_chunk false) t c h.0)

  pub on_shutdown_ack_holds : (tag : ℕ) (s : State) (c : Context P) → StateHolds avoids s c.options c.heartbeats → EndHolds (on_shutdown_ack_in tag s c)
  on_shutdown_ack_holds tag Closed c h = goes_out avoids false (add (shutdown_complete_chunk true) (packet_to tag c.options.mtu)) c h
  on_shutdown_ack_holds tag (CookieWait my_tag first t1) c h = (goes_out avoids false (add (shutdown_complete_chunk true) (packet_to tag c.options.mtu)) c h.0, h.1)
  on_shutdown_ack_holds tag (Open phase t) c h = ack_open_holds tag phase t c h

  pub on_complete_holds : (phase : Phase) (t : Tcb) (c : Context P) → Going phase t c → EndHolds (on_shutdown_complete phase t c)
  on_complete_holds (CookieEchoed t1 cookie) t c h = h
  on_complete_holds Established t c h = h
  on_complete_holds ShutdownPending t c h = h
  on_complete_holds (ShutdownSent t2) t c h = h
  on_complete_holds ShutdownReceived t c h = h
  on_complete_holds (ShutdownAckSent t2) t c h = closes false OnClosed c h.0

  pub abort_holds : (b : Bool) (cause : CauseTree) (e : Event P) (t : Tcb) (c : Context P) → Beside avoids b c → EndHolds (abort cause e t c)
  abort_holds b cause e t c h =
      let chunk : ChunkTree = abort_chunk false (cause ∷ []) in
      closes b e (emit_chunk chunk t c) (chunk_goes_out avoids b chunk t c h)

  pub close_holds : (s : State) (c : Context P) → StateHolds avoids s c.options c.heartbeats → EndHolds (close_in s c)
  close_holds Closed c h = h
  close_holds (CookieWait tag first t1) c h = closes false OnClosed c h.0
  close_holds (Open phase t) c h = abort_holds (is_established phase) _ OnClosed t c h.0

  -- ---- data

  no_data_holds : (tsn : ℕ) (s : State) (c : Context P) → StateHolds avoids s c.options c.heartbeats → StateHolds avoids s (on_no_data tsn s c).options (on_no_data tsn s c).heartbeats
  no_data_holds tsn Closed c h = h
  no_data_holds tsn (CookieWait tag first t1) c h = h
  no_data_holds tsn (Open phase t) c h = (chunk_goes_out avoids (is_established phase) _ t _ h.0, h.1)

  data_in_holds : (s : State) (tsn : ℕ) (immediate : Bool) (f : FragmentTree) (c : Context P) → StateHolds avoids s c.options c.heartbeats → EndHolds (on_data_in s tsn immediate f c)
  data_in_holds Closed tsn immediate f c h = h
  data_in_holds (CookieWait tag first t1) tsn immediate f c h = h
  data_in_holds (Open phase t) tsn immediate f c h =
      let room : Bool = has_room c.options tsn t in
      let u : Tcb = told_of_drop c.options.avoid_stalls room t in
      (h.0, (h.1.0, takes_if (waits avoids phase) (accepts_fragment c.options tsn f t) tsn immediate f u (told_holds (waits avoids phase) c.options.avoid_stalls room t h.1.1)))

  data_if_holds : (b : Bool) (tsn : ℕ) (immediate : Bool) (f : FragmentTree) (s : EndpointState P) → EndHolds s → EndHolds (on_data_if b tsn immediate f s)
  data_if_holds true tsn immediate f s h = no_data_holds tsn s.state s.context h
  data_if_holds false tsn immediate f s h = data_in_holds s.state tsn immediate f s.context h

  pub on_data_holds : (tsn : ℕ) (immediate : Bool) (f : FragmentTree) (s : EndpointState P) → EndHolds s → EndHolds (on_data tsn immediate f s)
  on_data_holds tsn immediate f s h = data_if_holds (length f.payload == 0) tsn immediate f s h

  forward_in_holds : (tsn : ℕ) (skipped : List SkippedStream) (s : State) (c : Context P) → StateHolds avoids s c.options c.heartbeats → EndHolds (on_forward tsn skipped (record { state = s; context = c }))
  forward_in_holds tsn skipped Closed c h = h
  forward_in_holds tsn skipped (CookieWait tag first t1) c h = h
  forward_in_holds tsn skipped (Open phase t) c h = (h.0, (h.1.0, passes_if (waits avoids phase) (accepts_point tsn skipped t) tsn skipped t h.1.1))

  pub on_forward_holds : (tsn : ℕ) (skipped : List SkippedStream) (s : EndpointState P) → EndHolds s → EndHolds (on_forward tsn skipped s)
  on_forward_holds tsn skipped s h = forward_in_holds tsn skipped s.state s.context h

  -- ---- SACK

  sends_after : (t : Tcb) (o : PhaseStep P) → Steps t o → EndHolds (send_after_sack t o)
  sends_after t o h =
      let x : AfterSending P = send_lost t o.context in
      let k = lost_goes avoids (is_established o.phase) (waits avoids o.phase) t o.context (h.0, h.1.1) in
      let l = sends_with avoids (is_established o.phase) (waits avoids o.phase) (is_before_cookie_ack o.phase) (answer_packet o.phase x.context.options x.tcb) x.tcb x.context k in
      (l.0, (h.1.0, l.1))

  -- a round trip may have been sampled
  answered : (rtt : Option ℕ) (n a_rwnd : ℕ) (blocks : List GapAckBlock) (phase : Phase) (t : Tcb) (c : Context P) → Going phase t c → EndHolds (after_sack
      (Valid rtt (nat_lt 0 (sack.acked_bytes n blocks t.sender.outstanding.items))) phase (record t { sender = sender_if true c.now n a_rwnd blocks t.sender c.emitted })
      (record c { emitted = emitted_if true n blocks t.sender c.emitted }))
  answered rtt n a_rwnd blocks phase t c h =
      let s : Sender = sender_if true c.now n a_rwnd blocks t.sender c.emitted in
      let u : Tcb = record t { sender = s } in
      let progress : Bool = nat_lt 0 (sack.acked_bytes n blocks t.sender.outstanding.items) in
      let d : Context P = clear_errors_if progress (record c { emitted = emitted_if true n blocks t.sender c.emitted }) in
      let k : BlockHolds false u = with_sender (waits avoids phase) false t s (sack_holds c.now n a_rwnd blocks t.sender c.emitted (waits avoids phase) true h.1.1.sender) h.1.1 in
      sends_after (sample_rtt rtt u) (maybe_send_shutdown_or_ack phase (sample_rtt rtt u) d) (shutdown_goes_on phase (sample_rtt rtt u) d h.0 h.1.0 (sampled_holds false rtt u k))

  clean_sack_by : (late valid : Bool) (n a_rwnd : ℕ) (blocks : List GapAckBlock) (phase : Phase) (t : Tcb) (c : Context P) → Going phase t c → EndHolds (after_sack
      (sampled_unless late (answer_if valid c.now n blocks t.sender)) phase (record t { sender = sender_if valid c.now n a_rwnd blocks t.sender c.emitted }) (record c { emitted = emitted_if valid n blocks t.sender c.emitted }))
  clean_sack_by true true n a_rwnd blocks phase t c h = answered None n a_rwnd blocks phase t c h
  clean_sack_by false true n a_rwnd blocks phase t c h = answered (sack.sample c.now n t.sender.outstanding.items) n a_rwnd blocks phase t c h
  clean_sack_by true false n a_rwnd blocks phase t c h = (h.0, (h.1.0, with_sender (waits avoids phase) (waits avoids phase) t t.sender h.1.1.sender h.1.1))
  clean_sack_by false false n a_rwnd blocks phase t c h = (h.0, (h.1.0, with_sender (waits avoids phase) (waits avoids phase) t t.sender h.1.1.sender h.1.1))

  pub on_sack_holds : (k : SackTree) (s : State) (c : Context P) → StateHolds avoids s c.options c.heartbeats → EndHolds (on_sack_in s k c)
  on_sack_holds k Closed c h = h
  on_sack_holds k (CookieWait tag first t1) c h = h
  on_sack_holds k (Open phase t) c h = clean_sack_by (is_late c.options (item_number_of t.sender.outstanding k.cumulative_tsn_ack) t.sender.outstanding.items) (sack.is_valid _ (clean_blocks k.gap_ack_blocks) t.sender.outstanding.items) _ k.a_rwnd (clean_blocks k.gap_ack_blocks) phase t c h
