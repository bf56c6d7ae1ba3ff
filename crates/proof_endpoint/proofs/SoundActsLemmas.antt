-- What each act leaves of a sound end: it stays sound, and so does the packet that it puts together; and what it emits can be read back.
use Rattle.std.proofs.Common.{◌≡◌, ℕ, ◌^◌, ◌<◌, ◌||◌, Bool, true, false, cond, Option, Some, None, List, [], ◌∷◌, ◌++◌, length, All, refl, sym, ap, subst, ◌∙◌, append_assoc, arith}
use Rattle.std.specs.Prelude.{IfSome}
use Rattle.std.proofs.lemmas.List.Elements.{All-cons, All-nil, All-append, All-weaker, All-head}
use Rattle.sctp_serial.specs.Messages.{Message}
use Rattle.sctp_wire.specs.Parameter.{ParameterTree, state_cookie, reset_response}
use Rattle.sctp_packet.specs.Chunk.{init_ack_chunk, cookie_echo_chunk}
use Rattle.sctp_packet.specs.Grammar.{Each}
use Rattle.sctp_state.specs.declared.api.GivenUpCause.TheVariants.{Reset}
use Rattle.sctp_state.specs.Events.{Event, SendPacket, OnError, OnConnected, OnConnectionRestarted, OnClosed, OnStreamsResetPerformed, OnStreamsResetFailed, Emitted, emit_events, emit_given_up, expired_events}
use Rattle.sctp_state.specs.Options.{Options, SendOptions}
use Rattle.sctp_state.specs.RetransmissionTimeout.{rto}
use Rattle.sctp_capabilities.specs.Capabilities.{negotiate}
use Rattle.sctp_capabilities.specs.StateCookie.{Cookie}
use Rattle.sctp_tx_queue.specs.declared.send_queue.stream.ResetStep.TheVariants.{Requested, Performed, Refused}
use Rattle.sctp_tx_queue.specs.SendQueue.{Queued, Queue, stream}
use Rattle.sctp_tx_queue.specs.Resets.{is_partly, emit_unsent, streams_to_request}
use Rattle.sctp_tx.specs.RetransmissionQueue.{emitted_if}
use Rattle.sctp_tx.specs.Resent.{resent_fast}
use Rattle.sctp_tx.specs.ForwardPoints.{forward_chunk}
use Rattle.sctp_tx.specs.Sending as fragments
use Rattle.sctp_tx_outstanding.specs.Losses.{expire_outstanding}
use Rattle.spec_endpoint.specs.Association.{Tcb, Phase, CookieEchoed, Established, ShutdownPending, ShutdownSent, ShutdownReceived, ShutdownAckSent, State, Closed, CookieWait, Open, Context, Packing}
use Rattle.spec_endpoint.specs.Packets.{PacketDraft, room, clear_chunks, header_to}
use Rattle.spec_endpoint.specs.ResetRequests.{Requests, Outcome, Unsettled, Done, Denied, outcome, request_chunk}
use Rattle.spec_endpoint.specs.Sending.{is_before_cookie_ack, selective_ack, add_reset_breakpoint, last_assigned, asks_at_once, fast_most}
use Rattle.spec_endpoint.specs.Opening.{tag_from, tsn_from, next_first, word, long_word, drew_word, identity_of_init_ack, agreed_by, cookie_in, queue_if, other_mode, identity_of, restarted}
use Rattle.spec_endpoint.specs.Sack.{clean_blocks}
use Rattle.spec_endpoint.specs.Calls.{lifecycle_end_events, refusal_events, refuse, queue_entry, set_low_threshold}
use Rattle.spec_endpoint.specs.StreamReset.{on_outcome, prepare_reset_stream}
use Rattle.spec_endpoint.specs.Laws.{Call, ReceivePacket as Given, IsShort, ending}
use Rattle.spec_endpoint.specs.Shutdown.{ended, emptied_if}
use Rattle.proof_endpoint.proofs.EmptiedLemmas.{emits_emptied, emptied_fits}
use Rattle.proof_endpoint.proofs.StepsLemmas.{Emits}
use Rattle.proof_endpoint.proofs.EmitsLemmas.{quiet_both, quiet_expiry, quiet_end, quiet_refusal, emits_nothing, emits_given_up, emits_all, emits_then, emits_sack, emits_expired, emits_sent, emits_nack_all, emits_threshold}
use Rattle.proof_endpoint.proofs.GoesLemmas.{small_empty}
use Rattle.proof_endpoint.specs.Sound.{OptionsFit, FitsQueue, FitsRequest, FitsPhase, FitsState, FitsMessage, HasBytes, ArgumentFits}
use Rattle.proof_endpoint.specs.ReadBack.{CanBeRead}
use Rattle.proof_endpoint.specs.Fair.{IsFairParameter}
use Rattle.proof_endpoint.specs.Acts.{EndWithPacket, end_of, in_state, in_open, with_context, drawn_tag, drawn_first, opened_by, point_of, fragments_of, IsOffered, alone, among, Fitting, HasRequest, for_outgoing, for_incoming, Answers, PacketAct, begins, adds_plain, emits, emits_error, counts, before_packets, after_packets, OpeningAct, connects, adds_init, answers_new, answers_waiting, answers_echoed, answers_again, echoes, adds_cookie, establishes, opens, restarts, opens_again, maintains, adds_cookie_ack, before_opening, after_opening, ClosingAct, closes, shuts, shuts_on, before_closing, after_closing, DataAct, takes_data, takes_idata, takes_forward, takes_iforward, before_data, after_data, SackAct, takes_sack, samples, counts_errors, before_sack, after_sack, SendingAct, asks, forces_ack, adds_ack, expires, adds_forward, forwards_later, asks_no_reset, asks_reset, adds_request, sends, sends_fast, before_sending, after_sending, TimeAct, advances, delay_ends, times_out, beats, times_init, times_cookie, times_request, times_items, wakes_request, timeout_of, before_time, after_time, CallAct, accepts, refuses, takes_message, sets_low_threshold, sets_priority, sets_max_message_size, before_call, after_call, ResetAct, prepares, defers, performs, processes, takes_response, adds_responses, before_reset, after_reset, HandoverAct, leaves, takes_up, before_handover, after_handover, InputAct, ends_packet, before_input, after_input, Preserves}
use Rattle.proof_endpoint.proofs.ReceivedLemmas.{FitsCookie}
use Rattle.proof_endpoint.proofs.OpeningActsLemmas.{echoed_fits}
use Rattle.proof_endpoint.proofs.SoundTrackerLemmas.{ack_fits, forced_fits, end_fits, timeout_fits, reported_fits}
use Rattle.proof_endpoint.proofs.SoundQueueLemmas.{added_fits, threshold_fits, priority_fits, reset_fits, prepare_fits, steps_fit, requested_fits, restore_fits}
use Rattle.proof_endpoint.proofs.SoundItemsLemmas.{word_small, nack_all_fits}
use Rattle.proof_endpoint.proofs.SoundTxLemmas.{received_fits, sender_expired_fits, resent_fast_fits, sent_fast_fits, FitsFilling, send_fits}
use Rattle.proof_endpoint.proofs.SoundTcbLemmas.{with_tracker, with_sender, with_requests, with_reassembly, took_fits, passed_fits, timed_fits, started_fits, woken_fits, handle_response_fits, tcb_fits, names_fit, cookie_identity, taken_fits}
use Rattle.proof_endpoint.proofs.SoundPacketLemmas.{IsSoundChunk, IsGood, good_add, good_data, all_read_back, all_cookies, own_plain, own_sack, own_forward, own_request, own_responses, own_init, own_init_ack, own_cookie_echo, own_cookie_ack}

-- ---- an end at work

-- how its packets are written, how long they are at most, and what was emitted before
pub record Start (P : Type 0) : Type 0 where
  pub pack : Packing P
  pub most : ℕ
  pub past : List (Event P)

pub record EmittedSince {P : Type 0} (g : Start P) (es : List (Event P)) : Type 0 where
  pub events : List (Event P)
  pub behind : es ≡ g.past ++ events
  pub can_be_read : All (CanBeRead g.pack g.most) events

pub record Sound {P : Type 0} (g : Start P) (o : Options) (pack : Packing P) (q : Queue) (es : List (Event P)) (s : State) (p : PacketDraft) : Type 0 where
  pub options : OptionsFit o
  pub mtu : o.mtu ≡ g.most
  pub packing : pack ≡ g.pack
  pub queue : FitsQueue q
  pub since : EmittedSince g es
  pub state : FitsState s
  pub packet : IsGood g.most p

abbrev pub SoundAt : {P : Type 0} → Start P → EndWithPacket P → Type 0
SoundAt g m = Sound g m.context.options m.context.pack m.context.queue m.context.emitted.events m.state m.packet

-- no packet has no bytes at all
event_quiet : {P : Type 0} (pack : Packing P) (most : ℕ) (e : Event P) → IsShort pack 0 e → CanBeRead pack most e
event_quiet pack most (SendPacket p) w = absurd (omega (arith, w.short))
event_quiet pack most e w = tt

module _ {P : Type 0} {g : Start P} {o : Options} {pack : Packing P} {q : Queue} {es : List (Event P)} {s : State} {p : PacketDraft} (h : Sound g o pack q es s p) where
  pub in_the_state : (t : State) → FitsState t → Sound g o pack q es t p
  in_the_state t f = record { options = h.options; mtu = h.mtu; packing = h.packing; queue = h.queue; since = h.since; state = f; packet = h.packet }

  pub with_the_packet : (r : PacketDraft) → IsGood g.most r → Sound g o pack q es s r
  with_the_packet r f = record { options = h.options; mtu = h.mtu; packing = h.packing; queue = h.queue; since = h.since; state = h.state; packet = f }

  with_the_queue : (r : Queue) → FitsQueue r → Sound g o pack r es s p
  with_the_queue r f = record { options = h.options; mtu = h.mtu; packing = h.packing; queue = f; since = h.since; state = h.state; packet = h.packet }

  with_the_options : (r : Options) → OptionsFit r → r.mtu ≡ o.mtu → Sound g r pack q es s p
  with_the_options r f e = record { options = f; mtu = e ∙ h.mtu; packing = h.packing; queue = h.queue; since = h.since; state = h.state; packet = h.packet }

  telling : (more now : List (Event P)) → now ≡ es ++ more → All (CanBeRead g.pack g.most) more → Sound g o pack q now s p
  telling more now behind can = record {
    options = h.options;
    mtu = h.mtu;
    packing = h.packing;
    queue = h.queue;
    since = record {
      events = h.since.events ++ more;
      behind = behind ∙ (ap (λ (fs : List (Event P)). fs ++ more) h.since.behind ∙ append_assoc g.past h.since.events more);
      can_be_read = All-append (CanBeRead g.pack g.most) h.since.events more h.since.can_be_read can;
    };
    state = h.state;
    packet = h.packet;
  }

  pub saying : (e : Event P) → CanBeRead g.pack g.most e → Sound g o pack q (es ++ e ∷ []) s p
  saying e can =
      telling (e ∷ []) (es ++ e ∷ []) refl (All-cons (CanBeRead g.pack g.most) e [] can (All-nil (CanBeRead g.pack g.most)))

  -- what the operations of the crates below emit
  quietly : (t u : Emitted P) → t.events ≡ es → Emits g.pack 0 0 t u → Sound g o pack q u.events s p
  quietly t u is e =
      telling e.events u.events (e.behind ∙ ap (λ (fs : List (Event P)). fs ++ e.events) is)
      (All-weaker (IsShort g.pack 0) (CanBeRead g.pack g.most) (event_quiet g.pack g.most) e.events e.short)

module _ {P : Type 0} {g : Start P} {o : Options} {pack : Packing P} {q : Queue} {es : List (Event P)} {s : State} {p : PacketDraft} (h : Sound g o pack q es s p) where
  goes_out : Sound g o pack q (es ++ SendPacket (pack.write (header_to o p.tag) p.is_summed p.chunks) ∷ []) s (clear_chunks p)
  goes_out = with_the_packet (saying h (SendPacket (pack.write (header_to o p.tag) p.is_summed p.chunks)) (record {
    carried = record { header = header_to o p.tag; is_summed = p.is_summed; chunks = p.chunks };
    made = ap (λ (k : Packing P). k.write (header_to o p.tag) p.is_summed p.chunks) h.packing;
    reads_back = record {
      header = record { source_port = h.options.local_port; destination_port = h.options.remote_port; verification_tag = h.packet.tag };
      chunks = all_read_back p.chunks h.packet.chunks;
      cookies = all_cookies p.chunks h.packet.chunks;
      short = h.packet.small.short;
    };
  })) (clear_chunks p) (record {
    small = small_empty g.most (clear_chunks p) (omega (arith, h.options.mtu_least, h.mtu)) h.packet.small.limit refl;
    tag = h.packet.tag;
    chunks = tt;
  })

-- ---- what a call has to hand in

-- a packet's chunks apart
abbrev pub FitsBesides : Call → Type 0
FitsBesides (Given p) = Unit {0}
FitsBesides call = ArgumentFits call

-- A RE-CONFIG apart: whether the results that it is answered by fit isn't known of what it leaves.
pub record Argument (call : Call) : Type 0 where
  pub fitting : Fitting call
  pub quiet : (number : ℕ) → HasRequest call number → ⊥
  pub fits : FitsBesides call

module _ {X : Type 0} (Q : X → Type 0) where
  same_first : (x y : X) (xs ys : List X) → (x ∷ xs) ≡ y ∷ ys → x ≡ y
  same_first x y xs ys e = cc

  same_rest : (x y : X) (xs ys : List X) → (x ∷ xs) ≡ y ∷ ys → xs ≡ ys
  same_rest x y xs ys e = cc

  each_among : (x : X) (xs before behind : List X) → xs ≡ before ++ x ∷ behind → Each Q xs → Q x
  each_among x [] [] behind e h = cc
  each_among x [] (b ∷ before) behind e h = cc
  each_among x (y ∷ ys) [] behind e h = subst Q (same_first y x ys behind e) h.0
  each_among x (y ∷ ys) (b ∷ before) behind e h = each_among x ys before behind (same_rest y b ys (before ++ x ∷ behind) e) h.1

-- ---- the acts

tag_small : (w : ℕ) → tag_from w < 2 ^ 32
tag_small w = omega arith

first_small : (w : ℕ) → tsn_from w < 2 ^ 32
first_small w = omega arith

next_small : (t : Tcb) → next_first t < 2 ^ 32
next_small t = omega arith

abbrev IsSomeCookie : Option (List ℕ) → Type 0
IsSomeCookie None = Unit {0}
IsSomeCookie (Some cookie) = 0 < length cookie

some_cookie : (ps : List ParameterTree) → Each HasBytes ps → IsSomeCookie (cookie_in ps)
some_cookie [] h = tt
some_cookie (state_cookie cookie ∷ ps) h = h.0
some_cookie (p ∷ ps) h = some_cookie ps h.1

queue_if_fits : (b : Bool) (q : Queue) → FitsQueue q → FitsQueue (queue_if b q)
queue_if_fits true q h = reset_fits q h
queue_if_fits false q h = h

later_fits : (phase : Phase) → is_before_cookie_ack phase ≡ false → FitsPhase phase
later_fits (CookieEchoed t1 cookie) e = cc
later_fits Established e = tt
later_fits ShutdownPending e = tt
later_fits (ShutdownSent t2) e = tt
later_fits ShutdownReceived e = tt
later_fits (ShutdownAckSent t2) e = tt

drops_if : {P : Type 0} (pack : Packing P) (b : Bool) (t u : Emitted P) → Emits pack 0 0 t u → Emits pack 0 0 t (cond b t u)
drops_if pack true t u h = emits_nothing pack 0 t
drops_if pack false t u h = h

drops : {P : Type 0} (pack : Packing P) (ms : List Queued) (t : Emitted P) → Emits pack 0 0 t (emit_unsent ms t)
drops pack [] t = emits_nothing pack 0 t
drops {P} pack (m ∷ ms) t =
    let gone : Emitted P = emit_given_up m.number Reset t in
    let said : Emitted P = emit_events (expired_events m.lifecycle) gone in
    let u : Emitted P = cond (is_partly m) t said in
    emits_then pack 0 t u (emit_unsent ms u)
    (drops_if pack (is_partly m) t said (emits_then pack 0 t gone said (emits_given_up pack 0 m.number Reset t) (emits_all pack 0 (expired_events m.lifecycle) gone (quiet_expiry P m.lifecycle))))
    (drops pack ms u)

ends_can : {P : Type 0} (pack : Packing P) (most : ℕ) (e : Event P) → ending e ≡ 1 → CanBeRead pack most e
ends_can pack most (SendPacket p) h = cc
ends_can pack most e h = tt

module _ {P : Type 0} (g : Start P) where
  opened : (resets : Bool) (k : Cookie) (m : EndWithPacket P) → FitsCookie k → SoundAt g m → SoundAt g (opened_by resets k m)
  opened resets k m f h =
      let o : Options = m.context.options in
      let mode : Bool = (negotiate o k.peer_capabilities).message_interleaving in
      let q : Queue = m.context.queue in
      saying (in_the_state (with_the_queue h (opened_by resets k m).context.queue (queue_if_fits (resets || other_mode mode q.scheduler.is_interleaved) q h.queue))
      (opened_by resets k m).state (tt, tcb_fits o (identity_of k (long_word (end_of m))) _ _ h.options (cookie_identity k (long_word (end_of m)) f))) OnConnected tt

  -- what waits is given up
  emptied_sound : (b : Bool) (m : EndWithPacket P) → SoundAt g m → SoundAt g (with_context (emptied_if b m.context) m)
  emptied_sound b m h =
      let c : Context P = m.context in
      quietly (with_the_queue h _ (emptied_fits b c.queue c.emitted h.queue)) c.emitted (emptied_if b c).emitted refl (emits_emptied g.pack 0 b c.queue c.emitted)

  pub after_outcome : (r : Outcome) (m : EndWithPacket P) → SoundAt g m → SoundAt g (with_context (on_outcome r m.context) m)
  after_outcome Unsettled m h = h
  after_outcome (Done streams) m h =
      saying (with_the_queue h _ (steps_fit Performed streams m.context.queue h.queue)) (OnStreamsResetPerformed streams) tt
  after_outcome (Denied streams) m h =
      saying (with_the_queue h _ (steps_fit Refused streams m.context.queue h.queue)) (OnStreamsResetFailed streams) tt

module _ {P : Type 0} (g : Start P) (call : Call) (a : Argument call) where
  abbrev Onward : (before after : EndWithPacket P) → Type 0
  Onward m n = SoundAt g m → SoundAt g n

  goes_packets : (act : PacketAct P call) → Onward (before_packets act) (after_packets act)
  goes_packets (begins p m new summed to) h = with_the_packet h p (record {
    small = small_empty g.most p (omega (arith, h.options.mtu_least, h.mtu)) (omega (arith, to.limit, h.mtu, h.packet.small.limit)) new;
    tag = to.tag a.fitting h.state h.packet.tag;
    chunks = subst (Each IsSoundChunk) (sym new) tt;
  })
  goes_packets (adds_plain chunk m plain others fair) h =
      with_the_packet h _ (good_add g.most m.packet chunk (own_plain chunk plain (fair a.fitting)) h.packet)
  goes_packets (emits m some bundled) h = goes_out h
  goes_packets (emits_error kind text m) h = saying h (OnError kind text) tt
  goes_packets (counts m) h = h

  goes_opening : (act : OpeningAct P call) → Onward (before_opening act) (after_opening act)
  goes_opening (connects m is) h = in_the_state h _ (tag_small (word (drew_word (end_of m))), first_small (word (end_of m)))
  goes_opening (adds_init tag first t1 m to) h =
      with_the_packet h _ (good_add g.most m.packet _ (own_init m.context.options h.options tag first h.state.0 h.state.1) h.packet)
  goes_opening (answers_new tag i m received to) h =
      with_the_packet h _ (good_add g.most m.packet _ (own_init_ack m.context.options h.options (drawn_tag m) (drawn_first m) (tag_small _) (first_small _) i 0) h.packet)
  goes_opening (answers_waiting tag i my_tag first t1 m received to) h =
      with_the_packet h _ (good_add g.most m.packet _ (own_init_ack m.context.options h.options my_tag first h.state.0 h.state.1 i 0) h.packet)
  goes_opening (answers_echoed tag i t1 cookie t m received to) h =
      let me = h.state.1.identity in
      with_the_packet h _ (good_add g.most m.packet _ (own_init_ack m.context.options h.options t.identity.my_tag t.identity.my_first me.my_tag me.my_first i 0) h.packet)
  goes_opening (answers_again tag i phase t m received late to) h =
      with_the_packet h _ (good_add g.most m.packet _ (own_init_ack m.context.options h.options _ (next_first t) (tag_small (word (end_of m))) (next_small t) i t.identity.tie) h.packet)
  goes_opening (echoes tag i cookie my_tag first t1 m received brought) h =
      let brings = (a.fitting.chunks tag (init_ack_chunk i) received).1 in
      let some : 0 < length cookie = subst IsSomeCookie brought (some_cookie i.parameters brings.1) in
      in_the_state (with_the_queue h _ (reset_fits m.context.queue h.queue)) _ (
        some,
        tcb_fits m.context.options (identity_of_init_ack i my_tag first (long_word (end_of m))) i.a_rwnd (agreed_by m.context.options i) h.options
            (names_fit i my_tag first (long_word (end_of m)) brings.0 h.state.0 h.state.1),
      )
  goes_opening (adds_cookie t1 cookie t m to) h =
      with_the_packet h _ (good_add g.most m.packet (cookie_echo_chunk cookie) (own_cookie_echo cookie h.state.0) h.packet)
  goes_opening (establishes tag t1 cookie t m received) h = saying (in_the_state h (Open Established t) (tt, h.state.1)) OnConnected tt
  goes_opening (opens tag k m echoed none own) h = opened g m.context.options.avoid_stalls k m (echoed_fits tag k echoed a.fitting) h
  goes_opening (restarts tag k phase t m echoed resolution) h =
      let e : EndWithPacket P = in_open phase t m in
      opened g true k (with_context (restarted m.context) e) (echoed_fits tag k echoed a.fitting)
      (saying (emptied_sound g m.context.options.avoid_stalls e h) OnConnectionRestarted tt)
  goes_opening (opens_again tag k phase t m echoed resolution) h = opened g true k (in_open phase t m) (echoed_fits tag k echoed a.fitting) h
  goes_opening (maintains tag k t1 cookie t m echoed resolution) h = saying (in_the_state h (Open Established t) (tt, h.state.1)) OnConnected tt
  goes_opening (adds_cookie_ack tag back phase t m echoed late) h = with_the_packet h _ (good_add g.most m.packet _ own_cookie_ack h.packet)

  goes_closing : (act : ClosingAct P call) → Onward (before_closing act) (after_closing act)
  goes_closing (closes e m there is) h =
      emptied_sound g m.context.options.avoid_stalls (in_state Closed (with_context (ended e m.context) m)) (saying (in_the_state h Closed tt) e (ends_can g.pack g.most e is))
  goes_closing (shuts phase t m is early) h = in_the_state h (Open ShutdownPending t) (tt, h.state.1)
  goes_closing (shuts_on phase next t m late later) h = in_the_state h (Open next t) (later_fits next later, h.state.1)

  goes_data : (act : DataAct P call) → Onward (before_data act) (after_data act)
  goes_data (takes_data tag tsn is_immediate f phase t m received right some takes) h = in_the_state h _ (h.state.0, took_fits tsn is_immediate f t h.state.1)
  goes_data (takes_idata tag tsn is_immediate f phase t m received right some takes) h = in_the_state h _ (h.state.0, took_fits tsn is_immediate f t h.state.1)
  goes_data (takes_forward tag tsn skipped phase t m received right valid) h = in_the_state h _ (h.state.0, passed_fits tsn skipped t h.state.1)
  goes_data (takes_iforward tag tsn skipped phase t m received right valid) h = in_the_state h _ (h.state.0, passed_fits tsn skipped t h.state.1)

  goes_sack : (act : SackAct P call) → Onward (before_sack act) (after_sack act)
  goes_sack (takes_sack tag k phase t m received valid) h =
      let c : Context P = m.context in
      let blocks = clean_blocks k.gap_ack_blocks in
      let sender = received_fits true c.now (point_of k t) k.a_rwnd blocks t.sender c.emitted h.state.1.items in
      quietly (in_the_state h _ (h.state.0, with_sender t _ sender h.state.1)) c.emitted (emitted_if true (point_of k t) blocks t.sender c.emitted) refl
      (emits_sack g.pack 0 true (point_of k t) blocks t.sender c.emitted)
  goes_sack (samples r phase t m) h = in_the_state h _ (h.state.0, timed_fits r t h.state.1)
  goes_sack (counts_errors e m) h = h

  goes_sending : (act : SendingAct P call) → Onward (before_sending act) (after_sending act)
  goes_sending (asks b phase t m) h = in_the_state h _ (h.state.0, with_tracker t _ (ack_fits b t.tracker.tracker h.state.1.tracker) h.state.1)
  goes_sending (forces_ack phase t m) h = in_the_state h _ (h.state.0, with_tracker t _ (forced_fits t.tracker.tracker h.state.1.tracker) h.state.1)
  goes_sending (adds_ack phase t m) h =
      in_the_state (with_the_packet h _ (good_add g.most m.packet (selective_ack t) (own_sack t h.state.1) h.packet)) _
      (h.state.0, with_tracker t _ (reported_fits t.tracker.tracker h.state.1.tracker) h.state.1)
  goes_sending (expires phase t m) h =
      let c : Context P = m.context in
      quietly (in_the_state h _ (h.state.0, with_sender t _ (sender_expired_fits c.now t.sender c.emitted h.state.1.items) h.state.1)) c.emitted
      (expire_outstanding c.now t.sender.outstanding.items c.emitted).emitted refl (emits_expired g.pack 0 c.now t.sender.outstanding.items c.emitted)
  goes_sending (adds_forward phase t m due) h =
      with_the_packet h _ (good_add g.most m.packet (forward_chunk t.sender) (own_forward t.sender h.state.1.items) h.packet)
  goes_sending (forwards_later n m) h = h
  goes_sending (asks_no_reset most m none) h = with_the_queue h _ (steps_fit Requested (streams_to_request most m.context.queue) m.context.queue h.queue)
  goes_sending (asks_reset most stream streams phase t m some free) h =
      let q : Queue = m.context.queue in
      let s = add_reset_breakpoint t.sender in
      let ids = subst (Each (λ (id : ℕ). id < 2 ^ 16)) some (requested_fits most q h.queue) in
      let r = started_fits m.context.now (rto t.rtt) (last_assigned s) (stream ∷ streams) t.requests (word_small s.outstanding.first _) ids h.state.1.requests in
      in_the_state (with_the_queue h _ (steps_fit Requested (streams_to_request most q) q h.queue)) _
      (h.state.0, with_requests (record t { sender = s }) _ r (with_sender t s h.state.1.items h.state.1))
  goes_sending (adds_request r phase t m is) h =
      let fits : FitsRequest r = subst (λ (x : Option _). IfSome x FitsRequest) is h.state.1.requests.current in
      with_the_packet h _ (good_add g.most m.packet (request_chunk r) (own_request r fits) h.packet)
  goes_sending (sends phase t m) h =
      let c : Context P = m.context in
      let f : fragments.Filling P = fragments_of t m in
      let k : FitsFilling f = send_fits c.now (room m.packet) t.sender c.queue c.emitted h.state.1.items h.queue in
      quietly (with_the_packet (with_the_queue (in_the_state h _ (h.state.0, with_sender t f.sender k.sender h.state.1)) f.queue k.queue) _
      (good_data g.most m.packet t (asks_at_once c.options t.sender) f.chunks k.chunks h.packet)) c.emitted f.emitted refl
      (emits_sent g.pack 0 c.now (room m.packet) t.sender c.queue c.emitted)
  goes_sending (sends_fast phase t m some) h =
      let most : ℕ = fast_most m.context.options in
      with_the_packet (in_the_state h _ (h.state.0, with_sender t _ (sent_fast_fits m.context.now most t.sender h.state.1.items) h.state.1)) _
      (good_data g.most m.packet t false (resent_fast most t.sender).chunks (resent_fast_fits most t.sender h.state.1.items).chunks h.packet)

  goes_time : (act : TimeAct P call) → Onward (before_time act) (after_time act)
  goes_time (advances now m is on) h = h
  goes_time (delay_ends phase t m) h = in_the_state h _ (h.state.0, with_tracker t _ (timeout_fits m.context.now t.tracker.tracker h.state.1.tracker) h.state.1)
  goes_time (times_out phase t m due) h =
      let items = t.sender.outstanding.items in
      quietly (in_the_state h _ (h.state.0, with_sender t _ (nack_all_fits items m.context.emitted h.state.1.items) h.state.1)) m.context.emitted
      (timeout_of t m).emitted refl (emits_nack_all g.pack 0 items m.context.emitted)
  goes_time (beats b m) h = h
  goes_time (times_init tag first old new m) h = in_the_state h (CookieWait tag first new) h.state
  goes_time (times_cookie old new cookie t m) h = in_the_state h (Open (CookieEchoed new cookie) t) h.state
  goes_time (times_request timer phase t m) h =
      let r = h.state.1.requests in
      in_the_state h _ (h.state.0, with_requests t _ (record { next = r.next; current = r.current; result = r.result }) h.state.1)
  goes_time (times_items timer phase t m) h = in_the_state h _ (h.state.0, with_sender t _ h.state.1.items h.state.1)
  goes_time (wakes_request phase t m) h = in_the_state h _ (h.state.0, with_requests t _ (woken_fits t.requests h.state.1.requests) h.state.1)

  message_fits : (m : Message) (o : SendOptions) → IsOffered call m o → FitsMessage m
  message_fits m o (alone is) = subst FitsBesides is a.fits
  message_fits m o (among ms is at) = each_among FitsMessage m ms at.before at.behind at.split (subst FitsBesides is a.fits)

  goes_calls : (act : CallAct P call) → Onward (before_call act) (after_call act)
  goes_calls (accepts message o m offered fine) h =
      let c : Context P = m.context in
      let f : FitsMessage message = message_fits message o offered in
      let zero_small : 0 < 2 ^ 32 = omega arith in
      with_the_queue h _ (added_fits message.stream (queue_entry c.queue.next_number c.now message o) c.queue f.stream (record { ppid = f.ppid; fsn = zero_small }) h.queue)
  goes_calls (refuses message o e m offered is) h =
      let es : List (Event P) = lifecycle_end_events o.lifecycle_id ++ refusal_events e in
      quietly h m.context.emitted (refuse e o.lifecycle_id m.context).emitted refl
      (emits_all g.pack 0 es m.context.emitted (quiet_both (lifecycle_end_events o.lifecycle_id) (refusal_events e) (quiet_end P o.lifecycle_id) (quiet_refusal P e)))
  goes_calls (takes_message phase t m is) h = in_the_state h _ (h.state.0, with_reassembly t _ refl h.state.1)
  goes_calls (sets_low_threshold stream bytes m is) h =
      let c : Context P = m.context in
      quietly (with_the_queue h _ (threshold_fits stream bytes c.queue c.emitted (subst FitsBesides is a.fits) h.queue)) c.emitted
      (set_low_threshold stream bytes c).emitted refl (emits_threshold g.pack 0 stream bytes c.queue c.emitted)
  goes_calls (sets_priority stream priority m is) h =
      with_the_queue h _ (priority_fits stream priority m.context.queue (subst FitsBesides is a.fits) h.queue)
  goes_calls (sets_max_message_size bytes m is) h =
      let o : OptionsFit m.context.options = h.options in
      with_the_options h (record m.context.options { max_message_size = bytes }) (record {
        local_port = o.local_port;
        remote_port = o.remote_port;
        incoming_streams = o.incoming_streams;
        outgoing_streams = o.outgoing_streams;
        receiver_window = o.receiver_window;
        zero_checksum_method = o.zero_checksum_method;
        mtu_least = o.mtu_least;
        mtu_most = o.mtu_most;
      }) refl

  answers_none : (r : Requests) (p : ParameterTree) → Answers call r p → ⊥
  answers_none r (reset_response number result sender receiver) h = a.quiet number h.0
  answers_none r p h = h

  no_responses : (r : Requests) (rs : List ParameterTree) → All (Answers call r) rs → Each IsFairParameter rs
  no_responses r [] h = tt
  no_responses r (p ∷ rs) h = absurd (answers_none r p (All-head (Answers call r) p rs h))

  goes_resets : (act : ResetAct P call) → Onward (before_reset act) (after_reset act)
  goes_resets (prepares id phase t m asked can) h =
      let c : Context P = m.context in
      let small : id < 2 ^ 16 = each_among (λ (n : ℕ). n < 2 ^ 16) id asked.streams asked.among.before asked.among.behind asked.among.split (subst FitsBesides asked.asked a.fits) in
      quietly (with_the_queue h _ (prepare_fits id c.queue c.emitted small h.queue)) c.emitted (prepare_reset_stream id c).emitted refl
      (drops g.pack (stream id c.queue.streams).messages c.emitted)
  goes_resets (defers number response last_tsn streams phase t m asked known ahead) h = absurd (a.quiet number (for_outgoing response last_tsn streams asked))
  goes_resets (performs number response last_tsn streams phase t m asked known there) h = absurd (a.quiet number (for_outgoing response last_tsn streams asked))
  goes_resets (processes number streams phase t m asked known) h = absurd (a.quiet number (for_incoming streams asked))
  goes_resets (takes_response span number result sender receiver phase t m asked) h =
      after_outcome g (outcome number result t.requests.current) (in_open phase (record t { requests = _ }) m)
      (in_the_state h _ (h.state.0, with_requests t _ (handle_response_fits m.context.now span number result t.requests h.state.1.requests) h.state.1))
  goes_resets (adds_responses responses phase t m are answers) h =
      with_the_packet h _ (good_add g.most m.packet _ (own_responses responses (no_responses t.requests responses answers)) h.packet)

  goes_handover : (act : HandoverAct P call) → Onward (before_handover act) (after_handover act)
  goes_handover (leaves phase t m is) h = saying (in_the_state h Closed tt) OnClosed tt
  goes_handover (takes_up r m is valid) h =
      let c : Context P = m.context in
      let f = subst FitsBesides is a.fits in
      saying (in_the_state (with_the_queue h _ (restore_fits c.now r.capabilities.message_interleaving r.tx c.queue f.messages f.streams)) _
      (tt, taken_fits c.now c.options r h.options f)) OnConnected tt

  goes_input : (act : InputAct P call) → Onward (before_input act) (after_input act)
  goes_input (ends_packet phase t m) h = in_the_state h _ (h.state.0, with_tracker t _ (end_fits m.context.now t.tracker.tracker h.state.1.tracker) h.state.1)

  pub sounds : Preserves call Onward
  sounds = record {
    same = λ m h. h;
    through = λ {a} {b} {c} f k h. k (f h);
    packets = goes_packets;
    opening = goes_opening;
    closing = goes_closing;
    data_acts = goes_data;
    acknowledging = goes_sack;
    sending = goes_sending;
    time = goes_time;
    calls = goes_calls;
    resets = goes_resets;
    handover = goes_handover;
    input = goes_input;
  }
