-- Each call preserves the handover invariant of an end.
use Rattle.std.proofs.Common.{◌≡◌, ℕ, ◌+◌, ◌%◌, ◌^◌, ◌<◌, ◌==◌, nat_lt, Bool, true, false, None, List, ◌∷◌, length, refl, sym, ap, subst, ◌∙◌, arith}
use Rattle.std.proofs.lemmas.Bool.Decides.{nat_tests}
use Rattle.sctp_serial.specs.Unwrapped.{u32_space}
use Rattle.sctp_serial.specs.Messages.{Message}
use Rattle.sctp_packet.specs.Chunk.{FragmentTree, init_ack_chunk}
use Rattle.sctp_chunk.specs.declared.forward_tsn.SkippedStream.{SkippedStream}
use Rattle.sctp_capabilities.specs.Capabilities.{announced_by, negotiate}
use Rattle.sctp_capabilities.specs.StateCookie.{Cookie}
use Rattle.sctp_state.specs.Events.{OnConnected}
use Rattle.sctp_state.specs.RetransmissionTimeout.{Rtt}
use Rattle.sctp_state.specs.Handover.{HandoverState}
use Rattle.sctp_state.specs.Options.{SendOptions}
use Rattle.sctp_state.specs.Validity.{is_valid_state}
use Rattle.sctp_rx.specs.DataTracker as tracker
use Rattle.sctp_rx.specs.DataTracker.{DataTracker, has_seen, moves_on}
use Rattle.sctp_rx.specs.ReassemblyQueue.{Reassembly}
use Rattle.sctp_tx_queue.specs.declared.send_queue.stream.ResetStep.TheVariants.{Requested, Performed, Refused}
use Rattle.sctp_tx_queue.specs.SendQueue.{Queued, Queue, push, stream}
use Rattle.sctp_tx_queue.specs.Resets.{streams_to_request}
use Rattle.sctp_tx_queue.proofs.InOrderLemmas.{added_in_order, set_bytes_mode}
use Rattle.sctp_tx_queue.proofs.RestLemmas.{calls_leave_rests}
use Rattle.spec_endpoint.specs.Association.{Tcb, Phase, CookieEchoed, Established, State, Closed, CookieWait, Open, Context}
use Rattle.spec_endpoint.specs.Packets.{emit_event_in, room}
use Rattle.spec_endpoint.specs.ResetRequests.{Requests, Outcome, Unsettled, Done, Denied, outcome}
use Rattle.spec_endpoint.specs.Sending.{request_started, fast_most}
use Rattle.spec_endpoint.specs.Sack.{timed_by}
use Rattle.spec_endpoint.specs.Handover.{tcb_from, context_restored}
use Rattle.spec_endpoint.specs.Opening as opening
use Rattle.spec_endpoint.specs.Opening.{tsn_from, tag_from, identity_of, tcb_by, long_word, word, drew_word, enter_connected, queue_for, restarted}
use Rattle.spec_endpoint.specs.Data.{added_unless, skipped_if, take_fragment, handle_forward_tsn}
use Rattle.spec_endpoint.specs.Calls.{send_refusal_by, is_shutting_down, is_queue_full, shown_state, send_refusal, queue_entry, accept}
use Rattle.spec_endpoint.specs.StreamReset.{on_outcome}
use Rattle.spec_endpoint.specs.Shutdown.{ended, emptied_if}
use Rattle.spec_endpoint.specs.Laws.{Call, Restore}
use Rattle.proof_endpoint.specs.HandoverRoundTrip.{IsNumberedOnce, CallsNumberOnce, MadeConnected}
use Rattle.proof_endpoint.specs.Acts.{EndWithPacket, end_of, point_of, IsOffered, fragments_of, PacketAct, begins, adds_plain, emits, emits_error, counts, before_packets, after_packets, OpeningAct, connects, adds_init, answers_new, answers_waiting, answers_echoed, answers_again, echoes, adds_cookie, establishes, opens, restarts, opens_again, maintains, adds_cookie_ack, before_opening, after_opening, ClosingAct, closes, shuts, shuts_on, before_closing, after_closing, DataAct, takes_data, takes_idata, takes_forward, takes_iforward, before_data, after_data, SackAct, takes_sack, samples, counts_errors, before_sack, after_sack, SendingAct, asks, forces_ack, adds_ack, expires, adds_forward, forwards_later, asks_no_reset, asks_reset, adds_request, sends, sends_fast, before_sending, after_sending, TimeAct, advances, delay_ends, times_out, beats, times_init, times_cookie, times_request, times_items, wakes_request, before_time, after_time, CallAct, accepts, refuses, takes_message, sets_low_threshold, sets_priority, sets_max_message_size, before_call, after_call, ResetAct, prepares, defers, performs, processes, takes_response, adds_responses, before_reset, after_reset, HandoverAct, leaves, takes_up, before_handover, after_handover, InputAct, ends_packet, before_input, after_input, Preserves, in_open, with_context}
use Rattle.proof_pair.specs.HandoverInvariants.{IsOrdered, HandoverInvariantOf, HandsIn}
use Rattle.proof_pair.proofs.StayLemmas.{stays_same, alike_all, alike_outstanding, alike_received, added_mode, forwarded_mode, reset_mode, Lasts, lasts_same, lasts_sent, stays_fast}
use Rattle.proof_pair.proofs.QueueGoesLemmas.{Goes, goes_same, goes_threshold, goes_priority, goes_prepared, goes_steps, goes_emptied, put_opened_sorted, sent_stays, sent_goes}
use Rattle.proof_pair.proofs.AskedActsLemmas.{names, IsNamed, echo_named, Begins, begins_anew, begins_for, Leads, leads_on, leads_still, leads_block, leads_closed, associated_on}

tag_some : (w : ℕ) → 0 < tag_from w
tag_some w = omega arith

first_small : (w : ℕ) → tsn_from w < u32_space
first_small w = omega arith

wrapped : (n : ℕ) → (n + 1) % 2 ^ 32 < 2 ^ 32
wrapped n = omega arith

-- ---- control blocks

added_unless_mode : (b : Bool) (tsn : ℕ) (f : FragmentTree) (r : Reassembly) → (added_unless b tsn f r).streams.is_interleaved ≡ r.streams.is_interleaved
added_unless_mode true tsn f r = refl
added_unless_mode false tsn f r = added_mode tsn f r

skipped_if_mode : (b : Bool) (tsn : ℕ) (es : List SkippedStream) (r : Reassembly) → (skipped_if b tsn es r).streams.is_interleaved ≡ r.streams.is_interleaved
skipped_if_mode true tsn es r = forwarded_mode tsn es r
skipped_if_mode false tsn es r = refl

lasts_taken : (tsn : ℕ) (is_immediate : Bool) (f : FragmentTree) (t : Tcb) → Lasts t (take_fragment tsn is_immediate f t)
lasts_taken tsn is_immediate f t = record {
  identity = refl;
  capabilities = refl;
  received = refl;
  sent = stays_same t.sender.outstanding;
  mode = added_unless_mode (has_seen t.tracker.tracker (tracker.number_of t.tracker tsn)) tsn f t.reassembly;
}

lasts_forwarded : (tsn : ℕ) (es : List SkippedStream) (t : Tcb) → Lasts t (handle_forward_tsn tsn es t)
lasts_forwarded tsn es t = record {
  identity = refl;
  capabilities = refl;
  received = refl;
  sent = stays_same t.sender.outstanding;
  mode = skipped_if_mode (moves_on (tracker.number_of t.tracker tsn) t.tracker.tracker) tsn es t.reassembly;
}

-- ---- a message is accepted

pub some_payload : (a b c d : Bool) (len limit : ℕ) → send_refusal_by a b c d len limit ≡ None → a ≡ false
some_payload true b c d len limit e = absurd (cc)
some_payload false b c d len limit e = refl

pub has_bytes : (n : ℕ) → (n == 0) ≡ false → nat_lt 0 n ≡ true
has_bytes n e = grind (arith, nat_tests)

accepted_ordered : (m : Message) (o : SendOptions) (s : State) (c : Context (List ℕ)) → send_refusal m (shown_state s) c ≡ None → IsOrdered c.queue
    → IsOrdered (accept m o c).queue
accepted_ordered m o s c fine h =
    let q : Queued = queue_entry c.queue.next_number c.now m o in
    let some : (length m.payload == 0) ≡ false =
    some_payload (length m.payload == 0) (nat_lt c.options.max_message_size (length m.payload)) (is_shutting_down (shown_state s)) (is_queue_full m.stream c)
    (length m.payload) c.options.max_message_size fine in
    record {
      sorted = put_opened_sorted m.stream (push q (stream m.stream c.queue.streams)) c.queue.streams h.sorted;
      order = added_in_order m.stream q c.queue refl h.order;
      next = wrapped c.queue.next_number;
      rests = calls_leave_rests.added m.stream q c.queue (has_bytes (length m.payload) some) h.rests;
    }

-- ---- what of a control block is changed

lasts_timed : (r : Rtt) (t : Tcb) → Lasts t (timed_by r t)
lasts_timed r t = record { identity = refl; capabilities = refl; received = refl; sent = record { first = refl; items = record { partial = refl; mode = refl } }; mode = refl }

lasts_tracked : (t : Tcb) (d : DataTracker) → d.first ≡ t.tracker.first → Lasts t (record t { tracker = d })
lasts_tracked t d e = record { identity = refl; capabilities = refl; received = e; sent = stays_same t.sender.outstanding; mode = refl }

lasts_asked : (t : Tcb) (r : Requests) → Lasts t (record t { requests = r })
lasts_asked t r = record { identity = refl; capabilities = refl; received = refl; sent = stays_same t.sender.outstanding; mode = refl }

lasts_reset : (t : Tcb) (r : Reassembly) (q : Requests) → r.streams.is_interleaved ≡ t.reassembly.streams.is_interleaved → Lasts t (record t { reassembly = r; requests = q })
lasts_reset t r q e = record { identity = refl; capabilities = refl; received = refl; sent = stays_same t.sender.outstanding; mode = e }

lasts_read : (t : Tcb) (r : Reassembly) → r.streams.is_interleaved ≡ t.reassembly.streams.is_interleaved → Lasts t (record t { reassembly = r })
lasts_read t r e = record { identity = refl; capabilities = refl; received = refl; sent = stays_same t.sender.outstanding; mode = e }

lasts_started : (now : ℕ) (streams : List ℕ) (t : Tcb) → Lasts t (request_started now streams t)
lasts_started now streams t = record { identity = refl; capabilities = refl; received = refl; sent = record { first = refl; items = record { partial = refl; mode = refl } }; mode = refl }

outcome_goes : CallsNumberOnce → (o : Outcome) (c : Context (List ℕ)) → Goes c.queue (on_outcome o c).queue
outcome_goes once Unsettled c = goes_same c.queue
outcome_goes once (Done streams) c = goes_steps once Performed streams c.queue
outcome_goes once (Denied streams) c = goes_steps once Refused streams c.queue

outcome_method : (o : Outcome) (c : Context (List ℕ)) → (on_outcome o c).options.zero_checksum_method ≡ c.options.zero_checksum_method
outcome_method Unsettled c = refl
outcome_method (Done streams) c = refl
outcome_method (Denied streams) c = refl

-- ---- act by act

-- what a record that is taken up makes
abbrev pub TakesUp : HandoverState → Type 0
TakesUp h = (c : Context (List ℕ)) → is_valid_state h ≡ true → IsOrdered c.queue
    → HandoverInvariantOf (Open Established (tcb_from c.now c.options h)) (emit_event_in OnConnected (context_restored h c))

-- of the call no message is offered, and nothing is restored
pub record IsQuiet (call : Call) : Type 0 where
  pub none : (m : Message) (o : SendOptions) → IsOffered call m o → ⊥
  pub new : (h : HandoverState) → call ≡ Restore h → ⊥

module _ (once : CallsNumberOnce) (made : MadeConnected) (call : Call) (fits : HandsIn call) (takes : (h : HandoverState) → call ≡ Restore h → TakesUp h) where
  abbrev M : Type 0
  M = EndWithPacket (List ℕ)

  abbrev R : M → M → Type 0
  R a b = Leads (IsQuiet call) a.state a.context b.state b.context

  same : (m : M) → R m m
  same m = leads_still (IsQuiet call) m.state m.context m.context refl refl

  through : (a b c : M) → R a b → R b c → R a c
  through a b c f g = record {
    asked = λ h. g.asked (f.asked h);
    numbers = λ q n. g.numbers q (f.numbers q n);
    next = λ q. g.next q ∙ f.next q;
  }

  -- the context is changed in what is not asked of it
  still : (s : State) (c d : Context (List ℕ)) → d.queue ≡ c.queue → d.options.zero_checksum_method ≡ c.options.zero_checksum_method → Leads (IsQuiet call) s c s d
  still = leads_still (IsQuiet call)

  block : (p q : Phase) (t u : Tcb) (c d : Context (List ℕ)) → Lasts t u → Goes c.queue d.queue
      → d.options.zero_checksum_method ≡ c.options.zero_checksum_method → Leads (IsQuiet call) (Open p t) c (Open q u) d
  block = leads_block (IsQuiet call)

  keeps_packets : (act : PacketAct (List ℕ) call) → R (before_packets act) (after_packets act)
  keeps_packets (begins p m new summed to) = still m.state m.context m.context refl refl
  keeps_packets (adds_plain chunk m plain others fair) = still m.state m.context m.context refl refl
  keeps_packets (emits m some bundled) = still m.state m.context _ refl refl
  keeps_packets (emits_error kind text m) = still m.state m.context _ refl refl
  keeps_packets (counts m) = still m.state m.context _ refl refl

  -- ---- opening

  opened_asked : (resets : Bool) (k : Cookie) (tie : ℕ) (c : Context (List ℕ)) → IsNamed k → IsOrdered c.queue
      → HandoverInvariantOf (Open Established (tcb_by c.options k tie))
      (enter_connected (record c { queue = queue_for resets (negotiate c.options k.peer_capabilities).message_interleaving c.queue; last_tag = k.my_tag }))
  opened_asked resets k tie c n h =
      let b = begins_for once resets (negotiate c.options k.peer_capabilities).message_interleaving c.queue in
      record {
        association = made (identity_of k tie) _ k.peer_capabilities
            (enter_connected (record c { queue = queue_for resets (negotiate c.options k.peer_capabilities).message_interleaving c.queue; last_tag = k.my_tag }))
            n.my_tag n.peer_tag n.my_first n.peer_first b.mode_is;
        queued = b.ordered h;
      }

  opens_by : (resets : Bool) (k : Cookie) (tie : ℕ) (s : State) (b c : Context (List ℕ)) → IsNamed k → c.queue ≡ b.queue
      → Leads (IsQuiet call) s b (Open Established (tcb_by c.options k tie))
      (enter_connected (record c { queue = queue_for resets (negotiate c.options k.peer_capabilities).message_interleaving c.queue; last_tag = k.my_tag }))
  opens_by resets k tie s b c n is =
      let x = begins_for once resets (negotiate c.options k.peer_capabilities).message_interleaving c.queue in
      record {
        asked = λ h. opened_asked resets k tie c n (subst IsOrdered (sym is) h.queued);
        numbers = λ q h. x.numbers (subst IsNumberedOnce (sym is) h);
        next = λ q. x.next ∙ ap (λ (r : Queue). r.next_number) is;
      }

  keeps_opening : (act : OpeningAct (List ℕ) call) → R (before_opening act) (after_opening act)
  keeps_opening (connects m is) = record {
    asked = λ h. record { association = (tag_some (word (drew_word (end_of m))), first_small (word (end_of m))); queued = h.queued };
    numbers = λ q h. h;
    next = λ q. refl;
  }
  keeps_opening (adds_init tag first t1 m to) = still (CookieWait tag first t1) m.context m.context refl refl
  keeps_opening (answers_new tag i m received to) = still Closed m.context m.context refl refl
  keeps_opening (answers_waiting tag i own first t1 m received to) = still (CookieWait own first t1) m.context m.context refl refl
  keeps_opening (answers_echoed tag i t1 cookie t m received to) = still (Open (CookieEchoed t1 cookie) t) m.context m.context refl refl
  keeps_opening (answers_again tag i phase t m received late to) = still (Open phase t) m.context m.context refl refl
  keeps_opening (echoes tag i cookie own first t1 m received brought) =
      let mode : Bool = (opening.agreed_by m.context.options i).message_interleaving in
      let b : Begins mode m.context.queue (opening.queue_anew mode m.context.queue) = begins_anew once mode m.context.queue in
      let peer : (0 < i.initiate_tag) × (i.initial_tsn < u32_space) = names call fits tag (init_ack_chunk i) received in
      record {
        asked = λ h. record {
          association = made (opening.identity_of_init_ack i own first (long_word (end_of m))) i.a_rwnd (announced_by i.nbr_outbound_streams i.nbr_inbound_streams i.parameters)
              (record m.context { peer = opening.maker cookie; last_tag = own; queue = opening.queue_anew mode m.context.queue })
              h.association.0 peer.0 h.association.1 peer.1 b.mode_is;
          queued = b.ordered h.queued;
        };
        numbers = λ q. b.numbers;
        next = λ q. b.next;
      }
  keeps_opening (adds_cookie t1 cookie t m to) = still (Open (CookieEchoed t1 cookie) t) m.context m.context refl refl
  keeps_opening (establishes tag t1 cookie t m received) = block (CookieEchoed t1 cookie) Established t t m.context (enter_connected m.context) (lasts_same t) (goes_same m.context.queue) refl
  keeps_opening (opens tag k m echoed none own) = opens_by m.context.options.avoid_stalls k (long_word (end_of m)) m.state m.context m.context (echo_named call fits tag k echoed) refl
  keeps_opening (restarts tag k phase t m echoed resolution) =
      let c : Context (List ℕ) = m.context in
      let d : Context (List ℕ) = emptied_if c.options.avoid_stalls c in
      through (in_open phase t m) (in_open phase t (with_context d m)) (after_opening {call = call} (restarts tag k phase t m echoed resolution))
      (block phase phase t t c d (lasts_same t) (goes_emptied once c.options.avoid_stalls c.queue c.emitted) refl)
      (opens_by true k (long_word (end_of m)) (Open phase t) d (restarted c) (echo_named call fits tag k echoed) refl)
  keeps_opening (opens_again tag k phase t m echoed resolution) =
      opens_by true k (long_word (end_of m)) (Open phase t) m.context m.context (echo_named call fits tag k echoed) refl
  keeps_opening (maintains tag k t1 cookie t m echoed resolution) =
      block (CookieEchoed t1 cookie) Established t t m.context (enter_connected m.context) (lasts_same t) (goes_same m.context.queue) refl
  keeps_opening (adds_cookie_ack tag back phase t m echoed late) = still (Open phase t) m.context m.context refl refl

  -- ---- closing

  keeps_closing : (act : ClosingAct (List ℕ) call) → R (before_closing act) (after_closing act)
  keeps_closing (closes e m there is) =
      leads_closed (IsQuiet call) m.state m.context _ (goes_emptied once m.context.options.avoid_stalls m.context.queue (ended e m.context).emitted)
  keeps_closing (shuts phase t m is early) = block phase _ t t m.context m.context (lasts_same t) (goes_same m.context.queue) refl
  keeps_closing (shuts_on phase next t m late later) = block phase next t t m.context m.context (lasts_same t) (goes_same m.context.queue) refl

  -- ---- what the peer sent

  keeps_data : (act : DataAct (List ℕ) call) → R (before_data act) (after_data act)
  keeps_data (takes_data tag tsn is_immediate f phase t m received right some is) =
      block phase phase t (take_fragment tsn is_immediate f t) m.context m.context (lasts_taken tsn is_immediate f t) (goes_same m.context.queue) refl
  keeps_data (takes_idata tag tsn is_immediate f phase t m received right some is) =
      block phase phase t (take_fragment tsn is_immediate f t) m.context m.context (lasts_taken tsn is_immediate f t) (goes_same m.context.queue) refl
  keeps_data (takes_forward tag tsn skipped phase t m received right valid) =
      block phase phase t (handle_forward_tsn tsn skipped t) m.context m.context (lasts_forwarded tsn skipped t) (goes_same m.context.queue) refl
  keeps_data (takes_iforward tag tsn skipped phase t m received right valid) =
      block phase phase t (handle_forward_tsn tsn skipped t) m.context m.context (lasts_forwarded tsn skipped t) (goes_same m.context.queue) refl

  keeps_sack : (act : SackAct (List ℕ) call) → R (before_sack act) (after_sack act)
  keeps_sack (takes_sack tag k phase t m received valid) =
      block phase phase t _ m.context _
      (lasts_sent t _ (record { first = refl; items = alike_received (point_of k t) _ _ _ t.sender.outstanding.items m.context.emitted })) (goes_same m.context.queue) refl
  keeps_sack (samples r phase t m) = block phase phase t (timed_by r t) m.context m.context (lasts_timed r t) (goes_same m.context.queue) refl
  keeps_sack (counts_errors e m) = still m.state m.context _ refl refl

  -- ---- sending

  keeps_sending : (act : SendingAct (List ℕ) call) → R (before_sending act) (after_sending act)
  keeps_sending (asks also_if_delayed phase t m) = block phase phase t _ m.context m.context (lasts_tracked t _ refl) (goes_same m.context.queue) refl
  keeps_sending (forces_ack phase t m) = block phase phase t _ m.context m.context (lasts_tracked t _ refl) (goes_same m.context.queue) refl
  keeps_sending (adds_ack phase t m) = block phase phase t _ m.context m.context (lasts_tracked t _ refl) (goes_same m.context.queue) refl
  keeps_sending (expires phase t m) =
      block phase phase t _ m.context _
      (lasts_sent t _ (record { first = refl; items = alike_outstanding m.context.now t.sender.outstanding.items m.context.emitted })) (goes_same m.context.queue) refl
  keeps_sending (adds_forward phase t m due) = still (Open phase t) m.context m.context refl refl
  keeps_sending (forwards_later n m) = still m.state m.context _ refl refl
  keeps_sending (asks_no_reset most m none) = leads_on (IsQuiet call) m.state m.context _ (goes_steps once Requested (streams_to_request most m.context.queue) m.context.queue) refl
  keeps_sending (asks_reset most stream streams phase t m some free) =
      block phase phase t (request_started m.context.now (stream ∷ streams) t) m.context _ (lasts_started m.context.now (stream ∷ streams) t)
      (goes_steps once Requested (streams_to_request most m.context.queue) m.context.queue) refl
  keeps_sending (adds_request r phase t m is) = still (Open phase t) m.context m.context refl refl
  keeps_sending (sends phase t m) =
      let n : ℕ = room m.packet in
      block phase phase t _ m.context _
      (lasts_sent t (fragments_of t m).sender (sent_stays once m.context.now n t.sender m.context.queue m.context.emitted))
      (sent_goes once m.context.now n t.sender m.context.queue m.context.emitted) refl
  keeps_sending (sends_fast phase t m some) =
      block phase phase t _ m.context m.context (lasts_sent t _ (stays_fast m.context.now (fast_most m.context.options) t.sender)) (goes_same m.context.queue) refl

  -- ---- time

  keeps_time : (act : TimeAct (List ℕ) call) → R (before_time act) (after_time act)
  keeps_time (advances now m is on) = still m.state m.context _ refl refl
  keeps_time (delay_ends phase t m) = block phase phase t _ m.context m.context (lasts_tracked t _ refl) (goes_same m.context.queue) refl
  keeps_time (times_out phase t m due) =
      block phase phase t _ m.context _ (lasts_sent t _ (record { first = refl; items = alike_all t.sender.outstanding.items m.context.emitted }))
      (goes_same m.context.queue) refl
  keeps_time (beats h m) = still m.state m.context _ refl refl
  keeps_time (times_init tag first old new m) = record { asked = λ h. record { association = h.association; queued = h.queued }; numbers = λ q h. h; next = λ q. refl }
  keeps_time (times_cookie old new cookie t m) = block _ _ t t m.context m.context (lasts_same t) (goes_same m.context.queue) refl
  keeps_time (times_request timer phase t m) = block phase phase t _ m.context m.context (lasts_asked t _) (goes_same m.context.queue) refl
  keeps_time (times_items timer phase t m) =
      block phase phase t _ m.context m.context (lasts_sent t (record t.sender { t3 = timer }) (stays_same t.sender.outstanding)) (goes_same m.context.queue) refl
  keeps_time (wakes_request phase t m) = block phase phase t _ m.context m.context (lasts_asked t _) (goes_same m.context.queue) refl

  -- ---- calls

  keeps_calls : (act : CallAct (List ℕ) call) → R (before_call act) (after_call act)
  keeps_calls (accepts message o m offered fine) = record {
    asked = λ h. record {
      association = associated_on m.state m.context (accept message o m.context) (set_bytes_mode message.stream _ _ m.context.queue.scheduler) refl h.association;
      queued = accepted_ordered message o m.state m.context fine h.queued;
    };
    numbers = λ q. absurd (q.none message o offered);
    next = λ q. absurd (q.none message o offered);
  }
  keeps_calls (refuses message o e m offered is) = still m.state m.context _ refl refl
  keeps_calls (takes_message phase t m is) = block phase phase t _ m.context m.context (lasts_read t _ refl) (goes_same m.context.queue) refl
  keeps_calls (sets_low_threshold stream bytes m is) =
      leads_on (IsQuiet call) m.state m.context _ (goes_threshold once stream bytes m.context.queue m.context.emitted) refl
  keeps_calls (sets_priority stream priority m is) = leads_on (IsQuiet call) m.state m.context _ (goes_priority once stream priority m.context.queue) refl
  keeps_calls (sets_max_message_size bytes m is) = still m.state m.context _ refl refl

  -- ---- resets of streams

  keeps_resets : (act : ResetAct (List ℕ) call) → R (before_reset act) (after_reset act)
  keeps_resets (prepares stream phase t m asked can) =
      leads_on (IsQuiet call) (Open phase t) m.context _ (goes_prepared once stream m.context.queue m.context.emitted) refl
  keeps_resets (defers number response last_tsn streams phase t m asked known ahead) =
      block phase phase t _ m.context m.context (lasts_reset t _ _ refl) (goes_same m.context.queue) refl
  keeps_resets (performs number response last_tsn streams phase t m asked known there) =
      block phase phase t _ m.context _ (lasts_reset t _ _ (reset_mode streams t.reassembly)) (goes_same m.context.queue) refl
  keeps_resets (processes number streams phase t m asked known) = block phase phase t _ m.context m.context (lasts_asked t _) (goes_same m.context.queue) refl
  keeps_resets (takes_response rto number result sender receiver phase t m asked) =
      let o : Outcome = outcome number result t.requests.current in
      block phase phase t _ m.context (on_outcome o m.context) (lasts_asked t _) (outcome_goes once o m.context) (outcome_method o m.context)
  keeps_resets (adds_responses responses phase t m are answers) = still (Open phase t) m.context m.context refl refl

  -- ---- handover, and the end of a packet

  keeps_handover : (act : HandoverAct (List ℕ) call) → R (before_handover act) (after_handover act)
  keeps_handover (leaves phase t m is) = leads_closed (IsQuiet call) (Open phase t) m.context _ (goes_same m.context.queue)
  keeps_handover (takes_up h m is valid) = record {
    asked = λ x. takes h is m.context valid x.queued;
    numbers = λ q. absurd (q.new h is);
    next = λ q. absurd (q.new h is);
  }

  keeps_input : (act : InputAct (List ℕ) call) → R (before_input act) (after_input act)
  keeps_input (ends_packet phase t m) = block phase phase t _ m.context m.context (lasts_tracked t _ refl) (goes_same m.context.queue) refl

  pub keeps : Preserves call R
  keeps = record {
    same = same;
    through = λ {a} {b} {c}. through a b c;
    packets = keeps_packets;
    opening = keeps_opening;
    closing = keeps_closing;
    data_acts = keeps_data;
    acknowledging = keeps_sack;
    sending = keeps_sending;
    time = keeps_time;
    calls = keeps_calls;
    resets = keeps_resets;
    handover = keeps_handover;
    input = keeps_input;
  }
