-- Each act of an end leads its claim as a receiver on: what it sends, receives in its acknowledgements, waits for and is asked, and
-- so all of them.
use Rattle.std.proofs.Common.{◌≡◌, ℕ, ◌^◌, ◌+◌, ◌<◌, ◌++◌, Bool, true, false, cond, Option, List, [], ◌∷◌, length, map, All, refl, sym, ap, subst}
use Rattle.std.proofs.lemmas.List.Elements.{All-nil, All-cons}
use Rattle.sctp_serial.specs.Messages as messages
use Rattle.sctp_serial.specs.declared.api.StreamId.{StreamId}
use Rattle.sctp_serial.specs.declared.types.tsn.Tsn.{Tsn}
use Rattle.sctp_wire.specs.Parameter.{ParameterTree, outgoing_reset_request}
use Rattle.sctp_packet.specs.Chunk.{ChunkTree, FragmentTree, re_config_chunk, fragment_chunk}
use Rattle.sctp_state.specs.Events.{Event, OnIncomingStreamReset, OnStreamsResetPerformed, OnStreamsResetFailed, numbers_of}
use Rattle.sctp_state.specs.RetransmissionTimeout.{rto}
use Rattle.sctp_tx.specs.RetransmissionQueue.{Sender}
use Rattle.sctp_tx.specs.ForwardPoints.{chunk_if, forward_chunk}
use Rattle.sctp_tx.specs.Resent.{resent_fast}
use Rattle.sctp_rx.specs.DataTracker.{update_rto, take_ack, force_ack, packet_end, ack_timeout}
use Rattle.proof_protocol.specs.State.{Message}
use Rattle.proof_protocol.specs.Based.{EpochWindows}
use Rattle.sctp_rx.specs.ReassemblyQueue.{defer}
use Rattle.spec_endpoint.specs.Sack.{clean_blocks}
use Rattle.spec_endpoint.specs.Association.{Tcb, Phase, CookieEchoed, CookieWait, Context}
use Rattle.spec_endpoint.specs.Packets.{room, add_all}
use Rattle.spec_endpoint.specs.ResetRequests.{Request, Outcome, Unsettled, Done, Denied, ids, request_chunk, in_progress, outcome, set_last_request}
use Rattle.spec_endpoint.specs.StreamReset.{is_ahead, on_outcome}
use Rattle.spec_endpoint.specs.Sending.{asks_at_once, data_chunks, fast_most}
use Rattle.spec_endpoint.specs.Laws.{Call}
use Rattle.proof_endpoint.specs.Mapped.{Carried}
use Rattle.proof_endpoint.specs.Acts.{EndWithPacket, point_of, IsAsked, IsDue, AsksNoIncoming, Answers, in_open, in_state, with_packet, fragments_of, SackAct, takes_sack, samples, counts_errors, before_sack, after_sack, SendingAct, asks, forces_ack, adds_ack, expires, adds_forward, forwards_later, asks_no_reset, asks_reset, adds_request, sends, sends_fast, before_sending, after_sending, TimeAct, advances, delay_ends, times_out, beats, times_init, times_cookie, times_request, times_items, wakes_request, before_time, after_time, CallAct, accepts, refuses, takes_message, sets_low_threshold, sets_priority, sets_max_message_size, before_call, after_call, ResetAct, prepares, defers, performs, processes, takes_response, adds_responses, before_reset, after_reset, InputAct, ends_packet, before_input, after_input}
use Rattle.proof_pair.proofs.UntilLemmas.{sack_act_emits_no_packet_or_status, sending_act_emits_no_packet_or_status, time_act_emits_no_packet_or_status, call_act_emits_no_packet_or_status, reset_act_emits_no_packet_or_status}
use Rattle.proof_pair.proofs.JoinActsLemmas.{Setting, InvAt}
use Rattle.proof_endpoint.proofs.CallActsLemmas.{answers_leave}
use Rattle.proof_delivery.specs.Asks.{ResetRequest, SaysIncoming}
use Rattle.proof_delivery.specs.StreamEpochs.{are_named, resets_emitted}
use Rattle.proof_delivery.proofs.ClaimLemmas.{Direction, transfer_of, SaysIn, ReceiverClaim, AsksSoon, ReceiverPremises, ReceiverGoes}
use Rattle.proof_delivery.proofs.FrameLemmas.{IsSetting, IsReceivedReset, KeepsJoined}
use Rattle.proof_delivery.proofs.ReadingDataLemmas.{RequestReceived, windows_stay, soon_stays, request_is_received, none_incoming, has_ask}
use Rattle.proof_delivery.proofs.TrackerStaysLemmas.{tracker_timed, tracker_asked, tracker_forced, tracker_ends_packet, tracker_waited}
use Rattle.proof_delivery.proofs.ResetEventsLemmas.{resets_sack, resets_expired, resets_timed_out, resets_sent, resets_threshold, resets_refused}
use Rattle.proof_delivery.proofs.SenderToolLemmas.{same_packets}
use Rattle.proof_delivery.proofs.ReceiverToolLemmas.{SameSender, sender_stays}
use Rattle.proof_delivery.proofs.ReceiverResetLemmas.{responses_say, deferred_leads, performed_on}
use Rattle.proof_delivery.proofs.ReceiverStepLemmas.{rest_changes, acknowledging_changes, step_claims, stays_by, goes_through, goes_same, goes_led, goes_adding, goes_adding_all}
use Rattle.proof_delivery.proofs.ReceiverActsLemmas.{one_more, goes_packets, goes_opening, goes_closing, goes_data, goes_acknowledging}

-- ---- chunks of no weight here

module _ (first least : ℕ) (x : Direction) where
  forward_says : (b : Bool) (s : Sender) → SaysIn first least x (chunk_if b s)
  forward_says true s = tt
  forward_says false s = tt

  data_says_of : (is_interleaved is_immediate : Bool) (c : ℕ × FragmentTree) → SaysIn first least x (fragment_chunk is_interleaved is_immediate c)
  data_says_of true is_immediate c = tt
  data_says_of false is_immediate c = tt

  data_says_by : (is_interleaved is_immediate : Bool) (cs : List (ℕ × FragmentTree)) → All (SaysIn first least x) (map (fragment_chunk is_interleaved is_immediate) cs)
  data_says_by is_interleaved is_immediate [] = All-nil (SaysIn first least x)
  data_says_by is_interleaved is_immediate (c ∷ cs) =
      All-cons (SaysIn first least x) (fragment_chunk is_interleaved is_immediate c) (map (fragment_chunk is_interleaved is_immediate) cs)
      (data_says_of is_interleaved is_immediate c) (data_says_by is_interleaved is_immediate cs)

  data_says : (t : Tcb) (is_immediate : Bool) (cs : List (ℕ × FragmentTree)) → All (SaysIn first least x) (data_chunks t is_immediate cs)
  data_says t is_immediate cs = data_says_by t.capabilities.message_interleaving is_immediate cs

-- an own request answers nothing
request_says : (first least : ℕ) (x : Direction) (r : Request) → SaysIn first least x (request_chunk r)
request_says first least x r =
    All-cons (SaysIncoming first x.done (length x.asks)) (outgoing_reset_request r.number r.number (record { 0 = r.last_tsn }) (ids r.streams)) [] tt
    (All-nil (SaysIncoming first x.done (length x.asks)))

-- ---- an answer leaves what the peer asked

none_emitted : {P : Type 0} (s : ℕ) (es : List (Event P)) (e : Event P) → resets_emitted s (e ∷ []) ≡ 0 → resets_emitted s (es ++ e ∷ []) ≡ resets_emitted s es
none_emitted s [] e none = none
none_emitted s (OnIncomingStreamReset streams ∷ es) e none = ap (λ (n : ℕ). cond (are_named streams s) (1 + n) n) (none_emitted s es e none)
none_emitted s (d ∷ es) e none = none_emitted s es e none

outcome_emits : {P : Type 0} (s : ℕ) (o : Outcome) (c : Context P) → resets_emitted s (on_outcome o c).emitted.events ≡ resets_emitted s c.emitted.events
outcome_emits s Unsettled c = refl
outcome_emits s (Done streams) c = none_emitted s c.emitted.events (OnStreamsResetPerformed streams) refl
outcome_emits s (Denied streams) c = none_emitted s c.emitted.events (OnStreamsResetFailed streams) refl

module _ (message : ℕ → Message) (lifecycle : ℕ → Option ℕ) (is_interleaved : Bool) (g : Setting) (call : Call) (from : Direction)
    (p : ReceiverPremises message lifecycle is_interleaved g call from) (handed : List messages.Message) where
  abbrev Goes : (a b : EndWithPacket Carried) → Type 0
  Goes a b = ReceiverGoes message lifecycle is_interleaved from handed a b

  -- ---- acknowledgements, and what is sent

  goes_sack : (act : SackAct Carried call) → Goes (before_sack act) (after_sack act)
  goes_sack (takes_sack tag k phase t m received valid) =
      let act : SackAct Carried call = takes_sack tag k phase t m received valid in
      goes_same message lifecycle is_interleaved from handed (in_open phase t m) (after_sack act)
      (λ x h. rest_changes message is_interleaved handed t _ t.rtt t.requests x refl refl h) refl (same_packets m.context.emitted (after_sack act).context.emitted (sack_act_emits_no_packet_or_status act))
      (resets_sack true (point_of k t) (clean_blocks k.gap_ack_blocks) t.sender m.context.emitted) refl
  goes_sack (samples r phase t m) =
      let act : SackAct Carried call = samples r phase t m in
      goes_same message lifecycle is_interleaved from handed (in_open phase t m) (after_sack act)
      (λ x h. rest_changes message is_interleaved handed (record t { tracker = record t.tracker { tracker = update_rto (rto r) t.tracker.tracker } }) _ r t.requests x refl refl
      (acknowledging_changes message is_interleaved handed t (update_rto (rto r) t.tracker.tracker) x refl (tracker_timed t.tracker.tracker h.is_tracker (rto r)) h)) refl refl refl refl
  goes_sack (counts_errors e m) =
      goes_same message lifecycle is_interleaved from handed m (after_sack {call = call} (counts_errors e m)) (λ x h. h) refl refl refl refl

  goes_sending : (act : SendingAct Carried call) → InvAt g (before_sending act) → Goes (before_sending act) (after_sending act)
  goes_sending (asks also_if_delayed phase t m) inv =
      let act : SendingAct Carried call = asks also_if_delayed phase t m in
      goes_same message lifecycle is_interleaved from handed (in_open phase t m) (after_sending act)
      (λ x h. acknowledging_changes message is_interleaved handed t (take_ack also_if_delayed t.tracker.tracker) x refl
      (tracker_asked t.tracker.tracker h.is_tracker also_if_delayed) h) refl refl refl refl
  goes_sending (forces_ack phase t m) inv =
      let act : SendingAct Carried call = forces_ack phase t m in
      goes_same message lifecycle is_interleaved from handed (in_open phase t m) (after_sending act)
      (λ x h. acknowledging_changes message is_interleaved handed t (force_ack t.tracker.tracker) x refl
      (tracker_forced t.tracker.tracker h.is_tracker) h) refl refl refl refl
  goes_sending (adds_ack phase t m) inv = goes_acknowledging message lifecycle is_interleaved g call from p handed phase t m inv
  goes_sending (expires phase t m) inv =
      let act : SendingAct Carried call = expires phase t m in
      goes_same message lifecycle is_interleaved from handed (in_open phase t m) (after_sending act)
      (λ x h. rest_changes message is_interleaved handed t _ t.rtt t.requests x refl refl h) refl (same_packets m.context.emitted (after_sending act).context.emitted (sending_act_emits_no_packet_or_status act))
      (resets_expired m.context.now t.sender.outstanding.items m.context.emitted) refl
  goes_sending (adds_forward phase t m due) inv =
      goes_adding message lifecycle is_interleaved from handed (in_open phase t m) (forward_chunk t.sender)
      (λ x claim. forward_says t.tracker.first (transfer_of from).acknowledged x _ t.sender)
  goes_sending (forwards_later n m) inv =
      goes_same message lifecycle is_interleaved from handed m (after_sending {call = call} (forwards_later n m)) (λ x h. h) refl refl refl refl
  goes_sending (asks_no_reset most m none) inv =
      goes_same message lifecycle is_interleaved from handed m (after_sending {call = call} (asks_no_reset most m none)) (λ x h. h) refl refl refl refl
  goes_sending (asks_reset most stream streams phase t m some free) inv =
      let act : SendingAct Carried call = asks_reset most stream streams phase t m some free in
      goes_same message lifecycle is_interleaved from handed (in_open phase t m) (after_sending act) (λ x h. rest_changes message is_interleaved handed t _ t.rtt _ x refl refl h) refl refl refl refl
  goes_sending (adds_request r phase t m is) inv =
      goes_adding message lifecycle is_interleaved from handed (in_open phase t m) (request_chunk r)
      (λ x claim. request_says t.tracker.first (transfer_of from).acknowledged x r)
  goes_sending (sends phase t m) inv =
      let act : SendingAct Carried call = sends phase t m in
      let f = fragments_of t m in
      let chunks : List ChunkTree = data_chunks t (asks_at_once m.context.options t.sender) f.chunks in
      let filled : EndWithPacket Carried = with_packet (add_all chunks m.packet) (in_open phase t m) in
      goes_through message lifecycle is_interleaved from handed (in_open phase t m) filled (after_sending act)
      (goes_adding_all message lifecycle is_interleaved from handed (in_open phase t m) chunks
      (λ x. data_says t.tracker.first (transfer_of from).acknowledged x t (asks_at_once m.context.options t.sender) f.chunks))
      (goes_same message lifecycle is_interleaved from handed filled (after_sending act)
      (λ x h. rest_changes message is_interleaved handed t f.sender t.rtt t.requests x refl refl h) refl (same_packets m.context.emitted (after_sending act).context.emitted (sending_act_emits_no_packet_or_status act))
      (resets_sent m.context.now (room m.packet) t.sender m.context.queue m.context.emitted) refl)
  goes_sending (sends_fast phase t m some) inv =
      let act : SendingAct Carried call = sends_fast phase t m some in
      let resent : List (ℕ × FragmentTree) = (resent_fast (fast_most m.context.options) t.sender).chunks in
      let filled : EndWithPacket Carried = with_packet (add_all (data_chunks t false resent) m.packet) (in_open phase t m) in
      goes_through message lifecycle is_interleaved from handed (in_open phase t m) filled (after_sending act)
      (goes_adding_all message lifecycle is_interleaved from handed (in_open phase t m) (data_chunks t false resent)
      (λ x. data_says t.tracker.first (transfer_of from).acknowledged x t false resent))
      (goes_same message lifecycle is_interleaved from handed filled (after_sending act) (λ x h. rest_changes message is_interleaved handed t _ t.rtt t.requests x refl refl h) refl refl refl refl)

  -- ---- time and calls

  goes_time : (act : TimeAct Carried call) → Goes (before_time act) (after_time act)
  goes_time (advances now m is on) = goes_same message lifecycle is_interleaved from handed m (after_time {call = call} (advances now m is on)) (λ x h. h) refl refl refl refl
  goes_time (delay_ends phase t m) =
      let act : TimeAct Carried call = delay_ends phase t m in
      goes_same message lifecycle is_interleaved from handed (in_open phase t m) (after_time act)
      (λ x h. acknowledging_changes message is_interleaved handed t (ack_timeout m.context.now t.tracker.tracker) x refl
      (tracker_waited t.tracker.tracker h.is_tracker m.context.now) h) refl refl refl refl
  goes_time (times_out phase t m due) =
      let act : TimeAct Carried call = times_out phase t m due in
      goes_same message lifecycle is_interleaved from handed (in_open phase t m) (after_time act)
      (λ x h. rest_changes message is_interleaved handed t _ t.rtt t.requests x refl refl h) refl (same_packets m.context.emitted (after_time act).context.emitted (time_act_emits_no_packet_or_status act))
      (resets_timed_out t.sender.outstanding.items m.context.emitted) refl
  goes_time (beats b m) = goes_same message lifecycle is_interleaved from handed m (after_time {call = call} (beats b m)) (λ x h. h) refl refl refl refl
  goes_time (times_init tag first old new m) =
      goes_same message lifecycle is_interleaved from handed (in_state (CookieWait tag first old) m) (in_state (CookieWait tag first new) m) (λ x h. h) refl refl refl refl
  goes_time (times_cookie old new cookie t m) =
      goes_same message lifecycle is_interleaved from handed (in_open (CookieEchoed old cookie) t m) (in_open (CookieEchoed new cookie) t m) (λ x h. h) refl refl refl refl
  goes_time (times_request timer phase t m) =
      goes_same message lifecycle is_interleaved from handed (in_open phase t m) (after_time {call = call} (times_request timer phase t m))
      (λ x h. rest_changes message is_interleaved handed t t.sender t.rtt _ x refl refl h) refl refl refl refl
  goes_time (times_items timer phase t m) =
      goes_same message lifecycle is_interleaved from handed (in_open phase t m) (after_time {call = call} (times_items timer phase t m))
      (λ x h. rest_changes message is_interleaved handed t _ t.rtt t.requests x refl refl h) refl refl refl refl
  goes_time (wakes_request phase t m) =
      goes_same message lifecycle is_interleaved from handed (in_open phase t m) (after_time {call = call} (wakes_request phase t m))
      (λ x h. rest_changes message is_interleaved handed t t.sender t.rtt _ x refl refl h) refl refl refl refl

  goes_calls : (act : CallAct Carried call) → IsSetting act → Goes (before_call act) (after_call act)
  goes_calls (accepts offer o m offered fine) set = absurd set
  goes_calls (takes_message phase t m is) set = absurd set
  goes_calls (refuses offer o e m offered is) set =
      let act : CallAct Carried call = refuses offer o e m offered is in
      goes_same message lifecycle is_interleaved from handed m (after_call act) (λ x h. h) refl (same_packets m.context.emitted (after_call act).context.emitted (call_act_emits_no_packet_or_status act))
      (resets_refused e o.lifecycle_id m.context.emitted) refl
  goes_calls (sets_low_threshold stream bytes m is) set =
      let act : CallAct Carried call = sets_low_threshold stream bytes m is in
      goes_same message lifecycle is_interleaved from handed m (after_call act) (λ x h. h) refl (same_packets m.context.emitted (after_call act).context.emitted (call_act_emits_no_packet_or_status act))
      (resets_threshold stream bytes m.context.queue m.context.emitted) refl
  goes_calls (sets_priority stream priority m is) set =
      goes_same message lifecycle is_interleaved from handed m (after_call {call = call} (sets_priority stream priority m is)) (λ x h. h) refl refl refl refl
  goes_calls (sets_max_message_size bytes m is) set =
      goes_same message lifecycle is_interleaved from handed m (after_call {call = call} (sets_max_message_size bytes m is)) (λ x h. h) refl refl refl refl

  -- ---- resets of streams

  module _ (phase : Phase) (t : Tcb) (m : EndWithPacket Carried) (inv : InvAt g (in_open phase t m)) (x : Direction) (claim : ReceiverClaim message is_interleaved from handed (in_open phase t m) x) where
    same : SameSender message is_interleaved from.rules x.rules
    same = sender_stays message is_interleaved from x claim.goes

    windows : EpochWindows message x.rules
    windows = windows_stay message lifecycle is_interleaved g call from p handed phase t m inv x claim.kept claim.shown same claim.stay.0

    soon : AsksSoon x
    soon = soon_stays message lifecycle is_interleaved g call from p handed phase t m inv x claim.kept claim.shown same claim.stay.0 claim.stay.1

    few : length x.asks < 2 ^ 32
    few = subst (λ (l : List ResetRequest). length l < 2 ^ 32) (sym claim.stay.0) p.few_asks

    asked_is : (n response : ℕ) (last_tsn : Tsn) (streams : List StreamId) → IsAsked call (outgoing_reset_request n response last_tsn streams)
        → RequestReceived x t.tracker n last_tsn.0 streams
    asked_is n response last_tsn streams asked =
        request_is_received message lifecycle is_interleaved g call from p handed phase t m inv x claim.kept claim.shown same claim.stay.0 n response last_tsn streams asked

    no_incoming : AsksNoIncoming call
    no_incoming = none_incoming message lifecycle is_interleaved g call from p handed phase t m inv x claim.kept claim.shown same claim.stay.0

    responses_true : (responses : List ParameterTree) → All (Answers call t.requests) responses
        → SaysIn t.tracker.first (transfer_of from).acknowledged x (re_config_chunk responses)
    responses_true responses answers =
        responses_say message is_interleaved handed x claim.kept t claim.shown few call no_incoming
        (has_ask message lifecycle is_interleaved g call from p handed phase t m inv x claim.kept claim.shown same claim.stay.0) responses answers

    performs_claims : (n response : ℕ) (last_tsn : Tsn) (streams : List StreamId) (asked : IsAsked call (outgoing_reset_request n response last_tsn streams)) (due : IsDue n t.requests)
        (there : is_ahead last_tsn.0 t ≡ false)
        → (y : Direction) × ReceiverClaim message is_interleaved from handed (after_reset {call = call} (performs n response last_tsn streams phase t m asked due there)) y
    performs_claims n response last_tsn streams asked due there =
        let act : ResetAct Carried call = performs n response last_tsn streams phase t m asked due there in
        let r = performed_on message is_interleaved handed x claim.kept t claim.shown few n last_tsn.0 streams (asked_is n response last_tsn streams asked) due windows.items soon there in
        let e : Event Carried = OnIncomingStreamReset (numbers_of streams) in (
          r.to,
          step_claims message lifecycle is_interleaved from handed (in_open phase t m) (after_reset act) x r.to claim
              (record {
                goes = r.goes;
                kept = r.kept;
                stay = r.stay;
                shown = r.shown;
                performed = λ s. r.performed s m.context.emitted.events;
                emitted = λ h. subst (λ (ps : List Carried). All (λ (q : Carried). All (SaysIn t.tracker.first (transfer_of from).acknowledged r.to) q.chunks) ps)
                    (sym (one_more m.context.emitted.events e refl)) h;
                made = λ h. h;
              }),
        )

  goes_resets : (act : ResetAct Carried call) → IsReceivedReset act → InvAt g (before_reset act) → Goes (before_reset act) (after_reset act)
  goes_resets (prepares stream phase t m asked can) received inv = absurd received
  goes_resets (defers n response last_tsn streams phase t m asked due ahead) received inv =
      goes_led message lifecycle is_interleaved from handed phase phase t (record t { reassembly = defer last_tsn.0 streams t.reassembly; requests = set_last_request n in_progress t.requests }) m refl
      (λ x claim. deferred_leads message is_interleaved handed x claim.kept t claim.shown (few phase t m inv x claim) n last_tsn.0 streams
      (asked_is phase t m inv x claim n response last_tsn streams asked) due (windows phase t m inv x claim).items (soon phase t m inv x claim) ahead)
  goes_resets (performs n response last_tsn streams phase t m asked due there) received inv =
      λ x claim. performs_claims phase t m inv x claim n response last_tsn streams asked due there
  goes_resets (processes n streams phase t m asked known) received inv = λ x claim. absurd (no_incoming phase t m inv x claim n streams asked)
  goes_resets (takes_response wait n result sender receiver phase t m asked) received inv =
      let act : ResetAct Carried call = takes_response wait n result sender receiver phase t m asked in
      let same = answers_leave t.requests.current m.context.now wait n result t.requests in
      λ x claim.
      stays_by message lifecycle is_interleaved from handed (in_open phase t m) (after_reset act) x claim
      (rest_changes message is_interleaved handed t t.sender t.rtt _ x same.0 same.1 claim.shown)
      (λ s. outcome_emits s (outcome n result t.requests.current) m.context)
      (λ h. subst (λ (ps : List Carried). All (λ (q : Carried). All (SaysIn t.tracker.first (transfer_of from).acknowledged x) q.chunks) ps)
      (sym (same_packets m.context.emitted (after_reset act).context.emitted (reset_act_emits_no_packet_or_status act))) h)
      (λ h. h)
  goes_resets (adds_responses responses phase t m are answers) received inv =
      goes_adding message lifecycle is_interleaved from handed (in_open phase t m) (re_config_chunk responses) (λ x claim. responses_true phase t m inv x claim responses answers)

  goes_input : (act : InputAct Carried call) → Goes (before_input act) (after_input act)
  goes_input (ends_packet phase t m) =
      goes_same message lifecycle is_interleaved from handed (in_open phase t m) (after_input {call = call} (ends_packet phase t m))
      (λ x h. acknowledging_changes message is_interleaved handed t (packet_end m.context.now t.tracker.tracker) x refl
      (tracker_ends_packet t.tracker.tracker h.is_tracker m.context.now) h) refl refl refl refl

  -- each act leads the claim on
  pub receiver_keeps : KeepsJoined g call (ReceiverGoes message lifecycle is_interleaved from handed)
  receiver_keeps = record {
    same = λ m x claim. (x, claim);
    through = λ {a} {b} {c} f h. goes_through message lifecycle is_interleaved from handed a b c f h;
    packets = λ act inv next. goes_packets message lifecycle is_interleaved g call from p handed act inv;
    opening = goes_opening message lifecycle is_interleaved g call from p handed;
    closing = λ act shut inv next. goes_closing message lifecycle is_interleaved g call from p handed act shut;
    data_acts = λ act inv next. goes_data message lifecycle is_interleaved g call from p handed act inv;
    acknowledging = λ act inv next. goes_sack act;
    sending = λ act inv next. goes_sending act inv;
    time = λ act inv next. goes_time act;
    calls = λ act set inv next. goes_calls act set;
    resets = λ act received inv next. goes_resets act received inv;
    input = λ act inv next. goes_input act;
  }
