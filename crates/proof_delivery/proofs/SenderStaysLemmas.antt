-- Acts that leave the rules of a sender where they are: what it shows stays, no message is given up, and what is put into a
-- packet says nothing of the transfer, nor of a reset.
use Rattle.std.proofs.Common.{◌≡◌, ℕ, ◌++◌, ◌≤◌, ◌*◌, ◌-◌, Bool, true, false, Option, List, [], ◌∷◌, All, refl, sym, ap, ◌∙◌, subst, arith, append-nil}
use Rattle.std.specs.Prelude.{◌/◌}
use Rattle.std.specs.List.{list_all}
use Rattle.std.proofs.lemmas.Bool.{and_parts}
use Rattle.std.proofs.lemmas.List.Elements.{All-nil, All-cons, All-push}
use Rattle.sctp_serial.specs.declared.api.StreamId.{StreamId}
use Rattle.sctp_wire.specs.Parameter.{ParameterTree, reset_response}
use Rattle.sctp_packet.specs.Chunk.{ChunkTree, data_chunk, idata_chunk, re_config_chunk, forward_tsn_chunk, i_forward_tsn_chunk}
use Rattle.sctp_state.specs.Events.{Event, Emitted, SendPacket, OnError, OnStreamsResetFailed, OnIncomingStreamReset, numbers_of, nothing_emitted}
use Rattle.sctp_tx_queue.specs.SendQueue.{Queue, stream}
use Rattle.sctp_tx_queue.specs.Settings.{set_priority, set_low_threshold, with_priority, with_threshold}
use Rattle.sctp_tx_outstanding.specs.OutstandingData.{Items, Outstanding, no_items}
use Rattle.sctp_tx.specs.Windows.{Windows}
use Rattle.sctp_rx.specs.ReassemblyQueue.{defer, reset}
use Rattle.proof_protocol.specs.State.{Message}
use Rattle.proof_protocol.specs.Resets.{Epochs}
use Rattle.proof_refines.specs.Reachable.{recorded_places, delivered_ids}
use Rattle.proof_refines.specs.SenderRefinement.{SenderRefines}
use Rattle.proof_refines.specs.Following.{FollowsEpochs}
use Rattle.proof_refines.proofs.SackLemmas.{delivered_more}
use Rattle.proof_refines.proofs.AcceptLemmas.{with_settings}
use Rattle.proof_refines.proofs.AskedLemmas.{calls_keep_asked, watch_asked}
use Rattle.proof_refines.proofs.QueueKeyLemmas.{written_keyed}
use Rattle.proof_refines.proofs.LineRowLemmas.{calls_keep_line}
use Rattle.proof_refines.proofs.PauseRowLemmas.{settings_pause}
use Rattle.spec_endpoint.specs.Association.{Identity, Tcb, Phase, ShutdownPending, State, Closed, CookieWait, Open, Packing}
use Rattle.spec_endpoint.specs.Packets.{PacketDraft, clear_chunks, header_to, emit_event_in, emit_if, packets_in}
use Rattle.spec_endpoint.specs.ResetRequests.{nothing_to_do, performed, in_progress, set_last_request}
use Rattle.spec_endpoint.specs.Data.{take_fragment, handle_forward_tsn}
use Rattle.spec_endpoint.specs.Input.{at_end}
use Rattle.spec_endpoint.specs.Laws.{Call}
use Rattle.proof_endpoint.specs.Mapped.{Carried}
use Rattle.proof_endpoint.specs.Acts.{EndWithPacket, is_plain, is_response, with_chunk, with_packet, with_context, in_open, PacketAct, begins, adds_plain, emits, emits_error, counts, before_packets, after_packets, ClosingAct, closes, shuts, shuts_on, before_closing, after_closing, DataAct, takes_data, takes_idata, takes_forward, takes_iforward, before_data, after_data, CallAct, accepts, refuses, takes_message, sets_low_threshold, sets_priority, sets_max_message_size, before_call, after_call, InputAct, ends_packet, before_input, after_input}
use Rattle.proof_pair.proofs.EmittedLemmas.{EmitsQuietly, quiet_emits_no_packet_or_status, emits_all, quiet_same, quiet_all, quiet_refused, quiet_threshold}
use Rattle.proof_pair.proofs.AddedLemmas.{holds_added}
use Rattle.proof_pair.proofs.JoinActsLemmas.{Setting, InvAt, packets_both}
use Rattle.proof_delivery.specs.Asks.{ResetRequest, SaysOutgoing, IsAsking}
use Rattle.proof_delivery.specs.StreamEpochs.{performed_of, failed_in}
use Rattle.proof_delivery.proofs.ClaimLemmas.{Direction, transfer_of, SaysOut, first_out, IsWaiting, IsSending, SendsIn, SenderClaim, SenderGoes}
use Rattle.proof_delivery.proofs.FrameLemmas.{GoesOnShut, IsSetting}
use Rattle.proof_delivery.proofs.ResetEventsLemmas.{resets_in, none_behind, resets_threshold, resets_refused, performed_both, named_both}
use Rattle.proof_delivery.proofs.SenderAsksLemmas.{asking_stays, asking_reads}
use Rattle.proof_delivery.proofs.SenderToolLemmas.{same_packets, same_delivered, reports_none, reports_then, EmitsNoAnswer, no_answer, emits_no_answer, SaysAll, SaysPackets}

-- ---- a stream's settings

settings_follow : {P : Type 0} (x : Epochs) (q : Queue) (s : Items) (id n : ℕ) (emitted : Emitted P) → FollowsEpochs x q s
    → FollowsEpochs x (set_priority id n q) s × FollowsEpochs x (set_low_threshold id n q emitted).queue s
settings_follow x q s id n emitted h =
    let z = settings_pause x q h.paused id n emitted in (
      record { paused = z.0; line = calls_keep_line.prioritised id n q h.line; keyed = written_keyed id (with_priority n (stream id q.streams)) q.streams h.keyed; breaks = h.breaks },
      record { paused = z.1; line = calls_keep_line.watched id n nothing_emitted q h.line; keyed = written_keyed id (with_threshold n (stream id q.streams)) q.streams h.keyed; breaks = h.breaks },
    )

-- ---- what is emitted

pub emits_nothing : (es : List (Event Carried)) → EmitsNoAnswer es es
emits_nothing es = record { counted = refl; named = refl; failed = refl }

incoming_fails : (es : List (Event Carried)) (streams : List ℕ) → failed_in (es ++ OnIncomingStreamReset streams ∷ []) ≡ failed_in es
incoming_fails [] streams = refl
incoming_fails (OnStreamsResetFailed ids ∷ es) streams = refl
incoming_fails (e ∷ es) streams = incoming_fails es streams

-- ---- answers say nothing of what is asked

pub responses_ask_nothing : (first : ℕ) (asks : List ResetRequest) (ps : List ParameterTree) → list_all is_response ps ≡ true → All (SaysOutgoing first asks) ps
responses_ask_nothing first asks [] h = All-nil (SaysOutgoing first asks)
responses_ask_nothing first asks (p ∷ ps) h =
    let hs = and_parts (is_response p) (list_all is_response ps) h in
    All-cons (SaysOutgoing first asks) p ps (one p hs.0) (responses_ask_nothing first asks ps hs.1)
  where
    one : (p : ParameterTree) → is_response p ≡ true → SaysOutgoing first asks p
    one (reset_response number result sender receiver) e = tt
    one p e = absurd (cc)

module _ (message : ℕ → Message) (lifecycle : ℕ → Option ℕ) (is_interleaved : Bool) (from : Direction) where
  -- ---- where an act leads

  pub goes_through : (a b c : EndWithPacket Carried) → SenderGoes message lifecycle is_interleaved from a b → SenderGoes message lifecycle is_interleaved from b c
      → SenderGoes message lifecycle is_interleaved from a c
  goes_through a b c g h prepared x claim = let y = g prepared x claim in h prepared y.0 y.1

  -- to the same state of the rules
  pub goes_same : (a b : EndWithPacket Carried) → ((x : Direction) → SendsIn message lifecycle is_interleaved a.state a.context.queue x → SendsIn message lifecycle is_interleaved b.state b.context.queue x)
      → recorded_places b.context.emitted ≡ recorded_places a.context.emitted → first_out b.state ≡ first_out a.state
      → packets_in b.context.emitted.events ≡ packets_in a.context.emitted.events → delivered_ids b.context.emitted.events ≡ delivered_ids a.context.emitted.events
      → EmitsNoAnswer a.context.emitted.events b.context.emitted.events → b.packet.chunks ≡ a.packet.chunks → SenderGoes message lifecycle is_interleaved from a b
  goes_same a b shown given_up_is first packets reports resets chunks prepared x claim =
      let es = a.context.emitted.events in
      let fs = b.context.emitted.events in
      let r = emits_no_answer prepared es fs x x resets refl refl refl in
      let so_far = claim.performed in
      let now = r.performed in (
        x,
        record {
          kept = claim.kept;
          goes = claim.goes;
          done = claim.done;
          shown = shown x claim.shown;
          since = claim.since;
          given_up = given_up_is ∙ claim.given_up;
          reported = reports_then lifecycle (transfer_of from) (transfer_of x) (transfer_of x) [] es fs claim.reported
              (reports_none lifecycle (transfer_of x) (transfer_of x) es fs refl reports);
          performed = omega (arith, so_far, now);
          epochs = λ f h. r.epochs f (claim.epochs f h);
          none_failed = r.none_failed claim.none_failed;
          emitted = subst (λ (n : ℕ). SaysPackets message lifecycle is_interleaved from n x (packets_in fs)) (sym first)
              (subst (λ (ps : List Carried). SaysPackets message lifecycle is_interleaved from (first_out a.state) x ps) (sym packets) claim.emitted);
          made = subst (λ (n : ℕ). SaysAll message lifecycle is_interleaved from n x b.packet.chunks) (sym first)
              (subst (λ (cs : List ChunkTree). SaysAll message lifecycle is_interleaved from (first_out a.state) x cs) (sym chunks) claim.made);
        },
      )

  -- ---- chunks of no weight

  abbrev pub SaysNothing : ChunkTree → Type 0
  SaysNothing chunk = (first least : ℕ) (x : Direction) → SaysOut message is_interleaved first least x chunk

  says_plain : (chunk : ChunkTree) → is_plain chunk ≡ true → SaysNothing chunk
  says_plain (data_chunk tsn is_immediate f) e first least x = cc
  says_plain (idata_chunk tsn is_immediate f) e first least x = cc
  says_plain (forward_tsn_chunk tsn skipped) e first least x = cc
  says_plain (i_forward_tsn_chunk tsn skipped) e first least x = cc
  says_plain (re_config_chunk parameters) e first least x = cc
  says_plain chunk e first least x = tt

  -- a chunk that the claim allows
  pub goes_saying : (m : EndWithPacket Carried) (chunk : ChunkTree)
      → ((prepared : List ℕ) (x : Direction) → SenderClaim message lifecycle is_interleaved from prepared m x
      → SaysOut message is_interleaved (first_out m.state) (transfer_of from).acknowledged x chunk)
      → SenderGoes message lifecycle is_interleaved from m (with_chunk chunk m)
  goes_saying m chunk says prepared x claim = (
    x,
    record {
      kept = claim.kept;
      goes = claim.goes;
      done = claim.done;
      shown = claim.shown;
      since = claim.since;
      given_up = claim.given_up;
      reported = claim.reported;
      performed = claim.performed;
      epochs = claim.epochs;
      none_failed = claim.none_failed;
      emitted = claim.emitted;
      made = holds_added (λ tag. SaysOut message is_interleaved (first_out m.state) (transfer_of from).acknowledged x) m.packet chunk claim.made
          (says prepared x claim);
    },
  )

  pub goes_adding : (m : EndWithPacket Carried) (chunk : ChunkTree) → SaysNothing chunk → SenderGoes message lifecycle is_interleaved from m (with_chunk chunk m)
  goes_adding m chunk says =
      goes_saying m chunk (λ prepared x claim. says (first_out m.state) (transfer_of from).acknowledged x)

  -- ---- the control block

  -- its sender and the draws stay, and what is asked
  pub sends_as : (t u : Tcb) (q : Queue) (x : Direction) → u.sender.outstanding ≡ t.sender.outstanding → u.sender.windows ≡ t.sender.windows → u.identity ≡ t.identity
      → (IsAsking t.identity.my_first x.answered x.asks q t.requests → IsAsking t.identity.my_first x.answered x.asks q u.requests)
      → IsSending message lifecycle is_interleaved t q x → IsSending message lifecycle is_interleaved u q x
  sends_as t u q x items windows identity asks h = record {
    refines = subst (λ (d : Outstanding). SenderRefines message lifecycle is_interleaved (transfer_of x) q d.items) (sym items) h.refines;
    follows = subst (λ (d : Outstanding). FollowsEpochs x.rules q d.items) (sym items) h.follows;
    first = ap (λ (d : Outstanding). d.first) items ∙ (h.first ∙ sym (ap (λ (i : Identity). i.my_first) identity));
    room = subst (λ (w : Windows). 16 ≤ w.mtu / 4 * 4 - 12) (sym windows) h.room;
    asks = subst (λ (i : Identity). IsAsking i.my_first x.answered x.asks q u.requests) (sym identity) (asks h.asks);
  }

  pub goes_open : (phase next : Phase) (t u : Tcb) (m : EndWithPacket Carried) → u.sender.outstanding ≡ t.sender.outstanding → u.sender.windows ≡ t.sender.windows → u.identity ≡ t.identity
      → ((x : Direction) → IsAsking t.identity.my_first x.answered x.asks m.context.queue t.requests → IsAsking t.identity.my_first x.answered x.asks m.context.queue u.requests)
      → SenderGoes message lifecycle is_interleaved from (in_open phase t m) (in_open next u m)
  goes_open phase next t u m items windows identity asks =
      goes_same (in_open phase t m) (in_open next u m) (λ x h. sends_as t u m.context.queue x items windows identity (asks x) h) refl
      (ap (λ (d : Outstanding). d.first) items) refl refl (emits_nothing m.context.emitted.events) refl

  -- its requests say the same
  goes_requests : (phase : Phase) (t u : Tcb) (m : EndWithPacket Carried) → u.sender.outstanding ≡ t.sender.outstanding → u.sender.windows ≡ t.sender.windows → u.identity ≡ t.identity
      → u.requests.next ≡ t.requests.next → u.requests.current ≡ t.requests.current → SenderGoes message lifecycle is_interleaved from (in_open phase t m) (in_open phase u m)
  goes_requests phase t u m items windows identity next current =
      goes_open phase phase t u m items windows identity (λ x h. asking_reads t.identity.my_first x.answered x.asks m.context.queue t.requests u.requests next current h)

  -- ---- packets

  -- the packet goes out
  goes_out : (m : EndWithPacket Carried) (p : Carried) → p.chunks ≡ m.packet.chunks → (prepared : List ℕ) (x : Direction) → SenderClaim message lifecycle is_interleaved from prepared m x
      → SaysPackets message lifecycle is_interleaved from (first_out m.state) x (packets_in (m.context.emitted.events ++ SendPacket p ∷ []))
  goes_out m p is prepared x claim =
      let said : Carried → Type 0 = λ p. SaysAll message lifecycle is_interleaved from (first_out m.state) x p.chunks in
      subst (All said) (sym (packets_both m.context.emitted.events (SendPacket p ∷ [])))
      (All-push said (packets_in m.context.emitted.events) p claim.emitted (subst (λ (cs : List ChunkTree). SaysAll message lifecycle is_interleaved from (first_out m.state) x cs) (sym is) claim.made))

  goes_emitting : (g : Setting) (m : EndWithPacket Carried) → InvAt g m
      → SenderGoes message lifecycle is_interleaved from m (record m { context = emit_if true m.packet m.context; packet = clear_chunks m.packet })
  goes_emitting g m inv prepared x claim =
      let es = m.context.emitted.events in
      let fs = (emit_if true m.packet m.context).emitted.events in
      let r = emits_no_answer prepared es fs x x (no_answer es fs (none_behind es (SendPacket _ ∷ []) refl)) refl refl refl in
      let so_far = claim.performed in
      let now = r.performed in (
        x,
        record {
          kept = claim.kept;
          goes = claim.goes;
          done = claim.done;
          shown = claim.shown;
          since = claim.since;
          given_up = claim.given_up;
          reported = reports_then lifecycle (transfer_of from) (transfer_of x) (transfer_of x) [] es fs claim.reported
              (reports_none lifecycle (transfer_of x) (transfer_of x) es fs refl (delivered_more es (SendPacket _ ∷ []) ∙ append-nil (delivered_ids es)));
          performed = omega (arith, so_far, now);
          epochs = λ f h. r.epochs f (claim.epochs f h);
          none_failed = r.none_failed claim.none_failed;
          emitted = goes_out m (m.context.pack.write (header_to m.context.options m.packet.tag) m.packet.is_summed m.packet.chunks)
              (ap (λ (pack : Packing Carried). (pack.write (header_to m.context.options m.packet.tag) m.packet.is_summed m.packet.chunks).chunks) inv.packing) prepared x claim;
          made = All-nil (SaysOut message is_interleaved (first_out m.state) (transfer_of from).acknowledged x);
        },
      )

  goes_anew : (m : EndWithPacket Carried) (p : PacketDraft) → p.chunks ≡ [] → SenderGoes message lifecycle is_interleaved from m (with_packet p m)
  goes_anew m p new prepared x claim = (
    x,
    record {
      kept = claim.kept;
      goes = claim.goes;
      done = claim.done;
      shown = claim.shown;
      since = claim.since;
      given_up = claim.given_up;
      reported = claim.reported;
      performed = claim.performed;
      epochs = claim.epochs;
      none_failed = claim.none_failed;
      emitted = claim.emitted;
      made = subst (λ (cs : List ChunkTree). SaysAll message lifecycle is_interleaved from (first_out m.state) x cs) (sym new)
          (All-nil (SaysOut message is_interleaved (first_out m.state) (transfer_of from).acknowledged x));
    },
  )

  pub packet_act_goes : {call : Call} (g : Setting) (act : PacketAct Carried call) → InvAt g (before_packets act)
      → SenderGoes message lifecycle is_interleaved from (before_packets act) (after_packets act)
  packet_act_goes g (begins p m new summed to) inv = goes_anew m p new
  packet_act_goes g (adds_plain chunk m plain others fair) inv = goes_adding m chunk (says_plain chunk plain)
  packet_act_goes g (emits m some bundled) inv = goes_emitting g m inv
  packet_act_goes {call} g (emits_error kind text m) inv =
      goes_same m (after_packets {call = call} (emits_error kind text m)) (λ x h. h) refl refl
      (same_packets m.context.emitted _ (emits_all (OnError kind text ∷ []) m.context.emitted refl))
      (same_delivered m.context.emitted _ (quiet_all (OnError kind text ∷ []) m.context.emitted refl))
      (no_answer m.context.emitted.events (m.context.emitted.events ++ OnError kind text ∷ []) (none_behind m.context.emitted.events (OnError kind text ∷ []) refl)) refl
  packet_act_goes {call} g (counts m) inv = goes_same m (after_packets {call = call} (counts m)) (λ x h. h) refl refl refl refl (emits_nothing m.context.emitted.events) refl

  -- ---- closing

  pub closing_act_goes : {call : Call} (act : ClosingAct Carried call) → GoesOnShut act → SenderGoes message lifecycle is_interleaved from (before_closing act) (after_closing act)
  closing_act_goes (closes e m there is) on = absurd on
  closing_act_goes (shuts phase t m is early) on = goes_open phase ShutdownPending t t m refl refl refl (λ x h. h)
  closing_act_goes (shuts_on phase next t m late later) on = goes_open phase next t t m refl refl refl (λ x h. h)

  -- ---- what the peer sent

  pub data_act_goes : {call : Call} (act : DataAct Carried call) → SenderGoes message lifecycle is_interleaved from (before_data act) (after_data act)
  data_act_goes (takes_data tag tsn is_immediate f phase t m received right some is) = goes_open phase phase t (take_fragment tsn is_immediate f t) m refl refl refl (λ x h. h)
  data_act_goes (takes_idata tag tsn is_immediate f phase t m received right some is) = goes_open phase phase t (take_fragment tsn is_immediate f t) m refl refl refl (λ x h. h)
  data_act_goes (takes_forward tag tsn skipped phase t m received right valid) = goes_open phase phase t (handle_forward_tsn tsn skipped t) m refl refl refl (λ x h. h)
  data_act_goes (takes_iforward tag tsn skipped phase t m received right valid) = goes_open phase phase t (handle_forward_tsn tsn skipped t) m refl refl refl (λ x h. h)

  -- ---- calls

  -- what is emitted quietly, and nothing of resets
  goes_emitting_quietly : (a b : EndWithPacket Carried) → EmitsQuietly a.context.emitted b.context.emitted → resets_in b.context.emitted.events ≡ resets_in a.context.emitted.events → b.state ≡ a.state
      → ((x : Direction) → SendsIn message lifecycle is_interleaved a.state a.context.queue x → SendsIn message lifecycle is_interleaved b.state b.context.queue x)
      → recorded_places b.context.emitted ≡ recorded_places a.context.emitted → b.packet.chunks ≡ a.packet.chunks → SenderGoes message lifecycle is_interleaved from a b
  goes_emitting_quietly a b quiet resets same shown given_up_is chunks =
      goes_same a b shown given_up_is (ap first_out same) (same_packets a.context.emitted b.context.emitted (quiet_emits_no_packet_or_status a.context.emitted b.context.emitted quiet))
      (same_delivered a.context.emitted b.context.emitted quiet) (no_answer a.context.emitted.events b.context.emitted.events resets) chunks

  -- streams' settings
  settings_wait : (q : Queue) (id n : ℕ) (emitted : Emitted Carried) (x : Direction) → IsWaiting message lifecycle is_interleaved q x
      → IsWaiting message lifecycle is_interleaved (set_priority id n q) x × IsWaiting message lifecycle is_interleaved (set_low_threshold id n q emitted).queue x
  settings_wait q id n emitted x h =
      let r = with_settings message lifecycle false (transfer_of x) q (no_items false false) h.refines id n emitted in
      let e = settings_follow x.rules q (no_items false false) id n emitted h.follows in (
        record {
          sender = h.sender;
          acknowledged = h.acknowledged;
          no_points = h.no_points;
          no_reports = h.no_reports;
          none_reset = h.none_reset;
          none_asked = h.none_asked;
          refines = r.0;
          follows = e.0;
        },
        record {
          sender = h.sender;
          acknowledged = h.acknowledged;
          no_points = h.no_points;
          no_reports = h.no_reports;
          none_reset = h.none_reset;
          none_asked = h.none_asked;
          refines = r.1;
          follows = e.1;
        },
      )

  settings_shown : (s : State) (q : Queue) (id n : ℕ) (emitted : Emitted Carried) (x : Direction) → SendsIn message lifecycle is_interleaved s q x
      → SendsIn message lifecycle is_interleaved s (set_priority id n q) x × SendsIn message lifecycle is_interleaved s (set_low_threshold id n q emitted).queue x
  settings_shown Closed q id n emitted x h = settings_wait q id n emitted x h
  settings_shown (CookieWait tag first t1) q id n emitted x h = settings_wait q id n emitted x h
  settings_shown (Open phase t) q id n emitted x h =
      let r = with_settings message lifecycle is_interleaved (transfer_of x) q t.sender.outstanding.items h.refines id n emitted in
      let e = settings_follow x.rules q t.sender.outstanding.items id n emitted h.follows in
      let first = t.identity.my_first in (
        record {
          refines = r.0;
          follows = e.0;
          first = h.first;
          room = h.room;
          asks = asking_stays first x.answered x.asks q (set_priority id n q) t.requests (calls_keep_asked.prioritised id n q) h.asks;
        },
        record {
          refines = r.1;
          follows = e.1;
          first = h.first;
          room = h.room;
          asks = asking_stays first x.answered x.asks q (set_low_threshold id n q emitted).queue t.requests (watch_asked id n q emitted) h.asks;
        },
      )

  pub call_act_goes : {call : Call} (act : CallAct Carried call) → IsSetting act → SenderGoes message lifecycle is_interleaved from (before_call act) (after_call act)
  call_act_goes (accepts message o m offered fine) on = absurd on
  call_act_goes {call} (refuses message o e m offered is) on =
      let act : CallAct Carried call = refuses message o e m offered is in
      goes_emitting_quietly m (after_call act) (quiet_refused e o.lifecycle_id m.context.emitted) (resets_refused e o.lifecycle_id m.context.emitted) refl (λ x h. h) refl refl
  call_act_goes (takes_message phase t m is) on = absurd on
  call_act_goes {call} (sets_low_threshold stream bytes m is) on =
      let act : CallAct Carried call = sets_low_threshold stream bytes m is in
      goes_emitting_quietly m (after_call act) (quiet_threshold stream bytes m.context.queue m.context.emitted) (resets_threshold stream bytes m.context.queue m.context.emitted) refl
      (λ x h. (settings_shown m.state m.context.queue stream bytes m.context.emitted x h).1) refl refl
  call_act_goes {call} (sets_priority stream priority m is) on =
      let act : CallAct Carried call = sets_priority stream priority m is in
      goes_emitting_quietly m (after_call act) (quiet_same m.context.emitted) refl refl (λ x h. (settings_shown m.state m.context.queue stream priority m.context.emitted x h).0) refl refl
  call_act_goes {call} (sets_max_message_size bytes m is) on =
      let act : CallAct Carried call = sets_max_message_size bytes m is in
      goes_emitting_quietly m (after_call act) (quiet_same m.context.emitted) refl refl (λ x h. h) refl refl

  -- ---- the peer resets its streams

  pub defers_goes : (phase : Phase) (t : Tcb) (m : EndWithPacket Carried) (number last_tsn : ℕ) (streams : List StreamId)
      → SenderGoes message lifecycle is_interleaved from (in_open phase t m) (in_open phase (record t { reassembly = defer last_tsn streams t.reassembly; requests = set_last_request number in_progress t.requests }) m)
  defers_goes phase t m number last_tsn streams =
      goes_requests phase t (record t { reassembly = defer last_tsn streams t.reassembly; requests = set_last_request number in_progress t.requests }) m refl refl refl refl refl

  pub performs_goes : (phase : Phase) (t : Tcb) (m : EndWithPacket Carried) (number : ℕ) (streams : List StreamId)
      → SenderGoes message lifecycle is_interleaved from (in_open phase t m)
      (in_open phase (record t { reassembly = reset streams t.reassembly; requests = set_last_request number performed t.requests }) (with_context (emit_event_in (OnIncomingStreamReset (numbers_of streams)) m.context) m))
  performs_goes phase t m number streams =
      let u : Tcb = record t { reassembly = reset streams t.reassembly; requests = set_last_request number performed t.requests } in
      let e : Event Carried = OnIncomingStreamReset (numbers_of streams) in
      let es = m.context.emitted.events in
      let b : EndWithPacket Carried = in_open phase u (with_context (emit_event_in e m.context) m) in
      let said : EmitsQuietly m.context.emitted b.context.emitted = quiet_all (e ∷ []) m.context.emitted refl in
      let n = performed_both es (e ∷ []) in
      goes_same (in_open phase t m) b
      (λ x h. sends_as t u m.context.queue x refl refl refl (asking_reads t.identity.my_first x.answered x.asks m.context.queue t.requests u.requests refl refl) h) refl refl
      (same_packets m.context.emitted b.context.emitted (quiet_emits_no_packet_or_status m.context.emitted b.context.emitted said)) (same_delivered m.context.emitted b.context.emitted said)
      (record { counted = omega (arith, n); named = named_both es (e ∷ []) ∙ append-nil (performed_of es); failed = incoming_fails es (numbers_of streams) }) refl

  pub processes_goes : (phase : Phase) (t : Tcb) (m : EndWithPacket Carried) (number : ℕ)
      → SenderGoes message lifecycle is_interleaved from (in_open phase t m) (in_open phase (record t { requests = set_last_request number nothing_to_do t.requests }) m)
  processes_goes phase t m number = goes_requests phase t (record t { requests = set_last_request number nothing_to_do t.requests }) m refl refl refl refl refl

  -- ---- the end of a packet

  pub input_act_goes : {call : Call} (act : InputAct Carried call) → SenderGoes message lifecycle is_interleaved from (before_input act) (after_input act)
  input_act_goes (ends_packet phase t m) = goes_open phase phase t (at_end m.context.now t) m refl refl refl (λ x h. h)
