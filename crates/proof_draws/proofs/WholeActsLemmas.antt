-- Each act leaves an end whole: what it has to send has a payload, its request numbers are of 32 bits, and packets without a checksum go to an end
-- with a method.
use Rattle.std.proofs.Common.{◌≡◌, ℕ, ◌<◌, ◌==◌, Bool, true, false, None, List, [], ◌∷◌, ◌++◌, length, nat_lt, All, refl, sym, ap, subst, ◌∙◌, append-nil}
use Rattle.std.specs.List.{list_all}
use Rattle.std.proofs.lemmas.Bool.{and_parts, both_ways, ltb-true}
use Rattle.std.proofs.lemmas.List.Elements.{All-push}
use Rattle.std.proofs.lemmas.List.Folds.{list_all-append}
use Rattle.sctp_serial.specs.Messages.{Message}
use Rattle.sctp_serial.specs.Unwrapped.{u32_space}
use Rattle.sctp_wire.specs.Parameter.{ParameterTree, outgoing_reset_request, incoming_reset_request}
use Rattle.sctp_packet.specs.Chunk.{ChunkTree, InitTree, init_chunk, init_ack_chunk, cookie_echo_chunk, cookie_ack_chunk, re_config_chunk}
use Rattle.sctp_state.specs.Events.{Event, SendPacket, OnConnected, OnError, OnClosed, OnStreamsResetPerformed, OnStreamsResetFailed, Emitted, nothing_emitted}
use Rattle.sctp_state.specs.Options.{Options, SendOptions}
use Rattle.sctp_capabilities.specs.Capabilities.{announced_parameters, negotiate, agreed}
use Rattle.sctp_capabilities.proofs.CapabilitiesLemmas.{negotiated_by_init}
use Rattle.sctp_tx_queue.specs.declared.send_queue.stream.ResetStep.TheVariants.{Requested, Performed, Refused}
use Rattle.sctp_tx_queue.specs.SendQueue.{Queue}
use Rattle.sctp_tx_queue.specs.Resets.{streams_to_request}
use Rattle.sctp_tx_queue.specs.InOrder.{HasRests}
use Rattle.sctp_tx_queue.proofs.RestLemmas.{calls_leave_rests}
use Rattle.sctp_tx.specs.Resent.{is_interleaved, resent_fast}
use Rattle.sctp_tx.specs.ForwardPoints.{chunk_if}
use Rattle.sctp_tx.specs.Sending as fragments
use Rattle.spec_endpoint.specs.Association.{Tcb, Phase, CookieEchoed, State, Closed, CookieWait, Open, Context, Packing}
use Rattle.spec_endpoint.specs.Sack.{clean_blocks}
use Rattle.spec_endpoint.specs.Packets.{PacketDraft, room, add, add_all, header_to, packets_in}
use Rattle.spec_endpoint.specs.ResetRequests.{Requests, Outcome, Unsettled, Done, Denied, outcome, request_chunk}
use Rattle.spec_endpoint.specs.StreamReset.{on_outcome}
use Rattle.spec_endpoint.specs.Sending.{selective_ack, data_chunks, fast_most, asks_at_once}
use Rattle.spec_endpoint.specs.Opening.{init_of, init_ack_of, next_first, agreed_by}
use Rattle.spec_endpoint.specs.Calls.{shown_state, is_shutting_down, is_queue_full, send_refusal, queue_entry, accept}
use Rattle.spec_endpoint.specs.Laws.{Call}
use Rattle.proof_endpoint.specs.Mapped.{Carried, as_carried}
use Rattle.proof_endpoint.specs.Acts.{EndWithPacket, drawn_tag, drawn_first, drawn_tag_alone, PacketAct, begins, adds_plain, emits, emits_error, counts, before_packets, after_packets, OpeningAct, connects, adds_init, answers_new, answers_waiting, answers_echoed, answers_again, echoes, adds_cookie, establishes, opens, restarts, opens_again, maintains, adds_cookie_ack, before_opening, after_opening, ClosingAct, closes, shuts, shuts_on, before_closing, after_closing, DataAct, takes_data, takes_idata, takes_forward, takes_iforward, before_data, after_data, SackAct, takes_sack, samples, counts_errors, before_sack, after_sack, SendingAct, asks, forces_ack, adds_ack, expires, adds_forward, forwards_later, asks_no_reset, asks_reset, adds_request, sends, sends_fast, before_sending, after_sending, TimeAct, advances, delay_ends, times_out, beats, times_init, times_cookie, times_request, times_items, wakes_request, before_time, after_time, CallAct, accepts, refuses, takes_message, sets_low_threshold, sets_priority, sets_max_message_size, before_call, after_call, ResetAct, prepares, defers, performs, processes, takes_response, adds_responses, before_reset, after_reset, HandoverAct, leaves, takes_up, before_handover, after_handover, InputAct, ends_packet, before_input, after_input, point_of, BringsChunk, IsAsked, HasRequest, for_outgoing, for_incoming, IsSummedSo, always, as_held, as_asked, as_before, fragments_of, HasNoEnd, PreservesUntilEnd}
use Rattle.proof_pair.proofs.EmittedLemmas.{EmitsNoPacketOrStatus}
use Rattle.proof_pair.proofs.UntilLemmas.{sack_act_emits_no_packet_or_status, sending_act_emits_no_packet_or_status, time_act_emits_no_packet_or_status, call_act_emits_no_packet_or_status, reset_act_emits_no_packet_or_status, no_end, no_end_over}
use Rattle.proof_pair.proofs.JoinLemmas.{view_of, IsInit, Can}
use Rattle.proof_pair.proofs.JoinActsLemmas.{packets_both, no_packet_or_status_has_no_packets, Setting, InvAt}
use Rattle.proof_pair.proofs.JoinKeepsLemmas.{Rules, init_said, same_verdict, no_restart, no_again}
use Rattle.proof_pair.proofs.JoinFrameLemmas.{joins}
use Rattle.proof_pair.proofs.AskedKeepsLemmas.{some_payload, has_bytes}
use Rattle.proof_draws.specs.Laws.{NumberFits, NumbersFit, NumbersFitIn, number_fits}
use Rattle.proof_draws.proofs.NumberLemmas.{next_fits, answered_in_fits}
use Rattle.proof_draws.specs.Kinds.{IsKind}
use Rattle.proof_draws.proofs.FilledItemsLemmas.{AreFilled, nack_all_filled}
use Rattle.proof_draws.proofs.FilledSendLemmas.{received_filled, sender_expired_filled, resent_fast_filled, sent_fast_filled, FillingIsFilled, fragments_filled}
use Rattle.proof_draws.proofs.WholeLemmas.{is_whole, plain_whole, kind_of, added_whole, added_all_whole, added_summed, added_all_summed, data_chunks_whole, forward_whole, request_whole, responses_whole, new_numbers, known_small, woken_fits, rests_anew, rests_for, agreed_method}

-- ---- an end

abbrev pub StateIsWhole : State → Type 0
StateIsWhole Closed = Unit {0}
StateIsWhole (CookieWait tag first t1) = Unit {0}
StateIsWhole (Open phase t) = NumbersFit t.requests × AreFilled t.sender.outstanding.items

pub numbers_in : (s : State) → StateIsWhole s → NumbersFitIn s
numbers_in Closed h = tt
numbers_in (CookieWait tag first t1) h = tt
numbers_in (Open phase t) h = h.0

-- a packet without a checksum is for an end with this method
abbrev pub Passes : (method : ℕ) → (is_summed : Bool) → Type 0
Passes method is_summed = is_summed ≡ false → (method == 0) ≡ false

pub record IsSaid (method : ℕ) (p : Carried) : Type 0 where
  pub kind : IsKind p.chunks
  pub passes : Passes method p.is_summed

-- the state, the queue, the packet that is put together, its checksum, and the packets that went out
abbrev pub IsWhole : (method : ℕ) → State → Queue → List (Event Carried) → PacketDraft → Type 0
IsWhole method s q es p =
    StateIsWhole s × HasRests q × (list_all is_whole p.chunks ≡ true) × Passes method p.is_summed × All (IsSaid method) (packets_in es)

-- ---- what is emitted

module _ (method : ℕ) where
  abbrev AreSaid : List (Event Carried) → Type 0
  AreSaid es = All (IsSaid method) (packets_in es)

  -- more is emitted, that is no packet
  said_none : (es more now : List (Event Carried)) → now ≡ es ++ more → packets_in more ≡ [] → AreSaid es → AreSaid now
  said_none es more now behind none h =
      subst (All (IsSaid method))
      (sym (ap packets_in behind ∙ (packets_both es more ∙ (ap (λ (ps : List Carried). packets_in es ++ ps) none ∙ append-nil (packets_in es))))) h

  pub said_no_packet_or_status : (t u : Emitted Carried) → EmitsNoPacketOrStatus t u → AreSaid t.events → AreSaid u.events
  said_no_packet_or_status t u l h = said_none t.events l.events u.events l.behind (no_packet_or_status_has_no_packets l.events l.all) h

  said_emitted : (es : List (Event Carried)) (pack : Packing Carried) (o : Options) (p : PacketDraft) → pack ≡ as_carried → IsKind p.chunks → Passes method p.is_summed
      → AreSaid es → AreSaid (es ++ SendPacket (pack.write (header_to o p.tag) p.is_summed p.chunks) ∷ [])
  said_emitted es pack o p packing kind passes h =
      let c : Carried = pack.write (header_to o p.tag) p.is_summed p.chunks in
      let said : IsSaid method c =
      subst (λ (f : Packing Carried). IsSaid method (f.write (header_to o p.tag) p.is_summed p.chunks)) (sym packing) (record { kind = kind; passes = passes }) in
      subst (All (IsSaid method)) (sym (packets_both es (SendPacket c ∷ []))) (All-push (IsSaid method) (packets_in es) c h said)

  -- ---- chunks that are put in

  whole_added : (s : State) (q : Queue) (es : List (Event Carried)) (c : ChunkTree) (p : PacketDraft) → is_whole c ≡ true → IsWhole method s q es p
      → IsWhole method s q es (add c p)
  whole_added s q es c p e h = (h.0, h.1, added_whole c p h.2 e, subst (Passes method) (sym (added_summed c p)) h.3, h.4)

  whole_added_all : (s : State) (q : Queue) (es : List (Event Carried)) (cs : List ChunkTree) (p : PacketDraft) → list_all is_whole cs ≡ true → IsWhole method s q es p
      → IsWhole method s q es (add_all cs p)
  whole_added_all s q es cs p e h = (h.0, h.1, added_all_whole cs p h.2 e, subst (Passes method) (sym (added_all_summed cs p)) h.3, h.4)

-- ---- a message that is accepted

accepted_rests : (m : Message) (o : SendOptions) (s : State) (c : Context Carried) → send_refusal m (shown_state s) c ≡ None → HasRests c.queue
    → HasRests (accept m o c).queue
accepted_rests m o s c fine h =
    let some : (length m.payload == 0) ≡ false =
    some_payload (length m.payload == 0) (nat_lt c.options.max_message_size (length m.payload)) (is_shutting_down (shown_state s)) (is_queue_full m.stream c)
    (length m.payload) c.options.max_message_size fine in
    calls_leave_rests.added m.stream (queue_entry c.queue.next_number c.now m o) c.queue (has_bytes (length m.payload) some) h

-- ---- act by act

module _ (g : Setting) (call : Call) (r : Rules g call) (receives : (tag : ℕ) (chunk : ChunkTree) → BringsChunk call tag chunk → is_whole chunk ≡ true) where
  abbrev method : ℕ
  method = g.other.zero_checksum_method

  abbrev pub WholeAt : EndWithPacket Carried → Type 0
  WholeAt m = IsWhole method m.state m.context.queue m.context.emitted.events m.packet

  -- ---- packets

  method_in : (s : State) (phase : Phase) (t : Tcb) → s ≡ Open phase t → Can (agreed g.own g.other) (view_of s).can → t.capabilities ≡ agreed g.own g.other
  method_in s phase t e h = subst (λ (u : State). Can (agreed g.own g.other) (view_of u).can) e h

  asked_for : (m : EndWithPacket Carried) (tag : ℕ) (i : InitTree) → BringsChunk call tag (init_chunk i) → InvAt g m → agreed_by m.context.options i ≡ agreed g.own g.other
  asked_for m tag i h inv =
      let said : IsInit g.other (view_of g.beside) tag i = init_said g call r tag i m h inv in
      ap (λ (o : Options). agreed_by o i) inv.options
      ∙ (ap (λ (j : InitTree). agreed_by g.own j) said.is ∙ negotiated_by_init g.own g.other)

  summed_so : (m : EndWithPacket Carried) (p : PacketDraft) → InvAt g m → WholeAt m → IsSummedSo call m p → Passes method p.is_summed
  summed_so m p inv h (always e) none = absurd (both_ways true (sym e ∙ none) refl)
  summed_so m p inv h (as_held phase t at_s e) none =
      agreed_method g.own g.other t.capabilities (method_in m.state phase t at_s inv.stands.can) (sym e ∙ none)
  summed_so m p inv h (as_asked tag i received e) none =
      agreed_method g.own g.other (agreed_by m.context.options i) (asked_for m tag i received inv) (sym e ∙ none)
  summed_so m p inv h (as_before e) none = h.3 (sym e ∙ none)

  w_packets : (act : PacketAct Carried call) → InvAt g (before_packets act) → WholeAt (before_packets act) → WholeAt (after_packets act)
  w_packets (begins p m new summed to) inv h = (h.0, h.1, ap (list_all is_whole) new, summed_so m p inv h summed, h.4)
  w_packets (adds_plain chunk m plain others fair) inv h =
      whole_added method m.state m.context.queue m.context.emitted.events chunk m.packet (plain_whole chunk plain) h
  w_packets (emits m some bundled) inv h =
      (h.0, h.1, refl, h.3, said_emitted method m.context.emitted.events m.context.pack m.context.options m.packet inv.packing (kind_of m.packet.chunks bundled h.2) h.3 h.4)
  w_packets (emits_error kind text m) inv h =
      (h.0, h.1, h.2, h.3, said_none method m.context.emitted.events (OnError kind text ∷ []) (m.context.emitted.events ++ OnError kind text ∷ []) refl refl h.4)
  w_packets (counts m) inv h = h

  -- ---- opening

  -- a chunk of the handshake
  adds_other : (s : State) (m : EndWithPacket Carried) (c : ChunkTree) → is_whole c ≡ true → IsWhole method s m.context.queue m.context.emitted.events m.packet
      → IsWhole method s m.context.queue m.context.emitted.events (add c m.packet)
  adds_other s m c e h = whole_added method s m.context.queue m.context.emitted.events c m.packet e h

  connected_said : (m : EndWithPacket Carried) → All (IsSaid method) (packets_in m.context.emitted.events)
      → All (IsSaid method) (packets_in (m.context.emitted.events ++ OnConnected ∷ []))
  connected_said m h = said_none method m.context.emitted.events (OnConnected ∷ []) (m.context.emitted.events ++ OnConnected ∷ []) refl refl h

  w_opening : (act : OpeningAct Carried call) → InvAt g (before_opening act) → InvAt g (after_opening act) → WholeAt (before_opening act) → WholeAt (after_opening act)
  w_opening (connects m is) inv next h = (tt, h.1, h.2, h.3, h.4)
  w_opening (adds_init tag first t1 m to) inv next h =
      adds_other (CookieWait tag first t1) m (init_chunk (init_of m.context.options tag first (announced_parameters m.context.options m.context.options.zero_checksum_method))) refl h
  w_opening (answers_new tag i m received to) inv next h =
      adds_other Closed m (init_ack_chunk (init_ack_of m.context.options i (drawn_tag m) (drawn_first m) 0)) refl h
  w_opening (answers_waiting tag i my_tag first t1 m received to) inv next h =
      adds_other (CookieWait my_tag first t1) m (init_ack_chunk (init_ack_of m.context.options i my_tag first 0)) refl h
  w_opening (answers_echoed tag i t1 cookie t m received to) inv next h =
      adds_other (Open (CookieEchoed t1 cookie) t) m (init_ack_chunk (init_ack_of m.context.options i t.identity.my_tag t.identity.my_first 0)) refl h
  w_opening (answers_again tag i phase t m received late to) inv next h =
      adds_other (Open phase t) m (init_ack_chunk (init_ack_of m.context.options i (drawn_tag_alone m) (next_first t) t.identity.tie)) refl h
  w_opening (echoes tag i cookie my_tag first t1 m received brought) inv next h = (
    (new_numbers m.context.options first i.initial_tsn inv.stands.draw.first, tt),
    rests_anew (agreed_by m.context.options i).message_interleaving m.context.queue h.1,
    h.2,
    h.3,
    h.4,
  )
  w_opening (adds_cookie t1 cookie t m to) inv next h = adds_other (Open (CookieEchoed t1 cookie) t) m (cookie_echo_chunk cookie) refl h
  w_opening (establishes tag t1 cookie t m received) inv next h = (h.0, h.1, h.2, h.3, connected_said m h.4)
  w_opening (opens tag k m echoed none own) inv next h = (
    (new_numbers m.context.options k.my_initial_tsn k.peer_initial_tsn next.stands.draw.first, tt),
    rests_for m.context.options.avoid_stalls (negotiate m.context.options k.peer_capabilities).message_interleaving m.context.queue h.1,
    h.2,
    h.3,
    connected_said m h.4,
  )
  w_opening (restarts tag k phase t m echoed resolution) inv next h = absurd (no_restart _ (same_verdict g call r tag k phase t m echoed inv) resolution)
  w_opening (opens_again tag k phase t m echoed resolution) inv next h = absurd (no_again _ (same_verdict g call r tag k phase t m echoed inv) resolution)
  w_opening (maintains tag k t1 cookie t m echoed resolution) inv next h = (h.0, h.1, h.2, h.3, connected_said m h.4)
  w_opening (adds_cookie_ack tag back phase t m echoed late) inv next h = adds_other (Open phase t) m cookie_ack_chunk refl h

  -- ---- closing

  w_closing : (act : ClosingAct Carried call) → HasNoEnd (after_closing act) → WholeAt (before_closing act) → WholeAt (after_closing act)
  w_closing (closes e m there is) none h = absurd (no_end_over e m is none)
  w_closing (shuts phase t m is early) none h = h
  w_closing (shuts_on phase next t m late later) none h = h

  -- ---- what the peer sent

  w_data : (act : DataAct Carried call) → WholeAt (before_data act) → WholeAt (after_data act)
  w_data (takes_data tag tsn is_immediate f phase t m received right some is) h = h
  w_data (takes_idata tag tsn is_immediate f phase t m received right some is) h = h
  w_data (takes_forward tag tsn skipped phase t m received right valid) h = h
  w_data (takes_iforward tag tsn skipped phase t m received right valid) h = h

  w_sack : (act : SackAct Carried call) → WholeAt (before_sack act) → WholeAt (after_sack act)
  w_sack (takes_sack tag k phase t m received valid) h =
      let act : SackAct Carried call = takes_sack tag k phase t m received valid in (
        (h.0.0, received_filled true m.context.now (point_of k t) k.a_rwnd (clean_blocks k.gap_ack_blocks) t.sender m.context.emitted h.0.1),
        h.1,
        h.2,
        h.3,
        said_no_packet_or_status method m.context.emitted (after_sack act).context.emitted (sack_act_emits_no_packet_or_status act) h.4,
      )
  w_sack (samples k phase t m) h = h
  w_sack (counts_errors e m) h = h

  -- ---- sending

  w_sending : (act : SendingAct Carried call) → WholeAt (before_sending act) → WholeAt (after_sending act)
  w_sending (asks also_if_delayed phase t m) h = h
  w_sending (forces_ack phase t m) h = h
  w_sending (adds_ack phase t m) h = whole_added method (Open phase t) m.context.queue m.context.emitted.events (selective_ack t) m.packet refl h
  w_sending (expires phase t m) h =
      let act : SendingAct Carried call = expires phase t m in (
        (h.0.0, sender_expired_filled m.context.now t.sender m.context.emitted h.0.1),
        h.1,
        h.2,
        h.3,
        said_no_packet_or_status method m.context.emitted (after_sending act).context.emitted (sending_act_emits_no_packet_or_status act) h.4,
      )
  w_sending (adds_forward phase t m due) h =
      whole_added method (Open phase t) m.context.queue m.context.emitted.events (chunk_if (is_interleaved t.sender) t.sender) m.packet (forward_whole (is_interleaved t.sender) t.sender) h
  w_sending (forwards_later n m) h = h
  w_sending (asks_no_reset most m none) h = (h.0, calls_leave_rests.steps Requested (streams_to_request most m.context.queue) m.context.queue h.1, h.2, h.3, h.4)
  w_sending (asks_reset most stream streams phase t m some free) h = (
    (record { next = next_fits t.requests.next; current = h.0.0.next; last = h.0.0.last }, h.0.1),
    calls_leave_rests.steps Requested (streams_to_request most m.context.queue) m.context.queue h.1,
    h.2,
    h.3,
    h.4,
  )
  w_sending (adds_request k phase t m is) h =
      whole_added method (Open phase t) m.context.queue m.context.emitted.events (request_chunk k) m.packet (request_whole k (subst NumberFits is h.0.0.current)) h
  w_sending (sends phase t m) h =
      let act : SendingAct Carried call = sends phase t m in
      let f : fragments.Filling Carried = fragments_of t m in
      let k : FillingIsFilled f = fragments_filled m.context.now (room m.packet) t.sender m.context.queue m.context.emitted h.0.1 h.1 in
      let cs : List ChunkTree = data_chunks t (asks_at_once m.context.options t.sender) f.chunks in
      let p : IsWhole method (Open phase t) m.context.queue m.context.emitted.events (add_all cs m.packet) =
      whole_added_all method (Open phase t) m.context.queue m.context.emitted.events cs m.packet
      (data_chunks_whole t (asks_at_once m.context.options t.sender) f.chunks k.chunks) h in
      ((h.0.0, k.sender), k.queue, p.2, p.3, said_no_packet_or_status method m.context.emitted (after_sending act).context.emitted (sending_act_emits_no_packet_or_status act) h.4)
  w_sending (sends_fast phase t m some) h =
      let most : ℕ = fast_most m.context.options in
      let cs : List ChunkTree = data_chunks t false (resent_fast most t.sender).chunks in
      let p : IsWhole method (Open phase t) m.context.queue m.context.emitted.events (add_all cs m.packet) =
      whole_added_all method (Open phase t) m.context.queue m.context.emitted.events cs m.packet
      (data_chunks_whole t false (resent_fast most t.sender).chunks (resent_fast_filled most t.sender h.0.1).chunks) h in
      ((h.0.0, sent_fast_filled m.context.now most t.sender h.0.1), h.1, p.2, p.3, h.4)

  -- ---- time

  w_time : (act : TimeAct Carried call) → WholeAt (before_time act) → WholeAt (after_time act)
  w_time (advances now m is on) h = h
  w_time (delay_ends phase t m) h = h
  w_time (times_out phase t m due) h =
      let act : TimeAct Carried call = times_out phase t m due in (
        (h.0.0, nack_all_filled t.sender.outstanding.items m.context.emitted h.0.1),
        h.1,
        h.2,
        h.3,
        said_no_packet_or_status method m.context.emitted (after_time act).context.emitted (time_act_emits_no_packet_or_status act) h.4,
      )
  w_time (beats b m) h = h
  w_time (times_init tag first old new m) h = h
  w_time (times_cookie old new cookie t m) h = h
  w_time (times_request timer phase t m) h = ((record { next = h.0.0.next; current = h.0.0.current; last = h.0.0.last }, h.0.1), h.1, h.2, h.3, h.4)
  w_time (times_items timer phase t m) h = h
  w_time (wakes_request phase t m) h = ((woken_fits t.requests h.0.0, h.0.1), h.1, h.2, h.3, h.4)

  -- ---- calls

  w_calls : (act : CallAct Carried call) → WholeAt (before_call act) → WholeAt (after_call act)
  w_calls (accepts message o m offered fine) h = (h.0, accepted_rests message o m.state m.context fine h.1, h.2, h.3, h.4)
  w_calls (refuses message o e m offered is) h =
      let act : CallAct Carried call = refuses message o e m offered is in
      (h.0, h.1, h.2, h.3, said_no_packet_or_status method m.context.emitted (after_call act).context.emitted (call_act_emits_no_packet_or_status act) h.4)
  w_calls (takes_message phase t m is) h = h
  w_calls (sets_low_threshold stream bytes m is) h =
      let act : CallAct Carried call = sets_low_threshold stream bytes m is in (
        h.0,
        calls_leave_rests.threshold stream bytes m.context.queue nothing_emitted h.1,
        h.2,
        h.3,
        said_no_packet_or_status method m.context.emitted (after_call act).context.emitted (call_act_emits_no_packet_or_status act) h.4,
      )
  w_calls (sets_priority stream priority m is) h = (h.0, calls_leave_rests.priority stream priority m.context.queue h.1, h.2, h.3, h.4)
  w_calls (sets_max_message_size bytes m is) h = h

  -- ---- resets of streams

  parameter_fits : (p : ParameterTree) → IsAsked call p → number_fits p ≡ true
  parameter_fits p a =
      let all : list_all number_fits a.parameters ≡ true = receives a.tag (re_config_chunk a.parameters) a.received in
      let split : list_all number_fits (a.among.before ++ p ∷ a.among.behind) ≡ true = sym (ap (list_all number_fits) a.among.split) ∙ all in
      let behind : list_all number_fits (p ∷ a.among.behind) ≡ true =
      (and_parts (list_all number_fits a.among.before) (list_all number_fits (p ∷ a.among.behind))
      (sym (list_all-append number_fits a.among.before (p ∷ a.among.behind)) ∙ split)).1 in
      (and_parts (number_fits p) (list_all number_fits a.among.behind) behind).0

  number_small : (number : ℕ) → HasRequest call number → number < u32_space
  number_small number (for_outgoing response last_tsn streams a) =
      ltb-true number u32_space (parameter_fits (outgoing_reset_request number response last_tsn streams) a)
  number_small number (for_incoming streams a) = ltb-true number u32_space (parameter_fits (incoming_reset_request number streams) a)

  on_outcome_whole : (o : Outcome) (s : State) (c : Context Carried) (p : PacketDraft) → IsWhole method s c.queue c.emitted.events p
      → IsWhole method s (on_outcome o c).queue (on_outcome o c).emitted.events p
  on_outcome_whole Unsettled s c p h = h
  on_outcome_whole (Done streams) s c p h =
      (h.0, calls_leave_rests.steps Performed streams c.queue h.1, h.2, h.3, said_none method c.emitted.events (OnStreamsResetPerformed streams ∷ []) (on_outcome (Done streams) c).emitted.events refl refl h.4)
  on_outcome_whole (Denied streams) s c p h =
      (h.0, calls_leave_rests.steps Refused streams c.queue h.1, h.2, h.3, said_none method c.emitted.events (OnStreamsResetFailed streams ∷ []) (on_outcome (Denied streams) c).emitted.events refl refl h.4)

  processed_fits : (number : ℕ) (q : Requests) (next : Requests) → number < u32_space → next.next ≡ q.next → next.current ≡ q.current → next.last ≡ number → NumbersFit q
      → NumbersFit next
  processed_fits number q next small e f l h = record {
    next = subst (λ (n : ℕ). n < u32_space) (sym e) h.next;
    current = subst NumberFits (sym f) h.current;
    last = subst (λ (n : ℕ). n < u32_space) (sym l) small;
  }

  w_resets : (act : ResetAct Carried call) → WholeAt (before_reset act) → WholeAt (after_reset act)
  w_resets (prepares stream phase t m asked can) h =
      let act : ResetAct Carried call = prepares stream phase t m asked can in (
        h.0,
        calls_leave_rests.prepared stream m.context.queue nothing_emitted h.1,
        h.2,
        h.3,
        said_no_packet_or_status method m.context.emitted (after_reset act).context.emitted (reset_act_emits_no_packet_or_status act) h.4,
      )
  w_resets (defers number response last_tsn streams phase t m asked known ahead) h =
      ((processed_fits number t.requests _ (known_small number t.requests known.known h.0.0) refl refl refl h.0.0, h.0.1), h.1, h.2, h.3, h.4)
  w_resets (performs number response last_tsn streams phase t m asked known there) h =
      let act : ResetAct Carried call = performs number response last_tsn streams phase t m asked known there in (
        (processed_fits number t.requests _ (known_small number t.requests known.known h.0.0) refl refl refl h.0.0, h.0.1),
        h.1,
        h.2,
        h.3,
        said_no_packet_or_status method m.context.emitted (after_reset act).context.emitted (reset_act_emits_no_packet_or_status act) h.4,
      )
  w_resets (processes number streams phase t m asked known) h =
      ((processed_fits number t.requests _ (known_small number t.requests known h.0.0) refl refl refl h.0.0, h.0.1), h.1, h.2, h.3, h.4)
  w_resets (takes_response rto number result sender receiver phase t m asked) h =
      let s : State = (after_reset {call = call} (takes_response rto number result sender receiver phase t m asked)).state in
      on_outcome_whole (outcome number result t.requests.current) s m.context m.packet
      ((answered_in_fits t.requests.current m.context.now rto number result t.requests h.0.0.current h.0.0, h.0.1), h.1, h.2, h.3, h.4)
  w_resets (adds_responses responses phase t m are answers) h =
      whole_added method (Open phase t) m.context.queue m.context.emitted.events (re_config_chunk responses) m.packet
      (responses_whole call number_small t.requests responses answers) h

  -- ---- handover, and the end of a packet

  w_handover : (act : HandoverAct Carried call) → HasNoEnd (after_handover act) → WholeAt (before_handover act) → WholeAt (after_handover act)
  w_handover (leaves phase t m is) none h = absurd (no_end m (after_handover {call = call} (leaves phase t m is)) OnClosed refl refl none)
  w_handover (takes_up d m is valid) none h = absurd (r.restores d is)

  w_input : (act : InputAct Carried call) → WholeAt (before_input act) → WholeAt (after_input act)
  w_input (ends_packet phase t m) h = h

  -- together with what both ends know of each other
  abbrev pub Stays : EndWithPacket Carried → EndWithPacket Carried → Type 0
  Stays a b = InvAt g a × WholeAt a → InvAt g b × WholeAt b

  pub wholes : PreservesUntilEnd call Stays
  wholes =
      let j : PreservesUntilEnd call (λ a b. InvAt g a → InvAt g b) = joins g call r in
      record {
        same = λ m h. h;
        through = λ {a} {b} {c} f k h. k (f h);
        packets = λ act none h. (j.packets act none h.0, w_packets act h.0 h.1);
        opening = λ act none h. let n = j.opening act none h.0 in (n, w_opening act h.0 n h.1);
        closing = λ act none h. (j.closing act none h.0, w_closing act none h.1);
        data_acts = λ act none h. (j.data_acts act none h.0, w_data act h.1);
        acknowledging = λ act none h. (j.acknowledging act none h.0, w_sack act h.1);
        sending = λ act none h. (j.sending act none h.0, w_sending act h.1);
        time = λ act none h. (j.time act none h.0, w_time act h.1);
        calls = λ act none h. (j.calls act none h.0, w_calls act h.1);
        resets = λ act none h. (j.resets act none h.0, w_resets act h.1);
        handover = λ act none h. (j.handover act none h.0, w_handover act none h.1);
        input = λ act none h. (j.input act none h.0, w_input act h.1);
      }
