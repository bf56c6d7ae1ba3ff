-- Act by act: what an end emits asks once, and so does the packet that it puts together.
use Rattle.std.proofs.Common.{◌≡◌, ℕ, Bool, true, false, List, [], ◌∷◌, ◌++◌, map, refl, sym, ap, subst, ◌∙◌}
use Rattle.std.specs.List.{list_all}
use Rattle.std.proofs.lemmas.Bool.{and_parts, and_from}
use Rattle.std.proofs.lemmas.List.Folds.{list_all-append}
use Rattle.sctp_wire.specs.Parameter.{ParameterTree, reset_response}
use Rattle.sctp_packet.specs.Chunk.{ChunkTree, FragmentTree, re_config_chunk, cookie_echo_chunk, cookie_ack_chunk, fragment_chunk}
use Rattle.sctp_state.specs.Events.{Event, SendPacket, OnConnected, OnConnectionRestarted, OnError, OnClosed, OnStreamsResetPerformed, OnStreamsResetFailed, Emitted}
use Rattle.sctp_tx.specs.RetransmissionQueue.{Sender}
use Rattle.sctp_tx.specs.Resent.{resent_fast}
use Rattle.sctp_tx.specs.ForwardPoints.{chunk_if, forward_chunk}
use Rattle.sctp_tx.specs.Sending as fragments
use Rattle.spec_endpoint.specs.Association.{Context, Endpoint, Packing}
use Rattle.spec_endpoint.specs.Packets.{PacketDraft, header_to, fits, added_if, add, add_all}
use Rattle.spec_endpoint.specs.ResetRequests.{Outcome, Unsettled, Done, Denied, outcome, request_chunk}
use Rattle.spec_endpoint.specs.Shutdown.{ended, over, emptied_if}
use Rattle.spec_endpoint.specs.StreamReset.{on_outcome}
use Rattle.spec_endpoint.specs.Sending.{selective_ack, data_chunks, fast_most, asks_at_once}
use Rattle.spec_endpoint.specs.Laws.{Call, called, ending}
use Rattle.proof_endpoint.specs.Mapped.{Carried, as_carried}
use Rattle.proof_endpoint.specs.Acts.{EndWithPacket, is_plain, is_response, fragments_of, PacketAct, begins, adds_plain, emits, emits_error, counts, before_packets, after_packets, OpeningAct, connects, adds_init, answers_new, answers_waiting, answers_echoed, answers_again, echoes, adds_cookie, establishes, opens, restarts, opens_again, maintains, adds_cookie_ack, before_opening, after_opening, ClosingAct, closes, shuts, shuts_on, before_closing, after_closing, DataAct, takes_data, takes_idata, takes_forward, takes_iforward, before_data, after_data, SackAct, takes_sack, samples, counts_errors, before_sack, after_sack, SendingAct, asks, forces_ack, adds_ack, expires, adds_forward, forwards_later, asks_no_reset, asks_reset, adds_request, sends, sends_fast, before_sending, after_sending, TimeAct, advances, delay_ends, times_out, beats, times_init, times_cookie, times_request, times_items, wakes_request, before_time, after_time, CallAct, accepts, refuses, takes_message, sets_low_threshold, sets_priority, sets_max_message_size, before_call, after_call, ResetAct, prepares, defers, performs, processes, takes_response, adds_responses, before_reset, after_reset, HandoverAct, leaves, takes_up, before_handover, after_handover, InputAct, ends_packet, before_input, after_input, Preserves}
use Rattle.proof_endpoint.proofs.ActsLemmas.{keeps_call}
use Rattle.proof_pair.proofs.EmittedLemmas.{is_no_packet_or_status, EmitsNoPacketOrStatus}
use Rattle.proof_pair.proofs.UntilLemmas.{over_gives_up, sack_act_emits_no_packet_or_status, sending_act_emits_no_packet_or_status, time_act_emits_no_packet_or_status, call_act_emits_no_packet_or_status, reset_act_emits_no_packet_or_status, restart_gives_up}
use Rattle.proof_awake.specs.Line.{asks_once, chunk_asks_once, all_ask_once}
use Rattle.proof_awake.specs.Asking.{event_asks_once, OwnPacketsAskOnce}
use Rattle.spec_endpoint.specs.Opening.{restarted}

-- ---- chunks

plain_asks : (c : ChunkTree) → is_plain c ≡ true → chunk_asks_once c ≡ true
plain_asks (re_config_chunk ps) h = cc
plain_asks c h = refl

forward_asks : (b : Bool) (s : Sender) → chunk_asks_once (chunk_if b s) ≡ true
forward_asks true s = refl
forward_asks false s = refl

data_asks : (is_interleaved is_immediate : Bool) (cs : List (ℕ × FragmentTree)) → all_ask_once (map (fragment_chunk is_interleaved is_immediate) cs) ≡ true
data_asks is_interleaved is_immediate [] = refl
data_asks true is_immediate (c ∷ cs) = data_asks true is_immediate cs
data_asks false is_immediate (c ∷ cs) = data_asks false is_immediate cs

responses_ask : (b : Bool) (rs : List ParameterTree) → list_all is_response rs ≡ true → asks_once b rs ≡ true
responses_ask b [] h = refl
responses_ask b (reset_response number result sender receiver ∷ rs) h = responses_ask b rs h
responses_ask b (r ∷ rs) h = cc

-- ---- packets

pushed : (cs : List ChunkTree) (c : ChunkTree) → all_ask_once cs ≡ true → chunk_asks_once c ≡ true → all_ask_once (cs ++ c ∷ []) ≡ true
pushed [] c h e = and_from (chunk_asks_once c) true e refl
pushed (d ∷ ds) c h e =
    let parts = and_parts (chunk_asks_once d) (all_ask_once ds) h in
    and_from (chunk_asks_once d) (all_ask_once (ds ++ c ∷ [])) parts.0 (pushed ds c parts.1 e)

added_by : (b : Bool) (c : ChunkTree) (p : PacketDraft) → all_ask_once p.chunks ≡ true → chunk_asks_once c ≡ true → all_ask_once (added_if b c p).chunks ≡ true
added_by true c p h e = pushed p.chunks c h e
added_by false c p h e = h

added : (c : ChunkTree) (p : PacketDraft) → all_ask_once p.chunks ≡ true → chunk_asks_once c ≡ true → all_ask_once (add c p).chunks ≡ true
added c p h e = added_by (fits p c) c p h e

all_added : (cs : List ChunkTree) (p : PacketDraft) → all_ask_once p.chunks ≡ true → all_ask_once cs ≡ true → all_ask_once (add_all cs p).chunks ≡ true
all_added [] p h e = h
all_added (c ∷ cs) p h e =
    let parts = and_parts (chunk_asks_once c) (all_ask_once cs) e in
    all_added cs (add c p) (added c p h parts.0) parts.1

-- ---- events

quiet_asks : (e : Event Carried) → is_no_packet_or_status e ≡ true → event_asks_once e ≡ true
quiet_asks (SendPacket p) h = cc
quiet_asks e h = refl

all_quiet : (es : List (Event Carried)) → list_all is_no_packet_or_status es ≡ true → list_all event_asks_once es ≡ true
all_quiet [] h = refl
all_quiet (e ∷ es) h =
    let parts = and_parts (is_no_packet_or_status e) (list_all is_no_packet_or_status es) h in
    and_from (event_asks_once e) (list_all event_asks_once es) (quiet_asks e parts.0) (all_quiet es parts.1)

ending_asks : (e : Event Carried) → ending e ≡ 1 → event_asks_once e ≡ true
ending_asks (SendPacket p) h = cc
ending_asks e h = refl

-- ---- an end at work

pub record Asks (pack : Packing Carried) (es : List (Event Carried)) (cs : List ChunkTree) : Type 0 where
  pub packing : pack ≡ as_carried
  pub emitted : list_all event_asks_once es ≡ true
  pub packet : all_ask_once cs ≡ true

abbrev pub AsksAt : EndWithPacket Carried → Type 0
AsksAt m = Asks m.context.pack m.context.emitted.events m.packet.chunks

module _ (pack : Packing Carried) (es : List (Event Carried)) where
  -- more is emitted
  more : (cs : List ChunkTree) (fs : List (Event Carried)) → list_all event_asks_once fs ≡ true → Asks pack es cs → Asks pack (es ++ fs) cs
  more cs fs e h = record {
    packing = h.packing;
    emitted = list_all-append event_asks_once es fs ∙ and_from (list_all event_asks_once es) (list_all event_asks_once fs) h.emitted e;
    packet = h.packet;
  }

  one : (cs : List ChunkTree) (e : Event Carried) → event_asks_once e ≡ true → Asks pack es cs → Asks pack (es ++ e ∷ []) cs
  one cs e is h = more cs (e ∷ []) (and_from (event_asks_once e) true is refl) h

  quietly : (cs : List ChunkTree) (t u : Emitted Carried) → t.events ≡ es → EmitsNoPacketOrStatus t u → Asks pack es cs → Asks pack u.events cs
  quietly cs t u here l h =
      subst (λ (z : List (Event Carried)). Asks pack z cs) (sym (l.behind ∙ ap (λ (z : List (Event Carried)). z ++ l.events) here))
      (more cs l.events (all_quiet l.events l.all) h)

  -- the packet goes out
  goes_out : (m : EndWithPacket Carried) (cs : List ChunkTree) → Asks pack es cs
      → Asks pack (es ++ SendPacket (pack.write (header_to m.context.options m.packet.tag) m.packet.is_summed cs) ∷ []) []
  goes_out m cs h =
      let k = one cs (SendPacket (pack.write (header_to m.context.options m.packet.tag) m.packet.is_summed cs))
      (ap (λ (f : Packing Carried). all_ask_once (f.write (header_to m.context.options m.packet.tag) m.packet.is_summed cs).chunks) h.packing ∙ h.packet) h in
      record { packing = k.packing; emitted = k.emitted; packet = refl }

  -- another packet
  with_chunks : (cs ds : List ChunkTree) → all_ask_once ds ≡ true → Asks pack es cs → Asks pack es ds
  with_chunks cs ds e h = record { packing = h.packing; emitted = h.emitted; packet = e }

  adds : (p : PacketDraft) (c : ChunkTree) → chunk_asks_once c ≡ true → Asks pack es p.chunks → Asks pack es (add c p).chunks
  adds p c e h = with_chunks p.chunks (add c p).chunks (added c p h.packet e) h

  adds_all : (p : PacketDraft) (cs : List ChunkTree) → all_ask_once cs ≡ true → Asks pack es p.chunks → Asks pack es (add_all cs p).chunks
  adds_all p cs e h = with_chunks p.chunks (add_all cs p).chunks (all_added cs p h.packet e) h

on_outcome_asks : (o : Outcome) (c : Context Carried) (cs : List ChunkTree) → Asks c.pack c.emitted.events cs → Asks (on_outcome o c).pack (on_outcome o c).emitted.events cs
on_outcome_asks Unsettled c cs h = h
on_outcome_asks (Done streams) c cs h = one c.pack c.emitted.events cs (OnStreamsResetPerformed streams) refl h
on_outcome_asks (Denied streams) c cs h = one c.pack c.emitted.events cs (OnStreamsResetFailed streams) refl h

-- ---- acts

module _ (call : Call) where
  abbrev Onward : EndWithPacket Carried → EndWithPacket Carried → Type 0
  Onward a b = AsksAt a → AsksAt b

  with_chunk_asks : (m : EndWithPacket Carried) (c : ChunkTree) → chunk_asks_once c ≡ true → AsksAt m → Asks m.context.pack m.context.emitted.events (add c m.packet).chunks
  with_chunk_asks m c e h = adds m.context.pack m.context.emitted.events m.packet c e h

  one_more : (m : EndWithPacket Carried) (e : Event Carried) → event_asks_once e ≡ true → AsksAt m → Asks m.context.pack (m.context.emitted.events ++ e ∷ []) m.packet.chunks
  one_more m e is h = one m.context.pack m.context.emitted.events m.packet.chunks e is h

  on_packets : (act : PacketAct Carried call) → Onward (before_packets act) (after_packets act)
  on_packets (begins p m new summed to) h = with_chunks m.context.pack m.context.emitted.events m.packet.chunks p.chunks (ap all_ask_once new) h
  on_packets (adds_plain chunk m plain others fair) h = with_chunk_asks m chunk (plain_asks chunk plain) h
  on_packets (emits m some bundled) h = goes_out m.context.pack m.context.emitted.events m m.packet.chunks h
  on_packets (emits_error kind text m) h = one_more m (OnError kind text) refl h
  on_packets (counts m) h = h

  on_opening : (act : OpeningAct Carried call) → Onward (before_opening act) (after_opening act)
  on_opening (connects m is) h = h
  on_opening (adds_init tag first t1 m to) h = with_chunk_asks m _ refl h
  on_opening (answers_new tag i m received to) h = with_chunk_asks m _ refl h
  on_opening (answers_waiting tag i my_tag first t1 m received to) h = with_chunk_asks m _ refl h
  on_opening (answers_echoed tag i t1 cookie t m received to) h = with_chunk_asks m _ refl h
  on_opening (answers_again tag i phase t m received late to) h = with_chunk_asks m _ refl h
  on_opening (echoes tag i cookie my_tag first t1 m received brought) h = h
  on_opening (adds_cookie t1 cookie t m to) h = with_chunk_asks m (cookie_echo_chunk cookie) refl h
  on_opening (establishes tag t1 cookie t m received) h = one_more m OnConnected refl h
  on_opening (opens tag k m echoed none own) h = one_more m OnConnected refl h
  on_opening (restarts tag k phase t m echoed resolution) h =
      let c : Context Carried = m.context in
      let d : Context Carried = emptied_if c.options.avoid_stalls c in
      one c.pack (restarted c).emitted.events m.packet.chunks OnConnected refl
      (one c.pack d.emitted.events m.packet.chunks OnConnectionRestarted refl
      (quietly c.pack c.emitted.events m.packet.chunks c.emitted d.emitted refl (restart_gives_up c) h))
  on_opening (opens_again tag k phase t m echoed resolution) h = one_more m OnConnected refl h
  on_opening (maintains tag k t1 cookie t m echoed resolution) h = one_more m OnConnected refl h
  on_opening (adds_cookie_ack tag back phase t m echoed late) h = with_chunk_asks m cookie_ack_chunk refl h

  on_closing : (act : ClosingAct Carried call) → Onward (before_closing act) (after_closing act)
  on_closing (closes e m there is) h =
      quietly m.context.pack (m.context.emitted.events ++ e ∷ []) m.packet.chunks (ended e m.context).emitted (over e m.context).emitted refl (over_gives_up e m.context)
      (one_more m e (ending_asks e is) h)
  on_closing (shuts phase t m is early) h = h
  on_closing (shuts_on phase next t m late later) h = h

  on_data : (act : DataAct Carried call) → Onward (before_data act) (after_data act)
  on_data (takes_data tag tsn is_immediate f phase t m received right some takes) h = h
  on_data (takes_idata tag tsn is_immediate f phase t m received right some takes) h = h
  on_data (takes_forward tag tsn skipped phase t m received right valid) h = h
  on_data (takes_iforward tag tsn skipped phase t m received right valid) h = h

  -- an act that emits no packet
  quiet : (m : EndWithPacket Carried) (t u : Emitted Carried) → t ≡ m.context.emitted → EmitsNoPacketOrStatus t u → (cs : List ChunkTree)
      → Asks m.context.pack m.context.emitted.events cs → Asks m.context.pack u.events cs
  quiet m t u here l cs h = quietly m.context.pack m.context.emitted.events cs t u (ap (λ (z : Emitted Carried). z.events) here) l h

  on_sack : (act : SackAct Carried call) → Onward (before_sack act) (after_sack act)
  on_sack (takes_sack tag k phase t m received valid) h =
      let act : SackAct Carried call = takes_sack tag k phase t m received valid in
      quiet m m.context.emitted (after_sack act).context.emitted refl (sack_act_emits_no_packet_or_status act) m.packet.chunks h
  on_sack (samples r phase t m) h = h
  on_sack (counts_errors e m) h = h

  on_sending : (act : SendingAct Carried call) → Onward (before_sending act) (after_sending act)
  on_sending (asks also_if_delayed phase t m) h = h
  on_sending (forces_ack phase t m) h = h
  on_sending (adds_ack phase t m) h = with_chunk_asks m (selective_ack t) refl h
  on_sending (expires phase t m) h =
      let act : SendingAct Carried call = expires phase t m in
      quiet m m.context.emitted (after_sending act).context.emitted refl (sending_act_emits_no_packet_or_status act) m.packet.chunks h
  on_sending (adds_forward phase t m due) h = with_chunk_asks m (forward_chunk t.sender) (forward_asks _ t.sender) h
  on_sending (forwards_later n m) h = h
  on_sending (asks_no_reset most m none) h = h
  on_sending (asks_reset most stream streams phase t m some free) h = h
  on_sending (adds_request r phase t m is) h = with_chunk_asks m (request_chunk r) refl h
  on_sending (sends phase t m) h =
      let act : SendingAct Carried call = sends phase t m in
      let f : fragments.Filling Carried = fragments_of t m in
      let small : Bool = asks_at_once m.context.options t.sender in
      let k = adds_all m.context.pack m.context.emitted.events m.packet (data_chunks t small f.chunks) (data_asks t.capabilities.message_interleaving small f.chunks) h in
      quiet m m.context.emitted (after_sending act).context.emitted refl (sending_act_emits_no_packet_or_status act) (add_all (data_chunks t small f.chunks) m.packet).chunks k
  on_sending (sends_fast phase t m some) h =
      let cs : List (ℕ × FragmentTree) = (resent_fast (fast_most m.context.options) t.sender).chunks in
      adds_all m.context.pack m.context.emitted.events m.packet (data_chunks t false cs) (data_asks t.capabilities.message_interleaving false cs) h

  on_time : (act : TimeAct Carried call) → Onward (before_time act) (after_time act)
  on_time (advances now m is on) h = h
  on_time (delay_ends phase t m) h = h
  on_time (times_out phase t m due) h =
      let act : TimeAct Carried call = times_out phase t m due in
      quiet m m.context.emitted (after_time act).context.emitted refl (time_act_emits_no_packet_or_status act) m.packet.chunks h
  on_time (beats b m) h = h
  on_time (times_init tag first old new m) h = h
  on_time (times_cookie old new cookie t m) h = h
  on_time (times_request timer phase t m) h = h
  on_time (times_items timer phase t m) h = h
  on_time (wakes_request phase t m) h = h

  on_calls : (act : CallAct Carried call) → Onward (before_call act) (after_call act)
  on_calls (accepts message o m offered fine) h = h
  on_calls (refuses message o e m offered is) h =
      let act : CallAct Carried call = refuses message o e m offered is in
      quiet m m.context.emitted (after_call act).context.emitted refl (call_act_emits_no_packet_or_status act) m.packet.chunks h
  on_calls (takes_message phase t m is) h = h
  on_calls (sets_low_threshold stream bytes m is) h =
      let act : CallAct Carried call = sets_low_threshold stream bytes m is in
      quiet m m.context.emitted (after_call act).context.emitted refl (call_act_emits_no_packet_or_status act) m.packet.chunks h
  on_calls (sets_priority stream priority m is) h = h
  on_calls (sets_max_message_size bytes m is) h = h

  on_resets : (act : ResetAct Carried call) → Onward (before_reset act) (after_reset act)
  on_resets (prepares stream phase t m asked can) h =
      let act : ResetAct Carried call = prepares stream phase t m asked can in
      quiet m m.context.emitted (after_reset act).context.emitted refl (reset_act_emits_no_packet_or_status act) m.packet.chunks h
  on_resets (defers number response last_tsn streams phase t m asked known ahead) h = h
  on_resets (performs number response last_tsn streams phase t m asked known there) h =
      let act : ResetAct Carried call = performs number response last_tsn streams phase t m asked known there in
      quiet m m.context.emitted (after_reset act).context.emitted refl (reset_act_emits_no_packet_or_status act) m.packet.chunks h
  on_resets (processes number streams phase t m asked known) h = h
  on_resets (takes_response rto number result sender receiver phase t m asked) h = on_outcome_asks (outcome number result t.requests.current) m.context m.packet.chunks h
  on_resets (adds_responses responses phase t m are answers) h = with_chunk_asks m (re_config_chunk responses) (responses_ask false responses are) h

  on_handover : (act : HandoverAct Carried call) → Onward (before_handover act) (after_handover act)
  on_handover (leaves phase t m is) h = one_more m OnClosed refl h
  on_handover (takes_up s m is valid) h = one_more m OnConnected refl h

  on_input : (act : InputAct Carried call) → Onward (before_input act) (after_input act)
  on_input (ends_packet phase t m) h = h

  ask : Preserves call Onward
  ask = record {
    same = λ m h. h;
    through = λ {a} {b} {c} f g h. g (f h);
    packets = on_packets;
    opening = on_opening;
    closing = on_closing;
    data_acts = on_data;
    acknowledging = on_sack;
    sending = on_sending;
    time = on_time;
    calls = on_calls;
    resets = on_resets;
    handover = on_handover;
    input = on_input;
  }

-- ---- a call

pub call_asks : (call : Call) (s : Endpoint Carried) → Asks s.endpoint_state.context.pack s.endpoint_state.context.emitted.events []
    → Asks (called call s).endpoint_state.context.pack (called call s).endpoint_state.context.emitted.events []
call_asks call s h = keeps_call call (ask call) s h

pub own_packets_ask_once : OwnPacketsAskOnce
own_packets_ask_once call s packing emitted = (call_asks call s (record { packing = packing; emitted = emitted; packet = refl })).emitted
