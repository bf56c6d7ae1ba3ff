-- What a call emits, by acts: numbers are emitted by an end that has a control block, an INIT ACK where an INIT is received, and then a
-- cookie by an end that keeps it.
use Rattle.std.proofs.Common.{◌≡◌, ℕ, not, Bool, true, false, List, [], ◌∷◌, ◌++◌, map, All, refl, sym, ap, subst, ◌∙◌, append_assoc}
use Rattle.std.specs.List.{list_all}
use Rattle.std.proofs.lemmas.Bool.{both_ways, and_parts}
use Rattle.std.proofs.lemmas.List.Elements.{All-nil, All-cons, All-weaker}
use Rattle.sctp_packet.specs.Chunk.{ChunkTree, FragmentTree, InitTree, data_chunk, idata_chunk, init_chunk, init_ack_chunk, sack_chunk, cookie_echo_chunk, cookie_ack_chunk, re_config_chunk, forward_tsn_chunk, i_forward_tsn_chunk, fragment_chunk}
use Rattle.sctp_state.specs.Events.{Event, SendPacket, OnConnected, OnConnectionRestarted, OnError, OnClosed, OnStreamsResetPerformed, OnStreamsResetFailed}
use Rattle.sctp_state.specs.Events as events
use Rattle.sctp_state.specs.Options.{Options}
use Rattle.sctp_state.specs.Handover.{HandoverState}
use Rattle.spec_endpoint.specs.Association.{Tcb, Phase, CookieEchoed, Established, ShutdownPending, State, Closed, CookieWait, Open, Context, Endpoint, Packing}
use Rattle.spec_endpoint.specs.Packets.{PacketDraft, add, add_all, header_to}
use Rattle.spec_endpoint.specs.ResetRequests.{Outcome, Unsettled, Done, Denied, outcome}
use Rattle.spec_endpoint.specs.StreamReset.{on_outcome}
use Rattle.spec_endpoint.specs.Sending.{is_before_cookie_ack, data_chunks, fast_most, asks_at_once}
use Rattle.spec_endpoint.specs.Laws.{Call, Connect, Shutdown, Restore, called}
use Rattle.proof_endpoint.specs.Mapped.{Carried, as_carried}
use Rattle.sctp_tx.specs.Resent.{resent_fast}
use Rattle.sctp_tx.specs.ForwardPoints.{forward_chunk, chunk_if}
use Rattle.sctp_tx.specs.RetransmissionQueue.{Sender}
use Rattle.proof_endpoint.specs.Acts.{EndWithPacket, PacketAct, begins, adds_plain, emits, emits_error, counts, before_packets, after_packets, OpeningAct, connects, adds_init, answers_new, answers_waiting, answers_echoed, answers_again, echoes, adds_cookie, establishes, opens, restarts, opens_again, maintains, adds_cookie_ack, before_opening, after_opening, ClosingAct, closes, shuts, shuts_on, before_closing, after_closing, DataAct, takes_data, takes_idata, takes_forward, takes_iforward, before_data, after_data, SackAct, takes_sack, samples, counts_errors, before_sack, after_sack, SendingAct, asks, forces_ack, adds_ack, expires, adds_forward, forwards_later, asks_no_reset, asks_reset, adds_request, sends, sends_fast, before_sending, after_sending, TimeAct, advances, delay_ends, times_out, beats, times_init, times_cookie, times_request, times_items, wakes_request, before_time, after_time, CallAct, accepts, refuses, takes_message, sets_low_threshold, sets_priority, sets_max_message_size, before_call, after_call, ResetAct, prepares, defers, performs, processes, takes_response, adds_responses, before_reset, after_reset, HandoverAct, leaves, takes_up, before_handover, after_handover, InputAct, ends_packet, before_input, after_input, calm, is_opened, is_plain, BringsChunk, fragments_of, HasNoEnd, PreservesUntilEnd}
use Rattle.proof_pair.proofs.AddedLemmas.{holds_added, holds_all_added}
use Rattle.proof_pair.proofs.EmittedLemmas.{is_no_packet_or_status, EmitsNoPacketOrStatus}
use Rattle.proof_pair.proofs.UntilLemmas.{sack_act_emits_no_packet_or_status, sending_act_emits_no_packet_or_status, time_act_emits_no_packet_or_status, call_act_emits_no_packet_or_status, reset_act_emits_no_packet_or_status, no_end, no_end_over, until_end, restart_gives_up, restart_emits}
use Rattle.proof_pair.proofs.AgreeLemmas.{is_load}
use Rattle.proof_draws.proofs.StepLemmas.{receives_init, is_past, EachChunk}
use Rattle.sctp_capabilities.specs.Capabilities.{announced_parameters}
use Rattle.spec_endpoint.specs.Opening.{init_of, restarted}
use Rattle.spec_endpoint.specs.Shutdown.{emptied_if}

-- what is known of the call
pub record Receives (call : Call) : Type 0 where
  pub inits : (tag : ℕ) (i : InitTree) → BringsChunk call tag (init_chunk i) → receives_init call ≡ true
  pub answers : (tag : ℕ) (i : InitTree) → BringsChunk call tag (init_ack_chunk i) → receives_init call ≡ false
  pub echoes : (tag : ℕ) (cookie : List ℕ) → BringsChunk call tag (cookie_echo_chunk cookie) → receives_init call ≡ false
  pub acks : (tag : ℕ) → BringsChunk call tag cookie_ack_chunk → receives_init call ≡ false
  pub restores : (h : HandoverState) → call ≡ Restore h → ⊥

-- of an end in this state
abbrev pub May : Call → State → ChunkTree → Type 0
May call s (init_ack_chunk i) = receives_init call ≡ true
May call s (cookie_echo_chunk cookie) = receives_init call ≡ true → is_past s ≡ false
May call s c = is_load c ≡ true → is_opened s ≡ true

pub each_both : (P : ChunkTree → Type 0) (es fs : List (Event Carried)) → EachChunk P es → EachChunk P fs → EachChunk P (es ++ fs)
each_both P [] fs h k = k
each_both P (SendPacket p ∷ es) fs h k = (h.0, each_both P es fs h.1 k)
each_both P (e ∷ es) fs h k = each_both P es fs h k

pub each_weaker : (P Q : ChunkTree → Type 0) → ((c : ChunkTree) → P c → Q c) → (es : List (Event Carried)) → EachChunk P es → EachChunk Q es
each_weaker P Q f [] h = tt
each_weaker P Q f (SendPacket p ∷ es) h = (All-weaker P Q f p.chunks h.0, each_weaker P Q f es h.1)
each_weaker P Q f (e ∷ es) h = each_weaker P Q f es h

each_chunk_of_no_packet_or_status : (P : ChunkTree → Type 0) (es : List (Event Carried)) → list_all is_no_packet_or_status es ≡ true → EachChunk P es
each_chunk_of_no_packet_or_status P [] h = tt
each_chunk_of_no_packet_or_status P (SendPacket p ∷ es) h = cc
each_chunk_of_no_packet_or_status P (e ∷ es) h = each_chunk_of_no_packet_or_status P es (and_parts (is_no_packet_or_status e) (list_all is_no_packet_or_status es) h).1

module _ (call : Call) where
  changes : (s u : State) → (is_opened s ≡ true → is_opened u ≡ true) → (receives_init call ≡ true → is_past s ≡ false → is_past u ≡ false)
      → (c : ChunkTree) → May call s c → May call u c
  changes s u f g (init_ack_chunk i) h = h
  changes s u f g (cookie_echo_chunk cookie) h = λ e. g e (h e)
  changes s u f g c h = λ e. f (h e)

  plain_may : (s : State) (c : ChunkTree) → is_plain c ≡ true → May call s c
  plain_may s (init_ack_chunk i) h = cc
  plain_may s (cookie_echo_chunk cookie) h = cc
  plain_may s (data_chunk tsn immediate f) h = cc
  plain_may s (idata_chunk tsn immediate f) h = cc
  plain_may s (sack_chunk k) h = cc
  plain_may s (re_config_chunk parameters) h = cc
  plain_may s (forward_tsn_chunk tsn skipped) h = cc
  plain_may s (i_forward_tsn_chunk tsn skipped) h = cc
  plain_may s c h = λ e. cc

  init_may : (s : State) (i : InitTree) → May call s (init_chunk i)
  init_may s i = λ e. cc

  data_may_by : (phase : Phase) (t : Tcb) (is_interleaved is_immediate : Bool) (c : ℕ × FragmentTree) → May call (Open phase t) (fragment_chunk is_interleaved is_immediate c)
  data_may_by phase t true is_immediate c = λ e. refl
  data_may_by phase t false is_immediate c = λ e. refl

  data_may : (phase : Phase) (t : Tcb) (is_interleaved is_immediate : Bool) (cs : List (ℕ × FragmentTree))
      → All (May call (Open phase t)) (map (fragment_chunk is_interleaved is_immediate) cs)
  data_may phase t is_interleaved is_immediate [] = All-nil (May call (Open phase t))
  data_may phase t is_interleaved is_immediate (c ∷ cs) =
      All-cons (May call (Open phase t)) (fragment_chunk is_interleaved is_immediate c) (map (fragment_chunk is_interleaved is_immediate) cs)
      (data_may_by phase t is_interleaved is_immediate c) (data_may phase t is_interleaved is_immediate cs)

  forward_may : (phase : Phase) (t : Tcb) (b : Bool) (s : Sender) → May call (Open phase t) (chunk_if b s)
  forward_may phase t true s = λ e. refl
  forward_may phase t false s = λ e. refl

pub record Emitted (P : ChunkTree → Type 0) (pack : Packing Carried) (es : List (Event Carried)) (chunks : List ChunkTree) : Type 0 where
  pub packing : pack ≡ as_carried
  pub emitted : EachChunk P es
  pub made : All P chunks

module _ (P : ChunkTree → Type 0) (pack : Packing Carried) (es : List (Event Carried)) (chunks : List ChunkTree) (h : Emitted P pack es chunks) where
  -- other is asked, and more is emitted
  emitted_more : (Q : ChunkTree → Type 0) → ((c : ChunkTree) → P c → Q c) → (more now : List (Event Carried)) → now ≡ es ++ more → EachChunk Q more
      → Emitted Q pack now chunks
  emitted_more Q f more now behind k = record {
    packing = h.packing;
    emitted = subst (EachChunk Q) (sym behind) (each_both Q es more (each_weaker P Q f es h.emitted) k);
    made = All-weaker P Q f chunks h.made;
  }

  emitted_as : (Q : ChunkTree → Type 0) → ((c : ChunkTree) → P c → Q c) → Emitted Q pack es chunks
  emitted_as Q f = record { packing = h.packing; emitted = each_weaker P Q f es h.emitted; made = All-weaker P Q f chunks h.made }

  emitted_no_packet_or_status : (t u : events.Emitted Carried) → t.events ≡ es → EmitsNoPacketOrStatus t u → Emitted P pack u.events chunks
  emitted_no_packet_or_status t u here l =
      emitted_more P (λ c k. k) l.events u.events (l.behind ∙ ap (λ (z : List (Event Carried)). z ++ l.events) here) (each_chunk_of_no_packet_or_status P l.events l.all)

  emitted_one : (e : Event Carried) → EachChunk P (e ∷ []) → Emitted P pack (es ++ e ∷ []) chunks
  emitted_one e k = emitted_more P (λ c z. z) (e ∷ []) (es ++ e ∷ []) refl k

  -- another packet
  emitted_made : (cs : List ChunkTree) → All P cs → Emitted P pack es cs
  emitted_made cs k = record { packing = h.packing; emitted = h.emitted; made = k }

  emitted_emitted : (o : Options) (tag : ℕ) (is_summed : Bool) → Emitted P pack (es ++ SendPacket (pack.write (header_to o tag) is_summed chunks) ∷ []) []
  emitted_emitted o tag is_summed =
      let p : Carried = pack.write (header_to o tag) is_summed chunks in
      let is : p ≡ as_carried.write (header_to o tag) is_summed chunks = ap (λ (f : Packing Carried). f.write (header_to o tag) is_summed chunks) h.packing in
      record {
        packing = h.packing;
        emitted = each_both P es (SendPacket p ∷ []) h.emitted (subst (λ (q : Carried). All P q.chunks) (sym is) h.made, tt);
        made = All-nil P;
      }

module _ (P : ChunkTree → Type 0) (pack : Packing Carried) (es : List (Event Carried)) where
  emitted_adds : (p : PacketDraft) (c : ChunkTree) → Emitted P pack es p.chunks → P c → Emitted P pack es (add c p).chunks
  emitted_adds p c h k = emitted_made P pack es p.chunks h (add c p).chunks (holds_added (λ tag. P) p c h.made k)

  emitted_adds_all : (cs : List ChunkTree) (p : PacketDraft) → Emitted P pack es p.chunks → All P cs → Emitted P pack es (add_all cs p).chunks
  emitted_adds_all cs p h k = emitted_made P pack es p.chunks h (add_all cs p).chunks (holds_all_added (λ tag. P) cs p h.made (λ tag. k))

module _ (call : Call) (g : Receives call) where
  abbrev pub EmitsAt : EndWithPacket Carried → Type 0
  EmitsAt m = Emitted (May call m.state) m.context.pack m.context.emitted.events m.packet.chunks

  abbrev R : EndWithPacket Carried → EndWithPacket Carried → Type 0
  R a b = EmitsAt a → EmitsAt b

  no_init : {A : Type 0} (c : Call) → call ≡ c → receives_init c ≡ false → receives_init call ≡ true → A
  no_init c e f h = absurd (both_ways (receives_init call) (ap receives_init e ∙ f) h)

  -- another state, and the same emitted
  actions_to : (s u : State) (m : EndWithPacket Carried) → (is_opened s ≡ true → is_opened u ≡ true) → (receives_init call ≡ true → is_past s ≡ false → is_past u ≡ false)
      → Emitted (May call s) m.context.pack m.context.emitted.events m.packet.chunks → Emitted (May call u) m.context.pack m.context.emitted.events m.packet.chunks
  actions_to s u m f q h = emitted_as (May call s) m.context.pack m.context.emitted.events m.packet.chunks h (May call u) (changes call s u f q)

  -- and `OnConnected` is emitted
  connected_to : (s u : State) (m : EndWithPacket Carried) → (is_opened s ≡ true → is_opened u ≡ true) → (receives_init call ≡ true → is_past s ≡ false → is_past u ≡ false)
      → Emitted (May call s) m.context.pack m.context.emitted.events m.packet.chunks
      → Emitted (May call u) m.context.pack (m.context.emitted.events ++ OnConnected ∷ []) m.packet.chunks
  connected_to s u m f q h =
      emitted_more (May call s) m.context.pack m.context.emitted.events m.packet.chunks h (May call u) (changes call s u f q) (OnConnected ∷ [])
      (m.context.emitted.events ++ OnConnected ∷ []) refl tt

  restarted_to : (s u : State) (m : EndWithPacket Carried) → (is_opened s ≡ true → is_opened u ≡ true) → (receives_init call ≡ true → is_past s ≡ false → is_past u ≡ false)
      → Emitted (May call s) m.context.pack m.context.emitted.events m.packet.chunks
      → Emitted (May call u) m.context.pack ((restarted m.context).emitted.events ++ OnConnected ∷ []) m.packet.chunks
  restarted_to s u m f q h =
      let l : EmitsNoPacketOrStatus m.context.emitted (emptied_if m.context.options.avoid_stalls m.context).emitted = restart_gives_up m.context in
      let last : List (Event Carried) = OnConnectionRestarted ∷ OnConnected ∷ [] in
      emitted_more (May call s) m.context.pack m.context.emitted.events m.packet.chunks h (May call u) (changes call s u f q) (l.events ++ last)
      ((restarted m.context).emitted.events ++ OnConnected ∷ []) (restart_emits m.context)
      (each_both (May call u) l.events last (each_chunk_of_no_packet_or_status (May call u) l.events l.all) tt)

  adds_to : (s : State) (m : EndWithPacket Carried) (c : ChunkTree) → May call s c → Emitted (May call s) m.context.pack m.context.emitted.events m.packet.chunks
      → Emitted (May call s) m.context.pack m.context.emitted.events (add c m.packet).chunks
  adds_to s m c k h = emitted_adds (May call s) m.context.pack m.context.emitted.events m.packet c h k

  no_packet_or_status_at : (P : ChunkTree → Type 0) (m n : EndWithPacket Carried) → EmitsNoPacketOrStatus m.context.emitted n.context.emitted
      → Emitted P m.context.pack m.context.emitted.events m.packet.chunks → Emitted P m.context.pack n.context.emitted.events m.packet.chunks
  no_packet_or_status_at P m n l h = emitted_no_packet_or_status P m.context.pack m.context.emitted.events m.packet.chunks h m.context.emitted n.context.emitted refl l

  late_on : {A : Type 0} (phase : Phase) → is_before_cookie_ack phase ≡ false → not (is_before_cookie_ack phase) ≡ false → A
  late_on phase e f = absurd (both_ways (not (is_before_cookie_ack phase)) f (ap not e))

  on_outcome_emitted : (o : Outcome) (P : ChunkTree → Type 0) (c : Context Carried) (cs : List ChunkTree) → Emitted P c.pack c.emitted.events cs
      → Emitted P (on_outcome o c).pack (on_outcome o c).emitted.events cs
  on_outcome_emitted Unsettled P c cs h = h
  on_outcome_emitted (Done streams) P c cs h = emitted_one P c.pack c.emitted.events cs h (OnStreamsResetPerformed streams) tt
  on_outcome_emitted (Denied streams) P c cs h = emitted_one P c.pack c.emitted.events cs h (OnStreamsResetFailed streams) tt

  packet_acts_emit : (act : PacketAct Carried call) → R (before_packets act) (after_packets act)
  packet_acts_emit (begins p m new summed to) = λ h. emitted_made (May call m.state) m.context.pack m.context.emitted.events m.packet.chunks h p.chunks (subst (All (May call m.state)) (sym new) (All-nil (May call m.state)))
  packet_acts_emit (adds_plain chunk m plain others fair) = adds_to m.state m chunk (plain_may call m.state chunk plain)
  packet_acts_emit (emits m some bundled) = λ h. emitted_emitted (May call m.state) m.context.pack m.context.emitted.events m.packet.chunks h m.context.options m.packet.tag m.packet.is_summed
  packet_acts_emit (emits_error kind text m) = λ h. emitted_one (May call m.state) m.context.pack m.context.emitted.events m.packet.chunks h (OnError kind text) tt
  packet_acts_emit (counts m) = λ z. z

  opening_acts_emit : (act : OpeningAct Carried call) → R (before_opening act) (after_opening act)
  opening_acts_emit (connects m is) = actions_to Closed (after_opening {call = call} (connects m is)).state m (λ e. cc) (λ e. no_init Connect is refl e)
  opening_acts_emit (adds_init tag first t1 m to) = adds_to (CookieWait tag first t1) m (init_chunk (init_of m.context.options tag first (announced_parameters m.context.options m.context.options.zero_checksum_method))) (init_may call (CookieWait tag first t1) (init_of m.context.options tag first (announced_parameters m.context.options m.context.options.zero_checksum_method)))
  opening_acts_emit (answers_new tag i m received to) = adds_to Closed m (init_ack_chunk _) (g.inits tag i received)
  opening_acts_emit (answers_waiting tag i my_tag first t1 m received to) = adds_to (CookieWait my_tag first t1) m (init_ack_chunk _) (g.inits tag i received)
  opening_acts_emit (answers_echoed tag i t1 cookie t m received to) = adds_to (Open (CookieEchoed t1 cookie) t) m (init_ack_chunk _) (g.inits tag i received)
  opening_acts_emit (answers_again tag i phase t m received late to) = adds_to (Open phase t) m (init_ack_chunk _) (g.inits tag i received)
  opening_acts_emit (echoes tag i cookie my_tag first t1 m received brought) = actions_to (CookieWait my_tag first t1) (after_opening {call = call} (echoes tag i cookie my_tag first t1 m received brought)).state m (λ e. refl) (λ e f. cc)
  opening_acts_emit (adds_cookie t1 cookie t m to) = adds_to (Open (CookieEchoed t1 cookie) t) m (cookie_echo_chunk cookie) (λ e. refl)
  opening_acts_emit (establishes tag t1 cookie t m received) = connected_to (Open (CookieEchoed t1 cookie) t) (Open Established t) m (λ e. e) (λ e. absurd (both_ways (receives_init call) (g.acks tag received) e))
  opening_acts_emit (opens tag k m echoed none own) = connected_to m.state (after_opening {call = call} (opens tag k m echoed none own)).state m (λ e. refl) (λ e. absurd (both_ways (receives_init call) (g.echoes tag echoed.cookie echoed.received) e))
  opening_acts_emit (restarts tag k phase t m echoed resolution) = restarted_to (Open phase t) (after_opening {call = call} (restarts tag k phase t m echoed resolution)).state m (λ e. refl) (λ e. absurd (both_ways (receives_init call) (g.echoes tag echoed.cookie echoed.received) e))
  opening_acts_emit (opens_again tag k phase t m echoed resolution) = connected_to (Open phase t) (after_opening {call = call} (opens_again tag k phase t m echoed resolution)).state m (λ e. refl) (λ e. absurd (both_ways (receives_init call) (g.echoes tag echoed.cookie echoed.received) e))
  opening_acts_emit (maintains tag k t1 cookie t m echoed resolution) = connected_to (Open (CookieEchoed t1 cookie) t) (Open Established t) m (λ e. e) (λ e. absurd (both_ways (receives_init call) (g.echoes tag echoed.cookie echoed.received) e))
  opening_acts_emit (adds_cookie_ack tag back phase t m echoed late) = adds_to (Open phase t) m cookie_ack_chunk (λ e. cc)

  closing_acts_emit : (act : ClosingAct Carried call) → HasNoEnd (after_closing act) → R (before_closing act) (after_closing act)
  closing_acts_emit (closes e m there is) none = absurd (no_end_over e m is none)
  closing_acts_emit (shuts phase t m is early) none = actions_to (Open phase t) (Open ShutdownPending t) m (λ e. e) (λ e. no_init Shutdown is refl e)
  closing_acts_emit (shuts_on phase next t m late later) none = actions_to (Open phase t) (Open next t) m (λ e. e) (λ e f. late_on phase late f)

  data_acts_emit : (act : DataAct Carried call) → R (before_data act) (after_data act)
  data_acts_emit (takes_data tag tsn is_immediate f phase t m received right some is) = λ z. z
  data_acts_emit (takes_idata tag tsn is_immediate f phase t m received right some is) = λ z. z
  data_acts_emit (takes_forward tag tsn skipped phase t m received right valid) = λ z. z
  data_acts_emit (takes_iforward tag tsn skipped phase t m received right valid) = λ z. z

  sack_acts_emit : (act : SackAct Carried call) → R (before_sack act) (after_sack act)
  sack_acts_emit (takes_sack tag k phase t m received valid) = no_packet_or_status_at (May call (Open phase t)) m (after_sack {call = call} (takes_sack tag k phase t m received valid)) (sack_act_emits_no_packet_or_status {call = call} (takes_sack tag k phase t m received valid))
  sack_acts_emit (samples k phase t m) = λ z. z
  sack_acts_emit (counts_errors e m) = λ z. z

  sending_acts_emit : (act : SendingAct Carried call) → R (before_sending act) (after_sending act)
  sending_acts_emit (asks also_if_delayed phase t m) = λ z. z
  sending_acts_emit (forces_ack phase t m) = λ z. z
  sending_acts_emit (adds_ack phase t m) = adds_to (Open phase t) m (sack_chunk _) (λ e. refl)
  sending_acts_emit (expires phase t m) = no_packet_or_status_at (May call (Open phase t)) m (after_sending {call = call} (expires phase t m)) (sending_act_emits_no_packet_or_status {call = call} (expires phase t m))
  sending_acts_emit (adds_forward phase t m due) = adds_to (Open phase t) m (forward_chunk t.sender) (forward_may call phase t _ t.sender)
  sending_acts_emit (forwards_later n m) = λ z. z
  sending_acts_emit (asks_no_reset most m none) = λ z. z
  sending_acts_emit (asks_reset most stream streams phase t m some free) = λ z. z
  sending_acts_emit (adds_request k phase t m is) = adds_to (Open phase t) m (re_config_chunk _) (λ e. refl)
  sending_acts_emit (sends phase t m) = λ h. no_packet_or_status_at (May call (Open phase t)) (record m { packet = (after_sending {call = call} (sends phase t m)).packet }) (after_sending {call = call} (sends phase t m)) (sending_act_emits_no_packet_or_status {call = call} (sends phase t m)) (emitted_adds_all (May call (Open phase t)) m.context.pack m.context.emitted.events (data_chunks t (asks_at_once m.context.options t.sender) (fragments_of t m).chunks) m.packet h (data_may call phase t t.capabilities.message_interleaving (asks_at_once m.context.options t.sender) (fragments_of t m).chunks))
  sending_acts_emit (sends_fast phase t m some) = λ h. emitted_adds_all (May call (Open phase t)) m.context.pack m.context.emitted.events (data_chunks t false (resent_fast (fast_most m.context.options) t.sender).chunks) m.packet h (data_may call phase t t.capabilities.message_interleaving false (resent_fast (fast_most m.context.options) t.sender).chunks)

  time_acts_emit : (act : TimeAct Carried call) → R (before_time act) (after_time act)
  time_acts_emit (advances now m is on) = λ z. z
  time_acts_emit (delay_ends phase t m) = λ z. z
  time_acts_emit (times_out phase t m due) = no_packet_or_status_at (May call (Open phase t)) m (after_time {call = call} (times_out phase t m due)) (time_act_emits_no_packet_or_status {call = call} (times_out phase t m due))
  time_acts_emit (beats h m) = λ z. z
  time_acts_emit (times_init tag first old new m) = λ z. z
  time_acts_emit (times_cookie old new cookie t m) = λ z. z
  time_acts_emit (times_request timer phase t m) = λ z. z
  time_acts_emit (times_items timer phase t m) = λ z. z
  time_acts_emit (wakes_request phase t m) = λ z. z

  call_acts_emit : (act : CallAct Carried call) → R (before_call act) (after_call act)
  call_acts_emit (accepts message o m offered fine) = λ z. z
  call_acts_emit (refuses message o e m offered is) = no_packet_or_status_at (May call m.state) m (after_call {call = call} (refuses message o e m offered is)) (call_act_emits_no_packet_or_status {call = call} (refuses message o e m offered is))
  call_acts_emit (takes_message phase t m is) = λ z. z
  call_acts_emit (sets_low_threshold stream bytes m is) = no_packet_or_status_at (May call m.state) m (after_call {call = call} (sets_low_threshold stream bytes m is)) (call_act_emits_no_packet_or_status {call = call} (sets_low_threshold stream bytes m is))
  call_acts_emit (sets_priority stream priority m is) = λ z. z
  call_acts_emit (sets_max_message_size bytes m is) = λ z. z

  reset_acts_emit : (act : ResetAct Carried call) → R (before_reset act) (after_reset act)
  reset_acts_emit (prepares stream phase t m asked can) = no_packet_or_status_at (May call (Open phase t)) m (after_reset {call = call} (prepares stream phase t m asked can)) (reset_act_emits_no_packet_or_status {call = call} (prepares stream phase t m asked can))
  reset_acts_emit (defers number response last_tsn streams phase t m asked known ahead) = λ z. z
  reset_acts_emit (performs number response last_tsn streams phase t m asked known there) = no_packet_or_status_at (May call (Open phase t)) m (after_reset {call = call} (performs number response last_tsn streams phase t m asked known there)) (reset_act_emits_no_packet_or_status {call = call} (performs number response last_tsn streams phase t m asked known there))
  reset_acts_emit (processes number streams phase t m asked known) = λ z. z
  reset_acts_emit (takes_response rto number result sender receiver phase t m asked) = λ h. on_outcome_emitted (outcome number result t.requests.current) (May call (Open phase t)) m.context m.packet.chunks h
  reset_acts_emit (adds_responses responses phase t m are answers) = adds_to (Open phase t) m (re_config_chunk responses) (λ e. refl)

  handover_acts_emit : (act : HandoverAct Carried call) → HasNoEnd (after_handover act) → R (before_handover act) (after_handover act)
  handover_acts_emit (leaves phase t m is) none = absurd (no_end m (after_handover {call = call} (leaves phase t m is)) OnClosed refl refl none)
  handover_acts_emit (takes_up h m is valid) none = absurd (g.restores h is)

  input_acts_emit : (act : InputAct Carried call) → R (before_input act) (after_input act)
  input_acts_emit (ends_packet phase t m) = λ z. z

  owns : PreservesUntilEnd call R
  owns = record {
    same = λ m h. h;
    through = λ {a} {b} {c} f s h. s (f h);
    packets = λ act none. packet_acts_emit act;
    opening = λ act none. opening_acts_emit act;
    closing = closing_acts_emit;
    data_acts = λ act none. data_acts_emit act;
    acknowledging = λ act none. sack_acts_emit act;
    sending = λ act none. sending_acts_emit act;
    time = λ act none. time_acts_emit act;
    calls = λ act none. call_acts_emit act;
    resets = λ act none. reset_acts_emit act;
    handover = handover_acts_emit;
    input = λ act none. input_acts_emit act;
  }

  -- what a call emits
  pub emits_may : (e : Endpoint Carried) → e.endpoint_state.context.pack ≡ as_carried → e.endpoint_state.context.emitted.events ≡ [] → HasNoEnd (calm (called call e))
      → EachChunk (May call (called call e).endpoint_state.state) (called call e).endpoint_state.context.emitted.events
  emits_may e packing quiet none =
      let P : ChunkTree → Type 0 = May call e.endpoint_state.state in
      let begins : EmitsAt (calm e) = record { packing = packing; emitted = subst (EachChunk P) (sym quiet) tt; made = All-nil P } in
      (until_end call owns e none begins).emitted
