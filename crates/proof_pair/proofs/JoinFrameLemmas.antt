-- The acts by their groups: what two ends know of each other is kept as long as no association has ended.
use Rattle.std.proofs.Common.{◌≡◌, ℕ, ◌||◌, not, Bool, true, false, List, [], ◌∷◌, ◌++◌, All, inl, inr, refl, sym, ap, subst, ◌∙◌}
use Rattle.std.proofs.lemmas.List.Elements.{All-nil}
use Rattle.sctp_packet.specs.Chunk.{ChunkTree, cookie_echo_chunk, cookie_ack_chunk, re_config_chunk}
use Rattle.sctp_state.specs.Options.{Options}
use Rattle.sctp_capabilities.specs.StateCookie.{Cookie}
use Rattle.sctp_state.specs.Events.{Event, OnConnected, OnError, OnClosed}
use Rattle.spec_endpoint.specs.Association.{Tcb, Phase, CookieEchoed, Established, ShutdownPending, State, Closed, CookieWait, Open, Context, Packing}
use Rattle.spec_endpoint.specs.Packets.{PacketDraft, add, add_all}
use Rattle.spec_endpoint.specs.ResetRequests.{Outcome, Unsettled, Done, Denied, outcome, request_chunk}
use Rattle.spec_endpoint.specs.StreamReset.{on_outcome}
use Rattle.spec_endpoint.specs.Sending.{asks_at_once, data_chunks, selective_ack, fast_most}
use Rattle.spec_endpoint.specs.Opening.{word, drew_word, long_word, tcb_by}
use Rattle.spec_endpoint.specs.Laws.{Call, Shutdown}
use Rattle.sctp_tx.specs.RetransmissionQueue.{Sender}
use Rattle.sctp_tx.specs.Resent.{resent_fast}
use Rattle.sctp_tx.specs.ForwardPoints.{chunk_if, forward_chunk}
use Rattle.sctp_tx.specs.Sending as fragments
use Rattle.proof_endpoint.specs.Mapped.{Carried}
use Rattle.proof_endpoint.specs.Acts.{EndWithPacket, in_open, in_state, end_of, drawn_tag, drawn_first, drawn_tag_alone, is_opened, may_shut, IsEchoed, fragments_of, PacketAct, begins, adds_plain, emits, emits_error, counts, before_packets, after_packets, OpeningAct, connects, adds_init, answers_new, answers_waiting, answers_echoed, answers_again, echoes, adds_cookie, establishes, opens, restarts, opens_again, maintains, adds_cookie_ack, before_opening, after_opening, ClosingAct, closes, shuts, shuts_on, before_closing, after_closing, DataAct, takes_data, takes_idata, takes_forward, takes_iforward, before_data, after_data, SackAct, takes_sack, samples, counts_errors, before_sack, after_sack, SendingAct, asks, forces_ack, adds_ack, expires, adds_forward, forwards_later, asks_no_reset, asks_reset, adds_request, sends, sends_fast, before_sending, after_sending, TimeAct, advances, delay_ends, times_out, beats, times_init, times_cookie, times_request, times_items, wakes_request, before_time, after_time, CallAct, accepts, refuses, takes_message, sets_low_threshold, sets_priority, sets_max_message_size, before_call, after_call, ResetAct, prepares, defers, performs, processes, takes_response, adds_responses, before_reset, after_reset, HandoverAct, leaves, takes_up, before_handover, after_handover, InputAct, ends_packet, before_input, after_input, HasNoEnd, PreservesUntilEnd}
use Rattle.proof_pair.specs.Trace.{has_connected}
use Rattle.proof_pair.proofs.EmittedLemmas.{EmitsNoPacketOrStatus}
use Rattle.proof_pair.proofs.UntilLemmas.{sack_act_emits_no_packet_or_status, sending_act_emits_no_packet_or_status, time_act_emits_no_packet_or_status, call_act_emits_no_packet_or_status, reset_act_emits_no_packet_or_status, no_end, no_end_over}
use Rattle.proof_pair.proofs.AddedLemmas.{holds_added, holds_all_added}
use Rattle.proof_pair.proofs.JoinLemmas.{Draw, drawn_is, View, both_of, view_of, late_view, late_phase, IsPlain, IsEcho}
use Rattle.proof_pair.proofs.JoinActsLemmas.{Setting, OwnSays, Inv, InvAt, inv_made, inv_no_packet_or_status, inv_emitted, inv_options, own_says_plain, own_says_data, connected_both}
use Rattle.proof_pair.proofs.JoinKeepsLemmas.{Rules, init_said, does_connects, same_init, says_answer, does_echoes, does_late, does_opened, same_verdict, no_restart, no_again}
use Rattle.proof_protocol.proofs.ToolsLemmas.{not_both}

module _ (g : Setting) (call : Call) (r : Rules g call) where
  -- a chunk is put into the packet
  adds : (v : View) (os : Options) (pack : Packing Carried) (es : List (Event Carried)) (p : PacketDraft) (c : ChunkTree) → Inv g v os pack es p.tag p.chunks
      → OwnSays g v p.tag c → Inv g v os pack es (add c p).tag (add c p).chunks
  adds v os pack es p c inv h = inv_made g v os pack es p.tag p.chunks inv (add c p).tag (add c p).chunks (holds_added (OwnSays g v) p c inv.made h)

  adds_many : (v : View) (os : Options) (pack : Packing Carried) (es : List (Event Carried)) (p : PacketDraft) (cs : List ChunkTree)
      → Inv g v os pack es p.tag p.chunks → ((tag : ℕ) → All (OwnSays g v tag) cs) → Inv g v os pack es (add_all cs p).tag (add_all cs p).chunks
  adds_many v os pack es p cs inv h =
      inv_made g v os pack es p.tag p.chunks inv (add_all cs p).tag (add_all cs p).chunks (holds_all_added (OwnSays g v) cs p inv.made h)

  emits_all : (v : View) (os : Options) (pack : Packing Carried) (m n : EndWithPacket Carried) (tag : ℕ) (cs : List ChunkTree) → EmitsNoPacketOrStatus m.context.emitted n.context.emitted
      → Inv g v os pack m.context.emitted.events tag cs → Inv g v os pack n.context.emitted.events tag cs
  emits_all v os pack m n tag cs l inv = inv_no_packet_or_status g v os pack m.context.emitted.events tag cs inv l.events n.context.emitted.events l.behind l.all

  -- ---- packets

  keeps_packets : (act : PacketAct Carried call) → InvAt g (before_packets act) → InvAt g (after_packets act)
  keeps_packets (begins p m new summed to) inv =
      inv_made g (view_of m.state) m.context.options m.context.pack m.context.emitted.events m.packet.tag m.packet.chunks inv p.tag p.chunks
      (subst (All (OwnSays g (view_of m.state) p.tag)) (sym new) (All-nil (OwnSays g (view_of m.state) p.tag)))
  keeps_packets (adds_plain chunk m plain others fair) inv =
      adds (view_of m.state) m.context.options m.context.pack m.context.emitted.events m.packet chunk inv
      (own_says_plain g (view_of m.state) m.packet.tag chunk plain)
  keeps_packets (emits m some bundled) inv =
      inv_emitted g (view_of m.state) m.context.options m.context.pack m.context.emitted.events m.packet.tag m.packet.chunks inv m.context.options m.packet.is_summed
      m.packet.tag
  keeps_packets (emits_error kind text m) inv =
      inv_no_packet_or_status g (view_of m.state) m.context.options m.context.pack m.context.emitted.events m.packet.tag m.packet.chunks inv (OnError kind text ∷ [])
      (m.context.emitted.events ++ OnError kind text ∷ []) refl refl
  keeps_packets (counts m) inv = inv

  -- ---- the handshake

  opened_from : (s : State) (k : Cookie) (tag : ℕ) (m : EndWithPacket Carried) (tie : ℕ) → IsEchoed call tag k → is_opened s ≡ false
      → Inv g (view_of s) m.context.options m.context.pack m.context.emitted.events m.packet.tag m.packet.chunks
      → Inv g (late_view (tcb_by m.context.options k tie)) m.context.options m.context.pack (m.context.emitted.events ++ OnConnected ∷ []) m.packet.tag m.packet.chunks
  opened_from Closed k tag m tie h none inv =
      does_opened g call r (view_of Closed) m.context.options m.context.pack m.context.emitted.events m.packet.tag m.packet.chunks tag k h.cookie tie refl refl
      (r.says tag (cookie_echo_chunk h.cookie) h.received (view_of Closed) inv.received) h.reads inv
  opened_from (CookieWait own first t1) k tag m tie h none inv =
      does_opened g call r (view_of (CookieWait own first t1)) m.context.options m.context.pack m.context.emitted.events m.packet.tag m.packet.chunks tag k h.cookie
      tie refl refl (r.says tag (cookie_echo_chunk h.cookie) h.received (view_of (CookieWait own first t1)) inv.received) h.reads inv
  opened_from (Open phase t) k tag m tie h none inv = cc

  keeps_opening : (act : OpeningAct Carried call) → InvAt g (before_opening act) → InvAt g (after_opening act)
  keeps_opening (connects m is) inv = does_connects g call r m is inv
  keeps_opening (adds_init tag first t1 m to) inv =
      let v : View = view_of (CookieWait tag first t1) in
      adds v m.context.options m.context.pack m.context.emitted.events m.packet _ inv
      (record {
        draw = record { tag = tag; first = first };
        own = refl;
        is = same_init g call r m.context.options inv.size tag first inv.options;
        under = ap (λ (p : PacketDraft). p.tag) to;
      })
  keeps_opening (answers_new tag i m h to) inv =
      let v : View = view_of Closed in
      let d : Draw = record { tag = drawn_tag m; first = drawn_first m } in
      let how : IsPlain v d 0 = record { tie_is = refl; draw = drawn_is (word (end_of m)) (word (drew_word (end_of m))); own = inl refl } in
      adds v m.context.options m.context.pack m.context.emitted.events m.packet _ inv
      (says_answer g call r v m.context.options inv.size tag i d 0 inv.options h (init_said g call r tag i (in_state Closed m) h inv) (inr how))
  keeps_opening (answers_waiting tag i own first t1 m h to) inv =
      let v : View = view_of (CookieWait own first t1) in
      let d : Draw = record { tag = own; first = first } in
      let how : IsPlain v d 0 = record { tie_is = refl; draw = inv.stands.draw; own = inr refl } in
      adds v m.context.options m.context.pack m.context.emitted.events m.packet _ inv
      (says_answer g call r v m.context.options inv.size tag i d 0 inv.options h (init_said g call r tag i (in_state (CookieWait own first t1) m) h inv) (inr how))
  keeps_opening (answers_echoed tag i t1 cookie t m h to) inv =
      let v : View = view_of (Open (CookieEchoed t1 cookie) t) in
      let d : Draw = record { tag = t.identity.my_tag; first = t.identity.my_first } in
      let how : IsPlain v d 0 = record { tie_is = refl; draw = inv.stands.draw; own = inr refl } in
      adds v m.context.options m.context.pack m.context.emitted.events m.packet _ inv
      (says_answer g call r v m.context.options inv.size tag i d 0 inv.options h (init_said g call r tag i (in_open (CookieEchoed t1 cookie) t m) h inv) (inr how))
  keeps_opening (answers_again tag i phase t m h late to) inv =
      let v : View = view_of (Open phase t) in
      let d : Draw = record { tag = drawn_tag_alone m; first = _ } in
      let opened : (view_of g.beside).is_opened ≡ true = inv.stands.late (ap not late) in
      adds v m.context.options m.context.pack m.context.emitted.events m.packet _ inv
      (says_answer g call r v m.context.options inv.size tag i d t.identity.tie inv.options h (init_said g call r tag i (in_open phase t m) h inv) (inl opened))
  keeps_opening (echoes tag i cookie own first t1 m h brought) inv = does_echoes g call r tag i cookie own first t1 m h brought inv
  keeps_opening (adds_cookie t1 cookie t m to) inv =
      let v : View = view_of (Open (CookieEchoed t1 cookie) t) in
      adds v m.context.options m.context.pack m.context.emitted.events m.packet (cookie_echo_chunk cookie) inv
      (record {
        both = both_of t;
        holds = refl;
        is = inv.stands.kept.is;
        under = ap (λ (p : PacketDraft). p.tag) to;
        mine = inv.stands.draw;
        peer = inv.stands.kept.peer;
        opened = refl;
      })
  keeps_opening (establishes tag t1 cookie t m h) inv =
      does_late g call r t1 cookie t m.context.options m.context.pack m.context.emitted.events m.packet.tag m.packet.chunks
      (r.says tag cookie_ack_chunk h (view_of (Open (CookieEchoed t1 cookie) t)) inv.received) inv
  keeps_opening (opens tag k m h none own) inv = opened_from m.state k tag m (long_word (end_of m)) h none inv
  keeps_opening (restarts tag k phase t m h resolution) inv = absurd (no_restart _ (same_verdict g call r tag k phase t m h inv) resolution)
  keeps_opening (opens_again tag k phase t m h resolution) inv = absurd (no_again _ (same_verdict g call r tag k phase t m h inv) resolution)
  keeps_opening (maintains tag k t1 cookie t m h resolution) inv =
      let v : View = view_of (Open (CookieEchoed t1 cookie) t) in
      let said : IsEcho g.other (view_of g.beside) tag h.cookie = r.says tag (cookie_echo_chunk h.cookie) h.received v inv.received in
      does_late g call r t1 cookie t m.context.options m.context.pack m.context.emitted.events m.packet.tag m.packet.chunks said.opened inv
  keeps_opening (adds_cookie_ack tag back phase t m echoed late) inv =
      adds (view_of (Open phase t)) m.context.options m.context.pack m.context.emitted.events m.packet cookie_ack_chunk inv refl

  -- ---- closing

  shuts_from : (phase : Phase) (t : Tcb) (m : EndWithPacket Carried) → call ≡ Shutdown → may_shut phase ≡ true → InvAt g (in_open phase t m)
      → InvAt g (in_open ShutdownPending t m)
  shuts_from (CookieEchoed t1 cookie) t m is early inv =
      let now : has_connected (g.past ++ m.context.emitted.events) ≡ true =
      connected_both g.past m.context.emitted.events ∙ ap (λ (b : Bool). b || has_connected m.context.emitted.events) (r.shuts is) in
      absurd (not_both (inv.connected now) refl)
  shuts_from Established t m is early inv = inv
  shuts_from phase t m is early inv = cc

  keeps_closing : (act : ClosingAct Carried call) → HasNoEnd (after_closing act) → InvAt g (before_closing act) → InvAt g (after_closing act)
  keeps_closing (closes e m there is) none inv = absurd (no_end_over e m is none)
  keeps_closing (shuts phase t m is early) none inv = shuts_from phase t m is early inv
  keeps_closing (shuts_on phase next t m late later) none inv =
      subst (λ (v : View). Inv g v m.context.options m.context.pack m.context.emitted.events m.packet.tag m.packet.chunks)
      (late_phase phase t late ∙ sym (late_phase next t later)) inv

  -- ---- what the peer sent

  keeps_data : (act : DataAct Carried call) → InvAt g (before_data act) → InvAt g (after_data act)
  keeps_data (takes_data tag tsn is_immediate f phase t m received right some is) inv = inv
  keeps_data (takes_idata tag tsn is_immediate f phase t m received right some is) inv = inv
  keeps_data (takes_forward tag tsn skipped phase t m received right valid) inv = inv
  keeps_data (takes_iforward tag tsn skipped phase t m received right valid) inv = inv

  keeps_sack : (act : SackAct Carried call) → InvAt g (before_sack act) → InvAt g (after_sack act)
  keeps_sack (takes_sack tag k phase t m received valid) inv =
      let act : SackAct Carried call = takes_sack tag k phase t m received valid in
      emits_all (view_of (Open phase t)) m.context.options m.context.pack m (after_sack act) m.packet.tag m.packet.chunks (sack_act_emits_no_packet_or_status act) inv
  keeps_sack (samples k phase t m) inv = inv
  keeps_sack (counts_errors e m) inv = inv

  -- ---- sending

  own_says_forward : (b : Bool) (v : View) (tag : ℕ) (s : Sender) → OwnSays g v tag (chunk_if b s)
  own_says_forward true v tag s = tt
  own_says_forward false v tag s = tt

  keeps_sending : (act : SendingAct Carried call) → InvAt g (before_sending act) → InvAt g (after_sending act)
  keeps_sending (asks also_if_delayed phase t m) inv = inv
  keeps_sending (forces_ack phase t m) inv = inv
  keeps_sending (adds_ack phase t m) inv =
      adds (view_of (Open phase t)) m.context.options m.context.pack m.context.emitted.events m.packet (selective_ack t) inv tt
  keeps_sending (expires phase t m) inv =
      let act : SendingAct Carried call = expires phase t m in
      emits_all (view_of (Open phase t)) m.context.options m.context.pack m (after_sending act) m.packet.tag m.packet.chunks (sending_act_emits_no_packet_or_status act) inv
  keeps_sending (adds_forward phase t m due) inv =
      adds (view_of (Open phase t)) m.context.options m.context.pack m.context.emitted.events m.packet (forward_chunk t.sender) inv
      (own_says_forward _ (view_of (Open phase t)) m.packet.tag t.sender)
  keeps_sending (forwards_later n m) inv = inv
  keeps_sending (asks_no_reset most m none) inv = inv
  keeps_sending (asks_reset most stream streams phase t m some free) inv = inv
  keeps_sending (adds_request k phase t m is) inv =
      adds (view_of (Open phase t)) m.context.options m.context.pack m.context.emitted.events m.packet (request_chunk k) inv tt
  keeps_sending (sends phase t m) inv =
      let act : SendingAct Carried call = sends phase t m in
      let v : View = view_of (Open phase t) in
      let f : fragments.Filling Carried = fragments_of t m in
      let small : Bool = asks_at_once m.context.options t.sender in
      emits_all v m.context.options m.context.pack m (after_sending act) _ _ (sending_act_emits_no_packet_or_status act)
      (adds_many v m.context.options m.context.pack m.context.emitted.events m.packet (data_chunks t small f.chunks) inv (λ tag. own_says_data g v tag t small f.chunks))
  keeps_sending (sends_fast phase t m some) inv =
      let v : View = view_of (Open phase t) in
      adds_many v m.context.options m.context.pack m.context.emitted.events m.packet
      (data_chunks t false (resent_fast (fast_most m.context.options) t.sender).chunks) inv
      (λ tag. own_says_data g v tag t false (resent_fast (fast_most m.context.options) t.sender).chunks)

  -- ---- time and calls

  keeps_time : (act : TimeAct Carried call) → InvAt g (before_time act) → InvAt g (after_time act)
  keeps_time (times_out phase t m due) inv =
      let act : TimeAct Carried call = times_out phase t m due in
      emits_all (view_of (Open phase t)) m.context.options m.context.pack m (after_time act) m.packet.tag m.packet.chunks (time_act_emits_no_packet_or_status act) inv
  keeps_time (advances now m is on) inv = inv
  keeps_time (delay_ends phase t m) inv = inv
  keeps_time (beats h m) inv = inv
  keeps_time (times_init tag first old new m) inv = inv
  keeps_time (times_cookie old new cookie t m) inv = inv
  keeps_time (times_request timer phase t m) inv = inv
  keeps_time (times_items timer phase t m) inv = inv
  keeps_time (wakes_request phase t m) inv = inv

  keeps_calls : (act : CallAct Carried call) → InvAt g (before_call act) → InvAt g (after_call act)
  keeps_calls (accepts message o m offered fine) inv = inv
  keeps_calls (refuses message o e m offered is) inv =
      let act : CallAct Carried call = refuses message o e m offered is in
      emits_all (view_of m.state) m.context.options m.context.pack m (after_call act) m.packet.tag m.packet.chunks (call_act_emits_no_packet_or_status act) inv
  keeps_calls (takes_message phase t m is) inv = inv
  keeps_calls (sets_low_threshold stream bytes m is) inv =
      let act : CallAct Carried call = sets_low_threshold stream bytes m is in
      emits_all (view_of m.state) m.context.options m.context.pack m (after_call act) m.packet.tag m.packet.chunks (call_act_emits_no_packet_or_status act) inv
  keeps_calls (sets_priority stream priority m is) inv = inv
  keeps_calls (sets_max_message_size bytes m is) inv =
      inv_options g (view_of m.state) m.context.options m.context.pack m.context.emitted.events m.packet.tag m.packet.chunks inv
      (record m.context.options { max_message_size = bytes }) bytes (ap (λ (z : Options). record z { max_message_size = bytes }) inv.options)

  -- ---- resets of streams

  with_outcome : (o : Outcome) (v : View) (c : Context Carried) (tag : ℕ) (cs : List ChunkTree) → Inv g v c.options c.pack c.emitted.events tag cs
      → Inv g v (on_outcome o c).options (on_outcome o c).pack (on_outcome o c).emitted.events tag cs
  with_outcome Unsettled v c tag cs inv = inv
  with_outcome (Done streams) v c tag cs inv = inv_no_packet_or_status g v c.options c.pack c.emitted.events tag cs inv _ (on_outcome (Done streams) c).emitted.events refl refl
  with_outcome (Denied streams) v c tag cs inv = inv_no_packet_or_status g v c.options c.pack c.emitted.events tag cs inv _ (on_outcome (Denied streams) c).emitted.events refl refl

  keeps_resets : (act : ResetAct Carried call) → InvAt g (before_reset act) → InvAt g (after_reset act)
  keeps_resets (prepares stream phase t m asked can) inv =
      let act : ResetAct Carried call = prepares stream phase t m asked can in
      emits_all (view_of (Open phase t)) m.context.options m.context.pack m (after_reset act) m.packet.tag m.packet.chunks (reset_act_emits_no_packet_or_status act) inv
  keeps_resets (defers number response last_tsn streams phase t m asked known ahead) inv = inv
  keeps_resets (performs number response last_tsn streams phase t m asked known there) inv =
      let act : ResetAct Carried call = performs number response last_tsn streams phase t m asked known there in
      emits_all (view_of (Open phase t)) m.context.options m.context.pack m (after_reset act) m.packet.tag m.packet.chunks (reset_act_emits_no_packet_or_status act) inv
  keeps_resets (processes number streams phase t m asked known) inv = inv
  keeps_resets (takes_response rto number result sender receiver phase t m asked) inv =
      with_outcome (outcome number result t.requests.current) (view_of (Open phase t)) m.context m.packet.tag m.packet.chunks inv
  keeps_resets (adds_responses responses phase t m are answers) inv =
      adds (view_of (Open phase t)) m.context.options m.context.pack m.context.emitted.events m.packet (re_config_chunk responses) inv tt

  -- ---- handover, and the end of a packet

  keeps_handover : (act : HandoverAct Carried call) → HasNoEnd (after_handover act) → InvAt g (before_handover act) → InvAt g (after_handover act)
  keeps_handover (leaves phase t m is) none inv = absurd (no_end m (after_handover {call = call} (leaves phase t m is)) OnClosed refl refl none)
  keeps_handover (takes_up h m is valid) none inv = absurd (r.restores h is)

  keeps_input : (act : InputAct Carried call) → InvAt g (before_input act) → InvAt g (after_input act)
  keeps_input (ends_packet phase t m) inv = inv

  pub joins : PreservesUntilEnd call (λ a b. InvAt g a → InvAt g b)
  joins = record {
    same = λ m inv. inv;
    through = λ {a} {b} {c} f h inv. h (f inv);
    packets = λ act none. keeps_packets act;
    opening = λ act none. keeps_opening act;
    closing = keeps_closing;
    data_acts = λ act none. keeps_data act;
    acknowledging = λ act none. keeps_sack act;
    sending = λ act none. keeps_sending act;
    time = λ act none. keeps_time act;
    calls = λ act none. keeps_calls act;
    resets = λ act none. keeps_resets act;
    handover = keeps_handover;
    input = λ act none. keeps_input act;
  }
