-- What each act leaves of what was negotiated, over every trace.
use Rattle.std.proofs.Common.{◌≡◌, ℕ, zero, suc, Bool, true, false, cond, Option, Some, None, List, [], ◌∷◌, ◌++◌, map, All, refl, sym, ap, subst, ◌∙◌, append_assoc, append-nil}
use Rattle.std.proofs.lemmas.Bool.{and_parts}
use Rattle.std.proofs.lemmas.List.Elements.{All-nil, All-cons, All-push}
use Rattle.sctp_packet.specs.Chunk.{ChunkTree, FragmentTree, InitTree, data_chunk, init_chunk, init_ack_chunk, cookie_echo_chunk, cookie_ack_chunk, idata_chunk, re_config_chunk, forward_tsn_chunk, i_forward_tsn_chunk, fragment_chunk}
use Rattle.sctp_capabilities.specs.Capabilities.{Capabilities, announced_parameters, negotiate, agreed}
use Rattle.sctp_capabilities.specs.StateCookie.{Cookie}
use Rattle.sctp_state.specs.Events.{Event, SendPacket, OnConnected, OnConnectionRestarted, OnError, OnClosed, Emitted}
use Rattle.sctp_state.specs.Handover.{HandoverState}
use Rattle.sctp_state.specs.Options.{Options}
use Rattle.sctp_tx_queue.specs.SendQueue.{Queue}
use Rattle.sctp_tx_queue.specs.Produced.{Produced}
use Rattle.sctp_tx_outstanding.specs.Resending.{Resent}
use Rattle.sctp_tx.specs.RetransmissionQueue.{Sender, sender_if, timed_out_sender}
use Rattle.sctp_tx.specs.Resent.{resent, resent_fast, send_fast}
use Rattle.sctp_tx.specs.ForwardPoints.{abandon_expired, chunk_if, forward_chunk}
use Rattle.sctp_tx.specs.Sending as fragments
use Rattle.sctp_tx.specs.Sending.{Filling, append, queue_step_if, next_turn, fill, discard_all, without_discards, filled_with, send}
use Rattle.spec_endpoint.specs.Association.{Tcb, tcb, Phase, CookieEchoed, Established, ShutdownPending, Closed, CookieWait, Open, Context, Packing}
use Rattle.spec_endpoint.specs.Packets.{PacketDraft, add, add_all, header_to, room, packets_in}
use Rattle.spec_endpoint.specs.ResetRequests.{Outcome, Unsettled, Done, Denied, outcome, request_chunk}
use Rattle.spec_endpoint.specs.StreamReset.{on_outcome}
use Rattle.spec_endpoint.specs.Sending.{asks_at_once, selective_ack, data_chunks, fast_most}
use Rattle.spec_endpoint.specs.Sack.{clean_blocks}
use Rattle.spec_endpoint.specs.Shutdown.{ended, over, emptied_if}
use Rattle.spec_endpoint.specs.Opening.{init_of, init_ack_of, agreed_by, identity_of_init_ack, long_word, tcb_by}
use Rattle.spec_endpoint.specs.Input.{misuse}
use Rattle.spec_endpoint.specs.Laws.{Call, Restore}
use Rattle.proof_endpoint.specs.Mapped.{Carried, as_carried}
use Rattle.proof_endpoint.specs.Acts.{EndWithPacket, in_state, with_context, in_open, end_of, is_plain, may_shut, point_of, BringsChunk, IsEchoed, fragments_of, PacketAct, begins, adds_plain, emits, emits_error, counts, before_packets, after_packets, OpeningAct, connects, adds_init, answers_new, answers_waiting, answers_echoed, answers_again, echoes, adds_cookie, establishes, opens, restarts, opens_again, maintains, adds_cookie_ack, before_opening, after_opening, ClosingAct, closes, shuts, shuts_on, before_closing, after_closing, DataAct, takes_data, takes_idata, takes_forward, takes_iforward, before_data, after_data, SackAct, takes_sack, samples, counts_errors, before_sack, after_sack, SendingAct, asks, forces_ack, adds_ack, expires, adds_forward, forwards_later, asks_no_reset, asks_reset, adds_request, sends, sends_fast, before_sending, after_sending, TimeAct, advances, delay_ends, times_out, beats, times_init, times_cookie, times_request, times_items, wakes_request, before_time, timeout_of, after_time, CallAct, accepts, refuses, takes_message, sets_low_threshold, sets_priority, sets_max_message_size, before_call, after_call, ResetAct, prepares, defers, performs, processes, takes_response, adds_responses, before_reset, after_reset, HandoverAct, leaves, takes_up, before_handover, after_handover, InputAct, ends_packet, before_input, after_input, Preserves}
use Rattle.proof_pair.specs.Trace.{AreValidOptions}
use Rattle.proof_pair.proofs.EmittedLemmas.{EmitsNoPacketOrStatus}
use Rattle.proof_pair.proofs.UntilLemmas.{over_gives_up, sack_act_emits_no_packet_or_status, sending_act_emits_no_packet_or_status, time_act_emits_no_packet_or_status, call_act_emits_no_packet_or_status, reset_act_emits_no_packet_or_status, restart_gives_up}
use Rattle.proof_pair.proofs.AddedLemmas.{holds_added, holds_all_added}
use Rattle.proof_pair.proofs.StayLemmas.{Stays, stays_same, stays_then, stays_resent, stays_timed, alike_all, alike_outstanding, alike_received, stays_fast}
use Rattle.proof_pair.proofs.JoinActsLemmas.{no_packet_or_status_has_no_packets, ends_no_packet, packets_now}
use Rattle.proof_pair.proofs.NegotiatedLemmas.{Brings, Emits, emits_back, same_mode, same_partial, forward_right, View, alone, view_of, late_phase, Able, IsAble}

-- ---- what goes out leaves the mode as it was

stays_appended : {P : Type 0} (now : ℕ) (o : Option Produced) (x : Filling P) → Stays x.sender.outstanding (append now o x).sender.outstanding
stays_appended now None x = stays_same x.sender.outstanding
stays_appended now (Some p) x = record { first = refl; items = record { partial = refl; mode = refl } }

stays_turned_if : {P : Type 0} (b : Bool) (now : ℕ) (x : Filling P) → Stays x.sender.outstanding (queue_step_if b now x).filling.sender.outstanding
stays_turned_if false now x = stays_same x.sender.outstanding
stays_turned_if true now x = stays_appended now _ (record x { queue = _; emitted = _ })

stays_fill : {P : Type 0} (trace now : ℕ) (x : Filling P) → Stays x.sender.outstanding (fill trace now x).sender.outstanding
stays_fill zero now x = stays_same x.sender.outstanding
stays_fill {P} (suc trace) now x = go (next_turn now x).is_more (stays_fill trace now (next_turn now x).filling)
  where
    y : Filling P
    y = (next_turn now x).filling

    once : Stays x.sender.outstanding y.sender.outstanding
    once = stays_turned_if _ now x

    go : (b : Bool) → Stays y.sender.outstanding (fill trace now y).sender.outstanding → Stays x.sender.outstanding (cond b (fill trace now y) y).sender.outstanding
    go true h = stays_then x.sender.outstanding y.sender.outstanding (fill trace now y).sender.outstanding once h
    go false h = once

stays_sent : {P : Type 0} (now most : ℕ) (s : Sender) (q : Queue) (t : Emitted P) → Stays s.outstanding (send now most s q t).sender.outstanding
stays_sent {P} now most s q t =
    let u : Sender = without_discards s in
    let r : Resent = resent most u in
    let x : Filling P = filled_with most u r (discard_all s.outstanding.items.discards q t) in
    let y : Filling P = fill (suc x.left) now x in
    stays_then s.outstanding u.outstanding (send now most s q t).sender.outstanding (record { first = refl; items = record { partial = refl; mode = refl } })
    (stays_then u.outstanding r.outstanding (send now most s q t).sender.outstanding (stays_resent false _ _ u.outstanding)
    (stays_then r.outstanding y.sender.outstanding (send now most s q t).sender.outstanding (stays_fill (suc x.left) now x)
    (stays_timed now y.chunks y.sender)))

-- ---- an end at work

-- the options of both ends, and what the one that acts emitted before this action
pub record Setting : Type 0 where
  pub own : Options
  pub other : Options
  pub past : List (Event Carried)

abbrev pub EmitsAll : (o q : Options) → Carried → Type 0
EmitsAll o q p = All (Emits o q) p.chunks

pub record Inv (g : Setting) (v : View) (o : Options) (pack : Packing Carried) (es : List (Event Carried)) (chunks : List ChunkTree) : Type 0 where
  pub able : Able g.own g.other v
  pub size : ℕ
  pub options : o ≡ record g.own { max_message_size = size }
  pub packing : pack ≡ as_carried
  pub said : All (EmitsAll g.own g.other) (packets_in (g.past ++ es))
  pub made : All (Emits g.own g.other) chunks

abbrev pub InvAt : Setting → EndWithPacket Carried → Type 0
InvAt g m = Inv g (view_of m.state) m.context.options m.context.pack m.context.emitted.events m.packet.chunks

-- what a call receives of the other end
pub record Receives (g : Setting) (call : Call) : Type 0 where
  pub says : (tag : ℕ) (chunk : ChunkTree) → BringsChunk call tag chunk → Emits g.other g.own chunk
  pub restores : (h : HandoverState) → call ≡ Restore h → ⊥
  pub own : AreValidOptions g.own
  pub other : AreValidOptions g.other

module _ (g : Setting) (v : View) (o : Options) (pack : Packing Carried) (es : List (Event Carried)) (chunks : List ChunkTree) (i : Inv g v o pack es chunks) where
  inv_made : (cs : List ChunkTree) → All (Emits g.own g.other) cs → Inv g v o pack es cs
  inv_made cs h = record { able = i.able; size = i.size; options = i.options; packing = i.packing; said = i.said; made = h }

  -- the state is seen otherwise, and more is emitted that is no packet
  inv_view : (w : View) (more now : List (Event Carried)) → now ≡ es ++ more → packets_in more ≡ [] → Able g.own g.other w → Inv g w o pack now chunks
  inv_view w more now behind none able = record {
    able = able;
    size = i.size;
    options = i.options;
    packing = i.packing;
    said = subst (λ (z : List (Event Carried)). All (EmitsAll g.own g.other) (packets_in (g.past ++ z))) (sym behind)
        (subst (All (EmitsAll g.own g.other)) (sym (packets_now g.past es more [] none ∙ append-nil (packets_in (g.past ++ es)))) i.said);
    made = i.made;
  }

  inv_emitted : (h : Options) (tag : ℕ) (is_summed : Bool) → Inv g v o pack (es ++ SendPacket (pack.write (header_to h tag) is_summed chunks) ∷ []) []
  inv_emitted h tag is_summed =
      let p : Carried = pack.write (header_to h tag) is_summed chunks in
      let is : p ≡ as_carried.write (header_to h tag) is_summed chunks = ap (λ (f : Packing Carried). f.write (header_to h tag) is_summed chunks) i.packing in
      record {
        able = i.able;
        size = i.size;
        options = i.options;
        packing = i.packing;
        said = subst (All (EmitsAll g.own g.other)) (sym (packets_now g.past es (SendPacket p ∷ []) (p ∷ []) refl))
            (All-push (EmitsAll g.own g.other) (packets_in (g.past ++ es)) p i.said (subst (EmitsAll g.own g.other) (sym is) i.made));
        made = All-nil (Emits g.own g.other);
      }

-- ---- chunks that are put in

module _ (o q : Options) where
  plain_right : (c : ChunkTree) → is_plain c ≡ true → Emits o q c
  plain_right (init_chunk i) e = cc
  plain_right (init_ack_chunk i) e = cc
  plain_right (cookie_echo_chunk c) e = cc
  plain_right (data_chunk tsn is_immediate f) e = cc
  plain_right (idata_chunk tsn is_immediate f) e = cc
  plain_right (forward_tsn_chunk tsn skipped) e = cc
  plain_right (i_forward_tsn_chunk tsn skipped) e = cc
  plain_right c e = refl

  data_right : (b is_immediate : Bool) (c : ℕ × FragmentTree) → (agreed q o).message_interleaving ≡ b → Emits o q (fragment_chunk b is_immediate c)
  data_right true is_immediate c e = rw e refl
  data_right false is_immediate c e = rw e refl

  data_all : (b is_immediate : Bool) (cs : List (ℕ × FragmentTree)) → (agreed q o).message_interleaving ≡ b → All (Emits o q) (map (fragment_chunk b is_immediate) cs)
  data_all b is_immediate [] e = All-nil (Emits o q)
  data_all b is_immediate (c ∷ cs) e =
      All-cons (Emits o q) (fragment_chunk b is_immediate c) (map (fragment_chunk b is_immediate) cs) (data_right b is_immediate c e) (data_all b is_immediate cs e)

able_on : (o q : Options) (k : Capabilities) (a b c d : Bool) (kept : Option (List ℕ)) → c ≡ a → d ≡ b → IsAble o q k a b kept → IsAble o q k c d kept
able_on o q k a b c d kept e f h = record { agrees = h.agrees; partial = e ∙ h.partial; mode = f ∙ h.mode; is_kept = h.is_kept }

module _ (g : Setting) (call : Call) (r : Receives g call) where
  adds : (v : View) (os : Options) (pack : Packing Carried) (es : List (Event Carried)) (p : PacketDraft) (c : ChunkTree) → Inv g v os pack es p.chunks → Emits g.own g.other c
      → Inv g v os pack es (add c p).chunks
  adds v os pack es p c inv h = inv_made g v os pack es p.chunks inv (add c p).chunks (holds_added (λ tag d. Emits g.own g.other d) p c inv.made h)

  adds_many : (v : View) (os : Options) (pack : Packing Carried) (es : List (Event Carried)) (p : PacketDraft) (cs : List ChunkTree) → Inv g v os pack es p.chunks
      → All (Emits g.own g.other) cs → Inv g v os pack es (add_all cs p).chunks
  adds_many v os pack es p cs inv h =
      inv_made g v os pack es p.chunks inv (add_all cs p).chunks (holds_all_added (λ tag d. Emits g.own g.other d) cs p inv.made (λ tag. h))

  -- what is emitted lightly, and a state that is as able
  inv_emitting_no_packet_or_status : (v w : View) (m n : EndWithPacket Carried) (cs : List ChunkTree) → EmitsNoPacketOrStatus m.context.emitted n.context.emitted → Able g.own g.other w
      → Inv g v m.context.options m.context.pack m.context.emitted.events cs → Inv g w m.context.options m.context.pack n.context.emitted.events cs
  inv_emitting_no_packet_or_status v w m n cs l able inv =
      inv_view g v m.context.options m.context.pack m.context.emitted.events cs inv w l.events n.context.emitted.events l.behind (no_packet_or_status_has_no_packets l.events l.all) able

  -- the sender goes on in the same mode
  sends_on : (phase : Phase) (t : Tcb) (s : Sender) → Stays t.sender.outstanding s.outstanding → Able g.own g.other (view_of (Open phase t))
      → Able g.own g.other (view_of (Open phase (record t { sender = s })))
  sends_on phase t s h able =
      able_on g.own g.other t.capabilities t.sender.outstanding.items.is_partial t.sender.outstanding.items.is_interleaved s.outstanding.items.is_partial
      s.outstanding.items.is_interleaved _ h.items.partial h.items.mode able

  mode_now : (phase : Phase) (t : Tcb) → Able g.own g.other (view_of (Open phase t)) → (agreed g.other g.own).message_interleaving ≡ t.capabilities.message_interleaving
  mode_now phase t able = same_mode g.own g.other ∙ ap (λ (k : Capabilities). k.message_interleaving) (sym able.agrees)

  -- ---- packets

  keeps_packets : (act : PacketAct Carried call) → InvAt g (before_packets act) → InvAt g (after_packets act)
  keeps_packets (begins p m new summed to) inv =
      inv_made g (view_of m.state) m.context.options m.context.pack m.context.emitted.events m.packet.chunks inv p.chunks
      (subst (All (Emits g.own g.other)) (sym new) (All-nil (Emits g.own g.other)))
  keeps_packets (adds_plain chunk m plain others fair) inv =
      adds (view_of m.state) m.context.options m.context.pack m.context.emitted.events m.packet chunk inv (plain_right g.own g.other chunk plain)
  keeps_packets (emits m some bundled) inv =
      inv_emitted g (view_of m.state) m.context.options m.context.pack m.context.emitted.events m.packet.chunks inv m.context.options m.packet.tag m.packet.is_summed
  keeps_packets (emits_error kind text m) inv =
      inv_view g (view_of m.state) m.context.options m.context.pack m.context.emitted.events m.packet.chunks inv (view_of m.state) (OnError kind text ∷ []) _ refl refl inv.able
  keeps_packets (counts m) inv = inv

  -- ---- the handshake

  answers : (v : View) (m : EndWithPacket Carried) (i : InitTree) (tag first tie : ℕ) → Emits g.other g.own (init_chunk i)
      → Inv g v m.context.options m.context.pack m.context.emitted.events m.packet.chunks
      → Inv g v m.context.options m.context.pack m.context.emitted.events (add (init_ack_chunk (init_ack_of m.context.options i tag first tie)) m.packet).chunks
  answers v m i tag first tie said inv =
      let o : Options = m.context.options in
      adds v o m.context.pack m.context.emitted.events m.packet (init_ack_chunk (init_ack_of o i tag first tie)) inv
      (subst (λ (z : Options). Emits g.own g.other (init_ack_chunk (init_ack_of z i tag first tie))) (sym inv.options)
      (emits_back g.own g.other i tag first tie r.other said))

  -- a control block is made by a cookie
  opened : (v : View) (m : EndWithPacket Carried) (tag : ℕ) (k : Cookie) (more : List (Event Carried)) (tie : ℕ) → packets_in more ≡ [] → IsEchoed call tag k
      → Inv g v m.context.options m.context.pack m.context.emitted.events m.packet.chunks
      → Inv g (view_of (Open Established (tcb_by m.context.options k tie))) m.context.options m.context.pack (m.context.emitted.events ++ more) m.packet.chunks
  opened v m tag k more tie none h inv =
      let o : Options = m.context.options in
      let said : Brings g.own g.other h.cookie = r.says tag (cookie_echo_chunk h.cookie) h.received in
      inv_view g v o m.context.pack m.context.emitted.events m.packet.chunks inv (view_of (Open Established (tcb_by o k tie))) more (m.context.emitted.events ++ more) refl none
      (record { agrees = ap (λ (z : Options). negotiate z k.peer_capabilities) inv.options ∙ said k h.reads; partial = refl; mode = refl; is_kept = tt })

  established : (t1 : _) (cookie : List ℕ) (t : Tcb) (m : EndWithPacket Carried) → InvAt g (in_open (CookieEchoed t1 cookie) t m)
      → Inv g (view_of (Open Established t)) m.context.options m.context.pack (m.context.emitted.events ++ OnConnected ∷ []) m.packet.chunks
  established t1 cookie t m inv =
      inv_view g (view_of (Open (CookieEchoed t1 cookie) t)) m.context.options m.context.pack m.context.emitted.events m.packet.chunks inv (view_of (Open Established t))
      (OnConnected ∷ []) (m.context.emitted.events ++ OnConnected ∷ []) refl refl
      (record { agrees = inv.able.agrees; partial = inv.able.partial; mode = inv.able.mode; is_kept = tt })

  keeps_opening : (act : OpeningAct Carried call) → InvAt g (before_opening act) → InvAt g (after_opening act)
  keeps_opening (connects m is) inv = record { able = tt; size = inv.size; options = inv.options; packing = inv.packing; said = inv.said; made = inv.made }
  keeps_opening (adds_init tag first t1 m to) inv =
      let o : Options = m.context.options in
      adds alone o m.context.pack m.context.emitted.events m.packet (init_chunk (init_of o tag first (announced_parameters o o.zero_checksum_method))) inv
      (subst (λ (z : Options). Emits g.own g.other (init_chunk (init_of z tag first (announced_parameters z z.zero_checksum_method)))) (sym inv.options) refl)
  keeps_opening (answers_new tag i m h to) inv = answers (view_of Closed) m i _ _ _ (r.says tag (init_chunk i) h) inv
  keeps_opening (answers_waiting tag i my_tag first t1 m h to) inv = answers (view_of (CookieWait my_tag first t1)) m i _ _ _ (r.says tag (init_chunk i) h) inv
  keeps_opening (answers_echoed tag i t1 cookie t m h to) inv = answers (view_of (Open (CookieEchoed t1 cookie) t)) m i _ _ _ (r.says tag (init_chunk i) h) inv
  keeps_opening (answers_again tag i phase t m h late to) inv = answers (view_of (Open phase t)) m i _ _ _ (r.says tag (init_chunk i) h) inv
  keeps_opening (echoes tag i cookie my_tag first t1 m h brought) inv =
      let o : Options = m.context.options in
      let said = r.says tag (init_ack_chunk i) h in
      let t : Tcb = tcb o (identity_of_init_ack i my_tag first (long_word (end_of m))) i.a_rwnd (agreed_by o i) in
      record {
        able = record {
          agrees = ap (λ (z : Options). agreed_by z i) inv.options ∙ said.can;
          partial = refl;
          mode = refl;
          is_kept = said.cookie cookie brought;
        };
        size = inv.size;
        options = inv.options;
        packing = inv.packing;
        said = inv.said;
        made = inv.made;
      }
  keeps_opening (adds_cookie t1 cookie t m to) inv =
      adds (view_of (Open (CookieEchoed t1 cookie) t)) m.context.options m.context.pack m.context.emitted.events m.packet (cookie_echo_chunk cookie) inv inv.able.is_kept
  keeps_opening (establishes tag t1 cookie t m h) inv = established t1 cookie t m inv
  keeps_opening (opens tag k m h none is) inv = opened (view_of m.state) m tag k (OnConnected ∷ []) (long_word (end_of m)) refl h inv
  keeps_opening (restarts tag k phase t m h resolution) inv =
      let n : EndWithPacket Carried = with_context (emptied_if m.context.options.avoid_stalls m.context) m in
      let v : View = view_of (Open phase t) in
      subst (λ (es : List (Event Carried)). Inv g (view_of (Open Established (tcb_by m.context.options k (long_word (end_of m))))) m.context.options m.context.pack es m.packet.chunks)
      (sym (append_assoc n.context.emitted.events (OnConnectionRestarted ∷ []) (OnConnected ∷ [])))
      (opened v n tag k (OnConnectionRestarted ∷ OnConnected ∷ []) (long_word (end_of m)) refl h
      (inv_emitting_no_packet_or_status v v m n m.packet.chunks (restart_gives_up m.context) inv.able inv))
  keeps_opening (opens_again tag k phase t m h resolution) inv = opened (view_of (Open phase t)) m tag k (OnConnected ∷ []) (long_word (end_of m)) refl h inv
  keeps_opening (maintains tag k t1 cookie t m h resolution) inv = established t1 cookie t m inv
  keeps_opening (adds_cookie_ack tag back phase t m h late) inv =
      adds (view_of (Open phase t)) m.context.options m.context.pack m.context.emitted.events m.packet cookie_ack_chunk inv refl

  -- ---- closing

  shuts_from : (phase : Phase) (t : Tcb) (m : EndWithPacket Carried) → may_shut phase ≡ true → InvAt g (in_open phase t m) → InvAt g (in_open ShutdownPending t m)
  shuts_from (CookieEchoed t1 cookie) t m early inv = record {
    able = record { agrees = inv.able.agrees; partial = inv.able.partial; mode = inv.able.mode; is_kept = tt };
    size = inv.size;
    options = inv.options;
    packing = inv.packing;
    said = inv.said;
    made = inv.made;
  }
  shuts_from Established t m early inv = inv
  shuts_from phase t m early inv = cc

  keeps_closing : (act : ClosingAct Carried call) → InvAt g (before_closing act) → InvAt g (after_closing act)
  keeps_closing (closes e m there is) inv =
      inv_emitting_no_packet_or_status alone alone (in_state Closed (with_context (ended e m.context) m)) (in_state Closed (with_context (over e m.context) m)) m.packet.chunks
      (over_gives_up e m.context) tt
      (inv_view g (view_of m.state) m.context.options m.context.pack m.context.emitted.events m.packet.chunks inv alone (e ∷ []) (m.context.emitted.events ++ e ∷ []) refl
      (ends_no_packet e is) tt)
  keeps_closing (shuts phase t m is early) inv = shuts_from phase t m early inv
  keeps_closing (shuts_on phase next t m late later) inv =
      subst (λ (v : View). Inv g v m.context.options m.context.pack m.context.emitted.events m.packet.chunks) (late_phase phase t late ∙ sym (late_phase next t later)) inv

  -- ---- what the peer sent

  keeps_data : (act : DataAct Carried call) → InvAt g (before_data act) → InvAt g (after_data act)
  keeps_data (takes_data tag tsn is_immediate f phase t m received right some is) inv = inv
  keeps_data (takes_idata tag tsn is_immediate f phase t m received right some is) inv = inv
  keeps_data (takes_forward tag tsn skipped phase t m received right valid) inv = inv
  keeps_data (takes_iforward tag tsn skipped phase t m received right valid) inv = inv

  keeps_sack : (act : SackAct Carried call) → InvAt g (before_sack act) → InvAt g (after_sack act)
  keeps_sack (takes_sack tag k phase t m received valid) inv =
      let act : SackAct Carried call = takes_sack tag k phase t m received valid in
      inv_emitting_no_packet_or_status (view_of (Open phase t)) (view_of (after_sack act).state) m (after_sack act) m.packet.chunks (sack_act_emits_no_packet_or_status act)
      (sends_on phase t (sender_if true m.context.now (point_of k t) k.a_rwnd (clean_blocks k.gap_ack_blocks) t.sender m.context.emitted)
      (record { first = refl; items = alike_received (point_of k t) _ _ _ t.sender.outstanding.items m.context.emitted }) inv.able) inv
  keeps_sack (samples k phase t m) inv = inv
  keeps_sack (counts_errors e m) inv = inv

  -- ---- sending

  keeps_sending : (act : SendingAct Carried call) → InvAt g (before_sending act) → InvAt g (after_sending act)
  keeps_sending (asks also_if_delayed phase t m) inv = inv
  keeps_sending (forces_ack phase t m) inv = inv
  keeps_sending (adds_ack phase t m) inv =
      adds (view_of (Open phase t)) m.context.options m.context.pack m.context.emitted.events m.packet (selective_ack t) inv refl
  keeps_sending (expires phase t m) inv =
      let act : SendingAct Carried call = expires phase t m in
      inv_emitting_no_packet_or_status (view_of (Open phase t)) (view_of (after_sending act).state) m (after_sending act) m.packet.chunks (sending_act_emits_no_packet_or_status act)
      (sends_on phase t (abandon_expired m.context.now t.sender m.context.emitted) (record { first = refl; items = alike_outstanding m.context.now t.sender.outstanding.items m.context.emitted }) inv.able) inv
  keeps_sending (adds_forward phase t m due) inv =
      let parts = and_parts t.sender.outstanding.items.is_partial _ due in
      let k : Capabilities = agreed g.other g.own in
      adds (view_of (Open phase t)) m.context.options m.context.pack m.context.emitted.events m.packet (forward_chunk t.sender) inv
      (says_forward _ t.sender (forward_right _ k t.sender (mode_now phase t inv.able ∙ sym inv.able.mode)
      (same_partial g.own g.other ∙ (ap (λ (z : Capabilities). z.partial_reliability) (sym inv.able.agrees) ∙ (sym inv.able.partial ∙ parts.0)))))
    where
      says_forward : (b : Bool) (s : Sender) → misuse (agreed g.other g.own) (chunk_if b s) ≡ None → Emits g.own g.other (chunk_if b s)
      says_forward true s h = h
      says_forward false s h = h
  keeps_sending (forwards_later n m) inv = inv
  keeps_sending (asks_no_reset most m none) inv = inv
  keeps_sending (asks_reset most stream streams phase t m some free) inv = inv
  keeps_sending (adds_request k phase t m is) inv =
      adds (view_of (Open phase t)) m.context.options m.context.pack m.context.emitted.events m.packet (request_chunk k) inv refl
  keeps_sending (sends phase t m) inv =
      let act : SendingAct Carried call = sends phase t m in
      let f : fragments.Filling Carried = fragments_of t m in
      let n : ℕ = room m.packet in
      inv_emitting_no_packet_or_status (view_of (Open phase t)) (view_of (after_sending act).state) m (after_sending act) _ (sending_act_emits_no_packet_or_status act)
      (sends_on phase t f.sender (stays_sent m.context.now n t.sender m.context.queue m.context.emitted) inv.able)
      (adds_many (view_of (Open phase t)) m.context.options m.context.pack m.context.emitted.events m.packet (data_chunks t (asks_at_once m.context.options t.sender) f.chunks) inv
      (data_all g.own g.other t.capabilities.message_interleaving (asks_at_once m.context.options t.sender) f.chunks (mode_now phase t inv.able)))
  keeps_sending (sends_fast phase t m some) inv =
      let n : ℕ = fast_most m.context.options in
      let cs : List ChunkTree = data_chunks t false (resent_fast n t.sender).chunks in
      let put : Inv g (view_of (Open phase t)) m.context.options m.context.pack m.context.emitted.events (add_all cs m.packet).chunks =
      adds_many (view_of (Open phase t)) m.context.options m.context.pack m.context.emitted.events m.packet cs inv
      (data_all g.own g.other t.capabilities.message_interleaving false (resent_fast n t.sender).chunks (mode_now phase t inv.able)) in
      record {
        able = sends_on phase t (send_fast m.context.now n t.sender) (stays_fast m.context.now n t.sender) inv.able;
        size = inv.size;
        options = inv.options;
        packing = inv.packing;
        said = inv.said;
        made = put.made;
      }

  -- ---- time and calls

  keeps_time : (act : TimeAct Carried call) → InvAt g (before_time act) → InvAt g (after_time act)
  keeps_time (times_out phase t m due) inv =
      let act : TimeAct Carried call = times_out phase t m due in
      inv_emitting_no_packet_or_status (view_of (Open phase t)) (view_of (after_time act).state) m (after_time act) m.packet.chunks (time_act_emits_no_packet_or_status act)
      (sends_on phase t (timed_out_sender m.context.now (timeout_of t m).items t.sender) (record { first = refl; items = alike_all t.sender.outstanding.items m.context.emitted }) inv.able) inv
  keeps_time (advances now m is on) inv = inv
  keeps_time (delay_ends phase t m) inv = inv
  keeps_time (beats h m) inv = inv
  keeps_time (times_init tag first old new m) inv = inv
  keeps_time (times_cookie old new cookie t m) inv = inv
  keeps_time (times_request timer phase t m) inv = inv
  keeps_time (times_items timer phase t m) inv = inv
  keeps_time (wakes_request phase t m) inv = inv

  keeps_calls : (act : CallAct Carried call) → InvAt g (before_call act) → InvAt g (after_call act)
  keeps_calls (accepts message o m offered fine) inv = inv
  keeps_calls (refuses message o e m offered is) inv =
      let act : CallAct Carried call = refuses message o e m offered is in
      inv_emitting_no_packet_or_status (view_of m.state) (view_of m.state) m (after_call act) m.packet.chunks (call_act_emits_no_packet_or_status act) inv.able inv
  keeps_calls (takes_message phase t m is) inv = inv
  keeps_calls (sets_low_threshold stream bytes m is) inv =
      let act : CallAct Carried call = sets_low_threshold stream bytes m is in
      inv_emitting_no_packet_or_status (view_of m.state) (view_of m.state) m (after_call act) m.packet.chunks (call_act_emits_no_packet_or_status act) inv.able inv
  keeps_calls (sets_priority stream priority m is) inv = inv
  keeps_calls (sets_max_message_size bytes m is) inv = record {
    able = inv.able;
    size = bytes;
    options = ap (λ (z : Options). record z { max_message_size = bytes }) inv.options;
    packing = inv.packing;
    said = inv.said;
    made = inv.made;
  }

  -- ---- resets of streams

  outcome_pack : (o : Outcome) (c : Context Carried) → (on_outcome o c).pack ≡ c.pack
  outcome_pack Unsettled c = refl
  outcome_pack (Done streams) c = refl
  outcome_pack (Denied streams) c = refl

  outcome_options : (o : Outcome) (c : Context Carried) → (on_outcome o c).options ≡ c.options
  outcome_options Unsettled c = refl
  outcome_options (Done streams) c = refl
  outcome_options (Denied streams) c = refl

  keeps_resets : (act : ResetAct Carried call) → InvAt g (before_reset act) → InvAt g (after_reset act)
  keeps_resets (prepares stream phase t m asked can) inv =
      let act : ResetAct Carried call = prepares stream phase t m asked can in
      inv_emitting_no_packet_or_status (view_of (Open phase t)) (view_of (Open phase t)) m (after_reset act) m.packet.chunks (reset_act_emits_no_packet_or_status act) inv.able inv
  keeps_resets (defers number response last_tsn streams phase t m asked known ahead) inv = inv
  keeps_resets (performs number response last_tsn streams phase t m asked known there) inv =
      let act : ResetAct Carried call = performs number response last_tsn streams phase t m asked known there in
      inv_emitting_no_packet_or_status (view_of (Open phase t)) (view_of (Open phase t)) m (after_reset act) m.packet.chunks (reset_act_emits_no_packet_or_status act) inv.able inv
  keeps_resets (processes number streams phase t m asked known) inv = inv
  keeps_resets (takes_response rto number result sender receiver phase t m asked) inv =
      let act : ResetAct Carried call = takes_response rto number result sender receiver phase t m asked in
      let o : Outcome = outcome number result t.requests.current in
      let still = inv_emitting_no_packet_or_status (view_of (Open phase t)) (view_of (Open phase t)) m (after_reset act) m.packet.chunks (reset_act_emits_no_packet_or_status act) inv.able inv in
      record {
        able = still.able;
        size = still.size;
        options = outcome_options o m.context ∙ still.options;
        packing = outcome_pack o m.context ∙ still.packing;
        said = still.said;
        made = still.made;
      }
  keeps_resets (adds_responses responses phase t m are answers) inv =
      adds (view_of (Open phase t)) m.context.options m.context.pack m.context.emitted.events m.packet (re_config_chunk responses) inv refl

  -- ---- handover, and the end of a packet

  keeps_handover : (act : HandoverAct Carried call) → InvAt g (before_handover act) → InvAt g (after_handover act)
  keeps_handover (leaves phase t m is) inv =
      inv_view g (view_of (Open phase t)) m.context.options m.context.pack m.context.emitted.events m.packet.chunks inv alone (OnClosed ∷ []) _ refl refl tt
  keeps_handover (takes_up h m is valid) inv = absurd (r.restores h is)

  keeps_input : (act : InputAct Carried call) → InvAt g (before_input act) → InvAt g (after_input act)
  keeps_input (ends_packet phase t m) inv = inv

  pub negotiates : Preserves call (λ a b. InvAt g a → InvAt g b)
  negotiates = record {
    same = λ m inv. inv;
    through = λ {a} {b} {c} f h inv. h (f inv);
    packets = keeps_packets;
    opening = keeps_opening;
    closing = keeps_closing;
    data_acts = keeps_data;
    acknowledging = keeps_sack;
    sending = keeps_sending;
    time = keeps_time;
    calls = keeps_calls;
    resets = keeps_resets;
    handover = keeps_handover;
    input = keeps_input;
  }
