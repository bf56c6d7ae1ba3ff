-- A SACK under other names: the same items are acknowledged, and what goes out behind it is written under the names.
use Rattle.std.proofs.Common.{◌≡◌, ℕ, Bool, true, false, Option, Some, None, List, refl, ap, ◌∙◌}
use Rattle.sctp_chunk.specs.declared.sack.GapAckBlock.{GapAckBlock}
use Rattle.sctp_packet.specs.Chunk.{SackTree, shutdown_chunk, shutdown_ack_chunk, cookie_echo_chunk}
use Rattle.sctp_state.specs.Events.{Emitted}
use Rattle.sctp_tx_outstanding.specs.OutstandingData.{number_of}
use Rattle.sctp_tx_outstanding.specs.Sack.{is_valid}
use Rattle.sctp_rx.specs.DataTracker as tracker
use Rattle.sctp_tx.specs.RetransmissionQueue.{Sender, SackAnswer, Invalid, Valid, sender_if, emitted_if, answer_if}
use Rattle.spec_endpoint.specs.Association.{Tcb, Phase, CookieEchoed, Established, ShutdownPending, ShutdownSent, ShutdownReceived, ShutdownAckSent, State, Closed, CookieWait, Open, Context, EndpointState, Packing}
use Rattle.spec_endpoint.specs.Packets.{add, new_packet, emit_chunk, PacketDraft, packet_to}
use Rattle.spec_endpoint.specs.Sending.{AfterSending, is_before_cookie_ack, open_with, send_lost, send_with, cookie_packet_if, answer_packet}
use Rattle.spec_endpoint.specs.Shutdown.{t2_shutdown, send_shutdown, PhaseStep, phase_step, pending_next, received_next, maybe_send_shutdown_or_ack, is_quiet}
use Rattle.spec_endpoint.specs.Sack.{clean_blocks, sample_rtt, clear_errors_if, send_after, after_sack, on_clean_sack, on_sack_in, on_sack, is_late, sampled_unless}
use Rattle.spec_endpoint.specs.Sack as acks
use Rattle.proof_draws.specs.NamedChunks.{Names, AreNames, flip, named_sack}
use Rattle.proof_draws.specs.Names.{named_sender, named_phase, named_tcb, named_state, named_endpoint_state, plain, named_packet}
use Rattle.proof_draws.proofs.MovedLemmas.{moved_wire}
use Rattle.proof_draws.proofs.WritingLemmas.{Knows, named_emit_chunk, emit_stays, named_add}
use Rattle.proof_draws.proofs.ReadingLemmas.{acked_number}
use Rattle.proof_draws.proofs.TagLemmas.{alone_named}
use Rattle.proof_draws.proofs.FillingLemmas.{named_sent, send_lost_named, send_lost_stays, send_with_named}
use Rattle.proof_endpoint.proofs.RowMapsLemmas.{received_with}
use Rattle.sctp_state.specs.Options.{Options}

abbrev pub named_onward : {P : Type 0} → Names → Packing P → PhaseStep P → PhaseStep P
named_onward n pack o = record { phase = named_phase n o.phase; context = plain n pack o.context }

module _ {P : Type 0} where
  pending_stays : (b : Bool) (t : Tcb) (c : Context P) → (pending_next b t c).context.pack ≡ c.pack
  pending_stays true t c = emit_stays (add (shutdown_chunk (tracker.wire_tsn t.tracker t.tracker.tracker.seen.front)) (new_packet c.options t)) c
  pending_stays false t c = refl

  received_stays : (b : Bool) (t : Tcb) (c : Context P) → (received_next b t c).context.pack ≡ c.pack
  received_stays true t c = emit_stays (add shutdown_ack_chunk (new_packet c.options t)) c
  received_stays false t c = refl

  pub go_on_stays : (phase : Phase) (t : Tcb) (c : Context P) → (maybe_send_shutdown_or_ack phase t c).context.pack ≡ c.pack
  go_on_stays (CookieEchoed t1 cookie) t c = refl
  go_on_stays Established t c = refl
  go_on_stays ShutdownPending t c = pending_stays (is_quiet t c) t c
  go_on_stays (ShutdownSent t2) t c = refl
  go_on_stays ShutdownReceived t c = received_stays (is_quiet t c) t c
  go_on_stays (ShutdownAckSent t2) t c = refl

-- ---- what the items make of it

module _ (n : Names) where
  answer_named : (valid : Bool) (now k : ℕ) (bs : List GapAckBlock) (s : Sender) → answer_if valid now k bs (named_sender n s) ≡ answer_if valid now k bs s
  answer_named true now k bs s = refl
  answer_named false now k bs s = refl

  sampled_named : (o : Option ℕ) (t : Tcb) → sample_rtt o (named_tcb n t) ≡ named_tcb n (sample_rtt o t)
  sampled_named None t = refl
  sampled_named (Some sample) t = refl

module _ {P : Type 0} (n : Names) where
  sender_named : (valid : Bool) (now k a_rwnd : ℕ) (bs : List GapAckBlock) (s : Sender) (emitted : Emitted P)
      → sender_if valid now k a_rwnd bs (named_sender n s) emitted ≡ named_sender n (sender_if valid now k a_rwnd bs s emitted)
  sender_named true now k a_rwnd bs s emitted = refl
  sender_named false now k a_rwnd bs s emitted = refl

  emitted_named : (valid : Bool) (k : ℕ) (bs : List GapAckBlock) (s : Sender) (emitted : Emitted P) → emitted_if valid k bs (named_sender n s) emitted ≡ emitted_if valid k bs s emitted
  emitted_named true k bs s emitted = refl
  emitted_named false k bs s emitted = refl

-- ---- the row

module _ {P : Type 0} (n : Names) (are : AreNames n) (pack : Packing P) where
  pub send_shutdown_named : (t : Tcb) (c : Context P) → Knows n pack c → send_shutdown (named_tcb n t) (plain n pack c) ≡ plain n pack (send_shutdown t c)
  send_shutdown_named t c k =
      let front : ℕ = t.tracker.tracker.seen.front in
      ap (λ (w : ℕ). emit_chunk (shutdown_chunk w) (named_tcb n t) (plain n pack c)) (moved_wire n.peer t.tracker.first front)
      ∙ named_emit_chunk n are pack (shutdown_chunk (tracker.wire_tsn t.tracker front)) t c k

  pub pending_named : (b : Bool) (t : Tcb) (c : Context P) → Knows n pack c → pending_next b (named_tcb n t) (plain n pack c) ≡ named_onward n pack (pending_next b t c)
  pending_named true t c k = ap (λ (d : Context P). phase_step (ShutdownSent (t2_shutdown t c)) d) (send_shutdown_named t c k)
  pending_named false t c k = refl

  received_named : (b : Bool) (t : Tcb) (c : Context P) → Knows n pack c → received_next b (named_tcb n t) (plain n pack c) ≡ named_onward n pack (received_next b t c)
  received_named true t c k = ap (λ (d : Context P). phase_step (ShutdownAckSent (t2_shutdown t c)) d) (named_emit_chunk n are pack shutdown_ack_chunk t c k)
  received_named false t c k = refl

  pub go_on_named : (phase : Phase) (t : Tcb) (c : Context P) → Knows n pack c → maybe_send_shutdown_or_ack (named_phase n phase) (named_tcb n t) (plain n pack c) ≡ named_onward n pack (maybe_send_shutdown_or_ack phase t c)
  go_on_named (CookieEchoed t1 cookie) t c k = refl
  go_on_named Established t c k = refl
  go_on_named ShutdownPending t c k = pending_named (is_quiet t c) t c k
  go_on_named (ShutdownSent t2) t c k = refl
  go_on_named ShutdownReceived t c k = received_named (is_quiet t c) t c k
  go_on_named (ShutdownAckSent t2) t c k = refl

  cookie_packet_named : (b : Bool) (cookie : List ℕ) (o : Options) (t : Tcb) → cookie_packet_if b (n.cookie cookie) o (named_tcb n t) ≡ named_packet n (cookie_packet_if b cookie o t)
  cookie_packet_named true cookie o t = named_add n are (cookie_echo_chunk cookie) (packet_to t.identity.peer_tag o.mtu)
  cookie_packet_named false cookie o t = refl

  pub answer_packet_named : (phase : Phase) (o : Options) (t : Tcb) → answer_packet (named_phase n phase) o (named_tcb n t) ≡ named_packet n (answer_packet phase o t)
  answer_packet_named (CookieEchoed t1 cookie) o t = cookie_packet_named o.avoid_stalls cookie o t
  answer_packet_named Established o t = refl
  answer_packet_named ShutdownPending o t = refl
  answer_packet_named (ShutdownSent t2) o t = refl
  answer_packet_named ShutdownReceived o t = refl
  answer_packet_named (ShutdownAckSent t2) o t = refl

  send_after_named : (phase : Phase) (t : Tcb) (c : Context P) → Knows n pack c
      → send_after (named_phase n phase) (named_tcb n t) (plain n pack c) ≡ named_sent n pack (send_after phase t c)
  send_after_named phase t c k =
      let x : AfterSending P = send_lost t c in
      let u : Tcb = named_tcb n x.tcb in
      let d : Context P = plain n pack x.context in
      let p : PacketDraft = answer_packet phase x.context.options x.tcb in
      let q : PacketDraft = answer_packet (named_phase n phase) x.context.options u in
      ap (λ (y : AfterSending P). send_with (is_before_cookie_ack (named_phase n phase)) (answer_packet (named_phase n phase) y.context.options y.tcb) y.tcb y.context)
      (send_lost_named n are pack t c k)
      ∙ (ap (λ (b : Bool). send_with b q u d) (alone_named n phase)
      ∙ (ap (λ (r : PacketDraft). send_with (is_before_cookie_ack phase) r u d) (answer_packet_named phase x.context.options x.tcb)
      ∙ send_with_named n are pack (is_before_cookie_ack phase) p x.tcb x.context (send_lost_stays t c ∙ k)))

  goes_on_named : (t : Tcb) (o : PhaseStep P) → Knows n pack o.context → acks.send_after_sack (named_tcb n t) (named_onward n pack o) ≡ named_endpoint_state n pack (acks.send_after_sack t o)
  goes_on_named t o k = ap (λ (x : AfterSending P). open_with (named_phase n o.phase) x) (send_after_named o.phase t o.context k)

  receives_named : (a : SackAnswer) (phase : Phase) (t : Tcb) (c : Context P) → Knows n pack c → after_sack a (named_phase n phase) (named_tcb n t) (plain n pack c) ≡ named_endpoint_state n pack (after_sack a phase t c)
  receives_named Invalid phase t c k = refl
  receives_named (Valid rtt is_progress) phase t c k =
      let d : Context P = clear_errors_if is_progress c in
      let v : Tcb = sample_rtt rtt t in
      ap (λ (u : Tcb). acks.send_after_sack u (maybe_send_shutdown_or_ack (named_phase n phase) u (plain n pack d))) (sampled_named n rtt t)
      ∙ (ap (λ (o : PhaseStep P). acks.send_after_sack (named_tcb n v) o) (go_on_named phase v d k) ∙ goes_on_named v (maybe_send_shutdown_or_ack phase v d) (go_on_stays phase v d ∙ k))

  clean_sack_named : (m a_rwnd : ℕ) (bs : List GapAckBlock) (phase : Phase) (t : Tcb) (c : Context P) → Knows n pack c
      → on_clean_sack m a_rwnd bs (named_phase n phase) (named_tcb n t) (plain n pack c) ≡ named_endpoint_state n pack (on_clean_sack m a_rwnd bs phase t c)
  clean_sack_named m a_rwnd bs phase t c k =
      let valid : Bool = is_valid m bs t.sender.outstanding.items in
      let late : Bool = is_late c.options m t.sender.outstanding.items in
      let a : SackAnswer = sampled_unless late (answer_if valid c.now m bs t.sender) in
      let s : Sender = sender_if valid c.now m a_rwnd bs t.sender c.emitted in
      let u : Emitted P = emitted_if valid m bs t.sender c.emitted in
      let s' : Sender = named_sender n t.sender in
      let p : Phase = named_phase n phase in
      ap (λ (x : SackAnswer). received_with (sampled_unless late x) p (named_tcb n t) (plain n pack c) (sender_if valid c.now m a_rwnd bs s' c.emitted) (emitted_if valid m bs s' c.emitted)) (answer_named n valid c.now m bs t.sender)
      ∙ (ap (λ (x : Sender). received_with a p (named_tcb n t) (plain n pack c) x (emitted_if valid m bs s' c.emitted)) (sender_named n valid c.now m a_rwnd bs t.sender c.emitted)
      ∙ (ap (λ (x : Emitted P). received_with a p (named_tcb n t) (plain n pack c) (named_sender n s) x) (emitted_named n valid m bs t.sender c.emitted)
      ∙ receives_named a phase (record t { sender = s }) (record c { emitted = u }) k))

  sack_in_named : (st : State) (h : SackTree) (c : Context P) → Knows n pack c
      → on_sack_in (named_state n st) (named_sack (flip n) h) (plain n pack c) ≡ named_endpoint_state n pack (on_sack_in st h c)
  sack_in_named Closed h c k = refl
  sack_in_named (CookieWait tag first t1) h c k = refl
  sack_in_named (Open phase t) h c k =
      ap (λ (m : ℕ). on_clean_sack m h.a_rwnd (clean_blocks h.gap_ack_blocks) (named_phase n phase) (named_tcb n t) (plain n pack c)) (acked_number n t.sender.outstanding h.cumulative_tsn_ack)
      ∙ clean_sack_named (number_of t.sender.outstanding h.cumulative_tsn_ack) h.a_rwnd (clean_blocks h.gap_ack_blocks) phase t c k

  pub named_on_sack : (h : SackTree) (s : EndpointState P) → Knows n pack s.context → on_sack (named_sack (flip n) h) (named_endpoint_state n pack s) ≡ named_endpoint_state n pack (on_sack h s)
  named_on_sack h s k = sack_in_named s.state h s.context k
