-- Acts that leave the rules of a receiver where they are, or make them go on: packets, what opens and shuts an association, and
-- what the peer sends.
use Rattle.std.proofs.Common.{◌≡◌, ℕ, ◌++◌, Bool, true, false, inl, inr, Option, List, [], ◌∷◌, All, refl, sym, ap, ◌∙◌, subst, arith, append-nil}
use Rattle.std.proofs.lemmas.Bool.{and_parts, true≢false}
use Rattle.sctp_serial.specs.Messages as messages
use Rattle.sctp_serial.specs.Unwrapped.{origin}
use Rattle.sctp_packet.specs.Chunk.{ChunkTree, FragmentTree, data_chunk, idata_chunk, forward_tsn_chunk, i_forward_tsn_chunk, cookie_echo_chunk, cookie_ack_chunk}
use Rattle.sctp_chunk.specs.declared.forward_tsn.SkippedStream.{SkippedStream}
use Rattle.sctp_state.specs.Options.{Options}
use Rattle.sctp_capabilities.specs.Capabilities.{Capabilities, agreed}
use Rattle.sctp_state.specs.Events as events
use Rattle.sctp_state.specs.Events.{OnConnected, OnError}
use Rattle.sctp_rx.specs.DataTracker as tracker
use Rattle.sctp_rx.specs.DataTracker.{is_valid}
use Rattle.sctp_rx.specs.ReassemblyQueue.{reassembly}
use Rattle.sctp_rx.specs.Sack.{clear_duplicates}
use Rattle.proof_protocol.specs.State.{Message}
use Rattle.proof_protocol.specs.Based.{EpochWindows}
use Rattle.proof_refines.specs.ReceiverRefinement.{ReceiverRefines}
use Rattle.proof_refines.specs.Near.{AreFew}
use Rattle.proof_refines.specs.Resets.{base_now}
use Rattle.spec_endpoint.specs.Association.{Identity, Tcb, most_fragments, tcb, Phase, CookieEchoed, ShutdownPending, State, Closed, CookieWait, Open}
use Rattle.spec_endpoint.specs.Data.{has_room, accepts_tsn, take_fragment, handle_forward_tsn}
use Rattle.spec_endpoint.specs.Sending.{selective_ack, without_duplicates}
use Rattle.spec_endpoint.specs.Laws.{Call}
use Rattle.proof_endpoint.specs.Mapped.{Carried}
use Rattle.proof_endpoint.specs.Acts.{EndWithPacket, BringsChunk, with_chunk, in_open, in_state, drew_one, drew_two, is_opened, PacketAct, begins, adds_plain, emits, emits_error, counts, before_packets, after_packets, OpeningAct, connects, adds_init, answers_new, answers_waiting, answers_echoed, answers_again, echoes, adds_cookie, establishes, opens, restarts, opens_again, maintains, adds_cookie_ack, before_opening, after_opening, ClosingAct, closes, shuts, shuts_on, before_closing, after_closing, DataAct, takes_data, takes_idata, takes_forward, takes_iforward, before_data, after_data}
use Rattle.spec_endpoint.specs.Packets.{packets_in}
use Rattle.proof_pair.proofs.AddedLemmas.{holds_added}
use Rattle.proof_pair.proofs.JoinActsLemmas.{Setting, InvAt, packets_both}
use Rattle.proof_delivery.proofs.ClaimLemmas.{Direction, transfer_of, SaysIn, first_in, IsFresh, IsReceiving, ReceivesIn, ReceiverClaim, ReceiverPremises, ReceiverGoes}
use Rattle.proof_delivery.proofs.FrameLemmas.{Lasts, GoesOnShut}
use Rattle.proof_delivery.proofs.ReadingDataLemmas.{windows_stay, few_stay, data_is_received, idata_is_received, point_is_received, ipoint_is_received}
use Rattle.proof_delivery.proofs.TrackerStaysLemmas.{tracker_new, tracker_emitted}
use Rattle.proof_delivery.proofs.ReceiverToolLemmas.{SameSender, sender_stays, no_chunks_said, no_packets_said}
use Rattle.proof_delivery.proofs.ResetEventsLemmas.{resets_in, none_behind, emitted_same}
use Rattle.proof_delivery.proofs.ReceiverDataLemmas.{Leads, taken_leads, passed_leads}
use Rattle.proof_delivery.proofs.ReceiverSackLemmas.{sack_made}
use Rattle.proof_delivery.proofs.ReceiverStepLemmas.{plain_says, acknowledging_changes, step_claims, stays_by, goes_through, goes_same, goes_led, goes_adding, goes_begun, goes_emitted}

-- an event that is no packet
pub one_more : (es : List (events.Event Carried)) (e : events.Event Carried) → packets_in (e ∷ []) ≡ [] → packets_in (es ++ e ∷ []) ≡ packets_in es
one_more es e none = packets_both es (e ∷ []) ∙ (ap (λ (ps : List Carried). packets_in es ++ ps) none ∙ append-nil (packets_in es))

-- ---- a control block is made

module _ (message : ℕ → Message) (is_interleaved : Bool) (handed : List messages.Message) (x : Direction) where
  fresh_at : (s : State) → is_opened s ≡ false → ReceivesIn message is_interleaved s handed x → IsFresh message is_interleaved handed x
  fresh_at Closed e h = h
  fresh_at (CookieWait tag first t1) e h = h
  fresh_at (Open phase t) e h = absurd (true≢false e)

  fresh_receives : (o : Options) (i : Identity) (a_rwnd : ℕ) (k : Capabilities) → is_interleaved ≡ k.message_interleaving → IsFresh message is_interleaved handed x
      → IsReceiving message is_interleaved handed (tcb o i a_rwnd k) x
  fresh_receives o i a_rwnd k mode h =
      let size : ℕ = o.max_receiver_window_buffer_size in
      let most : ℕ = most_fragments o in
      let with_mode : Bool → Tcb = λ b. record (tcb o i a_rwnd k) { reassembly = record (reassembly size b) { max_fragments = most } } in
      let made : IsReceiving message is_interleaved handed (with_mode is_interleaved) x = record {
        shift = 0;
        refines = subst (λ (ms : List messages.Message). ReceiverRefines message is_interleaved (base_now x.rules) 0 (transfer_of x) ms (tracker.tracker o origin) (record (reassembly size is_interleaved) { max_fragments = most })) (sym h.none_handed) (h.refines o size most);
        near = h.near i.peer_first size most;
        is_tracker = tracker_new o;
        waiting = tt;
        first = refl;
        answers = let none = h.none_done in inl (record { last = omega (arith, none); result = inr (refl, h.none_done); none = refl });
      } in
      subst (λ (b : Bool). IsReceiving message is_interleaved handed (with_mode b) x) mode made

module _ (message : ℕ → Message) (lifecycle : ℕ → Option ℕ) (is_interleaved : Bool) (g : Setting) (call : Call) (from : Direction)
    (p : ReceiverPremises message lifecycle is_interleaved g call from) (handed : List messages.Message) where
  abbrev Goes : (a b : EndWithPacket Carried) → Type 0
  Goes a b = ReceiverGoes message lifecycle is_interleaved from handed a b

  -- ---- packets

  pub goes_packets : (act : PacketAct Carried call) → InvAt g (before_packets act) → Goes (before_packets act) (after_packets act)
  goes_packets (begins packet m new summed to) inv = goes_begun message lifecycle is_interleaved from handed packet m new
  goes_packets (adds_plain chunk m plain others fair) inv =
      goes_adding message lifecycle is_interleaved from handed m chunk (λ x claim. plain_says (first_in m.state) (transfer_of from).acknowledged x chunk plain)
  goes_packets (emits m some bundled) inv = goes_emitted message lifecycle is_interleaved from handed m inv.packing
  goes_packets (emits_error kind text m) inv =
      goes_same message lifecycle is_interleaved from handed m (after_packets {call = call} (emits_error kind text m)) (λ x h. h) refl
      (one_more m.context.emitted.events (OnError kind text) refl) (none_behind m.context.emitted.events (OnError kind text ∷ []) refl) refl
  goes_packets (counts m) inv = goes_same message lifecycle is_interleaved from handed m (after_packets {call = call} (counts m)) (λ x h. h) refl refl refl refl

  -- ---- opening

  -- nothing came before
  goes_opened : (a b : EndWithPacket Carried) → is_opened a.state ≡ false
      → ((x : Direction) → IsFresh message is_interleaved handed x → ReceivesIn message is_interleaved b.state handed x)
      → packets_in b.context.emitted.events ≡ packets_in a.context.emitted.events → resets_in b.context.emitted.events ≡ resets_in a.context.emitted.events
      → b.packet.chunks ≡ a.packet.chunks → Goes a b
  goes_opened a b closed shown packets resets chunks x claim =
      let fresh : IsFresh message is_interleaved handed x = fresh_at message is_interleaved handed x a.state closed claim.shown in
      let one : ℕ = first_in a.state in
      let other : ℕ = first_in b.state in
      let least : ℕ = (transfer_of from).acknowledged in
      stays_by message lifecycle is_interleaved from handed a b x claim (shown x fresh) (λ s. emitted_same s a.context.emitted.events b.context.emitted.events resets)
      (λ h. subst (λ (ps : List Carried). All (λ (q : Carried). All (SaysIn other least x) q.chunks) ps) (sym packets)
      (no_packets_said x fresh.no_sacks fresh.none_done one other least (packets_in a.context.emitted.events) h))
      (λ h. subst (λ (cs : List ChunkTree). All (SaysIn other least x) cs) (sym chunks) (no_chunks_said x fresh.no_sacks fresh.none_done one other least a.packet.chunks h))

  -- in the mode that was agreed on
  mode_is : (k : Capabilities) → k ≡ agreed g.own g.other → is_interleaved ≡ k.message_interleaving
  mode_is k agrees = p.mode ∙ ap (λ (c : Capabilities). c.message_interleaving) (sym agrees)

  pub goes_opening : (act : OpeningAct Carried call) → Lasts act → InvAt g (before_opening act) → InvAt g (after_opening act)
      → Goes (before_opening act) (after_opening act)
  goes_opening (connects m is) lasts inv next =
      goes_same message lifecycle is_interleaved from handed (in_state Closed m) (after_opening {call = call} (connects m is)) (λ x h. h) refl refl refl refl
  goes_opening (adds_init tag first t1 m to) lasts inv next = goes_adding message lifecycle is_interleaved from handed (in_state (CookieWait tag first t1) m) _ (λ x claim. tt)
  goes_opening (answers_new tag i m received to) lasts inv next =
      let drawn : EndWithPacket Carried = in_state Closed (drew_two m) in
      let act : OpeningAct Carried call = answers_new tag i m received to in
      goes_through message lifecycle is_interleaved from handed (in_state Closed m) drawn (after_opening act)
      (goes_same message lifecycle is_interleaved from handed (in_state Closed m) drawn (λ x h. h) refl refl refl refl)
      (goes_adding message lifecycle is_interleaved from handed drawn _ (λ x claim. tt))
  goes_opening (answers_waiting tag i my_tag first t1 m received to) lasts inv next =
      goes_adding message lifecycle is_interleaved from handed (in_state (CookieWait my_tag first t1) m) _ (λ x claim. tt)
  goes_opening (answers_echoed tag i t1 cookie t m received to) lasts inv next =
      goes_adding message lifecycle is_interleaved from handed (in_open (CookieEchoed t1 cookie) t m) _ (λ x claim. tt)
  goes_opening (answers_again tag i phase t m received late to) lasts inv next =
      let drawn : EndWithPacket Carried = in_open phase t (drew_one m) in
      let act : OpeningAct Carried call = answers_again tag i phase t m received late to in
      goes_through message lifecycle is_interleaved from handed (in_open phase t m) drawn (after_opening act)
      (goes_same message lifecycle is_interleaved from handed (in_open phase t m) drawn (λ x h. h) refl refl refl refl)
      (goes_adding message lifecycle is_interleaved from handed drawn _ (λ x claim. tt))
  goes_opening (echoes tag i cookie my_tag first t1 m received brought) lasts inv next =
      goes_opened (in_state (CookieWait my_tag first t1) m) (after_opening {call = call} (echoes tag i cookie my_tag first t1 m received brought)) refl
      (λ x h. fresh_receives message is_interleaved handed x m.context.options _ _ _ (mode_is _ next.stands.can) h)
      refl refl refl
  goes_opening (adds_cookie t1 cookie t m to) lasts inv next =
      goes_adding message lifecycle is_interleaved from handed (in_open (CookieEchoed t1 cookie) t m) (cookie_echo_chunk cookie) (λ x claim. tt)
  goes_opening (establishes tag t1 cookie t m received) lasts inv next =
      goes_same message lifecycle is_interleaved from handed (in_open (CookieEchoed t1 cookie) t m) (after_opening {call = call} (establishes tag t1 cookie t m received))
      (λ x h. h) refl (one_more m.context.emitted.events OnConnected refl) (none_behind m.context.emitted.events (OnConnected ∷ []) refl) refl
  goes_opening (opens tag k m echoed closed own) lasts inv next =
      goes_opened m (after_opening {call = call} (opens tag k m echoed closed own)) closed
      (λ x h. fresh_receives message is_interleaved handed x m.context.options _ _ _ (mode_is _ next.stands.can) h)
      (one_more m.context.emitted.events OnConnected refl) (none_behind m.context.emitted.events (OnConnected ∷ []) refl) refl
  goes_opening (restarts tag k phase t m echoed verdict) lasts inv next = absurd lasts
  goes_opening (opens_again tag k phase t m echoed verdict) lasts inv next = absurd lasts
  goes_opening (maintains tag k t1 cookie t m echoed verdict) lasts inv next =
      goes_same message lifecycle is_interleaved from handed (in_open (CookieEchoed t1 cookie) t m) (after_opening {call = call} (maintains tag k t1 cookie t m echoed verdict))
      (λ x h. h) refl (one_more m.context.emitted.events OnConnected refl) (none_behind m.context.emitted.events (OnConnected ∷ []) refl) refl
  goes_opening (adds_cookie_ack tag back phase t m echoed late) lasts inv next = goes_adding message lifecycle is_interleaved from handed (in_open phase t m) cookie_ack_chunk (λ x claim. tt)

  -- ---- closing

  pub goes_closing : (act : ClosingAct Carried call) → GoesOnShut act → Goes (before_closing act) (after_closing act)
  goes_closing (closes e m there is) shut = absurd shut
  goes_closing (shuts phase t m is early) shut =
      goes_same message lifecycle is_interleaved from handed (in_open phase t m) (in_open ShutdownPending t m) (λ x h. h) refl refl refl refl
  goes_closing (shuts_on phase next t m late later) shut =
      goes_same message lifecycle is_interleaved from handed (in_open phase t m) (in_open next t m) (λ x h. h) refl refl refl refl

  -- ---- what the peer sent

  module _ (phase : Phase) (t : Tcb) (m : EndWithPacket Carried) (inv : InvAt g (in_open phase t m)) (x : Direction)
      (claim : ReceiverClaim message is_interleaved from handed (in_open phase t m) x) where
    same : SameSender message is_interleaved from.rules x.rules
    same = sender_stays message is_interleaved from x claim.goes

    windows : EpochWindows message x.rules
    windows = windows_stay message lifecycle is_interleaved g call from p handed phase t m inv x claim.kept claim.shown same claim.stay.0

    few : AreFew (transfer_of x).sender
    few = few_stay message lifecycle is_interleaved g call from p handed phase t m inv x claim.kept claim.shown same claim.stay.0

    data_leads : (tag tsn : ℕ) (is_immediate : Bool) (f : FragmentTree) → BringsChunk call tag (data_chunk tsn is_immediate f) → accepts_tsn m.context.options tsn t ≡ true
        → Leads message is_interleaved handed x (take_fragment tsn is_immediate f t)
    data_leads tag tsn is_immediate f received may =
        let h = data_is_received message lifecycle is_interleaved g call from p handed phase t m inv x claim.kept claim.shown same claim.stay.0
        tag tsn is_immediate f received in
        let valid = and_parts (has_room m.context.options tsn t) (is_valid t.tracker.tracker (tracker.number_of t.tracker tsn)) may in
        taken_leads message is_interleaved handed x t claim.shown claim.kept windows few tsn is_immediate f h.1 valid.1

    idata_leads : (tag tsn : ℕ) (is_immediate : Bool) (f : FragmentTree) → BringsChunk call tag (idata_chunk tsn is_immediate f) → accepts_tsn m.context.options tsn t ≡ true
        → Leads message is_interleaved handed x (take_fragment tsn is_immediate f t)
    idata_leads tag tsn is_immediate f received may =
        let h = idata_is_received message lifecycle is_interleaved g call from p handed phase t m inv x claim.kept claim.shown same claim.stay.0
        tag tsn is_immediate f received in
        let valid = and_parts (has_room m.context.options tsn t) (is_valid t.tracker.tracker (tracker.number_of t.tracker tsn)) may in
        taken_leads message is_interleaved handed x t claim.shown claim.kept windows few tsn is_immediate f h.1 valid.1

    point_leads : (tag tsn : ℕ) (skipped : List SkippedStream) → BringsChunk call tag (forward_tsn_chunk tsn skipped)
        → is_valid t.tracker.tracker (tracker.number_of t.tracker tsn) ≡ true → Leads message is_interleaved handed x (handle_forward_tsn tsn skipped t)
    point_leads tag tsn skipped received valid =
        let h = point_is_received message lifecycle is_interleaved g call from p handed phase t m inv x claim.kept claim.shown same claim.stay.0
        tag tsn skipped received in
        passed_leads message is_interleaved handed x t claim.shown claim.kept windows few tsn skipped h.1 valid

    ipoint_leads : (tag tsn : ℕ) (skipped : List SkippedStream) → BringsChunk call tag (i_forward_tsn_chunk tsn skipped)
        → is_valid t.tracker.tracker (tracker.number_of t.tracker tsn) ≡ true → Leads message is_interleaved handed x (handle_forward_tsn tsn skipped t)
    ipoint_leads tag tsn skipped received valid =
        let h = ipoint_is_received message lifecycle is_interleaved g call from p handed phase t m inv x claim.kept claim.shown same claim.stay.0
        tag tsn skipped received in
        passed_leads message is_interleaved handed x t claim.shown claim.kept windows few tsn skipped h.1 valid

    ack_leads : (y : Direction) × ReceiverClaim message is_interleaved from handed (with_chunk (selective_ack t) (in_open phase (without_duplicates t) m)) y
    ack_leads =
        let made = sack_made message is_interleaved x claim.kept handed t claim.shown in
        let l : Leads message is_interleaved handed x t = made.0 in
        let says : SaysIn t.tracker.first (transfer_of x).acknowledged l.to (selective_ack t) = made.1 in
        let there : SaysIn t.tracker.first (transfer_of from).acknowledged l.to (selective_ack t) =
        subst (λ (n : ℕ). SaysIn t.tracker.first n l.to (selective_ack t)) same.acknowledged says in (
          l.to,
          step_claims message lifecycle is_interleaved from handed (in_open phase t m) (with_chunk (selective_ack t) (in_open phase (without_duplicates t) m)) x l.to claim
              (record {
                goes = l.goes;
                kept = l.kept;
                stay = l.stay;
                shown = acknowledging_changes message is_interleaved handed t (clear_duplicates t.tracker.tracker) l.to refl (tracker_emitted t.tracker.tracker claim.shown.is_tracker) l.shown;
                performed = λ s. let e = l.performed s in omega (arith, e);
                emitted = λ h. h;
                made = λ h. holds_added (λ tag. SaysIn t.tracker.first (transfer_of from).acknowledged l.to) m.packet (selective_ack t) h there;
              }),
        )

  pub goes_data : (act : DataAct Carried call) → InvAt g (before_data act) → Goes (before_data act) (after_data act)
  goes_data (takes_data tag tsn is_immediate f phase t m received right some may) inv =
      goes_led message lifecycle is_interleaved from handed phase phase t (take_fragment tsn is_immediate f t) m refl
      (λ x claim. data_leads phase t m inv x claim tag tsn is_immediate f received may)
  goes_data (takes_idata tag tsn is_immediate f phase t m received right some may) inv =
      goes_led message lifecycle is_interleaved from handed phase phase t (take_fragment tsn is_immediate f t) m refl
      (λ x claim. idata_leads phase t m inv x claim tag tsn is_immediate f received may)
  goes_data (takes_forward tag tsn skipped phase t m received right valid) inv =
      goes_led message lifecycle is_interleaved from handed phase phase t (handle_forward_tsn tsn skipped t) m refl
      (λ x claim. point_leads phase t m inv x claim tag tsn skipped received valid)
  goes_data (takes_iforward tag tsn skipped phase t m received right valid) inv =
      goes_led message lifecycle is_interleaved from handed phase phase t (handle_forward_tsn tsn skipped t) m refl
      (λ x claim. ipoint_leads phase t m inv x claim tag tsn skipped received valid)

  -- an acknowledgement is made
  pub goes_acknowledging : (phase : Phase) (t : Tcb) (m : EndWithPacket Carried) → InvAt g (in_open phase t m)
      → Goes (in_open phase t m) (with_chunk (selective_ack t) (in_open phase (without_duplicates t) m))
  goes_acknowledging phase t m inv x claim = ack_leads phase t m inv x claim
