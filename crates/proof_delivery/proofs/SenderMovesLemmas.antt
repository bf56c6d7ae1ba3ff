-- Acts of a sender that change its values: lifetimes that end, a timeout, forward points, packets and SACKs. Each is a run of the
-- rules.
use Rattle.std.proofs.Common.{◌≡◌, ℕ, zero, suc, ◌≤◌, nat_lt, Bool, true, false, inl, Option, List, [], ◌∷◌, ◌++◌, length, map, replicate, All, refl, sym, ap, ◌∙◌, subst, arith, append-nil}
use Rattle.std.specs.List.{list_all}
use Rattle.std.proofs.lemmas.List.Elements.{All-nil, All-cons}
use Rattle.std.proofs.lemmas.List.Folds.{list_all-append}
use Rattle.std.specs.Prelude.{◌&&◌}
use Rattle.sctp_packet.specs.Chunk.{ChunkTree, FragmentTree, SackTree, sack_chunk, fragment_chunk}
use Rattle.sctp_state.specs.Events.{Emitted}
use Rattle.sctp_capabilities.specs.Capabilities.{Capabilities}
use Rattle.sctp_state.specs.Timer.{is_due}
use Rattle.sctp_state.specs.TxErrorCounter.{one_error}
use Rattle.sctp_tx_queue.specs.SendQueue.{Queue}
use Rattle.sctp_tx_outstanding.specs.declared.item.MissIndication.TheVariants.{Timeout}
use Rattle.sctp_tx_outstanding.specs.OutstandingData.{Items, fast_items}
use Rattle.sctp_tx_outstanding.specs.Forward.{is_forward_due}
use Rattle.sctp_tx_outstanding.specs.Losses.{first_step, expire_outstanding}
use Rattle.sctp_tx_outstanding.specs.Sack as sack
use Rattle.sctp_tx_outstanding.specs.Sack.{leaving}
use Rattle.sctp_tx.specs.RetransmissionQueue.{Sender, handle_sack, step_of, timed_out_sender}
use Rattle.sctp_tx.specs.Resent.{resent_fast, send_fast}
use Rattle.sctp_tx.specs.ForwardPoints.{abandon_expired, forward_chunk}
use Rattle.sctp_tx.specs.Sending.{send}
use Rattle.proof_protocol.specs.State.{Message, ForwardPoint, Transfer}
use Rattle.proof_protocol.specs.Rules.{TransferEvent, acknowledge_next, send_forward}
use Rattle.proof_protocol.specs.Joints.{reports_of}
use Rattle.proof_refines.specs.Asked.{AreSameAsked}
use Rattle.proof_refines.specs.SenderRefinement.{SenderRefines}
use Rattle.proof_refines.specs.Following.{FollowsEpochs, LeadsInEpochs}
use Rattle.proof_refines.specs.Reachable.{given_up_places, recorded_places, is_sending, SenderLeadsTo, delivered_ids}
use Rattle.proof_refines.specs.Points.{chunk_of}
use Rattle.proof_refines.specs.Rows.{AllCarry}
use Rattle.proof_refines.proofs.AskedLemmas.{send_asked}
use Rattle.proof_refines.proofs.BreakLemmas.{nacks_keep, expiries_keep, points_end}
use Rattle.proof_refines.proofs.FollowLemmas.{others_follow}
use Rattle.proof_refines.proofs.FollowPacketLemmas.{items_follow, sending_follows, fast_follows, receiving_follows, leaves_send as all_leaves}
use Rattle.proof_refines.proofs.LedLemmas.{given_more}
use Rattle.proof_refines.proofs.PointLemmas.{point_row}
use Rattle.proof_refines.proofs.SendLemmas.{fast_row, send_row}
use Rattle.proof_refines.proofs.WholeLemmas.{timeout_row, expiry_row, received_row, shown_again}
use Rattle.spec_endpoint.specs.Association.{Tcb, Phase, Context}
use Rattle.spec_endpoint.specs.Packets.{PacketDraft, room, add, add_all, packets_in}
use Rattle.spec_endpoint.specs.Sending.{data_chunks, asks_at_once, fast_most}
use Rattle.spec_endpoint.specs.Sack.{clean_blocks}
use Rattle.spec_endpoint.specs.Laws.{Call}
use Rattle.proof_endpoint.specs.Mapped.{Carried}
use Rattle.proof_endpoint.specs.Acts.{EndWithPacket, in_open, with_context, BringsChunk, timeout_of, point_of, takes_sack, before_sack, after_sack, expires, adds_forward, sends, sends_fast, before_sending, after_sending, times_out, before_time, after_time}
use Rattle.proof_pair.proofs.AddedLemmas.{holds_added, holds_all_added}
use Rattle.proof_pair.proofs.EmittedLemmas.{EmitsQuietly, quiet_emits_no_packet_or_status, quiet_nack_all, quiet_expired, quiet_sent, emits_sack, emits_sent}
use Rattle.proof_pair.proofs.JoinActsLemmas.{Setting, InvAt}
use Rattle.proof_delivery.specs.Asks.{AreRequested}
use Rattle.proof_delivery.proofs.ClaimLemmas.{Direction, transfer_of, of_transfer, goes_out, IsKept, GoesOn, SaysData, SaysPoint, SaysOut, IsSending, SenderClaim, SenderGoes, SenderPremises}
use Rattle.proof_delivery.proofs.FlowLemmas.{HasSame, room_stays, expired_same, timed_out_same, received_same, send_same, send_fast_same}
use Rattle.proof_delivery.proofs.ReadingSackLemmas.{sack_is_received}
use Rattle.proof_delivery.proofs.ResetEventsLemmas.{resets_in, resets_timed_out, resets_expired, resets_sack, resets_sent}
use Rattle.proof_delivery.proofs.SenderAsksLemmas.{asking_stays}
use Rattle.proof_delivery.proofs.SenderToolLemmas.{with_transfer, transfers_go, all_transfers, of_transfers, goes_none, goes_grows, receiver_stays, same_packets, same_delivered, reports_none, asked_still, no_answer, emits_no_answer, step_claims}

-- ---- chunks that are put into a packet

module _ (message : ℕ → Message) (is_interleaved : Bool) (first least : ℕ) (x : Direction) where
  abbrev Says : ChunkTree → Type 0
  Says chunk = SaysOut message is_interleaved first least x chunk

  says_added : (p : PacketDraft) (chunk : ChunkTree) → All (SaysOut message is_interleaved first least x) p.chunks → Says chunk → All (SaysOut message is_interleaved first least x) (add chunk p).chunks
  says_added p chunk a s = holds_added (λ tag. SaysOut message is_interleaved first least x) p chunk a s

  says_all_added : (p : PacketDraft) (chunks : List ChunkTree) → All (SaysOut message is_interleaved first least x) p.chunks → All (SaysOut message is_interleaved first least x) chunks
      → All (SaysOut message is_interleaved first least x) (add_all chunks p).chunks
  says_all_added p chunks a s = holds_all_added (λ tag. SaysOut message is_interleaved first least x) chunks p a (λ tag. s)

  -- what carries a fragment that is kept
  says_one : (m is_immediate : Bool) → is_interleaved ≡ m → (c : ℕ × FragmentTree) → SaysData message first least (transfer_of x).sender c.0 c.1 → Says (fragment_chunk m is_immediate c)
  says_one true is_immediate e c s = (e, s)
  says_one false is_immediate e c s = (e, s)

  says_data : (m is_immediate : Bool) → is_interleaved ≡ m → (kept : ℕ) → least ≤ kept → (cs : List (ℕ × FragmentTree)) → AllCarry message first kept (transfer_of x).sender cs
      → All (SaysOut message is_interleaved first least x) (map (fragment_chunk m is_immediate) cs)
  says_data m is_immediate e kept l [] a = All-nil (SaysOut message is_interleaved first least x)
  says_data m is_immediate e kept l (c ∷ cs) a =
      let from = a.0.1 in
      All-cons (SaysOut message is_interleaved first least x) (fragment_chunk m is_immediate c) (map (fragment_chunk m is_immediate) cs)
      (says_one m is_immediate e c (record { carries = a.0.0; from = omega (arith, from, l) })) (says_data m is_immediate e kept l cs a.1)

-- a point in its chunk
says_written : (message : ℕ → Message) (is_interleaved : Bool) (first least : ℕ) (x : Direction) (f : ForwardPoint) → SaysPoint is_interleaved first least (transfer_of x) (chunk_of is_interleaved first f)
    → SaysOut message is_interleaved first least x (chunk_of is_interleaved first f)
says_written message true first least x f s = s
says_written message false first least x f s = s

-- ---- SACKs are sending rules, and give nothing up

none_given : (n c : ℕ) → given_up_places (replicate n (acknowledge_next c)) ≡ []
none_given zero c = refl
none_given (suc n) c = none_given n c

leaves_send : (n c : ℕ) (es : List TransferEvent) → list_all is_sending es ≡ true → list_all is_sending (replicate n (acknowledge_next c) ++ es) ≡ true
leaves_send n c es h = list_all-append is_sending (replicate n (acknowledge_next c)) es ∙ (ap (λ (b : Bool). b && list_all is_sending es) (all_leaves n c) ∙ h)

leaves_given : (message : ℕ → Message) (is_interleaved : Bool) (n c : ℕ) (places : List ℕ) (es : List TransferEvent) → given_up_places es ≡ places → given_up_places (replicate n (acknowledge_next c) ++ es) ≡ places
leaves_given message is_interleaved n c places es h = given_more message is_interleaved (replicate n (acknowledge_next c)) es ∙ (ap (λ (ps : List ℕ). ps ++ given_up_places es) (none_given n c) ∙ h)

-- ---- the transfer alone goes on

module _ (message : ℕ → Message) (lifecycle : ℕ → Option ℕ) (is_interleaved : Bool) where
  -- by these rules
  record Moves (x : Direction) (z : Transfer) (es : List TransferEvent) : Type 0 where
    goes : GoesOn message is_interleaved goes_out x (with_transfer message is_interleaved x z)
    given_up : given_up_places (of_transfer goes.events) ≡ given_up_places es
    asked : AreRequested (with_transfer message is_interleaved x z).rules x.asks x.done x.answered

  -- what is recorded, where these are given up
  recorded_given : (x : Direction) (z : Transfer) (es : List TransferEvent) (r : Moves x z es) (later emitted places : List ℕ) → given_up_places es ≡ places → later ≡ emitted ++ places
      → later ≡ emitted ++ given_up_places (of_transfer r.goes.events)
  recorded_given x z es r later emitted places e is = is ∙ ap (λ (ps : List ℕ). emitted ++ ps) (sym (r.given_up ∙ e))

  moves : (x : Direction) (z : Transfer) (es : List TransferEvent) (q : Queue) (s : Items) → IsKept message is_interleaved x → list_all is_sending es ≡ true → LeadsInEpochs message is_interleaved x.rules es z q s → Moves x z es
  moves x z es q s kept all l =
      let y : Direction = with_transfer message is_interleaved x z in
      let goes = transfers_go message is_interleaved goes_out x z es l.may (all_transfers goes_out is_sending (λ e h. h) es all) l.goes_to in
      record {
        goes = goes;
        given_up = ap given_up_places (of_transfers es);
        asked = asked_still x.rules y.rules x.asks x.done x.answered refl refl refl (goes_grows message is_interleaved goes_out x y kept.epochs goes).numbered kept.asked;
      }

  shown_on : (t : Tcb) (q r : Queue) (s : Sender) (x : Direction) (z : Transfer) → IsSending message lifecycle is_interleaved t q x → HasSame t.sender s → SenderRefines message lifecycle is_interleaved z r s.outstanding.items
      → FollowsEpochs (with_transfer message is_interleaved x z).rules r s.outstanding.items → AreSameAsked q r
      → IsSending message lifecycle is_interleaved (record t { sender = s }) r (with_transfer message is_interleaved x z)
  shown_on t q r s x z h e sh follows asked = record {
    refines = sh;
    follows = follows;
    first = e.first ∙ h.first;
    room = room_stays t.sender s e h.room;
    asks = asking_stays t.identity.my_first x.answered x.asks q r t.requests asked h.asks;
  }

  same_queue : (q : Queue) → AreSameAsked q q
  same_queue q = record { still = λ k e. e; before = λ k e. e }

-- ---- the acts

module _ (message : ℕ → Message) (lifecycle : ℕ → Option ℕ) (is_interleaved : Bool) (from : Direction) where
  left_more : (prepared : List ℕ) (m : EndWithPacket Carried) (x : Direction) → IsKept message is_interleaved from → SenderClaim message lifecycle is_interleaved from prepared m x
      → (transfer_of from).acknowledged ≤ (transfer_of x).acknowledged
  left_more prepared m x kept a = (goes_grows message is_interleaved goes_out from x kept.epochs a.goes).left

  -- a run of rules, and the packet stays
  led_claims : (phase : Phase) (t : Tcb) (m : EndWithPacket Carried) (s : Sender) (later : Emitted Carried) (c : Context Carried) → c.emitted ≡ later → c.queue ≡ m.context.queue → (prepared : List ℕ) (x : Direction)
      → SenderClaim message lifecycle is_interleaved from prepared (in_open phase t m) x → SenderLeadsTo message lifecycle is_interleaved (transfer_of x) m.context.emitted m.context.queue s.outstanding.items later
      → s.outstanding.items.breaks ≡ t.sender.outstanding.items.breaks → HasSame t.sender s → EmitsQuietly m.context.emitted later → resets_in later.events ≡ resets_in m.context.emitted.events
      → (y : Direction) × SenderClaim message lifecycle is_interleaved from prepared (in_open phase (record t { sender = s }) (with_context c m)) y
  led_claims phase t m s later c emitted_is queue_is prepared x a l breaks e light resets =
      let q = m.context.queue in
      let es = m.context.emitted.events in
      let f = items_follow message lifecycle is_interleaved x.rules q t.sender a.kept.epochs.order.kept a.shown.refines a.shown.follows s.outstanding.items m.context.emitted later breaks l in
      let r = moves message lifecycle is_interleaved x l.after l.leads.events q s.outstanding.items a.kept l.leads.sends f in
      let y : Direction = with_transfer message is_interleaved x l.after in
      let b : EndWithPacket Carried = in_open phase (record t { sender = s }) (with_context c m) in (
        y,
        step_claims message lifecycle is_interleaved from prepared prepared (in_open phase t m) b x y a (record {
          goes = r.goes;
          asked = r.asked;
          done = refl;
          shown = subst (λ (r : Queue). IsSending message lifecycle is_interleaved (record t { sender = s }) r y) (sym queue_is)
              (shown_on message lifecycle is_interleaved t q q s x l.after a.shown e l.refines f.follows (same_queue message lifecycle is_interleaved q));
          since = λ n. n;
          given_up = ap recorded_places emitted_is ∙ recorded_given message lifecycle is_interleaved x l.after l.leads.events r (recorded_places later) (recorded_places m.context.emitted) l.places l.leads.given_up l.recorded;
          reported = reports_none lifecycle (transfer_of x) l.after es c.emitted.events (ap (λ (z : Transfer). z.reports) l.leads.rest_stays)
              (ap (λ (z : Emitted Carried). delivered_ids z.events) emitted_is ∙ same_delivered m.context.emitted later light);
          resets = emits_no_answer prepared es c.emitted.events x y (no_answer es c.emitted.events (ap (λ (z : Emitted Carried). resets_in z.events) emitted_is ∙ resets)) refl refl refl;
          first = e.first;
          packets = ap (λ (z : Emitted Carried). packets_in z.events) emitted_is ∙ same_packets m.context.emitted later (quiet_emits_no_packet_or_status m.context.emitted later light);
          made = λ h. h;
        }),
      )

module _ (message : ℕ → Message) (lifecycle : ℕ → Option ℕ) (is_interleaved : Bool) (from : Direction) (call : Call) where
  pub expires_keeps : (phase : Phase) (t : Tcb) (m : EndWithPacket Carried)
      → SenderGoes message lifecycle is_interleaved from (before_sending {call = call} (expires phase t m)) (after_sending {call = call} (expires phase t m))
  expires_keeps phase t m prepared x a =
      led_claims message lifecycle is_interleaved from phase t m (abandon_expired m.context.now t.sender m.context.emitted) (expire_outstanding m.context.now t.sender.outstanding.items m.context.emitted).emitted
      (record m.context { emitted = (expire_outstanding m.context.now t.sender.outstanding.items m.context.emitted).emitted }) refl refl prepared x a
      (expiry_row message lifecycle is_interleaved (transfer_of x) m.context.queue t.sender a.kept.epochs.order.kept a.shown.refines m.context.emitted m.context.now)
      (expiries_keep m.context.now (length t.sender.outstanding.items.kept) (first_step t.sender.outstanding.items m.context.emitted))
      (expired_same m.context.now t.sender m.context.emitted) (quiet_expired m.context.now t.sender.outstanding.items m.context.emitted)
      (resets_expired m.context.now t.sender.outstanding.items m.context.emitted)

  pub times_out_keeps : (phase : Phase) (t : Tcb) (m : EndWithPacket Carried) (due : is_due m.context.now t.sender.t3 ≡ true)
      → SenderGoes message lifecycle is_interleaved from (before_time {call = call} (times_out phase t m due)) (after_time {call = call} (times_out phase t m due))
  times_out_keeps phase t m due prepared x a =
      led_claims message lifecycle is_interleaved from phase t m (timed_out_sender m.context.now (timeout_of t m).items t.sender) (timeout_of t m).emitted
      (record m.context { emitted = (timeout_of t m).emitted; errors = one_error m.context.errors }) refl refl prepared x a
      (timeout_row message lifecycle is_interleaved (transfer_of x) m.context.queue t.sender a.kept.epochs.order.kept a.shown.refines m.context.emitted m.context.now)
      (nacks_keep Timeout false (length t.sender.outstanding.items.kept) (first_step t.sender.outstanding.items m.context.emitted))
      (timed_out_same m.context.now (timeout_of t m).items t.sender) (quiet_nack_all t.sender.outstanding.items m.context.emitted)
      (resets_timed_out t.sender.outstanding.items m.context.emitted)

  -- the point goes into the packet, where it fits
  pub adds_forward_keeps : IsKept message is_interleaved from → (phase : Phase) (t : Tcb) (m : EndWithPacket Carried) (due : is_forward_due t.sender.outstanding.items ≡ true)
      → SenderGoes message lifecycle is_interleaved from (before_sending {call = call} (adds_forward phase t m due)) (after_sending {call = call} (adds_forward phase t m due))
  adds_forward_keeps kept phase t m due prepared x a =
      let q = m.context.queue in
      let items = t.sender.outstanding.items in
      let es = m.context.emitted.events in
      let s = point_row message lifecycle is_interleaved (transfer_of x) q t.sender a.kept.epochs.order.kept a.shown.refines due a.shown.room in
      let z : Transfer = record (transfer_of x) { forward_points = s.point ∷ (transfer_of x).forward_points } in
      let y : Direction = with_transfer message is_interleaved x z in
      let leads : LeadsInEpochs message is_interleaved x.rules (send_forward s.point ∷ []) z q items = record {
        may = ((s.allowed, points_end message lifecycle is_interleaved x.rules t.sender a.shown.follows.breaks s), tt);
        goes_to = refl;
        follows = others_follow x.rules y.rules q items (record { epoch = refl; raised = refl; opened = refl; requests = refl; acknowledged = refl }) a.shown.follows;
      } in
      let r = moves message lifecycle is_interleaved x z (send_forward s.point ∷ []) q items a.kept refl leads in
      let first = t.sender.outstanding.first in
      let least = (transfer_of from).acknowledged in
      let left = left_more message lifecycle is_interleaved from prepared (in_open phase t m) x kept a in
      let ahead = s.allowed.ahead in
      let says : SaysOut message is_interleaved first least y (forward_chunk t.sender) =
      subst (SaysOut message is_interleaved first least y) (sym s.chunk) (says_written message is_interleaved first least y s.point (record {
        point = s.point;
        sent = inl refl;
        written = refl;
        apart = s.apart;
        ahead = omega (arith, left, ahead);
      })) in
      let b : EndWithPacket Carried = after_sending {call = call} (adds_forward phase t m due) in (
        y,
        step_claims message lifecycle is_interleaved from prepared prepared (in_open phase t m) b x y a (record {
          goes = r.goes;
          asked = r.asked;
          done = refl;
          shown = record {
            refines = shown_again message lifecycle is_interleaved (transfer_of x) z q items refl refl a.shown.refines;
            follows = leads.follows;
            first = a.shown.first;
            room = a.shown.room;
            asks = a.shown.asks;
          };
          since = λ n. n;
          given_up = recorded_given message lifecycle is_interleaved x z (send_forward s.point ∷ []) r (recorded_places m.context.emitted) (recorded_places m.context.emitted) [] refl (sym (append-nil (recorded_places m.context.emitted)));
          reported = reports_none lifecycle (transfer_of x) z es es refl refl;
          resets = emits_no_answer prepared es es x y (no_answer es es refl) refl refl refl;
          first = refl;
          packets = refl;
          made = λ h. says_added message is_interleaved first least y m.packet (forward_chunk t.sender) h says;
        }),
      )

-- ---- packets

module _ (message : ℕ → Message) (lifecycle : ℕ → Option ℕ) (is_interleaved : Bool) (from : Direction) (g : Setting) (call : Call)
    (premises : SenderPremises message lifecycle is_interleaved g call from) where
  interleaves : (phase : Phase) (t : Tcb) (m : EndWithPacket Carried) → InvAt g (in_open phase t m) → is_interleaved ≡ t.capabilities.message_interleaving
  interleaves phase t m inv = premises.mode ∙ sym (ap (λ (c : Capabilities). c.message_interleaving) inv.stands.can)

  pub sends_fast_keeps : (phase : Phase) (t : Tcb) (m : EndWithPacket Carried) (some : nat_lt 0 (fast_items t.sender.outstanding.items) ≡ true) → InvAt g (in_open phase t m)
      → SenderGoes message lifecycle is_interleaved from (before_sending {call = call} (sends_fast phase t m some)) (after_sending {call = call} (sends_fast phase t m some))
  sends_fast_keeps phase t m some inv prepared x a =
      let q = m.context.queue in
      let es = m.context.emitted.events in
      let now = m.context.now in
      let most = fast_most m.context.options in
      let s = fast_row message lifecycle is_interleaved (transfer_of x) t.sender q a.shown.refines now most in
      let follows = fast_follows message lifecycle is_interleaved x.rules q t.sender a.kept.epochs.order.kept a.shown.refines a.shown.follows now most in
      let first = t.sender.outstanding.first in
      let least = (transfer_of from).acknowledged in
      let stays = send_fast_same now most t.sender in
      let chunks = (resent_fast most t.sender).chunks in
      let says = says_data message is_interleaved first least x t.capabilities.message_interleaving false (interleaves phase t m inv) (transfer_of x).acknowledged
      (left_more message lifecycle is_interleaved from prepared (in_open phase t m) x premises.kept a) chunks s.1 in
      let b : EndWithPacket Carried = after_sending {call = call} (sends_fast phase t m some) in (
        x,
        step_claims message lifecycle is_interleaved from prepared prepared (in_open phase t m) b x x a (record {
          goes = goes_none message is_interleaved goes_out x;
          asked = a.kept.asked;
          done = refl;
          shown = shown_on message lifecycle is_interleaved t q q (send_fast now most t.sender) x (transfer_of x) a.shown stays s.0 follows (same_queue message lifecycle is_interleaved q);
          since = λ n. n;
          given_up = sym (append-nil (recorded_places m.context.emitted));
          reported = reports_none lifecycle (transfer_of x) (transfer_of x) es es refl refl;
          resets = emits_no_answer prepared es es x x (no_answer es es refl) refl refl refl;
          first = stays.first;
          packets = refl;
          made = λ h. says_all_added message is_interleaved first least x m.packet (data_chunks t false chunks) h says;
        }),
      )

  pub sends_keeps : (phase : Phase) (t : Tcb) (m : EndWithPacket Carried) → InvAt g (in_open phase t m)
      → SenderGoes message lifecycle is_interleaved from (before_sending {call = call} (sends phase t m)) (after_sending {call = call} (sends phase t m))
  sends_keeps phase t m inv prepared x a =
      let now = m.context.now in
      let most = room m.packet in
      let q = m.context.queue in
      let emitted = m.context.emitted in
      let s = send_row message lifecycle is_interleaved (transfer_of x) t.sender q a.shown.refines a.kept.epochs.order.kept now most emitted in
      let f = send now most t.sender q emitted in
      let z = s.leads.after in
      let y : Direction = with_transfer message is_interleaved x z in
      let leads = sending_follows message lifecycle is_interleaved x.rules q t.sender a.kept.epochs.order.kept a.shown.refines a.shown.follows now most emitted s in
      let r = moves message lifecycle is_interleaved x z s.leads.leads.events f.queue f.sender.outstanding.items a.kept s.leads.leads.sends leads in
      let first = t.sender.outstanding.first in
      let least = (transfer_of from).acknowledged in
      let stays = send_same now most t.sender q emitted in
      let is_immediate = asks_at_once m.context.options t.sender in
      let says = says_data message is_interleaved first least y t.capabilities.message_interleaving is_immediate (interleaves phase t m inv) (transfer_of x).acknowledged
      (left_more message lifecycle is_interleaved from prepared (in_open phase t m) x premises.kept a) f.chunks s.carried in
      let b : EndWithPacket Carried = after_sending {call = call} (sends phase t m) in (
        y,
        step_claims message lifecycle is_interleaved from prepared prepared (in_open phase t m) b x y a (record {
          goes = r.goes;
          asked = r.asked;
          done = refl;
          shown = shown_on message lifecycle is_interleaved t q f.queue f.sender x z a.shown stays s.leads.refines leads.follows (send_asked now most t.sender q emitted);
          since = λ n. n;
          given_up = recorded_given message lifecycle is_interleaved x z s.leads.leads.events r (recorded_places f.emitted) (recorded_places emitted) s.leads.places s.leads.leads.given_up s.leads.recorded;
          reported = reports_none lifecycle (transfer_of x) z emitted.events f.emitted.events (ap (λ (z : Transfer). z.reports) s.leads.leads.rest_stays)
              (same_delivered emitted f.emitted (quiet_sent now most t.sender q emitted));
          resets = emits_no_answer prepared emitted.events f.emitted.events x y (no_answer emitted.events f.emitted.events (resets_sent now most t.sender q emitted)) refl refl refl;
          first = stays.first;
          packets = same_packets emitted f.emitted (emits_sent now most t.sender q emitted);
          made = λ h. says_all_added message is_interleaved first least y m.packet (data_chunks t is_immediate f.chunks) h says;
        }),
      )

  -- ---- SACKs

  pub takes_sack_keeps : (tag : ℕ) (k : SackTree) (phase : Phase) (t : Tcb) (m : EndWithPacket Carried) (is_received : BringsChunk call tag (sack_chunk k))
      (valid : sack.is_valid (point_of k t) (clean_blocks k.gap_ack_blocks) t.sender.outstanding.items ≡ true) → InvAt g (in_open phase t m)
      → SenderGoes message lifecycle is_interleaved from (before_sack {call = call} (takes_sack tag k phase t m is_received valid)) (after_sack {call = call} (takes_sack tag k phase t m is_received valid))
  takes_sack_keeps tag k phase t m is_received valid inv prepared x a =
      let now = m.context.now in
      let q = m.context.queue in
      let emitted = m.context.emitted in
      let point = point_of k t in
      let blocks = clean_blocks k.gap_ack_blocks in
      let same = receiver_stays message is_interleaved from x a.goes in
      let c = sack_is_received message lifecycle is_interleaved g call from premises phase t m inv q x a.kept a.shown same.receiver same.sacks
      (left_more message lifecycle is_interleaved from prepared (in_open phase t m) x premises.kept a) tag k is_received in
      let h = received_row message lifecycle is_interleaved (transfer_of x) q t.sender a.kept.epochs.order.kept a.shown.refines emitted now point c.point k.a_rwnd blocks valid c.number_is c.sent in
      let n = leaving point t.sender.outstanding.items in
      let l = h.losses in
      let z = l.after in
      let y : Direction = with_transfer message is_interleaved x z in
      let s = handle_sack now point k.a_rwnd blocks t.sender emitted in
      let es : List TransferEvent = replicate n (acknowledge_next c.point) ++ l.leads.events in
      let leads = receiving_follows message lifecycle is_interleaved x.rules q t.sender a.kept.epochs.order.kept a.shown.refines a.shown.follows now point c.point k.a_rwnd blocks emitted c.number_is h in
      let r = moves message lifecycle is_interleaved x z es q s.outstanding.items a.kept (leaves_send n c.point l.leads.events l.leads.sends) leads in
      let stays = received_same true now point k.a_rwnd blocks t.sender emitted in
      let later = (step_of point blocks t.sender emitted).emitted in
      let b : EndWithPacket Carried = after_sack {call = call} (takes_sack tag k phase t m is_received valid) in (
        y,
        step_claims message lifecycle is_interleaved from prepared prepared (in_open phase t m) b x y a (record {
          goes = r.goes;
          asked = r.asked;
          done = refl;
          shown = shown_on message lifecycle is_interleaved t q q s x z a.shown stays l.refines leads.follows (same_queue message lifecycle is_interleaved q);
          since = λ n. n;
          given_up = recorded_given message lifecycle is_interleaved x z es r (recorded_places later) (recorded_places emitted) l.places (leaves_given message is_interleaved n c.point l.places l.leads.events l.leads.given_up) l.recorded;
          reported = record { places = reports_of (transfer_of x).sender (transfer_of x).acknowledged n; more = ap (λ (z : Transfer). z.reports) l.leads.rest_stays; delivered_are = h.reported };
          resets = emits_no_answer prepared emitted.events later.events x y (no_answer emitted.events later.events (resets_sack true point blocks t.sender emitted)) refl refl refl;
          first = stays.first;
          packets = same_packets emitted later (emits_sack true point blocks t.sender emitted);
          made = λ h. h;
        }),
      )
