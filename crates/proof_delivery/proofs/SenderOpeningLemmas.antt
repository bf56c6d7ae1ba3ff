-- An association is opened: what was accepted waits, and a sender begins with it. Whatever was said before said nothing of data, nor of
-- resets.
use Rattle.std.proofs.Common.{◌≡◌, ℕ, ◌^◌, ◌<◌, ◌≤◌, ◌||◌, Bool, true, false, inl, Option, Some, List, [], ◌∷◌, ◌++◌, All, refl, sym, ap, ◌∙◌, subst, arith, length, append-nil}
use Rattle.std.specs.Prelude.{slice_get}
use Rattle.std.proofs.lemmas.List.Elements.{All-weaker}
use Rattle.sctp_wire.specs.Parameter.{ParameterTree, outgoing_reset_request, incoming_reset_request}
use Rattle.sctp_packet.specs.Chunk.{ChunkTree, InitTree, FragmentTree, data_chunk, idata_chunk, re_config_chunk, cookie_echo_chunk, cookie_ack_chunk, forward_tsn_chunk, i_forward_tsn_chunk}
use Rattle.sctp_state.specs.Options.{Options}
use Rattle.sctp_capabilities.specs.Capabilities.{Capabilities, agreed, negotiate}
use Rattle.sctp_capabilities.specs.StateCookie.{Cookie}
use Rattle.sctp_state.specs.Events.{Event, OnConnected}
use Rattle.sctp_state.specs.Timer.{Timer}
use Rattle.sctp_tx_queue.specs.declared.send_queue.stream.PauseState.TheVariants.{NotPaused, Resetting}
use Rattle.sctp_tx_queue.specs.SendQueue.{Queue}
use Rattle.sctp_tx_queue.specs.Settings.{set_mode}
use Rattle.sctp_tx_queue.specs.Restarted.{reset}
use Rattle.sctp_tx_outstanding.specs.OutstandingData.{no_items}
use Rattle.proof_protocol.specs.State.{Message, ForwardPoint, IsAmong}
use Rattle.proof_refines.specs.SenderRefinement.{SenderRefines}
use Rattle.proof_refines.specs.Following.{FollowsEpochs}
use Rattle.proof_refines.specs.Reachable.{recorded_places, delivered_ids}
use Rattle.proof_refines.specs.Rows.{waiting}
use Rattle.proof_refines.proofs.AskedLemmas.{calls_keep_asked}
use Rattle.proof_refines.proofs.FollowLemmas.{all_flow, beginning_follows}
use Rattle.proof_refines.proofs.StartLemmas.{begins_shows, reset_shows}
use Rattle.proof_refines.proofs.SackLemmas.{delivered_more}
use Rattle.proof_refines.proofs.WholeLemmas.{shown_again}
use Rattle.spec_endpoint.specs.Association.{Identity, Tcb, tcb, Phase, CookieEchoed, Established, State, Closed, CookieWait, Open}
use Rattle.spec_endpoint.specs.ResetRequests.{requests}
use Rattle.spec_endpoint.specs.Opening.{long_word, t1_cookie, identity_of_init_ack, agreed_by, identity_of, queue_if, other_mode, enter_connected}
use Rattle.spec_endpoint.specs.Laws.{Call}
use Rattle.proof_endpoint.specs.Mapped.{Carried}
use Rattle.proof_endpoint.specs.Acts.{EndWithPacket, end_of, in_open, in_state, with_context, drew_one, drew_two, echo_step, opened_by, is_opened, OpeningAct, connects, adds_init, answers_new, answers_waiting, answers_echoed, answers_again, echoes, adds_cookie, establishes, opens, restarts, opens_again, maintains, adds_cookie_ack, before_opening, after_opening}
use Rattle.spec_endpoint.specs.Packets.{packets_in}
use Rattle.proof_pair.proofs.JoinActsLemmas.{Setting, InvAt, packets_both}
use Rattle.proof_delivery.specs.Asks.{ResetRequest, SaysOutgoing, IsAsking}
use Rattle.proof_delivery.proofs.ClaimLemmas.{Direction, transfer_of, IsKept, SaysData, SaysPoint, SaysOut, first_out, IsWaiting, IsSending, SendsIn, SenderGoes, SenderPremises}
use Rattle.proof_delivery.proofs.FrameLemmas.{Lasts}
use Rattle.proof_delivery.proofs.FlowLemmas.{room_at_first}
use Rattle.proof_delivery.proofs.ResetEventsLemmas.{resets_in, none_behind}
use Rattle.proof_delivery.proofs.SenderToolLemmas.{reports_none, reports_then, no_answer, emits_no_answer, SaysAll, SaysPackets}
use Rattle.proof_delivery.proofs.SenderAsksLemmas.{asking_stays}
use Rattle.proof_delivery.proofs.SenderStaysLemmas.{emits_nothing, goes_through, goes_same, goes_adding}
use Rattle.proof_delivery.proofs.WithinLemmas.{none_numbered}

-- ---- what waits is taken up by a new sender

module _ (message : ℕ → Message) (lifecycle : ℕ → Option ℕ) (is_interleaved : Bool) where
  -- what was accepted is all that the rules have
  as_waiting : (x : Direction) (q : Queue) → IsWaiting message lifecycle is_interleaved q x → SenderRefines message lifecycle false (waiting (transfer_of x).sender.accepted) q (no_items false false)
  as_waiting x q h = shown_again message lifecycle false (transfer_of x) (waiting (transfer_of x).sender.accepted) q (no_items false false) (sym h.sender) (sym h.acknowledged) h.refines

  waiting_begins : (x : Direction) (q : Queue) (is_partial : Bool) → IsWaiting message lifecycle is_interleaved q x
      → SenderRefines message lifecycle is_interleaved (transfer_of x) (set_mode is_interleaved q) (no_items is_partial is_interleaved) × FollowsEpochs x.rules (set_mode is_interleaved q) (no_items is_partial is_interleaved)
  waiting_begins x q is_partial h =
      let n : ℕ = (transfer_of x).sender.accepted in (
        shown_again message lifecycle is_interleaved (waiting n) (transfer_of x) (set_mode is_interleaved q) (no_items is_partial is_interleaved) h.sender h.acknowledged
            (begins_shows message lifecycle false n q (no_items false false) (as_waiting x q h) refl is_interleaved is_partial refl),
        beginning_follows.mode message lifecycle is_interleaved is_partial n x.rules q (no_items false false) (no_items is_partial is_interleaved) (as_waiting x q h) h.none_reset h.follows,
      )

  waiting_anew : (x : Direction) (q : Queue) → IsWaiting message lifecycle is_interleaved q x → IsWaiting message lifecycle is_interleaved (reset q) x
  waiting_anew x q h =
      let n : ℕ = (transfer_of x).sender.accepted in
      record {
        sender = h.sender;
        acknowledged = h.acknowledged;
        no_points = h.no_points;
        no_reports = h.no_reports;
        none_reset = h.none_reset;
        none_asked = h.none_asked;
        refines = shown_again message lifecycle false (waiting n) (transfer_of x) (reset q) (no_items false false) h.sender h.acknowledged
            (reset_shows message lifecycle false n q (no_items false false) (as_waiting x q h));
        follows = beginning_follows.anew x.rules q (no_items false false) (no_items false false) h.none_reset h.follows;
      }

  waiting_if : (b : Bool) (x : Direction) (q : Queue) → IsWaiting message lifecycle is_interleaved q x → IsWaiting message lifecycle is_interleaved (queue_if b q) x
  waiting_if true x q h = waiting_anew x q h
  waiting_if false x q h = h

  -- it asks nothing yet
  asks_none : (o : Options) (i : Identity) (q : Queue) (x : Direction) → i.my_first < 2 ^ 32 → IsKept message is_interleaved x → IsWaiting message lifecycle is_interleaved q x
      → IsAsking i.my_first x.answered x.asks q (requests o i.my_first i.peer_first)
  asks_none o i q x small kept h =
      let order = kept.asked.order in
      let behind = order.0 in
      let below = order.1 in
      let none : length x.asks ≡ 0 = ap length h.none_asked in
      record {
        next = omega (arith, small, none);
        current = inl (omega (arith, none, behind, below), record { none = refl; resetting = λ s e. flows (sym (all_flow x.rules h.none_reset q h.follows.paused s) ∙ e) });
      }
    where
      flows : NotPaused ≡ Resetting → ⊥
      flows e = cc

  -- a new control block, in the negotiated mode
  sends_from : (o : Options) (i : Identity) (a_rwnd : ℕ) (k : Capabilities) (q : Queue) (x : Direction) → 256 ≤ o.mtu → i.my_first < 2 ^ 32 → is_interleaved ≡ k.message_interleaving
      → IsKept message is_interleaved x → IsWaiting message lifecycle is_interleaved q x → IsSending message lifecycle is_interleaved (tcb o i a_rwnd k) (set_mode k.message_interleaving q) x
  sends_from o i a_rwnd k q x least small mode kept h =
      let z = waiting_begins x q k.partial_reliability h in
      record {
        refines = subst (λ (b : Bool). SenderRefines message lifecycle is_interleaved (transfer_of x) (set_mode b q) (no_items k.partial_reliability b)) mode z.0;
        follows = subst (λ (b : Bool). FollowsEpochs x.rules (set_mode b q) (no_items k.partial_reliability b)) mode z.1;
        first = refl;
        room = room_at_first o i.my_first a_rwnd k.partial_reliability k.message_interleaving least;
        asks = asking_stays i.my_first x.answered x.asks q (set_mode k.message_interleaving q) (requests o i.my_first i.peer_first)
            (calls_keep_asked.mode k.message_interleaving q) (asks_none o i q x small kept h);
      }

  -- ---- what was said before it

  data_none : (x : Direction) (q : Queue) (first least tsn : ℕ) (f : FragmentTree) → IsWaiting message lifecycle is_interleaved q x → SaysData message first least (transfer_of x).sender tsn f → ⊥
  data_none x q first least tsn f h s =
      let none = none_numbered message lifecycle is_interleaved x q h in
      let below = s.carries.below in
      omega (arith, none, below)

  point_none : (x : Direction) (q : Queue) (first least : ℕ) (chunk : ChunkTree) → IsWaiting message lifecycle is_interleaved q x → SaysPoint is_interleaved first least (transfer_of x) chunk → ⊥
  point_none x q first least chunk h s = subst (λ (fs : List ForwardPoint). IsAmong s.point fs) h.no_points s.sent

  no_ask : (asks : List ResetRequest) (at : ℕ) (a : ResetRequest) → asks ≡ [] → slice_get asks at ≡ Some a → ⊥
  no_ask [] at a e f = cc
  no_ask (b ∷ asks) at a e f = cc

  asks_anew : (x : Direction) (q : Queue) (first later : ℕ) (p : ParameterTree) → IsWaiting message lifecycle is_interleaved q x → SaysOutgoing first x.asks p → SaysOutgoing later x.asks p
  asks_anew x q first later (outgoing_reset_request number response last_tsn streams) h s = absurd (no_ask x.asks s.at s.ask h.none_asked s.there)
  asks_anew x q first later (incoming_reset_request number streams) h s = s
  asks_anew x q first later p h s = tt

  says_anew : (x : Direction) (q : Queue) (first later least : ℕ) (chunk : ChunkTree) → IsWaiting message lifecycle is_interleaved q x → SaysOut message is_interleaved first least x chunk
      → SaysOut message is_interleaved later least x chunk
  says_anew x q first later least (data_chunk tsn is_immediate f) h s = absurd (data_none x q first least tsn f h s.1)
  says_anew x q first later least (idata_chunk tsn is_immediate f) h s = absurd (data_none x q first least tsn f h s.1)
  says_anew x q first later least (forward_tsn_chunk tsn skipped) h s = absurd (point_none x q first least (forward_tsn_chunk tsn skipped) h s)
  says_anew x q first later least (i_forward_tsn_chunk tsn skipped) h s = absurd (point_none x q first least (i_forward_tsn_chunk tsn skipped) h s)
  says_anew x q first later least (re_config_chunk ps) h s =
      All-weaker (SaysOutgoing first x.asks) (SaysOutgoing later x.asks) (λ p s. asks_anew x q first later p h s) ps s
  says_anew x q first later least chunk h s = s

  all_anew : (x : Direction) (q : Queue) (first later least : ℕ) (chunks : List ChunkTree) → IsWaiting message lifecycle is_interleaved q x
      → All (SaysOut message is_interleaved first least x) chunks → All (SaysOut message is_interleaved later least x) chunks
  all_anew x q first later least chunks h a =
      All-weaker (SaysOut message is_interleaved first least x) (SaysOut message is_interleaved later least x) (λ chunk s. says_anew x q first later least chunk h s) chunks a

  emitted_anew : (x : Direction) (q : Queue) (first later least : ℕ) (packets : List Carried) → IsWaiting message lifecycle is_interleaved q x
      → All (λ (p : Carried). All (SaysOut message is_interleaved first least x) p.chunks) packets → All (λ (p : Carried). All (SaysOut message is_interleaved later least x) p.chunks) packets
  emitted_anew x q first later least packets h a =
      All-weaker (λ (p : Carried). All (SaysOut message is_interleaved first least x) p.chunks) (λ (p : Carried). All (SaysOut message is_interleaved later least x) p.chunks)
      (λ p s. all_anew x q first later least p.chunks h s) packets a

  waits_in : (s : State) (q : Queue) (x : Direction) → is_opened s ≡ false → SendsIn message lifecycle is_interleaved s q x → IsWaiting message lifecycle is_interleaved q x
  waits_in Closed q x e h = h
  waits_in (CookieWait tag first t1) q x e h = h
  waits_in (Open phase t) q x e h = cc

-- ---- the acts

module _ (message : ℕ → Message) (lifecycle : ℕ → Option ℕ) (is_interleaved : Bool) (from : Direction) where
  -- a control block is made, where there was none
  goes_opening : (a b : EndWithPacket Carried) (phase : Phase) (o : Options) (i : Identity) (a_rwnd : ℕ) (k : Capabilities) (q : Queue) → is_opened a.state ≡ false
      → b.state ≡ Open phase (tcb o i a_rwnd k) → b.context.queue ≡ set_mode k.message_interleaving q
      → 256 ≤ o.mtu → i.my_first < 2 ^ 32 → is_interleaved ≡ k.message_interleaving → ((x : Direction) → IsWaiting message lifecycle is_interleaved a.context.queue x → IsWaiting message lifecycle is_interleaved q x)
      → recorded_places b.context.emitted ≡ recorded_places a.context.emitted
      → packets_in b.context.emitted.events ≡ packets_in a.context.emitted.events → delivered_ids b.context.emitted.events ≡ delivered_ids a.context.emitted.events
      → resets_in b.context.emitted.events ≡ resets_in a.context.emitted.events → b.packet.chunks ≡ a.packet.chunks → SenderGoes message lifecycle is_interleaved from a b
  goes_opening a b phase o i a_rwnd k q closed state queue least small mode waits given_up_is packets reports resets chunks prepared x claim =
      let es = a.context.emitted.events in
      let fs = b.context.emitted.events in
      let now = first_out a.state in
      let later = first_out b.state in
      let acknowledged : ℕ = (transfer_of from).acknowledged in
      let w : IsWaiting message lifecycle is_interleaved a.context.queue x = waits_in message lifecycle is_interleaved a.state a.context.queue x closed claim.shown in
      let shown : IsSending message lifecycle is_interleaved (tcb o i a_rwnd k) (set_mode k.message_interleaving q) x =
      sends_from message lifecycle is_interleaved o i a_rwnd k q x least small mode claim.kept (waits x w) in
      let r = emits_no_answer prepared es fs x x (no_answer es fs resets) refl refl refl in
      let so_far = claim.performed in
      let counted = r.performed in (
        x,
        record {
          kept = claim.kept;
          goes = claim.goes;
          done = claim.done;
          shown = subst (λ (s : State). SendsIn message lifecycle is_interleaved s b.context.queue x) (sym state)
              (subst (λ (r : Queue). IsSending message lifecycle is_interleaved (tcb o i a_rwnd k) r x) (sym queue) shown);
          since = claim.since;
          given_up = given_up_is ∙ claim.given_up;
          reported = reports_then lifecycle (transfer_of from) (transfer_of x) (transfer_of x) [] es fs claim.reported
              (reports_none lifecycle (transfer_of x) (transfer_of x) es fs refl reports);
          performed = omega (arith, so_far, counted);
          epochs = λ f h. r.epochs f (claim.epochs f h);
          none_failed = r.none_failed claim.none_failed;
          emitted = subst (λ (ps : List Carried). SaysPackets message lifecycle is_interleaved from later x ps) (sym packets)
              (emitted_anew message lifecycle is_interleaved x a.context.queue now later acknowledged (packets_in es) w claim.emitted);
          made = subst (λ (cs : List ChunkTree). SaysAll message lifecycle is_interleaved from later x cs) (sym chunks)
              (all_anew message lifecycle is_interleaved x a.context.queue now later acknowledged a.packet.chunks w claim.made);
        },
      )

  emitted_connected : (es : List (Event Carried)) → packets_in (es ++ OnConnected ∷ []) ≡ packets_in es
  emitted_connected es = packets_both es (OnConnected ∷ []) ∙ append-nil (packets_in es)

  none_delivered : (es : List (Event Carried)) → delivered_ids (es ++ OnConnected ∷ []) ≡ delivered_ids es
  none_delivered es = delivered_more es (OnConnected ∷ []) ∙ append-nil (delivered_ids es)

  none_reset : (es : List (Event Carried)) → resets_in (es ++ OnConnected ∷ []) ≡ resets_in es
  none_reset es = none_behind es (OnConnected ∷ []) refl

  -- the cookie was answered
  goes_late : (t1 : Timer) (cookie : List ℕ) (t : Tcb) (m : EndWithPacket Carried)
      → SenderGoes message lifecycle is_interleaved from (in_open (CookieEchoed t1 cookie) t m) (in_open Established t (with_context (enter_connected m.context) m))
  goes_late t1 cookie t m =
      goes_same message lifecycle is_interleaved from (in_open (CookieEchoed t1 cookie) t m) (in_open Established t (with_context (enter_connected m.context) m)) (λ x h. h) refl refl
      (emitted_connected m.context.emitted.events) (none_delivered m.context.emitted.events)
      (no_answer m.context.emitted.events (m.context.emitted.events ++ OnConnected ∷ []) (none_reset m.context.emitted.events)) refl

  module _ (g : Setting) (call : Call) (p : SenderPremises message lifecycle is_interleaved g call from) where
    -- what the options and the joint of both ends say
    least_mtu : (o : Options) (size : ℕ) → o ≡ record g.own { max_message_size = size } → 256 ≤ o.mtu
    least_mtu o size e = subst (λ (z : Options). 256 ≤ z.mtu) (sym e) p.own.valid.sizes.mtu_least

    same_mode : (k : Capabilities) → k ≡ agreed g.own g.other → is_interleaved ≡ k.message_interleaving
    same_mode k e = p.mode ∙ sym (ap (λ (z : Capabilities). z.message_interleaving) e)

    goes_echoing : (i : InitTree) (cookie : List ℕ) (my_tag first : ℕ) (t1 : Timer) (m : EndWithPacket Carried) → InvAt g (in_state (CookieWait my_tag first t1) m)
        → InvAt g (echo_step i cookie my_tag first m) → SenderGoes message lifecycle is_interleaved from (in_state (CookieWait my_tag first t1) m) (echo_step i cookie my_tag first m)
    goes_echoing i cookie my_tag first t1 m inv later =
        let k : Capabilities = agreed_by m.context.options i in
        goes_opening (in_state (CookieWait my_tag first t1) m) (echo_step i cookie my_tag first m) (CookieEchoed (t1_cookie m.context) cookie) m.context.options
        (identity_of_init_ack i my_tag first (long_word (end_of m))) i.a_rwnd k (reset m.context.queue) refl refl refl (least_mtu m.context.options inv.size inv.options)
        later.stands.draw.first
        (same_mode k later.stands.can) (λ x h. waiting_anew message lifecycle is_interleaved x m.context.queue h) refl refl refl refl refl

    goes_opened : (c : Cookie) (m : EndWithPacket Carried) → is_opened m.state ≡ false → InvAt g m → InvAt g (opened_by m.context.options.avoid_stalls c m) → SenderGoes message lifecycle is_interleaved from m (opened_by m.context.options.avoid_stalls c m)
    goes_opened c m closed inv later =
        let k : Capabilities = negotiate m.context.options c.peer_capabilities in
        let anew : Bool = m.context.options.avoid_stalls || other_mode k.message_interleaving m.context.queue.scheduler.is_interleaved in
        goes_opening m (opened_by m.context.options.avoid_stalls c m) Established m.context.options (identity_of c (long_word (end_of m))) _ k (queue_if anew m.context.queue)
        closed refl refl (least_mtu m.context.options inv.size inv.options) later.stands.draw.first (same_mode k later.stands.can)
        (λ x h. waiting_if message lifecycle is_interleaved anew x m.context.queue h) refl
        (emitted_connected m.context.emitted.events) (none_delivered m.context.emitted.events) (none_reset m.context.emitted.events) refl

    pub opening_act_goes : (act : OpeningAct Carried call) → Lasts act → InvAt g (before_opening act) → InvAt g (after_opening act)
        → SenderGoes message lifecycle is_interleaved from (before_opening act) (after_opening act)
    opening_act_goes (connects m is) on inv later =
        goes_same message lifecycle is_interleaved from (in_state Closed m) (after_opening {call = call} (connects m is)) (λ x h. h) refl refl refl refl (emits_nothing m.context.emitted.events) refl
    opening_act_goes (adds_init tag first t1 m to) on inv later = goes_adding message lifecycle is_interleaved from (in_state (CookieWait tag first t1) m) _ (λ first least x. tt)
    opening_act_goes (answers_new tag i m received to) on inv later =
        goes_through message lifecycle is_interleaved from (in_state Closed m) (in_state Closed (drew_two m)) (after_opening {call = call} (answers_new tag i m received to))
        (goes_same message lifecycle is_interleaved from (in_state Closed m) (in_state Closed (drew_two m)) (λ x h. h) refl refl refl refl (emits_nothing m.context.emitted.events) refl)
        (goes_adding message lifecycle is_interleaved from (in_state Closed (drew_two m)) _ (λ first least x. tt))
    opening_act_goes (answers_waiting tag i own first t1 m received to) on inv later =
        goes_adding message lifecycle is_interleaved from (in_state (CookieWait own first t1) m) _ (λ first least x. tt)
    opening_act_goes (answers_echoed tag i t1 cookie t m received to) on inv later =
        goes_adding message lifecycle is_interleaved from (in_open (CookieEchoed t1 cookie) t m) _ (λ first least x. tt)
    opening_act_goes (answers_again tag i phase t m received late to) on inv later =
        goes_through message lifecycle is_interleaved from (in_open phase t m) (in_open phase t (drew_one m)) (after_opening {call = call} (answers_again tag i phase t m received late to))
        (goes_same message lifecycle is_interleaved from (in_open phase t m) (in_open phase t (drew_one m)) (λ x h. h) refl refl refl refl (emits_nothing m.context.emitted.events) refl)
        (goes_adding message lifecycle is_interleaved from (in_open phase t (drew_one m)) _ (λ first least x. tt))
    opening_act_goes (echoes tag i cookie own first t1 m received brought) on inv later = goes_echoing i cookie own first t1 m inv later
    opening_act_goes (adds_cookie t1 cookie t m to) on inv later =
        goes_adding message lifecycle is_interleaved from (in_open (CookieEchoed t1 cookie) t m) (cookie_echo_chunk cookie) (λ first least x. tt)
    opening_act_goes (establishes tag t1 cookie t m received) on inv later = goes_late t1 cookie t m
    opening_act_goes (opens tag c m received closed own) on inv later = goes_opened c m closed inv later
    opening_act_goes (restarts tag c phase t m received verdict) on inv later = absurd on
    opening_act_goes (opens_again tag c phase t m received verdict) on inv later = absurd on
    opening_act_goes (maintains tag c t1 cookie t m received verdict) on inv later = goes_late t1 cookie t m
    opening_act_goes (adds_cookie_ack tag back phase t m echoed late) on inv later =
        goes_adding message lifecycle is_interleaved from (in_open phase t m) cookie_ack_chunk (λ first least x. tt)
