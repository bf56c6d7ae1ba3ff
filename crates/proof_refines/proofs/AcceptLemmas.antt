-- Acceptance, settings of streams, and what a queue refines before anything is sent.
use Rattle.std.proofs.Common.{◌≡◌, ◌≢◌, ℕ, zero, suc, ◌+◌, ◌%◌, ◌^◌, ◌<◌, Bool, true, false, cond, inl, inr, Option, Some, None, List, length, refl, sym, ap, ◌∙◌, subst, arith}
use Rattle.std.specs.Prelude.{not, option_map, unwrap_or, is_some, ◌==◌}
use Rattle.std.specs.Map.{lookup}
use Rattle.std.specs.Ordering.{nat_cmp}
use Rattle.std.specs.BTreeMap.{is_at, insert_entry}
use Rattle.std.proofs.lemmas.Bool.{cases_eq, lt-ltb, false_from_ne_true}
use Rattle.std.proofs.Math.Nat.{mod-eq_of_lt}
use Rattle.std.specs.Duration.{as_nanos}
use Rattle.std.proofs.Math.Bool.{not-not}
use Rattle.sctp_serial.specs.declared.api.Message as given
use Rattle.sctp_state.specs.declared.api.options.SendOptions.{SendOptions}
use Rattle.sctp_tx_queue.specs.Views.{queued_of}
use Rattle.sctp_state.specs.Events.{Emitted, nothing_emitted}
use Rattle.sctp_tx_queue.specs.declared.send_queue.message.MessageNumbers.{MessageNumbers}
use Rattle.sctp_tx_queue.specs.SendQueue as queue
use Rattle.sctp_tx_queue.specs.SendQueue.{expiry_of, Queued, Queue, Stream, Streams, blank, with_stream, push, stream, add}
use Rattle.sctp_tx_queue.specs.Settings.{with_threshold, with_priority, set_priority, set_low_threshold}
use Rattle.sctp_tx_queue.specs.InOrder.{IsInOrder, IsNumbered, HasRests}
use Rattle.sctp_tx_queue.proofs.InOrderLemmas.{set_bytes_mode, opened_same, added_in_order, priority_in_order, threshold_in_order, put_elsewhere}
use Rattle.sctp_tx_queue.proofs.NumberLemmas.{calls_number}
use Rattle.sctp_tx_queue.proofs.RestLemmas.{calls_leave_rests}
use Rattle.sctp_tx_queue.proofs.StreamsLemmas.{stream_put}
use Rattle.sctp_tx_outstanding.specs.OutstandingData.{Items}
use Rattle.proof_protocol.specs.State.{Message, Sender, Transfer, count, parts, stream_of}
use Rattle.proof_protocol.specs.Rules.{accept, accepts, after}
use Rattle.proof_protocol.specs.Invariant.{Invariant}
use Rattle.proof_protocol.proofs.SenderRowLemmas as rows
use Rattle.proof_protocol.proofs.ToolsLemmas.{not_both}
use Rattle.proof_protocol.proofs.CommonLemmas.{none_some, inserted_here}
use Rattle.proof_refines.specs.SenderRefinement.{find, messages_of, queue_of, IsEntry, IsNext, AreQueued, AreDiscards, SenderRefines}
use Rattle.proof_refines.specs.Rows.{message_of, offered_entry}
use Rattle.proof_refines.proofs.FoundLemmas.{funext, one_value, found_push, found_push_off}
use Rattle.proof_refines.proofs.QueuedLemmas.{queue_some, change, change_discards}
use Rattle.proof_refines.proofs.ItemsLemmas.{kept_moves}
use Rattle.proof_refines.proofs.ProduceLemmas.{is_other}

-- ---- a stream is there once it is named

opened_there : (id : ℕ) (ss : Streams) → is_some (lookup (is_at (nat_cmp id)) (with_stream id ss).entries) ≡ true
opened_there id ss = go (is_some (lookup (is_at (nat_cmp id)) ss.entries)) refl
  where
    opened_if : Bool → Streams
    opened_if b =
        let r : Streams = record ss { entries = insert_entry nat_cmp ss.entries id (blank ss) } in
        cond b ss r

    go : (b : Bool) → is_some (lookup (is_at (nat_cmp id)) ss.entries) ≡ b → is_some (lookup (is_at (nat_cmp id)) (opened_if b).entries) ≡ true
    go true e = e
    go false e = ap is_some (inserted_here id (blank ss) ss.entries)

pub written : (id : ℕ) (s : Stream) (ss : Streams) → stream id (queue.put_stream id s (with_stream id ss)) ≡ s
written id s ss = stream_put id s (with_stream id ss) (opened_there id ss)

pub unwritten : (k id : ℕ) (s : Stream) (ss : Streams) → k ≢ id → stream k (queue.put_stream id s (with_stream id ss)) ≡ stream k ss
unwritten k id s ss d = put_elsewhere k id s (with_stream id ss) (is_other k id d) ∙ opened_same k id ss

-- ---- settings

module _ (message : ℕ → Message) (lifecycle : ℕ → Option ℕ) (is_interleaved : Bool) (x : Transfer) (q : Queue) (s : Items) (sh : SenderRefines message lifecycle is_interleaved x q s) where
  -- a stream has other settings
  set : (id : ℕ) (t : Stream) (after : Queue) → after.streams ≡ queue.put_stream id t (with_stream id q.streams) → t.messages ≡ (stream id q.streams).messages → IsNext x.sender id t
      → after.scheduler.is_interleaved ≡ q.scheduler.is_interleaved → after.next_number ≡ q.next_number → IsInOrder after → IsNumbered after → HasRests after → SenderRefines message lifecycle is_interleaved x after s
  set id t after streams same next mode count order rising rests = record {
    queue = record {
      mode = mode ∙ sh.queue.mode;
      order = order;
      rising = rising;
      rests = rests;
      accepted = count ∙ sh.queue.accepted;
      few = sh.queue.few;
      next = λ k. elim (cases_eq k id) [
        | inl e ↦ subst (λ z. IsNext x.sender z (stream z after.streams)) (sym e) (subst (λ (z : Stream). IsNext x.sender id z) (sym here) next)
        | inr d ↦ subst (λ (z : Stream). IsNext x.sender k z) (sym (off k d)) (sh.queue.next k)
      ];
      messages = subst (λ (z : ℕ → List Queued). AreQueued message lifecycle x.sender z) (sym all) sh.queue.messages;
    };
    items = sh.items;
    discards = subst (λ (z : ℕ → List Queued). AreDiscards x.sender z s.discards) (sym all) sh.discards;
  }
    where
      here : stream id after.streams ≡ t
      here = ap (λ (z : Streams). stream id z) streams ∙ written id t q.streams

      off : (k : ℕ) → k ≢ id → stream k after.streams ≡ stream k q.streams
      off k d = ap (λ (z : Streams). stream k z) streams ∙ unwritten k id t q.streams d

      each : (k : ℕ) → messages_of after k ≡ messages_of q k
      each k =
          elim (cases_eq k id) [
            | inl e ↦ ap (λ z. messages_of after z) e ∙ (ap (λ (z : Stream). z.messages) here ∙ (same ∙ ap (λ z. messages_of q z) (sym e)))
            | inr d ↦ ap (λ (z : Stream). z.messages) (off k d)
          ]

      all : messages_of after ≡ messages_of q
      all = funext (messages_of after) (messages_of q) each

  pub with_settings : {P : Type 0} (id n : ℕ) (emitted : Emitted P) → SenderRefines message lifecycle is_interleaved x (set_priority id n q) s × SenderRefines message lifecycle is_interleaved x (set_low_threshold id n q emitted).queue s
  with_settings id n emitted =
      let next = sh.queue.next id in (
        set id (with_priority n (stream id q.streams)) (set_priority id n q) refl refl (record { ssn = next.ssn; ordered_mid = next.ordered_mid; unordered_mid = next.unordered_mid }) refl refl
            (priority_in_order id n q sh.queue.order) (calls_number.priority id n q sh.queue.rising) (calls_leave_rests.priority id n q sh.queue.rests),
        set id (with_threshold n (stream id q.streams)) (set_low_threshold id n q emitted).queue refl refl (record { ssn = next.ssn; ordered_mid = next.ordered_mid; unordered_mid = next.unordered_mid }) refl refl
            (threshold_in_order id n q emitted sh.queue.order) (calls_number.threshold id n q nothing_emitted sh.queue.rising) (calls_leave_rests.threshold id n q nothing_emitted sh.queue.rests),
      )

  -- ---- acceptance

  module _ (k : Invariant message is_interleaved x) (expires : Option ℕ) (limit : ℕ) (some : 0 < length (message x.sender.accepted).payload) (few : x.sender.accepted + 1 < 2 ^ 32) where
    abbrev p : ℕ
    p = x.sender.accepted

    abbrev id : ℕ
    id = stream_of message p

    abbrev m : Queued
    m = offered_entry message lifecycle p expires limit

    abbrev later : Queue
    later = add id m q

    abbrev t : Stream
    t = push m (stream id q.streams)

    abbrev o' : Sender
    o' = accepts x.sender

    here : stream id later.streams ≡ t
    here = written id t q.streams

    off : (j : ℕ) → j ≢ id → stream j later.streams ≡ stream j q.streams
    off j d = unwritten j id t q.streams d

    -- no message of the stream has its place yet
    unfound : (j : ℕ) → find p (messages_of q j) ≡ None
    unfound j = go (find p (messages_of q j)) refl
      where
        go : (f : Option Queued) → find p (messages_of q j) ≡ f → find p (messages_of q j) ≡ None
        go None e = e
        go (Some n) e = let l = (sh.queue.messages.entries j p n e).accepted in absurd (omega (arith, l))

    not_begun : x.sender.begun p ≡ false
    not_begun = false_from_ne_true (x.sender.begun p) (λ b. let l = k.outgoing.begun_below p b in omega (arith, l))

    not_given : x.sender.given_up p ≡ false
    not_given = false_from_ne_true (x.sender.given_up p) (λ b. let l = k.outgoing.given_up_below p b in omega (arith, l))

    no_parts : parts p x.sender.numbered ≡ 0
    no_parts = go (parts p x.sender.numbered) refl
      where
        go : (n : ℕ) → parts p x.sender.numbered ≡ n → n ≡ 0
        go zero e = refl
        go (suc n) e =
            let y = k.indexed.index_found p 0 (omega (arith, e)) in
            absurd (not_both (ap x.sender.begun (sym y.2) ∙ k.outgoing.place_begun y.0 y.1) not_begun)

    elsewhere : (j r : ℕ) → r ≢ p → find r (messages_of later j) ≡ find r (messages_of q j)
    elsewhere j r d =
        elim (cases_eq j id) [
          | inl e ↦ ap (λ z. find r (messages_of later z)) e ∙ (ap (λ (z : Stream). find r z.messages) here ∙ (found_push_off r (messages_of q id) m (λ c. d (sym c)) ∙ ap (λ z. find r (messages_of q z)) (sym e)))
          | inr n ↦ ap (λ (z : Stream). find r z.messages) (off j n)
        ]

    found_here : find p (messages_of later id) ≡ Some m
    found_here = ap (λ (z : Stream). find p z.messages) here ∙ found_push p (messages_of q id) m (unfound id) refl

    entry : (j : ℕ) (n : Queued) → find p (messages_of later j) ≡ Some n → IsEntry message lifecycle o' j p n
    entry j n f =
        elim (cases_eq j id) [
          | inl e ↦
              let same : m ≡ n = one_value (find p (messages_of later id)) m n found_here (ap (λ z. find p (messages_of later z)) (sym e) ∙ f) in
              subst (λ z. IsEntry message lifecycle o' z p n) (sym e) (subst (λ (z : Queued). IsEntry message lifecycle o' id p z) same is_entry)
          | inr d ↦ absurd (none_some (find p (messages_of q j)) n (sym (ap (λ (z : Stream). find p z.messages) (off j d)) ∙ f) (unfound j))
        ]
      where
        no_number : (n : MessageNumbers) → None ≡ Some n → ⊥
        no_number n e = cc

        is_entry : IsEntry message lifecycle o' id p m
        is_entry = record {
          accepted = omega arith;
          on_stream = refl;
          kind = refl;
          protocol_id = refl;
          payload = refl;
          lifecycle_id = refl;
          numbers = λ g n e. absurd (no_number n e);
          index = λ g. ap (λ z. z % 2 ^ 32) (sym no_parts);
          begins = λ g. ap (λ z. z == 0) (sym no_parts);
          partly_sent = λ g. absurd (not_both g not_given);
        }

    pub accept_row : SenderRefines message lifecycle is_interleaved (after message is_interleaved x accept) later s
    accept_row = record {
      queue = record {
        mode = set_bytes_mode id _ _ q.scheduler ∙ sh.queue.mode;
        order = added_in_order id m q refl sh.queue.order;
        rising = calls_number.added id m q (sym sh.queue.accepted) (subst (λ n. n + 1 < 2 ^ 32) (sym sh.queue.accepted) few) sh.queue.rising;
        rests = calls_leave_rests.added id m q (lt-ltb 0 (length (message p).payload) some) sh.queue.rests;
        accepted = ap (λ n. (n + 1) % 2 ^ 32) sh.queue.accepted ∙ (mod-eq_of_lt few ∙ (let e : p + 1 ≡ suc p = omega arith in e));
        few = omega (arith, few);
        next = λ j. elim (cases_eq j id) [
          | inl e ↦
              let n = sh.queue.next id in
              subst (λ z. IsNext o' z (stream z later.streams)) (sym e) (subst (λ (z : Stream). IsNext o' id z) (sym here) (record { ssn = n.ssn; ordered_mid = n.ordered_mid; unordered_mid = n.unordered_mid }))
          | inr d ↦ let n = sh.queue.next j in subst (λ (z : Stream). IsNext o' j z) (sym (off j d)) (record { ssn = n.ssn; ordered_mid = n.ordered_mid; unordered_mid = n.unordered_mid })
        ];
        messages =
            change message lifecycle x.sender o' (messages_of q) (messages_of later) p elsewhere (λ r d. record { number = refl; given_up = refl; parts_are = refl }) (omega arith) entry
            (Some (record { begun = false; rest = (message p).payload })) (queue_some message o' (messages_of later) p m not_given found_here)
            (rows.accepted message is_interleaved x k (queue_of message x.sender (messages_of q)) sh.queue.messages.queued).queued sh.queue.messages;
      };
      items = record {
        mode = sh.items.mode;
        point = sh.items.point;
        kept = kept_moves message lifecycle x.sender o' (record { same = λ u l. refl; number = λ u l. refl; given_up = λ u l. refl }) refl x.acknowledged s.kept sh.items.kept;
      };
      discards =
          change_discards message lifecycle x.sender o' (messages_of q) (messages_of later) p elsewhere (λ r d. record { number = refl; given_up = refl; parts_are = refl }) s.discards sh.discards
          (λ j n f g. absurd (not_both g not_given)) (λ r g. g);
    }

-- ---- a message as it is offered

pub offer_row : (message : ℕ → Message) (lifecycle : ℕ → Option ℕ) (p now : ℕ) (m : given.Message) (options : SendOptions) → message p ≡ message_of m options → lifecycle p ≡ options.lifecycle_id
    → queued_of p now m options ≡ offered_entry message lifecycle p (expiry_of now (option_map as_nanos options.lifetime)) (unwrap_or options.max_retransmissions 65535)
offer_row message lifecycle p now m options e f = λ i. record {
  number = p;
  ppid = (sym e i).protocol_id;
  payload = (sym e i).payload;
  is_unordered = (sym (not-not options.unordered) ∙ ap (λ (z : Message). not z.ordered) (sym e)) i;
  expires = expiry_of now (option_map as_nanos options.lifetime);
  limit = unwrap_or options.max_retransmissions 65535;
  lifecycle = sym f i;
  offset = 0;
  numbers = None;
  fsn = 0;
}
