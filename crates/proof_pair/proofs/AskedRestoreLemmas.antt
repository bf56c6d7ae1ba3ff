-- What takes a valid record up has what a handover asks.
use Rattle.std.proofs.Common.{◌≡◌, ℕ, ◌+◌, ◌^◌, ◌&&◌, ◌||◌, nat_lt, nat_le, Bool, true, false, cond, Less, Option, Some, unwrap_or, List, [], ◌∷◌, length, map, filter, refl, sym, ap, subst, ◌∙◌, arith}
use Rattle.std.specs.List.{AllByRecursion, list_all}
use Rattle.std.specs.List.Sorted.{IsStrictlySortedBy}
use Rattle.std.specs.Map.{lookup, keys_of}
use Rattle.std.specs.Ordering.{nat_cmp}
use Rattle.std.specs.BTreeMap.{is_at}
use Rattle.std.proofs.lemmas.Bool.Decides.{nat_tests}
use Rattle.std.proofs.lemmas.Bool.{and_parts, ltb-true}
use Rattle.sctp_state.specs.declared.api.handover.HandoverOutgoingStream.{HandoverOutgoingStream}
use Rattle.sctp_state.specs.declared.api.handover.HandoverSocketState.{HandoverSocketState}
use Rattle.sctp_state.specs.declared.api.handover.HandoverSocketState.TheVariants as handed
use Rattle.sctp_state.specs.Handover.{HandoverState, StreamMessage, Transmission}
use Rattle.sctp_stream_scheduler.specs.StreamScheduler.{scheduler, enable_message_interleaving}
use Rattle.sctp_state.specs.Validity.{rises_from, outgoing_ids, is_valid_message, has_stream, are_valid_messages, message_ids_differ, first_alone_is_partly_sent, partly_sent_count, has_valid_queue, has_valid_items, payload_fits, is_valid_reception, is_valid_transmission, is_valid_connection, is_valid_as}
use Rattle.sctp_tx_queue.specs.SendQueue.{Stream, Queue, blank}
use Rattle.sctp_tx_queue.specs.Restored.{message_from, is_on, messages_from, stream_from, entries_from, streams_from, restore}
use Rattle.sctp_tx_queue.specs.InOrder.{has_rest}
use Rattle.sctp_tx_queue.specs.TakenUp.{is_numbered_as_sent}
use Rattle.sctp_tx_queue.proofs.TakenUpLemmas.{restored_in_order, scheduled_mode}
use Rattle.proof_endpoint.proofs.HandoverAgainLemmas.{read_again}
use Rattle.proof_endpoint.proofs.ReceivedBackLemmas.{small_word}
use Rattle.proof_pair.specs.HandoverInvariants.{IsOrdered, IsRecord}
use Rattle.proof_pair.proofs.AskedKeepsLemmas.{TakesUp}

-- ---- ids

is_above : (least n : ℕ) → nat_le (least + 1) n ≡ true → nat_cmp least n ≡ Less
is_above least n e = grind (arith, nat_tests)

weaker : (a b : ℕ) (ns : List ℕ) → nat_le a b ≡ true → rises_from b ns ≡ true → rises_from a ns ≡ true
weaker a b [] l h = refl
weaker a b (n ∷ ns) l h =
    let parts = and_parts (nat_le b n) (rises_from (n + 1) ns) h in
    let first : nat_le a n ≡ true = grind (arith, nat_tests, l, parts.0) in
    ap (λ (x : Bool). x && rises_from (n + 1) ns) first ∙ parts.1

all_above : (k : ℕ) (ns : List ℕ) → rises_from (k + 1) ns ≡ true → AllByRecursion (λ (y : ℕ). nat_cmp k y ≡ Less) ns
all_above k [] h = tt
all_above k (n ∷ ns) h =
    let parts = and_parts (nat_le (k + 1) n) (rises_from (n + 1) ns) h in
    let step : nat_le (k + 1) (n + 1) ≡ true = grind (arith, nat_tests, parts.0) in
    (is_above k n parts.0, all_above k ns (weaker (k + 1) (n + 1) ns step parts.1))

rising_sorted : (least : ℕ) (ns : List ℕ) → rises_from least ns ≡ true → IsStrictlySortedBy nat_cmp ns
unfolding IsStrictlySortedBy
rising_sorted least [] h = tt
rising_sorted least (n ∷ ns) h =
    let parts = and_parts (nat_le least n) (rises_from (n + 1) ns) h in
    (all_above n ns parts.1, rising_sorted (n + 1) ns parts.1)

keys_are : (now threshold : ℕ) (ms : List StreamMessage) (ss : List HandoverOutgoingStream) → keys_of (entries_from now threshold ms ss) ≡ outgoing_ids ss
keys_are now threshold ms [] = refl
keys_are now threshold ms (s ∷ ss) = ap (λ (ns : List ℕ). s.id ∷ ns) (keys_are now threshold ms ss)

-- ---- something of each message is left

rests_on : (now next id : ℕ) (ss : List HandoverOutgoingStream) (ms : List StreamMessage) → are_valid_messages ss next ms ≡ true
    → list_all has_rest (messages_from now id ms) ≡ true
rests_on now next id ss [] h = refl
rests_on now next id ss (m ∷ ms) h =
    let parts = and_parts (is_valid_message ss next m) (are_valid_messages ss next ms) h in
    let left = and_parts (nat_lt m.remaining_offset (length m.payload)) (has_stream ss m.stream_id && nat_lt m.message_id next) parts.0 in
    go (is_on id m) left.0 (rests_on now next id ss ms parts.1)
  where
    go : (b : Bool) → nat_lt m.remaining_offset (length m.payload) ≡ true → list_all has_rest (messages_from now id ms) ≡ true
        → list_all has_rest (map (message_from now) (cond b (m ∷ filter (is_on id) ms) (filter (is_on id) ms))) ≡ true
    go true e ih = ap (λ (x : Bool). x && list_all has_rest (messages_from now id ms)) e ∙ ih
    go false e ih = ih

rests_in : (now threshold k : ℕ) (none : Stream) (ms : List StreamMessage) (ss : List HandoverOutgoingStream) → none.messages ≡ []
    → ((id : ℕ) → list_all has_rest (messages_from now id ms) ≡ true)
    → list_all has_rest (unwrap_or (lookup (is_at (nat_cmp k)) (entries_from now threshold ms ss)) none).messages ≡ true
rests_in now threshold k none ms [] empty h = ap (list_all has_rest) empty
rests_in now threshold k none ms (s ∷ ss) empty h = go (is_at (nat_cmp k) s.id) (rests_in now threshold k none ms ss empty h)
  where
    rest : Option Stream
    rest = lookup (is_at (nat_cmp k)) (entries_from now threshold ms ss)

    go : (b : Bool) → list_all has_rest (unwrap_or rest none).messages ≡ true
        → list_all has_rest (unwrap_or (cond b (Some (stream_from now threshold ms s)) rest) none).messages ≡ true
    go true ih = h s.id
    go false ih = ih

-- ---- the queue

module _ (is_interleaved : Bool) (tx : Transmission) (valid : is_valid_transmission is_interleaved tx ≡ true) where
  rise_and : (rises_from 0 (outgoing_ids tx.streams) ≡ true) × (has_valid_queue is_interleaved tx ≡ true)
  rise_and =
      let rest = and_parts (nat_lt 0 tx.cwnd) (rises_from 0 (outgoing_ids tx.streams) && (has_valid_queue is_interleaved tx && (has_valid_items tx && payload_fits tx))) valid in
      let more = and_parts (rises_from 0 (outgoing_ids tx.streams)) (has_valid_queue is_interleaved tx && (has_valid_items tx && payload_fits tx)) rest.1 in
      (more.0, (and_parts (has_valid_queue is_interleaved tx) (has_valid_items tx && payload_fits tx) more.1).0)

  messages_valid : are_valid_messages tx.streams tx.next_outgoing_message_id tx.queued_messages ≡ true
  messages_valid =
      let ms : List StreamMessage = tx.queued_messages in
      let behind : Bool = message_ids_differ ms && (first_alone_is_partly_sent ms && (is_interleaved || nat_le (partly_sent_count ms) 1)) in
      (and_parts (are_valid_messages tx.streams tx.next_outgoing_message_id ms) behind
      (and_parts (nat_le tx.next_outgoing_message_id (2 ^ 32)) (are_valid_messages tx.streams tx.next_outgoing_message_id ms && behind) rise_and.1).1).0

  pub restored_ordered : (now : ℕ) (q : Queue) → list_all is_numbered_as_sent tx.queued_messages ≡ true → IsOrdered (restore now is_interleaved tx q)
  restored_ordered now q numbered = record {
    sorted = subst (IsStrictlySortedBy nat_cmp) (sym (keys_are now q.streams.default_threshold tx.queued_messages tx.streams)) (rising_sorted 0 (outgoing_ids tx.streams) rise_and.0);
    order = restored_in_order now is_interleaved tx q valid numbered;
    next = small_word tx.next_outgoing_message_id;
    rests = record {
      rests = λ k. rests_in now q.streams.default_threshold k (blank q.streams) tx.queued_messages tx.streams refl
          (λ id. rests_on now tx.next_outgoing_message_id id tx.streams tx.queued_messages messages_valid);
    };
  }

-- ---- the control block

pub takes_up : (h : HandoverState) → h.socket_state ≡ handed.Connected → IsRecord h → TakesUp h
takes_up h connected r c valid q =
    let mode : Bool = h.capabilities.message_interleaving in
    let whole : is_valid_connection h ≡ true = ap (λ (s : HandoverSocketState). is_valid_as s h) (sym connected) ∙ valid in
    let both_valid : Bool = is_valid_reception mode h.rx && is_valid_transmission mode h.tx in
    let mine = and_parts (nat_lt 0 h.my_verification_tag) (nat_lt 0 h.peer_verification_tag && both_valid) whole in
    let theirs = and_parts (nat_lt 0 h.peer_verification_tag) both_valid mine.1 in
    let tx : is_valid_transmission mode h.tx ≡ true = (and_parts (is_valid_reception mode h.rx) (is_valid_transmission mode h.tx) theirs.1).1 in
    record {
      association = record {
        my_tag = ltb-true 0 h.my_verification_tag mine.0;
        peer_tag = ltb-true 0 h.peer_verification_tag theirs.0;
        first = refl;
        small = r.my_first;
        peer_first = refl;
        peer_first_small = r.peer_first;
        partial = refl;
        mode = refl;
        receiver_mode = refl;
        mode_queued = scheduled_mode (outgoing_ids h.tx.streams) (streams_from c.now h.tx c.queue.streams)
            (enable_message_interleaving mode (scheduler c.queue.scheduler.most_payload));
        method = read_again h.capabilities.zero_checksum c.options.zero_checksum_method;
      };
      queued = restored_ordered mode h.tx tx c.now c.queue r.numbered;
    }
