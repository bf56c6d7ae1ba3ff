-- A turn of one stream, and turns until there is a fragment.
use Rattle.std.proofs.Common.{◌≡◌, ◌≢◌, ℕ, zero, suc, ◌+◌, ◌^◌, ◌<◌, Bool, true, false, cond, inl, inr, ◌⊎◌, Option, Some, None, List, [], ◌∷◌, ◌++◌, take, drop, refl, sym, ap, ◌∙◌, subst, arith, append-nil, take-append-drop}
use Rattle.std.specs.Prelude.{is_some, unwrap_or, not, ◌==◌, ◌&&◌}
use Rattle.std.specs.List.{list_all}
use Rattle.std.proofs.lemmas.Bool.{cases_eq, false_from_ne_true, and_parts}
use Rattle.sctp_serial.specs.Unwrapped.{origin}
use Rattle.sctp_state.specs.Events.{Emitted}
use Rattle.sctp_tx_queue.specs.declared.send_queue.message.MessageNumbers.{MessageNumbers}
use Rattle.sctp_tx_queue.specs.SendQueue.{Queued, Queue, Stream, Streams, stream}
use Rattle.sctp_tx_queue.specs.Produced.{Produced, Turn, fresh, emit_stale, without_stale, streams_without_stale, numbers_of, took, made_of, move_past, ends, next_fragment, advance, turn, next_stream, produce_within}
use Rattle.sctp_tx_queue.specs.InOrder.{are_in_order, are_rising, has_rest}
use Rattle.sctp_tx_queue.proofs.InOrderLemmas.{fresh_both, put_elsewhere, turn_in_order, line_mode}
use Rattle.sctp_tx_queue.proofs.NumberLemmas.{turn_numbered, fresh_rising}
use Rattle.sctp_tx_queue.proofs.RestLemmas.{turn_rests, without_stale_rests}
use Rattle.sctp_tx_queue.proofs.ProduceLemmas.{idles, gives, turned}
use Rattle.sctp_tx_outstanding.specs.OutstandingData.{Items}
use Rattle.proof_protocol.specs.State.{Message, Sender, Transfer, IsAmong, place_of, count, put, is_empty, stream_of, ordered_of}
use Rattle.proof_protocol.specs.Rules.{TransferEvent, begin, number, run, begins, numbers, part, same}
use Rattle.proof_protocol.specs.Invariant.{Invariant}
use Rattle.proof_protocol.specs.Sending as sending
use Rattle.proof_protocol.specs.Sending.{Waiting}
use Rattle.proof_protocol.specs.Joints.{Sends}
use Rattle.proof_protocol.proofs.ToolsLemmas.{put_at, put_off, not_both}
use Rattle.proof_protocol.proofs.SenderRowLemmas as sends
use Rattle.proof_refines.specs.SenderRefinement.{find, messages_of, waiting_of, queue_of, numbers_at, IsEntry, IsNext, AreQueued, AreDiscards, QueueRefines, SenderRefines}
use Rattle.proof_refines.specs.Reachable.{is_sending, given_up_places, recorded_places, SenderLeadsTo}
use Rattle.proof_refines.specs.Rows.{with_made}
use Rattle.proof_refines.proofs.CountLemmas.{following_within}
use Rattle.proof_refines.proofs.FoundLemmas.{funext, once, first_least}
use Rattle.proof_refines.proofs.QueuedLemmas.{IsQueued, queue_some, queue_lacks, queued_is}
use Rattle.proof_refines.proofs.LedLemmas.{leads_on, led_on}
use Rattle.proof_refines.proofs.FreshLemmas.{Freshened, freshens, put_over, first_entry, first_own, first_found}
use Rattle.proof_refines.proofs.NumberLemmas as rows
use Rattle.proof_refines.proofs.ProduceLemmas.{stream_changed, is_other, emitted_same, begun_first, this_is, next_begun, took_next, took_numbers}

module _ {P : Type 0} (message : ℕ → Message) (lifecycle : ℕ → Option ℕ) (is_interleaved : Bool) (x : Transfer) (k : Invariant message is_interleaved x) (q : Queue) (s : Items) (sh : SenderRefines message lifecycle is_interleaved x q s)
    (none_given : s.discards ≡ []) (now size id : ℕ) (some : 0 < size) (next : next_stream q ≡ Some id) (emitted : Emitted P) where
  abbrev s0 : Stream
  s0 = stream id q.streams

  abbrev L1 : List Queued
  L1 = fresh now s0.messages

  abbrev ss1 : Streams
  ss1 = streams_without_stale now id q.streams

  abbrev t1 : Stream
  t1 = without_stale now s0

  abbrev after : Queue
  after = (turn now id size q emitted).queue

  stale_is : stream id ss1 ≡ t1
  stale_is = stream_changed id (without_stale now) q.streams refl

  there : stream id after.streams ≡ advance size t1
  there = stream_changed id (advance size) ss1 refl ∙ ap (advance size) stale_is

  elsewhere : (j : ℕ) → j ≢ id → stream j after.streams ≡ stream j q.streams
  elsewhere j d = put_elsewhere j id (advance size (stream id ss1)) ss1 (is_other j id d) ∙ put_elsewhere j id t1 q.streams (is_other j id d)

  made_is : (turn now id size q emitted).made ≡ next_fragment id size t1
  made_is = ap (next_fragment id size) stale_is

  f : Freshened message lifecycle is_interleaved x s (messages_of q) now id s0.messages emitted
  f = freshens message lifecycle is_interleaved now id 0 q.next_number s0.messages x k s (messages_of q) refl (sh.queue.rising.rising id) sh.queue.messages sh.items.kept sh.discards emitted

  abbrev y : Transfer
  y = f.after

  abbrev ms1 : ℕ → List Queued
  ms1 = put (messages_of q) id L1

  emitted_is : recorded_places (turn now id size q emitted).emitted ≡ recorded_places emitted ++ f.places
  emitted_is = emitted_same id _ _ (turn now id size q emitted).made (emit_stale now id q.streams emitted) ∙ f.recorded_are

  next_y : (j : ℕ) → IsNext y.sender j (stream j q.streams)
  next_y j =
      let n = sh.queue.next j in
      record {
        ssn = n.ssn ∙ ap (λ c. origin + c true j) (sym f.counts_stay);
        ordered_mid = n.ordered_mid ∙ ap (λ c. origin + c true j) (sym f.counts_stay);
        unordered_mid = n.unordered_mid ∙ ap (λ c. origin + c false j) (sym f.counts_stay);
      }

  acknowledged_is : y.acknowledged ≡ x.acknowledged
  acknowledged_is = ap (λ (w : Transfer). w.acknowledged) f.leads.rest_stays

  point_y : s.acked + 1 ≡ origin + y.acknowledged
  point_y = sh.items.point ∙ ap (λ n. origin + n) (sym acknowledged_is)

  -- the queue after it
  shown : (o : Sender) → o.accepted ≡ x.sender.accepted → (new : List Queued) → (advance size t1).messages ≡ new → AreQueued message lifecycle o (put ms1 id new)
      → IsNext o id (advance size t1) → ((j : ℕ) → j ≢ id → IsNext o j (stream j q.streams)) → QueueRefines message lifecycle is_interleaved o after
  shown o accepted new new_is a here off = record {
    mode = line_mode id _ _ (turn now id size q emitted).made q.scheduler ∙ sh.queue.mode;
    order = turn_in_order now id size q emitted some next sh.queue.order;
    rising = turn_numbered now id size q emitted sh.queue.rising;
    rests = turn_rests now id size q emitted sh.queue.rests;
    accepted = sh.queue.accepted ∙ sym accepted;
    few = subst (λ n. n < 2 ^ 32) (sym accepted) sh.queue.few;
    next = λ j. elim (cases_eq j id) [
      | inl e ↦ subst (λ (z : Stream). IsNext o j z) (ap (λ z. stream z after.streams) (sym e) ∙ refl) (subst (λ z. IsNext o z (stream id after.streams)) (sym e) (subst (λ (z : Stream). IsNext o id z) (sym there) here))
      | inr d ↦ subst (λ (z : Stream). IsNext o j z) (sym (elsewhere j d)) (off j d)
    ];
    messages = subst (λ (z : ℕ → List Queued). AreQueued message lifecycle o z) (sym (same_messages new new_is)) a;
  }
    where
      same_messages : (new : List Queued) → (advance size t1).messages ≡ new → messages_of after ≡ put ms1 id new
      same_messages new e = funext (messages_of after) (put ms1 id new) same
        where
          same : (j : ℕ) → messages_of after j ≡ put ms1 id new j
          same j =
              elim (cases_eq j id) [
                | inl c ↦ ap (λ z. messages_of after z) c ∙ (ap (λ (t : Stream). t.messages) there ∙ (e ∙ sym (put_at ms1 id new j c)))
                | inr d ↦ ap (λ (t : Stream). t.messages) (elsewhere j d) ∙ (sym (put_off (messages_of q) id L1 j d) ∙ sym (put_off ms1 id new j d))
              ]

  discards_as : (o : Sender) (new : List Queued) → (advance size t1).messages ≡ new → AreDiscards o (put ms1 id new) s.discards → AreDiscards o (messages_of after) s.discards
  discards_as o new e a = subst (λ (z : ℕ → List Queued). AreDiscards o z s.discards) (sym (funext (messages_of after) (put ms1 id new) same)) a
    where
      same : (j : ℕ) → messages_of after j ≡ put ms1 id new j
      same j =
          elim (cases_eq j id) [
            | inl c ↦ ap (λ z. messages_of after z) c ∙ (ap (λ (t : Stream). t.messages) there ∙ (e ∙ sym (put_at ms1 id new j c)))
            | inr d ↦ ap (λ (t : Stream). t.messages) (elsewhere j d) ∙ (sym (put_off (messages_of q) id L1 j d) ∙ sym (put_off ms1 id new j d))
          ]

  abbrev To : Option Produced → Type 0
  To made = SenderLeadsTo message lifecycle is_interleaved x emitted after (with_made now made s) (turn now id size q emitted).emitted

  -- no message is left
  nothing : L1 ≡ [] → To None
  nothing e = record {
    after = y;
    places = f.places;
    leads = f.leads;
    kept = f.kept_is;
    refines = record {
      queue = shown y.sender f.accepted_stays [] new_is (subst (λ (z : ℕ → List Queued). AreQueued message lifecycle y.sender z) same f.queued)
          (subst (λ (z : Stream). IsNext y.sender id z) (sym t_is) (let nx = next_y id in record { ssn = nx.ssn; ordered_mid = nx.ordered_mid; unordered_mid = nx.unordered_mid })) (λ j d. next_y j);
      items = record { mode = sh.items.mode; point = point_y; kept = f.items };
      discards = discards_as y.sender [] new_is (subst (λ (z : ℕ → List Queued). AreDiscards y.sender z s.discards) same f.discards_are);
    };
    recorded = emitted_is;
  }
    where
      with_messages : List Queued → Stream
      with_messages ms = record s0 { messages = ms }

      new_is : (advance size t1).messages ≡ []
      new_is = ap (λ (ms : List Queued). (advance size (with_messages ms)).messages) e

      t_is : advance size t1 ≡ with_messages []
      t_is = ap (λ (ms : List Queued). advance size (with_messages ms)) e

      same : ms1 ≡ put ms1 id []
      same = ap (λ (ms : List Queued). put (messages_of q) id ms) e ∙ sym (put_over (messages_of q) id L1 [])

  -- the first message gives a fragment
  module _ (m : Queued) (rest : List Queued) (e : L1 ≡ m ∷ rest) where
    abbrev p : ℕ
    p = m.number

    abbrev t : Stream
    t = record s0 { messages = m ∷ rest }

    abbrev n : MessageNumbers
    n = numbers_of t m

    abbrev front : List Queued
    front = cond (ends size m) rest (move_past size n m ∷ rest)

    abbrev bytes : List ℕ
    bytes = take size (drop m.offset m.payload)

    abbrev more : List ℕ
    more = drop size (drop m.offset m.payload)

    t_is : t1 ≡ t
    t_is = ap (λ (ms : List Queued). let r : Stream = record s0 { messages = ms } in r) e

    new_is : (advance size t1).messages ≡ front
    new_is = ap (λ (z : Stream). (advance size z).messages) t_is

    here : ms1 id ≡ m ∷ rest
    here = put_at (messages_of q) id L1 id refl ∙ e

    a : AreQueued message lifecycle y.sender ms1
    a = f.queued

    rising : are_rising 0 q.next_number (m ∷ rest) ≡ true
    rising = ap (λ ms. are_rising 0 q.next_number ms) (sym e) ∙ fresh_rising 0 q.next_number now s0.messages (sh.queue.rising.rising id)

    entry : IsEntry message lifecycle y.sender id p m
    entry = first_entry message lifecycle y.sender ms1 a id m rest here

    -- nothing waits to be discarded, so it was not given up
    live : y.sender.given_up p ≡ false
    live =
        false_from_ne_true (y.sender.given_up p) (λ g.
        subst (λ ds. IsAmong (record { stream = id; number = p }) ds) none_given (f.discards_are.named id p m (first_found message lifecycle y.sender ms1 a id m rest here) g))

    queued_here : queue_of message y.sender ms1 p ≡ Some (waiting_of m)
    queued_here = queue_some message y.sender ms1 p m live (first_own message lifecycle y.sender ms1 a id m rest here)

    filled : is_empty bytes ≡ false
    filled = rows.some_bytes m.offset size m.payload some (and_parts (has_rest m) (list_all has_rest rest) all_rest).0
      where
        all_rest : list_all has_rest (m ∷ rest) ≡ true
        all_rest = ap (list_all has_rest) (sym (ap (λ (s : Stream). s.messages) stale_is ∙ e)) ∙ without_stale_rests now id q sh.queue.rests id

    with_bytes : list_all is_sending (number p bytes more ∷ []) ≡ true
    with_bytes = ap (λ b. not b && true) filled

    split : drop m.offset m.payload ≡ bytes ++ more
    split = sym (take-append-drop size (drop m.offset m.payload))

    module _ (begun partly : ℕ → Bool) (number written : ℕ → ℕ) (counts following : Bool → ℕ → ℕ) (z : Transfer) (events : List TransferEvent)
        (number_off : (r : ℕ) → r ≢ p → written r ≡ y.sender.written r) (number_begun : (u : ℕ) → u < count y.sender → written (place_of y.sender u) ≡ y.sender.written (place_of y.sender u)) where
      abbrev o1 : Sender
      o1 = record y.sender { begun = begun; partly = partly; number = number; counts = counts; written = written; following = following }

      abbrev o' : Sender
      o' = numbers o1 (part o1 p bytes more)

      finish : Sends message is_interleaved y events (put (queue_of message y.sender ms1) p (cond (is_empty more) None (Some (record { begun = true; rest = more }))))
          → run message is_interleaved y events ≡ record y { sender = o' } → given_up_places events ≡ [] → list_all is_sending events ≡ true → n ≡ numbers_at message o1 p
          → IsNext o' id (advance size t) → ((j : ℕ) → j ≢ id → IsNext o' j (stream j q.streams)) → To (Some (made_of id size n m))
      finish r run_is quiet sending_all named next_here next_off =
          let z1 : Transfer = record y { sender = o' } in
          let new_queue = subst (λ (w : Transfer). sending.Queued message w.sender (put (queue_of message y.sender ms1) p (cond (is_empty more) None (Some (record { begun = true; rest = more }))))) run_is r.queued in
          let b = rows.numbered message lifecycle y.sender ms1 a id m rest here (once 0 q.next_number m rest rising) live size some begun partly number written counts following number_off number_begun n named new_queue now y.acknowledged s f.items f.discards_are in
          record {
            after = z1;
            places = f.places ++ [];
            leads = leads_on message is_interleaved x y z1 f.places [] f.leads (record { events = events; may = r.may; leads = run_is; sends = sending_all; given_up = quiet; rest_stays = refl });
            kept = subst (λ (w : Transfer). Invariant message is_interleaved w) run_is r.kept;
            refines = record {
              queue = shown o' f.accepted_stays front new_is b.queued (subst (λ (w : Stream). IsNext o' id (advance size w)) (sym t_is) next_here) next_off;
              items = record { mode = sh.items.mode; point = point_y; kept = b.items };
              discards = discards_as o' front new_is b.discards_are;
            };
            recorded = emitted_is ∙ ap (λ w. recorded_places emitted ++ w) (sym (append-nil f.places));
          }

    -- it was begun before
    goes_on : (was : MessageNumbers) → m.numbers ≡ Some was → To (Some (made_of id size n m))
    goes_on was has =
        let r = sends.next_fragment message is_interleaved y f.kept_is (queue_of message y.sender ms1) a.queued p (waiting_of m) bytes more queued_here (ap is_some has) split in
        let same : n ≡ was = ap (λ (o : Option MessageNumbers). unwrap_or o fresh_numbers) has in
        finish y.sender.begun y.sender.partly y.sender.number y.sender.written y.sender.counts y.sender.following y (number p bytes more ∷ []) (λ r d. refl) (λ u l. refl) r refl refl with_bytes (same ∙ entry.numbers live was has)
        (let nx = next_y id in record { ssn = ap (λ (o : Option MessageNumbers). (with_numbers o).next_ssn) has ∙ nx.ssn; ordered_mid = ap (λ (o : Option MessageNumbers). (with_numbers o).next_ordered_mid) has ∙ nx.ordered_mid; unordered_mid = ap (λ (o : Option MessageNumbers). (with_numbers o).next_unordered_mid) has ∙ nx.unordered_mid })
        (λ j d. let nx = next_y j in record { ssn = nx.ssn; ordered_mid = nx.ordered_mid; unordered_mid = nx.unordered_mid })
      where
        fresh_numbers : MessageNumbers
        fresh_numbers = record { ssn = cond m.is_unordered origin t.next_ssn; mid = cond m.is_unordered t.next_unordered_mid t.next_ordered_mid }

        with_numbers : Option MessageNumbers → Stream
        with_numbers o = took (record m { numbers = o }) t

    none_before : (b : ℕ) → b < p → stream_of message b ≡ stream_of message p → queue_of message y.sender ms1 b ≡ None
    none_before b l on =
        queue_lacks message y.sender ms1 b
        (ap (λ (ms : List Queued). find b ms) (ap ms1 (on ∙ entry.on_stream) ∙ here) ∙ first_least b 0 q.next_number m rest rising l)

    none_begun : m.numbers ≡ None → is_interleaved ≡ false → (b : ℕ) (v : Waiting) → queue_of message y.sender ms1 b ≡ Some v → v.begun ≡ false
    none_begun none plain b v w = false_from_ne_true v.begun (λ h. go h (cases_eq (stream_of message b) id))
      where
        there_is : IsQueued message y.sender ms1 b v
        there_is = queued_is message y.sender ms1 b v w

        has : v.begun ≡ true → is_some (there_is.entry.numbers) ≡ true
        has h = ap (λ (z : Waiting). z.begun) there_is.is ∙ h

        first_order : are_in_order (m ∷ rest) ≡ true
        first_order = ap are_in_order (sym e) ∙ (fresh_both now s0.messages (sh.queue.order.order id)).0

        go : v.begun ≡ true → (stream_of message b ≡ id) ⊎ (stream_of message b ≢ id) → ⊥
        go h (inl c) =
            let fb : find b (m ∷ rest) ≡ Some there_is.entry = ap (λ (ms : List Queued). find b ms) (sym (ap ms1 c ∙ here)) ∙ there_is.found_there in
            not_both (begun_first b (m ∷ rest) there_is.entry first_order fb (has h)) (ap is_some none)
        go h (inr d) =
            let j = stream_of message b in
            let fb : find b (messages_of q j) ≡ Some there_is.entry = ap (λ (ms : List Queued). find b ms) (sym (put_off (messages_of q) id L1 j d)) ∙ there_is.found_there in
            let first = begun_first b (messages_of q j) there_is.entry (sh.queue.order.order j) fb (has h) in
            let begun = this_is j q.begun (sym (sh.queue.order.begun (sh.queue.mode ∙ plain) j) ∙ first) in
            d (next_begun q j id next begun)

    begins_now : m.numbers ≡ None → To (Some (made_of id size n m))
    begins_now none =
        let o = y.sender in
        let b : Sender = begins message o p in
        let r = sends.first_fragment message is_interleaved y f.kept_is (queue_of message o ms1) a.queued p (waiting_of m) bytes more queued_here (ap is_some none) split none_before (none_begun none) in
        let waits = a.queued.waits p (waiting_of m) queued_here (ap is_some none) in
        let few : ((kind : Bool) → o.following kind id < 2 ^ 32) = (λ kind. let c = following_within message o f.kept_is.outgoing kind id in let l = sh.queue.few in let same = f.accepted_stays in omega (arith, c, l, same)) in
        finish b.begun b.partly b.number b.written b.counts b.following y (begin p ∷ number p bytes more ∷ [])
        (λ r d. put_off o.written p _ r d) (λ u l. put_off o.written p _ (place_of o u) (λ c. not_both (sym (ap o.begun c) ∙ f.kept_is.outgoing.place_begun u l) waits.not_begun)) r refl refl with_bytes
        (took_numbers message o id m t none entry.kind entry.on_stream (let nx = next_y id in record { ssn = nx.ssn; ordered_mid = nx.ordered_mid; unordered_mid = nx.unordered_mid }))
        (let nx = took_next message o id m t none entry.kind entry.on_stream few (let nx = next_y id in record { ssn = nx.ssn; ordered_mid = nx.ordered_mid; unordered_mid = nx.unordered_mid }) in
        record { ssn = nx.ssn; ordered_mid = nx.ordered_mid; unordered_mid = nx.unordered_mid })
        (λ j d.
        let nx = next_y j in
        let same = (λ (kind : Bool). other_count kind j d) in
        record { ssn = nx.ssn ∙ ap (λ c. origin + c) (sym (same true)); ordered_mid = nx.ordered_mid ∙ ap (λ c. origin + c) (sym (same true)); unordered_mid = nx.unordered_mid ∙ ap (λ c. origin + c) (sym (same false)) })
      where
        other_count : (kind : Bool) (j : ℕ) → j ≢ id → (begins message y.sender p).following kind j ≡ y.sender.following kind j
        other_count kind j d =
            let off : (j == stream_of message p) ≡ false = is_other j (stream_of message p) (λ c. d (c ∙ entry.on_stream)) in
            ap (λ w. cond (same (ordered_of message p) kind && w) (suc (y.sender.following kind j)) (y.sender.following kind j)) off
            ∙ by (same (ordered_of message p) kind)
          where
            by : (c : Bool) → cond (c && false) (suc (y.sender.following kind j)) (y.sender.following kind j) ≡ y.sender.following kind j
            by true = refl
            by false = refl

    fragment : To (Some (made_of id size n m))
    fragment = go m.numbers refl
      where
        go : (o : Option MessageNumbers) → m.numbers ≡ o → To (Some (made_of id size n m))
        go None c = begins_now c
        go (Some was) c = goes_on was c

    made_here : (turn now id size q emitted).made ≡ Some (made_of id size n m)
    made_here = made_is ∙ ap (next_fragment id size) t_is

  pub turn_row : To (turn now id size q emitted).made
  turn_row = go L1 refl
    where
      go : (ms : List Queued) → L1 ≡ ms → To (turn now id size q emitted).made
      go [] e = subst (λ made. To made) (sym (made_is ∙ ap (λ (ms : List Queued). let r : Stream = record s0 { messages = ms } in next_fragment id size r) e)) (nothing e)
      go (m ∷ rest) e = subst (λ made. To made) (sym (made_here m rest e)) (fragment m rest e)

module _ {P : Type 0} (message : ℕ → Message) (lifecycle : ℕ → Option ℕ) (is_interleaved : Bool) (x : Transfer) (emitted : Emitted P) (s : Items) (none_given : s.discards ≡ []) (now size : ℕ) (some : 0 < size) where
  abbrev Given : Queue → Emitted P → Turn P → Type 0
  Given q later t = SenderLeadsTo message lifecycle is_interleaved x emitted t.queue (with_made now t.made s) t.emitted

  pub produces : (turns : ℕ) (q : Queue) (later : Emitted P) → SenderLeadsTo message lifecycle is_interleaved x emitted q s later → Given q later (produce_within turns now size q later)
  produces zero q later a = a
  produces (suc m) q later a = go (next_stream q) refl (λ r t b. produces m r t b)
    where
      go : (o : Option ℕ) → next_stream q ≡ o → ((r : Queue) (t : Emitted P) → SenderLeadsTo message lifecycle is_interleaved x emitted r s t → Given r t (produce_within m now size r t)) → Given q later (produce_within (suc m) now size q later)
      go None e ih = subst (λ (t : Turn P). Given q later t) (sym (idles m now size q later e)) a
      go (Some id) e ih = pick (turn now id size q later).made refl
        where
          one : Given q later (turn now id size q later)
          one =
              led_on message lifecycle is_interleaved x emitted later (turn now id size q later).emitted q (turn now id size q later).queue s (with_made now (turn now id size q later).made s) a
              (turn_row message lifecycle is_interleaved a.after a.kept q s a.refines none_given now size id some e later)

          pick : (o : Option Produced) → o ≡ (turn now id size q later).made → Given q later (produce_within (suc m) now size q later)
          pick (Some made) is = subst (λ (t : Turn P). Given q later t) (sym (gives m now size id q later made e is)) one
          pick None is =
              subst (λ (t : Turn P). Given q later t) (sym (turned m now size id q later e is))
              (ih (turn now id size q later).queue (turn now id size q later).emitted
              (subst (λ made. SenderLeadsTo message lifecycle is_interleaved x emitted (turn now id size q later).queue (with_made now made s) (turn now id size q later).emitted) (sym is) one))
