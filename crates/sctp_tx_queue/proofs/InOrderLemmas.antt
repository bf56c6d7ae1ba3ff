-- A queue stays in order, a call at a time.
use Rattle.std.proofs.Common.{◌≡◌, ℕ, zero, suc, ◌+◌, ◌<◌, Bool, true, false, cond, Less, Equal, Greater, List, [], ◌∷◌, ◌++◌, Option, Some, None, refl, ap, sym, subst, ◌∙◌, arith, inl, inr, ◌⊎◌, length}
use Rattle.std.specs.Prelude.{is_some, unwrap_or, nat_lt, ◌&&◌, ◌||◌, ◌==◌, not, filter}
use Rattle.std.specs.List.{list_all}
use Rattle.std.specs.Map.{lookup, keys_of}
use Rattle.std.specs.Ordering.{nat_cmp, match_ordering}
use Rattle.std.specs.declared.cmp.Ordering.{Ordering}
use Rattle.std.specs.BTreeMap.{is_at, insert_entry}
use Rattle.std.proofs.lemmas.Bool.{lt-ltb, and_parts, eq-eqb, eqb-true}
use Rattle.std.proofs.lemmas.Bool.Decides.{nat_tests}
use Rattle.std.proofs.lemmas.Option.{same_Some}
use Rattle.sctp_tx_queue.proofs.StreamLemmas.{step_messages}
use Rattle.sctp_state.specs.Events.{Emitted}
use Rattle.sctp_stream_scheduler.specs.StreamScheduler.{Scheduler, set_bytes_remaining, accept, accepted_at, finish_time, finish_now, is_active, leave, enter, peek}
use Rattle.sctp_tx_queue.specs.declared.send_queue.message.MessageNumbers.{MessageNumbers}
use Rattle.sctp_tx_queue.specs.declared.send_queue.stream.ResetStep.{ResetStep}
use Rattle.sctp_tx_queue.specs.SendQueue.{Queued, Queue, Stream, Streams, Entries, blank, stream, put_stream, with_stream, push, add}
use Rattle.sctp_tx_queue.specs.Produced.{Produced, Turn, is_stale, is_expired, fresh, without_stale, streams_without_stale, moved_front, move_past, ends, front_numbers, front_made, advance, begun_by, in_line, next_fragment, turn, next_stream, produce_within, produce, pause_if_pending}
use Rattle.sctp_tx_queue.specs.Settings.{with_threshold, with_priority, set_low_threshold, set_priority, set_mode, front_discarded, without_front, streams_discarded, begun_without, discard_from, discard}
use Rattle.sctp_tx_queue.specs.Resets.{is_partly, prepare_stream, prepare_reset, after_step, apply_reset_step, each_stepped}
use Rattle.sctp_tx_queue.specs.Restarted.{whole_front, restart, restarted_one, each_restarted, reset}
use Rattle.sctp_tx_queue.specs.InOrder.{is_unsent, is_begun_or_waiting, are_in_order, is_first_begun, is_this, IsInOrder, IsUnsent, NewIsInOrder}
use Rattle.sctp_tx_queue.proofs.StreamsLemmas.{stream_put, stream_nowhere, put_nowhere}
use Rattle.sctp_tx_queue.proofs.ProduceLemmas.{idles, gives, turned}
use Rattle.sctp_tx_queue.proofs.StaysBegunLemmas.{written_elsewhere, inserted_elsewhere}
use Rattle.sctp_serial.proofs.NumberLemmas.{at_itself, zero_not_positive}

-- ---- what holds of each stream, where one changes

at_equal : (id k : ℕ) → nat_cmp id k ≡ Equal → is_at (nat_cmp id) k ≡ true
at_equal id k e = grind (arith, nat_tests)

not_at_greater : (id k : ℕ) → nat_cmp id k ≡ Greater → is_at (nat_cmp id) k ≡ false
not_at_greater id k e = grind (arith, nat_tests)

pub inserted_here : {X : Type 0} (id : ℕ) (s : X) (es : List (ℕ × X)) → lookup (is_at (nat_cmp id)) (insert_entry nat_cmp es id s) ≡ Some s
inserted_here id s [] = ap (λ t. cond t (Some s) None) (at_itself id)
inserted_here {X} id s (e ∷ es) = go (nat_cmp id e.0) refl (inserted_here id s es)
  where
    rest : Option X
    rest = lookup (is_at (nat_cmp id)) es

    go : (o : Ordering) → nat_cmp id e.0 ≡ o → lookup (is_at (nat_cmp id)) (insert_entry nat_cmp es id s) ≡ Some s
        → lookup (is_at (nat_cmp id)) (match_ordering o ((id, s) ∷ e ∷ es) ((e.0, s) ∷ es) (e ∷ insert_entry nat_cmp es id s)) ≡ Some s
    go Less h ih = ap (λ t. cond t (Some s) (cond (is_at (nat_cmp id) e.0) (Some e.1) rest)) (at_itself id)
    go Equal h ih = ap (λ t. cond t (Some s) rest) (at_equal id e.0 h)
    go Greater h ih = ap (λ t. cond t (Some e.1) (lookup (is_at (nat_cmp id)) (insert_entry nat_cmp es id s))) (not_at_greater id e.0 h) ∙ ih

pub is_none : (o : Option Stream) → is_some o ≡ false → o ≡ None
is_none None h = refl
is_none (Some s) h = absurd (cc)

pub opened_same : (k id : ℕ) (ss : Streams) → stream k (with_stream id ss) ≡ stream k ss
opened_same k id ss = go (is_some (lookup (is_at (nat_cmp id)) ss.entries)) refl
  where
    open_by : Bool → Streams
    open_by b =
        let r : Streams = record ss { entries = insert_entry nat_cmp ss.entries id (blank ss) } in
        cond b ss r

    go : (b : Bool) → is_some (lookup (is_at (nat_cmp id)) ss.entries) ≡ b → stream k (open_by b) ≡ stream k ss
    go true e = refl
    go false e = pick (k == id) refl
      where
        none : lookup (is_at (nat_cmp id)) ss.entries ≡ None
        none = is_none (lookup (is_at (nat_cmp id)) ss.entries) e

        pick : (d : Bool) → (k == id) ≡ d → stream k (open_by false) ≡ stream k ss
        pick true same =
            let here : stream id (open_by false) ≡ stream id ss = ap (λ o. unwrap_or o (blank ss)) (inserted_here id (blank ss) ss.entries) ∙ sym (ap (λ o. unwrap_or o (blank ss)) none) in
            subst (λ i. stream i (open_by false) ≡ stream i ss) (sym (eqb-true k id same)) here
        pick false other = ap (λ o. unwrap_or o (blank ss)) (inserted_elsewhere k id (blank ss) ss.entries other)

module _ (T : ℕ → List Queued → Type 0) where
  pub each_put : (id : ℕ) (s : Stream) (ss : Streams) → ((k : ℕ) → T k (stream k ss).messages) → T id s.messages → (k : ℕ) → T k (stream k (put_stream id s ss)).messages
  each_put id s ss h here k = go (k == id) refl
    where
      at_id : (o : Option Stream) → lookup (is_at (nat_cmp id)) ss.entries ≡ o → T id (stream id (put_stream id s ss)).messages
      at_id None e = subst (λ (x : Streams). T id (stream id x).messages) (sym (put_nowhere id s ss (sym e))) (h id)
      at_id (Some t) e = subst (λ (x : Stream). T id x.messages) (sym (stream_put id s ss (ap is_some e))) here

      go : (b : Bool) → (k == id) ≡ b → T k (stream k (put_stream id s ss)).messages
      go true e = subst (λ i. T i (stream i (put_stream id s ss)).messages) (sym (eqb-true k id e)) (at_id (lookup (is_at (nat_cmp id)) ss.entries) refl)
      go false e = subst (λ o. T k (unwrap_or o (blank ss)).messages) (sym (written_elsewhere k id s ss.entries e)) (h k)

-- ---- lists of messages

waits : (m : Queued) → is_unsent m ≡ true → (is_some m.numbers ≡ false) × ((m.offset == 0) ≡ true)
waits m h = go (is_some m.numbers) h
  where
    go : (b : Bool) → not b && (m.offset == 0) ≡ true → (b ≡ false) × ((m.offset == 0) ≡ true)
    go true h = absurd (cc)
    go false h = (refl, h)

pub waiting_in_order : (m : Queued) → is_unsent m ≡ true → is_begun_or_waiting m ≡ true
waiting_in_order m h = ap (λ b. cond b (nat_lt 0 m.offset) (m.offset == 0)) (waits m h).0 ∙ (waits m h).1

rest_in_order : (ms : List Queued) → list_all is_unsent ms ≡ true → (are_in_order ms ≡ true) × (is_first_begun ms ≡ false)
rest_in_order [] h = (refl, refl)
rest_in_order (m ∷ rest) h =
    let hs = and_parts (is_unsent m) (list_all is_unsent rest) h in
    (ap (λ b. b && list_all is_unsent rest) (waiting_in_order m hs.0) ∙ hs.1, (waits m hs.0).0)

more_waiting : (ms : List Queued) (m : Queued) → list_all is_unsent ms ≡ true → is_unsent m ≡ true → list_all is_unsent (ms ++ m ∷ []) ≡ true
more_waiting [] m h w = ap (λ b. b && true) w
more_waiting (x ∷ xs) m h w =
    let hs = and_parts (is_unsent x) (list_all is_unsent xs) h in
    ap (λ b. b && list_all is_unsent (xs ++ m ∷ [])) hs.0 ∙ more_waiting xs m hs.1 w

pushed_order : (ms : List Queued) (m : Queued) → is_unsent m ≡ true → are_in_order ms ≡ true → are_in_order (ms ++ m ∷ []) ≡ true
pushed_order [] m w h = ap (λ b. b && true) (waiting_in_order m w)
pushed_order (x ∷ xs) m w h =
    let hs = and_parts (is_begun_or_waiting x) (list_all is_unsent xs) h in
    ap (λ b. b && list_all is_unsent (xs ++ m ∷ [])) hs.0 ∙ more_waiting xs m hs.1 w

pushed_first : (ms : List Queued) (m : Queued) → is_unsent m ≡ true → is_first_begun (ms ++ m ∷ []) ≡ is_first_begun ms
pushed_first [] m w = (waits m w).0
pushed_first (x ∷ xs) m w = refl

-- a new association
pub whole_order : (ms : List Queued) → are_in_order ms ≡ true → are_in_order (whole_front ms) ≡ true
whole_order [] h = refl
whole_order (m ∷ rest) h = (and_parts (is_begun_or_waiting m) (list_all is_unsent rest) h).1

pub whole_first : (ms : List Queued) → is_first_begun (whole_front ms) ≡ false
whole_first [] = refl
whole_first (m ∷ rest) = refl

none_partly : (ms : List Queued) → list_all is_unsent ms ≡ true → filter is_partly ms ≡ []
none_partly [] h = refl
none_partly (m ∷ rest) h =
    let hs = and_parts (is_unsent m) (list_all is_unsent rest) h in
    ap (λ b. cond b (m ∷ filter is_partly rest) (filter is_partly rest)) (zero_not_positive m.offset (waits m hs.0).1) ∙ none_partly rest hs.1

partly_both : (ms : List Queued) → are_in_order ms ≡ true → (are_in_order (filter is_partly ms) ≡ true) × (is_first_begun (filter is_partly ms) ≡ is_first_begun ms)
partly_both [] h = (refl, refl)
partly_both (m ∷ rest) h = subst Both (sym (ap (λ xs. cond (is_partly m) (m ∷ xs) xs) (none_partly rest hs.1))) (go (is_some m.numbers) (is_partly m) refl refl hs.0)
  where
    hs : (is_begun_or_waiting m ≡ true) × (list_all is_unsent rest ≡ true)
    hs = and_parts (is_begun_or_waiting m) (list_all is_unsent rest) h

    Both : List Queued → Type 0
    Both xs = (are_in_order xs ≡ true) × (is_first_begun xs ≡ is_some m.numbers)

    go : (a b : Bool) → is_some m.numbers ≡ a → is_partly m ≡ b → cond a (is_partly m) (m.offset == 0) ≡ true → Both (cond b (m ∷ []) [])
    go a true ea eb w = (ap (λ t. t && true) hs.0, refl)
    go true false ea eb w = absurd (no (sym w ∙ eb))
      where
        no : true ≡ false → ⊥
        no x = cc
    go false false ea eb w = (refl, sym ea)

-- expired messages are dropped
fresh_waiting : (now : ℕ) (ms : List Queued) → list_all is_unsent ms ≡ true → list_all is_unsent (fresh now ms) ≡ true
fresh_waiting now [] h = refl
fresh_waiting now (m ∷ rest) h = go (is_stale now m) (fresh_waiting now rest (and_parts (is_unsent m) (list_all is_unsent rest) h).1)
  where
    go : (b : Bool) → list_all is_unsent (fresh now rest) ≡ true → list_all is_unsent (cond b (fresh now rest) (m ∷ rest)) ≡ true
    go true ih = ih
    go false ih = h

pub unnumbered : (a b : Bool) → not a && b ≡ true → a ≡ false
unnumbered true b h = absurd (cc)
unnumbered false b h = refl

pub fresh_both : (now : ℕ) (ms : List Queued) → are_in_order ms ≡ true → (are_in_order (fresh now ms) ≡ true) × (is_first_begun (fresh now ms) ≡ is_first_begun ms)
fresh_both now [] h = (refl, refl)
fresh_both now (m ∷ rest) h = go (is_stale now m) refl
  where
    behind : (are_in_order (fresh now rest) ≡ true) × (is_first_begun (fresh now rest) ≡ false)
    behind = rest_in_order (fresh now rest) (fresh_waiting now rest (and_parts (is_begun_or_waiting m) (list_all is_unsent rest) h).1)

    go : (b : Bool) → is_stale now m ≡ b → (are_in_order (cond b (fresh now rest) (m ∷ rest)) ≡ true) × (is_first_begun (cond b (fresh now rest) (m ∷ rest)) ≡ is_some m.numbers)
    go true e = (behind.0, behind.1 ∙ sym (unnumbered (is_some m.numbers) (is_expired now m.expires) e))
    go false e = (h, refl)

-- a fragment is produced
moved_both : (id size : ℕ) (n : MessageNumbers) (ms : List Queued) → 0 < size → are_in_order ms ≡ true
    → (are_in_order (moved_front size n ms) ≡ true) × (is_first_begun (moved_front size n ms) ≡ is_this id (begun_by id false (front_made id size n ms)))
moved_both id size n [] some h = (refl, refl)
moved_both id size n (m ∷ rest) some h = go (ends size m)
  where
    hs : (is_begun_or_waiting m ≡ true) × (list_all is_unsent rest ≡ true)
    hs = and_parts (is_begun_or_waiting m) (list_all is_unsent rest) h

    go : (b : Bool) → (are_in_order (cond b rest (move_past size n m ∷ rest)) ≡ true) × (is_first_begun (cond b rest (move_past size n m ∷ rest)) ≡ is_this id (cond b None (Some id)))
    go true = rest_in_order rest hs.1
    go false = (ap (λ b. b && list_all is_unsent rest) (lt-ltb 0 (m.offset + size) (omega (arith, some))) ∙ hs.1, sym (eq-eqb id id refl))

-- the first message goes
without_order : (message : ℕ) (ms : List Queued) (s : Stream) → s.messages ≡ ms → are_in_order ms ≡ true → are_in_order (without_front message ms s).messages ≡ true
without_order message [] s e h = ap are_in_order e
without_order message (m ∷ rest) s e h = go (m.number == message)
  where
    go : (b : Bool) → are_in_order (cond b (record s { messages = rest; pause = pause_if_pending s.pause }) s).messages ≡ true
    go true = (rest_in_order rest (and_parts (is_begun_or_waiting m) (list_all is_unsent rest) h).1).0
    go false = ap are_in_order e ∙ h

-- ---- the mode stays

pub set_bytes_mode : (id bytes priority : ℕ) (s : Scheduler) → (set_bytes_remaining id bytes priority s).is_interleaved ≡ s.is_interleaved
set_bytes_mode id bytes priority s = go (bytes == 0) (is_active id s)
  where
    go : (a b : Bool) → (cond a (leave id s) (cond b s (enter id (finish_now bytes priority s) s))).is_interleaved ≡ s.is_interleaved
    go true b = refl
    go false true = refl
    go false false = refl

pub accept_mode : (id : ℕ) (s : Scheduler) → (accept id s).is_interleaved ≡ s.is_interleaved
accept_mode id s = go (finish_time id s.times)
  where
    go : (o : Option ℕ) → (accepted_at id o s).is_interleaved ≡ s.is_interleaved
    go None = refl
    go (Some f) = refl

pub line_mode : (id bytes priority : ℕ) (made : Option Produced) (s : Scheduler) → (in_line id bytes priority made s).is_interleaved ≡ s.is_interleaved
line_mode id bytes priority None s = set_bytes_mode id 0 0 s
line_mode id bytes priority (Some made) s = set_bytes_mode id bytes priority (accept id s) ∙ accept_mode id s

-- ---- calls that change one stream

pub put_stream_keeps_order : (id : ℕ) (s : Stream) (ss : Streams) (q after : Queue) → ((k : ℕ) → stream k ss ≡ stream k q.streams) → after.streams ≡ put_stream id s ss → after.begun ≡ q.begun
    → after.scheduler.is_interleaved ≡ q.scheduler.is_interleaved → are_in_order s.messages ≡ true → is_first_begun s.messages ≡ is_first_begun (stream id q.streams).messages → IsInOrder q → IsInOrder after
put_stream_keeps_order id s ss q after same streams begun mode order first h = record { order = ordered; begun = λ m k. begun_on (sym mode ∙ m) k }
  where
    ordered : (k : ℕ) → are_in_order (stream k after.streams).messages ≡ true
    ordered k = ap (λ (x : Streams). are_in_order (stream k x).messages) streams ∙ each_put (λ i ms. are_in_order ms ≡ true) id s ss (λ i. ap (λ (t : Stream). are_in_order t.messages) (same i) ∙ h.order i) order k

    begun_on : q.scheduler.is_interleaved ≡ false → (k : ℕ) → is_first_begun (stream k after.streams).messages ≡ is_this k after.begun
    begun_on m k =
        ap (λ (x : Streams). is_first_begun (stream k x).messages) streams
        ∙ each_put (λ i ms. is_first_begun ms ≡ is_this i q.begun) id s ss (λ i. ap (λ (t : Stream). is_first_begun t.messages) (same i) ∙ h.begun m i) (first ∙ h.begun m id) k
        ∙ ap (λ b. is_this k b) (sym begun)

pub added_in_order : (id : ℕ) (m : Queued) (q : Queue) → is_unsent m ≡ true → IsInOrder q → IsInOrder (add id m q)
added_in_order id m q w h =
    let s : Stream = stream id q.streams in
    put_stream_keeps_order id (push m s) (with_stream id q.streams) q (add id m q) (λ k. opened_same k id q.streams) refl refl (set_bytes_mode id _ _ q.scheduler)
    (pushed_order s.messages m w (h.order id)) (pushed_first s.messages m w) h

pub threshold_in_order : {P : Type 0} (id bytes : ℕ) (q : Queue) (emitted : Emitted P) → IsInOrder q → IsInOrder (set_low_threshold id bytes q emitted).queue
threshold_in_order id bytes q emitted h =
    put_stream_keeps_order id (with_threshold bytes (stream id q.streams)) (with_stream id q.streams) q (set_low_threshold id bytes q emitted).queue (λ k. opened_same k id q.streams) refl refl refl (h.order id) refl h

pub priority_in_order : (id priority : ℕ) (q : Queue) → IsInOrder q → IsInOrder (set_priority id priority q)
priority_in_order id priority q h = put_stream_keeps_order id (with_priority priority (stream id q.streams)) (with_stream id q.streams) q (set_priority id priority q) (λ k. opened_same k id q.streams) refl refl refl (h.order id) refl h

pub mode_in_order : (is_interleaved : Bool) (q : Queue) → (q.scheduler.is_interleaved ≡ is_interleaved) ⊎ IsUnsent q → IsInOrder q → IsInOrder (set_mode is_interleaved q)
mode_in_order is_interleaved q (inl same) h = record { order = h.order; begun = λ m k. h.begun (same ∙ m) k }
mode_in_order is_interleaved q (inr u) h = record { order = h.order; begun = λ m k. u.first k ∙ sym (ap (λ b. is_this k b) u.begun) }

pub prepared_in_order : {P : Type 0} (id : ℕ) (q : Queue) (emitted : Emitted P) → IsInOrder q → IsInOrder (prepare_reset id q emitted).queue
prepared_in_order id q emitted h =
    let p = partly_both (stream id q.streams).messages (h.order id) in
    put_stream_keeps_order id (prepare_stream (stream id q.streams)) (with_stream id q.streams) q (prepare_reset id q emitted).queue (λ k. opened_same k id q.streams) refl refl (set_bytes_mode id _ _ q.scheduler) p.0 p.1 h

pub steps_in_order : (step : ResetStep) (ids : List ℕ) (q : Queue) → IsInOrder q → IsInOrder (each_stepped step ids q)
steps_in_order step [] q h = h
steps_in_order step (id ∷ ids) q h =
    let s : Stream = stream id q.streams in
    let same = step_messages step s in
    steps_in_order step ids (apply_reset_step step id q)
    (put_stream_keeps_order id (after_step step s) q.streams q (apply_reset_step step id q) (λ k. refl) refl refl (set_bytes_mode id _ _ q.scheduler) (ap are_in_order same ∙ h.order id) (ap is_first_begun same) h)

-- ---- a new association

restarted_order : (ids : List ℕ) (q : Queue) → ((k : ℕ) → are_in_order (stream k q.streams).messages ≡ true) → (k : ℕ) → are_in_order (stream k (each_restarted ids q).streams).messages ≡ true
restarted_order [] q h k = h k
restarted_order (id ∷ ids) q h k =
    restarted_order ids (restarted_one id q) (each_put (λ i ms. are_in_order ms ≡ true) id (restart (stream id q.streams)) q.streams h (whole_order (stream id q.streams).messages (h id))) k

-- what is unsent stays so
restarted_unsent : (ids : List ℕ) (k : ℕ) (q : Queue) → is_first_begun (stream k q.streams).messages ≡ false → is_first_begun (stream k (each_restarted ids q).streams).messages ≡ false
restarted_unsent [] k q h = h
restarted_unsent (id ∷ ids) k q h = restarted_unsent ids k (restarted_one id q) (go (k == id) refl)
  where
    s : Stream
    s = restart (stream id q.streams)

    at_id : (o : Option Stream) → lookup (is_at (nat_cmp id)) q.streams.entries ≡ o → is_first_begun (stream id q.streams).messages ≡ false → is_first_begun (stream id (put_stream id s q.streams)).messages ≡ false
    at_id None e g = ap (λ (x : Streams). is_first_begun (stream id x).messages) (put_nowhere id s q.streams (sym e)) ∙ g
    at_id (Some t) e g = ap (λ (x : Stream). is_first_begun x.messages) (stream_put id s q.streams (ap is_some e)) ∙ whole_first (stream id q.streams).messages

    go : (b : Bool) → (k == id) ≡ b → is_first_begun (stream k (put_stream id s q.streams)).messages ≡ false
    go true e =
        let same = eqb-true k id e in
        subst (λ i. is_first_begun (stream i (put_stream id s q.streams)).messages ≡ false) (sym same)
        (at_id (lookup (is_at (nat_cmp id)) q.streams.entries) refl (subst (λ i. is_first_begun (stream i q.streams).messages ≡ false) same h))
    go false e = ap (λ o. is_first_begun (unwrap_or o (blank q.streams)).messages) (written_elsewhere k id s q.streams.entries e) ∙ h

abbrev pub is_among : ℕ → List ℕ → Bool
is_among k [] = false
is_among k (id ∷ ids) = (k == id) || is_among k ids

among_unsent : (ids : List ℕ) (k : ℕ) (q : Queue) → is_among k ids ≡ true → is_first_begun (stream k (each_restarted ids q).streams).messages ≡ false
among_unsent [] k q h = absurd (cc)
among_unsent (id ∷ ids) k q h = go (k == id) refl h (λ g. among_unsent ids k (restarted_one id q) g)
  where
    s : Stream
    s = restart (stream id q.streams)

    at_id : (o : Option Stream) → lookup (is_at (nat_cmp id)) q.streams.entries ≡ o → is_first_begun (stream id (put_stream id s q.streams)).messages ≡ false
    at_id None e =
        ap (λ (x : Streams). is_first_begun (stream id x).messages) (put_nowhere id s q.streams (sym e)) ∙ ap (λ (t : Stream). is_first_begun t.messages) (stream_nowhere id q.streams (sym e))
    at_id (Some t) e = ap (λ (x : Stream). is_first_begun x.messages) (stream_put id s q.streams (ap is_some e)) ∙ whole_first (stream id q.streams).messages

    go : (b : Bool) → (k == id) ≡ b → b || is_among k ids ≡ true → (is_among k ids ≡ true → is_first_begun (stream k (each_restarted ids (restarted_one id q)).streams).messages ≡ false)
        → is_first_begun (stream k (each_restarted ids (restarted_one id q)).streams).messages ≡ false
    go true e g ih =
        restarted_unsent ids k (restarted_one id q)
        (subst (λ i. is_first_begun (stream i (put_stream id s q.streams)).messages ≡ false) (sym (eqb-true k id e)) (at_id (lookup (is_at (nat_cmp id)) q.streams.entries) refl))
    go false e g ih = ih g

is_here : (k id : ℕ) → is_at (nat_cmp k) id ≡ true → (k == id) ≡ true
is_here k id e = grind (arith, nat_tests)

or_true : (a : Bool) → a || true ≡ true
or_true true = refl
or_true false = refl

pub found_among : (k : ℕ) (es : Entries) → is_some (lookup (is_at (nat_cmp k)) es) ≡ true → is_among k (keys_of es) ≡ true
found_among k [] h = absurd (cc)
found_among k (e ∷ es) h = go (is_at (nat_cmp k) e.0) refl h (found_among k es)
  where
    go : (b : Bool) → is_at (nat_cmp k) e.0 ≡ b → is_some (cond b (Some e.1) (lookup (is_at (nat_cmp k)) es)) ≡ true → (is_some (lookup (is_at (nat_cmp k)) es) ≡ true → is_among k (keys_of es) ≡ true)
        → (k == e.0) || is_among k (keys_of es) ≡ true
    go true e' h ih = ap (λ b. b || is_among k (keys_of es)) (is_here k e.0 e')
    go false e' h ih = ap (λ b. (k == e.0) || b) (ih h) ∙ or_true (k == e.0)

pub reset_unsent : (q : Queue) → IsUnsent (reset q)
reset_unsent q = record { first = λ k. go k (is_some (lookup (is_at (nat_cmp k)) q.streams.entries)) refl; begun = refl }
  where
    go : (k : ℕ) (b : Bool) → is_some (lookup (is_at (nat_cmp k)) q.streams.entries) ≡ b → is_first_begun (stream k (reset q).streams).messages ≡ false
    go k true e = among_unsent (keys_of q.streams.entries) k q (found_among k q.streams.entries e)
    go k false e =
        restarted_unsent (keys_of q.streams.entries) k q
        (ap (λ o. is_first_begun (unwrap_or o (blank q.streams)).messages) (is_none (lookup (is_at (nat_cmp k)) q.streams.entries) e))

pub reset_in_order : (q : Queue) → IsInOrder q → IsInOrder (reset q)
reset_in_order q h =
    let u = reset_unsent q in
    record { order = restarted_order (keys_of q.streams.entries) q h.order; begun = λ m k. u.first k ∙ sym (ap (λ b. is_this k b) u.begun) }

pub new_in_order : NewIsInOrder
new_in_order = record { order = λ o. record { order = λ k. refl; begun = λ m k. refl }; unsent = λ o. record { first = λ k. refl; begun = refl } }

-- ---- a turn

-- the messages of a stream after a change that leaves a blank one without messages
pub put_messages : (id : ℕ) (f : Stream → Stream) (ss : Streams) → (f (blank ss)).messages ≡ [] → (stream id (put_stream id (f (stream id ss)) ss)).messages ≡ (f (stream id ss)).messages
put_messages id f ss none = go (lookup (is_at (nat_cmp id)) ss.entries) refl
  where
    go : (o : Option Stream) → lookup (is_at (nat_cmp id)) ss.entries ≡ o → (stream id (put_stream id (f (stream id ss)) ss)).messages ≡ (f (stream id ss)).messages
    go None e =
        ap (λ (x : Streams). (stream id x).messages) (put_nowhere id (f (stream id ss)) ss (sym e)) ∙ ap (λ (t : Stream). t.messages) (stream_nowhere id ss (sym e))
        ∙ sym none ∙ sym (ap (λ (t : Stream). (f t).messages) (stream_nowhere id ss (sym e)))
    go (Some s) e = ap (λ (t : Stream). t.messages) (stream_put id (f (stream id ss)) ss (ap is_some e))

pub put_elsewhere : (k id : ℕ) (s : Stream) (ss : Streams) → (k == id) ≡ false → stream k (put_stream id s ss) ≡ stream k ss
put_elsewhere k id s ss e = ap (λ o. unwrap_or o (blank ss)) (written_elsewhere k id s ss.entries e)

-- no other stream is begun than the next one
others_before : (k id : ℕ) (begun : Option ℕ) (peeked : Option ℕ) → (k == id) ≡ false → cond (is_some begun) begun peeked ≡ Some id → is_this k begun ≡ false
others_before k id None peeked e next = refl
others_before k id (Some b) peeked e next = ap (λ i. k == i) (same_Some b id next) ∙ e

others_after : (k id : ℕ) (mode : Bool) (made : Option Produced) → (k == id) ≡ false → is_this k (begun_by id mode made) ≡ false
others_after k id mode None e = refl
others_after k id mode (Some made) e = go made.fragment.is_end mode
  where
    go : (a b : Bool) → is_this k (cond a None (cond b None (Some id))) ≡ false
    go true b = refl
    go false true = refl
    go false false = e

pub turn_in_order : {P : Type 0} (now id size : ℕ) (q : Queue) (emitted : Emitted P) → 0 < size → next_stream q ≡ Some id → IsInOrder q → IsInOrder (turn now id size q emitted).queue
turn_in_order {P} now id size q emitted some next h = record { order = ordered; begun = λ m k. begun_on (sym mode ∙ m) k (k == id) refl }
  where
    ss : Streams
    ss = streams_without_stale now id q.streams

    s : Stream
    s = stream id ss

    n : MessageNumbers
    n = front_numbers s.messages s

    after : Queue
    after = (turn now id size q emitted).queue

    mode : after.scheduler.is_interleaved ≡ q.scheduler.is_interleaved
    mode = line_mode id _ _ (next_fragment id size s) q.scheduler

    fresh_is : s.messages ≡ fresh now (stream id q.streams).messages
    fresh_is = put_messages id (without_stale now) q.streams refl

    first_order : are_in_order s.messages ≡ true
    first_order = ap are_in_order fresh_is ∙ (fresh_both now (stream id q.streams).messages (h.order id)).0

    moved_is : (stream id after.streams).messages ≡ moved_front size n s.messages
    moved_is = put_messages id (advance size) ss refl

    moves : (are_in_order (moved_front size n s.messages) ≡ true) × (is_first_begun (moved_front size n s.messages) ≡ is_this id (begun_by id false (front_made id size n s.messages)))
    moves = moved_both id size n s.messages some first_order

    elsewhere : (k : ℕ) → (k == id) ≡ false → stream k after.streams ≡ stream k q.streams
    elsewhere k e = put_elsewhere k id (advance size s) ss e ∙ put_elsewhere k id (without_stale now (stream id q.streams)) q.streams e

    by_id : (k : ℕ) (b : Bool) → (k == id) ≡ b → are_in_order (stream k after.streams).messages ≡ true
    by_id k true e = subst (λ i. are_in_order (stream i after.streams).messages ≡ true) (sym (eqb-true k id e)) (ap are_in_order moved_is ∙ moves.0)
    by_id k false e = ap (λ (t : Stream). are_in_order t.messages) (elsewhere k e) ∙ h.order k

    ordered : (k : ℕ) → are_in_order (stream k after.streams).messages ≡ true
    ordered k = by_id k (k == id) refl

    begun_on : q.scheduler.is_interleaved ≡ false → (k : ℕ) (b : Bool) → (k == id) ≡ b → is_first_begun (stream k after.streams).messages ≡ is_this k after.begun
    begun_on m k true e =
        subst (λ i. is_first_begun (stream i after.streams).messages ≡ is_this i after.begun) (sym (eqb-true k id e))
        (ap is_first_begun moved_is ∙ moves.1 ∙ ap (λ b. is_this id (begun_by id b (front_made id size n s.messages))) (sym m))
    begun_on m k false e =
        ap (λ (t : Stream). is_first_begun t.messages) (elsewhere k e) ∙ h.begun m k ∙ others_before k id q.begun (peek q.scheduler) e next
        ∙ sym (others_after k id q.scheduler.is_interleaved (next_fragment id size s) e)

within_in_order : {P : Type 0} (turns now size : ℕ) (q : Queue) (emitted : Emitted P) → 0 < size → IsInOrder q → IsInOrder (produce_within turns now size q emitted).queue
within_in_order zero now size q emitted some h = h
within_in_order {P} (suc m) now size q emitted some h = go (next_stream q) refl (λ r t g. within_in_order m now size r t some g)
  where
    go : (o : Option ℕ) → next_stream q ≡ o → ((r : Queue) (t : Emitted P) → IsInOrder r → IsInOrder (produce_within m now size r t).queue) → IsInOrder (produce_within (suc m) now size q emitted).queue
    go None e ih = subst (λ (t : Turn P). IsInOrder t.queue) (sym (idles m now size q emitted e)) h
    go (Some id) e ih = pick (turn now id size q emitted).made refl
      where
        pick : (o : Option Produced) → o ≡ (turn now id size q emitted).made → IsInOrder (produce_within (suc m) now size q emitted).queue
        pick (Some made) is = subst (λ (t : Turn P). IsInOrder t.queue) (sym (gives m now size id q emitted made e is)) (turn_in_order now id size q emitted some e h)
        pick None is = subst (λ (t : Turn P). IsInOrder t.queue) (sym (turned m now size id q emitted e is)) (ih (turn now id size q emitted).queue (turn now id size q emitted).emitted (turn_in_order now id size q emitted some e h))

pub produced_in_order : {P : Type 0} (now size : ℕ) (q : Queue) (emitted : Emitted P) → 0 < size → IsInOrder q → IsInOrder (produce now size q emitted).queue
produced_in_order now size q emitted some h = within_in_order (length q.scheduler.times + 2) now size q emitted some h

-- ---- a message is discarded

pub discard_streams : {P : Type 0} (id : ℕ) (ss : Streams) (o : Option (Option ℕ)) (q : Queue) (emitted : Emitted P) → (discard_from id ss o q emitted).queue.streams ≡ ss
discard_streams id ss None q emitted = refl
discard_streams id ss (Some lifecycle) q emitted = refl

discard_mode : {P : Type 0} (id : ℕ) (ss : Streams) (o : Option (Option ℕ)) (q : Queue) (emitted : Emitted P) → (discard_from id ss o q emitted).queue.scheduler.is_interleaved ≡ q.scheduler.is_interleaved
discard_mode id ss None q emitted = refl
discard_mode id ss (Some lifecycle) q emitted = set_bytes_mode id _ _ q.scheduler

-- another message is first, or none: nothing changes
other_in_order : {P : Type 0} (id message : ℕ) (q : Queue) (emitted : Emitted P) → front_discarded message (stream id q.streams).messages ≡ None → without_front message (stream id q.streams).messages (stream id q.streams) ≡ stream id q.streams
    → IsInOrder q → IsInOrder (discard id message q emitted).queue
other_in_order id message q emitted none same h =
    let s : Stream = stream id q.streams in
    let ss : Streams = streams_discarded id message q.streams in
    let o = front_discarded message s.messages in
    put_stream_keeps_order id (without_front message s.messages s) q.streams q (discard id message q emitted).queue (λ k. refl) (discard_streams id ss o q emitted)
    (ap (λ x. (discard_from id ss x q emitted).queue.begun) none) (discard_mode id ss o q emitted) (without_order message s.messages s refl (h.order id)) (ap (λ (t : Stream). is_first_begun t.messages) same) h

turned_id : (a b : ℕ) → (a == b) ≡ false → (b == a) ≡ false
turned_id a b e = grind (arith, nat_tests)

pub none_here : (id : ℕ) (begun : Option ℕ) → is_this id (begun_without id begun) ≡ false
none_here id None = refl
none_here id (Some b) = go (b == id) refl
  where
    go : (t : Bool) → (b == id) ≡ t → is_this id (cond t None (Some b)) ≡ false
    go true e = refl
    go false e = turned_id b id e

pub same_there : (k id : ℕ) (begun : Option ℕ) → (k == id) ≡ false → is_this k begun ≡ is_this k (begun_without id begun)
same_there k id None e = refl
same_there k id (Some b) e = go (b == id) refl
  where
    go : (t : Bool) → (b == id) ≡ t → (k == b) ≡ is_this k (cond t None (Some b))
    go true f = ap (λ i. k == i) (eqb-true b id f) ∙ e
    go false f = refl

front_in_order : {P : Type 0} (id message : ℕ) (q : Queue) (emitted : Emitted P) (m : Queued) (rest : List Queued) → (stream id q.streams).messages ≡ m ∷ rest → (m.number == message) ≡ true → IsInOrder q → IsInOrder (discard id message q emitted).queue
front_in_order {P} id message q emitted m rest is e h = subst (λ o. IsInOrder (discard_from id ss o q emitted).queue) (sym found) (record { order = ordered; begun = λ mode k. begun_on (sym (set_bytes_mode id _ _ q.scheduler) ∙ mode) k (k == id) refl })
  where
    s : Stream
    s = stream id q.streams

    ss : Streams
    ss = streams_discarded id message q.streams

    found : front_discarded message s.messages ≡ Some m.lifecycle
    found = ap (λ ms. front_discarded message ms) is ∙ ap (λ t. cond t (Some m.lifecycle) None) e

    left_is : (without_front message s.messages s).messages ≡ rest
    left_is =
        ap (λ ms. (without_front message ms s).messages) is
        ∙ ap (λ t. let r : Stream = record s { messages = rest; pause = pause_if_pending s.pause } in (cond t r s).messages) e

    behind : (are_in_order rest ≡ true) × (is_first_begun rest ≡ false)
    behind = rest_in_order rest (and_parts (is_begun_or_waiting m) (list_all is_unsent rest) (ap are_in_order (sym is) ∙ h.order id)).1

    ordered : (k : ℕ) → are_in_order (stream k ss).messages ≡ true
    ordered k = each_put (λ i ms. are_in_order ms ≡ true) id (without_front message s.messages s) q.streams h.order (ap are_in_order left_is ∙ behind.0) k

    begun_on : q.scheduler.is_interleaved ≡ false → (k : ℕ) (b : Bool) → (k == id) ≡ b → is_first_begun (stream k ss).messages ≡ is_this k (begun_without id q.begun)
    begun_on mode k true f =
        subst (λ i. is_first_begun (stream i ss).messages ≡ is_this i (begun_without id q.begun)) (sym (eqb-true k id f))
        (ap is_first_begun (put_messages id (λ (t : Stream). without_front message t.messages t) q.streams refl ∙ left_is) ∙ behind.1 ∙ sym (none_here id q.begun))
    begun_on mode k false f =
        ap (λ (t : Stream). is_first_begun t.messages) (put_elsewhere k id (without_front message s.messages s) q.streams f) ∙ h.begun mode k ∙ same_there k id q.begun f

pub discarded_in_order : {P : Type 0} (id message : ℕ) (q : Queue) (emitted : Emitted P) → IsInOrder q → IsInOrder (discard id message q emitted).queue
discarded_in_order {P} id message q emitted h = by_front (stream id q.streams).messages refl
  where
    s : Stream
    s = stream id q.streams

    by_front : (ms : List Queued) → s.messages ≡ ms → IsInOrder (discard id message q emitted).queue
    by_front [] is = other_in_order id message q emitted (ap (λ ms. front_discarded message ms) is) (ap (λ ms. without_front message ms s) is) h
    by_front (m ∷ rest) is = by_number (m.number == message) refl
      where
        by_number : (b : Bool) → (m.number == message) ≡ b → IsInOrder (discard id message q emitted).queue
        by_number true e = front_in_order id message q emitted m rest is e h
        by_number false e =
            other_in_order id message q emitted (ap (λ ms. front_discarded message ms) is ∙ ap (λ t. cond t (Some m.lifecycle) None) e)
            (ap (λ ms. without_front message ms s) is ∙ ap (λ t. let r : Stream = record s { messages = rest; pause = pause_if_pending s.pause } in cond t r s) e) h
