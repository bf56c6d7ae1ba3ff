-- The numbers of a stream's messages rise, whatever is called.
use Rattle.std.proofs.Common.{◌≡◌, ℕ, zero, suc, ◌+◌, ◌%◌, ◌^◌, ◌<◌, ◌≤◌, Bool, true, false, cond, List, [], ◌∷◌, ◌++◌, Option, Some, None, refl, ap, sym, subst, ◌∙◌, arith, length}
use Rattle.std.specs.Prelude.{nat_lt, nat_le, ◌&&◌, ◌==◌, filter}
use Rattle.std.specs.Map.{keys_of}
use Rattle.std.proofs.Math.Nat.{mod-eq_of_lt}
use Rattle.std.proofs.lemmas.Bool.Decides.{nat_tests}
use Rattle.std.proofs.lemmas.Bool.{leb-true, ltb-true, and_parts}
use Rattle.sctp_tx_queue.proofs.EmptiedLemmas.{emptied_numbered}
use Rattle.sctp_tx_queue.proofs.StreamLemmas.{step_messages}
use Rattle.sctp_state.specs.Events.{Emitted}
use Rattle.sctp_tx_queue.specs.declared.send_queue.message.MessageNumbers.{MessageNumbers}
use Rattle.sctp_tx_queue.specs.declared.send_queue.stream.ResetStep.{ResetStep}
use Rattle.sctp_tx_queue.specs.SendQueue.{Queued, Queue, Stream, Streams, stream, put_stream, with_stream, push, add, next_number}
use Rattle.sctp_tx_queue.specs.Produced.{Produced, Turn, is_stale, fresh, without_stale, streams_without_stale, moved_front, move_past, ends, front_numbers, advance, turn, next_stream, produce_within, pause_if_pending}
use Rattle.sctp_tx_queue.specs.Settings.{with_threshold, with_priority, set_low_threshold, set_priority, front_discarded, without_front, streams_discarded, discard_from, discard}
use Rattle.sctp_tx_queue.specs.Resets.{is_partly, prepare_stream, prepare_reset, after_step, apply_reset_step, each_stepped}
use Rattle.sctp_tx_queue.specs.Restarted.{whole_front, restart, restarted_one, each_restarted}
use Rattle.sctp_tx_queue.specs.InOrder.{are_rising, IsNumbered, CallsNumber}
use Rattle.sctp_tx_queue.proofs.InOrderLemmas.{each_put, opened_same, discard_streams}
use Rattle.sctp_tx_queue.proofs.ProduceLemmas.{idles, gives, turned}

-- ---- lists of messages

raise : (n most : ℕ) → nat_lt n most ≡ true → nat_lt n (most + 1) ≡ true
raise n most e = grind (arith, nat_tests)

reach : (k least n : ℕ) → k ≤ least → nat_le least n ≡ true → nat_le k n ≡ true
reach k least n l e = grind (arith, nat_tests)

-- the parts of it
pub record Rises (least most : ℕ) (m : Queued) (rest : List Queued) : Type 0 where
  pub low : nat_le least m.number ≡ true
  pub high : nat_lt m.number most ≡ true
  pub behind : are_rising (m.number + 1) most rest ≡ true

pub rises : (least most : ℕ) (m : Queued) (rest : List Queued) → are_rising least most (m ∷ rest) ≡ true → Rises least most m rest
rises least most m rest h =
    let a = and_parts (nat_le least m.number && nat_lt m.number most) (are_rising (m.number + 1) most rest) h in
    let b = and_parts (nat_le least m.number) (nat_lt m.number most) a.0 in
    record { low = b.0; high = b.1; behind = a.1 }

joined : (a b c : Bool) → a ≡ true → b ≡ true → c ≡ true → (a && b) && c ≡ true
joined a b c x y z = ap (λ t. (t && b) && c) x ∙ ap (λ t. t && c) y ∙ z

widened : (least most : ℕ) (ms : List Queued) → are_rising least most ms ≡ true → are_rising least (most + 1) ms ≡ true
widened least most [] h = refl
widened least most (m ∷ rest) h =
    let r = rises least most m rest h in
    joined _ _ _ r.low (raise m.number most r.high) (widened (m.number + 1) most rest r.behind)

pub lowered : (k least most : ℕ) (ms : List Queued) → k ≤ least → are_rising least most ms ≡ true → are_rising k most ms ≡ true
lowered k least most [] l h = refl
lowered k least most (m ∷ rest) l h =
    let r = rises least most m rest h in
    joined _ _ _ (reach k least m.number l r.low) r.high r.behind

behind : (least most : ℕ) (m : Queued) (rest : List Queued) → are_rising least most (m ∷ rest) ≡ true → are_rising least most rest ≡ true
behind least most m rest h =
    let r = rises least most m rest h in
    lowered least (m.number + 1) most rest (omega (arith, leb-true least m.number r.low)) r.behind

low_end : (least most n : ℕ) → least ≤ most → n ≡ most → nat_le least n ≡ true
low_end least most n l e = grind (arith, nat_tests)

high_end : (most n : ℕ) → n ≡ most → nat_lt n (most + 1) ≡ true
high_end most n e = grind (arith, nat_tests)

pushed_rising : (least most : ℕ) (ms : List Queued) (m : Queued) → least ≤ most → m.number ≡ most → are_rising least most ms ≡ true → are_rising least (most + 1) (ms ++ m ∷ []) ≡ true
pushed_rising least most [] m l e h = joined _ _ _ (low_end least most m.number l e) (high_end most m.number e) refl
pushed_rising least most (x ∷ xs) m l e h =
    let r = rises least most x xs h in
    joined _ _ _ r.low (raise x.number most r.high) (pushed_rising (x.number + 1) most xs m (omega (arith, ltb-true x.number most r.high)) e r.behind)

filter_rising : (least most : ℕ) (p : Queued → Bool) (ms : List Queued) → are_rising least most ms ≡ true → are_rising least most (filter p ms) ≡ true
filter_rising least most p [] h = refl
filter_rising least most p (m ∷ rest) h = go (p m) (filter_rising (m.number + 1) most p rest (rises least most m rest h).behind)
  where
    r : Rises least most m rest
    r = rises least most m rest h

    go : (b : Bool) → are_rising (m.number + 1) most (filter p rest) ≡ true → are_rising least most (cond b (m ∷ filter p rest) (filter p rest)) ≡ true
    go true ih = joined _ _ _ r.low r.high ih
    go false ih = lowered least (m.number + 1) most (filter p rest) (omega (arith, leb-true least m.number r.low)) ih

pub fresh_rising : (least most now : ℕ) (ms : List Queued) → are_rising least most ms ≡ true → are_rising least most (fresh now ms) ≡ true
fresh_rising least most now [] h = refl
fresh_rising least most now (m ∷ rest) h = go (is_stale now m) (fresh_rising least most now rest (behind least most m rest h))
  where
    go : (b : Bool) → are_rising least most (fresh now rest) ≡ true → are_rising least most (cond b (fresh now rest) (m ∷ rest)) ≡ true
    go true ih = ih
    go false ih = h

moved_rising : (least most size : ℕ) (n : MessageNumbers) (ms : List Queued) → are_rising least most ms ≡ true → are_rising least most (moved_front size n ms) ≡ true
moved_rising least most size n [] h = refl
moved_rising least most size n (m ∷ rest) h = go (ends size m)
  where
    go : (b : Bool) → are_rising least most (cond b rest (move_past size n m ∷ rest)) ≡ true
    go true = behind least most m rest h
    go false = h

whole_rising : (least most : ℕ) (ms : List Queued) → are_rising least most ms ≡ true → are_rising least most (whole_front ms) ≡ true
whole_rising least most [] h = refl
whole_rising least most (m ∷ rest) h = h

without_rising : (least most message : ℕ) (ms : List Queued) (s : Stream) → s.messages ≡ ms → are_rising least most ms ≡ true → are_rising least most (without_front message ms s).messages ≡ true
without_rising least most message [] s e h = ap (λ ms. are_rising least most ms) e
without_rising least most message (m ∷ rest) s e h = go (m.number == message)
  where
    go : (b : Bool) → are_rising least most (cond b (record s { messages = rest; pause = pause_if_pending s.pause }) s).messages ≡ true
    go true = behind least most m rest h
    go false = ap (λ ms. are_rising least most ms) e ∙ h

-- ---- the calls

pub put_stream_keeps_numbers : (id : ℕ) (s : Stream) (ss : Streams) (q after : Queue) → ((k : ℕ) → stream k ss ≡ stream k q.streams) → after.streams ≡ put_stream id s ss → after.next_number ≡ q.next_number → are_rising 0 q.next_number s.messages ≡ true
    → IsNumbered q → IsNumbered after
put_stream_keeps_numbers id s ss q after same streams count here h = record { rising = risen }
  where
    risen : (k : ℕ) → are_rising 0 after.next_number (stream k after.streams).messages ≡ true
    risen k =
        ap (λ n. are_rising 0 n (stream k after.streams).messages) count ∙ ap (λ (x : Streams). are_rising 0 q.next_number (stream k x).messages) streams
        ∙ each_put (λ i ms. are_rising 0 q.next_number ms ≡ true) id s ss (λ i. ap (λ (t : Stream). are_rising 0 q.next_number t.messages) (same i) ∙ h.rising i) here k

one_more : (n : ℕ) → n + 1 < 2 ^ 32 → (n + 1) % 2 ^ 32 ≡ n + 1
one_more n l = mod-eq_of_lt l

added_numbered : (id : ℕ) (m : Queued) (q : Queue) → m.number ≡ q.next_number → q.next_number + 1 < 2 ^ 32 → IsNumbered q → IsNumbered (add id m q)
added_numbered id m q e l h = record { rising = risen }
  where
    s : Stream
    s = stream id q.streams

    risen : (k : ℕ) → are_rising 0 (next_number q.next_number) (stream k (put_stream id (push m s) (with_stream id q.streams))).messages ≡ true
    risen k =
        ap (λ n. are_rising 0 n (stream k (put_stream id (push m s) (with_stream id q.streams))).messages) (one_more q.next_number l)
        ∙ each_put (λ i ms. are_rising 0 (q.next_number + 1) ms ≡ true) id (push m s) (with_stream id q.streams)
        (λ i. ap (λ (t : Stream). are_rising 0 (q.next_number + 1) t.messages) (opened_same i id q.streams) ∙ widened 0 q.next_number (stream i q.streams).messages (h.rising i))
        (pushed_rising 0 q.next_number s.messages m (omega arith) e (h.rising id)) k

pub turn_numbered : {P : Type 0} (now id size : ℕ) (q : Queue) (emitted : Emitted P) → IsNumbered q → IsNumbered (turn now id size q emitted).queue
turn_numbered now id size q emitted h = record { rising = risen }
  where
    T : ℕ → List Queued → Type 0
    T i ms = are_rising 0 q.next_number ms ≡ true

    ss : Streams
    ss = streams_without_stale now id q.streams

    first : (k : ℕ) → T k (stream k ss).messages
    first k = each_put T id (without_stale now (stream id q.streams)) q.streams h.rising (fresh_rising 0 q.next_number now (stream id q.streams).messages (h.rising id)) k

    s : Stream
    s = stream id ss

    risen : (k : ℕ) → T k (stream k (put_stream id (advance size s) ss)).messages
    risen k = each_put T id (advance size s) ss first (moved_rising 0 q.next_number size (front_numbers s.messages s) s.messages (first id)) k

within_numbered : {P : Type 0} (turns now size : ℕ) (q : Queue) (emitted : Emitted P) → IsNumbered q → IsNumbered (produce_within turns now size q emitted).queue
within_numbered zero now size q emitted h = h
within_numbered {P} (suc m) now size q emitted h = go (next_stream q) refl (λ r t g. within_numbered m now size r t g)
  where
    go : (o : Option ℕ) → next_stream q ≡ o → ((r : Queue) (t : Emitted P) → IsNumbered r → IsNumbered (produce_within m now size r t).queue) → IsNumbered (produce_within (suc m) now size q emitted).queue
    go None e ih = subst (λ (t : Turn P). IsNumbered t.queue) (sym (idles m now size q emitted e)) h
    go (Some id) e ih = pick (turn now id size q emitted).made refl
      where
        pick : (o : Option Produced) → o ≡ (turn now id size q emitted).made → IsNumbered (produce_within (suc m) now size q emitted).queue
        pick (Some made) is = subst (λ (t : Turn P). IsNumbered t.queue) (sym (gives m now size id q emitted made e is)) (turn_numbered now id size q emitted h)
        pick None is = subst (λ (t : Turn P). IsNumbered t.queue) (sym (turned m now size id q emitted e is)) (ih (turn now id size q emitted).queue (turn now id size q emitted).emitted (turn_numbered now id size q emitted h))

discard_count : {P : Type 0} (id : ℕ) (ss : Streams) (o : Option (Option ℕ)) (q : Queue) (emitted : Emitted P) → (discard_from id ss o q emitted).queue.next_number ≡ q.next_number
discard_count id ss None q emitted = refl
discard_count id ss (Some lifecycle) q emitted = refl

pub steps_numbered : (step : ResetStep) (ids : List ℕ) (q : Queue) → IsNumbered q → IsNumbered (each_stepped step ids q)
steps_numbered step [] q h = h
steps_numbered step (id ∷ ids) q h =
    let s : Stream = stream id q.streams in
    steps_numbered step ids (apply_reset_step step id q)
    (put_stream_keeps_numbers id (after_step step s) q.streams q (apply_reset_step step id q) (λ k. refl) refl refl (ap (λ ms. are_rising 0 q.next_number ms) (step_messages step s) ∙ h.rising id) h)

pub restarted_numbered : (ids : List ℕ) (q : Queue) → IsNumbered q → IsNumbered (each_restarted ids q)
restarted_numbered [] q h = h
restarted_numbered (id ∷ ids) q h =
    let s : Stream = stream id q.streams in
    restarted_numbered ids (restarted_one id q) (put_stream_keeps_numbers id (restart s) q.streams q (restarted_one id q) (λ k. refl) refl refl (whole_rising 0 q.next_number s.messages (h.rising id)) h)

pub calls_number : CallsNumber
calls_number = record {
  new = λ o. record { rising = λ k. refl };
  added = added_numbered;
  produced = λ now size q emitted h. within_numbered (length q.scheduler.times + 2) now size q emitted h;
  threshold = λ id bytes q emitted h. put_stream_keeps_numbers id (with_threshold bytes (stream id q.streams)) (with_stream id q.streams) q (set_low_threshold id bytes q emitted).queue (λ k. opened_same k id q.streams) refl refl (h.rising id) h;
  priority = λ id priority q h. put_stream_keeps_numbers id (with_priority priority (stream id q.streams)) (with_stream id q.streams) q (set_priority id priority q) (λ k. opened_same k id q.streams) refl refl (h.rising id) h;
  mode = λ is_interleaved q h. record { rising = h.rising };
  discarded = λ id message q emitted h.
      let s : Stream = stream id q.streams in
      let o = front_discarded message s.messages in
      put_stream_keeps_numbers id (without_front message s.messages s) q.streams q (discard id message q emitted).queue (λ k. refl) (discard_streams id (streams_discarded id message q.streams) o q emitted)
      (discard_count id (streams_discarded id message q.streams) o q emitted) (without_rising 0 q.next_number message s.messages s refl (h.rising id)) h;
  prepared = λ id q emitted h.
      put_stream_keeps_numbers id (prepare_stream (stream id q.streams)) (with_stream id q.streams) q (prepare_reset id q emitted).queue (λ k. opened_same k id q.streams) refl refl
      (filter_rising 0 q.next_number is_partly (stream id q.streams).messages (h.rising id)) h;
  steps = steps_numbered;
  restarted = λ q h. let r = restarted_numbered (keys_of q.streams.entries) q h in record { rising = r.rising };
  emptied = λ q emitted. emptied_numbered q emitted;
}
