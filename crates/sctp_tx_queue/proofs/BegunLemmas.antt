-- A begun message goes on until its end, and its fragments together are its payload.
use Rattle.std.proofs.Common.{◌≡◌, ℕ, zero, suc, ◌+◌, ◌<◌, ◌≤◌, Bool, true, false, cond, List, [], ◌∷◌, ◌++◌, length, Option, Some, None, refl, ap, sym, ◌∙◌, arith, subst, take, drop, take_all, length-drop, take-append-drop, drop-drop}
use Rattle.std.specs.Prelude.{is_some, unwrap_or, nat_lt, not, ◌&&◌}
use Rattle.std.specs.Map.{lookup}
use Rattle.std.specs.Ordering.{nat_cmp}
use Rattle.std.specs.BTreeMap.{is_at}
use Rattle.std.proofs.lemmas.Bool.{lt-ltb}
use Rattle.std.proofs.lemmas.List.{append-nil}
use Rattle.std.proofs.lemmas.Bool.Decides.{nat_tests}
use Rattle.std.proofs.lemmas.Option.{none-some, same_Some}
use Rattle.sctp_state.specs.Events.{Emitted}
use Rattle.sctp_stream_scheduler.specs.StreamScheduler.{peek}
use Rattle.sctp_tx_queue.specs.declared.send_queue.message.MessageNumbers.{MessageNumbers}
use Rattle.sctp_tx_queue.specs.SendQueue.{Queued, Queue, Stream, Streams, blank_stream, stream, put_stream, remaining_bytes, sendable}
use Rattle.sctp_tx_queue.specs.Produced.{Produced, Turn, is_expired, fresh, streams_without_stale, made_of, front_made, front_numbers, moved_front, move_past, ends, begun_by, turn, next_fragment, advance, next_stream, produce_within, produce, in_line, streams_after}
use Rattle.sctp_tx_queue.specs.Begun.{begun_number, IsBegun, Begins, GoesOn, fragments_payload, is_ended}
use Rattle.sctp_tx_queue.proofs.StreamsLemmas.{put_nowhere, put_same, stream_put, stream_nowhere}
use Rattle.sctp_tx_queue.proofs.ProduceLemmas.{idles, gives, turned}

-- ---- a begun message is next

put_itself : (id : ℕ) (ss : Streams) → put_stream id (stream id ss) ss ≡ ss
put_itself id ss = go (lookup (is_at (nat_cmp id)) ss.entries) refl
  where
    go : (o : Option Stream) → lookup (is_at (nat_cmp id)) ss.entries ≡ o → put_stream id (stream id ss) ss ≡ ss
    go None e = put_nowhere id (stream id ss) ss (sym e)
    go (Some s) e = put_same id (stream id ss) ss (sym (e ∙ sym (ap (λ o. Some (unwrap_or o (blank_stream ss.default_priority ss.default_threshold))) e)))

-- a partly sent message does not expire
fresh_begun : (now number : ℕ) (ms : List Queued) → begun_number ms ≡ Some number → fresh now ms ≡ ms
fresh_begun now number [] h = absurd (none-some number h)
fresh_begun now number (m ∷ rest) h = go (is_some m.numbers) h
  where
    go : (b : Bool) → cond (b && nat_lt 0 m.offset) (Some m.number) None ≡ Some number → cond (not b && is_expired now m.expires) (fresh now rest) (m ∷ rest) ≡ m ∷ rest
    go true h = refl
    go false h = absurd (none-some number h)

-- the fragment of the first message, which is partly sent
front_begun : (id size number : ℕ) (n : MessageNumbers) (ms : List Queued) → begun_number ms ≡ Some number → (p : Produced) × ((front_made id size n ms ≡ Some p) × ((p.number ≡ number) × (p.fragment.stream_id ≡ id)))
front_begun id size number n [] h = absurd (none-some number h)
front_begun id size number n (m ∷ rest) h = (made_of id size n m, (refl, (go (is_some m.numbers && nat_lt 0 m.offset) h, refl)))
  where
    go : (b : Bool) → cond b (Some m.number) None ≡ Some number → m.number ≡ number
    go true h = same_Some m.number number h
    go false h = absurd (none-some number h)

pub goes_on : {P : Type 0} (now size : ℕ) (q : Queue) (emitted : Emitted P) → GoesOn q (produce now size q emitted).made
goes_on {P} now size q emitted id number b = (found.0, (all ∙ found.1.0, found.1.1))
  where
    s : Stream
    s = stream id q.streams

    found : (p : Produced) × ((next_fragment id size s ≡ Some p) × ((p.number ≡ number) × (p.fragment.stream_id ≡ id)))
    found = front_begun id size number (front_numbers s.messages s) s.messages b.message

    kept : streams_without_stale now id q.streams ≡ q.streams
    kept = ap (λ (ms : List Queued). let t : Stream = record s { messages = ms } in put_stream id t q.streams) (fresh_begun now number s.messages b.message) ∙ put_itself id q.streams

    made : (turn now id size q emitted).made ≡ next_fragment id size s
    made = ap (λ ss. next_fragment id size (stream id ss)) kept

    next : next_stream q ≡ Some id
    next = ap (λ (o : Option ℕ). cond (is_some o) o (peek q.scheduler)) b.begun

    one_more : length q.scheduler.times + 2 ≡ suc (length q.scheduler.times + 1)
    one_more = omega arith

    all : (produce now size q emitted).made ≡ next_fragment id size s
    all =
        ap (λ k. (produce_within k now size q emitted).made) one_more
        ∙ ap (λ (t : Turn P). t.made) (gives (length q.scheduler.times + 1) now size id q emitted found.0 next (sym (made ∙ found.1.0))) ∙ made

-- ---- a fragment that isn't an end begins its message

unended : (id size : ℕ) (n : MessageNumbers) (ms : List Queued) (p : Produced) → 0 < size → front_made id size n ms ≡ Some p → p.fragment.is_end ≡ false → begun_number (moved_front size n ms) ≡ Some p.number
unended id size n [] p some made e = absurd (none-some p made)
unended id size n (m ∷ rest) p some made e = go (ends size m) (ap (λ (x : Produced). x.fragment.is_end) (same_Some _ _ made) ∙ e) ∙ ap (λ (x : Produced). Some x.number) (same_Some _ _ made)
  where
    go : (b : Bool) → b ≡ false → begun_number (cond b rest (move_past size n m ∷ rest)) ≡ Some m.number
    go true h = absurd (cc)
    go false h = ap (λ t. cond t (Some m.number) None) (lt-ltb 0 (m.offset + size) (omega (arith, some)))

of_stream : (id size : ℕ) (n : MessageNumbers) (ms : List Queued) (p : Produced) → front_made id size n ms ≡ Some p → id ≡ p.fragment.stream_id
of_stream id size n [] p made = absurd (none-some p made)
of_stream id size n (m ∷ rest) p made = ap (λ (x : Produced). x.fragment.stream_id) (same_Some _ _ made)

begins_turn : {P : Type 0} (now id size : ℕ) (q : Queue) (emitted : Emitted P) (p : Produced) → 0 < size → (turn now id size q emitted).made ≡ Some p → q.scheduler.is_interleaved ≡ false → p.fragment.is_end ≡ false
    → IsBegun p.fragment.stream_id p.number (turn now id size q emitted).queue
begins_turn now id size q emitted p some made mode e = subst (λ i. IsBegun i p.number (turn now id size q emitted).queue) (of_stream id size (front_numbers s.messages s) s.messages p made) (record { begun = begun; message = message })
  where
    ss : Streams
    ss = streams_without_stale now id q.streams

    s : Stream
    s = stream id ss

    begun : begun_by id q.scheduler.is_interleaved (next_fragment id size s) ≡ Some id
    begun =
        ap (λ o. begun_by id q.scheduler.is_interleaved o) made ∙ ap (λ t. cond t None (cond q.scheduler.is_interleaved None (Some id))) e
        ∙ ap (λ t. cond t None (Some id)) mode

    there : (o : Option Stream) → lookup (is_at (nat_cmp id)) ss.entries ≡ o → is_some (lookup (is_at (nat_cmp id)) ss.entries) ≡ true
    there (Some t) h = ap is_some h
    there None h = absurd (none-some p (sym (ap (λ t. next_fragment id size t) (stream_nowhere id ss (sym h))) ∙ made))

    message : begun_number (stream id (put_stream id (advance size s) ss)).messages ≡ Some p.number
    message =
        ap (λ (t : Stream). begun_number t.messages) (stream_put id (advance size s) ss (there (lookup (is_at (nat_cmp id)) ss.entries) refl))
        ∙ unended id size (front_numbers s.messages s) s.messages p some made e

same_mode : {P : Type 0} (now id size : ℕ) (q : Queue) (emitted : Emitted P) → (turn now id size q emitted).made ≡ None → (turn now id size q emitted).queue.scheduler.is_interleaved ≡ q.scheduler.is_interleaved
same_mode now id size q emitted none =
    let ss = streams_after id size (streams_without_stale now id q.streams) in
    ap (λ (o : Option Produced). (in_line id (sendable (stream id ss)) (stream id ss).priority o q.scheduler).is_interleaved) none

begins_within : {P : Type 0} (turns now size : ℕ) (q : Queue) (emitted : Emitted P) → 0 < size → Begins q.scheduler.is_interleaved (produce_within turns now size q emitted).made (produce_within turns now size q emitted).queue
begins_within zero now size q emitted some p made mode e = absurd (none-some p made)
begins_within {P} (suc m) now size q emitted some p made mode e = go (next_stream q) refl (λ r t. begins_within m now size r t some p)
  where
    Rest : Type 0
    Rest = (r : Queue) (t : Emitted P) → (produce_within m now size r t).made ≡ Some p → r.scheduler.is_interleaved ≡ false → p.fragment.is_end ≡ false → IsBegun p.fragment.stream_id p.number (produce_within m now size r t).queue

    go : (o : Option ℕ) → next_stream q ≡ o → Rest → IsBegun p.fragment.stream_id p.number (produce_within (suc m) now size q emitted).queue
    go None h rest = absurd (none-some p (sym (ap (λ (t : Turn P). t.made) (idles m now size q emitted h)) ∙ made))
    go (Some id) h rest = pick (turn now id size q emitted).made refl
      where
        pick : (o : Option Produced) → o ≡ (turn now id size q emitted).made → IsBegun p.fragment.stream_id p.number (produce_within (suc m) now size q emitted).queue
        pick (Some x) is =
            let t = gives m now size id q emitted x h is in
            subst (λ (u : Turn P). IsBegun p.fragment.stream_id p.number u.queue) (sym t) (begins_turn now id size q emitted p some (sym (ap (λ (u : Turn P). u.made) t) ∙ made) mode e)
        pick None is =
            let t = turned m now size id q emitted h is in
            subst (λ (u : Turn P). IsBegun p.fragment.stream_id p.number u.queue) (sym t)
            (rest (turn now id size q emitted).queue (turn now id size q emitted).emitted (sym (ap (λ (u : Turn P). u.made) t) ∙ made) (same_mode now id size q emitted (sym is) ∙ mode) e)

pub begins : {P : Type 0} (now size : ℕ) (q : Queue) (emitted : Emitted P) → 0 < size → Begins q.scheduler.is_interleaved (produce now size q emitted).made (produce now size q emitted).queue
begins now size q emitted some = begins_within (length q.scheduler.times + 2) now size q emitted some

-- ---- fragments of a message

at_most : (size : ℕ) (m : Queued) → ends size m ≡ true → remaining_bytes m ≤ size
at_most size m e = grind (arith, nat_tests)

pub joined_left : (sizes : List ℕ) (n : MessageNumbers) (m : Queued) → is_ended sizes n m ≡ true → fragments_payload sizes n m ≡ drop m.offset m.payload
joined_left [] n m h = absurd (cc)
joined_left (size ∷ sizes) n m h = go (ends size m) refl h (joined_left sizes n (move_past size n m))
  where
    go : (b : Bool) → ends size m ≡ b → cond b true (is_ended sizes n (move_past size n m)) ≡ true → (is_ended sizes n (move_past size n m) ≡ true → fragments_payload sizes n (move_past size n m) ≡ drop (m.offset + size) m.payload)
        → take size (drop m.offset m.payload) ++ cond b [] (fragments_payload sizes n (move_past size n m)) ≡ drop m.offset m.payload
    go true e h ih = append-nil (take size (drop m.offset m.payload)) ∙ take_all size (drop m.offset m.payload) (omega (arith, at_most size m e, length-drop m.offset m.payload))
    go false e h ih = ap (λ xs. take size (drop m.offset m.payload) ++ xs) (ih h ∙ behind) ∙ take-append-drop size (drop m.offset m.payload)
      where
        behind : drop (m.offset + size) m.payload ≡ drop size (drop m.offset m.payload)
        behind = sym (drop-drop size m.offset m.payload)
