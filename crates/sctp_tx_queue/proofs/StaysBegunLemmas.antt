-- A message that is begun stays so, whatever is called between two of its fragments.
use Rattle.std.proofs.Common.{◌≡◌, ℕ, Bool, true, false, cond, Less, Equal, Greater, List, [], ◌∷◌, ◌++◌, Option, Some, None, refl, ap, sym, subst, ◌∙◌, arith, inl, inr, ◌⊎◌}
use Rattle.std.specs.Prelude.{is_some, unwrap_or, nat_lt, ◌&&◌, ◌==◌, filter}
use Rattle.std.specs.Map.{lookup, set_value}
use Rattle.std.specs.Ordering.{nat_cmp, match_ordering}
use Rattle.std.specs.declared.cmp.Ordering.{Ordering}
use Rattle.std.specs.BTreeMap.{is_at, insert_entry}
use Rattle.std.proofs.lemmas.Bool.Decides.{nat_tests}
use Rattle.std.proofs.lemmas.Option.{none-some, same_Some}
use Rattle.std.proofs.lemmas.Bool.{eqb-true}
use Rattle.sctp_tx_queue.proofs.StreamLemmas.{step_messages}
use Rattle.sctp_state.specs.Events.{Emitted}
use Rattle.sctp_tx_queue.specs.declared.send_queue.stream.ResetStep.{ResetStep}
use Rattle.sctp_tx_queue.specs.SendQueue.{Queued, Queue, Stream, Streams, Entries, blank, stream, put_stream, with_stream, push, add}
use Rattle.sctp_tx_queue.specs.Begun.{begun_number, IsBegun, StaysBegun, OthersStayBegun}
use Rattle.sctp_tx_queue.specs.Settings.{with_threshold, with_priority, set_low_threshold, set_priority, set_mode, front_discarded, without_front, streams_discarded, begun_without, discard_from, discard}
use Rattle.sctp_tx_queue.specs.Produced.{pause_if_pending}
use Rattle.sctp_tx_queue.specs.Resets.{is_partly, prepare_stream, prepare_reset, after_step, apply_reset_step, each_stepped}
use Rattle.sctp_tx_queue.specs.Restarted.{reset}
use Rattle.sctp_tx_queue.proofs.StreamsLemmas.{stream_put, stream_nowhere}
use Rattle.sctp_serial.proofs.NumberLemmas.{not_at}

-- ---- another stream

elsewhere : (k id x : ℕ) → (k == id) ≡ false → is_at (nat_cmp id) x ≡ true → is_at (nat_cmp k) x ≡ false
elsewhere k id x d h = grind (arith, nat_tests)

not_here : (k id x : ℕ) → (k == id) ≡ false → nat_cmp id x ≡ Equal → is_at (nat_cmp k) x ≡ false
not_here k id x d h = grind (arith, nat_tests)

pub written_elsewhere : (k id : ℕ) (s : Stream) (es : Entries) → (k == id) ≡ false → lookup (is_at (nat_cmp k)) (set_value (is_at (nat_cmp id)) es s) ≡ lookup (is_at (nat_cmp k)) es
written_elsewhere k id s [] d = refl
written_elsewhere k id s (e ∷ es) d = go (is_at (nat_cmp id) e.0) refl (written_elsewhere k id s es d)
  where
    rest : Option Stream
    rest = lookup (is_at (nat_cmp k)) es

    go : (b : Bool) → is_at (nat_cmp id) e.0 ≡ b → lookup (is_at (nat_cmp k)) (set_value (is_at (nat_cmp id)) es s) ≡ rest
        → lookup (is_at (nat_cmp k)) (cond b ((e.0, s) ∷ es) (e ∷ set_value (is_at (nat_cmp id)) es s)) ≡ cond (is_at (nat_cmp k) e.0) (Some e.1) rest
    go true h ih = ap (λ t. cond t (Some s) rest) (elsewhere k id e.0 d h) ∙ sym (ap (λ t. cond t (Some e.1) rest) (elsewhere k id e.0 d h))
    go false h ih = ap (λ o. cond (is_at (nat_cmp k) e.0) (Some e.1) o) ih

pub inserted_elsewhere : {X : Type 0} (k id : ℕ) (s : X) (es : List (ℕ × X)) → (k == id) ≡ false → lookup (is_at (nat_cmp k)) (insert_entry nat_cmp es id s) ≡ lookup (is_at (nat_cmp k)) es
inserted_elsewhere k id s [] d = ap (λ t. cond t (Some s) None) (not_at k id d)
inserted_elsewhere {X} k id s (e ∷ es) d = go (nat_cmp id e.0) refl (inserted_elsewhere k id s es d)
  where
    rest : Option X
    rest = lookup (is_at (nat_cmp k)) es

    go : (o : Ordering) → nat_cmp id e.0 ≡ o → lookup (is_at (nat_cmp k)) (insert_entry nat_cmp es id s) ≡ rest
        → lookup (is_at (nat_cmp k)) (match_ordering o ((id, s) ∷ e ∷ es) ((e.0, s) ∷ es) (e ∷ insert_entry nat_cmp es id s)) ≡ cond (is_at (nat_cmp k) e.0) (Some e.1) rest
    go Less h ih = ap (λ t. cond t (Some s) (cond (is_at (nat_cmp k) e.0) (Some e.1) rest)) (not_at k id d)
    go Equal h ih = ap (λ t. cond t (Some s) rest) (not_here k id e.0 d h) ∙ sym (ap (λ t. cond t (Some e.1) rest) (not_here k id e.0 d h))
    go Greater h ih = ap (λ o. cond (is_at (nat_cmp k) e.0) (Some e.1) o) ih

-- ---- a stream whose first message is begun

abbrev IsFront : ℕ → ℕ → Streams → Type 0
IsFront k number ss = begun_number (stream k ss).messages ≡ Some number

-- it is there
there : (k number : ℕ) (ss : Streams) → IsFront k number ss → is_some (lookup (is_at (nat_cmp k)) ss.entries) ≡ true
there k number ss h = go (lookup (is_at (nat_cmp k)) ss.entries) refl
  where
    go : (o : Option Stream) → lookup (is_at (nat_cmp k)) ss.entries ≡ o → is_some (lookup (is_at (nat_cmp k)) ss.entries) ≡ true
    go None e = absurd (none-some number (sym (ap (λ (s : Stream). begun_number s.messages) (stream_nowhere k ss (sym e))) ∙ h))
    go (Some s) e = ap is_some e

front_put : (k id number : ℕ) (s : Stream) (ss : Streams) → IsFront k number ss → (IsFront id number ss → begun_number s.messages ≡ Some number) → IsFront k number (put_stream id s ss)
front_put k id number s ss h keeps = go (k == id) refl
  where
    go : (b : Bool) → (k == id) ≡ b → IsFront k number (put_stream id s ss)
    go true e =
        let same = eqb-true k id e in
        subst (λ i. IsFront i number (put_stream id s ss)) (sym same)
        (ap (λ (t : Stream). begun_number t.messages) (stream_put id s ss (there id number ss (subst (λ i. IsFront i number ss) same h))) ∙ keeps (subst (λ i. IsFront i number ss) same h))
    go false e = ap (λ o. begun_number (unwrap_or o (blank ss)).messages) (written_elsewhere k id s ss.entries e) ∙ h

-- a stream that is opened beside it, or is there
stream_opened : (k id number : ℕ) (ss : Streams) → IsFront k number ss → stream k (with_stream id ss) ≡ stream k ss
stream_opened k id number ss h = go (is_some (lookup (is_at (nat_cmp id)) ss.entries)) refl
  where
    open_by : Bool → Streams
    open_by b =
        let r : Streams = record ss { entries = insert_entry nat_cmp ss.entries id (blank ss) } in
        cond b ss r

    go : (b : Bool) → is_some (lookup (is_at (nat_cmp id)) ss.entries) ≡ b → stream k (open_by b) ≡ stream k ss
    go true e = refl
    go false e = pick (k == id) refl
      where
        pick : (d : Bool) → (k == id) ≡ d → stream k (open_by false) ≡ stream k ss
        pick true same = absurd (conflict (sym (there k number ss h) ∙ ap (λ i. is_some (lookup (is_at (nat_cmp i)) ss.entries)) (eqb-true k id same) ∙ e))
          where
            conflict : true ≡ false → ⊥
            conflict x = cc
        pick false other = ap (λ o. unwrap_or o (blank ss)) (inserted_elsewhere k id (blank ss) ss.entries other)

front_opened : (k id number : ℕ) (ss : Streams) → IsFront k number ss → IsFront k number (with_stream id ss)
front_opened k id number ss h = ap (λ (s : Stream). begun_number s.messages) (stream_opened k id number ss h) ∙ h

-- a stream is opened and changes
front_changed : (k id number : ℕ) (s : Stream) (ss : Streams) → IsFront k number ss → (IsFront id number ss → begun_number s.messages ≡ Some number) → IsFront k number (put_stream id s (with_stream id ss))
front_changed k id number s ss h keeps = go (k == id) refl
  where
    go : (b : Bool) → (k == id) ≡ b → IsFront k number (put_stream id s (with_stream id ss))
    go true e = front_put k id number s (with_stream id ss) (front_opened k id number ss h) (λ g. keeps (subst (λ i. IsFront i number ss) (eqb-true k id e) h))
    go false e = ap (λ o. begun_number (unwrap_or o (blank (with_stream id ss))).messages) (written_elsewhere k id s (with_stream id ss).entries e) ∙ front_opened k id number ss h

-- ---- the calls

behind : (m : Queued) (number : ℕ) (ms : List Queued) → begun_number ms ≡ Some number → begun_number (ms ++ m ∷ []) ≡ Some number
behind m number [] h = absurd (none-some number h)
behind m number (x ∷ rest) h = h

pub added_stays : (id : ℕ) (m : Queued) (q : Queue) → StaysBegun q (add id m q)
added_stays id m q k number b = record {
  begun = b.begun;
  message = front_changed k id number (push m (stream id q.streams)) q.streams b.message (λ h. behind m number (stream id q.streams).messages h);
}

pub threshold_stays : {P : Type 0} (id bytes : ℕ) (q : Queue) (emitted : Emitted P) → StaysBegun q (set_low_threshold id bytes q emitted).queue
threshold_stays id bytes q emitted k number b = record { begun = b.begun; message = front_changed k id number (with_threshold bytes (stream id q.streams)) q.streams b.message (λ h. h) }

pub priority_stays : (id priority : ℕ) (q : Queue) → StaysBegun q (set_priority id priority q)
priority_stays id priority q k number b = record { begun = b.begun; message = front_changed k id number (with_priority priority (stream id q.streams)) q.streams b.message (λ h. h) }

pub mode_stays : (is_interleaved : Bool) (q : Queue) → StaysBegun q (set_mode is_interleaved q)
mode_stays is_interleaved q k number b = record { begun = b.begun; message = b.message }

not_begun : (a b : Bool) (n number : ℕ) → b ≡ false → cond (a && b) (Some n) None ≡ Some number → ⊥
not_begun true b n number e h = none-some number (ap (λ t. cond t (Some n) None) (sym e) ∙ h)
not_begun false b n number e h = none-some number h

partly_front : (number : ℕ) (ms : List Queued) → begun_number ms ≡ Some number → begun_number (filter is_partly ms) ≡ Some number
partly_front number [] h = absurd (none-some number h)
partly_front number (m ∷ rest) h = go (is_partly m) refl
  where
    go : (b : Bool) → is_partly m ≡ b → begun_number (cond b (m ∷ filter is_partly rest) (filter is_partly rest)) ≡ Some number
    go true e = h
    go false e = absurd (not_begun (is_some m.numbers) (is_partly m) m.number number e h)

pub prepared_stays : {P : Type 0} (id : ℕ) (q : Queue) (emitted : Emitted P) → StaysBegun q (prepare_reset id q emitted).queue
prepared_stays id q emitted k number b = record { begun = b.begun; message = front_changed k id number (prepare_stream (stream id q.streams)) q.streams b.message (λ h. partly_front number (stream id q.streams).messages h) }

step_stays : (step : ResetStep) (id : ℕ) (q : Queue) → StaysBegun q (apply_reset_step step id q)
step_stays step id q k number b = record {
  begun = b.begun;
  message = front_put k id number (after_step step (stream id q.streams)) q.streams b.message (λ h. ap begun_number (step_messages step (stream id q.streams)) ∙ h);
}

pub steps_stay : (step : ResetStep) (ids : List ℕ) (q : Queue) → StaysBegun q (each_stepped step ids q)
steps_stay step [] q k number b = b
steps_stay step (id ∷ ids) q k number b = steps_stay step ids (apply_reset_step step id q) k number (step_stays step id q k number b)

-- the rest of a message is dropped
is_first : (number : ℕ) (m : Queued) (rest : List Queued) → begun_number (m ∷ rest) ≡ Some number → m.number ≡ number
is_first number m rest h = go (is_some m.numbers && nat_lt 0 m.offset) h
  where
    go : (b : Bool) → cond b (Some m.number) None ≡ Some number → m.number ≡ number
    go true h = same_Some m.number number h
    go false h = absurd (none-some number h)

others_stay : {P : Type 0} (id message k number : ℕ) (o : Option (Option ℕ)) (q : Queue) (emitted : Emitted P) → (k == id) ≡ false → IsBegun k number q → IsBegun k number (discard_from id (streams_discarded id message q.streams) o q emitted).queue
others_stay id message k number o q emitted e b = go o
  where
    s : Stream
    s = without_front message (stream id q.streams).messages (stream id q.streams)

    kept : begun_number (stream k (put_stream id s q.streams)).messages ≡ Some number
    kept = ap (λ o. begun_number (unwrap_or o (blank q.streams)).messages) (written_elsewhere k id s q.streams.entries e) ∙ b.message

    go : (o : Option (Option ℕ)) → IsBegun k number (discard_from id (streams_discarded id message q.streams) o q emitted).queue
    go None = record { begun = b.begun; message = kept }
    go (Some lifecycle) = record { begun = ap (λ x. begun_without id x) b.begun ∙ ap (λ t. cond t None (Some k)) e; message = kept }

front_stays : {P : Type 0} (id message number : ℕ) (q : Queue) (emitted : Emitted P) (m : Queued) (rest : List Queued) → (stream id q.streams).messages ≡ m ∷ rest → (m.number == message) ≡ false → IsBegun id number q
    → IsBegun id number (discard id message q emitted).queue
front_stays {P} id message number q emitted m rest is e b = subst (λ o. IsBegun id number (discard_from id ss o q emitted).queue) (sym none) (record { begun = b.begun; message = kept })
  where
    s : Stream
    s = stream id q.streams

    ss : Streams
    ss = streams_discarded id message q.streams

    none : front_discarded message s.messages ≡ None
    none = ap (λ ms. front_discarded message ms) is ∙ ap (λ t. cond t (Some m.lifecycle) None) e

    same : without_front message s.messages s ≡ s
    same = ap (λ ms. without_front message ms s) is ∙ ap (λ t. let r : Stream = record s { messages = rest; pause = pause_if_pending s.pause } in cond t r s) e

    kept : begun_number (stream id ss).messages ≡ Some number
    kept = front_put id id number (without_front message s.messages s) q.streams b.message (λ h. ap (λ (t : Stream). begun_number t.messages) same ∙ h)

pub discard_stays : {P : Type 0} (id message : ℕ) (q : Queue) (emitted : Emitted P) → OthersStayBegun id message q (discard id message q emitted).queue
discard_stays {P} id message q emitted k number b = go (k == id) refl
  where
    Goal : Type 0
    Goal = ((k ≡ id) × (number ≡ message)) ⊎ IsBegun k number (discard id message q emitted).queue

    go : (t : Bool) → (k == id) ≡ t → Goal
    go false e = inr (others_stay id message k number (front_discarded message (stream id q.streams).messages) q emitted e b)
    go true e = by_front (stream id q.streams).messages refl
      where
        same : k ≡ id
        same = eqb-true k id e

        here : IsBegun id number q
        here = subst (λ i. IsBegun i number q) same b

        by_front : (ms : List Queued) → (stream id q.streams).messages ≡ ms → Goal
        by_front [] is = absurd (none-some number (ap begun_number (sym is) ∙ here.message))
        by_front (m ∷ rest) is = by_number (m.number == message) refl
          where
            by_number : (t : Bool) → (m.number == message) ≡ t → Goal
            by_number true f = inl (same, sym (is_first number m rest (ap begun_number (sym is) ∙ here.message)) ∙ eqb-true m.number message f)
            by_number false f = inr (subst (λ i. IsBegun i number (discard id message q emitted).queue) (sym same) (front_stays id message number q emitted m rest is f here))

-- ---- a new association

pub reset_begun : (q : Queue) → (reset q).begun ≡ None
reset_begun q = refl
