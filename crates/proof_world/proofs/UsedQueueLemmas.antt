-- What a queue may still ask of the numbers: a sum over its messages, which no call of it lets grow but acceptance, and of which a fragment
-- takes its part.
use Rattle.std.proofs.Common.{◌≡◌, ℕ, zero, suc, ◌+◌, ◌≤◌, Bool, true, false, cond, ◌==◌, Option, Some, None, unwrap_or, option_map, is_some, List, [], ◌∷◌, ◌++◌, length, filter, Less, Equal, Greater, refl, ap, subst, sym, arith}
use Rattle.std.specs.Ordering.{nat_cmp, match_ordering}
use Rattle.std.specs.declared.cmp.Ordering.{Ordering}
use Rattle.std.specs.Map.{lookup, set_value, keys_of}
use Rattle.std.specs.BTreeMap.{is_at, insert_entry}
use Rattle.sctp_state.specs.Events.{Emitted}
use Rattle.sctp_tx_outstanding.specs.OutstandingData.{Discard}
use Rattle.sctp_tx_queue.specs.declared.send_queue.message.MessageNumbers.{MessageNumbers}
use Rattle.sctp_tx_queue.specs.declared.send_queue.stream.ResetStep.{ResetStep}
use Rattle.sctp_tx_queue.specs.declared.send_queue.stream.ResetStep.TheVariants.{Requested, Performed, Refused}
use Rattle.sctp_tx_queue.specs.SendQueue.{Queued, Stream, Streams, Entries, Queue, blank, stream, with_stream, put_stream, push, add}
use Rattle.sctp_tx_queue.specs.Produced.{Produced, Turn, is_stale, fresh, without_stale, ends, move_past, moved_front, front_numbers, front_made, next_fragment, advance, pause_if_pending, streams_without_stale, turn, next_stream, idle, produce_within, produce}
use Rattle.sctp_tx_queue.specs.Settings.{Changed, with_threshold, set_low_threshold, with_priority, set_priority, without_front, streams_discarded, front_discarded, discard_from, discard}
use Rattle.sctp_tx_queue.specs.Resets.{is_partly, prepare_stream, prepare_reset, after_step, apply_reset_step, each_stepped}
use Rattle.sctp_tx_queue.specs.Emptied.{emptied, emptied_one, each_emptied, empty}
use Rattle.sctp_tx_queue.specs.Restarted.{whole, whole_front, restart, restarted_one, each_restarted, reset}
use Rattle.sctp_tx.specs.Sending.{discard_all}

-- A message costs so much as it waits. A fragment that isn't its end takes its part of it, and the end leaves no more.
pub record IsCost (part : ℕ) (cost : Queued → ℕ) : Type 0 where
  pub at_end : (m : Queued) → part ≤ cost m
  pub before_end : (size : ℕ) (n : MessageNumbers) (m : Queued) → 1 ≤ size → ends size m ≡ false → cost (move_past size n m) + part ≤ cost m

module _ (cost : Queued → ℕ) where
  abbrev pub of_messages : List Queued → ℕ
  of_messages [] = 0
  of_messages (m ∷ ms) = cost m + of_messages ms

  abbrev pub of_entries : Entries → ℕ
  of_entries [] = 0
  of_entries (e ∷ es) = of_messages e.1.messages + of_entries es

  abbrev pub of_queue : Queue → ℕ
  of_queue q = of_entries q.streams.entries

  of_both : (ms ns : List Queued) → of_messages (ms ++ ns) ≡ of_messages ms + of_messages ns
  of_both [] ns = omega arith
  of_both (m ∷ ms) ns = omega (arith, of_both ms ns)

  -- ---- the streams when one of them changes

  written : (test : ℕ → Bool) (es : Entries) (s none : Stream) → of_messages none.messages ≡ 0
      → of_entries (set_value test es s) + of_messages (unwrap_or (lookup test es) none).messages ≤ of_entries es + of_messages s.messages
  written test [] s none h = omega (arith, h)
  written test (e ∷ es) s none h = go (test e.0) (written test es s none h)
    where
      go : (b : Bool) → of_entries (set_value test es s) + of_messages (unwrap_or (lookup test es) none).messages ≤ of_entries es + of_messages s.messages
          → of_entries (cond b ((e.0, s) ∷ es) (e ∷ set_value test es s)) + of_messages (unwrap_or (cond b (Some e.1) (lookup test es)) none).messages
          ≤ of_entries (e ∷ es) + of_messages s.messages
      go true ih = omega arith
      go false ih = omega (arith, ih)

  put : (id : ℕ) (s : Stream) (ss : Streams)
      → of_entries (put_stream id s ss).entries + of_messages (stream id ss).messages ≤ of_entries ss.entries + of_messages s.messages
  put id s ss = written (is_at (nat_cmp id)) ss.entries s (blank ss) refl

  inserted : (id : ℕ) (s : Stream) (es : Entries) → of_entries (insert_entry nat_cmp es id s) ≤ of_entries es + of_messages s.messages
  inserted id s [] = omega arith
  inserted id s (e ∷ es) = go (nat_cmp id e.0) (inserted id s es)
    where
      go : (o : Ordering) → of_entries (insert_entry nat_cmp es id s) ≤ of_entries es + of_messages s.messages
          → of_entries (match_ordering o ((id, s) ∷ e ∷ es) ((e.0, s) ∷ es) (e ∷ insert_entry nat_cmp es id s)) ≤ of_entries (e ∷ es) + of_messages s.messages
      go Less ih = omega arith
      go Equal ih = omega arith
      go Greater ih = omega (arith, ih)

  opened : (id : ℕ) (ss : Streams) → of_entries (with_stream id ss).entries ≤ of_entries ss.entries
  opened id ss = go (is_some (lookup (is_at (nat_cmp id)) ss.entries))
    where
      more : Streams
      more = record ss { entries = insert_entry nat_cmp ss.entries id (blank ss) }

      go : (b : Bool) → of_entries (cond b ss more).entries ≤ of_entries ss.entries
      go true = omega arith
      go false = omega (arith, inserted id (blank ss) ss.entries)

  put_opened : (id : ℕ) (s : Stream) (ss : Streams)
      → of_entries (put_stream id s (with_stream id ss)).entries + of_messages (stream id ss).messages ≤ of_entries ss.entries + of_messages s.messages
  put_opened id s ss = go (lookup (is_at (nat_cmp id)) ss.entries) refl
    where
      more : Streams
      more = record ss { entries = insert_entry nat_cmp ss.entries id (blank ss) }

      go : (o : Option Stream) → lookup (is_at (nat_cmp id)) ss.entries ≡ o
          → of_entries (put_stream id s (with_stream id ss)).entries + of_messages (stream id ss).messages ≤ of_entries ss.entries + of_messages s.messages
      go None e =
          let none : of_messages (stream id ss).messages ≡ 0 = ap (λ (o : Option Stream). of_messages (unwrap_or o (blank ss)).messages) e in
          omega (arith, none, put id s (with_stream id ss), opened id ss)
      go (Some v) e =
          let same : with_stream id ss ≡ ss = ap (λ (o : Option Stream). cond (is_some o) ss more) e in
          subst (λ (r : Streams). of_entries (put_stream id s r).entries + of_messages (stream id ss).messages ≤ of_entries ss.entries + of_messages s.messages)
          (sym same) (put id s ss)

  -- ---- the messages of a stream

  of_fresh : (now : ℕ) (ms : List Queued) → of_messages (fresh now ms) ≤ of_messages ms
  of_fresh now [] = omega arith
  of_fresh now (m ∷ ms) = go (is_stale now m) (of_fresh now ms)
    where
      go : (b : Bool) → of_messages (fresh now ms) ≤ of_messages ms → of_messages (cond b (fresh now ms) (m ∷ ms)) ≤ cost m + of_messages ms
      go true ih = omega (arith, ih)
      go false ih = omega arith

  of_partly : (ms : List Queued) → of_messages (filter is_partly ms) ≤ of_messages ms
  of_partly [] = omega arith
  of_partly (m ∷ ms) = go (is_partly m) (of_partly ms)
    where
      go : (b : Bool) → of_messages (filter is_partly ms) ≤ of_messages ms → of_messages (cond b (m ∷ filter is_partly ms) (filter is_partly ms)) ≤ cost m + of_messages ms
      go true ih = omega (arith, ih)
      go false ih = omega (arith, ih)

  of_without : (number : ℕ) (ms : List Queued) (s : Stream) → s.messages ≡ ms → of_messages (without_front number ms s).messages ≤ of_messages ms
  of_without number [] s e = omega (arith, ap of_messages e)
  of_without number (m ∷ ms) s e = go (m.number == number)
    where
      go : (b : Bool) → of_messages (cond b (record s { messages = ms; pause = pause_if_pending s.pause }) s).messages ≤ cost m + of_messages ms
      go true = omega arith
      go false = omega (arith, ap of_messages e)

  of_step : (step : ResetStep) (s : Stream) → of_messages (after_step step s).messages ≡ of_messages s.messages
  of_step Requested s = refl
  of_step Performed s = refl
  of_step Refused s = refl

  -- ---- calls on the queue

  pub of_added : (id : ℕ) (m : Queued) (q : Queue) → of_queue (add id m q) ≤ of_queue q + cost m
  of_added id m q =
      let s : Stream = stream id q.streams in
      omega (arith, put_opened id (push m s) q.streams, of_both s.messages (m ∷ []))

  pub of_threshold : {P : Type 0} (id bytes : ℕ) (q : Queue) (t : Emitted P) → of_queue (set_low_threshold id bytes q t).queue ≤ of_queue q
  of_threshold id bytes q t = omega (arith, put_opened id (with_threshold bytes (stream id q.streams)) q.streams)

  pub of_priority : (id priority : ℕ) (q : Queue) → of_queue (set_priority id priority q) ≤ of_queue q
  of_priority id priority q = omega (arith, put_opened id (with_priority priority (stream id q.streams)) q.streams)

  of_stepped : (step : ResetStep) (id : ℕ) (q : Queue) → of_queue (apply_reset_step step id q) ≤ of_queue q
  of_stepped step id q =
      let s : Stream = stream id q.streams in
      omega (arith, put id (after_step step s) q.streams, of_step step s)

  pub of_each_stepped : (step : ResetStep) (ids : List ℕ) (q : Queue) → of_queue (each_stepped step ids q) ≤ of_queue q
  of_each_stepped step [] q = omega arith
  of_each_stepped step (id ∷ ids) q = omega (arith, of_stepped step id q, of_each_stepped step ids (apply_reset_step step id q))

  pub of_prepared : {P : Type 0} (id : ℕ) (q : Queue) (t : Emitted P) → of_queue (prepare_reset id q t).queue ≤ of_queue q
  of_prepared id q t =
      let s : Stream = stream id q.streams in
      omega (arith, put_opened id (prepare_stream s) q.streams, of_partly s.messages)

  of_emptied : (id : ℕ) (q : Queue) → of_queue (emptied_one id q) ≤ of_queue q
  of_emptied id q = omega (arith, put id (emptied (stream id q.streams)) q.streams)

  of_each_emptied : (ids : List ℕ) (q : Queue) → of_queue (each_emptied ids q) ≤ of_queue q
  of_each_emptied [] q = omega arith
  of_each_emptied (id ∷ ids) q = omega (arith, of_emptied id q, of_each_emptied ids (emptied_one id q))

  pub of_empty : {P : Type 0} (q : Queue) (t : Emitted P) → of_queue (empty q t).queue ≤ of_queue q
  of_empty q t = of_each_emptied (keys_of q.streams.entries) q

  -- where a message that is sent from its beginning again costs no more
  module _ (again : (m : Queued) → cost (whole m) ≤ cost m) where
    of_whole : (ms : List Queued) → of_messages (whole_front ms) ≤ of_messages ms
    of_whole [] = omega arith
    of_whole (m ∷ ms) = omega (arith, again m)

    of_restarted : (id : ℕ) (q : Queue) → of_queue (restarted_one id q) ≤ of_queue q
    of_restarted id q =
        let s : Stream = stream id q.streams in
        omega (arith, put id (restart s) q.streams, of_whole s.messages)

    of_each_restarted : (ids : List ℕ) (q : Queue) → of_queue (each_restarted ids q) ≤ of_queue q
    of_each_restarted [] q = omega arith
    of_each_restarted (id ∷ ids) q = omega (arith, of_restarted id q, of_each_restarted ids (restarted_one id q))

    pub of_reset : (q : Queue) → of_queue (reset q) ≤ of_queue q
    of_reset q = of_each_restarted (keys_of q.streams.entries) q

  of_left : {P : Type 0} (id : ℕ) (ss : Streams) (o : Option (Option ℕ)) (q : Queue) (t : Emitted P) → of_queue (discard_from id ss o q t).queue ≡ of_entries ss.entries
  of_left id ss None q t = refl
  of_left id ss (Some o) q t = refl

  of_discard : {P : Type 0} (id number : ℕ) (q : Queue) (t : Emitted P) → of_queue (discard id number q t).queue ≤ of_queue q
  of_discard id number q t =
      let s : Stream = stream id q.streams in
      omega (
        arith,
        of_left id (streams_discarded id number q.streams) (front_discarded number s.messages) q t,
        put id (without_front number s.messages s) q.streams,
        of_without number s.messages s refl,
      )

  pub of_discards : {P : Type 0} (ds : List Discard) (q : Queue) (t : Emitted P) → of_queue (discard_all ds q t).queue ≤ of_queue q
  of_discards [] q t = omega arith
  of_discards {P} (d ∷ ds) q t =
      let x : Changed P = discard d.stream d.number q t in
      omega (arith, of_discard d.stream d.number q t, of_discards ds x.queue x.emitted)

  -- ---- fragments

  module _ (part : ℕ) (is : IsCost part cost) where
    abbrev pub taken : Option Produced → ℕ
    taken None = 0
    taken (Some p) = part

    of_moved : (id size : ℕ) (n : MessageNumbers) (ms : List Queued) → 1 ≤ size → of_messages (moved_front size n ms) + taken (front_made id size n ms) ≤ of_messages ms
    of_moved id size n [] some = omega arith
    of_moved id size n (m ∷ ms) some = go (ends size m) refl
      where
        go : (b : Bool) → ends size m ≡ b → of_messages (cond b ms (move_past size n m ∷ ms)) + part ≤ cost m + of_messages ms
        go true e = omega (arith, is.at_end m)
        go false e = omega (arith, is.before_end size n m some e)

    of_advanced : (id size : ℕ) (s : Stream) → 1 ≤ size → of_messages (advance size s).messages + taken (next_fragment id size s) ≤ of_messages s.messages
    of_advanced id size s some = of_moved id size (front_numbers s.messages s) s.messages some

    abbrev pub of_turn : {P : Type 0} → Turn P → ℕ
    of_turn x = of_queue x.queue + taken x.made

    turns : {P : Type 0} (now id size : ℕ) (q : Queue) (t : Emitted P) → 1 ≤ size → of_turn (turn now id size q t) ≤ of_queue q
    turns now id size q t some =
        let s : Stream = stream id q.streams in
        let ss : Streams = streams_without_stale now id q.streams in
        let r : Stream = stream id ss in
        omega (arith, put id (without_stale now s) q.streams, of_fresh now s.messages, put id (advance size r) ss, of_advanced id size r some)

    produces_if : {P : Type 0} (b : Bool) (n : ℕ) (x y : Turn P) → is_some x.made ≡ b → of_turn x ≤ n → of_turn y ≤ of_queue x.queue → of_turn (cond b x y) ≤ n
    produces_if true n x y e h k = h
    produces_if false n x y e h k = omega (arith, h, k)

    produces_from : {P : Type 0} (o : Option ℕ) (n : ℕ) (next : ℕ → Turn P) (x : Turn P) → ((id : ℕ) → of_turn (next id) ≤ n) → of_turn x ≤ n → of_turn (unwrap_or (option_map next o) x) ≤ n
    produces_from None n next x h k = k
    produces_from (Some id) n next x h k = h id

    produces : {P : Type 0} (n now size : ℕ) (q : Queue) (t : Emitted P) → 1 ≤ size → of_turn (produce_within n now size q t) ≤ of_queue q
    produces zero now size q t some = omega arith
    produces {P} (suc n) now size q t some =
        produces_from (next_stream q) (of_queue q) _ (idle q t)
        (λ id. let x : Turn P = turn now id size q t in
        produces_if (is_some x.made) (of_queue q) x (produce_within n now size x.queue x.emitted) refl (turns now id size q t some) (produces n now size x.queue x.emitted some))
        (omega arith)

    pub of_produced : {P : Type 0} (now size : ℕ) (q : Queue) (t : Emitted P) → 1 ≤ size → of_turn (produce now size q t) ≤ of_queue q
    of_produced now size q t some = produces (length q.scheduler.times + 2) now size q t some
