-- Lifecycles of messages in the queue.
use Rattle.std.proofs.Common.{◌≡◌, ℕ, zero, suc, ◌+◌, ◌≤◌, Bool, true, false, cond, ◌==◌, Option, Some, None, unwrap_or, option_map, is_some, List, [], ◌∷◌, length, filter, Less, Equal, Greater, refl, sym, ap, subst, arith}
use Rattle.std.specs.Ordering.{nat_cmp, match_ordering}
use Rattle.std.specs.declared.cmp.Ordering.{Ordering}
use Rattle.std.specs.Map.{lookup, set_value, keys_of}
use Rattle.std.specs.BTreeMap.{is_at, insert_entry}
use Rattle.sctp_state.specs.declared.api.GivenUpCause.TheVariants.{Lifetime, Reset}
use Rattle.sctp_state.specs.ThresholdWatcher.{crosses}
use Rattle.sctp_state.specs.Events.{OnBufferedAmountLow, Emitted, emit_events, emit_given_up, expired_events}
use Rattle.sctp_tx_outstanding.specs.OutstandingData.{Discard}
use Rattle.sctp_tx_queue.specs.declared.send_queue.message.MessageNumbers.{MessageNumbers}
use Rattle.sctp_tx_queue.specs.declared.send_queue.stream.ResetStep.{ResetStep}
use Rattle.sctp_tx_queue.specs.declared.send_queue.stream.ResetStep.TheVariants.{Requested, Performed, Refused}
use Rattle.sctp_tx_queue.specs.SendQueue.{Queued, Stream, Streams, Entries, Queue, blank, stream, with_stream, put_stream, push, add, watched_amount, watched_total}
use Rattle.sctp_tx_queue.specs.Produced.{Produced, Turn, is_stale, falls_low, total_falls_low, fresh, emit_expired, emit_fallen, emit_stale, without_stale, ends as is_last, move_past, moved_front, front_numbers, front_made, next_fragment, advance, pause_if_pending, when, production, emitted_made, streams_without_stale, streams_after, turn, next_stream, idle, produce_within, produce}
use Rattle.sctp_tx_queue.specs.Settings.{Changed, with_threshold, set_low_threshold, with_priority, set_priority, front_discarded, without_front, streams_discarded, discard_from, discard}
use Rattle.sctp_tx_queue.specs.Resets.{is_partly, emit_unsent, prepare_stream, prepare_reset, after_step, apply_reset_step, each_stepped}
use Rattle.sctp_tx_queue.specs.Restarted.{whole_front, restart, restarted_one, each_restarted, reset}
use Rattle.sctp_tx.specs.Sending.{discard_all}
use Rattle.proof_endpoint.specs.Lifecycles.{lifecycle_count, waiting, waiting_in, where_end}
use Rattle.proof_endpoint.proofs.SpendsLemmas.{Spends, waiting_append, ends_expiry, ends_production, ends_low, spends_nothing, spends_given_up, spends_all, spends_then, spends_within}

module _ (l : ℕ) where
  -- ---- the streams when one of them changes

  written : (test : ℕ → Bool) (es : Entries) (s none : Stream) → waiting l none.messages ≡ 0
      → waiting_in l (set_value test es s) + waiting l (unwrap_or (lookup test es) none).messages ≤ waiting_in l es + waiting l s.messages
  written test [] s none h = omega (arith, h)
  written test (e ∷ es) s none h = go (test e.0) (written test es s none h)
    where
      go : (b : Bool) → waiting_in l (set_value test es s) + waiting l (unwrap_or (lookup test es) none).messages ≤ waiting_in l es + waiting l s.messages
          → waiting_in l (cond b ((e.0, s) ∷ es) (e ∷ set_value test es s)) + waiting l (unwrap_or (cond b (Some e.1) (lookup test es)) none).messages
          ≤ waiting_in l (e ∷ es) + waiting l s.messages
      go true ih = omega arith
      go false ih = omega (arith, ih)

  pub waiting_put : (id : ℕ) (s : Stream) (ss : Streams)
      → waiting_in l (put_stream id s ss).entries + waiting l (stream id ss).messages ≤ waiting_in l ss.entries + waiting l s.messages
  waiting_put id s ss = written (is_at (nat_cmp id)) ss.entries s (blank ss) refl

  inserted : (id : ℕ) (s : Stream) (es : Entries) → waiting_in l (insert_entry nat_cmp es id s) ≤ waiting_in l es + waiting l s.messages
  inserted id s [] = omega arith
  inserted id s (e ∷ es) = go (nat_cmp id e.0) (inserted id s es)
    where
      go : (o : Ordering) → waiting_in l (insert_entry nat_cmp es id s) ≤ waiting_in l es + waiting l s.messages
          → waiting_in l (match_ordering o ((id, s) ∷ e ∷ es) ((e.0, s) ∷ es) (e ∷ insert_entry nat_cmp es id s)) ≤ waiting_in l (e ∷ es) + waiting l s.messages
      go Less ih = omega arith
      go Equal ih = omega arith
      go Greater ih = omega (arith, ih)

  waiting_opened : (id : ℕ) (ss : Streams) → waiting_in l (with_stream id ss).entries ≤ waiting_in l ss.entries
  waiting_opened id ss = go (is_some (lookup (is_at (nat_cmp id)) ss.entries))
    where
      more : Streams
      more = record ss { entries = insert_entry nat_cmp ss.entries id (blank ss) }

      go : (b : Bool) → waiting_in l (cond b ss more).entries ≤ waiting_in l ss.entries
      go true = omega arith
      go false = omega (arith, inserted id (blank ss) ss.entries)

  pub waiting_put_opened : (id : ℕ) (s : Stream) (ss : Streams)
      → waiting_in l (put_stream id s (with_stream id ss)).entries + waiting l (stream id ss).messages ≤ waiting_in l ss.entries + waiting l s.messages
  waiting_put_opened id s ss = go (lookup (is_at (nat_cmp id)) ss.entries) refl
    where
      more : Streams
      more = record ss { entries = insert_entry nat_cmp ss.entries id (blank ss) }

      go : (o : Option Stream) → lookup (is_at (nat_cmp id)) ss.entries ≡ o
          → waiting_in l (put_stream id s (with_stream id ss)).entries + waiting l (stream id ss).messages ≤ waiting_in l ss.entries + waiting l s.messages
      go None e =
          let none_waits : waiting l (stream id ss).messages ≡ 0 = ap (λ (o : Option Stream). waiting l (unwrap_or o (blank ss)).messages) e in
          omega (arith, none_waits, waiting_put id s (with_stream id ss), waiting_opened id ss)
      go (Some v) e =
          let same : with_stream id ss ≡ ss = ap (λ (o : Option Stream). cond (is_some o) ss more) e in
          subst (λ (r : Streams). waiting_in l (put_stream id s r).entries + waiting l (stream id ss).messages ≤ waiting_in l ss.entries + waiting l s.messages)
          (sym same) (waiting_put id s ss)

  -- ---- the messages of a stream

  waiting_whole : (ms : List Queued) → waiting l (whole_front ms) ≡ waiting l ms
  waiting_whole [] = refl
  waiting_whole (m ∷ ms) = refl

  waiting_step : (step : ResetStep) (s : Stream) → waiting l (after_step step s).messages ≡ waiting l s.messages
  waiting_step Requested s = refl
  waiting_step Performed s = refl
  waiting_step Refused s = refl

  -- what a fragment takes along: the end of its message
  abbrev pub made_end : Option Produced → ℕ
  made_end None = 0
  made_end (Some p) = where_end p.fragment.is_end (lifecycle_count l p.lifecycle)

  waiting_moved : (id size : ℕ) (n : MessageNumbers) (ms : List Queued)
      → waiting l (moved_front size n ms) + made_end (front_made id size n ms) ≡ waiting l ms
  waiting_moved id size n [] = refl
  waiting_moved id size n (m ∷ ms) = go (is_last size m)
    where
      go : (b : Bool) → waiting l (cond b ms (move_past size n m ∷ ms)) + where_end b (lifecycle_count l (cond b m.lifecycle None)) ≡ lifecycle_count l m.lifecycle + waiting l ms
      go true = omega arith
      go false = omega arith

  waiting_advanced : (id size : ℕ) (s : Stream) → waiting l (advance size s).messages + made_end (next_fragment id size s) ≡ waiting l s.messages
  waiting_advanced id size s = waiting_moved id size (front_numbers s.messages s) s.messages

  abbrev lost : Option (Option ℕ) → ℕ
  lost None = 0
  lost (Some o) = lifecycle_count l o

  waiting_without : (number : ℕ) (ms : List Queued) (s : Stream) → s.messages ≡ ms
      → waiting l (without_front number ms s).messages + lost (front_discarded number ms) ≤ waiting l ms
  waiting_without number [] s e = omega (arith, ap (waiting l) e)
  waiting_without number (m ∷ ms) s e = go (m.number == number)
    where
      go : (b : Bool) → waiting l (cond b (record s { messages = ms; pause = pause_if_pending s.pause }) s).messages + lost (cond b (Some m.lifecycle) None)
          ≤ lifecycle_count l m.lifecycle + waiting l ms
      go true = omega arith
      go false = omega (arith, ap (waiting l) e)

  -- ---- the queue, where nothing is emitted

  abbrev pub in_queue : Queue → ℕ
  in_queue q = waiting_in l q.streams.entries

  pub waiting_added : (id : ℕ) (m : Queued) (q : Queue) → in_queue (add id m q) ≤ in_queue q + lifecycle_count l m.lifecycle
  waiting_added id m q =
      let s : Stream = stream id q.streams in
      omega (arith, waiting_put_opened id (push m s) q.streams, waiting_append l s.messages (m ∷ []))

  pub waiting_threshold : (id bytes : ℕ) (q : Queue) → waiting_in l (put_stream id (with_threshold bytes (stream id q.streams)) (with_stream id q.streams)).entries ≤ in_queue q
  waiting_threshold id bytes q = omega (arith, waiting_put_opened id (with_threshold bytes (stream id q.streams)) q.streams)

  pub waiting_priority : (id priority : ℕ) (q : Queue) → in_queue (set_priority id priority q) ≤ in_queue q
  waiting_priority id priority q = omega (arith, waiting_put_opened id (with_priority priority (stream id q.streams)) q.streams)

  waiting_stepped : (step : ResetStep) (id : ℕ) (q : Queue) → in_queue (apply_reset_step step id q) ≤ in_queue q
  waiting_stepped step id q =
      let s : Stream = stream id q.streams in
      omega (arith, waiting_put id (after_step step s) q.streams, waiting_step step s)

  pub waiting_each_stepped : (step : ResetStep) (ids : List ℕ) (q : Queue) → in_queue (each_stepped step ids q) ≤ in_queue q
  waiting_each_stepped step [] q = omega arith
  waiting_each_stepped step (id ∷ ids) q = omega (arith, waiting_stepped step id q, waiting_each_stepped step ids (apply_reset_step step id q))

  waiting_restarted : (id : ℕ) (q : Queue) → in_queue (restarted_one id q) ≤ in_queue q
  waiting_restarted id q =
      let s : Stream = stream id q.streams in
      omega (arith, waiting_put id (restart s) q.streams, waiting_whole s.messages)

  waiting_each_restarted : (ids : List ℕ) (q : Queue) → in_queue (each_restarted ids q) ≤ in_queue q
  waiting_each_restarted [] q = omega arith
  waiting_each_restarted (id ∷ ids) q = omega (arith, waiting_restarted id q, waiting_each_restarted ids (restarted_one id q))

  pub waiting_reset : (q : Queue) → in_queue (reset q) ≤ in_queue q
  waiting_reset q = waiting_each_restarted (keys_of q.streams.entries) q

  -- ---- messages that are dropped

  module _ {P : Type 0} where
    emit_expired_spends : (now : ℕ) (ms : List Queued) (t : Emitted P) → Spends l t (emit_expired now ms t) (waiting l ms) (waiting l (fresh now ms))
    emit_expired_spends now [] t = spends_nothing l t 0 0 (omega arith)
    emit_expired_spends now (m ∷ ms) t = go (is_stale now m) (emit_expired_spends now ms said)
      where
        given_up : Emitted P
        given_up = emit_given_up m.number Lifetime t

        said : Emitted P
        said = emit_events (expired_events m.lifecycle) given_up

        go : (b : Bool) → Spends l said (emit_expired now ms said) (waiting l ms) (waiting l (fresh now ms))
            → Spends l t (cond b (emit_expired now ms said) t) (lifecycle_count l m.lifecycle + waiting l ms) (waiting l (cond b (fresh now ms) (m ∷ ms)))
        go true ih =
            let x : ℕ = lifecycle_count l m.lifecycle + waiting l ms in
            spends_then l (spends_given_up l m.number Lifetime t x x (omega arith))
            (spends_then l (spends_all l (expired_events m.lifecycle) given_up x (waiting l ms) (omega (arith, ends_expiry P l m.lifecycle))) ih)
        go false ih = spends_nothing l t (lifecycle_count l m.lifecycle + waiting l ms) (lifecycle_count l m.lifecycle + waiting l ms) (omega arith)

    emit_fallen_spends : (id : ℕ) (before after : Streams) (t : Emitted P) (x : ℕ) → Spends l t (emit_fallen id before after t) x x
    emit_fallen_spends id before after t x =
        let is_low : Bool = falls_low id before after in
        let is_total_low : Bool = total_falls_low before after in
        spends_all l (production id is_low is_total_low None) t x x (omega (arith, ends_production P l id is_low is_total_low None))

    emit_stale_spends : (now id : ℕ) (ss : Streams) (t : Emitted P) → Spends l t (emit_stale now id ss t) (waiting l (stream id ss).messages) (waiting l (fresh now (stream id ss).messages))
    emit_stale_spends now id ss t =
        let ms : List Queued = (stream id ss).messages in
        spends_then l (emit_expired_spends now ms t) (emit_fallen_spends id ss (streams_without_stale now id ss) (emit_expired now ms t) (waiting l (fresh now ms)))

    drops_waiting : (ms : List Queued) (t : Emitted P) → Spends l t (emit_unsent ms t) (waiting l ms) (waiting l (filter is_partly ms))
    drops_waiting [] t = spends_nothing l t 0 0 (omega arith)
    drops_waiting (m ∷ ms) t = go (is_partly m) (drops_waiting ms)
      where
        given_up : Emitted P
        given_up = emit_given_up m.number Reset t

        said : Emitted P
        said = emit_events (expired_events m.lifecycle) given_up

        go : (b : Bool) → ((u : Emitted P) → Spends l u (emit_unsent ms u) (waiting l ms) (waiting l (filter is_partly ms)))
            → Spends l t (emit_unsent ms (cond b t said)) (lifecycle_count l m.lifecycle + waiting l ms) (waiting l (cond b (m ∷ filter is_partly ms) (filter is_partly ms)))
        go true ih =
            spends_within l (lifecycle_count l m.lifecycle + waiting l ms) (waiting l (m ∷ filter is_partly ms)) (ih t) (omega arith)
        go false ih =
            let x : ℕ = lifecycle_count l m.lifecycle + waiting l ms in
            spends_then l (spends_given_up l m.number Reset t x x (omega arith))
            (spends_then l (spends_all l (expired_events m.lifecycle) given_up x (waiting l ms) (omega (arith, ends_expiry P l m.lifecycle))) (ih said))

    pub spends_prepared : (id : ℕ) (q : Queue) (t : Emitted P) → Spends l t (prepare_reset id q t).emitted (in_queue q) (in_queue (prepare_reset id q t).queue)
    spends_prepared id q t =
        let s : Stream = stream id q.streams in
        spends_within l (in_queue q) (in_queue (prepare_reset id q t).queue) (drops_waiting s.messages t) (omega (arith, waiting_put_opened id (prepare_stream s) q.streams))

    pub spends_threshold : (id bytes : ℕ) (q : Queue) (t : Emitted P)
        → Spends l t (set_low_threshold id bytes q t).emitted (in_queue q) (in_queue (set_low_threshold id bytes q t).queue)
    spends_threshold id bytes q t =
        let s : Stream = stream id q.streams in
        let is_low : Bool = crosses (watched_amount s) (watched_amount (with_threshold bytes s)) in
        spends_all l (when is_low (OnBufferedAmountLow id)) t (in_queue q) (in_queue (set_low_threshold id bytes q t).queue)
        (omega (arith, ends_low P l id is_low, waiting_threshold id bytes q))

    discards_from : (id : ℕ) (ss : Streams) (o : Option (Option ℕ)) (q : Queue) (t : Emitted P) → waiting_in l ss.entries + lost o ≤ in_queue q
        → Spends l t (discard_from id ss o q t).emitted (in_queue q) (in_queue (discard_from id ss o q t).queue)
    discards_from id ss None q t h = spends_nothing l t (in_queue q) (waiting_in l ss.entries) (omega (arith, h))
    discards_from id ss (Some o) q t h =
        spends_then l (spends_all l (expired_events o) t (in_queue q) (waiting_in l ss.entries) (omega (arith, h, ends_expiry P l o)))
        (emit_fallen_spends id q.streams ss (emit_events (expired_events o) t) (waiting_in l ss.entries))

    spends_discard : (id number : ℕ) (q : Queue) (t : Emitted P) → Spends l t (discard id number q t).emitted (in_queue q) (in_queue (discard id number q t).queue)
    spends_discard id number q t =
        let s : Stream = stream id q.streams in
        discards_from id (streams_discarded id number q.streams) (front_discarded number s.messages) q t
        (omega (arith, waiting_put id (without_front number s.messages s) q.streams, waiting_without number s.messages s refl))

    pub spends_discards : (ds : List Discard) (q : Queue) (t : Emitted P) → Spends l t (discard_all ds q t).emitted (in_queue q) (in_queue (discard_all ds q t).queue)
    spends_discards [] q t = spends_nothing l t (in_queue q) (in_queue q) (omega arith)
    spends_discards (d ∷ ds) q t =
        let x : Changed P = discard d.stream d.number q t in
        spends_then l (spends_discard d.stream d.number q t) (spends_discards ds x.queue x.emitted)

    -- ---- fragments

    -- after a turn: what waits, and what the fragment took along
    abbrev pub after_turn : Turn P → ℕ
    after_turn x = in_queue x.queue + made_end x.made

    makes : (id : ℕ) (is_low is_total_low : Bool) (o : Option Produced) (t : Emitted P) (x y : ℕ) → y ≤ x → Spends l t (emitted_made id is_low is_total_low o t) x y
    makes id is_low is_total_low None t x y h = spends_nothing l t x y h
    makes id is_low is_total_low (Some made) t x y h =
        spends_all l (production id is_low is_total_low made.lifecycle) t x y (omega (arith, h, ends_production P l id is_low is_total_low made.lifecycle))

    turns : (now id size : ℕ) (q : Queue) (t : Emitted P) → Spends l t (turn now id size q t).emitted (in_queue q) (after_turn (turn now id size q t))
    turns now id size q t =
        let s : Stream = stream id q.streams in
        let first : Emitted P = emit_stale now id q.streams t in
        let ss : Streams = streams_without_stale now id q.streams in
        let r : Stream = stream id ss in
        let x : Turn P = turn now id size q t in
        spends_then l (spends_within l (in_queue q) (waiting_in l ss.entries) (emit_stale_spends now id q.streams t) (omega (arith, waiting_put id (without_stale now s) q.streams)))
        (makes id (crosses (watched_amount r) (watched_amount (advance size r))) (crosses (watched_total ss) (watched_total (streams_after id size ss)))
        (next_fragment id size r) first (waiting_in l ss.entries) (after_turn x) (omega (arith, waiting_put id (advance size r) ss, waiting_advanced id size r)))

    produces_if : (b : Bool) (q : Queue) (t : Emitted P) (x y : Turn P) → Spends l t x.emitted (in_queue q) (after_turn x) → Spends l x.emitted y.emitted (in_queue x.queue) (after_turn y)
        → Spends l t (cond b x y).emitted (in_queue q) (after_turn (cond b x y))
    produces_if true q t x y h k = h
    produces_if false q t x y h k =
        spends_then l h (spends_within l (after_turn x) (after_turn y) k (omega arith))

    produces_from : (o : Option ℕ) (q : Queue) (t : Emitted P) (next : ℕ → Turn P) (x : Turn P) → ((id : ℕ) → Spends l t (next id).emitted (in_queue q) (after_turn (next id)))
        → Spends l t x.emitted (in_queue q) (after_turn x) → Spends l t (unwrap_or (option_map next o) x).emitted (in_queue q) (after_turn (unwrap_or (option_map next o) x))
    produces_from None q t next x h k = k
    produces_from (Some id) q t next x h k = h id

    produces : (n now size : ℕ) (q : Queue) (t : Emitted P) → Spends l t (produce_within n now size q t).emitted (in_queue q) (after_turn (produce_within n now size q t))
    produces zero now size q t = spends_nothing l t (in_queue q) (in_queue q + 0) (omega arith)
    produces (suc n) now size q t =
        produces_from (next_stream q) q t _ (idle q t)
        (λ id. let x : Turn P = turn now id size q t in
        produces_if (is_some x.made) q t x (produce_within n now size x.queue x.emitted) (turns now id size q t) (produces n now size x.queue x.emitted))
        (spends_nothing l t (in_queue q) (in_queue q + 0) (omega arith))

    pub spends_produced : (now size : ℕ) (q : Queue) (t : Emitted P) → Spends l t (produce now size q t).emitted (in_queue q) (after_turn (produce now size q t))
    spends_produced now size q t = produces (length q.scheduler.times + 2) now size q t
