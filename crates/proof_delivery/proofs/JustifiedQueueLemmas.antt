-- What a queue knows of each message that waits it knows for good; and of a message that is dropped, because it expired or its
-- stream is to be reset, the record is right.
use Rattle.std.proofs.Common.{◌≡◌, ℕ, zero, suc, ◌+◌, ◌==◌, ◌≤◌, not, Bool, true, false, cond, Less, Equal, Greater, Option, Some, None, List, [], ◌∷◌, ◌++◌, length, filter, refl, sym, ap, subst, ◌∙◌}
use Rattle.std.specs.Prelude.{⊤, is_some, unwrap_or, option_map}
use Rattle.std.specs.List.{AllByRecursion}
use Rattle.std.specs.Map.{lookup, set_value, keys_of}
use Rattle.std.specs.Ordering.{nat_cmp, match_ordering, is_eq}
use Rattle.std.specs.declared.cmp.Ordering.{Ordering}
use Rattle.std.specs.BTreeMap.{is_at, insert_entry}
use Rattle.std.proofs.lemmas.Bool.{and_parts, leb-true}
use Rattle.sctp_state.specs.declared.api.GivenUpCause.TheVariants.{Lifetime, Reset}
use Rattle.sctp_state.specs.Events.{GivenUp, Emitted, emit_given_up, emit_events, expired_events}
use Rattle.sctp_tx_queue.specs.declared.send_queue.message.MessageNumbers.{MessageNumbers}
use Rattle.sctp_tx_queue.specs.declared.send_queue.stream.ResetStep.{ResetStep}
use Rattle.sctp_tx_queue.specs.declared.send_queue.stream.ResetStep.TheVariants.{Requested, Performed, Refused}
use Rattle.sctp_tx_queue.specs.SendQueue.{Queued, Stream, Streams, Entries, Queue, stream, with_stream, put_stream, blank, push, add, next_number}
use Rattle.sctp_tx_queue.specs.Produced.{Produced, Turn, is_expired, is_stale, fresh, emit_expired, emit_stale, without_stale, streams_without_stale, ends, move_past, moved_front, front_made, front_numbers, next_fragment, advance, emitted_made, turn, next_stream, idle, produce_within, produce, pause_if_pending}
use Rattle.sctp_tx_queue.specs.Settings.{Changed, with_threshold, with_priority, set_low_threshold, set_priority, set_mode, without_front, streams_discarded, front_discarded, discard_from, discard}
use Rattle.sctp_tx_queue.specs.Restarted.{whole_front, restart, restarted_one, each_restarted, reset}
use Rattle.sctp_tx_queue.specs.Resets.{is_partly, emit_unsent, prepare_stream, prepare_reset, after_step, apply_reset_step, each_stepped}
use Rattle.sctp_tx_outstanding.specs.OutstandingData.{Discard}
use Rattle.sctp_tx.specs.Sending.{discard_all}
use Rattle.sctp_serial.proofs.NumberLemmas.{same_at}

-- ---- lists

pub all_behind : {X : Type 0} (Q : X → Type 0) (xs ys : List X) → AllByRecursion Q xs → AllByRecursion Q ys → AllByRecursion Q (xs ++ ys)
all_behind Q [] ys h k = k
all_behind Q (x ∷ xs) ys h k = (h.0, all_behind Q xs ys h.1 k)

-- a moment that is due has come
pub due_came : (now : ℕ) (o : Option ℕ) → is_expired now o ≡ true → (moment : ℕ) × (o ≡ Some moment) × (moment ≤ now)
due_came now None e = cc
due_came now (Some moment) e = (moment, refl, leb-true moment now e)

-- ---- of each message, by its stream and number, the moment from which it is expired, and how often it may be sent again

module _ (Known : ℕ → ℕ → Option ℕ → ℕ → Type 0) where
  abbrev pub Waits : ℕ → Queued → Type 0
  Waits id m = Known id m.number m.expires m.limit

  abbrev pub AllWait : ℕ → List Queued → Type 0
  AllWait id ms = AllByRecursion (Waits id) ms

  abbrev pub Stands : ℕ × Stream → Type 0
  Stands e = AllWait e.0 e.1.messages

  abbrev pub AllStand : Entries → Type 0
  AllStand es = AllByRecursion Stands es

  -- and with the number of the next one
  pub record Holds (next : ℕ) (q : Queue) : Type 0 where
    pub stand : AllStand q.streams.entries
    pub counts : q.next_number ≡ next

  -- of what was made of one
  abbrev pub Makes : Option Produced → Type 0
  Makes None = ⊤
  Makes (Some p) = Known p.fragment.stream_id p.number p.expires p.limit

  -- ---- streams

  set_stands : (id : ℕ) (s : Stream) (es : Entries) → AllWait id s.messages → AllStand es → AllStand (set_value (is_at (nat_cmp id)) es s)
  set_stands id s [] f h = h
  set_stands id s (e ∷ es) f h = go (is_at (nat_cmp id) e.0) refl (set_stands id s es f h.1)
    where
      go : (b : Bool) → is_at (nat_cmp id) e.0 ≡ b → AllStand (set_value (is_at (nat_cmp id)) es s) → AllStand (cond b ((e.0, s) ∷ es) (e ∷ set_value (is_at (nat_cmp id)) es s))
      go true at rest = (subst (λ (k : ℕ). AllWait k s.messages) (same_at id e.0 at) f, h.1)
      go false at rest = (h.0, rest)

  insert_stands : (id : ℕ) (s : Stream) (es : Entries) → AllWait id s.messages → AllStand es → AllStand (insert_entry nat_cmp es id s)
  insert_stands id s [] f h = (f, h)
  insert_stands id s (e ∷ es) f h = go (nat_cmp id e.0) refl (insert_stands id s es f h.1)
    where
      go : (o : Ordering) → nat_cmp id e.0 ≡ o → AllStand (insert_entry nat_cmp es id s)
          → AllStand (match_ordering o ((id, s) ∷ e ∷ es) ((e.0, s) ∷ es) (e ∷ insert_entry nat_cmp es id s))
      go Less at rest = (f, h)
      go Equal at rest = (subst (λ (k : ℕ). AllWait k s.messages) (same_at id e.0 (ap is_eq at)) f, h.1)
      go Greater at rest = (h.0, rest)

  abbrev MayStand : ℕ → Option Stream → Type 0
  MayStand id None = ⊤
  MayStand id (Some s) = AllWait id s.messages

  found_stands : (id : ℕ) (es : Entries) → AllStand es → MayStand id (lookup (is_at (nat_cmp id)) es)
  found_stands id [] h = tt
  found_stands id (e ∷ es) h = go (is_at (nat_cmp id) e.0) refl (found_stands id es h.1)
    where
      go : (b : Bool) → is_at (nat_cmp id) e.0 ≡ b → MayStand id (lookup (is_at (nat_cmp id)) es) → MayStand id (cond b (Some e.1) (lookup (is_at (nat_cmp id)) es))
      go true at rest = subst (λ (k : ℕ). AllWait k e.1.messages) (sym (same_at id e.0 at)) h.0
      go false at rest = rest

  pub stream_stands : (id : ℕ) (ss : Streams) → AllStand ss.entries → AllWait id (stream id ss).messages
  stream_stands id ss h = go (lookup (is_at (nat_cmp id)) ss.entries) (found_stands id ss.entries h)
    where
      go : (o : Option Stream) → MayStand id o → AllWait id (unwrap_or o (blank ss)).messages
      go None k = tt
      go (Some s) k = k

  pub put_stands : (id : ℕ) (s : Stream) (ss : Streams) → AllWait id s.messages → AllStand ss.entries → AllStand (put_stream id s ss).entries
  put_stands id s ss f h = set_stands id s ss.entries f h

  opened_stands : (id : ℕ) (ss : Streams) → AllStand ss.entries → AllStand (with_stream id ss).entries
  opened_stands id ss h = go (is_some (lookup (is_at (nat_cmp id)) ss.entries))
    where
      go : (b : Bool) → AllStand (cond b ss (record ss { entries = insert_entry nat_cmp ss.entries id (blank ss) })).entries
      go true = h
      go false = insert_stands id (blank ss) ss.entries tt h

  put_opened : (id : ℕ) (s : Stream) (ss : Streams) → AllWait id s.messages → AllStand ss.entries → AllStand (put_stream id s (with_stream id ss)).entries
  put_opened id s ss f h = put_stands id s (with_stream id ss) f (opened_stands id ss h)

  -- ---- the messages of a stream

  fresh_waits : (id : ℕ) (now : ℕ) (ms : List Queued) → AllWait id ms → AllWait id (fresh now ms)
  fresh_waits id now [] h = h
  fresh_waits id now (m ∷ ms) h = go (is_stale now m) (fresh_waits id now ms h.1)
    where
      go : (b : Bool) → AllWait id (fresh now ms) → AllWait id (cond b (fresh now ms) (m ∷ ms))
      go true rest = rest
      go false rest = h

  moved_waits : (id : ℕ) (size : ℕ) (n : MessageNumbers) (ms : List Queued) → AllWait id ms → AllWait id (moved_front size n ms)
  moved_waits id size n [] h = h
  moved_waits id size n (m ∷ ms) h = go (ends size m)
    where
      go : (b : Bool) → AllWait id (cond b ms (move_past size n m ∷ ms))
      go true = h.1
      go false = h

  advanced_waits : (id : ℕ) (size : ℕ) (s : Stream) → AllWait id s.messages → AllWait id (advance size s).messages
  advanced_waits id size s h = moved_waits id size (front_numbers s.messages s) s.messages h

  made_known : (id size : ℕ) (n : MessageNumbers) (ms : List Queued) → AllWait id ms → Makes (front_made id size n ms)
  made_known id size n [] h = tt
  made_known id size n (m ∷ ms) h = h.0

  next_known : (id size : ℕ) (s : Stream) → AllWait id s.messages → Makes (next_fragment id size s)
  next_known id size s h = made_known id size (front_numbers s.messages s) s.messages h

  cut_waits : (id : ℕ) (number : ℕ) (ms : List Queued) (s : Stream) → AllWait id ms → AllWait id s.messages → AllWait id (without_front number ms s).messages
  cut_waits id number [] s h k = k
  cut_waits id number (m ∷ ms) s h k = go (m.number == number)
    where
      go : (b : Bool) → AllWait id (cond b (record s { messages = ms; pause = pause_if_pending s.pause }) s).messages
      go true = h.1
      go false = k

  partly_waits : (id : ℕ) (ms : List Queued) → AllWait id ms → AllWait id (filter is_partly ms)
  partly_waits id [] h = h
  partly_waits id (m ∷ ms) h = go (is_partly m) (partly_waits id ms h.1)
    where
      go : (b : Bool) → AllWait id (filter is_partly ms) → AllWait id (cond b (m ∷ filter is_partly ms) (filter is_partly ms))
      go true rest = (h.0, rest)
      go false rest = rest

  step_waits : (id : ℕ) (step : ResetStep) (s : Stream) → AllWait id s.messages → AllWait id (after_step step s).messages
  step_waits id Requested s h = h
  step_waits id Performed s h = h
  step_waits id Refused s h = h

  whole_waits : (id : ℕ) (ms : List Queued) → AllWait id ms → AllWait id (whole_front ms)
  whole_waits id [] h = h
  whole_waits id (m ∷ ms) h = h

  -- ---- calls on a queue

  module _ (next : ℕ) where
    abbrev pub H : Queue → Type 0
    H q = Holds next q

    pub holds_mode : (is_interleaved : Bool) (q : Queue) → H q → H (set_mode is_interleaved q)
    holds_mode is_interleaved q h = record { stand = h.stand; counts = h.counts }

    pub holds_priority : (id priority : ℕ) (q : Queue) → H q → H (set_priority id priority q)
    holds_priority id priority q h = record {
      stand = put_opened id (with_priority priority (stream id q.streams)) q.streams (stream_stands id q.streams h.stand) h.stand;
      counts = h.counts;
    }

    pub holds_threshold : {P : Type 0} (id bytes : ℕ) (q : Queue) (t : Emitted P) → H q → H (set_low_threshold id bytes q t).queue
    holds_threshold id bytes q t h = record {
      stand = put_opened id (with_threshold bytes (stream id q.streams)) q.streams (stream_stands id q.streams h.stand) h.stand;
      counts = h.counts;
    }

    pub holds_prepared : {P : Type 0} (id : ℕ) (q : Queue) (t : Emitted P) → H q → H (prepare_reset id q t).queue
    holds_prepared id q t h = record {
      stand = put_opened id (prepare_stream (stream id q.streams)) q.streams (partly_waits id (stream id q.streams).messages (stream_stands id q.streams h.stand)) h.stand;
      counts = h.counts;
    }

    holds_stepped : (step : ResetStep) (id : ℕ) (q : Queue) → H q → H (apply_reset_step step id q)
    holds_stepped step id q h = record {
      stand = put_stands id (after_step step (stream id q.streams)) q.streams (step_waits id step (stream id q.streams) (stream_stands id q.streams h.stand)) h.stand;
      counts = h.counts;
    }

    pub holds_each_stepped : (step : ResetStep) (ids : List ℕ) (q : Queue) → H q → H (each_stepped step ids q)
    holds_each_stepped step [] q h = h
    holds_each_stepped step (id ∷ ids) q h = holds_each_stepped step ids (apply_reset_step step id q) (holds_stepped step id q h)

    holds_restarted : (id : ℕ) (q : Queue) → H q → H (restarted_one id q)
    holds_restarted id q h = record {
      stand = put_stands id (restart (stream id q.streams)) q.streams (whole_waits id (stream id q.streams).messages (stream_stands id q.streams h.stand)) h.stand;
      counts = h.counts;
    }

    holds_each_restarted : (ids : List ℕ) (q : Queue) → H q → H (each_restarted ids q)
    holds_each_restarted [] q h = h
    holds_each_restarted (id ∷ ids) q h = holds_each_restarted ids (restarted_one id q) (holds_restarted id q h)

    pub holds_reset : (q : Queue) → H q → H (reset q)
    holds_reset q h = let k : H (each_restarted (keys_of q.streams.entries) q) = holds_each_restarted (keys_of q.streams.entries) q h in record { stand = k.stand; counts = k.counts }

    left_holds : {P : Type 0} (id : ℕ) (ss : Streams) (o : Option (Option ℕ)) (q : Queue) (t : Emitted P) → AllStand ss.entries → q.next_number ≡ next
        → H (discard_from id ss o q t).queue
    left_holds id ss None q t h e = record { stand = h; counts = e }
    left_holds id ss (Some l) q t h e = record { stand = h; counts = e }

    holds_discard : {P : Type 0} (id number : ℕ) (q : Queue) (t : Emitted P) → H q → H (discard id number q t).queue
    holds_discard id number q t h =
        let s : Stream = stream id q.streams in
        let ws : AllWait id s.messages = stream_stands id q.streams h.stand in
        left_holds id (streams_discarded id number q.streams) (front_discarded number s.messages) q t
        (put_stands id (without_front number s.messages s) q.streams (cut_waits id number s.messages s ws ws) h.stand) h.counts

    pub holds_discards : {P : Type 0} (ds : List Discard) (q : Queue) (t : Emitted P) → H q → H (discard_all ds q t).queue
    holds_discards [] q t h = h
    holds_discards (d ∷ ds) q t h =
        let x : Changed _ = discard d.stream d.number q t in
        holds_discards ds x.queue x.emitted (holds_discard d.stream d.number q t h)

  -- one more is accepted
  pub holds_added : (id next : ℕ) (m : Queued) (q : Queue) → Waits id m → Holds next q → Holds (next_number next) (add id m q)
  holds_added id next m q w h =
      let s : Stream = stream id q.streams in record {
        stand = put_opened id (push m s) q.streams (all_behind (Waits id) s.messages (m ∷ []) (stream_stands id q.streams h.stand) (w, tt)) h.stand;
        counts = ap next_number h.counts;
      }

-- a message that is known to have expired may be given up for that
module _ (Known : ℕ → ℕ → Option ℕ → ℕ → Type 0) (Right : GivenUp → Type 0) (now : ℕ)
    (expired : (id n limit moment : ℕ) → Known id n (Some moment) limit → moment ≤ now → Right (record { number = n; cause = Lifetime })) where
  pub due_right : (id n limit : ℕ) (o : Option ℕ) → Known id n o limit → is_expired now o ≡ true → Right (record { number = n; cause = Lifetime })
  due_right id n limit o k e =
      let d : (moment : ℕ) × (o ≡ Some moment) × (moment ≤ now) = due_came now o e in
      expired id n limit d.0 (subst (λ (z : Option ℕ). Known id n z limit) d.1 k) d.2

  stale_right : (id : ℕ) (m : Queued) → Waits Known id m → is_stale now m ≡ true → Right (record { number = m.number; cause = Lifetime })
  stale_right id m w e = due_right id m.number m.limit m.expires w (and_parts (not (is_some m.numbers)) (is_expired now m.expires) e).1

-- ---- what is emitted

module _ {P : Type 0} where
  left_emitted : (id : ℕ) (ss : Streams) (o : Option (Option ℕ)) (q : Queue) (t : Emitted P) → (discard_from id ss o q t).emitted.given_up ≡ t.given_up
  left_emitted id ss None q t = refl
  left_emitted id ss (Some l) q t = refl

  pub same_discards : (ds : List Discard) (q : Queue) (t : Emitted P) → (discard_all ds q t).emitted.given_up ≡ t.given_up
  same_discards [] q t = refl
  same_discards (d ∷ ds) q t =
      let x : Changed P = discard d.stream d.number q t in
      same_discards ds x.queue x.emitted ∙ left_emitted d.stream (streams_discarded d.stream d.number q.streams) (front_discarded d.number (stream d.stream q.streams).messages) q t

  module _ (Known : ℕ → ℕ → Option ℕ → ℕ → Type 0) (Right : GivenUp → Type 0) (now : ℕ)
      (expired : (id n limit moment : ℕ) → Known id n (Some moment) limit → moment ≤ now → Right (record { number = n; cause = Lifetime })) where
    abbrev pub AllRight : Emitted P → Type 0
    AllRight t = AllByRecursion Right t.given_up

    -- a stream is to be reset
    pub waits_right : (id : ℕ) → ((n limit : ℕ) (o : Option ℕ) → Known id n o limit → Right (record { number = n; cause = Reset })) → (ms : List Queued) (t : Emitted P)
        → AllWait Known id ms → AllRight t → AllRight (emit_unsent ms t)
    waits_right id cleared [] t ws h = h
    waits_right id cleared (m ∷ ms) t ws h = waits_right id cleared ms (cond (is_partly m) t said) ws.1 (go (is_partly m))
      where
        said : Emitted P
        said = emit_events (expired_events m.lifecycle) (emit_given_up m.number Reset t)

        go : (b : Bool) → AllRight (cond b t said)
        go true = h
        go false = all_behind Right t.given_up _ h (cleared m.number m.limit m.expires ws.0, tt)

    emit_expired_right : (id : ℕ) (ms : List Queued) (t : Emitted P) → AllWait Known id ms → AllRight t → AllRight (emit_expired now ms t)
    emit_expired_right id [] t ws h = h
    emit_expired_right id (m ∷ ms) t ws h = go (is_stale now m) refl (emit_expired_right id ms said ws.1)
      where
        said : Emitted P
        said = emit_events (expired_events m.lifecycle) (emit_given_up m.number Lifetime t)

        go : (b : Bool) → is_stale now m ≡ b → (AllRight said → AllRight (emit_expired now ms said)) → AllRight (cond b (emit_expired now ms said) t)
        go true e rest = rest (all_behind Right t.given_up _ h (stale_right Known Right now expired id m ws.0 e, tt))
        go false e rest = h

    emitted_made_right : (id : ℕ) (is_low is_total_low : Bool) (o : Option Produced) (t : Emitted P) → AllRight t → AllRight (emitted_made id is_low is_total_low o t)
    emitted_made_right id is_low is_total_low None t h = h
    emitted_made_right id is_low is_total_low (Some made) t h = h

    module _ (next : ℕ) where
      -- after a turn: the queue, what it made, and what was emitted
      pub record Turns (x : Turn P) : Type 0 where
        pub holds : Holds Known next x.queue
        pub made : Makes Known x.made
        pub right : AllRight x.emitted

      turns : (id size : ℕ) (q : Queue) (t : Emitted P) → Holds Known next q → AllRight t → Turns (turn now id size q t)
      turns id size q t h k =
          let s : Stream = stream id q.streams in
          let ws : AllWait Known id s.messages = stream_stands Known id q.streams h.stand in
          let ss : Streams = streams_without_stale now id q.streams in
          let first : AllStand Known ss.entries = put_stands Known id (without_stale now s) q.streams (fresh_waits Known id now s.messages ws) h.stand in
          let r : Stream = stream id ss in
          let rs : AllWait Known id r.messages = stream_stands Known id ss first in
          record {
            holds = record { stand = put_stands Known id (advance size r) ss (advanced_waits Known id size r rs) first; counts = h.counts };
            made = next_known Known id size r rs;
            right = emitted_made_right id _ _ (next_fragment id size r) (emit_stale now id q.streams t) (emit_expired_right id s.messages t ws k);
          }

      turns_if : (b : Bool) (x y : Turn P) → Turns x → Turns y → Turns (cond b x y)
      turns_if true x y h k = h
      turns_if false x y h k = k

      turns_from : (o : Option ℕ) (f : ℕ → Turn P) (x : Turn P) → ((id : ℕ) → Turns (f id)) → Turns x → Turns (unwrap_or (option_map f o) x)
      turns_from None f x h k = k
      turns_from (Some id) f x h k = h id

      within : (n size : ℕ) (q : Queue) (t : Emitted P) → Holds Known next q → AllRight t → Turns (produce_within n now size q t)
      within zero size q t h k = record { holds = h; made = tt; right = k }
      within (suc n) size q t h k =
          turns_from (next_stream q) _ (idle q t)
          (λ id. let x : Turn P = turn now id size q t in
          let y : Turns x = turns id size q t h k in
          turns_if (is_some x.made) x (produce_within n now size x.queue x.emitted) y (within n size x.queue x.emitted y.holds y.right))
          (record { holds = h; made = tt; right = k })

      pub produces : (size : ℕ) (q : Queue) (t : Emitted P) → Holds Known next q → AllRight t → Turns (produce now size q t)
      produces size q t h k = within (length q.scheduler.times + 2) size q t h k
