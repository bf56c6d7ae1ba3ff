-- What the operations of the crates below emit: nothing of how an association stands, and no packets.
use Rattle.std.proofs.Common.{◌≡◌, ℕ, zero, suc, ◌+◌, ◌-◌, ◌&&◌, Bool, true, false, cond, not, ◌||◌, nat_lt, Option, Some, None, unwrap_or, option_map, List, [], ◌∷◌, ◌++◌, length, take, slice_get, is_some, refl, sym, ap, ◌∙◌, append_assoc, append-nil}
use Rattle.std.specs.List.{list_all}
use Rattle.std.specs.Map.{keys_of}
use Rattle.std.proofs.lemmas.List.Folds.{list_all-append}
use Rattle.std.proofs.lemmas.Bool.{and_parts, and_from}
use Rattle.sctp_chunk.specs.declared.sack.GapAckBlock.{GapAckBlock}
use Rattle.sctp_state.specs.declared.api.GivenUpCause.{GivenUpCause}
use Rattle.sctp_state.specs.declared.api.GivenUpCause.TheVariants.{Lifetime, Retransmissions, Reset, Ended}
use Rattle.sctp_state.specs.Events.{Event, SendPacket, OnConnected, OnConnectionRestarted, OnClosed, OnAborted, OnBufferedAmountLow, OnTotalBufferedAmountLow, OnLifecycleMessageDelivered, Emitted, emit_events, emit_given_up, expired_events, OnError, OnLifecycleMessageFullySent, OnLifecycleMessageMaybeExpired, OnLifecycleMessageExpired, OnLifecycleEnd}
use Rattle.sctp_tx_outstanding.specs.declared.item.MissIndication.{MissIndication}
use Rattle.sctp_tx_outstanding.specs.declared.item.MissIndication.TheVariants.{Timeout}
use Rattle.sctp_tx_outstanding.specs.Item.{Item, is_abandoned}
use Rattle.sctp_tx_outstanding.specs.OutstandingData.{Items, Discard}
use Rattle.sctp_tx_outstanding.specs.Losses.{Step, first_step, abandon_with_record, is_to_be_abandoned, loses, change_items, nack_item, nack_below, nack_all, given_up_if, expired_at, expire_below, expire_outstanding}
use Rattle.sctp_tx_outstanding.specs.Item as item
use Rattle.sctp_tx_outstanding.specs.Sack.{report_by, leaving_events, all_leaving_events, leaving, staying, reported_below, receive_sack_first, receive_sack}
use Rattle.sctp_tx_outstanding.specs.Sack as sack
use Rattle.sctp_state.specs.ThresholdWatcher.{crosses}
use Rattle.sctp_tx_queue.specs.SendQueue.{Queued, Stream, Streams, Queue, stream, watched_amount, watched_total}
use Rattle.sctp_tx_queue.specs.Produced.{Produced, Turn, is_stale, falls_low, total_falls_low, emit_expired, emit_fallen, emit_stale, when, fully_sent, production, emitted_made, emitted_of, streams_after, streams_without_stale, advance, next_fragment, turn, next_stream, idle, produce_within, produce}
use Rattle.sctp_tx_queue.specs.Settings.{Changed, set_low_threshold, with_threshold, front_discarded, streams_discarded, discard_from, discard}
use Rattle.sctp_tx.specs.RetransmissionQueue.{Sender, emitted_if}
use Rattle.sctp_tx.specs.Windows.{is_open}
use Rattle.sctp_tx.specs.Resent.{resent, may_send_new}
use Rattle.sctp_tx.specs.Sending.{Filling, QueueStep, append, queue_step_if, next_turn, offered_payload, fill, discard_all, without_discards, filled_with, fill_and_start_t3, send}
use Rattle.sctp_tx_queue.specs.Resets.{is_partly, emit_unsent, prepare_reset}
use Rattle.sctp_tx_queue.specs.Emptied.{emptied_one, emit_ended, emit_each_ended}
use Rattle.sctp_state.specs.declared.api.errors.SendError.{SendError}
use Rattle.sctp_state.specs.declared.api.errors.SendError.TheVariants.{EmptyPayload, MessageTooLarge, ShuttingDown, ResourceExhaustion as QueueFull, Memory, Failed}
use Rattle.sctp_state.specs.declared.api.ErrorKind.{ErrorKind}
use Rattle.spec_endpoint.specs.Calls.{refusal_events, lifecycle_end_events}
use Rattle.spec_endpoint.specs.Shutdown.{empty_if}

-- ---- events that say nothing of how the association stands, and are no packets

abbrev pub is_no_packet_or_status : {P : Type 0} → Event P → Bool
is_no_packet_or_status (SendPacket p) = false
is_no_packet_or_status OnConnected = false
is_no_packet_or_status OnClosed = false
is_no_packet_or_status OnConnectionRestarted = false
is_no_packet_or_status (OnAborted kind text) = false
is_no_packet_or_status e = true

-- and report no message as delivered
abbrev pub is_quiet : {P : Type 0} → Event P → Bool
is_quiet (OnLifecycleMessageDelivered id) = false
is_quiet e = is_no_packet_or_status e

-- a kind of events that has all that is emitted here, but for what was delivered
pub record Kind {P : Type 0} (kind : Event P → Bool) : Type 0 where
  pub error : (e : ErrorKind) (text : List ℕ) → kind (OnError e text) ≡ true
  pub low : (stream : ℕ) → kind (OnBufferedAmountLow stream) ≡ true
  pub total_low : kind OnTotalBufferedAmountLow ≡ true
  pub sent : (id : ℕ) → kind (OnLifecycleMessageFullySent id) ≡ true
  pub maybe_expired : (id : ℕ) → kind (OnLifecycleMessageMaybeExpired id) ≡ true
  pub expired : (id : ℕ) → kind (OnLifecycleMessageExpired id) ≡ true
  pub ends : (id : ℕ) → kind (OnLifecycleEnd id) ≡ true

no_packet_or_status_kind : {P : Type 0} → Kind (is_no_packet_or_status {P = P})
no_packet_or_status_kind = record {
  error = λ e text. refl;
  low = λ stream. refl;
  total_low = refl;
  sent = λ id. refl;
  maybe_expired = λ id. refl;
  expired = λ id. refl;
  ends = λ id. refl;
}

quiet_kind : {P : Type 0} → Kind (is_quiet {P = P})
quiet_kind = record {
  error = λ e text. refl;
  low = λ stream. refl;
  total_low = refl;
  sent = λ id. refl;
  maybe_expired = λ id. refl;
  expired = λ id. refl;
  ends = λ id. refl;
}

-- ---- emitting

-- what was emitted stands, and events of a kind behind it
pub record Emits {P : Type 0} (kind : Event P → Bool) (before after : Emitted P) : Type 0 where
  pub events : List (Event P)
  pub behind : after.events ≡ before.events ++ events
  pub all : list_all kind events ≡ true

module _ {P : Type 0} (kind : Event P → Bool) (k : Kind kind) where
  both : (es fs : List (Event P)) → list_all kind es ≡ true → list_all kind fs ≡ true → list_all kind (es ++ fs) ≡ true
  both es fs h l = list_all-append kind es fs ∙ and_from (list_all kind es) (list_all kind fs) h l

  first : (e : Event P) (es : List (Event P)) → kind e ≡ true → list_all kind es ≡ true → list_all kind (e ∷ es) ≡ true
  first e es h l = and_from (kind e) (list_all kind es) h l

  all_when : (b : Bool) (e : Event P) → kind e ≡ true → list_all kind (when b e) ≡ true
  all_when true e h = first e [] h refl
  all_when false e h = refl

  all_expiry : (l : Option ℕ) → list_all kind (expired_events l) ≡ true
  all_expiry None = refl
  all_expiry (Some id) = first (OnLifecycleMessageExpired id) (OnLifecycleEnd id ∷ []) (k.expired id) (first (OnLifecycleEnd id) [] (k.ends id) refl)

  all_fully_sent : (l : Option ℕ) → list_all kind (fully_sent l) ≡ true
  all_fully_sent None = refl
  all_fully_sent (Some id) = first (OnLifecycleMessageFullySent id) [] (k.sent id) refl

  all_production : (id : ℕ) (is_low is_total_low : Bool) (l : Option ℕ) → list_all kind (production id is_low is_total_low l) ≡ true
  all_production id is_low is_total_low l =
      both (when is_low (OnBufferedAmountLow id)) (when is_total_low OnTotalBufferedAmountLow ++ fully_sent l) (all_when is_low (OnBufferedAmountLow id) (k.low id))
      (both (when is_total_low OnTotalBufferedAmountLow) (fully_sent l) (all_when is_total_low OnTotalBufferedAmountLow k.total_low) (all_fully_sent l))

  all_ended : (l : Option ℕ) → list_all kind (lifecycle_end_events l) ≡ true
  all_ended None = refl
  all_ended (Some id) = first (OnLifecycleEnd id) [] (k.ends id) refl

  one_error : (e : ErrorKind) (text : List ℕ) → list_all kind (OnError e text ∷ []) ≡ true
  one_error e text = first (OnError e text) [] (k.error e text) refl

  all_refusal : (e : SendError) → list_all kind (refusal_events e) ≡ true
  all_refusal EmptyPayload = one_error _ _
  all_refusal (MessageTooLarge len limit) = one_error _ _
  all_refusal ShuttingDown = one_error _ _
  all_refusal QueueFull = one_error _ _
  all_refusal Memory = refl
  all_refusal Failed = refl

  nothing : (t u : Emitted P) → u.events ≡ t.events → Emits kind t u
  nothing t u e = record { events = []; behind = e ∙ sym (append-nil t.events); all = refl }

  same : (t : Emitted P) → Emits kind t t
  same t = nothing t t refl

  these : (es : List (Event P)) (t : Emitted P) → list_all kind es ≡ true → Emits kind t (emit_events es t)
  these es t h = record { events = es; behind = refl; all = h }

  given : (n : ℕ) (cause : GivenUpCause) (t : Emitted P) → Emits kind t (emit_given_up n cause t)
  given n cause t = nothing t (emit_given_up n cause t) refl

  onto : (t u v : Emitted P) → Emits kind t u → Emits kind u v → Emits kind t v
  onto t u v a b = record {
    events = a.events ++ b.events;
    behind = b.behind ∙ (ap (λ (es : List (Event P)). es ++ b.events) a.behind ∙ append_assoc t.events a.events b.events);
    all = both a.events b.events a.all b.all;
  }

  -- ---- items

  nacks_item : (b : Bool) (indication : MissIndication) (fast : Bool) (place : ℕ) (i : Item) (t : Emitted P) (x : Step P) → Emits kind t x.emitted
      → Emits kind t (cond b (abandon_with_record i.number (Retransmissions (i.sent - 1)) x) (record x { items = change_items place (item.nack indication fast) x.items; is_lossy = x.is_lossy || loses indication i })).emitted
  nacks_item true indication fast place i t x h = onto t x.emitted (emit_given_up i.number (Retransmissions (i.sent - 1)) x.emitted) h (given i.number (Retransmissions (i.sent - 1)) x.emitted)
  nacks_item false indication fast place i t x h = h

  nacks_at : (o : Option Item) (indication : MissIndication) (fast : Bool) (place : ℕ) (t : Emitted P) (x : Step P) → Emits kind t x.emitted
      → Emits kind t (unwrap_or (option_map (λ i. nack_item indication fast place i x) o) x).emitted
  nacks_at None indication fast place t x h = h
  nacks_at (Some i) indication fast place t x h = nacks_item (is_to_be_abandoned x.items.is_partial indication i) indication fast place i t x h

  nacks_below : (indication : MissIndication) (fast : Bool) (n : ℕ) (t : Emitted P) (x : Step P) → Emits kind t x.emitted → Emits kind t (nack_below indication fast n x).emitted
  nacks_below indication fast zero t x h = h
  nacks_below indication fast (suc n) t x h =
      let y : Step P = nack_below indication fast n x in
      nacks_at (slice_get y.items.kept n) indication fast n t y (nacks_below indication fast n t x h)

  pub times_out : (s : Items) (t : Emitted P) → Emits kind t (nack_all s t).emitted
  times_out s t = nacks_below Timeout false (length s.kept) t (first_step s t) (same t)

  gives_up_if : (o : Option ℕ) (t : Emitted P) (x : Step P) → Emits kind t x.emitted → Emits kind t (given_up_if o x).emitted
  gives_up_if None t x h = h
  gives_up_if (Some n) t x h = onto t x.emitted (emit_given_up n Lifetime x.emitted) h (given n Lifetime x.emitted)

  expires_below : (now n : ℕ) (t : Emitted P) (x : Step P) → Emits kind t x.emitted → Emits kind t (expire_below now n x).emitted
  expires_below now zero t x h = h
  expires_below now (suc n) t x h =
      let y : Step P = expire_below now n x in
      gives_up_if (expired_at now n y.items) t y (expires_below now n t x h)

  pub expires : (now : ℕ) (s : Items) (t : Emitted P) → Emits kind t (expire_outstanding now s t).emitted
  expires now s t = expires_below now (length s.kept) t (first_step s t) (same t)

  -- ---- the queue

  drops_if : (b : Bool) (t u v : Emitted P) → Emits kind t u → Emits kind u v → Emits kind t (cond b v t)
  drops_if true t u v h k = onto t u v h k
  drops_if false t u v h k = same t

  emits_each_expired : (now : ℕ) (ms : List Queued) (t : Emitted P) → Emits kind t (emit_expired now ms t)
  emits_each_expired now [] t = same t
  emits_each_expired now (m ∷ ms) t =
      let recorded : Emitted P = emit_given_up m.number Lifetime t in
      let said : Emitted P = emit_events (expired_events m.lifecycle) recorded in
      drops_if (is_stale now m) t said (emit_expired now ms said)
      (onto t recorded said (given m.number Lifetime t) (these (expired_events m.lifecycle) recorded (all_expiry m.lifecycle)))
      (emits_each_expired now ms said)

  emits_fallen : (id : ℕ) (before after : Streams) (t : Emitted P) → Emits kind t (emit_fallen id before after t)
  emits_fallen id before after t =
      let is_low : Bool = falls_low id before after in
      let is_total_low : Bool = total_falls_low before after in
      these (production id is_low is_total_low None) t (all_production id is_low is_total_low None)

  emits_stale : (now id : ℕ) (ss : Streams) (t : Emitted P) → Emits kind t (emit_stale now id ss t)
  emits_stale now id ss t =
      let first : Emitted P = emit_expired now (stream id ss).messages t in
      onto t first (emit_stale now id ss t) (emits_each_expired now (stream id ss).messages t) (emits_fallen id ss (streams_without_stale now id ss) first)

  makes : (id : ℕ) (is_low is_total_low : Bool) (o : Option Produced) (t : Emitted P) → Emits kind t (emitted_made id is_low is_total_low o t)
  makes id is_low is_total_low None t = same t
  makes id is_low is_total_low (Some made) t = these (production id is_low is_total_low made.lifecycle) t (all_production id is_low is_total_low made.lifecycle)

  actions : (now id size : ℕ) (q : Queue) (t : Emitted P) → Emits kind t (turn now id size q t).emitted
  actions now id size q t =
      let first : Emitted P = emit_stale now id q.streams t in
      let ss : Streams = streams_without_stale now id q.streams in
      onto t first (emitted_of id size ss first) (emits_stale now id q.streams t)
      (makes id (crosses (watched_amount (stream id ss)) (watched_amount (advance size (stream id ss)))) (crosses (watched_total ss) (watched_total (streams_after id size ss))) (next_fragment id size (stream id ss)) first)

  produces_if : (b : Bool) (t : Emitted P) (x y : Turn P) → Emits kind t x.emitted → Emits kind x.emitted y.emitted → Emits kind t (cond b x y).emitted
  produces_if true t x y h k = h
  produces_if false t x y h k = onto t x.emitted y.emitted h k

  produces_from : (o : Option ℕ) (t : Emitted P) (next : ℕ → Turn P) (x : Turn P) → ((id : ℕ) → Emits kind t (next id).emitted) → Emits kind t x.emitted
      → Emits kind t (unwrap_or (option_map next o) x).emitted
  produces_from None t next x h k = k
  produces_from (Some id) t next x h k = h id

  produces : (n now size : ℕ) (q : Queue) (t : Emitted P) → Emits kind t (produce_within n now size q t).emitted
  produces zero now size q t = same t
  produces (suc n) now size q t =
      produces_from (next_stream q) t _ (idle q t)
      (λ id. let x : Turn P = turn now id size q t in
      produces_if (is_some x.made) t x (produce_within n now size x.queue x.emitted) (actions now id size q t) (produces n now size x.queue x.emitted))
      (same t)

  makes_one : (now size : ℕ) (q : Queue) (t : Emitted P) → Emits kind t (produce now size q t).emitted
  makes_one now size q t = produces (length q.scheduler.times + 2) now size q t

  discards_from : (id : ℕ) (ss : Streams) (o : Option (Option ℕ)) (q : Queue) (t : Emitted P) → Emits kind t (discard_from id ss o q t).emitted
  discards_from id ss None q t = same t
  discards_from id ss (Some l) q t =
      let u : Emitted P = emit_events (expired_events l) t in
      onto t u (emit_fallen id q.streams ss u) (these (expired_events l) t (all_expiry l)) (emits_fallen id q.streams ss u)

  discards : (ds : List Discard) (q : Queue) (t : Emitted P) → Emits kind t (discard_all ds q t).emitted
  discards [] q t = same t
  discards (d ∷ ds) q t =
      let x : Changed P = discard d.stream d.number q t in
      onto t x.emitted (discard_all ds x.queue x.emitted).emitted
      (discards_from d.stream (streams_discarded d.stream d.number q.streams) (front_discarded d.number (stream d.stream q.streams).messages) q t)
      (discards ds x.queue x.emitted)

  pub sets_threshold : (id bytes : ℕ) (q : Queue) (t : Emitted P) → Emits kind t (set_low_threshold id bytes q t).emitted
  sets_threshold id bytes q t =
      let s : Stream = stream id q.streams in
      let is_low : Bool = crosses (watched_amount s) (watched_amount (with_threshold bytes s)) in
      these (when is_low (OnBufferedAmountLow id)) t (all_when is_low (OnBufferedAmountLow id) (k.low id))

  -- ---- fragments

  appends : (now : ℕ) (o : Option Produced) (t : Emitted P) (x : Filling P) → Emits kind t x.emitted → Emits kind t (append now o x).emitted
  appends now None t x h = h
  appends now (Some p) t x h = h

  actions_if : (b : Bool) (now : ℕ) (x : Filling P) → Emits kind x.emitted (queue_step_if b now x).filling.emitted
  actions_if true now x =
      let y : Turn P = produce now (offered_payload x.left x.sender) x.queue x.emitted in
      appends now y.made x.emitted (record x { queue = y.queue; emitted = y.emitted }) (makes_one now (offered_payload x.left x.sender) x.queue x.emitted)
  actions_if false now x = same x.emitted

  fills_if : (b : Bool) (t : Emitted P) (x y : Filling P) → Emits kind t x.emitted → Emits kind x.emitted y.emitted → Emits kind t (cond b y x).emitted
  fills_if true t x y h k = onto t x.emitted y.emitted h k
  fills_if false t x y h k = h

  fills : (n now : ℕ) (x : Filling P) → Emits kind x.emitted (fill n now x).emitted
  fills zero now x = same x.emitted
  fills (suc n) now x =
      let y : QueueStep P = next_turn now x in
      fills_if y.is_more x.emitted y.filling (fill n now y.filling) (actions_if (may_send_new x.sender && nat_lt 0 (offered_payload x.left x.sender)) now x) (fills n now y.filling)

  pub sends : (now size : ℕ) (s : Sender) (q : Queue) (t : Emitted P) → Emits kind t (send now size s q t).emitted
  sends now size s q t =
      let left : Changed P = discard_all s.outstanding.items.discards q t in
      let x : Filling P = filled_with size (without_discards s) (resent size (without_discards s)) left in
      onto t left.emitted (fill_and_start_t3 now x).emitted (discards s.outstanding.items.discards q t) (fills (suc x.left) now x)

  -- ---- resets

  waits_if : (b : Bool) (t u : Emitted P) → Emits kind t u → Emits kind t (cond b t u)
  waits_if true t u h = same t
  waits_if false t u h = h

  waits : (ms : List Queued) (t : Emitted P) → Emits kind t (emit_unsent ms t)
  waits [] t = same t
  waits (m ∷ ms) t =
      let recorded : Emitted P = emit_given_up m.number Reset t in
      let said : Emitted P = emit_events (expired_events m.lifecycle) recorded in
      let u : Emitted P = cond (is_partly m) t said in
      onto t u (emit_unsent ms u)
      (waits_if (is_partly m) t said (onto t recorded said (given m.number Reset t) (these (expired_events m.lifecycle) recorded (all_expiry m.lifecycle))))
      (waits ms u)

  pub prepares : (id : ℕ) (q : Queue) (t : Emitted P) → Emits kind t (prepare_reset id q t).emitted
  prepares id q t = waits (stream id q.streams).messages t

  -- ---- what waits where an association ends

  gives_up : (ms : List Queued) (t : Emitted P) → Emits kind t (emit_ended ms t)
  gives_up [] t = same t
  gives_up (m ∷ ms) t =
      let recorded : Emitted P = emit_given_up m.number Ended t in
      let said : Emitted P = emit_events (expired_events m.lifecycle) recorded in
      onto t said (emit_ended ms said)
      (onto t recorded said (given m.number Ended t) (these (expired_events m.lifecycle) recorded (all_expiry m.lifecycle)))
      (gives_up ms said)

  gives_each_up : (ids : List ℕ) (q : Queue) (t : Emitted P) → Emits kind t (emit_each_ended ids q t)
  gives_each_up [] q t = same t
  gives_each_up (id ∷ ids) q t =
      let u : Emitted P = emit_ended (stream id q.streams).messages t in
      onto t u (emit_each_ended ids (emptied_one id q) u) (gives_up (stream id q.streams).messages t) (gives_each_up ids (emptied_one id q) u)

  pub empties : (b : Bool) (q : Queue) (t : Emitted P) → Emits kind t (empty_if b q t).emitted
  empties true q t = gives_each_up (keys_of q.streams.entries) q t
  empties false q t = same t

  pub refuses : (e : SendError) (l : Option ℕ) (t : Emitted P) → Emits kind t (emit_events (lifecycle_end_events l ++ refusal_events e) t)
  refuses e l t = these (lifecycle_end_events l ++ refusal_events e) t (both (lifecycle_end_events l) (refusal_events e) (all_ended l) (all_refusal e))

  -- ---- reports

  module _ (delivered : (id : ℕ) → kind (OnLifecycleMessageDelivered id) ≡ true) where
    all_ending : (is_end b : Bool) (l : Option ℕ) → list_all kind (cond is_end (sack.ending b l) []) ≡ true
    all_ending false b l = refl
    all_ending true b None = refl
    all_ending true true (Some id) = first (OnLifecycleMessageMaybeExpired id) (OnLifecycleEnd id ∷ []) (k.maybe_expired id) (first (OnLifecycleEnd id) [] (k.ends id) refl)
    all_ending true false (Some id) = first (OnLifecycleMessageDelivered id) (OnLifecycleEnd id ∷ []) (delivered id) (first (OnLifecycleEnd id) [] (k.ends id) refl)

    all_reports : (is : List Item) → list_all kind (all_leaving_events is) ≡ true
    all_reports [] = refl
    all_reports (i ∷ is) = both (leaving_events i) (all_leaving_events is) (all_ending i.fragment.is_end (is_abandoned i) i.lifecycle) (all_reports is)

    received : (n : ℕ) (blocks : List GapAckBlock) (once fast : Bool) (s : Items) (t : Emitted P) → Emits kind t (receive_sack n blocks once fast s t).emitted
    received n blocks once fast s t =
        let x : Step P = receive_sack_first n blocks s t in
        let y : Step P = nack_below (report_by once n blocks s) (not fast) (reported_below blocks (staying n s)) x in
        onto t x.emitted y.emitted (these (all_leaving_events (take (leaving n s) s.kept)) t (all_reports (take (leaving n s) s.kept)))
        (nacks_below (report_by once n blocks s) (not fast) (reported_below blocks (staying n s)) x.emitted x (same x.emitted))

    pub receives : (is_valid : Bool) (n : ℕ) (blocks : List GapAckBlock) (s : Sender) (t : Emitted P) → Emits kind t (emitted_if is_valid n blocks s t)
    receives true n blocks s t = received n blocks s.windows.avoids_stalls (not (is_open n s.windows)) s.outstanding.items t
    receives false n blocks s t = same t

-- ---- lightly, and quietly

abbrev pub EmitsNoPacketOrStatus : {P : Type 0} → (before after : Emitted P) → Type 0
EmitsNoPacketOrStatus before after = Emits is_no_packet_or_status before after

abbrev pub EmitsQuietly : {P : Type 0} → (before after : Emitted P) → Type 0
EmitsQuietly before after = Emits is_quiet before after

quiet_is_no_packet_or_status : {P : Type 0} (e : Event P) → is_quiet e ≡ true → is_no_packet_or_status e ≡ true
quiet_is_no_packet_or_status (OnLifecycleMessageDelivered id) h = refl
quiet_is_no_packet_or_status e h = h

all_no_packet_or_status : {P : Type 0} (es : List (Event P)) → list_all is_quiet es ≡ true → list_all is_no_packet_or_status es ≡ true
all_no_packet_or_status [] h = refl
all_no_packet_or_status (e ∷ es) h =
    let parts = and_parts (is_quiet e) (list_all is_quiet es) h in
    and_from (is_no_packet_or_status e) (list_all is_no_packet_or_status es) (quiet_is_no_packet_or_status e parts.0) (all_no_packet_or_status es parts.1)

module _ {P : Type 0} where
  pub quiet_emits_no_packet_or_status : (t u : Emitted P) → EmitsQuietly t u → EmitsNoPacketOrStatus t u
  quiet_emits_no_packet_or_status t u q = record { events = q.events; behind = q.behind; all = all_no_packet_or_status q.events q.all }

  pub emits_same : (t : Emitted P) → EmitsNoPacketOrStatus t t
  emits_same = same is_no_packet_or_status no_packet_or_status_kind

  pub emits_all : (es : List (Event P)) (t : Emitted P) → list_all is_no_packet_or_status es ≡ true → EmitsNoPacketOrStatus t (emit_events es t)
  emits_all = these is_no_packet_or_status no_packet_or_status_kind

  pub emits_nack_all : (s : Items) (t : Emitted P) → EmitsNoPacketOrStatus t (nack_all s t).emitted
  emits_nack_all = times_out is_no_packet_or_status no_packet_or_status_kind

  pub emits_expired : (now : ℕ) (s : Items) (t : Emitted P) → EmitsNoPacketOrStatus t (expire_outstanding now s t).emitted
  emits_expired = expires is_no_packet_or_status no_packet_or_status_kind

  pub emits_sack : (is_valid : Bool) (n : ℕ) (blocks : List GapAckBlock) (s : Sender) (t : Emitted P) → EmitsNoPacketOrStatus t (emitted_if is_valid n blocks s t)
  emits_sack = receives is_no_packet_or_status no_packet_or_status_kind (λ id. refl)

  pub emits_threshold : (id bytes : ℕ) (q : Queue) (t : Emitted P) → EmitsNoPacketOrStatus t (set_low_threshold id bytes q t).emitted
  emits_threshold = sets_threshold is_no_packet_or_status no_packet_or_status_kind

  pub emits_sent : (now size : ℕ) (s : Sender) (q : Queue) (t : Emitted P) → EmitsNoPacketOrStatus t (send now size s q t).emitted
  emits_sent = sends is_no_packet_or_status no_packet_or_status_kind

  pub emits_prepared : (id : ℕ) (q : Queue) (t : Emitted P) → EmitsNoPacketOrStatus t (prepare_reset id q t).emitted
  emits_prepared = prepares is_no_packet_or_status no_packet_or_status_kind

  pub emits_emptied : (b : Bool) (q : Queue) (t : Emitted P) → EmitsNoPacketOrStatus t (empty_if b q t).emitted
  emits_emptied = empties is_no_packet_or_status no_packet_or_status_kind

  pub emits_refused : (e : SendError) (l : Option ℕ) (t : Emitted P) → EmitsNoPacketOrStatus t (emit_events (lifecycle_end_events l ++ refusal_events e) t)
  emits_refused = refuses is_no_packet_or_status no_packet_or_status_kind

  pub quiet_same : (t : Emitted P) → EmitsQuietly t t
  quiet_same = same is_quiet quiet_kind

  pub quiet_all : (es : List (Event P)) (t : Emitted P) → list_all is_quiet es ≡ true → EmitsQuietly t (emit_events es t)
  quiet_all = these is_quiet quiet_kind

  pub quiet_nack_all : (s : Items) (t : Emitted P) → EmitsQuietly t (nack_all s t).emitted
  quiet_nack_all = times_out is_quiet quiet_kind

  pub quiet_expired : (now : ℕ) (s : Items) (t : Emitted P) → EmitsQuietly t (expire_outstanding now s t).emitted
  quiet_expired = expires is_quiet quiet_kind

  pub quiet_threshold : (id bytes : ℕ) (q : Queue) (t : Emitted P) → EmitsQuietly t (set_low_threshold id bytes q t).emitted
  quiet_threshold = sets_threshold is_quiet quiet_kind

  pub quiet_sent : (now size : ℕ) (s : Sender) (q : Queue) (t : Emitted P) → EmitsQuietly t (send now size s q t).emitted
  quiet_sent = sends is_quiet quiet_kind

  pub quiet_refused : (e : SendError) (l : Option ℕ) (t : Emitted P) → EmitsQuietly t (emit_events (lifecycle_end_events l ++ refusal_events e) t)
  quiet_refused = refuses is_quiet quiet_kind
