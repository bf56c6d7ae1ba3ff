-- What the operations of the crates below emit: neither packets nor endings.
use Rattle.std.proofs.Common.{◌≡◌, ℕ, zero, suc, ◌+◌, ◌-◌, ◌&&◌, Bool, true, false, cond, not, ◌||◌, nat_lt, Option, Some, None, unwrap_or, option_map, List, [], ◌∷◌, ◌++◌, length, take, slice_get, is_some, All, refl, sym, ap, ◌∙◌, append_assoc, append-nil, arith}
use Rattle.std.specs.List.{list_all}
use Rattle.std.proofs.lemmas.List.Elements.{All-cons, All-nil, All-append}
use Rattle.std.proofs.lemmas.List.Folds.{list_all-append}
use Rattle.std.proofs.lemmas.Bool.{and_parts}
use Rattle.sctp_chunk.specs.declared.sack.GapAckBlock.{GapAckBlock}
use Rattle.sctp_state.specs.declared.api.GivenUpCause.{GivenUpCause}
use Rattle.sctp_state.specs.declared.api.GivenUpCause.TheVariants.{Lifetime, Retransmissions}
use Rattle.sctp_state.specs.declared.api.errors.SendError.{SendError}
use Rattle.sctp_state.specs.declared.api.errors.SendError.TheVariants.{EmptyPayload, MessageTooLarge, ShuttingDown, ResourceExhaustion as QueueFull, Memory, Failed}
use Rattle.sctp_state.specs.Events.{Event, SendPacket, OnClosed, OnAborted, OnBufferedAmountLow, OnTotalBufferedAmountLow, Emitted, emit_event, emit_events, emit_given_up, expired_events}
use Rattle.sctp_tx_outstanding.specs.declared.item.MissIndication.{MissIndication}
use Rattle.sctp_tx_outstanding.specs.declared.item.MissIndication.TheVariants.{Timeout}
use Rattle.sctp_tx_outstanding.specs.Item.{Item, is_abandoned}
use Rattle.sctp_tx_outstanding.specs.OutstandingData.{Items, Discard}
use Rattle.sctp_tx_outstanding.specs.Losses.{Step, first_step, abandon_with_record, is_to_be_abandoned, loses, change_items, nack_item, nack_below, nack_all, given_up_if, expired_at, expire_below, expire_outstanding}
use Rattle.sctp_tx_outstanding.specs.Item as item
use Rattle.sctp_tx_outstanding.specs.Sack.{report_by, leaving_events, all_leaving_events, leaving, staying, reported_below, receive_sack_first, receive_sack}
use Rattle.sctp_tx_outstanding.specs.Sack as sack
use Rattle.sctp_state.specs.ThresholdWatcher.{crosses}
use Rattle.sctp_tx_queue.specs.SendQueue.{Queued, Stream, Streams, Queue, stream, watched_amount, watched_total}
use Rattle.sctp_tx_queue.specs.Produced.{Produced, Turn, is_stale, falls_low, total_falls_low, emit_expired, emit_fallen, emit_stale, when, fully_sent, production, emitted_made, emitted_of, streams_after, streams_without_stale, advance, next_fragment, turn, next_stream, idle, produce_within, produce}
use Rattle.sctp_tx_queue.specs.Settings.{Changed, set_low_threshold, with_threshold, front_discarded, streams_discarded, discard_from, discard}
use Rattle.sctp_tx.specs.RetransmissionQueue.{Sender, emitted_if}
use Rattle.sctp_tx.specs.Windows.{is_open}
use Rattle.sctp_tx.specs.Resent.{resent, may_send_new}
use Rattle.sctp_tx.specs.Sending.{Filling, QueueStep, append, queue_step_if, next_turn, offered_payload, fill, discard_all, without_discards, filled_with, fill_and_start_t3, send}
use Rattle.spec_endpoint.specs.Association.{Packing}
use Rattle.spec_endpoint.specs.Laws.{IsShort, ending, endings}
use Rattle.spec_endpoint.specs.Calls.{lifecycle_end_events, refusal_events}
use Rattle.proof_endpoint.proofs.StepsLemmas.{Emits}

-- ---- events that are neither packets nor endings

abbrev pub is_quiet : {P : Type 0} → Event P → Bool
is_quiet (SendPacket p) = false
is_quiet OnClosed = false
is_quiet (OnAborted kind text) = false
is_quiet e = true

pub endings_append : {P : Type 0} (es fs : List (Event P)) → endings (es ++ fs) ≡ endings es + endings fs
endings_append [] fs = omega arith
endings_append (e ∷ es) fs = omega (arith, endings_append es fs)

quiet_ending : {P : Type 0} (e : Event P) → is_quiet e ≡ true → ending e ≡ 0
quiet_ending (SendPacket p) h = refl
quiet_ending OnClosed h = cc
quiet_ending (OnAborted kind text) h = cc
quiet_ending e h = refl

quiet_endings : {P : Type 0} (es : List (Event P)) → list_all is_quiet es ≡ true → endings es ≡ 0
quiet_endings [] h = refl
quiet_endings (e ∷ es) h =
    let both = and_parts (is_quiet e) (list_all is_quiet es) h in
    omega (arith, quiet_ending e both.0, quiet_endings es both.1)

pub quiet_expiry : (P : Type 0) (l : Option ℕ) → list_all is_quiet (expired_events {P = P} l) ≡ true
quiet_expiry P None = refl
quiet_expiry P (Some id) = refl

pub quiet_both : {P : Type 0} (es fs : List (Event P)) → list_all is_quiet es ≡ true → list_all is_quiet fs ≡ true → list_all is_quiet (es ++ fs) ≡ true
quiet_both es fs h k = list_all-append is_quiet es fs ∙ (ap (λ (b : Bool). b && list_all is_quiet fs) h ∙ k)

quiet_ended : (P : Type 0) (b : Bool) (l : Option ℕ) → list_all is_quiet (sack.ending {P = P} b l) ≡ true
quiet_ended P b None = refl
quiet_ended P true (Some id) = refl
quiet_ended P false (Some id) = refl

quiet_ended_if : (P : Type 0) (is_end b : Bool) (l : Option ℕ) → list_all is_quiet (cond is_end (sack.ending {P = P} b l) []) ≡ true
quiet_ended_if P true b l = quiet_ended P b l
quiet_ended_if P false b l = refl

quiet_reports : (P : Type 0) (is : List Item) → list_all is_quiet (all_leaving_events {P = P} is) ≡ true
quiet_reports P [] = refl
quiet_reports P (i ∷ is) = quiet_both (leaving_events i) (all_leaving_events is) (quiet_ended_if P i.fragment.is_end (is_abandoned i) i.lifecycle) (quiet_reports P is)

quiet_when : {P : Type 0} (b : Bool) (e : Event P) → is_quiet e ≡ true → list_all is_quiet (when b e) ≡ true
quiet_when true e h = ap (λ (x : Bool). x && true) h
quiet_when false e h = refl

quiet_fully_sent : (P : Type 0) (l : Option ℕ) → list_all is_quiet (fully_sent {P = P} l) ≡ true
quiet_fully_sent P None = refl
quiet_fully_sent P (Some id) = refl

quiet_production : (P : Type 0) (id : ℕ) (is_low is_total_low : Bool) (l : Option ℕ) → list_all is_quiet (production {P = P} id is_low is_total_low l) ≡ true
quiet_production P id is_low is_total_low l =
    quiet_both (when is_low (OnBufferedAmountLow id)) (when is_total_low OnTotalBufferedAmountLow ++ fully_sent l) (quiet_when is_low (OnBufferedAmountLow id) refl)
    (quiet_both (when is_total_low OnTotalBufferedAmountLow) (fully_sent l) (quiet_when is_total_low OnTotalBufferedAmountLow refl) (quiet_fully_sent P l))

-- ---- emitting

module _ {P : Type 0} (pack : Packing P) (most : ℕ) where
  quiet_one : (e : Event P) → is_quiet e ≡ true → IsShort pack most e
  quiet_one (SendPacket p) h = cc
  quiet_one e h = tt

  quiet_short : (es : List (Event P)) → list_all is_quiet es ≡ true → All (IsShort pack most) es
  quiet_short [] h = All-nil (IsShort pack most)
  quiet_short (e ∷ es) h =
      let both = and_parts (is_quiet e) (list_all is_quiet es) h in
      All-cons (IsShort pack most) e es (quiet_one e both.0) (quiet_short es both.1)

  pub emits_nothing : (t : Emitted P) → Emits pack most 0 t t
  emits_nothing t = record { events = []; behind = sym (append-nil t.events); short = All-nil (IsShort pack most); ended = refl }

  pub emits_given_up : (n : ℕ) (cause : GivenUpCause) (t : Emitted P) → Emits pack most 0 t (emit_given_up n cause t)
  emits_given_up n cause t = record { events = []; behind = sym (append-nil t.events); short = All-nil (IsShort pack most); ended = refl }

  pub emits_one : (n : ℕ) (e : Event P) (t : Emitted P) → IsShort pack most e → ending e ≡ n → Emits pack most n t (emit_event e t)
  emits_one n e t short h = record {
    events = e ∷ [];
    behind = refl;
    short = All-cons (IsShort pack most) e [] short (All-nil (IsShort pack most));
    ended = omega (arith, h);
  }

  pub emits_all : (es : List (Event P)) (t : Emitted P) → list_all is_quiet es ≡ true → Emits pack most 0 t (emit_events es t)
  emits_all es t h = record { events = es; behind = refl; short = quiet_short es h; ended = quiet_endings es h }

  pub emits_through : (n m : ℕ) (t u v : Emitted P) → Emits pack most n t u → Emits pack most m u v → Emits pack most (n + m) t v
  emits_through n m t u v a b = record {
    events = a.events ++ b.events;
    behind = b.behind ∙ (ap (λ (es : List (Event P)). es ++ b.events) a.behind ∙ append_assoc t.events a.events b.events);
    short = All-append (IsShort pack most) a.events b.events a.short b.short;
    ended = omega (arith, endings_append a.events b.events, a.ended, b.ended);
  }

  pub emits_then : (t u v : Emitted P) → Emits pack most 0 t u → Emits pack most 0 u v → Emits pack most 0 t v
  emits_then t u v a b = emits_through 0 0 t u v a b

  -- ---- items

  nacks_item : (b : Bool) (indication : MissIndication) (fast : Bool) (k : ℕ) (i : Item) (t : Emitted P) (x : Step P) → Emits pack most 0 t x.emitted
      → Emits pack most 0 t (cond b (abandon_with_record i.number (Retransmissions (i.sent - 1)) x) (record x { items = change_items k (item.nack indication fast) x.items; is_lossy = x.is_lossy || loses indication i })).emitted
  nacks_item true indication fast k i t x h = emits_then t x.emitted (emit_given_up i.number (Retransmissions (i.sent - 1)) x.emitted) h (emits_given_up i.number (Retransmissions (i.sent - 1)) x.emitted)
  nacks_item false indication fast k i t x h = h

  nacks_at : (o : Option Item) (indication : MissIndication) (fast : Bool) (k : ℕ) (t : Emitted P) (x : Step P) → Emits pack most 0 t x.emitted
      → Emits pack most 0 t (unwrap_or (option_map (λ i. nack_item indication fast k i x) o) x).emitted
  nacks_at None indication fast k t x h = h
  nacks_at (Some i) indication fast k t x h = nacks_item (is_to_be_abandoned x.items.is_partial indication i) indication fast k i t x h

  nacks_below : (indication : MissIndication) (fast : Bool) (n : ℕ) (t : Emitted P) (x : Step P) → Emits pack most 0 t x.emitted → Emits pack most 0 t (nack_below indication fast n x).emitted
  nacks_below indication fast zero t x h = h
  nacks_below indication fast (suc n) t x h =
      let y : Step P = nack_below indication fast n x in
      nacks_at (slice_get y.items.kept n) indication fast n t y (nacks_below indication fast n t x h)

  pub emits_nack_all : (s : Items) (t : Emitted P) → Emits pack most 0 t (nack_all s t).emitted
  emits_nack_all s t = nacks_below Timeout false (length s.kept) t (first_step s t) (emits_nothing t)

  gives_up_if : (o : Option ℕ) (t : Emitted P) (x : Step P) → Emits pack most 0 t x.emitted → Emits pack most 0 t (given_up_if o x).emitted
  gives_up_if None t x h = h
  gives_up_if (Some n) t x h = emits_then t x.emitted (emit_given_up n Lifetime x.emitted) h (emits_given_up n Lifetime x.emitted)

  expires_below : (now n : ℕ) (t : Emitted P) (x : Step P) → Emits pack most 0 t x.emitted → Emits pack most 0 t (expire_below now n x).emitted
  expires_below now zero t x h = h
  expires_below now (suc n) t x h =
      let y : Step P = expire_below now n x in
      gives_up_if (expired_at now n y.items) t y (expires_below now n t x h)

  pub emits_expired : (now : ℕ) (s : Items) (t : Emitted P) → Emits pack most 0 t (expire_outstanding now s t).emitted
  emits_expired now s t = expires_below now (length s.kept) t (first_step s t) (emits_nothing t)

  receives : (n : ℕ) (blocks : List GapAckBlock) (once fast : Bool) (s : Items) (t : Emitted P) → Emits pack most 0 t (receive_sack n blocks once fast s t).emitted
  receives n blocks once fast s t =
      nacks_below (report_by once n blocks s) (not fast) (reported_below blocks (staying n s)) t (receive_sack_first n blocks s t) (emits_all (all_leaving_events (take (leaving n s) s.kept)) t (quiet_reports P (take (leaving n s) s.kept)))

  pub emits_sack : (is_valid : Bool) (n : ℕ) (blocks : List GapAckBlock) (s : Sender) (t : Emitted P) → Emits pack most 0 t (emitted_if is_valid n blocks s t)
  emits_sack true n blocks s t = receives n blocks s.windows.avoids_stalls (not (is_open n s.windows)) s.outstanding.items t
  emits_sack false n blocks s t = emits_nothing t

  -- ---- the queue

  drops_if : (b : Bool) (t u v : Emitted P) → Emits pack most 0 t u → Emits pack most 0 u v → Emits pack most 0 t (cond b v t)
  drops_if true t u v h k = emits_then t u v h k
  drops_if false t u v h k = emits_nothing t

  emits_each_expired : (now : ℕ) (ms : List Queued) (t : Emitted P) → Emits pack most 0 t (emit_expired now ms t)
  emits_each_expired now [] t = emits_nothing t
  emits_each_expired now (m ∷ ms) t =
      let recorded : Emitted P = emit_given_up m.number Lifetime t in
      let said : Emitted P = emit_events (expired_events m.lifecycle) recorded in
      drops_if (is_stale now m) t said (emit_expired now ms said)
      (emits_then t recorded said (emits_given_up m.number Lifetime t) (emits_all (expired_events m.lifecycle) recorded (quiet_expiry P m.lifecycle)))
      (emits_each_expired now ms said)

  emits_fallen : (id : ℕ) (before after : Streams) (t : Emitted P) → Emits pack most 0 t (emit_fallen id before after t)
  emits_fallen id before after t =
      let is_low : Bool = falls_low id before after in
      let is_total_low : Bool = total_falls_low before after in
      emits_all (production id is_low is_total_low None) t (quiet_production P id is_low is_total_low None)

  emits_stale : (now id : ℕ) (ss : Streams) (t : Emitted P) → Emits pack most 0 t (emit_stale now id ss t)
  emits_stale now id ss t =
      let first : Emitted P = emit_expired now (stream id ss).messages t in
      emits_then t first (emit_stale now id ss t) (emits_each_expired now (stream id ss).messages t) (emits_fallen id ss (streams_without_stale now id ss) first)

  makes : (id : ℕ) (is_low is_total_low : Bool) (o : Option Produced) (t : Emitted P) → Emits pack most 0 t (emitted_made id is_low is_total_low o t)
  makes id is_low is_total_low None t = emits_nothing t
  makes id is_low is_total_low (Some made) t = emits_all (production id is_low is_total_low made.lifecycle) t (quiet_production P id is_low is_total_low made.lifecycle)

  turns : (now id size : ℕ) (q : Queue) (t : Emitted P) → Emits pack most 0 t (turn now id size q t).emitted
  turns now id size q t =
      let first : Emitted P = emit_stale now id q.streams t in
      let ss : Streams = streams_without_stale now id q.streams in
      emits_then t first (emitted_of id size ss first) (emits_stale now id q.streams t)
      (makes id (crosses (watched_amount (stream id ss)) (watched_amount (advance size (stream id ss)))) (crosses (watched_total ss) (watched_total (streams_after id size ss))) (next_fragment id size (stream id ss)) first)

  produces_if : (b : Bool) (t : Emitted P) (x y : Turn P) → Emits pack most 0 t x.emitted → Emits pack most 0 x.emitted y.emitted → Emits pack most 0 t (cond b x y).emitted
  produces_if true t x y h k = h
  produces_if false t x y h k = emits_then t x.emitted y.emitted h k

  produces_from : (o : Option ℕ) (t : Emitted P) (next : ℕ → Turn P) (x : Turn P) → ((id : ℕ) → Emits pack most 0 t (next id).emitted) → Emits pack most 0 t x.emitted
      → Emits pack most 0 t (unwrap_or (option_map next o) x).emitted
  produces_from None t next x h k = k
  produces_from (Some id) t next x h k = h id

  produces : (n now size : ℕ) (q : Queue) (t : Emitted P) → Emits pack most 0 t (produce_within n now size q t).emitted
  produces zero now size q t = emits_nothing t
  produces (suc n) now size q t =
      produces_from (next_stream q) t _ (idle q t)
      (λ id. let x : Turn P = turn now id size q t in
      produces_if (is_some x.made) t x (produce_within n now size x.queue x.emitted) (turns now id size q t) (produces n now size x.queue x.emitted))
      (emits_nothing t)

  emits_produced : (now size : ℕ) (q : Queue) (t : Emitted P) → Emits pack most 0 t (produce now size q t).emitted
  emits_produced now size q t = produces (length q.scheduler.times + 2) now size q t

  discards_from : (id : ℕ) (ss : Streams) (o : Option (Option ℕ)) (q : Queue) (t : Emitted P) → Emits pack most 0 t (discard_from id ss o q t).emitted
  discards_from id ss None q t = emits_nothing t
  discards_from id ss (Some l) q t =
      let u : Emitted P = emit_events (expired_events l) t in
      emits_then t u (emit_fallen id q.streams ss u) (emits_all (expired_events l) t (quiet_expiry P l)) (emits_fallen id q.streams ss u)

  discards : (ds : List Discard) (q : Queue) (t : Emitted P) → Emits pack most 0 t (discard_all ds q t).emitted
  discards [] q t = emits_nothing t
  discards (d ∷ ds) q t =
      let x : Changed P = discard d.stream d.number q t in
      emits_then t x.emitted (discard_all ds x.queue x.emitted).emitted
      (discards_from d.stream (streams_discarded d.stream d.number q.streams) (front_discarded d.number (stream d.stream q.streams).messages) q t)
      (discards ds x.queue x.emitted)

  pub emits_threshold : (id bytes : ℕ) (q : Queue) (t : Emitted P) → Emits pack most 0 t (set_low_threshold id bytes q t).emitted
  emits_threshold id bytes q t =
      let s : Stream = stream id q.streams in
      let is_low : Bool = crosses (watched_amount s) (watched_amount (with_threshold bytes s)) in
      emits_all (when is_low (OnBufferedAmountLow id)) t (quiet_when is_low (OnBufferedAmountLow id) refl)

  -- ---- fragments

  appends : (now : ℕ) (o : Option Produced) (t : Emitted P) (x : Filling P) → Emits pack most 0 t x.emitted → Emits pack most 0 t (append now o x).emitted
  appends now None t x h = h
  appends now (Some p) t x h = h

  turns_if : (b : Bool) (now : ℕ) (x : Filling P) → Emits pack most 0 x.emitted (queue_step_if b now x).filling.emitted
  turns_if true now x =
      let y : Turn P = produce now (offered_payload x.left x.sender) x.queue x.emitted in
      appends now y.made x.emitted (record x { queue = y.queue; emitted = y.emitted }) (emits_produced now (offered_payload x.left x.sender) x.queue x.emitted)
  turns_if false now x = emits_nothing x.emitted

  fills_if : (b : Bool) (t : Emitted P) (x y : Filling P) → Emits pack most 0 t x.emitted → Emits pack most 0 x.emitted y.emitted → Emits pack most 0 t (cond b y x).emitted
  fills_if true t x y h k = emits_then t x.emitted y.emitted h k
  fills_if false t x y h k = h

  fills : (n now : ℕ) (x : Filling P) → Emits pack most 0 x.emitted (fill n now x).emitted
  fills zero now x = emits_nothing x.emitted
  fills (suc n) now x =
      let y : QueueStep P = next_turn now x in
      fills_if y.is_more x.emitted y.filling (fill n now y.filling) (turns_if (may_send_new x.sender && nat_lt 0 (offered_payload x.left x.sender)) now x) (fills n now y.filling)

  pub emits_sent : (now size : ℕ) (s : Sender) (q : Queue) (t : Emitted P) → Emits pack most 0 t (send now size s q t).emitted
  emits_sent now size s q t =
      let left : Changed P = discard_all s.outstanding.items.discards q t in
      let x : Filling P = filled_with size (without_discards s) (resent size (without_discards s)) left in
      emits_then t left.emitted (fill_and_start_t3 now x).emitted (discards s.outstanding.items.discards q t) (fills (suc x.left) now x)

pub quiet_refusal : (P : Type 0) (e : SendError) → list_all is_quiet (refusal_events {P = P} e) ≡ true
quiet_refusal P EmptyPayload = refl
quiet_refusal P (MessageTooLarge len limit) = refl
quiet_refusal P ShuttingDown = refl
quiet_refusal P QueueFull = refl
quiet_refusal P Memory = refl
quiet_refusal P Failed = refl

pub quiet_end : (P : Type 0) (l : Option ℕ) → list_all is_quiet (lifecycle_end_events {P = P} l) ≡ true
quiet_end P None = refl
quiet_end P (Some id) = refl
