-- The operations of the crates below do the same whatever packets are: what they emit is mapped, and nothing else depends
-- on what was emitted.
use Rattle.std.proofs.Common.{◌≡◌, ℕ, zero, suc, ◌+◌, ◌-◌, ◌&&◌, Bool, true, false, cond, not, ◌||◌, nat_lt, Option, Some, None, unwrap_or, option_map, List, [], ◌∷◌, ◌++◌, length, take, map, slice_get, is_some, refl, sym, ap, ◌∙◌}
use Rattle.std.proofs.lemmas.List.{map-append}
use Rattle.sctp_chunk.specs.declared.sack.GapAckBlock.{GapAckBlock}
use Rattle.sctp_state.specs.declared.api.GivenUpCause.TheVariants.{Lifetime, Retransmissions}
use Rattle.sctp_state.specs.Events.{Event, OnBufferedAmountLow, OnTotalBufferedAmountLow, GivenUp, Emitted, emit_event, emit_events, emit_given_up, expired_events}
use Rattle.sctp_tx_outstanding.specs.declared.item.MissIndication.{MissIndication}
use Rattle.sctp_tx_outstanding.specs.declared.item.MissIndication.TheVariants.{Timeout}
use Rattle.sctp_tx_outstanding.specs.Item.{Item, is_abandoned}
use Rattle.sctp_tx_outstanding.specs.OutstandingData.{Items, Discard}
use Rattle.sctp_tx_outstanding.specs.Losses.{Step, first_step, abandon_with_record, is_to_be_abandoned, loses, change_items, nack_item, nack_at, nack_below, nack_all, given_up_if, expired_at, expire_at, expire_below, expire_outstanding}
use Rattle.sctp_tx_outstanding.specs.Item as item
use Rattle.sctp_tx_outstanding.specs.Sack.{report_by, leaving_events, all_leaving_events, leaving, staying, acked_by, reported_below, receive_sack_first, receive_sack}
use Rattle.sctp_tx_outstanding.specs.Sack as sack
use Rattle.sctp_state.specs.ThresholdWatcher.{crosses}
use Rattle.sctp_tx_queue.specs.SendQueue.{Queued, Stream, Streams, Queue, stream, watched_amount, watched_total}
use Rattle.sctp_tx_queue.specs.Produced.{Produced, Turn, is_stale, falls_low, total_falls_low, emit_expired, emit_fallen, emit_stale, when, fully_sent, production, emitted_made, streams_after, streams_without_stale, advance, next_fragment, turn_from, turn, next_stream, idle, produce_within, produce}
use Rattle.sctp_tx_queue.specs.Settings.{Changed, set_low_threshold, with_threshold, front_discarded, streams_discarded, discard_from, discard}
use Rattle.sctp_tx.specs.RetransmissionQueue.{Sender, step_of, handle_sack_by, sender_if, emitted_if}
use Rattle.sctp_tx.specs.Windows.{is_open}
use Rattle.sctp_tx.specs.Resent.{resent, may_send_new}
use Rattle.sctp_tx.specs.Sending.{Filling, QueueStep, append, take_turn, is_made, queue_step_if, next_turn, offered_payload, fill, discard_all, without_discards, filled_with, timed_filling, fill_and_start_t3, send}
use Rattle.proof_endpoint.specs.Mapped.{Mapping, map_event, map_emitted}

-- ---- what holds what was emitted

abbrev pub map_step : {P Q : Type 0} → Mapping P Q → Step P → Step Q
map_step f x = record { items = x.items; emitted = map_emitted f x.emitted; is_lossy = x.is_lossy }

abbrev pub map_turn : {P Q : Type 0} → Mapping P Q → Turn P → Turn Q
map_turn f x = record { queue = x.queue; emitted = map_emitted f x.emitted; made = x.made }

abbrev pub map_changed : {P Q : Type 0} → Mapping P Q → Changed P → Changed Q
map_changed f x = record { queue = x.queue; emitted = map_emitted f x.emitted }

abbrev pub map_fragments : {P Q : Type 0} → Mapping P Q → Filling P → Filling Q
map_fragments f x = record { sender = x.sender; queue = x.queue; emitted = map_emitted f x.emitted; chunks = x.chunks; left = x.left }

abbrev map_turned : {P Q : Type 0} → Mapping P Q → QueueStep P → QueueStep Q
map_turned f x = record { filling = map_fragments f x.filling; is_more = x.is_more }

-- with other events
abbrev with_events : {P : Type 0} → List GivenUp → List (Event P) → Emitted P
with_events records es = record { events = es; given_up = records }

abbrev turn_with : {P : Type 0} → Queue → Option Produced → Emitted P → Turn P
turn_with q made t = record { queue = q; emitted = t; made = made }

abbrev changed_with : {P : Type 0} → Queue → Emitted P → Changed P
changed_with q t = record { queue = q; emitted = t }

abbrev turned_with : {P : Type 0} → Bool → Filling P → QueueStep P
turned_with is_more x = record { filling = x; is_more = is_more }

pub maps_cond : {A B : Type 0} (g : A → B) (b : Bool) (x y : A) (u v : B) → u ≡ g x → v ≡ g y → cond b u v ≡ g (cond b x y)
maps_cond g true x y u v h k = h
maps_cond g false x y u v h k = k

module _ {P Q : Type 0} (f : Mapping P Q) where
  -- ---- events

  maps_both : (es fs : List (Event P)) (gs hs : List (Event Q)) → map (map_event f) es ≡ gs → map (map_event f) fs ≡ hs → map (map_event f) (es ++ fs) ≡ gs ++ hs
  maps_both es fs gs hs h k =
      map-append (map_event f) es fs
      ∙ (ap (λ (xs : List (Event Q)). xs ++ map (map_event f) fs) h ∙ ap (λ (xs : List (Event Q)). gs ++ xs) k)

  pub maps_emit_event : (e : Event P) (t : Emitted P) → emit_event (map_event f e) (map_emitted f t) ≡ map_emitted f (emit_event e t)
  maps_emit_event e t = ap (λ (es : List (Event Q)). with_events t.given_up es) (sym (map-append (map_event f) t.events (e ∷ [])))

  pub maps_emit_event_all : (es : List (Event P)) (fs : List (Event Q)) (t : Emitted P) → map (map_event f) es ≡ fs → emit_events fs (map_emitted f t) ≡ map_emitted f (emit_events es t)
  maps_emit_event_all es fs t h =
      ap (λ (xs : List (Event Q)). with_events t.given_up xs) (sym (maps_both t.events es (map (map_event f) t.events) fs refl h))

  pub maps_expiry : (l : Option ℕ) → map (map_event f) (expired_events l) ≡ expired_events l
  maps_expiry None = refl
  maps_expiry (Some id) = refl

  maps_ending : (b : Bool) (l : Option ℕ) → map (map_event f) (sack.ending b l) ≡ sack.ending b l
  maps_ending b None = refl
  maps_ending true (Some id) = refl
  maps_ending false (Some id) = refl

  maps_report : (is_end b : Bool) (l : Option ℕ) → map (map_event f) (cond is_end (sack.ending b l) []) ≡ cond is_end (sack.ending b l) []
  maps_report true b l = maps_ending b l
  maps_report false b l = refl

  maps_reports : (is : List Item) → map (map_event f) (all_leaving_events is) ≡ all_leaving_events is
  maps_reports [] = refl
  maps_reports (i ∷ is) =
      maps_both (leaving_events i) (all_leaving_events is) (leaving_events i) (all_leaving_events is) (maps_report i.fragment.is_end (is_abandoned i) i.lifecycle) (maps_reports is)

  maps_when_low : (b : Bool) (id : ℕ) → map (map_event f) (when b (OnBufferedAmountLow id)) ≡ when b (OnBufferedAmountLow id)
  maps_when_low true id = refl
  maps_when_low false id = refl

  maps_when_total : (b : Bool) → map (map_event f) (when b OnTotalBufferedAmountLow) ≡ when b OnTotalBufferedAmountLow
  maps_when_total true = refl
  maps_when_total false = refl

  maps_fully_sent : (l : Option ℕ) → map (map_event f) (fully_sent l) ≡ fully_sent l
  maps_fully_sent None = refl
  maps_fully_sent (Some id) = refl

  maps_production : (id : ℕ) (is_low is_total_low : Bool) (l : Option ℕ) → map (map_event f) (production id is_low is_total_low l) ≡ production id is_low is_total_low l
  maps_production id is_low is_total_low l =
      maps_both (when is_low (OnBufferedAmountLow id)) (when is_total_low OnTotalBufferedAmountLow ++ fully_sent l)
      (when is_low (OnBufferedAmountLow id)) (when is_total_low OnTotalBufferedAmountLow ++ fully_sent l) (maps_when_low is_low id)
      (maps_both (when is_total_low OnTotalBufferedAmountLow) (fully_sent l) (when is_total_low OnTotalBufferedAmountLow) (fully_sent l)
      (maps_when_total is_total_low) (maps_fully_sent l))

  -- ---- items

  maps_nacked : (b : Bool) (indication : MissIndication) (fast : Bool) (k : ℕ) (i : Item) (x : Step P)
      → cond b (abandon_with_record i.number (Retransmissions (i.sent - 1)) (map_step f x)) (record (map_step f x) { items = change_items k (item.nack indication fast) x.items; is_lossy = x.is_lossy || loses indication i })
      ≡ map_step f (cond b (abandon_with_record i.number (Retransmissions (i.sent - 1)) x) (record x { items = change_items k (item.nack indication fast) x.items; is_lossy = x.is_lossy || loses indication i }))
  maps_nacked true indication fast k i x = refl
  maps_nacked false indication fast k i x = refl

  maps_nack_at : (o : Option Item) (indication : MissIndication) (fast : Bool) (k : ℕ) (x : Step P)
      → unwrap_or (option_map (λ i. nack_item indication fast k i (map_step f x)) o) (map_step f x) ≡ map_step f (unwrap_or (option_map (λ i. nack_item indication fast k i x) o) x)
  maps_nack_at None indication fast k x = refl
  maps_nack_at (Some i) indication fast k x = maps_nacked (is_to_be_abandoned x.items.is_partial indication i) indication fast k i x

  maps_nack_below : (indication : MissIndication) (fast : Bool) (n : ℕ) (x : Step P) → nack_below indication fast n (map_step f x) ≡ map_step f (nack_below indication fast n x)
  maps_nack_below indication fast zero x = refl
  maps_nack_below indication fast (suc n) x =
      let y : Step P = nack_below indication fast n x in
      ap (λ (z : Step Q). nack_at indication fast n z) (maps_nack_below indication fast n x) ∙ maps_nack_at (slice_get y.items.kept n) indication fast n y

  pub maps_nack_all : (s : Items) (t : Emitted P) → nack_all s (map_emitted f t) ≡ map_step f (nack_all s t)
  maps_nack_all s t = maps_nack_below Timeout false (length s.kept) (first_step s t)

  maps_given_up_if : (o : Option ℕ) (x : Step P) → given_up_if o (map_step f x) ≡ map_step f (given_up_if o x)
  maps_given_up_if None x = refl
  maps_given_up_if (Some n) x = refl

  maps_expire_below : (now n : ℕ) (x : Step P) → expire_below now n (map_step f x) ≡ map_step f (expire_below now n x)
  maps_expire_below now zero x = refl
  maps_expire_below now (suc n) x =
      let y : Step P = expire_below now n x in
      ap (λ (z : Step Q). expire_at now n z) (maps_expire_below now n x) ∙ maps_given_up_if (expired_at now n y.items) y

  pub maps_expire : (now : ℕ) (s : Items) (t : Emitted P) → expire_outstanding now s (map_emitted f t) ≡ map_step f (expire_outstanding now s t)
  maps_expire now s t = maps_expire_below now (length s.kept) (first_step s t)

  maps_received_first : (n : ℕ) (blocks : List GapAckBlock) (s : Items) (t : Emitted P) → receive_sack_first n blocks s (map_emitted f t) ≡ map_step f (receive_sack_first n blocks s t)
  maps_received_first n blocks s t =
      let is : List Item = take (leaving n s) s.kept in
      ap (λ (u : Emitted Q). first_step (acked_by blocks (staying n s)) u) (maps_emit_event_all (all_leaving_events is) (all_leaving_events is) t (maps_reports is))

  maps_receive : (n : ℕ) (blocks : List GapAckBlock) (once fast : Bool) (s : Items) (t : Emitted P) → receive_sack n blocks once fast s (map_emitted f t) ≡ map_step f (receive_sack n blocks once fast s t)
  maps_receive n blocks once fast s t =
      let most : ℕ = reported_below blocks (staying n s) in
      ap (λ (x : Step Q). nack_below (report_by once n blocks s) (not fast) most x) (maps_received_first n blocks s t) ∙ maps_nack_below (report_by once n blocks s) (not fast) most (receive_sack_first n blocks s t)

  maps_step_of : (n : ℕ) (blocks : List GapAckBlock) (s : Sender) (t : Emitted P) → step_of n blocks s (map_emitted f t) ≡ map_step f (step_of n blocks s t)
  maps_step_of n blocks s t = maps_receive n blocks s.windows.avoids_stalls (not (is_open n s.windows)) s.outstanding.items t

  pub same_sender : (is_valid : Bool) (now n a_rwnd : ℕ) (blocks : List GapAckBlock) (s : Sender) (t : Emitted P)
      → sender_if is_valid now n a_rwnd blocks s (map_emitted f t) ≡ sender_if is_valid now n a_rwnd blocks s t
  same_sender true now n a_rwnd blocks s t = ap (λ (x : Step Q). handle_sack_by now n a_rwnd blocks s x) (maps_step_of n blocks s t)
  same_sender false now n a_rwnd blocks s t = refl

  pub maps_sack : (is_valid : Bool) (n : ℕ) (blocks : List GapAckBlock) (s : Sender) (t : Emitted P)
      → emitted_if is_valid n blocks s (map_emitted f t) ≡ map_emitted f (emitted_if is_valid n blocks s t)
  maps_sack true n blocks s t = ap (λ (x : Step Q). x.emitted) (maps_step_of n blocks s t)
  maps_sack false n blocks s t = refl

  -- ---- the queue

  maps_emit_expired : (now : ℕ) (ms : List Queued) (t : Emitted P) → emit_expired now ms (map_emitted f t) ≡ map_emitted f (emit_expired now ms t)
  maps_emit_expired now [] t = refl
  maps_emit_expired now (m ∷ ms) t =
      let recorded : Emitted P = emit_given_up m.number Lifetime t in
      let said : Emitted P = emit_events (expired_events m.lifecycle) recorded in
      maps_cond (map_emitted f) (is_stale now m) (emit_expired now ms said) t _ (map_emitted f t)
      (ap (λ (u : Emitted Q). emit_expired now ms u) (maps_emit_event_all (expired_events m.lifecycle) (expired_events m.lifecycle) recorded (maps_expiry m.lifecycle)) ∙ maps_emit_expired now ms said) refl

  maps_emit_fallen : (id : ℕ) (before after : Streams) (t : Emitted P) → emit_fallen id before after (map_emitted f t) ≡ map_emitted f (emit_fallen id before after t)
  maps_emit_fallen id before after t =
      let is_low : Bool = falls_low id before after in
      let is_total_low : Bool = total_falls_low before after in
      maps_emit_event_all (production id is_low is_total_low None) (production id is_low is_total_low None) t (maps_production id is_low is_total_low None)

  maps_emit_stale : (now id : ℕ) (ss : Streams) (t : Emitted P) → emit_stale now id ss (map_emitted f t) ≡ map_emitted f (emit_stale now id ss t)
  maps_emit_stale now id ss t =
      let after : Streams = streams_without_stale now id ss in
      ap (λ (u : Emitted Q). emit_fallen id ss after u) (maps_emit_expired now (stream id ss).messages t) ∙ maps_emit_fallen id ss after (emit_expired now (stream id ss).messages t)

  maps_made : (id : ℕ) (is_low is_total_low : Bool) (o : Option Produced) (t : Emitted P)
      → emitted_made id is_low is_total_low o (map_emitted f t) ≡ map_emitted f (emitted_made id is_low is_total_low o t)
  maps_made id is_low is_total_low None t = refl
  maps_made id is_low is_total_low (Some made) t =
      maps_emit_event_all (production id is_low is_total_low made.lifecycle) (production id is_low is_total_low made.lifecycle) t
      (maps_production id is_low is_total_low made.lifecycle)

  maps_turn_from : (id size : ℕ) (ss : Streams) (q : Queue) (t : Emitted P) → turn_from id size ss q (map_emitted f t) ≡ map_turn f (turn_from id size ss q t)
  maps_turn_from id size ss q t =
      let x : Turn P = turn_from id size ss q t in
      ap (λ (u : Emitted Q). turn_with x.queue x.made u)
      (maps_made id (crosses (watched_amount (stream id ss)) (watched_amount (advance size (stream id ss)))) (crosses (watched_total ss) (watched_total (streams_after id size ss))) (next_fragment id size (stream id ss)) t)

  maps_turn : (now id size : ℕ) (q : Queue) (t : Emitted P) → turn now id size q (map_emitted f t) ≡ map_turn f (turn now id size q t)
  maps_turn now id size q t =
      let ss : Streams = streams_without_stale now id q.streams in
      ap (λ (u : Emitted Q). turn_from id size ss q u) (maps_emit_stale now id q.streams t) ∙ maps_turn_from id size ss q (emit_stale now id q.streams t)

  maps_from : (o : Option ℕ) (next : ℕ → Turn P) (mapped : ℕ → Turn Q) (x : Turn P) → ((id : ℕ) → mapped id ≡ map_turn f (next id))
      → unwrap_or (option_map mapped o) (map_turn f x) ≡ map_turn f (unwrap_or (option_map next o) x)
  maps_from None next mapped x h = refl
  maps_from (Some id) next mapped x h = h id

  maps_produced : (n now size : ℕ) (q : Queue) (t : Emitted P) → produce_within n now size q (map_emitted f t) ≡ map_turn f (produce_within n now size q t)
  maps_produced zero now size q t = refl
  maps_produced (suc n) now size q t =
      maps_from (next_stream q) _ _ (idle q t)
      (λ id. let x : Turn P = turn now id size q t in
      ap (λ (y : Turn Q). cond (is_some y.made) y (produce_within n now size y.queue y.emitted)) (maps_turn now id size q t)
      ∙ maps_cond (map_turn f) (is_some x.made) x (produce_within n now size x.queue x.emitted) (map_turn f x) (produce_within n now size x.queue (map_emitted f x.emitted))
      refl (maps_produced n now size x.queue x.emitted))

  maps_produce : (now size : ℕ) (q : Queue) (t : Emitted P) → produce now size q (map_emitted f t) ≡ map_turn f (produce now size q t)
  maps_produce now size q t = maps_produced (length q.scheduler.times + 2) now size q t

  maps_discard_from : (id : ℕ) (ss : Streams) (o : Option (Option ℕ)) (q : Queue) (t : Emitted P)
      → discard_from id ss o q (map_emitted f t) ≡ map_changed f (discard_from id ss o q t)
  maps_discard_from id ss None q t = refl
  maps_discard_from id ss (Some l) q t =
      let x : Changed P = discard_from id ss (Some l) q t in
      let said : Emitted P = emit_events (expired_events l) t in
      ap (λ (u : Emitted Q). changed_with x.queue u)
      (ap (λ (u : Emitted Q). emit_fallen id q.streams ss u) (maps_emit_event_all (expired_events l) (expired_events l) t (maps_expiry l)) ∙ maps_emit_fallen id q.streams ss said)

  maps_discard : (id number : ℕ) (q : Queue) (t : Emitted P) → discard id number q (map_emitted f t) ≡ map_changed f (discard id number q t)
  maps_discard id number q t = maps_discard_from id (streams_discarded id number q.streams) (front_discarded number (stream id q.streams).messages) q t

  maps_discard_all : (ds : List Discard) (q : Queue) (t : Emitted P) → discard_all ds q (map_emitted f t) ≡ map_changed f (discard_all ds q t)
  maps_discard_all [] q t = refl
  maps_discard_all (d ∷ ds) q t =
      let x : Changed P = discard d.stream d.number q t in
      ap (λ (y : Changed Q). discard_all ds y.queue y.emitted) (maps_discard d.stream d.number q t) ∙ maps_discard_all ds x.queue x.emitted

  pub maps_threshold : (id bytes : ℕ) (q : Queue) (t : Emitted P) → set_low_threshold id bytes q (map_emitted f t) ≡ map_changed f (set_low_threshold id bytes q t)
  maps_threshold id bytes q t =
      let s : Stream = stream id q.streams in
      let is_low : Bool = crosses (watched_amount s) (watched_amount (with_threshold bytes s)) in
      let x : Changed P = set_low_threshold id bytes q t in
      ap (λ (u : Emitted Q). changed_with x.queue u)
      (maps_emit_event_all (when is_low (OnBufferedAmountLow id)) (when is_low (OnBufferedAmountLow id)) t (maps_when_low is_low id))

  -- ---- fragments

  maps_appended : (now : ℕ) (o : Option Produced) (x : Filling P) → append now o (map_fragments f x) ≡ map_fragments f (append now o x)
  maps_appended now None x = refl
  maps_appended now (Some p) x = refl

  maps_take_turn : (now : ℕ) (y : Turn P) (x : Filling P) → take_turn now (map_turn f y) (map_fragments f x) ≡ map_turned f (take_turn now y x)
  maps_take_turn now y x = ap (λ (z : Filling Q). turned_with (is_made y.made) z) (maps_appended now y.made (record x { queue = y.queue; emitted = y.emitted }))

  maps_turned_if : (b : Bool) (now : ℕ) (x : Filling P) → queue_step_if b now (map_fragments f x) ≡ map_turned f (queue_step_if b now x)
  maps_turned_if true now x =
      let size : ℕ = offered_payload x.left x.sender in
      ap (λ (y : Turn Q). take_turn now y (map_fragments f x)) (maps_produce now size x.queue x.emitted) ∙ maps_take_turn now (produce now size x.queue x.emitted) x
  maps_turned_if false now x = refl

  maps_fill : (n now : ℕ) (x : Filling P) → fill n now (map_fragments f x) ≡ map_fragments f (fill n now x)
  maps_fill zero now x = refl
  maps_fill (suc n) now x =
      let y : QueueStep P = next_turn now x in
      ap (λ (z : QueueStep Q). cond z.is_more (fill n now z.filling) z.filling) (maps_turned_if (may_send_new x.sender && nat_lt 0 (offered_payload x.left x.sender)) now x)
      ∙ maps_cond (map_fragments f) y.is_more (fill n now y.filling) y.filling (fill n now (map_fragments f y.filling)) (map_fragments f y.filling)
      (maps_fill n now y.filling) refl

  maps_filled : (now : ℕ) (x : Filling P) → fill_and_start_t3 now (map_fragments f x) ≡ map_fragments f (fill_and_start_t3 now x)
  maps_filled now x = ap (λ (y : Filling Q). timed_filling now y) (maps_fill (suc x.left) now x)

  pub maps_fragments_sent : (now size : ℕ) (s : Sender) (q : Queue) (t : Emitted P) → send now size s q (map_emitted f t) ≡ map_fragments f (send now size s q t)
  maps_fragments_sent now size s q t =
      let left : Changed P = discard_all s.outstanding.items.discards q t in
      let u : Sender = without_discards s in
      ap (λ (y : Changed Q). fill_and_start_t3 now (filled_with size u (resent size u) y)) (maps_discard_all s.outstanding.items.discards q t)
      ∙ maps_filled now (filled_with size u (resent size u) left)
