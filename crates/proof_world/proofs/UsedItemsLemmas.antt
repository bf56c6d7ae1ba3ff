-- How many numbers a sender has given: what comes of its items gives none, but that each message that is given up may take one more; and a packet
-- gives one to each fragment that it takes of the queue.
use Rattle.std.proofs.Common.{◌≡◌, ℕ, zero, suc, ◌+◌, ◌-◌, min, ◌≤◌, ◌<◌, ◌&&◌, ◌||◌, not, nat_lt, nat_le, Bool, true, false, cond, Option, Some, None, unwrap_or, option_map, is_some, List, [], ◌∷◌, ◌++◌, length, slice_get, refl, ap, ◌∙◌, arith}
use Rattle.std.specs.Map.{keys_of}
use Rattle.std.proofs.lemmas.List.{length-append, length-drop, length-map}
use Rattle.std.proofs.lemmas.Bool.{and_parts, leb-true, ltb-true}
use Rattle.sctp_chunk.specs.declared.sack.GapAckBlock.{GapAckBlock}
use Rattle.sctp_packet.specs.Chunk.{FragmentTree}
use Rattle.sctp_state.specs.declared.api.GivenUpCause.{GivenUpCause}
use Rattle.sctp_state.specs.declared.api.GivenUpCause.TheVariants.{Lifetime, Retransmissions, Reset, Ended}
use Rattle.sctp_state.specs.Events.{Emitted, emit_events, emit_given_up, expired_events}
use Rattle.sctp_state.specs.ThresholdWatcher.{crosses}
use Rattle.sctp_tx_outstanding.specs.declared.item.MissIndication.{MissIndication}
use Rattle.sctp_tx_outstanding.specs.declared.item.MissIndication.TheVariants.{Timeout}
use Rattle.sctp_tx_outstanding.specs.Item.{Item, is_fast, should_be_retransmitted, mark_as_retransmitted, miss_fast}
use Rattle.sctp_tx_outstanding.specs.Item as item
use Rattle.sctp_tx_outstanding.specs.OutstandingData.{Items, Discard, next_number, change_at, abandon_if_of, last_of}
use Rattle.sctp_tx_outstanding.specs.Losses.{placeholder, placeholders, abandon_message, Step, abandon_with_record, change_items, loses, is_to_be_abandoned, nack_item, nack_below, nack_all, first_step, expired_at, given_up_if, expire_below, expire_outstanding}
use Rattle.sctp_tx_outstanding.specs.Resending.{Resent, size_in, again_of, allowance, fast_turn, queued_turn, turn_of, apply_turn, resent_below, empty_packet}
use Rattle.sctp_tx_outstanding.specs.Sack.{report_by, is_valid, bound, highest_end, leaving, staying, ack_or_uncover_all, reported_below, receive_sack_first}
use Rattle.sctp_tx_queue.specs.SendQueue.{Queued, Queue}
use Rattle.sctp_tx_queue.specs.Produced as queued
use Rattle.sctp_tx_queue.specs.Produced.{is_stale, emit_expired, emit_stale, emitted_made, turn, next_stream, idle, produce_within, produce}
use Rattle.sctp_tx_queue.specs.Emptied.{emptied_one, emit_ended, emit_each_ended, empty}
use Rattle.sctp_tx_queue.specs.Resets.{is_partly, emit_unsent}
use Rattle.sctp_tx_queue.specs.Settings.{Changed, discard_from, discard, front_discarded, streams_discarded}
use Rattle.sctp_tx.specs.Windows.{is_open}
use Rattle.sctp_tx.specs.RetransmissionQueue.{Sender, sender_if, emitted_if}
use Rattle.sctp_tx.specs.Resent.{flight, resent_by, resent, resent_fast, start_t3_if, send_fast}
use Rattle.sctp_tx.specs.Sending.{discard_all}
use Rattle.sctp_tx_queue.specs.SendQueue as queues

-- ---- records only come

module _ {P : Type 0} where
  abbrev pub count : Emitted P → ℕ
  count t = length t.given_up

  one_record : (n : ℕ) (cause : GivenUpCause) (t : Emitted P) → count (emit_given_up n cause t) ≡ count t + 1
  one_record n cause t = length-append t.given_up (record { number = n; cause = cause } ∷ [])

  expired_grow : (now : ℕ) (ms : List Queued) (t : Emitted P) → count t ≤ count (emit_expired now ms t)
  expired_grow now [] t = omega arith
  expired_grow now (m ∷ ms) t = go (is_stale now m) (expired_grow now ms said)
    where
      said : Emitted P
      said = emit_events (expired_events m.lifecycle) (emit_given_up m.number Lifetime t)

      go : (b : Bool) → count said ≤ count (emit_expired now ms said) → count t ≤ count (cond b (emit_expired now ms said) t)
      go true ih = omega (arith, ih, one_record m.number Lifetime t)
      go false ih = omega arith

  pub unsent_grow : (ms : List Queued) (t : Emitted P) → count t ≤ count (emit_unsent ms t)
  unsent_grow [] t = omega arith
  unsent_grow (m ∷ ms) t = go (is_partly m) (λ u. unsent_grow ms u)
    where
      said : Emitted P
      said = emit_events (expired_events m.lifecycle) (emit_given_up m.number Reset t)

      go : (b : Bool) → ((u : Emitted P) → count u ≤ count (emit_unsent ms u)) → count t ≤ count (emit_unsent ms (cond b t said))
      go true ih = ih t
      go false ih = omega (arith, ih said, one_record m.number Reset t)

  ended_grow : (ms : List Queued) (t : Emitted P) → count t ≤ count (emit_ended ms t)
  ended_grow [] t = omega arith
  ended_grow (m ∷ ms) t = omega (arith, one_record m.number Ended t, ended_grow ms (emit_events (expired_events m.lifecycle) (emit_given_up m.number Ended t)))

  each_ended_grow : (ids : List ℕ) (q : Queue) (t : Emitted P) → count t ≤ count (emit_each_ended ids q t)
  each_ended_grow [] q t = omega arith
  each_ended_grow (id ∷ ids) q t =
      let ms : List Queued = (queues.stream id q.streams).messages in
      omega (arith, ended_grow ms t, each_ended_grow ids (emptied_one id q) (emit_ended ms t))

  pub empty_grow : (q : Queue) (t : Emitted P) → count t ≤ count (empty q t).emitted
  empty_grow q t = each_ended_grow (keys_of q.streams.entries) q t

  made_grow : (id : ℕ) (is_low is_total_low : Bool) (o : Option queued.Produced) (t : Emitted P) → count (emitted_made id is_low is_total_low o t) ≡ count t
  made_grow id is_low is_total_low None t = refl
  made_grow id is_low is_total_low (Some p) t = refl

  left_grow : (id : ℕ) (ss : queues.Streams) (o : Option (Option ℕ)) (q : Queue) (t : Emitted P) → count (discard_from id ss o q t).emitted ≡ count t
  left_grow id ss None q t = refl
  left_grow id ss (Some l) q t = refl

  pub discards_grow : (ds : List Discard) (q : Queue) (t : Emitted P) → count (discard_all ds q t).emitted ≡ count t
  discards_grow [] q t = refl
  discards_grow (d ∷ ds) q t =
      let x : Changed P = discard d.stream d.number q t in
      discards_grow ds x.queue x.emitted
      ∙ left_grow d.stream (streams_discarded d.stream d.number q.streams) (front_discarded d.number (queues.stream d.stream q.streams).messages) q t

  turn_grow : (now id size : ℕ) (q : Queue) (t : Emitted P) → count t ≤ count (turn now id size q t).emitted
  turn_grow now id size q t =
      let first : Emitted P = emit_stale now id q.streams t in
      let ss : queues.Streams = queued.streams_without_stale now id q.streams in
      let s : queues.Stream = queues.stream id ss in
      let made : Option queued.Produced = queued.next_fragment id size s in
      let is_low : Bool = crosses (queues.watched_amount s) (queues.watched_amount (queued.advance size s)) in
      let is_total_low : Bool = crosses (queues.watched_total ss) (queues.watched_total (queued.streams_after id size ss)) in
      omega (arith, expired_grow now (queues.stream id q.streams).messages t, made_grow id is_low is_total_low made first)

  grow_if : (b : Bool) (n : ℕ) (x y : queued.Turn P) → n ≤ count x.emitted → n ≤ count y.emitted → n ≤ count (cond b x y).emitted
  grow_if true n x y h k = h
  grow_if false n x y h k = k

  grow_from : (o : Option ℕ) (n : ℕ) (next : ℕ → queued.Turn P) (x : queued.Turn P) → ((id : ℕ) → n ≤ count (next id).emitted) → n ≤ count x.emitted
      → n ≤ count (unwrap_or (option_map next o) x).emitted
  grow_from None n next x h k = k
  grow_from (Some id) n next x h k = h id

  produces_grow : (n now size : ℕ) (q : Queue) (t : Emitted P) → count t ≤ count (produce_within n now size q t).emitted
  produces_grow zero now size q t = omega arith
  produces_grow (suc n) now size q t =
      grow_from (next_stream q) (count t) _ (idle q t)
      (λ id. let x : queued.Turn P = turn now id size q t in
      grow_if (is_some x.made) (count t) x (produce_within n now size x.queue x.emitted) (turn_grow now id size q t)
      (omega (arith, turn_grow now id size q t, produces_grow n now size x.queue x.emitted)))
      (omega arith)

  pub produced_grow : (now size : ℕ) (q : Queue) (t : Emitted P) → count t ≤ count (produce now size q t).emitted
  produced_grow now size q t = produces_grow (length q.scheduler.times + 2) now size q t

-- ---- items

changed_length : (k : ℕ) (f : Item → Item) (is : List Item) → length (change_at k f is) ≡ length is
changed_length k f [] = refl
changed_length zero f (i ∷ is) = refl
changed_length (suc k) f (i ∷ is) = ap suc (changed_length k f is)

settled_length : (blocks : List GapAckBlock) (offset : ℕ) (is : List Item) → length (ack_or_uncover_all blocks offset is) ≡ length is
settled_length blocks offset [] = refl
settled_length blocks offset (i ∷ is) = ap suc (settled_length blocks (suc offset) is)

at_most_one : (number : ℕ) (o : Option FragmentTree) → length (placeholders number o) ≤ 1
at_most_one number None = omega arith
at_most_one number (Some f) = go f.is_end
  where
    go : (b : Bool) → length (cond b [] (placeholder number f ∷ [])) ≤ 1
    go true = omega arith
    go false = omega arith

abandoned_length : (number : ℕ) (s : Items) → length (abandon_message number s).kept ≤ length s.kept + 1
abandoned_length number s =
    let more : List Item = placeholders number (last_of number s.kept) in
    omega (arith, length-map (s.kept ++ more) (abandon_if_of number), length-append s.kept more, at_most_one number (last_of number s.kept))

-- from these items and records to those: the cumulative TSN doesn't go back, and each number more has its record
pub record Numbers (s : Items) (n : ℕ) (x : Items) (m : ℕ) : Type 0 where
  pub point : s.acked ≤ x.acked
  pub next : next_number x + n ≤ next_number s + m

module _ {P : Type 0} (s : Items) (n : ℕ) where
  abbrev Reaches : Step P → Type 0
  Reaches x = Numbers s n x.items (count x.emitted)

  given_up_too : (number : ℕ) (cause : GivenUpCause) (x : Step P) → Reaches x → Reaches (abandon_with_record number cause x)
  given_up_too number cause x h = record {
    point = h.point;
    next = omega (arith, h.next, abandoned_length number x.items, one_record number cause x.emitted);
  }

  changed_too : (k : ℕ) (f : Item → Item) (is_lossy : Bool) (x : Step P) → Reaches x → Reaches (record x { items = change_items k f x.items; is_lossy = is_lossy })
  changed_too k f is_lossy x h = record { point = h.point; next = omega (arith, h.next, changed_length k f x.items.kept) }

  nacks_item : (b : Bool) (indication : MissIndication) (fast is_lossy : Bool) (k : ℕ) (i : Item) (x : Step P) → Reaches x
      → Reaches (cond b (abandon_with_record i.number (Retransmissions (i.sent - 1)) x) (record x { items = change_items k (item.nack indication fast) x.items; is_lossy = is_lossy }))
  nacks_item true indication fast is_lossy k i x h = given_up_too i.number (Retransmissions (i.sent - 1)) x h
  nacks_item false indication fast is_lossy k i x h = changed_too k (item.nack indication fast) is_lossy x h

  nacks_at : (o : Option Item) (indication : MissIndication) (fast : Bool) (k : ℕ) (x : Step P) → Reaches x
      → Reaches (unwrap_or (option_map (λ i. nack_item indication fast k i x) o) x)
  nacks_at None indication fast k x h = h
  nacks_at (Some i) indication fast k x h = nacks_item (is_to_be_abandoned x.items.is_partial indication i) indication fast (x.is_lossy || loses indication i) k i x h

  nacks_below : (indication : MissIndication) (fast : Bool) (k : ℕ) (x : Step P) → Reaches x → Reaches (nack_below indication fast k x)
  nacks_below indication fast zero x h = h
  nacks_below indication fast (suc k) x h =
      let y : Step P = nack_below indication fast k x in
      nacks_at (slice_get y.items.kept k) indication fast k y (nacks_below indication fast k x h)

  gives_up_if : (o : Option ℕ) (x : Step P) → Reaches x → Reaches (given_up_if o x)
  gives_up_if None x h = h
  gives_up_if (Some number) x h = given_up_too number Lifetime x h

  expires_below : (now k : ℕ) (x : Step P) → Reaches x → Reaches (expire_below now k x)
  expires_below now zero x h = h
  expires_below now (suc k) x h =
      let y : Step P = expire_below now k x in
      gives_up_if (expired_at now k y.items) y (expires_below now k x h)

-- a cumulative TSN that is in range
in_range : (n : ℕ) (blocks : List GapAckBlock) (s : Items) → is_valid n blocks s ≡ true → (s.acked ≤ n) × (n < next_number s)
in_range n blocks s valid =
    let parts = and_parts (nat_le s.acked n) (nat_lt (n + highest_end blocks) (next_number s) && nat_lt n bound) valid in
    let within : n + highest_end blocks < next_number s =
    ltb-true (n + highest_end blocks) (next_number s) (and_parts (nat_lt (n + highest_end blocks) (next_number s)) (nat_lt n bound) parts.1).0 in
    (leb-true s.acked n parts.0, omega (arith, within))

module _ {P : Type 0} where
  pub numbers_nack_all : (s : Items) (t : Emitted P) → Numbers s (count t) (nack_all s t).items (count (nack_all s t).emitted)
  numbers_nack_all s t = nacks_below s (count t) Timeout false (length s.kept) (first_step s t) (record { point = omega arith; next = omega arith })

  pub numbers_expired : (now : ℕ) (s : Items) (t : Emitted P) → Numbers s (count t) (expire_outstanding now s t).items (count (expire_outstanding now s t).emitted)
  numbers_expired now s t = expires_below s (count t) now (length s.kept) (first_step s t) (record { point = omega arith; next = omega arith })

  -- ---- acknowledgements

  received_first : (n : ℕ) (blocks : List GapAckBlock) (s : Items) (t : Emitted P) → is_valid n blocks s ≡ true
      → Numbers s (count t) (receive_sack_first n blocks s t).items (count (receive_sack_first n blocks s t).emitted)
  received_first n blocks s t valid =
      let range = in_range n blocks s valid in
      record {
        point = range.0;
        next = omega (arith, range.0, range.1, settled_length blocks 1 (staying n s).kept, length-drop (leaving n s) s.kept);
      }

  pub numbers_sack : (now n a_rwnd : ℕ) (blocks : List GapAckBlock) (s : Sender) (t : Emitted P) → is_valid n blocks s.outstanding.items ≡ true
      → Numbers s.outstanding.items (count t) (sender_if true now n a_rwnd blocks s t).outstanding.items (count (emitted_if true n blocks s t))
  numbers_sack now n a_rwnd blocks s t valid =
      nacks_below s.outstanding.items (count t) (report_by s.windows.avoids_stalls n blocks s.outstanding.items) (not (not (is_open n s.windows))) (reported_below blocks (staying n s.outstanding.items))
      (receive_sack_first n blocks s.outstanding.items t) (received_first n blocks s.outstanding.items t valid)

-- ---- what is sent again takes no number

record StaysAt (a b : Items) : Type 0 where
  point : b.acked ≡ a.acked
  next : next_number b ≡ next_number a

stays_changed : (k : ℕ) (f : Item → Item) (s : Items) → StaysAt s (change_items k f s)
stays_changed k f s = record { point = refl; next = omega (arith, changed_length k f s.kept) }

stays_same : (s : Items) → StaysAt s s
stays_same s = record { point = refl; next = refl }

stays_then : (a b c : Items) → StaysAt a b → StaysAt b c → StaysAt a c
stays_then a b c h k = record { point = k.point ∙ h.point; next = k.next ∙ h.next }

abbrev Again : Resent → Resent → Type 0
Again x y = StaysAt x.outstanding.items y.outstanding.items

stays_again : (k : ℕ) (o : Option Item) (x : Resent) → Again x (again_of k o x)
stays_again k None x = stays_same x.outstanding.items
stays_again k (Some i) x = stays_changed k mark_as_retransmitted x.outstanding.items

stays_fast_turn : (i : Item) (k : ℕ) (x : Resent) → Again x (apply_turn (fast_turn i x) k x)
stays_fast_turn i k x = go (is_fast i) refl (nat_le (size_in x i) x.room) refl
  where
    go : (b : Bool) → is_fast i ≡ b → (d : Bool) → nat_le (size_in x i) x.room ≡ d → Again x (apply_turn (fast_turn i x) k x)
    go true e true f = rw (e, f) (stays_again k (slice_get x.outstanding.items.kept k) x)
    go true e false f = rw (e, f) (stays_changed k miss_fast x.outstanding.items)
    go false e d f = rw e (stays_same x.outstanding.items)

stays_queued_turn : (i : Item) (k : ℕ) (x : Resent) → Again x (apply_turn (queued_turn i x) k x)
stays_queued_turn i k x = go (should_be_retransmitted i && nat_le (size_in x i) (allowance x)) refl
  where
    go : (b : Bool) → (should_be_retransmitted i && nat_le (size_in x i) (allowance x)) ≡ b → Again x (apply_turn (queued_turn i x) k x)
    go true e = rw e (stays_again k (slice_get x.outstanding.items.kept k) x)
    go false e = rw e (stays_same x.outstanding.items)

stays_turn : (fast : Bool) (o : Option Item) (k : ℕ) (x : Resent) → Again x (apply_turn (turn_of fast o x) k x)
stays_turn fast None k x = stays_same x.outstanding.items
stays_turn true (Some i) k x = stays_fast_turn i k x
stays_turn false (Some i) k x = stays_queued_turn i k x

stays_below : (fast : Bool) (n : ℕ) (x : Resent) → Again x (resent_below fast n x)
stays_below fast zero x = stays_same x.outstanding.items
stays_below fast (suc n) x =
    let y : Resent = resent_below fast n x in
    let z : Resent = apply_turn (turn_of fast (slice_get y.outstanding.items.kept n) y) n y in
    stays_then x.outstanding.items y.outstanding.items z.outstanding.items (stays_below fast n x) (stays_turn fast (slice_get y.outstanding.items.kept n) n y)

stays_timed : (b : Bool) (now : ℕ) (s : Sender) → StaysAt s.outstanding.items (start_t3_if b now s).outstanding.items
stays_timed true now s = stays_same s.outstanding.items
stays_timed false now s = stays_same s.outstanding.items

pub numbers_fast : (now most : ℕ) (s : Sender) (n : ℕ) → Numbers s.outstanding.items n (send_fast now most s).outstanding.items n
numbers_fast now most s n =
    let x : Resent = resent_fast most s in
    let again : Again (empty_packet most 0 s.outstanding) x = stays_below true (length s.outstanding.items.kept) (empty_packet most 0 s.outstanding) in
    let timed = stays_timed (nat_lt 0 (length x.chunks)) now (resent_by s x) in
    record { point = omega (arith, again.point, timed.point); next = omega (arith, again.next, timed.next) }

pub numbers_resent : (most : ℕ) (s : Sender) (n : ℕ) → Numbers s.outstanding.items n (resent most s).outstanding.items n
numbers_resent most s n =
    let again = stays_below false (length s.outstanding.items.kept) (empty_packet (min most (s.windows.cwnd - flight s)) s.windows.rwnd s.outstanding) in
    record { point = omega (arith, again.point); next = omega (arith, again.next) }

pub numbers_timed : (b : Bool) (now : ℕ) (s : Sender) (n : ℕ) → Numbers s.outstanding.items n (start_t3_if b now s).outstanding.items n
numbers_timed b now s n = let timed = stays_timed b now s in record { point = omega (arith, timed.point); next = omega (arith, timed.next) }
