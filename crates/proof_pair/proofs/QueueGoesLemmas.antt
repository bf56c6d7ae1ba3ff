-- What each call of the queue keeps that a handover asks. The mode and the next number stay.
use Rattle.std.proofs.Common.{◌≡◌, ℕ, zero, suc, ◌+◌, ◌<◌, ◌≤◌, ◌&&◌, nat_lt, Bool, true, false, cond, Less, Equal, Greater, Option, Some, None, is_some, unwrap_or, option_map, List, [], ◌∷◌, length, refl, sym, subst, ◌∙◌, arith}
use Rattle.std.specs.declared.cmp.Ordering.{Ordering}
use Rattle.std.specs.Ordering.{nat_cmp, match_ordering}
use Rattle.std.specs.List.{AllByRecursion}
use Rattle.std.specs.List.Sorted.{IsStrictlySortedBy}
use Rattle.std.specs.Map.{lookup, keys_of}
use Rattle.std.specs.BTreeMap.{is_at, insert_entry}
use Rattle.std.proofs.lemmas.Map.{keys-set_value}
use Rattle.sctp_state.specs.Events.{Emitted}
use Rattle.sctp_tx_outstanding.specs.OutstandingData.{Discard}
use Rattle.sctp_tx_queue.specs.declared.send_queue.stream.ResetStep.{ResetStep}
use Rattle.sctp_tx_queue.specs.SendQueue.{Stream, Streams, Entries, Queue, blank, stream, with_stream, put_stream}
use Rattle.sctp_tx_queue.specs.Produced.{Produced, Turn, next_fragment, advance, without_stale, streams_without_stale, turn, next_stream, idle, produce_within, produce}
use Rattle.sctp_tx_queue.specs.Settings.{set_low_threshold, set_priority, front_discarded, without_front, streams_discarded, discard_from, discard}
use Rattle.sctp_tx_queue.specs.Resets.{prepare_reset, apply_reset_step, each_stepped}
use Rattle.sctp_tx_queue.specs.Emptied.{emptied_one, each_emptied, empty}
use Rattle.sctp_tx_queue.specs.Restarted.{restarted_one, each_restarted, reset}
use Rattle.sctp_tx_queue.specs.InOrder.{IsInOrder, HasRests}
use Rattle.sctp_tx_queue.proofs.AgainLemmas.{AreAbove, are_above}
use Rattle.sctp_tx_queue.proofs.InOrderLemmas.{set_bytes_mode, threshold_in_order, priority_in_order, prepared_in_order, steps_in_order, produced_in_order, discarded_in_order, line_mode}
use Rattle.sctp_tx_queue.proofs.RestLemmas.{calls_leave_rests}
use Rattle.sctp_tx.specs.Sending.{Filling, offered_payload, append, queue_step_if, next_turn, fill, discard_all, filled_with, send, without_discards}
use Rattle.sctp_tx.specs.RetransmissionQueue.{Sender}
use Rattle.sctp_tx.specs.Resent.{may_send_new, resent}
use Rattle.sctp_tx_outstanding.specs.Resending.{Resent}
use Rattle.spec_endpoint.specs.Shutdown.{empty_if}
use Rattle.proof_endpoint.specs.HandoverRoundTrip.{IsNumberedOnce, CallsNumberOnce}
use Rattle.proof_endpoint.proofs.EmptiedLemmas.{emptied_in_order, emptied_rests}
use Rattle.proof_pair.proofs.StayLemmas.{Stays, stays_same, stays_then, stays_resent, stays_timed}
use Rattle.sctp_serial.proofs.NumberLemmas.{is_less, is_greater, nat_cmp_less, positive_of_both}

-- ---- ids stay sorted

abbrev pub AreSorted : Entries → Type 0
AreSorted es = IsStrictlySortedBy nat_cmp (keys_of es)

all_less : (k m : ℕ) (es : Entries) → k ≤ m → AreAbove m es → AllByRecursion (λ (y : ℕ). nat_cmp k y ≡ Less) (keys_of es)
all_less k m [] l h = tt
all_less k m (e ∷ es) l h = (nat_cmp_less k e.0 (omega (arith, l, h.0)), all_less k m es l h.1)

above_inserted : (k id : ℕ) (s : Stream) (es : Entries) → k < id → AreAbove k es → AreAbove k (insert_entry nat_cmp es id s)
above_inserted k id s [] l h = (l, tt)
above_inserted k id s (e ∷ es) l h = go (nat_cmp id e.0) (above_inserted k id s es l h.1)
  where
    go : (r : Ordering) → AreAbove k (insert_entry nat_cmp es id s)
        → AreAbove k (match_ordering r ((id, s) ∷ e ∷ es) ((e.0, s) ∷ es) (e ∷ insert_entry nat_cmp es id s))
    go Less ih = (l, h)
    go Equal ih = h
    go Greater ih = (h.0, ih)

inserted_sorted : (id : ℕ) (s : Stream) (es : Entries) → AreSorted es → AreSorted (insert_entry nat_cmp es id s)
unfolding IsStrictlySortedBy
inserted_sorted id s [] h = (tt, tt)
inserted_sorted id s (e ∷ es) h = go (nat_cmp id e.0) refl (inserted_sorted id s es h.1)
  where
    go : (r : Ordering) → nat_cmp id e.0 ≡ r → AreSorted (insert_entry nat_cmp es id s)
        → AreSorted (match_ordering r ((id, s) ∷ e ∷ es) ((e.0, s) ∷ es) (e ∷ insert_entry nat_cmp es id s))
    go Less p ih =
        let l : id < e.0 = is_less id e.0 p in
        ((p, all_less id e.0 es (omega (arith, l)) (are_above e.0 es h)), h)
    go Equal p ih = h
    go Greater p ih =
        (all_less e.0 e.0 (insert_entry nat_cmp es id s) (omega arith) (above_inserted e.0 id s es (is_greater id e.0 p) (are_above e.0 es h)), ih)

put_sorted : (id : ℕ) (s : Stream) (ss : Streams) → AreSorted ss.entries → AreSorted (put_stream id s ss).entries
put_sorted id s ss h = subst (IsStrictlySortedBy nat_cmp) (sym (keys-set_value (is_at (nat_cmp id)) ss.entries s)) h

opened_sorted : (id : ℕ) (ss : Streams) → AreSorted ss.entries → AreSorted (with_stream id ss).entries
opened_sorted id ss h = go (is_some (lookup (is_at (nat_cmp id)) ss.entries))
  where
    go : (b : Bool) → AreSorted (cond b ss (record ss { entries = insert_entry nat_cmp ss.entries id (blank ss) })).entries
    go true = h
    go false = inserted_sorted id (blank ss) ss.entries h

pub put_opened_sorted : (id : ℕ) (s : Stream) (ss : Streams) → AreSorted ss.entries → AreSorted (put_stream id s (with_stream id ss)).entries
put_opened_sorted id s ss h = put_sorted id s (with_stream id ss) (opened_sorted id ss h)

-- ---- ids, the mode and the next number

record Shape (q r : Queue) : Type 0 where
  sorted : AreSorted q.streams.entries → AreSorted r.streams.entries
  mode : r.scheduler.is_interleaved ≡ q.scheduler.is_interleaved
  next : r.next_number ≡ q.next_number

shape_same : (q : Queue) → Shape q q
shape_same q = record { sorted = λ h. h; mode = refl; next = refl }

shape_then : (q r s : Queue) → Shape q r → Shape r s → Shape q s
shape_then q r s a b = record { sorted = λ h. b.sorted (a.sorted h); mode = b.mode ∙ a.mode; next = b.next ∙ a.next }

module _ {P : Type 0} where
  shape_action : (now id size : ℕ) (q : Queue) (t : Emitted P) → Shape q (turn now id size q t).queue
  shape_action now id size q t =
      let s : Stream = stream id q.streams in
      let ss : Streams = streams_without_stale now id q.streams in
      record {
        sorted = λ h. put_sorted id (advance size (stream id ss)) ss (put_sorted id (without_stale now s) q.streams h);
        mode = line_mode id _ _ (next_fragment id size (stream id ss)) q.scheduler;
        next = refl;
      }

  shape_if : (b : Bool) (q : Queue) (x y : Turn P) → Shape q x.queue → Shape x.queue y.queue → Shape q (cond b x y).queue
  shape_if true q x y f g = f
  shape_if false q x y f g = shape_then q x.queue y.queue f g

  shape_from : (o : Option ℕ) (q : Queue) (next : ℕ → Turn P) (x : Turn P) → ((id : ℕ) → Shape q (next id).queue) → Shape q x.queue
      → Shape q (unwrap_or (option_map next o) x).queue
  shape_from None q next x f g = g
  shape_from (Some id) q next x f g = f id

  shape_within : (trace now size : ℕ) (q : Queue) (t : Emitted P) → Shape q (produce_within trace now size q t).queue
  shape_within zero now size q t = shape_same q
  shape_within (suc trace) now size q t =
      shape_from (next_stream q) q _ (idle q t)
      (λ id. let x : Turn P = turn now id size q t in
      shape_if (is_some x.made) q x (produce_within trace now size x.queue x.emitted) (shape_action now id size q t) (shape_within trace now size x.queue x.emitted))
      (shape_same q)

  discard_shape : (id : ℕ) (ss : Streams) (o : Option (Option ℕ)) (q : Queue) (t : Emitted P) → (AreSorted q.streams.entries → AreSorted ss.entries)
      → Shape q (discard_from id ss o q t).queue
  discard_shape id ss None q t f = record { sorted = f; mode = refl; next = refl }
  discard_shape id ss (Some lifecycle) q t f = record { sorted = f; mode = set_bytes_mode id _ _ q.scheduler; next = refl }

  shape_discarded : (id number : ℕ) (q : Queue) (t : Emitted P) → Shape q (discard id number q t).queue
  shape_discarded id number q t =
      let s : Stream = stream id q.streams in
      discard_shape id (streams_discarded id number q.streams) (front_discarded number s.messages) q t
      (put_sorted id (without_front number s.messages s) q.streams)

shape_steps : (step : ResetStep) (ids : List ℕ) (q : Queue) → Shape q (each_stepped step ids q)
shape_steps step [] q = shape_same q
shape_steps step (id ∷ ids) q =
    let r : Queue = apply_reset_step step id q in
    shape_then q r (each_stepped step ids r) (record { sorted = put_sorted id _ q.streams; mode = set_bytes_mode id _ _ q.scheduler; next = refl })
    (shape_steps step ids r)

shape_restarted : (ids : List ℕ) (q : Queue) → Shape q (each_restarted ids q)
shape_restarted [] q = shape_same q
shape_restarted (id ∷ ids) q =
    let r : Queue = restarted_one id q in
    shape_then q r (each_restarted ids r) (record { sorted = put_sorted id _ q.streams; mode = set_bytes_mode id _ _ q.scheduler; next = refl })
    (shape_restarted ids r)

shape_emptied : (ids : List ℕ) (q : Queue) → Shape q (each_emptied ids q)
shape_emptied [] q = shape_same q
shape_emptied (id ∷ ids) q =
    let r : Queue = emptied_one id q in
    shape_then q r (each_emptied ids r) (record { sorted = put_sorted id _ q.streams; mode = set_bytes_mode id _ _ q.scheduler; next = refl })
    (shape_emptied ids r)

-- ---- all that is asked of the queue

pub record Goes (q r : Queue) : Type 0 where
  pub order : IsInOrder q → IsInOrder r
  pub rests : HasRests q → HasRests r
  pub numbers : IsNumberedOnce q → IsNumberedOnce r
  pub sorted : AreSorted q.streams.entries → AreSorted r.streams.entries
  pub mode : r.scheduler.is_interleaved ≡ q.scheduler.is_interleaved
  pub next : r.next_number ≡ q.next_number

pub goes_same : (q : Queue) → Goes q q
goes_same q = record { order = λ h. h; rests = λ h. h; numbers = λ h. h; sorted = λ h. h; mode = refl; next = refl }

pub goes_then : (q r s : Queue) → Goes q r → Goes r s → Goes q s
goes_then q r s a b = record {
  order = λ h. b.order (a.order h);
  rests = λ h. b.rests (a.rests h);
  numbers = λ h. b.numbers (a.numbers h);
  sorted = λ h. b.sorted (a.sorted h);
  mode = b.mode ∙ a.mode;
  next = b.next ∙ a.next;
}

goes_by : (q r : Queue) → (IsInOrder q → IsInOrder r) → (HasRests q → HasRests r) → (IsNumberedOnce q → IsNumberedOnce r) → Shape q r → Goes q r
goes_by q r order rests numbers s = record { order = order; rests = rests; numbers = numbers; sorted = s.sorted; mode = s.mode; next = s.next }

-- the mode aside, which is set behind it
pub reset_sorted : (q : Queue) → AreSorted q.streams.entries → AreSorted (reset q).streams.entries
reset_sorted q = (shape_restarted (keys_of q.streams.entries) q).sorted

pub reset_next : (q : Queue) → (reset q).next_number ≡ q.next_number
reset_next q = (shape_restarted (keys_of q.streams.entries) q).next

module _ (once : CallsNumberOnce) where
  goes_produced : (now size : ℕ) (q : Queue) (t : Emitted (List ℕ)) → 0 < size → Goes q (produce now size q t).queue
  goes_produced now size q t some =
      goes_by q (produce now size q t).queue (produced_in_order now size q t some) (calls_leave_rests.produced now size q t) (once.produced now size q t)
      (shape_within (length q.scheduler.times + 2) now size q t)

  goes_discarded : (id number : ℕ) (q : Queue) (t : Emitted (List ℕ)) → Goes q (discard id number q t).queue
  goes_discarded id number q t =
      goes_by q (discard id number q t).queue (discarded_in_order id number q t) (calls_leave_rests.discarded id number q t)
      (once.discarded id number q t) (shape_discarded id number q t)

  pub goes_threshold : (id bytes : ℕ) (q : Queue) (t : Emitted (List ℕ)) → Goes q (set_low_threshold id bytes q t).queue
  goes_threshold id bytes q t =
      goes_by q (set_low_threshold id bytes q t).queue (threshold_in_order id bytes q t) (calls_leave_rests.threshold id bytes q t)
      (once.threshold id bytes q t) (record { sorted = put_opened_sorted id _ q.streams; mode = refl; next = refl })

  pub goes_priority : (id priority : ℕ) (q : Queue) → Goes q (set_priority id priority q)
  goes_priority id priority q =
      goes_by q (set_priority id priority q) (priority_in_order id priority q) (calls_leave_rests.priority id priority q) (once.priority id priority q)
      (record { sorted = put_opened_sorted id _ q.streams; mode = refl; next = refl })

  pub goes_prepared : (id : ℕ) (q : Queue) (t : Emitted (List ℕ)) → Goes q (prepare_reset id q t).queue
  goes_prepared id q t =
      goes_by q (prepare_reset id q t).queue (prepared_in_order id q t) (calls_leave_rests.prepared id q t) (once.prepared id q t)
      (record { sorted = put_opened_sorted id _ q.streams; mode = set_bytes_mode id _ _ q.scheduler; next = refl })

  pub goes_steps : (step : ResetStep) (ids : List ℕ) (q : Queue) → Goes q (each_stepped step ids q)
  goes_steps step ids q =
      goes_by q (each_stepped step ids q) (steps_in_order step ids q) (calls_leave_rests.steps step ids q) (once.steps step ids q) (shape_steps step ids q)

  pub goes_emptied : (b : Bool) (q : Queue) (t : Emitted (List ℕ)) → Goes q (empty_if b q t).queue
  goes_emptied true q t =
      let s : Shape q (each_emptied (keys_of q.streams.entries) q) = shape_emptied (keys_of q.streams.entries) q in
      goes_by q (empty q t).queue (emptied_in_order true q t) (emptied_rests true q t) (once.emptied q t)
      (record { sorted = s.sorted; mode = s.mode; next = s.next })
  goes_emptied false q t = goes_same q

-- ---- what is put into a packet

pub record Fills (x y : Filling (List ℕ)) : Type 0 where
  pub sent : Stays x.sender.outstanding y.sender.outstanding
  pub queue : Goes x.queue y.queue

fills_same : (x : Filling (List ℕ)) → Fills x x
fills_same x = record { sent = stays_same x.sender.outstanding; queue = goes_same x.queue }

fills_then : (x y z : Filling (List ℕ)) → Fills x y → Fills y z → Fills x z
fills_then x y z a b = record {
  sent = stays_then x.sender.outstanding y.sender.outstanding z.sender.outstanding a.sent b.sent;
  queue = goes_then x.queue y.queue z.queue a.queue b.queue;
}

fills_appended : (now : ℕ) (o : Option Produced) (x : Filling (List ℕ)) → Fills x (append now o x)
fills_appended now None x = fills_same x
fills_appended now (Some p) x = record { sent = record { first = refl; items = record { partial = refl; mode = refl } }; queue = goes_same x.queue }

module _ (once : CallsNumberOnce) where
  fills_turned_if : (b : Bool) (now : ℕ) (x : Filling (List ℕ)) → (b ≡ true → 0 < offered_payload x.left x.sender) → Fills x (queue_step_if b now x).filling
  fills_turned_if false now x some = fills_same x
  fills_turned_if true now x some =
      let t : Turn (List ℕ) = produce now (offered_payload x.left x.sender) x.queue x.emitted in
      let y : Filling (List ℕ) = record x { queue = t.queue; emitted = t.emitted } in
      fills_then x y (append now t.made y)
      (record { sent = stays_same x.sender.outstanding; queue = goes_produced once now (offered_payload x.left x.sender) x.queue x.emitted (some refl) })
      (fills_appended now t.made y)

  fills_turned : (now : ℕ) (x : Filling (List ℕ)) → Fills x (next_turn now x).filling
  fills_turned now x =
      let n : ℕ = offered_payload x.left x.sender in
      fills_turned_if (may_send_new x.sender && nat_lt 0 n) now x (positive_of_both (may_send_new x.sender) n)

  fills_fill : (trace now : ℕ) (x : Filling (List ℕ)) → Fills x (fill trace now x)
  fills_fill zero now x = fills_same x
  fills_fill (suc trace) now x = go (next_turn now x).is_more (fills_fill trace now (next_turn now x).filling)
    where
      y : Filling (List ℕ)
      y = (next_turn now x).filling

      go : (b : Bool) → Fills y (fill trace now y) → Fills x (cond b (fill trace now y) y)
      go true h = fills_then x y (fill trace now y) (fills_turned now x) h
      go false h = fills_turned now x

  goes_discards : (ds : List Discard) (q : Queue) (t : Emitted (List ℕ)) → Goes q (discard_all ds q t).queue
  goes_discards [] q t = goes_same q
  goes_discards (d ∷ ds) q t =
      let x = discard d.stream d.number q t in
      goes_then q x.queue (discard_all ds x.queue x.emitted).queue (goes_discarded once d.stream d.number q t) (goes_discards ds x.queue x.emitted)

  pub sent_stays : (now most : ℕ) (s : Sender) (q : Queue) (t : Emitted (List ℕ)) → Stays s.outstanding (send now most s q t).sender.outstanding
  sent_stays now most s q t =
      let u : Sender = without_discards s in
      let r : Resent = resent most u in
      let x : Filling (List ℕ) = filled_with most u r (discard_all s.outstanding.items.discards q t) in
      let y : Filling (List ℕ) = fill (suc x.left) now x in
      stays_then s.outstanding u.outstanding (send now most s q t).sender.outstanding (record { first = refl; items = record { partial = refl; mode = refl } })
      (stays_then u.outstanding r.outstanding (send now most s q t).sender.outstanding (stays_resent false _ _ u.outstanding)
      (stays_then r.outstanding y.sender.outstanding (send now most s q t).sender.outstanding (fills_fill (suc x.left) now x).sent
      (stays_timed now y.chunks y.sender)))

  pub sent_goes : (now most : ℕ) (s : Sender) (q : Queue) (t : Emitted (List ℕ)) → Goes q (send now most s q t).queue
  sent_goes now most s q t =
      let u : Sender = without_discards s in
      let left = discard_all s.outstanding.items.discards q t in
      let x : Filling (List ℕ) = filled_with most u (resent most u) left in
      goes_then q left.queue (send now most s q t).queue (goes_discards s.outstanding.items.discards q t) (fills_fill (suc x.left) now x).queue
