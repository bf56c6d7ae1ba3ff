-- What a packet keeps that was being filled when memory ran out.
use Rattle.std.proofs.Common.{◌≡◌, ℕ, zero, suc, ◌+◌, ◌-◌, ◌<◌, min, Bool, true, false, Option, Some, None, List, [], ◌∷◌, take, length, refl, sym, subst, inl, inr}
use Rattle.std.specs.Prelude.{◌⊎◌, ◌&&◌, nat_lt, is_some, if◌then◌else◌, unwrap_or, option_map}
use Rattle.sctp_state.specs.Events.{Emitted, Grown, emit_events, expired_events}
use Rattle.sctp_state.specs.ThresholdWatcher.{crosses}
use Rattle.sctp_state.proofs.EventLemmas.{grown_same, grown_through, grown_emitted}
use Rattle.sctp_tx_outstanding.specs.OutstandingData.{Discard, Outstanding}
use Rattle.sctp_tx_outstanding.specs.Resending.{resent_below, empty_packet}
use Rattle.sctp_tx_outstanding.specs.Keeps.{Keeps}
use Rattle.sctp_tx_outstanding.proofs.ItemsStayLemmas.{keeps_all, keeps_on, resending_keeps, new_items_keep}
use Rattle.sctp_tx_queue.specs.SendQueue.{Queue, Stream, Streams, stream, watched_amount, watched_total}
use Rattle.sctp_tx_queue.specs.Produced.{Produced, Turn, emit_fallen, emit_stale, production, emitted_made, streams_without_stale, streams_after, advance, next_fragment, turn, next_stream, idle, produce_within, produce}
use Rattle.sctp_tx_queue.specs.Settings.{discard, discard_from, streams_discarded, front_discarded}
use Rattle.sctp_tx_queue.specs.Interrupted.{Passed, Stopped, Interrupted}
use Rattle.sctp_tx_queue.proofs.EmittingLemmas.{grown_fallen, grown_stale}
use Rattle.sctp_tx_queue.proofs.InOrderLemmas.{produced_in_order, discarded_in_order}
use Rattle.sctp_tx_queue.proofs.NumberLemmas.{calls_number}
use Rattle.sctp_tx_queue.proofs.RestLemmas.{calls_leave_rests}
use Rattle.sctp_tx_queue.proofs.UnfinishedLemmas.{order_kept, numbers_kept, rests_kept}
use Rattle.sctp_tx.specs.RetransmissionQueue.{Sender}
use Rattle.sctp_tx.specs.Resent.{flight, may_send_new, resent}
use Rattle.sctp_tx.specs.Sending.{Filling, offered_payload, item_of, append, queue_step_if, next_turn, discard_all, without_discards, filled_with}
use Rattle.sctp_tx.specs.Interrupted.{NotProduced, NotAppended, after_turns, PartlyFilled, PartlySent}
use Rattle.sctp_tx.specs.Unfinished.{QueueStays, Stays, UnfinishedStays}
use Rattle.sctp_tx.proofs.FlightLemmas.{some_offered}

-- ---- what was emitted stands

made_grown : (id : ℕ) (is_low is_total_low : Bool) (made : Option Produced) (t : Emitted (List ℕ)) → Grown t (emitted_made id is_low is_total_low made t)
made_grown id is_low is_total_low None t = grown_same t
made_grown id is_low is_total_low (Some p) t = grown_emitted (production id is_low is_total_low p.lifecycle) t

discarded_grown : (id : ℕ) (ss : Streams) (found : Option (Option ℕ)) (q : Queue) (t : Emitted (List ℕ)) → Grown t (discard_from id ss found q t).emitted
discarded_grown id ss None q t = grown_same t
discarded_grown id ss (Some lifecycle) q t =
    let u = emit_events (expired_events lifecycle) t in
    grown_through t u (emit_fallen id q.streams ss u) (grown_emitted (expired_events lifecycle) t) (grown_fallen id q.streams ss u)

module _ (now size : ℕ) where
  turn_grown : (id : ℕ) (q : Queue) (t : Emitted (List ℕ)) → Grown t (turn now id size q t).emitted
  turn_grown id q t =
      let ss = streams_without_stale now id q.streams in
      let s : Stream = stream id ss in
      let u = emit_stale now id q.streams t in
      grown_through t u (turn now id size q t).emitted (grown_stale now id q.streams t)
      (made_grown id (crosses (watched_amount s) (watched_amount (advance size s))) (crosses (watched_total ss) (watched_total (streams_after id size ss))) (next_fragment id size s) u)

  within_grown : (turns : ℕ) (q : Queue) (t : Emitted (List ℕ)) → Grown t (produce_within turns now size q t).emitted
  within_grown zero q t = grown_same t
  within_grown (suc turns) q t = next (within_grown turns) (next_stream q) where
    Others : Type 0
    Others = (r : Queue) (u : Emitted (List ℕ)) → Grown u (produce_within turns now size r u).emitted

    by : Others → (b : Bool) (x : Turn (List ℕ)) → Grown t x.emitted → Grown t (if b then x else produce_within turns now size x.queue x.emitted).emitted
    by others true x g = g
    by others false x g = grown_through t x.emitted (produce_within turns now size x.queue x.emitted).emitted g (others x.queue x.emitted)

    next : Others → (found : Option ℕ) → Grown t (unwrap_or (option_map (λ id. let x = turn now id size q t in if is_some x.made then x else produce_within turns now size x.queue x.emitted) found) (idle q t)).emitted
    next others None = grown_same t
    next others (Some id) = by others (is_some (turn now id size q t).made) (turn now id size q t) (turn_grown id q t)

  passed_grown : (turns : ℕ) (q : Queue) (t : Emitted (List ℕ)) (rest : Queue) (later : Emitted (List ℕ)) → Passed turns now size q t rest later → Grown t later
  passed_grown zero q t rest later p = subst (λ (u : Emitted (List ℕ)). Grown t u) (sym p.events) (grown_same t)
  passed_grown (suc turns) q t rest later p =
      let x = turn now p.0 size q t in
      grown_through t x.emitted later (turn_grown p.0 q t) (passed_grown turns x.queue x.emitted rest later p.1.1.1)

  stopped_grown : (id : ℕ) (q : Queue) (t : Emitted (List ℕ)) (rest : Queue) (later : Emitted (List ℕ)) → Stopped now id q t rest later → Grown t later
  stopped_grown id q t rest later (inl same) = subst (λ (u : Emitted (List ℕ)). Grown t u) (sym same.events) (grown_same t)
  stopped_grown id q t rest later (inr freed) = subst (λ (u : Emitted (List ℕ)). Grown t u) (sym freed.events) (grown_stale now id q.streams t)

-- ---- the queue

stays_none : (q : Queue) (t : Emitted (List ℕ)) → QueueStays q t q t
stays_none q t = record { order = λ h. h; numbers = λ h. h; rests = λ h. h; events = grown_same t }

stays_on : (q : Queue) (t : Emitted (List ℕ)) (r : Queue) (u : Emitted (List ℕ)) (z : Queue) (v : Emitted (List ℕ)) → QueueStays q t r u → QueueStays r u z v → QueueStays q t z v
stays_on q t r u z v a b = record {
  order = λ h. b.order (a.order h);
  numbers = λ h. b.numbers (a.numbers h);
  rests = λ h. b.rests (a.rests h);
  events = grown_through t u v a.events b.events;
}

discard_stays : (id number : ℕ) (q : Queue) (t : Emitted (List ℕ)) → QueueStays q t (discard id number q t).queue (discard id number q t).emitted
discard_stays id number q t = record {
  order = λ h. discarded_in_order id number q t h;
  numbers = λ h. calls_number.discarded id number q t h;
  rests = λ h. calls_leave_rests.discarded id number q t h;
  events = discarded_grown id (streams_discarded id number q.streams) (front_discarded number (stream id q.streams).messages) q t;
}

discards_stay : (ds : List Discard) (q : Queue) (t : Emitted (List ℕ)) → QueueStays q t (discard_all ds q t).queue (discard_all ds q t).emitted
discards_stay [] q t = stays_none q t
discards_stay (d ∷ ds) q t =
    let x = discard d.stream d.number q t in
    let y = discard_all ds x.queue x.emitted in
    stays_on q t x.queue x.emitted y.queue y.emitted (discard_stays d.stream d.number q t) (discards_stay ds x.queue x.emitted)

module _ (now size : ℕ) (some : 0 < size) (q : Queue) (t : Emitted (List ℕ)) where
  produce_stays : QueueStays q t (produce now size q t).queue (produce now size q t).emitted
  produce_stays = record {
    order = λ h. produced_in_order now size q t some h;
    numbers = λ h. calls_number.produced now size q t h;
    rests = λ h. calls_leave_rests.produced now size q t h;
    events = within_grown now size (length q.scheduler.times + 2) q t;
  }

  interrupted_stays : (rest : Queue) (later : Emitted (List ℕ)) → Interrupted now size q t rest later → QueueStays q t rest later
  interrupted_stays rest later i = record {
    order = λ h. order_kept.produced now size q t rest later some h i;
    numbers = λ h. numbers_kept.produced now size q t rest later some h i;
    rests = λ h. rests_kept.produced now size q t rest later some h i;
    events = grown_through t i.emitted later (passed_grown now size i.turns q t i.queue i.emitted i.passed) (stopped_grown now size i.id i.queue i.emitted rest later i.stopped);
  }

-- ---- with the items

all_stays : (s : Sender) (q : Queue) (t : Emitted (List ℕ)) → Stays s q t s q t
all_stays s q t = record { items = keeps_all s.outstanding.items; queue = stays_none q t }

on : (s : Sender) (q : Queue) (t : Emitted (List ℕ)) (a : Sender) (r : Queue) (u : Emitted (List ℕ)) (b : Sender) (z : Queue) (v : Emitted (List ℕ)) → Stays s q t a r u → Stays a r u b z v → Stays s q t b z v
on s q t a r u b z v x y = record {
  items = keeps_on s.outstanding.items a.outstanding.items b.outstanding.items x.items y.items;
  queue = stays_on q t r u z v x.queue y.queue;
}

-- from one filling to another, or to what was left of it
abbrev FillingStays : Filling (List ℕ) → Filling (List ℕ) → Type 0
FillingStays x y = Stays x.sender x.queue x.emitted y.sender y.queue y.emitted

module _ (now : ℕ) where
  appended_stays : (made : Option Produced) (x : Filling (List ℕ)) (r : Queue) (u : Emitted (List ℕ)) → QueueStays x.queue x.emitted r u → FillingStays x (append now made (record x { queue = r; emitted = u }))
  appended_stays None x r u h = record { items = keeps_all x.sender.outstanding.items; queue = h }
  appended_stays (Some p) x r u h = record { items = new_items_keep (item_of now p) x.sender.outstanding.items; queue = h }

  turn_stays : (x : Filling (List ℕ)) → FillingStays x (next_turn now x).filling
  turn_stays x = by (may_send_new x.sender && nat_lt 0 (offered_payload x.left x.sender)) refl where
    by : (b : Bool) → may_send_new x.sender && nat_lt 0 (offered_payload x.left x.sender) ≡ b → FillingStays x (queue_step_if b now x).filling
    by true e =
        let size : ℕ = offered_payload x.left x.sender in
        let y = produce now size x.queue x.emitted in
        appended_stays y.made x y.queue y.emitted (produce_stays now size (some_offered (may_send_new x.sender) size e) x.queue x.emitted)
    by false e = all_stays x.sender x.queue x.emitted

  turns_stay : (turns : ℕ) (x : Filling (List ℕ)) → FillingStays x (after_turns turns now x)
  turns_stay zero x = all_stays x.sender x.queue x.emitted
  turns_stay (suc turns) x =
      let y = after_turns turns now x in
      let z = (next_turn now y).filling in
      on x.sender x.queue x.emitted y.sender y.queue y.emitted z.sender z.queue z.emitted (turns_stay turns x) (turn_stays y)

  stopped_stays : (x : Filling (List ℕ)) (after : Sender) (rest : Queue) (later : Emitted (List ℕ)) → 0 < offered_payload x.left x.sender
      → NotProduced now x after rest later ⊎ NotAppended now x after rest later → Stays x.sender x.queue x.emitted after rest later
  stopped_stays x after rest later some (inl h) = record {
    items = subst (λ (t : Sender). Keeps x.sender.outstanding.items t.outstanding.items) (sym h.sender) (keeps_all x.sender.outstanding.items);
    queue = interrupted_stays now (offered_payload x.left x.sender) some x.queue x.emitted rest later h.queue;
  }
  stopped_stays x after rest later some (inr h) = record {
    items = subst (λ (t : Sender). Keeps x.sender.outstanding.items t.outstanding.items) (sym h.sender) (keeps_all x.sender.outstanding.items);
    queue = rw (h.queue, h.events) (produce_stays now (offered_payload x.left x.sender) some x.queue x.emitted);
  }

  filling_stays : (x : Filling (List ℕ)) (after : Sender) (rest : Queue) (later : Emitted (List ℕ)) → PartlyFilled now x after rest later → Stays x.sender x.queue x.emitted after rest later
  filling_stays x after rest later h =
      let y = after_turns h.turns now x in
      on x.sender x.queue x.emitted y.sender y.queue y.emitted after rest later (turns_stay h.turns x) (stopped_stays y after rest later h.turn.room h.turn.stopped)

-- ---- the whole

module _ (now most : ℕ) (s : Sender) (q : Queue) (t : Emitted (List ℕ)) where
  resent_keep : (count room window : ℕ) → Keeps s.outstanding.items (resent_below false count (empty_packet room window (without_discards s).outstanding)).outstanding.items
  resent_keep count room window =
      let k = resending_keeps false count (empty_packet room window (without_discards s).outstanding) in
      record { acked = k.acked; items = k.items }

  partly_sent_stays : (after : Sender) (rest : Queue) (later : Emitted (List ℕ)) → PartlySent now most s q t after rest later → Stays s q t after rest later
  partly_sent_stays after rest later (inl h) = record {
    items = subst (λ (d : Outstanding). Keeps s.outstanding.items d.items) (sym h.discarded.items) (record { acked = refl; items = (keeps_all s.outstanding.items).items });
    queue = rw (h.discarded.queue.queue, h.discarded.queue.events) (discards_stay (take h.discarded.count s.outstanding.items.discards) q t);
  }
  partly_sent_stays after rest later (inr (inl h)) = record {
    items = subst (λ (d : Outstanding). Keeps s.outstanding.items d.items) (sym h.sender.items.1) (resent_keep h.sender.items.0 (min most (s.windows.cwnd - flight (without_discards s))) s.windows.rwnd);
    queue = rw (h.queue.queue, h.queue.events) (discards_stay s.outstanding.items.discards q t);
  }
  partly_sent_stays after rest later (inr (inr h)) =
      let first = without_discards s in
      let x = filled_with most first (resent most first) (discard_all s.outstanding.items.discards q t) in
      let begun : Stays s q t x.sender x.queue x.emitted = record {
        items = resent_keep (length s.outstanding.items.kept) (min most (s.windows.cwnd - flight first)) s.windows.rwnd;
        queue = discards_stay s.outstanding.items.discards q t;
      } in
      on s q t x.sender x.queue x.emitted after rest later begun (filling_stays now x after rest later h)

pub unfinished_stays : UnfinishedStays
unfinished_stays now most s q emitted after rest later h = partly_sent_stays now most s q emitted after rest later h
