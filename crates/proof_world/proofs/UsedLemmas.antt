-- Each act of a call leaves an end within what it accepted: no more fragments are numbered or wait than it accepted bytes and messages and gave
-- messages up, and on each stream no more ordered messages than it accepted there.
use Rattle.std.proofs.Common.{◌≡◌, ℕ, zero, suc, ◌+◌, ◌≤◌, ◌&&◌, ◌||◌, nat_lt, Bool, true, false, cond, Option, Some, None, List, [], ◌∷◌, length, refl, arith}
use Rattle.std.proofs.lemmas.Bool.{and_parts, ltb-true}
use Rattle.std.proofs.lemmas.List.{length-append}
use Rattle.std.proofs.lemmas.Bool.Decides.{nat_tests}
use Rattle.sctp_serial.specs.Unwrapped.{origin}
use Rattle.sctp_serial.specs.Messages.{Message}
use Rattle.sctp_capabilities.specs.Capabilities.{negotiate}
use Rattle.sctp_state.specs.Options.{SendOptions}
use Rattle.sctp_state.specs.Handover.{HandoverState}
use Rattle.sctp_state.specs.Events.{Emitted}
use Rattle.sctp_tx_queue.specs.declared.send_queue.message.MessageNumbers.{MessageNumbers}
use Rattle.sctp_tx_queue.specs.declared.send_queue.stream.ResetStep.TheVariants.{Requested, Performed, Refused}
use Rattle.sctp_tx_queue.specs.SendQueue.{Queued, Entries, Queue, remaining_bytes}
use Rattle.sctp_tx_queue.specs.SendQueue.{stream as stream_of}
use Rattle.sctp_tx_queue.specs.Produced as queued
use Rattle.sctp_tx_queue.specs.Produced.{ends, move_past, produce}
use Rattle.sctp_tx_queue.specs.Resets.{streams_to_request, request_resets, each_stepped, prepare_reset}
use Rattle.sctp_tx_queue.specs.Emptied.{empty}
use Rattle.sctp_tx_queue.specs.Restarted as queues
use Rattle.sctp_tx_queue.specs.Settings as settings
use Rattle.sctp_tx_queue.specs.Settings.{Changed}
use Rattle.sctp_tx_outstanding.specs.OutstandingData.{Items, next_number}
use Rattle.sctp_tx.specs.RetransmissionQueue.{Sender}
use Rattle.sctp_tx.specs.Resent.{resent, may_send_new}
use Rattle.sctp_tx.specs.Sending.{Filling, offered_payload, item_of, append, queue_step_if, next_turn, fill, discard_all, without_discards, filled_with, send}
use Rattle.spec_endpoint.specs.Association.{State, Closed, CookieWait, Open, Context}
use Rattle.spec_endpoint.specs.ResetRequests.{Outcome, Unsettled, Done, Denied, outcome}
use Rattle.spec_endpoint.specs.Opening.{agreed_by, queue_anew, queue_if, other_mode, queue_for}
use Rattle.spec_endpoint.specs.Packets.{room}
use Rattle.spec_endpoint.specs.Sack.{clean_blocks}
use Rattle.spec_endpoint.specs.Sending.{fast_most}
use Rattle.spec_endpoint.specs.Shutdown.{ended, empty_if, emptied_if}
use Rattle.spec_endpoint.specs.StreamReset.{on_outcome}
use Rattle.spec_endpoint.specs.Laws.{Call, Restore}
use Rattle.proof_endpoint.specs.Acts.{EndWithPacket, point_of, fragments_of, IsOffered, PacketAct, begins, adds_plain, emits, emits_error, counts, before_packets, after_packets, OpeningAct, connects, adds_init, answers_new, answers_waiting, answers_echoed, answers_again, echoes, adds_cookie, establishes, opens, restarts, opens_again, maintains, adds_cookie_ack, before_opening, after_opening, ClosingAct, closes, shuts, shuts_on, before_closing, after_closing, DataAct, takes_data, takes_idata, takes_forward, takes_iforward, before_data, after_data, SackAct, takes_sack, samples, counts_errors, before_sack, after_sack, SendingAct, asks, forces_ack, adds_ack, expires, adds_forward, forwards_later, asks_no_reset, asks_reset, adds_request, sends, sends_fast, before_sending, after_sending, TimeAct, advances, delay_ends, times_out, beats, times_init, times_cookie, times_request, times_items, wakes_request, before_time, after_time, CallAct, accepts, refuses, takes_message, sets_low_threshold, sets_priority, sets_max_message_size, before_call, after_call, ResetAct, prepares, defers, performs, processes, takes_response, adds_responses, before_reset, after_reset, HandoverAct, leaves, takes_up, before_handover, after_handover, InputAct, ends_packet, before_input, after_input, Preserves}
use Rattle.proof_world.proofs.UsedQueueLemmas.{IsCost, of_messages, of_entries, of_queue, of_threshold, of_priority, of_each_stepped, of_prepared, of_reset, of_empty, of_discards, taken, of_produced}
use Rattle.proof_world.proofs.UsedStreamLemmas.{HasOrdered, keeps_ordered, InQueue, stands_priority, stands_threshold, stands_prepared, stands_each_stepped, stands_reset, stands_empty, stands_discards, stands_produced}
use Rattle.proof_world.proofs.UsedItemsLemmas.{count, unsent_grow, empty_grow, produced_grow, discards_grow, Numbers, numbers_nack_all, numbers_expired, numbers_sack, numbers_fast, numbers_resent, numbers_timed}

-- ---- what a message costs: what is left of it, or all of it

abbrev pub left_cost : Queued → ℕ
left_cost m = remaining_bytes m + 1

abbrev pub whole_cost : Queued → ℕ
whole_cost m = length m.payload + 1

left_moves : (size : ℕ) (n : MessageNumbers) (m : Queued) → 1 ≤ size → ends size m ≡ false → left_cost (move_past size n m) + 1 ≤ left_cost m
left_moves size n m some e = grind (arith, nat_tests, some, e)

left_is : IsCost 1 left_cost
left_is = record { at_end = λ m. omega arith; before_end = left_moves }

whole_is : IsCost 0 whole_cost
whole_is = record { at_end = λ m. omega arith; before_end = λ size n m some e. omega arith }

left_messages : (ms : List Queued) → of_messages left_cost ms ≤ of_messages whole_cost ms
left_messages [] = omega arith
left_messages (m ∷ ms) = omega (arith, left_messages ms)

left_entries : (es : Entries) → of_entries left_cost es ≤ of_entries whole_cost es
left_entries [] = omega arith
left_entries (e ∷ es) = omega (arith, left_messages e.1.messages, left_entries es)

-- ---- an end

-- the number that is next, and the first one that is kept
abbrev pub next_in : State → ℕ
next_in Closed = origin
next_in (CookieWait tag first t1) = origin
next_in (Open phase t) = next_number t.sender.outstanding.items

abbrev pub point_in : State → ℕ
point_in Closed = origin
point_in (CookieWait tag first t1) = origin
point_in (Open phase t) = t.sender.outstanding.items.acked + 1

-- where so much was accepted: `all` in bytes and messages, and so many ordered messages on each stream; and so many given up
pub record Uses (all : ℕ) (most : ℕ → ℕ) (next point : ℕ) (q : Queue) (records : ℕ) : Type 0 where
  pub whole : of_queue whole_cost q ≤ all
  pub used : next + of_queue left_cost q ≤ origin + (all + records)
  pub from : origin ≤ point
  pub streams : InQueue (λ id s. HasOrdered (most id) s) (keeps_ordered most) q

abbrev pub UsesIn : (all : ℕ) (most : ℕ → ℕ) → State → Queue → (records : ℕ) → Type 0
UsesIn all most s q records = Uses all most (next_in s) (point_in s) q records

module _ (all : ℕ) (most : ℕ → ℕ) where
  abbrev S : Queue → Type 0
  S q = InQueue (λ id s. HasOrdered (most id) s) (keeps_ordered most) q

  abbrev U : (next point : ℕ) → Queue → ℕ → Type 0
  U next point q n = Uses all most next point q n

  -- another queue, which costs no more
  with_queue : (next point : ℕ) (q r : Queue) (n m : ℕ) → n ≤ m → of_queue whole_cost r ≤ of_queue whole_cost q → of_queue left_cost r ≤ of_queue left_cost q → (S q → S r)
      → U next point q n → U next point r m
  with_queue next point q r n m more whole left f h = record {
    whole = omega (arith, whole, h.whole);
    used = omega (arith, left, more, h.used);
    from = h.from;
    streams = f h.streams;
  }

  -- an association that begins, or is over
  at_origin : (next point : ℕ) (q r : Queue) (n : ℕ) → of_queue whole_cost r ≤ of_queue whole_cost q → (S q → S r) → U next point q n → U origin origin r n
  at_origin next point q r n whole k h = record {
    whole = omega (arith, whole, h.whole);
    used = omega (arith, whole, left_entries r.streams.entries, h.whole);
    from = omega arith;
    streams = k h.streams;
  }

  -- what a sender goes on to, with the same queue
  numbered : (u v : Items) (q : Queue) (n m : ℕ) → Numbers u n v m → U (next_number u) (u.acked + 1) q n → U (next_number v) (v.acked + 1) q m
  numbered u v q n m k h = record {
    whole = h.whole;
    used = omega (arith, k.next, h.used);
    from = omega (arith, k.point, h.from);
    streams = h.streams;
  }

  -- ---- queues

  whole_reset : (q : Queue) → of_queue whole_cost (queues.reset q) ≤ of_queue whole_cost q
  whole_reset q = of_reset whole_cost (λ m. omega arith) q

  whole_if : (b : Bool) (q : Queue) → of_queue whole_cost (queue_if b q) ≤ of_queue whole_cost q
  whole_if true q = whole_reset q
  whole_if false q = omega arith

  streams_if : (b : Bool) (q : Queue) → S q → S (queue_if b q)
  streams_if true q h = stands_reset (λ id s. HasOrdered (most id) s) (keeps_ordered most) q h
  streams_if false q h = h

  for_opened : (resets is_interleaved : Bool) (next point : ℕ) (q : Queue) (n : ℕ) → U next point q n → U origin origin (queue_for resets is_interleaved q) n
  for_opened resets is_interleaved next point q n h =
      let b : Bool = resets || other_mode is_interleaved q.scheduler.is_interleaved in
      at_origin next point q (queue_for resets is_interleaved q) n (whole_if b q) (streams_if b q) h

  requested : (size next point : ℕ) (q : Queue) (n : ℕ) → U next point q n → U next point (request_resets size q) n
  requested size next point q n h =
      with_queue next point q (request_resets size q) n n (omega arith) (of_each_stepped whole_cost Requested (streams_to_request size q) q) (of_each_stepped left_cost Requested (streams_to_request size q) q)
      (stands_each_stepped (λ id s. HasOrdered (most id) s) (keeps_ordered most) Requested (streams_to_request size q) q) h

  -- ---- a packet

  module _ {P : Type 0} where
    record Fills (s : Items) (q : Queue) (n : ℕ) (x : Filling P) : Type 0 where
      point : s.acked ≤ x.sender.outstanding.items.acked
      used : next_number x.sender.outstanding.items + of_queue left_cost x.queue + n ≤ next_number s + of_queue left_cost q + count x.emitted
      whole : of_queue whole_cost x.queue ≤ of_queue whole_cost q
      streams : S q → S x.queue

    -- what was made of the queue takes the next number
    appends : (s : Items) (q : Queue) (n now : ℕ) (o : Option queued.Produced) (x : Filling P) → s.acked ≤ x.sender.outstanding.items.acked
        → next_number x.sender.outstanding.items + (of_queue left_cost x.queue + taken left_cost 1 left_is o) + n ≤ next_number s + of_queue left_cost q + count x.emitted
        → of_queue whole_cost x.queue ≤ of_queue whole_cost q → (S q → S x.queue) → Fills s q n (append now o x)
    appends s q n now None x point used whole streams = record { point = point; used = omega (arith, used); whole = whole; streams = streams }
    appends s q n now (Some p) x point used whole streams = record {
      point = point;
      used = omega (arith, used, length-append x.sender.outstanding.items.kept (item_of now p ∷ []));
      whole = whole;
      streams = streams;
    }

    turns_if : (s : Items) (q : Queue) (n : ℕ) (b : Bool) (now : ℕ) (x : Filling P) → (b ≡ true → 1 ≤ offered_payload x.left x.sender) → Fills s q n x
        → Fills s q n (queue_step_if b now x).filling
    turns_if s q n true now x some h =
        let size : ℕ = offered_payload x.left x.sender in
        let y : queued.Turn P = produce now size x.queue x.emitted in
        let fewer : of_queue left_cost y.queue + taken left_cost 1 left_is y.made ≤ of_queue left_cost x.queue = of_produced left_cost 1 left_is now size x.queue x.emitted (some refl) in
        let smaller : of_queue whole_cost y.queue + taken whole_cost 0 whole_is y.made ≤ of_queue whole_cost x.queue = of_produced whole_cost 0 whole_is now size x.queue x.emitted (some refl) in
        appends s q n now y.made (record x { queue = y.queue; emitted = y.emitted }) h.point
        (omega (arith, h.used, fewer, produced_grow now size x.queue x.emitted)) (omega (arith, h.whole, smaller))
        (λ k. stands_produced (λ id s. HasOrdered (most id) s) (keeps_ordered most) now size x.queue x.emitted (h.streams k))
    turns_if s q n false now x some h = h

    fills_if : (s : Items) (q : Queue) (n : ℕ) (b : Bool) (x y : Filling P) → Fills s q n x → Fills s q n y → Fills s q n (cond b y x)
    fills_if s q n true x y h k = k
    fills_if s q n false x y h k = h

    fills : (s : Items) (q : Queue) (n turns now : ℕ) (x : Filling P) → Fills s q n x → Fills s q n (fill turns now x)
    fills s q n zero now x h = h
    fills s q n (suc turns) now x h =
        let size : ℕ = offered_payload x.left x.sender in
        let y : Filling P = (next_turn now x).filling in
        let k : Fills s q n y =
        turns_if s q n (may_send_new x.sender && nat_lt 0 size) now x (λ e. ltb-true 0 size (and_parts (may_send_new x.sender) (nat_lt 0 size) e).1) h in
        fills_if s q n (next_turn now x).is_more y (fill turns now y) k (fills s q n turns now y k)

    filled : (now room : ℕ) (s : Sender) (q : Queue) (t : Emitted P) → Fills s.outstanding.items q (count t) (send now room s q t)
    filled now room s q t =
        let left : Changed P = discard_all s.outstanding.items.discards q t in
        let bare : Sender = without_discards s in
        let x : Filling P = filled_with room bare (resent room bare) left in
        let again = numbers_resent room bare (count t) in
        let first : Fills s.outstanding.items q (count t) x = record {
          point = again.point;
          used = omega (arith, again.next, of_discards left_cost s.outstanding.items.discards q t, discards_grow s.outstanding.items.discards q t);
          whole = of_discards whole_cost s.outstanding.items.discards q t;
          streams = stands_discards (λ id s. HasOrdered (most id) s) (keeps_ordered most) s.outstanding.items.discards q t;
        } in
        let y : Filling P = fill (suc x.left) now x in
        let all_of : Fills s.outstanding.items q (count t) y = fills s.outstanding.items q (count t) (suc x.left) now x first in
        let timed = numbers_timed (nat_lt 0 (length y.chunks)) now y.sender (count y.emitted) in
        record {
          point = omega (arith, all_of.point, timed.point);
          used = omega (arith, all_of.used, timed.next);
          whole = all_of.whole;
          streams = all_of.streams;
        }

    -- ---- acts, of a call that offers no message and takes no handover up

    abbrev pub UsesAt : EndWithPacket P → Type 0
    UsesAt m = UsesIn all most m.state m.context.queue (count m.context.emitted)

    abbrev pub Onward : (before after : EndWithPacket P) → Type 0
    Onward a b = UsesAt a → UsesAt b

    on_answer : (o : Outcome) (next point : ℕ) (c : Context P) → U next point c.queue (count c.emitted) → U next point (on_outcome o c).queue (count (on_outcome o c).emitted)
    on_answer Unsettled next point c h = h
    on_answer (Done streams) next point c h =
        with_queue next point c.queue (each_stepped Performed streams c.queue) (count c.emitted) (count c.emitted) (omega arith) (of_each_stepped whole_cost Performed streams c.queue)
        (of_each_stepped left_cost Performed streams c.queue) (stands_each_stepped (λ id s. HasOrdered (most id) s) (keeps_ordered most) Performed streams c.queue) h
    on_answer (Denied streams) next point c h =
        with_queue next point c.queue (each_stepped Refused streams c.queue) (count c.emitted) (count c.emitted) (omega arith) (of_each_stepped whole_cost Refused streams c.queue)
        (of_each_stepped left_cost Refused streams c.queue) (stands_each_stepped (λ id s. HasOrdered (most id) s) (keeps_ordered most) Refused streams c.queue) h

    -- where stalls are avoided, what waits is given up as the association is over, or the peer begins another one
    over_uses : (b : Bool) (next point : ℕ) (q : Queue) (t : Emitted P) → U next point q (count t) → U next point (empty_if b q t).queue (count (empty_if b q t).emitted)
    over_uses true next point q t h =
        with_queue next point q (empty q t).queue (count t) (count (empty q t).emitted) (empty_grow q t) (of_empty whole_cost q t) (of_empty left_cost q t)
        (stands_empty (λ id s. HasOrdered (most id) s) (keeps_ordered most) q t) h
    over_uses false next point q t h = h

    module _ (call : Call) (offers : (m : Message) (o : SendOptions) → IsOffered call m o → ⊥) (no_restore : (s : HandoverState) → call ≡ Restore s → ⊥) where
      uses_packets : (act : PacketAct P call) → Onward (before_packets act) (after_packets act)
      uses_packets (begins p m new summed to) h = h
      uses_packets (adds_plain chunk m plain others fair) h = h
      uses_packets (emits m some bundled) h = h
      uses_packets (emits_error kind text m) h = h
      uses_packets (counts m) h = h

      uses_opening : (act : OpeningAct P call) → Onward (before_opening act) (after_opening act)
      uses_opening (connects m is) h =
          at_origin origin origin m.context.queue m.context.queue (count m.context.emitted) (omega arith) (λ k. k) h
      uses_opening (adds_init tag first t1 m to) h = h
      uses_opening (answers_new tag i m received to) h = h
      uses_opening (answers_waiting tag i my_tag first t1 m received to) h = h
      uses_opening (answers_echoed tag i t1 cookie t m received to) h = h
      uses_opening (answers_again tag i phase t m received late to) h = h
      uses_opening (echoes tag i cookie my_tag first t1 m received brought) h =
          at_origin origin origin m.context.queue (queue_anew (agreed_by m.context.options i).message_interleaving m.context.queue) (count m.context.emitted)
          (whole_reset m.context.queue) (streams_if true m.context.queue) h
      uses_opening (adds_cookie t1 cookie t m to) h = h
      uses_opening (establishes tag t1 cookie t m received) h = h
      uses_opening (opens tag k m echoed none own) h =
          for_opened m.context.options.avoid_stalls (negotiate m.context.options k.peer_capabilities).message_interleaving (next_in m.state) (point_in m.state) m.context.queue (count m.context.emitted) h
      uses_opening (restarts tag k phase t m echoed verdict) h =
          let c : Context P = m.context in
          let d : Context P = emptied_if c.options.avoid_stalls c in
          let next : ℕ = next_in (Open phase t) in
          let point : ℕ = point_in (Open phase t) in
          for_opened true (negotiate c.options k.peer_capabilities).message_interleaving next point d.queue (count d.emitted)
          (over_uses c.options.avoid_stalls next point c.queue c.emitted h)
      uses_opening (opens_again tag k phase t m echoed verdict) h =
          for_opened true (negotiate m.context.options k.peer_capabilities).message_interleaving (next_in (Open phase t)) (point_in (Open phase t)) m.context.queue (count m.context.emitted) h
      uses_opening (maintains tag k t1 cookie t m echoed verdict) h = h
      uses_opening (adds_cookie_ack tag back phase t m echoed late) h = h

      uses_closing : (act : ClosingAct P call) → Onward (before_closing act) (after_closing act)
      uses_closing (closes e m there is) h =
          over_uses m.context.options.avoid_stalls origin origin m.context.queue (ended e m.context).emitted
          (at_origin (next_in m.state) (point_in m.state) m.context.queue m.context.queue (count m.context.emitted) (omega arith) (λ k. k) h)
      uses_closing (shuts phase t m is early) h = h
      uses_closing (shuts_on phase next t m late later) h = h

      uses_data : (act : DataAct P call) → Onward (before_data act) (after_data act)
      uses_data (takes_data tag tsn is_immediate f phase t m received right some takes) h = h
      uses_data (takes_idata tag tsn is_immediate f phase t m received right some takes) h = h
      uses_data (takes_forward tag tsn skipped phase t m received right valid) h = h
      uses_data (takes_iforward tag tsn skipped phase t m received right valid) h = h

      uses_sack : (act : SackAct P call) → Onward (before_sack act) (after_sack act)
      uses_sack (takes_sack tag k phase t m received valid) h =
          numbered t.sender.outstanding.items _ m.context.queue (count m.context.emitted) _
          (numbers_sack m.context.now (point_of k t) k.a_rwnd (clean_blocks k.gap_ack_blocks) t.sender m.context.emitted valid) h
      uses_sack (samples r phase t m) h = h
      uses_sack (counts_errors e m) h = h

      uses_sending : (act : SendingAct P call) → Onward (before_sending act) (after_sending act)
      uses_sending (asks also_if_delayed phase t m) h = h
      uses_sending (forces_ack phase t m) h = h
      uses_sending (adds_ack phase t m) h = h
      uses_sending (expires phase t m) h =
          numbered t.sender.outstanding.items _ m.context.queue (count m.context.emitted) _ (numbers_expired m.context.now t.sender.outstanding.items m.context.emitted) h
      uses_sending (adds_forward phase t m due) h = h
      uses_sending (forwards_later n m) h = h
      uses_sending (asks_no_reset size m none) h = requested size (next_in m.state) (point_in m.state) m.context.queue (count m.context.emitted) h
      uses_sending (asks_reset size stream streams phase t m some free) h = requested size (next_in (Open phase t)) (point_in (Open phase t)) m.context.queue (count m.context.emitted) h
      uses_sending (adds_request r phase t m is) h = h
      uses_sending (sends phase t m) h =
          let f : Fills t.sender.outstanding.items m.context.queue (count m.context.emitted) (fragments_of t m) = filled m.context.now (room m.packet) t.sender m.context.queue m.context.emitted in
          record {
            whole = omega (arith, f.whole, h.whole);
            used = omega (arith, f.used, h.used);
            from = omega (arith, f.point, h.from);
            streams = f.streams h.streams;
          }
      uses_sending (sends_fast phase t m some) h =
          numbered t.sender.outstanding.items _ m.context.queue (count m.context.emitted) (count m.context.emitted)
          (numbers_fast m.context.now (fast_most m.context.options) t.sender (count m.context.emitted)) h

      uses_time : (act : TimeAct P call) → Onward (before_time act) (after_time act)
      uses_time (advances now m is on) h = h
      uses_time (delay_ends phase t m) h = h
      uses_time (times_out phase t m due) h =
          numbered t.sender.outstanding.items _ m.context.queue (count m.context.emitted) _ (numbers_nack_all t.sender.outstanding.items m.context.emitted) h
      uses_time (beats b m) h = h
      uses_time (times_init tag first old new m) h = h
      uses_time (times_cookie old new cookie t m) h = h
      uses_time (times_request timer phase t m) h = h
      uses_time (times_items timer phase t m) h = h
      uses_time (wakes_request phase t m) h = h

      uses_calls : (act : CallAct P call) → Onward (before_call act) (after_call act)
      uses_calls (accepts message o m offered fine) h = absurd (offers message o offered)
      uses_calls (refuses message o e m offered is) h = h
      uses_calls (takes_message phase t m is) h = h
      uses_calls (sets_low_threshold stream bytes m is) h =
          with_queue (next_in m.state) (point_in m.state) m.context.queue (settings.set_low_threshold stream bytes m.context.queue m.context.emitted).queue (count m.context.emitted) (count m.context.emitted) (omega arith)
          (of_threshold whole_cost stream bytes m.context.queue m.context.emitted)
          (of_threshold left_cost stream bytes m.context.queue m.context.emitted)
          (stands_threshold (λ id s. HasOrdered (most id) s) (keeps_ordered most) stream bytes m.context.queue m.context.emitted) h
      uses_calls (sets_priority stream priority m is) h =
          with_queue (next_in m.state) (point_in m.state) m.context.queue (settings.set_priority stream priority m.context.queue) (count m.context.emitted) (count m.context.emitted) (omega arith)
          (of_priority whole_cost stream priority m.context.queue)
          (of_priority left_cost stream priority m.context.queue) (stands_priority (λ id s. HasOrdered (most id) s) (keeps_ordered most) stream priority m.context.queue) h
      uses_calls (sets_max_message_size bytes m is) h = h

      uses_resets : (act : ResetAct P call) → Onward (before_reset act) (after_reset act)
      uses_resets (prepares stream phase t m is can) h =
          with_queue (next_in (Open phase t)) (point_in (Open phase t)) m.context.queue (prepare_reset stream m.context.queue m.context.emitted).queue (count m.context.emitted)
          (count (prepare_reset stream m.context.queue m.context.emitted).emitted) (unsent_grow (stream_of stream m.context.queue.streams).messages m.context.emitted)
          (of_prepared whole_cost stream m.context.queue m.context.emitted) (of_prepared left_cost stream m.context.queue m.context.emitted)
          (stands_prepared (λ id s. HasOrdered (most id) s) (keeps_ordered most) stream m.context.queue m.context.emitted) h
      uses_resets (defers number response last_tsn streams phase t m asked known ahead) h = h
      uses_resets (performs number response last_tsn streams phase t m asked known there) h = h
      uses_resets (processes number streams phase t m asked known) h = h
      uses_resets (takes_response rto number result sender receiver phase t m asked) h =
          on_answer (outcome number result t.requests.current) (next_in (Open phase t)) (point_in (Open phase t)) m.context h
      uses_resets (adds_responses responses phase t m are answers) h = h

      uses_handover : (act : HandoverAct P call) → Onward (before_handover act) (after_handover act)
      uses_handover (leaves phase t m is) h = at_origin (next_in (Open phase t)) (point_in (Open phase t)) m.context.queue m.context.queue (count m.context.emitted) (omega arith) (λ k. k) h
      uses_handover (takes_up s m is valid) h = absurd (no_restore s is)

      uses_input : (act : InputAct P call) → Onward (before_input act) (after_input act)
      uses_input (ends_packet phase t m) h = h

      pub uses_on : Preserves call Onward
      uses_on = record {
        same = λ m h. h;
        through = λ {a} {b} {c} f g h. g (f h);
        packets = uses_packets;
        opening = uses_opening;
        closing = uses_closing;
        data_acts = uses_data;
        acknowledging = uses_sack;
        sending = uses_sending;
        time = uses_time;
        calls = uses_calls;
        resets = uses_resets;
        handover = uses_handover;
        input = uses_input;
      }
