-- A fragment that is a whole message, and a stream without one.
use Rattle.std.proofs.Common.{◌≡◌, ℕ, ◌-◌, ◌<◌, ◌≤◌, Bool, true, false, cond, List, [], ◌∷◌, length, Option, Some, None, refl, ap, sym, ◌∙◌, arith}
use Rattle.std.specs.Prelude.{◌==◌, nat_le, take, drop}
use Rattle.std.specs.Map.{lookup}
use Rattle.std.specs.Ordering.{nat_cmp}
use Rattle.std.specs.BTreeMap.{is_at}
use Rattle.std.proofs.lemmas.Bool.Decides.{nat_tests}
use Rattle.std.proofs.lemmas.List.{take_all}
use Rattle.std.proofs.lemmas.Bool.{and_parts}
use Rattle.sctp_state.specs.Events.{Emitted, emit_events}
use Rattle.sctp_stream_scheduler.specs.StreamScheduler.{Scheduler, accept, is_active, enter, finish_now, set_bytes_remaining}
use Rattle.sctp_tx_queue.specs.declared.send_queue.message.MessageNumbers.{MessageNumbers}
use Rattle.sctp_tx_queue.specs.SendQueue.{Queued, Stream, Streams, stream, sendable}
use Rattle.sctp_tx_queue.specs.Produced.{is_front_stale, fresh, streams_without_stale, without_stale, ends, front_made, in_line, next_fragment, production, streams_after, advance, emitted_made}
use Rattle.sctp_tx_queue.specs.Whole.{is_whole, is_front_whole, front_lifecycle}
use Rattle.sctp_tx_queue.proofs.StreamLemmas.{advanced_priority}
use Rattle.sctp_tx_queue.proofs.StreamsLemmas.{put_nowhere, put_same, stream_there, stream_nowhere, changed_there}
use Rattle.sctp_serial.proofs.NumberLemmas.{not_zero}

-- ---- the whole of a message

none_sent : (offset : ℕ) → offset == 0 ≡ true → offset ≡ 0
none_sent offset h = grind (arith, nat_tests)

all_fits : (offset whole size : ℕ) → offset ≡ 0 → nat_le (whole - offset) size ≡ true → whole ≤ size
all_fits offset whole size none h = grind (arith, nat_tests)

pub whole_payload : (size : ℕ) (m : Queued) → is_whole size m ≡ true → m.payload ≡ take size (drop m.offset m.payload)
whole_payload size m h =
    let hs = and_parts (m.offset == 0) (ends size m) h in
    let none = none_sent m.offset hs.0 in
    sym (ap (λ n. take size (drop n m.payload)) none ∙ take_all size m.payload (all_fits m.offset (length m.payload) size none hs.1))

pub whole_ends : (size : ℕ) (m : Queued) → is_whole size m ≡ true → true ≡ ends size m
whole_ends size m h = sym (and_parts (m.offset == 0) (ends size m) h).1

-- its stream goes in line, with its bytes
pub whole_line : (id bytes priority size : ℕ) (n : MessageNumbers) (ms : List Queued) (sch : Scheduler) → is_front_whole size ms ≡ true → set_bytes_remaining id bytes priority (accept id sch) ≡ in_line id bytes priority (front_made id size n ms) sch
whole_line id bytes priority size n [] sch h = absurd (cc)
whole_line id bytes priority size n (m ∷ rest) sch h = refl

pub whole_emitted : {P : Type 0} → (id size : ℕ) (is_low is_total_low : Bool) (n : MessageNumbers) (ms : List Queued) (emitted : Emitted P) → is_front_whole size ms ≡ true
    → emit_events (production id is_low is_total_low (front_lifecycle ms)) emitted ≡ emitted_made id is_low is_total_low (front_made id size n ms) emitted
whole_emitted id size is_low is_total_low n [] emitted h = absurd (cc)
whole_emitted id size is_low is_total_low n (m ∷ rest) emitted h = ap (λ b. emit_events (production id is_low is_total_low (cond b m.lifecycle None)) emitted) (whole_ends size m h)

-- ---- the stream of a fragment among the others

pub sent_line : (id size : ℕ) (v : Stream) (ss : Streams) (sch : Scheduler) → Some v ≡ lookup (is_at (nat_cmp id)) ss.entries
    → in_line id (sendable (advance size v)) v.priority (next_fragment id size v) sch
    ≡ in_line id (sendable (stream id (streams_after id size ss))) (stream id (streams_after id size ss)).priority (next_fragment id size (stream id ss)) sch
sent_line id size v ss sch at =
    let same = stream_there id v ss at in
    let after : stream id (streams_after id size ss) ≡ advance size v = changed_there id v (advance size (stream id ss)) ss at ∙ ap (λ t. advance size t) same in
    let priority : v.priority ≡ (stream id (streams_after id size ss)).priority = sym (ap (λ (t : Stream). t.priority) after ∙ advanced_priority size v) in
    ap (λ (t : Stream). in_line id (sendable t) v.priority (next_fragment id size v) sch) (sym after)
    ∙ ap (λ p. in_line id (sendable (stream id (streams_after id size ss))) p (next_fragment id size v) sch) priority
    ∙ ap (λ (t : Stream). in_line id (sendable (stream id (streams_after id size ss))) (stream id (streams_after id size ss)).priority (next_fragment id size t) sch) (sym same)

pub none_made : (id size : ℕ) (ss : Streams) → None ≡ lookup (is_at (nat_cmp id)) ss.entries → None ≡ next_fragment id size (stream id ss)
none_made id size ss none = sym (ap (λ (t : Stream). next_fragment id size t) (stream_nowhere id ss none))

-- ---- a stream whose first message didn't expire

pub fresh_same : (now : ℕ) (ms : List Queued) → is_front_stale now ms ≡ false → fresh now ms ≡ ms
fresh_same now [] h = refl
fresh_same now (m ∷ rest) h = ap (λ b. cond b (fresh now rest) (m ∷ rest)) h

pub streams_fresh : (now id : ℕ) (ss : Streams) → is_front_stale now (stream id ss).messages ≡ false → ss ≡ streams_without_stale now id ss
streams_fresh now id ss h = go (lookup (is_at (nat_cmp id)) ss.entries) refl
  where
    same : without_stale now (stream id ss) ≡ stream id ss
    same = ap (λ ms. let s : Stream = record (stream id ss) { messages = ms } in s) (fresh_same now (stream id ss).messages h)

    go : (o : Option Stream) → lookup (is_at (nat_cmp id)) ss.entries ≡ o → ss ≡ streams_without_stale now id ss
    go None e = sym (put_nowhere id (without_stale now (stream id ss)) ss (sym e))
    go (Some s) e = sym (put_same id (without_stale now (stream id ss)) ss (ap (λ t. Some t) (same ∙ stream_there id s ss (sym e)) ∙ sym e))

pub active_keeps : (id bytes priority : ℕ) (s : Scheduler) → 0 < bytes → is_active id s ≡ true → set_bytes_remaining id bytes priority s ≡ s
active_keeps id bytes priority s some active =
    ap (λ b. cond b (set_bytes_remaining id 0 0 s) (cond (is_active id s) s (enter id (finish_now bytes priority s) s))) (not_zero bytes some)
    ∙ ap (λ b. cond b s (enter id (finish_now bytes priority s) s)) active
