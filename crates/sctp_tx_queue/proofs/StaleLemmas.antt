-- A stream whose messages all expired before they were begun.
use Rattle.std.proofs.Common.{◌≡◌, ℕ, ◌+◌, ◌==◌, Bool, true, false, cond, List, [], ◌∷◌, length, Option, Some, None, refl, ap, sym, ◌∙◌, arith}
use Rattle.std.specs.Prelude.{is_some, ◌&&◌}
use Rattle.std.specs.Map.{lookup}
use Rattle.std.specs.Ordering.{nat_cmp}
use Rattle.std.specs.BTreeMap.{is_at}
use Rattle.std.proofs.lemmas.Bool.{eqb-true}
use Rattle.sctp_state.specs.Events.{Emitted, emit_events, emit_given_up, expired_events}
use Rattle.sctp_state.specs.declared.api.GivenUpCause.TheVariants.{Lifetime}
use Rattle.sctp_state.specs.ThresholdWatcher.{crosses, lower}
use Rattle.sctp_stream_scheduler.specs.StreamScheduler.{leave}
use Rattle.sctp_tx_queue.specs.SendQueue.{Queued, Stream, Streams, Queue, amount_of, watched_amount, watched_total, stream, sendable, has_nothing}
use Rattle.sctp_tx_queue.specs.Produced.{Produced, is_front_stale, fresh, left_empty, without_stale, streams_without_stale, emit_expired, emit_fallen, emit_stale, production, falls_low, next_fragment, advance, streams_after, emitted_made, in_line, begun_by, turn}
use Rattle.sctp_tx_queue.specs.Interrupted.{TurnOver}
use Rattle.sctp_tx_queue.proofs.FallenLemmas.{nothing_falls, low_there, total_there}
use Rattle.sctp_tx_queue.proofs.StreamsLemmas.{put_same, stream_there, stream_nowhere, changed_there, lookup_written}
use Rattle.sctp_tx_queue.proofs.WholeLemmas.{streams_fresh}

-- no message expired where none was dropped
pub none_stale : (now : ℕ) (ms : List Queued) → None ≡ left_empty now ms → is_front_stale now ms ≡ false
none_stale now ms h = go (is_front_stale now ms) h
  where
    go : (b : Bool) → None ≡ cond b (Some (length (fresh now ms) == 0)) None → b ≡ false
    go true e = absurd (cc)
    go false e = refl

none_left : (ms : List Queued) → (length ms == 0) ≡ true → ms ≡ []
none_left [] h = refl
none_left (m ∷ rest) h = absurd (omega (arith, eqb-true (length (m ∷ rest)) 0 h))

pub all_stale : (now : ℕ) (ms : List Queued) → Some true ≡ left_empty now ms → fresh now ms ≡ []
all_stale now ms h = go (is_front_stale now ms) h
  where
    inside : (b : Bool) → Some true ≡ Some b → b ≡ true
    inside b e = cc

    go : (b : Bool) → Some true ≡ cond b (Some (length (fresh now ms) == 0)) None → fresh now ms ≡ []
    go true e = none_left (fresh now ms) (inside (length (fresh now ms) == 0) e)
    go false e = absurd (cc)

-- no stream, no message
there : (now id : ℕ) (ss : Streams) → Some true ≡ left_empty now (stream id ss).messages → Some (stream id ss) ≡ lookup (is_at (nat_cmp id)) ss.entries
there now id ss h = go (lookup (is_at (nat_cmp id)) ss.entries) refl
  where
    go : (o : Option Stream) → lookup (is_at (nat_cmp id)) ss.entries ≡ o → Some (stream id ss) ≡ lookup (is_at (nat_cmp id)) ss.entries
    go None e = absurd (nothing (h ∙ ap (λ (s : Stream). left_empty now s.messages) (stream_nowhere id ss (sym e))))
      where
        nothing : Some true ≡ None → ⊥
        nothing f = cc
    go (Some s) e = ap (λ t. Some t) (stream_there id s ss (sym e)) ∙ sym e

-- what such a stream is after its turn
nothing_next : (id size : ℕ) (s : Stream) → s.messages ≡ [] → next_fragment id size s ≡ None
nothing_next id size s none = ap (λ ms. let t : Stream = record s { messages = ms } in next_fragment id size t) none

nothing_sent : (size : ℕ) (s : Stream) → s.messages ≡ [] → advance size s ≡ s
nothing_sent size s none =
    ap (λ ms. let t : Stream = record s { messages = ms } in advance size t) none
    ∙ sym (ap (λ (ms : List Queued). let t : Stream = record s { messages = ms } in t) none)

-- its turn is over
pub turn_over : {P : Type 0} (now id size : ℕ) (q r : Queue) (emitted later : Emitted P) → Some true ≡ left_empty now (stream id q.streams).messages
    → r ≡ (let x : Queue = record q { streams = streams_without_stale now id q.streams; scheduler = leave id q.scheduler; begun = None } in x)
    → later ≡ emit_stale now id q.streams emitted → TurnOver now id size q emitted r later
turn_over {P} now id size q r emitted later h is_r is_later = record {
  queue = is_r ∙ sym queue;
  events = is_later ∙ sym events;
  none = none;
}
  where
    ss : Streams
    ss = streams_without_stale now id q.streams

    freed : Emitted P
    freed = emit_stale now id q.streams emitted

    at : Some (without_stale now (stream id q.streams)) ≡ lookup (is_at (nat_cmp id)) ss.entries
    at = sym (lookup_written (is_at (nat_cmp id)) (without_stale now (stream id q.streams)) q.streams.entries (ap is_some (sym (there now id q.streams h))))

    is : stream id ss ≡ without_stale now (stream id q.streams)
    is = stream_there id (without_stale now (stream id q.streams)) ss at

    empty : (stream id ss).messages ≡ []
    empty = ap (λ (s : Stream). s.messages) is ∙ all_stale now (stream id q.streams).messages h

    none : next_fragment id size (stream id ss) ≡ None
    none = nothing_next id size (stream id ss) empty

    same : streams_after id size ss ≡ ss
    same = put_same id (advance size (stream id ss)) ss (ap (λ t. Some t) (nothing_sent size (stream id ss) empty ∙ is) ∙ at)

    after : Streams → Option Produced → Queue
    after x o = record q { streams = x; scheduler = in_line id (sendable (stream id (streams_after id size ss))) (stream id (streams_after id size ss)).priority o q.scheduler; begun = begun_by id q.scheduler.is_interleaved o }

    queue : (turn now id size q emitted).queue ≡ (let x : Queue = record q { streams = ss; scheduler = leave id q.scheduler; begun = None } in x)
    queue = ap (λ x. after x (next_fragment id size (stream id ss))) same ∙ ap (λ o. after ss o) none

    events : (turn now id size q emitted).emitted ≡ freed
    events =
        let s = stream id ss in
        ap (λ o. emitted_made id (crosses (watched_amount s) (watched_amount (advance size s))) (crosses (watched_total ss) (watched_total (streams_after id size ss))) o freed) none

-- ---- what is emitted of them

none_expired : {P : Type 0} (now : ℕ) (ms : List Queued) (t : Emitted P) → is_front_stale now ms ≡ false → emit_expired now ms t ≡ t
none_expired now [] t h = refl
none_expired {P} now (m ∷ rest) t h = ap (λ (b : Bool). cond b (emit_expired now rest said) t) h
  where
    said : Emitted P
    said = emit_events (expired_events m.lifecycle) (emit_given_up m.number Lifetime t)

-- none is emitted where none expired
pub fresh_dropped : {P : Type 0} (now id : ℕ) (ss : Streams) (t : Emitted P) → is_front_stale now (stream id ss).messages ≡ false → t ≡ emit_stale now id ss t
fresh_dropped now id ss t fresh_front =
    sym (
    ap (λ u. emit_fallen id ss (streams_without_stale now id ss) u) (none_expired now (stream id ss).messages t fresh_front)
    ∙ ap (λ x. emit_fallen id ss x t) (sym (streams_fresh now id ss fresh_front))
    ∙ nothing_falls id ss t
    )

-- no stream, no message
pub nowhere_dropped : {P : Type 0} (now id : ℕ) (ss : Streams) (t : Emitted P) → None ≡ lookup (is_at (nat_cmp id)) ss.entries → t ≡ emit_stale now id ss t
nowhere_dropped now id ss t none = fresh_dropped now id ss t (ap (λ (s : Stream). is_front_stale now s.messages) (stream_nowhere id ss none))

-- what a stream emits, among the others: these bytes are dropped
pub stale_emitted : {P : Type 0} (now id bytes : ℕ) (is_low is_total_low : Bool) (s : Stream) (ss : Streams) (t : Emitted P) → Some s ≡ lookup (is_at (nat_cmp id)) ss.entries → bytes + amount_of (without_stale now s) ≡ amount_of s
    → is_low ≡ (ss.avoids_stalls && crosses (watched_amount s) (lower bytes (watched_amount s))) → is_total_low ≡ (ss.avoids_stalls && crosses (watched_total ss) (lower bytes (watched_total ss)))
    → emit_events (production id is_low is_total_low None) (emit_expired now s.messages t) ≡ emit_stale now id ss t
stale_emitted now id bytes is_low is_total_low s ss t at whole low total =
    let after = streams_without_stale now id ss in
    ap (λ (b : Bool). emit_events (production id b is_total_low None) (emit_expired now s.messages t)) (low ∙ low_there id bytes (λ x. without_stale now x) s ss at whole refl)
    ∙ ap (λ (b : Bool). emit_events (production id (falls_low id ss after) b None) (emit_expired now s.messages t)) (total ∙ total_there id bytes (λ x. without_stale now x) s ss at whole)
    ∙ ap (λ (x : Stream). emit_fallen id ss after (emit_expired now x.messages t)) (sym (stream_there id s ss at))

-- whether no message is left
pub left_nothing : (now id : ℕ) (s : Stream) (ss : Streams) → Some s ≡ lookup (is_at (nat_cmp id)) ss.entries → is_front_stale now s.messages ≡ true
    → Some (has_nothing (without_stale now s)) ≡ left_empty now (stream id ss).messages
left_nothing now id s ss at stale =
    ap (λ (x : Stream). Some (has_nothing (without_stale now x))) (sym (stream_there id s ss at))
    ∙ sym (ap (λ (b : Bool). cond b (Some (length (fresh now (stream id ss).messages) == 0)) None) (ap (λ (x : Stream). is_front_stale now x.messages) (stream_there id s ss at) ∙ stale))
