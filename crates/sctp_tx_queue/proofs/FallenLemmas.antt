-- Amounts that fall to their thresholds as messages are dropped.
use Rattle.std.proofs.Common.{◌≡◌, ℕ, ◌+◌, ◌-◌, ◌==◌, Bool, true, false, cond, List, [], ◌∷◌, Some, None, refl, ap, sym, ◌∙◌, arith, append-nil}
use Rattle.std.specs.Prelude.{◌&&◌}
use Rattle.std.specs.Map.{lookup}
use Rattle.std.specs.Ordering.{nat_cmp}
use Rattle.std.specs.BTreeMap.{is_at}
use Rattle.std.proofs.lemmas.Bool.Decides.{nat_tests}
use Rattle.sctp_state.specs.Events.{Event, Emitted, emit_events}
use Rattle.sctp_state.specs.ThresholdWatcher.{Watched, crosses, lower}
use Rattle.sctp_tx_queue.specs.SendQueue.{Queued, Stream, Streams, amount_of, total_of, watched_amount, watched_total, stream, put_stream}
use Rattle.sctp_tx_queue.specs.Produced.{production, falls_low, total_falls_low, emit_fallen, pause_if_pending}
use Rattle.sctp_tx_queue.specs.Settings.{without_front}
use Rattle.sctp_tx_queue.proofs.StreamLemmas.{crosses_same}
use Rattle.sctp_tx_queue.proofs.StreamsLemmas.{put_nowhere, stream_there, changed_there, total_written, amount_at_most}

-- ---- none falls where nothing is dropped

crosses_nothing : (w : Watched) → crosses w w ≡ false
crosses_nothing w = grind (arith, nat_tests)

and_false : (a b : Bool) → b ≡ false → (a && b) ≡ false
and_false a b h = grind arith

low_nothing : (id : ℕ) (ss : Streams) → falls_low id ss ss ≡ false
low_nothing id ss = and_false ss.avoids_stalls (crosses (watched_amount (stream id ss)) (watched_amount (stream id ss))) (crosses_nothing (watched_amount (stream id ss)))

total_nothing : (ss : Streams) → total_falls_low ss ss ≡ false
total_nothing ss = and_false ss.avoids_stalls (crosses (watched_total ss) (watched_total ss)) (crosses_nothing (watched_total ss))

pub nothing_falls : {P : Type 0} (id : ℕ) (ss : Streams) (t : Emitted P) → emit_fallen id ss ss t ≡ t
nothing_falls {P} id ss t =
    ap (λ (b : Bool). emit_events (production id b (total_falls_low ss ss) None) t) (and_false ss.avoids_stalls (crosses (watched_amount (stream id ss)) (watched_amount (stream id ss))) (crosses_nothing (watched_amount (stream id ss))))
    ∙ ap (λ (b : Bool). emit_events (production id false b None) t) (and_false ss.avoids_stalls (crosses (watched_total ss) (watched_total ss)) (crosses_nothing (watched_total ss)))
    ∙ ap (λ (es : List (Event P)). let x : Emitted P = record t { events = es } in x) (append-nil t.events)

-- no stream is changed that isn't there
pub low_nowhere : (id : ℕ) (t : Stream) (ss : Streams) → None ≡ lookup (is_at (nat_cmp id)) ss.entries → false ≡ falls_low id ss (put_stream id t ss)
low_nowhere id t ss none = sym (ap (λ (x : Streams). falls_low id ss x) (put_nowhere id t ss none) ∙ low_nothing id ss)

pub total_nowhere : (id : ℕ) (t : Stream) (ss : Streams) → None ≡ lookup (is_at (nat_cmp id)) ss.entries → false ≡ total_falls_low ss (put_stream id t ss)
total_nowhere id t ss none = sym (ap (λ (x : Streams). total_falls_low ss x) (put_nowhere id t ss none) ∙ total_nothing ss)

-- ---- what is known of one stream says it of all

-- these bytes are what the change takes off
pub low_there : (id bytes : ℕ) (f : Stream → Stream) (s : Stream) (ss : Streams) → Some s ≡ lookup (is_at (nat_cmp id)) ss.entries → bytes + amount_of (f s) ≡ amount_of s → (f s).threshold ≡ s.threshold
    → (ss.avoids_stalls && crosses (watched_amount s) (lower bytes (watched_amount s))) ≡ falls_low id ss (put_stream id (f (stream id ss)) ss)
low_there id bytes f s ss at whole threshold =
    ap (λ (b : Bool). ss.avoids_stalls && b) (crosses_same (watched_amount s) (lower bytes (watched_amount s)) (watched_amount s) (watched_amount (f s)) refl refl left (sym threshold))
    ∙ ap (λ (x : Stream). ss.avoids_stalls && crosses (watched_amount x) (watched_amount (f x))) (sym (stream_there id s ss at))
    ∙ ap (λ (y : Stream). ss.avoids_stalls && crosses (watched_amount (stream id ss)) (watched_amount y)) (sym (changed_there id s (f (stream id ss)) ss at))
  where
    left : amount_of s - bytes ≡ amount_of (f s)
    left = omega (arith, whole)

pub total_there : (id bytes : ℕ) (f : Stream → Stream) (s : Stream) (ss : Streams) → Some s ≡ lookup (is_at (nat_cmp id)) ss.entries → bytes + amount_of (f s) ≡ amount_of s
    → (ss.avoids_stalls && crosses (watched_total ss) (lower bytes (watched_total ss))) ≡ total_falls_low ss (put_stream id (f (stream id ss)) ss)
total_there id bytes f s ss at whole =
    ap (λ (b : Bool). ss.avoids_stalls && b) (crosses_same (watched_total ss) (lower bytes (watched_total ss)) (watched_total ss) (watched_total (put_stream id (f (stream id ss)) ss)) refl refl left refl)
  where
    left : total_of ss.entries - bytes ≡ total_of (put_stream id (f (stream id ss)) ss).entries
    left =
        let sums = total_written id ss.entries s (f (stream id ss)) at in
        let same = ap (λ (t : Stream). amount_of (f t)) (stream_there id s ss at) in
        omega (arith, sums, same, whole, amount_at_most id ss.entries s at)

-- without the message at the front a stream has the same threshold
pub without_threshold : (number : ℕ) (ms : List Queued) (s : Stream) → (without_front number ms s).threshold ≡ s.threshold
without_threshold number [] s = refl
without_threshold number (m ∷ rest) s = go (m.number == number)
  where
    go : (b : Bool) → (cond b (record s { messages = rest; pause = pause_if_pending s.pause }) s).threshold ≡ s.threshold
    go true = refl
    go false = refl
