-- What a threshold that is set emits stands behind what was emitted before, also where memory ran out, and announces nothing.
use Rattle.std.proofs.Common.{◌≡◌, ℕ, List, Result, Ok, Err, OnOk, OnErr}
use Rattle.sctp_state.specs.Events.{Emitted}
use Rattle.sctp_state.specs.ThresholdWatcher.{crosses}
use Rattle.sctp_tx_queue.specs.SendQueue.{Queue, Stream, stream, watched_amount}
use Rattle.sctp_tx_queue.specs.Interrupted.{Same}
use Rattle.sctp_tx_queue.specs.Settings.{set_low_threshold, with_threshold}
use Rattle.sctp_endpoint.specs.GoesOn.{GrownQuietly}
use Rattle.sctp_endpoint.proofs.QuietLemmas.{quietly_same, quietly_as, quietly_low}

pub threshold_events : (id bytes : ℕ) (q : Queue) (t u : Emitted (List ℕ)) → u ≡ (set_low_threshold id bytes q t).emitted → GrownQuietly t u
threshold_events id bytes q t u e =
    let s : Stream = stream id q.streams in
    quietly_as t (set_low_threshold id bytes q t).emitted u e (quietly_low (crosses (watched_amount s) (watched_amount (with_threshold bytes s))) id t)

pub same_events : (t u : Emitted (List ℕ)) → u ≡ t → GrownQuietly t u
same_events t u e = quietly_as t t u e (quietly_same t)

pub threshold_grown : {T F : Type 0} (r : Result T F) (id bytes : ℕ) (q after : Queue) (t u : Emitted (List ℕ)) → OnOk r (u ≡ (set_low_threshold id bytes q t).emitted) → OnErr r (Same q t after u) → GrownQuietly t u
threshold_grown (Ok x) id bytes q after t u ok err = threshold_events id bytes q t u ok
threshold_grown (Err x) id bytes q after t u ok err = same_events t u err.events
