-- What a reset that is prepared emits stands behind what was emitted before, also where memory ran out, and announces nothing.
use Rattle.std.proofs.Common.{◌≡◌, ℕ, List, sym, subst, Result, Ok, Err, OnOk, OnErr}
use Rattle.sctp_state.specs.Events.{Emitted}
use Rattle.sctp_rx.specs.Delivery.{Extends}
use Rattle.sctp_rx.specs.ReassemblyQueue.{Reassembly}
use Rattle.sctp_reassembly.proofs.ExtendsLemmas.{extends_none}
use Rattle.sctp_tx_queue.specs.SendQueue.{Queue, stream}
use Rattle.sctp_tx_queue.specs.Resets.{prepare_reset}
use Rattle.sctp_tx_queue.specs.Interrupted.{Same}
use Rattle.sctp_endpoint.specs.GoesOn.{GrownQuietly}
use Rattle.sctp_endpoint.proofs.QuietLemmas.{quietly_same, quietly_as, quietly_waiting}

pub prepared_events : (id : ℕ) (q : Queue) (t u : Emitted (List ℕ)) → u ≡ (prepare_reset id q t).emitted → GrownQuietly t u
prepared_events id q t u e = quietly_as t (prepare_reset id q t).emitted u e (quietly_waiting (stream id q.streams).messages t)

pub same_events : (t u : Emitted (List ℕ)) → u ≡ t → GrownQuietly t u
same_events t u e = quietly_as t t u e (quietly_same t)

pub prepared_grown : {T F : Type 0} (r : Result T F) (id : ℕ) (q after : Queue) (t u : Emitted (List ℕ)) → OnOk r (u ≡ (prepare_reset id q t).emitted) → OnErr r (Same q t after u) → GrownQuietly t u
prepared_grown (Ok x) id q after t u ok err = prepared_events id q t u ok
prepared_grown (Err x) id q after t u ok err = same_events t u err.events

-- what was received stays as it is
pub extends_as : (old new : Reassembly) → new ≡ old → Extends old.ready new.ready
extends_as old new e = subst (λ (r : Reassembly). Extends old.ready r.ready) (sym e) (extends_none old.ready)
