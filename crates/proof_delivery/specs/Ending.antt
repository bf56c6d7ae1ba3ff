-- Where one more action of a trace may end an association: what the end emits before that.
use Rattle.std.specs.Prelude.{◌≡◌, ◌^◌, ◌<◌, not, Bool, false, List, [], ◌∷◌, ◌++◌, length, take}
use Rattle.rand_core.specs.Stream.{Stream}
use Rattle.sctp_state.specs.Events.{Event}
use Rattle.sctp_state.specs.Options.{Options}
use Rattle.spec_endpoint.specs.Laws.{endings}
use Rattle.proof_endpoint.specs.Mapped.{Carried}
use Rattle.proof_pair.specs.Trace.{Pair, EndAction, goes, run, side_of, KeepsRules, NoAssociationHasEnded, AreValidOptions, start}
use Rattle.proof_pair.specs.Handing.{messages_made_ready}
use Rattle.proof_delivery.specs.Accepted.{accepted}
use Rattle.proof_delivery.specs.GivenUp.{emitted_by}
use Rattle.proof_delivery.specs.Windows.{numbered, Stamps, no_stamps, stamps_after, stamps_for, IsTimely, KeepsWindows, KeepsLimits}
use Rattle.proof_delivery.specs.Answered.{KeepsResets}
use Rattle.proof_delivery.specs.StreamEpochs.{failed_in}
use Rattle.proof_delivery.specs.Delivery.{ReportsAreTrue, Delivers}

-- the stamps of all packets behind these actions
abbrev pub stamps_along : List (Bool × EndAction) → Pair → Stamps → Stamps
stamps_along [] w s = s
stamps_along (e ∷ es) w s = stamps_along es (goes e.0 e.1 w) (stamps_after e.0 e.1 w s)

-- what a trace has to keep, and one more action of this end; behind it the windows and the requests are asked for no more
pub record IsInBoundsThen (from_a : Bool) (trace : List (Bool × EndAction)) (last : EndAction) (w : Pair) : Type 0 where
  pub windows : KeepsWindows trace w no_stamps
  pub timely : IsTimely last (numbered (run trace w)) (stamps_for from_a (stamps_along trace w no_stamps))
  pub resets : KeepsResets trace w
  pub few : length (accepted from_a (trace ++ (from_a, last) ∷ []) w) < 2 ^ 32
  pub limits : KeepsLimits (trace ++ (from_a, last) ∷ [])

-- The list of places that serves the trace serves what the sender emits at that action too, up to the first end of an association; nor
-- does it emit up to there that a reset failed.
pub record DeliversThen (from_a : Bool) (trace : List (Bool × EndAction)) (last : EndAction) (w : Pair) : Type 0 where
  pub delivers : Delivers from_a trace w
  pub reports : (early late : List (Event Carried)) → (emitted_by last (side_of from_a (run trace w)) (side_of (not from_a) (run trace w))).events ≡ early ++ late
      → endings early ≡ 0
      → ReportsAreTrue (accepted from_a (trace ++ (from_a, last) ∷ []) w) ((side_of from_a (run trace w)).emitted ++ early)
      (take (length (messages_made_ready (not from_a) trace w)) delivers.places)
  pub none_refused : (early late : List (Event Carried)) → (emitted_by last (side_of from_a (run trace w)) (side_of (not from_a) (run trace w))).events ≡ early ++ late
      → endings early ≡ 0 → failed_in ((side_of from_a (run trace w)).emitted ++ early) ≡ false

-- Along each trace that follows the rules, and one more action, which may end an association.
abbrev pub MessagesAreDeliveredThen : Type 0
MessagesAreDeliveredThen =
    (a b : Options) (draws_a draws_b : Stream) (trace : List (Bool × EndAction)) (from_a : Bool) (last : EndAction) → AreValidOptions a → AreValidOptions b
    → KeepsRules (trace ++ (from_a, last) ∷ []) (start a b draws_a draws_b) → NoAssociationHasEnded (run trace (start a b draws_a draws_b))
    → IsInBoundsThen from_a trace last (start a b draws_a draws_b) → DeliversThen from_a trace last (start a b draws_a draws_b)
