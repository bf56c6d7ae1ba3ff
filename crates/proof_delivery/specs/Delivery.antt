-- What becomes ready at an end are messages that the other end accepted, and the others are given up or still on their way.
use Rattle.std.specs.Prelude.{◌≡◌, ◌≢◌, ℕ, ◌^◌, ◌<◌, not, Bool, true, false, ◌⊎◌, Option, Some, option_map, List, [], ◌∷◌, ◌++◌, length, map, take, slice_get, slice_index}
use Rattle.rand_core.specs.Stream.{Stream}
use Rattle.sctp_serial.specs.Messages.{Message}
use Rattle.sctp_state.specs.Events.{Event}
use Rattle.sctp_state.specs.Options.{Options, plainly}
use Rattle.proof_protocol.specs.State.{has}
use Rattle.proof_refines.specs.Reachable.{delivered_ids}
use Rattle.proof_refines.specs.Records.{are_distinct}
use Rattle.proof_endpoint.specs.Mapped.{Carried}
use Rattle.proof_pair.specs.Trace.{Pair, EndAction, run, side_of, KeepsRules, NoAssociationHasEnded, AreValidOptions, start}
use Rattle.proof_pair.specs.Handing.{messages_made_ready, text, two_come}
use Rattle.proof_pair.specs.Opens.{at_first}
use Rattle.proof_delivery.specs.Accepted.{AcceptedMessage, accepted}
use Rattle.proof_delivery.specs.GivenUp.{given_up, IsAtRest}
use Rattle.proof_delivery.specs.Windows.{no_stamps, KeepsWindows, KeepsLimits}
use Rattle.proof_delivery.specs.Answered.{KeepsResets}
use Rattle.proof_delivery.specs.StreamEpochs.{AreInTheirEpochs, NoneIsRefused}

-- ---- what is observed

-- the message that was accepted at this place
abbrev pub message_at : List AcceptedMessage → ℕ → Option Message
message_at offers place = option_map (λ (o : AcceptedMessage). o.message) (slice_get offers place)

-- ordered ones of one stream
pub record AreOrderedOnOneStream (o p : AcceptedMessage) : Type 0 where
  pub first : o.options.unordered ≡ false
  pub second : p.options.unordered ≡ false
  pub stream : o.message.stream ≡ p.message.stream

-- The ready messages are those accepted at these places, byte for byte, each once; on each stream ordered ones in the order of
-- acceptance.
pub record Fits (offers : List AcceptedMessage) (ready : List Message) (places : List ℕ) : Type 0 where
  pub alike : map (message_at offers) places ≡ map (λ (m : Message). Some m) ready
  pub distinct : (j k : ℕ) → j < k → k < length places → slice_index places j ≢ slice_index places k
  pub rising : (j k : ℕ) → j < k → k < length places → (o p : AcceptedMessage) → slice_get offers (slice_index places j) ≡ Some o
      → slice_get offers (slice_index places k) ≡ Some p → AreOrderedOnOneStream o p → slice_index places j < slice_index places k

-- an ordered message that isn't ready, while a later one of its stream is, was given up
abbrev pub SkippedAreGivenUp : List AcceptedMessage → (abandoned places : List ℕ) → Type 0
SkippedAreGivenUp offers abandoned places =
    (p q : ℕ) (o r : AcceptedMessage) → slice_get offers p ≡ Some o → slice_get offers q ≡ Some r → AreOrderedOnOneStream o r → p < q → has q places ≡ true
    → has p places ≡ false → has p abandoned ≡ true

-- a message with this lifecycle id is ready
pub record IsReady (offers : List AcceptedMessage) (places : List ℕ) (id : ℕ) : Type 0 where
  pub place : ℕ
  pub offer : AcceptedMessage
  pub there : slice_get offers place ≡ Some offer
  pub its_id : offer.options.lifecycle_id ≡ Some id
  pub is_ready : has place places ≡ true

-- so it is of each id that was reported as delivered
abbrev pub ReportsAreTrue : List AcceptedMessage → List (Event Carried) → (places : List ℕ) → Type 0
ReportsAreTrue offers emitted places = (id : ℕ) → has id (delivered_ids emitted) ≡ true → IsReady offers places id

-- each message is ready, or was given up
abbrev pub AllAreDone : List AcceptedMessage → (abandoned places : List ℕ) → Type 0
AllAreDone offers abandoned places = (p : ℕ) → p < length offers → (has p places ≡ true) ⊎ (has p abandoned ≡ true)

-- One list of places serves all along the trace: at each point its beginning fits, and says what became of the other messages.
-- True is the direction from a to b.
pub record Delivers (from_a : Bool) (trace : List (Bool × EndAction)) (w : Pair) : Type 0 where
  pub places : List ℕ
  pub fits : (early late : List (Bool × EndAction)) → trace ≡ early ++ late
      → Fits (accepted from_a early w) (messages_made_ready (not from_a) early w) (take (length (messages_made_ready (not from_a) early w)) places)
  pub skipped : (early late : List (Bool × EndAction)) → trace ≡ early ++ late
      → SkippedAreGivenUp (accepted from_a early w) (given_up from_a early w) (take (length (messages_made_ready (not from_a) early w)) places)
  pub reports : (early late : List (Bool × EndAction)) → trace ≡ early ++ late
      → ReportsAreTrue (accepted from_a early w) (side_of from_a (run early w)).emitted (take (length (messages_made_ready (not from_a) early w)) places)
  -- no two records of the sender name the same message
  pub once : (early late : List (Bool × EndAction)) → trace ≡ early ++ late → are_distinct (given_up from_a early w) ≡ true
  pub rest : (early late : List (Bool × EndAction)) → trace ≡ early ++ late → IsAtRest (side_of from_a (run early w))
      → AllAreDone (accepted from_a early w) (given_up from_a early w) (take (length (messages_made_ready (not from_a) early w)) places)
  -- each message becomes ready in its epoch
  pub epochs : AreInTheirEpochs from_a trace w places

-- ---- the law

-- what a trace has to keep
pub record IsInBounds (trace : List (Bool × EndAction)) (w : Pair) : Type 0 where
  pub windows : KeepsWindows trace w no_stamps
  pub resets : KeepsResets trace w
  pub few : (from_a : Bool) → length (accepted from_a trace w) < 2 ^ 32
  -- so that each message has fewer than 2^32 bytes, hence fragments: I-DATA counts them by 32 bits (RFC 8260 section 2.1)
  pub limits : KeepsLimits trace

-- Along each trace that follows the rules, until an association first ends.
abbrev pub MessagesAreDelivered : Type 0
MessagesAreDelivered =
    (a b : Options) (draws_a draws_b : Stream) (trace : List (Bool × EndAction)) → AreValidOptions a → AreValidOptions b
    → KeepsRules trace (start a b draws_a draws_b) → NoAssociationHasEnded (run trace (start a b draws_a draws_b))
    → IsInBounds trace (start a b draws_a draws_b) → (from_a : Bool) → Delivers from_a trace (start a b draws_a draws_b)

-- and no end emits that a reset failed
abbrev pub NoResetIsRefused : Type 0
NoResetIsRefused =
    (a b : Options) (draws_a draws_b : Stream) (trace : List (Bool × EndAction)) → AreValidOptions a → AreValidOptions b
    → KeepsRules trace (start a b draws_a draws_b) → NoAssociationHasEnded (run trace (start a b draws_a draws_b))
    → IsInBounds trace (start a b draws_a draws_b) → NoneIsRefused trace (start a b draws_a draws_b)

-- ---- such a trace, computed: two messages are accepted, and become ready

abbrev pub plain : (byte : ℕ) → AcceptedMessage
plain byte = record { message = text byte; options = plainly }

pub record TwoAreDelivered : Type 0 where
  pub follows : KeepsRules two_come at_first
  pub not_ended : NoAssociationHasEnded (run two_come at_first)
  pub bounds : IsInBounds two_come at_first
  pub accepts : accepted true two_come at_first ≡ plain 97 ∷ plain 98 ∷ []
  pub readies : messages_made_ready false two_come at_first ≡ text 97 ∷ text 98 ∷ []
