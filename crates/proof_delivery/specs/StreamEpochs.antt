-- Along a trace: the epoch of each message that an end accepted, and how often the other end emitted that its stream was reset. A stream is
-- open at first, in epoch 0. A reset that is answered Ok makes an open stream wait, and what is accepted from then on is of the next
-- epoch; the stream is open again once its end emits that the reset was performed.
use Rattle.std.specs.Prelude.{◌≡◌, ℕ, ◌+◌, ◌<◌, ◌≤◌, ◌==◌, ◌&&◌, not, Bool, true, false, cond, Some, List, [], ◌∷◌, ◌++◌, length, map, slice_get, slice_index}
use Rattle.std.specs.List.{list_any}
use Rattle.sctp_state.specs.Events.{Event, OnStreamsResetPerformed, OnStreamsResetFailed, OnIncomingStreamReset}
use Rattle.proof_endpoint.specs.Mapped.{Carried}
use Rattle.proof_pair.specs.Trace.{Pair, EndAction, goes, run, side_of}
use Rattle.proof_pair.specs.Handing.{messages_made_ready}
use Rattle.proof_delivery.specs.Accepted.{AcceptedMessage, accepted_at, accepted}
use Rattle.proof_delivery.specs.GivenUp.{emitted_by}
use Rattle.proof_delivery.specs.Justified.{reset_at}

pub record StreamEpoch : Type 0 where
  pub is_open : Bool
  pub epoch : ℕ

abbrev pub all_open : ℕ → StreamEpoch
all_open s = record { is_open = true; epoch = 0 }

abbrev pub are_named : List ℕ → ℕ → Bool
are_named streams s = list_any (λ i. i == s) streams

abbrev pub shut_if : Bool → StreamEpoch → StreamEpoch
shut_if b e = cond b (record { is_open = false; epoch = e.epoch + 1 }) e

-- these are to be reset: what is open of them waits
abbrev pub shut_streams : List ℕ → (ℕ → StreamEpoch) → ℕ → StreamEpoch
shut_streams streams f s = shut_if (are_named streams s && (f s).is_open) (f s)

abbrev pub opened_if : Bool → StreamEpoch → StreamEpoch
opened_if b e = record e { is_open = cond b true e.is_open }

-- they were
abbrev pub reopen : List ℕ → (ℕ → StreamEpoch) → ℕ → StreamEpoch
reopen streams f s = opened_if (are_named streams s) (f s)

-- ---- one action

-- the own streams whose reset is emitted as performed
abbrev pub performed_of : {P : Type 0} → List (Event P) → List ℕ
performed_of [] = []
performed_of (OnStreamsResetPerformed streams ∷ es) = streams ++ performed_of es
performed_of (e ∷ es) = performed_of es

-- true is end a: what is emitted at end x at an action of the end that acts
abbrev pub emitted_at : (x acts : Bool) → EndAction → Pair → List (Event Carried)
emitted_at true true action w = (emitted_by action w.a w.b).events
emitted_at false false action w = (emitted_by action w.b w.a).events
emitted_at x acts action w = []

abbrev pub epochs_after : (x acts : Bool) → EndAction → Pair → (ℕ → StreamEpoch) → ℕ → StreamEpoch
epochs_after x acts action w f = reopen (performed_of (emitted_at x acts action w)) (shut_streams (reset_at x acts action w) f)

-- ---- traces

-- the epoch of each message, in their order
abbrev pub epochs_of : List AcceptedMessage → (ℕ → StreamEpoch) → List ℕ
epochs_of offers f = map (λ (o : AcceptedMessage). (f o.message.stream).epoch) offers

abbrev pub message_epochs : (x : Bool) → List (Bool × EndAction) → Pair → (ℕ → StreamEpoch) → List ℕ
message_epochs x [] w f = []
message_epochs x (e ∷ es) w f = epochs_of (accepted_at x e.0 e.1 w) f ++ message_epochs x es (goes e.0 e.1 w) (epochs_after x e.0 e.1 w f)

-- how the streams stand behind these actions
abbrev pub epochs_along : (x : Bool) → List (Bool × EndAction) → Pair → (ℕ → StreamEpoch) → ℕ → StreamEpoch
epochs_along x [] w f = f
epochs_along x (e ∷ es) w f = epochs_along x es (goes e.0 e.1 w) (epochs_after x e.0 e.1 w f)

-- how often an end emitted that this stream of the other end was reset
abbrev pub resets_emitted : {P : Type 0} → ℕ → List (Event P) → ℕ
resets_emitted s [] = 0
resets_emitted s (OnIncomingStreamReset streams ∷ es) = cond (are_named streams s) (1 + resets_emitted s es) (resets_emitted s es)
resets_emitted s (e ∷ es) = resets_emitted s es

abbrev pub emitted_along : (x : Bool) → List (Bool × EndAction) → Pair → List (Event Carried)
emitted_along x trace w = (side_of x (run trace w)).emitted

-- ---- what is observed

-- Each message that became ready at an action is of an epoch between the resets of its stream that its end emitted before that action, and those
-- that it emitted up to its end.
pub record AreInTheirEpochs (from_a : Bool) (trace : List (Bool × EndAction)) (w : Pair) (places : List ℕ) : Type 0 where
  pub least : (early late : List (Bool × EndAction)) (e : Bool × EndAction) → trace ≡ early ++ e ∷ late → (k n : ℕ) (o : AcceptedMessage)
      → length (messages_made_ready (not from_a) early w) ≤ k → k < length (messages_made_ready (not from_a) (early ++ e ∷ []) w)
      → slice_get (accepted from_a trace w) (slice_index places k) ≡ Some o → slice_get (message_epochs from_a trace w all_open) (slice_index places k) ≡ Some n
      → resets_emitted o.message.stream (emitted_along (not from_a) early w) ≤ n
  pub most : (early late : List (Bool × EndAction)) (e : Bool × EndAction) → trace ≡ early ++ e ∷ late → (k n : ℕ) (o : AcceptedMessage)
      → length (messages_made_ready (not from_a) early w) ≤ k → k < length (messages_made_ready (not from_a) (early ++ e ∷ []) w)
      → slice_get (accepted from_a trace w) (slice_index places k) ≡ Some o → slice_get (message_epochs from_a trace w all_open) (slice_index places k) ≡ Some n
      → n ≤ resets_emitted o.message.stream (emitted_along (not from_a) (early ++ e ∷ []) w)

-- no reset is emitted as failed
abbrev pub failed_in : {P : Type 0} → List (Event P) → Bool
failed_in [] = false
failed_in (OnStreamsResetFailed streams ∷ es) = true
failed_in (e ∷ es) = failed_in es

abbrev pub NoneIsRefused : List (Bool × EndAction) → Pair → Type 0
NoneIsRefused trace w = (x : Bool) → failed_in (emitted_along x trace w) ≡ false
