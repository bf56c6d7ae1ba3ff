-- What a call leaves of an end's context, also where memory ran out in it.
use Rattle.std.specs.Prelude.{◌≡◌, ◌⊎◌, ℕ, Bool, true, false, filter, length, is_some}
use Rattle.sctp_state.specs.Events.{Event, Emitted, Grown, SendPacket, OnConnected, OnClosed, OnConnectionRestarted, OnAborted, OnError, OnBufferedAmountLow, OnTotalBufferedAmountLow, OnStreamsResetFailed, OnStreamsResetPerformed, OnIncomingStreamReset, OnLifecycleMessageFullySent, OnLifecycleMessageMaybeExpired, OnLifecycleMessageExpired, OnLifecycleMessageDelivered, OnLifecycleEnd}
use Rattle.spec_endpoint.specs.Association.{State}
use Rattle.spec_endpoint.specs.Shown.{association_in}
use Rattle.sctp_endpoint.specs.Views.{ContextValue}

-- whether an event says that there is an association
abbrev pub announces : {P : Type 0} → Event P → Bool
announces (SendPacket packet) = false
announces OnConnected = true
announces OnClosed = false
announces OnConnectionRestarted = true
announces (OnAborted kind text) = false
announces (OnError kind text) = false
announces (OnBufferedAmountLow stream) = false
announces OnTotalBufferedAmountLow = false
announces (OnStreamsResetFailed streams) = false
announces (OnStreamsResetPerformed streams) = false
announces (OnIncomingStreamReset streams) = false
announces (OnLifecycleMessageFullySent id) = false
announces (OnLifecycleMessageMaybeExpired id) = false
announces (OnLifecycleMessageExpired id) = false
announces (OnLifecycleMessageDelivered id) = false
announces (OnLifecycleEnd id) = false

-- how many of these say so
abbrev pub announcements : {P : Type 0} → Emitted P → ℕ
announcements t = length (filter announces t.events)

-- what was emitted stands, and more may stand behind it, which announces no association
pub record GrownQuietly {P : Type 0} (old now : Emitted P) : Type 0 where
  pub stands : Grown old now
  pub announced : announcements now ≡ announcements old

-- the same of a context's events; no message more counts as accepted
pub record GoesOn {C : Type 0} (old now : ContextValue C) : Type 0 where
  pub emitted : GrownQuietly old.emitted now.emitted
  pub accepted : now.counts.tx_messages ≡ old.counts.tx_messages

-- The same, but that more events of any kind may stand behind those that were emitted.
pub record Continues {C : Type 0} (old now : ContextValue C) : Type 0 where
  pub emitted : Grown old.emitted now.emitted
  pub accepted : now.counts.tx_messages ≡ old.counts.tx_messages

-- where an association was announced there is one
abbrev pub HoldsAnnounced : {P : Type 0} → (old now : Emitted P) → State → Type 0
HoldsAnnounced old now state = (announcements now ≡ announcements old) ⊎ (is_some (association_in state) ≡ true)

-- The same as `Continues`, and an association that was announced since is held in this state.
pub record GoesOnWith {C : Type 0} (old now : ContextValue C) (state : State) : Type 0 where
  pub emitted : Grown old.emitted now.emitted
  pub accepted : now.counts.tx_messages ≡ old.counts.tx_messages
  pub held : HoldsAnnounced old.emitted now.emitted state
