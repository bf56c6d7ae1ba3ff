-- A socket: an end with its generator, which fails for good where memory is wanting.
use Rattle.std.specs.Prelude.{◌≡◌, ◌⊎◌, ℕ, Bool, true, false, Option, Some, None, Result, Ok, Err, List, []}
use Rattle.rand_core.specs.Stream.{Stream}
use Rattle.sctp_state.specs.declared.api.errors.CallError.{CallError}
use Rattle.sctp_state.specs.declared.api.errors.CallError.TheVariants as calls
use Rattle.sctp_state.specs.declared.api.errors.ResetStreamsError.{ResetStreamsError}
use Rattle.sctp_state.specs.declared.api.errors.ResetStreamsError.TheVariants as resets
use Rattle.sctp_state.specs.declared.api.errors.SendError.{SendError}
use Rattle.sctp_state.specs.declared.api.errors.SendError.TheVariants as sends
use Rattle.sctp_state.specs.declared.api.errors.BatchFault.{BatchFault}
use Rattle.sctp_state.specs.declared.api.errors.BatchFault.TheVariants as batches
use Rattle.sctp_state.specs.declared.api.errors.HandoverError.{HandoverError}
use Rattle.sctp_state.specs.declared.api.errors.HandoverError.TheVariants as handovers
use Rattle.sctp_state.specs.declared.api.errors.RestoreError.{RestoreError}
use Rattle.sctp_state.specs.declared.api.errors.RestoreError.TheVariants as restores
use Rattle.sctp_state.specs.declared.api.handover.SocketHandoverState.{SocketHandoverState}
use Rattle.sctp_state.specs.Events.{Grown}
use Rattle.sctp_state.specs.Handover.{HandoverState}
use Rattle.sctp_rx.specs.Delivery.{Extends}
use Rattle.spec_endpoint.specs.Association.{State, Endpoint}
use Rattle.sctp_endpoint.specs.declared.transmission_control_block.Association as given_association
use Rattle.sctp_endpoint.specs.GoesOn.{GrownQuietly, HoldsAnnounced}
use Rattle.sctp_endpoint.specs.Views.{ContextValue, context_of}
use Rattle.spec_endpoint.specs.Calls.{ready_in}
use Rattle.spec_endpoint.specs.Shown.{Association, association_in}

pub record SocketValue (R C : Type 0) : Type 0 where
  pub has_failed : Bool
  pub state : State
  pub context : ContextValue C
  pub rng : R

abbrev pub association_of : given_association.Association → Association
association_of a = record {
  my_tag = a.my_tag;
  my_initial_tsn = a.my_initial_tsn.0;
  peer_tag = a.peer_tag;
  peer_initial_tsn = a.peer_initial_tsn.0;
}

-- the end that a socket is
abbrev pub endpoint : {R C : Type 0} → (R → Stream) → (C → List ℕ → ℕ) → SocketValue R C → Endpoint (List ℕ)
endpoint stream_of word_of s = record {
  endpoint_state = record { state = s.state; context = context_of word_of s.context };
  draws = stream_of s.rng;
}

-- ---- how a changing call ends

pub data Ending : Type 0 where
  Worked : Ending
  RanOut : Ending  -- of memory
  HadFailed : Ending

abbrev pub ending_of : Result (Unit {0}) CallError → Ending
ending_of (Ok done) = Worked
ending_of (Err calls.Memory) = RanOut
ending_of (Err calls.Failed) = HadFailed

abbrev pub ending_by : SendError → Ending
ending_by sends.EmptyPayload = Worked
ending_by (sends.MessageTooLarge len limit) = Worked
ending_by sends.ShuttingDown = Worked
ending_by sends.ResourceExhaustion = Worked
ending_by sends.Memory = RanOut
ending_by sends.Failed = HadFailed

-- a refusal by name leaves the socket working
abbrev pub sending_ending : Result (Unit {0}) SendError → Ending
sending_ending (Ok done) = Worked
sending_ending (Err e) = ending_by e

abbrev pub batch_ending : Result (Unit {0}) BatchFault → Ending
batch_ending (Ok done) = Worked
batch_ending (Err (batches.Refused e)) = Worked
batch_ending (Err batches.Memory) = RanOut
batch_ending (Err batches.Failed) = HadFailed

abbrev pub handover_ending : Result SocketHandoverState HandoverError → Ending
handover_ending (Ok h) = Worked
handover_ending (Err (handovers.NotReady r)) = Worked
handover_ending (Err handovers.Memory) = RanOut
handover_ending (Err handovers.Failed) = HadFailed

abbrev pub restore_ending_by : RestoreError → Ending
restore_ending_by restores.SocketNotClosed = Worked
restore_ending_by restores.InvalidState = Worked
restore_ending_by restores.Memory = RanOut
restore_ending_by restores.Failed = HadFailed

abbrev pub restore_ending : Result (Unit {0}) RestoreError → Ending
restore_ending (Ok done) = Worked
restore_ending (Err e) = restore_ending_by e

abbrev pub resetting_by : ResetStreamsError → Ending
resetting_by resets.NotConnected = Worked
resetting_by resets.NotSupported = Worked
resetting_by resets.Memory = RanOut
resetting_by resets.Failed = HadFailed

abbrev pub resetting_ending : Result (Unit {0}) ResetStreamsError → Ending
resetting_ending (Ok done) = Worked
resetting_ending (Err e) = resetting_by e

-- One on a socket that has failed changes nothing; one that found too little memory makes it fail.
abbrev pub Ends : {R C : Type 0} → Ending → (before after : SocketValue R C) → Type 0
Ends Worked before after = (before.has_failed ≡ false) × (after.has_failed ≡ false)
Ends RanOut before after = (before.has_failed ≡ false) × (after.has_failed ≡ true)
Ends HadFailed before after = (before.has_failed ≡ true) × (after ≡ before)

-- What a call leaves where memory ran out in it: what was emitted before, with more behind it that announces no association, and the
-- association, with the messages that were ready, and more behind them.
pub record LeavesAtMemory {R C : Type 0} (before after : SocketValue R C) : Type 0 where
  pub emitted : GrownQuietly before.context.emitted after.context.emitted
  pub association : association_in after.state ≡ association_in before.state
  pub ready : Extends (ready_in before.state) (ready_in after.state)

-- the association that a record stands for
abbrev pub association_from : HandoverState → Association
association_from h = record {
  my_tag = h.my_verification_tag;
  my_initial_tsn = h.my_initial_tsn;
  peer_tag = h.peer_verification_tag;
  peer_initial_tsn = h.peer_initial_tsn;
}

-- The same of a call that takes up a record: the association is the one before, or the record's, and one that was announced is held.
pub record LeavesRestoring {R C : Type 0} (h : HandoverState) (before after : SocketValue R C) : Type 0 where
  pub emitted : Grown before.context.emitted after.context.emitted
  pub held : HoldsAnnounced before.context.emitted after.context.emitted after.state
  pub association : (association_in after.state ≡ association_in before.state) ⊎ (association_in after.state ≡ Some (association_from h))
  pub ready : Extends (ready_in before.state) (ready_in after.state)

abbrev pub refusal_in : {E : Type 0} → Result (Unit {0}) E → Option E
refusal_in (Ok done) = None
refusal_in (Err e) = Some e

abbrev pub refusals_in : Result (Unit {0}) BatchFault → List (ℕ × SendError)
refusals_in (Ok done) = []
refusals_in (Err (batches.Refused e)) = e.0.items
refusals_in (Err batches.Memory) = []
refusals_in (Err batches.Failed) = []

-- what stands in the way of a handover: nothing, where there is a record
abbrev pub readiness_in : Result SocketHandoverState HandoverError → ℕ
readiness_in (Ok h) = 0
readiness_in (Err (handovers.NotReady r)) = r.0
readiness_in (Err handovers.Memory) = 0
readiness_in (Err handovers.Failed) = 0
