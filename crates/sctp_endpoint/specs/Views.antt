-- What the program's values of an end say.
use Rattle.std.specs.Prelude.{ℕ, Bool, List}
use Rattle.rand_core.specs.Stream.{Stream}
use Rattle.sctp_state.specs.declared.api.SctpImplementation.{SctpImplementation}
use Rattle.sctp_state.specs.TxErrorCounter.{ErrorCounter}
use Rattle.sctp_state.specs.Events.{Emitted}
use Rattle.sctp_state.specs.Options.{Options}
use Rattle.sctp_capabilities.specs.Capabilities.{capabilities_of}
use Rattle.sctp_endpoint.specs.declared.transmission_control_block.Identity as given_identity
use Rattle.sctp_endpoint.specs.declared.transmission_control_block.TransmissionControlBlock as given_tcb
use Rattle.sctp_chunk.specs.declared.sack.SackChunk.{SackChunk}
use Rattle.sctp_packet.specs.Chunk.{SackTree}
use Rattle.sctp_tx_queue.specs.SendQueue.{Queue}
use Rattle.sctp_wire.specs.Parameter.{ParameterTree}
use Rattle.sctp_endpoint.specs.declared.state.Phase as given_phase
use Rattle.sctp_endpoint.specs.declared.state.Phase.TheVariants as phases
use Rattle.sctp_endpoint.specs.declared.state.State as given_state
use Rattle.sctp_endpoint.specs.declared.state.State.TheVariants as states
use Rattle.spec_endpoint.specs.Association.{Identity, Tcb, Phase, CookieEchoed, Established, ShutdownPending, ShutdownSent, ShutdownReceived, ShutdownAckSent, State, Closed, CookieWait, Open, Heartbeats, Counts, Context, EndpointState, Endpoint}
use Rattle.spec_endpoint.specs.Packets.{PacketDraft}
use Rattle.spec_endpoint.specs.Shutdown.{PhaseStep}
use Rattle.spec_endpoint.specs.Sending.{Filling, AfterSending}
use Rattle.spec_endpoint.specs.Timers.{TimerOutcome, Ticking, InitOutcome, timer_outcome, closed_if, init_outcome}
use Rattle.spec_endpoint.specs.StreamReset.{Handling, HandledParameters, handled_parameters}
use Rattle.spec_endpoint.specs.Input.{AfterChunk}
use Rattle.spec_endpoint.specs.Wire.{writing}

abbrev pub identity_of : given_identity.Identity → Identity
identity_of i = record {
  my_tag = i.my_verification_tag;
  my_first = i.my_initial_tsn.0;
  peer_tag = i.peer_verification_tag;
  peer_first = i.peer_initial_tsn.0;
  tie = i.tie_tag;
}

abbrev pub tcb_of : given_tcb.TransmissionControlBlock → Tcb
tcb_of t = record {
  identity = identity_of t.identity;
  capabilities = capabilities_of t.capabilities;
  tracker = t.data_tracker;
  reassembly = t.reassembly_queue;
  sender = t.retransmission_queue;
  rtt = t.rto;
  requests = t.reset_requests;
}

-- ---- states

abbrev pub phase_of : given_phase.Phase → Phase
phase_of (phases.CookieEchoed s) = CookieEchoed s.t1_cookie s.cookie.items
phase_of phases.Established = Established
phase_of phases.ShutdownPending = ShutdownPending
phase_of (phases.ShutdownSent t2) = ShutdownSent t2
phase_of phases.ShutdownReceived = ShutdownReceived
phase_of (phases.ShutdownAckSent t2) = ShutdownAckSent t2

abbrev pub state_of : given_state.State → State
state_of states.Closed = Closed
state_of (states.CookieWait s) = CookieWait s.verification_tag s.initial_tsn.0 s.t1_init
state_of (states.Open phase t) = Open (phase_of phase) (tcb_of t)

-- ---- what an end has in every state

pub record ContextValue (C : Type 0) : Type 0 where
  pub options : Options
  pub clock : ℕ
  pub queue : Queue
  pub forward_from : ℕ
  pub errors : ErrorCounter
  pub heartbeats : Heartbeats
  pub counts : Counts
  pub peer : SctpImplementation
  pub last_tag : ℕ
  pub emitted : Emitted (List ℕ)
  pub checksum : C

abbrev pub context_of : {C : Type 0} → (C → List ℕ → ℕ) → ContextValue C → Context (List ℕ)
context_of word_of c = record {
  options = c.options;
  now = c.clock;
  queue = c.queue;
  forward_from = c.forward_from;
  errors = c.errors;
  heartbeats = c.heartbeats;
  counts = c.counts;
  peer = c.peer;
  last_tag = c.last_tag;
  emitted = c.emitted;
  pack = writing (word_of c.checksum);
}

abbrev pub filling_of : {C : Type 0} → (C → List ℕ → ℕ) → PacketDraft → given_tcb.TransmissionControlBlock → ContextValue C → Filling (List ℕ)
filling_of word_of p t c = record { packet = p; tcb = tcb_of t; context = context_of word_of c }

abbrev pub endpoint_state_of : {C : Type 0} → (C → List ℕ → ℕ) → given_state.State → ContextValue C → EndpointState (List ℕ)
endpoint_state_of word_of s c = record { state = state_of s; context = context_of word_of c }

abbrev pub after_sending_of : {C : Type 0} → (C → List ℕ → ℕ) → given_tcb.TransmissionControlBlock → ContextValue C → AfterSending (List ℕ)
after_sending_of word_of t c = record { tcb = tcb_of t; context = context_of word_of c }

abbrev pub phase_step_of : {C : Type 0} → (C → List ℕ → ℕ) → given_phase.Phase → ContextValue C → PhaseStep (List ℕ)
phase_step_of word_of phase c = record { phase = phase_of phase; context = context_of word_of c }

abbrev pub ticking_of : {C : Type 0} → (C → List ℕ → ℕ) → given_tcb.TransmissionControlBlock → ContextValue C → (has_expired : Bool) → Ticking (List ℕ)
ticking_of word_of t c has_expired = record { tcb = tcb_of t; context = context_of word_of c; has_expired = has_expired }

abbrev pub timer_outcome_of : {C : Type 0} → (C → List ℕ → ℕ) → given_tcb.TransmissionControlBlock → ContextValue C → (has_ended : Bool) → TimerOutcome (List ℕ)
timer_outcome_of word_of t c has_ended = timer_outcome (tcb_of t) (context_of word_of c) has_ended

abbrev pub init_outcome_of : {C : Type 0} → (C → List ℕ → ℕ) → ContextValue C → (has_ended : Bool) → InitOutcome (List ℕ)
init_outcome_of word_of c has_ended = init_outcome (context_of word_of c) has_ended

-- what the parameters of a RE-CONFIG have done so far
abbrev pub handling_of : {C : Type 0} → (C → List ℕ → ℕ) → given_tcb.TransmissionControlBlock → ContextValue C → List ParameterTree → Handling (List ℕ)
handling_of word_of t c responses = record { tcb = tcb_of t; context = context_of word_of c; responses = responses }

abbrev pub handled_parameters_of : {C : Type 0} → (C → List ℕ → ℕ) → given_tcb.TransmissionControlBlock → ContextValue C → List ParameterTree → (is_whole : Bool) → HandledParameters (List ℕ)
handled_parameters_of word_of t c responses is_whole = handled_parameters is_whole (handling_of word_of t c responses)

-- an end that may have ended
abbrev pub endpoint_state_after : {C : Type 0} → (C → List ℕ → ℕ) → given_phase.Phase → given_tcb.TransmissionControlBlock → ContextValue C → (has_ended : Bool) → EndpointState (List ℕ)
endpoint_state_after word_of phase t c has_ended = closed_if has_ended (phase_of phase) (tcb_of t) (context_of word_of c)

abbrev pub opened_of : {C : Type 0} → (C → List ℕ → ℕ) → given_phase.Phase → given_tcb.TransmissionControlBlock → ContextValue C → EndpointState (List ℕ)
opened_of word_of phase t c = record { state = Open (phase_of phase) (tcb_of t); context = context_of word_of c }

-- an end with all that its generator will answer
abbrev pub endpoint_of : {R C : Type 0} → (R → Stream) → (C → List ℕ → ℕ) → given_state.State → ContextValue C → R → Endpoint (List ℕ)
endpoint_of stream_of word_of s c rng = record { endpoint_state = endpoint_state_of word_of s c; draws = stream_of rng }

abbrev pub opened_endpoint_of : {R C : Type 0} → (R → Stream) → (C → List ℕ → ℕ) → given_phase.Phase → given_tcb.TransmissionControlBlock → ContextValue C → R → Endpoint (List ℕ)
opened_endpoint_of stream_of word_of phase t c rng = record { endpoint_state = opened_of word_of phase t c; draws = stream_of rng }

-- an end, and whether the next chunk is looked at
abbrev pub after_chunk_of : {R C : Type 0} → (R → Stream) → (C → List ℕ → ℕ) → given_state.State → ContextValue C → R → (goes_on : Bool) → AfterChunk (List ℕ)
after_chunk_of stream_of word_of s c rng goes_on = record { end = endpoint_of stream_of word_of s c rng; allows_next = goes_on }

-- ---- a SACK that came

abbrev pub sack_of : SackChunk → SackTree
sack_of c = record {
  cumulative_tsn_ack = c.cumulative_tsn_ack.0;
  a_rwnd = c.a_rwnd;
  gap_ack_blocks = c.gap_ack_blocks.items;
  duplicate_tsns = c.duplicate_tsns.items;
}
