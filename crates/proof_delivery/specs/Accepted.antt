-- Along a trace: the messages that an end accepted, each with the options of its sending, by their places.
use Rattle.std.specs.Prelude.{Bool, true, false, Option, Some, None, List, [], ◌∷◌, ◌++◌}
use Rattle.sctp_serial.specs.Messages.{Message}
use Rattle.sctp_state.specs.declared.api.SocketState.{SocketState}
use Rattle.sctp_state.specs.declared.api.errors.SendError.{SendError}
use Rattle.sctp_state.specs.Options.{SendOptions}
use Rattle.spec_endpoint.specs.Association.{Context}
use Rattle.spec_endpoint.specs.Calls.{shown_state, send_refusal, offer}
use Rattle.spec_endpoint.specs.Laws.{Call, Send, SendMany}
use Rattle.proof_endpoint.specs.Mapped.{Carried}
use Rattle.proof_pair.specs.Trace.{Side, Pair, EndAction, Calls, goes, state_of}

pub record AcceptedMessage : Type 0 where
  pub message : Message
  pub options : SendOptions

-- ---- one action

abbrev pub unless_refused : (refusal : Option SendError) → Message → SendOptions → List AcceptedMessage
unless_refused None m o = record { message = m; options = o } ∷ []
unless_refused (Some e) m o = []

-- of several, one after the other
abbrev pub accepted_of : List Message → SendOptions → SocketState → Context Carried → List AcceptedMessage
accepted_of [] o shown c = []
accepted_of (m ∷ ms) o shown c = unless_refused (send_refusal m shown c) m o ++ accepted_of ms o shown (offer m o shown c)

abbrev pub accepted_by : Call → Side → List AcceptedMessage
accepted_by (Send m o) x = accepted_of (m ∷ []) o (shown_state (state_of x)) x.end.endpoint_state.context
accepted_by (SendMany ms o) x = accepted_of ms o (shown_state (state_of x)) x.end.endpoint_state.context
accepted_by call x = []

abbrev pub accepted_in : EndAction → Side → List AcceptedMessage
accepted_in (Calls call) x = accepted_by call x
accepted_in action x = []

-- true is end a: what end x accepts at an action of the end that acts
abbrev pub accepted_at : (x acts : Bool) → EndAction → Pair → List AcceptedMessage
accepted_at true true action w = accepted_in action w.a
accepted_at false false action w = accepted_in action w.b
accepted_at x acts action w = []

-- ---- traces

abbrev pub accepted : (x : Bool) → List (Bool × EndAction) → Pair → List AcceptedMessage
accepted x [] w = []
accepted x (e ∷ es) w = accepted_at x e.0 e.1 w ++ accepted x es (goes e.0 e.1 w)
