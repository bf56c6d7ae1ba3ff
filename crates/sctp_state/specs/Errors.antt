-- The numbers of the reasons why calls fail.
use Rattle.std.specs.Prelude.{ℕ, List, []}
use Rattle.sctp_state.specs.declared.api.errors.SendError.{SendError}
use Rattle.sctp_state.specs.declared.api.errors.SendError.TheVariants as sends
use Rattle.sctp_state.specs.declared.api.errors.BatchFault.{BatchFault}
use Rattle.sctp_state.specs.declared.api.errors.BatchFault.TheVariants as batches
use Rattle.sctp_state.specs.declared.api.errors.HandoverError.{HandoverError}
use Rattle.sctp_state.specs.declared.api.errors.HandoverError.TheVariants as handovers

abbrev pub send_number : SendError → ℕ
send_number sends.EmptyPayload = 1
send_number (sends.MessageTooLarge bytes limit) = 2
send_number sends.ShuttingDown = 3
send_number sends.ResourceExhaustion = 4
send_number sends.Memory = 5
send_number sends.Failed = 6

abbrev pub batch_number : BatchFault → ℕ
batch_number (batches.Refused errors) = 1
batch_number batches.Memory = 2
batch_number batches.Failed = 3

-- the places of the messages that a batch was refused, each with its reason
abbrev pub refused_messages : BatchFault → List (ℕ × SendError)
refused_messages (batches.Refused errors) = errors.0.items
refused_messages batches.Memory = []
refused_messages batches.Failed = []

abbrev pub handover_number : HandoverError → ℕ
handover_number (handovers.NotReady readiness) = 1
handover_number handovers.Memory = 2
handover_number handovers.Failed = 3
