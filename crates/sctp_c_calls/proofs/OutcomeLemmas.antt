-- What holds of a call's answer holds of its number.
use Rattle.std.proofs.Common.{Ok, Err, Result, OnOk}
use Rattle.sctp_state.specs.declared.api.errors.CallError.{CallError}
use Rattle.sctp_state.specs.declared.api.errors.CallError.TheVariants as calls
use Rattle.sctp_association.specs.Socket.{Ends, SocketValue, ending_of}
use Rattle.sctp_c_calls.specs.Answers.{ending_at}
use Rattle.sctp_c_records.specs.Answers.{OnAnswer, call_number}

pub ends : {R C : Type 0} (r : Result (Unit {0}) CallError) (s t : SocketValue R C) → Ends (ending_of r) s t → Ends (ending_at (call_number r)) s t
ends (Ok done) s t e = e
ends (Err calls.Memory) s t e = e
ends (Err calls.Failed) s t e = e

pub done : (P : Type 0) (r : Result (Unit {0}) CallError) → OnOk r P → OnAnswer 0 (call_number r) P
done P (Ok it) p = p
done P (Err calls.Memory) p = tt
done P (Err calls.Failed) p = tt
