-- What a call did, by the number that it answers.
use Rattle.std.specs.Prelude.{◌≡◌, ℕ, zero, suc, ◌==◌, ◌||◌, ◌&&◌, not, nat_le, Option, Some, None, List, [], ◌∷◌, set}
use Rattle.sctp_state.specs.declared.api.errors.SendError.{SendError}
use Rattle.sctp_state.specs.declared.api.errors.SendError.TheVariants.{EmptyPayload, MessageTooLarge, ShuttingDown, ResourceExhaustion, Memory, Failed}
use Rattle.sctp_state.specs.declared.api.errors.ResetStreamsError.{ResetStreamsError}
use Rattle.sctp_state.specs.declared.api.errors.ResetStreamsError.TheVariants as resets
use Rattle.sctp_state.specs.declared.api.errors.RestoreError.{RestoreError}
use Rattle.sctp_state.specs.declared.api.errors.RestoreError.TheVariants as restores
use Rattle.sctp_state.specs.declared.api.SocketState.{SocketState}
use Rattle.sctp_state.specs.declared.api.SocketState.TheVariants as shown
use Rattle.sctp_c_records.specs.Answers.{by_test}
use Rattle.sctp_association.specs.Socket.{Ending, Worked, RanOut, HadFailed, SocketValue, Ends}

-- 1 is want of memory, for good, 2 that an earlier call found too little; a refusal leaves the socket working
abbrev pub ending_at : ℕ → Ending
ending_at zero = Worked
ending_at (suc zero) = RanOut
ending_at (suc (suc zero)) = HadFailed
ending_at (suc (suc (suc n))) = Worked

-- 17 is want of memory before the call, which changes nothing
abbrev pub Ended : {R C : Type 0} → ℕ → (before after : SocketValue R C) → Type 0
Ended answer before after = by_test (answer == 17) (after ≡ before) (Ends (ending_at answer) before after)

abbrev pub refusal_number : Option SendError → ℕ
refusal_number None = 0
refusal_number (Some EmptyPayload) = 10
refusal_number (Some (MessageTooLarge len limit)) = 11
refusal_number (Some ShuttingDown) = 12
refusal_number (Some ResourceExhaustion) = 13
refusal_number (Some Memory) = 1
refusal_number (Some Failed) = 2

abbrev pub reset_number : Option ResetStreamsError → ℕ
reset_number None = 0
reset_number (Some resets.NotConnected) = 14
reset_number (Some resets.NotSupported) = 15
reset_number (Some resets.Memory) = 1
reset_number (Some resets.Failed) = 2

abbrev pub restore_number : Option RestoreError → ℕ
restore_number None = 0
restore_number (Some restores.SocketNotClosed) = 19
restore_number (Some restores.InvalidState) = 20
restore_number (Some restores.Memory) = 1
restore_number (Some restores.Failed) = 2

-- P, where the call was made, done or refused
abbrev pub OnSettled : ℕ → Type 0 → Type 0
OnSettled answer P = by_test (answer == 0 || (nat_le 10 answer && not (answer == 17))) P (Unit {0})

-- a batch is done, or some of its messages are refused
abbrev pub batch_number : List (ℕ × SendError) → ℕ
batch_number [] = 0
batch_number (r ∷ rs) = 18

-- the answer of each message, where these are refused
abbrev pub mark_refused : List (ℕ × SendError) → List ℕ → List ℕ
mark_refused [] answers = answers
mark_refused (r ∷ rs) answers = mark_refused rs (set answers r.0 (refusal_number (Some r.1)))

abbrev pub state_number : SocketState → ℕ
state_number shown.Closed = 0
state_number shown.Connecting = 1
state_number shown.Connected = 2
state_number shown.ShuttingDown = 3
