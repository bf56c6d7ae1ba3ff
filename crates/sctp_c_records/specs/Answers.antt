-- The number that a call answers, and what holds by it.
use Rattle.std.specs.Prelude.{◌≡◌, ℕ, ◌==◌, ◌||◌, Bool, true, false, Result, Ok, Err, List, [], ◌∷◌}
use Rattle.sctp_state.specs.declared.api.errors.CallError.{CallError}
use Rattle.sctp_state.specs.declared.api.errors.CallError.TheVariants.{Memory, Failed}

-- what a call answers that says nothing else
abbrev pub call_number : Result (Unit {0}) CallError → ℕ
call_number (Ok done) = 0
call_number (Err Memory) = 1
call_number (Err Failed) = 2

abbrev pub by_test : Bool → Type 0 → Type 0 → Type 0
by_test true P Q = P
by_test false P Q = Q

-- the answer is one of these
abbrev pub is_among : List ℕ → ℕ → Bool
is_among [] answer = false
is_among (n ∷ ns) answer = answer == n || is_among ns answer

abbrev pub IsAmong : List ℕ → ℕ → Type 0
IsAmong ns answer = is_among ns answer ≡ true

-- P, where the answer is this one
abbrev pub OnAnswer : (expected answer : ℕ) → Type 0 → Type 0
OnAnswer expected answer P = by_test (answer == expected) P (Unit {0})

-- P, where the answer is another
abbrev pub OnOthers : (expected answer : ℕ) → Type 0 → Type 0
OnOthers expected answer P = by_test (answer == expected) (Unit {0}) P
