-- Along a trace: no request to reset streams is without a final answer while its end numbers 2^31 fragments, and an end starts fewer than
-- 2^32 of them: one is started once the one before it has its final answer.
use Rattle.std.specs.Prelude.{◌≡◌, ℕ, suc, ◌+◌, ◌-◌, ◌^◌, ◌<◌, ◌==◌, Bool, true, false, cond, Option, Some, None, option_map, List, [], ◌∷◌}
use Rattle.sctp_state.specs.Events.{Event, OnStreamsResetPerformed}
use Rattle.spec_endpoint.specs.ResetRequests.{Request}
use Rattle.spec_endpoint.specs.Association.{State, Closed, CookieWait, Open}
use Rattle.proof_pair.specs.Trace.{Pair, EndAction, goes, run, side_of, state_of}
use Rattle.proof_delivery.specs.Windows.{numbered_count}

-- the number of the own request that waits for its answer
abbrev pub waiting_number : State → Option ℕ
waiting_number Closed = None
waiting_number (CookieWait tag first t1) = None
waiting_number (Open phase t) = option_map (λ (r : Request). r.number) t.requests.current

abbrev pub is_same : Option ℕ → Option ℕ → Bool
is_same None None = true
is_same None (Some n) = false
is_same (Some n) None = false
is_same (Some n) (Some m) = n == m

-- how many fragments each end had numbered before the action in which the request that waits was started
pub record NumberedBefore : Type 0 where
  pub a : ℕ
  pub b : ℕ

abbrev pub none_asked : NumberedBefore
none_asked = record { a = 0; b = 0 }

abbrev pub numbered_before : (before after : State) → ℕ → ℕ
numbered_before s u n = cond (is_same (waiting_number s) (waiting_number u)) n (numbered_count s)

abbrev pub asked_after : Bool → EndAction → Pair → NumberedBefore → NumberedBefore
asked_after x action w k = record { a = numbered_before (state_of w.a) (state_of (goes x action w).a) k.a; b = numbered_before (state_of w.b) (state_of (goes x action w).b) k.b }

-- while it waits, its end numbers fewer than 2^31 fragments
abbrev pub IsAnswered : State → (asked : ℕ) → Type 0
IsAnswered s asked = (n : ℕ) → waiting_number s ≡ Some n → numbered_count s < asked + 2 ^ 31

pub record AreAnswered (w : Pair) (k : NumberedBefore) : Type 0 where
  pub a : IsAnswered (state_of w.a) k.a
  pub b : IsAnswered (state_of w.b) k.b

abbrev pub KeepsRequests : List (Bool × EndAction) → Pair → NumberedBefore → Type 0
KeepsRequests [] w k = AreAnswered w k
KeepsRequests (e ∷ es) w k = AreAnswered w k × KeepsRequests es (goes e.0 e.1 w) (asked_after e.0 e.1 w k)

-- how often an end emitted that its request was performed
abbrev pub performed_in : {P : Type 0} → List (Event P) → ℕ
performed_in [] = 0
performed_in (OnStreamsResetPerformed streams ∷ es) = suc (performed_in es)
performed_in (e ∷ es) = performed_in es

-- what a trace has to keep where streams are reset
pub record KeepsResets (trace : List (Bool × EndAction)) (w : Pair) : Type 0 where
  pub answered : KeepsRequests trace w none_asked
  pub few : (x : Bool) → performed_in (side_of x (run trace w)).emitted < 2 ^ 32 - 1
