-- Why an end of a world gave messages up, by the log alone: a record is justified where its message was accepted before it, and either
-- outlived its lifetime, or was sent again as often as it may be, or the event is a call that reset its stream; or it is of an end that
-- avoids stalls, and says that an association is over.
use Rattle.std.specs.Prelude.{◌≡◌, ℕ, ◌^◌, ◌<◌, Bool, true, false, List, [], ◌∷◌, ◌++◌, length, map, All}
use Rattle.std.specs.List.{flat_map}
use Rattle.rand_core.specs.Stream.{Stream}
use Rattle.sctp_state.specs.Options.{Options}
use Rattle.sctp_state.specs.Events.{GivenUp}
use Rattle.proof_endpoint.specs.Sound.{OptionsFit}
use Rattle.proof_delivery.specs.Justified.{Acceptance, accepted_then, dated_record, IsJustified}
use Rattle.spec_world.specs.Observations.{End, A, B, same_end, Entry, Called, Given, Foreign, Timed, GaveUp}
use Rattle.spec_world.specs.World.{World, Action, Runs, fresh_world}
use Rattle.proof_world.specs.Reachable.{ActionFits, IsInBytes}
use Rattle.proof_world.specs.Delivered.{accepted_messages_by, accepted_messages, reset_in}

-- ---- clocks

abbrev pub clock_if : Bool → (clock before : ℕ) → ℕ
clock_if true clock before = clock
clock_if false clock before = before

-- Only a moment moves an end's clock, and its entry has the clock afterwards.
abbrev pub clock_after : End → (before : ℕ) → Entry → ℕ
clock_after x before (Called y clock call answer) = clock_if (same_end x y) clock before
clock_after x before (Given y clock packet) = clock_if (same_end x y) clock before
clock_after x before (Foreign y clock bytes) = clock_if (same_end x y) clock before
clock_after x before (Timed y clock now) = clock_if (same_end x y) clock before
clock_after x before entry = before

abbrev pub clock_from : End → (before : ℕ) → List Entry → ℕ
clock_from x before [] = before
clock_from x before (entry ∷ log) = clock_from x (clock_after x before entry) log

-- an end's clock in its last event
abbrev pub clock : End → List Entry → ℕ
clock x log = clock_from x 0 log

-- ---- streams that are reset

abbrev pub resets_if : Bool → (streams before : List ℕ) → List ℕ
resets_if true streams before = streams
resets_if false streams before = before

-- Each event of an end begins with the streams that it resets: those of a call that answered Ok.
abbrev pub resets_after : End → (before : List ℕ) → Entry → List ℕ
resets_after x before (Called y clock call answer) = resets_if (same_end x y) (reset_in call answer) before
resets_after x before (Given y clock packet) = resets_if (same_end x y) [] before
resets_after x before (Foreign y clock bytes) = resets_if (same_end x y) [] before
resets_after x before (Timed y clock now) = resets_if (same_end x y) [] before
resets_after x before entry = before

abbrev pub resets_from : End → (before : List ℕ) → List Entry → List ℕ
resets_from x before [] = before
resets_from x before (entry ∷ log) = resets_from x (resets_after x before entry) log

-- those of an end's last event
abbrev pub resets : End → List Entry → List ℕ
resets x log = resets_from x [] log

-- ---- what was accepted, and when

abbrev pub acceptances_by : End → Entry → List Acceptance
acceptances_by x (Called y clock call answer) = map (accepted_then clock) (accepted_messages_by x (Called y clock call answer))
acceptances_by x entry = []

abbrev pub acceptances : End → List Entry → List Acceptance
acceptances x log = flat_map (acceptances_by x) log

-- ---- the laws

-- what an end of two is made with
abbrev pub options_of : End → (a b : Options) → Options
options_of A a b = a
options_of B a b = b

-- each record of this end, which avoids stalls or doesn't, by what stands before it
abbrev pub AreJustified : End → (avoids_stalls : Bool) → List Entry → Type 0
AreJustified x avoids log =
    (before behind : List Entry) (g : GivenUp) → log ≡ before ++ GaveUp x g ∷ behind → IsJustified (acceptances x before) (dated_record avoids (clock x before) (resets x before) g)

-- In each run, where an end accepts fewer than 2^32 messages.
abbrev pub WorldsAreJustified : Type 0
WorldsAreJustified =
    (a b : Options) (draws_a draws_b : Stream) (word_of_a word_of_b : List ℕ → ℕ) (actions : List Action) (w : World)
    → OptionsFit a → OptionsFit b → All ActionFits actions
    → Runs actions (fresh_world a b draws_a draws_b word_of_a word_of_b) w → IsInBytes w
    → (x : End) → length (accepted_messages x w.log) < 2 ^ 32 → AreJustified x (options_of x a b).avoid_stalls w.log

-- acceptances are those of the accepted messages, one by one
abbrev pub AcceptancesAreOfAcceptedMessages : Type 0
AcceptancesAreOfAcceptedMessages = (x : End) (log : List Entry) → map (λ (a : Acceptance). a.offer) (acceptances x log) ≡ accepted_messages x log
