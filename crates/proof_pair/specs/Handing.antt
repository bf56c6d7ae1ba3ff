-- Along a trace: the messages that became ready at an end, and those that its calls handed out.
use Rattle.std.specs.Prelude.{◌≡◌, ℕ, Bool, true, false, Some, List, [], ◌∷◌, ◌++◌, length, take, drop}
use Rattle.rand_core.specs.Stream.{Stream}
use Rattle.sctp_serial.specs.Messages.{Message}
use Rattle.sctp_state.specs.Options.{Options, plainly}
use Rattle.sctp_rx.specs.Delivery.{Extends}
use Rattle.spec_endpoint.specs.Shown.{Association, association_in}
use Rattle.spec_endpoint.specs.Calls.{ready_in}
use Rattle.spec_endpoint.specs.Laws.{Send, TakeMessage}
use Rattle.proof_pair.specs.Trace.{Side, Pair, EndAction, Calls, Gives, goes, run, side_of, KeepsRules, NoAssociationHasEnded, AreValidOptions, start, state_of}
use Rattle.proof_pair.specs.Opens.{at_first, one_connects}

abbrev pub ready_at : Side → List Message
ready_at x = ready_in (state_of x)

-- ---- one action

-- a call for a message hands out the first that is ready
abbrev pub handed_by : EndAction → Side → List Message
handed_by (Calls TakeMessage) x = take 1 (ready_at x)
handed_by action x = []

-- true is end a: what end x hands out at an action of the end that acts
abbrev pub handed_at : (x acts : Bool) → EndAction → Pair → List Message
handed_at true true action w = handed_by action w.a
handed_at false false action w = handed_by action w.b
handed_at x acts action w = []

-- what is ready behind the messages that were ready before
abbrev pub new_behind : (before after : List Message) → List Message
new_behind before after = drop (length before) after

-- ---- traces

abbrev pub messages_handed_out : (x : Bool) → List (Bool × EndAction) → Pair → List Message
messages_handed_out x [] w = []
messages_handed_out x (e ∷ es) w = handed_at x e.0 e.1 w ++ messages_handed_out x es (goes e.0 e.1 w)

abbrev pub messages_made_ready : (x : Bool) → List (Bool × EndAction) → Pair → List Message
messages_made_ready x [] w = []
messages_made_ready x (e ∷ es) w = new_behind (ready_at (side_of x w)) (ready_at (side_of x (goes e.0 e.1 w))) ++ messages_made_ready x es (goes e.0 e.1 w)

-- ---- the laws

-- of one end: what became ready was handed out, or is ready still, in this order
abbrev pub AreHandedInOrder : (x : Bool) → List (Bool × EndAction) → Pair → Type 0
AreHandedInOrder x trace w = messages_made_ready x trace w ≡ messages_handed_out x trace w ++ ready_at (side_of x (run trace w))

-- Along each trace that follows the rules, until an association first ends.
abbrev pub MessagesAreHandedInOrder : Type 0
MessagesAreHandedInOrder =
    (a b : Options) (draws_a draws_b : Stream) (trace : List (Bool × EndAction)) → AreValidOptions a → AreValidOptions b
    → KeepsRules trace (start a b draws_a draws_b) → NoAssociationHasEnded (run trace (start a b draws_a draws_b)) → (x : Bool)
    → AreHandedInOrder x trace (start a b draws_a draws_b)

abbrev pub HandedIsAPrefix : Type 0
HandedIsAPrefix =
    (a b : Options) (draws_a draws_b : Stream) (trace : List (Bool × EndAction)) → AreValidOptions a → AreValidOptions b
    → KeepsRules trace (start a b draws_a draws_b) → NoAssociationHasEnded (run trace (start a b draws_a draws_b)) → (x : Bool)
    → Extends (messages_handed_out x trace (start a b draws_a draws_b)) (messages_made_ready x trace (start a b draws_a draws_b))

-- as actions follow, of any trace
abbrev pub MadeReadyGrows : Type 0
MadeReadyGrows = (x : Bool) (trace more : List (Bool × EndAction)) (w : Pair) → Extends (messages_made_ready x trace w) (messages_made_ready x (trace ++ more) w)

abbrev pub HandedGrows : Type 0
HandedGrows = (x : Bool) (trace more : List (Bool × EndAction)) (w : Pair) → Extends (messages_handed_out x trace w) (messages_handed_out x (trace ++ more) w)

-- and an association that an end holds, it holds from then on: no other takes its place
abbrev pub AssociationsStand : Type 0
AssociationsStand =
    (a b : Options) (draws_a draws_b : Stream) (trace more : List (Bool × EndAction)) → AreValidOptions a → AreValidOptions b
    → KeepsRules (trace ++ more) (start a b draws_a draws_b) → NoAssociationHasEnded (run (trace ++ more) (start a b draws_a draws_b)) → (x : Bool) (p : Association)
    → association_in (state_of (side_of x (run trace (start a b draws_a draws_b)))) ≡ Some p
    → association_in (state_of (side_of x (run (trace ++ more) (start a b draws_a draws_b)))) ≡ Some p

-- ---- such a trace, computed: two messages come, and one is handed out

abbrev pub text : (byte : ℕ) → Message
text byte = record { stream = 1; ppid = 53; payload = byte ∷ [] }

abbrev pub two_come : List (Bool × EndAction)
two_come =
    one_connects
    ++ ((true, Calls (Send (text 97) plainly)) ∷ (true, Calls (Send (text 98) plainly)) ∷ (false, Gives 2 0) ∷ (false, Gives 3 0) ∷ (false, Calls TakeMessage) ∷ [])

pub record OneIsHandedOut : Type 0 where
  pub follows : KeepsRules two_come at_first
  pub not_ended : NoAssociationHasEnded (run two_come at_first)
  pub hands : messages_handed_out false two_come at_first ≡ text 97 ∷ []
  pub readies : messages_made_ready false two_come at_first ≡ text 97 ∷ text 98 ∷ []
