-- Two traces of the same actions, by the same options: until an association first ends they are alike, whatever words were drawn.
use Rattle.std.specs.Prelude.{◌≡◌, ℕ, ◌==◌, not, Bool, false, Option, Some, None, List, [], ◌∷◌, ◌++◌, slice_get, All, ⊤}
use Rattle.rand_core.specs.Stream.{Stream}
use Rattle.sctp_state.specs.Events.{Event, SendPacket, OnError, OnAborted, GivenUp}
use Rattle.sctp_state.specs.Options.{Options}
use Rattle.spec_endpoint.specs.Laws.{ReceivePacket, called, endings}
use Rattle.spec_endpoint.specs.Shown.{association_in}
use Rattle.proof_endpoint.specs.Mapped.{Carried}
use Rattle.proof_pair.specs.Trace.{Side, Pair, emitted_packets, EndAction, Calls, Gives, Refuses, as_received, act, goes, run, side_of, KeepsRules, NoAssociationHasEnded, AreValidOptions, start, state_of}
use Rattle.proof_draws.specs.NamedChunks.{Names, AreNames}
use Rattle.proof_draws.specs.Names.{named_state, named_context}
use Rattle.proof_draws.specs.Images.{named_carried}
use Rattle.proof_draws.specs.Pairing.{AllDrawnTagsAreDistinct}

-- ---- what is emitted

-- the same packet under other names
pub record IsImage (p q : Carried) : Type 0 where
  pub names : Names
  pub are : AreNames names
  pub is : q ≡ named_carried names p

-- packets are images, the texts of errors may be others, and all else is equal
abbrev pub IsAlike : Event Carried → Event Carried → Type 0
IsAlike (SendPacket p) e = (q : Carried) × (e ≡ SendPacket q) × IsImage p q
IsAlike (OnError kind text) e = (other : List ℕ) × (e ≡ OnError kind other)
IsAlike (OnAborted kind text) e = (other : List ℕ) × (e ≡ OnAborted kind other)
IsAlike event e = e ≡ event

-- place by place
abbrev pub AreEventsAlike : List (Event Carried) → List (Event Carried) → Type 0
AreEventsAlike [] [] = ⊤
AreEventsAlike [] (f ∷ fs) = ⊥
AreEventsAlike (e ∷ es) [] = ⊥
AreEventsAlike (e ∷ es) (f ∷ fs) = IsAlike e f × AreEventsAlike es fs

-- ---- between actions

-- An end of the first trace and that of the second: the same but for names. No packet is left to be taken.
pub record AreAlike (x y : Side) : Type 0 where
  pub names : Names
  pub are : AreNames names
  pub state : state_of y ≡ named_state names (state_of x)
  pub context : y.end.endpoint_state.context ≡ named_context names.tag x.end.endpoint_state.context
  pub emitted : AreEventsAlike x.emitted y.emitted
  pub asked : y.got_init ≡ x.got_init

pub record ArePairsAlike (w v : Pair) : Type 0 where
  pub a : AreAlike w.a v.a
  pub b : AreAlike w.b v.b

-- ---- in an action

abbrev pub records_given : Option Carried → (checksum : ℕ) → Side → List GivenUp
records_given None checksum x = []
records_given (Some p) checksum x = (called (ReceivePacket (as_received p checksum)) x.end).endpoint_state.context.emitted.given_up

-- what an end records as given up
abbrev pub records_by : EndAction → (x y : Side) → List GivenUp
records_by (Calls call) x y = (called call x.end).endpoint_state.context.emitted.given_up
records_by (Gives which checksum) x y = records_given (slice_get (emitted_packets y) which) checksum x
records_by (Refuses p) x y = []

-- the association that was held is held, or none was and none is
abbrev pub Stays : (before after : Side) → Type 0
Stays before after = association_in (state_of after) ≡ association_in (state_of before)

-- of an end beside another one in the first trace, and of those in the second
pub record ActsAlike (t u : EndAction) (x y v w : Side) : Type 0 where
  pub given_up : records_by u v w ≡ records_by t x y
  pub stays : Stays x (act t x y) → Stays v (act u v w)
  pub stayed : endings (act t x y).emitted ≡ 0 → Stays v (act u v w) → Stays x (act t x y)

-- ---- the same actions

-- A packet's checksum may be another one, since its bytes are. None comes from elsewhere.
abbrev pub SameAction : EndAction → EndAction → Type 0
SameAction (Calls call) t = t ≡ Calls call
SameAction (Gives which checksum) t = (other : ℕ) × (t ≡ Gives which other)
SameAction (Refuses p) t = ⊥

abbrev pub SameActions : List (Bool × EndAction) → List (Bool × EndAction) → Type 0
SameActions [] [] = ⊤
SameActions [] (f ∷ fs) = ⊥
SameActions (e ∷ es) [] = ⊥
SameActions (e ∷ es) (f ∷ fs) = (f.0 ≡ e.0) × SameAction e.1 f.1 × SameActions es fs

-- ---- the law

-- before and after the last of these actions, and in it
pub record ActionIsAlike (e f : Bool × EndAction) (w v : Pair) : Type 0 where
  pub before : ArePairsAlike w v
  pub after : ArePairsAlike (goes e.0 e.1 w) (goes f.0 f.1 v)
  pub acts : ActsAlike e.1 f.1 (side_of e.0 w) (side_of (not e.0) w) (side_of f.0 v) (side_of (not f.0) v)

-- The first trace follows the rules, and no association has ended in it before the last action; no tag is drawn twice in either.
abbrev pub TracesAreAlike : Type 0
TracesAreAlike =
    (a b : Options) (draws_a draws_b others_a others_b : Stream) (es fs : List (Bool × EndAction)) (e f : Bool × EndAction) → AreValidOptions a → AreValidOptions b
    → SameActions (es ++ e ∷ []) (fs ++ f ∷ []) → KeepsRules (es ++ e ∷ []) (start a b draws_a draws_b)
    → NoAssociationHasEnded (run es (start a b draws_a draws_b)) → AllDrawnTagsAreDistinct (es ++ e ∷ []) (start a b draws_a draws_b)
    → AllDrawnTagsAreDistinct (fs ++ f ∷ []) (start a b others_a others_b)
    → ActionIsAlike e f (run es (start a b draws_a draws_b)) (run fs (start a b others_a others_b))

-- ---- checksums

-- a packet without a checksum is for an end whose method isn't 0, which lets it through (RFC 9653)
abbrev pub PassesAt : Side → Carried → Type 0
PassesAt y p = p.is_summed ≡ false → (y.end.endpoint_state.context.options.zero_checksum_method == 0) ≡ false

pub record ArePassed (w : Pair) : Type 0 where
  pub a : All (PassesAt w.b) (emitted_packets w.a)
  pub b : All (PassesAt w.a) (emitted_packets w.b)

-- along each trace that follows the rules, until an association first ends
abbrev pub PacketsPass : Type 0
PacketsPass =
    (a b : Options) (draws_a draws_b : Stream) (es : List (Bool × EndAction)) → AreValidOptions a → AreValidOptions b → KeepsRules es (start a b draws_a draws_b)
    → NoAssociationHasEnded (run es (start a b draws_a draws_b)) → ArePassed (run es (start a b draws_a draws_b))

-- and so it is in a trace that is alike
abbrev pub ImagesPass : Type 0
ImagesPass = (w v : Pair) → ArePairsAlike w v → ArePassed w → ArePassed v
