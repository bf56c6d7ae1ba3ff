-- Two worlds that differ in what their ends drew alone: until an association first ends they show the same.
use Rattle.std.specs.Prelude.{◌≡◌, ◌⊎◌, ℕ, false, List, [], ◌∷◌, ⊤}
use Rattle.rand_core.specs.Stream.{Stream}
use Rattle.sctp_state.specs.Options.{Options}
use Rattle.spec_world.specs.World.{World, Action, Runs}
use Rattle.proof_world.specs.Reachable.{Origin, origin, initial_world, IsReachable}
use Rattle.proof_world.specs.Draws.{draws, DrawsTag}
use Rattle.proof_world.specs.Traces.{end_of}
use Rattle.proof_world.specs.Consistent.{NoEndingIsLogged, WorldKeepsRules}
use Rattle.proof_world.specs.Visible.{ShowTheSame}
use Rattle.proof_world.specs.Worlds.{is_foreign}

-- what four new ends have: the same options in pairs, one checksum function, and the words that the generator of each will answer
pub record TwoOrigins : Type 0 where
  pub a : Options
  pub b : Options
  pub word_of : List ℕ → ℕ
  pub draws_a : Stream
  pub draws_b : Stream
  pub others_a : Stream
  pub others_b : Stream

-- those of the first world, and of the second one
abbrev pub first_origin : TwoOrigins → Origin
first_origin t = origin t.a t.b t.draws_a t.draws_b t.word_of t.word_of

abbrev pub second_origin : TwoOrigins → Origin
second_origin t = origin t.a t.b t.others_a t.others_b t.word_of t.word_of

-- ---- premises

-- no bytes come from elsewhere at an event that begins before an end emits that an association is over
abbrev pub NoneComesFromElsewhere : (actions : List Action) (w v : World) → Runs actions w v → Type 0
NoneComesFromElsewhere [] w v r = ⊤
NoneComesFromElsewhere (action ∷ actions) w v r = (NoEndingIsLogged w.log → is_foreign action ≡ false) × NoneComesFromElsewhere actions r.0 v r.2

-- the event's end draws this tag in it
abbrev pub EventDrawsTag : Action → (w v : World) → (tag : ℕ) → Type 0
EventDrawsTag action w v tag = DrawsTag (draws (end_of action) w) (draws (end_of action) v) tag

-- In the second of two runs of the same actions it is drawn by either end, at an event that begins before an end of the first run emits
-- that an association is over.
abbrev pub IsDrawnUpToEnd : (tag : ℕ) (actions : List Action) (w v x y : World) → Runs actions w v → Runs actions x y → Type 0
IsDrawnUpToEnd tag [] w v x y r s = ⊥
IsDrawnUpToEnd tag (action ∷ actions) w v x y r s = NoEndingIsLogged w.log × (EventDrawsTag action x s.0 tag ⊎ IsDrawnUpToEnd tag actions r.0 v s.0 y r.2 s.2)

-- at such events none is drawn twice
abbrev pub DrawsTagsOnceUpToEnd : (actions : List Action) (w v x y : World) → Runs actions w v → Runs actions x y → Type 0
DrawsTagsOnceUpToEnd [] w v x y r s = ⊤
DrawsTagsOnceUpToEnd (action ∷ actions) w v x y r s =
    NoEndingIsLogged w.log → ((tag : ℕ) → EventDrawsTag action x s.0 tag → IsDrawnUpToEnd tag actions r.0 v s.0 y r.2 s.2 → ⊥) × DrawsTagsOnceUpToEnd actions r.0 v s.0 y r.2 s.2

-- Until an end of the first world emits that an association is over it follows the rules, no bytes come from elsewhere, and in neither
-- world a tag is drawn twice, both ends' draws taken together, up to and with the event in which it does.
pub record AreComparable (t : TwoOrigins) (actions : List Action) (w v : World) (first : Runs actions (initial_world (first_origin t)) w)
    (second : Runs actions (initial_world (second_origin t)) v) : Type 0 where
  pub follows : WorldKeepsRules w
  pub own : NoneComesFromElsewhere actions (initial_world (first_origin t)) w first
  pub tags : DrawsTagsOnceUpToEnd actions (initial_world (first_origin t)) w (initial_world (first_origin t)) w first first
  pub tags_too : DrawsTagsOnceUpToEnd actions (initial_world (first_origin t)) w (initial_world (second_origin t)) v first second

-- ---- the law

-- Between the actions of two runs: up to the one at which an end of the first emits that an association is over, and behind that one too.
abbrev pub ShowAlong : (actions : List Action) (w v x y : World) → Runs actions w x → Runs actions v y → Type 0
ShowAlong [] w v x y r s = ShowTheSame w v
ShowAlong (action ∷ actions) w v x y r s = ShowTheSame w v × (NoEndingIsLogged w.log → ShowAlong actions r.0 s.0 x y r.2 s.2)

abbrev pub WorldsShowTheSame : Type 0
WorldsShowTheSame =
    (t : TwoOrigins) (actions : List Action) (w v : World) (p : IsReachable (first_origin t) actions w) (q : IsReachable (second_origin t) actions v)
    → AreComparable t actions w v p.runs q.runs → ShowAlong actions (initial_world (first_origin t)) (initial_world (second_origin t)) w v p.runs q.runs
