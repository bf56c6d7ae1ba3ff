-- The verification tags that an end draws along a run, by what its generator would answer before an event and behind it.
use Rattle.std.specs.Prelude.{◌≡◌, ◌⊎◌, ℕ, List, [], ◌∷◌, ⊤}
use Rattle.rand_core.specs.Stream.{Stream, next_u32}
use Rattle.spec_endpoint.specs.Opening.{tag_from}
use Rattle.spec_world.specs.Observations.{End}
use Rattle.spec_world.specs.World.{World, Action, Runs, side_of}

-- what the generator of an end will answer
abbrev pub draws : End → World → Stream
draws x w = (side_of x w).socket.draws

-- One word of 32 bits is drawn, which makes the tag, or two, of which the second one does.
abbrev pub DrawsTag : (before behind : Stream) → (tag : ℕ) → Type 0
DrawsTag s t tag =
    ((t ≡ (next_u32 s).1) × (tag ≡ tag_from (next_u32 s).0)) ⊎ ((t ≡ (next_u32 (next_u32 s).1).1) × (tag ≡ tag_from (next_u32 (next_u32 s).1).0))

-- it is drawn at one of these events
abbrev pub IsDrawn : (x : End) (tag : ℕ) (actions : List Action) (w v : World) → Runs actions w v → Type 0
IsDrawn x tag [] w v r = ⊥
IsDrawn x tag (action ∷ actions) w v r = DrawsTag (draws x w) (draws x r.0) tag ⊎ IsDrawn x tag actions r.0 v r.2

-- none is drawn twice
abbrev pub DrawsTagsOnce : (x : End) (actions : List Action) (w v : World) → Runs actions w v → Type 0
DrawsTagsOnce x [] w v r = ⊤
DrawsTagsOnce x (action ∷ actions) w v r =
    ((tag : ℕ) → DrawsTag (draws x w) (draws x r.0) tag → IsDrawn x tag actions r.0 v r.2 → ⊥) × DrawsTagsOnce x actions r.0 v r.2
