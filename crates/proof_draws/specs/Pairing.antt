-- What two traces of the same actions drew, place by place, and the names that take the one's ends to the other's.
use Rattle.std.specs.Prelude.{◌≡◌, ℕ, ◌+◌, ◌-◌, ◌%◌, ◌^◌, ◌<◌, ◌==◌, if◌then◌else◌, Bool, true, false, List, [], ◌∷◌, ◌++◌, map}
use Rattle.sctp_capabilities.specs.StateCookie.{Cookie}
use Rattle.proof_pair.specs.Trace.{Pair, EndAction, goes}
use Rattle.proof_pair.specs.Agreement.{Draw, Has, drawn_in, AreDistinct}
use Rattle.proof_draws.specs.NamedChunks.{Names, move_by}
use Rattle.proof_draws.specs.NamedCookies.{cookie_named}
use Rattle.proof_draws.specs.Renamed.{rename, Renames}

-- ---- draws along a trace, of both ends

abbrev pub drawn_at : Bool → EndAction → Pair → List Draw
drawn_at true action w = drawn_in action w.a w.b
drawn_at false action w = drawn_in action w.b w.a

abbrev pub drawn : List (Bool × EndAction) → Pair → List Draw
drawn [] w = []
drawn (e ∷ es) w = drawn_at e.0 e.1 w ++ drawn es (goes e.0 e.1 w)

-- no verification tag is drawn twice, both ends' draws taken together
abbrev pub AllDrawnTagsAreDistinct : List (Bool × EndAction) → Pair → Type 0
AllDrawnTagsAreDistinct es w = AreDistinct (drawn es w)

-- ---- of two traces, place by place

abbrev pub pairs_of : List Draw → List Draw → List (Draw × Draw)
pairs_of [] es = []
pairs_of (d ∷ ds) [] = []
pairs_of (d ∷ ds) (e ∷ es) = (d, e) ∷ pairs_of ds es

abbrev pub pairs : List (Bool × EndAction) → List (Bool × EndAction) → (w v : Pair) → List (Draw × Draw)
pairs [] fs w v = []
pairs (e ∷ es) [] w v = []
pairs (e ∷ es) (f ∷ fs) w v =
    pairs_of (drawn_at e.0 e.1 w) (drawn_at f.0 f.1 v) ++ pairs es fs (goes e.0 e.1 w) (goes f.0 f.1 v)

-- ---- names

abbrev pub tags_of : List (Draw × Draw) → List (ℕ × ℕ)
tags_of ps = map (λ (p : Draw × Draw). (p.0.tag, p.1.tag)) ps

-- from one number of 32 bits to another, on the circle
abbrev pub distance : (from to : ℕ) → ℕ
distance from to = (to + (2 ^ 32 - from)) % 2 ^ 32

-- how far the numbers move that begin at the first TSN drawn with this tag
abbrev pub far : List (Draw × Draw) → (tag : ℕ) → ℕ
far [] tag = 0
far (p ∷ ps) tag = if p.0.tag == tag then distance p.0.first p.1.first else far ps tag

-- each tag by its own draw
abbrev pub cookie_under : List (Draw × Draw) → (cookie_tie : ℕ → ℕ) → Cookie → Cookie
cookie_under ps cookie_tie k = record k {
  peer_tag = rename (tags_of ps) k.peer_tag;
  my_tag = rename (tags_of ps) k.my_tag;
  peer_initial_tsn = move_by (far ps k.peer_tag) k.peer_initial_tsn;
  my_initial_tsn = move_by (far ps k.my_tag) k.my_initial_tsn;
  tie_tag = cookie_tie k.tie_tag;
}

-- of an end with this tag, beside a peer with that one
abbrev pub names : List (Draw × Draw) → (mine peer : ℕ) → (tie cookie_tie : ℕ → ℕ) → Names
names ps mine peer tie cookie_tie = record {
  tag = rename (tags_of ps);
  tie = tie;
  cookie_tie = cookie_tie;
  own = far ps mine;
  peer = far ps peer;
  cookie = cookie_named (cookie_under ps cookie_tie);
}

-- ---- the law

-- what the names know of these pairs: each tag has the name that was drawn for it, and each first TSN lies as far from the other one as all
-- numbers that begin there
pub record Knows (ps : List (Draw × Draw)) : Type 0 where
  pub renames : Renames (tags_of ps)
  pub tags : (d e : Draw) → Has (d, e) ps → rename (tags_of ps) d.tag ≡ e.tag
  pub by : (d e : Draw) → Has (d, e) ps → far ps d.tag ≡ distance d.first e.first
  pub firsts : (d e : Draw) → Has (d, e) ps → move_by (far ps d.tag) d.first ≡ e.first
  pub small : (tag : ℕ) → tag < 2 ^ 32 → rename (tags_of ps) tag < 2 ^ 32

abbrev pub DrawsHaveNames : Type 0
DrawsHaveNames = (es fs : List (Bool × EndAction)) (w v : Pair) → AllDrawnTagsAreDistinct es w → AllDrawnTagsAreDistinct fs v → Knows (pairs es fs w v)
