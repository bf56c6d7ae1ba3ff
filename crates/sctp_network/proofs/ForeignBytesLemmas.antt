-- What comes to a side comes to the world.
use Rattle.std.proofs.Common.{◌≡◌, ℕ, List, sym, ap, subst}
use Rattle.rand_core.specs.Stream.{Stream}
use Rattle.spec_world.specs.Observations.{End, A, B}
use Rattle.spec_world.specs.World.{MeetsForeignAt, MeetsForeign}
use Rattle.sctp_network_side.specs.SideView.{side_in}
use Rattle.sctp_network.specs.WorldView.{WorldValue, world_of}

pub foreign_bytes_to_a : {R C : Type 0} (stream : R → Stream) (word_of : C → List ℕ → ℕ) (v now new : WorldValue R C) → v ≡ now → (x : End) (bytes : List ℕ) → x ≡ A
    → MeetsForeignAt x bytes (side_in stream word_of v.a) (side_in stream word_of new.a) v.log new.log → new.b ≡ v.b
    → MeetsForeign x bytes (world_of stream word_of now) (world_of stream word_of new)
foreign_bytes_to_a stream word_of v now new is x bytes e comes other =
    subst (λ (w : WorldValue _ _). MeetsForeign x bytes (world_of stream word_of w) (world_of stream word_of new)) is
    (subst (λ (y : End). MeetsForeign y bytes (world_of stream word_of v) (world_of stream word_of new)) (sym e) (record {
      comes = subst (λ (y : End). MeetsForeignAt y bytes (side_in stream word_of v.a) (side_in stream word_of new.a) v.log new.log) e comes;
      other_side = ap (side_in stream word_of) other;
    }))

pub foreign_bytes_to_b : {R C : Type 0} (stream : R → Stream) (word_of : C → List ℕ → ℕ) (v now new : WorldValue R C) → v ≡ now → (x : End) (bytes : List ℕ) → x ≡ B
    → MeetsForeignAt x bytes (side_in stream word_of v.b) (side_in stream word_of new.b) v.log new.log → new.a ≡ v.a
    → MeetsForeign x bytes (world_of stream word_of now) (world_of stream word_of new)
foreign_bytes_to_b stream word_of v now new is x bytes e comes other =
    subst (λ (w : WorldValue _ _). MeetsForeign x bytes (world_of stream word_of w) (world_of stream word_of new)) is
    (subst (λ (y : End). MeetsForeign y bytes (world_of stream word_of v) (world_of stream word_of new)) (sym e) (record {
      comes = subst (λ (y : End). MeetsForeignAt y bytes (side_in stream word_of v.b) (side_in stream word_of new.b) v.log new.log) e comes;
      other_side = ap (side_in stream word_of) other;
    }))
