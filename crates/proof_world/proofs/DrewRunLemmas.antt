-- Where an end of a run draws no tag twice, it draws none twice along the trace.
use Rattle.std.proofs.Common.{ℕ, List, [], ◌∷◌, ◌++◌, inl, inr, sym, ap, subst}
use Rattle.proof_pair.specs.Agreement.{Draw, Has, AreDistinct}
use Rattle.spec_world.specs.Observations.{End}
use Rattle.spec_world.specs.World.{World, Action, Runs}
use Rattle.proof_world.specs.Draws.{draws, DrawsTag, IsDrawn, DrawsTagsOnce}
use Rattle.proof_world.proofs.DrewLemmas.{DrawsSo}

-- what was drawn so far, and isn't drawn again
pub record AreDrawnOnce (x : End) (ds : List Draw) (actions : List Action) (w v : World) (r : Runs actions w v) : Type 0 where
  pub distinct : AreDistinct ds
  pub never : (d : Draw) → Has d ds → IsDrawn x d.tag actions w v r → ⊥

pub none_before : (x : End) (actions : List Action) (w v : World) (r : Runs actions w v) → AreDrawnOnce x [] actions w v r
none_before x actions w v r = record { distinct = tt; never = λ d h. absurd h }

module _ (x : End) (action : Action) (actions : List Action) (w v : World) (r : Runs (action ∷ actions) w v) where
  pub beside_on : (ds : List Draw) → AreDrawnOnce x ds (action ∷ actions) w v r → AreDrawnOnce x ds actions r.0 v r.2
  beside_on ds h = record { distinct = h.distinct; never = λ d has later. h.never d has (inr later) }

  pub own_on : (new ds : List Draw) → DrawsSo new (draws x w) (draws x r.0) → DrawsTagsOnce x (action ∷ actions) w v r → AreDrawnOnce x ds (action ∷ actions) w v r
      → AreDrawnOnce x (new ++ ds) actions r.0 v r.2
  own_on [] ds m once h = beside_on ds h
  own_on (d ∷ []) ds m once h = record {
    distinct = ((λ e has same. h.never e has (inl (subst (DrawsTag (draws x w) (draws x r.0)) (sym same) m))), h.distinct);
    never = λ e has later. elim has [
      | inl is ↦ once.0 d.tag m (subst (λ (n : ℕ). IsDrawn x n actions r.0 v r.2) (ap (λ (z : Draw). z.tag) is) later)
      | inr there ↦ h.never e there (inr later)
    ];
  }
  own_on (d ∷ e ∷ new) ds m once h = absurd m
