-- Events one after the other.
use Rattle.std.proofs.Common.{◌≡◌, List, [], ◌∷◌, ◌++◌, refl, sym, ap, subst, ◌∙◌, append_assoc}
use Rattle.spec_world.specs.World.{Action, World, Happens, Runs, IsDisabled, RunsUpToDisabled}

pub Runs_snoc : (front : List Action) (action : Action) (w u v : World) → Runs front w u → Happens action u v → Runs (front ++ action ∷ []) w v
Runs_snoc [] action w u v runs happens = (v, subst (λ (x : World). Happens action x v) runs happens, refl)
Runs_snoc (first ∷ front) action w u v runs happens = (runs.0, runs.1, Runs_snoc front action runs.0 u v runs.2 happens)

pub Runs_append : (early late : List Action) (w u v : World) → Runs early w u → Runs late u v → Runs (early ++ late) w v
Runs_append [] late w u v r s = subst (λ (z : World). Runs late z v) r s
Runs_append (action ∷ early) late w u v r s = (r.0, r.1, Runs_append early late r.0 u v r.2 s)

-- a run of one event
pub runs_one : (action : Action) (w v : World) → Happens action w v → Runs (action ∷ []) w v
runs_one action w v happens = (v, happens, refl)

pub lacks_one : (action : Action) (w v : World) → IsDisabled action w → v ≡ w → RunsUpToDisabled (action ∷ []) w v
lacks_one action w v disabled same = record { before = []; action = action; rest = []; split = refl; runs = same; disabled = subst (IsDisabled action) (sym same) disabled }

pub stepped : (all rest more : List Action) (action : Action) (w u v : World)
    → (front : List Action) × (all ≡ front ++ rest) × Runs front w u → rest ≡ action ∷ more → Happens action u v
    → (front : List Action) × (all ≡ front ++ more) × Runs front w v
stepped all rest more action w u v done next happens =
    (done.0 ++ action ∷ [], done.1 ∙ ap (λ (r : List Action). done.0 ++ r) next ∙ sym (append_assoc done.0 (action ∷ []) more), Runs_snoc done.0 action w u v done.2 happens)
