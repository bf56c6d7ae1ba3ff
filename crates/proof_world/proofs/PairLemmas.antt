-- Two worlds that the same events lead on.
use Rattle.std.proofs.Common.{◌≡◌, Bool, true, false, List, [], ◌∷◌, ◌++◌, refl, sym, ap, subst, ◌∙◌, append_assoc}
use Rattle.spec_world.specs.World.{World, Action, Happens, Runs}
use Rattle.spec_world.proofs.RunLemmas.{Runs_snoc, Runs_append}
use Rattle.proof_world.specs.Pairs.{Both, RanOut, in_first, in_second}

-- so far, of all these
pub record SoFar (all rest : List Action) (w v x y : World) : Type 0 where
  pub front : List Action
  pub split : all ≡ front ++ rest
  pub both : Both front w v x y

pub both_on : (all rest more : List Action) (action : Action) (w v x y u z : World) → SoFar all rest w v x y → rest ≡ action ∷ more → Happens action x u → Happens action y z
    → SoFar all more w v u z
both_on all rest more action w v x y u z s next first second = record {
  front = s.front ++ action ∷ [];
  split = s.split ∙ (ap (λ (r : List Action). s.front ++ r) next ∙ sym (append_assoc s.front (action ∷ []) more));
  both = record { first = Runs_snoc s.front action w x u s.both.first first; second = Runs_snoc s.front action v y z s.both.second second };
}

whole : (all front rest more before after : List Action) (action a : Action) → all ≡ front ++ rest → rest ≡ action ∷ more → action ∷ [] ≡ before ++ a ∷ after
    → all ≡ (front ++ before) ++ a ∷ (after ++ more)
whole all front rest more before after action a split next one =
    split
    ∙ (ap (λ (r : List Action). front ++ r)
    (next ∙ (ap (λ (r : List Action). r ++ more) one ∙ append_assoc before (a ∷ after) more))
    ∙ sym (append_assoc front before (a ∷ (after ++ more))))

-- one of them ran out of memory
pub both_ran_out : (all rest more : List Action) (action : Action) (w v x y u z : World) (failed too : Bool) → SoFar all rest w v x y → rest ≡ action ∷ more
    → RanOut (action ∷ []) x y u z failed too → RanOut all w v u z failed too
both_ran_out all rest more action w v x y u z failed too s next (in_first before a after led one both is is_not) =
    in_first (s.front ++ before) a (after ++ more) led (whole all s.front rest more before after action a s.split next one)
    (record { first = Runs_append s.front before w x led s.both.first both.first; second = Runs_append s.front before v y z s.both.second both.second }) is is_not
both_ran_out all rest more action w v x y u z failed too s next (in_second before a after led one second first is_not is) =
    in_second (s.front ++ before) a (after ++ more) led (whole all s.front rest more before after action a s.split next one)
    (Runs_append s.front before v y led s.both.second second)
    (subst (λ (r : List Action). Runs r w u) (sym (append_assoc s.front before (a ∷ []))) (Runs_append s.front (before ++ a ∷ []) w x u s.both.first first)) is_not is

-- of one event: the first runs out of memory, or the second, once the first had gone on
pub first_ran_out : (action : Action) (w v u z : World) (failed too : Bool) → z ≡ v → failed ≡ true → too ≡ false → RanOut (action ∷ []) w v u z failed too
first_ran_out action w v u z failed too same is is_not = in_first [] action [] w refl (record { first = refl; second = same }) is is_not

pub second_ran_out : (action : Action) (w v u z : World) (failed too : Bool) → Happens action w u → failed ≡ false → too ≡ true → RanOut (action ∷ []) w v u z failed too
second_ran_out action w v u z failed too happens is_not is = in_second [] action [] v refl refl (u, happens, refl) is_not is
