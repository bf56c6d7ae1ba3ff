-- The rules entry by entry; and the opening of the first run follows them.
use Rattle.std.proofs.Common.{◌≡◌, inr, ℕ, List, [], ◌∷◌, ◌++◌, refl, sym, ap, subst, ◌∙◌, append-nil, append_assoc}
use Rattle.std.specs.Prelude.{⊤}
use Rattle.rand_core.specs.Stream.{Stream}
use Rattle.spec_world.specs.Observations.{End, A, B, Entry}
use Rattle.spec_world.specs.World.{World, Runs}
use Rattle.proof_world.specs.FirstRun.{opening}
use Rattle.proof_world.proofs.FirstRunLemmas.{opened, opened_then}
use Rattle.proof_world.specs.Consistent.{MayFollow, WorldKeepsRules, times_ended, OpeningFollows}

abbrev pub Each : World → (before log : List Entry) → Type 0
Each w before [] = ⊤
Each w before (e ∷ log) = MayFollow w before e × Each w (before ++ e ∷ []) log

head_same : (d e : Entry) (ds es : List Entry) → d ∷ ds ≡ e ∷ es → d ≡ e
head_same d e ds es h = cc

tail_same : (d e : Entry) (ds es : List Entry) → d ∷ ds ≡ e ∷ es → ds ≡ es
tail_same d e ds es h = cc

at_each : (w : World) (before log front : List Entry) (e : Entry) (behind : List Entry) → Each w before log → log ≡ front ++ e ∷ behind → MayFollow w (before ++ front) e
at_each w before [] [] e behind h is = cc
at_each w before [] (f ∷ front) e behind h is = cc
at_each w before (d ∷ log) [] e behind h is =
    subst (λ (l : List Entry). MayFollow w l e) (sym (append-nil before)) (subst (MayFollow w before) (head_same d e log behind is) h.0)
at_each w before (d ∷ log) (f ∷ front) e behind h is =
    subst (λ (l : List Entry). MayFollow w l e)
    (append_assoc before (d ∷ []) front ∙ ap (λ (k : Entry). before ++ k ∷ front) (head_same d f log (front ++ e ∷ behind) is))
    (at_each w (before ++ d ∷ []) log front e behind h.1 (tail_same d f log (front ++ e ∷ behind) is))

pub follows_by : (w : World) → Each w [] w.log → WorldKeepsRules w
follows_by w h before entry behind is stands = at_each w [] w.log before entry behind h is

-- ---- the first run

module _ (a b : Stream) (f : List ℕ → ℕ) where
  none_over : (x : End) → times_ended x (opened a b f).log ≡ 0
  none_over A = refl
  none_over B = refl

  each_may : Each (opened a b f) [] (opened a b f).log
  each_may = (inr refl, (tt, (tt, (tt, (tt, (tt, (tt, (tt, (tt, (tt, (tt, (tt, (tt, tt)))))))))))))

pub opening_follows : OpeningFollows
opening_follows w v fresh runs =
    let is : v ≡ opened fresh.a fresh.b fresh.word_of =
    opened_then fresh.a fresh.b fresh.word_of [] v (subst (λ (x : World). Runs opening x v) fresh.is runs) in
    let there : WorldKeepsRules (opened fresh.a fresh.b fresh.word_of) = follows_by (opened fresh.a fresh.b fresh.word_of) (each_may fresh.a fresh.b fresh.word_of) in
    (subst WorldKeepsRules (sym is) there, λ x. ap (λ (z : World). times_ended x z.log) is ∙ none_over fresh.a fresh.b fresh.word_of x)
