-- Two worlds along their runs: they show the same, since their traces are alike.
use Rattle.std.proofs.Common.{◌≡◌, ℕ, Bool, false, List, [], ◌∷◌, ◌++◌, refl, sym, subst, All}
use Rattle.std.proofs.lemmas.List.Elements.{All-head, All-tail}
use Rattle.proof_pair.specs.Trace as traces
use Rattle.proof_pair.specs.Trace.{Pair, EndAction, goes, run, NoAssociationHasEnded, AreValidOptions, start, MayAct}
use Rattle.proof_pair.proofs.TraceLemmas.{follows_more, run_both}
use Rattle.proof_pair.specs.Agreement.{Draw, AreDistinct}
use Rattle.proof_draws.specs.Pairing.{drawn, drawn_at}
use Rattle.proof_draws.specs.NamedChunks.{Names, AreNames}
use Rattle.proof_draws.specs.Alike.{ArePairsAlike, SameAction, SameActions, ActionIsAlike, ArePassed}
use Rattle.proof_draws.proofs.PassLemmas.{images_pass}
use Rattle.proof_draws.proofs.LawLemmas.{are_always_alike}
use Rattle.proof_draws.proofs.WholeTraceLemmas.{packets_pass}
use Rattle.spec_world.specs.Observations.{A, B}
use Rattle.spec_world.specs.World.{World, Action, Happens, Runs}
use Rattle.proof_world.specs.Reachable.{ActionFits, IsReachable, initial_world}
use Rattle.proof_world.specs.Traces.{is_a, end_of, AreActionsOf}
use Rattle.proof_world.specs.Consistent.{NoEndingIsLogged}
use Rattle.proof_world.proofs.BundledLemmas.{new_bundled}
use Rattle.proof_world.proofs.DrewTogetherLemmas.{BothAreBundled, bundled_on, drew, drawn_more, AreDrawnOnceUpToEnd, once_on, none_so_far}
use Rattle.proof_world.proofs.ConsistentLemmas.{given_of, none_ended}
use Rattle.proof_world.proofs.WorldLemmas.{Both, Extends, in_bytes_before, Stepped, steps}
use Rattle.proof_world.proofs.RunsLemmas.{happens_extends, runs_extends, may_action, fresh_both}
use Rattle.proof_world.specs.Visible.{ShowTheSame}
use Rattle.proof_world.specs.Alike.{TwoOrigins, first_origin, second_origin, AreComparable, NoneComesFromElsewhere, ShowAlong, WorldsShowTheSame}
use Rattle.proof_world.specs.Worlds.{is_foreign}
use Rattle.proof_world.proofs.AlikeEventLemmas.{same_action, event_shown}
use Rattle.proof_world.proofs.EndingLemmas.{ended_or_none}

-- ---- traces, action by action

same_more : (es fs : List (Bool × EndAction)) (e f : Bool × EndAction) → SameActions es fs → f.0 ≡ e.0 → SameAction e.1 f.1 → SameActions (es ++ e ∷ []) (fs ++ f ∷ [])
same_more [] [] e f h at same = (at, same, tt)
same_more [] (g ∷ fs) e f h at same = absurd h
same_more (g ∷ es) [] e f h at same = absurd h
same_more (g ∷ es) (k ∷ fs) e f h at same = (h.0, h.1, same_more es fs e f h.2 at same)

actions_both : (f : List ℕ → ℕ) (front actions : List Action) (es fs : List (Bool × EndAction)) (c : Pair) → AreActionsOf f f front es c → AreActionsOf f f actions fs (run es c)
    → AreActionsOf f f (front ++ actions) (es ++ fs) c
actions_both f [] actions [] fs c h k = k
actions_both f [] actions (e ∷ es) fs c h k = absurd h
actions_both f (action ∷ front) actions [] fs c h k = absurd h
actions_both f (action ∷ front) actions (e ∷ es) fs c h k = (h.0, h.1, actions_both f front actions es fs (goes e.0 e.1 c) h.2 k)

-- ---- two new ends

abbrev itself : Names
itself = record { tag = λ k. k; tie = λ k. k; cookie_tie = λ k. k; own = 0; peer = 0; cookie = λ bytes. bytes }

itself_names : AreNames itself
itself_names = record { apart = λ a b. refl; none = refl; size = λ cookie. refl }

-- ---- two worlds

module _ (t : TwoOrigins) (all : List Action) (w v : World) (p : IsReachable (first_origin t) all w) (p_too : IsReachable (second_origin t) all v) (q : AreComparable t all w v p.runs p_too.runs) where
  abbrev from : World
  from = initial_world (first_origin t)

  abbrev from_too : World
  from_too = initial_world (second_origin t)

  abbrev f : List ℕ → ℕ
  f = t.word_of

  abbrev first_start : Pair
  first_start = start t.a t.b t.draws_a t.draws_b

  abbrev second_start : Pair
  second_start = start t.a t.b t.others_a t.others_b

  given_a : AreValidOptions t.a
  given_a = given_of t.a p.valid_a p.fits_a

  given_b : AreValidOptions t.b
  given_b = given_of t.b p.valid_b p.fits_b

  -- so far, and before what is left
  record IsPoint (front actions : List Action) (x y : World) (r : Runs actions x w) (s : Runs actions y v) : Type 0 where
    es : List (Bool × EndAction)
    fs : List (Bool × EndAction)
    are : AreActionsOf f f front es first_start
    are_too : AreActionsOf f f front fs second_start
    both : Both f f x (run es first_start)
    both_too : Both f f y (run fs second_start)
    same : SameActions es fs
    follows : traces.KeepsRules es first_start
    alike : ArePairsAlike (run es first_start) (run fs second_start)
    later : Extends x w
    later_too : Extends y v
    shown : ShowTheSame x y
    bundled : BothAreBundled (run es first_start)
    bundled_too : BothAreBundled (run fs second_start)
    once : AreDrawnOnceUpToEnd (drawn es first_start) actions x w x w r r
    once_too : AreDrawnOnceUpToEnd (drawn fs second_start) actions x w y v r s

  not_ended : (x : World) (c : Pair) → Both f f x c → NoEndingIsLogged x.log → NoAssociationHasEnded c
  not_ended x c h stands = record {
    a = none_ended f A x.log x.b.packets x.a c.a h.a (stands A);
    b = none_ended f B x.log x.a.packets x.b c.b h.b (stands B);
  }

  next : (front : List Action) (action : Action) (actions : List Action) (x y : World) (n : Runs (action ∷ actions) x w) (m : Runs (action ∷ actions) y v)
      → All ActionFits (action ∷ actions) → is_foreign action ≡ false → NoEndingIsLogged x.log → IsPoint front (action ∷ actions) x y n m
      → IsPoint (front ++ action ∷ []) actions n.0 m.0 n.2 m.2
  next front action actions x y n m fit own stands at =
      let u : World = n.0 in
      let z : World = m.0 in
      let happens : Happens action x u = n.1 in
      let happens_too : Happens action y z = m.1 in
      let c : Pair = run at.es first_start in
      let d : Pair = run at.fs second_start in
      let fits : ActionFits action = All-head ActionFits action actions fit in
      let s : Stepped f f action x u c = steps f f action x u c fits (in_bytes_before x w at.later p.bytes) happens at.both in
      let r : Stepped f f action y z d = steps f f action y z d fits (in_bytes_before y v at.later_too p_too.bytes) happens_too at.both_too in
      let e : Bool × EndAction = (is_a (end_of action), s.turn) in
      let g : Bool × EndAction = (is_a (end_of action), r.turn) in
      let are : AreActionsOf f f (front ++ action ∷ []) (at.es ++ e ∷ []) first_start = actions_both f front (action ∷ []) at.es (e ∷ []) first_start at.are (refl, s.is, tt) in
      let are_too : AreActionsOf f f (front ++ action ∷ []) (at.fs ++ g ∷ []) second_start = actions_both f front (action ∷ []) at.fs (g ∷ []) second_start at.are_too (refl, r.is, tt) in
      let once : AreDrawnOnceUpToEnd (drawn at.es first_start ++ drawn_at e.0 e.1 c) actions u w u w n.2 n.2 =
      once_on action actions x w x w n n stands (drawn at.es first_start) (drawn_at e.0 e.1 c) (drew f f (end_of action) s.turn x u c at.both s.both at.bundled) at.once in
      let once_too : AreDrawnOnceUpToEnd (drawn at.fs second_start ++ drawn_at g.0 g.1 d) actions u w z v n.2 m.2 =
      once_on action actions x w y v n m stands (drawn at.fs second_start) (drawn_at g.0 g.1 d) (drew f f (end_of action) r.turn y z d at.both_too r.both at.bundled_too) at.once_too in
      let drawn_now : drawn (at.es ++ e ∷ []) first_start ≡ drawn at.es first_start ++ drawn_at e.0 e.1 c = drawn_more at.es e.0 e.1 first_start in
      let drawn_too : drawn (at.fs ++ g ∷ []) second_start ≡ drawn at.fs second_start ++ drawn_at g.0 g.1 d = drawn_more at.fs g.0 g.1 second_start in
      let still : NoAssociationHasEnded c = not_ended x c at.both stands in
      let passed : ArePassed c = packets_pass t.a t.b t.draws_a t.draws_b at.es given_a given_b at.follows still in
      let same : SameAction s.turn r.turn = same_action f action s.turn r.turn x y c d own s.is r.is at.both at.both_too passed (images_pass c d at.alike passed) in
      let sames : SameActions (at.es ++ e ∷ []) (at.fs ++ g ∷ []) = same_more at.es at.fs e g at.same refl same in
      let may : MayAct e.1 (traces.side_of e.0 c) =
      may_action f f action x u w c s.turn happens (happens_extends action x u happens) (runs_extends actions u w n.2) at.both s.is q.follows stands in
      let follows : traces.KeepsRules (at.es ++ e ∷ []) first_start = follows_more at.es e first_start at.follows may in
      let law : ActionIsAlike e g c d =
      are_always_alike t.a t.b t.draws_a t.draws_b t.others_a t.others_b at.es at.fs e g given_a given_b sames follows still
      (subst AreDistinct (sym drawn_now) once.distinct) (subst AreDistinct (sym drawn_too) once_too.distinct) in
      record {
        es = at.es ++ e ∷ [];
        fs = at.fs ++ g ∷ [];
        are = are;
        are_too = are_too;
        both = subst (λ (k : Pair). Both f f u k) (sym (run_both at.es (e ∷ []) first_start)) s.both;
        both_too = subst (λ (k : Pair). Both f f z k) (sym (run_both at.fs (g ∷ []) second_start)) r.both;
        same = sames;
        follows = follows;
        alike = subst (λ (k : Pair). ArePairsAlike k (run (at.fs ++ g ∷ []) second_start)) (sym (run_both at.es (e ∷ []) first_start))
            (subst (λ (k : Pair). ArePairsAlike (goes e.0 e.1 c) k) (sym (run_both at.fs (g ∷ []) second_start)) law.after);
        later = runs_extends actions u w n.2;
        later_too = runs_extends actions z v m.2;
        shown =
            event_shown f action x u y z c d own happens happens_too at.both at.both_too s r law.before law.after law.acts
            (ended_or_none t.a t.b t.draws_a t.draws_b f x at.es s.turn (end_of action) given_a given_b at.follows still may at.both) at.shown;
        bundled = subst BothAreBundled (sym (run_both at.es (e ∷ []) first_start)) (bundled_on (end_of action) s.turn c at.bundled);
        bundled_too = subst BothAreBundled (sym (run_both at.fs (g ∷ []) second_start)) (bundled_on (end_of action) r.turn d at.bundled_too);
        once = subst (λ (ds : List Draw). AreDrawnOnceUpToEnd ds actions u w u w n.2 n.2) (sym drawn_now) once;
        once_too = subst (λ (ds : List Draw). AreDrawnOnceUpToEnd ds actions u w z v n.2 m.2) (sym drawn_too) once_too;
      }

  along : (front actions : List Action) (x y : World) (r : Runs actions x w) (s : Runs actions y v) → All ActionFits actions
      → NoneComesFromElsewhere actions x w r → IsPoint front actions x y r s → ShowAlong actions x y w v r s
  along front [] x y r s fit own at = at.shown
  along front (action ∷ actions) x y r s fit own at = (
    at.shown,
    λ stands. along (front ++ action ∷ []) actions r.0 s.0 r.2 s.2 (All-tail ActionFits action actions fit) own.1
        (next front action actions x y r s fit (own.0 stands) stands at),
  )

  beginning : IsPoint [] all from from_too p.runs p_too.runs
  beginning = record {
    es = [];
    fs = [];
    are = tt;
    are_too = tt;
    both = fresh_both t.a t.b t.draws_a t.draws_b f f p.fits_a p.fits_b;
    both_too = fresh_both t.a t.b t.others_a t.others_b f f p.fits_a p.fits_b;
    same = tt;
    follows = tt;
    alike = record {
      a = record { names = itself; are = itself_names; state = refl; context = refl; emitted = tt; asked = refl };
      b = record { names = itself; are = itself_names; state = refl; context = refl; emitted = tt; asked = refl };
    };
    later = runs_extends all from w p.runs;
    later_too = runs_extends all from_too v p_too.runs;
    shown = refl;
    bundled = record { a = new_bundled t.a t.draws_a; b = new_bundled t.b t.draws_b };
    bundled_too = record { a = new_bundled t.a t.others_a; b = new_bundled t.b t.others_b };
    once = none_so_far all from w from w p.runs p.runs q.tags;
    once_too = none_so_far all from w from_too v p.runs p_too.runs q.tags_too;
  }

  pub show_along : ShowAlong all from from_too w v p.runs p_too.runs
  show_along = along [] all from from_too p.runs p_too.runs p.fit q.own beginning

pub worlds_show : WorldsShowTheSame
worlds_show t actions w v p p_too q = show_along t actions w v p p_too q
