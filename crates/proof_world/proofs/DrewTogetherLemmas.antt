-- Where a run draws no tag twice until an association is over, both ends' draws taken together, its trace doesn't either.
use Rattle.std.proofs.Common.{◌≡◌, ◌⊎◌, inl, inr, ℕ, Bool, true, false, List, [], ◌∷◌, ◌++◌, refl, sym, ap, subst, ◌∙◌, append-nil, append_assoc}
use Rattle.proof_pair.specs.Trace.{Pair, EndAction, act, goes, run}
use Rattle.proof_pair.specs.Agreement.{Draw, Has, AreDistinct, drawn_in}
use Rattle.proof_draws.specs.Pairing.{drawn, drawn_at}
use Rattle.spec_world.specs.Observations.{End, A, B}
use Rattle.spec_world.specs.World.{World, Action, Runs}
use Rattle.proof_world.specs.Consistent.{NoEndingIsLogged}
use Rattle.proof_world.specs.Alike.{IsDrawnUpToEnd, DrawsTagsOnceUpToEnd}
use Rattle.proof_world.specs.Draws.{draws, DrawsTag}
use Rattle.proof_world.specs.Traces.{is_a, end_of}
use Rattle.proof_world.proofs.AgreedLemmas.{draws_a, draws_b, moved}
use Rattle.proof_world.proofs.BundledLemmas.{SideIsBundled, act_bundled}
use Rattle.proof_world.proofs.DrewLemmas.{DrawsSo, act_so}
use Rattle.proof_world.proofs.WorldLemmas.{Both}

-- ---- traces

pub drawn_both : (es fs : List (Bool × EndAction)) (c : Pair) → drawn (es ++ fs) c ≡ drawn es c ++ drawn fs (run es c)
drawn_both [] fs c = refl
drawn_both (e ∷ es) fs c =
    ap (λ (ds : List Draw). drawn_at e.0 e.1 c ++ ds) (drawn_both es fs (goes e.0 e.1 c)) ∙ sym (append_assoc (drawn_at e.0 e.1 c) (drawn es (goes e.0 e.1 c)) (drawn fs (run es (goes e.0 e.1 c))))

pub drawn_more : (es : List (Bool × EndAction)) (b : Bool) (t : EndAction) (c : Pair) → drawn (es ++ (b, t) ∷ []) c ≡ drawn es c ++ drawn_at b t (run es c)
drawn_more es b t c = drawn_both es ((b, t) ∷ []) c ∙ ap (λ (ds : List Draw). drawn es c ++ ds) (append-nil (drawn_at b t (run es c)))

-- ---- an event

pub record BothAreBundled (c : Pair) : Type 0 where
  pub a : SideIsBundled c.a
  pub b : SideIsBundled c.b

pub bundled_on : (x : End) (t : EndAction) (c : Pair) → BothAreBundled c → BothAreBundled (goes (is_a x) t c)
bundled_on A t c h = record { a = act_bundled c.a c.b h.a t; b = h.b }
bundled_on B t c h = record { a = h.a; b = act_bundled c.b c.a h.b t }

pub drew : (f g : List ℕ → ℕ) (x : End) (t : EndAction) (w u : World) (c : Pair) → Both f g w c → Both f g u (goes (is_a x) t c) → BothAreBundled c
    → DrawsSo (drawn_at (is_a x) t c) (draws x w) (draws x u)
drew f g A t w u c h k n =
    moved f g (drawn_in t c.a c.b) (draws A w) (draws A u) c.a.end.draws (act t c.a c.b).end.draws (draws_a f g w c h) (draws_a f g u (goes true t c) k) (act_so t c.a c.b n.b)
drew f g B t w u c h k n =
    moved f g (drawn_in t c.b c.a) (draws B w) (draws B u) c.b.end.draws (act t c.b c.a).end.draws (draws_b f g w c h) (draws_b f g u (goes false t c) k) (act_so t c.b c.a n.a)

-- ---- what was drawn so far, and isn't drawn again

pub record AreDrawnOnceUpToEnd (ds : List Draw) (actions : List Action) (w v x y : World) (r : Runs actions w v) (s : Runs actions x y) : Type 0 where
  pub distinct : AreDistinct ds
  pub never : (d : Draw) → Has d ds → IsDrawnUpToEnd d.tag actions w v x y r s → ⊥
  pub once : DrawsTagsOnceUpToEnd actions w v x y r s

has_last : (ds : List Draw) (d k : Draw) → Has k (ds ++ d ∷ []) → Has k ds ⊎ (k ≡ d)
has_last [] d k (inl is) = inr is
has_last [] d k (inr none) = absurd none
has_last (e ∷ ds) d k (inl is) = inl (inl is)
has_last (e ∷ ds) d k (inr later) = elim (has_last ds d k later) [ inl there ↦ inl (inr there) | inr is ↦ inr is ]

one_more : (ds : List Draw) (d : Draw) → AreDistinct ds → ((e : Draw) → Has e ds → e.tag ≡ d.tag → ⊥) → AreDistinct (ds ++ d ∷ [])
one_more [] d h apart = ((λ e has same. absurd has), tt)
one_more (e ∷ ds) d h apart = (
  (λ k has same. elim (has_last ds d k has) [
    | inl there ↦ h.0 k there same
    | inr is ↦ apart e (inl refl) (sym same ∙ ap (λ (z : Draw). z.tag) is)
  ]),
  one_more ds d h.1 (λ k has. apart k (inr has)),
)

module _ (action : Action) (actions : List Action) (w v x y : World) (r : Runs (action ∷ actions) w v) (s : Runs (action ∷ actions) x y) (stands : NoEndingIsLogged w.log) where
  pub once_on : (ds new : List Draw) → DrawsSo new (draws (end_of action) x) (draws (end_of action) s.0) → AreDrawnOnceUpToEnd ds (action ∷ actions) w v x y r s
      → AreDrawnOnceUpToEnd (ds ++ new) actions r.0 v s.0 y r.2 s.2
  once_on ds [] m h =
      subst (λ (l : List Draw). AreDrawnOnceUpToEnd l actions r.0 v s.0 y r.2 s.2) (sym (append-nil ds))
      (record { distinct = h.distinct; never = λ d has later. h.never d has (stands, inr later); once = (h.once stands).1 })
  once_on ds (d ∷ []) m h = record {
    distinct = one_more ds d h.distinct (λ e has same. h.never e has (stands, inl (subst (DrawsTag (draws (end_of action) x) (draws (end_of action) s.0)) (sym same) m)));
    never = λ e has later. elim (has_last ds d e has) [
      | inl there ↦ h.never e there (stands, inr later)
      | inr is ↦ (h.once stands).0 d.tag m (subst (λ (n : ℕ). IsDrawnUpToEnd n actions r.0 v s.0 y r.2 s.2) (ap (λ (z : Draw). z.tag) is) later)
    ];
    once = (h.once stands).1;
  }
  once_on ds (d ∷ e ∷ new) m h = absurd m

pub none_so_far : (actions : List Action) (w v x y : World) (r : Runs actions w v) (s : Runs actions x y) → DrawsTagsOnceUpToEnd actions w v x y r s
    → AreDrawnOnceUpToEnd [] actions w v x y r s
none_so_far actions w v x y r s once = record { distinct = tt; never = λ d h. absurd h; once = once }
