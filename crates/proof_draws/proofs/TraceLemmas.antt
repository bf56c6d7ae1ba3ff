-- Along two traces of the same actions: both ends are twins until an association first ends, and alike after the action that ends it.
use Rattle.std.proofs.Common.{◌≡◌, ℕ, ap, Bool, true, false, List, [], ◌∷◌, ◌++◌, All, inl, inr, refl, sym, subst}
use Rattle.rand_core.specs.Stream.{Stream}
use Rattle.sctp_state.specs.Options.{Options}
use Rattle.spec_endpoint.specs.Laws.{endings}
use Rattle.proof_endpoint.specs.Mapped.{Carried}
use Rattle.proof_pair.specs.Trace.{Side, Pair, emitted_packets, EndAction, act, goes, run, MayAct, side_of, KeepsRules, NoAssociationHasEnded, AreValidOptions, start, state_of, new_side}
use Rattle.proof_pair.specs.Agreement.{Draw as Drawn, Has}
use Rattle.proof_pair.proofs.TraceLemmas.{Halves, swapped, before_run, follows_front}
use Rattle.proof_pair.proofs.HandingLemmas.{first_halves}
use Rattle.proof_pair.proofs.AgreeActionsLemmas.{has_front}
use Rattle.proof_pair.proofs.AgreeCookieLemmas.{has_behind}
use Rattle.proof_draws.specs.Laws.{NumbersFitIn}
use Rattle.proof_draws.specs.NamedCalls.{EachCallIsNamed}
use Rattle.proof_draws.specs.Pairing.{drawn_at, pairs_of, pairs, Knows}
use Rattle.proof_draws.specs.Alike.{AreAlike, records_by, ActsAlike, SameAction, SameActions, ActionIsAlike, TracesAreAlike}
use Rattle.proof_draws.proofs.PairingLemmas.{pairs_know}
use Rattle.proof_draws.proofs.NamesLemmas.{same_tie}
use Rattle.proof_draws.proofs.TwinLemmas.{Stand, Twin, twins_on, are_alike}
use Rattle.proof_draws.specs.Kinds.{IsKind, AreOfAKind, KindsAlong}
use Rattle.proof_draws.proofs.ActionLemmas.{EndsEmitEventOwn, LateInitsAreNamed, Drew, Goes, actions_so, action_alike, action_twin, action_stands, action_halves}
use Rattle.proof_draws.proofs.WholeTraceLemmas.{along_of_a_kind}
use Rattle.proof_draws.proofs.StaysLemmas.{turning_stays, turning_stayed, idle_stays, idle_stayed}

-- ---- one end beside the other

pub record Beside (ps : List (Drawn × Drawn)) (o q : Options) (x y z v : Side) : Type 0 where
  pub halves : Halves o q x y
  pub own : Twin ps x y z
  pub other : Twin ps y x v

beside_too : (ps : List (Drawn × Drawn)) (o q : Options) (x y z v : Side) → Beside ps o q x y z v → Beside ps q o y x v z
beside_too ps o q x y z v h = record { halves = swapped o q x y h.halves; own = h.other; other = h.own }

-- the other end goes on
twin_beside : (ps : List (Drawn × Drawn)) (x y next v : Side) → Stand (state_of x) (state_of next) → Twin ps y x v → Twin ps y next v
twin_beside ps x y next v stand t = record {
  tie = t.tie;
  state = t.state;
  context = t.context;
  emitted = twins_on ps (state_of y) (state_of y) (state_of x) (state_of next) (λ a h. h) stand y.emitted v.emitted t.emitted;
  asked = t.asked;
}

module _ (ps : List (Drawn × Drawn)) (k : Knows ps) (law : EachCallIsNamed) (late : LateInitsAreNamed ps) (emits : EndsEmitEventOwn) where
  module _ (o q : Options) (own : AreValidOptions o) (other : AreValidOptions q) (x y z v : Side) (b : Beside ps o q x y z v)
      (kinds : All (λ (p : Carried). IsKind p.chunks) (emitted_packets y)) (numbers : NumbersFitIn (state_of x)) (t u : EndAction) (same : SameAction t u) (may : MayAct t x)
      (drew : Drew ps k law late o q own other x y z v b.halves b.own b.other kinds numbers t u) where
    goes_so : Goes ps k law late o q own other x y z v b.halves b.own b.other kinds numbers t u
    goes_so = actions_so ps k law late o q own other x y z v b.halves b.own b.other kinds numbers t u same may drew

    pub beside_after : endings (act t x y).emitted ≡ 0 → Beside ps o q (act t x y) y (act u z v) v
    beside_after none = record {
      halves = action_halves ps k law late o q own other x y z v b.halves b.own b.other kinds numbers t may none;
      own = action_twin ps k law late o q own other x y z v b.halves b.own b.other kinds numbers emits t u goes_so may none;
      other = twin_beside ps x y (act t x y) v (action_stands ps k law late o q own other x y z v b.halves b.own b.other kinds numbers t may none) b.other;
    }

    pub alike_after : AreAlike (act t x y) (act u z v)
    alike_after = (action_alike ps k law late o q own other x y z v b.halves b.own b.other kinds numbers t u goes_so).0

    stays_by : Goes ps k law late o q own other x y z v b.halves b.own b.other kinds numbers t u → ActsAlike t u x y z v
    stays_by (inl g) = record {
      given_up = (action_alike ps k law late o q own other x y z v b.halves b.own b.other kinds numbers t u (inl g)).1;
      stays = turning_stays ps x z (state_of y) (act t x y) (act u z v) (records_by t x y) (records_by u z v) g;
      stayed = λ none. turning_stayed ps x z (state_of y) (act t x y) (act u z v) (records_by t x y) (records_by u z v) g
          (action_stands ps k law late o q own other x y z v b.halves b.own b.other kinds numbers t may none);
    }
    stays_by (inr g) = record {
      given_up = (action_alike ps k law late o q own other x y z v b.halves b.own b.other kinds numbers t u (inr g)).1;
      stays = idle_stays ps x z (state_of y) (act t x y) (act u z v) (records_by t x y) (records_by u z v) g;
      stayed = λ none. idle_stayed ps x z (state_of y) (act t x y) (act u z v) (records_by t x y) (records_by u z v) g;
    }

    pub acts_alike : ActsAlike t u x y z v
    acts_alike = stays_by goes_so

    pub still_alike : AreAlike y v
    still_alike = are_alike ps k y x v b.other

    pub was_alike : AreAlike x z
    was_alike = are_alike ps k x y z b.own

  -- ---- both ends

  abbrev Both : (a b : Options) → (w v : Pair) → Type 0
  Both a b w v = Beside ps a b w.a w.b v.a v.b

  abbrev Among : (at_a : Bool) (t u : EndAction) → (w v : Pair) → Type 0
  Among at_a t u w v = (d e : Drawn) → Has (d, e) (pairs_of (drawn_at at_a t w) (drawn_at at_a u v)) → Has (d, e) ps

  module _ (a b : Options) (given_a : AreValidOptions a) (given_b : AreValidOptions b) where
    goes_both : (at_a : Bool) (t u : EndAction) (w v : Pair) → Both a b w v → AreOfAKind w → SameAction t u → MayAct t (side_of at_a w) → Among at_a t u w v
        → NoAssociationHasEnded (goes at_a t w) → Both a b (goes at_a t w) (goes at_a u v)
    goes_both true t u w v h kinds same may drew none =
        beside_after a b given_a given_b w.a w.b v.a v.b h kinds.b kinds.a_numbers t u same may drew none.a
    goes_both false t u w v h kinds same may drew none =
        beside_too ps b a (act t w.b w.a) w.a (act u v.b v.a) v.a
        (beside_after b a given_b given_a w.b w.a v.b v.a (beside_too ps a b w.a w.b v.a v.b h) kinds.a kinds.b_numbers t u same may drew none.b)

    last_alike : (at_a : Bool) (t u : EndAction) (w v : Pair) → Both a b w v → AreOfAKind w → SameAction t u → MayAct t (side_of at_a w) → Among at_a t u w v
        → ActionIsAlike (at_a, t) (at_a, u) w v
    last_alike true t u w v h kinds same may drew =
        let now : AreAlike w.b v.b = still_alike a b given_a given_b w.a w.b v.a v.b h kinds.b kinds.a_numbers t u same may drew in
        record {
          before = record { a = was_alike a b given_a given_b w.a w.b v.a v.b h kinds.b kinds.a_numbers t u same may drew; b = now };
          after = record { a = alike_after a b given_a given_b w.a w.b v.a v.b h kinds.b kinds.a_numbers t u same may drew; b = now };
          acts = acts_alike a b given_a given_b w.a w.b v.a v.b h kinds.b kinds.a_numbers t u same may drew;
        }
    last_alike false t u w v h kinds same may drew =
        let g : Beside ps b a w.b w.a v.b v.a = beside_too ps a b w.a w.b v.a v.b h in
        let now : AreAlike w.a v.a = still_alike b a given_b given_a w.b w.a v.b v.a g kinds.a kinds.b_numbers t u same may drew in
        record {
          before = record { a = now; b = was_alike b a given_b given_a w.b w.a v.b v.a g kinds.a kinds.b_numbers t u same may drew };
          after = record { a = now; b = alike_after b a given_b given_a w.b w.a v.b v.a g kinds.a kinds.b_numbers t u same may drew };
          acts = acts_alike b a given_b given_a w.b w.a v.b v.a g kinds.a kinds.b_numbers t u same may drew;
        }

    -- the action of the same end
    last_by : (at_a too : Bool) (t u : EndAction) (w v : Pair) → too ≡ at_a → Both a b w v → AreOfAKind w → SameAction t u → MayAct t (side_of at_a w)
        → ((d e : Drawn) → Has (d, e) (pairs_of (drawn_at at_a t w) (drawn_at too u v)) → Has (d, e) ps) → ActionIsAlike (at_a, t) (too, u) w v
    last_by at_a too t u w v is h kinds same may drew =
        subst (λ (c : Bool). ActionIsAlike (at_a, t) (c, u) w v) (sym is)
        (last_alike at_a t u w v h kinds same may
        (subst (λ (c : Bool). (d e : Drawn) → Has (d, e) (pairs_of (drawn_at at_a t w) (drawn_at c u v)) → Has (d, e) ps) is drew))

    goes_by : (at_a too : Bool) (t u : EndAction) (w v : Pair) → too ≡ at_a → Both a b w v → AreOfAKind w → SameAction t u → MayAct t (side_of at_a w)
        → ((d e : Drawn) → Has (d, e) (pairs_of (drawn_at at_a t w) (drawn_at too u v)) → Has (d, e) ps) → NoAssociationHasEnded (goes at_a t w)
        → Both a b (goes at_a t w) (goes too u v)
    goes_by at_a too t u w v is h kinds same may drew none =
        subst (λ (c : Bool). Both a b (goes at_a t w) (goes c u v)) (sym is)
        (goes_both at_a t u w v h kinds same may
        (subst (λ (c : Bool). (d e : Drawn) → Has (d, e) (pairs_of (drawn_at at_a t w) (drawn_at c u v)) → Has (d, e) ps) is drew) none)

    -- ---- along the traces

    no_more : (fs : List (Bool × EndAction)) (f : Bool × EndAction) → SameActions [] (fs ++ f ∷ []) → ⊥
    no_more [] f h = h
    no_more (g ∷ fs) f h = h

    none_left : (es : List (Bool × EndAction)) (e : Bool × EndAction) → SameActions (es ++ e ∷ []) [] → ⊥
    none_left [] e h = h
    none_left (g ∷ es) e h = h

    pub along : (es fs : List (Bool × EndAction)) (e f : Bool × EndAction) (w v : Pair) → SameActions (es ++ e ∷ []) (fs ++ f ∷ []) → KeepsRules (es ++ e ∷ []) w
        → NoAssociationHasEnded (run es w) → KindsAlong es w → ((d c : Drawn) → Has (d, c) (pairs (es ++ e ∷ []) (fs ++ f ∷ []) w v) → Has (d, c) ps) → Both a b w v
        → ActionIsAlike e f (run es w) (run fs v)
    along [] [] e f w v same follows none kinds among h =
        last_by e.0 f.0 e.1 f.1 w v same.0 h kinds same.1 follows.0
        (λ d c m. among d c (has_front (d, c) (pairs_of (drawn_at e.0 e.1 w) (drawn_at f.0 f.1 v)) [] m))
    along [] (g ∷ fs) e f w v same follows none kinds among h = absurd (no_more fs f same.2)
    along (g ∷ es) [] e f w v same follows none kinds among h = absurd (none_left es e same.2)
    along (g ∷ es) (c ∷ fs) e f w v same follows none kinds among h =
        let w1 : Pair = goes g.0 g.1 w in
        let v1 : Pair = goes c.0 c.1 v in
        let now : List (Drawn × Drawn) = pairs_of (drawn_at g.0 g.1 w) (drawn_at c.0 c.1 v) in
        let rest : List (Drawn × Drawn) = pairs (es ++ e ∷ []) (fs ++ f ∷ []) w1 v1 in
        along es fs e f w1 v1 same.2 follows.1 none kinds.1 (λ d b m. among d b (has_behind (d, b) now rest m))
        (goes_by g.0 c.0 g.1 c.1 w v same.0 h kinds.0 same.1 follows.0 (λ d b m. among d b (has_front (d, b) now rest m)) (before_run es w1 none))

-- two new ends
first_twin : (ps : List (Drawn × Drawn)) → Knows ps → (o q : Options) (w v s : Stream) → Twin ps (new_side o w) (new_side q s) (new_side o v)
first_twin ps k o q w v s = record {
  tie = same_tie;
  state = refl;
  context = ap (λ (tag : ℕ). record (new_side o w).end.endpoint_state.context { last_tag = tag }) (sym k.renames.none);
  emitted = tt;
  asked = refl;
}

-- The first trace follows the rules, so that its packets are of a kind.
pub traces_alike : EachCallIsNamed → EndsEmitEventOwn → ((ps : List (Drawn × Drawn)) → Knows ps → LateInitsAreNamed ps) → TracesAreAlike
traces_alike law emits late a b draws_a draws_b others_a others_b es fs e f given_a given_b same follows none once once_too =
    let w : Pair = start a b draws_a draws_b in
    let v : Pair = start a b others_a others_b in
    let ps : List (Drawn × Drawn) = pairs (es ++ e ∷ []) (fs ++ f ∷ []) w v in
    let k : Knows ps = pairs_know (es ++ e ∷ []) (fs ++ f ∷ []) w v once once_too in
    let kinds : KindsAlong es w = along_of_a_kind a b draws_a draws_b es given_a given_b (follows_front es (e ∷ []) w follows) none in
    along ps k law (late ps k) emits a b given_a given_b es fs e f w v same follows none kinds (λ d c m. m)
    (record {
      halves = first_halves a b draws_a draws_b;
      own = first_twin ps k a b draws_a others_a draws_b;
      other = first_twin ps k b a draws_b others_b draws_a;
    })
