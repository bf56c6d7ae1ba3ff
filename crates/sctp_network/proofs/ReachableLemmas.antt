-- Unless it has failed, a reachable world is led on: its new packets are bytes, and what was handed in fits.
use Rattle.std.proofs.Common.{◌≡◌, ◌<◌, ℕ, ◌+◌, List, [], ◌∷◌, ◌++◌, length, get_or, take, drop, map, refl, sym, ap, subst, ◌∙◌}
use Rattle.std.specs.Prelude.{All, Result, Ok, Err, OnOk, IfErr}
use Rattle.std.proofs.lemmas.List.{drop_more}
use Rattle.std.proofs.lemmas.List.Elements.{All-nil, All-cons, All-append, All-take}
use Rattle.sctp_packet.specs.Grammar.{Each}
use Rattle.sctp_state.specs.Options.{IsValid}
use Rattle.proof_endpoint.specs.Sound.{OptionsFit}
use Rattle.spec_endpoint.specs.Wire.{AreBytes}
use Rattle.sctp_network_side.specs.declared.log.Event.{Event}
use Rattle.sctp_network.specs.declared.world.WorldError.{WorldError}
use Rattle.sctp_network.specs.declared.world.WorldError.TheVariants as errors
use Rattle.spec_world.specs.World.{World, Action, CallOf, Give, GiveForeign, AdvanceTime, Runs, IsDisabled, RunsUpToDisabled}
use Rattle.spec_world.proofs.RunLemmas.{lacks_one}
use Rattle.sctp_network_side.specs.SideView.{action_of}
use Rattle.proof_world.specs.Reachable.{ActionFits, IsInBytes, Origin, initial_world, IsReachable, Continues}
use Rattle.proof_world.specs.Pairs.{BothUpToLack}
use Rattle.proof_world.specs.Readable as readable
use Rattle.proof_world.proofs.WorldLemmas.{Extends}
use Rattle.proof_world.proofs.RunsLemmas.{runs_extends}
use Rattle.proof_world.proofs.ComposedLemmas.{reachable_on}

-- ---- events that fit

pub all_of_each : {X : Type 0} (P : X → Type 0) (xs : List X) → Each P xs → All P xs
all_of_each P [] h = All-nil P
all_of_each P (x ∷ xs) h = All-cons P x xs h.0 (all_of_each P xs h.1)

pub fits_readable : (actions : List Action) → Each ActionFits actions → Each readable.ActionArgumentsFit actions
fits_readable [] h = tt
fits_readable (CallOf x call ∷ actions) h = (h.0, fits_readable actions h.1)
fits_readable (Give packet x ∷ actions) h = (tt, fits_readable actions h.1)
fits_readable (GiveForeign x bytes ∷ actions) h = (tt, fits_readable actions h.1)
fits_readable (AdvanceTime x now ∷ actions) h = (tt, fits_readable actions h.1)

-- ---- packets that are bytes

dropped : {X : Type 0} (xs ys : List X) → drop (length xs) (xs ++ ys) ≡ ys
dropped [] ys = refl
dropped (x ∷ xs) ys = dropped xs ys

more_bytes : (old new sent : List (List ℕ)) (n : ℕ) → new ≡ old ++ sent → n ≡ length old → Each AreBytes (drop n new) → All AreBytes old → All AreBytes new
more_bytes old new sent n grown counted fresh h =
    let sent_bytes : Each AreBytes sent =
    subst (Each AreBytes) (ap (λ (k : ℕ). drop k new) counted ∙ (ap (drop (length old)) grown ∙ dropped old sent)) fresh in
    subst (All AreBytes) (sym grown) (All-append AreBytes old sent h (all_of_each AreBytes sent sent_bytes))

pub in_bytes_after : (actions : List Action) (w v : World) (a b : ℕ) → Runs actions w v → a ≡ length w.a.packets → b ≡ length w.b.packets
    → Each AreBytes (drop a v.a.packets) → Each AreBytes (drop b v.b.packets) → IsInBytes w → IsInBytes v
in_bytes_after actions w v a b runs sent_a sent_b bytes_a bytes_b h =
    let e : Extends w v = runs_extends actions w v runs in
    record { a = more_bytes w.a.packets v.a.packets e.sent_a a e.a sent_a bytes_a h.a; b = more_bytes w.b.packets v.b.packets e.sent_b b e.b sent_b bytes_b h.b }

-- ---- worlds

pub front_fits : (actions before : List Action) (action : Action) (rest : List Action) → actions ≡ before ++ action ∷ rest → All ActionFits actions → All ActionFits before
front_fits actions before action rest split h =
    subst (All ActionFits) (took before (action ∷ rest)) (All-take ActionFits (length before) (before ++ action ∷ rest) (subst (All ActionFits) split h))
  where
    took : (xs ys : List Action) → take (length xs) (xs ++ ys) ≡ xs
    took [] ys = refl
    took (x ∷ xs) ys = ap (λ (zs : List Action). x ∷ zs) (took xs ys)

module _ (w v : World) (a b : ℕ) (sent_a : a ≡ length w.a.packets) (sent_b : b ≡ length w.b.packets)
    (bytes_a : Each AreBytes (drop a v.a.packets)) (bytes_b : Each AreBytes (drop b v.b.packets)) where
  pub continues : (actions : List Action) → All ActionFits actions → Runs actions w v → Continues actions w v
  continues actions fit runs o before l = reachable_on o before actions w v l fit runs (in_bytes_after actions w v a b runs sent_a sent_b bytes_a bytes_b l.bytes)

  pub reachable_by : {X : Type 0} (r : Result X WorldError) (actions : List Action) → All ActionFits actions → OnOk r (Runs actions w v) → OnOk r (Continues actions w v)
  reachable_by (Ok x) actions fit runs = continues actions fit runs
  reachable_by (Err e) actions fit runs = tt

  pub stopped_by : {X : Type 0} (r : Result X WorldError) (actions : List Action) → All ActionFits actions → IfErr r (λ e. e ≡ errors.NoSuchPacket → RunsUpToDisabled actions w v)
      → IfErr r (λ e. e ≡ errors.NoSuchPacket → (k : RunsUpToDisabled actions w v) × Continues k.before w v)
  stopped_by (Ok x) actions fit disabled = tt
  stopped_by (Err e) actions fit disabled = λ is. let k : RunsUpToDisabled actions w v = disabled is in (k, continues k.before (front_fits actions k.before k.action k.rest k.split fit) k.runs)

-- two worlds
pub both_reachable : {X : Type 0} (r : Result X WorldError) (actions : List Action) (w v x y : World) → OnOk r (Continues actions w x) → OnOk r (Continues actions v y) → OnOk r (Continues actions w x × Continues actions v y)
both_reachable (Ok z) actions w v x y first second = (first, second)
both_reachable (Err e) actions w v x y first second = tt

pub both_stopped : {X : Type 0} (r : Result X WorldError) (actions : List Action) (w v x y : World) → All ActionFits actions
    → ((front : List Action) → All ActionFits front → Runs front w x → Continues front w x) → ((front : List Action) → All ActionFits front → Runs front v y → Continues front v y)
    → IfErr r (λ e. e ≡ errors.NoSuchPacket → BothUpToLack actions w v x y)
    → IfErr r (λ e. e ≡ errors.NoSuchPacket → (k : BothUpToLack actions w v x y) × Continues k.before w x × Continues k.before v y)
both_stopped (Ok z) actions w v x y fit first second lacks = tt
both_stopped (Err e) actions w v x y fit first second lacks = λ is.
    let k : BothUpToLack actions w v x y = lacks is in
    let front : All ActionFits k.before = front_fits actions k.before k.action k.rest k.split fit in
    (k, first k.before front k.both.first, second k.before front k.both.second)

-- a step that finds no packet
pub lacks_then : {X : Type 0} (r : Result X WorldError) (action : Action) (w v : World) → IfErr r (λ e. e ≡ errors.NoSuchPacket → IsDisabled action w)
    → IfErr r (λ e. e ≡ errors.NoSuchPacket → v ≡ w) → IfErr r (λ e. e ≡ errors.NoSuchPacket → RunsUpToDisabled (action ∷ []) w v)
lacks_then (Ok x) action w v disabled same = tt
lacks_then (Err e) action w v disabled same = λ is. lacks_one action w v (disabled is) (same is)

-- ---- the events that are left

-- the first of them, and those behind it
pub next_event : (events : List Event) (i : ℕ) (event : Event) → i < length events → event ≡ get_or events i event
    → map action_of (drop i events) ≡ action_of event ∷ map action_of (drop (i + 1) events)
next_event events i event within is =
    ap (map action_of) (drop_more events i event within) ∙ ap (λ (e : Event). action_of e ∷ map action_of (drop (i + 1) events)) (sym is)

-- memory runs out at no event whose packet lacks
pub there_then : {X : Type 0} (e : WorldError) → e ≡ errors.Memory → ◌≡◌ {A = Result X WorldError} (Err e) (Err errors.NoSuchPacket) → ⊥
there_then e is no_such_packet = cc

-- a new world
pub reachable_new : (o : Origin) → IsValid o.a → IsValid o.b → OptionsFit o.a → OptionsFit o.b → (w : World) → w ≡ initial_world o → IsReachable o [] w
reachable_new o valid_a valid_b fits_a fits_b w is = record {
  valid_a = valid_a;
  valid_b = valid_b;
  fits_a = fits_a;
  fits_b = fits_b;
  fit = All-nil ActionFits;
  runs = is;
  bytes = subst IsInBytes (sym is) (record { a = All-nil AreBytes; b = All-nil AreBytes });
}
