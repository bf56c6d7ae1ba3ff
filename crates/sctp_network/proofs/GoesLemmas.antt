-- In the first run no event names a packet that isn't there. And its claims, for events that continue it.
use Rattle.std.proofs.Common.{◌≡◌, ℕ, true, Some, None, List, [], ◌∷◌, ◌++◌, refl, sym, ap, subst, ◌∙◌, append_assoc}
use Rattle.std.specs.Prelude.{slice_get}
use Rattle.rand_core.specs.Stream.{Stream}
use Rattle.sctp_serial.specs.Messages.{Message}
use Rattle.sctp_state.specs.Options.{SendOptions, defaults}
use Rattle.proof_endpoint.specs.FirstRun.{IsSmall}
use Rattle.sctp_network.specs.declared.world.WorldError.{WorldError}
use Rattle.sctp_network.specs.declared.world.WorldError.TheVariants as errors
use Rattle.spec_world.specs.Observations.{A, B, Connect, Send}
use Rattle.spec_world.specs.World.{Action, CallOf, Give, World, Happens, Runs, IsDisabled, RunsUpToDisabled, fresh_world}
use Rattle.proof_world.specs.FirstRun.{opening, crossing, acknowledging, first_run, CameBy, LeadsFirstRun, ContinuesFirstRun}
use Rattle.spec_world.proofs.RunLemmas.{Runs_append}
use Rattle.proof_world.proofs.FirstRunLemmas.{it_opens, first, second, third, fourth, opened, to_first, to_second, to_third, to_fourth, to_opened}
use Rattle.proof_world.proofs.CrossingLemmas.{it_crosses, comes_to_rest, packets_sent, packet, sent_world, taken_world, to_sent, to_taken}

-- each event finds its packet, whatever came of those before
abbrev Goes : List Action → World → Type 0
Goes [] w = Unit {0}
Goes (action ∷ actions) w = (IsDisabled action w → ⊥) × ((u : World) → Happens action w u → Goes actions u)

never_lacks : (before : List Action) (action : Action) (rest : List Action) (w v : World) → Goes (before ++ action ∷ rest) w → Runs before w v → IsDisabled action v → ⊥
never_lacks [] action rest w v goes e disabled = goes.0 (subst (IsDisabled action) e disabled)
never_lacks (b ∷ before) action rest w v goes runs disabled = never_lacks before action rest runs.0 v (goes.1 runs.0 runs.1) runs.2 disabled

onward : (action : Action) (actions : List Action) (w v : World) → (IsDisabled action w → ⊥) → ((u : World) → Happens action w u → u ≡ v) → Goes actions v → Goes (action ∷ actions) w
onward action actions w v there reachable goes = (there, λ u happens. subst (Goes actions) (sym (reachable u happens)) goes)

lastly : (action : Action) (w : World) → (IsDisabled action w → ⊥) → Goes (action ∷ []) w
lastly action w there = (there, λ u happens. tt)

there : (p : List ℕ) → Some p ≡ None → ⊥
there p e = cc

goes_all : (a b : Stream) (f : List ℕ → ℕ) (m : Message) (o : SendOptions) → IsSmall m → Goes (first_run m o) (fresh_world defaults defaults a b f f)
goes_all a b f m o small =
    let sent = sent_world a b f m o None true in
    let taken = taken_world a b f m o true in
    let start = fresh_world defaults defaults a b f f in
    let sending : List Action = CallOf A (Send m o) ∷ Give 2 B ∷ acknowledging in
    let last : List Action = Give 1 A ∷ sending in
    let third_on : List Action = Give 1 B ∷ last in
    let second_on : List Action = Give 0 A ∷ third_on in
    onward (CallOf A Connect) (Give 0 B ∷ second_on) start (first a b f) (λ l. l) (to_first a b f)
    (onward (Give 0 B) second_on (first a b f) (second a b f) (there _) (to_second a b f)
    (onward (Give 0 A) third_on (second a b f) (third a b f) (there _) (to_third a b f)
    (onward (Give 1 B) last (third a b f) (fourth a b f) (there _) (to_fourth a b f)
    (onward (Give 1 A) sending (fourth a b f) (opened a b f) (there _) (to_opened a b f)
    (onward (CallOf A (Send m o)) (Give 2 B ∷ acknowledging) (opened a b f) sent (λ l. l) (λ u e. to_sent a b f m o small u e)
    (onward (Give 2 B) acknowledging sent taken
    (λ l. there _ (sym (ap (λ (ps : List (List ℕ)). slice_get ps 0) (packets_sent o.lifecycle_id (packet a b f m o))) ∙ l))
    (λ u g. to_taken a b f m o small u g)
    (lastly (Give 2 A) taken (there _))))))))

pub only_memory : (actions : List Action) (w v : World) (e : WorldError) → (e ≡ errors.NoSuchPacket → RunsUpToDisabled actions w v) → ContinuesFirstRun actions w → e ≡ errors.Memory
only_memory actions w v errors.Memory disabled c = refl
only_memory actions w v errors.NoSuchPacket disabled c =
    let l = disabled refl in
    let at_action : actions ++ c.rest ≡ l.before ++ l.action ∷ (l.rest ++ c.rest) =
    ap (λ (all : List Action). all ++ c.rest) l.split ∙ append_assoc l.before (l.action ∷ l.rest) c.rest in
    let whole : first_run c.message c.options ≡ (c.before ++ l.before) ++ l.action ∷ (l.rest ++ c.rest) =
    sym c.is ∙ (ap (λ (all : List Action). c.before ++ all) at_action ∙ sym (append_assoc c.before l.before (l.action ∷ (l.rest ++ c.rest)))) in
    let fresh = c.came.fresh in
    let goes : Goes (first_run c.message c.options) c.came.origin =
    subst (Goes (first_run c.message c.options)) (sym fresh.is) (goes_all fresh.a fresh.b fresh.word_of c.message c.options c.small) in
    absurd (never_lacks (c.before ++ l.before) l.action (l.rest ++ c.rest) c.came.origin v
    (subst (λ (all : List Action). Goes all c.came.origin) whole goes)
    (Runs_append c.before l.before c.came.origin w v c.came.runs l.runs) l.disabled)

pub leads_on : (actions : List Action) (w v : World) → Runs actions w v → LeadsFirstRun actions w v
leads_on actions w v runs = record {
  opens = λ before came is. it_opens came.origin v came.fresh (along before came opening is);
  crosses = λ m o small before came is. it_crosses m o came.origin v small came.fresh (along before came (opening ++ crossing m o) is);
  rests = λ m o small before came is. comes_to_rest m o came.origin v small came.fresh (along before came (first_run m o) is);
}
  where
    along : (before : List Action) (came : CameBy before w) (all : List Action) → before ++ actions ≡ all → Runs all came.origin v
    along before came all is = subst (λ (z : List Action). Runs z came.origin v) is (Runs_append before actions came.origin w v came.runs runs)
