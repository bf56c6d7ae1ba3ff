-- What the log shows of two ends that emitted alike.
use Rattle.std.proofs.Common.{◌≡◌, ℕ, suc, ◌+◌, List, [], ◌∷◌, ◌++◌, length, refl, sym, ap, subst}
use Rattle.std.proofs.lemmas.Grind.{flat_map-append}
use Rattle.sctp_state.specs.Events.{Event, SendPacket, OnError, OnAborted}
use Rattle.proof_endpoint.specs.Mapped.{Mapping, Carried, map_event}
use Rattle.spec_endpoint.specs.Shown.{Association}
use Rattle.std.specs.Prelude.{Bool, true, false, Option}
use Rattle.proof_draws.specs.Alike.{AreEventsAlike}
use Rattle.spec_world.specs.Observations.{End, Entry, EmittedPacket, EmittedEvent}
use Rattle.spec_world.specs.World.{emitted_entries, associated_unless}
use Rattle.spec_endpoint.specs.Packets.{packets_in}
use Rattle.proof_world.proofs.EventLemmas.{mapped}
use Rattle.proof_world.specs.Visible.{shown_by, visible}

pub visible_both : (k l : List Entry) → visible (k ++ l) ≡ visible k ++ visible l
visible_both k l = flat_map-append shown_by k l

-- an association is left out
pub none_associated : (b : Bool) (x : End) (a : Option Association) → visible (associated_unless b x a) ≡ []
none_associated true x a = refl
none_associated false x a = refl

module _ (f : Mapping Carried (List ℕ)) where
  pub emitted_shown : (x : End) (n : ℕ) (es fs : List (Event Carried)) → AreEventsAlike es fs → visible (emitted_entries x n (mapped f fs)) ≡ visible (emitted_entries x n (mapped f es))
  emitted_shown x n [] [] t = refl
  emitted_shown x n [] (e ∷ fs) t = absurd t
  emitted_shown x n (e ∷ es) [] t = absurd t
  emitted_shown x n (SendPacket p ∷ es) (e ∷ fs) t =
      subst (λ (d : Event Carried). visible (emitted_entries x n (mapped f (d ∷ fs))) ≡ visible (emitted_entries x n (mapped f (SendPacket p ∷ es)))) (sym t.0.1)
      (ap (λ (l : List Entry). EmittedPacket x n ∷ l) (emitted_shown x (n + 1) es fs t.1))
  emitted_shown x n (OnError kind text ∷ es) (e ∷ fs) t =
      subst (λ (d : Event Carried). visible (emitted_entries x n (mapped f (d ∷ fs))) ≡ visible (emitted_entries x n (mapped f (OnError kind text ∷ es)))) (sym t.0.1)
      (ap (λ (l : List Entry). EmittedEvent x (OnError kind []) ∷ l) (emitted_shown x n es fs t.1))
  emitted_shown x n (OnAborted kind text ∷ es) (e ∷ fs) t =
      subst (λ (d : Event Carried). visible (emitted_entries x n (mapped f (d ∷ fs))) ≡ visible (emitted_entries x n (mapped f (OnAborted kind text ∷ es)))) (sym t.0.1)
      (ap (λ (l : List Entry). EmittedEvent x (OnAborted kind []) ∷ l) (emitted_shown x n es fs t.1))
  emitted_shown x n (e ∷ es) (d ∷ fs) t =
      subst (λ (z : Event Carried). visible (emitted_entries x n (mapped f (z ∷ fs))) ≡ visible (emitted_entries x n (mapped f (e ∷ es)))) (sym t.0)
      (ap (λ (l : List Entry). visible (emitted_entries x n (map_event f e ∷ [])) ++ l) (emitted_shown x n es fs t.1))

  -- as many packets
  pub packets_emitted : (es fs : List (Event Carried)) → AreEventsAlike es fs → length (packets_in (mapped f fs)) ≡ length (packets_in (mapped f es))
  packets_emitted [] [] t = refl
  packets_emitted [] (e ∷ fs) t = absurd t
  packets_emitted (e ∷ es) [] t = absurd t
  packets_emitted (SendPacket p ∷ es) (e ∷ fs) t =
      subst (λ (d : Event Carried). length (packets_in (mapped f (d ∷ fs))) ≡ length (packets_in (mapped f (SendPacket p ∷ es)))) (sym t.0.1)
      (ap (λ (n : ℕ). suc n) (packets_emitted es fs t.1))
  packets_emitted (OnError kind text ∷ es) (e ∷ fs) t =
      subst (λ (d : Event Carried). length (packets_in (mapped f (d ∷ fs))) ≡ length (packets_in (mapped f es))) (sym t.0.1) (packets_emitted es fs t.1)
  packets_emitted (OnAborted kind text ∷ es) (e ∷ fs) t =
      subst (λ (d : Event Carried). length (packets_in (mapped f (d ∷ fs))) ≡ length (packets_in (mapped f es))) (sym t.0.1) (packets_emitted es fs t.1)
  packets_emitted (e ∷ es) (d ∷ fs) t =
      subst (λ (z : Event Carried). length (packets_in (mapped f (z ∷ fs))) ≡ length (packets_in (mapped f (e ∷ es)))) (sym t.0) (packets_emitted es fs t.1)

-- what was emitted since
pub emitted_behind : (past pasts es fs : List (Event Carried)) → AreEventsAlike past pasts → AreEventsAlike (past ++ es) (pasts ++ fs) → AreEventsAlike es fs
emitted_behind [] [] es fs t u = u
emitted_behind [] (b ∷ pasts) es fs t u = absurd t
emitted_behind (a ∷ past) [] es fs t u = absurd t
emitted_behind (a ∷ past) (b ∷ pasts) es fs t u = emitted_behind past pasts es fs t.1 u.1
