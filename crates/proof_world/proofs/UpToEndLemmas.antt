-- The part of a run up to the first event that ends an association.
use Rattle.std.proofs.Common.{◌≡◌, ◌⊎◌, inl, inr, List, [], ◌∷◌, refl, sym, subst}
use Rattle.std.specs.Prelude.{All}
use Rattle.std.proofs.lemmas.List.Elements.{All-nil, All-cons, All-head, All-tail}
use Rattle.proof_delivery.specs.Answered.{NumberedBefore}
use Rattle.proof_delivery.specs.Windows.{Stamps}
use Rattle.spec_world.specs.World.{World, Action, Happens, Runs}
use Rattle.proof_world.specs.Reachable.{ActionFits}
use Rattle.proof_world.specs.Consistent.{NoEndingIsLogged}
use Rattle.proof_world.specs.Delivered.{world_numbered, stamps_after, ActionIsTimely, WorldKeepsWindows, asked_after, WorldKeepsRequests, AlongRun}
use Rattle.proof_world.proofs.StandingLemmas.{stands_front, stands_or_not}
use Rattle.proof_world.proofs.WorldLemmas.{Extends, extends_same, extends_then}
use Rattle.proof_world.proofs.RunsLemmas.{happens_extends, runs_extends}

-- the stamps of all packets behind these actions
abbrev pub stamps_along : (actions : List Action) (w v : World) → Runs actions w v → Stamps → Stamps
stamps_along [] w v r s = s
stamps_along (action ∷ actions) w v r s = stamps_along actions r.0 v r.2 (stamps_after w r.0 s)

-- an event that ends an association, behind these
pub record IsOver (actions : List Action) (w v : World) (r : Runs actions w v) (front : List Action) (u : World) (before : Runs front w u) : Type 0 where
  pub action : Action
  pub next : World
  pub fits : ActionFits action
  pub happens : Happens action u next
  pub ends : NoEndingIsLogged next.log → ⊥
  pub later : Extends next v
  pub timely : (s : Stamps) → WorldKeepsWindows actions w v r s → ActionIsTimely action (world_numbered u) (stamps_along front w u before s)

pub record UpToEnd (actions : List Action) (w v : World) (r : Runs actions w v) : Type 1 where
  pub front : List Action
  pub world : World
  pub before : Runs front w world
  pub fit : All ActionFits front
  pub stands : NoEndingIsLogged world.log
  pub later : Extends world v
  pub windows : (s : Stamps) → WorldKeepsWindows actions w v r s → WorldKeepsWindows front w world before s
  pub requests : (k : NumberedBefore) → WorldKeepsRequests actions w v r k → WorldKeepsRequests front w world before k
  pub along_run : (P : World → Type 0) → AlongRun P front w world before → AlongRun (λ z. NoEndingIsLogged z.log → P z) actions w v r
  pub over : (v ≡ world) ⊎ IsOver actions w v r front world before

none_stand : (P : World → Type 0) (actions : List Action) (w v : World) (r : Runs actions w v) → (NoEndingIsLogged w.log → ⊥) → AlongRun (λ z. NoEndingIsLogged z.log → P z) actions w v r
none_stand P [] w v r n = λ st. absurd (n st)
none_stand P (action ∷ actions) w v r n =
    let e : Extends w r.0 = happens_extends action w r.0 r.1 in
    ((λ st. absurd (n st)), none_stand P actions r.0 v r.2 (λ st. n (stands_front w.log e.more r.0.log e.logged st)))

pub up_to_end : (actions : List Action) (w v : World) → All ActionFits actions → (r : Runs actions w v) → NoEndingIsLogged w.log → UpToEnd actions w v r
up_to_end [] w v fit r stands = record {
  front = [];
  world = w;
  before = refl;
  fit = fit;
  stands = stands;
  later = subst (Extends w) (sym r) (extends_same w);
  windows = λ s k. k;
  requests = λ k h. h;
  along_run = λ P h. (λ st. h);
  over = inl r;
}
up_to_end (action ∷ actions) w v fit r stands =
    elim (stands_or_not r.0.log) [
      | inl now ↦ goes_on now (up_to_end actions r.0 v (All-tail ActionFits action actions fit) r.2 now)
      | inr over ↦ ends over
    ]
  where
    goes_on : NoEndingIsLogged r.0.log → UpToEnd actions r.0 v r.2 → UpToEnd (action ∷ actions) w v r
    goes_on now rest =
        record {
          front = action ∷ rest.front;
          world = rest.world;
          before = (r.0, r.1, rest.before);
          fit = All-cons ActionFits action rest.front (All-head ActionFits action actions fit) rest.fit;
          stands = rest.stands;
          later = rest.later;
          windows = λ s k. (k.0, rest.windows (stamps_after w r.0 s) k.1);
          requests = λ k h. (h.0, rest.requests (asked_after w r.0 k) h.1);
          along_run = λ P h. ((λ st. h.0), rest.along_run P h.1);
          over = elim rest.over [
            | inl e ↦ inl e
            | inr o ↦ inr (record {
              action = o.action;
              next = o.next;
              fits = o.fits;
              happens = o.happens;
              ends = o.ends;
              later = o.later;
              timely = λ s k. o.timely (stamps_after w r.0 s) k.1;
            })
          ];
        }

    ends : (NoEndingIsLogged r.0.log → ⊥) → UpToEnd (action ∷ actions) w v r
    ends over =
        let first : Extends w r.0 = happens_extends action w r.0 r.1 in
        record {
          front = [];
          world = w;
          before = refl;
          fit = All-nil ActionFits;
          stands = stands;
          later = extends_then w r.0 v first (runs_extends actions r.0 v r.2);
          windows = λ s k. (λ st. (k.0 st).0);
          requests = λ k h. h.0;
          along_run = λ P h. ((λ st. h), none_stand P actions r.0 v r.2 (λ st. over st));
          over = inr (record {
            action = action;
            next = r.0;
            fits = All-head ActionFits action actions fit;
            happens = r.1;
            ends = over;
            later = runs_extends actions r.0 v r.2;
            timely = λ s k. (k.0 stands).1;
          });
        }
