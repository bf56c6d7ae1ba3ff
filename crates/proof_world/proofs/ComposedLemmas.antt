-- A reachable world is led on by each run, and composes.
use Rattle.std.proofs.Common.{◌≡◌, ◌⊎◌, inl, inr, ◌^◌, ◌<◌, ℕ, true, false, List, [], ◌∷◌, ◌++◌, length, refl, sym, ap, subst, ◌∙◌, append-nil, append_assoc, arith}
use Rattle.std.specs.Prelude.{slice_index, All}
use Rattle.std.specs.List.{list_any}
use Rattle.std.proofs.lemmas.List.Elements.{All-nil, All-cons, All-head, All-tail, All-append}
use Rattle.std.proofs.lemmas.Bool.{false_from_ne_true}
use Rattle.sctp_serial.specs.Messages.{Message}
use Rattle.sctp_rx.specs.Delivery as orders
use Rattle.proof_pair.proofs.TraceLemmas.{ends_consistent}
use Rattle.proof_delivery.specs.Answered.{none_asked}
use Rattle.proof_delivery.specs.Windows.{no_stamps}
use Rattle.proof_delivery.specs.Delivery as delivery
use Rattle.proof_delivery.specs.Delivery.{AllAreDone, MessagesAreDelivered, NoResetIsRefused}
use Rattle.proof_delivery.specs.Ending as delivery_then
use Rattle.proof_delivery.specs.Ending.{MessagesAreDeliveredThen}
use Rattle.proof_delivery.specs.StreamEpochs.{failed_in}
use Rattle.spec_world.specs.Observations.{End, A, B, Connect, Shutdown, Entry, Called, BecameReady, ready, handed_out}
use Rattle.spec_world.specs.World.{World, Action, Runs, other, is_at_rest}
use Rattle.spec_world.proofs.RunLemmas.{Runs_append}
use Rattle.proof_world.specs.Reachable.{ActionFits, IsInBytes, Origin, IsReachable, initial_world}
use Rattle.proof_world.specs.Traces.{is_a, end_of}
use Rattle.proof_world.specs.Consistent.{gets_init, got_init, NoEndingIsLogged, MayFollow, WorldKeepsRules, WorldEndsAreConsistent}
use Rattle.proof_world.specs.Delivered.{AlongRun, accepted_messages, emitted_events, given_up_places, ready_places, IsInItsEpoch, WorldDelivers, WorldIsInBounds}
use Rattle.proof_world.specs.Composed.{WorldsCompose}
use Rattle.proof_world.proofs.SidesLemmas.{any_more}
use Rattle.proof_world.proofs.StandingLemmas.{times_more, stands_front}
use Rattle.proof_world.proofs.WorldLemmas.{Extends, extends_same, in_bytes_before}
use Rattle.proof_world.proofs.RunsLemmas.{runs_extends}
use Rattle.proof_world.proofs.ConsistentLemmas.{are_consistent}
use Rattle.proof_world.proofs.UpToEndLemmas.{IsOver, UpToEnd, up_to_end}
use Rattle.proof_world.proofs.PrefixLemmas.{one_is_longer}
use Rattle.proof_refines.specs.Records.{are_distinct}
use Rattle.proof_world.proofs.PointsLemmas.{IsDeliveredAt}
use Rattle.proof_world.proofs.LastingLemmas.{first_pair, r, IsKept, trace_delivers, delivered_front, epochs_front, none_failed, none_failed_front, once, rests, prefix, step, prefix_then, none_ready_then, delivered_beside, none_failed_beside, delivered_own, none_failed_own, ends_delivering, b_parted, stands_first, behind_first, logged_first}
use Rattle.proof_world.proofs.JustifiedLemmas.{worlds_justified}
use Rattle.proof_world.proofs.EndedLemmas.{ended_handed}
use Rattle.proof_world.proofs.FewLemmas.{few_in_bounds}
use Rattle.proof_world.proofs.UsedRunLemmas.{log_few}
use Rattle.proof_world.proofs.MtuLemmas.{new_short, runs_short}
use Rattle.proof_world.proofs.ReadBackLemmas.{packets_read_back}
use Rattle.proof_protocol.proofs.ToolsLemmas.{not_both}

pub reachable_on : (origin : Origin) (before actions : List Action) (w v : World) → IsReachable origin before w → All ActionFits actions → Runs actions w v → IsInBytes v
    → IsReachable origin (before ++ actions) v
reachable_on origin before actions w v l fit r small = record {
  valid_a = l.valid_a;
  valid_b = l.valid_b;
  fits_a = l.fits_a;
  fits_b = l.fits_b;
  fit = All-append ActionFits before actions l.fit fit;
  runs = Runs_append before actions (initial_world origin) w v l.runs r;
  bytes = small;
}

one : {X : Type 0} (P : X → Type 0) (x : X) → P x → All P (x ∷ [])
one P x h = All-cons P x [] h (All-nil P)

-- ---- worlds on the way

-- an earlier world, by the first actions
abbrev reachable_before : (origin : Origin) (actions : List Action) (w u : World) (l : IsReachable origin actions w) (front : List Action) → All ActionFits front
    → Runs front (initial_world origin) u → Extends u w → IsReachable origin front u
reachable_before origin actions w u l front fit r e = record {
  valid_a = l.valid_a;
  valid_b = l.valid_b;
  fits_a = l.fits_a;
  fits_b = l.fits_b;
  fit = fit;
  runs = r;
  bytes = in_bytes_before u w e l.bytes;
}

-- which kept the rules, where the later one does
rules_before : (u v : World) → Extends u v → WorldKeepsRules v → WorldKeepsRules u
rules_before u v e rules before entry behind is stands =
    may_before entry
    (rules before entry (behind ++ e.more) (e.logged ∙ (ap (λ (l : List Entry). l ++ e.more) is ∙ append_assoc before (entry ∷ behind) e.more)) stands)
  where
    not_asked : (x : End) → got_init x v before ≡ false → got_init x u before ≡ false
    not_asked A h =
        false_from_ne_true (got_init A u before)
        (λ t. not_both
        (subst (λ (ps : List (List ℕ)). list_any (gets_init A ps) before ≡ true) (sym e.b) (any_more A u.b.packets e.sent_b before t)) h)
    not_asked B h =
        false_from_ne_true (got_init B u before)
        (λ t. not_both
        (subst (λ (ps : List (List ℕ)). list_any (gets_init B ps) before ≡ true) (sym e.a) (any_more B u.a.packets e.sent_a before t)) h)

    may_before : (entry : Entry) → MayFollow v before entry → MayFollow u before entry
    may_before (Called x clock Shutdown answer) h = h
    may_before (Called x clock Connect answer) (inl h) = inl h
    may_before (Called x clock Connect answer) (inr h) = inr (not_asked x h)
    may_before entry h = tt

-- at each world along a run
along_reachable : (P : World → Type 0) (from : World) (done actions : List Action) (z v : World) → Runs done from z → (r : Runs actions z v) → All ActionFits done → All ActionFits actions
    → ((front : List Action) (y : World) → All ActionFits front → Runs front from y → Extends y v → P y) → AlongRun P actions z v r
along_reachable P from done [] z v before r fit_done fit f = f done z fit_done before (subst (Extends z) (sym r) (extends_same z))
along_reachable P from done (action ∷ actions) z v before r fit_done fit f = (
  f done z fit_done before (runs_extends (action ∷ actions) z v r),
  along_reachable P from (done ++ action ∷ []) actions r.0 v (Runs_append done (action ∷ []) from z r.0 before (r.0, r.1, refl)) r.2
      (All-append ActionFits done (action ∷ []) fit_done (one ActionFits action (All-head ActionFits action actions fit))) (All-tail ActionFits action actions fit) f,
)

same_or_other : (x y : End) → (x ≡ y) ⊎ (x ≡ other y)
same_or_other A A = inl refl
same_or_other B B = inl refl
same_or_other A B = inr refl
same_or_other B A = inr refl

-- ---- until an association is over

module _ {origin : Origin} {actions : List Action} (w : World) (l : IsReachable origin actions w) (rules : WorldKeepsRules w) where
  up : UpToEnd actions (initial_world origin) w l.runs
  up = up_to_end actions (initial_world origin) w l.fit l.runs (λ x. refl)

  abbrev u : World
  u = up.world

  abbrev reachable : IsReachable origin up.front u
  reachable = reachable_before origin actions w u l up.front up.fit up.before up.later

  u_rules : WorldKeepsRules u
  u_rules = rules_before u w up.later rules

  abbrev Over : Type 0
  Over = IsOver actions (initial_world origin) w l.runs up.front u up.before

  -- each beginning that stands is one of that world, or ends in the event behind it
  at_early : (P : List Entry → Type 0) (o : Over) → ((early late : List Entry) → u.log ≡ early ++ late → P early)
      → ((more late : List Entry) → o.next.log ≡ (u.log ++ more) ++ late → NoEndingIsLogged (u.log ++ more) → P (u.log ++ more))
      → (early late : List Entry) → w.log ≡ early ++ late → NoEndingIsLogged early → P early
  at_early P o before within early late is stands =
      elim (one_is_longer early late u.log up.later.more (sym is ∙ up.later.logged)) [
        | inl m ↦ before early m.between m.made
        | inr m ↦ beyond m.between m.made
      ]
    where
      beyond : (more : List Entry) → early ≡ u.log ++ more → P early
      beyond more made =
          elim (one_is_longer early late o.next.log o.later.more (sym is ∙ o.later.logged)) [
            | inl m ↦
                subst P (sym made)
                (within more m.between (m.made ∙ ap (λ (l : List Entry). l ++ m.between) made) (subst NoEndingIsLogged made stands))
            | inr m ↦ absurd (o.ends (stands_front o.next.log m.between early m.made stands))
          ]

  pub handed_then : (x : End) (early late : List Entry) → w.log ≡ early ++ late → NoEndingIsLogged early → orders.Extends (handed_out x early) (ready x early)
  handed_then x early late is stands =
      elim up.over [
        | inl same ↦ prefix u reachable u_rules up.stands x early late (ap (λ (z : World). z.log) (sym same) ∙ is)
        | inr o ↦
            at_early (λ (log : List Entry). orders.Extends (handed_out x log) (ready x log)) o (prefix u reachable u_rules up.stands x)
            (λ more behind e st. prefix_then u reachable u_rules up.stands o.action o.next w o.fits o.happens o.ends o.later rules more behind e st x)
            early late is stands
      ]

  -- ---- what is delivered

  module _ (k : WorldIsInBounds actions (initial_world origin) w l.runs) where
    kept_up_to_end : IsKept u reachable u_rules up.stands
    kept_up_to_end = record {
      windows = up.windows no_stamps k.windows;
      answered = up.requests none_asked k.resets.answered;
      few_resets = λ x. k.resets.few x u.log up.later.more up.later.logged up.stands;
      few = λ x. k.few x u.log up.later.more up.later.logged up.stands;
    }

    abbrev Given : End → Type 0
    Given x = delivery.Delivers (is_a x) (r u reachable u_rules up.stands).trace (first_pair u reachable u_rules up.stands)

    -- a message that becomes ready last
    abbrev LastIsInItsEpoch : (x : End) → Given x → List Entry → Type 0
    LastIsInItsEpoch x from log =
        (before : List Entry) (m : Message) → log ≡ before ++ BecameReady (other x) m ∷ [] → IsInItsEpoch x before m.stream (slice_index from.places (length (ready (other x) before)))

    epochs_before : (x : End) (from : Given x) (early late : List Entry) → u.log ≡ early ++ late → LastIsInItsEpoch x from early
    epochs_before x from early late e before m is =
        epochs_front u reachable u_rules up.stands x from before late m
        (e ∙ (ap (λ (l : List Entry). l ++ late) is ∙ append_assoc before (BecameReady (other x) m ∷ []) late))

    epochs_then : (o : Over) (x : End) (from : Given x) (early late : List Entry) → w.log ≡ early ++ late → NoEndingIsLogged early → LastIsInItsEpoch x from early
    epochs_then o x from =
        at_early (LastIsInItsEpoch x from) o (epochs_before x from)
        (λ more behind e st before m is.
        let there = none_ready_then u reachable u_rules up.stands o.action o.next w o.fits o.happens o.ends o.later rules more behind e st (other x) m before is in
        epochs_front u reachable u_rules up.stands x from before there.0 m there.1)

    -- it ends no association
    stands_ready : (x : End) (early : List Entry) (m : Message) → NoEndingIsLogged early → NoEndingIsLogged (early ++ BecameReady x m ∷ [])
    stands_ready x early m st y = let sum = times_more y early (BecameReady x m ∷ []) in let before = st y in omega (arith, sum, before)

    given : (x : End) (from : Given x) → ((early late : List Entry) → w.log ≡ early ++ late → NoEndingIsLogged early → IsDeliveredAt x from.places early)
        → ((early late : List Entry) → w.log ≡ early ++ late → NoEndingIsLogged early → LastIsInItsEpoch x from early)
        → WorldDelivers x actions (initial_world origin) w l.runs
    given x from each in_epochs = record {
      places = from.places;
      fits = λ early late e st. (each early late e st).fits;
      epochs = λ early late m e st.
          in_epochs (early ++ BecameReady (other x) m ∷ []) late (e ∙ sym (append_assoc early (BecameReady (other x) m ∷ []) late)) (stands_ready (other x) early m st) early m refl;
      skipped = λ early late e st. (each early late e st).skipped;
      reports = λ early late e st. (each early late e st).reports;
      once = up.along_run (λ z. are_distinct (given_up_places x z.log) ≡ true) (once u reachable u_rules up.stands x from);
      rest =
          up.along_run (λ z. is_at_rest x z ≡ true → AllAreDone (accepted_messages x z.log) (given_up_places x z.log) (ready_places x z.log from.places))
          (rests u reachable u_rules up.stands x from);
    }

    abbrev whole_front : (x : End) (from : Given x) → IsDeliveredAt x from.places u.log
    whole_front x from = delivered_front u reachable u_rules up.stands x from u.log [] (sym (append-nil u.log))

    few_then : (o : Over) → length (accepted_messages (end_of o.action) (u.log ++ (b_parted u reachable u_rules up.stands o.action o.next w o.fits o.happens o.ends o.later rules).first ∷ [])) < 2 ^ 32
    few_then o =
        let first : Entry = (b_parted u reachable u_rules up.stands o.action o.next w o.fits o.happens o.ends o.later rules).first in
        let behind : List Entry = behind_first u reachable u_rules up.stands o.action o.next w o.fits o.happens o.ends o.later rules in
        k.few (end_of o.action) (u.log ++ first ∷ []) (behind ++ o.later.more)
        (o.later.logged
        ∙ (ap (λ (l : List Entry). l ++ o.later.more) (logged_first u reachable u_rules up.stands o.action o.next w o.fits o.happens o.ends o.later rules)
        ∙ append_assoc (u.log ++ first ∷ []) behind o.later.more))
        (stands_first u reachable u_rules up.stands o.action o.next w o.fits o.happens o.ends o.later rules)

    ends_then : MessagesAreDeliveredThen → (o : Over) → delivery_then.DeliversThen (is_a (end_of o.action)) (r u reachable u_rules up.stands).trace
        (step u reachable u_rules up.stands o.action o.next w o.fits o.happens o.ends o.later rules).turn (first_pair u reachable u_rules up.stands)
    ends_then then o =
        ends_delivering u reachable u_rules up.stands o.action o.next w o.fits o.happens o.ends o.later rules then kept_up_to_end
        (o.timely no_stamps k.windows) (few_then o)

    -- by the end whose event it is
    by_own : MessagesAreDeliveredThen → (o : Over) → WorldDelivers (end_of o.action) actions (initial_world origin) w l.runs
    by_own then o =
        let from = ends_then then o in
        given (end_of o.action) from.delivers
        (at_early (IsDeliveredAt (end_of o.action) from.delivers.places) o (delivered_front u reachable u_rules up.stands (end_of o.action) from.delivers)
        (λ more behind e st.
        delivered_own u reachable u_rules up.stands o.action o.next w o.fits o.happens o.ends o.later rules more behind e st from (whole_front (end_of o.action) from.delivers)))
        (epochs_then o (end_of o.action) from.delivers)

    by_other : MessagesAreDelivered → (o : Over) → WorldDelivers (other (end_of o.action)) actions (initial_world origin) w l.runs
    by_other law o =
        let from : Given (other (end_of o.action)) = trace_delivers u reachable u_rules up.stands law kept_up_to_end (other (end_of o.action)) in
        given (other (end_of o.action)) from
        (at_early (IsDeliveredAt (other (end_of o.action)) from.places) o (delivered_front u reachable u_rules up.stands (other (end_of o.action)) from)
        (λ more behind e st.
        delivered_beside u reachable u_rules up.stands o.action o.next w o.fits o.happens o.ends o.later rules more behind e st from.places (whole_front (other (end_of o.action)) from)))
        (epochs_then o (other (end_of o.action)) from)

    pub delivers_then : MessagesAreDelivered → MessagesAreDeliveredThen → (x : End) → WorldDelivers x actions (initial_world origin) w l.runs
    delivers_then law then x =
        elim up.over [
          | inl same ↦
              let from : Given x = trace_delivers u reachable u_rules up.stands law kept_up_to_end x in
              given x from (λ early late e st. delivered_front u reachable u_rules up.stands x from early late (ap (λ (z : World). z.log) (sym same) ∙ e))
              (λ early late e st. epochs_before x from early late (ap (λ (z : World). z.log) (sym same) ∙ e))
          | inr o ↦
              elim (same_or_other x (end_of o.action)) [
                | inl own ↦ subst (λ (y : End). WorldDelivers y actions (initial_world origin) w l.runs) (sym own) (by_own then o)
                | inr beside ↦ subst (λ (y : End). WorldDelivers y actions (initial_world origin) w l.runs) (sym beside) (by_other law o)
              ]
        ]

    -- ---- what is emitted as failed

    abbrev NoneFails : End → List Entry → Type 0
    NoneFails x log = failed_in (emitted_events x log) ≡ false

    none_fails_so_far : NoResetIsRefused → (x : End) → NoneFails x u.log
    none_fails_so_far refuses x = none_failed u reachable u_rules up.stands refuses kept_up_to_end x

    none_fails_before : NoResetIsRefused → (x : End) (early late : List Entry) → u.log ≡ early ++ late → NoneFails x early
    none_fails_before refuses x early late e = none_failed_front u reachable u_rules up.stands x (none_fails_so_far refuses x) early late e

    own_fails_none : NoResetIsRefused → MessagesAreDeliveredThen → (o : Over) (early late : List Entry) → w.log ≡ early ++ late → NoEndingIsLogged early → NoneFails (end_of o.action) early
    own_fails_none refuses then o =
        at_early (NoneFails (end_of o.action)) o (none_fails_before refuses (end_of o.action))
        (λ more behind e st.
        none_failed_own u reachable u_rules up.stands o.action o.next w o.fits o.happens o.ends o.later rules more behind e st (ends_then then o))

    other_fails_none : NoResetIsRefused → (o : Over) (early late : List Entry) → w.log ≡ early ++ late → NoEndingIsLogged early → NoneFails (other (end_of o.action)) early
    other_fails_none refuses o =
        at_early (NoneFails (other (end_of o.action))) o (none_fails_before refuses (other (end_of o.action)))
        (λ more behind e st.
        none_failed_beside u reachable u_rules up.stands o.action o.next w o.fits o.happens o.ends o.later rules more behind e st (none_fails_so_far refuses (other (end_of o.action))))

    pub none_fails : NoResetIsRefused → MessagesAreDeliveredThen → (x : End) (early late : List Entry) → w.log ≡ early ++ late → NoEndingIsLogged early → NoneFails x early
    none_fails refuses then x early late is stands =
        elim up.over [
          | inl same ↦ none_fails_before refuses x early late (ap (λ (z : World). z.log) (sym same) ∙ is)
          | inr o ↦
              elim (same_or_other x (end_of o.action)) [
                | inl own ↦ subst (λ (y : End). NoneFails y early) (sym own) (own_fails_none refuses then o early late is stands)
                | inr beside ↦ subst (λ (y : End). NoneFails y early) (sym beside) (other_fails_none refuses o early late is stands)
              ]
        ]

pub compose : MessagesAreDelivered → NoResetIsRefused → MessagesAreDeliveredThen → WorldsCompose
compose law refuses then origin actions w l = record {
  consistent = λ rules.
      along_reachable (λ z. NoEndingIsLogged z.log → WorldEndsAreConsistent origin.a origin.b z) (initial_world origin) [] actions (initial_world origin) w refl l.runs (All-nil ActionFits) l.fit
      (λ front y fit before later stands.
      are_consistent ends_consistent origin front y (reachable_before origin actions w y l front fit before later) (record { follows = rules_before y w later rules; stands = stands }));
  handed = λ rules. handed_then w l rules;
  delivers = λ rules k. delivers_then w l rules k law then;
  delivers_few = λ rules k. delivers_then w l rules (few_in_bounds actions (initial_world origin) w l.runs (log_few origin.a origin.b origin.draws_a origin.draws_b origin.word_of_a origin.word_of_b actions w l.runs k)) law then;
  none_refused = λ rules k. none_fails w l rules k refuses then;
  justified = worlds_justified origin.a origin.b origin.draws_a origin.draws_b origin.word_of_a origin.word_of_b actions w l.fits_a l.fits_b l.fit l.runs l.bytes;
  short = runs_short origin.a.mtu origin.b.mtu actions (initial_world origin) w l.runs
      (new_short origin.a origin.b origin.draws_a origin.draws_b origin.word_of_a origin.word_of_b l.valid_a l.valid_b (initial_world origin) refl);
  read_back = packets_read_back origin actions w l;
  lifecycles = λ x id. ended_handed origin.a origin.b origin.draws_a origin.draws_b origin.word_of_a origin.word_of_b actions w l.runs x id;
}
