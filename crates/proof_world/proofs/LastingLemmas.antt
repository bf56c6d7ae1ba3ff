-- A world in which no association is over delivers what its trace delivers, and so does the log of the next event up to the first end that it emits.
use Rattle.std.proofs.Common.{◌≡◌, ◌⊎◌, inl, inr, ℕ, ◌+◌, ◌-◌, ◌^◌, ◌<◌, ◌||◌, not, Bool, true, false, List, [], ◌∷◌, ◌++◌, length, take, refl, sym, ap, subst, ◌∙◌, append-nil, append_assoc, arith}
use Rattle.std.specs.Prelude.{slice_index}
use Rattle.std.specs.List.{flat_map, list_any}
use Rattle.std.proofs.lemmas.Bool.{or_parts}
use Rattle.std.proofs.lemmas.Grind.{flat_map-append}
use Rattle.std.proofs.lemmas.List.{map-append}
use Rattle.rand_core.specs.Stream.{Stream}
use Rattle.sctp_serial.specs.Messages.{Message}
use Rattle.sctp_state.specs.Events.{Event, GivenUp}
use Rattle.sctp_state.specs.Options.{Options}
use Rattle.spec_endpoint.specs.Laws.{endings}
use Rattle.proof_endpoint.specs.Mapped.{Mapping, Carried, map_event, as_bytes}
use Rattle.sctp_rx.specs.Delivery as orders
use Rattle.proof_protocol.specs.State.{has}
use Rattle.proof_refines.specs.Reachable.{delivered_ids}
use Rattle.proof_refines.specs.Records.{are_distinct}
use Rattle.proof_refines.proofs.SackLemmas.{delivered_more}
use Rattle.proof_pair.specs.Trace as traces
use Rattle.proof_pair.specs.Trace.{Pair, EndAction, goes, run, start, NoAssociationHasEnded, AreValidOptions, MayAct}
use Rattle.proof_pair.specs.Handing.{ready_at, handed_at, messages_made_ready}
use Rattle.proof_pair.proofs.TraceLemmas.{before_run, run_both, follows_more, follows_front}
use Rattle.proof_pair.proofs.HandingLemmas.{handed_in_order, handed_prefix, first_halves}
use Rattle.proof_delivery.specs.Accepted.{AcceptedMessage, accepted_at, accepted}
use Rattle.proof_delivery.specs.GivenUp.{emitted_by}
use Rattle.proof_delivery.specs.Answered as requests
use Rattle.proof_delivery.specs.Answered.{none_asked, performed_in}
use Rattle.proof_delivery.specs.StreamEpochs.{failed_in}
use Rattle.proof_delivery.specs.Windows as windows
use Rattle.proof_delivery.specs.Windows.{no_stamps}
use Rattle.proof_delivery.specs.Delivery as delivery
use Rattle.proof_delivery.specs.Delivery.{AllAreDone, IsReady}
use Rattle.proof_delivery.specs.Ending as ending
use Rattle.proof_delivery.proofs.LawLemmas.{accepted_more}
use Rattle.proof_delivery.proofs.TraceResetLemmas.{emitted_turned}
use Rattle.proof_delivery.proofs.ResetEventsLemmas.{failed_more}
use Rattle.spec_world.specs.Observations.{End, A, B, Entry, BecameReady, ready, handed_out, handed_out_by, ready_by, given_up_by}
use Rattle.spec_world.specs.World.{World, Action, Happens, other, is_at_rest, emitted_entries}
use Rattle.spec_endpoint.specs.Packets.{packets_in}
use Rattle.proof_world.specs.Reachable.{ActionFits, Origin, IsReachable, initial_world}
use Rattle.proof_world.specs.Traces.{is_a, end_of, emitted_in}
use Rattle.proof_world.specs.Delivered.{given_up_places, reported_by, reported, AlongRun, ready_places, world_numbered, ActionIsTimely, WorldKeepsWindows, WorldKeepsRequests, accepted_messages_by, accepted_messages, emitted_events_by, emitted_events, IsInItsEpoch}
use Rattle.proof_world.specs.Consistent.{association_ends_by, times_ended, NoEndingIsLogged, WorldKeepsRules}
use Rattle.proof_world.proofs.EventLemmas.{mapped, entries_both, ended_emitted}
use Rattle.proof_world.proofs.NewsLemmas.{emitted_both, ended_by_emitted}
use Rattle.proof_world.proofs.StandingLemmas.{times_more}
use Rattle.proof_world.proofs.PrefixLemmas.{Longer, one_is_longer, split_head}
use Rattle.proof_world.proofs.HappenedLemmas.{bare, bare_both, bare_performed, bare_failed, happened_emitted, happened_by_emitted, happened_is, ready_among}
use Rattle.proof_world.proofs.WorldLemmas.{Both, Extends, Stepped, steps, numbers_of}
use Rattle.proof_world.proofs.RunsLemmas.{may_action, Ran, ran, fresh_both}
use Rattle.proof_world.proofs.ConsistentLemmas.{given_of, none_ended}
use Rattle.proof_world.proofs.UpToEndLemmas.{stamps_along}
use Rattle.proof_world.proofs.ReportedLemmas.{reported_emitted, reported_by_emitted}
use Rattle.proof_world.proofs.BetweenLemmas.{IsDelivered, same_delivered, offered_between}
use Rattle.proof_world.proofs.BlockLemmas as block
use Rattle.proof_world.proofs.BlockLemmas.{AreBlocks, offers_run, ready_run, handed_run, IsReached, nothing_yet, prefix_each, same_front}
use Rattle.proof_world.proofs.PointsLemmas.{IsDeliveredAt, is_a_other, delivered_each, once_at, at_rest}
use Rattle.proof_world.proofs.InEpochLemmas.{each_in_its_epoch}
use Rattle.proof_world.proofs.DeliveredLemmas.{timely, action_more, IsPoint, Delivering, delivering, along_each, stands_along}
use Rattle.proof_world.proofs.ClosingLemmas.{IsParted, parted_of, IsFront, in_front, read_front, first_offers, first_hands, still_prefix, IsEmitting, emitted_front}

-- ---- beginnings of traces

not_ended_front : (es fs : List (Bool × EndAction)) (c : Pair) → NoAssociationHasEnded (run (es ++ fs) c) → NoAssociationHasEnded (run es c)
not_ended_front es fs c h = before_run fs (run es c) (subst NoAssociationHasEnded (run_both es fs c) h)

any_more : (test : (Bool × EndAction) → Bool) (es : List (Bool × EndAction)) (e : Bool × EndAction) → list_any test es ≡ false → test e ≡ false → list_any test (es ++ e ∷ []) ≡ false
any_more test [] e h k = ap (λ (b : Bool). b || false) k
any_more test (d ∷ es) e h k = go (test d) h (any_more test es e)
  where
    go : (b : Bool) → (b || list_any test es) ≡ false → (list_any test es ≡ false → test e ≡ false → list_any test (es ++ e ∷ []) ≡ false) → (b || list_any test (es ++ e ∷ [])) ≡ false
    go true h f = cc
    go false h f = f h k

-- ---- what an end emitted

own_emitted : (at_a : Bool) (t : EndAction) (c : Pair) → (traces.side_of at_a (goes at_a t c)).emitted
    ≡ (traces.side_of at_a c).emitted ++ (emitted_by t (traces.side_of at_a c) (traces.side_of (not at_a) c)).events
own_emitted true t c = emitted_turned t c.a c.b
own_emitted false t c = emitted_turned t c.b c.a

module _ (word_of_a word_of_b : List ℕ → ℕ) where
  abbrev word_of : End → List ℕ → ℕ
  word_of A = word_of_a
  word_of B = word_of_b

  emitted_image : (x : End) (w : World) (c : Pair) → Both word_of_a word_of_b w c → emitted_in x w.log ≡ emitted_entries x 0 (mapped (as_bytes (word_of x)) (traces.side_of (is_a x) c).emitted)
  emitted_image A w c h = h.a.image.emitted
  emitted_image B w c h = h.b.image.emitted

-- in entries that follow
module _ (f : Mapping Carried (List ℕ)) (x : End) (log early late : List Entry) (past events : List (Event Carried)) (before : emitted_in x log ≡ emitted_entries x 0 (mapped f past))
    (whole : emitted_in x (log ++ (early ++ late)) ≡ emitted_entries x 0 (mapped f (past ++ events))) where
  abbrev n : ℕ
  n = 0 + length (packets_in (mapped f past))

  both : emitted_entries x n (mapped f events) ≡ emitted_in x early ++ emitted_in x late
  both =
      same_front (emitted_entries x 0 (mapped f past)) (emitted_entries x n (mapped f events)) (emitted_in x early ++ emitted_in x late)
      (sym (entries_both x 0 (mapped f past) (mapped f events))
      ∙ (ap (emitted_entries x 0) (sym (map-append (map_event f) past events))
      ∙ (sym whole
      ∙ (emitted_both x log (early ++ late)
      ∙ (ap (λ (l : List Entry). l ++ emitted_in x (early ++ late)) before
      ∙ ap (λ (l : List Entry). emitted_entries x 0 (mapped f past) ++ l) (emitted_both x early late))))))

  pub emits : IsEmitting f x n events (emitted_in x early)
  emits = emitted_front f x n events (emitted_in x early) (emitted_in x late) both

  -- no end, where the log has none
  pub emits_none : times_ended x early ≡ 0 → endings emits.some ≡ 0
  emits_none h =
      ended_emitted f x n emits.some
      (ap (λ (l : List Entry). length (flat_map (association_ends_by x) l)) (sym emits.are) ∙ (ap (λ (l : List End). length l) (sym (ended_by_emitted x early)) ∙ h))

  pub emits_reports : reported x (log ++ early) ≡ delivered_ids (past ++ emits.some)
  emits_reports =
      reported_by_emitted x (log ++ early)
      ∙ (ap (reported x) (emitted_both x log early)
      ∙ (flat_map-append (reported_by x) (emitted_in x log) (emitted_in x early)
      ∙ (ap (λ (l : List ℕ). l ++ reported x (emitted_in x early)) (ap (reported x) before ∙ reported_emitted f x 0 past)
      ∙ (ap (λ (l : List ℕ). delivered_ids past ++ l) (ap (reported x) emits.are ∙ reported_emitted f x n emits.some)
      ∙ sym (delivered_more past emits.some)))))

  pub emits_happened : emitted_events x (log ++ early) ≡ bare (past ++ emits.some)
  emits_happened =
      happened_by_emitted x (log ++ early)
      ∙ (ap (emitted_events x) (emitted_both x log early)
      ∙ (flat_map-append (emitted_events_by x) (emitted_in x log) (emitted_in x early)
      ∙ (ap (λ (l : List (Event (List ℕ))). l ++ emitted_events x (emitted_in x early)) (ap (emitted_events x) before ∙ happened_emitted f x 0 past)
      ∙ (ap (λ (l : List (Event (List ℕ))). bare past ++ l) (ap (emitted_events x) emits.are ∙ happened_emitted f x n emits.some)
      ∙ sym (bare_both past emits.some)))))

-- ---- a world that stands

module _ {origin : Origin} {actions : List Action} (w : World) (l : IsReachable origin actions w) (rules : WorldKeepsRules w) (none : NoEndingIsLogged w.log) where
  abbrev a : Options
  a = origin.a

  abbrev b : Options
  b = origin.b

  abbrev words_a : Stream
  words_a = origin.draws_a

  abbrev words_b : Stream
  words_b = origin.draws_b

  abbrev word_of_a : List ℕ → ℕ
  word_of_a = origin.word_of_a

  abbrev word_of_b : List ℕ → ℕ
  word_of_b = origin.word_of_b

  abbrev first_world : World
  first_world = initial_world origin

  abbrev pub first_pair : Pair
  first_pair = start a b words_a words_b

  abbrev pub r : Ran word_of_a word_of_b actions first_world w first_pair
  r = ran word_of_a word_of_b actions first_world w first_pair l.fit l.runs l.bytes (fresh_both a b words_a words_b word_of_a word_of_b l.fits_a l.fits_b)

  -- after its trace
  abbrev c : Pair
  c = run r.trace first_pair

  d : Delivering word_of_a word_of_b actions first_world w first_pair l.runs r.trace
  d = delivering word_of_a word_of_b actions first_world w first_pair l.fit l.runs l.bytes (fresh_both a b words_a words_b word_of_a word_of_b l.fits_a l.fits_b)

  options_a_valid : AreValidOptions a
  options_a_valid = given_of a l.valid_a l.fits_a

  options_b_valid : AreValidOptions b
  options_b_valid = given_of b l.valid_b l.fits_b

  not_ended : NoAssociationHasEnded c
  not_ended = record {
    a = none_ended word_of_a A w.log w.b.packets w.a c.a r.both.a (none A);
    b = none_ended word_of_b B w.log w.a.packets w.b c.b r.both.b (none B);
  }

  follows : traces.KeepsRules r.trace first_pair
  follows = r.follows rules none

  stand : block.Stands r.trace first_pair
  stand = stands_along a b options_a_valid options_b_valid r.trace first_pair follows not_ended (first_halves a b words_a words_b)

  blocks : AreBlocks r.trace first_pair [] w.log
  blocks = d.blocks stand

  offered : (x : End) → accepted_messages x w.log ≡ accepted (is_a x) r.trace first_pair
  offered x = offers_run x r.trace first_pair [] w.log blocks

  emitted_is : (x : End) → emitted_events x w.log ≡ bare (traces.side_of (is_a x) c).emitted
  emitted_is A = happened_is word_of_a A w.log w.b.packets w.a c.a r.both.a
  emitted_is B = happened_is word_of_b B w.log w.a.packets w.b c.b r.both.b

  became_ready : (x : End) → ready x w.log ≡ messages_made_ready (is_a x) r.trace first_pair
  became_ready x = ready_run x r.trace first_pair [] w.log blocks

  reached : IsReached first_pair [] []
  reached = nothing_yet first_pair nothing
    where
      nothing : (x : Bool) → (traces.side_of x first_pair).emitted ≡ []
      nothing true = refl
      nothing false = refl

  -- the bounds, until here
  pub record IsKept : Type 0 where
    pub windows : WorldKeepsWindows actions first_world w l.runs no_stamps
    pub answered : WorldKeepsRequests actions first_world w l.runs none_asked
    pub few_resets : (x : End) → performed_in (emitted_events x w.log) < 2 ^ 32 - 1
    pub few : (x : End) → length (accepted_messages x w.log) < 2 ^ 32

  resets_kept : IsKept → requests.KeepsResets r.trace first_pair
  resets_kept k = record { answered = d.requests_kept none_asked none k.answered; few = λ x. few_at x }
    where
      few_of : (x : End) → performed_in (traces.side_of (is_a x) c).emitted < 2 ^ 32 - 1
      few_of x =
          subst (λ (n : ℕ). n < 2 ^ 32 - 1) (ap (λ (es : List (Event (List ℕ))). performed_in es) (emitted_is x) ∙ bare_performed (traces.side_of (is_a x) c).emitted) (k.few_resets x)

      few_at : (x : Bool) → performed_in (traces.side_of x c).emitted < 2 ^ 32 - 1
      few_at true = few_of A
      few_at false = few_of B

  bounds : IsKept → delivery.IsInBounds r.trace first_pair
  bounds k = record {
    windows = d.windows_kept windows.no_stamps none k.windows;
    resets = resets_kept k;
    few = λ from_a. few_at from_a;
    limits = d.limits;
  }
    where
      few_at : (from_a : Bool) → length (accepted from_a r.trace first_pair) < 2 ^ 32
      few_at true = subst (λ (l : List AcceptedMessage). length l < 2 ^ 32) (offered A) (k.few A)
      few_at false = subst (λ (l : List AcceptedMessage). length l < 2 ^ 32) (offered B) (k.few B)

  pub trace_delivers : delivery.MessagesAreDelivered → IsKept → (x : End) → delivery.Delivers (is_a x) r.trace first_pair
  trace_delivers law k x = law a b words_a words_b r.trace options_a_valid options_b_valid follows not_ended (bounds k) (is_a x)

  pub delivered_front : (x : End) (from : delivery.Delivers (is_a x) r.trace first_pair) (early late : List Entry) → w.log ≡ early ++ late → IsDeliveredAt x from.places early
  delivered_front x from early late e = delivered_each x r.trace first_pair from w.log early late reached blocks e

  pub epochs_front : (x : End) (from : delivery.Delivers (is_a x) r.trace first_pair) (early late : List Entry) (m : Message) → w.log ≡ early ++ BecameReady (other x) m ∷ late
      → IsInItsEpoch x early m.stream (slice_index from.places (length (ready (other x) early)))
  epochs_front x from early late m e = each_in_its_epoch x r.trace first_pair from w.log early late m reached blocks e

  -- no end emitted that a reset failed
  pub none_failed : delivery.NoResetIsRefused → IsKept → (x : End) → failed_in (emitted_events x w.log) ≡ false
  none_failed law k x =
      ap (λ (es : List (Event (List ℕ))). failed_in es) (emitted_is x)
      ∙ (bare_failed (traces.side_of (is_a x) c).emitted ∙ law a b words_a words_b r.trace options_a_valid options_b_valid follows not_ended (bounds k) (is_a x))

  pub none_failed_front : (x : End) → failed_in (emitted_events x w.log) ≡ false → (early late : List Entry) → w.log ≡ early ++ late → failed_in (emitted_events x early) ≡ false
  none_failed_front x h early late e =
      (or_parts (failed_in (emitted_events x early)) (failed_in (emitted_events x late))
      (sym (failed_more (emitted_events x early) (emitted_events x late))
      ∙ (ap (λ (es : List (Event (List ℕ))). failed_in es) (sym (flat_map-append (emitted_events_by x) early late)) ∙ (sym (ap (λ (l : List Entry). failed_in (emitted_events x l)) e) ∙ h)))).0

  pub rests : (x : End) (from : delivery.Delivers (is_a x) r.trace first_pair)
      → AlongRun (λ u. is_at_rest x u ≡ true → AllAreDone (accepted_messages x u.log) (given_up_places x u.log) (ready_places x u.log from.places)) actions first_world w l.runs
  rests x from =
      along_each (IsPoint word_of_a word_of_b r.trace first_pair)
      (λ u. is_at_rest x u ≡ true → AllAreDone (accepted_messages x u.log) (given_up_places x u.log) (ready_places x u.log from.places))
      (λ u p. at_rest word_of_a word_of_b x r.trace first_pair from p.early p.late u p.split p.reached p.both)
      actions first_world w l.runs (d.points r.trace [] first_pair refl refl stand reached)

  pub once : (x : End) (from : delivery.Delivers (is_a x) r.trace first_pair) → AlongRun (λ u. are_distinct (given_up_places x u.log) ≡ true) actions first_world w l.runs
  once x from =
      along_each (IsPoint word_of_a word_of_b r.trace first_pair) (λ u. are_distinct (given_up_places x u.log) ≡ true)
      (λ u p. once_at x r.trace first_pair from p.early p.late u.log p.split p.reached) actions first_world w l.runs (d.points r.trace [] first_pair refl refl stand reached)

  pub prefix : (x : End) (early late : List Entry) → w.log ≡ early ++ late → orders.Extends (handed_out x early) (ready x early)
  prefix x early late is =
      prefix_each x r.trace first_pair
      (λ before behind s.
      let front_follows : traces.KeepsRules (before ++ behind) first_pair = subst (λ (l : List (Bool × EndAction)). traces.KeepsRules l first_pair) s follows in
      let none_yet : NoAssociationHasEnded (run (before ++ behind) first_pair) = subst (λ (l : List (Bool × EndAction)). NoAssociationHasEnded (run l first_pair)) s not_ended in
      handed_prefix a b words_a words_b before options_a_valid options_b_valid (follows_front before behind first_pair front_follows) (not_ended_front before behind first_pair none_yet) (is_a x))
      w.log early late reached blocks is

  -- ---- the event that ends an association, of a run that goes on to v

  module _ (action : Action) (next v : World) (fits : ActionFits action) (happens : Happens action w next) (over : NoEndingIsLogged next.log → ⊥) (later : Extends next v)
      (v_rules : WorldKeepsRules v) where
    abbrev pub x : End
    x = end_of action

    abbrev pub step : Stepped word_of_a word_of_b action w next c
    step = steps word_of_a word_of_b action w next c fits l.bytes happens r.both

    abbrev own_side : traces.Side
    own_side = traces.side_of (is_a x) c

    abbrev pub b_parted : IsParted x step.turn own_side w.log next.log
    b_parted = parted_of word_of_a word_of_b action w next c step.turn happens step.is r.both

    may : MayAct step.turn own_side
    may = may_action word_of_a word_of_b action w next v c step.turn happens step.extends later r.both step.is v_rules none

    module _ (early late : List Entry) (e : next.log ≡ (w.log ++ early) ++ late) (stands : NoEndingIsLogged (w.log ++ early)) where
      front : (early ≡ []) ⊎ IsFront b_parted.first b_parted.rest early
      front = in_front x step.turn own_side w.log next.log b_parted early late e stands over

      abbrev here : List Entry
      here = w.log ++ early

      reads : IsFront b_parted.first b_parted.rest early → {X : Type 0} (f : Entry → List X) → flat_map f b_parted.rest ≡ [] → flat_map f here ≡ flat_map f w.log ++ f b_parted.first
      reads h f none_in = read_front x step.turn own_side w.log next.log b_parted early h f none_in

      ready_same : IsFront b_parted.first b_parted.rest early → (y : End) → ready y here ≡ ready y w.log
      ready_same h y =
          reads h (ready_by y) (b_parted.ready y) ∙ (ap (λ (l : List Message). ready y w.log ++ l) (b_parted.begins.ready y) ∙ append-nil (ready y w.log))

      given_up_same : IsFront b_parted.first b_parted.rest early → (y : End) → given_up_places y here ≡ given_up_places y w.log
      given_up_same h y = numbers_of (flat_map (given_up_by y) here) (flat_map (given_up_by y) w.log)
          (reads h (given_up_by y) (b_parted.given_up y) ∙ (ap (λ (l : List GivenUp). flat_map (given_up_by y) w.log ++ l) (b_parted.begins.given_up y) ∙ append-nil (flat_map (given_up_by y) w.log)))

      -- ---- what was handed out

      pub prefix_then : (y : End) → orders.Extends (handed_out y here) (ready y here)
      prefix_then y = elim front [
        | inl none_there ↦ subst (λ (l : List Entry). orders.Extends (handed_out y (w.log ++ l)) (ready y (w.log ++ l))) (sym none_there)
            (prefix y (w.log ++ []) [] (sym (append-nil w.log) ∙ sym (append-nil (w.log ++ []))))
        | inr h ↦ goes h
      ]
        where
          goes : IsFront b_parted.first b_parted.rest early → orders.Extends (handed_out y here) (ready y here)
          goes h =
              let order : ready y w.log ≡ handed_out y w.log ++ ready_at (traces.side_of (is_a y) c) =
              became_ready y ∙ (handed_in_order a b words_a words_b r.trace options_a_valid options_b_valid follows not_ended (is_a y)
              ∙ ap (λ (l : List Message). l ++ ready_at (traces.side_of (is_a y) c)) (sym (handed_run y r.trace first_pair [] w.log blocks))) in
              let handed_is : handed_out y here ≡ handed_out y w.log ++ handed_at (is_a y) (is_a x) step.turn c =
              reads h (handed_out_by y) (b_parted.hands y)
              ∙ ap (λ (l : List Message). handed_out y w.log ++ l) (first_hands y x step.turn c b_parted.first b_parted.begins) in
              subst (λ (l : List Message). orders.Extends (handed_out y here) l) (sym (ready_same h y))
              (subst (λ (l : List Message). orders.Extends l (ready y w.log)) (sym handed_is)
              (still_prefix (is_a y) (is_a x) step.turn c (handed_out y w.log) (ready y w.log) order))

      -- ---- no message becomes ready in it

      pub none_ready_then : (y : End) (m : Message) (before : List Entry) → here ≡ before ++ BecameReady y m ∷ [] → (between : List Entry) × (w.log ≡ before ++ BecameReady y m ∷ between)
      none_ready_then y m before is = go (one_is_longer w.log early before (BecameReady y m ∷ []) is)
        where
          none_new : ready y early ≡ []
          none_new = elim front [
            | inl none_there ↦ ap (ready y) none_there
            | inr h ↦ same_front (ready y w.log) (ready y early) []
                (sym (flat_map-append (ready_by y) w.log early) ∙ (ready_same h y ∙ sym (append-nil (ready y w.log))))
          ]

          in_log : (between : List Entry) → w.log ≡ before ++ between → BecameReady y m ∷ [] ≡ between ++ early → (between : List Entry) × (w.log ≡ before ++ BecameReady y m ∷ between)
          in_log [] made rest = absurd (ready_among y m [] [] early none_new (sym rest))
          in_log (k ∷ between) made rest =
              (between, made ∙ ap (λ (e : Entry). before ++ e ∷ between) (sym (split_head (BecameReady y m) k [] (between ++ early) rest)))

          go : Longer w.log before (BecameReady y m ∷ []) early ⊎ Longer before w.log early (BecameReady y m ∷ []) → (between : List Entry) × (w.log ≡ before ++ BecameReady y m ∷ between)
          go (inl h) = absurd (ready_among y m h.between [] early none_new h.behind)
          go (inr h) = in_log h.between h.made h.behind

      -- ---- what is delivered, from the other end

      same_there : (y : End) (places : List ℕ) → early ≡ [] → IsDeliveredAt y places w.log → IsDeliveredAt y places here
      same_there y places none_there h = subst (λ (l : List Entry). IsDeliveredAt y places l) (sym (append-nil w.log) ∙ ap (λ (l : List Entry). w.log ++ l) (sym none_there)) h

      pub delivered_beside : (places : List ℕ) → IsDeliveredAt (other x) places w.log → IsDeliveredAt (other x) places here
      delivered_beside places h = elim front [
        | inl none_there ↦ same_there (other x) places none_there h
        | inr k ↦
            same_delivered (accepted_messages (other x) w.log) (accepted_messages (other x) here) (ready (other (other x)) w.log) (ready (other (other x)) here) (given_up_places (other x) w.log) (given_up_places (other x) here)
            (reported (other x) w.log) (reported (other x) here) places
            (reads k (accepted_messages_by (other x)) (b_parted.offers (other x))
            ∙ (ap (λ (l : List AcceptedMessage). accepted_messages (other x) w.log ++ l) b_parted.begins.no_offers ∙ append-nil (accepted_messages (other x) w.log)))
            (ready_same k (other (other x))) (given_up_same k (other x))
            (reads k (reported_by (other x)) b_parted.reported
            ∙ (ap (λ (l : List ℕ). reported (other x) w.log ++ l) (b_parted.begins.reported (other x)) ∙ append-nil (reported (other x) w.log))) h
      ]

      -- it emits nothing
      pub none_failed_beside : failed_in (emitted_events (other x) w.log) ≡ false → failed_in (emitted_events (other x) here) ≡ false
      none_failed_beside h = elim front [
        | inl none_there ↦ ap (λ (l : List Entry). failed_in (emitted_events (other x) (w.log ++ l))) none_there ∙ (ap (λ (l : List Entry). failed_in (emitted_events (other x) l)) (append-nil w.log) ∙ h)
        | inr k ↦ ap (λ (es : List (Event (List ℕ))). failed_in es)
            (reads k (emitted_events_by (other x)) b_parted.happened
            ∙ (ap (λ (es : List (Event (List ℕ))). emitted_events (other x) w.log ++ es) (b_parted.begins.happened (other x)) ∙ append-nil (emitted_events (other x) w.log))) ∙ h
      ]

      -- ---- and from the end that acts

      abbrev emitted_now : List (Event Carried)
      emitted_now = (emitted_by step.turn own_side (traces.side_of (not (is_a x)) c)).events

      abbrev f : Mapping Carried (List ℕ)
      f = as_bytes (word_of word_of_a word_of_b x)

      before_emitted : emitted_in x w.log ≡ emitted_entries x 0 (mapped f own_side.emitted)
      before_emitted = emitted_image word_of_a word_of_b x w c r.both

      after_emitted : emitted_in x (w.log ++ (early ++ late)) ≡ emitted_entries x 0 (mapped f (own_side.emitted ++ emitted_now))
      after_emitted =
          ap (emitted_in x) (sym (append_assoc w.log early late) ∙ sym e)
          ∙ (emitted_image word_of_a word_of_b x next (goes (is_a x) step.turn c) step.both
          ∙ ap (λ (es : List (Event Carried)). emitted_entries x 0 (mapped f es)) (own_emitted (is_a x) step.turn c))

      none_early : times_ended x early ≡ 0
      none_early = let whole = stands x in let sum = times_more x w.log early in omega (arith, whole, sum)

      pub none_failed_own : ending.DeliversThen (is_a x) r.trace step.turn first_pair → failed_in (emitted_events x here) ≡ false
      none_failed_own from =
          let t : IsEmitting f x (0 + length (packets_in (mapped f own_side.emitted))) emitted_now (emitted_in x early) =
          emits f x w.log early late own_side.emitted emitted_now before_emitted after_emitted in
          ap (λ (es : List (Event (List ℕ))). failed_in es) (emits_happened f x w.log early late own_side.emitted emitted_now before_emitted after_emitted)
          ∙ (bare_failed (own_side.emitted ++ t.some)
          ∙ from.none_refused t.some t.more t.split (emits_none f x w.log early late own_side.emitted emitted_now before_emitted after_emitted none_early))

      pub delivered_own : (from : ending.DeliversThen (is_a x) r.trace step.turn first_pair) → IsDeliveredAt x from.delivers.places w.log
          → IsDeliveredAt x from.delivers.places here
      delivered_own from h = elim front [ inl none_there ↦ same_there x from.delivers.places none_there h | inr k ↦ goes k ]
        where
          goes : IsFront b_parted.first b_parted.rest early → IsDeliveredAt x from.delivers.places here
          goes k =
              let t : IsEmitting f x (0 + length (packets_in (mapped f own_side.emitted))) emitted_now (emitted_in x early) =
              emits f x w.log early late own_side.emitted emitted_now before_emitted after_emitted in
              let offers_are : accepted_messages x here ≡ accepted_messages x w.log ++ accepted_messages_by x b_parted.first = reads k (accepted_messages_by x) (b_parted.offers x) in
              let accepted_are : accepted (is_a x) (r.trace ++ (is_a x, step.turn) ∷ []) first_pair ≡ accepted_messages x w.log ++ accepted_messages_by x b_parted.first =
              accepted_more (is_a x) r.trace (is_a x, step.turn) first_pair
              ∙ (ap (λ (l : List AcceptedMessage). l ++ accepted_at (is_a x) (is_a x) step.turn c) (sym (offered x))
              ∙ ap (λ (l : List AcceptedMessage). accepted_messages x w.log ++ l) (sym (first_offers x x step.turn c b_parted.first b_parted.begins))) in
              let ready_are : messages_made_ready (not (is_a x)) r.trace first_pair ≡ ready (other x) w.log =
              ap (λ (z : Bool). messages_made_ready z r.trace first_pair) (sym (is_a_other x)) ∙ sym (became_ready (other x)) in
              let reports : (id : ℕ) → has id (reported x here) ≡ true
              → IsReady (accepted_messages x w.log ++ accepted_messages_by x b_parted.first) (take (length (ready (other x) w.log)) from.delivers.places) id =
              λ id is.
              subst (λ (l : List AcceptedMessage). IsReady l (take (length (ready (other x) w.log)) from.delivers.places) id) accepted_are
              (subst (λ (l : List Message). IsReady (accepted (is_a x) (r.trace ++ (is_a x, step.turn) ∷ []) first_pair) (take (length l) from.delivers.places) id) ready_are
              (from.reports t.some t.more t.split (emits_none f x w.log early late own_side.emitted emitted_now before_emitted after_emitted none_early) id
              (sym (ap (has id) (emits_reports f x w.log early late own_side.emitted emitted_now before_emitted after_emitted)) ∙ is))) in
              let longer : IsDelivered (accepted_messages x w.log ++ accepted_messages_by x b_parted.first) (ready (other x) w.log) (given_up_places x w.log) (reported x here) from.delivers.places =
              offered_between (accepted_messages x w.log) (accepted_messages_by x b_parted.first) (ready (other x) w.log) (given_up_places x w.log) (reported x w.log) (reported x here) from.delivers.places h reports in
              same_delivered (accepted_messages x w.log ++ accepted_messages_by x b_parted.first) (accepted_messages x here) (ready (other x) w.log) (ready (other x) here) (given_up_places x w.log) (given_up_places x here)
              (reported x here) (reported x here) from.delivers.places offers_are (ready_same k (other x)) (given_up_same k x) refl longer

    -- ---- the bounds, with that event

    pub ends_delivering : ending.MessagesAreDeliveredThen → IsKept → ActionIsTimely action (world_numbered w) (stamps_along actions first_world w l.runs windows.no_stamps)
        → length (accepted_messages x (w.log ++ b_parted.first ∷ [])) < 2 ^ 32
        → ending.DeliversThen (is_a x) r.trace step.turn first_pair
    ends_delivering law k t few =
        law a b words_a words_b r.trace (is_a x) step.turn options_a_valid options_b_valid (follows_more r.trace (is_a x, step.turn) first_pair follows may) not_ended (record {
          windows = d.windows_kept windows.no_stamps none k.windows;
          timely =
              subst (λ (s : windows.Stamps). windows.IsTimely step.turn (windows.numbered c) (windows.stamps_for (is_a x) s)) (d.stamps windows.no_stamps)
              (timely word_of_a word_of_b action w c step.turn (stamps_along actions first_world w l.runs windows.no_stamps) r.both step.is t);
          resets = resets_kept k;
          few = subst (λ (l : List AcceptedMessage). length l < 2 ^ 32) accepted_are few;
          limits =
              any_more (λ (e : Bool × EndAction). windows.sets_more e.1) r.trace (is_a x, step.turn) d.limits (action_more word_of_a word_of_b action step.turn c fits step.is);
        })
      where
        accepted_are : accepted_messages x (w.log ++ b_parted.first ∷ []) ≡ accepted (is_a x) (r.trace ++ (is_a x, step.turn) ∷ []) first_pair
        accepted_are =
            flat_map-append (accepted_messages_by x) w.log (b_parted.first ∷ [])
            ∙ (ap (λ (l : List AcceptedMessage). accepted_messages x w.log ++ l) (append-nil (accepted_messages_by x b_parted.first) ∙ first_offers x x step.turn c b_parted.first b_parted.begins)
            ∙ (ap (λ (l : List AcceptedMessage). l ++ accepted_at (is_a x) (is_a x) step.turn c) (offered x) ∙ sym (accepted_more (is_a x) r.trace (is_a x, step.turn) first_pair)))

    -- its first entry ends nothing
    pub stands_first : NoEndingIsLogged (w.log ++ b_parted.first ∷ [])
    stands_first y =
        let sum = times_more y w.log (b_parted.first ∷ []) in
        let before = none y in
        let one = ap (λ (l : List End). length (l ++ [])) (b_parted.no_end y) in
        omega (arith, sum, before, one)

    -- behind which the others stand
    abbrev pub behind_first : List Entry
    behind_first = b_parted.rest ++ b_parted.behind

    pub logged_first : next.log ≡ (w.log ++ b_parted.first ∷ []) ++ behind_first
    logged_first = b_parted.logged ∙ sym (append_assoc w.log (b_parted.first ∷ []) behind_first)
