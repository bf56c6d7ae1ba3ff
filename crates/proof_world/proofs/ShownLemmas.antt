-- What a trace keeps and shows, its world keeps and shows.
use Rattle.std.proofs.Common.{◌≡◌, ℕ, ◌+◌, ◌-◌, ◌^◌, ◌<◌, ◌≤◌, ◌==◌, ◌&&◌, not, Bool, true, false, List, [], ◌∷◌, ◌++◌, length, refl, sym, ap, subst, ◌∙◌, append-nil, append_assoc, length-append, arith}
use Rattle.std.proofs.lemmas.List.{length-map}
use Rattle.std.specs.Prelude.{All}
use Rattle.std.specs.List.{flat_map, list_any}
use Rattle.std.proofs.lemmas.Grind.{flat_map-append}
use Rattle.rand_core.specs.Stream.{Stream}
use Rattle.sctp_tx_outstanding.specs.Item.{Item}
use Rattle.sctp_state.specs.Options.{Options, IsValid}
use Rattle.sctp_state.specs.Events.{GivenUp, Event, SendPacket, OnConnected, OnClosed, OnConnectionRestarted, OnAborted, OnError, OnBufferedAmountLow, OnTotalBufferedAmountLow, OnStreamsResetFailed, OnStreamsResetPerformed, OnIncomingStreamReset, OnLifecycleMessageFullySent, OnLifecycleMessageMaybeExpired, OnLifecycleMessageExpired, OnLifecycleMessageDelivered, OnLifecycleEnd}
use Rattle.proof_refines.specs.Reachable.{delivered_ids}
use Rattle.spec_endpoint.specs.Association.{State, Closed, CookieWait, Open, Endpoint}
use Rattle.spec_endpoint.specs.Calls.{keeps_items}
use Rattle.spec_endpoint.specs.Laws.{endings}
use Rattle.spec_endpoint.specs.Shown as socket
use Rattle.proof_endpoint.specs.Mapped.{Mapping, Carried, map_end, as_bytes}
use Rattle.proof_endpoint.specs.Sound.{OptionsFit}
use Rattle.proof_pair.specs.Trace as traces
use Rattle.proof_pair.specs.Trace.{Pair, EndAction, run, start, NoAssociationHasEnded, state_of}
use Rattle.proof_pair.specs.Handing.{messages_made_ready}
use Rattle.proof_pair.proofs.HandingLemmas.{first_halves}
use Rattle.proof_delivery.specs.Accepted.{AcceptedMessage, accepted}
use Rattle.proof_delivery.specs.Delivery as delivery
use Rattle.proof_delivery.specs.GivenUp.{kept_in, given_up, IsAtRest}
use Rattle.proof_delivery.specs.Answered as requests
use Rattle.proof_delivery.specs.Answered.{none_asked, performed_in}
use Rattle.proof_delivery.specs.StreamEpochs as epochs
use Rattle.proof_delivery.specs.StreamEpochs.{all_open}
use Rattle.proof_delivery.specs.Windows as windows
use Rattle.proof_delivery.proofs.ResetEventsLemmas.{performed_both}
use Rattle.spec_world.specs.Observations.{End, A, B, Connect, Entry, ready}
use Rattle.spec_world.specs.Observations as observations
use Rattle.spec_world.specs.World.{Side, World, Action, CallOf, Runs, emitted_entries, fresh_world, is_at_rest}
use Rattle.proof_world.specs.Reachable.{ActionFits, IsInBytes, Origin, IsReachable, initial_world}
use Rattle.proof_world.specs.Traces.{is_a, AreActionsOf}
use Rattle.proof_world.specs.Delivered.{accepted_messages, accepted_messages_by, emitted_events_by, emitted_events, message_epochs, given_up_places, reported, WorldKeepsResets, WorldIsInBounds}
use Rattle.proof_world.specs.Consistent.{association_ends_by, WorldKeepsRules, times_ended}
use Rattle.proof_world.specs.Worlds.{NoneIsForeign, BothEmitBytes}
use Rattle.proof_world.proofs.EventLemmas.{mapped}
use Rattle.proof_world.proofs.NewsLemmas.{ended_by_emitted}
use Rattle.proof_world.proofs.SidesLemmas.{Good}
use Rattle.proof_world.proofs.HappenedLemmas.{bare, bare_performed}
use Rattle.proof_world.proofs.WorldLemmas.{Both}
use Rattle.proof_world.proofs.RunsLemmas.{Ran, ran, fresh_both}
use Rattle.proof_world.proofs.ConsistentLemmas.{given_of}
use Rattle.proof_world.proofs.BlockLemmas as block
use Rattle.proof_world.proofs.BlockLemmas.{AreBlocks, run_more, IsReached, nothing_yet, reached_more}
use Rattle.proof_world.proofs.DeliveredLemmas.{Delivering, delivering, stands_along}
use Rattle.proof_world.proofs.ConnectsLemmas.{asks_rules, connects_first}
use Rattle.proof_world.proofs.NextLemmas.{one_trace, in_bytes, Reaches, reaches}
use Rattle.proof_world.specs.Few.{most_fragments, one_if, ordered_on, UsesFew, LogUsesFew}
use Rattle.proof_world.proofs.UsedCallLemmas.{most_both}
use Rattle.proof_world.proofs.WindowsKeptLemmas.{AllAreReceived, keeps, keeps_requests}

-- ---- no association is over

module _ (f : Mapping Carried (List ℕ)) (x : End) where
  none_behind : (k : ℕ) → 0 + k ≡ 0 → k ≡ 0
  none_behind k e = omega (arith, e)

  not_none : (k : ℕ) → 1 + k ≡ 0 → ⊥
  not_none k e = omega (arith, e)

  none_emitted : (n : ℕ) (es : List (Event Carried)) → endings es ≡ 0 → length (flat_map (association_ends_by x) (emitted_entries x n (mapped f es))) ≡ 0
  none_emitted n [] h = refl
  none_emitted n (SendPacket p ∷ es) h = none_emitted (n + 1) es (none_behind (endings es) h)
  none_emitted n (OnConnected ∷ es) h = none_emitted n es (none_behind (endings es) h)
  none_emitted n (OnClosed ∷ es) h = absurd (not_none (endings es) h)
  none_emitted n (OnConnectionRestarted ∷ es) h = none_emitted n es (none_behind (endings es) h)
  none_emitted n (OnAborted kind text ∷ es) h = absurd (not_none (endings es) h)
  none_emitted n (OnError kind text ∷ es) h = none_emitted n es (none_behind (endings es) h)
  none_emitted n (OnBufferedAmountLow id ∷ es) h = none_emitted n es (none_behind (endings es) h)
  none_emitted n (OnTotalBufferedAmountLow ∷ es) h = none_emitted n es (none_behind (endings es) h)
  none_emitted n (OnStreamsResetFailed ids ∷ es) h = none_emitted n es (none_behind (endings es) h)
  none_emitted n (OnStreamsResetPerformed ids ∷ es) h = none_emitted n es (none_behind (endings es) h)
  none_emitted n (OnIncomingStreamReset ids ∷ es) h = none_emitted n es (none_behind (endings es) h)
  none_emitted n (OnLifecycleMessageFullySent id ∷ es) h = none_emitted n es (none_behind (endings es) h)
  none_emitted n (OnLifecycleMessageMaybeExpired id ∷ es) h = none_emitted n es (none_behind (endings es) h)
  none_emitted n (OnLifecycleMessageExpired id ∷ es) h = none_emitted n es (none_behind (endings es) h)
  none_emitted n (OnLifecycleMessageDelivered id ∷ es) h = none_emitted n es (none_behind (endings es) h)
  none_emitted n (OnLifecycleEnd id ∷ es) h = none_emitted n es (none_behind (endings es) h)

none_over : (word_of : List ℕ → ℕ) (x : End) (log : List Entry) (others : List (List ℕ)) (side : Side) (end : traces.Side) → Good word_of x log others side end
    → endings end.emitted ≡ 0 → times_ended x log ≡ 0
none_over word_of x log others side end g h =
    ap (λ (l : List End). length l) (ended_by_emitted x log)
    ∙ (ap (λ (l : List Entry). length (flat_map (association_ends_by x) l)) g.image.emitted ∙ none_emitted (as_bytes word_of) x 0 end.emitted h)

-- ---- rest

none_kept : (s : State) → kept_in s ≡ [] → keeps_items s ≡ false
none_kept Closed e = refl
none_kept (CookieWait tag first t1) e = refl
none_kept (Open phase t) e = ap (λ (items : List Item). not (length items == 0)) e

rests_as : (f : Mapping Carried (List ℕ)) (side : Side) (end : traces.Side) → side.socket ≡ map_end f end.end → IsAtRest end
    → socket.is_at_rest side.socket.endpoint_state.state side.socket.endpoint_state.context.queue ≡ true
rests_as f side end e h =
    ap (λ (z : Endpoint (List ℕ)). socket.is_at_rest z.endpoint_state.state z.endpoint_state.context.queue) e
    ∙ (ap (λ (b : Bool). b && not (keeps_items (state_of end))) h.none_waits ∙ ap (λ (b : Bool). not b) (none_kept (state_of end) h.none_kept))

-- ---- all actions have been

at_the_end : (es : List (Bool × EndAction)) (c : Pair) (done : List (Bool × EndAction)) (log longer : List Entry) → IsReached c done log → AreBlocks es (run done c) log longer
    → IsReached c (done ++ es) longer
at_the_end [] c done log longer r h = subst (λ (l : List (Bool × EndAction)). IsReached c l longer) (sym (append-nil done)) (subst (IsReached c done) (sym h) r)
at_the_end (e ∷ es) c done log longer r h =
    subst (λ (l : List (Bool × EndAction)). IsReached c l longer) (append_assoc done (e ∷ []) es)
    (at_the_end es c (done ++ e ∷ []) h.0 longer (reached_more c done e log h.0 r h.1) (subst (λ (z : Pair). AreBlocks es z h.0 longer) (sym (run_more done e c)) h.2))

-- ---- bounds

few_front : (x : End) (log early late : List Entry) → log ≡ early ++ late → length (accepted_messages x log) < 2 ^ 32 → length (accepted_messages x early) < 2 ^ 32
few_front x log early late is small =
    let parts : accepted_messages x log ≡ accepted_messages x early ++ accepted_messages x late = ap (λ (l : List Entry). accepted_messages x l) is ∙ flat_map-append (accepted_messages_by x) early late in
    let sizes : length (accepted_messages x log) ≡ length (accepted_messages x early) + length (accepted_messages x late) =
    ap (λ (l : List AcceptedMessage). length l) parts ∙ length-append (accepted_messages x early) (accepted_messages x late) in
    omega (arith, sizes, small)

few_performed : (x : End) (log early late : List Entry) (n : ℕ) → log ≡ early ++ late → performed_in (emitted_events x log) < n → performed_in (emitted_events x early) < n
few_performed x log early late n is small =
    let parts = ap (λ (l : List Entry). performed_in (emitted_events x l)) is in
    let both = ap (λ (es : List (Event (List ℕ))). performed_in es) (flat_map-append (emitted_events_by x) early late) in
    let sum = performed_both (emitted_events x early) (emitted_events x late) in
    omega (arith, parts, both, sum, small)

-- how many numbers an end uses at most
abbrev pub used_in : (x : Bool) → List (Bool × EndAction) → Pair → ℕ
used_in x trace c = most_fragments (accepted x trace c) + length (given_up x trace c)

abbrev used_by : End → List Entry → ℕ
used_by x log = most_fragments (accepted_messages x log) + length (observations.given_up x log)

used_as : (x : End) (log : List Entry) (os : List AcceptedMessage) (places : List ℕ) → accepted_messages x log ≡ os → given_up_places x log ≡ places → most_fragments os + length places < 32000
    → used_by x log < 32000
used_as x log os places offers gone small =
    let sizes : length (given_up_places x log) ≡ length (observations.given_up x log) = length-map (observations.given_up x log) (λ (g : GivenUp). g.number) in
    omega (arith, small, ap (λ (l : List AcceptedMessage). most_fragments l) offers, ap (λ (l : List ℕ). length l) gone, sizes)

ordered_few : (stream : ℕ) (os : List AcceptedMessage) → ordered_on stream os ≤ most_fragments os
ordered_few stream [] = omega arith
ordered_few stream (o ∷ os) = at_most_one ((o.message.stream == stream) && not o.options.unordered) (ordered_few stream os)
  where
    at_most_one : (b : Bool) → ordered_on stream os ≤ most_fragments os → one_if b + ordered_on stream os ≤ most_fragments (o ∷ os)
    at_most_one true h = omega (arith, h)
    at_most_one false h = omega (arith, h)

few_used : (x : End) (log early late : List Entry) → log ≡ early ++ late → used_by x log < 32000 → performed_in (emitted_events x early) < 2 ^ 32 - 1 → UsesFew x early
few_used x log early late is small resets =
    let offers : accepted_messages x log ≡ accepted_messages x early ++ accepted_messages x late = ap (λ (l : List Entry). accepted_messages x l) is ∙ flat_map-append (accepted_messages_by x) early late in
    let sum : most_fragments (accepted_messages x log) ≡ most_fragments (accepted_messages x early) + most_fragments (accepted_messages x late) =
    ap (λ (os : List AcceptedMessage). most_fragments os) offers ∙ most_both (accepted_messages x early) (accepted_messages x late) in
    let gone = ap (λ (l : List Entry). length (observations.given_up x l)) is in
    let both = ap (λ (gs : List GivenUp). length gs) (flat_map-append (observations.given_up_by x) early late) in
    let sizes = length-append (observations.given_up x early) (observations.given_up x late) in
    record {
      fragments = omega (arith, small, sum, gone, both, sizes);
      messages = λ stream. omega (arith, small, sum, ordered_few stream (accepted_messages x early));
      resets = resets;
    }

-- ---- a trace, and its world

module _ (a b : Options) (draws_a draws_b : Stream) (word_of_a word_of_b : List ℕ → ℕ) (actions : List Action) (trace : List (Bool × EndAction))
    (valid_a : IsValid a) (valid_b : IsValid b) (fits_a : OptionsFit a) (fits_b : OptionsFit b) (fit : All ActionFits actions) (none : NoneIsForeign actions)
    (are : AreActionsOf word_of_a word_of_b actions trace (start a b draws_a draws_b)) (bytes : BothEmitBytes word_of_a word_of_b (run trace (start a b draws_a draws_b))) where
  abbrev first_world : World
  first_world = fresh_world a b draws_a draws_b word_of_a word_of_b

  abbrev first_pair : Pair
  first_pair = start a b draws_a draws_b

  first_both : Both word_of_a word_of_b first_world first_pair
  first_both = fresh_both a b draws_a draws_b word_of_a word_of_b fits_a fits_b

  pub reached : Reaches word_of_a word_of_b actions first_world (run trace first_pair)
  reached = reaches word_of_a word_of_b actions trace first_world first_pair fit none are bytes first_both

  abbrev pub there : World
  there = reached.world

  pub small : IsInBytes there
  small = in_bytes word_of_a word_of_b there (run trace first_pair) reached.both bytes

  abbrev pub origin : Origin
  origin = record { a = a; b = b; draws_a = draws_a; draws_b = draws_b; word_of_a = word_of_a; word_of_b = word_of_b }

  abbrev pub reachable : IsReachable origin actions there
  reachable = record {
    valid_a = valid_a;
    valid_b = valid_b;
    fits_a = fits_a;
    fits_b = fits_b;
    fit = fit;
    runs = reached.runs;
    bytes = small;
  }

  pub at_rest_a : IsAtRest (run trace first_pair).a → is_at_rest A there ≡ true
  at_rest_a h = rests_as (as_bytes word_of_a) there.a (run trace first_pair).a reached.both.a.image.socket h

  abbrev as_ran : Ran word_of_a word_of_b actions first_world there first_pair
  as_ran = ran word_of_a word_of_b actions first_world there first_pair fit reached.runs small first_both

  same : as_ran.trace ≡ trace
  same = one_trace word_of_a word_of_b actions as_ran.trace trace first_pair none as_ran.are are

  delivers : Delivering word_of_a word_of_b actions first_world there first_pair reached.runs as_ran.trace
  delivers = delivering word_of_a word_of_b actions first_world there first_pair fit reached.runs small first_both

  nothing : (x : Bool) → (traces.side_of x first_pair).emitted ≡ []
  nothing true = refl
  nothing false = refl

  module _ (follows : traces.KeepsRules trace first_pair) (not_ended : NoAssociationHasEnded (run trace first_pair)) where
    stand : block.Stands trace first_pair
    stand = stands_along a b (given_of a valid_a fits_a) (given_of b valid_b fits_b) trace first_pair follows not_ended (first_halves a b draws_a draws_b)

    blocks : AreBlocks trace first_pair [] there.log
    blocks =
        subst (λ (es : List (Bool × EndAction)). AreBlocks es first_pair [] there.log) same
        (delivers.blocks (subst (λ (es : List (Bool × EndAction)). block.Stands es first_pair) (sym same) stand))

    -- what the log says is what the trace says
    pub shows_all : IsReached first_pair trace there.log
    shows_all = at_the_end trace first_pair [] [] there.log (nothing_yet first_pair nothing) blocks

    pub over : (x : End) → times_ended x there.log ≡ 0
    over A = none_over word_of_a A there.log there.b.packets there.a (run trace first_pair).a reached.both.a not_ended.a
    over B = none_over word_of_b B there.log there.a.packets there.b (run trace first_pair).b reached.both.b not_ended.b

    few : ((from_a : Bool) → length (accepted from_a trace first_pair) < 2 ^ 32) → (x : End) → length (accepted_messages x there.log) < 2 ^ 32
    few h A = subst (λ (l : List AcceptedMessage). length l < 2 ^ 32) (sym (shows_all.offers_are A)) (h true)
    few h B = subst (λ (l : List AcceptedMessage). length l < 2 ^ 32) (sym (shows_all.offers_are B)) (h false)

    resets_kept : requests.KeepsResets trace first_pair → WorldKeepsResets actions first_world there reached.runs
    resets_kept k = record {
      answered = keeps_requests word_of_a word_of_b actions trace first_world there first_pair none_asked fit none are reached.runs small first_both k.answered;
      few = λ x early late is stands.
          few_performed x there.log early late (2 ^ 32 - 1) is
          (subst (λ (n : ℕ). n < 2 ^ 32 - 1)
          (sym (ap (λ (es : List (Event (List ℕ))). performed_in es) (shows_all.emitted_are x) ∙ bare_performed (traces.side_of (is_a x) (run trace first_pair)).emitted)) (k.few (is_a x)));
    }

    pub bounds : AllAreReceived trace → delivery.IsInBounds trace first_pair → WorldIsInBounds actions first_world there reached.runs
    bounds received k = record {
      windows = keeps word_of_a word_of_b actions trace first_world there first_pair windows.no_stamps fit none received are reached.runs small first_both k.windows;
      resets = resets_kept k.resets;
      few = λ x early late is stands. few_front x there.log early late is (few k.few x);
    }

    -- and few numbers are used
    used_there : ((x : Bool) → used_in x trace first_pair < 32000) → (x : End) → used_by x there.log < 32000
    used_there h A = used_as A there.log _ _ (shows_all.offers_are A) (shows_all.given_up_are A) (h true)
    used_there h B = used_as B there.log _ _ (shows_all.offers_are B) (shows_all.given_up_are B) (h false)

    pub log_uses_few : delivery.IsInBounds trace first_pair → ((x : Bool) → used_in x trace first_pair < 32000) → LogUsesFew there.log
    log_uses_few k h x early late is stands = few_used x there.log early late is (used_there h x) ((resets_kept k.resets).few x early late is stands)

-- ---- in one record

pub record Shown (actions : List Action) (trace : List (Bool × EndAction)) (c : Pair) : Type 0 where
  pub origin : Origin
  pub world : World
  pub reachable : IsReachable origin actions world
  pub offers_a : accepted_messages A world.log ≡ accepted true trace c
  pub ready_b : ready B world.log ≡ messages_made_ready false trace c
  pub given_up_a : given_up_places A world.log ≡ given_up true trace c
  pub reported_a : reported A world.log ≡ delivered_ids (run trace c).a.emitted
  pub epochs_a : message_epochs A world.log all_open ≡ epochs.message_epochs true trace c all_open
  pub emitted_a : emitted_events A world.log ≡ bare (run trace c).a.emitted
  pub emitted_b : emitted_events B world.log ≡ bare (run trace c).b.emitted
  pub over : (x : End) → times_ended x world.log ≡ 0
  pub follows : (rest : List Action) → actions ≡ CallOf A Connect ∷ rest → list_any asks_rules rest ≡ false → WorldKeepsRules world
  pub bounds : AllAreReceived trace → delivery.IsInBounds trace c → WorldIsInBounds actions (initial_world origin) world reachable.runs
  pub few : delivery.IsInBounds trace c → ((x : Bool) → used_in x trace c < 32000) → LogUsesFew world.log
  pub rests : IsAtRest (run trace c).a → is_at_rest A world ≡ true

pub shown : (a b : Options) (draws_a draws_b : Stream) (word_of_a word_of_b : List ℕ → ℕ) (actions : List Action) (trace : List (Bool × EndAction))
    → IsValid a → IsValid b → OptionsFit a → OptionsFit b → All ActionFits actions → NoneIsForeign actions
    → AreActionsOf word_of_a word_of_b actions trace (start a b draws_a draws_b) → BothEmitBytes word_of_a word_of_b (run trace (start a b draws_a draws_b))
    → traces.KeepsRules trace (start a b draws_a draws_b) → NoAssociationHasEnded (run trace (start a b draws_a draws_b))
    → Shown actions trace (start a b draws_a draws_b)
shown a b draws_a draws_b f g actions trace valid_a valid_b fits_a fits_b fit none are bytes follows not_ended =
    let from : World = fresh_world a b draws_a draws_b f g in
    let r : Reaches f g actions from (run trace (start a b draws_a draws_b)) = reached a b draws_a draws_b f g actions trace valid_a valid_b fits_a fits_b fit none are bytes in
    let shows : IsReached (start a b draws_a draws_b) trace r.world.log =
    shows_all a b draws_a draws_b f g actions trace valid_a valid_b fits_a fits_b fit none are bytes follows not_ended in
    record {
      origin = record { a = a; b = b; draws_a = draws_a; draws_b = draws_b; word_of_a = f; word_of_b = g };
      world = r.world;
      reachable = reachable a b draws_a draws_b f g actions trace valid_a valid_b fits_a fits_b fit none are bytes;
      offers_a = shows.offers_are A;
      ready_b = shows.ready_are B;
      given_up_a = shows.given_up_are A;
      reported_a = shows.reported_are A;
      epochs_a = (shows.epochs_are A).epochs;
      emitted_a = shows.emitted_are A;
      emitted_b = shows.emitted_are B;
      over = over a b draws_a draws_b f g actions trace valid_a valid_b fits_a fits_b fit none are bytes follows not_ended;
      follows = λ rest is quiet. connects_first rest from r.world refl quiet (subst (λ (l : List Action). Runs l from r.world) is r.runs);
      bounds = bounds a b draws_a draws_b f g actions trace valid_a valid_b fits_a fits_b fit none are bytes follows not_ended;
      few = log_uses_few a b draws_a draws_b f g actions trace valid_a valid_b fits_a fits_b fit none are bytes follows not_ended;
      rests = at_rest_a a b draws_a draws_b f g actions trace valid_a valid_b fits_a fits_b fit none are bytes;
    }
