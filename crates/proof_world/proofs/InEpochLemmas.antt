-- Each message of a world's log becomes ready in its epoch, as in its trace.
use Rattle.std.proofs.Common.{◌≡◌, ◌⊎◌, inl, inr, ℕ, zero, suc, ◌<◌, ◌≤◌, not, Bool, true, Option, Some, None, List, [], ◌∷◌, ◌++◌, length, map, take, slice_get, refl, sym, ap, subst, ◌∙◌, append-nil, append_assoc, length-append, arith}
use Rattle.std.specs.Prelude.{slice_index, option_map}
use Rattle.std.specs.List.{flat_map}
use Rattle.std.proofs.lemmas.Grind.{flat_map-append}
use Rattle.sctp_serial.specs.Messages.{Message}
use Rattle.sctp_state.specs.Events.{Event}
use Rattle.proof_pair.specs.Trace.{Pair, EndAction, goes, run}
use Rattle.proof_pair.specs.Handing.{messages_made_ready}
use Rattle.proof_delivery.specs.Accepted.{AcceptedMessage, accepted_at, accepted}
use Rattle.proof_delivery.specs.Delivery as delivery
use Rattle.proof_delivery.specs.Delivery.{message_at}
use Rattle.proof_delivery.specs.StreamEpochs as epochs
use Rattle.proof_delivery.specs.StreamEpochs.{all_open, resets_emitted, emitted_along}
use Rattle.proof_delivery.proofs.ResetEventsLemmas.{emitted_both}
use Rattle.proof_delivery.proofs.StreamEpochLemmas.{epochs_are_many, epochs_go_on}
use Rattle.spec_world.specs.Observations.{End, A, B, Entry, BecameReady, ready_by, ready}
use Rattle.spec_world.specs.World.{other}
use Rattle.proof_world.specs.Traces.{is_a}
use Rattle.proof_world.specs.Delivered.{accepted_messages_by, accepted_messages, emitted_events_by, emitted_events, message_epochs, begins_event, IsInItsEpoch}
use Rattle.proof_world.proofs.HappenedLemmas.{bare_resets, none_begun, ready_among}
use Rattle.proof_world.proofs.LoggedEpochLemmas.{epochs_along, epochs_both, none_offered}
use Rattle.proof_world.proofs.PrefixLemmas.{none_before, Longer, one_is_longer, split_head, split_tail}
use Rattle.proof_world.proofs.BlockLemmas.{IsBlock, AreBlocks, blocks_longer, IsReached, reached_more, run_more, same_front}
use Rattle.proof_world.proofs.PointsLemmas.{own_or_beside, is_a_other}
use Rattle.proof_protocol.proofs.CommonLemmas.{get_front}

-- ---- where an entry stands

-- in the block of an action
pub record IsLocated (all : List (Bool × EndAction)) (c : Pair) (k : Entry) (early : List Entry) : Type 0 where
  pub done : List (Bool × EndAction)
  pub rest : List (Bool × EndAction)
  pub turn : Bool × EndAction
  pub log : List Entry
  pub mid : List Entry
  pub front : List Entry
  pub behind : List Entry
  pub split : all ≡ done ++ turn ∷ rest
  pub reached : IsReached c done log
  pub block : IsBlock turn (run done c) log mid
  pub within : block.first ∷ block.more ≡ front ++ k ∷ behind
  pub here : early ≡ log ++ front

no_more : (log early late : List Entry) (k : Entry) → log ≡ (log ++ early) ++ k ∷ late → ⊥
no_more log early late k e =
    let none : [] ≡ early ++ k ∷ late = same_front log [] (early ++ k ∷ late) (append-nil log ∙ (e ∙ append_assoc log early (k ∷ late))) in
    go early none
  where
    go : (early : List Entry) → [] ≡ early ++ k ∷ late → ⊥
    go [] h = cc
    go (z ∷ early) h = cc

located : (all : List (Bool × EndAction)) (c : Pair) (k : Entry) (done rest : List (Bool × EndAction)) (log longer early late : List Entry) → all ≡ done ++ rest → IsReached c done log
    → AreBlocks rest (run done c) log longer → longer ≡ (log ++ early) ++ k ∷ late → IsLocated all c k (log ++ early)
located all c k done [] log longer early late e r h is = absurd (no_more log early late k (sym h ∙ is))
located all c k done (t ∷ rest) log longer early late e r h is =
    found (one_is_longer early (k ∷ late) block l.0 (sym both))
    (λ between made.
    located all c k (done ++ t ∷ []) rest mid longer between late (e ∙ sym (append_assoc done (t ∷ []) rest)) (reached_more c done t log mid r b)
    (subst (λ (z : Pair). AreBlocks rest z mid longer) (sym (run_more done t c)) h.2)
    (is ∙ ap (λ (z : List Entry). z ++ k ∷ late) (passes between made)))
  where
    mid : List Entry
    mid = h.0

    b : IsBlock t (run done c) log mid
    b = h.1

    block : List Entry
    block = b.first ∷ b.more

    l : (more : List Entry) × (longer ≡ mid ++ more)
    l = blocks_longer rest (goes t.0 t.1 (run done c)) mid longer h.2

    both : block ++ l.0 ≡ early ++ k ∷ late
    both =
        same_front log (block ++ l.0) (early ++ k ∷ late)
        (sym (append_assoc log block l.0) ∙ (ap (λ (z : List Entry). z ++ l.0) (sym b.logged) ∙ (sym l.1 ∙ (is ∙ append_assoc log early (k ∷ late)))))

    passes : (between : List Entry) → early ≡ block ++ between → log ++ early ≡ mid ++ between
    passes between made =
        ap (λ (z : List Entry). log ++ z) made ∙ (sym (append_assoc log block between) ∙ ap (λ (z : List Entry). z ++ between) (sym b.logged))

    -- in this block, or behind it
    within : (between : List Entry) → block ≡ early ++ between → k ∷ late ≡ between ++ l.0
        → ((between : List Entry) → early ≡ block ++ between → IsLocated all c k (mid ++ between)) → IsLocated all c k (log ++ early)
    within [] made behind next =
        let is : early ≡ block ++ [] = sym (append-nil early) ∙ (sym made ∙ sym (append-nil block)) in
        subst (λ (z : List Entry). IsLocated all c k z) (sym (passes [] is)) (next [] is)
    within (z ∷ between) made behind next = record {
      done = done;
      rest = rest;
      turn = t;
      log = log;
      mid = mid;
      front = early;
      behind = between;
      split = e;
      reached = r;
      block = b;
      within = made ∙ ap (λ (y : Entry). early ++ y ∷ between) (sym (split_head k z late (between ++ l.0) behind));
      here = refl;
    }

    found : Longer early block l.0 (k ∷ late) ⊎ Longer block early (k ∷ late) l.0 → ((between : List Entry) → early ≡ block ++ between → IsLocated all c k (mid ++ between))
        → IsLocated all c k (log ++ early)
    found (inl m) next = within m.between m.made m.behind next
    found (inr m) next = subst (λ (z : List Entry). IsLocated all c k z) (sym (passes m.between m.made)) (next m.between m.made)

-- ---- places

there_too : {X Y : Type 0} (xs : List X) (ys : List Y) (n : ℕ) (x : X) → length xs ≡ length ys → slice_get xs n ≡ Some x → (y : Y) × (slice_get ys n ≡ Some y)
there_too [] ys n x h e = cc
there_too (z ∷ xs) [] n x h e = absurd (omega (arith, h))
there_too (z ∷ xs) (y ∷ ys) zero x h e = (y, refl)
there_too (z ∷ xs) (y ∷ ys) (suc n) x h e = there_too xs ys n x (omega (arith, h)) e

-- the message at the place behind these
at_place : (os : List AcceptedMessage) (n : ℕ) (places : List ℕ) (front behind : List Message) (m : Message)
    → map (message_at os) (take n places) ≡ map (λ (z : Message). Some z) (front ++ m ∷ behind) → message_at os (slice_index places (length front)) ≡ Some m
at_place os zero places [] behind m e = cc
at_place os zero places (z ∷ front) behind m e = cc
at_place os (suc n) [] [] behind m e = cc
at_place os (suc n) [] (z ∷ front) behind m e = cc
at_place os (suc n) (p ∷ places) [] behind m e =
    split_head (message_at os p) (Some m) (map (message_at os) (take n places)) (map (λ (z : Message). Some z) behind) e
at_place os (suc n) (p ∷ places) (z ∷ front) behind m e =
    at_place os n places front behind m
    (split_tail (message_at os p) (Some z) (map (message_at os) (take n places)) (map (λ (z : Message). Some z) (front ++ m ∷ behind)) e)

its_offer : (os : List AcceptedMessage) (p : ℕ) (m : Message) → message_at os p ≡ Some m → (o : AcceptedMessage) × (slice_get os p ≡ Some o) × (o.message ≡ m)
its_offer os p m e = go (slice_get os p) refl e
  where
    go : (o : Option AcceptedMessage) → slice_get os p ≡ o → option_map (λ (o : AcceptedMessage). o.message) o ≡ Some m → (o : AcceptedMessage) × (slice_get os p ≡ Some o) × (o.message ≡ m)
    go None h k = cc
    go (Some o) h k = (o, h, ap (λ (z : Option Message). elim z [ None ↦ m | Some y ↦ y ]) k)

accepted_both : (x : Bool) (es fs : List (Bool × EndAction)) (w : Pair) → accepted x (es ++ fs) w ≡ accepted x es w ++ accepted x fs (run es w)
accepted_both x [] fs w = refl
accepted_both x (e ∷ es) fs w =
    ap (λ (l : List AcceptedMessage). accepted_at x e.0 e.1 w ++ l) (accepted_both x es fs (goes e.0 e.1 w))
    ∙ sym (append_assoc (accepted_at x e.0 e.1 w) (accepted x es (goes e.0 e.1 w)) (accepted x fs (run es (goes e.0 e.1 w))))

-- ---- in the block of the other end

module _ (x : End) (all : List (Bool × EndAction)) (c : Pair) (from : delivery.Delivers (is_a x) all c) (m : Message) (early : List Entry)
    (at : IsLocated all c (BecameReady (other x) m) early) where
  abbrev y : End
  y = other x

  abbrev block : List Entry
  block = at.block.first ∷ at.block.more

  abbrev place : ℕ
  place = slice_index from.places (length (ready y early))

  none_offered_there : accepted_messages x block ≡ []
  none_offered_there = elim (own_or_beside x at.turn (run at.done c) at.log at.mid at.block) [
    | inl none ↦ absurd (ready_among y m at.front at.behind block none at.within)
    | inr n ↦ n.offers
  ]

  none_in_front : flat_map (accepted_messages_by x) at.front ≡ []
  none_in_front =
      none_before (flat_map (accepted_messages_by x) at.front) (flat_map (accepted_messages_by x) (BecameReady y m ∷ at.behind))
      (sym (flat_map-append (accepted_messages_by x) at.front (BecameReady y m ∷ at.behind)) ∙ (sym (ap (flat_map (accepted_messages_by x)) at.within) ∙ none_offered_there))

  then : IsReached c (at.done ++ at.turn ∷ []) at.mid
  then = reached_more c at.done at.turn at.log at.mid at.reached at.block

  split_then : all ≡ (at.done ++ at.turn ∷ []) ++ at.rest
  split_then = at.split ∙ sym (append_assoc at.done (at.turn ∷ []) at.rest)

  -- what stands before it, and behind it
  mid_is : at.mid ≡ early ++ BecameReady y m ∷ at.behind
  mid_is =
      at.block.logged
      ∙ (ap (λ (l : List Entry). at.log ++ l) at.within ∙ (sym (append_assoc at.log at.front (BecameReady y m ∷ at.behind)) ∙ ap (λ (l : List Entry). l ++ BecameReady y m ∷ at.behind) (sym at.here)))

  ready_is : ready y at.mid ≡ ready y early ++ m ∷ ready y at.behind
  ready_is = ap (ready y) mid_is ∙ (flat_map-append (ready_by y) early (BecameReady y m ∷ at.behind) ∙ ap (λ (l : List Message). ready y early ++ l) (own y))
    where
      own : (z : End) → flat_map (ready_by z) (BecameReady z m ∷ at.behind) ≡ m ∷ ready z at.behind
      own A = refl
      own B = refl

  readied_is : messages_made_ready (not (is_a x)) (at.done ++ at.turn ∷ []) c ≡ ready y early ++ m ∷ ready y at.behind
  readied_is = ap (λ (z : Bool). messages_made_ready z (at.done ++ at.turn ∷ []) c) (sym (is_a_other x)) ∙ (sym (then.ready_are y) ∙ ready_is)

  -- ---- its offer, and its epoch

  same_offers : accepted (is_a x) (at.done ++ at.turn ∷ []) c ≡ accepted (is_a x) at.done c
  same_offers =
      sym (then.offers_are x)
      ∙ (ap (accepted_messages x) at.block.logged
      ∙ (flat_map-append (accepted_messages_by x) at.log block
      ∙ (ap (λ (os : List AcceptedMessage). accepted_messages x at.log ++ os) none_offered_there ∙ (append-nil (accepted_messages x at.log) ∙ at.reached.offers_are x))))

  offer : (o : AcceptedMessage) × (slice_get (accepted (is_a x) at.done c) place ≡ Some o) × (o.message ≡ m)
  offer =
      its_offer (accepted (is_a x) at.done c) place m
      (subst (λ (os : List AcceptedMessage). message_at os place ≡ Some m) same_offers
      (at_place (accepted (is_a x) (at.done ++ at.turn ∷ []) c) (length (messages_made_ready (not (is_a x)) (at.done ++ at.turn ∷ []) c)) from.places (ready y early) (ready y at.behind) m
      ((from.fits (at.done ++ at.turn ∷ []) at.rest split_then).alike ∙ ap (map (λ (z : Message). Some z)) readied_is)))

  its_epoch : (n : ℕ) × (slice_get (epochs.message_epochs (is_a x) at.done c all_open) place ≡ Some n)
  its_epoch =
      there_too (accepted (is_a x) at.done c) (epochs.message_epochs (is_a x) at.done c all_open) place offer.0 (sym (epochs_are_many (is_a x) at.done c all_open)) offer.1

  epochs_here : message_epochs x early all_open ≡ epochs.message_epochs (is_a x) at.done c all_open
  epochs_here =
      ap (λ (l : List Entry). message_epochs x l all_open) at.here
      ∙ (epochs_both x at.log at.front all_open
      ∙ (ap (λ (ns : List ℕ). message_epochs x at.log all_open ++ ns) (none_offered x at.front (epochs_along x at.log all_open) none_in_front)
      ∙ (append-nil (message_epochs x at.log all_open) ∙ (at.reached.epochs_are x).epochs)))

  offer_of_all : slice_get (accepted (is_a x) all c) place ≡ Some offer.0
  offer_of_all =
      ap (λ (os : List AcceptedMessage). slice_get os place) (ap (λ (es : List (Bool × EndAction)). accepted (is_a x) es c) at.split ∙ accepted_both (is_a x) at.done (at.turn ∷ at.rest) c)
      ∙ get_front (accepted (is_a x) at.done c) (accepted (is_a x) (at.turn ∷ at.rest) (run at.done c)) place offer.0 offer.1

  epoch_of_all : slice_get (epochs.message_epochs (is_a x) all c all_open) place ≡ Some its_epoch.0
  epoch_of_all =
      ap (λ (ns : List ℕ). slice_get ns place)
      (ap (λ (es : List (Bool × EndAction)). epochs.message_epochs (is_a x) es c all_open) at.split ∙ epochs_go_on (is_a x) at.done (at.turn ∷ at.rest) c all_open)
      ∙ get_front (epochs.message_epochs (is_a x) at.done c all_open)
      (epochs.message_epochs (is_a x) (at.turn ∷ at.rest) (run at.done c) (epochs.epochs_along (is_a x) at.done c all_open)) place its_epoch.0 its_epoch.1

  -- ---- between the resets

  from_here : length (messages_made_ready (not (is_a x)) at.done c) ≤ length (ready y early)
  from_here =
      let at_first = ap (λ (z : Bool). length (messages_made_ready z at.done c)) (is_a_other x) in
      let reached = ap (λ (l : List Message). length l) (at.reached.ready_are y) in
      let grows = ap (λ (l : List Entry). length (ready y l)) at.here in
      let parts = ap (λ (l : List Message). length l) (flat_map-append (ready_by y) at.log at.front) in
      let sizes = length-append (ready y at.log) (ready y at.front) in
      omega (arith, at_first, reached, grows, parts, sizes)

  to_there : length (ready y early) < length (messages_made_ready (not (is_a x)) (at.done ++ at.turn ∷ []) c)
  to_there =
      let is = ap (λ (l : List Message). length l) readied_is in
      let sizes = length-append (ready y early) (m ∷ ready y at.behind) in
      omega (arith, is, sizes)

  abbrev stream : ℕ
  stream = m.stream

  counts : (done : List (Bool × EndAction)) (log : List Entry) → IsReached c done log → resets_emitted offer.0.message.stream (emitted_along (not (is_a x)) done c) ≡ resets_emitted stream (emitted_events y log)
  counts done log r =
      ap (λ (z : Message). resets_emitted z.stream (emitted_along (not (is_a x)) done c)) offer.2
      ∙ (ap (λ (z : Bool). resets_emitted stream (emitted_along z done c)) (sym (is_a_other x))
      ∙ (sym (bare_resets stream (emitted_along (is_a y) done c)) ∙ ap (λ (es : List (Event (List ℕ))). resets_emitted stream es) (sym (r.emitted_are y))))

  more_emitted : (before between log : List Entry) → log ≡ before ++ between → resets_emitted stream (emitted_events y before) ≤ resets_emitted stream (emitted_events y log)
  more_emitted before between log is =
      let parts = ap (λ (l : List Entry). resets_emitted stream (emitted_events y l)) is in
      let both = ap (λ (es : List (Event (List ℕ))). resets_emitted stream es) (flat_map-append (emitted_events_by y) before between) in
      let sum = emitted_both stream (emitted_events y before) (emitted_events y between) in
      omega (arith, parts, both, sum)

  before_action : resets_emitted stream (emitted_events y at.log) ≤ its_epoch.0
  before_action =
      let low = from.epochs.least at.done at.rest at.turn at.split (length (ready y early)) its_epoch.0 offer.0 from_here to_there offer_of_all epoch_of_all in
      let same = counts at.done at.log at.reached in
      omega (arith, low, same)

  -- an event so far has begun before this action, or with it
  begun_before : (before behind : List Entry) (first : Entry) → early ≡ before ++ first ∷ behind → begins_event first ≡ true → (between : List Entry) × (at.log ≡ before ++ between)
  begun_before before behind first is begins = go (one_is_longer at.log at.front before (first ∷ behind) (sym at.here ∙ is))
    where
      here : (between : List Entry) → before ≡ at.log ++ between → at.front ≡ between ++ first ∷ behind → (between : List Entry) × (at.log ≡ before ++ between)
      here [] made rest = ([], sym (append-nil at.log) ∙ (sym made ∙ sym (append-nil before)))
      here (z ∷ between) made rest =
          let whole : at.block.first ∷ at.block.more ≡ z ∷ (between ++ first ∷ (behind ++ BecameReady y m ∷ at.behind)) =
          at.within
          ∙ (ap (λ (l : List Entry). l ++ BecameReady y m ∷ at.behind) rest
          ∙ ap (λ (l : List Entry). z ∷ l) (append_assoc between (first ∷ behind) (BecameReady y m ∷ at.behind))) in
          absurd (none_begun at.block.more between (behind ++ BecameReady y m ∷ at.behind) first at.block.none_begins
          (split_tail at.block.first z at.block.more (between ++ first ∷ (behind ++ BecameReady y m ∷ at.behind)) whole) begins)

      go : Longer at.log before (first ∷ behind) at.front ⊎ Longer before at.log at.front (first ∷ behind) → (between : List Entry) × (at.log ≡ before ++ between)
      go (inl h) = here h.between h.made h.behind
      go (inr h) = (h.between, h.made)

  -- behind it the action emits nothing
  none_behind_it : emitted_events y at.behind ≡ []
  none_behind_it = go at.front at.within
    where
      go : (front : List Entry) → block ≡ front ++ BecameReady y m ∷ at.behind → emitted_events y at.behind ≡ []
      go [] is =
          absurd (ready_among y m [] [] (at.block.first ∷ []) (append-nil (ready_by y at.block.first) ∙ at.block.none_ready_first y)
          (ap (λ (e : Entry). e ∷ []) (split_head at.block.first (BecameReady y m) at.block.more at.behind is)))
      go (z ∷ front) is = at.block.emitted_first y y m front at.behind (split_tail at.block.first z at.block.more (front ++ BecameReady y m ∷ at.behind) is)

  all_emitted : resets_emitted stream (emitted_events y at.mid) ≡ resets_emitted stream (emitted_events y early)
  all_emitted =
      ap (λ (es : List (Event (List ℕ))). resets_emitted stream es)
      (ap (emitted_events y) mid_is
      ∙ (flat_map-append (emitted_events_by y) early (BecameReady y m ∷ at.behind)
      ∙ (ap (λ (es : List (Event (List ℕ))). emitted_events y early ++ es) none_behind_it ∙ append-nil (emitted_events y early))))

  after_action : its_epoch.0 ≤ resets_emitted stream (emitted_events y early)
  after_action =
      let high = from.epochs.most at.done at.rest at.turn at.split (length (ready y early)) its_epoch.0 offer.0 from_here to_there offer_of_all epoch_of_all in
      let same = counts (at.done ++ at.turn ∷ []) at.mid then in
      let emitted = all_emitted in
      omega (arith, high, same, emitted)

  pub in_its_epoch : IsInItsEpoch x early m.stream place
  in_its_epoch = record {
    epoch = its_epoch.0;
    its_own = ap (λ (ns : List ℕ). slice_get ns place) epochs_here ∙ its_epoch.1;
    least = λ before behind first is begins.
        let b = begun_before before behind first is begins in
        let grows = more_emitted before b.0 at.log b.1 in
        let low = before_action in
        omega (arith, grows, low);
    most = after_action;
  }

-- ---- in a log

pub each_in_its_epoch : (x : End) (all : List (Bool × EndAction)) (c : Pair) (from : delivery.Delivers (is_a x) all c) (log early late : List Entry) (m : Message) → IsReached c [] [] → AreBlocks all c [] log
    → log ≡ early ++ BecameReady (other x) m ∷ late → IsInItsEpoch x early m.stream (slice_index from.places (length (ready (other x) early)))
each_in_its_epoch x all c from log early late m r h is =
    in_its_epoch x all c from m early (located all c (BecameReady (other x) m) [] all [] log early late refl r h is)
