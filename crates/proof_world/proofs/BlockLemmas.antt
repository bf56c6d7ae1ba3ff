-- A world's log is made of blocks, one an action of its trace; and what holds of each beginning of it.
use Rattle.std.proofs.Common.{◌≡◌, ◌⊎◌, inl, inr, ℕ, suc, not, ◌&&◌, Bool, true, false, Some, List, [], ◌∷◌, ◌++◌, length, drop, refl, sym, ap, subst, ◌∙◌, append-nil, append_assoc}
use Rattle.std.specs.Prelude.{⊤}
use Rattle.std.specs.List.{flat_map}
use Rattle.std.proofs.lemmas.Grind.{flat_map-append}
use Rattle.sctp_serial.specs.Messages.{Message}
use Rattle.sctp_state.specs.Options.{Options}
use Rattle.sctp_rx.specs.Delivery.{Extends}
use Rattle.sctp_reassembly.proofs.ExtendsLemmas.{extends_by}
use Rattle.spec_endpoint.specs.Association.{Tcb, Phase, State, Closed, CookieWait, Open}
use Rattle.spec_endpoint.specs.Calls.{ready_in, without_first_message, opens_window, told_if, message_taken_in}
use Rattle.spec_endpoint.specs.Laws.{TakeMessage}
use Rattle.spec_endpoint.specs.Shown.{Association, association_in}
use Rattle.proof_pair.specs.Trace.{Side, Pair, EndAction, Calls, Gives, Refuses, act, goes, run, side_of, state_of}
use Rattle.proof_pair.specs.Handing.{ready_at, new_behind, handed_by, handed_at, messages_handed_out, messages_made_ready}
use Rattle.proof_delivery.specs.Accepted.{AcceptedMessage, accepted_at, accepted}
use Rattle.proof_delivery.proofs.LawLemmas.{accepted_more}
use Rattle.proof_delivery.specs.GivenUp.{given_up_at, given_up}
use Rattle.proof_delivery.specs.Justified.{reset_at}
use Rattle.proof_delivery.specs.StreamEpochs as delivery
use Rattle.proof_delivery.specs.StreamEpochs.{StreamEpoch, all_open, are_named, shut_if, shut_streams, opened_if, reopen, performed_of, emitted_at, epochs_of}
use Rattle.proof_delivery.proofs.TraceResetLemmas.{emitted_goes}
use Rattle.proof_delivery.proofs.StreamEpochLemmas.{epochs_go_on}
use Rattle.proof_refines.specs.Reachable.{delivered_ids}
use Rattle.proof_endpoint.specs.Mapped.{Carried}
use Rattle.sctp_state.specs.Events.{Event}
use Rattle.spec_world.specs.Observations as observations
use Rattle.spec_world.specs.Observations.{End, A, B, Entry, ready_by, ready, handed_out_by, handed_out}
use Rattle.proof_world.specs.Traces.{is_a}
use Rattle.proof_world.specs.Delivered.{accepted_messages_by, accepted_messages, emitted_events_by, emitted_events, reset_by, epochs_after, message_epochs, given_up_places, reported_by, reported}
use Rattle.proof_world.proofs.WorldLemmas.{given_up_places_more, numbers_of}
use Rattle.proof_world.proofs.HappenedLemmas.{bare, bare_both, bare_names}
use Rattle.proof_world.proofs.LoggedEpochLemmas.{epochs_along, along_both, epochs_both, none_offered, event_along, same_epochs, along_more}
use Rattle.proof_world.proofs.EmittingLemmas.{IsEmitted, none_new}
use Rattle.proof_world.proofs.PrefixLemmas.{none_before, none_behind, one_is_longer, no_front, split_tail}

pub same_front : {X : Type 0} (a xs ys : List X) → a ++ xs ≡ a ++ ys → xs ≡ ys
same_front [] xs ys h = h
same_front (z ∷ a) xs ys h = same_front a xs ys (split_tail z z (a ++ xs) (a ++ ys) h)

-- ---- traces, by one action more

abbrev pub readied_at : Bool → (Bool × EndAction) → Pair → List Message
readied_at x e w = new_behind (ready_at (side_of x w)) (ready_at (side_of x (goes e.0 e.1 w)))

pub readied_more : (x : Bool) (es : List (Bool × EndAction)) (e : Bool × EndAction) (w : Pair) → messages_made_ready x (es ++ e ∷ []) w ≡ messages_made_ready x es w ++ readied_at x e (run es w)
readied_more x [] e w = append-nil (readied_at x e w)
readied_more x (d ∷ es) e w =
    ap (λ (l : List Message). readied_at x d w ++ l) (readied_more x es e (goes d.0 d.1 w))
    ∙ sym (append_assoc (readied_at x d w) (messages_made_ready x es (goes d.0 d.1 w)) (readied_at x e (run es (goes d.0 d.1 w))))

pub handed_more : (x : Bool) (es : List (Bool × EndAction)) (e : Bool × EndAction) (w : Pair) → messages_handed_out x (es ++ e ∷ []) w ≡ messages_handed_out x es w ++ handed_at x e.0 e.1 (run es w)
handed_more x [] e w = append-nil (handed_at x e.0 e.1 w)
handed_more x (d ∷ es) e w =
    ap (λ (l : List Message). handed_at x d.0 d.1 w ++ l) (handed_more x es e (goes d.0 d.1 w))
    ∙ sym (append_assoc (handed_at x d.0 d.1 w) (messages_handed_out x es (goes d.0 d.1 w)) (handed_at x e.0 e.1 (run es (goes d.0 d.1 w))))

pub given_up_more : (x : Bool) (es : List (Bool × EndAction)) (e : Bool × EndAction) (w : Pair) → given_up x (es ++ e ∷ []) w ≡ given_up x es w ++ given_up_at x e.0 e.1 (run es w)
given_up_more x [] e w = append-nil (given_up_at x e.0 e.1 w)
given_up_more x (d ∷ es) e w =
    ap (λ (l : List ℕ). given_up_at x d.0 d.1 w ++ l) (given_up_more x es e (goes d.0 d.1 w))
    ∙ sym (append_assoc (given_up_at x d.0 d.1 w) (given_up x es (goes d.0 d.1 w)) (given_up_at x e.0 e.1 (run es (goes d.0 d.1 w))))

pub run_more : (es : List (Bool × EndAction)) (e : Bool × EndAction) (w : Pair) → run (es ++ e ∷ []) w ≡ goes e.0 e.1 (run es w)
run_more [] e w = refl
run_more (d ∷ es) e w = run_more es e (goes d.0 d.1 w)

-- ---- blocks

abbrev pub end_at : Bool → End
end_at true = A
end_at false = B

-- this action's entries stand between
abbrev pub IsBlock : (Bool × EndAction) → Pair → (log longer : List Entry) → Type 0
IsBlock e c log longer = IsEmitted (end_at e.0) e.1 (side_of e.0 c) (side_of (not e.0) c) (side_of e.0 (goes e.0 e.1 c)) log longer

abbrev pub AreBlocks : List (Bool × EndAction) → Pair → (log longer : List Entry) → Type 0
AreBlocks [] c log longer = longer ≡ log
AreBlocks (e ∷ es) c log longer = (mid : List Entry) × IsBlock e c log mid × AreBlocks es (goes e.0 e.1 c) mid longer

-- an association that stands is not replaced
abbrev pub StandsAt : Bool → (Bool × EndAction) → Pair → Type 0
StandsAt x e c = (a : Association) → association_in (state_of (side_of x c)) ≡ Some a → association_in (state_of (side_of x (goes e.0 e.1 c))) ≡ Some a

abbrev pub Stands : List (Bool × EndAction) → Pair → Type 0
Stands [] c = ⊤
Stands (e ∷ es) c = StandsAt e.0 e c × Stands es (goes e.0 e.1 c)

pub blocks_longer : (es : List (Bool × EndAction)) (c : Pair) (log longer : List Entry) → AreBlocks es c log longer → (more : List Entry) × (longer ≡ log ++ more)
blocks_longer [] c log longer h = ([], h ∙ sym (append-nil log))
blocks_longer (e ∷ es) c log longer h =
    let l = blocks_longer es (goes e.0 e.1 c) h.0 longer h.2 in
    ((h.1.first ∷ h.1.more) ++ l.0, l.1 ∙ (ap (λ (z : List Entry). z ++ l.0) h.1.logged ∙ append_assoc log (h.1.first ∷ h.1.more) l.0))

-- ---- what a block adds

more_of : {X : Type 0} (f : Entry → List X) (log longer : List Entry) (b : List Entry) (xs : List X) → longer ≡ log ++ b → flat_map f b ≡ xs
    → flat_map f longer ≡ flat_map f log ++ xs
more_of f log longer b xs e h = ap (flat_map f) e ∙ (flat_map-append f log b ∙ ap (λ z. flat_map f log ++ z) h)

module _ (e : Bool × EndAction) (c : Pair) (log mid : List Entry) (b : IsBlock e c log mid) where
  abbrev block : List Entry
  block = b.first ∷ b.more

  offers_block : (x : End) → accepted_messages_by x b.first ≡ accepted_at (is_a x) e.0 e.1 c → accepted_messages x mid ≡ accepted_messages x log ++ accepted_at (is_a x) e.0 e.1 c
  offers_block x h =
      more_of (accepted_messages_by x) log mid block (accepted_at (is_a x) e.0 e.1 c) b.logged
      (ap (λ (z : List AcceptedMessage). z ++ flat_map (accepted_messages_by x) b.more) h
      ∙ (ap (λ (z : List AcceptedMessage). accepted_at (is_a x) e.0 e.1 c ++ z) (b.quiet x) ∙ append-nil (accepted_at (is_a x) e.0 e.1 c)))

first_offers : (x : End) (e : Bool × EndAction) (c : Pair) (log mid : List Entry) (b : IsBlock e c log mid) → accepted_messages_by x b.first ≡ accepted_at (is_a x) e.0 e.1 c
first_offers A (true, t) c log mid b = b.offers
first_offers B (true, t) c log mid b = b.no_offers
first_offers A (false, t) c log mid b = b.no_offers
first_offers B (false, t) c log mid b = b.offers

block_ready : (x : End) (e : Bool × EndAction) (c : Pair) (log mid : List Entry) (b : IsBlock e c log mid) → flat_map (ready_by x) (b.first ∷ b.more) ≡ readied_at (is_a x) e c
block_ready A (true, t) c log mid b = b.ready
block_ready B (true, t) c log mid b = b.none_ready ∙ sym (none_new (ready_at c.b))
block_ready A (false, t) c log mid b = b.none_ready ∙ sym (none_new (ready_at c.a))
block_ready B (false, t) c log mid b = b.ready

block_handed : (x : End) (e : Bool × EndAction) (c : Pair) (log mid : List Entry) (b : IsBlock e c log mid) → flat_map (handed_out_by x) (b.first ∷ b.more) ≡ handed_at (is_a x) e.0 e.1 c
block_handed A (true, t) c log mid b = b.handed
block_handed B (true, t) c log mid b = b.none_handed
block_handed A (false, t) c log mid b = b.none_handed
block_handed B (false, t) c log mid b = b.handed

offers_action : (x : End) (e : Bool × EndAction) (c : Pair) (log mid : List Entry) → IsBlock e c log mid → accepted_messages x mid ≡ accepted_messages x log ++ accepted_at (is_a x) e.0 e.1 c
offers_action x e c log mid b = offers_block e c log mid b x (first_offers x e c log mid b)

ready_action : (x : End) (e : Bool × EndAction) (c : Pair) (log mid : List Entry) → IsBlock e c log mid → ready x mid ≡ ready x log ++ readied_at (is_a x) e c
ready_action x e c log mid b = more_of (ready_by x) log mid (b.first ∷ b.more) (readied_at (is_a x) e c) b.logged (block_ready x e c log mid b)

handed_action : (x : End) (e : Bool × EndAction) (c : Pair) (log mid : List Entry) → IsBlock e c log mid → handed_out x mid ≡ handed_out x log ++ handed_at (is_a x) e.0 e.1 c
handed_action x e c log mid b = more_of (handed_out_by x) log mid (b.first ∷ b.more) (handed_at (is_a x) e.0 e.1 c) b.logged (block_handed x e c log mid b)

none_more : (x : End) (log longer b : List Entry) → longer ≡ log ++ b → observations.given_up x b ≡ [] → given_up_places x longer ≡ given_up_places x log ++ []
none_more x log longer b e h = given_up_places_more x log longer b [] e (numbers_of (observations.given_up x b) [] h)

given_up_action : (x : End) (e : Bool × EndAction) (c : Pair) (log mid : List Entry) → IsBlock e c log mid → given_up_places x mid ≡ given_up_places x log ++ given_up_at (is_a x) e.0 e.1 c
given_up_action A (true, t) c log mid b = b.gave_up
given_up_action B (true, t) c log mid b = none_more B log mid (b.first ∷ b.more) b.logged b.none_given_up
given_up_action A (false, t) c log mid b = none_more A log mid (b.first ∷ b.more) b.logged b.none_given_up
given_up_action B (false, t) c log mid b = b.gave_up

-- where it was so before
abbrev AreReported : End → List Entry → Pair → Type 0
AreReported x log c = reported x log ≡ delivered_ids (side_of (is_a x) c).emitted

reported_action : (x : End) (e : Bool × EndAction) (c : Pair) (log mid : List Entry) → IsBlock e c log mid → AreReported x log c → AreReported x mid (goes e.0 e.1 c)
reported_action A (true, t) c log mid b h = b.reports
reported_action B (true, t) c log mid b h = more_of (reported_by B) log mid (b.first ∷ b.more) [] b.logged b.none_reported ∙ (append-nil (reported B log) ∙ h)
reported_action A (false, t) c log mid b h = more_of (reported_by A) log mid (b.first ∷ b.more) [] b.logged b.none_reported ∙ (append-nil (reported A log) ∙ h)
reported_action B (false, t) c log mid b h = b.reports

first_resets : (x : End) (e : Bool × EndAction) (c : Pair) (log mid : List Entry) (b : IsBlock e c log mid) → reset_by x b.first ≡ reset_at (is_a x) e.0 e.1 c
first_resets A (true, t) c log mid b = b.resets
first_resets B (true, t) c log mid b = b.no_resets
first_resets A (false, t) c log mid b = b.no_resets
first_resets B (false, t) c log mid b = b.resets

abbrev AreEmitted : End → List Entry → Pair → Type 0
AreEmitted x log c = emitted_events x log ≡ bare (side_of (is_a x) c).emitted

emitted_action : (x : End) (e : Bool × EndAction) (c : Pair) (log mid : List Entry) → IsBlock e c log mid → AreEmitted x log c → AreEmitted x mid (goes e.0 e.1 c)
emitted_action A (true, t) c log mid b h = b.emits
emitted_action B (true, t) c log mid b h = more_of (emitted_events_by B) log mid (b.first ∷ b.more) [] b.logged b.emits_none ∙ (append-nil (emitted_events B log) ∙ h)
emitted_action A (false, t) c log mid b h = more_of (emitted_events_by A) log mid (b.first ∷ b.more) [] b.logged b.emits_none ∙ (append-nil (emitted_events A log) ∙ h)
emitted_action B (false, t) c log mid b h = b.emits

-- what it emits
block_emitted : (x : End) (e : Bool × EndAction) (c : Pair) (log mid : List Entry) (b : IsBlock e c log mid) → AreEmitted x log c
    → emitted_events x (b.first ∷ b.more) ≡ bare (emitted_at (is_a x) e.0 e.1 c)
block_emitted x e c log mid b h =
    same_front (bare (side_of (is_a x) c).emitted) (emitted_events x (b.first ∷ b.more)) (bare (emitted_at (is_a x) e.0 e.1 c))
    (ap (λ (es : List (Event (List ℕ))). es ++ emitted_events x (b.first ∷ b.more)) (sym h)
    ∙ (sym (flat_map-append (emitted_events_by x) log (b.first ∷ b.more))
    ∙ (ap (emitted_events x) (sym b.logged)
    ∙ (emitted_action x e c log mid b h
    ∙ (ap (λ (es : List (Event Carried)). bare es) (emitted_goes (is_a x) e.0 e.1 c) ∙ bare_both (side_of (is_a x) c).emitted (emitted_at (is_a x) e.0 e.1 c))))))

-- ---- epochs

-- as in the trace
pub record HasEpochs (x : End) (log : List Entry) (done : List (Bool × EndAction)) (c : Pair) : Type 0 where
  pub epochs : message_epochs x log all_open ≡ delivery.message_epochs (is_a x) done c all_open
  pub streams : (s : ℕ) → epochs_along x log all_open s ≡ delivery.epochs_along (is_a x) done c all_open s

epochs_action : (x : End) (done : List (Bool × EndAction)) (e : Bool × EndAction) (c : Pair) (log mid : List Entry) → IsBlock e (run done c) log mid → AreEmitted x log (run done c)
    → HasEpochs x log done c → HasEpochs x mid (done ++ e ∷ []) c
epochs_action x done e c log mid b emitted h =
    let d : Pair = run done c in
    let here : ℕ → StreamEpoch = epochs_along x log all_open in
    let there : ℕ → StreamEpoch = delivery.epochs_along (is_a x) done c all_open in
    let new : List AcceptedMessage = accepted_at (is_a x) e.0 e.1 d in
    record {
      epochs =
          ap (λ (l : List Entry). message_epochs x l all_open) b.logged
          ∙ (epochs_both x log (b.first ∷ b.more) all_open
          ∙ (ap (λ (ns : List ℕ). message_epochs x log all_open ++ (epochs_of (accepted_messages_by x b.first) here ++ ns)) (none_offered x b.more (epochs_after x b.first here) (b.quiet x))
          ∙ (ap (λ (os : List AcceptedMessage). message_epochs x log all_open ++ (epochs_of os here ++ [])) (first_offers x e d log mid b)
          ∙ (ap (λ (ns : List ℕ). message_epochs x log all_open ++ (ns ++ [])) (same_epochs new here there h.streams)
          ∙ (ap (λ (ns : List ℕ). ns ++ (epochs_of new there ++ [])) h.epochs ∙ sym (epochs_go_on (is_a x) done (e ∷ []) c all_open))))));
      streams = λ s.
          ap (λ (l : List Entry). epochs_along x l all_open s) b.logged
          ∙ (ap (λ (f : ℕ → StreamEpoch). f s) (along_both x log (b.first ∷ b.more) all_open)
          ∙ (event_along x b.first b.more here s (b.resets_nothing x)
          ∙ (ap (λ (ids : List ℕ). reopen ids (shut_streams (reset_by x b.first) here) s) (ap (λ (es : List (Event (List ℕ))). performed_of es) (block_emitted x e d log mid b emitted) ∙ bare_names (emitted_at (is_a x) e.0 e.1 d))
          ∙ (ap (λ (ids : List ℕ). reopen (performed_of (emitted_at (is_a x) e.0 e.1 d)) (shut_streams ids here) s) (first_resets x e d log mid b)
          ∙ (ap (λ (z : StreamEpoch). opened_if (are_named (performed_of (emitted_at (is_a x) e.0 e.1 d)) s) (shut_if (are_named (reset_at (is_a x) e.0 e.1 d) s && z.is_open) z)) (h.streams s)
          ∙ sym (along_more (is_a x) done e c all_open s))))));
    }

-- ---- whole runs

joins : {X : Type 0} (last mid log rest new : List X) → last ≡ mid ++ rest → mid ≡ log ++ new → last ≡ log ++ (new ++ rest)
joins {X} last mid log rest new e f = e ∙ (ap (λ (l : List X). l ++ rest) f ∙ append_assoc log new rest)

pub offers_run : (x : End) (es : List (Bool × EndAction)) (c : Pair) (log longer : List Entry) → AreBlocks es c log longer → accepted_messages x longer ≡ accepted_messages x log ++ accepted (is_a x) es c
offers_run x [] c log longer h = ap (accepted_messages x) h ∙ sym (append-nil (accepted_messages x log))
offers_run x (e ∷ es) c log longer h =
    joins (accepted_messages x longer) (accepted_messages x h.0) (accepted_messages x log) (accepted (is_a x) es (goes e.0 e.1 c)) (accepted_at (is_a x) e.0 e.1 c)
    (offers_run x es (goes e.0 e.1 c) h.0 longer h.2) (offers_action x e c log h.0 h.1)

pub ready_run : (x : End) (es : List (Bool × EndAction)) (c : Pair) (log longer : List Entry) → AreBlocks es c log longer → ready x longer ≡ ready x log ++ messages_made_ready (is_a x) es c
ready_run x [] c log longer h = ap (ready x) h ∙ sym (append-nil (ready x log))
ready_run x (e ∷ es) c log longer h =
    joins (ready x longer) (ready x h.0) (ready x log) (messages_made_ready (is_a x) es (goes e.0 e.1 c)) (readied_at (is_a x) e c)
    (ready_run x es (goes e.0 e.1 c) h.0 longer h.2) (ready_action x e c log h.0 h.1)

pub handed_run : (x : End) (es : List (Bool × EndAction)) (c : Pair) (log longer : List Entry) → AreBlocks es c log longer → handed_out x longer ≡ handed_out x log ++ messages_handed_out (is_a x) es c
handed_run x [] c log longer h = ap (handed_out x) h ∙ sym (append-nil (handed_out x log))
handed_run x (e ∷ es) c log longer h =
    joins (handed_out x longer) (handed_out x h.0) (handed_out x log) (messages_handed_out (is_a x) es (goes e.0 e.1 c)) (handed_at (is_a x) e.0 e.1 c)
    (handed_run x es (goes e.0 e.1 c) h.0 longer h.2) (handed_action x e c log h.0 h.1)

-- ---- each beginning of the log

-- so many actions have been
pub record IsReached (c : Pair) (done : List (Bool × EndAction)) (log : List Entry) : Type 0 where
  pub offers_are : (x : End) → accepted_messages x log ≡ accepted (is_a x) done c
  pub ready_are : (x : End) → ready x log ≡ messages_made_ready (is_a x) done c
  pub handed_are : (x : End) → handed_out x log ≡ messages_handed_out (is_a x) done c
  pub given_up_are : (x : End) → given_up_places x log ≡ given_up (is_a x) done c
  pub reported_are : (x : End) → reported x log ≡ delivered_ids (side_of (is_a x) (run done c)).emitted
  pub emitted_are : (x : End) → AreEmitted x log (run done c)
  pub epochs_are : (x : End) → HasEpochs x log done c

-- nothing was emitted yet
pub nothing_yet : (c : Pair) → ((x : Bool) → (side_of x c).emitted ≡ []) → IsReached c [] []
nothing_yet c none = record {
  offers_are = λ x. refl;
  ready_are = λ x. refl;
  handed_are = λ x. refl;
  given_up_are = λ x. refl;
  reported_are = λ x. sym (ap (λ (es : List (Event Carried)). delivered_ids es) (none (is_a x)));
  emitted_are = λ x. sym (ap (λ (es : List (Event Carried)). bare es) (none (is_a x)));
  epochs_are = λ x. record { epochs = refl; streams = λ s. refl };
}

pub reached_more : (c : Pair) (done : List (Bool × EndAction)) (e : Bool × EndAction) (log mid : List Entry) → IsReached c done log → IsBlock e (run done c) log mid → IsReached c (done ++ e ∷ []) mid
reached_more c done e log mid r b = record {
  offers_are = λ x. offers_action x e (run done c) log mid b ∙ (ap (λ (z : List AcceptedMessage). z ++ accepted_at (is_a x) e.0 e.1 (run done c)) (r.offers_are x) ∙ sym (accepted_more (is_a x) done e c));
  ready_are = λ x. ready_action x e (run done c) log mid b ∙ (ap (λ (z : List Message). z ++ readied_at (is_a x) e (run done c)) (r.ready_are x) ∙ sym (readied_more (is_a x) done e c));
  handed_are = λ x. handed_action x e (run done c) log mid b ∙ (ap (λ (z : List Message). z ++ handed_at (is_a x) e.0 e.1 (run done c)) (r.handed_are x) ∙ sym (handed_more (is_a x) done e c));
  given_up_are = λ x. given_up_action x e (run done c) log mid b ∙ (ap (λ (z : List ℕ). z ++ given_up_at (is_a x) e.0 e.1 (run done c)) (r.given_up_are x) ∙ sym (given_up_more (is_a x) done e c));
  reported_are = λ x. reported_action x e (run done c) log mid b (r.reported_are x) ∙ sym (ap (λ (z : Pair). delivered_ids (side_of (is_a x) z).emitted) (run_more done e c));
  emitted_are = λ x. emitted_action x e (run done c) log mid b (r.emitted_are x) ∙ sym (ap (λ (z : Pair). bare (side_of (is_a x) z).emitted) (run_more done e c));
  epochs_are = λ x. epochs_action x done e c log mid b (r.emitted_are x) (r.epochs_are x);
}

-- What holds after each action, and within each block where it holds before and behind it, holds of each beginning.
module _ (all : List (Bool × EndAction)) (c : Pair) (P : List Entry → Type 0)
    (at_turn : (done rest : List (Bool × EndAction)) (log : List Entry) → all ≡ done ++ rest → IsReached c done log → P log)
    (within : (done rest : List (Bool × EndAction)) (e : Bool × EndAction) (log mid front behind : List Entry) → all ≡ done ++ e ∷ rest → IsReached c done log
    → (b : IsBlock e (run done c) log mid) → b.more ≡ front ++ behind → P log → P mid → P (log ++ b.first ∷ front)) where
  pub at_each : (done rest : List (Bool × EndAction)) (log longer early late : List Entry) → all ≡ done ++ rest → IsReached c done log → AreBlocks rest (run done c) log longer
      → longer ≡ (log ++ early) ++ late → P (log ++ early)
  at_each done rest log longer [] late e r h is = subst P (sym (append-nil log)) (at_turn done rest log e r)
  at_each done [] log longer (k ∷ early) late e r h is = absurd (not_longer log (k ∷ early) late (sym h ∙ is) refl)
    where
      same_behind : (a b : List Entry) → a ≡ a ++ b → b ≡ []
      same_behind [] b h = sym h
      same_behind (z ∷ a) b h = same_behind a b (ap (λ (l : List Entry). elim l [ [] ↦ a | y ∷ ys ↦ ys ]) h)

      not_longer : (a b d : List Entry) → a ≡ (a ++ b) ++ d → {k : Entry} {bs : List Entry} → b ≡ k ∷ bs → ⊥
      not_longer a b d h {k} {bs} f = let z : b ≡ [] = no_front b d [] (same_behind a (b ++ d) (h ∙ append_assoc a b d)) refl in cc
  at_each done (t ∷ rest) log longer (k ∷ early) late e r h is =
      let d : Pair = run done c in
      let mid : List Entry = h.0 in
      let b : IsBlock t d log mid = h.1 in
      let l = blocks_longer rest (goes t.0 t.1 d) mid longer h.2 in
      let next : IsReached c (done ++ t ∷ []) mid = reached_more c done t log mid r b in
      let split : all ≡ (done ++ t ∷ []) ++ rest = e ∙ sym (append_assoc done (t ∷ []) rest) in
      let here : (b.first ∷ b.more) ++ l.0 ≡ (k ∷ early) ++ late =
      same_front log ((b.first ∷ b.more) ++ l.0) ((k ∷ early) ++ late)
      (sym (append_assoc log (b.first ∷ b.more) l.0) ∙ (ap (λ (z : List Entry). z ++ l.0) (sym b.logged) ∙ (sym l.1 ∙ (is ∙ append_assoc log (k ∷ early) late)))) in
      elim (one_is_longer (b.first ∷ b.more) l.0 (k ∷ early) late here) [
        | inl m ↦
            let whole : log ++ k ∷ early ≡ mid ++ m.between =
            ap (λ (z : List Entry). log ++ z) m.made ∙ (sym (append_assoc log (b.first ∷ b.more) m.between) ∙ ap (λ (z : List Entry). z ++ m.between) (sym b.logged)) in
            subst P (sym whole)
            (at_each (done ++ t ∷ []) rest mid longer m.between late split next
            (subst (λ (z : Pair). AreBlocks rest z mid longer) (sym (run_more done t c)) h.2) (is ∙ ap (λ (z : List Entry). z ++ late) whole))
        | inr m ↦
            let same : b.first ≡ k = ap (λ (z : List Entry). elim z [ [] ↦ k | y ∷ ys ↦ y ]) m.made in
            let more : b.more ≡ early ++ m.between = ap (λ (z : List Entry). elim z [ [] ↦ b.more | y ∷ ys ↦ ys ]) m.made in
            subst (λ (z : Entry). P (log ++ z ∷ early)) same
            (within done rest t log mid early m.between e r b more (at_turn done (t ∷ rest) log e r) (at_turn (done ++ t ∷ []) rest mid split next))
      ]

-- ---- what is read off a beginning that ends within a block

module _ (e : Bool × EndAction) (d : Pair) (log mid front behind : List Entry) (b : IsBlock e d log mid) (split : b.more ≡ front ++ behind) where
  abbrev early : List Entry
  early = log ++ b.first ∷ front

  pub whole : mid ≡ early ++ behind
  whole = b.logged ∙ (ap (λ (z : List Entry). log ++ b.first ∷ z) split ∙ sym (append_assoc log (b.first ∷ front) behind))

  -- where the block says nothing
  pub none_said : {X : Type 0} (f : Entry → List X) → flat_map f (b.first ∷ b.more) ≡ [] → (flat_map f early ≡ flat_map f log) × (flat_map f mid ≡ flat_map f early)
  none_said {X} f quiet =
      let both : flat_map f (b.first ∷ front) ++ flat_map f behind ≡ [] =
      sym (flat_map-append f (b.first ∷ front) behind) ∙ (sym (ap (λ (l : List Entry). flat_map f (b.first ∷ l)) split) ∙ quiet) in (
        flat_map-append f log (b.first ∷ front)
            ∙ (ap (λ (z : List X). flat_map f log ++ z) (none_before (flat_map f (b.first ∷ front)) (flat_map f behind) both) ∙ append-nil (flat_map f log)),
        ap (flat_map f) whole
            ∙ (flat_map-append f early behind
            ∙ (ap (λ (z : List X). flat_map f early ++ z) (none_behind (flat_map f (b.first ∷ front)) (flat_map f behind) both) ∙ append-nil (flat_map f early))),
      )

  -- what stands in the first entry alone
  pub all_first : {X : Type 0} (f : Entry → List X) → flat_map f b.more ≡ [] → flat_map f mid ≡ flat_map f early
  all_first {X} f quiet =
      let none : flat_map f behind ≡ [] = none_behind (flat_map f front) (flat_map f behind) (sym (flat_map-append f front behind) ∙ (sym (ap (flat_map f) split) ∙ quiet)) in
      ap (flat_map f) whole ∙ (flat_map-append f early behind ∙ (ap (λ (z : List X). flat_map f early ++ z) none ∙ append-nil (flat_map f early)))

  pub ready_split : (y : End) → ready y mid ≡ ready y early ++ ready y behind
  ready_split y = ap (ready y) whole ∙ flat_map-append (ready_by y) early behind

  pub ready_before : (y : End) → ready y early ≡ ready y log ++ ready y (b.first ∷ front)
  ready_before y = flat_map-append (ready_by y) log (b.first ∷ front)

-- ---- what was handed out is the beginning of what became ready

extends_more : (before after more longer : List Message) → Extends before after → longer ≡ after ++ more → Extends before longer
extends_more before after more longer h e =
    extends_by before longer (h.more ++ more) (e ∙ (ap (λ (l : List Message). l ++ more) h.made ∙ append_assoc before h.more more))

none_dropped : (ms : List Message) → new_behind ms (drop 1 ms) ≡ []
none_dropped [] = refl
none_dropped (m ∷ ms) = go ms
  where
    go : (ms : List Message) → drop (suc (length ms)) ms ≡ []
    go [] = refl
    go (z ∷ zs) = go zs

told_none : (b : Bool) (phase : Phase) (t : Tcb) → new_behind t.reassembly.ready (ready_in (Open phase (told_if b (without_first_message t)))) ≡ []
told_none true phase t = none_dropped t.reassembly.ready
told_none false phase t = none_dropped t.reassembly.ready

taken_none : (o : Options) (s : State) → new_behind (ready_in s) (ready_in (message_taken_in o s)) ≡ []
taken_none o Closed = refl
taken_none o (CookieWait tag first t1) = refl
taken_none o (Open phase t) = told_none (opens_window o t.reassembly (without_first_message t).reassembly) phase t

-- an action hands out nothing, or nothing becomes ready at it
one_or_none : (t : EndAction) (own beside : Side) → (handed_by t own ≡ []) ⊎ (new_behind (ready_at own) (ready_at (act t own beside)) ≡ [])
one_or_none (Calls TakeMessage) own beside = inr (taken_none own.end.endpoint_state.context.options (state_of own))
one_or_none (Calls call) own beside = inl refl
one_or_none (Gives which checksum) own beside = inl refl
one_or_none (Refuses p) own beside = inl refl

hands_or_readies : (x : Bool) (e : Bool × EndAction) (c : Pair) → (handed_at x e.0 e.1 c ≡ []) ⊎ (readied_at x e c ≡ [])
hands_or_readies true (true, t) c = one_or_none t c.a c.b
hands_or_readies false (false, t) c = one_or_none t c.b c.a
hands_or_readies true (false, t) c = inl refl
hands_or_readies false (true, t) c = inl refl

module _ (x : End) (all : List (Bool × EndAction)) (c : Pair)
    (prefix : (early late : List (Bool × EndAction)) → all ≡ early ++ late → Extends (messages_handed_out (is_a x) early c) (messages_made_ready (is_a x) early c)) where
  abbrev IsPrefix : List Entry → Type 0
  IsPrefix early = Extends (handed_out x early) (ready x early)

  prefix_action : (done rest : List (Bool × EndAction)) (log : List Entry) → all ≡ done ++ rest → IsReached c done log → IsPrefix log
  prefix_action done rest log e r =
      subst (λ (l : List Message). Extends l (ready x log)) (sym (r.handed_are x))
      (subst (λ (l : List Message). Extends (messages_handed_out (is_a x) done c) l) (sym (r.ready_are x)) (prefix done rest e))

  prefix_within : (e : Bool × EndAction) (d : Pair) (log mid front behind : List Entry) (b : IsBlock e d log mid) → b.more ≡ front ++ behind → IsPrefix log → IsPrefix mid
      → IsPrefix (log ++ b.first ∷ front)
  prefix_within e d log mid front behind b split before after =
      let early : List Entry = log ++ b.first ∷ front in
      let hands : handed_out x mid ≡ handed_out x early = all_first e d log mid front behind b split (handed_out_by x) (b.hands_nothing x) in
      elim (hands_or_readies (is_a x) e d) [
        | inl none ↦
            let same : handed_out x mid ≡ handed_out x log = handed_action x e d log mid b ∙ (ap (λ (l : List Message). handed_out x log ++ l) none ∙ append-nil (handed_out x log)) in
            subst (λ (l : List Message). Extends l (ready x early)) (sym same ∙ hands)
            (extends_more (handed_out x log) (ready x log) (ready x (b.first ∷ front)) (ready x early) before (ready_before e d log mid front behind b split x))
        | inr none ↦
            let nothing : ready x (b.first ∷ front) ++ ready x behind ≡ [] =
            sym (flat_map-append (ready_by x) (b.first ∷ front) behind)
            ∙ (sym (ap (λ (l : List Entry). ready x (b.first ∷ l)) split) ∙ (block_ready x e d log mid b ∙ none)) in
            let last : ready x behind ≡ [] = none_behind (ready x (b.first ∷ front)) (ready x behind) nothing in
            let same : ready x mid ≡ ready x early =
            ready_split e d log mid front behind b split x ∙ (ap (λ (l : List Message). ready x early ++ l) last ∙ append-nil (ready x early)) in
            subst (λ (l : List Message). Extends l (ready x early)) hands (subst (λ (l : List Message). Extends (handed_out x mid) l) same after)
      ]

  pub prefix_each : (log early late : List Entry) → IsReached c [] [] → AreBlocks all c [] log → log ≡ early ++ late → IsPrefix early
  prefix_each log early late r h is =
      at_each all c IsPrefix prefix_action (λ done rest e l mid front behind s before_it b split before after. prefix_within e (run done c) l mid front behind b split before after)
      [] all [] log early late refl r h is
