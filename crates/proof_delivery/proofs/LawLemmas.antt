-- What becomes ready at an end are messages that the other end accepted.
use Rattle.std.proofs.Common.{◌≡◌, ℕ, ◌^◌, ◌<◌, not, Bool, true, false, Option, Some, List, [], ◌∷◌, ◌++◌, length, take, slice_get, slice_index, refl, sym, ap, subst, ◌∙◌, append-nil, append_assoc, arith}
use Rattle.rand_core.specs.Stream.{Stream}
use Rattle.sctp_state.specs.Options.{Options}
use Rattle.sctp_capabilities.specs.Capabilities.{agreed}
use Rattle.proof_protocol.specs.State.{Message}
use Rattle.proof_protocol.specs.Resets.{first_epoch}
use Rattle.proof_protocol.proofs.BasedLemmas.{epochs_at_first}
use Rattle.proof_refines.proofs.RowLemmas.{first_receives}
use Rattle.proof_refines.proofs.NearRowLemmas.{new_is_near}
use Rattle.proof_refines.proofs.NearKeptLemmas.{new_mids}
use Rattle.proof_refines.proofs.StartLemmas.{new_shows}
use Rattle.proof_refines.proofs.FollowLemmas.{beginning_follows}
use Rattle.sctp_tx_outstanding.specs.OutstandingData.{no_items}
use Rattle.sctp_state.specs.Events.{Event}
use Rattle.proof_endpoint.specs.Mapped.{Carried}
use Rattle.spec_endpoint.specs.Laws.{ReceiveNoPacket, endings}
use Rattle.proof_pair.specs.Trace.{side_of, Pair, EndAction, goes, run, MayAct, KeepsRules, NoAssociationHasEnded, AreValidOptions, new_side}
use Rattle.proof_pair.specs.Trace as traces
use Rattle.proof_pair.specs.Handing.{messages_made_ready}
use Rattle.proof_pair.proofs.TraceLemmas.{run_consistent, follows_front}
use Rattle.proof_pair.proofs.HandingLemmas.{first_halves, nothing_ready}
use Rattle.proof_delivery.specs.Accepted.{AcceptedMessage, accepted_in, accepted_at, accepted}
use Rattle.proof_delivery.specs.Windows.{Stamp, Stamps, no_stamps, stamps_after, AreWithin, KeepsWindows, KeepsLimits}
use Rattle.proof_delivery.specs.Asks.{AreRequested}
use Rattle.proof_delivery.specs.Answered.{none_asked, KeepsResets}
use Rattle.proof_delivery.specs.StreamEpochs.{all_open, message_epochs, emitted_along, failed_in}
use Rattle.proof_delivery.specs.GivenUp.{emitted_by, given_up}
use Rattle.proof_delivery.specs.Delivery.{ReportsAreTrue, Delivers, MessagesAreDelivered, NoResetIsRefused}
use Rattle.proof_delivery.specs.Ending.{stamps_along, MessagesAreDeliveredThen}
use Rattle.proof_delivery.proofs.FilledLemmas.{filled_new}
use Rattle.proof_delivery.proofs.LimitLemmas.{all_accepted_short}
use Rattle.proof_delivery.proofs.ClaimLemmas.{Direction}
use Rattle.proof_delivery.proofs.SenderKeepsLemmas.{sender_keeps}
use Rattle.proof_delivery.proofs.ReceiverKeepsLemmas.{receiver_keeps}
use Rattle.proof_delivery.proofs.DirectionLemmas.{Flows}
use Rattle.proof_delivery.proofs.AccountLemmas.{Accounted}
use Rattle.proof_delivery.proofs.SenderActionLemmas.{PreservedByActs}
use Rattle.proof_delivery.proofs.TakenLemmas.{sends_taken, receives_in_taken}
use Rattle.proof_delivery.proofs.OfferedLemmas.{offered_out, offered_in}
use Rattle.proof_delivery.proofs.BesideLemmas.{stays}
use Rattle.proof_delivery.proofs.FitsLemmas.{message_of, lifecycle_of, all_short, get_behind}
use Rattle.proof_delivery.proofs.DeliveryLemmas.{AreSilent, silent_goes, of_end, so_far, FlowsFrom, DeliversOn, delivers_on, EmitsThen, emits_then}

-- ---- at first nothing was accepted, and nothing came

-- no stream was reset, and none was asked for
abbrev first : Direction
first = record { rules = first_epoch; asks = []; done = 0; answered = 0 }

none_asks : AreRequested first_epoch [] 0 0
none_asks = record {
  opened = λ s. refl;
  performed = λ s. refl;
  fine = λ j a h. cc;
  sent = λ j a h. cc;
  order = (omega arith, omega arith, omega arith);
}

first_flows : (message : ℕ → Message) (lifecycle : ℕ → Option ℕ) (is_interleaved : Bool) (of : Stamp → ℕ) (short : (p : ℕ) → length (message p).payload < 2 ^ 32) (o q : Options) (draws others : Stream)
    → Flows message lifecycle is_interleaved of (new_side o draws) (new_side q others) 0 [] [] [] (record { streams = all_open; epochs = []; asked = 0 }) first
first_flows message lifecycle is_interleaved of short o q draws others = record {
  kept = record { epochs = epochs_at_first message is_interleaved; asked = none_asks };
  filled = filled_new message 0;
  short = short;
  sends = record {
    sender = refl;
    acknowledged = refl;
    no_points = refl;
    no_reports = refl;
    none_reset = beginning_follows.none;
    none_asked = refl;
    refines = new_shows message lifecycle o;
    follows = beginning_follows.new o (no_items false false);
  };
  refines = record {
    none_handed = refl;
    no_sacks = refl;
    none_done = refl;
    refines = λ options size most. first_receives message is_interleaved 0 options size most;
    near = λ first size most. record { tsns = new_is_near is_interleaved first 0 size most; mids = λ m. new_mids message is_interleaved size most; start = λ e. refl };
  };
  accepted_is = refl;
  out = tt;
  answers = tt;
  streams = λ s. (refl, (λ h. refl), λ h. cc);
  many = refl;
  epochs = λ p n h. cc;
  asked = λ a h. cc;
  answered = refl;
  performed = λ k. refl;
  none_failed = refl;
}

at_first : (message : ℕ → Message) (lifecycle : ℕ → Option ℕ) (is_interleaved from_a : Bool) (short : (p : ℕ) → length (message p).payload < 2 ^ 32) (a b : Options) (draws_a draws_b : Stream)
    → FlowsFrom message lifecycle is_interleaved from_a (traces.start a b draws_a draws_b) no_stamps 0 [] (so_far from_a all_open [] none_asked) first
at_first message lifecycle is_interleaved true short a b draws_a draws_b = first_flows message lifecycle is_interleaved (of_end true) short a b draws_a draws_b
at_first message lifecycle is_interleaved false short a b draws_a draws_b = first_flows message lifecycle is_interleaved (of_end false) short b a draws_b draws_a

-- nor was anything emitted
accounted_first : (lifecycle : ℕ → Option ℕ) (from_a : Bool) (a b : Options) (draws_a draws_b : Stream)
    → Accounted lifecycle (side_of from_a (traces.start a b draws_a draws_b)) [] first
accounted_first lifecycle true a b draws_a draws_b = record { given_up_is = λ p. refl; once = refl; emitted_is = refl }
accounted_first lifecycle false a b draws_a draws_b = record { given_up_is = λ p. refl; once = refl; emitted_is = refl }

-- ---- what each act preserves

all_parts : (message : ℕ → Message) (lifecycle : ℕ → Option ℕ) (is_interleaved : Bool) → PreservedByActs message lifecycle is_interleaved
all_parts message lifecycle is_interleaved = record {
  stay = stays message lifecycle is_interleaved;
  sender_keeps = λ g call from p. sender_keeps message lifecycle is_interleaved from g call p;
  receiver_keeps = λ g call from handed p. receiver_keeps message lifecycle is_interleaved g call from p handed;
  taken_out = sends_taken message lifecycle is_interleaved;
  taken_in_turn = λ o s handed x h. receives_in_taken message is_interleaved x o s handed h;
  offered_out = λ g call x s. offered_out message lifecycle is_interleaved g x s (stays message lifecycle is_interleaved) (λ from p. sender_keeps message lifecycle is_interleaved from g ReceiveNoPacket p) call;
  offered_in = λ g call x s handed. offered_in message lifecycle is_interleaved g x s handed (λ p. receiver_keeps message lifecycle is_interleaved g ReceiveNoPacket x p handed) call;
}

-- ---- the law

-- nothing was emitted yet
quiet : (a b : Options) (draws_a draws_b : Stream) → AreSilent (traces.start a b draws_a draws_b)
quiet a b draws_a draws_b = record { a = record { emitted = refl }; b = record { emitted = refl } }

module _ (a b : Options) (draws_a draws_b : Stream) (trace : List (Bool × EndAction)) (own : AreValidOptions a) (other : AreValidOptions b) (follows : KeepsRules trace (traces.start a b draws_a draws_b))
    (none : NoAssociationHasEnded (run trace (traces.start a b draws_a draws_b))) (windows : KeepsWindows trace (traces.start a b draws_a draws_b) no_stamps)
    (resets : KeepsResets trace (traces.start a b draws_a draws_b)) (from_a : Bool) where
  abbrev w : Pair
  w = traces.start a b draws_a draws_b

  -- of these messages, the first are those that are accepted along the trace
  along : (all more : List AcceptedMessage) (few : length all < 2 ^ 32) → all ≡ accepted from_a trace w ++ more → ((p : ℕ) → length (message_of all p).payload < 2 ^ 32)
      → DeliversOn all (message_epochs from_a trace w all_open) (agreed a b).message_interleaving (all_parts (message_of all) (lifecycle_of all) (agreed a b).message_interleaving) a b own other refl few
      from_a trace w no_stamps [] [] [] first
  along all more few split short =
      let is_interleaved : Bool = (agreed a b).message_interleaving in
      let epochs : List ℕ = message_epochs from_a trace w all_open in
      delivers_on all epochs is_interleaved (all_parts (message_of all) (lifecycle_of all) is_interleaved) a b own other refl few from_a trace w no_stamps follows none windows none_asked resets.answered resets.few
      (first_halves a b draws_a draws_b) (quiet a b draws_a draws_b) [] more split all_open [] [] (sym (append-nil epochs)) [] [] (sym (nothing_ready (not from_a) a b draws_a draws_b)) [] first
      (at_first (message_of all) (lifecycle_of all) is_interleaved from_a short a b draws_a draws_b) (accounted_first (lifecycle_of all) from_a a b draws_a draws_b)

  -- the messages that are accepted are those, or the first of them
  delivers : (all more : List AcceptedMessage) (few : length all < 2 ^ 32) (split : all ≡ accepted from_a trace w ++ more) (short : (p : ℕ) → length (message_of all p).payload < 2 ^ 32)
      → Delivers from_a trace w
  delivers all more few split short =
      let d = along all more few split short in
      let at : (p : ℕ) (o : AcceptedMessage) → slice_get (accepted from_a trace w) p ≡ Some o → slice_get all p ≡ Some o =
      λ p o h. ap (λ (l : List AcceptedMessage). slice_get l p) split ∙ get_behind (accepted from_a trace w) more p o h in
      record {
        places = d.places;
        fits = λ early late is. (d.points early late is).fits;
        skipped = λ early late is. (d.points early late is).skipped;
        reports = λ early late is. (d.points early late is).reports;
        once = λ early late is. (d.points early late is).once;
        rest = λ early late is. (d.points early late is).rest;
        epochs = record {
          least = λ early late e is k n o l h there of_epoch. (d.in_epochs early late e is k n o l h (at (slice_index d.places k) o there) of_epoch).0;
          most = λ early late e is k n o l h there of_epoch. (d.in_epochs early late e is k n o l h (at (slice_index d.places k) o there) of_epoch).1;
        };
      }

  -- no reset fails
  none_refused : (all more : List AcceptedMessage) (few : length all < 2 ^ 32) (split : all ≡ accepted from_a trace w ++ more) (short : (p : ℕ) → length (message_of all p).payload < 2 ^ 32)
      → failed_in (emitted_along from_a trace w) ≡ false
  none_refused all more few split short = (along all more few split short).leads.flows.none_failed

-- as short as a limit below 2^32 lets them be
short_along : (a b : Options) (draws_a draws_b : Stream) (trace : List (Bool × EndAction)) → AreValidOptions a → AreValidOptions b → KeepsLimits trace → (from_a : Bool)
    → (p : ℕ) → length (message_of (accepted from_a trace (traces.start a b draws_a draws_b)) p).payload < 2 ^ 32
short_along a b draws_a draws_b trace own other limits from_a =
    all_short (accepted from_a trace (traces.start a b draws_a draws_b)) (all_accepted_short a b draws_a draws_b own other trace limits from_a)

pub delivered : MessagesAreDelivered
delivered a b draws_a draws_b trace own other follows none bounds from_a =
    let all : List AcceptedMessage = accepted from_a trace (traces.start a b draws_a draws_b) in
    delivers a b draws_a draws_b trace own other follows none bounds.windows bounds.resets from_a all [] (bounds.few from_a) (sym (append-nil all))
    (short_along a b draws_a draws_b trace own other bounds.limits from_a)

pub refused_none : NoResetIsRefused
refused_none a b draws_a draws_b trace own other follows none bounds from_a =
    let all : List AcceptedMessage = accepted from_a trace (traces.start a b draws_a draws_b) in
    none_refused a b draws_a draws_b trace own other follows none bounds.windows bounds.resets from_a all [] (bounds.few from_a) (sym (append-nil all))
    (short_along a b draws_a draws_b trace own other bounds.limits from_a)

-- ---- and at one more action

follows_last : (es : List (Bool × EndAction)) (e : Bool × EndAction) (w : Pair) → KeepsRules (es ++ e ∷ []) w → MayAct e.1 (side_of e.0 (run es w))
follows_last [] e w h = h.0
follows_last (d ∷ es) e w h = follows_last es e (goes d.0 d.1 w) h.1

silent_run : (es : List (Bool × EndAction)) (w : Pair) → AreSilent w → AreSilent (run es w)
silent_run [] w h = h
silent_run (e ∷ es) w h = silent_run es (goes e.0 e.1 w) (silent_goes e.0 e.1 w h)

within_last : (es : List (Bool × EndAction)) (w : Pair) (s : Stamps) → KeepsWindows es w s → AreWithin (run es w)
within_last [] w s h = h
within_last (e ∷ es) w s h = within_last es (goes e.0 e.1 w) (stamps_after e.0 e.1 w s) h.2

accepted_by_own : (from_a : Bool) (t : EndAction) (w : Pair) → accepted_at from_a from_a t w ≡ accepted_in t (side_of from_a w)
accepted_by_own true t w = refl
accepted_by_own false t w = refl

pub accepted_more : (x : Bool) (es : List (Bool × EndAction)) (e : Bool × EndAction) (w : Pair) → accepted x (es ++ e ∷ []) w ≡ accepted x es w ++ accepted_at x e.0 e.1 (run es w)
accepted_more x [] e w = append-nil (accepted_at x e.0 e.1 w)
accepted_more x (d ∷ es) e w =
    ap (λ (l : List AcceptedMessage). accepted_at x d.0 d.1 w ++ l) (accepted_more x es e (goes d.0 d.1 w))
    ∙ sym (append_assoc (accepted_at x d.0 d.1 w) (accepted x es (goes d.0 d.1 w)) (accepted_at x e.0 e.1 (run es (goes d.0 d.1 w))))

pub delivered_then : MessagesAreDeliveredThen
unfolding delivers
delivered_then a b draws_a draws_b trace from_a last own other follows none k =
    let w : Pair = traces.start a b draws_a draws_b in
    let v : Pair = traces.run trace w in
    let all : List AcceptedMessage = accepted from_a (trace ++ (from_a, last) ∷ []) w in
    let is_interleaved : Bool = (agreed a b).message_interleaving in
    let parts = all_parts (message_of all) (lifecycle_of all) is_interleaved in
    let os : List AcceptedMessage = accepted_in last (side_of from_a v) in
    let split : all ≡ accepted from_a trace w ++ os =
    accepted_more from_a trace (from_a, last) w ∙ ap (λ (l : List AcceptedMessage). accepted from_a trace w ++ l) (accepted_by_own from_a last v) in
    let rules : KeepsRules trace w = follows_front trace ((from_a, last) ∷ []) w follows in
    let short = short_along a b draws_a draws_b (trace ++ (from_a, last) ∷ []) own other k.limits from_a in
    let d = along a b draws_a draws_b trace own other rules none k.windows k.resets from_a all os k.few split short in
    let then : (early late : List (Event Carried)) → (emitted_by last (side_of from_a v) (side_of (not from_a) v)).events ≡ early ++ late → endings early ≡ 0
    → EmitsThen (side_of from_a v).emitted early (accepted from_a trace w ++ os) (take (length (messages_made_ready (not from_a) trace w)) d.places) =
    λ early late emitted before.
    emits_then all (message_epochs from_a trace w all_open) is_interleaved parts k.few from_a a b own other refl v (stamps_along trace w no_stamps)
    (run_consistent a b own other trace w rules none (first_halves a b draws_a draws_b)) (silent_run trace w (quiet a b draws_a draws_b)) (within_last trace w no_stamps k.windows) k.resets.few none last
    (follows_last trace (from_a, last) w follows) k.timely (accepted from_a trace w) split (messages_made_ready (not from_a) trace w) (given_up from_a trace w) d.places d.leads early late emitted before in
    record {
      delivers = delivers a b draws_a draws_b trace own other rules none k.windows k.resets from_a all os k.few split short;
      reports = λ early late emitted before.
          subst (λ (l : List AcceptedMessage). ReportsAreTrue l ((side_of from_a v).emitted ++ early) (take (length (messages_made_ready (not from_a) trace w)) d.places)) (sym split) (then early late emitted before).reports;
      none_refused = λ early late emitted before. (then early late emitted before).none_refused;
    }
