-- The values keep the epochs through what changes the queue alone: acceptance, settings, and resets from their call to the answer.
use Rattle.std.proofs.Common.{◌≡◌, ℕ, suc, ◌≤◌, Bool, true, false, inl, inr, Option, None, List, [], ◌∷◌, map, refl, sym, ap, ◌∙◌, subst, arith}
use Rattle.std.proofs.lemmas.Bool.{cases_eq}
use Rattle.sctp_state.specs.Events.{Emitted, nothing_emitted}
use Rattle.sctp_tx_queue.specs.declared.send_queue.stream.PauseState.{PauseState}
use Rattle.sctp_tx_queue.specs.declared.send_queue.stream.PauseState.TheVariants.{NotPaused, Pending, Paused, Resetting}
use Rattle.sctp_tx_queue.specs.declared.send_queue.stream.ResetStep.TheVariants.{Requested, Performed}
use Rattle.sctp_tx_queue.specs.SendQueue as queue
use Rattle.sctp_tx_queue.specs.SendQueue.{Queue, Stream, stream, add, push, is_stopped}
use Rattle.sctp_tx_queue.specs.Settings.{with_threshold, with_priority, set_priority, set_low_threshold, set_mode, begun_without}
use Rattle.sctp_tx_queue.specs.Resets.{prepare_stream, streams_to_request}
use Rattle.sctp_tx_queue.specs.Restarted.{restarted_one, each_restarted, reset}
use Rattle.sctp_tx_queue.specs.Restarted as restarting
use Rattle.std.specs.Map.{keys_of}
use Rattle.sctp_tx_queue.proofs.InOrderLemmas.{put_elsewhere}
use Rattle.sctp_tx_outstanding.specs.OutstandingData.{Items, no_items, begin_reset}
use Rattle.proof_protocol.specs.State.{Message, Transfer, IsAmong, stream_of}
use Rattle.proof_protocol.specs.Rules.{accept, run}
use Rattle.proof_protocol.specs.Invariant.{Invariant}
use Rattle.proof_protocol.specs.Resets.{Epochs, first_epoch, transfers, send_request, commit, goes, go_all}
use Rattle.proof_protocol.proofs.ToolsLemmas.{put_at, put_off, not_both}
use Rattle.proof_refines.specs.SenderRefinement.{SenderRefines}
use Rattle.proof_refines.specs.Rows.{offered_entry, restart_numbers}
use Rattle.proof_refines.specs.Pauses.{unsent_of, give_up_rules, opens_next, prepare_events, ArePausedAs, AreEach}
use Rattle.proof_refines.specs.Line.{are_ascending, IsInLine}
use Rattle.proof_refines.specs.Following.{FollowsEpochs, NoneIsReset, BeginningFollows, PreparesFollow, RequestsFollow, AnswerFollows, IsOthers}
use Rattle.proof_refines.proofs.ProduceLemmas.{stream_changed, is_other}
use Rattle.proof_refines.proofs.StartLemmas.{unsent}
use Rattle.proof_refines.proofs.ResetLemmas.{requests_row}
use Rattle.proof_refines.proofs.PrepareLemmas.{prepares_row}
use Rattle.proof_refines.proofs.PausedLemmas.{go_given, go_more, accepting_keeps, preparing_keeps}
use Rattle.proof_refines.proofs.PauseRowLemmas.{settings_pause, requests_pause, answers_pause}
use Rattle.proof_refines.proofs.LineRowLemmas.{received_line, calls_keep_line}
use Rattle.proof_refines.proofs.BreakLemmas.{breaks_stay, requests_break}
use Rattle.proof_refines.proofs.QueueKeyLemmas.{written_keyed, steps_keyed, reset_keyed, requested_ready}
use Rattle.proof_refines.proofs.AskedLemmas.{all_asked}
use Rattle.proof_refines.proofs.RecordedLemmas.{rest_same}

-- ---- other epochs that say the same

pub paused_as : (x y : Epochs) (q : Queue) → y.epoch ≡ x.epoch → y.raised ≡ x.raised → y.opened ≡ x.opened → ArePausedAs x q → ArePausedAs y q
paused_as x y q epoch raised opened h k =
    let i = h k in
    let r : y.raised k ≡ x.raised k = ap (λ (f : ℕ → ℕ). f k) raised in
    let o : y.opened k ≡ x.opened k = ap (λ (f : ℕ → ℕ). f k) opened in
    record {
      flows = λ e. r ∙ (i.flows e ∙ sym o);
      shut = λ n. r ∙ (i.shut n ∙ ap suc (sym o));
      stopped = i.stopped;
      pending = i.pending;
      newest = λ p m f e. ap (λ (g : ℕ → ℕ). g p) epoch ∙ (i.newest p m f e ∙ sym r);
    }

pub others_follow : (x y : Epochs) (q : Queue) (s : Items) → IsOthers x y → FollowsEpochs x q s → FollowsEpochs y q s
others_follow x y q s same h =
    let left = same.acknowledged in
    record {
      paused = paused_as x y q same.epoch same.raised same.opened h.paused;
      line = h.line;
      keyed = h.keyed;
      breaks = breaks_stay x y s s same.requests (omega (arith, left)) refl h.breaks;
    }

-- ---- before anything is sent

module _ (x : Epochs) (none : NoneIsReset x) where
  no_breaks : (q : Queue) (s : Items) → ArePausedAs x q → IsInLine q → are_ascending 0 q.streams.entries ≡ true → FollowsEpochs x q s
  no_breaks q s paused line keyed = record { paused = paused; line = line; keyed = keyed; breaks = λ r a. absurd (subst (IsAmong r) none.requests a) }

  pub all_flow : (q : Queue) → ArePausedAs x q → (k : ℕ) → (stream k q.streams).pause ≡ NotPaused
  all_flow q h k = go (stream k q.streams).pause refl
    where
      shut : ((stream k q.streams).pause ≡ NotPaused → ⊥) → ⊥
      shut n = let a = (h k).shut n in let r = none.raised k in let o = none.opened k in omega (arith, a, r, o)

      pending_flows : Pending ≡ NotPaused → ⊥
      pending_flows e = cc

      paused_flows : Paused ≡ NotPaused → ⊥
      paused_flows e = cc

      resetting_flows : Resetting ≡ NotPaused → ⊥
      resetting_flows e = cc

      go : (p : PauseState) → (stream k q.streams).pause ≡ p → (stream k q.streams).pause ≡ NotPaused
      go NotPaused e = e
      go Pending e = absurd (shut (λ c. pending_flows (sym e ∙ c)))
      go Paused e = absurd (shut (λ c. paused_flows (sym e ∙ c)))
      go Resetting e = absurd (shut (λ c. resetting_flows (sym e ∙ c)))

  flowing_paused : (q : Queue) → ((k : ℕ) → (stream k q.streams).pause ≡ NotPaused) → ArePausedAs x q
  flowing_paused q f k = record {
    flows = λ e. none.raised k ∙ sym (none.opened k);
    shut = λ n. absurd (n (f k));
    stopped = λ e. absurd (not_both e (ap is_stopped (f k)));
    pending = λ e. absurd (flows (sym (f k) ∙ e));
    newest = λ p m g e. none.first p ∙ sym (none.raised k);
  }
    where
      flows : NotPaused ≡ Pending → ⊥
      flows e = cc

one_flows : (id : ℕ) (q : Queue) → ((k : ℕ) → (stream k q.streams).pause ≡ NotPaused) → (k : ℕ) → (stream k (restarted_one id q).streams).pause ≡ NotPaused
one_flows id q f k = elim (cases_eq k id) [
  | inl c ↦
      subst (λ j. (stream j (restarted_one id q).streams).pause ≡ NotPaused) (sym c)
      (ap (λ (z : Stream). z.pause) (stream_changed id restarting.restart q.streams refl))
  | inr d ↦ ap (λ (z : Stream). z.pause) (put_elsewhere k id (restarting.restart (stream id q.streams)) q.streams (is_other k id d)) ∙ f k
]

all_restart : (ids : List ℕ) (q : Queue) → ((k : ℕ) → (stream k q.streams).pause ≡ NotPaused) → (k : ℕ) → (stream k (each_restarted ids q).streams).pause ≡ NotPaused
all_restart [] q f = f
all_restart (id ∷ ids) q f = all_restart ids (restarted_one id q) (one_flows id q f)

one_line : (id : ℕ) (q : Queue) → IsInLine q → IsInLine (restarted_one id q)
one_line id q h =
    received_line q (restarted_one id q) id (stream id (restarted_one id q).streams) h refl refl
    (λ k d. put_elsewhere k id (restarting.restart (stream id q.streams)) q.streams (is_other k id d)) (λ e. ap (begun_without id) e)

lines_restart : (ids : List ℕ) (q : Queue) → IsInLine q → IsInLine (each_restarted ids q)
lines_restart [] q h = h
lines_restart (id ∷ ids) q h = lines_restart ids (restarted_one id q) (one_line id q h)

reset_line : (q : Queue) → IsInLine q → IsInLine (reset q)
reset_line q h =
    let l = lines_restart (keys_of q.streams.entries) q h in
    record { ascending = l.ascending; flows = l.flows; whole = λ m. refl }

reset_follows : (x : Epochs) (q : Queue) (s t : Items) → NoneIsReset x → FollowsEpochs x q s → FollowsEpochs x (reset q) t
reset_follows x q s t none h =
    no_breaks x none (reset q) t (flowing_paused x none (reset q) (all_restart (keys_of q.streams.entries) q (all_flow x none q h.paused))) (reset_line q h.line) (reset_keyed q h.keyed)

mode_follows : (is_interleaved : Bool) (x : Epochs) (q : Queue) (s t : Items) → NoneIsReset x → q.begun ≡ None → FollowsEpochs x q s → FollowsEpochs x (set_mode is_interleaved q) t
mode_follows is_interleaved x q s t none unbegun h = no_breaks x none (set_mode is_interleaved q) t h.paused (calls_keep_line.mode is_interleaved q unbegun h.line) h.keyed

first_none : NoneIsReset first_epoch
first_none = record { first = λ p. refl; raised = λ k. refl; opened = λ k. refl; requests = refl }

pub beginning_follows : BeginningFollows
beginning_follows = record {
  new = λ o s. no_breaks first_epoch first_none (queue.queue o) s (flowing_paused first_epoch first_none (queue.queue o) (λ k. refl)) (calls_keep_line.new o) refl;
  none = first_none;
  accepting = λ message is_interleaved x n. record {
    first = λ p. elim (cases_eq p x.transfer.sender.accepted) [
      | inl e ↦ put_at x.epoch x.transfer.sender.accepted (x.raised (stream_of message x.transfer.sender.accepted)) p e ∙ n.raised (stream_of message x.transfer.sender.accepted)
      | inr d ↦ put_off x.epoch x.transfer.sender.accepted (x.raised (stream_of message x.transfer.sender.accepted)) p d ∙ n.first p
    ];
    raised = n.raised;
    opened = n.opened;
    requests = n.requests;
  };
  mode = λ message lifecycle is_interleaved is_partial n x q s t sh none h.
      mode_follows is_interleaved x q s t none (unsent message lifecycle false n q (no_items false false) sh refl).begun h;
  anew = reset_follows;
  anew_mode = λ is_interleaved x q s t none h. mode_follows is_interleaved x (reset q) t t none refl (reset_follows x q s t none h);
}

-- ---- calls

module _ (message : ℕ → Message) (lifecycle : ℕ → Option ℕ) (is_interleaved : Bool) (x : Epochs) (q : Queue) (s : Items) (k : Invariant message is_interleaved x.transfer)
    (sh : SenderRefines message lifecycle is_interleaved x.transfer q s) (h : FollowsEpochs x q s) where
  pub accepting_follows : (expires : Option ℕ) (limit : ℕ) → FollowsEpochs (goes message is_interleaved x (transfers accept))
      (add (stream_of message x.transfer.sender.accepted) (offered_entry message lifecycle x.transfer.sender.accepted expires limit) q) s
  accepting_follows expires limit =
      let own = stream_of message x.transfer.sender.accepted in
      let m = offered_entry message lifecycle x.transfer.sender.accepted expires limit in
      record {
        paused = accepting_keeps message lifecycle is_interleaved x q s sh h.paused expires limit;
        line = calls_keep_line.accepting own m q h.line;
        keyed = written_keyed own (push m (stream own q.streams)) q.streams h.keyed;
        breaks = breaks_stay x (goes message is_interleaved x (transfers accept)) s s refl (omega arith) refl h.breaks;
      }

  pub settings_follow : {P : Type 0} (id n : ℕ) (emitted : Emitted P) → FollowsEpochs x (set_priority id n q) s × FollowsEpochs x (set_low_threshold id n q emitted).queue s
  settings_follow id n emitted =
      let z = settings_pause x q h.paused id n emitted in (
        record {
          paused = z.0;
          line = calls_keep_line.prioritised id n q h.line;
          keyed = written_keyed id (with_priority n (stream id q.streams)) q.streams h.keyed;
          breaks = h.breaks;
        },
        record {
          paused = z.1;
          line = calls_keep_line.watched id n nothing_emitted q h.line;
          keyed = written_keyed id (with_threshold n (stream id q.streams)) q.streams h.keyed;
          breaks = h.breaks;
        },
      )

  -- ---- resets

  opened_transfer : (p : PauseState) (id : ℕ) (y : Epochs) → (go_all message is_interleaved y (opens_next p id)).transfer ≡ y.transfer
  opened_transfer NotPaused id y = refl
  opened_transfer Pending id y = refl
  opened_transfer Paused id y = refl
  opened_transfer Resetting id y = refl

  opened_requests : (p : PauseState) (id : ℕ) (y : Epochs) → (go_all message is_interleaved y (opens_next p id)).requests ≡ y.requests
  opened_requests NotPaused id y = refl
  opened_requests Pending id y = refl
  opened_requests Paused id y = refl
  opened_requests Resetting id y = refl

  pub preparing_follows : {P : Type 0} (id : ℕ) (emitted : Emitted P) → PreparesFollow message is_interleaved x q s id emitted
  preparing_follows id emitted =
      let ps = unsent_of q id in
      let z = preparing_keeps message lifecycle is_interleaved x q s sh h.paused id emitted (prepares_row message lifecycle is_interleaved x.transfer q s k sh id emitted).may in
      record {
        may = z.may;
        transfer_is = ap (λ (w : Epochs). w.transfer) leads ∙ opened_transfer (stream id q.streams).pause id given;
        follows = record {
          paused = z.paused;
          line = calls_keep_line.preparing id nothing_emitted q h.line;
          keyed = written_keyed id (prepare_stream (stream id q.streams)) q.streams h.keyed;
          breaks = breaks_stay x (go_all message is_interleaved x (prepare_events q id)) s s (ap (λ (w : Epochs). w.requests) leads ∙ opened_requests (stream id q.streams).pause id given)
              (omega (arith, left)) refl h.breaks;
        };
      }
    where
      given : Epochs
      given = record x { transfer = run message is_interleaved x.transfer (give_up_rules (unsent_of q id)) }

      leads : go_all message is_interleaved x (prepare_events q id) ≡ go_all message is_interleaved given (opens_next (stream id q.streams).pause id)
      leads =
          go_more message is_interleaved (map transfers (give_up_rules (unsent_of q id))) (opens_next (stream id q.streams).pause id) x
          ∙ ap (λ (w : Epochs). go_all message is_interleaved w (opens_next (stream id q.streams).pause id)) (go_given message is_interleaved (unsent_of q id) x)

      left : (go_all message is_interleaved x (prepare_events q id)).transfer.acknowledged ≡ x.transfer.acknowledged
      left =
          ap (λ (w : Epochs). w.transfer.acknowledged) leads
          ∙ (ap (λ (w : Transfer). w.acknowledged) (opened_transfer (stream id q.streams).pause id given)
          ∙ ap (λ (w : Transfer). w.acknowledged) (rest_same message is_interleaved (unsent_of q id) x.transfer))

  requests_transfer : (ids : List ℕ) (y : Epochs) → (go_all message is_interleaved y (map send_request ids)).transfer ≡ y.transfer
  requests_transfer [] y = refl
  requests_transfer (id ∷ ids) y = requests_transfer ids (goes message is_interleaved y (send_request id))

  asked_shows : {r : Queue} → SenderRefines message lifecycle is_interleaved x.transfer r s → SenderRefines message lifecycle is_interleaved x.transfer r (begin_reset s)
  asked_shows a = record { queue = a.queue; items = record { mode = a.items.mode; point = a.items.point; kept = a.items.kept }; discards = a.discards }

  pub requesting_follows : (most : ℕ) → RequestsFollow message lifecycle is_interleaved x q s most
  requesting_follows most =
      let ids = streams_to_request most q in
      let e = requested_ready q most h.keyed in
      let z = requests_pause message lifecycle is_interleaved s ids x q sh h.paused e in
      record {
        may = z.0;
        transfer_is = requests_transfer ids x;
        refines = asked_shows (requests_row message lifecycle is_interleaved s ids x.transfer q sh);
        follows = record {
          paused = z.1;
          line = calls_keep_line.resetting Requested ids q h.line;
          keyed = steps_keyed Requested ids q h.keyed;
          breaks = requests_break message lifecycle is_interleaved ids x q s sh h.breaks;
        };
        asked = all_asked ids q e;
      }

  commits_transfer : (ids : List ℕ) (y : Epochs) → (go_all message is_interleaved y (map commit ids)).transfer ≡ restart_numbers ids y.transfer
  commits_transfer [] y = refl
  commits_transfer (id ∷ ids) y = commits_transfer ids (goes message is_interleaved y (commit id))

  commits_requests : (ids : List ℕ) (y : Epochs) → (go_all message is_interleaved y (map commit ids)).requests ≡ y.requests
  commits_requests [] y = refl
  commits_requests (id ∷ ids) y = commits_requests ids (goes message is_interleaved y (commit id))

  commits_left : (ids : List ℕ) (y : Epochs) → (go_all message is_interleaved y (map commit ids)).transfer.acknowledged ≡ y.transfer.acknowledged
  commits_left [] y = refl
  commits_left (id ∷ ids) y = commits_left ids (goes message is_interleaved y (commit id))

  pub answering_follows : (ids : List ℕ) → AreEach Resetting q ids → ((id : ℕ) → IsAmong id ids → x.raised id ≤ x.performed id) → AnswerFollows message is_interleaved x q s ids
  answering_follows ids e done =
      let z = answers_pause message lifecycle is_interleaved s ids x q sh h.paused e done in
      let left = commits_left ids x in
      record {
        may = z.0;
        transfer_is = commits_transfer ids x;
        follows = record {
          paused = z.1;
          line = calls_keep_line.resetting Performed ids q h.line;
          keyed = steps_keyed Performed ids q h.keyed;
          breaks = breaks_stay x (go_all message is_interleaved x (map commit ids)) s s (commits_requests ids x) (omega (arith, left)) refl h.breaks;
        };
      }
