-- At one action of a trace: what becomes ready is of an epoch between the resets that its end emitted before the action, and those that it emitted
-- up to the action's end.
use Rattle.std.proofs.Common.{◌≡◌, ℕ, zero, suc, ◌<◌, ◌≤◌, ◌==◌, Bool, true, Some, List, [], ◌∷◌, ◌++◌, length, slice_get, slice_index, refl, sym, ap, subst, ◌∙◌, arith}
use Rattle.std.proofs.lemmas.Bool.{or_left, or_right, eq-eqb}
use Rattle.sctp_state.specs.Events.{Event}
use Rattle.proof_protocol.specs.State.{Message, has, stream_of}
use Rattle.proof_protocol.specs.Based.{Bracketed}
use Rattle.proof_protocol.specs.Invariant.{Invariant}
use Rattle.proof_refines.proofs.SenderRestLemmas.{has_more}
use Rattle.proof_endpoint.specs.Mapped.{Carried}
use Rattle.proof_delivery.specs.Accepted.{AcceptedMessage}
use Rattle.proof_delivery.specs.StreamEpochs.{resets_emitted}
use Rattle.proof_delivery.proofs.ClaimLemmas.{Direction, transfer_of}
use Rattle.proof_delivery.proofs.ActionLemmas.{message_in}
use Rattle.proof_delivery.proofs.TraceResetLemmas.{epoch_so_far}

-- ---- those of a list that stand behind others

index_first : (ms rest : List ℕ) (k : ℕ) → k < length ms → has (slice_index (ms ++ rest) k) ms ≡ true
index_first [] rest k h = absurd (omega (arith, h))
index_first (m ∷ ms) rest zero h = or_left (m == m) (has m ms) (eq-eqb m m refl)
index_first (m ∷ ms) rest (suc k) h = or_right (slice_index (ms ++ rest) k == m) (has (slice_index (ms ++ rest) k) ms) (index_first ms rest k (omega (arith, h)))

index_behind : (xs ms rest : List ℕ) (k : ℕ) → length xs ≤ k → k < length (xs ++ ms) → has (slice_index ((xs ++ ms) ++ rest) k) ms ≡ true
index_behind [] ms rest k l h = index_first ms rest k h
index_behind (x ∷ xs) ms rest zero l h = absurd (omega (arith, l))
index_behind (x ∷ xs) ms rest (suc k) l h = index_behind xs ms rest k (omega (arith, l)) (omega (arith, h))

-- ---- the action

-- Of these messages, each with its epoch, some become ready: with these numbers, at these places. Before and after it, their end emitted this.
abbrev pub BecomeReady : (offers : List AcceptedMessage) (epochs places : List ℕ) (before after : List (Event Carried)) (from to : ℕ) → Type 0
BecomeReady offers epochs places before after from to =
    (k n : ℕ) (o : AcceptedMessage) → from ≤ k → k < to → slice_get offers (slice_index places k) ≡ Some o → slice_get epochs (slice_index places k) ≡ Some n
    → (resets_emitted o.message.stream before ≤ n) × (n ≤ resets_emitted o.message.stream after)

module _ (message : ℕ → Message) (is_interleaved : Bool) (offers : List AcceptedMessage) (there : (p : ℕ) (o : AcceptedMessage) → slice_get offers p ≡ Some o → message p ≡ message_in o)
    (x y : Direction) (b : Bracketed message x.rules y.rules) (kept : Invariant message is_interleaved (transfer_of y)) (before after : List (Event Carried))
    (emitted_before : (s : ℕ) → x.rules.performed s ≡ resets_emitted s before) (emitted_after : (s : ℕ) → y.rules.performed s ≡ resets_emitted s after)
    (epochs later all_epochs : List ℕ) (many : length epochs ≡ (transfer_of y).sender.accepted) (epochs_are : (p n : ℕ) → slice_get epochs p ≡ Some n → y.rules.epoch p ≡ n)
    (split : all_epochs ≡ epochs ++ later) where
  one_ready : (p n : ℕ) (o : AcceptedMessage) → has p b.more ≡ true → slice_get offers p ≡ Some o → slice_get all_epochs p ≡ Some n
      → (resets_emitted o.message.stream before ≤ n) × (n ≤ resets_emitted o.message.stream after)
  one_ready p n o h at_p of_p =
      let on : stream_of message p ≡ o.message.stream = ap (λ (m : Message). m.stream) (there p o at_p) in
      let ready : has p (transfer_of y).receiver.places ≡ true =
      ap (λ (ps : List ℕ). has p ps) b.places ∙ (has_more p (transfer_of x).receiver.places b.more ∙ or_right (has p (transfer_of x).receiver.places) (has p b.more) h) in
      let below = kept.outgoing.begun_below p (kept.incoming.ready_begun p ready) in
      let now : slice_get epochs p ≡ Some n = sym (epoch_so_far epochs later p (omega (arith, below, many))) ∙ (sym (ap (λ (ns : List ℕ). slice_get ns p) split) ∙ of_p) in
      let is = epochs_are p n now in
      let least = b.least p h in
      let most = b.most p h in
      let first = emitted_before (stream_of message p) ∙ ap (λ (s : ℕ). resets_emitted s before) on in
      let last = emitted_after (stream_of message p) ∙ ap (λ (s : ℕ). resets_emitted s after) on in
      (omega (arith, least, is, first), omega (arith, most, is, last))

  pub become_ready : (places more : List ℕ) → places ≡ (transfer_of y).receiver.places ++ more
      → BecomeReady offers all_epochs places before after (length (transfer_of x).receiver.places) (length (transfer_of y).receiver.places)
  become_ready places more grown k n o l h at_k of_k =
      let whole : places ≡ ((transfer_of x).receiver.places ++ b.more) ++ more = grown ∙ ap (λ (ps : List ℕ). ps ++ more) b.places in
      let among : has (slice_index places k) b.more ≡ true =
      ap (λ (ps : List ℕ). has (slice_index ps k) b.more) whole
      ∙ index_behind (transfer_of x).receiver.places b.more more k l (subst (λ (ps : List ℕ). k < length ps) b.places h) in
      one_ready (slice_index places k) n o among at_k of_k
