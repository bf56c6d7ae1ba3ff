-- What is emitted of resets, and that whatever sends, acknowledges, gives up or settles a stream's values emits nothing of them.
use Rattle.std.proofs.Common.{◌≡◌, ℕ, suc, ◌+◌, Bool, true, false, cond, not, ◌||◌, Option, List, [], ◌∷◌, ◌++◌, refl, ap, ◌∙◌, append-nil, append_assoc, sym, arith}
use Rattle.std.proofs.lemmas.Bool.{and_parts, not-true, cond-false}
use Rattle.std.specs.List.{list_all}
use Rattle.sctp_chunk.specs.declared.sack.GapAckBlock.{GapAckBlock}
use Rattle.sctp_state.specs.declared.api.errors.SendError.{SendError}
use Rattle.sctp_state.specs.Events.{Event, OnStreamsResetFailed, OnStreamsResetPerformed, OnIncomingStreamReset, Emitted, emit_events}
use Rattle.sctp_tx_queue.specs.SendQueue.{Queue}
use Rattle.sctp_tx_queue.specs.Settings.{set_low_threshold}
use Rattle.sctp_tx_queue.specs.Resets.{prepare_reset}
use Rattle.sctp_tx_outstanding.specs.OutstandingData.{Items}
use Rattle.sctp_tx_outstanding.specs.Losses.{nack_all, expire_outstanding}
use Rattle.sctp_tx.specs.RetransmissionQueue.{Sender, emitted_if}
use Rattle.sctp_tx.specs.Sending.{send}
use Rattle.spec_endpoint.specs.Calls.{refusal_events, lifecycle_end_events}
use Rattle.proof_delivery.specs.Answered.{performed_in}
use Rattle.proof_delivery.specs.StreamEpochs.{are_named, performed_of, resets_emitted, failed_in}
use Rattle.proof_endpoint.specs.Mapped.{Carried}
use Rattle.proof_pair.proofs.EmittedLemmas.{Emits, Kind, times_out, expires, receives, sets_threshold, sends, prepares, refuses}

-- ---- events of resets

abbrev pub is_reset : {P : Type 0} → Event P → Bool
is_reset (OnStreamsResetFailed streams) = true
is_reset (OnStreamsResetPerformed streams) = true
is_reset (OnIncomingStreamReset streams) = true
is_reset e = false

abbrev pub resets_in : {P : Type 0} → List (Event P) → List (Event P)
resets_in [] = []
resets_in (e ∷ es) = cond (is_reset e) (e ∷ resets_in es) (resets_in es)

-- they are all that is said of a reset
module _ {P : Type 0} where
  pub performed_counts : (es : List (Event P)) → performed_in (resets_in es) ≡ performed_in es
  performed_counts [] = refl
  performed_counts (OnStreamsResetPerformed streams ∷ es) = ap suc (performed_counts es)
  performed_counts (e ∷ es) = performed_counts es

  pub performed_names : (es : List (Event P)) → performed_of (resets_in es) ≡ performed_of es
  performed_names [] = refl
  performed_names (OnStreamsResetPerformed streams ∷ es) = ap (λ (ns : List ℕ). streams ++ ns) (performed_names es)
  performed_names (e ∷ es) = performed_names es

  pub failed_still : (es : List (Event P)) → failed_in (resets_in es) ≡ failed_in es
  failed_still [] = refl
  failed_still (OnStreamsResetFailed streams ∷ es) = refl
  failed_still (e ∷ es) = failed_still es

  pub emitted_counts : (s : ℕ) (es : List (Event P)) → resets_emitted s (resets_in es) ≡ resets_emitted s es
  emitted_counts s [] = refl
  emitted_counts s (OnIncomingStreamReset streams ∷ es) = ap (λ (n : ℕ). cond (are_named streams s) (1 + n) n) (emitted_counts s es)
  emitted_counts s (e ∷ es) = emitted_counts s es

  pub resets_both : (es fs : List (Event P)) → resets_in (es ++ fs) ≡ resets_in es ++ resets_in fs
  resets_both [] fs = refl
  resets_both (e ∷ es) fs = go (is_reset e) (resets_both es fs)
    where
      go : (b : Bool) → resets_in (es ++ fs) ≡ resets_in es ++ resets_in fs
          → (let xs : List (Event P) = cond b (e ∷ resets_in (es ++ fs)) (resets_in (es ++ fs)) in xs) ≡ cond b (e ∷ resets_in es) (resets_in es) ++ resets_in fs
      go true ih = ap (λ (xs : List (Event P)). e ∷ xs) ih
      go false ih = ih

  pub none_behind : (es fs : List (Event P)) → resets_in fs ≡ [] → resets_in (es ++ fs) ≡ resets_in es
  none_behind es fs none = resets_both es fs ∙ (ap (λ (xs : List (Event P)). resets_in es ++ xs) none ∙ append-nil (resets_in es))

-- ---- what is emitted behind

module _ {P : Type 0} where
  pub performed_both : (es fs : List (Event P)) → performed_in (es ++ fs) ≡ performed_in es + performed_in fs
  performed_both [] fs = omega arith
  performed_both (OnStreamsResetPerformed streams ∷ es) fs = let h = performed_both es fs in omega (arith, h)
  performed_both (e ∷ es) fs = performed_both es fs

  pub named_both : (es fs : List (Event P)) → performed_of (es ++ fs) ≡ performed_of es ++ performed_of fs
  named_both [] fs = refl
  named_both (OnStreamsResetPerformed streams ∷ es) fs = ap (λ (ns : List ℕ). streams ++ ns) (named_both es fs) ∙ sym (append_assoc streams (performed_of es) (performed_of fs))
  named_both (e ∷ es) fs = named_both es fs

  pub emitted_both : (s : ℕ) (es fs : List (Event P)) → resets_emitted s (es ++ fs) ≡ resets_emitted s es + resets_emitted s fs
  emitted_both s [] fs = omega arith
  emitted_both s (OnIncomingStreamReset streams ∷ es) fs = go (are_named streams s) (emitted_both s es fs)
    where
      go : (b : Bool) → resets_emitted s (es ++ fs) ≡ resets_emitted s es + resets_emitted s fs
          → (let n : ℕ = cond b (1 + resets_emitted s (es ++ fs)) (resets_emitted s (es ++ fs)) in n) ≡ cond b (1 + resets_emitted s es) (resets_emitted s es) + resets_emitted s fs
      go true ih = omega (arith, ih)
      go false ih = ih
  emitted_both s (e ∷ es) fs = emitted_both s es fs

  pub failed_more : (es fs : List (Event P)) → failed_in (es ++ fs) ≡ (failed_in es || failed_in fs)
  failed_more [] fs = refl
  failed_more (OnStreamsResetFailed streams ∷ es) fs = refl
  failed_more (e ∷ es) fs = failed_more es fs

  pub none_failed_both : (es fs : List (Event P)) → failed_in es ≡ false → failed_in fs ≡ false → failed_in (es ++ fs) ≡ false
  none_failed_both es fs h k = failed_more es fs ∙ (ap (λ (b : Bool). b || failed_in fs) h ∙ k)

-- ---- what emits none

abbrev is_other : {P : Type 0} → Event P → Bool
is_other e = not (is_reset e)

other_kind : {P : Type 0} → Kind (is_other {P = P})
other_kind = record {
  error = λ e text. refl;
  low = λ stream. refl;
  total_low = refl;
  sent = λ id. refl;
  maybe_expired = λ id. refl;
  expired = λ id. refl;
  ends = λ id. refl;
}

module _ {P : Type 0} where
  none_in : (es : List (Event P)) → list_all is_other es ≡ true → resets_in es ≡ []
  none_in [] h = refl
  none_in (e ∷ es) h =
      let parts = and_parts (is_other e) (list_all is_other es) h in
      cond-false (is_reset e) (e ∷ resets_in es) (resets_in es) (not-true (is_reset e) parts.0) ∙ none_in es parts.1

  abbrev pub SameResets : (t u : Emitted P) → Type 0
  SameResets t u = resets_in u.events ≡ resets_in t.events

  others : (t u : Emitted P) → Emits is_other t u → SameResets t u
  others t u o = ap resets_in o.behind ∙ none_behind t.events o.events (none_in o.events o.all)

  pub resets_timed_out : (s : Items) (t : Emitted P) → SameResets t (nack_all s t).emitted
  resets_timed_out s t = others t (nack_all s t).emitted (times_out is_other other_kind s t)

  pub resets_expired : (now : ℕ) (s : Items) (t : Emitted P) → SameResets t (expire_outstanding now s t).emitted
  resets_expired now s t = others t (expire_outstanding now s t).emitted (expires is_other other_kind now s t)

  pub resets_sack : (is_valid : Bool) (n : ℕ) (blocks : List GapAckBlock) (s : Sender) (t : Emitted P) → SameResets t (emitted_if is_valid n blocks s t)
  resets_sack is_valid n blocks s t = others t (emitted_if is_valid n blocks s t) (receives is_other other_kind (λ id. refl) is_valid n blocks s t)

  pub resets_threshold : (id bytes : ℕ) (q : Queue) (t : Emitted P) → SameResets t (set_low_threshold id bytes q t).emitted
  resets_threshold id bytes q t = others t (set_low_threshold id bytes q t).emitted (sets_threshold is_other other_kind id bytes q t)

  pub resets_sent : (now size : ℕ) (s : Sender) (q : Queue) (t : Emitted P) → SameResets t (send now size s q t).emitted
  resets_sent now size s q t = others t (send now size s q t).emitted (sends is_other other_kind now size s q t)

  -- of a stream that is to be reset nothing is emitted yet
  pub resets_prepared : (id : ℕ) (q : Queue) (t : Emitted P) → SameResets t (prepare_reset id q t).emitted
  resets_prepared id q t = others t (prepare_reset id q t).emitted (prepares is_other other_kind id q t)

  pub resets_refused : (e : SendError) (l : Option ℕ) (t : Emitted P) → SameResets t (emit_events (lifecycle_end_events l ++ refusal_events e) t)
  resets_refused e l t = others t (emit_events (lifecycle_end_events l ++ refusal_events e) t) (refuses is_other other_kind e l t)

pub emitted_same : (s : ℕ) (es fs : List (Event Carried)) → resets_in fs ≡ resets_in es → resets_emitted s fs ≡ resets_emitted s es
emitted_same s es fs e = sym (emitted_counts s fs) ∙ (ap (λ (xs : List (Event Carried)). resets_emitted s xs) e ∙ emitted_counts s es)
