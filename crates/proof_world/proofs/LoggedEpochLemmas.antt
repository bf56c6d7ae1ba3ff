-- Epochs along a log: entry by entry, and over the entries of one event.
use Rattle.std.proofs.Common.{◌≡◌, ℕ, ◌+◌, ◌==◌, ◌||◌, Bool, true, false, List, [], ◌∷◌, ◌++◌, length, refl, sym, ap, ◌∙◌, append_assoc}
use Rattle.std.specs.List.{flat_map}
use Rattle.std.proofs.lemmas.List.{length-append}
use Rattle.std.proofs.lemmas.List.Folds.{list_any-append}
use Rattle.proof_pair.specs.Trace.{Pair, EndAction, goes, run}
use Rattle.proof_delivery.specs.Accepted.{AcceptedMessage}
use Rattle.proof_delivery.specs.StreamEpochs as delivery
use Rattle.proof_delivery.specs.StreamEpochs.{StreamEpoch, are_named, shut_streams, opened_if, reopen, performed_of, epochs_of}
use Rattle.proof_delivery.proofs.StreamEpochLemmas.{one_each}
use Rattle.proof_delivery.proofs.ResetEventsLemmas.{named_both}
use Rattle.spec_world.specs.Observations.{End, Entry}
use Rattle.proof_world.specs.Delivered.{accepted_messages_by, accepted_messages, emitted_events_by, emitted_events, reset_by, epochs_after, message_epochs}
use Rattle.proof_world.proofs.PrefixLemmas.{none_before, none_behind}

-- how the streams stand behind these entries
abbrev pub epochs_along : End → List Entry → (ℕ → StreamEpoch) → ℕ → StreamEpoch
epochs_along x [] f = f
epochs_along x (e ∷ log) f = epochs_along x log (epochs_after x e f)

pub along_both : (x : End) (k l : List Entry) (f : ℕ → StreamEpoch) → epochs_along x (k ++ l) f ≡ epochs_along x l (epochs_along x k f)
along_both x [] l f = refl
along_both x (e ∷ k) l f = along_both x k l (epochs_after x e f)

pub epochs_both : (x : End) (k l : List Entry) (f : ℕ → StreamEpoch) → message_epochs x (k ++ l) f ≡ message_epochs x k f ++ message_epochs x l (epochs_along x k f)
epochs_both x [] l f = refl
epochs_both x (e ∷ k) l f =
    ap (λ (ns : List ℕ). epochs_of (accepted_messages_by x e) f ++ ns) (epochs_both x k l (epochs_after x e f))
    ∙ sym (append_assoc (epochs_of (accepted_messages_by x e) f) (message_epochs x k (epochs_after x e f)) (message_epochs x l (epochs_along x k (epochs_after x e f))))

pub epochs_are_many : (x : End) (log : List Entry) (f : ℕ → StreamEpoch) → length (message_epochs x log f) ≡ length (accepted_messages x log)
epochs_are_many x [] f = refl
epochs_are_many x (e ∷ log) f =
    length-append (epochs_of (accepted_messages_by x e) f) (message_epochs x log (epochs_after x e f))
    ∙ (ap (λ (n : ℕ). n + length (message_epochs x log (epochs_after x e f))) (one_each (accepted_messages_by x e) f)
    ∙ (ap (λ (n : ℕ). length (accepted_messages_by x e) + n) (epochs_are_many x log (epochs_after x e f)) ∙ sym (length-append (accepted_messages_by x e) (accepted_messages x log))))

-- ---- where nothing is offered

pub none_offered : (x : End) (log : List Entry) (f : ℕ → StreamEpoch) → flat_map (accepted_messages_by x) log ≡ [] → message_epochs x log f ≡ []
none_offered x [] f h = refl
none_offered x (e ∷ log) f h =
    ap (λ (os : List AcceptedMessage). epochs_of os f ++ message_epochs x log (epochs_after x e f)) (none_before (accepted_messages_by x e) (flat_map (accepted_messages_by x) log) h)
    ∙ none_offered x log (epochs_after x e f) (none_behind (accepted_messages_by x e) (flat_map (accepted_messages_by x) log) h)

-- ---- where nothing is reset

reopened_both : (a b : List ℕ) (f : ℕ → StreamEpoch) (s : ℕ) → reopen (a ++ b) f s ≡ reopen b (reopen a f) s
reopened_both a b f s = ap (λ (z : Bool). opened_if z (f s)) (list_any-append (λ i. i == s) a b) ∙ go (are_named a s) (are_named b s) (f s)
  where
    go : (m n : Bool) (e : StreamEpoch) → opened_if (m || n) e ≡ opened_if n (opened_if m e)
    go true true e = refl
    go true false e = refl
    go false true e = refl
    go false false e = refl

emitted_along : (x : End) (log : List Entry) (f : ℕ → StreamEpoch) (s : ℕ) → flat_map (reset_by x) log ≡ [] → epochs_along x log f s ≡ reopen (performed_of (emitted_events x log)) f s
emitted_along x [] f s h = refl
emitted_along x (e ∷ log) f s h =
    emitted_along x log (epochs_after x e f) s (none_behind (reset_by x e) (flat_map (reset_by x) log) h)
    ∙ (ap (λ (ids : List ℕ). reopen (performed_of (emitted_events x log)) (reopen (performed_of (emitted_events_by x e)) (shut_streams ids f)) s) (none_before (reset_by x e) (flat_map (reset_by x) log) h)
    ∙ (sym (reopened_both (performed_of (emitted_events_by x e)) (performed_of (emitted_events x log)) f s)
    ∙ ap (λ (ids : List ℕ). reopen ids f s) (sym (named_both (emitted_events_by x e) (emitted_events x log)))))

-- over an event: what it resets stands in its first entry
pub event_along : (x : End) (first : Entry) (more : List Entry) (f : ℕ → StreamEpoch) (s : ℕ) → flat_map (reset_by x) more ≡ []
    → epochs_along x (first ∷ more) f s ≡ reopen (performed_of (emitted_events x (first ∷ more))) (shut_streams (reset_by x first) f) s
event_along x first more f s h =
    emitted_along x more (epochs_after x first f) s h
    ∙ (sym (reopened_both (performed_of (emitted_events_by x first)) (performed_of (emitted_events x more)) (shut_streams (reset_by x first) f) s)
    ∙ ap (λ (ids : List ℕ). reopen ids (shut_streams (reset_by x first) f) s) (sym (named_both (emitted_events_by x first) (emitted_events x more))))

-- ---- streams that stand alike

pub same_epochs : (os : List AcceptedMessage) (f g : ℕ → StreamEpoch) → ((s : ℕ) → f s ≡ g s) → epochs_of os f ≡ epochs_of os g
same_epochs [] f g e = refl
same_epochs (o ∷ os) f g e = ap (λ (z : StreamEpoch). z.epoch ∷ epochs_of os f) (e o.message.stream) ∙ ap (λ (ns : List ℕ). (g o.message.stream).epoch ∷ ns) (same_epochs os f g e)

-- ---- traces, by one action more

pub along_more : (x : Bool) (es : List (Bool × EndAction)) (e : Bool × EndAction) (w : Pair) (f : ℕ → StreamEpoch) (s : ℕ)
    → delivery.epochs_along x (es ++ e ∷ []) w f s ≡ delivery.epochs_after x e.0 e.1 (run es w) (delivery.epochs_along x es w f) s
along_more x [] e w f s = refl
along_more x (d ∷ es) e w f s = along_more x es e (goes d.0 d.1 w) (delivery.epochs_after x d.0 d.1 w f) s
