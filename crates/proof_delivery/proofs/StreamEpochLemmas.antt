-- Epochs along a trace: one for each message that was accepted, in their order; and all are 0 where no stream is reset.
use Rattle.std.proofs.Common.{◌≡◌, ℕ, ◌+◌, Bool, true, false, List, [], ◌∷◌, ◌++◌, length, All, refl, ap, sym, ◌∙◌, append_assoc}
use Rattle.std.specs.List.{list_any}
use Rattle.std.proofs.lemmas.Bool.{or_parts}
use Rattle.std.proofs.lemmas.List.{length-append, length-map}
use Rattle.std.proofs.lemmas.List.Elements.{All-nil, All-cons, All-append}
use Rattle.spec_endpoint.specs.Laws.{Connect, Close, Shutdown, Send, SendMany, ResetStreams, TakeMessage, SetLowThreshold, SetPriority, SetMaxMessageSize, Advance, HandOver, Restore, ReceivePacket, ReceiveNoPacket}
use Rattle.proof_pair.specs.Trace.{Side, Pair, EndAction, Calls, Gives, Refuses, goes, run}
use Rattle.proof_delivery.specs.Accepted.{AcceptedMessage, accepted_at, accepted}
use Rattle.proof_delivery.specs.Windows.{resets, KeepsStreams}
use Rattle.proof_delivery.specs.Justified.{reset_by, reset_at}
use Rattle.proof_delivery.specs.StreamEpochs.{StreamEpoch, are_named, shut_streams, opened_if, performed_of, emitted_at, epochs_after, epochs_of, message_epochs, epochs_along}

pub one_each : (os : List AcceptedMessage) (f : ℕ → StreamEpoch) → length (epochs_of os f) ≡ length os
one_each os f = length-map os (λ (o : AcceptedMessage). (f o.message.stream).epoch)

pub epochs_are_many : (x : Bool) (trace : List (Bool × EndAction)) (w : Pair) (f : ℕ → StreamEpoch) → length (message_epochs x trace w f) ≡ length (accepted x trace w)
epochs_are_many x [] w f = refl
epochs_are_many x (e ∷ es) w f =
    let here : List AcceptedMessage = accepted_at x e.0 e.1 w in
    let v : Pair = goes e.0 e.1 w in
    let a = length-append (epochs_of here f) (message_epochs x es v (epochs_after x e.0 e.1 w f)) in
    let b = length-append here (accepted x es v) in
    let c = one_each here f in
    let d = epochs_are_many x es v (epochs_after x e.0 e.1 w f) in
    a ∙ (ap (λ (n : ℕ). n + length (message_epochs x es v (epochs_after x e.0 e.1 w f))) c ∙ (ap (λ (n : ℕ). length here + n) d ∙ sym b))

pub epochs_go_on : (x : Bool) (es fs : List (Bool × EndAction)) (w : Pair) (f : ℕ → StreamEpoch)
    → message_epochs x (es ++ fs) w f ≡ message_epochs x es w f ++ message_epochs x fs (run es w) (epochs_along x es w f)
epochs_go_on x [] fs w f = refl
epochs_go_on x (e ∷ es) fs w f =
    let here : List ℕ = epochs_of (accepted_at x e.0 e.1 w) f in
    let v : Pair = goes e.0 e.1 w in
    let g : ℕ → StreamEpoch = epochs_after x e.0 e.1 w f in
    ap (λ (ns : List ℕ). here ++ ns) (epochs_go_on x es fs v g) ∙ sym (append_assoc here (message_epochs x es v g) (message_epochs x fs (run es v) (epochs_along x es v g)))

-- ---- where no stream is reset

abbrev AreAtFirst : (ℕ → StreamEpoch) → Type 0
AreAtFirst f = (s : ℕ) → (f s).epoch ≡ 0

none_by : (action : EndAction) (x : Side) → resets action ≡ false → reset_by action x ≡ []
none_by (Calls (ResetStreams streams)) x h = cc
none_by (Calls Connect) x h = refl
none_by (Calls Close) x h = refl
none_by (Calls Shutdown) x h = refl
none_by (Calls (Send m o)) x h = refl
none_by (Calls (SendMany ms o)) x h = refl
none_by (Calls TakeMessage) x h = refl
none_by (Calls (SetLowThreshold stream bytes)) x h = refl
none_by (Calls (SetPriority stream priority)) x h = refl
none_by (Calls (SetMaxMessageSize bytes)) x h = refl
none_by (Calls (Advance now)) x h = refl
none_by (Calls HandOver) x h = refl
none_by (Calls (Restore h)) x k = refl
none_by (Calls (ReceivePacket p)) x h = refl
none_by (Calls ReceiveNoPacket) x h = refl
none_by (Gives which checksum) x h = refl
none_by (Refuses p) x h = refl

none_at : (x acts : Bool) (action : EndAction) (w : Pair) → resets action ≡ false → reset_at x acts action w ≡ []
none_at true true action w h = none_by action w.a h
none_at false false action w h = none_by action w.b h
none_at true false action w h = refl
none_at false true action w h = refl

-- nothing that is emitted raises an epoch
first_after : (x acts : Bool) (action : EndAction) (w : Pair) (f : ℕ → StreamEpoch) → resets action ≡ false → AreAtFirst f → AreAtFirst (epochs_after x acts action w f)
first_after x acts action w f none h s = reopens (are_named (performed_of (emitted_at x acts action w)) s) (shut_streams (reset_at x acts action w) f s) ∙ (ap (λ (ids : List ℕ). (shut_streams ids f s).epoch) (none_at x acts action w none) ∙ h s)
  where
    reopens : (b : Bool) (e : StreamEpoch) → (opened_if b e).epoch ≡ e.epoch
    reopens b e = refl

all_first : (os : List AcceptedMessage) (f : ℕ → StreamEpoch) → AreAtFirst f → All (λ (n : ℕ). n ≡ 0) (epochs_of os f)
all_first [] f h = All-nil (λ (n : ℕ). n ≡ 0)
all_first (o ∷ os) f h = All-cons (λ (n : ℕ). n ≡ 0) (f o.message.stream).epoch (epochs_of os f) (h o.message.stream) (all_first os f h)

pub all_in_first_epoch : (x : Bool) (trace : List (Bool × EndAction)) (w : Pair) (f : ℕ → StreamEpoch) → KeepsStreams trace → AreAtFirst f → All (λ (n : ℕ). n ≡ 0) (message_epochs x trace w f)
all_in_first_epoch x [] w f none h = All-nil (λ (n : ℕ). n ≡ 0)
all_in_first_epoch x (e ∷ es) w f none h =
    let parts = or_parts (resets e.1) (list_any (λ (d : Bool × EndAction). resets d.1) es) none in
    All-append (λ (n : ℕ). n ≡ 0) (epochs_of (accepted_at x e.0 e.1 w) f) (message_epochs x es (goes e.0 e.1 w) (epochs_after x e.0 e.1 w f)) (all_first (accepted_at x e.0 e.1 w) f h)
    (all_in_first_epoch x es (goes e.0 e.1 w) (epochs_after x e.0 e.1 w f) parts.1 (first_after x e.0 e.1 w f parts.0 h))
