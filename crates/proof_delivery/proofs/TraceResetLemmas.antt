-- Resets along a trace, of what the ends hold and emit alone: what is emitted only grows; what one end asked stays as the other acts.
use Rattle.std.proofs.Common.{◌≡◌, ℕ, zero, suc, ◌<◌, not, Bool, true, false, cond, Option, Some, None, List, [], ◌∷◌, ◌++◌, length, slice_get, refl, sym, ap, ◌∙◌, append-nil, append_assoc, arith}
use Rattle.std.proofs.lemmas.Bool.{eq-eqb}
use Rattle.sctp_state.specs.Events.{Event}
use Rattle.spec_endpoint.specs.Association.{State}
use Rattle.spec_endpoint.specs.Input.{packet_refusal}
use Rattle.proof_endpoint.specs.Mapped.{Carried}
use Rattle.proof_pair.specs.Trace.{Side, Pair, emitted_packets, EndAction, Calls, Gives, Refuses, give_carried, foreign_if, act, goes, run, side_of, state_of}
use Rattle.proof_delivery.specs.Windows.{numbered_count}
use Rattle.proof_delivery.specs.GivenUp.{emitted_given, emitted_foreign, emitted_by}
use Rattle.proof_delivery.specs.Answered.{waiting_number, is_same, NumberedBefore, numbered_before, AreAnswered, KeepsRequests, performed_in}
use Rattle.proof_delivery.proofs.ResetEventsLemmas.{performed_both}
use Rattle.proof_delivery.specs.StreamEpochs.{StreamEpoch, emitted_at, epochs_after}

-- ---- what is emitted

-- what an action emits stands behind what was emitted
pub emitted_turned : (t : EndAction) (x y : Side) → (act t x y).emitted ≡ x.emitted ++ (emitted_by t x y).events
emitted_turned (Calls call) x y = refl
emitted_turned (Gives which checksum) x y = go (slice_get (emitted_packets y) which)
  where
    go : (p : Option Carried) → (give_carried p checksum x).emitted ≡ x.emitted ++ (emitted_given p checksum x).events
    go None = sym (append-nil x.emitted)
    go (Some p) = refl
emitted_turned (Refuses p) x y = go (packet_refusal p.header.verification_tag p.chunks (state_of x))
  where
    go : (text : Option (List ℕ)) → (foreign_if text p x).emitted ≡ x.emitted ++ (emitted_foreign text p x).events
    go None = sym (append-nil x.emitted)
    go (Some text) = refl

pub emitted_goes : (x at_a : Bool) (t : EndAction) (w : Pair) → (side_of x (goes at_a t w)).emitted ≡ (side_of x w).emitted ++ emitted_at x at_a t w
emitted_goes true true t w = emitted_turned t w.a w.b
emitted_goes false false t w = emitted_turned t w.b w.a
emitted_goes true false t w = sym (append-nil w.a.emitted)
emitted_goes false true t w = sym (append-nil w.b.emitted)

pub emitted_run : (x : Bool) (es : List (Bool × EndAction)) (w : Pair) → (more : List (Event Carried)) × ((side_of x (run es w)).emitted ≡ (side_of x w).emitted ++ more)
emitted_run x [] w = ([], sym (append-nil (side_of x w).emitted))
emitted_run x (e ∷ es) w =
    let r = emitted_run x es (goes e.0 e.1 w) in
    let first : List (Event Carried) = emitted_at x e.0 e.1 w in
    (first ++ r.0, r.1 ∙ (ap (λ (l : List (Event Carried)). l ++ r.0) (emitted_goes x e.0 e.1 w) ∙ append_assoc (side_of x w).emitted first r.0))

-- ---- of resets

-- what holds of the number at the end held before
pub few_before : (x : Bool) (es : List (Bool × EndAction)) (w : Pair) (n : ℕ) → performed_in (side_of x (run es w)).emitted < n → performed_in (side_of x w).emitted < n
few_before x es w n h =
    let r = emitted_run x es w in
    let emitted = ap (λ (l : List (Event Carried)). performed_in l) r.1 in
    let both = performed_both (side_of x w).emitted r.0 in
    omega (arith, h, emitted, both)

-- ---- requests that wait

pub answered_now : (es : List (Bool × EndAction)) (w : Pair) (k : NumberedBefore) → KeepsRequests es w k → AreAnswered w k
answered_now [] w k h = h
answered_now (e ∷ es) w k h = h.0

-- those of one end
abbrev pub asked_of : Bool → NumberedBefore → ℕ
asked_of true k = k.a
asked_of false k = k.b

same_number : (o : Option ℕ) → is_same o o ≡ true
same_number None = refl
same_number (Some n) = eq-eqb n n refl

pub asked_again : (s : State) (n : ℕ) → numbered_before s s n ≡ n
asked_again s n = ap (λ (b : Bool). let m : ℕ = cond b n (numbered_count s) in m) (same_number (waiting_number s))

-- ---- epochs

-- the other end's actions leave them
pub epochs_beside : (x : Bool) (t : EndAction) (w : Pair) (f : ℕ → StreamEpoch) (s : ℕ) → epochs_after x (not x) t w f s ≡ f s
epochs_beside true t w f s = refl
epochs_beside false t w f s = refl

-- of one that was accepted so far
pub epoch_so_far : (ns more : List ℕ) (p : ℕ) → p < length ns → slice_get (ns ++ more) p ≡ slice_get ns p
epoch_so_far [] more p h = absurd (omega (arith, h))
epoch_so_far (n ∷ ns) more zero h = refl
epoch_so_far (n ∷ ns) more (suc p) h = epoch_so_far ns more p (omega (arith, h))
