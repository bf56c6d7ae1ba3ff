-- The next ask of a direction, as its receiver performs or defers it: one request for each of its streams.
use Rattle.std.proofs.Common.{◌≡◌, ℕ, suc, Bool, true, false, not, inl, inr, Some, List, [], ◌∷◌, map, slice_get, refl, ap, sym, subst}
use Rattle.std.specs.Prelude.{◌||◌, ◌==◌}
use Rattle.std.proofs.lemmas.Bool.{and_parts, or_right, eq-eqb}
use Rattle.sctp_serial.specs.declared.api.StreamId.{StreamId}
use Rattle.proof_protocol.specs.State.{IsAmong, has}
use Rattle.proof_protocol.specs.Resets.{Epochs, Request}
use Rattle.proof_refines.specs.Records.{are_distinct}
use Rattle.proof_refines.specs.Resets.{AreNextTo, named_by}
use Rattle.spec_endpoint.specs.ResetRequests.{ids}
use Rattle.proof_delivery.specs.Asks.{ResetRequest, request_for, AreRequested}

module _ (x : Epochs) (asks : List ResetRequest) (done answered : ℕ) (are : AreRequested x asks done answered) (a : ResetRequest) (there : slice_get asks done ≡ Some a) where
  abbrev pub requests_of : List ℕ → List Request
  requests_of ss = map (λ s. request_for s done a.upto asks) ss

  among_streams : (ss : List ℕ) (q : Request) → IsAmong q (requests_of ss) → has q.stream ss ≡ true
  among_streams [] q m = absurd m
  among_streams (k ∷ ss) q (inl e) = ap (λ (b : Bool). b || has q.stream ss) (eq-eqb q.stream k (ap (λ (r : Request). r.stream) e))
  among_streams (k ∷ ss) q (inr m) = or_right (q.stream == k) (has q.stream ss) (among_streams ss q m)

  never : (b : Bool) → b ≡ true → not b ≡ true → ⊥
  never true e f = cc
  never false e f = cc

  next_along : (ss : List ℕ) → ((s : ℕ) → has s ss ≡ true → has s a.streams ≡ true) → are_distinct ss ≡ true → AreNextTo x a.upto (requests_of ss)
  next_along [] sub once = tt
  next_along (k ∷ ss) sub once =
      let parts = and_parts (not (has k ss)) (are_distinct ss) once in (
        record {
          sent = are.sent done a there k (sub k (ap (λ (b : Bool). b || has k ss) (eq-eqb k k refl)));
          epoch = ap suc (sym (are.performed k));
          last = refl;
        },
        λ q m e. never (has k ss) (subst (λ (s : ℕ). has s ss ≡ true) (sym e) (among_streams ss q m)) parts.0,
        next_along ss (λ s h. sub s (or_right (s == k) (has s ss) h)) parts.1,
      )

  pub next_ask : AreNextTo x a.upto (requests_of a.streams)
  next_ask = next_along a.streams (λ s h. h) (are.fine done a there).distinct

-- they name its streams
pub next_names : (asks : List ResetRequest) (done upto : ℕ) (ss : List ℕ) → named_by (map (λ s. request_for s done upto asks) ss) ≡ ids ss
next_names asks done upto [] = refl
next_names asks done upto (k ∷ ss) = ap (λ (is : List StreamId). record { 0 = k } ∷ is) (next_names asks done upto ss)
