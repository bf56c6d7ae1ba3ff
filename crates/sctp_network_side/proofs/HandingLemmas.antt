-- What a handover answers.
use Rattle.std.proofs.Common.{◌≡◌, ℕ, zero, suc, ◌<◌, List, refl, sym, ap, ◌∙◌, arith}
use Rattle.std.specs.Prelude.{Result, Err}
use Rattle.sctp_state.specs.declared.api.handover.HandoverReadiness.{HandoverReadiness}
use Rattle.sctp_state.specs.declared.api.handover.SocketHandoverState.{SocketHandoverState}
use Rattle.sctp_state.specs.declared.api.errors.HandoverError.{HandoverError}
use Rattle.sctp_state.specs.declared.api.errors.HandoverError.TheVariants as handovers
use Rattle.spec_endpoint.specs.Association.{Endpoint}
use Rattle.sctp_association.specs.Socket.{Worked, handover_ending, readiness_in}
use Rattle.spec_world.specs.Observations.{NotReady}
use Rattle.spec_world.specs.World.{handed_by}

not_ready : (r : ℕ) (s : Endpoint (List ℕ)) → 0 < r → NotReady r ≡ handed_by r s
not_ready zero s some = absurd (omega (arith, some))
not_ready (suc n) s some = refl

pub is_not_ready : (result : Result SocketHandoverState HandoverError) (r : HandoverReadiness) (n : ℕ) (s : Endpoint (List ℕ)) → result ≡ Err (handovers.NotReady r)
    → (handover_ending result ≡ Worked → readiness_in result ≡ n) → ((q : HandoverReadiness) → result ≡ Err (handovers.NotReady q) → 0 < q.0) → NotReady r.0 ≡ handed_by n s
is_not_ready result r n s is answer refused =
    not_ready r.0 s (refused r is) ∙ ap (λ (k : ℕ). handed_by k s) (sym (ap readiness_in is) ∙ answer (ap handover_ending is))
