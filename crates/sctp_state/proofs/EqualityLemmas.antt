-- What the tests of equality decide.
use Rattle.std.proofs.Common.{◌≡◌, Bool, true, false, ◌&&◌, ◌==◌, refl, ap, rules}
use Rattle.std.specs.Prelude.{Option, Some, None}
use Rattle.std.specs.Option.{option_eq}
use Rattle.std.specs.Bool.{Decides, beq}
use Rattle.std.specs.Cmp.{unsigned_Decides, booleans_Decides}
use Rattle.std.specs.Cmp.Lexicographic.{pointwise_decides}
use Rattle.std.specs.declared.time.Duration.{Duration}
use Rattle.sctp_serial.specs.declared.api.LifecycleId.{LifecycleId}
use Rattle.sctp_state.specs.declared.api.options.SendOptions.{SendOptions}
use Rattle.sctp_state.specs.declared.api.errors.BatchFault.{BatchFault}
use Rattle.sctp_state.specs.declared.api.errors.BatchFault.TheVariants.{Refused, Memory, Failed}
use Rattle.sctp_state.specs.contracts.api.errors.BatchFaultPartialEq.TheImpl.{ghosts}
use Rattle.sctp_state.specs.Errors.{batch_number, refused_messages}

options_decide : {T : Type 0} (equal : T → T → Bool) → ((x y : T) → Decides (equal x y) (x ≡ y)) → (a b : Option T) → Decides (option_eq equal a b) (a ≡ b)
options_decide equal each None None = (λ e. refl, λ e. refl)
options_decide equal each None (Some y) = (λ e. cc, λ e. cc)
options_decide equal each (Some x) None = (λ e. cc, λ e. cc)
options_decide equal each (Some x) (Some y) = (λ e. ap Some ((each x y).0 e), λ e. (each x y).1 (cc))

both_decide : {A B : Type 0} (first second : Bool) → Decides first A → Decides second B → Decides (first && second) (A × B)
both_decide true second a b = (λ e. (a.0 refl, b.0 e), λ both. b.1 both.1)
both_decide false second a b = (λ e. cc, λ both. a.1 both.0)

pub send_options_decide : (same_span : Duration → Duration → Bool) (same_id : LifecycleId → LifecycleId → Bool) → ((x y : Duration) → Decides (same_span x y) (x ≡ y)) → ((x y : LifecycleId) → Decides (same_id x y) (x ≡ y)) → (a b : SendOptions)
    → Decides (beq a.unordered b.unordered && (option_eq same_span a.lifetime b.lifetime && (option_eq (λ x y. x == y) a.max_retransmissions b.max_retransmissions && option_eq same_id a.lifecycle_id b.lifecycle_id))) (a ≡ b)
send_options_decide same_span same_id spans ids a b =
    let fields = both_decide _ _ (booleans_Decides a.unordered b.unordered) (both_decide _ _ (options_decide same_span spans a.lifetime b.lifetime)
    (both_decide _ _ (options_decide (λ x y. x == y) unsigned_Decides a.max_retransmissions b.max_retransmissions) (options_decide same_id ids a.lifecycle_id b.lifecycle_id))) in (
      λ e. let same = fields.0 e in (λ i. record { unordered = same.0 i; lifetime = same.1.0 i; max_retransmissions = same.1.1.0 i; lifecycle_id = same.1.1.1 i }),
      λ e. fields.1 (ap (λ (o : SendOptions). o.unordered) e, (ap (λ (o : SendOptions). o.lifetime) e, (ap (λ (o : SendOptions). o.max_retransmissions) e, ap (λ (o : SendOptions). o.lifecycle_id) e))),
    )

pub batches_decide : (a b : BatchFault) → Decides (ghosts.eq a b) ((batch_number a ≡ batch_number b) × (refused_messages a ≡ refused_messages b))
batches_decide (Refused x) (Refused y) =
    let refused = pointwise_decides (λ x y. search rules) x.0.items y.0.items in
    (λ e. (refl, refused.0 e), λ both. refused.1 both.1)
batches_decide (Refused x) Memory = (λ e. cc, λ both. cc)
batches_decide (Refused x) Failed = (λ e. cc, λ both. cc)
batches_decide Memory (Refused y) = (λ e. cc, λ both. cc)
batches_decide Memory Memory = (λ e. (refl, refl), λ both. refl)
batches_decide Memory Failed = (λ e. cc, λ both. cc)
batches_decide Failed (Refused y) = (λ e. cc, λ both. cc)
batches_decide Failed Memory = (λ e. cc, λ both. cc)
batches_decide Failed Failed = (λ e. (refl, refl), λ both. refl)
