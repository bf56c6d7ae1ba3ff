-- Steps through the items, one more at a time.
use Rattle.std.proofs.Common.{◌≡◌, ℕ, suc, ◌+◌, ◌||◌, Bool, true, false, cond, refl, ap, sym, ◌∙◌, arith}
use Rattle.std.specs.Prelude.{Option, Some, None, unwrap_or, option_map, slice_get}
use Rattle.sctp_state.specs.Events.{Emitted}
use Rattle.sctp_tx_outstanding.specs.declared.item.MissIndication.{MissIndication}
use Rattle.sctp_tx_outstanding.specs.Item.{Item}
use Rattle.sctp_tx_outstanding.specs.OutstandingData.{Items, Outstanding}
use Rattle.sctp_tx_outstanding.specs.Losses.{Step, first_step, nack_item, nack_at, nack_below, is_to_be_abandoned}

or_true : (b : Bool) → true ≡ (b || true)
or_true true = refl
or_true false = refl

pub or_false : (b : Bool) → b ≡ (b || false)
or_false true = refl
or_false false = refl

-- the same but for what was lost before
abbrev Alike : {P : Type 0} → Bool → Step P → Step P → Type 0
Alike before y z = (y.items ≡ z.items) × (y.emitted ≡ z.emitted) × (y.is_lossy ≡ (before || z.is_lossy))

alike_cond : {P : Type 0} (before b : Bool) (y z v w : Step P) → Alike before y v → Alike before z w → Alike before (cond b y z) (cond b v w)
alike_cond before true y z v w h k = h
alike_cond before false y z v w h k = k

alike_item : {P : Type 0} (indication : MissIndication) (fast : Bool) (k : ℕ) (x : Step P) (i : Item) → Alike x.is_lossy (nack_item indication fast k i x) (nack_item indication fast k i (first_step x.items x.emitted))
alike_item indication fast k x i = alike_cond x.is_lossy (is_to_be_abandoned x.items.is_partial indication i) _ _ _ _ (refl, refl, or_true x.is_lossy) (refl, refl, refl)

alike_option : {P : Type 0} (indication : MissIndication) (fast : Bool) (k : ℕ) (x : Step P) (o : Option Item)
    → Alike x.is_lossy (unwrap_or (option_map (λ i. nack_item indication fast k i x) o) x)
    (unwrap_or (option_map (λ i. nack_item indication fast k i (first_step x.items x.emitted)) o) (first_step x.items x.emitted))
alike_option indication fast k x None = (refl, refl, or_false x.is_lossy)
alike_option indication fast k x (Some i) = alike_item indication fast k x i

alike_at : {P : Type 0} (indication : MissIndication) (fast : Bool) (k : ℕ) (x : Step P) → Alike x.is_lossy (nack_at indication fast k x) (nack_at indication fast k (first_step x.items x.emitted))
alike_at indication fast k x = alike_option indication fast k x (slice_get x.items.kept k)

one_more_lem : (k : ℕ) → suc k ≡ k + 1
one_more_lem k = omega arith

module _ {P : Type 0} (indication : MissIndication) (fast : Bool) (k : ℕ) (s : Items) (emitted : Emitted P) (now : Outstanding) (later : Emitted P) where
  abbrev before : Step P
  before = nack_below indication fast k (first_step s emitted)

  abbrev there : Step P
  there = nack_at indication fast k (first_step now.items later)

  module _ (d : Outstanding) (is_now : now ≡ record d { items = before.items }) (is_emitted : later ≡ before.emitted) where
    is_there : there ≡ nack_at indication fast k (first_step before.items before.emitted)
    is_there =
        ap (λ (n : Outstanding). nack_at indication fast k (first_step n.items later)) is_now
        ∙ ap (λ (t : Emitted P). nack_at indication fast k (first_step before.items t)) is_emitted

    pub nack_next_items : (next : Outstanding) → next ≡ record now { items = there.items } → next ≡ record d { items = (nack_below indication fast (k + 1) (first_step s emitted)).items }
    nack_next_items next is_next =
        is_next ∙ ap (λ (n : Outstanding). record n { items = there.items }) is_now
        ∙ ap (λ (x : Step P). record d { items = x.items }) is_there
        ∙ ap (λ (z : Items). record d { items = z }) (sym (alike_at indication fast k before).0)
        ∙ ap (λ n. record d { items = (nack_below indication fast n (first_step s emitted)).items }) (one_more_lem k)

    pub nack_next_emitted : (next : Emitted P) → next ≡ there.emitted → next ≡ (nack_below indication fast (k + 1) (first_step s emitted)).emitted
    nack_next_emitted next is_next =
        is_next ∙ ap (λ (x : Step P). x.emitted) is_there ∙ sym (alike_at indication fast k before).1
        ∙ ap (λ n. (nack_below indication fast n (first_step s emitted)).emitted) (one_more_lem k)

    pub nack_next_lossy : (lossy lost next : Bool) → lossy ≡ before.is_lossy → lost ≡ there.is_lossy → next ≡ (lossy || lost) → next ≡ (nack_below indication fast (k + 1) (first_step s emitted)).is_lossy
    nack_next_lossy lossy lost next is_lossy is_lost is_next =
        is_next ∙ ap (λ b. b || lost) is_lossy ∙ ap (λ b. before.is_lossy || b) (is_lost ∙ ap (λ (x : Step P). x.is_lossy) is_there)
        ∙ sym (alike_at indication fast k before).2 ∙ ap (λ n. (nack_below indication fast n (first_step s emitted)).is_lossy) (one_more_lem k)
