-- A missing report says nothing of what isn't outstanding.
use Rattle.std.proofs.Common.{◌≡◌, ℕ, zero, suc, ◌+◌, ◌-◌, ◌≤◌, ◌||◌, ◌&&◌, Bool, false, cond, List, [], ◌∷◌, refl, ap, sym, ◌∙◌, arith}
use Rattle.std.specs.Prelude.{Option, Some, None, unwrap_or, option_map, slice_get}
use Rattle.sctp_state.specs.Events.{Emitted}
use Rattle.sctp_state.specs.declared.api.GivenUpCause.TheVariants.{Retransmissions}
use Rattle.sctp_tx_outstanding.specs.declared.item.MissIndication.{MissIndication}
use Rattle.sctp_tx_outstanding.specs.Item.{Item, is_in_flight, nack, is_lost, is_used_up}
use Rattle.sctp_tx_outstanding.specs.OutstandingData.{Items, Outstanding, change_at}
use Rattle.sctp_tx_outstanding.specs.Losses.{Step, first_step, abandon_with_record, is_to_be_abandoned, loses, change_items, nack_item, nack_at, nack_below}
use Rattle.sctp_tx_outstanding.specs.Flights.{flies_of, flies_at, NoneFlies}
use Rattle.sctp_tx_outstanding.proofs.ReceivedLemmas.{nack_still}
use Rattle.sctp_tx_outstanding.proofs.LossesLemmas.{or_false}

same_at : (indication : MissIndication) (fast : Bool) (k : ℕ) (is : List Item) → flies_at k is ≡ false → change_at k (nack indication fast) is ≡ is
same_at indication fast zero [] h = refl
same_at indication fast (suc k) [] h = refl
same_at indication fast zero (i ∷ is) h = ap (λ (j : Item). j ∷ is) (nack_still indication fast i h)
same_at indication fast (suc k) (i ∷ is) h = ap (λ js. i ∷ js) (same_at indication fast k is h)

module _ {P : Type 0} (indication : MissIndication) (fast : Bool) where
  pass_item : (k : ℕ) (x : Step P) (i : Item) → is_in_flight i.state ≡ false → change_at k (nack indication fast) x.items.kept ≡ x.items.kept → nack_item indication fast k i x ≡ x
  pass_item k x i h same =
      let no : is_to_be_abandoned x.items.is_partial indication i ≡ false = ap (λ b. (b && is_lost indication i) && (x.items.is_partial && is_used_up i)) h in
      let quiet : (x.is_lossy || loses indication i) ≡ x.is_lossy = ap (λ b. x.is_lossy || (b && is_lost indication i)) h ∙ sym (or_false x.is_lossy) in
      ap (λ b. cond b (abandon_with_record i.number (Retransmissions (i.sent - 1)) x) (record x { items = change_items k (nack indication fast) x.items; is_lossy = x.is_lossy || loses indication i })) no
      ∙ (λ j. record { items = record x.items { kept = same j }; emitted = x.emitted; is_lossy = quiet j })

  pass_option : (k : ℕ) (x : Step P) (o : Option Item) → flies_of o ≡ false → change_at k (nack indication fast) x.items.kept ≡ x.items.kept
      → unwrap_or (option_map (λ i. nack_item indication fast k i x) o) x ≡ x
  pass_option k x None h same = refl
  pass_option k x (Some i) h same = pass_item k x i h same

  pub pass_at : (k : ℕ) (x : Step P) → flies_at k x.items.kept ≡ false → nack_at indication fast k x ≡ x
  pass_at k x h = pass_option k x (slice_get x.items.kept k) h (same_at indication fast k x.items.kept h)

  pass_more : (x : Step P) (more place next : ℕ) → next ≡ more + place → NoneFlies place next (nack_below indication fast place x).items.kept
      → nack_below indication fast next x ≡ nack_below indication fast place x
  pass_more x zero place next e h =
      let same : next ≡ place = omega (arith, e) in
      ap (λ n. nack_below indication fast n x) same
  pass_more x (suc more) place next e h =
      let is_next : next ≡ suc (more + place) = omega (arith, e) in
      let ih = pass_more x more place (more + place) refl (λ p le less. h p le (omega (arith, e, less))) in
      ap (λ n. nack_below indication fast n x) is_next ∙ ap (λ (y : Step P). nack_at indication fast (more + place) y) ih
      ∙ pass_at (more + place) (nack_below indication fast place x) (h (more + place) (omega arith) (omega (arith, e)))

  pub passed : (x : Step P) (place next : ℕ) → place ≤ next → NoneFlies place next (nack_below indication fast place x).items.kept
      → nack_below indication fast next x ≡ nack_below indication fast place x
  passed x place next le h = pass_more x (next - place) place next (omega (arith, le)) h

module _ {P : Type 0} (indication : MissIndication) (fast : Bool) (k : ℕ) (s : Items) (emitted : Emitted P) (quiet : flies_at k s.kept ≡ false) where
  pub still_items : (d : Outstanding) → d.items ≡ s → d ≡ record d { items = (nack_at indication fast k (first_step s emitted)).items }
  still_items d same = ap (λ (z : Items). record d { items = z }) (same ∙ sym (ap (λ (y : Step P). y.items) (pass_at indication fast k (first_step s emitted) quiet)))

  pub still_emitted : emitted ≡ (nack_at indication fast k (first_step s emitted)).emitted
  still_emitted = sym (ap (λ (y : Step P). y.emitted) (pass_at indication fast k (first_step s emitted) quiet))

  pub still_lossy : false ≡ (nack_at indication fast k (first_step s emitted)).is_lossy
  still_lossy = sym (ap (λ (y : Step P). y.is_lossy) (pass_at indication fast k (first_step s emitted) quiet))
