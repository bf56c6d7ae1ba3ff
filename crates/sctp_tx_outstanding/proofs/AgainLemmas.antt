-- A record brings the items back.
use Rattle.std.proofs.Common.{◌≡◌, ℕ, suc, ◌+◌, ◌-◌, ◌%◌, ◌<◌, cond, Option, List, [], ◌∷◌, length, refl, ap, ◌∙◌, arith}
use Rattle.std.specs.Prelude.{option_map, unwrap_or}
use Rattle.sctp_serial.specs.SerialNumber.{serial_difference}
use Rattle.sctp_serial.specs.Unwrapped.{origin, u32_space, wire}
use Rattle.sctp_state.specs.Handover.{Transmission}
use Rattle.sctp_state.specs.HandoverTimes.{lifecycle_from, moment_again, lifecycle_again}
use Rattle.sctp_tx_outstanding.specs.declared.item.ItemState.{ItemState}
use Rattle.sctp_tx_outstanding.specs.declared.item.ItemState.TheVariants.{InFlight, Missing, Queued, QueuedFast, Acked, GivenUp}
use Rattle.sctp_tx_outstanding.specs.Item.{Item, demote_fast, waits, has_nack, has_ack, is_given_up}
use Rattle.sctp_tx_outstanding.specs.OutstandingData.{Outstanding}
use Rattle.sctp_tx_outstanding.specs.Handover.{item_record, item_from, items_from, item_records, reports_in, handed_over, restore}
use Rattle.sctp_tx_outstanding.specs.Again.{item_again, items_again, ComesBack}
use Rattle.sctp_state.proofs.HandoverLemmas.{expires_is, lifecycle_is}

state_is : (s : ItemState) → cond (has_ack s) Acked (cond (is_given_up s) GivenUp (cond (waits s) Queued (cond (has_nack s) Missing InFlight))) ≡ demote_fast s
state_is InFlight = refl
state_is Missing = refl
state_is Queued = refl
state_is QueuedFast = refl
state_is Acked = refl
state_is GivenUp = refl

item_is : (now : ℕ) (i : Item) → item_from now (item_record now i) ≡ item_again now i
item_is now i =
    ap (λ x. with x (lifecycle_from (unwrap_or i.lifecycle 0)) (cond (has_ack i.state) Acked (cond (is_given_up i.state) GivenUp (cond (waits i.state) Queued (cond (has_nack i.state) Missing InFlight))))) (expires_is now i.expires)
    ∙ ap (λ x. with (option_map (moment_again now) i.expires) x (cond (has_ack i.state) Acked (cond (is_given_up i.state) GivenUp (cond (waits i.state) Queued (cond (has_nack i.state) Missing InFlight))))) (lifecycle_is i.lifecycle)
    ∙ ap (λ x. with (option_map (moment_again now) i.expires) (lifecycle_again i.lifecycle) x) (state_is i.state)
  where
    with : Option ℕ → Option ℕ → ItemState → Item
    with expires lifecycle state = record (item_again now i) { expires = expires; lifecycle = lifecycle; state = state; reports = reports_in state }

items_are : (now : ℕ) (is : List Item) → items_from now (item_records now is) ≡ items_again now is
items_are now [] = refl
items_are now (i ∷ is) = ap (λ x. x ∷ items_from now (item_records now is)) (item_is now i) ∙ ap (λ xs. item_again now i ∷ xs) (items_are now is)

count_is : (now : ℕ) (is : List Item) → length (items_from now (item_records now is)) ≡ length is
count_is now [] = refl
count_is now (i ∷ is) = ap suc (count_is now is)

tsn_is : (first other n : ℕ) → first ≡ other → first < u32_space
    → wire u32_space other (origin - 1 + serial_difference u32_space ((wire u32_space first n + 1) % u32_space) other) ≡ wire u32_space first n
tsn_is first other n same small = omega (arith, same, small)

next_is : (first other n m count more : ℕ) → first ≡ other → more ≡ count → wire u32_space other m ≡ wire u32_space first n
    → wire u32_space other (m + 1 + more) ≡ wire u32_space first (n + 1 + count)
next_is first other n m count more same as_many tsn = omega (arith, same, as_many, tsn)

least_is : (first other n : ℕ) → origin - 1 + serial_difference u32_space ((wire u32_space first n + 1) % u32_space) other + 1 < origin + u32_space
least_is first other n = omega arith

pub comes_back : (now : ℕ) (tx : Transmission) (d other : Outstanding) → d.first ≡ other.first → d.first < u32_space → ComesBack d (restore now (handed_over now d tx) other) now
comes_back now tx d other same small =
    let n = d.items.acked in
    let m : ℕ = origin - 1 + serial_difference u32_space ((wire u32_space d.first n + 1) % u32_space) other.first in
    record {
      items = items_are now d.items.kept;
      cumulative = tsn_is d.first other.first n same small;
      next = next_is d.first other.first n m (length d.items.kept) _ same (count_is now d.items.kept) (tsn_is d.first other.first n same small);
      least = least_is d.first other.first n;
    }
