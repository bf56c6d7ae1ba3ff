-- What is kept is empty after a loss, an expiry or a sending again just where it was before.
use Rattle.std.proofs.Common.{◌≡◌, ℕ, zero, suc, Bool, true, false, cond, Option, Some, None, List, [], ◌∷◌, length, refl, ◌∙◌}
use Rattle.std.specs.Prelude.{◌==◌, ◌||◌, ◌-◌, option_map, unwrap_or, slice_get, nat_le}
use Rattle.sctp_state.specs.Events.{Emitted}
use Rattle.sctp_state.specs.declared.api.GivenUpCause.TheVariants.{Retransmissions}
use Rattle.sctp_tx_outstanding.specs.declared.item.MissIndication.{MissIndication}
use Rattle.sctp_tx_outstanding.specs.declared.item.MissIndication.TheVariants.{Timeout}
use Rattle.sctp_tx_outstanding.specs.Item.{Item, is_fast, should_be_retransmitted, nack, mark_as_retransmitted, miss_fast}
use Rattle.sctp_tx_outstanding.specs.OutstandingData.{Items, Outstanding, change_at, flight_items}
use Rattle.sctp_tx_outstanding.specs.Losses.{Step, abandon_message, abandon_with_record, change_items, is_to_be_abandoned, loses, nack_item, nack_at, nack_below, nack_all, first_step, given_up_if, expired_at, expire_below, expire_outstanding}
use Rattle.sctp_tx_outstanding.specs.Resending.{Resent, size_in, allowance, again_of, apply_turn, turn_of, step_at, resent_below, resend, empty_packet}
use Rattle.proof_awake.specs.Awake.{is_none}

-- of the items of what an operation leaves, and of what it began with
abbrev pub Alike : List Item → List Item → Type 0
Alike before after = is_none after ≡ is_none before

pub none_changed : (k : ℕ) (f : Item → Item) (is : List Item) → Alike is (change_at k f is)
none_changed k f [] = refl
none_changed zero f (i ∷ is) = refl
none_changed (suc k) f (i ∷ is) = refl

pub is_no_item : (is : List Item) → is_none is ≡ true → is ≡ []
is_no_item [] h = refl
is_no_item (i ∷ is) h = absurd (cc)

none_given_up : (number : ℕ) (s : Items) (is : List Item) → s.kept ≡ is → Alike is (abandon_message number (record s { kept = is })).kept
none_given_up number s [] e = refl
none_given_up number s (i ∷ is) e = refl

pub none_abandoned : (number : ℕ) (s : Items) → Alike s.kept (abandon_message number s).kept
none_abandoned number s = none_given_up number s s.kept refl

module _ {P : Type 0} where
  none_missing : (indication : MissIndication) (fast : Bool) (k : ℕ) (i : Item) (x : Step P) → Alike x.items.kept (nack_item indication fast k i x).items.kept
  none_missing indication fast k i x = go (is_to_be_abandoned x.items.is_partial indication i)
    where
      given : Step P
      given = abandon_with_record i.number (Retransmissions (i.sent - 1)) x

      missing : Step P
      missing = record x { items = change_items k (nack indication fast) x.items; is_lossy = x.is_lossy || loses indication i }

      go : (b : Bool) → Alike x.items.kept (let y : Step P = cond b given missing in y).items.kept
      go true = none_abandoned i.number x.items
      go false = none_changed k (nack indication fast) x.items.kept

  none_at : (indication : MissIndication) (fast : Bool) (k : ℕ) (x : Step P) → Alike x.items.kept (nack_at indication fast k x).items.kept
  none_at indication fast k x = go (slice_get x.items.kept k)
    where
      go : (o : Option Item) → Alike x.items.kept (unwrap_or (option_map (λ i. nack_item indication fast k i x) o) x).items.kept
      go None = refl
      go (Some i) = none_missing indication fast k i x

  pub none_below : (indication : MissIndication) (fast : Bool) (n : ℕ) (x : Step P) → Alike x.items.kept (nack_below indication fast n x).items.kept
  none_below indication fast zero x = refl
  none_below indication fast (suc n) x = none_at indication fast n (nack_below indication fast n x) ∙ none_below indication fast n x

  pub none_lost : (s : Items) (e : Emitted P) → Alike s.kept (nack_all s e).items.kept
  none_lost s e = none_below Timeout false (length s.kept) (first_step s e)

  none_expired_if : (o : Option ℕ) (x : Step P) → Alike x.items.kept (given_up_if o x).items.kept
  none_expired_if None x = refl
  none_expired_if (Some number) x = none_abandoned number x.items

  none_expired_below : (now n : ℕ) (x : Step P) → Alike x.items.kept (expire_below now n x).items.kept
  none_expired_below now zero x = refl
  none_expired_below now (suc n) x =
      let y : Step P = expire_below now n x in
      none_expired_if (expired_at now n y.items) y ∙ none_expired_below now n x

  pub none_expired : (now : ℕ) (s : Items) (e : Emitted P) → Alike s.kept (expire_outstanding now s e).items.kept
  none_expired now s e = none_expired_below now (length s.kept) (first_step s e)

-- ---- sent again

abbrev kept_in : Resent → List Item
kept_in x = x.outstanding.items.kept

none_again : (k : ℕ) (o : Option Item) (x : Resent) → Alike (kept_in x) (kept_in (again_of k o x))
none_again k None x = refl
none_again k (Some i) x = none_changed k mark_as_retransmitted (kept_in x)

module _ (k : ℕ) (x : Resent) where
  abbrev Turned : Resent → Type 0
  Turned y = Alike (kept_in x) (kept_in y)

  sent_once_more : Turned (again_of k (slice_get (kept_in x) k) x)
  sent_once_more = none_again k (slice_get (kept_in x) k) x

  fast_case : (i : Item) → (b c : Bool) → is_fast i ≡ b → nat_le (size_in x i) x.room ≡ c → Turned (apply_turn (turn_of true (Some i) x) k x)
  fast_case i true true e f = rw e (rw f sent_once_more)
  fast_case i true false e f = rw e (rw f (none_changed k miss_fast (kept_in x)))
  fast_case i false c e f = rw e refl

  queued_case : (i : Item) → (b c : Bool) → should_be_retransmitted i ≡ b → nat_le (size_in x i) (allowance x) ≡ c → Turned (apply_turn (turn_of false (Some i) x) k x)
  queued_case i true true e f = rw e (rw f sent_once_more)
  queued_case i true false e f = rw e (rw f refl)
  queued_case i false c e f = rw e refl

  by_item : (fast : Bool) (o : Option Item) → Turned (apply_turn (turn_of fast o x) k x)
  by_item true None = refl
  by_item false None = refl
  by_item true (Some i) = fast_case i (is_fast i) (nat_le (size_in x i) x.room) refl refl
  by_item false (Some i) = queued_case i (should_be_retransmitted i) (nat_le (size_in x i) (allowance x)) refl refl

  none_turned : (fast : Bool) → Turned (step_at fast k x)
  none_turned fast = by_item fast (slice_get (kept_in x) k)

none_resent_below : (fast : Bool) (n : ℕ) (x : Resent) → Alike (kept_in x) (kept_in (resent_below fast n x))
none_resent_below fast zero x = refl
none_resent_below fast (suc n) x =
    let y : Resent = resent_below fast n x in
    none_turned n y fast ∙ none_resent_below fast n x

pub none_resent : (fast : Bool) (room window : ℕ) (d : Outstanding) → Alike d.items.kept (kept_in (resend fast room window d))
none_resent fast room window d = none_resent_below fast (length d.items.kept) (empty_packet room window d)

-- ---- what is in flight is kept

some_in_flight : (s : Items) (is : List Item) → s.kept ≡ is → (flight_items (record s { kept = is }) == 0) ≡ false → is_none is ≡ false
some_in_flight s [] e h = absurd (cc)
some_in_flight s (i ∷ is) e h = refl

pub some_flight : (s : Items) → (flight_items s == 0) ≡ false → is_none s.kept ≡ false
some_flight s h = some_in_flight s s.kept refl h
