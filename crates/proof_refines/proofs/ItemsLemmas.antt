-- The items, as one is added, some leave, or their states change.
use Rattle.std.proofs.Common.{◌≡◌, ℕ, zero, suc, ◌+◌, ◌<◌, ◌≤◌, Bool, true, false, Option, List, [], ◌∷◌, ◌++◌, length, drop, refl, sym, ap, ◌∙◌, subst, arith}
use Rattle.sctp_chunk.specs.declared.sack.GapAckBlock.{GapAckBlock}
use Rattle.sctp_packet.specs.Covered.{is_covered}
use Rattle.sctp_tx_outstanding.specs.declared.item.MissIndication.{MissIndication}
use Rattle.sctp_tx_outstanding.specs.Item.{Item, is_lost, is_abandoned, ack, uncover, nack, mark_as_retransmitted, miss_fast}
use Rattle.sctp_tx_outstanding.specs.OutstandingData.{change_at}
use Rattle.sctp_tx_outstanding.specs.Sack.{ack_or_uncover_all, ack_or_uncover}
use Rattle.proof_protocol.specs.State.{Message, Fragment, Sender, fragment, place_of, count}
use Rattle.proof_refines.specs.SenderRefinement.{tree_of, StandsFor, AreKept}
use Rattle.sctp_tx_outstanding.proofs.RecordLemmas.{resent_same, slowed_same, acked_same, uncovered_same, nacked_same}

module _ (message : ℕ → Message) (lifecycle : ℕ → Option ℕ) where
  pub kept_below : (o : Sender) (t : ℕ) (is : List Item) → AreKept message lifecycle o t is → t ≤ count o
  kept_below o t [] a = omega (arith, a)
  kept_below o t (i ∷ is) a = let b = kept_below o (suc t) is a.1 in omega (arith, b)

  pub kept_count : (o : Sender) (t : ℕ) (is : List Item) → AreKept message lifecycle o t is → t + length is ≡ count o
  kept_count o t [] a = omega (arith, a)
  kept_count o t (i ∷ is) a = let b = kept_count o (suc t) is a.1 in omega (arith, b)

  -- ---- the sender goes on

  tree_moves : (o o' : Sender) (f : Fragment) → o'.written f.place ≡ o.written f.place → tree_of message o f ≡ tree_of message o' f
  tree_moves o o' f e = ap (λ n. tree_of message (record o { written = λ q. n }) f) (sym e)

  pub stands_moves : (o o' : Sender) (f : Fragment) (i : Item) → o'.written f.place ≡ o.written f.place → o'.given_up f.place ≡ o.given_up f.place
      → StandsFor message lifecycle o f i → StandsFor message lifecycle o' f i
  stands_moves o o' f i n g a = record {
    place = a.place;
    carried = a.carried ∙ tree_moves o o' f n;
    lifecycle_id = a.lifecycle_id;
    given_up = a.given_up ∙ sym g;
    placeholder = λ h. g ∙ a.placeholder h;
  }

  -- what is numbered stays as it is
  pub record Stays (o o' : Sender) : Type 0 where
    pub same : (t : ℕ) → t < count o → fragment o' t ≡ fragment o t
    pub number : (t : ℕ) → t < count o → o'.written (place_of o t) ≡ o.written (place_of o t)
    pub given_up : (t : ℕ) → t < count o → o'.given_up (place_of o t) ≡ o.given_up (place_of o t)

  stands_on : (o o' : Sender) (t : ℕ) (i : Item) → Stays o o' → t < count o → StandsFor message lifecycle o (fragment o t) i → StandsFor message lifecycle o' (fragment o' t) i
  stands_on o o' t i s l a =
      subst (λ (f : Fragment). StandsFor message lifecycle o' f i) (sym (s.same t l)) (stands_moves o o' (fragment o t) i (s.number t l) (s.given_up t l) a)

  pub kept_moves : (o o' : Sender) → Stays o o' → count o' ≡ count o → (t : ℕ) (is : List Item) → AreKept message lifecycle o t is → AreKept message lifecycle o' t is
  kept_moves o o' s c t [] a = a ∙ sym c
  kept_moves o o' s c t (i ∷ is) a = (stands_on o o' t i s (kept_below o (suc t) is a.1) a.0, kept_moves o o' s c (suc t) is a.1)

  pub kept_push : (o o' : Sender) → Stays o o' → count o' ≡ suc (count o) → (i : Item) → StandsFor message lifecycle o' (fragment o' (count o)) i
      → (t : ℕ) (is : List Item) → AreKept message lifecycle o t is → AreKept message lifecycle o' t (is ++ i ∷ [])
  kept_push o o' s c i new t [] a = (subst (λ z. StandsFor message lifecycle o' (fragment o' z) i) (sym a) new, ap suc a ∙ sym c)
  kept_push o o' s c i new t (j ∷ is) a = (stands_on o o' t j s (kept_below o (suc t) is a.1) a.0, kept_push o o' s c i new (suc t) is a.1)

  -- ---- items leave

  pub kept_drop : (o : Sender) (t n : ℕ) (is : List Item) → n ≤ length is → AreKept message lifecycle o t is → AreKept message lifecycle o (t + n) (drop n is)
  kept_drop o t zero is l a = subst (λ z. AreKept message lifecycle o z is) (let e : t ≡ t + 0 = omega arith in e) a
  kept_drop o t (suc n) [] l a = absurd (omega (arith, l))
  kept_drop o t (suc n) (i ∷ is) l a =
      subst (λ z. AreKept message lifecycle o z (drop n is)) (let e : suc t + n ≡ t + suc n = omega arith in e) (kept_drop o (suc t) n is (omega (arith, l)) a.1)

-- ---- an item changes, and is not given up by it

pub record Alike (i j : Item) : Type 0 where
  pub place : j.number ≡ i.number
  pub carried : j.fragment ≡ i.fragment
  pub lifecycle_id : j.lifecycle ≡ i.lifecycle
  pub given_up : is_abandoned j ≡ is_abandoned i

pub by_ack : (i : Item) → Alike i (ack i)
by_ack i = record { place = refl; carried = refl; lifecycle_id = refl; given_up = acked_same i.state }

pub by_uncover : (i : Item) → Alike i (uncover i)
by_uncover i = record { place = refl; carried = refl; lifecycle_id = refl; given_up = uncovered_same i.state }

pub by_nack : (indication : MissIndication) (fast : Bool) (i : Item) → Alike i (nack indication fast i)
by_nack indication fast i = record { place = refl; carried = refl; lifecycle_id = refl; given_up = nacked_same (is_lost indication i) fast i.state }

pub by_resending : (i : Item) → Alike i (mark_as_retransmitted i)
by_resending i = record { place = refl; carried = refl; lifecycle_id = refl; given_up = resent_same i.state }

pub by_missing : (i : Item) → Alike i (miss_fast i)
by_missing i = record { place = refl; carried = refl; lifecycle_id = refl; given_up = slowed_same i.state }

by_settling : (b : Bool) (i : Item) → Alike i (ack_or_uncover b i)
by_settling true i = by_ack i
by_settling false i = by_uncover i

module _ (message : ℕ → Message) (lifecycle : ℕ → Option ℕ) (o : Sender) where
  pub stands_alike : (f : Fragment) (i j : Item) → Alike i j → StandsFor message lifecycle o f i → StandsFor message lifecycle o f j
  stands_alike f i j s a = record {
    place = s.place ∙ a.place;
    carried = s.carried ∙ a.carried;
    lifecycle_id = s.lifecycle_id ∙ a.lifecycle_id;
    given_up = s.given_up ∙ a.given_up;
    placeholder = a.placeholder;
  }

  pub kept_changed : (g : Item → Item) → ((i : Item) → Alike i (g i)) → (k t : ℕ) (is : List Item) → AreKept message lifecycle o t is → AreKept message lifecycle o t (change_at k g is)
  kept_changed g s k t [] a = a
  kept_changed g s zero t (i ∷ is) a = (stands_alike (fragment o t) i (g i) (s i) a.0, a.1)
  kept_changed g s (suc k) t (i ∷ is) a = (a.0, kept_changed g s k (suc t) is a.1)

  pub kept_settled : (blocks : List GapAckBlock) (offset t : ℕ) (is : List Item) → AreKept message lifecycle o t is → AreKept message lifecycle o t (ack_or_uncover_all blocks offset is)
  kept_settled blocks offset t [] a = a
  kept_settled blocks offset t (i ∷ is) a =
      (stands_alike (fragment o t) i (ack_or_uncover (is_covered blocks offset) i) (by_settling (is_covered blocks offset) i) a.0, kept_settled blocks (suc offset) (suc t) is a.1)
