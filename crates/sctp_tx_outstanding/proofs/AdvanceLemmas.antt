-- A walk that settles items goes on, and passes over stretches that rest.
use Rattle.std.proofs.Common.{◌≡◌, ℕ, zero, suc, ◌+◌, ◌-◌, ◌^◌, ◌<◌, ◌≤◌, Bool, true, false, cond, List, [], ◌∷◌, length, drop, min, refl, ap, sym, subst, ◌∙◌, arith}
use Rattle.std.specs.Prelude.{slice_get}
use Rattle.std.proofs.Math.Bool.{beq}
use Rattle.std.proofs.Math.Seq.{drop-nil}
use Rattle.sctp_chunk.specs.declared.sack.GapAckBlock.{GapAckBlock}
use Rattle.sctp_chunk.specs.Covered.{is_covered}
use Rattle.sctp_tx_outstanding.specs.declared.sack.Covered.{Covered}
use Rattle.sctp_tx_outstanding.specs.Item.{Item, is_abandoned}
use Rattle.sctp_tx_outstanding.specs.Runs.{IsGivenUpOf}
use Rattle.sctp_tx_outstanding.specs.OutstandingData.{change_at}
use Rattle.sctp_tx_outstanding.specs.Sack.{ack_or_uncover, newly_of, bytes_of}
use Rattle.sctp_tx_outstanding.specs.Passes.{ack_or_uncover_from, acked_from, below_from, AllAre, Advances}
use Rattle.sctp_tx_outstanding.specs.LastBlocks.{Rest, RestBelow}
use Rattle.sctp_tx_outstanding.proofs.TotalsLemmas.{length_change}
use Rattle.sctp_tx_outstanding.proofs.ReceivedLemmas.{given_up_rests, given_up_stays, settle_front, acked_front, below_front, below_agree}
use Rattle.sctp_tx_outstanding.proofs.RunsLemmas.{given_up_is}
use Rattle.sctp_tx_outstanding.proofs.SackLemmas.{settle_step, acked_step, below_step, summed}

-- ---- behind so many items

up : (k : ℕ) → suc k ≡ k + 1
up k = omega arith

drop_changed : (k : ℕ) (f : Item → Item) (is : List Item) → drop (suc k) (change_at k f is) ≡ drop (suc k) is
drop_changed k f [] = refl
drop_changed zero f (i ∷ is) = refl
drop_changed (suc k) f (i ∷ is) = drop_changed k f is

behind_changed : (k : ℕ) (f : Item → Item) (is js : List Item) → js ≡ change_at k f is → drop (k + 1) js ≡ drop (k + 1) is
behind_changed k f is js e = ap (λ xs. drop (k + 1) xs) e ∙ subst (λ n. drop n (change_at k f is) ≡ drop n is) (up k) (drop_changed k f is)

drop_further : (b more c : ℕ) (is : List Item) → c ≡ b + more → drop c is ≡ drop more (drop b is)
drop_further zero more c is e = ap (λ n. drop n is) (omega (arith, e))
drop_further (suc b) more zero is e = absurd (omega (arith, e))
drop_further (suc b) more (suc c) [] e = sym (drop-nil more)
drop_further (suc b) more (suc c) (i ∷ is) e = drop_further b more c is (omega (arith, e))

same_further : (b c : ℕ) (is js : List Item) → b ≤ c → drop b js ≡ drop b is → drop c js ≡ drop c is
same_further b c is js le e =
    drop_further b (c - b) c js (omega (arith, le)) ∙ ap (λ xs. drop (c - b) xs) e ∙ sym (drop_further b (c - b) c is (omega (arith, le)))

pub rest_behind : (olds : List GapAckBlock) (k off o : ℕ) (is : List Item) → o ≡ k + off → Rest olds off is → Rest olds o (drop k is)
rest_behind olds zero off o is e h = subst (λ n. Rest olds n is) (omega (arith, e)) h
rest_behind olds (suc k) off o [] e h = tt
rest_behind olds (suc k) off o (i ∷ is) e h = rest_behind olds k (suc off) o is (omega (arith, e)) h.1

-- ---- items that were given up

rests_given_up : (covered : Bool) (i : Item) → is_abandoned i ≡ true → ack_or_uncover covered i ≡ i
rests_given_up true i h = given_up_rests i (given_up_is i.state h)
rests_given_up false i h = given_up_stays i (given_up_is i.state h)

rest_each : (bs : List GapAckBlock) (n o : ℕ) (is : List Item) → ((j : ℕ) → j < n → IsGivenUpOf (slice_get is j)) → RestBelow bs n o is
rest_each bs zero o is h = tt
rest_each bs (suc n) o [] h = tt
rest_each bs (suc n) o (i ∷ is) h = (rests_given_up (is_covered bs o) i (h 0 (omega arith)), rest_each bs n (suc o) is (λ j less. h (suc j) (omega (arith, less))))

pub rest_given_up : (bs : List GapAckBlock) (k n o : ℕ) (is : List Item) → ((j : ℕ) → k ≤ j → j < k + n → IsGivenUpOf (slice_get is j)) → RestBelow bs n o (drop k is)
rest_given_up bs zero n o is h = rest_each bs n o is (λ j less. h j (omega arith) (omega (arith, less)))
rest_given_up bs (suc k) zero o [] h = tt
rest_given_up bs (suc k) (suc n) o [] h = tt
rest_given_up bs (suc k) n o (i ∷ is) h = rest_given_up bs k n o is (λ j le less. h (suc j) (omega (arith, le)) (omega (arith, less)))

-- ---- earlier blocks and new ones that say the same

pub same_answer : (x y : Bool) → beq x y ≡ true → x ≡ y
same_answer true true h = refl
same_answer true false h = absurd (cc)
same_answer false true h = absurd (cc)
same_answer false false h = refl

pub rest_on : (olds bs : List GapAckBlock) (old new : Bool) (off k x y e : ℕ) (is : List Item) → old ≡ new → AllAre old olds off k x → AllAre new bs 1 k y → e ≤ x → e ≤ y → Rest olds (k + off) (drop k is)
    → RestBelow bs (e - k) (k + 1) (drop k is)
rest_on olds bs old new off k x y e is same a b le_x le_y h =
    below_agree olds bs (k + off) (k + 1) (e - k) (drop k is)
    (λ p less. ap (λ n. is_covered olds n) (omega arith) ∙ a (k + p) (omega arith) (omega (arith, less, le_x)) ∙ same ∙ sym (b (k + p) (omega arith) (omega (arith, less, le_y))) ∙ ap (λ n. is_covered bs n) (omega arith))
    h

module _ (bs : List GapAckBlock) where
  -- ---- the next n items rest

  settle_skip : (k n o p q : ℕ) (is : List Item) → p ≡ n + k → q ≡ n + o → RestBelow bs n o (drop k is) → ack_or_uncover_from bs p q is ≡ ack_or_uncover_from bs k o is
  settle_skip zero n o p q is a b h = ap (λ k. ack_or_uncover_from bs k q is) (omega (arith, a)) ∙ settle_front bs n o q is b h
  settle_skip (suc k) n o zero q is a b h = absurd (omega (arith, a))
  settle_skip (suc k) n o (suc p) q [] a b h = refl
  settle_skip (suc k) n o (suc p) q (i ∷ is) a b h = ap (λ js. i ∷ js) (settle_skip k n o p q is (omega (arith, a)) b h)

  acked_skip : (m : Bool) (k n o p q : ℕ) (is : List Item) → p ≡ n + k → q ≡ n + o → RestBelow bs n o (drop k is) → acked_from bs m p q is ≡ acked_from bs m k o is
  acked_skip m zero n o p q is a b h = ap (λ k. acked_from bs m k q is) (omega (arith, a)) ∙ acked_front bs m n o q is b h
  acked_skip m (suc k) n o zero q is a b h = absurd (omega (arith, a))
  acked_skip m (suc k) n o (suc p) q [] a b h = refl
  acked_skip m (suc k) n o (suc p) q (i ∷ is) a b h = acked_skip m k n o p q is (omega (arith, a)) b h

  below_skip : (k n o p q place there most : ℕ) (is : List Item) → p ≡ n + k → q ≡ n + o → there ≡ n + place → RestBelow bs n o (drop k is) → below_from bs p q there most is ≡ below_from bs k o place most is
  below_skip zero n o p q place there most is a b d h = ap (λ k. below_from bs k q there most is) (omega (arith, a)) ∙ below_front bs n o q place there most is b d h
  below_skip (suc k) n o zero q place there most is a b d h = absurd (omega (arith, a))
  below_skip (suc k) n o (suc p) q place there most [] a b d h = refl
  below_skip (suc k) n o (suc p) q place there most (i ∷ is) a b d h = below_skip k n o p q place there most is (omega (arith, a)) b d h

  pub passes : (m : Bool) (k e : ℕ) (c : Covered) (is : List Item) → k ≤ e → c.bytes < 2 ^ 64 → RestBelow bs (e - k) (k + 1) (drop k is) → Advances bs m k e c c is is
  passes m k e c is le fits h =
      let p : e ≡ (e - k) + k = omega (arith, le) in
      let q : e + 1 ≡ (e - k) + (k + 1) = omega (arith, le) in
      record {
        length = refl;
        behind = refl;
        items = settle_skip k (e - k) (k + 1) e (e + 1) is p q h;
        fits = fits;
        bytes = ap (λ n. min (c.bytes + n) (2 ^ 64 - 1)) (acked_skip m k (e - k) (k + 1) e (e + 1) is p q h);
        below = below_skip k (e - k) (k + 1) e (e + 1) k e c.below is p q p h;
      }

  -- ---- a walk that stays, goes one item on, or further

  pub stays : (m : Bool) (k : ℕ) (c : Covered) (is : List Item) → c.bytes < 2 ^ 64 → Advances bs m k k c c is is
  stays m k c is fits = record { length = refl; behind = refl; items = refl; fits = fits; bytes = refl; below = refl }

  step : (m : Bool) (k : ℕ) (c d : Covered) (is js : List Item) → k < length is → js ≡ change_at k (ack_or_uncover (is_covered bs (k + 1))) is
      → d.bytes ≡ min (c.bytes + bytes_of (is_covered bs (k + 1)) m (slice_get is k)) (2 ^ 64 - 1) → d.below ≡ cond (newly_of (is_covered bs (k + 1)) (slice_get is k)) k c.below → Advances bs m k (k + 1) c d is js
  step m k c d is js less there more below =
      let f : Item → Item = ack_or_uncover (is_covered bs (k + 1)) in
      let part : ℕ = bytes_of (is_covered bs (k + 1)) m (slice_get is k) in
      record {
        length = ap (λ xs. length xs) there ∙ length_change k f is;
        behind = behind_changed k f is js there;
        items = settle_step bs k is js there;
        fits = omega (arith, more);
        bytes = summed c.bytes part (acked_from bs m (k + 1) (k + 1 + 1) js) d.bytes _ (2 ^ 64 - 1) more (ap (λ n. min (c.bytes + n) (2 ^ 64 - 1)) (acked_step bs m f k is js there));
        below = below_step bs f k c.below d.below is js less there below;
      }

  pub step_by : (covered m : Bool) (k : ℕ) (c d : Covered) (is js : List Item) → is_covered bs (k + 1) ≡ covered → k < length is → js ≡ change_at k (ack_or_uncover covered) is
      → d.bytes ≡ min (c.bytes + bytes_of covered m (slice_get is k)) (2 ^ 64 - 1) → d.below ≡ cond (newly_of covered (slice_get is k)) k c.below → Advances bs m k (k + 1) c d is js
  step_by covered m k c d is js same less there more below =
      step m k c d is js less (there ∙ ap (λ b. change_at k (ack_or_uncover b) is) (sym same)) (more ∙ ap (λ b. min (c.bytes + bytes_of b m (slice_get is k)) (2 ^ 64 - 1)) (sym same))
      (below ∙ ap (λ b. cond (newly_of b (slice_get is k)) k c.below) (sym same))

  pub further : (m : Bool) (a b e : ℕ) (x y z : Covered) (is js ks : List Item) → b ≤ e → Advances bs m a b x y is js → Advances bs m b e y z js ks → Advances bs m a e x z is ks
  further m a b e x y z is js ks le h g = record {
    length = g.length ∙ h.length;
    behind = g.behind ∙ same_further b e is js le h.behind;
    items = g.items ∙ h.items;
    fits = g.fits;
    bytes = g.bytes ∙ h.bytes;
    below = g.below ∙ h.below;
  }

  -- ---- the end of a walk

  pub settle_end : (k o : ℕ) (is : List Item) → length is ≤ k → ack_or_uncover_from bs k o is ≡ is
  settle_end zero o [] le = refl
  settle_end zero o (i ∷ is) le = absurd (omega (arith, le))
  settle_end (suc k) o [] le = refl
  settle_end (suc k) o (i ∷ is) le = ap (λ js. i ∷ js) (settle_end k o is (omega (arith, le)))

  pub acked_end : (m : Bool) (k o : ℕ) (is : List Item) → length is ≤ k → acked_from bs m k o is ≡ 0
  acked_end m zero o [] le = refl
  acked_end m zero o (i ∷ is) le = absurd (omega (arith, le))
  acked_end m (suc k) o [] le = refl
  acked_end m (suc k) o (i ∷ is) le = acked_end m k o is (omega (arith, le))

  pub below_end : (k o place most : ℕ) (is : List Item) → length is ≤ k → below_from bs k o place most is ≡ most
  below_end zero o place most [] le = refl
  below_end zero o place most (i ∷ is) le = absurd (omega (arith, le))
  below_end (suc k) o place most [] le = refl
  below_end (suc k) o place most (i ∷ is) le = below_end k o place most is (omega (arith, le))
