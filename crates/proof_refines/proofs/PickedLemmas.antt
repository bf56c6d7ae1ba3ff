-- Items that are sent again, from the first place on.
use Rattle.std.proofs.Common.{◌≡◌, ℕ, zero, suc, ◌+◌, ◌-◌, ◌<◌, ◌≤◌, ◌==◌, Bool, true, false, cond, Option, Some, List, [], ◌∷◌, ◌++◌, length, length-append, append_assoc, append-nil, refl, sym, ap, subst, ◌∙◌, arith}
use Rattle.std.specs.Prelude.{nat_le, slice_get}
use Rattle.std.specs.List.{sum_by}
use Rattle.std.proofs.lemmas.Bool.{leb-true, leb-false}
use Rattle.std.proofs.lemmas.Bool.Decides.{nat_tests}
use Rattle.std.proofs.lemmas.List.Sums.{sum_by-append, sum_by-cons}
use Rattle.sctp_chunk.specs.Chunk.{FragmentTree}
use Rattle.sctp_serial.specs.Unwrapped.{u32_space, wire}
use Rattle.sctp_tx_outstanding.specs.declared.item.ItemState.{ItemState}
use Rattle.sctp_tx_outstanding.specs.declared.item.ItemState.TheVariants.{InFlight, Missing, Queued, QueuedFast, Acked, GivenUp}
use Rattle.sctp_tx_outstanding.specs.Item.{Item, is_in_flight, waits, waits_fast, resent, is_fast, should_be_retransmitted, chunk_size, mark_as_retransmitted, miss_fast}
use Rattle.sctp_tx_outstanding.specs.OutstandingData.{Outstanding, when, flight_part, flight_items, change_at}
use Rattle.sctp_tx_outstanding.specs.Resending.{Resent, size_in, again, again_of, again_at, passed_over, allowance, turn_of, apply_turn, step_at, resent_below, empty_packet, resend}
use Rattle.proof_refines.specs.Picked.{is_due, bytes_allowed, Picks, no_more, goes, has_no_room, is_not_due, tsn_at}
use Rattle.sctp_tx_outstanding.proofs.RoomLemmas.{slowed_in_flight}

-- ---- lists

get_at : (pre : List Item) (i : Item) (is : List Item) (k : ℕ) → length pre ≡ k → slice_get (pre ++ i ∷ is) k ≡ Some i
get_at [] i is zero e = refl
get_at [] i is (suc k) e = cc
get_at (j ∷ pre) i is zero e = cc
get_at (j ∷ pre) i is (suc k) e = get_at pre i is k (omega (arith, e))

changed_at : (f : Item → Item) (pre : List Item) (i : Item) (is : List Item) (k : ℕ) → length pre ≡ k → change_at k f (pre ++ i ∷ is) ≡ pre ++ f i ∷ is
changed_at f [] i is zero e = refl
changed_at f [] i is (suc k) e = cc
changed_at f (j ∷ pre) i is zero e = cc
changed_at f (j ∷ pre) i is (suc k) e = ap (λ (l : List Item). j ∷ l) (changed_at f pre i is k (omega (arith, e)))

sum_at : (pre : List Item) (i : Item) (is : List Item) → sum_by flight_part (pre ++ i ∷ is) ≡ sum_by flight_part pre + (flight_part i + sum_by flight_part is)
sum_at pre i is = sum_by-append flight_part pre (i ∷ is) ∙ ap (λ (n : ℕ). sum_by flight_part pre + n) (sum_by-cons flight_part i is)

-- ---- items

due_in_flight : (fast : Bool) (s : ItemState) → cond fast (waits_fast s) (waits s) ≡ true → is_in_flight (resent s) ≡ true
due_in_flight true InFlight e = cc
due_in_flight false InFlight e = cc
due_in_flight true Missing e = cc
due_in_flight false Missing e = cc
due_in_flight fast Queued e = refl
due_in_flight fast QueuedFast e = refl
due_in_flight true Acked e = cc
due_in_flight false Acked e = cc
due_in_flight true GivenUp e = cc
due_in_flight false GivenUp e = cc

due_is : (fast : Bool) (i : Item) → is_due fast i ≡ true → cond fast (waits_fast i.state) (waits i.state) ≡ true
due_is true i e = e
due_is false i e = e

not_none : (n a b : ℕ) → n ≡ a + (1 + b) → (n == 0) ≡ false
not_none n a b e = grind (arith, nat_tests, e)

-- ---- steps from a place on

module _ (fast : Bool) where
  abbrev pub steps : ℕ → List Item → Resent → Resent
  steps k [] x = x
  steps k (i ∷ is) x = steps (suc k) is (step_at fast k x)

  all_steps : (k : ℕ) (is : List Item) (x : Resent) → steps k is (resent_below fast k x) ≡ resent_below fast (k + length is) x
  all_steps k [] x = let same : k ≡ k + 0 = omega arith in ap (λ (n : ℕ). resent_below fast n x) same
  all_steps k (i ∷ is) x = let same : suc k + length is ≡ k + suc (length is) = omega arith in all_steps (suc k) is x ∙ ap (λ (n : ℕ). resent_below fast n x) same

module _ (fast m : Bool) (first acked : ℕ) where
  abbrev tsn : ℕ → ℕ
  tsn place = wire u32_space first (acked + 1 + place)

  -- at place k of these items
  pub record IsAt (x : Resent) (pre is : List Item) : Type 0 where
    pub kept : x.outstanding.items.kept ≡ pre ++ is
    pub mode : x.outstanding.items.is_interleaved ≡ m
    pub point : x.outstanding.items.acked ≡ acked
    pub begins : x.outstanding.first ≡ first

  pub record PicksFrom (x : Resent) (k : ℕ) (is : List Item) : Type 0 where
    pub chunks : List (ℕ × FragmentTree)
    pub picks : Picks fast m tsn (flight_items x.outstanding.items == 0) x.room x.window k is chunks
    pub all : (steps fast k is x).chunks ≡ x.chunks ++ chunks

  module _ (k : ℕ) (pre : List Item) (e : length pre ≡ k) (i : Item) (is : List Item) (x : Resent) (at : IsAt x pre (i ∷ is))
      (ih : (pre : List Item) (y : Resent) → length pre ≡ suc k → IsAt y pre is → PicksFrom y (suc k) is) where
    here : slice_get x.outstanding.items.kept k ≡ Some i
    here = ap (λ (l : List Item). slice_get l k) at.kept ∙ get_at pre i is k e

    longer : (j : Item) → length (pre ++ j ∷ []) ≡ suc k
    longer j = let h = length-append pre (j ∷ []) in omega (arith, h, e)

    moved : (f : Item → Item) → change_at k f x.outstanding.items.kept ≡ (pre ++ f i ∷ []) ++ is
    moved f = ap (change_at k f) at.kept ∙ (changed_at f pre i is k e ∙ sym (append_assoc pre (f i ∷ []) is))

    size_is : size_in x i ≡ chunk_size m i
    size_is = ap (λ (b : Bool). chunk_size b i) at.mode

    abbrev quiet : Bool
    quiet = flight_items x.outstanding.items == 0

    after_turn : (z : Resent) → apply_turn (turn_of fast (Some i) x) k x ≡ z → step_at fast k x ≡ z
    after_turn z h = ap (λ (o : Option Item). apply_turn (turn_of fast o x) k x) here ∙ h

    -- ---- nothing is taken

    pub record IsSame (y : Resent) : Type 0 where
      pub chunks : y.chunks ≡ x.chunks
      pub room : y.room ≡ x.room
      pub window : y.window ≡ x.window
      pub quiet : (flight_items y.outstanding.items == 0) ≡ (flight_items x.outstanding.items == 0)
      pub item : Item
      pub stands : IsAt y (pre ++ item ∷ []) is

    left_alone : IsSame x
    left_alone = record {
      chunks = refl;
      room = refl;
      window = refl;
      quiet = refl;
      item = i;
      stands = record { kept = at.kept ∙ sym (append_assoc pre (i ∷ []) is); mode = at.mode; point = at.point; begins = at.begins };
    }

    passed : IsSame (passed_over k x)
    passed = record {
      chunks = refl;
      room = refl;
      window = refl;
      quiet = ap (λ (n : ℕ). n == 0) same_flight;
      item = miss_fast i;
      stands = record { kept = moved (λ j. miss_fast j); mode = at.mode; point = at.point; begins = at.begins };
    }
      where
        same_part : flight_part (miss_fast i) ≡ flight_part i
        same_part = ap (λ (b : Bool). when b 1) (slowed_in_flight i.state)

        same_flight : flight_items (passed_over k x).outstanding.items ≡ flight_items x.outstanding.items
        same_flight =
            ap (sum_by flight_part) (ap (change_at k (λ j. miss_fast j)) at.kept ∙ changed_at (λ j. miss_fast j) pre i is k e)
            ∙ (sum_at pre (miss_fast i) is
            ∙ (ap (λ (n : ℕ). sum_by flight_part pre + (n + sum_by flight_part is)) same_part ∙ (sym (sum_at pre i is) ∙ ap (sum_by flight_part) (sym at.kept))))

    same_if : (f : Bool) → IsSame (cond f (passed_over k x) x)
    same_if true = passed
    same_if false = left_alone

    from_same : (y : Resent) → step_at fast k x ≡ y → IsSame y → ((cs : List (ℕ × FragmentTree)) → Picks fast m tsn quiet x.room x.window (suc k) is cs → Picks fast m tsn quiet x.room x.window k (i ∷ is) cs)
        → PicksFrom x k (i ∷ is)
    from_same y step same one =
        let rest : PicksFrom y (suc k) is = ih (pre ++ same.item ∷ []) y (longer same.item) same.stands in
        record {
          chunks = rest.chunks;
          picks =
              one rest.chunks
              (subst (λ (b : Bool). Picks fast m tsn b x.room x.window (suc k) is rest.chunks) same.quiet
              (subst (λ (n : ℕ). Picks fast m tsn (flight_items y.outstanding.items == 0) n x.window (suc k) is rest.chunks) same.room
              (subst (λ (n : ℕ). Picks fast m tsn (flight_items y.outstanding.items == 0) y.room n (suc k) is rest.chunks) same.window rest.picks)));
          all = ap (λ (z : Resent). (steps fast (suc k) is z).chunks) step ∙ (rest.all ∙ ap (λ (cs : List (ℕ × FragmentTree)). cs ++ rest.chunks) same.chunks);
        }

    -- ---- it goes

    abbrev y : Resent
    y = again k i x

    at_sent : IsAt y (pre ++ mark_as_retransmitted i ∷ []) is
    at_sent = record { kept = moved (λ j. mark_as_retransmitted j); mode = at.mode; point = at.point; begins = at.begins }

    flying_now : is_due fast i ≡ true → (flight_items y.outstanding.items == 0) ≡ false
    flying_now due =
        not_none (flight_items y.outstanding.items) (sum_by flight_part pre) (sum_by flight_part is)
        (ap (sum_by flight_part) (ap (change_at k (λ j. mark_as_retransmitted j)) at.kept ∙ changed_at (λ j. mark_as_retransmitted j) pre i is k e)
        ∙ (sum_at pre (mark_as_retransmitted i) is
        ∙ ap (λ (b : Bool). sum_by flight_part pre + (when b 1 + sum_by flight_part is)) (due_in_flight fast i.state (due_is fast i due))))

    abbrev chunk_from : ℕ → ℕ → ℕ × FragmentTree
    chunk_from n point = (wire u32_space n (point + 1 + k), i.fragment)

    head_is : chunk_from x.outstanding.first x.outstanding.items.acked ≡ chunk_from first acked
    head_is = ap (λ (n : ℕ). chunk_from n x.outstanding.items.acked) at.begins ∙ ap (λ (n : ℕ). chunk_from first n) at.point

    sends : apply_turn (turn_of fast (Some i) x) k x ≡ again_at k x → is_due fast i ≡ true → chunk_size m i ≤ bytes_allowed fast quiet x.room x.window → PicksFrom x k (i ∷ is)
    sends turn due fits =
        let rest : PicksFrom y (suc k) is = ih (pre ++ mark_as_retransmitted i ∷ []) y (longer (mark_as_retransmitted i)) at_sent in
        let step : step_at fast k x ≡ y = after_turn (again_at k x) turn ∙ ap (λ (o : Option Item). again_of k o x) here in
        record {
          chunks = (tsn k, i.fragment) ∷ rest.chunks;
          picks =
              goes i due fits
              (subst (λ (n : ℕ). Picks fast m tsn false (x.room - n) (x.window - n) (suc k) is rest.chunks) size_is
              (subst (λ (b : Bool). Picks fast m tsn b y.room y.window (suc k) is rest.chunks) (flying_now due) rest.picks));
          all =
              ap (λ (z : Resent). (steps fast (suc k) is z).chunks) step
              ∙ (rest.all
              ∙ (append_assoc x.chunks (chunk_from x.outstanding.first x.outstanding.items.acked ∷ []) rest.chunks
              ∙ ap (λ (c : ℕ × FragmentTree). x.chunks ++ c ∷ rest.chunks) head_is));
        }

    -- ---- which it is

    turn_fits : (f : Bool) → is_due f i ≡ true → nat_le (size_in x i) (bytes_allowed f quiet x.room x.window) ≡ true → apply_turn (turn_of f (Some i) x) k x ≡ again_at k x
    turn_fits true due h = let fast : is_fast i ≡ true = due in let fits : nat_le (size_in x i) x.room ≡ true = h in rw fast (rw fits refl)
    turn_fits false due h = let waiting : should_be_retransmitted i ≡ true = due in let fits : nat_le (size_in x i) (allowance x) ≡ true = h in rw waiting (rw fits refl)

    turn_misses : (f : Bool) → is_due f i ≡ true → nat_le (size_in x i) (bytes_allowed f quiet x.room x.window) ≡ false → apply_turn (turn_of f (Some i) x) k x ≡ cond f (passed_over k x) x
    turn_misses true due h = let fast : is_fast i ≡ true = due in let misses : nat_le (size_in x i) x.room ≡ false = h in rw fast (rw misses refl)
    turn_misses false due h = let waiting : should_be_retransmitted i ≡ true = due in let misses : nat_le (size_in x i) (allowance x) ≡ false = h in rw waiting (rw misses refl)

    turn_leaves : (f : Bool) → is_due f i ≡ false → apply_turn (turn_of f (Some i) x) k x ≡ x
    turn_leaves true due = let fast : is_fast i ≡ false = due in rw fast refl
    turn_leaves false due = let waiting : should_be_retransmitted i ≡ false = due in rw waiting refl

    pub by_turn : PicksFrom x k (i ∷ is)
    by_turn = by_tests (is_due fast i) (nat_le (size_in x i) (bytes_allowed fast quiet x.room x.window)) refl refl
      where
        by_tests : (b c : Bool) → is_due fast i ≡ b → nat_le (size_in x i) (bytes_allowed fast quiet x.room x.window) ≡ c → PicksFrom x k (i ∷ is)
        by_tests false c due h = from_same x (after_turn x (turn_leaves fast due)) left_alone (λ cs p. is_not_due i due p)
        by_tests true true due h =
            sends (turn_fits fast due h) due (subst (λ (n : ℕ). n ≤ bytes_allowed fast quiet x.room x.window) size_is (leb-true (size_in x i) (bytes_allowed fast quiet x.room x.window) h))
        by_tests true false due h =
            from_same (cond fast (passed_over k x) x) (after_turn (cond fast (passed_over k x) x) (turn_misses fast due h)) (same_if fast)
            (λ cs p.
            has_no_room i due (subst (λ (n : ℕ). bytes_allowed fast quiet x.room x.window < n) size_is (leb-false (size_in x i) (bytes_allowed fast quiet x.room x.window) h)) p)

  pub picks_from : (k : ℕ) (pre is : List Item) (x : Resent) → length pre ≡ k → IsAt x pre is → PicksFrom x k is
  picks_from k pre [] x e at = record { chunks = []; picks = no_more; all = sym (append-nil x.chunks) }
  picks_from k pre (i ∷ is) x e at = by_turn k pre e i is x at (λ front z f a. picks_from (suc k) front is z f a)

pub picked : (fast : Bool) (room window : ℕ) (d : Outstanding)
    → Picks fast d.items.is_interleaved (tsn_at d) (flight_items d.items == 0) room window 0 d.items.kept (resend fast room window d).chunks
picked fast room window d =
    let whole : 0 + length d.items.kept ≡ length d.items.kept = omega arith in
    let p = picks_from fast d.items.is_interleaved d.first d.items.acked 0 [] d.items.kept (empty_packet room window d) refl (record { kept = refl; mode = refl; point = refl; begins = refl }) in
    subst (λ (cs : List (ℕ × FragmentTree)). Picks fast d.items.is_interleaved (tsn_at d) (flight_items d.items == 0) room window 0 d.items.kept cs)
    (sym p.all ∙ (ap (λ (z : Resent). z.chunks) (all_steps fast 0 d.items.kept (empty_packet room window d)) ∙ ap (λ (n : ℕ). (resent_below fast n (empty_packet room window d)).chunks) whole)) p.picks
