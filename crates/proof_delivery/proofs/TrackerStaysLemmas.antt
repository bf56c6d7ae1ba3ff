-- What is true of every tracker is true after each step of it: a new one, a number that comes, a forward point, and what
-- acknowledging does.
use Rattle.std.proofs.Common.{◌≡◌, ◌⊎◌, inl, inr, ℕ, suc, ◌+◌, ◌-◌, ◌<◌, ◌≤◌, Bool, true, false, if◌then◌else◌, leb, ltb, eqb, ◌||◌, ◌&&◌, not, None, List, [], ◌∷◌, length, refl, sym, ◌∙◌, arith}
use Rattle.std.proofs.lemmas.Bool.{cases_lt, lt-ltb, le-ltb, or_right}
use Rattle.std.proofs.lemmas.Bool.Decides.{nat_tests}
use Rattle.sctp_serial.specs.Unwrapped.{origin}
use Rattle.sctp_state.specs.Options.{Options}
use Rattle.sctp_state.specs.Timer.{Timer, start, stop, expire, is_due}
use Rattle.sctp_rx.specs.declared.data_tracker.AckState.{AckState}
use Rattle.sctp_rx.specs.declared.data_tracker.AckState.TheVariants.{Idle, Becoming, Delayed, Immediate}
use Rattle.sctp_rx.specs.Seen.{Run, Seen, in_runs, contains, AreRuns, IsInRuns, last_above, highest}
use Rattle.sctp_rx.specs.DataTracker.{Tracker, IsTracker, DelayFits, tracker, is_valid, has_seen, window, bound, update_rto, is_ack_due, take_ack, force_ack, is_becoming, packet_end, ack_timeout, insert_number, with_duplicate, observe, forward}
use Rattle.sctp_rx.specs.Sack.{clear_duplicates}
use Rattle.sctp_rx.proofs.SeenRunsLemmas.{le_last_above, next_is_new}
use Rattle.sctp_rx.proofs.SeenOneFormLemmas.{contains_add, IsInRuns_add, contains_up_to, IsInRuns_up_to}

-- ---- the front and the highest number of a set, by what it has

last_is_in : (p : ℕ) (rs : List Run) → AreRuns p rs → (leb (last_above p rs) p || in_runs rs (last_above p rs)) ≡ true
last_is_in p [] r = grind (arith, nat_tests)
last_is_in p (b ∷ rs) r = go (in_runs rs (last_above b.last rs)) b.first b.last (last_above b.last rs) r.1 (le_last_above b.last rs r.2) (last_is_in b.last rs r.2)
  where
    go : (y : Bool) (c d h : ℕ) → c ≤ d → d ≤ h → (leb h d || y) ≡ true → (leb h p || ((leb c h && leb h d) || y)) ≡ true
    go true c d h l m e = grind (arith, nat_tests)
    go false c d h l m e = grind (arith, nat_tests)

in_below_last : (p m : ℕ) (rs : List Run) → AreRuns p rs → (leb m p || in_runs rs m) ≡ true → m ≤ last_above p rs
in_below_last p m [] r e = grind (arith, nat_tests, e)
in_below_last p m (b ∷ rs) r e = in_below_last b.last m rs r.2 (go (in_runs rs m) b.first b.last r.0 r.1 e)
  where
    go : (y : Bool) (c d : ℕ) → p + 1 < c → c ≤ d → (leb m p || ((leb c m && leb m d) || y)) ≡ true → (leb m d || y) ≡ true
    go true c d l k e = grind (arith, nat_tests)
    go false c d l k e = grind (arith, nat_tests)

-- where a set has all of another
module _ (old new : Seen) (was : IsInRuns old) (is : IsInRuns new) where
  front_grows : ((m : ℕ) → contains old m ≡ true → contains new m ≡ true) → old.front ≤ new.front
  front_grows more =
      elim (cases_lt new.front old.front) [
        | inl l ↦ absurd (not_both (contains new (suc new.front)) (more (suc new.front) (below l)) (next_is_new new.front (suc new.front) new.runs is (omega arith)))
        | inr g ↦ g
      ]
    where
      not_both : (b : Bool) → b ≡ true → true ≡ not b → ⊥
      not_both true e f = cc
      not_both false e f = cc

      below : new.front < old.front → contains old (suc new.front) ≡ true
      below l = go (in_runs old.runs (suc new.front)) old.front new.front l
        where
          go : (y : Bool) (a b : ℕ) → b < a → (leb (suc b) a || y) ≡ true
          go y a b l = grind (arith, nat_tests)

  -- and nothing else from n on
  highest_grows : (n most : ℕ) → n ≤ most → highest old ≤ most → ((m : ℕ) → contains new m ≡ true → (m ≤ n) ⊎ (contains old m ≡ true)) → highest new ≤ most
  highest_grows n most l k less =
      elim (less (highest new) (last_is_in new.front new.runs is)) [
        | inl h ↦ omega (arith, h, l)
        | inr h ↦ let b = in_below_last old.front (highest new) old.runs was h in omega (arith, b, k)
      ]

-- ---- a number comes, or a forward point

-- what a valid number is
record IsNearFront (front begin n : ℕ) : Type 0 where
  below : front ≤ n + window
  above : n ≤ front + window
  bounded : n < begin + bound

valid_is : (front begin n : ℕ) → (leb front (n + window) && (leb n (front + window) && ltb n (begin + bound))) ≡ true → IsNearFront front begin n
valid_is front begin n e = record { below = grind (arith, nat_tests, e); above = grind (arith, nat_tests, e); bounded = grind (arith, nat_tests, e) }

-- a set that has more, up to a valid number, in a tracker that acknowledges in some way
record HasMore (t u : Tracker) (n : ℕ) : Type 0 where
  begin : u.begin ≡ t.begin
  runs : IsInRuns u.seen
  more : (m : ℕ) → contains t.seen m ≡ true → contains u.seen m ≡ true
  less : (m : ℕ) → contains u.seen m ≡ true → (m ≤ n) ⊎ (contains t.seen m ≡ true)
  few : length u.duplicates ≤ 20
  delay : DelayFits u.ack u.delay.due

tracker_after : (t u : Tracker) (n : ℕ) → IsTracker t → is_valid t n ≡ true → HasMore t u n → IsTracker u
tracker_after t u n i valid h =
    let v = valid_is t.seen.front t.begin n valid in
    let least = i.least in
    let most = i.most in
    let begun = i.begun in
    let bounded = i.bounded in
    let near = i.near in
    let same = h.begin in
    let above = v.above in
    let below = v.bounded in
    let grows = front_grows t.seen u.seen i.runs h.runs h.more in
    record {
      least = omega (arith, least, same);
      most = omega (arith, most, same);
      begun = omega (arith, begun, same, grows);
      runs = h.runs;
      bounded =
          let high = highest_grows t.seen u.seen i.runs h.runs n (t.begin + bound - 1) (omega (arith, below)) (omega (arith, bounded)) h.less in omega (arith, high, bounded, same);
      near = let high = highest_grows t.seen u.seen i.runs h.runs n (t.seen.front + window) above near h.less in omega (arith, high, grows);
      few = h.few;
      delay = h.delay;
    }

inserted_length : (n : ℕ) (ms : List ℕ) → length (insert_number n ms) ≤ suc (length ms)
inserted_length n [] = omega arith
inserted_length n (m ∷ ms) = go (ltb m n) (eqb n m) (insert_number n ms) (inserted_length n ms)
  where
    go : (a b : Bool) (rest : List ℕ) → length rest ≤ suc (length ms) → length (if a then m ∷ rest else (if b then m ∷ ms else n ∷ m ∷ ms)) ≤ suc (suc (length ms))
    go true b rest l = omega (arith, l)
    go false true rest l = omega arith
    go false false rest l = omega arith

few_duplicates : (is_new : Bool) (n : ℕ) (ms : List ℕ) → length ms ≤ 20 → length (if is_new then ms else with_duplicate n ms) ≤ 20
few_duplicates true n ms l = l
few_duplicates false n ms l =
    elim (cases_lt (length ms) 20) [
      | inl h ↦ rw (lt-ltb (length ms) 20 h) (let k = inserted_length n ms in omega (arith, k, h))
      | inr h ↦ rw (le-ltb (length ms) 20 h) l
    ]

stopped : (a : AckState) → DelayFits a None
stopped Idle = refl
stopped Becoming = refl
stopped Delayed = tt
stopped Immediate = refl

pub tracker_observes : (t : Tracker) (n : ℕ) (is_immediate : Bool) → IsTracker t → is_valid t n ≡ true → IsTracker (observe n is_immediate t)
tracker_observes t n is_immediate i valid =
    let u : Tracker = observe n is_immediate t in
    let least = i.least in
    let begun = i.begun in
    tracker_after t u n i valid
    (record {
      begin = refl;
      runs = IsInRuns_add n t.seen i.runs (omega (arith, least, begun));
      more = λ m h. contains_add n m t.seen i.runs ∙ or_right (eqb m n) (contains t.seen m) h;
      less = λ m h. one_of m n (contains t.seen m) (sym (contains_add n m t.seen i.runs) ∙ h);
      few = few_duplicates (not (has_seen t n)) n t.duplicates i.few;
      delay = stopped u.ack;
    })
  where
    one_of : (m n : ℕ) (b : Bool) → (eqb m n || b) ≡ true → (m ≤ n) ⊎ (b ≡ true)
    one_of m n true e = inr refl
    one_of m n false e = inl (grind (arith, nat_tests, e))

pub tracker_passes : (t : Tracker) (n : ℕ) → IsTracker t → is_valid t n ≡ true → IsTracker (forward n t)
tracker_passes t n i valid =
    let u : Tracker = forward n t in
    tracker_after t u n i valid
    (record {
      begin = refl;
      runs = IsInRuns_up_to n t.seen i.runs;
      more = λ m h. contains_up_to n m t.seen ∙ or_right (leb m n) (contains t.seen m) h;
      less = λ m h. one_of m n (contains t.seen m) (sym (contains_up_to n m t.seen) ∙ h);
      few = i.few;
      delay = stopped u.ack;
    })
  where
    one_of : (m n : ℕ) (b : Bool) → (leb m n || b) ≡ true → (m ≤ n) ⊎ (b ≡ true)
    one_of m n true e = inr refl
    one_of m n false e = inl (grind (arith, nat_tests, e))

-- ---- a new one, and what acknowledging does

pub tracker_new : (o : Options) → IsTracker (tracker o origin)
tracker_new o = record {
  least = omega arith;
  most = omega arith;
  begun = omega arith;
  runs = tt;
  bounded = omega arith;
  near = omega arith;
  few = omega arith;
  delay = refl;
}

-- with the same numbers seen
module _ (t : Tracker) (i : IsTracker t) where
  acknowledges : (duplicates : List ℕ) (ack : AckState) (delay : Timer) → length duplicates ≤ 20 → DelayFits ack delay.due
      → IsTracker (record t { duplicates = duplicates; ack = ack; delay = delay })
  acknowledges duplicates ack delay few fits = record {
    least = i.least;
    most = i.most;
    begun = i.begun;
    runs = i.runs;
    bounded = i.bounded;
    near = i.near;
    few = few;
    delay = fits;
  }

  pub tracker_timed : (rto : ℕ) → IsTracker (update_rto rto t)
  tracker_timed rto = acknowledges t.duplicates t.ack (update_rto rto t).delay i.few i.delay

  pub tracker_emitted : IsTracker (clear_duplicates t)
  tracker_emitted = acknowledges [] t.ack t.delay (omega arith) i.delay

  pub tracker_asked : (also_if_delayed : Bool) → IsTracker (take_ack also_if_delayed t)
  tracker_asked also_if_delayed = let u : Tracker = take_ack also_if_delayed t in acknowledges t.duplicates u.ack u.delay i.few (go (is_ack_due also_if_delayed t.ack) t.ack t.delay i.delay)
    where
      go : (b : Bool) (a : AckState) (d : Timer) → DelayFits a d.due → DelayFits (if b then Idle else a) (if b then stop d else d).due
      go true a d h = refl
      go false a d h = h

  pub tracker_forced : IsTracker (force_ack t)
  tracker_forced = acknowledges t.duplicates Immediate (force_ack t).delay i.few refl

  pub tracker_ends_packet : (now : ℕ) → IsTracker (packet_end now t)
  tracker_ends_packet now = let u : Tracker = packet_end now t in acknowledges t.duplicates u.ack u.delay i.few (go (is_becoming t.ack) t.ack t.delay i.delay)
    where
      go : (b : Bool) (a : AckState) (d : Timer) → DelayFits a d.due → DelayFits (if b then Delayed else a) (if b then start now d else d).due
      go true a d h = tt
      go false a d h = h

  pub tracker_waited : (now : ℕ) → IsTracker (ack_timeout now t)
  tracker_waited now = let u : Tracker = ack_timeout now t in acknowledges t.duplicates u.ack u.delay i.few (go (is_due now t.delay) t.ack t.delay i.delay)
    where
      go : (b : Bool) (a : AckState) (d : Timer) → DelayFits a d.due → DelayFits (if b then Immediate else a) (if b then stop (expire now d) else d).due
      go true a d h = refl
      go false a d h = h
