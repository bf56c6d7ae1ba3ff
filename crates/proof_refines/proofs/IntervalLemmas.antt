-- The first interval that passes a test, and what is left without it.
use Rattle.std.proofs.Common.{◌≡◌, ℕ, Bool, true, false, cond, Some, None, List, [], ◌∷◌, ◌++◌, refl, ap, sym, ◌∙◌, subst}
use Rattle.std.specs.List.{find}
use Rattle.proof_protocol.specs.State.{IsAmong}
use Rattle.sctp_rx.specs.Runs.{IsLinked, flat, AreRuns, IsMessage}
use Rattle.sctp_rx.specs.Held.{Held, rank_of, goes_on, begins, ends, intervals_of, is_complete, is_in_turn, NonePass, without_first_of, left_by}
use Rattle.proof_refines.specs.SettledStreams.{AreInOrder}
use Rattle.sctp_fragments.proofs.RunLemmas.{AreRuns_back, flat_append, flat_runs_of, runs_of_around}
use Rattle.sctp_reassembly.proofs.ListLemmas.{first_stops, last_stops}
use Rattle.proof_refines.proofs.RisingLemmas.{Rising, rising_runs, segment}

pub rising : (hs : List Held) → AreInOrder hs → Rising rank_of hs
rising hs h = subst (Rising rank_of) (flat_runs_of rank_of goes_on hs) (rising_runs rank_of goes_on None (intervals_of hs) h)

-- the run, and the items around it
pub record Out (hs : List Held) (e : Held) (es left : List Held) : Type 0 where
  pub front : List Held
  pub back : List Held
  pub is : hs ≡ front ++ ((e ∷ es) ++ back)
  pub left_is : left ≡ front ++ back
  pub linked : IsLinked rank_of goes_on e es

module _ (test : List Held → Bool) where
  record Split (rs : List (List Held)) (r : List Held) : Type 0 where
    front : List (List Held)
    back : List (List Held)
    is : rs ≡ front ++ r ∷ back
    left_is : without_first_of test rs ≡ front ++ back
    passes : test r ≡ true

  split : (rs : List (List Held)) (r : List Held) → find test rs ≡ Some r → Split rs r
  split [] r h = absurd (cc)
  split (q ∷ rs) r h = go (test q) refl h (split rs r)
    where
      go : (b : Bool) → test q ≡ b → cond b (Some q) (find test rs) ≡ Some r → (find test rs ≡ Some r → Split rs r) → Split (q ∷ rs) r
      go true t h ih =
          let same : q ≡ r = cc in
          record { front = []; back = rs; is = ap (λ (z : List Held). z ∷ rs) same; left_is = ap (λ (b : Bool). cond b rs (q ∷ without_first_of test rs)) t; passes = ap test (sym same) ∙ t }
      go false t h ih =
          let s = ih h in
          record {
            front = q ∷ s.front;
            back = s.back;
            is = ap (λ (z : List (List Held)). q ∷ z) s.is;
            left_is = ap (λ (b : Bool). cond b rs (q ∷ without_first_of test rs)) t ∙ ap (λ (z : List (List Held)). q ∷ z) s.left_is;
            passes = s.passes;
          }

  pub found_passes : (hs r : List Held) → find test (intervals_of hs) ≡ Some r → test r ≡ true
  found_passes hs r h = (split (intervals_of hs) r h).passes

  pub out : (hs : List Held) (e : Held) (es : List Held) → AreInOrder hs → find test (intervals_of hs) ≡ Some (e ∷ es) → Out hs e es (left_by test hs)
  out hs e es order h =
      let s = split (intervals_of hs) (e ∷ es) h in
      let runs = subst (AreRuns rank_of goes_on None) s.is order in
      let back = AreRuns_back rank_of goes_on None s.front ((e ∷ es) ∷ s.back) runs in
      record {
        front = flat s.front;
        back = flat s.back;
        is = sym (flat_runs_of rank_of goes_on hs) ∙ (ap flat s.is ∙ flat_append s.front ((e ∷ es) ∷ s.back));
        left_is = ap flat s.left_is ∙ flat_append s.front s.back;
        linked = back.1.0;
      }

-- what is in turn
pub turn_some : (n : ℕ) → is_in_turn n [] ≡ true → ⊥
turn_some n h = cc

pub complete_some : is_complete [] ≡ true → ⊥
complete_some h = cc

-- no list that passes is one of the intervals
none_at : (test : List Held → Bool) (front back : List (List Held)) (r : List Held) → NonePass test (front ++ r ∷ back) → test r ≡ false
none_at test [] back r h = h.0
none_at test (q ∷ front) back r h = none_at test front back r h.1

-- a message that is held is an interval
pub none_held : (test : List Held → Bool) (hs : List Held) (e : Held) (es : List Held) → AreInOrder hs → NonePass test (intervals_of hs)
    → IsMessage rank_of goes_on begins ends (e ∷ es) → ((h : Held) → IsAmong h (e ∷ es) → IsAmong h hs) → test (e ∷ es) ≡ false
none_held test hs e es order none m all =
    let s = segment rank_of goes_on hs e es (rising hs order) m.1.1 all in
    let is : intervals_of hs ≡ intervals_of s.front ++ (e ∷ es) ∷ intervals_of s.back = ap intervals_of s.is ∙ runs_of_around rank_of goes_on begins ends first_stops last_stops s.front (e ∷ es) s.back m in
    none_at test (intervals_of s.front) (intervals_of s.back) (e ∷ es) (subst (NonePass test) is none)
