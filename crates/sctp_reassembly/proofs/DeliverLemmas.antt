-- What becomes ready, one message after the other.
use Rattle.std.proofs.Common.{◌≡◌, ℕ, zero, suc, ◌+◌, ◌==◌, Bool, true, false, not, cond, Option, Some, None, List, [], ◌∷◌, ◌++◌, length, refl, ap, sym, subst, ◌∙◌, arith, append_assoc, append-nil}
use Rattle.std.specs.Prelude.{◌&&◌, nat_lt, max, option_map, option_to_list}
use Rattle.std.specs.List.{find}
use Rattle.std.proofs.lemmas.Bool.Decides.{nat_tests}
use Rattle.sctp_serial.specs.Messages.{Message}
use Rattle.sctp_serial.specs.Unwrapped.{origin}
use Rattle.sctp_fragments.specs.Runs.{is_held, with_item, AreRuns}
use Rattle.sctp_fragments.specs.Held.{Held, rank_of, goes_on, NonePass, NoneComplete, NoneInTurn, without_first_of, left_by, intervals_of, is_in_turn, is_complete, IsTaken, IsPlaced, message_of_run}
use Rattle.sctp_reassembly.specs.Delivery.{OrderedDelivery, OrderedStream, deliver, deliver_within, at_rest, preceded_by, delivering, ordered_arrival, unordered_arrival, first_complete}
use Rattle.sctp_reassembly.proofs.FindLemmas.{found, without_found, not_found, taken_left}
use Rattle.sctp_reassembly.proofs.HolderLemmas.{only_one}

module _ (test : List Held → Bool) where
  pub length_found : (rs : List (List Held)) (r : List Held) → find test rs ≡ Some r → length rs ≡ suc (length (without_first_of test rs))
  length_found [] r h = absurd (cc)
  length_found (q ∷ rs) r h = go (test q) h (length_found rs r)
    where
      go : (b : Bool) → cond b (Some q) (find test rs) ≡ Some r → (find test rs ≡ Some r → length rs ≡ suc (length (without_first_of test rs))) → suc (length rs) ≡ suc (length (cond b rs (q ∷ without_first_of test rs)))
      go true h ih = refl
      go false h ih = ap suc (ih h)

  pub found_passes : (rs : List (List Held)) (r : List Held) → find test rs ≡ Some r → test r ≡ true
  found_passes [] r h = absurd (cc)
  found_passes (q ∷ rs) r h = go (test q) refl h (found_passes rs r)
    where
      go : (b : Bool) → test q ≡ b → cond b (Some q) (find test rs) ≡ Some r → (find test rs ≡ Some r → test r ≡ true) → test r ≡ true
      go true is h ih = subst (λ (t : List Held). test t ≡ true) (inside h) is
        where
          inside : Some q ≡ Some r → q ≡ r
          inside h = cc
      go false is h ih = ih h

second : (b : Bool) (a m : ℕ) → (b && (a == m)) ≡ true → a ≡ m
second true a m h = grind (arith, nat_tests)
second false a m h = cc

pub turn_number : (run : List Held) (x : Held) (n : ℕ) → is_in_turn n run ≡ true → ((h : Held) (hs : List Held) → run ≡ h ∷ hs → x ≡ h) → x.number ≡ n
turn_number [] x n h first = absurd (cc)
turn_number (g ∷ gs) x n h first = ap (λ (t : Held). t.number) (first g gs refl) ∙ second (is_complete (g ∷ gs)) g.number n h

-- nothing is in turn
pub deliver_ends : (n : ℕ) (hs : List Held) → find (is_in_turn n) (intervals_of hs) ≡ None → deliver n hs ≡ at_rest n hs
deliver_ends n hs none = go (length (intervals_of hs))
  where
    go : (most : ℕ) → deliver_within most n hs ≡ at_rest n hs
    go zero = refl
    go (suc most) = ap (λ (o : Option (List Held)). delivering o n hs (deliver_within most (suc n) (left_by (is_in_turn n) hs))) none

-- a message is
pub deliver_step : (n : ℕ) (hs new r : List Held) → find (is_in_turn n) (intervals_of hs) ≡ Some r → new ≡ left_by (is_in_turn n) hs → intervals_of new ≡ without_first_of (is_in_turn n) (intervals_of hs)
    → deliver n hs ≡ preceded_by (message_of_run r) (deliver (suc n) new)
deliver_step n hs new r is left intervals =
    ap (λ (most : ℕ). deliver_within most n hs) (length_found (is_in_turn n) (intervals_of hs) r is ∙ ap suc (ap length (sym intervals))) ∙ one (length (intervals_of new)) ∙ ap (λ (t : List Held). preceded_by (message_of_run r) (deliver_within (length (intervals_of new)) (suc n) t)) (sym left)
  where
    one : (most : ℕ) → deliver_within (suc most) n hs ≡ preceded_by (message_of_run r) (deliver_within most (suc n) (left_by (is_in_turn n) hs))
    one most = ap (λ (o : Option (List Held)). delivering o n hs (deliver_within most (suc n) (left_by (is_in_turn n) hs))) is

-- ---- unordered messages

pub NonePass_front : (test : List Held → Bool) (xs ys : List (List Held)) → NonePass test (xs ++ ys) → NonePass test xs
NonePass_front test [] ys h = tt
NonePass_front test (x ∷ xs) ys h = (h.0, NonePass_front test xs ys h.1)

pub NonePass_with : (test : List Held → Bool) (xs ys : List (List Held)) (r : List Held) → NonePass test (xs ++ ys) → test r ≡ false → NonePass test (xs ++ r ∷ ys)
NonePass_with test [] ys r h k = (k, h)
NonePass_with test (x ∷ xs) ys r h k = (h.0, NonePass_with test xs ys r h.1 k)

-- the interval that has the fragment went out, or stays since it is no message
module _ (old mid : List Held) (x : Held) (none : NoneComplete (intervals_of old)) (p : IsPlaced old mid x) where
  pub none_incomplete : ((front back : List (List Held)) (r : List Held) → intervals_of mid ≡ front ++ r ∷ back → is_held rank_of (rank_of x) r ≡ true → is_complete r ≡ false) → NoneComplete (intervals_of mid)
  none_incomplete incomplete = rw p.runs (NonePass_with is_complete p.front p.back p.run (p.others is_complete none) (incomplete p.front p.back p.run p.runs p.among))

  module _ (run new : List Held) (held : is_held rank_of (rank_of x) run ≡ true) (t : IsTaken mid run new) where
    none_around : NoneComplete (t.front ++ t.back)
    none_around =
        let o = only_one (rank_of x) None p.front p.back t.front t.back p.run run (subst (AreRuns rank_of goes_on None) p.runs p.kept) (sym p.runs ∙ t.runs) p.among held in
        subst NoneComplete (ap (λ (f : List (List Held)). f ++ p.back) o.front_is ∙ ap (λ (b : List (List Held)). t.front ++ b) o.back_is) (p.others is_complete none)

    pub none_taken : NoneComplete (intervals_of new)
    none_taken = rw t.left none_around

    pub left_taken : new ≡ left_by is_complete mid
    left_taken = taken_left is_complete mid run new t.front t.back t.runs (NonePass_front is_complete t.front t.back none_around) t.complete t.rest

    pub found_taken : first_complete mid ≡ message_of_run run ∷ []
    found_taken =
        ap (λ (o : Option (List Held)). option_to_list (option_map message_of_run o))
        (ap (find is_complete) t.runs ∙ found is_complete t.front t.back run (NonePass_front is_complete t.front t.back none_around) t.complete)

-- nothing is in turn where nothing was, and the interval that took the fragment is not
pub none_turned : (old mid : List Held) (x : Held) (n : ℕ) → IsPlaced old mid x → ((front back : List (List Held)) (r : List Held) → intervals_of mid ≡ front ++ r ∷ back → is_held rank_of (rank_of x) r ≡ true → false ≡ is_in_turn n r)
    → NoneInTurn n (intervals_of old) → NoneInTurn n (intervals_of mid)
none_turned old mid x n p no_turn none =
    subst (NoneInTurn n) (sym p.runs) (NonePass_with (is_in_turn n) p.front p.back p.run (p.others (is_in_turn n) none) (sym (no_turn p.front p.back p.run p.runs p.among)))

-- a fragment comes by which nothing is in turn
pub arrives_settled : (x : Held) (s : OrderedStream) (hs : List Held) → nat_lt x.number s.next ≡ false → hs ≡ with_item rank_of x s.held → NoneInTurn s.next (intervals_of hs) → ordered_arrival x s ≡ at_rest s.next hs
arrives_settled x s hs late made none = rw late (ap (deliver s.next) (sym made) ∙ deliver_ends s.next hs (not_found (is_in_turn s.next) (intervals_of hs) none))

pub no_items : (hs : List Held) → (length hs == 0) ≡ true → hs ≡ []
no_items [] none = refl
no_items (h ∷ hs) none = absurd (omega (arith, is_zero (length (h ∷ hs)) none))
  where
    is_zero : (n : ℕ) → (n == 0) ≡ true → n ≡ 0
    is_zero n e = grind (arith, nat_tests)

-- the next message, of one fragment, comes where nothing is held
pub whole_arrives : (x : Held) (s : OrderedStream) → (length s.held == 0) ≡ true → is_in_turn s.next (x ∷ []) ≡ true → ordered_arrival x s ≡ record { stream = record { next = suc s.next; held = [] }; messages = message_of_run (x ∷ []) ∷ [] }
whole_arrives x s none turn =
    rw late (ap (λ (hs : List Held). deliver s.next (with_item rank_of x hs)) (no_items s.held none)
    ∙ deliver_step s.next (x ∷ []) [] (x ∷ []) (found (is_in_turn s.next) [] [] (x ∷ []) tt turn)
    (taken_left (is_in_turn s.next) (x ∷ []) (x ∷ []) [] [] [] refl tt turn refl) (sym (without_found (is_in_turn s.next) [] [] (x ∷ []) tt turn)))
  where
    late : nat_lt x.number s.next ≡ false
    late = ap (λ (n : ℕ). nat_lt n s.next) (second (is_complete (x ∷ [])) x.number s.next turn) ∙ grind (arith, nat_tests)

pub whole_leaves : (x : Held) (s : OrderedStream) (n : ℕ) (hs : List Held) → (length s.held == 0) ≡ true → is_in_turn s.next (x ∷ []) ≡ true → n ≡ s.next → hs ≡ s.held → record { next = n + 1; held = hs } ≡ (ordered_arrival x s).stream
whole_leaves x s n hs none turn same kept =
    made ∙ sym (ap (λ (d : OrderedDelivery). d.stream) (whole_arrives x s none turn))
  where
    state : ℕ → List Held → OrderedStream
    state k l = record { next = k; held = l }

    next : n + 1 ≡ suc s.next
    next = omega (arith, same)

    made : state (n + 1) hs ≡ state (suc s.next) []
    made = ap (λ (k : ℕ). state k hs) next ∙ ap (state (suc s.next)) (kept ∙ no_items s.held none)

-- a whole unordered message, of one fragment, comes where nothing is held
pub whole_alone : (x : Held) (near passed : ℕ) → is_complete (x ∷ []) ≡ true → nat_lt x.number passed ≡ false
    → unordered_arrival x (record { near = near; passed = passed; held = [] }) ≡ record { stream = record { near = max origin x.number; passed = passed; held = [] }; messages = message_of_run (x ∷ []) ∷ [] }
whole_alone x near passed whole due = rw due (rw whole refl)

pub first_complete_none : (hs : List Held) → NoneComplete (intervals_of hs) → first_complete hs ≡ []
first_complete_none hs none = ap (λ (o : Option (List Held)). option_to_list (option_map message_of_run o)) (not_found is_complete (intervals_of hs) none)

-- an unordered fragment whose key is held
pub added_none : (old mid : List Held) (x : Held) (is_new : Bool) → mid ≡ with_item rank_of x old → is_new ≡ not (is_held rank_of (rank_of x) old) → is_new ≡ false → mid ≡ old
added_none old mid x is_new value answer off = value ∙ held (is_held rank_of (rank_of x) old) refl (sym answer ∙ off)
  where
    held : (b : Bool) → is_held rank_of (rank_of x) old ≡ b → not b ≡ false → with_item rank_of x old ≡ old
    held true is h = rw is refl
    held false is h = absurd (cc)

pub nothing_more : (rs ms : List Message) → ms ≡ [] → rs ≡ rs ++ ms
nothing_more rs ms none = sym (append-nil rs) ∙ ap (λ (t : List Message). rs ++ t) (sym none)

-- one message more, before the others
pub one_earlier : (ready new : List Message) (m n : Message) (d : OrderedDelivery) (whole : List Message) → new ≡ ready ++ m ∷ [] → m ≡ n → ready ++ (preceded_by n d).messages ≡ whole → new ++ d.messages ≡ whole
one_earlier ready new m n d whole made same h =
    ap (λ (t : List Message). t ++ d.messages) made ∙ (append_assoc ready (m ∷ []) d.messages ∙ (ap (λ (t : Message). ready ++ t ∷ d.messages) same ∙ h))
