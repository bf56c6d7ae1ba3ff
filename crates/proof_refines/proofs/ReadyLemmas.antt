-- What becomes ready is made of what was held.
use Rattle.std.proofs.Common.{◌≡◌, ℕ, zero, suc, ◌⊎◌, Bool, true, false, cond, Option, Some, None, List, [], ◌∷◌, ◌++◌, length, refl, ap, sym, subst, ◌∙◌, inl, arith}
use Rattle.std.specs.Prelude.{nat_lt, max, option_map, option_to_list}
use Rattle.std.specs.List.{find}
use Rattle.std.proofs.lemmas.Bool.{and_parts}
use Rattle.std.proofs.lemmas.List.Elements.{All-nil, All-cons}
use Rattle.sctp_serial.specs.Unwrapped.{origin}
use Rattle.sctp_serial.specs.Messages.{Message}
use Rattle.sctp_fragments.specs.ReassemblyKey.{pair_rank}
use Rattle.sctp_fragments.specs.Runs.{flat, last_of, with_item, from_rank, end_of, AreRuns}
use Rattle.sctp_fragments.specs.Held.{Held, rank_of, goes_on, begins, ends, intervals_of, is_complete, is_in_turn, without_first_of, left_by, message_of_run}
use Rattle.sctp_reassembly.specs.Delivery.{OrderedStream, UnorderedStream, OrderedDelivery, at_rest, delivering, deliver_within, deliver, ordered_arrival, ordered_forward, first_complete, deliver_first_complete, unordered_arrival}
use Rattle.proof_refines.specs.SettledStreams.{AreInOrder}
use Rattle.proof_refines.specs.ReadyMessages.{held_at, AreHeld, IsWhole, AreParted, AreReady, AreReadyInTurn, IsIn}
use Rattle.sctp_fragments.proofs.RunLemmas.{AreRuns_back, flat_append, flat_runs_of}
use Rattle.sctp_reassembly.proofs.DeliverLemmas.{found_passes}
use Rattle.sctp_reassembly.proofs.FindLemmas.{left_unfound}
use Rattle.sctp_reassembly.proofs.HeldLemmas.{RisesFrom, rises, parted, parted_twice, inside}
use Rattle.proof_refines.proofs.SettledRunsLemmas.{left_order, from_order}
use Rattle.proof_refines.proofs.SettledInsertLemmas.{came_in}
use Rattle.sctp_reassembly.proofs.ListLemmas.{turn_complete}

-- a complete interval is a message
whole_at : (before : Option Held) (r : List Held) (rs : List (List Held)) → AreRuns rank_of goes_on before (r ∷ rs) → is_complete r ≡ true → IsWhole r
whole_at before [] rs h k = absurd h
whole_at before (e ∷ es) rs h k = let b = and_parts (begins e) (ends (last_of e es)) k in (b.0, (b.1, h.1.0))

pub whole_interval : (hs r : List Held) (front back : List (List Held)) → AreInOrder hs → intervals_of hs ≡ front ++ r ∷ back → is_complete r ≡ true → IsWhole r
whole_interval hs r front back h is k = whole_at (end_of None front) r back (AreRuns_back rank_of goes_on None front (r ∷ back) (subst (AreRuns rank_of goes_on None) is h)) k

pub split_around : (hs r : List Held) (front back : List (List Held)) → intervals_of hs ≡ front ++ r ∷ back → hs ≡ flat front ++ (r ++ flat back)
split_around hs r front back is = sym (flat_runs_of rank_of goes_on hs) ∙ (ap flat is ∙ flat_append front (r ∷ back))

-- fragments that are there, from a beginning to an end, are side by side
pub is_in : (hs r : List Held) → AreInOrder hs → IsWhole r → AreHeld hs r → IsIn r hs
is_in hs [] h k held = absurd k
is_in hs (e ∷ es) h k held =
    let up = subst (RisesFrom rank_of goes_on 0) (flat_runs_of rank_of goes_on hs) (rises rank_of goes_on (intervals_of hs) h) in
    let i = inside rank_of goes_on 0 e es hs up k.1.1 held in
    record { front = i.front; back = i.back; split = i.split }

-- ---- the first interval that passes a test

module _ (test : List Held → Bool) where
  record FoundAt (rs : List (List Held)) (r : List Held) : Type 0 where
    front : List (List Held)
    back : List (List Held)
    is : rs ≡ front ++ r ∷ back
    left : without_first_of test rs ≡ front ++ back

  found_at : (rs : List (List Held)) (r : List Held) → find test rs ≡ Some r → FoundAt rs r
  found_at [] r h = absurd (cc)
  found_at (q ∷ rs) r h = go (test q) refl h (found_at rs r)
    where
      go : (b : Bool) → test q ≡ b → cond b (Some q) (find test rs) ≡ Some r → (find test rs ≡ Some r → FoundAt rs r) → FoundAt (q ∷ rs) r
      go true is h rest = let same : q ≡ r = cc in record { front = []; back = rs; is = ap (λ (t : List Held). t ∷ rs) same; left = ap (λ (b : Bool). cond b rs (q ∷ without_first_of test rs)) is }
      go false is h rest =
          let f = rest h in
          record {
            front = q ∷ f.front;
            back = f.back;
            is = ap (λ (t : List (List Held)). q ∷ t) f.is;
            left = ap (λ (b : Bool). cond b rs (q ∷ without_first_of test rs)) is ∙ ap (λ (t : List (List Held)). q ∷ t) f.left;
          }

  record Out (hs r : List Held) : Type 0 where
    parts : AreParted hs (left_by test hs) r
    whole : is_complete r ≡ true → IsWhole r

  taken_out : (hs r : List Held) → AreInOrder hs → find test (intervals_of hs) ≡ Some r → Out hs r
  taken_out hs r h is =
      let f = found_at (intervals_of hs) r is in
      let split : hs ≡ flat f.front ++ (r ++ flat f.back) = split_around hs r f.front f.back f.is in
      let left : left_by test hs ≡ flat f.front ++ flat f.back = ap flat f.left ∙ flat_append f.front f.back in
      let up = subst (RisesFrom rank_of goes_on 0) (flat_runs_of rank_of goes_on hs ∙ split) (rises rank_of goes_on (intervals_of hs) h) in
      record {
        parts = λ n. subst (λ (t : List Held). ((held_at n (left_by test hs) ≡ held_at n t) × (held_at n r ≡ None)) ⊎ ((held_at n (left_by test hs) ≡ None) × (held_at n r ≡ held_at n t))) (sym split)
            (subst (λ (t : List Held). ((held_at n t ≡ held_at n (flat f.front ++ (r ++ flat f.back))) × (held_at n r ≡ None)) ⊎ ((held_at n t ≡ None) × (held_at n r ≡ held_at n (flat f.front ++ (r ++ flat f.back))))) (sym left)
            (parted rank_of goes_on 0 n (flat f.front) r (flat f.back) up));
        whole = λ k. whole_interval hs r f.front f.back h f.is k;
      }

-- nothing becomes ready
abbrev none_ready : (hs : List Held) → AreReady hs hs []
none_ready hs = record { runs = []; made = refl; whole = All-nil IsWhole; parted = λ n. inl (refl, refl) }

rest_ready : (n : ℕ) (hs : List Held) → AreReadyInTurn n hs (at_rest n hs)
rest_ready n hs = record { ready = none_ready hs; turns = tt; onward = omega arith }

ready_within : (most n : ℕ) (hs : List Held) → AreInOrder hs → AreReadyInTurn n hs (deliver_within most n hs)
ready_within zero n hs h = rest_ready n hs
ready_within (suc most) n hs h = go (ready_within most (suc n) (left_by (is_in_turn n) hs) (left_order (is_in_turn n) hs h)) (find (is_in_turn n) (intervals_of hs)) refl
  where
    later : OrderedDelivery
    later = deliver_within most (suc n) (left_by (is_in_turn n) hs)

    go : AreReadyInTurn (suc n) (left_by (is_in_turn n) hs) later → (o : Option (List Held)) → find (is_in_turn n) (intervals_of hs) ≡ o → AreReadyInTurn n hs (delivering o n hs later)
    go more None is = rest_ready n hs
    go more (Some r) is =
        let pass = found_passes (is_in_turn n) (intervals_of hs) r is in
        let out = taken_out (is_in_turn n) hs r h is in
        record {
          ready = record {
            runs = r ∷ more.ready.runs;
            made = ap (λ (t : List Message). message_of_run r ∷ t) more.ready.made;
            whole = All-cons IsWhole r more.ready.runs (out.whole (turn_complete n r pass)) more.ready.whole;
            parted = λ m. parted_twice rank_of goes_on m (held_at m hs) (held_at m (left_by (is_in_turn n) hs)) (held_at m later.stream.held) r (flat more.ready.runs) (out.parts m) (more.ready.parted m);
          };
          turns = (pass, more.turns);
          onward = omega (arith, more.onward);
        }

pub ready_ordered : (x : Held) (s : OrderedStream) → AreInOrder s.held → nat_lt x.number s.next ≡ false → AreReadyInTurn s.next (with_item rank_of x s.held) (ordered_arrival x s)
ready_ordered x s h late =
    subst (λ (b : Bool). AreReadyInTurn s.next (with_item rank_of x s.held) (cond b (at_rest s.next s.held) (deliver s.next (with_item rank_of x s.held)))) (sym late)
    (ready_within (length (intervals_of (with_item rank_of x s.held))) s.next (with_item rank_of x s.held) (came_in x s.held h).order)

pub ready_forward : (n : ℕ) (s : OrderedStream) → AreInOrder s.held → AreReadyInTurn (max (suc n) s.next) (from_rank rank_of (pair_rank (suc n) 0) s.held) (ordered_forward n s)
ready_forward n s h =
    ready_within (length (intervals_of (from_rank rank_of (pair_rank (suc n) 0) s.held))) (max (suc n) s.next) (from_rank rank_of (pair_rank (suc n) 0) s.held) (from_order (pair_rank (suc n) 0) s.held h)

ready_first_complete : (hs : List Held) → AreInOrder hs → AreReady hs (left_by is_complete hs) (first_complete hs)
ready_first_complete hs h = go (find is_complete (intervals_of hs)) refl
  where
    go : (o : Option (List Held)) → find is_complete (intervals_of hs) ≡ o → AreReady hs (left_by is_complete hs) (option_to_list (option_map message_of_run o))
    go None is = subst (λ (t : List Held). AreReady hs t []) (sym (left_unfound is_complete hs is)) (none_ready hs)
    go (Some r) is =
        let out = taken_out is_complete hs r h is in
        record {
          runs = r ∷ [];
          made = refl;
          whole = All-cons IsWhole r [] (out.whole (found_passes is_complete (intervals_of hs) r is)) (All-nil IsWhole);
          parted = λ n. parted_twice rank_of goes_on n (held_at n hs) (held_at n (left_by is_complete hs)) (held_at n (left_by is_complete hs)) r [] (out.parts n) (inl (refl, refl));
        }

pub ready_unordered : (x : Held) (s : UnorderedStream) → AreInOrder s.held → nat_lt x.number s.passed ≡ false → AreReady (with_item rank_of x s.held) (unordered_arrival x s).stream.held (unordered_arrival x s).messages
ready_unordered x s h late = go (nat_lt x.number s.passed) late
  where
    go : (b : Bool) → b ≡ false → (let d = cond b (record { stream = record s { near = max origin x.number }; messages = [] }) (deliver_first_complete (record s { near = max origin x.number; held = with_item rank_of x s.held })) in AreReady (with_item rank_of x s.held) d.stream.held d.messages)
    go true wrong = absurd (cc)
    go false _ = ready_first_complete (with_item rank_of x s.held) (came_in x s.held h).order
