-- What the calls of an interval list leave.
use Rattle.std.proofs.Common.{◌≡◌, ℕ, suc, ◌+◌, ◌<◌, ◌≤◌, ◌==◌, Bool, true, false, not, Option, Some, None, List, [], ◌∷◌, ◌++◌, length, refl, ap, sym, subst, ◌∙◌, arith}
use Rattle.std.specs.Prelude.{◌&&◌, is_none}
use Rattle.std.specs.Map.{values_of}
use Rattle.std.proofs.lemmas.Bool.{lt-ltb, and_parts}
use Rattle.sctp_fragments.specs.Interval.{without_first, first_below}
use Rattle.sctp_fragments.specs.Runs.{from_rank}
use Rattle.sctp_fragments.proofs.PlaceLemmas.{emitted_less, emitted_not_less}
use Rattle.sctp_fragments.proofs.RunLemmas.{first_runs, from_rank_runs}
use Rattle.sctp_fragments.specs.declared.interval.Entry.{Entry}
use Rattle.sctp_fragments.specs.declared.interval.Interval.{Interval}
use Rattle.sctp_fragments.specs.Runs.{is_next, flat, last_of, is_held, with_item, AreRuns}
use Rattle.sctp_fragments.specs.Held.{Held, rank_of, goes_on, bytes_of, intervals_of, is_complete, begins, ends, NonePass, NoneComplete, IsPlaced, IsTaken, is_in_turn}
use Rattle.sctp_fragments.specs.Interval.{lists_of, entries_of}
use Rattle.sctp_fragments.proofs.RunLemmas.{flat_append, runs_of_flat, AreRuns_without, with_item_between, is_held_between}
use Rattle.sctp_reassembly.specs.Places.{IsAdded, IsAnswer, IsAmong, IsOut, all_of}
use Rattle.sctp_reassembly.proofs.HolderLemmas.{only_one, held_among}
use Rattle.sctp_reassembly.proofs.InsertLemmas.{length_lists_of}

pub bytes_of_append : (xs ys : List Held) → bytes_of (xs ++ ys) ≡ bytes_of xs + bytes_of ys
bytes_of_append [] ys = omega arith
bytes_of_append (x ∷ xs) ys = omega (arith, bytes_of_append xs ys)

pub second_false : (a b c d : Bool) → (a && (b && not c)) ≡ true → (c && d) ≡ false
second_false true true false d h = refl
second_false true true true d h = cc
second_false true false c d h = cc
second_false false b c d h = cc

at_begin : (a b : Bool) → b ≡ true → (a && not b) ≡ false
at_begin true true h = refl
at_begin true false h = cc
at_begin false b h = refl

at_end : (a b : Bool) → a ≡ true → (not a && b) ≡ false
at_end true b h = refl
at_end false b h = cc

pub intervals_flat : (rs : List (List Held)) → AreRuns rank_of goes_on None rs → intervals_of (flat rs) ≡ rs
intervals_flat rs h = runs_of_flat rank_of goes_on None rs h

-- a run went out that is a message
pub record Takes (old run new : List Held) (left : List (List Held)) : Type 0 where
  pub runs : AreRuns rank_of goes_on None left
  pub bytes : bytes_of old ≡ bytes_of run + bytes_of new
  pub taken : IsTaken old run new

pub takes : (old new : List (List Held)) (run : List Held) → AreRuns rank_of goes_on None old → IsOut old run new → is_complete run ≡ true → Takes (flat old) run (flat new) new
takes old new run h out complete =
    let front = flat out.front in
    let back = flat out.back in
    let runs : AreRuns rank_of goes_on None new = subst (AreRuns rank_of goes_on None) (sym out.left) (AreRuns_without rank_of goes_on None out.front out.back run (subst (AreRuns rank_of goes_on None) out.is h)) in
    let old_flat : flat old ≡ front ++ (run ++ back) = ap flat out.is ∙ flat_append out.front (run ∷ out.back) in
    let new_flat : flat new ≡ front ++ back = ap flat out.left ∙ flat_append out.front out.back in
    record {
      runs = runs;
      bytes = rw old_flat (rw new_flat (omega (arith, bytes_of_append front (run ++ back), bytes_of_append run back, bytes_of_append front back)));
      taken = record { front = out.front; back = out.back; runs = intervals_flat old h ∙ out.is; complete = complete; left = intervals_flat new runs ∙ out.left; split = old_flat; rest = new_flat };
    }

module _ {K : Type 0} (f : Entry K → Held) where
  length_values : {X Y : Type 0} (es : List (X × Y)) → length (values_of es) ≡ length es
  length_values [] = refl
  length_values (e ∷ es) = ap suc (length_values es)

  pub length_kept : (i : Interval K) (later : List (K × Interval K)) → AreRuns rank_of goes_on None (lists_of f (all_of (Some i) later)) → length (intervals_of (entries_of f (all_of (Some i) later))) ≡ suc (length later)
  length_kept i later h =
      ap length (intervals_flat (lists_of f (all_of (Some i) later)) h) ∙ (length_lists_of f (all_of (Some i) later) ∙ ap suc (length_values later))

  pub len_kept : (first : Option (Interval K)) (later : List (K × Interval K)) → is_none first ≡ false → AreRuns rank_of goes_on None (lists_of f (all_of first later)) → suc (length later) ≡ length (intervals_of (entries_of f (all_of first later)))
  len_kept None later some h = absurd (cc)
  len_kept (Some i) later some h = sym (length_kept i later h)

  pub record Adds (old new v : List Held) (x : Held) : Type 0 where
    pub absent : is_held rank_of (rank_of x) v ≡ false
    pub value : new ≡ with_item rank_of x v
    pub bytes : bytes_of new ≡ bytes_of (x ∷ []) + bytes_of v
    pub placed : IsPlaced v new x

  pub adds : (is_key : K → Type 0) (number index : K → ℕ) (old new : List (List Held)) (x : Held) (later : List (K × Interval K)) → AreRuns rank_of goes_on None old → IsAdded is_key number index old new x later → Adds (flat old) (flat new) (flat old) x
  adds is_key number index old new x later h a =
      let put = a.inserted in
      let both : AreRuns rank_of goes_on None (a.ps ++ a.qs) = subst (AreRuns rank_of goes_on None) a.is h in
      let one : flat old ≡ flat (a.ps ++ a.qs) = ap flat a.is in
      let two : flat old ≡ flat a.ps ++ flat a.qs = one ∙ flat_append a.ps a.qs in
      record {
        absent = rw one (is_held_between rank_of goes_on (rank_of x) a.ps a.qs None both a.below a.leads);
        value = put.together ∙ (sym (with_item_between rank_of goes_on x a.ps a.qs None both a.below a.leads) ∙ ap (with_item rank_of x) (sym one));
        bytes = rw put.together (rw two (omega (arith, bytes_of_append (flat a.ps) (x ∷ flat a.qs), bytes_of_append (flat a.ps) (flat a.qs))));
        placed = record {
          kept = subst (AreRuns rank_of goes_on None) (sym (intervals_flat new put.kept)) put.kept;
          front = put.front;
          run = put.run;
          back = put.back;
          runs = intervals_flat new put.kept ∙ put.runs;
          among = put.among;
          others = λ test none. put.others test (subst (NonePass test) (intervals_flat old h ∙ a.is) none);
        };
      }

  -- what an addition answers
  pub record Answered (old new : List (List Held)) (x : Held) (is_new : Bool) : Type 0 where
    pub runs : AreRuns rank_of goes_on None new
    pub value : flat new ≡ with_item rank_of x (flat old)
    pub answer : is_new ≡ not (is_held rank_of (rank_of x) (flat old))
    pub placed : is_new ≡ true → IsPlaced (flat old) (flat new) x
    pub same : is_new ≡ false → new ≡ old
    pub more : is_new ≡ true → bytes_of (flat new) ≡ length x.fragment.payload + bytes_of (flat old)

  pub answered : (is_key : K → Type 0) (number index : K → ℕ) (old new : List (List Held)) (x : Held) (later : List (K × Interval K)) (is_new : Bool) → AreRuns rank_of goes_on None old → IsAnswer is_key number index old new x later is_new → Answered old new x is_new
  answered is_key number index old new x later true h a =
      let all = adds is_key number index old new x later h a in
      record { runs = a.inserted.kept; value = all.value; answer = rw all.absent refl; placed = λ on. all.placed; same = λ off. absurd (cc); more = λ on. omega (arith, all.bytes) }
  answered is_key number index old new x later false h a =
      record { runs = subst (AreRuns rank_of goes_on None) (sym a.1.0) h; value = ap flat a.1.0 ∙ rw a.0 refl; answer = rw a.0 refl; placed = λ on. absurd (cc); same = λ off. a.1.0; more = λ on. absurd (cc) }

  -- without the first entry
  pub record Drops (ls new : List (List Held)) (n bytes : ℕ) : Type 0 where
    pub runs : AreRuns rank_of goes_on None new
    pub counted : bytes_of (flat ls) ≡ bytes + bytes_of (flat new)
    pub same : from_rank rank_of n (flat new) ≡ from_rank rank_of n (flat ls)
    pub smaller : length (flat new) < length (flat ls)
    pub none : NoneComplete ls → NoneComplete new

  not_begun : (e d : Held) (b : Bool) → is_next rank_of goes_on e d ≡ true → (d.fragment.is_beginning && b) ≡ false
  not_begun e d b h = second_false (rank_of d == suc (rank_of e)) (not e.fragment.is_end) d.fragment.is_beginning b h

  drops_made : (e : Held) (es : List Held) (rs : List (List Held)) (n : ℕ) → AreRuns rank_of goes_on None ((e ∷ es) ∷ rs) → rank_of e < n → Drops ((e ∷ es) ∷ rs) (without_first es rs) n (length e.fragment.payload)
  drops_made e [] rs n h k = record {
    runs = first_runs rank_of goes_on (Some e) rs h.1.1;
    counted = refl;
    same = rw (lt-ltb (rank_of e) n k) refl;
    smaller = omega arith;
    none = λ h. h.1;
  }
  drops_made e (d ∷ ds) rs n h k = record {
    runs = (tt, (h.1.0.1, h.1.1));
    counted = refl;
    same = rw (lt-ltb (rank_of e) n k) refl;
    smaller = omega arith;
    none = λ none. (not_begun e d (ends (last_of d ds)) h.1.0.0, none.1);
  }

  pub drops : (ls new : List (List Held)) (n bytes : ℕ) → AreRuns rank_of goes_on None ls → first_below n ls ≡ true
      → ((e : Held) (es : List Held) (rs : List (List Held)) → ls ≡ (e ∷ es) ∷ rs → (bytes ≡ length e.fragment.payload) × (new ≡ without_first es rs)) → Drops ls new n bytes
  drops [] new n bytes h k made = cc
  drops ([] ∷ rs) new n bytes h k made = absurd h
  drops ((e ∷ es) ∷ rs) new n bytes h k made =
      let m = made e es rs refl in
      rw (m.0, m.1) (drops_made e es rs n h (emitted_less true (rank_of e) n refl (sym k)))

  pub drops_none : (ls : List (List Held)) (n : ℕ) → AreRuns rank_of goes_on None ls → first_below n ls ≡ false → flat ls ≡ from_rank rank_of n (flat ls)
  drops_none [] n h k = refl
  drops_none ([] ∷ rs) n h k = absurd h
  drops_none ((e ∷ es) ∷ rs) n h k = sym (from_rank_runs rank_of goes_on n e es rs h (emitted_not_less false (rank_of e) n refl (sym k)))

-- the run in turn
pub turn_complete : (n : ℕ) (r : List Held) → is_in_turn n r ≡ true → is_complete r ≡ true
turn_complete n [] h = h
turn_complete n (e ∷ es) h = (and_parts (is_complete (e ∷ es)) (e.number == n) h).0

-- no fragment is before the first one
pub begins_from : (rs : List (List Held)) (m : ℕ) → AreRuns rank_of goes_on None rs → ((e : Held) (es : List Held) (more : List (List Held)) → rs ≡ (e ∷ es) ∷ more → m ≡ rank_of e) → (n : ℕ) → n ≤ m → from_rank rank_of n (flat rs) ≡ flat rs
begins_from [] m h first n l = refl
begins_from ([] ∷ rs) m h first n l = absurd h
begins_from ((e ∷ es) ∷ rs) m h first n l = from_rank_runs rank_of goes_on n e es rs h (omega (arith, l, first e es rs refl))

-- the interval that has a rank
pub run_there : (n : ℕ) (rs : List (List Held)) (run : List Held) → AreRuns rank_of goes_on None rs → IsAmong n run rs → (front back : List (List Held)) (r : List Held) → intervals_of (flat rs) ≡ front ++ r ∷ back → is_held rank_of n r ≡ true → run ≡ r
run_there n rs run h a front back r runs held =
    (only_one n None a.front a.back front back run r (subst (AreRuns rank_of goes_on None) a.is h) (sym a.is ∙ (sym (intervals_flat rs h) ∙ runs)) a.held held).run_is

pub none_there : (n : ℕ) (rs : List (List Held)) (P : Type 0) → AreRuns rank_of goes_on None rs → is_held rank_of n (flat rs) ≡ false → (front back : List (List Held)) (r : List Held) → intervals_of (flat rs) ≡ front ++ r ∷ back → is_held rank_of n r ≡ true → P
none_there n rs P h none front back r runs held =
    absurd (apart (sym none ∙ (ap (λ (t : List (List Held)). is_held rank_of n (flat t)) (sym (intervals_flat rs h) ∙ runs) ∙ held_among n front back r held)))
  where
    apart : false ≡ true → ⊥
    apart h = cc

pub first_stops : (e f : Held) → begins f ≡ true → goes_on e f ≡ false
first_stops e f h = at_begin (not e.fragment.is_end) f.fragment.is_beginning h

pub last_stops : (e f : Held) → ends e ≡ true → goes_on e f ≡ false
last_stops e f h = at_end e.fragment.is_end (not f.fragment.is_beginning) h
