-- How many fragments the calls of an interval list leave.
use Rattle.std.proofs.Common.{◌≡◌, ℕ, suc, ◌+◌, ◌≤◌, Bool, true, false, cond, not, Option, List, [], ◌∷◌, ◌++◌, None, length, refl, ap, sym, subst, ◌∙◌, arith, length-append}
use Rattle.std.specs.Prelude.{nat_lt}
use Rattle.std.proofs.lemmas.List.{length-map}
use Rattle.sctp_fragments.specs.declared.interval.Entry.{Entry}
use Rattle.sctp_fragments.specs.declared.interval.Interval.{Interval}
use Rattle.sctp_fragments.specs.Interval.{held_of, run_of, lists_of, first_below, without_first, AreIndexed}
use Rattle.sctp_fragments.specs.Runs.{flat, is_held, put_in, with_item, from_rank, AreRuns}
use Rattle.sctp_fragments.specs.Entries.{items_of}
use Rattle.sctp_fragments.specs.Held.{Held, rank_of, goes_on, bytes_of, IsTaken}
use Rattle.sctp_reassembly.specs.Places.{all_of, AreNamed, IsLed}
use Rattle.sctp_reassembly.specs.Listed.{IsListed}

pub put_length : (x : Held) (hs : List Held) → length (put_in rank_of x hs) ≡ suc (length hs)
put_length x [] = refl
put_length x (e ∷ es) = go (nat_lt (rank_of x) (rank_of e)) (put_length x es)
  where
    go : (b : Bool) → length (put_in rank_of x es) ≡ suc (length es) → length (cond b (x ∷ (e ∷ es)) (e ∷ put_in rank_of x es)) ≡ suc (suc (length es))
    go true ih = refl
    go false ih = ap suc ih

-- a new fragment is one more
pub counts_one : (x : Held) (hs : List Held) (is_new : Bool) → is_new ≡ not (is_held rank_of (rank_of x) hs) → is_new ≡ true → length (with_item rank_of x hs) ≡ suc (length hs)
counts_one x hs is_new answer on = go (is_held rank_of (rank_of x) hs) (sym answer ∙ on)
  where
    go : (b : Bool) → not b ≡ true → length (cond b hs (put_in rank_of x hs)) ≡ suc (length hs)
    go true h = absurd (cc)
    go false h = put_length x hs

-- an interval has as many as entries
pub run_length : {K : Type 0} (f : Entry K → Held) (i : Interval K) → length (run_of f i) ≡ length (items_of i.entries.value)
run_length f i = length-map (items_of i.entries.value) f

-- those of an interval went out
pub counts_taken : (old run new : List Held) → IsTaken old run new → length old ≡ length run + length new
counts_taken old run new t =
    let front = flat t.front in
    let back = flat t.back in
    let before : length old ≡ length (front ++ (run ++ back)) = ap length t.split in
    let after : length new ≡ length (front ++ back) = ap length t.rest in
    omega (arith, before, after, length-append front (run ++ back), length-append run back, length-append front back)

-- the first one went out
pub counts_first : (ls new : List (List Held)) (n bytes : ℕ) → AreRuns rank_of goes_on None ls → first_below n ls ≡ true
    → ((e : Held) (es : List Held) (rs : List (List Held)) → ls ≡ (e ∷ es) ∷ rs → (bytes ≡ length e.fragment.payload) × (new ≡ without_first es rs)) → length (flat ls) ≡ suc (length (flat new))
counts_first [] new n bytes r k made = cc
counts_first ([] ∷ rs) new n bytes r k made = absurd r
counts_first ((e ∷ es) ∷ rs) new n bytes r k made =
    let m = made e es rs refl in
    go es ∙ ap (λ (t : List (List Held)). suc (length (flat t))) (sym m.1)
  where
    go : (ds : List Held) → suc (length (ds ++ flat rs)) ≡ suc (length (flat (without_first ds rs)))
    go [] = refl
    go (d ∷ ds) = refl

pub from_rank_length : (n : ℕ) (hs : List Held) → length (from_rank rank_of n hs) ≤ length hs
from_rank_length n [] = omega arith
from_rank_length n (h ∷ hs) = go (nat_lt (rank_of h) n) (from_rank_length n hs)
  where
    go : (b : Bool) → length (from_rank rank_of n hs) ≤ length hs → length (cond b (from_rank rank_of n hs) (h ∷ from_rank rank_of n hs)) ≤ suc (length hs)
    go true ih = omega (arith, ih)
    go false ih = omega (arith, ih)

-- where nothing went out and nothing came, a list is kept as it was
pub still_listed : {K : Type 0} (is_key : K → Type 0) (number index : K → ℕ) (first now_first : Option (Interval K)) (later now_later : List (K × Interval K)) (bytes fragments : ℕ) → IsListed is_key number index first later bytes fragments
    → lists_of (held_of number index) (all_of now_first now_later) ≡ lists_of (held_of number index) (all_of first later) → AreNamed is_key number index now_later → IsLed now_first now_later → IsListed is_key number index now_first now_later bytes fragments
still_listed is_key number index first now_first later now_later bytes fragments listed same named led = record {
  kept = record {
    runs = subst (AreRuns rank_of goes_on None) (sym same) listed.kept.runs;
    named = named;
    led = led;
    counted = listed.kept.counted ∙ ap (λ (t : List (List Held)). bytes_of (flat t)) (sym same);
    small = subst (λ (t : List (List Held)). AreIndexed (flat t)) (sym same) listed.kept.small;
  };
  counted = listed.counted ∙ ap (λ (t : List (List Held)). length (flat t)) (sym same);
}
