-- How many bytes channels keep where one is changed, placed or forgotten.
use Rattle.std.proofs.Common.{◌≡◌, ℕ, ◌+◌, ◌-◌, ◌*◌, ◌^◌, ◌<◌, ◌≤◌, min, cond, Bool, true, false, Option, Some, None, Result, Ok, Err, List, [], ◌∷◌, length, refl, sym, ap, subst, ◌∙◌, arith}
use Rattle.std.specs.Prelude.{All, IfSome, IsFalse, IsTrue}
use Rattle.std.specs.BTreeMap.{is_at}
use Rattle.std.specs.List.{AllByRecursion}
use Rattle.std.specs.List.Sorted.{IsStrictlySortedBy}
use Rattle.std.specs.Result.{OnErr, OnOk}
use Rattle.std.specs.Map.{keys_of, lookup, remove_entry, set_value, values_of}
use Rattle.std.specs.Ordering.{is_eq, match_ordering, nat_cmp}
use Rattle.std.specs.declared.cmp.Ordering.{Ordering}
use Rattle.std.specs.declared.cmp.Ordering.TheVariants.{Less, Equal, Greater}
use Rattle.std.proofs.lemmas.List.Elements.{All-head, All-tail}
use Rattle.std.proofs.lemmas.Map.{keys-set_value}
use Rattle.std.proofs.lemmas.Map.Keys.{sorted_head, sorted_tail}
use Rattle.std.proofs.lemmas.Map.Views.{All-keys-insert_entry, All-map-remove_entry, All-values-insert_entry, All-values-set_value, IfSome-lookup_from_All, length-le_from_below}
use Rattle.sctp_serial.proofs.NumberLemmas.{is_less, nat_cmp_less}
use Rattle.sctp_channels.specs.Channel.{Channel, kept_by}
use Rattle.sctp_channels.specs.Entries.{AreCounted, Entries, IsSmall, IsStream, channel_at, forget, kept_at, kept_bytes, put}

no_some : (c : Channel) → None ≡ Some c → ⊥
no_some c e = cc

-- ---- one that is there

same_kept : (c d : Channel) → Some c ≡ Some d → kept_by c ≡ kept_by d
same_kept c d e = ap kept_at e

set_if : (b : Bool) (test : ℕ → Bool) (e : ℕ × Channel) (es : Entries) (c d : Channel) → cond b (Some e.1) (lookup test es) ≡ Some c
    → (lookup test es ≡ Some c → kept_bytes (set_value test es d) + kept_by c ≡ kept_bytes es + kept_by d)
    → kept_bytes (cond b ((e.0, d) ∷ es) (e ∷ set_value test es d)) + kept_by c ≡ kept_by e.1 + kept_bytes es + kept_by d
set_if true test e es c d found rest = let same = same_kept e.1 c found in omega (arith, same)
set_if false test e es c d found rest = let more = rest found in omega (arith, more)

kept_set : (test : ℕ → Bool) (es : Entries) (c d : Channel) → lookup test es ≡ Some c → kept_bytes (set_value test es d) + kept_by c ≡ kept_bytes es + kept_by d
kept_set test [] c d found = absurd (no_some c found)
kept_set test (e ∷ es) c d found = set_if (test e.0) test e es c d found (kept_set test es c d)

-- ---- one that is forgotten, or not there

forget_if : (b : Bool) (test : ℕ → Bool) (e : ℕ × Channel) (es : Entries) → kept_bytes (remove_entry test es) + kept_at (lookup test es) ≡ kept_bytes es
    → kept_bytes (cond b es (e ∷ remove_entry test es)) + kept_at (cond b (Some e.1) (lookup test es)) ≡ kept_by e.1 + kept_bytes es
forget_if true test e es rest = omega arith
forget_if false test e es rest = omega (arith, rest)

kept_forget : (test : ℕ → Bool) (es : Entries) → kept_bytes (remove_entry test es) + kept_at (lookup test es) ≡ kept_bytes es
kept_forget test [] = refl
kept_forget test (e ∷ es) = forget_if (test e.0) test e es (kept_forget test es)

-- ---- one that is placed

none_below : (id k : ℕ) (es : Entries) → nat_cmp id k ≡ Less → AllByRecursion (λ y. nat_cmp k y ≡ Less) (keys_of es) → channel_at id es ≡ None
none_below id k [] below above = refl
none_below id k (e ∷ es) below above =
    let less : nat_cmp id e.0 ≡ Less = nat_cmp_less id e.0 (omega (arith, is_less id k below, is_less k e.0 above.0)) in
    ap (λ (o : Ordering). cond (is_eq o) (Some e.1) (channel_at id es)) less ∙ none_below id k es below above.1

put_if : (o : Ordering) (id : ℕ) (c : Channel) (e : ℕ × Channel) (es : Entries) → (o ≡ Less → channel_at id es ≡ None)
    → kept_bytes (put id c es) + kept_at (channel_at id es) ≡ kept_bytes es + kept_by c
    → kept_bytes (match_ordering o ((id, c) ∷ e ∷ es) ((e.0, c) ∷ es) (e ∷ put id c es)) + kept_at (cond (is_eq o) (Some e.1) (channel_at id es))
    ≡ kept_by e.1 + kept_bytes es + kept_by c
put_if Less id c e es none rest = let zero : kept_at (channel_at id es) ≡ 0 = ap kept_at (none refl) in omega (arith, zero)
put_if Equal id c e es none rest = omega arith
put_if Greater id c e es none rest = omega (arith, rest)

kept_put : (id : ℕ) (c : Channel) (es : Entries) → IsStrictlySortedBy nat_cmp (keys_of es) → kept_bytes (put id c es) + kept_at (channel_at id es) ≡ kept_bytes es + kept_by c
kept_put id c [] sorted = omega arith
kept_put id c (e ∷ es) sorted =
    put_if (nat_cmp id e.0) id c e es (λ below. none_below id e.0 es below (sorted_head nat_cmp e.0 (keys_of es) sorted)) (kept_put id c es (sorted_tail nat_cmp e.0 (keys_of es) sorted))

-- ---- never too many for the count

kept_within : (es : Entries) → All IsSmall (values_of es) → kept_bytes es ≤ length (keys_of es) * 2 ^ 66
kept_within [] small = omega arith
kept_within (e ∷ es) small =
    let first : kept_by e.1 < 2 ^ 66 = All-head IsSmall e.1 (values_of es) small in
    let rest = kept_within es (All-tail IsSmall e.1 (values_of es) small) in
    omega (arith, first, rest)

kept_fits : (es : Entries) → IsStrictlySortedBy nat_cmp (keys_of es) → All IsSmall (values_of es) → All IsStream (keys_of es) → kept_bytes es < 2 ^ 128
kept_fits es sorted small streams = omega (arith, length-le_from_below (2 ^ 16) (keys_of es) sorted streams, kept_within es small)

-- no channel keeps more than all
at_most : (test : ℕ → Bool) (es : Entries) (before : ℕ) → before ≡ kept_at (lookup test es) → before ≤ kept_bytes es
at_most test es before was = omega (arith, was, kept_forget test es)

recount : (kept before after sum new : ℕ) → kept ≡ sum → before ≤ sum → new + before ≡ sum + after → new < 2 ^ 128 → min (kept - before + after) (2 ^ 128 - 1) ≡ new
recount kept before after sum new is least moved fits = omega (arith, is, least, moved, fits)

-- ---- the count goes on

set_counted : (id : ℕ) (c d : Channel) (es : Entries) (kept next : ℕ) → AreCounted kept es → channel_at id es ≡ Some c → kept_by d < 2 ^ 66
    → next ≡ kept_bytes (set_value (is_at (nat_cmp id)) es d) → AreCounted next (set_value (is_at (nat_cmp id)) es d)
set_counted id c d es kept next a found small is = record {
  sum = is;
  small = All-values-set_value (is_at (nat_cmp id)) IsSmall es d a.small small;
  streams = subst (λ (ids : List ℕ). All IsStream ids) (sym (keys-set_value (is_at (nat_cmp id)) es d)) a.streams;
}

-- one is written back that keeps as much as before
pub counted_same : (id : ℕ) (c d : Channel) (es fs : Entries) (kept : ℕ) → AreCounted kept es → fs ≡ set_value (is_at (nat_cmp id)) es d → Some c ≡ channel_at id es
    → kept_by d ≡ kept_by c → AreCounted kept fs
counted_same id c d es fs kept a is found same =
    let test = is_at (nat_cmp id) in
    let moved = kept_set test es c d (sym found) in
    let small : kept_by c < 2 ^ 66 = subst (λ (o : Option Channel). IfSome o IsSmall) (sym found) (IfSome-lookup_from_All IsSmall test es a.small) in
    subst (AreCounted kept) (sym is) (set_counted id c d es kept kept a (sym found) (omega (arith, same, small)) (a.sum ∙ omega (arith, moved, same)))

-- one is written back that may keep more or less
pub counted_set : (id : ℕ) (c d : Channel) (es fs : Entries) (kept before after next : ℕ) → AreCounted kept es → IsStrictlySortedBy nat_cmp (keys_of es)
    → fs ≡ set_value (is_at (nat_cmp id)) es d → Some c ≡ channel_at id es → before ≡ kept_by c → after ≡ kept_by d → after < 2 ^ 66
    → next ≡ min (kept - before + after) (2 ^ 128 - 1) → AreCounted next fs
counted_set id c d es fs kept before after next a sorted is found was will small goes =
    let test = is_at (nat_cmp id) in
    let gs = set_value test es d in
    let moved : kept_bytes gs + before ≡ kept_bytes es + after = ap (λ (n : ℕ). kept_bytes gs + n) was ∙ kept_set test es c d (sym found) ∙ ap (λ (n : ℕ). kept_bytes es + n) (sym will) in
    let low : kept_by d < 2 ^ 66 = subst (λ (n : ℕ). n < 2 ^ 66) will small in
    let keys = keys-set_value test es d in
    let fits = kept_fits gs (subst (λ (ids : List ℕ). IsStrictlySortedBy nat_cmp ids) (sym keys) sorted) (All-values-set_value test IsSmall es d a.small low)
    (subst (λ (ids : List ℕ). All IsStream ids) (sym keys) a.streams) in
    subst (AreCounted next) (sym is) (set_counted id c d es kept next a (sym found) low (goes ∙ recount kept before after (kept_bytes es) (kept_bytes gs) a.sum (at_most test es before (was ∙ ap kept_at found)) moved fits))

pub counted_put : (id : ℕ) (d : Channel) (es fs : Entries) (kept before after next : ℕ) → AreCounted kept es → IsStrictlySortedBy nat_cmp (keys_of es)
    → IsStrictlySortedBy nat_cmp (keys_of fs) → fs ≡ put id d es → id < 2 ^ 16 → before ≡ kept_at (channel_at id es) → after ≡ kept_by d → after < 2 ^ 66
    → next ≡ min (kept - before + after) (2 ^ 128 - 1) → AreCounted next fs
counted_put id d es fs kept before after next a sorted sorted_too is stream was will small goes =
    let gs = put id d es in
    let moved : kept_bytes gs + before ≡ kept_bytes es + after = ap (λ (n : ℕ). kept_bytes gs + n) was ∙ kept_put id d es sorted ∙ ap (λ (n : ℕ). kept_bytes es + n) (sym will) in
    let low : kept_by d < 2 ^ 66 = subst (λ (n : ℕ). n < 2 ^ 66) will small in
    let values = All-values-insert_entry nat_cmp id d IsSmall es a.small low in
    let keys = All-keys-insert_entry nat_cmp id d IsStream es a.streams stream in
    let fits = kept_fits gs (subst (λ (xs : Entries). IsStrictlySortedBy nat_cmp (keys_of xs)) is sorted_too) values keys in
    subst (AreCounted next) (sym is) (record { sum = goes ∙ recount kept before after (kept_bytes es) (kept_bytes gs) a.sum (at_most (is_at (nat_cmp id)) es before was) moved fits; small = values; streams = keys })

pub counted_forget : (id : ℕ) (es fs : Entries) (kept before next : ℕ) → AreCounted kept es → IsStrictlySortedBy nat_cmp (keys_of fs) → fs ≡ forget id es
    → before ≡ kept_at (channel_at id es) → next ≡ min (kept - before + 0) (2 ^ 128 - 1) → AreCounted next fs
counted_forget id es fs kept before next a sorted_too is was goes =
    let test = is_at (nat_cmp id) in
    let gs = forget id es in
    let moved : kept_bytes gs + before ≡ kept_bytes es + 0 = ap (λ (n : ℕ). kept_bytes gs + n) was ∙ kept_forget test es ∙ omega arith in
    let values = All-map-remove_entry test (λ e. e.1) IsSmall es a.small in
    let keys = All-map-remove_entry test (λ e. e.0) IsStream es a.streams in
    let fits = kept_fits gs (subst (λ (xs : Entries). IsStrictlySortedBy nat_cmp (keys_of xs)) is sorted_too) values keys in
    subst (AreCounted next) (sym is) (record { sum = goes ∙ recount kept before 0 (kept_bytes es) (kept_bytes gs) a.sum (at_most test es before was) moved fits; small = values; streams = keys })

-- ---- outcomes

pub on_each : {T E : Type 0} (r : Result T E) {P : Type 0} → P → OnErr r P
on_each (Ok x) p = record {}
on_each (Err e) p = p

pub either_way : {T E : Type 0} (r : Result T E) {P : Type 0} → OnOk r P → OnErr r P → P
either_way (Ok x) ok err = ok
either_way (Err e) ok err = err

pub either_answer : (b : Bool) {P : Type 0} → (IsTrue b → P) → (IsFalse b → P) → P
either_answer true held failed = held refl
either_answer false held failed = failed refl
