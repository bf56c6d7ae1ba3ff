-- The streams that the peer has not reset yet, where a channel is changed, placed or forgotten.
use Rattle.std.proofs.Common.{◌≡◌, ℕ, ◌≤◌, cond, Bool, true, false, Option, Some, None, List, [], ◌∷◌, refl, sym, ap, subst, ◌∙◌, arith}
use Rattle.std.specs.Prelude.{◌||◌, IfSome}
use Rattle.std.specs.BTreeMap.{is_at}
use Rattle.std.specs.BTreeSet.{insert_key}
use Rattle.std.specs.List.{AllByRecursion, list_any}
use Rattle.std.specs.List.Sorted.{IsStrictlySortedBy}
use Rattle.std.specs.Map.{keys_of, lookup, set_value}
use Rattle.std.specs.Ordering.{is_eq, match_ordering, nat_cmp}
use Rattle.std.specs.Set.{remove_key}
use Rattle.std.specs.declared.cmp.Ordering.{Ordering}
use Rattle.std.specs.declared.cmp.Ordering.TheVariants.{Less, Equal, Greater}
use Rattle.std.proofs.lemmas.Map.Keys.{sorted_head, sorted_tail}
use Rattle.sctp_serial.proofs.NumberLemmas.{at_itself, at_other, is_equal, is_less, nat_cmp_less, same_at}
use Rattle.sctp_channels.specs.Channel.{Channel, keep_if, on_data, take_if}
use Rattle.sctp_channels.specs.Channels.{incoming_streams}
use Rattle.sctp_channels.specs.Entries.{Entries, KeepsIncoming, channel_at, forget, put}
use Rattle.sctp_channels.specs.declared.lifecycle.Lifecycle.{Lifecycle}
use Rattle.sctp_channels.specs.declared.payload.PayloadProtocol.{PayloadProtocol}
use Rattle.sctp_channels.specs.declared.payload.PayloadProtocol.TheVariants.{Control, Data, Empty, Part}

no_some : (c : Channel) → None ≡ Some c → ⊥
no_some c e = cc

some_none : (c : Channel) → Some c ≡ None → ⊥
some_none c e = cc

abbrev reset_at : Option Channel → Bool
reset_at None = true
reset_at (Some c) = c.lifecycle.is_incoming_reset

-- ---- a list of streams, with the first one or without it

taken_here : (is_reset : Bool) (test : ℕ → Bool) (k : ℕ) (ks : List ℕ) → test k ≡ true → remove_key test ks ≡ ks → remove_key test (cond is_reset ks (k ∷ ks)) ≡ ks
taken_here true test k ks here others = others
taken_here false test k ks here others = ap (λ (b : Bool). cond b ks (k ∷ remove_key test ks)) here

taken_behind : (is_reset : Bool) (test : ℕ → Bool) (k : ℕ) (ks : List ℕ) → test k ≡ false
    → remove_key test (cond is_reset ks (k ∷ ks)) ≡ cond is_reset (remove_key test ks) (k ∷ remove_key test ks)
taken_behind true test k ks other = refl
taken_behind false test k ks other = ap (λ (b : Bool). cond b ks (k ∷ remove_key test ks)) other

-- what ascends from a stream on has none before it
not_there : (id k : ℕ) (es : Entries) → id ≤ k → AllByRecursion (λ y. nat_cmp k y ≡ Less) (keys_of es) → remove_key (is_at (nat_cmp id)) (incoming_streams es) ≡ incoming_streams es
not_there id k [] least above = refl
not_there id k (e ∷ es) least above =
    let test = is_at (nat_cmp id) in
    let rest = not_there id k es least above.1 in
    let first = is_less k e.0 above.0 in
    taken_behind e.1.lifecycle.is_incoming_reset test e.0 (incoming_streams es) (at_other id e.0 (λ same. omega (arith, same, least, first)))
    ∙ ap (λ (ks : List ℕ). cond e.1.lifecycle.is_incoming_reset ks (e.0 ∷ ks)) rest

-- ---- a channel is changed

same_if : (b : Bool) (test : ℕ → Bool) (e : ℕ × Channel) (es : Entries) (c d : Channel) → cond b (Some e.1) (lookup test es) ≡ Some c → KeepsIncoming d.lifecycle c
    → (lookup test es ≡ Some c → incoming_streams (set_value test es d) ≡ incoming_streams es)
    → incoming_streams (cond b ((e.0, d) ∷ es) (e ∷ set_value test es d)) ≡ incoming_streams (e ∷ es)
same_if true test e es c d found same rest = ap (λ (b : Bool). cond b (incoming_streams es) (e.0 ∷ incoming_streams es)) (same ∙ sym (ap reset_at found))
same_if false test e es c d found same rest = ap (λ (ks : List ℕ). cond e.1.lifecycle.is_incoming_reset ks (e.0 ∷ ks)) (rest found)

same_set : (test : ℕ → Bool) (es : Entries) (c d : Channel) → lookup test es ≡ Some c → KeepsIncoming d.lifecycle c → incoming_streams (set_value test es d) ≡ incoming_streams es
same_set test [] c d found same = absurd (no_some c found)
same_set test (e ∷ es) c d found same = same_if (test e.0) test e es c d found same (λ there. same_set test es c d there same)

reset_if : (b : Bool) (id : ℕ) (e : ℕ × Channel) (es : Entries) (c d : Channel) → is_at (nat_cmp id) e.0 ≡ b → cond b (Some e.1) (channel_at id es) ≡ Some c → d.lifecycle.is_incoming_reset ≡ true
    → AllByRecursion (λ y. nat_cmp e.0 y ≡ Less) (keys_of es)
    → (channel_at id es ≡ Some c → incoming_streams (set_value (is_at (nat_cmp id)) es d) ≡ remove_key (is_at (nat_cmp id)) (incoming_streams es))
    → incoming_streams (cond b ((e.0, d) ∷ es) (e ∷ set_value (is_at (nat_cmp id)) es d)) ≡ remove_key (is_at (nat_cmp id)) (incoming_streams (e ∷ es))
reset_if true id e es c d is found reset above rest =
    let same = same_at id e.0 is in
    ap (λ (b : Bool). cond b (incoming_streams es) (e.0 ∷ incoming_streams es)) reset
    ∙ sym (taken_here e.1.lifecycle.is_incoming_reset (is_at (nat_cmp id)) e.0 (incoming_streams es) is (not_there id e.0 es (omega (arith, same)) above))
reset_if false id e es c d is found reset above rest =
    ap (λ (ks : List ℕ). cond e.1.lifecycle.is_incoming_reset ks (e.0 ∷ ks)) (rest found)
    ∙ sym (taken_behind e.1.lifecycle.is_incoming_reset (is_at (nat_cmp id)) e.0 (incoming_streams es) is)

reset_set : (id : ℕ) (es : Entries) (c d : Channel) → IsStrictlySortedBy nat_cmp (keys_of es) → channel_at id es ≡ Some c → d.lifecycle.is_incoming_reset ≡ true
    → incoming_streams (set_value (is_at (nat_cmp id)) es d) ≡ remove_key (is_at (nat_cmp id)) (incoming_streams es)
reset_set id [] c d sorted found reset = absurd (no_some c found)
reset_set id (e ∷ es) c d sorted found reset =
    reset_if (is_at (nat_cmp id) e.0) id e es c d refl found reset (sorted_head nat_cmp e.0 (keys_of es) sorted)
    (λ there. reset_set id es c d (sorted_tail nat_cmp e.0 (keys_of es) sorted) there reset)

-- ---- a channel is forgotten

forgotten_if : (b : Bool) (id : ℕ) (e : ℕ × Channel) (es : Entries) → is_at (nat_cmp id) e.0 ≡ b → AllByRecursion (λ y. nat_cmp e.0 y ≡ Less) (keys_of es)
    → incoming_streams (forget id es) ≡ remove_key (is_at (nat_cmp id)) (incoming_streams es)
    → incoming_streams (cond b es (e ∷ forget id es)) ≡ remove_key (is_at (nat_cmp id)) (incoming_streams (e ∷ es))
forgotten_if true id e es is above rest =
    let same = same_at id e.0 is in
    sym (taken_here e.1.lifecycle.is_incoming_reset (is_at (nat_cmp id)) e.0 (incoming_streams es) is (not_there id e.0 es (omega (arith, same)) above))
forgotten_if false id e es is above rest =
    ap (λ (ks : List ℕ). cond e.1.lifecycle.is_incoming_reset ks (e.0 ∷ ks)) rest
    ∙ sym (taken_behind e.1.lifecycle.is_incoming_reset (is_at (nat_cmp id)) e.0 (incoming_streams es) is)

forgotten : (id : ℕ) (es : Entries) → IsStrictlySortedBy nat_cmp (keys_of es) → incoming_streams (forget id es) ≡ remove_key (is_at (nat_cmp id)) (incoming_streams es)
forgotten id [] sorted = refl
forgotten id (e ∷ es) sorted =
    forgotten_if (is_at (nat_cmp id) e.0) id e es refl (sorted_head nat_cmp e.0 (keys_of es) sorted) (forgotten id es (sorted_tail nat_cmp e.0 (keys_of es) sorted))

-- ---- a channel is placed

-- a stream before a first one, and before those behind it
before_both : (is_reset : Bool) (id k : ℕ) (ks : List ℕ) → nat_cmp id k ≡ Less → insert_key nat_cmp ks id ≡ id ∷ ks → insert_key nat_cmp (cond is_reset ks (k ∷ ks)) id ≡ id ∷ cond is_reset ks (k ∷ ks)
before_both true id k ks less rest = rest
before_both false id k ks less rest = ap (λ (o : Ordering). match_ordering o (id ∷ k ∷ ks) (k ∷ ks) (k ∷ insert_key nat_cmp ks id)) less

in_front : (id k : ℕ) (es : Entries) → id ≤ k → AllByRecursion (λ y. nat_cmp k y ≡ Less) (keys_of es) → insert_key nat_cmp (incoming_streams es) id ≡ id ∷ incoming_streams es
in_front id k [] least above = refl
in_front id k (e ∷ es) least above =
    let first = is_less k e.0 above.0 in
    before_both e.1.lifecycle.is_incoming_reset id e.0 (incoming_streams es) (nat_cmp_less id e.0 (omega (arith, least, first))) (in_front id k es least above.1)

equal_both : (is_reset : Bool) (id k : ℕ) (ks : List ℕ) → nat_cmp id k ≡ Equal → insert_key nat_cmp ks id ≡ id ∷ ks → insert_key nat_cmp (cond is_reset ks (k ∷ ks)) id ≡ k ∷ ks
equal_both true id k ks equal rest = rest ∙ ap (λ (n : ℕ). n ∷ ks) (sym (is_equal id k equal))
equal_both false id k ks equal rest = ap (λ (o : Ordering). match_ordering o (id ∷ k ∷ ks) (k ∷ ks) (k ∷ insert_key nat_cmp ks id)) equal

behind_both : (is_reset : Bool) (id k : ℕ) (ks : List ℕ) → nat_cmp id k ≡ Greater
    → insert_key nat_cmp (cond is_reset ks (k ∷ ks)) id ≡ cond is_reset (insert_key nat_cmp ks id) (k ∷ insert_key nat_cmp ks id)
behind_both true id k ks greater = refl
behind_both false id k ks greater = ap (λ (o : Ordering). match_ordering o (id ∷ k ∷ ks) (k ∷ ks) (k ∷ insert_key nat_cmp ks id)) greater

placed_if : (o : Ordering) (id : ℕ) (c : Channel) (e : ℕ × Channel) (es : Entries) → nat_cmp id e.0 ≡ o → c.lifecycle.is_incoming_reset ≡ false → AllByRecursion (λ y. nat_cmp e.0 y ≡ Less) (keys_of es)
    → insert_key nat_cmp (incoming_streams es) id ≡ incoming_streams (put id c es)
    → insert_key nat_cmp (incoming_streams (e ∷ es)) id ≡ incoming_streams (match_ordering o ((id, c) ∷ e ∷ es) ((e.0, c) ∷ es) (e ∷ put id c es))
placed_if Less id c e es is comes above rest =
    let less = is_less id e.0 is in
    before_both e.1.lifecycle.is_incoming_reset id e.0 (incoming_streams es) is (in_front id e.0 es (omega (arith, less)) above)
    ∙ ap (λ (b : Bool). cond b (incoming_streams (e ∷ es)) (id ∷ incoming_streams (e ∷ es))) (sym comes)
placed_if Equal id c e es is comes above rest =
    let same = is_equal id e.0 is in
    equal_both e.1.lifecycle.is_incoming_reset id e.0 (incoming_streams es) is (in_front id e.0 es (omega (arith, same)) above)
    ∙ ap (λ (b : Bool). cond b (incoming_streams es) (e.0 ∷ incoming_streams es)) (sym comes)
placed_if Greater id c e es is comes above rest =
    behind_both e.1.lifecycle.is_incoming_reset id e.0 (incoming_streams es) is
    ∙ ap (λ (ks : List ℕ). cond e.1.lifecycle.is_incoming_reset ks (e.0 ∷ ks)) rest

placed : (id : ℕ) (c : Channel) (es : Entries) → IsStrictlySortedBy nat_cmp (keys_of es) → c.lifecycle.is_incoming_reset ≡ false
    → insert_key nat_cmp (incoming_streams es) id ≡ incoming_streams (put id c es)
placed id c [] sorted comes = ap (λ (b : Bool). cond b [] (id ∷ [])) (sym comes)
placed id c (e ∷ es) sorted comes =
    placed_if (nat_cmp id e.0) id c e es refl comes (sorted_head nat_cmp e.0 (keys_of es) sorted) (placed id c es (sorted_tail nat_cmp e.0 (keys_of es) sorted) comes)

-- ---- a channel that found no place

undone_if : (o : Ordering) (id k : ℕ) (ks : List ℕ) → nat_cmp id k ≡ o → (is_eq o || list_any (is_at (nat_cmp id)) ks) ≡ false
    → (list_any (is_at (nat_cmp id)) ks ≡ false → remove_key (is_at (nat_cmp id)) (insert_key nat_cmp ks id) ≡ ks)
    → remove_key (is_at (nat_cmp id)) (match_ordering o (id ∷ k ∷ ks) (k ∷ ks) (k ∷ insert_key nat_cmp ks id)) ≡ k ∷ ks
undone_if Less id k ks is absent rest = ap (λ (b : Bool). cond b (k ∷ ks) (id ∷ remove_key (is_at (nat_cmp id)) (k ∷ ks))) (at_itself id)
undone_if Equal id k ks is absent rest = absurd cc
undone_if Greater id k ks is absent rest =
    ap (λ (o : Ordering). cond (is_eq o) (insert_key nat_cmp ks id) (k ∷ remove_key (is_at (nat_cmp id)) (insert_key nat_cmp ks id))) is ∙ ap (λ (xs : List ℕ). k ∷ xs) (rest absent)

undone : (id : ℕ) (ks : List ℕ) → list_any (is_at (nat_cmp id)) ks ≡ false → remove_key (is_at (nat_cmp id)) (insert_key nat_cmp ks id) ≡ ks
undone id [] absent = ap (λ (b : Bool). cond b [] (id ∷ [])) (at_itself id)
undone id (k ∷ ks) absent = undone_if (nat_cmp id k) id k ks refl absent (undone id ks)

absent_if : (b is_reset : Bool) (test : ℕ → Bool) (k : ℕ) (ks : List ℕ) → test k ≡ b → b ≡ false → list_any test ks ≡ false → list_any test (cond is_reset ks (k ∷ ks)) ≡ false
absent_if true is_reset test k ks is other rest = absurd cc
absent_if false true test k ks is other rest = rest
absent_if false false test k ks is other rest = ap (λ (b : Bool). b || list_any test ks) is ∙ rest

nothing_at : (b : Bool) (c : Channel) (o : Option Channel) → cond b (Some c) o ≡ None → (b ≡ false) × (o ≡ None)
nothing_at true c o none = absurd (some_none c none)
nothing_at false c o none = (refl, none)

absent : (test : ℕ → Bool) (es : Entries) → lookup test es ≡ None → list_any test (incoming_streams es) ≡ false
absent test [] none = refl
absent test (e ∷ es) none =
    let both = nothing_at (test e.0) e.1 (lookup test es) none in
    absent_if (test e.0) e.1.lifecycle.is_incoming_reset test e.0 (incoming_streams es) refl both.0 (absent test es both.1)

-- ---- the set goes on

pub incoming_same : (id : ℕ) (c d : Channel) (es fs : Entries) (ks : List ℕ) → ks ≡ incoming_streams es → fs ≡ set_value (is_at (nat_cmp id)) es d → Some c ≡ channel_at id es
    → KeepsIncoming d.lifecycle c → ks ≡ incoming_streams fs
incoming_same id c d es fs ks was is found same = was ∙ sym (same_set (is_at (nat_cmp id)) es c d (sym found) same) ∙ ap incoming_streams (sym is)

pub incoming_reset : (id : ℕ) (c d : Channel) (es fs : Entries) (ks next : List ℕ) → ks ≡ incoming_streams es → IsStrictlySortedBy nat_cmp (keys_of es) → fs ≡ set_value (is_at (nat_cmp id)) es d
    → Some c ≡ channel_at id es → d.lifecycle.is_incoming_reset ≡ true → next ≡ remove_key (is_at (nat_cmp id)) ks → next ≡ incoming_streams fs
incoming_reset id c d es fs ks next was sorted is found reset goes =
    goes ∙ ap (λ (xs : List ℕ). remove_key (is_at (nat_cmp id)) xs) was ∙ sym (reset_set id es c d sorted (sym found) reset) ∙ ap incoming_streams (sym is)

pub incoming_forget : (id : ℕ) (es fs : Entries) (ks next : List ℕ) → ks ≡ incoming_streams es → IsStrictlySortedBy nat_cmp (keys_of es) → fs ≡ forget id es
    → next ≡ remove_key (is_at (nat_cmp id)) ks → next ≡ incoming_streams fs
incoming_forget id es fs ks next was sorted is goes =
    goes ∙ ap (λ (xs : List ℕ). remove_key (is_at (nat_cmp id)) xs) was ∙ sym (forgotten id es sorted) ∙ ap incoming_streams (sym is)

pub incoming_put : (id : ℕ) (c : Channel) (es fs : Entries) (ks next : List ℕ) → ks ≡ incoming_streams es → IsStrictlySortedBy nat_cmp (keys_of es) → fs ≡ put id c es
    → c.lifecycle.is_incoming_reset ≡ false → next ≡ insert_key nat_cmp ks id → next ≡ incoming_streams fs
incoming_put id c es fs ks next was sorted is comes goes =
    goes ∙ ap (λ (xs : List ℕ). insert_key nat_cmp xs id) was ∙ placed id c es sorted comes ∙ ap incoming_streams (sym is)

pub incoming_undone : (id : ℕ) (es fs : Entries) (ks next last : List ℕ) → ks ≡ incoming_streams es → fs ≡ es → channel_at id es ≡ None → next ≡ insert_key nat_cmp ks id
    → last ≡ remove_key (is_at (nat_cmp id)) next → last ≡ incoming_streams fs
incoming_undone id es fs ks next last was is none goes back =
    back ∙ ap (λ (xs : List ℕ). remove_key (is_at (nat_cmp id)) xs) (goes ∙ ap (λ (xs : List ℕ). insert_key nat_cmp xs id) was)
    ∙ undone id (incoming_streams es) (absent (is_at (nat_cmp id)) es none) ∙ ap incoming_streams (sym is)

-- ---- what leaves it as it is

kept_lifecycle : (is_too_long : Bool) (payload : List ℕ) (c : Channel) → (keep_if is_too_long payload c).lifecycle ≡ c.lifecycle
kept_lifecycle true payload c = refl
kept_lifecycle false payload c = refl

taken_lifecycle : (is_too_long : Bool) (payload : List ℕ) (c : Channel) → (take_if is_too_long payload c).lifecycle ≡ c.lifecycle
taken_lifecycle true payload c = refl
taken_lifecycle false payload c = refl

pub data_lifecycle : (limit : ℕ) (p : PayloadProtocol) (payload : List ℕ) (c : Channel) → (on_data limit p payload c).lifecycle ≡ c.lifecycle
data_lifecycle limit Control payload c = refl
data_lifecycle limit (Part kind) payload c = kept_lifecycle _ payload c
data_lifecycle limit (Data kind) payload c = taken_lifecycle _ payload c
data_lifecycle limit (Empty kind) payload c = taken_lifecycle _ [] c

pub found_keeps : (o : Option Channel) (c : Channel) (l : Lifecycle) → IfSome o (KeepsIncoming l) → Some c ≡ o → KeepsIncoming l c
found_keeps o c l keeps found = subst (λ (it : Option Channel). IfSome it (KeepsIncoming l)) (sym found) keeps
