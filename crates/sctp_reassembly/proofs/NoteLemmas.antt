-- Notes of the streams that hold a fragment.
use Rattle.std.proofs.Common.{◌≡◌, ◌⊎◌, ℕ, zero, suc, ◌<◌, ◌≤◌, ◌==◌, Bool, true, false, cond, List, [], ◌∷◌, ◌++◌, Option, Some, None, length, get_or, refl, ap, sym, subst, ◌∙◌, inl, inr, arith, Less, Equal, Greater}
use Rattle.std.specs.Prelude.{unwrap_or, is_some, not, nat_lt}
use Rattle.std.specs.List.{list_any, All}
use Rattle.std.specs.List.Sorted.{IsStrictlySortedBy}
use Rattle.std.specs.Ordering.{nat_cmp, is_gt, match_ordering}
use Rattle.std.specs.declared.cmp.Ordering.{Ordering}
use Rattle.std.specs.Map.{lookup, set_value, keys_of}
use Rattle.std.specs.BTreeMap.{is_at, insert_entry}
use Rattle.std.proofs.lemmas.Bool.{cases_lt, eqb-true, or_parts}
use Rattle.std.proofs.lemmas.Bool.Decides.{nat_tests}
use Rattle.std.proofs.lemmas.Cmp.{nat_cmp_total, eq_by_cmp_equiv}
use Rattle.std.proofs.lemmas.List.Elements.{All-head, All-tail}
use Rattle.std.proofs.lemmas.Map.{lookup-none}
use Rattle.std.proofs.lemmas.Map.Entries.{none_past_head, lookup-filter-keys}
use Rattle.std.proofs.lemmas.Map.Keys.{sorted_tail, IsDistinct-from_sorted}
use Rattle.sctp_serial.specs.declared.api.StreamId.{StreamId}
use Rattle.sctp_state.specs.declared.api.handover.HandoverUnorderedStream.{HandoverUnorderedStream}
use Rattle.sctp_serial.specs.Unwrapped.{origin}
use Rattle.sctp_fragments.specs.ReassemblyKey.{pair_rank}
use Rattle.sctp_fragments.specs.Runs.{from_rank}
use Rattle.sctp_fragments.specs.Held.{Held, rank_of}
use Rattle.sctp_reassembly.specs.Delivery.{UnorderedStream, fresh_unordered, held_from}
use Rattle.sctp_reassembly.specs.ReassemblyStreams.{Entries, stream_at, with_stream, put_stream, set_stream, is_named, forget}
use Rattle.sctp_reassembly.specs.ReassemblyHandover.{unordered_entries}
use Rattle.sctp_reassembly.specs.UnorderedByTsn.{Notes, IsNoted, HasNote, AreNoted, OthersAreNoted, KeepsOthers, NoneBelow, drop_below}
use Rattle.sctp_serial.proofs.NumberLemmas.{equal_at, at_itself, is_equal, not_at}

-- ---- the order of notes

pub not_above : (a b : ℕ) → is_gt (nat_cmp a b) ≡ false → a ≤ b
not_above a b h = elim (cases_lt b a) [ inl less ↦ absurd (behind less) | inr l ↦ l ]
  where
    behind : b < a → ⊥
    behind l = grind (arith, nat_tests)

apart : (a b : ℕ) → (a == b) ≡ false → Some a ≡ Some b → ⊥
apart a b other same = let is : a ≡ b = cc in differ is
  where
    differ : a ≡ b → ⊥
    differ is = grind (arith, nat_tests)

turned : (a b : ℕ) → (a == b) ≡ false → (b == a) ≡ false
turned a b h = grind (arith, nat_tests)

-- ranks of unordered fragments are in the order of their TSNs
pub by_tsn : (n m : ℕ) → n ≤ m → pair_rank origin n ≤ pair_rank origin m
by_tsn n m l = omega (arith, l)

-- none of these notes is below the TSN
pub none_from : (n : ℕ) (notes : Notes) → All (λ k. is_gt (nat_cmp n k) ≡ false) (keys_of notes) → NoneBelow (pair_rank origin n) notes
none_from n [] all note there = absurd (cc)
none_from n (x ∷ xs) all note there = go (is_at (nat_cmp note.0) x.0) refl there (none_from n xs (All-tail (λ k. is_gt (nat_cmp n k) ≡ false) x.0 (keys_of xs) all) note)
  where
    go : (b : Bool) → is_at (nat_cmp note.0) x.0 ≡ b → cond b (Some x.1) (lookup (is_at (nat_cmp note.0)) xs) ≡ Some note.1 → (IsNoted xs note → pair_rank origin n ≤ pair_rank origin note.0) → pair_rank origin n ≤ pair_rank origin note.0
    go true h t ih = by_tsn n note.0 (subst (λ r. n ≤ r) (equal_at note.0 x.0 h) (not_above n x.0 (All-head (λ k. is_gt (nat_cmp n k) ≡ false) x.0 (keys_of xs) all)))
    go false h t ih = ih t

-- a note goes out
pub out_others : (tsn id : ℕ) (old new : Notes) → IsNoted old (tsn, id) → ((n : ℕ) → lookup (is_at (nat_cmp n)) new ≡ cond (is_at (nat_cmp tsn) n) None (lookup (is_at (nat_cmp n)) old)) → KeepsOthers id old new
out_others tsn id old new own made note other there = made note.0 ∙ go (is_at (nat_cmp tsn) note.0) refl
  where
    go : (b : Bool) → is_at (nat_cmp tsn) note.0 ≡ b → cond b None (lookup (is_at (nat_cmp note.0)) old) ≡ Some note.1
    go true h = absurd (apart note.1 id other (sym there ∙ subst (λ n. IsNoted old (n, id)) (sym (equal_at tsn note.0 h)) own))
    go false h = there

-- ---- one stream changes

still : (old new : Notes) (q : ℕ) (hs : List Held) → ((note : ℕ × ℕ) → note.1 ≡ q → IsNoted old note → IsNoted new note) → HasNote old q hs → HasNote new q hs
still old new q hs kept has =
    elim has [
      | inl none ↦ inl none
      | inr some ↦ inr (some.0, kept (some.0, q) refl some.1, some.2)
    ]

pub renewed : (id : ℕ) (old less new : Notes) (es : Entries UnorderedStream) → KeepsOthers id old less → ((note : ℕ × ℕ) → IsNoted less note → IsNoted new note)
    → HasNote new id (stream_at fresh_unordered id es).held → OthersAreNoted id old es → AreNoted new es
renewed id old less new es out more made others q = go (q == id) refl
  where
    go : (b : Bool) → (q == id) ≡ b → HasNote new q (stream_at fresh_unordered q es).held
    go true h = subst (λ i. HasNote new i (stream_at fresh_unordered i es).held) (sym (eqb-true q id h)) made
    go false h = still old new q (stream_at fresh_unordered q es).held (λ note is there. more note (out note (ap (λ i. i == id) is ∙ h) there)) (others q h)

module _ {S : Type 0} (fresh : S) (q id : ℕ) (other : (q == id) ≡ false) where
  -- past an entry of the one
  past : (e : ℕ × S) (v : S) (o : Option S) → e.0 ≡ id → unwrap_or (cond (is_at (nat_cmp q) e.0) (Some v) o) fresh ≡ unwrap_or o fresh
  past e v o is = ap (λ b. unwrap_or (cond b (Some v) o) fresh) (ap (is_at (nat_cmp q)) is ∙ not_at q id other)

  before : (b : Bool) (v : S) (o p : Option S) → unwrap_or o fresh ≡ unwrap_or p fresh → unwrap_or (cond b (Some v) o) fresh ≡ unwrap_or (cond b (Some v) p) fresh
  before true v o p h = refl
  before false v o p h = h

  other_written : (s : S) (es : Entries S) → stream_at fresh q (put_stream id s es) ≡ stream_at fresh q es
  other_written s [] = refl
  other_written s (e ∷ es) = go (is_at (nat_cmp id) e.0) refl (other_written s es)
    where
      go : (b : Bool) → is_at (nat_cmp id) e.0 ≡ b → stream_at fresh q (put_stream id s es) ≡ stream_at fresh q es
          → stream_at fresh q (cond b ((e.0, s) ∷ es) (e ∷ put_stream id s es)) ≡ stream_at fresh q (e ∷ es)
      go true h ih = past e s (lookup (is_at (nat_cmp q)) es) (equal_at id e.0 h) ∙ sym (past e e.1 (lookup (is_at (nat_cmp q)) es) (equal_at id e.0 h))
      go false h ih = before (is_at (nat_cmp q) e.0) e.1 (lookup (is_at (nat_cmp q)) (put_stream id s es)) (lookup (is_at (nat_cmp q)) es) ih

  other_inserted : (s : S) (es : Entries S) → stream_at fresh q (insert_entry nat_cmp es id s) ≡ stream_at fresh q es
  other_inserted s [] = past (id, s) s None refl
  other_inserted s (e ∷ es) = go (nat_cmp id e.0) refl (other_inserted s es)
    where
      go : (o : Ordering) → nat_cmp id e.0 ≡ o → stream_at fresh q (insert_entry nat_cmp es id s) ≡ stream_at fresh q es
          → stream_at fresh q (match_ordering o ((id, s) ∷ e ∷ es) ((e.0, s) ∷ es) (e ∷ insert_entry nat_cmp es id s)) ≡ stream_at fresh q (e ∷ es)
      go Less h ih = past (id, s) s (lookup (is_at (nat_cmp q)) (e ∷ es)) refl
      go Equal h ih = past e s (lookup (is_at (nat_cmp q)) es) (is_equal id e.0 h) ∙ sym (past e e.1 (lookup (is_at (nat_cmp q)) es) (is_equal id e.0 h))
      go Greater h ih = before (is_at (nat_cmp q) e.0) e.1 (lookup (is_at (nat_cmp q)) (insert_entry nat_cmp es id s)) (lookup (is_at (nat_cmp q)) es) ih

  other_opened : (es : Entries S) → stream_at fresh q (with_stream fresh id es) ≡ stream_at fresh q es
  other_opened es = go (is_some (lookup (is_at (nat_cmp id)) es))
    where
      go : (b : Bool) → stream_at fresh q (cond b es (insert_entry nat_cmp es id fresh)) ≡ stream_at fresh q es
      go true = refl
      go false = other_inserted fresh es

pub changed_others : (id : ℕ) (s : UnorderedStream) (notes : Notes) (es new : Entries UnorderedStream) → new ≡ set_stream fresh_unordered id s es → AreNoted notes es → OthersAreNoted id notes new
changed_others id s notes es new made all q other =
    subst (λ (t : UnorderedStream). HasNote notes q t.held)
    (sym (ap (stream_at fresh_unordered q) made ∙ (other_written fresh_unordered q id other s (with_stream fresh_unordered id es) ∙ other_opened fresh_unordered q id other es)))
    (all q)

-- ---- a forward point

again : (n : ℕ) (hs : List Held) → from_rank rank_of n (from_rank rank_of n hs) ≡ from_rank rank_of n hs
again n [] = refl
again n (h ∷ hs) = go (nat_lt (rank_of h) n) refl (again n hs)
  where
    go : (b : Bool) → nat_lt (rank_of h) n ≡ b → from_rank rank_of n (from_rank rank_of n hs) ≡ from_rank rank_of n hs
        → from_rank rank_of n (cond b (from_rank rank_of n hs) (h ∷ from_rank rank_of n hs)) ≡ cond b (from_rank rank_of n hs) (h ∷ from_rank rank_of n hs)
    go true t ih = ih
    go false t ih = ap (λ b. cond b (from_rank rank_of n (from_rank rank_of n hs)) (h ∷ from_rank rank_of n (from_rank rank_of n hs))) t ∙ ap (λ ks. h ∷ ks) ih

same_forwarded : (n : ℕ) (test : ℕ → Bool) (w : UnorderedStream) (es : Entries UnorderedStream) → ((v : UnorderedStream) → lookup test es ≡ Some v → held_from n w ≡ held_from n v) → drop_below n (set_value test es w) ≡ drop_below n es
same_forwarded n test w [] h = refl
same_forwarded n test w (e ∷ es) h = go (test e.0) refl (same_forwarded n test w es)
  where
    go : (b : Bool) → test e.0 ≡ b → (((v : UnorderedStream) → lookup test es ≡ Some v → held_from n w ≡ held_from n v) → drop_below n (set_value test es w) ≡ drop_below n es) → drop_below n (cond b ((e.0, w) ∷ es) (e ∷ set_value test es w)) ≡ (e.0, held_from n e.1) ∷ drop_below n es
    go true t ih = ap (λ (s : UnorderedStream). (e.0, s) ∷ drop_below n es) (h e.1 (ap (λ b. cond b (Some e.1) (lookup test es)) t))
    go false t ih = ap (λ (ds : Entries UnorderedStream). (e.0, held_from n e.1) ∷ ds) (ih (λ v l. h v (ap (λ b. cond b (Some e.1) (lookup test es)) t ∙ l)))

pub forwarded_one : (n id : ℕ) (es new : Entries UnorderedStream) → new ≡ put_stream id (held_from n (stream_at fresh_unordered id es)) es → drop_below n new ≡ drop_below n es
forwarded_one n id es new made =
    ap (drop_below n) made
    ∙ same_forwarded n (is_at (nat_cmp id)) (held_from n (stream_at fresh_unordered id es)) es
    (λ v l. ap (λ (o : Option UnorderedStream). held_from n (held_from n (unwrap_or o fresh_unordered))) l ∙ ap (λ (hs : List Held). record v { held = hs }) (again n v.held))

keeps_all : (n : ℕ) (es : Entries UnorderedStream) → IsStrictlySortedBy nat_cmp (keys_of es)
    → ((id : ℕ) → from_rank rank_of n (stream_at fresh_unordered id es).held ≡ (stream_at fresh_unordered id es).held) → es ≡ drop_below n es
keeps_all n [] sorted h = refl
keeps_all n (e ∷ es) sorted h =
    ap (λ (hs : List Held). (e.0, record e.1 { held = hs }) ∷ es) (sym head) ∙ ap (λ (ds : Entries UnorderedStream). (e.0, held_from n e.1) ∷ ds) (keeps_all n es (sorted_tail nat_cmp e.0 (keys_of es) sorted) tail)
  where
    first : stream_at fresh_unordered e.0 (e ∷ es) ≡ e.1
    first = ap (λ b. unwrap_or (cond b (Some e.1) (lookup (is_at (nat_cmp e.0)) es)) fresh_unordered) (at_itself e.0)

    head : from_rank rank_of n e.1.held ≡ e.1.held
    head = subst (λ (s : UnorderedStream). from_rank rank_of n s.held ≡ s.held) first (h e.0)

    tail : (id : ℕ) → from_rank rank_of n (stream_at fresh_unordered id es).held ≡ (stream_at fresh_unordered id es).held
    tail id = go (is_at (nat_cmp id) e.0) refl
      where
        go : (b : Bool) → is_at (nat_cmp id) e.0 ≡ b → from_rank rank_of n (stream_at fresh_unordered id es).held ≡ (stream_at fresh_unordered id es).held
        go true t =
            let none : stream_at fresh_unordered id es ≡ fresh_unordered =
            ap (λ (o : Option UnorderedStream). unwrap_or o fresh_unordered) (lookup-none (is_at (nat_cmp id)) es (none_past_head (eq_by_cmp_equiv nat_cmp_total) id e es (IsDistinct-from_sorted nat_cmp (keys_of (e ∷ es)) sorted) t)) in
            subst (λ (s : UnorderedStream). from_rank rank_of n s.held ≡ s.held) (sym none) refl
        go false t = subst (λ (s : UnorderedStream). from_rank rank_of n s.held ≡ s.held) (ap (λ b. unwrap_or (cond b (Some e.1) (lookup (is_at (nat_cmp id)) es)) fresh_unordered) t) (h id)

-- what is held is noted, and none of it is below the rank
abbrev pub IsDone : ℕ → Notes → ℕ → List Held → Type 0
IsDone n notes id hs = HasNote notes id hs × (from_rank rank_of n hs ≡ hs)

-- each stream has a note among those to come, or is done
abbrev pub NotedOrDone : ℕ → Notes → Notes → Entries UnorderedStream → Type 0
NotedOrDone n rest notes es = (id : ℕ) → HasNote rest id (stream_at fresh_unordered id es).held ⊎ IsDone n notes id (stream_at fresh_unordered id es).held

-- a note of two lists is one of either
parted : (tsn id : ℕ) (below rest : Notes) → IsNoted (below ++ rest) (tsn, id) → IsNoted below (tsn, id) ⊎ IsNoted rest (tsn, id)
parted tsn id [] rest there = inr there
parted tsn id (x ∷ xs) rest there = go (is_at (nat_cmp tsn) x.0) there (parted tsn id xs rest)
  where
    go : (b : Bool) → cond b (Some x.1) (lookup (is_at (nat_cmp tsn)) (xs ++ rest)) ≡ Some id → (IsNoted (xs ++ rest) (tsn, id) → IsNoted xs (tsn, id) ⊎ IsNoted rest (tsn, id))
        → (cond b (Some x.1) (lookup (is_at (nat_cmp tsn)) xs) ≡ Some id) ⊎ IsNoted rest (tsn, id)
    go true t ih = inl t
    go false t ih = ih t

-- the notes are cut at the rank
cut_one : (n : ℕ) (below rest : Notes) (id : ℕ) (hs : List Held) → NoneBelow n rest → HasNote (below ++ rest) id hs → HasNote below id hs ⊎ IsDone n rest id hs
cut_one n below rest id hs none (inl e) = inl (inl e)
cut_one n below rest id hs none (inr (tsn, there, begins)) =
    elim (parted tsn id below rest there) [
      | inl low ↦ inl (inr (tsn, low, begins))
      | inr back ↦ inr (inr (tsn, back, begins), begins n (none (tsn, id) back))
    ]

pub cut : (n : ℕ) (all below rest : Notes) (es : Entries UnorderedStream) → all ≡ below ++ rest → NoneBelow n rest → AreNoted all es → NotedOrDone n below rest es
cut n all below rest es parts none has id =
    cut_one n below rest id (stream_at fresh_unordered id es).held none (subst (λ ks. HasNote ks id (stream_at fresh_unordered id es).held) parts (has id))

-- past the note of another stream
past_note : (note : ℕ × ℕ) (rest : Notes) (id : ℕ) (hs : List Held) → (note.1 == id) ≡ false → HasNote (note ∷ rest) id hs → HasNote rest id hs
past_note note rest id hs other (inl e) = inl e
past_note note rest id hs other (inr (tsn, there, begins)) = inr (tsn, go (is_at (nat_cmp tsn) note.0) there, begins)
  where
    go : (b : Bool) → cond b (Some note.1) (lookup (is_at (nat_cmp tsn)) rest) ≡ Some id → IsNoted rest (tsn, id)
    go true t = absurd (apart note.1 id other t)
    go false t = t

-- what is written holds nothing below the rank
written_from : (n id : ℕ) (s : UnorderedStream) (es : Entries UnorderedStream) → from_rank rank_of n s.held ≡ s.held
    → from_rank rank_of n (stream_at fresh_unordered id (put_stream id s es)).held ≡ (stream_at fresh_unordered id (put_stream id s es)).held
written_from n id s [] h = refl
written_from n id s (e ∷ es) h = go (is_at (nat_cmp id) e.0) refl (written_from n id s es h)
  where
    IsFrom : UnorderedStream → Type 0
    IsFrom t = from_rank rank_of n t.held ≡ t.held

    go : (b : Bool) → is_at (nat_cmp id) e.0 ≡ b → IsFrom (stream_at fresh_unordered id (put_stream id s es)) → IsFrom (stream_at fresh_unordered id (cond b ((e.0, s) ∷ es) (e ∷ put_stream id s es)))
    go true t ih = subst IsFrom (sym (ap (λ b. unwrap_or (cond b (Some s) (lookup (is_at (nat_cmp id)) es)) fresh_unordered) t)) h
    go false t ih = subst IsFrom (sym (ap (λ b. unwrap_or (cond b (Some e.1) (lookup (is_at (nat_cmp id)) (put_stream id s es))) fresh_unordered) t)) ih

pub forwarded_next : (n : ℕ) (note : ℕ × ℕ) (rest old new : Notes) (es left : Entries UnorderedStream) → left ≡ put_stream note.1 (held_from n (stream_at fresh_unordered note.1 es)) es
    → ((x : ℕ × ℕ) → IsNoted old x → IsNoted new x) → HasNote new note.1 (stream_at fresh_unordered note.1 left).held
    → NotedOrDone n (note ∷ rest) old es → NotedOrDone n rest new left
forwarded_next n note rest old new es left made kept has all id = go (id == note.1) refl
  where
    now : UnorderedStream
    now = held_from n (stream_at fresh_unordered note.1 es)

    go : (b : Bool) → (id == note.1) ≡ b → HasNote rest id (stream_at fresh_unordered id left).held ⊎ IsDone n new id (stream_at fresh_unordered id left).held
    go true h =
        let from = subst (λ (t : Entries UnorderedStream). from_rank rank_of n (stream_at fresh_unordered note.1 t).held ≡ (stream_at fresh_unordered note.1 t).held) (sym made) (written_from n note.1 now es (again n (stream_at fresh_unordered note.1 es).held)) in
        inr (subst (λ i. IsDone n new i (stream_at fresh_unordered i left).held) (sym (eqb-true id note.1 h)) (has, from))
    go false h =
        subst (λ (s : UnorderedStream). HasNote rest id s.held ⊎ IsDone n new id s.held) (sym (ap (stream_at fresh_unordered id) made ∙ other_written fresh_unordered id note.1 h now es))
        (elim (all id) [
          | inl noted ↦ inl (past_note note rest id (stream_at fresh_unordered id es).held (turned id note.1 h) noted)
          | inr done ↦ inr (still old new id (stream_at fresh_unordered id es).held (λ x is there. kept x there) done.0, done.1)
        ])

-- no note is to come
all_done : (n : ℕ) (notes : Notes) (id : ℕ) (hs : List Held) → HasNote [] id hs ⊎ IsDone n notes id hs → IsDone n notes id hs
all_done n notes id hs (inl (inl e)) = (inl e, ap (from_rank rank_of n) e ∙ sym e)
all_done n notes id hs (inl (inr (rank, there, begins))) = absurd (cc)
all_done n notes id hs (inr done) = done

pub none_left : (n : ℕ) (notes : Notes) (es : Entries UnorderedStream) → IsStrictlySortedBy nat_cmp (keys_of es) → NotedOrDone n [] notes es → (es ≡ drop_below n es) × AreNoted notes es
none_left n notes es sorted all =
    (keeps_all n es sorted (λ id. (all_done n notes id (stream_at fresh_unordered id es).held (all id)).1), λ id. (all_done n notes id (stream_at fresh_unordered id es).held (all id)).0)

-- a stream that isn't there stays so
pub not_written : {S : Type 0} (test : ℕ → Bool) (s : S) (es : Entries S) → None ≡ lookup test es → es ≡ set_value test es s
not_written test s [] h = refl
not_written {S = S} test s (e ∷ es) h = go (test e.0) h (not_written test s es)
  where
    go : (b : Bool) → None ≡ cond b (Some e.1) (lookup test es) → (None ≡ lookup test es → es ≡ set_value test es s) → e ∷ es ≡ cond b ((e.0, s) ∷ es) (e ∷ set_value test es s)
    go true h ih = absurd (cc)
    go false h ih = ap (λ (ds : Entries S). e ∷ ds) (ih h)

-- ---- streams are forgotten

named_one : (ids : List StreamId) (i n : ℕ) (d : StreamId) → i < length ids → list_any (λ x. x.0 == n) ids ≡ false → ((get_or ids i d).0 == n) ≡ false
named_one [] i n d l h = absurd (omega arith)
named_one (x ∷ ids) zero n d l h = (or_parts (x.0 == n) (list_any (λ x. x.0 == n) ids) h).0
named_one (x ∷ ids) (suc i) n d l h = named_one ids i n d (omega arith) (or_parts (x.0 == n) (list_any (λ x. x.0 == n) ids) h).1

pub not_named : (ids : List StreamId) (i n : ℕ) (d : StreamId) → i < length ids → is_named ids n ≡ false → (n == (get_or ids i d).0) ≡ false
not_named ids i n d l h = turned (get_or ids i d).0 n (named_one ids i n d l (or_parts (length ids == 0) (list_any (λ x. x.0 == n) ids) h).1)

pub forgets : (ids : List StreamId) (old new : Notes) (es left : Entries UnorderedStream) → ((note : ℕ × ℕ) → is_named ids note.1 ≡ false → IsNoted old note → IsNoted new note)
    → left ≡ forget ids es → AreNoted old es → AreNoted new left
forgets ids old new es left kept made all id = subst (λ (t : Entries UnorderedStream). HasNote new id (stream_at fresh_unordered id t).held) (sym made) (go (is_named ids id) refl)
  where
    found : lookup (is_at (nat_cmp id)) (forget ids es) ≡ cond (not (is_named ids id)) (lookup (is_at (nat_cmp id)) es) None
    found = lookup-filter-keys (is_at (nat_cmp id)) (λ k. not (is_named ids k)) (not (is_named ids id)) (λ k t. ap (λ k. not (is_named ids k)) (equal_at id k t)) es

    go : (b : Bool) → is_named ids id ≡ b → HasNote new id (stream_at fresh_unordered id (forget ids es)).held
    go true h =
        let none : stream_at fresh_unordered id (forget ids es) ≡ fresh_unordered = ap (λ (o : Option UnorderedStream). unwrap_or o fresh_unordered) (found ∙ ap (λ b. cond (not b) (lookup (is_at (nat_cmp id)) es) None) h) in
        inl (ap (λ (s : UnorderedStream). s.held) none)
    go false h =
        let same : stream_at fresh_unordered id (forget ids es) ≡ stream_at fresh_unordered id es = ap (λ (o : Option UnorderedStream). unwrap_or o fresh_unordered) (found ∙ ap (λ b. cond (not b) (lookup (is_at (nat_cmp id)) es) None) h) in
        still old new id (stream_at fresh_unordered id (forget ids es)).held (λ note is there. kept note (ap (is_named ids) is ∙ h) there) (subst (λ (s : UnorderedStream). HasNote old id s.held) (sym same) (all id))

-- ---- all notes are made anew

-- each stream has a note, or is among those to come
abbrev pub NotedOrLeft : Entries UnorderedStream → Notes → Entries UnorderedStream → Type 0
NotedOrLeft left notes es = (id : ℕ) → HasNote notes id (stream_at fresh_unordered id es).held ⊎ (lookup (is_at (nat_cmp id)) left ≡ lookup (is_at (nat_cmp id)) es)

pub noted_next : (e : ℕ × UnorderedStream) (left : Entries UnorderedStream) (old new : Notes) (es : Entries UnorderedStream) → ((note : ℕ × ℕ) → IsNoted old note → IsNoted new note)
    → HasNote new e.0 e.1.held → NotedOrLeft (e ∷ left) old es → NotedOrLeft left new es
noted_next e left old new es kept made all id =
    elim (all id) [
      | inl has ↦ inl (still old new id (stream_at fresh_unordered id es).held (λ note is there. kept note there) has)
      | inr same ↦ go (is_at (nat_cmp id) e.0) refl same
    ]
  where
    go : (b : Bool) → is_at (nat_cmp id) e.0 ≡ b → cond b (Some e.1) (lookup (is_at (nat_cmp id)) left) ≡ lookup (is_at (nat_cmp id)) es
        → HasNote new id (stream_at fresh_unordered id es).held ⊎ (lookup (is_at (nat_cmp id)) left ≡ lookup (is_at (nat_cmp id)) es)
    go true h same = inl (subst (λ (o : Option UnorderedStream). HasNote new id (unwrap_or o fresh_unordered).held) same (subst (λ i. HasNote new i e.1.held) (equal_at id e.0 h) made))
    go false h same = inr same

-- what is restored holds nothing
pub restored_noted : (notes : Notes) (records : List HandoverUnorderedStream) → AreNoted notes (unordered_entries records)
restored_noted notes records id = inl (none records)
  where
    none : (rs : List HandoverUnorderedStream) → (stream_at fresh_unordered id (unordered_entries rs)).held ≡ []
    none [] = refl
    none (r ∷ rs) = go (is_at (nat_cmp id) r.id) (none rs)
      where
        go : (b : Bool) → (stream_at fresh_unordered id (unordered_entries rs)).held ≡ [] → (unwrap_or (cond b (Some fresh_unordered) (lookup (is_at (nat_cmp id)) (unordered_entries rs))) fresh_unordered).held ≡ []
        go true h = refl
        go false h = h
