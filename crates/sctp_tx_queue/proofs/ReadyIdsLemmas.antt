-- The ids of the streams that can be reset, when one stream changes.
use Rattle.std.proofs.Common.{◌≡◌, ℕ, zero, suc, Bool, true, false, cond, List, [], ◌∷◌, Some, None, Less, Equal, Greater, refl, ap, sym, ◌∙◌, arith, take}
use Rattle.std.specs.List.Sorted.{IsStrictlySortedBy}
use Rattle.std.specs.Map.{lookup, set_value, keys_of}
use Rattle.std.specs.Ordering.{nat_cmp, is_eq, match_ordering}
use Rattle.std.specs.declared.cmp.Ordering.{Ordering}
use Rattle.std.specs.BTreeMap.{is_at, insert_entry}
use Rattle.std.specs.BTreeSet.{insert_key}
use Rattle.std.specs.Set.{remove_key}
use Rattle.sctp_serial.proofs.NumberLemmas.{is_less, nat_cmp_less, equal_at}
use Rattle.sctp_tx_queue.specs.declared.send_queue.ready_ids.ReadyIds.{ReadyIds}
use Rattle.sctp_tx_queue.specs.declared.send_queue.stream.PauseState.TheVariants.{NotPaused}
use Rattle.sctp_tx_queue.specs.SendQueue.{Stream, Entries}
use Rattle.sctp_tx_queue.specs.Resets.{is_paused, is_ready, ready}
use Rattle.sctp_tx_queue.specs.Bounded.{ids_after, Lists}
use Rattle.sctp_tx_queue.proofs.AgainLemmas.{AreAbove, are_above, raised}

same_value : {X : Type 0} {v w : X} → Some v ≡ Some w → v ≡ w
same_value h = cc

-- ---- one that stays ready, or not

stays : (id : ℕ) (es : Entries) (v w : Stream) → Some v ≡ lookup (is_at (nat_cmp id)) es → is_ready w ≡ is_ready v → ready (set_value (is_at (nat_cmp id)) es w) ≡ ready es
stays id [] v w at same = refl
stays id (e ∷ es) v w at same = go (is_at (nat_cmp id) e.0) at (λ a. stays id es v w a same)
  where
    go : (b : Bool) → Some v ≡ cond b (Some e.1) (lookup (is_at (nat_cmp id)) es) → (Some v ≡ lookup (is_at (nat_cmp id)) es → ready (set_value (is_at (nat_cmp id)) es w) ≡ ready es)
        → ready (cond b ((e.0, w) ∷ es) (e ∷ set_value (is_at (nat_cmp id)) es w)) ≡ ready (e ∷ es)
    go true at ih = ap (λ t. cond t (e.0 ∷ ready es) (ready es)) (same ∙ ap is_ready (same_value at))
    go false at ih = ap (λ ids. cond (is_ready e.1) (e.0 ∷ ids) ids) (ih at)

-- ---- one that isn't any more

leaves : (id : ℕ) (es : Entries) (v w : Stream) → Some v ≡ lookup (is_at (nat_cmp id)) es → is_ready v ≡ true → is_ready w ≡ false → ready (set_value (is_at (nat_cmp id)) es w) ≡ remove_key (is_at (nat_cmp id)) (ready es)
leaves id [] v w at was is = absurd (cc)
leaves id (e ∷ es) v w at was is = go (is_at (nat_cmp id) e.0) refl at (λ a. leaves id es v w a was is)
  where
    go : (b : Bool) → is_at (nat_cmp id) e.0 ≡ b → Some v ≡ cond b (Some e.1) (lookup (is_at (nat_cmp id)) es)
        → (Some v ≡ lookup (is_at (nat_cmp id)) es → ready (set_value (is_at (nat_cmp id)) es w) ≡ remove_key (is_at (nat_cmp id)) (ready es))
        → ready (cond b ((e.0, w) ∷ es) (e ∷ set_value (is_at (nat_cmp id)) es w)) ≡ remove_key (is_at (nat_cmp id)) (ready (e ∷ es))
    go true q at ih =
        ap (λ t. cond t (e.0 ∷ ready es) (ready es)) is
        ∙ sym (ap (λ t. remove_key (is_at (nat_cmp id)) (cond t (e.0 ∷ ready es) (ready es))) (ap is_ready (sym (same_value at)) ∙ was) ∙ ap (λ t. cond t (ready es) (e.0 ∷ remove_key (is_at (nat_cmp id)) (ready es))) q)
    go false q at ih = each (is_ready e.1)
      where
        each : (r : Bool) → cond r (e.0 ∷ ready (set_value (is_at (nat_cmp id)) es w)) (ready (set_value (is_at (nat_cmp id)) es w)) ≡ remove_key (is_at (nat_cmp id)) (cond r (e.0 ∷ ready es) (ready es))
        each true = ap (λ ids. e.0 ∷ ids) (ih at) ∙ sym (ap (λ t. cond t (ready es) (e.0 ∷ remove_key (is_at (nat_cmp id)) (ready es))) q)
        each false = ih at

-- ---- one that is ready from now on

comes_first : (k : ℕ) (es : Entries) → AreAbove k es → insert_key nat_cmp (ready es) k ≡ k ∷ ready es
comes_first k [] above = refl
comes_first k (e ∷ es) above = go (is_ready e.1) (comes_first k es above.1)
  where
    go : (r : Bool) → insert_key nat_cmp (ready es) k ≡ k ∷ ready es → insert_key nat_cmp (cond r (e.0 ∷ ready es) (ready es)) k ≡ k ∷ cond r (e.0 ∷ ready es) (ready es)
    go true ih = ap (λ o. match_ordering o (k ∷ e.0 ∷ ready es) (e.0 ∷ ready es) (e.0 ∷ insert_key nat_cmp (ready es) k)) (nat_cmp_less k e.0 above.0)
    go false ih = ih

not_above : (k : ℕ) (es : Entries) → AreAbove k es → lookup (is_at (nat_cmp k)) es ≡ None
not_above k [] above = refl
not_above k (e ∷ es) above = ap (λ o. cond (is_eq o) (Some e.1) (lookup (is_at (nat_cmp k)) es)) (nat_cmp_less k e.0 above.0) ∙ not_above k es above.1

rest_sorted : (m : ℕ) (ks : List ℕ) → IsStrictlySortedBy nat_cmp (m ∷ ks) → IsStrictlySortedBy nat_cmp ks
unfolding IsStrictlySortedBy
rest_sorted m [] s = tt
rest_sorted m (k ∷ ks) s = s.1

comes : (id : ℕ) (es : Entries) (v w : Stream) → IsStrictlySortedBy nat_cmp (keys_of es) → Some v ≡ lookup (is_at (nat_cmp id)) es → is_ready v ≡ false → is_ready w ≡ true → ready (set_value (is_at (nat_cmp id)) es w) ≡ insert_key nat_cmp (ready es) id
comes id [] v w sorted at was is = absurd (cc)
comes id (e ∷ es) v w sorted at was is = go (nat_cmp id e.0) refl at (λ a. comes id es v w (rest_sorted e.0 (keys_of es) sorted) a was is)
  where
    above : AreAbove e.0 es
    above = are_above e.0 es sorted

    go : (o : Ordering) → nat_cmp id e.0 ≡ o → Some v ≡ cond (is_eq o) (Some e.1) (lookup (is_at (nat_cmp id)) es)
        → (Some v ≡ lookup (is_at (nat_cmp id)) es → ready (set_value (is_at (nat_cmp id)) es w) ≡ insert_key nat_cmp (ready es) id)
        → ready (cond (is_eq o) ((e.0, w) ∷ es) (e ∷ set_value (is_at (nat_cmp id)) es w)) ≡ insert_key nat_cmp (ready (e ∷ es)) id
    go Less q at ih = absurd (nothing (at ∙ not_above id es (raised id e.0 es (omega (arith, is_less id e.0 q)) above)))
      where
        nothing : Some v ≡ None → ⊥
        nothing h = cc
    go Equal q at ih =
        ap (λ t. cond t (e.0 ∷ ready es) (ready es)) is
        ∙ sym (comes_first e.0 es above)
        ∙ ap (λ k. insert_key nat_cmp (ready es) k) (equal_at id e.0 (ap is_eq q))
        ∙ ap (λ t. insert_key nat_cmp (cond t (e.0 ∷ ready es) (ready es)) id) (sym was ∙ ap is_ready (same_value at))
    go Greater q at ih = each (is_ready e.1)
      where
        each : (r : Bool) → cond r (e.0 ∷ ready (set_value (is_at (nat_cmp id)) es w)) (ready (set_value (is_at (nat_cmp id)) es w)) ≡ insert_key nat_cmp (cond r (e.0 ∷ ready es) (ready es)) id
        each true = ap (λ ids. e.0 ∷ ids) (ih at) ∙ sym (ap (λ o. match_ordering o (id ∷ e.0 ∷ ready es) (e.0 ∷ ready es) (e.0 ∷ insert_key nat_cmp (ready es) id)) q)
        each false = ih at

-- ---- what is listed

-- a change of a stream
pub lists_changed : (id : ℕ) (was is : Bool) (r s : ReadyIds) (es after : Entries) (v w : Stream) → IsStrictlySortedBy nat_cmp (keys_of es) → Some v ≡ lookup (is_at (nat_cmp id)) es → after ≡ set_value (is_at (nat_cmp id)) es w → was ≡ is_ready v → is ≡ is_ready w
    → (s.is_known ≡ true → (r.is_known ≡ true) × (s.ids.keys ≡ ids_after id was is r.ids.keys)) → Lists r es → Lists s after
lists_changed id was is r s es after v w sorted at is_after was_now is_now moved lists known = go was is (sym was_now) (sym is_now) (moved known).1
  where
    listed : r.ids.keys ≡ ready es
    listed = lists (moved known).0

    put : ready (set_value (is_at (nat_cmp id)) es w) ≡ ready after
    put = ap ready (sym is_after)

    go : (a b : Bool) → is_ready v ≡ a → is_ready w ≡ b → s.ids.keys ≡ ids_after id a b r.ids.keys → s.ids.keys ≡ ready after
    go true true x y h = h ∙ listed ∙ sym (stays id es v w at (y ∙ sym x)) ∙ put
    go true false x y h = h ∙ ap (λ ids. remove_key (is_at (nat_cmp id)) ids) listed ∙ sym (leaves id es v w at x y) ∙ put
    go false true x y h = h ∙ ap (λ ids. insert_key nat_cmp ids id) listed ∙ sym (comes id es v w sorted at x y) ∙ put
    go false false x y h = h ∙ listed ∙ sym (stays id es v w at (y ∙ sym x)) ∙ put

-- a write of a stream with the same pause
pub lists_kept : (id : ℕ) (r : ReadyIds) (es after : Entries) (v w : Stream) → Some v ≡ lookup (is_at (nat_cmp id)) es → after ≡ set_value (is_at (nat_cmp id)) es w → w.pause ≡ v.pause → Lists r es → Lists r after
lists_kept id r es after v w at is_after same lists known = lists known ∙ sym (stays id es v w at (ap is_paused same)) ∙ ap ready (sym is_after)

-- a new stream sends
pub lists_inserted : (id : ℕ) (r : ReadyIds) (es after : Entries) (s : Stream) → None ≡ lookup (is_at (nat_cmp id)) es → after ≡ insert_entry nat_cmp es id s → s.pause ≡ NotPaused → Lists r es → Lists r after
lists_inserted id r es after s none is_after sends lists known = lists known ∙ sym (ap ready is_after ∙ put es none)
  where
    here : (k : ℕ) (ids : List ℕ) → cond (is_ready s) (k ∷ ids) ids ≡ ids
    here k ids = ap (λ p. cond (is_paused p) (k ∷ ids) ids) sends

    put : (fs : Entries) → None ≡ lookup (is_at (nat_cmp id)) fs → ready (insert_entry nat_cmp fs id s) ≡ ready fs
    put [] none = here id []
    put (e ∷ fs) none = go (nat_cmp id e.0) none (put fs)
      where
        go : (o : Ordering) → None ≡ cond (is_eq o) (Some e.1) (lookup (is_at (nat_cmp id)) fs) → (None ≡ lookup (is_at (nat_cmp id)) fs → ready (insert_entry nat_cmp fs id s) ≡ ready fs)
            → ready (match_ordering o ((id, s) ∷ e ∷ fs) ((e.0, s) ∷ fs) (e ∷ insert_entry nat_cmp fs id s)) ≡ ready (e ∷ fs)
        go Less none ih = here id (ready (e ∷ fs))
        go Equal none ih = absurd (cc)
        go Greater none ih = ap (λ ids. cond (is_ready e.1) (e.0 ∷ ids) ids) (ih none)

-- none of no ready stream
pub lists_none : (r : ReadyIds) (es : Entries) → r.ids.keys ≡ [] → ready es ≡ [] → Lists r es
lists_none r es none nowhere known = none ∙ sym nowhere

pub none_taken : (n : ℕ) (ids : List ℕ) → ids ≡ [] → [] ≡ take n ids
none_taken zero ids h = refl
none_taken (suc n) ids h = ap (λ (xs : List ℕ). take (suc n) xs) (sym h)
