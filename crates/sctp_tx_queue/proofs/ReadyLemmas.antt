-- How many streams can be reset, when one stream changes, and what it says when none can.
use Rattle.std.proofs.Common.{◌≡◌, ℕ, ◌+◌, ◌≤◌, Bool, true, false, cond, List, [], ◌∷◌, length, Some, None, refl, ap, sym, ◌∙◌, arith}
use Rattle.std.specs.Prelude.{unwrap_or, option_map, nat_lt, ◌||◌}
use Rattle.std.specs.List.{list_any}
use Rattle.std.specs.List.Sorted.{IsStrictlySortedBy}
use Rattle.std.specs.Map.{lookup, set_value, values_of, keys_of}
use Rattle.std.specs.Ordering.{nat_cmp}
use Rattle.std.specs.BTreeMap.{is_at, insert_entry}
use Rattle.std.proofs.lemmas.Bool.Decides.{nat_tests}
use Rattle.std.proofs.lemmas.Cmp.{nat_cmp_total}
use Rattle.std.proofs.lemmas.List.Sums.{sum_by-cons}
use Rattle.std.proofs.lemmas.Map.Entries.{sum_by-set_value, sum_by-insert_entry}
use Rattle.sctp_state.specs.declared.api.handover.HandoverOutgoingStream.{HandoverOutgoingStream}
use Rattle.sctp_tx_queue.specs.declared.send_queue.stream.PauseState.TheVariants.{NotPaused}
use Rattle.sctp_tx_queue.specs.SendQueue.{Stream, Entries, blank_stream}
use Rattle.sctp_tx_queue.specs.Resets.{is_paused, is_ready, ready}
use Rattle.sctp_tx_queue.specs.Restored.{entries_from}
use Rattle.sctp_tx_queue.specs.Bounded.{one, ready_count}

abbrev ready_one : Stream → ℕ
ready_one s = one (is_ready s)

-- the count after a write
pub ready_written : (id : ℕ) (es : Entries) (v w : Stream) → Some v ≡ lookup (is_at (nat_cmp id)) es → ready_count (set_value (is_at (nat_cmp id)) es w) + one (is_ready v) ≡ ready_count es + one (is_ready w)
ready_written id es v w at = sum_by-set_value ready_one (is_at (nat_cmp id)) es v w (sym at)

pub ready_least : (id : ℕ) (es : Entries) (v : Stream) → Some v ≡ lookup (is_at (nat_cmp id)) es → one (is_ready v) ≤ ready_count es
ready_least id es v at = omega (arith, ready_written id es v (blank_stream 0 0) at)

-- a write of a stream with the same pause
pub ready_kept : (id : ℕ) (es after : Entries) (v w : Stream) → Some v ≡ lookup (is_at (nat_cmp id)) es → after ≡ set_value (is_at (nat_cmp id)) es w → w.pause ≡ v.pause → ready_count es ≡ ready_count after
ready_kept id es after v w at is_after same =
    let pause = ap (λ p. one (is_paused p)) same in
    omega (arith, ready_written id es v w at, pause, ap ready_count is_after)

-- the count after a change of a stream that is there
pub ready_changed : (id count next : ℕ) (was is : Bool) (es after : Entries) (v w : Stream) → Some v ≡ lookup (is_at (nat_cmp id)) es → after ≡ set_value (is_at (nat_cmp id)) es w → was ≡ is_ready v → is ≡ is_ready w
    → count ≡ ready_count es → next + one was ≡ count + one is → next ≡ ready_count after
ready_changed id count next was is es after v w at is_after is_was is_now counted sums = omega (arith, ready_written id es v w at, ap ready_count is_after, ap one is_was, ap one is_now, counted, sums)

-- a new stream sends
pub ready_inserted : (id : ℕ) (es after : Entries) (s : Stream) → IsStrictlySortedBy nat_cmp (keys_of es) → None ≡ lookup (is_at (nat_cmp id)) es → after ≡ insert_entry nat_cmp es id s → s.pause ≡ NotPaused → ready_count es ≡ ready_count after
ready_inserted id es after s sorted none is_after sends =
    let sums = sum_by-insert_entry ready_one nat_cmp_total es id s sorted in
    let none_there : unwrap_or (option_map ready_one (lookup (is_at (nat_cmp id)) es)) 0 ≡ 0 = ap (λ o. unwrap_or (option_map ready_one o) 0) (sym none) in
    let pause : one (is_ready s) ≡ 0 = ap (λ p. one (is_paused p)) sends in
    omega (arith, sums, none_there, pause, ap ready_count is_after)

pub ready_restored : (threshold : ℕ) (ss : List HandoverOutgoingStream) → ready_count (entries_from 0 threshold [] ss) ≡ 0
ready_restored threshold [] = refl
ready_restored threshold (s ∷ ss) = ready_restored threshold ss

one_at_most : (b : Bool) → one b ≤ 1
one_at_most true = omega arith
one_at_most false = omega arith

pub ready_most : (es : Entries) → ready_count es ≤ length es
ready_most [] = omega arith
ready_most (e ∷ es) = omega (arith, ready_most es, one_at_most (is_ready e.1), sum_by-cons ready_one e.1 (values_of es))

pub none_ready : (es : Entries) → ready_count es ≡ 0 → ready es ≡ []
none_ready [] none = refl
none_ready (e ∷ es) none = go (is_ready e.1) (none_ready es) (sym (sum_by-cons ready_one e.1 (values_of es)) ∙ none)
  where
    go : (b : Bool) → (ready_count es ≡ 0 → ready es ≡ []) → one b + ready_count es ≡ 0 → cond b (e.0 ∷ ready es) (ready es) ≡ []
    go true ih none = absurd (omega (arith, none))
    go false ih none = ih (omega (arith, none))

pub some_ready : (es : Entries) → nat_lt 0 (ready_count es) ≡ list_any is_ready (values_of es)
some_ready [] = refl
some_ready (e ∷ es) = ap (λ n. nat_lt 0 n) (sum_by-cons ready_one e.1 (values_of es)) ∙ go (is_ready e.1) (some_ready es)
  where
    positive : (n : ℕ) → nat_lt 0 (1 + n) ≡ true
    positive n = grind (arith, nat_tests)

    none_more : (n : ℕ) → 0 + n ≡ n
    none_more n = omega arith

    go : (b : Bool) → nat_lt 0 (ready_count es) ≡ list_any is_ready (values_of es) → nat_lt 0 (one b + ready_count es) ≡ b || list_any is_ready (values_of es)
    go true ih = positive (ready_count es)
    go false ih = ap (λ n. nat_lt 0 n) (none_more (ready_count es)) ∙ ih
