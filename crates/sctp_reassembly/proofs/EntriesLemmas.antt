-- Sums over the streams of a map, when one stream changes.
use Rattle.std.proofs.Common.{◌≡◌, ℕ, ◌+◌, ◌≤◌, Bool, true, false, cond, List, [], ◌∷◌, Option, Some, None, ap, sym, ◌∙◌, arith}
use Rattle.std.specs.Prelude.{unwrap_or, option_map, is_some, sum_by, filter, map, nat_lt, length}
use Rattle.sctp_reassembly.specs.ReassemblyStreams.{Entries, stream_at, with_stream, put_stream, set_stream}
use Rattle.sctp_fragments.specs.Runs.{from_rank}
use Rattle.sctp_fragments.specs.Held.{Held, rank_of, bytes_of}
use Rattle.std.specs.Ordering.{nat_cmp}
use Rattle.std.specs.List.Sorted.{IsStrictlySortedBy}
use Rattle.std.specs.Map.{lookup, set_value, keys_of, values_of}
use Rattle.std.specs.BTreeMap.{is_at, insert_entry}
use Rattle.std.proofs.lemmas.Cmp.{nat_cmp_total}
use Rattle.std.proofs.lemmas.List.Sums.{sum_by-cons}
use Rattle.std.proofs.lemmas.Map.Entries.{sum_by-set_value, sum_by-insert_entry}

module _ {S : Type 0} (weight : S → ℕ) where
  pub sum_written : (id : ℕ) (es : List (ℕ × S)) (v w : S) → Some v ≡ lookup (is_at (nat_cmp id)) es → sum_by weight (values_of (set_value (is_at (nat_cmp id)) es w)) + weight v ≡ sum_by weight (values_of es) + weight w
  sum_written id es v w at = sum_by-set_value weight (is_at (nat_cmp id)) es v w (sym at)

  pub sum_at_least : (id : ℕ) (es : List (ℕ × S)) (v fresh : S) → weight fresh ≡ 0 → Some v ≡ lookup (is_at (nat_cmp id)) es → weight v ≤ sum_by weight (values_of es)
  sum_at_least id es v fresh zero at = omega (arith, sum_written id es v fresh at, zero)

  pub sum_opened : (id : ℕ) (es : List (ℕ × S)) (fresh : S) → weight fresh ≡ 0 → IsStrictlySortedBy nat_cmp (keys_of es) → None ≡ lookup (is_at (nat_cmp id)) es → sum_by weight (values_of (insert_entry nat_cmp es id fresh)) ≡ sum_by weight (values_of es)
  sum_opened id es fresh zero sorted none =
      let sums = sum_by-insert_entry weight nat_cmp_total es id fresh sorted in
      let none_there : unwrap_or (option_map weight (lookup (is_at (nat_cmp id)) es)) 0 ≡ 0 = ap (λ o. unwrap_or (option_map weight o) 0) (sym none) in
      omega (arith, sums, none_there, zero)

module _ {S : Type 0} (weight : S → ℕ) where
  pub sum_kept : (test : ℕ × S → Bool) (es : List (ℕ × S)) → sum_by weight (values_of (filter test es)) ≤ sum_by weight (values_of es)
  sum_kept test [] = omega arith
  sum_kept test (e ∷ es) = go (test e) (sum_kept test es)
    where
      go : (b : Bool) → sum_by weight (values_of (filter test es)) ≤ sum_by weight (values_of es) → sum_by weight (values_of (cond b (e ∷ filter test es) (filter test es))) ≤ sum_by weight (values_of (e ∷ es))
      go true ih =
          let goal : sum_by weight (values_of (e ∷ filter test es)) ≤ sum_by weight (values_of (e ∷ es)) = omega (arith, ih, sum_by-cons weight e.1 (values_of (filter test es)), sum_by-cons weight e.1 (values_of es)) in
          goal
      go false ih =
          let goal : sum_by weight (values_of (filter test es)) ≤ sum_by weight (values_of (e ∷ es)) = omega (arith, ih, sum_by-cons weight e.1 (values_of es)) in
          goal

  pub sum_mapped : (g : S → S) → ((s : S) → weight (g s) ≤ weight s) → (es : List (ℕ × S)) → sum_by weight (values_of (map (λ e. (e.0, g e.1)) es)) ≤ sum_by weight (values_of es)
  sum_mapped g less [] = omega arith
  sum_mapped g less (e ∷ es) =
      let s : sum_by weight (values_of (map (λ e. (e.0, g e.1)) (e ∷ es))) ≡ weight (g e.1) + sum_by weight (values_of (map (λ e. (e.0, g e.1)) es)) = sum_by-cons weight (g e.1) (values_of (map (λ e. (e.0, g e.1)) es)) in
      let t : sum_by weight (values_of (e ∷ es)) ≡ weight e.1 + sum_by weight (values_of es) = sum_by-cons weight e.1 (values_of es) in
      omega (arith, s, t, less e.1, sum_mapped g less es)

pub from_rank_bytes : (n : ℕ) (hs : List Held) → bytes_of (from_rank rank_of n hs) ≤ bytes_of hs
from_rank_bytes n [] = omega arith
from_rank_bytes n (h ∷ hs) = go (nat_lt (rank_of h) n) (from_rank_bytes n hs)
  where
    go : (b : Bool) → bytes_of (from_rank rank_of n hs) ≤ bytes_of hs → bytes_of (cond b (from_rank rank_of n hs) (h ∷ from_rank rank_of n hs)) ≤ length h.fragment.payload + bytes_of hs
    go true ih = omega (arith, ih)
    go false ih = omega (arith, ih)

-- ---- a write of what an operation makes of a stream

module _ {S : Type 0} (fresh : S) (id : ℕ) where
  pub opened_there : (es old : Entries S) (v : S) → es ≡ old → Some v ≡ lookup (is_at (nat_cmp id)) es → es ≡ with_stream fresh id old
  opened_there es old v same at =
      let there : is_some (lookup (is_at (nat_cmp id)) old) ≡ true = ap (λ (t : Entries S). is_some (lookup (is_at (nat_cmp id)) t)) (sym same) ∙ ap is_some (sym at) in
      same ∙ sym (ap (λ b. cond b old (insert_entry nat_cmp old id fresh)) there)

  pub stream_there : (es old : Entries S) (v : S) → es ≡ old → Some v ≡ lookup (is_at (nat_cmp id)) es → v ≡ stream_at fresh id old
  stream_there es old v same at = ap (λ (o : Option S). unwrap_or o fresh) at ∙ ap (stream_at fresh id) same

  pub stream_absent : (old : Entries S) → None ≡ lookup (is_at (nat_cmp id)) old → fresh ≡ stream_at fresh id old
  stream_absent old none = ap (λ (o : Option S). unwrap_or o fresh) none

  pub set_opened : (opened old new : Entries S) (v w : S) (op : S → S) → new ≡ put_stream id w opened → opened ≡ with_stream fresh id old → v ≡ stream_at fresh id old → w ≡ op v → new ≡ set_stream fresh id (op (stream_at fresh id old)) old
  set_opened opened old new v w op written is at made =
      written ∙ (ap (λ (t : S). put_stream id t opened) (made ∙ ap op at) ∙ ap (λ (t : Entries S). put_stream id (op (stream_at fresh id old)) t) is)
