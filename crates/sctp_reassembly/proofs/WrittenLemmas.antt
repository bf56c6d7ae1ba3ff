-- The record of streams can be read back.
use Rattle.std.proofs.Common.{◌≡◌, ℕ, ◌+◌, ◌<◌, ◌≤◌, Bool, true, false, List, [], ◌∷◌, refl, ap, ◌∙◌, arith}
use Rattle.std.specs.Prelude.{◌&&◌, ◌||◌, nat_le}
use Rattle.std.specs.List.Sorted.{IsStrictlySortedBy}
use Rattle.std.specs.Map.{keys_of}
use Rattle.std.specs.Ordering.{nat_cmp}
use Rattle.std.proofs.lemmas.Bool.{le-leb}
use Rattle.std.proofs.lemmas.Map.Keys.{sorted_tail, IsStrictlyIncreasing-from_sorted}
use Rattle.sctp_serial.specs.Unwrapped.{halves, wire}
use Rattle.sctp_state.specs.declared.api.handover.HandoverOrderedStream.{HandoverOrderedStream}
use Rattle.sctp_state.specs.declared.api.handover.HandoverUnorderedStream.{HandoverUnorderedStream}
use Rattle.sctp_state.specs.Validity.{rises_from, ordered_ids, unordered_ids, has_small_numbers}
use Rattle.sctp_reassembly.specs.Delivery.{OrderedStream, UnorderedStream}
use Rattle.sctp_reassembly.specs.ReassemblyStreams.{Entries}
use Rattle.sctp_reassembly.specs.ReassemblyHandover.{ordered_records, unordered_records}

abbrev StartsFrom : ℕ → List ℕ → Type 0
StartsFrom least [] = Unit {0}
StartsFrom least (k ∷ ks) = least ≤ k

rises_keys : (least : ℕ) (ks : List ℕ) → IsStrictlySortedBy nat_cmp ks → StartsFrom least ks → rises_from least ks ≡ true
rises_keys least [] h from = refl
rises_keys least (k ∷ []) h from = rw (le-leb least k from) refl
rises_keys least (k ∷ (j ∷ ks)) h from =
    let less : k < j = IsStrictlyIncreasing-from_sorted (k ∷ (j ∷ ks)) h 0 (omega arith) in
    rw (le-leb least k from) (rises_keys (k + 1) (j ∷ ks) (sorted_tail nat_cmp k (j ∷ ks) h) (omega (arith, less)))

from_zero : (ks : List ℕ) → StartsFrom 0 ks
from_zero [] = tt
from_zero (k ∷ ks) = omega arith

ids_ordered : (b : Bool) (es : Entries OrderedStream) → ordered_ids (ordered_records b es) ≡ keys_of es
ids_ordered b [] = refl
ids_ordered b (e ∷ es) = ap (λ (t : List ℕ). e.0 ∷ t) (ids_ordered b es)

ids_unordered : (es : Entries UnorderedStream) → unordered_ids (unordered_records es) ≡ keys_of es
ids_unordered [] = refl
ids_unordered (e ∷ es) = ap (λ (t : List ℕ). e.0 ∷ t) (ids_unordered es)

pub rises_ordered : (b : Bool) (es : Entries OrderedStream) → IsStrictlySortedBy nat_cmp (keys_of es) → rises_from 0 (ordered_ids (ordered_records b es)) ≡ true
rises_ordered b es h = ap (rises_from 0) (ids_ordered b es) ∙ rises_keys 0 (keys_of es) h (from_zero (keys_of es))

pub rises_unordered : (es : Entries UnorderedStream) → IsStrictlySortedBy nat_cmp (keys_of es) → rises_from 0 (unordered_ids (unordered_records es)) ≡ true
rises_unordered es h = ap (rises_from 0) (ids_unordered es) ∙ rises_keys 0 (keys_of es) h (from_zero (keys_of es))

pub small_number : (n : ℕ) → nat_le (wire halves 0 n) 65535 ≡ true
small_number n = le-leb (wire halves 0 n) 65535 (omega arith)

small_numbers : (es : Entries OrderedStream) → has_small_numbers (ordered_records false es) ≡ true
small_numbers [] = refl
small_numbers (e ∷ es) = rw (small_number e.1.next) (small_numbers es)

pub valid_plain : (os : List HandoverOrderedStream) (us : List HandoverUnorderedStream) (es : Entries OrderedStream) → os ≡ ordered_records false es → rises_from 0 (ordered_ids os) ≡ true → rises_from 0 (unordered_ids us) ≡ true
    → (rises_from 0 (ordered_ids os) && (rises_from 0 (unordered_ids us) && (false || has_small_numbers os))) ≡ true
valid_plain os us es is ordered unordered = rw (ordered, unordered) (ap has_small_numbers is ∙ small_numbers es)
