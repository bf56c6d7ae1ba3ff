-- Streams that are read from a record.
use Rattle.std.proofs.Common.{◌≡◌, ℕ, zero, suc, ◌+◌, ◌<◌, ◌≤◌, true, List, [], ◌∷◌, ◌++◌, length, take, get_or, refl, ap, sym, ◌∙◌, arith}
use Rattle.std.specs.Prelude.{nat_le, map, sum_by}
use Rattle.std.specs.declared.cmp.Ordering.{Ordering}
use Rattle.std.specs.declared.cmp.Ordering.TheVariants.{Greater}
use Rattle.std.specs.Ordering.{nat_cmp, match_ordering}
use Rattle.std.specs.Cmp.{nat_cmp_is}
use Rattle.std.specs.Map.{values_of}
use Rattle.std.specs.BTreeMap.{insert_entry}
use Rattle.std.proofs.lemmas.Bool.{leb-true, and_parts}
use Rattle.std.proofs.lemmas.List.{take_more}
use Rattle.std.proofs.lemmas.List.Sums.{sum_by-cons}
use Rattle.sctp_serial.specs.Unwrapped.{origin}
use Rattle.sctp_state.specs.declared.api.handover.HandoverOrderedStream.{HandoverOrderedStream}
use Rattle.sctp_state.specs.declared.api.handover.HandoverUnorderedStream.{HandoverUnorderedStream}
use Rattle.sctp_state.specs.Handover.{Receive}
use Rattle.sctp_state.specs.Validity.{rises_from}
use Rattle.sctp_fragments.specs.Held.{bytes_of}
use Rattle.sctp_reassembly.specs.Delivery.{OrderedStream, UnorderedStream, fresh_unordered}
use Rattle.sctp_reassembly.specs.ReassemblyStreams.{Streams, held_bytes, fragments_of}
use Rattle.sctp_reassembly.specs.ReassemblyHandover.{streams_restored}

module _ {S : Type 0} where
  -- each key is below n
  abbrev KeysBelow : ℕ → List (ℕ × S) → Type 0
  KeysBelow n [] = Unit {0}
  KeysBelow n (e ∷ es) = (e.0 < n) × KeysBelow n es

  insert_last : (es : List (ℕ × S)) (k : ℕ) (v : S) → KeysBelow k es → insert_entry nat_cmp es k v ≡ es ++ (k, v) ∷ []
  insert_last [] k v h = refl
  insert_last (e ∷ es) k v h =
      ap (λ (r : Ordering). match_ordering r ((k, v) ∷ e ∷ es) ((e.0, v) ∷ es) (e ∷ insert_entry nat_cmp es k v)) (sym (nat_cmp_is k e.0 Greater h.0))
      ∙ ap (λ (t : List (ℕ × S)). e ∷ t) (insert_last es k v h.1)

module _ {R S : Type 0} (id : R → ℕ) (state : R → S) where
  abbrev entries : List R → List (ℕ × S)
  entries rs = map (λ r. (id r, state r)) rs

  entries_append : (xs ys : List R) → entries (xs ++ ys) ≡ entries xs ++ entries ys
  entries_append [] ys = refl
  entries_append (x ∷ xs) ys = ap (λ (t : List (ℕ × S)). (id x, state x) ∷ t) (entries_append xs ys)

  -- the ids before one are below it
  below_at : (least : ℕ) (rs : List R) (i : ℕ) (d : R) → rises_from least (map id rs) ≡ true → i < length rs → KeysBelow (id (get_or rs i d)) (entries (take i rs)) × (least ≤ id (get_or rs i d))
  below_at least [] i d h k = absurd (omega arith)
  below_at least (x ∷ xs) zero d h k = (tt, leb-true least (id x) (and_parts (nat_le least (id x)) (rises_from (id x + 1) (map id xs)) h).0)
  below_at least (x ∷ xs) (suc i) d h k =
      let parts = and_parts (nat_le least (id x)) (rises_from (id x + 1) (map id xs)) h in
      let rest = below_at (id x + 1) xs i d parts.1 (omega arith) in
      let low = leb-true least (id x) parts.0 in
      let above : id x < id (get_or xs i d) = omega (arith, rest.1) in
      ((above, rest.0), omega (arith, above, low))

  pub read_more : (rs : List R) (i : ℕ) (d : R) (v : S) (old new : List (ℕ × S)) → rises_from 0 (map id rs) ≡ true → i < length rs → v ≡ state (get_or rs i d) → old ≡ entries (take i rs) → new ≡ insert_entry nat_cmp old (id (get_or rs i d)) v
      → new ≡ entries (take (i + 1) rs)
  read_more rs i d v old new rises k is before made =
      let r = get_or rs i d in
      made ∙ (ap (λ (t : List (ℕ × S)). insert_entry nat_cmp t (id r) v) before ∙ (insert_last (entries (take i rs)) (id r) v (below_at 0 rs i d rises k).0
      ∙ (ap (λ (s : S). entries (take i rs) ++ (id r, s) ∷ []) is ∙ (sym (entries_append (take i rs) (r ∷ [])) ∙ ap entries (sym (take_more rs i d k))))))

  pub weightless : (weight : S → ℕ) → ((r : R) → weight (state r) ≡ 0) → (rs : List R) → sum_by weight (values_of (entries rs)) ≡ 0
  weightless weight none [] = refl
  weightless weight none (r ∷ rs) = omega (arith, sum_by-cons weight (state r) (values_of (entries rs)), none r, weightless weight none rs)

-- nothing is held
module _ (rx : Receive) (ss : Streams) where
  pub no_bytes_restored : held_bytes (streams_restored rx ss) ≡ 0
  no_bytes_restored = omega (
    arith,
    weightless (λ (s : HandoverOrderedStream). s.id) (λ (s : HandoverOrderedStream). record { next = origin + s.next_ssn; held = [] }) (λ (s : OrderedStream). bytes_of s.held) (λ r. refl) rx.ordered_streams,
    weightless (λ (s : HandoverUnorderedStream). s.id) (λ (s : HandoverUnorderedStream). fresh_unordered) (λ (s : UnorderedStream). bytes_of s.held) (λ r. refl) rx.unordered_streams,
  )

  pub no_fragments_restored : fragments_of (streams_restored rx ss) ≡ 0
  no_fragments_restored = omega (
    arith,
    weightless (λ (s : HandoverOrderedStream). s.id) (λ (s : HandoverOrderedStream). record { next = origin + s.next_ssn; held = [] }) (λ (s : OrderedStream). length s.held) (λ r. refl) rx.ordered_streams,
    weightless (λ (s : HandoverUnorderedStream). s.id) (λ (s : HandoverUnorderedStream). fresh_unordered) (λ (s : UnorderedStream). length s.held) (λ r. refl) rx.unordered_streams,
  )
