-- Streams at rest stay at rest.
use Rattle.std.proofs.Common.{◌≡◌, ℕ, zero, suc, ◌+◌, ◌≤◌, Bool, true, false, cond, Option, Some, None, List, [], ◌∷◌, length, refl, ap, arith}
use Rattle.std.specs.Prelude.{nat_lt, max, not, unwrap_or, is_some, map, filter}
use Rattle.std.specs.List.{find, All}
use Rattle.std.specs.Map.{lookup, values_of}
use Rattle.std.specs.Ordering.{nat_cmp}
use Rattle.std.specs.BTreeMap.{is_at, insert_entry}
use Rattle.std.proofs.lemmas.List.Elements.{All-nil, All-cons, All-head, All-tail}
use Rattle.std.proofs.lemmas.Map.Views.{All-values-insert_entry, All-values-set_value}
use Rattle.sctp_serial.specs.declared.api.StreamId.{StreamId}
use Rattle.sctp_serial.specs.declared.types.StreamKey.TheVariants.{Ordered, Unordered}
use Rattle.sctp_serial.specs.Unwrapped.{origin, u32_space, halves, nearest}
use Rattle.sctp_chunk.specs.Chunk.{FragmentTree}
use Rattle.sctp_chunk.specs.declared.forward_tsn.SkippedStream.{SkippedStream}
use Rattle.sctp_chunk.specs.declared.forward_tsn.SkippedStream.TheVariants.{ForwardTsn, IForwardTsn}
use Rattle.sctp_fragments.specs.Runs.{with_item, from_rank}
use Rattle.sctp_fragments.specs.ReassemblyKey.{pair_rank}
use Rattle.sctp_fragments.specs.Held.{Held, rank_of, intervals_of, is_complete, is_in_turn, left_by}
use Rattle.sctp_reassembly.specs.Delivery.{OrderedStream, UnorderedStream, OrderedDelivery, UnorderedDelivery, fresh_ordered, fresh_unordered, at_rest, delivering, deliver, deliver_within, ordered_arrival, ordered_forward, deliver_first_complete, unordered_arrival, unordered_forward, unordered_forward_tsn, held_from}
use Rattle.sctp_reassembly.specs.ReassemblyStreams.{Entries, Streams, stream_at, with_stream, set_stream, is_named, no_streams, is_far, held_as, ordered_number, unordered_number, with_ordered, with_unordered, unchanged, add_ordered, add_unordered, add_in_order, add, skip_ordered, skip_unordered, skip_of, skip, skip_each, by_stream, dropped_to, forward, reset}
use Rattle.proof_refines.specs.SettledStreams.{AreInOrder, IsSettledInOrder, IsSettled, AreSettled}
use Rattle.sctp_reassembly.proofs.DeliverLemmas.{length_found}
use Rattle.sctp_reassembly.proofs.FindLemmas.{find_none}
use Rattle.proof_refines.proofs.SettledRunsLemmas.{left_intervals, left_order, none_empty, from_order, from_none}
use Rattle.proof_refines.proofs.SettledInsertLemmas.{came_in}

-- ---- one stream

settled_within : (most n : ℕ) (hs : List Held) → AreInOrder hs → length (intervals_of hs) ≤ most → IsSettledInOrder (deliver_within most n hs).stream
settled_within zero n hs h few = record { order = h; none = none_empty (is_in_turn n) (intervals_of hs) few }
settled_within (suc most) n hs h few =
    go (settled_within most (suc n) (left_by (is_in_turn n) hs) (left_order (is_in_turn n) hs h)) (find (is_in_turn n) (intervals_of hs)) refl
  where
    later : OrderedDelivery
    later = deliver_within most (suc n) (left_by (is_in_turn n) hs)

    go : (length (intervals_of (left_by (is_in_turn n) hs)) ≤ most → IsSettledInOrder later.stream) → (o : Option (List Held)) → find (is_in_turn n) (intervals_of hs) ≡ o → IsSettledInOrder (delivering o n hs later).stream
    go rest None is = record { order = h; none = find_none (is_in_turn n) (intervals_of hs) is }
    go rest (Some r) is =
        let fewer : length (intervals_of (left_by (is_in_turn n) hs)) ≤ most =
        omega (arith, few, length_found (is_in_turn n) (intervals_of hs) r is, ap length (left_intervals (is_in_turn n) hs h)) in
        rest fewer

settled_deliver : (n : ℕ) (hs : List Held) → AreInOrder hs → IsSettledInOrder (deliver n hs).stream
settled_deliver n hs h = settled_within (length (intervals_of hs)) n hs h (omega arith)

settled_arrival : (x : Held) (s : OrderedStream) → IsSettledInOrder s → IsSettledInOrder (ordered_arrival x s).stream
settled_arrival x s h = go (nat_lt x.number s.next)
  where
    go : (b : Bool) → IsSettledInOrder (cond b (at_rest s.next s.held) (deliver s.next (with_item rank_of x s.held))).stream
    go true = record { order = h.order; none = h.none }
    go false = settled_deliver s.next (with_item rank_of x s.held) (came_in x s.held h.order).order

settled_forward : (n : ℕ) (s : OrderedStream) → IsSettledInOrder s → IsSettledInOrder (ordered_forward n s).stream
settled_forward n s h = settled_deliver (max (suc n) s.next) (from_rank rank_of (pair_rank (suc n) 0) s.held) (from_order (pair_rank (suc n) 0) s.held h.order)

settled_unordered : (x : Held) (s : UnorderedStream) → IsSettled s → IsSettled (unordered_arrival x s).stream
settled_unordered x s h = go (nat_lt x.number s.passed)
  where
    go : (b : Bool) → IsSettled (cond b (record { stream = record s { near = max origin x.number }; messages = [] }) (deliver_first_complete (record s { near = max origin x.number; held = with_item rank_of x s.held }))).stream
    go true = record { order = h.order; none = h.none }
    go false =
        let came = came_in x s.held h.order in
        record { order = left_order is_complete (with_item rank_of x s.held) came.order; none = came.settled h.none }

settled_from : (n : ℕ) (s : UnorderedStream) → IsSettled s → IsSettled (held_from n s)
settled_from n s h = record { order = from_order n s.held h.order; none = from_none n s.held h.order h.none }

settled_past : (n : ℕ) (s : UnorderedStream) → IsSettled s → IsSettled (unordered_forward n s)
settled_past n s h = record { order = from_order (pair_rank (suc n) 0) s.held h.order; none = from_none (pair_rank (suc n) 0) s.held h.order h.none }

-- ---- a map of streams

module _ {S : Type 0} (P : S → Type 0) (fresh : S) (at_first : P fresh) where
  all_at : (id : ℕ) (es : Entries S) → All P (values_of es) → P (stream_at fresh id es)
  all_at id [] h = at_first
  all_at id (e ∷ es) h = go (all_at id es (All-tail P e.1 (values_of es) h)) (is_at (nat_cmp id) e.0)
    where
      go : P (stream_at fresh id es) → (b : Bool) → P (unwrap_or (cond b (Some e.1) (lookup (is_at (nat_cmp id)) es)) fresh)
      go rest true = All-head P e.1 (values_of es) h
      go rest false = rest

  all_opened : (id : ℕ) (es : Entries S) → All P (values_of es) → All P (values_of (with_stream fresh id es))
  all_opened id es h = go (is_some (lookup (is_at (nat_cmp id)) es))
    where
      go : (b : Bool) → All P (values_of (cond b es (insert_entry nat_cmp es id fresh)))
      go true = h
      go false = All-values-insert_entry nat_cmp id fresh P es h at_first

  all_changed : (id : ℕ) (s : S) (es : Entries S) → All P (values_of es) → P s → All P (values_of (set_stream fresh id s es))
  all_changed id s es h k = All-values-set_value (is_at (nat_cmp id)) P (with_stream fresh id es) s (all_opened id es h) k

module _ {S : Type 0} (P : S → Type 0) where
  all_kept : (test : ℕ × S → Bool) (es : Entries S) → All P (values_of es) → All P (values_of (filter test es))
  all_kept test [] h = h
  all_kept test (e ∷ es) h = go (all_kept test es (All-tail P e.1 (values_of es) h)) (test e)
    where
      go : All P (values_of (filter test es)) → (b : Bool) → All P (values_of (cond b (e ∷ filter test es) (filter test es)))
      go rest true = All-cons P e.1 (values_of (filter test es)) (All-head P e.1 (values_of es) h) rest
      go rest false = rest

  all_mapped : (f : S → S) → ((s : S) → P s → P (f s)) → (es : Entries S) → All P (values_of es) → All P (values_of (map (λ e. (e.0, f e.1)) es))
  all_mapped f g [] h = h
  all_mapped f g (e ∷ es) h = All-cons P (f e.1) (values_of (map (λ e. (e.0, f e.1)) es)) (g e.1 (All-head P e.1 (values_of es) h)) (all_mapped f g es (All-tail P e.1 (values_of es) h))

-- ---- the streams

pub first_ordered : IsSettledInOrder fresh_ordered
first_ordered = record { order = tt; none = tt }

pub first_unordered : IsSettled fresh_unordered
first_unordered = record { order = tt; none = tt }

pub settled_none : (b : Bool) → AreSettled (no_streams b)
settled_none b = record { ordered = All-nil IsSettledInOrder; unordered = All-nil IsSettled }

module _ (ss : Streams) (h : AreSettled ss) where
  at_ordered : (id : ℕ) → IsSettledInOrder (stream_at fresh_ordered id ss.ordered)
  at_ordered id = all_at IsSettledInOrder fresh_ordered first_ordered id ss.ordered h.ordered

  at_unordered : (id : ℕ) → IsSettled (stream_at fresh_unordered id ss.unordered)
  at_unordered id = all_at IsSettled fresh_unordered first_unordered id ss.unordered h.unordered

  ordered_so : (id : ℕ) (d : OrderedDelivery) → IsSettledInOrder d.stream → AreSettled (with_ordered id d ss).streams
  ordered_so id d k = record { ordered = all_changed IsSettledInOrder fresh_ordered first_ordered id d.stream ss.ordered h.ordered k; unordered = h.unordered }

  unordered_so : (id : ℕ) (s : UnorderedStream) → IsSettled s → AreSettled (record ss { unordered = set_stream fresh_unordered id s ss.unordered })
  unordered_so id s k = record { ordered = h.ordered; unordered = all_changed IsSettled fresh_unordered first_unordered id s ss.unordered h.unordered k }

  settled_ordered : (id : ℕ) (x : Held) → AreSettled (add_ordered id x ss).streams
  settled_ordered id x = go (is_far x.number)
    where
      d : OrderedDelivery
      d = ordered_arrival x (stream_at fresh_ordered id ss.ordered)

      go : (b : Bool) → AreSettled (cond b (unchanged ss) (with_ordered id d ss)).streams
      go true = h
      go false = ordered_so id d (settled_arrival x (stream_at fresh_ordered id ss.ordered) (at_ordered id))

  settled_any : (id : ℕ) (x : Held) → AreSettled (add_unordered id x ss).streams
  settled_any id x = go (is_far x.number)
    where
      d : UnorderedDelivery
      d = unordered_arrival x (stream_at fresh_unordered id ss.unordered)

      go : (b : Bool) → AreSettled (cond b (unchanged ss) (with_unordered id d ss)).streams
      go true = h
      go false = unordered_so id d.stream (settled_unordered x (stream_at fresh_unordered id ss.unordered) (at_unordered id))

  pub settled_add : (tsn : ℕ) (f : FragmentTree) → AreSettled (add tsn f ss).streams
  settled_add tsn f = go f.is_unordered
    where
      go : (b : Bool) → AreSettled (add_in_order b tsn f ss).streams
      go false = settled_ordered f.stream_id (held_as ss.is_interleaved (ordered_number ss.is_interleaved f (stream_at fresh_ordered f.stream_id ss.ordered)) tsn f)
      go true = settled_any f.stream_id (held_as ss.is_interleaved (unordered_number ss.is_interleaved f (stream_at fresh_unordered f.stream_id ss.unordered)) tsn f)

  skips_ordered : (id n : ℕ) → AreSettled (skip_ordered id n ss).streams
  skips_ordered id n = go (is_far n)
    where
      d : OrderedDelivery
      d = ordered_forward n (stream_at fresh_ordered id ss.ordered)

      go : (b : Bool) → AreSettled (cond b (unchanged ss) (with_ordered id d ss)).streams
      go true = h
      go false = ordered_so id d (settled_forward n (stream_at fresh_ordered id ss.ordered) (at_ordered id))

  skips_unordered : (id n : ℕ) → AreSettled (skip_unordered id n ss).streams
  skips_unordered id n = go (is_far n)
    where
      s : UnorderedStream
      s = unordered_forward n (stream_at fresh_unordered id ss.unordered)

      go : (b : Bool) → AreSettled (cond b (unchanged ss) (record { streams = record ss { unordered = set_stream fresh_unordered id s ss.unordered }; messages = [] })).streams
      go true = h
      go false = unordered_so id s (settled_past n (stream_at fresh_unordered id ss.unordered) (at_unordered id))

  pub settled_skip : (e : SkippedStream) → AreSettled (skip e ss).streams
  settled_skip e = go ss.is_interleaved e
    where
      go : (b : Bool) (e : SkippedStream) → AreSettled (skip_of b e ss).streams
      go false (ForwardTsn id ssn) = skips_ordered id.0 (nearest halves 0 (stream_at fresh_ordered id.0 ss.ordered).next ssn.0)
      go false (IForwardTsn key mid) = h
      go true (ForwardTsn id ssn) = h
      go true (IForwardTsn (Ordered id) mid) = skips_ordered id.0 (nearest u32_space 0 (stream_at fresh_ordered id.0 ss.ordered).next mid.0)
      go true (IForwardTsn (Unordered id) mid) = skips_unordered id.0 (nearest u32_space 0 (stream_at fresh_unordered id.0 ss.unordered).near mid.0)

  pub settled_dropped : (tsn : ℕ) → AreSettled (dropped_to tsn ss)
  settled_dropped tsn = record { ordered = h.ordered; unordered = go ss.is_interleaved }
    where
      go : (b : Bool) → All IsSettled (values_of (cond b ss.unordered (map (λ e. (e.0, unordered_forward_tsn tsn e.1)) ss.unordered)))
      go true = h.unordered
      go false = all_mapped IsSettled (unordered_forward_tsn tsn) (λ s k. settled_from (pair_rank origin (tsn + 1)) s k) ss.unordered h.unordered

  pub settled_reset : (ids : List StreamId) → AreSettled (reset ids ss)
  settled_reset ids = record {
    ordered = all_kept IsSettledInOrder (λ e. not (is_named ids e.0)) ss.ordered h.ordered;
    unordered = all_kept IsSettled (λ e. not (is_named ids e.0)) ss.unordered h.unordered;
  }

settled_each : (es : List SkippedStream) (ss : Streams) → AreSettled ss → AreSettled (skip_each es ss).streams
settled_each [] ss h = h
settled_each (e ∷ es) ss h = settled_each es (skip e ss).streams (settled_skip ss h e)

pub settled_point : (tsn : ℕ) (es : List SkippedStream) (ss : Streams) → AreSettled ss → AreSettled (forward tsn es ss).streams
settled_point tsn es ss h = settled_each (by_stream es) (dropped_to tsn ss) (settled_dropped ss h tsn)
