-- The record of an end that is handed over is valid: its queue and its items.
use Rattle.std.proofs.Common.{◌≡◌, ℕ, suc, ◌+◌, ◌%◌, ◌^◌, ◌<◌, ◌≤◌, ◌==◌, ◌&&◌, ◌||◌, not, nat_lt, nat_le, Bool, true, false, cond, Less, Option, Some, None, is_some, unwrap_or, List, [], ◌∷◌, ◌++◌, length, map, refl, sym, ap, subst, ◌∙◌, arith}
use Rattle.std.specs.List.{list_all}
use Rattle.std.specs.List.Sorted.{IsStrictlySortedBy}
use Rattle.std.specs.Map.{lookup, keys_of}
use Rattle.std.specs.Ordering.{nat_cmp}
use Rattle.std.specs.BTreeMap.{is_at}
use Rattle.std.proofs.lemmas.Bool.Decides.{nat_tests}
use Rattle.std.proofs.lemmas.List.Folds.{list_all-append}
use Rattle.std.proofs.lemmas.List.Sums.{sum_by-cons, sum_by-append}
use Rattle.std.proofs.lemmas.Bool.{and_from, and_parts, eq-eqb, or_from, or_right}
use Rattle.std.proofs.Math.Bool.{and-false}
use Rattle.sctp_serial.specs.Unwrapped.{u32_space, wire}
use Rattle.sctp_state.specs.declared.api.handover.HandoverOutgoingStream.{HandoverOutgoingStream}
use Rattle.sctp_state.specs.Handover.{StreamMessage, OutstandingData}
use Rattle.sctp_state.specs.Validity.{rises_from, outgoing_ids, has_stream, is_valid_message, are_valid_messages, has_message_id, message_ids_differ, is_partly_sent, has_partly_sent, first_alone_is_partly_sent, partly_sent_count, is_valid_item, are_valid_items, queued_bytes, outstanding_bytes}
use Rattle.sctp_tx_outstanding.specs.declared.item.ItemState.{ItemState}
use Rattle.sctp_tx_outstanding.specs.declared.item.ItemState.TheVariants.{InFlight, Missing, Queued as Lost, QueuedFast, Acked, GivenUp}
use Rattle.sctp_tx_outstanding.specs.Item.{Item, has_ack, is_given_up, waits}
use Rattle.sctp_tx_outstanding.specs.Handover.{item_record, item_records}
use Rattle.sctp_tx_queue.specs.SendQueue.{Queued, Stream, Entries}
use Rattle.sctp_tx_queue.specs.Handover.{queued_message, messages_of, outgoing_stream, outgoing_streams, queued_messages}
use Rattle.sctp_tx_queue.specs.InOrder.{is_unsent, is_begun_or_waiting, are_in_order, is_first_begun, is_this, has_rest}
use Rattle.sctp_tx_queue.proofs.AgainLemmas.{AreAbove, are_above}
use Rattle.proof_endpoint.specs.HandoverRoundTrip.{count_with_number, numbered_in, message_bytes, queue_bytes, item_bytes}
use Rattle.proof_endpoint.specs.Lifecycles.{one_if}
use Rattle.sctp_serial.proofs.NumberLemmas.{at_itself, greater_differs, zero_not_positive}

-- ---- ids that ascend

next_above : (k n : ℕ) → nat_cmp k n ≡ Less → nat_le (k + 1) n ≡ true
next_above k n e = grind (arith, nat_tests)

from_zero : (n : ℕ) → nat_le 0 n ≡ true
from_zero n = grind (arith, nat_tests)

rises_behind : (k : ℕ) (ns : List ℕ) → IsStrictlySortedBy nat_cmp (k ∷ ns) → rises_from (k + 1) ns ≡ true
unfolding IsStrictlySortedBy
rises_behind k [] s = refl
rises_behind k (n ∷ ns) s = and_from (nat_le (k + 1) n) (rises_from (n + 1) ns) (next_above k n s.0.0) (rises_behind n ns s.1)

pub rises : (ns : List ℕ) → IsStrictlySortedBy nat_cmp ns → rises_from 0 ns ≡ true
unfolding IsStrictlySortedBy
rises [] s = refl
rises (n ∷ ns) s = and_from (nat_le 0 n) (rises_from (n + 1) ns) (from_zero n) (rises_behind n ns s)

outgoing_are : (es : Entries) → outgoing_ids (outgoing_streams es) ≡ keys_of es
outgoing_are [] = refl
outgoing_are (e ∷ es) = ap (λ (ns : List ℕ). e.0 ∷ ns) (outgoing_are es)

pub outgoing_rise : (es : Entries) → IsStrictlySortedBy nat_cmp (keys_of es) → rises_from 0 (outgoing_ids (outgoing_streams es)) ≡ true
outgoing_rise es s = ap (rises_from 0) (outgoing_are es) ∙ rises (keys_of es) s

-- ---- each stream of the map

abbrev pub Each : (ℕ → List Queued → Type 0) → Entries → Type 0
Each Q [] = Unit
Each Q (e ∷ es) = Q e.0 e.1.messages × Each Q es

-- these are found among those
abbrev Found : Entries → Entries → Type 0
Found all [] = Unit
Found all (e ∷ es) = (lookup (is_at (nat_cmp e.0)) all ≡ Some e.1) × Found all es

below_it : (k m : ℕ) → k < m → is_at (nat_cmp m) k ≡ false
below_it k m l = grind (arith, nat_tests)

found_behind : (e : ℕ × Stream) (all es : Entries) → AreAbove e.0 es → Found all es → Found (e ∷ all) es
found_behind e all [] above h = tt
found_behind e all (x ∷ xs) above h = (
  ap (λ (b : Bool). cond b (Some e.1) (lookup (is_at (nat_cmp x.0)) all)) (below_it e.0 x.0 above.0) ∙ h.0,
  found_behind e all xs above.1 h.1,
)

all_found : (es : Entries) → IsStrictlySortedBy nat_cmp (keys_of es) → Found es es
unfolding IsStrictlySortedBy
all_found [] s = tt
all_found (e ∷ es) s = (
  ap (λ (b : Bool). cond b (Some e.1) (lookup (is_at (nat_cmp e.0)) es)) (at_itself e.0),
  found_behind e es es (are_above e.0 es s) (all_found es s.1),
)

each_found : (Q : ℕ → List Queued → Type 0) (none : Stream) (all es : Entries) → Found all es
    → ((k : ℕ) → Q k (unwrap_or (lookup (is_at (nat_cmp k)) all) none).messages) → Each Q es
each_found Q none all [] f h = tt
each_found Q none all (e ∷ es) f h = (
  subst (λ (o : Option Stream). Q e.0 (unwrap_or o none).messages) f.0 (h e.0),
  each_found Q none all es f.1 h,
)

pub each : (Q : ℕ → List Queued → Type 0) (none : Stream) (es : Entries) → IsStrictlySortedBy nat_cmp (keys_of es)
    → ((k : ℕ) → Q k (unwrap_or (lookup (is_at (nat_cmp k)) es) none).messages) → Each Q es
each Q none es s h = each_found Q none es es (all_found es s) h

-- ---- messages are valid

abbrev Has : List HandoverOutgoingStream → Entries → Type 0
Has ss [] = Unit
Has ss (e ∷ es) = (has_stream ss e.0 ≡ true) × Has ss es

has_more : (s : HandoverOutgoingStream) (ss : List HandoverOutgoingStream) (es : Entries) → Has ss es → Has (s ∷ ss) es
has_more s ss [] h = tt
has_more s ss (e ∷ es) h = (or_right (s.id == e.0) (has_stream ss e.0) h.0, has_more s ss es h.1)

has_all : (es : Entries) → Has (outgoing_streams es) es
has_all [] = tt
has_all (e ∷ es) = (
  ap (λ (b : Bool). b || has_stream (outgoing_streams es) e.0) (eq-eqb e.0 e.0 refl),
  has_more (outgoing_stream e.0 e.1) (outgoing_streams es) es (has_all es),
)

abbrev is_below : ℕ → Queued → Bool
is_below next m = nat_lt m.number next

abbrev pub AreLeft : ℕ → List Queued → Type 0
AreLeft k ms = list_all has_rest ms ≡ true

abbrev AreBelow : ℕ → ℕ → List Queued → Type 0
AreBelow next k ms = list_all (is_below next) ms ≡ true

messages_valid : (now next id : ℕ) (ss : List HandoverOutgoingStream) (ms : List Queued) → has_stream ss id ≡ true → list_all has_rest ms ≡ true
    → list_all (is_below next) ms ≡ true → are_valid_messages ss next (map (queued_message now id) ms) ≡ true
messages_valid now next id ss [] there rests below = refl
messages_valid now next id ss (m ∷ ms) there rests below =
    let r = and_parts (has_rest m) (list_all has_rest ms) rests in
    let n = and_parts (is_below next m) (list_all (is_below next) ms) below in
    and_from (is_valid_message ss next (queued_message now id m)) (are_valid_messages ss next (map (queued_message now id) ms))
    (and_from (has_rest m) (has_stream ss id && is_below next m) r.0 (and_from (has_stream ss id) (is_below next m) there n.0))
    (messages_valid now next id ss ms there r.1 n.1)

all_valid : (now next : ℕ) (ss : List HandoverOutgoingStream) (es : Entries) → Has ss es → Each AreLeft es → Each (AreBelow next) es
    → are_valid_messages ss next (queued_messages now es) ≡ true
all_valid now next ss [] there rests below = refl
all_valid now next ss (e ∷ es) there rests below =
    let first : List StreamMessage = messages_of now e.0 e.1 in
    let rest : List StreamMessage = queued_messages now es in
    list_all-append (is_valid_message ss next) first rest
    ∙ and_from (are_valid_messages ss next first) (are_valid_messages ss next rest)
    (messages_valid now next e.0 ss e.1.messages there.0 rests.0 below.0) (all_valid now next ss es there.1 rests.1 below.1)

-- a number that a message has was given
given : (b : Bool) (k : ℕ) → 1 + k ≤ one_if b → b ≡ true
given true k h = refl
given false k h = absurd (omega (arith, h))

are_below : (next k : ℕ) (ms : List Queued) → ((n : ℕ) → count_with_number n ms ≤ one_if (nat_lt n next)) → AreBelow next k ms
are_below next k [] h = refl
are_below next k (m ∷ ms) h =
    and_from (is_below next m) (list_all (is_below next) ms)
    (given (nat_lt m.number next) (count_with_number m.number ms) (omega (arith, h m.number, ap one_if (eq-eqb m.number m.number refl))))
    (are_below next k ms (λ n. omega (arith, h n)))

all_below : (next : ℕ) (es : Entries) → ((n : ℕ) → numbered_in n es ≤ one_if (nat_lt n next)) → Each (AreBelow next) es
all_below next [] h = tt
all_below next (e ∷ es) h = (are_below next e.0 e.1.messages (λ n. omega (arith, h n)), all_below next es (λ n. omega (arith, h n)))

pub messages_are_valid : (now next : ℕ) (es : Entries) → Each AreLeft es → ((n : ℕ) → numbered_in n es ≤ one_if (nat_lt n next))
    → are_valid_messages (outgoing_streams es) next (queued_messages now es) ≡ true
messages_are_valid now next es rests h = all_valid now next (outgoing_streams es) es (has_all es) rests (all_below next es h)

-- ---- numbers differ

ids : ℕ → List StreamMessage → ℕ
ids n [] = 0
ids n (m ∷ ms) = one_if (m.message_id == n) + ids n ms

ids_append : (n : ℕ) (xs ys : List StreamMessage) → ids n (xs ++ ys) ≡ ids n xs + ids n ys
unfolding ids
ids_append n [] ys = omega arith
ids_append n (x ∷ xs) ys = omega (arith, ids_append n xs ys)

ids_numbered : (n now id : ℕ) (ms : List Queued) → ids n (map (queued_message now id) ms) ≡ count_with_number n ms
unfolding ids
ids_numbered n now id [] = refl
ids_numbered n now id (m ∷ ms) = omega (arith, ids_numbered n now id ms)

ids_all : (n now : ℕ) (es : Entries) → ids n (queued_messages now es) ≡ numbered_in n es
unfolding ids
ids_all n now [] = refl
ids_all n now (e ∷ es) = omega (arith, ids_append n (messages_of now e.0 e.1) (queued_messages now es), ids_numbered n now e.0 e.1.messages, ids_all n now es)

absent_id : (n : ℕ) (ms : List StreamMessage) → ids n ms ≡ 0 → has_message_id n ms ≡ false
unfolding ids
absent_id n [] h = refl
absent_id n (m ∷ ms) h = go (m.message_id == n) h (absent_id n ms)
  where
    go : (b : Bool) → one_if b + ids n ms ≡ 0 → (ids n ms ≡ 0 → has_message_id n ms ≡ false) → (b || has_message_id n ms) ≡ false
    go true e ih = absurd (omega (arith, e))
    go false e ih = ih (omega (arith, e))

ids_differ : (ms : List StreamMessage) → ((n : ℕ) → ids n ms ≤ 1) → message_ids_differ ms ≡ true
unfolding ids
ids_differ [] h = refl
ids_differ (m ∷ ms) h =
    and_from (not (has_message_id m.message_id ms)) (message_ids_differ ms)
    (ap not (absent_id m.message_id ms (omega (arith, h m.message_id, ap one_if (eq-eqb m.message_id m.message_id refl)))))
    (ids_differ ms (λ n. omega (arith, h n)))

one_at_most : (b : Bool) → one_if b ≤ 1
one_at_most true = omega arith
one_at_most false = omega arith

pub numbers_differ : (now next : ℕ) (es : Entries) → ((n : ℕ) → numbered_in n es ≤ one_if (nat_lt n next)) → message_ids_differ (queued_messages now es) ≡ true
numbers_differ now next es h = ids_differ (queued_messages now es) (λ n. omega (arith, h n, one_at_most (nat_lt n next), ids_all n now es))

-- ---- of a stream, the first message alone may be partly sent

abbrev pub IsOrdered : Option ℕ → ℕ → List Queued → Type 0
IsOrdered begun k ms = (are_in_order ms ≡ true) × (is_first_begun ms ≡ is_this k begun)

partly_append : (k : ℕ) (xs ys : List StreamMessage) → has_partly_sent k xs ≡ false → has_partly_sent k ys ≡ false → has_partly_sent k (xs ++ ys) ≡ false
partly_append k [] ys p q = q
partly_append k (x ∷ xs) ys p q = go ((x.stream_id == k) && is_partly_sent x) p (λ e. partly_append k xs ys e q)
  where
    go : (b : Bool) → (b || has_partly_sent k xs) ≡ false → (has_partly_sent k xs ≡ false → has_partly_sent k (xs ++ ys) ≡ false) → (b || has_partly_sent k (xs ++ ys)) ≡ false
    go true e ih = absurd (cc)
    go false e ih = ih e

waiting_unsent : (m : Queued) → is_unsent m ≡ true → nat_lt 0 m.offset ≡ false
waiting_unsent m h = zero_not_positive m.offset (and_parts (not (is_some m.numbers)) (m.offset == 0) h).1

waiting_none : (now id k : ℕ) (ms : List Queued) → list_all is_unsent ms ≡ true → has_partly_sent k (map (queued_message now id) ms) ≡ false
waiting_none now id k [] h = refl
waiting_none now id k (m ∷ ms) h =
    let hs = and_parts (is_unsent m) (list_all is_unsent ms) h in
    or_from ((id == k) && nat_lt 0 m.offset) (has_partly_sent k (map (queued_message now id) ms))
    (ap (λ (b : Bool). (id == k) && b) (waiting_unsent m hs.0) ∙ and-false (id == k)) (waiting_none now id k ms hs.1)

other_none : (now id k : ℕ) (ms : List Queued) → (id == k) ≡ false → has_partly_sent k (map (queued_message now id) ms) ≡ false
other_none now id k [] h = refl
other_none now id k (m ∷ ms) h =
    or_from ((id == k) && nat_lt 0 m.offset) (has_partly_sent k (map (queued_message now id) ms))
    (ap (λ (b : Bool). b && nat_lt 0 m.offset) h) (other_none now id k ms h)

above_none : (now k : ℕ) (es : Entries) → AreAbove k es → has_partly_sent k (queued_messages now es) ≡ false
above_none now k [] h = refl
above_none now k (e ∷ es) h =
    partly_append k (messages_of now e.0 e.1) (queued_messages now es) (other_none now e.0 k e.1.messages (greater_differs k e.0 h.0)) (above_none now k es h.1)

waiting_alone : (now id : ℕ) (ms : List Queued) (rest : List StreamMessage) → list_all is_unsent ms ≡ true → has_partly_sent id rest ≡ false
    → first_alone_is_partly_sent rest ≡ true → first_alone_is_partly_sent (map (queued_message now id) ms ++ rest) ≡ true
waiting_alone now id [] rest h none alone = alone
waiting_alone now id (m ∷ ms) rest h none alone =
    let hs = and_parts (is_unsent m) (list_all is_unsent ms) h in
    let front : List StreamMessage = map (queued_message now id) ms in
    and_from (not (has_partly_sent id (front ++ rest))) (first_alone_is_partly_sent (front ++ rest))
    (ap not (partly_append id front rest (waiting_none now id id ms hs.1) none)) (waiting_alone now id ms rest hs.1 none alone)

order_alone : (now id : ℕ) (ms : List Queued) (rest : List StreamMessage) → are_in_order ms ≡ true → has_partly_sent id rest ≡ false
    → first_alone_is_partly_sent rest ≡ true → first_alone_is_partly_sent (map (queued_message now id) ms ++ rest) ≡ true
order_alone now id [] rest h none alone = alone
order_alone now id (m ∷ ms) rest h none alone =
    let hs = and_parts (is_begun_or_waiting m) (list_all is_unsent ms) h in
    let front : List StreamMessage = map (queued_message now id) ms in
    and_from (not (has_partly_sent id (front ++ rest))) (first_alone_is_partly_sent (front ++ rest))
    (ap not (partly_append id front rest (waiting_none now id id ms hs.1) none)) (waiting_alone now id ms rest hs.1 none alone)

pub first_alone : (now : ℕ) (es : Entries) → IsStrictlySortedBy nat_cmp (keys_of es) → Each (λ k ms. are_in_order ms ≡ true) es
    → first_alone_is_partly_sent (queued_messages now es) ≡ true
unfolding IsStrictlySortedBy
first_alone now [] s h = refl
first_alone now (e ∷ es) s h =
    order_alone now e.0 e.1.messages (queued_messages now es) h.0 (above_none now e.0 es (are_above e.0 es s)) (first_alone now es s.1 h.1)

-- ---- without interleaving one at most is

abbrev part : Bool → ℕ
part b = cond b 1 0

abbrev one_of : StreamMessage → ℕ
one_of m = part (is_partly_sent m)

waiting_count : (now id : ℕ) (ms : List Queued) → list_all is_unsent ms ≡ true → partly_sent_count (map (queued_message now id) ms) ≡ 0
waiting_count now id [] h = refl
waiting_count now id (m ∷ ms) h =
    let hs = and_parts (is_unsent m) (list_all is_unsent ms) h in
    let none : part (nat_lt 0 m.offset) ≡ 0 = ap part (waiting_unsent m hs.0) in
    omega (arith, sum_by-cons one_of (queued_message now id m) (map (queued_message now id) ms), none, waiting_count now id ms hs.1)

front_count : (b some : Bool) (n : ℕ) → (cond some (nat_lt 0 n) (n == 0)) ≡ true → some ≡ b → part (nat_lt 0 n) ≤ one_if b
front_count b true n h e = go (nat_lt 0 n)
  where
    go : (c : Bool) → part c ≤ one_if b
    go true = omega (arith, ap one_if e)
    go false = omega arith
front_count b false n h e = omega (arith, ap part (zero_not_positive n h))

order_count : (now id : ℕ) (b : Bool) (ms : List Queued) → are_in_order ms ≡ true → is_first_begun ms ≡ b → partly_sent_count (map (queued_message now id) ms) ≤ one_if b
order_count now id b [] h e = omega arith
order_count now id b (m ∷ ms) h e =
    let hs = and_parts (is_begun_or_waiting m) (list_all is_unsent ms) h in
    omega (arith, sum_by-cons one_of (queued_message now id m) (map (queued_message now id) ms), front_count b (is_some m.numbers) m.offset hs.0 e, waiting_count now id ms hs.1)

these : Option ℕ → Entries → ℕ
these begun [] = 0
these begun (e ∷ es) = one_if (is_this e.0 begun) + these begun es

count_these : (now : ℕ) (begun : Option ℕ) (es : Entries) → Each (IsOrdered begun) es → partly_sent_count (queued_messages now es) ≤ these begun es
unfolding these
count_these now begun [] h = omega arith
count_these now begun (e ∷ es) h =
    omega (
      arith,
      sum_by-append one_of (messages_of now e.0 e.1) (queued_messages now es),
      order_count now e.0 (is_this e.0 begun) e.1.messages h.0.0 h.0.1,
      count_these now begun es h.1,
    )

these_above : (j k : ℕ) (es : Entries) → (k == j) ≡ true → AreAbove k es → these (Some j) es ≡ 0
unfolding these
these_above j k [] e h = refl
these_above j k (x ∷ xs) e h =
    let higher : j < x.0 = grind (arith, nat_tests, h.0, e) in
    omega (arith, ap one_if (greater_differs j x.0 higher), these_above j k xs e h.1)

these_few : (begun : Option ℕ) (es : Entries) → IsStrictlySortedBy nat_cmp (keys_of es) → these begun es ≤ 1
unfolding these IsStrictlySortedBy
these_few None [] s = omega arith
these_few None (e ∷ es) s = omega (arith, these_few None es s.1)
these_few (Some j) [] s = omega arith
these_few (Some j) (e ∷ es) s = go (e.0 == j) refl (these_few (Some j) es s.1)
  where
    go : (b : Bool) → (e.0 == j) ≡ b → these (Some j) es ≤ 1 → one_if b + these (Some j) es ≤ 1
    go true q ih = omega (arith, these_above j e.0 es q (are_above e.0 es s))
    go false q ih = omega (arith, ih)

pub one_is_begun : (now : ℕ) (begun : Option ℕ) (es : Entries) → IsStrictlySortedBy nat_cmp (keys_of es) → Each (IsOrdered begun) es
    → partly_sent_count (queued_messages now es) ≤ 1
one_is_begun now begun es s h = omega (arith, count_these now begun es h, these_few begun es s)

-- ---- items

one_state : (s : ItemState) → (not (has_ack s && is_given_up s) && (not (has_ack s && waits s) && not (is_given_up s && waits s))) ≡ true
one_state InFlight = refl
one_state Missing = refl
one_state Lost = refl
one_state QueuedFast = refl
one_state Acked = refl
one_state GivenUp = refl

pub in_one_state : (now : ℕ) (is : List Item) → are_valid_items (item_records now is) ≡ true
in_one_state now [] = refl
in_one_state now (i ∷ is) = and_from (is_valid_item (item_record now i)) (are_valid_items (item_records now is)) (one_state i.state) (in_one_state now is)

pub count_items : (now : ℕ) (is : List Item) → length (item_records now is) ≡ length is
count_items now [] = refl
count_items now (i ∷ is) = ap suc (count_items now is)

-- the next number is as far on as there are items
pub next_is : (first acked count more : ℕ) → more ≡ count → (wire u32_space first (acked + 1 + count) == (wire u32_space first acked + 1 + more) % 2 ^ 32) ≡ true
next_is first acked count more e =
    let same : wire u32_space first (acked + 1 + count) ≡ (wire u32_space first acked + 1 + more) % 2 ^ 32 = omega (arith, e) in
    ap (λ (n : ℕ). wire u32_space first (acked + 1 + count) == n) (sym same) ∙ (eq-eqb (wire u32_space first (acked + 1 + count)) (wire u32_space first (acked + 1 + count)) refl)

-- ---- bytes

message_bytes_are : (now id : ℕ) (ms : List Queued) → queued_bytes (map (queued_message now id) ms) ≡ message_bytes ms
message_bytes_are now id [] = refl
message_bytes_are now id (m ∷ ms) =
    let size : StreamMessage → ℕ = λ x. length x.payload in
    omega (arith, sum_by-cons size (queued_message now id m) (map (queued_message now id) ms), message_bytes_are now id ms)

pub queue_bytes_are : (now : ℕ) (es : Entries) → queued_bytes (queued_messages now es) ≡ queue_bytes es
queue_bytes_are now [] = refl
queue_bytes_are now (e ∷ es) =
    let size : StreamMessage → ℕ = λ x. length x.payload in
    omega (arith, sum_by-append size (messages_of now e.0 e.1) (queued_messages now es), message_bytes_are now e.0 e.1.messages, queue_bytes_are now es)

pub item_bytes_are : (now : ℕ) (is : List Item) → outstanding_bytes (item_records now is) ≡ item_bytes is
item_bytes_are now [] = refl
item_bytes_are now (i ∷ is) =
    let size : OutstandingData → ℕ = λ x. length x.payload in
    omega (arith, sum_by-cons size (item_record now i) (item_records now is), item_bytes_are now is)
