-- Whether a trace keeps the windows, and whether its requests are answered in time, computed; and a trace that does, in which two messages are delivered.
use Rattle.std.proofs.Common.{◌≡◌, ℕ, ◌+◌, ◌-◌, ◌^◌, ◌<◌, ◌&&◌, ◌||◌, Bool, true, false, Option, Some, None, List, [], ◌∷◌, length, slice_get, All, refl, ap, subst}
use Rattle.std.specs.Prelude.{nat_lt, nat_le}
use Rattle.std.proofs.lemmas.Bool.{and_parts, leb-true, ltb-true}
use Rattle.std.proofs.lemmas.List.Elements.{All-nil, All-cons}
use Rattle.rand_core.specs.Stream.{next_u32, next_u64}
use Rattle.sctp_wire.specs.Field.{be16, be32, be64}
use Rattle.sctp_wire.specs.Serialize.{padded_item, inner_items}
use Rattle.sctp_wire.specs.Parameter.{parameter_value}
use Rattle.sctp_wire.specs.Cause.{cause_value}
use Rattle.sctp_wire.specs.CauseText.{cause_text}
use Rattle.sctp_wire.specs.Show.{join_texts}
use Rattle.sctp_packet.specs.Written.{chunk_bytes, chunks_bytes, chunk_value, data_value, idata_value, init_fields, block_bytes, sack_value, skip_bytes, forward_value}
use Rattle.sctp_serial.specs.Unwrapped.{origin}
use Rattle.sctp_capabilities.specs.StateCookie.{cookie_bytes, capability_bytes, cookie_from, read_cookie}
use Rattle.sctp_tx_queue.specs.SendQueue.{Queue, stream}
use Rattle.sctp_tx_outstanding.specs.Item.{Item}
use Rattle.sctp_tx_outstanding.specs.OutstandingData.{next_number}
use Rattle.spec_endpoint.specs.Association.{Tcb, State, Closed, CookieWait, Open}
use Rattle.spec_endpoint.specs.Timers.{tick_timers}
use Rattle.proof_pair.specs.Trace.{Pair, EndAction, Calls, Gives, Refuses, goes, run, side_of, state_of}
use Rattle.proof_pair.specs.Opens.{at_first}
use Rattle.proof_pair.specs.Handing.{two_come}
use Rattle.proof_pair.proofs.HandedTraceLemmas.{one_handed}
use Rattle.proof_delivery.specs.Windows.{numbered_count, IsNearNext, KeepsWithin, IsWithin, AreWithin, queue_of, Stamp, numbered, Stamps, no_stamps, stamps_after, stamps_for, IsYoung, IsTimely, KeepsWindows}
use Rattle.proof_delivery.specs.Accepted.{accepted}
use Rattle.proof_delivery.specs.Answered.{NumberedBefore, none_asked, asked_after, AreAnswered, KeepsRequests, performed_in, KeepsResets}
use Rattle.proof_delivery.specs.Delivery.{plain, TwoAreDelivered}

-- ---- an end

unfoldable pub near_next : Queue → Item → Bool
near_next q i = i.fragment.is_unordered || nat_lt (stream i.fragment.stream_id q.streams).next_ordered_mid (origin + i.fragment.mid + 32000)

or_second : (a b : Bool) → (a || b) ≡ true → a ≡ false → b ≡ true
or_second true b h e = cc
or_second false b h e = h

unfoldable pub all_near : Queue → List Item → Bool
all_near q [] = true
all_near q (i ∷ is) = near_next q i && all_near q is

near_true : (q : Queue) (i : Item) → near_next q i ≡ true → IsNearNext q i
unfolding near_next
near_true q i h e =
    ltb-true (stream i.fragment.stream_id q.streams).next_ordered_mid (origin + i.fragment.mid + 32000)
    (or_second i.fragment.is_unordered (nat_lt (stream i.fragment.stream_id q.streams).next_ordered_mid (origin + i.fragment.mid + 32000)) h e)

all_near_true : (q : Queue) (is : List Item) → all_near q is ≡ true → All (IsNearNext q) is
unfolding all_near
all_near_true q [] h = All-nil (IsNearNext q)
all_near_true q (i ∷ is) h =
    let parts = and_parts (near_next q i) (all_near q is) h in
    All-cons (IsNearNext q) i is (near_true q i parts.0) (all_near_true q is parts.1)

unfoldable pub keeps_within : Queue → Tcb → Bool
keeps_within q t =
    nat_le (length t.sender.outstanding.items.kept) (2 ^ 30)
    && (all_near q t.sender.outstanding.items.kept && nat_lt (next_number t.sender.outstanding.items) (origin + 2 ^ 62))

within_true : (q : Queue) (t : Tcb) → keeps_within q t ≡ true → KeepsWithin q t
unfolding keeps_within
within_true q t h =
    let n : ℕ = next_number t.sender.outstanding.items in
    let first = and_parts (nat_le (length t.sender.outstanding.items.kept) (2 ^ 30)) (all_near q t.sender.outstanding.items.kept && nat_lt n (origin + 2 ^ 62)) h in
    let rest = and_parts (all_near q t.sender.outstanding.items.kept) (nat_lt n (origin + 2 ^ 62)) first.1 in
    record {
      items = leb-true (length t.sender.outstanding.items.kept) (2 ^ 30) first.0;
      messages = all_near_true q t.sender.outstanding.items.kept rest.0;
      fragments = ltb-true n (origin + 2 ^ 62) rest.1;
    }

unfoldable pub is_within : State → Queue → Bool
is_within Closed q = true
is_within (CookieWait tag first t1) q = true
is_within (Open phase t) q = keeps_within q t

is_within_true : (s : State) (q : Queue) → is_within s q ≡ true → IsWithin s q
unfolding is_within
is_within_true Closed q h = tt
is_within_true (CookieWait tag first t1) q h = tt
is_within_true (Open phase t) q h = within_true q t h

-- ---- packets, and traces

unfoldable pub is_young : (now old : Stamp) → Bool
is_young now old = nat_lt now.a (old.a + 2 ^ 31) && nat_lt now.b (old.b + 2 ^ 31)

young_true : (now old : Stamp) → is_young now old ≡ true → IsYoung now old
unfolding is_young
young_true now old h =
    let parts = and_parts (nat_lt now.a (old.a + 2 ^ 31)) (nat_lt now.b (old.b + 2 ^ 31)) h in
    record { a = ltb-true now.a (old.a + 2 ^ 31) parts.0; b = ltb-true now.b (old.b + 2 ^ 31) parts.1 }

unfoldable pub young_if : Stamp → Option Stamp → Bool
young_if now None = true
young_if now (Some old) = is_young now old

young_if_true : (now : Stamp) (o : Option Stamp) → young_if now o ≡ true → (old : Stamp) → o ≡ Some old → IsYoung now old
unfolding young_if
young_if_true now None h old e = cc
young_if_true now (Some p) h old e = subst (λ (z : Stamp). IsYoung now z) (ap (λ (o : Option Stamp). elim o [ None ↦ p | Some z ↦ z ]) e) (young_true now p h)

unfoldable pub is_timely : EndAction → Stamp → List Stamp → Bool
is_timely (Gives which checksum) now stamps = young_if now (slice_get stamps which)
is_timely (Calls call) now stamps = true
is_timely (Refuses p) now stamps = true

timely_true : (t : EndAction) (now : Stamp) (stamps : List Stamp) → is_timely t now stamps ≡ true → IsTimely t now stamps
unfolding is_timely
timely_true (Gives which checksum) now stamps h = young_if_true now (slice_get stamps which) h
timely_true (Calls call) now stamps h = tt
timely_true (Refuses p) now stamps h = tt

unfoldable pub both_within : Pair → Bool
both_within w = is_within (state_of w.a) (queue_of w.a) && is_within (state_of w.b) (queue_of w.b)

both_within_true : (w : Pair) → both_within w ≡ true → AreWithin w
unfolding both_within
both_within_true w h =
    let parts = and_parts (is_within (state_of w.a) (queue_of w.a)) (is_within (state_of w.b) (queue_of w.b)) h in
    record { a = is_within_true (state_of w.a) (queue_of w.a) parts.0; b = is_within_true (state_of w.b) (queue_of w.b) parts.1 }

unfoldable pub keeps_windows : List (Bool × EndAction) → Pair → Stamps → Bool
keeps_windows [] w s = both_within w
keeps_windows (e ∷ es) w s =
    both_within w && (is_timely e.1 (numbered w) (stamps_for e.0 s) && keeps_windows es (goes e.0 e.1 w) (stamps_after e.0 e.1 w s))

pub windows_kept : (es : List (Bool × EndAction)) (w : Pair) (s : Stamps) → keeps_windows es w s ≡ true → KeepsWindows es w s
unfolding keeps_windows
windows_kept [] w s h = both_within_true w h
windows_kept (e ∷ es) w s h =
    let first = and_parts (both_within w) (is_timely e.1 (numbered w) (stamps_for e.0 s) && keeps_windows es (goes e.0 e.1 w) (stamps_after e.0 e.1 w s)) h in
    let rest = and_parts (is_timely e.1 (numbered w) (stamps_for e.0 s)) (keeps_windows es (goes e.0 e.1 w) (stamps_after e.0 e.1 w s)) first.1 in
    (both_within_true w first.0, timely_true e.1 (numbered w) (stamps_for e.0 s) rest.0, windows_kept es (goes e.0 e.1 w) (stamps_after e.0 e.1 w s) rest.1)

-- ---- requests

-- few enough were numbered, whatever waits
abbrev pub is_few : State → ℕ → Bool
is_few s n = nat_lt (numbered_count s) (n + 2 ^ 31)

abbrev pub both_few : Pair → NumberedBefore → Bool
both_few w k = is_few (state_of w.a) k.a && is_few (state_of w.b) k.b

unfoldable pub keeps_requests : List (Bool × EndAction) → Pair → NumberedBefore → Bool
keeps_requests [] w k = both_few w k
keeps_requests (e ∷ es) w k = both_few w k && keeps_requests es (goes e.0 e.1 w) (asked_after e.0 e.1 w k)

few_answered : (w : Pair) (k : NumberedBefore) → both_few w k ≡ true → AreAnswered w k
few_answered w k h =
    let p = and_parts (is_few (state_of w.a) k.a) (is_few (state_of w.b) k.b) h in
    record { a = λ n e. ltb-true (numbered_count (state_of w.a)) (k.a + 2 ^ 31) p.0; b = λ n e. ltb-true (numbered_count (state_of w.b)) (k.b + 2 ^ 31) p.1 }

pub requests_kept : (es : List (Bool × EndAction)) (w : Pair) (k : NumberedBefore) → keeps_requests es w k ≡ true → KeepsRequests es w k
unfolding keeps_requests
requests_kept [] w k h = few_answered w k h
requests_kept (e ∷ es) w k h =
    let p = and_parts (both_few w k) (keeps_requests es (goes e.0 e.1 w) (asked_after e.0 e.1 w k)) h in
    (few_answered w k p.0, requests_kept es (goes e.0 e.1 w) (asked_after e.0 e.1 w k) p.1)

-- ---- the trace, computed

windows_are : keeps_windows two_come at_first no_stamps ≡ true
unfolding keeps_windows both_within is_within keeps_within all_near near_next is_timely young_if is_young next_u32 next_u64 be16 be32 be64 padded_item inner_items parameter_value cause_value cause_text join_texts chunk_bytes chunks_bytes chunk_value data_value idata_value init_fields block_bytes sack_value skip_bytes forward_value cookie_bytes capability_bytes cookie_from read_cookie tick_timers
windows_are = refl

few_accepted : (from_a : Bool) → length (accepted from_a two_come at_first) < 2 ^ 32
unfolding next_u32 next_u64 be16 be32 be64 padded_item inner_items parameter_value cause_value cause_text join_texts chunk_bytes chunks_bytes chunk_value data_value idata_value init_fields block_bytes sack_value skip_bytes forward_value cookie_bytes capability_bytes cookie_from read_cookie tick_timers
few_accepted true = ltb-true 2 (2 ^ 32) refl
few_accepted false = ltb-true 0 (2 ^ 32) refl

requests_are : keeps_requests two_come at_first none_asked ≡ true
unfolding keeps_requests next_u32 next_u64 be16 be32 be64 padded_item inner_items parameter_value cause_value cause_text join_texts chunk_bytes chunks_bytes chunk_value data_value idata_value init_fields block_bytes sack_value skip_bytes forward_value cookie_bytes capability_bytes cookie_from read_cookie tick_timers
requests_are = refl

few_performed : (x : Bool) → performed_in (side_of x (run two_come at_first)).emitted < 2 ^ 32 - 1
unfolding next_u32 next_u64 be16 be32 be64 padded_item inner_items parameter_value cause_value cause_text join_texts chunk_bytes chunks_bytes chunk_value data_value idata_value init_fields block_bytes sack_value skip_bytes forward_value cookie_bytes capability_bytes cookie_from read_cookie tick_timers
few_performed true = ltb-true 0 (2 ^ 32 - 1) refl
few_performed false = ltb-true 0 (2 ^ 32 - 1) refl

resets_kept : KeepsResets two_come at_first
resets_kept = record { answered = requests_kept two_come at_first none_asked requests_are; few = few_performed }

two_accepted : accepted true two_come at_first ≡ plain 97 ∷ plain 98 ∷ []
unfolding next_u32 next_u64 be16 be32 be64 padded_item inner_items parameter_value cause_value cause_text join_texts chunk_bytes chunks_bytes chunk_value data_value idata_value init_fields block_bytes sack_value skip_bytes forward_value cookie_bytes capability_bytes cookie_from read_cookie tick_timers
two_accepted = refl

pub two_delivered : TwoAreDelivered
two_delivered = record {
  follows = one_handed.follows;
  not_ended = one_handed.not_ended;
  bounds = record {
    windows = windows_kept two_come at_first no_stamps windows_are;
    resets = resets_kept;
    few = few_accepted;
    limits = refl;
  };
  accepts = two_accepted;
  readies = one_handed.readies;
}
