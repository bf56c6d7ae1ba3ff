-- What was written is found again: the messages of each stream in the record.
use Rattle.std.proofs.Common.{◌≡◌, ℕ, ◌<◌, ◌≤◌, Bool, true, false, cond, List, [], ◌∷◌, ◌++◌, Option, Some, None, refl, ap, ◌∙◌, arith}
use Rattle.std.specs.Prelude.{unwrap_or, option_map, map, filter, ◌==◌}
use Rattle.std.specs.List.Sorted.{IsStrictlySortedBy}
use Rattle.std.specs.Map.{keys_of}
use Rattle.std.specs.Ordering.{nat_cmp}
use Rattle.std.proofs.lemmas.List.{append-nil}
use Rattle.std.proofs.lemmas.List.Elements.{filter-append}
use Rattle.std.proofs.lemmas.Bool.{eq-eqb}
use Rattle.sctp_serial.specs.Unwrapped.{u32_space, halves, wire}
use Rattle.sctp_state.specs.Handover.{StreamMessage, Transmission}
use Rattle.sctp_state.specs.HandoverTimes.{lifecycle_from, moment_again, lifecycle_again}
use Rattle.sctp_tx_queue.specs.declared.send_queue.message.MessageNumbers.{MessageNumbers}
use Rattle.sctp_tx_queue.specs.SendQueue.{Queued, Stream, Entries, Queue}
use Rattle.sctp_tx_queue.specs.Handover.{queued_message, messages_of, outgoing_stream, outgoing_streams, queued_messages}
use Rattle.sctp_tx_queue.specs.Restored.{numbers_from, message_from, is_on, stream_from, entries_from}
use Rattle.sctp_tx_queue.specs.Again.{numbers_again, message_again, stream_again, entries_again, ComesBack}
use Rattle.sctp_serial.proofs.NumberLemmas.{is_less, greater_differs, less_differs}
use Rattle.sctp_state.proofs.HandoverLemmas.{expires_is, lifecycle_is}

-- ---- a message

numbers_is : (b : Bool) (o : Option MessageNumbers) → numbers_from (option_map (λ n. wire u32_space 0 n.mid) o) (cond b None (option_map (λ n. wire halves 0 n.ssn) o)) ≡ option_map (numbers_again b) o
numbers_is true None = refl
numbers_is false None = refl
numbers_is true (Some n) = refl
numbers_is false (Some n) = refl

message_is : (now id : ℕ) (m : Queued) → message_from now (queued_message now id m) ≡ message_again now m
message_is now id m =
    ap (λ x. with x (lifecycle_from (unwrap_or m.lifecycle 0)) (numbers_from (option_map (λ n. wire u32_space 0 n.mid) m.numbers) (cond m.is_unordered None (option_map (λ n. wire halves 0 n.ssn) m.numbers)))) (expires_is now m.expires)
    ∙ ap (λ x. with (option_map (moment_again now) m.expires) x (numbers_from (option_map (λ n. wire u32_space 0 n.mid) m.numbers) (cond m.is_unordered None (option_map (λ n. wire halves 0 n.ssn) m.numbers)))) (lifecycle_is m.lifecycle)
    ∙ ap (λ x. with (option_map (moment_again now) m.expires) (lifecycle_again m.lifecycle) x) (numbers_is m.is_unordered m.numbers)
  where
    with : Option ℕ → Option ℕ → Option MessageNumbers → Queued
    with expires lifecycle numbers = record m { expires = expires; lifecycle = lifecycle; numbers = numbers }

messages_are : (now id : ℕ) (ms : List Queued) → map (message_from now) (map (queued_message now id) ms) ≡ map (message_again now) ms
messages_are now id [] = refl
messages_are now id (m ∷ ms) = ap (λ x. x ∷ map (message_from now) (map (queued_message now id) ms)) (message_is now id m) ∙ ap (λ xs. message_again now m ∷ xs) (messages_are now id ms)

-- ---- the messages of a stream among those of all

all_on : (now id : ℕ) (ms : List Queued) → filter (is_on id) (map (queued_message now id) ms) ≡ map (queued_message now id) ms
all_on now id [] = refl
all_on now id (m ∷ ms) =
    let rest : List StreamMessage = filter (is_on id) (map (queued_message now id) ms) in
    ap (λ t. cond t (queued_message now id m ∷ rest) rest) (eq-eqb id id refl) ∙ ap (λ xs. queued_message now id m ∷ xs) (all_on now id ms)

none_on : (now k id : ℕ) (ms : List Queued) → (id == k) ≡ false → filter (is_on k) (map (queued_message now id) ms) ≡ []
none_on now k id [] e = refl
none_on now k id (m ∷ ms) e =
    let rest : List StreamMessage = filter (is_on k) (map (queued_message now id) ms) in
    ap (λ t. cond t (queued_message now id m ∷ rest) rest) e ∙ none_on now k id ms e

-- all ids are above this one
abbrev pub AreAbove : ℕ → Entries → Type 0
AreAbove k [] = Unit
AreAbove k (e ∷ es) = (k < e.0) × AreAbove k es

pub raised : (k m : ℕ) (es : Entries) → k ≤ m → AreAbove m es → AreAbove k es
raised k m [] l h = tt
raised k m (e ∷ es) l h = (omega (arith, l, h.0), raised k m es l h.1)

pub are_above : (k : ℕ) (es : Entries) → IsStrictlySortedBy nat_cmp (k ∷ keys_of es) → AreAbove k es
unfolding IsStrictlySortedBy
are_above k [] s = tt
are_above k (e ∷ es) s = (is_less k e.0 s.0.0, raised k e.0 es (omega (arith, is_less k e.0 s.0.0)) (are_above e.0 es s.1))

none_behind : (now k : ℕ) (es : Entries) → AreAbove k es → filter (is_on k) (queued_messages now es) ≡ []
none_behind now k [] h = refl
none_behind now k (e ∷ es) h =
    filter-append (is_on k) (messages_of now e.0 e.1) (queued_messages now es)
    ∙ ap (λ (xs : List StreamMessage). xs ++ filter (is_on k) (queued_messages now es)) (none_on now k e.0 e.1.messages (greater_differs k e.0 h.0))
    ∙ none_behind now k es h.1

-- these messages have the messages of each stream, in order
abbrev Holds : ℕ → List StreamMessage → Entries → Type 0
Holds now ms [] = Unit
Holds now ms (e ∷ es) = (filter (is_on e.0) ms ≡ messages_of now e.0 e.1) × Holds now ms es

more_before : (now k : ℕ) (s : Stream) (ms : List StreamMessage) (es : Entries) → AreAbove k es → Holds now ms es → Holds now (messages_of now k s ++ ms) es
more_before now k s ms [] above h = tt
more_before now k s ms (e ∷ es) above h = (
  filter-append (is_on e.0) (messages_of now k s) ms ∙ ap (λ (xs : List StreamMessage). xs ++ filter (is_on e.0) ms) (none_on now e.0 k s.messages (less_differs k e.0 above.0)) ∙ h.0,
  more_before now k s ms es above.1 h.1,
)

all_hold : (now : ℕ) (es : Entries) → IsStrictlySortedBy nat_cmp (keys_of es) → Holds now (queued_messages now es) es
unfolding IsStrictlySortedBy
all_hold now [] s = tt
all_hold now (e ∷ es) s =
    let above = are_above e.0 es s in
    let rest : List StreamMessage = queued_messages now es in
    let own : filter (is_on e.0) (messages_of now e.0 e.1 ++ rest) ≡ messages_of now e.0 e.1 =
    filter-append (is_on e.0) (messages_of now e.0 e.1) rest
    ∙ ap (λ (xs : List StreamMessage). xs ++ filter (is_on e.0) rest) (all_on now e.0 e.1.messages)
    ∙ ap (λ (xs : List StreamMessage). messages_of now e.0 e.1 ++ xs) (none_behind now e.0 es above)
    ∙ append-nil (messages_of now e.0 e.1) in
    (own, more_before now e.0 e.1 rest es above (all_hold now es s.1))

-- ---- the streams

stream_is : (now threshold id : ℕ) (s : Stream) (ms : List StreamMessage) → filter (is_on id) ms ≡ messages_of now id s → stream_from now threshold ms (outgoing_stream id s) ≡ stream_again now threshold s
stream_is now threshold id s ms h =
    ap (λ (xs : List Queued). let t : Stream = record (stream_again now threshold s) { messages = xs } in t)
    (ap (λ (xs : List StreamMessage). map (message_from now) xs) h ∙ messages_are now id s.messages)

entries_are : (now threshold : ℕ) (ms : List StreamMessage) (es : Entries) → Holds now ms es → entries_from now threshold ms (outgoing_streams es) ≡ entries_again now threshold es
entries_are now threshold ms [] h = refl
entries_are now threshold ms (e ∷ es) h =
    ap (λ (s : Stream). (e.0, s) ∷ entries_from now threshold ms (outgoing_streams es)) (stream_is now threshold e.0 e.1 ms h.0)
    ∙ ap (λ (xs : Entries). (e.0, stream_again now threshold e.1) ∷ xs) (entries_are now threshold ms es h.1)

pub comes_back : (now : ℕ) (is_interleaved : Bool) (tx : Transmission) (q r : Queue) → IsStrictlySortedBy nat_cmp (keys_of q.streams.entries) → ComesBack now is_interleaved tx q r
comes_back now is_interleaved tx q r sorted = record {
  streams = entries_are now r.streams.default_threshold (queued_messages now q.streams.entries) q.streams.entries (all_hold now q.streams.entries sorted);
  count = refl;
}
