-- A record's streams are put in one after the other, and then its messages.
use Rattle.std.proofs.Common.{◌≡◌, ℕ, suc, ◌+◌, ◌<◌, ◌≤◌, ◌^◌, Bool, true, false, cond, Greater, List, [], ◌∷◌, ◌++◌, length, take, drop, get_or, Option, Some, None, refl, ap, sym, ◌∙◌, arith, add-one, append_assoc, drop-cons}
use Rattle.std.specs.Prelude.{is_some, unwrap_or, map, filter, ◌==◌, ◌&&◌, ◌||◌, nat_lt, nat_le}
use Rattle.std.specs.Ordering.{nat_cmp, match_ordering}
use Rattle.std.specs.Map.{lookup, set_value}
use Rattle.std.specs.BTreeMap.{is_at, insert_entry}
use Rattle.std.proofs.lemmas.Bool.{lt-ltb, and_parts, leb-true}
use Rattle.std.proofs.lemmas.Bool.Decides.{nat_tests}
use Rattle.std.proofs.lemmas.List.{append-nil, map-append}
use Rattle.std.proofs.lemmas.List.Elements.{filter-append}
use Rattle.std.proofs.lemmas.List.Sums.{sum_by-cons, sum_by-append}
use Rattle.std.proofs.Math.Seq.{take-suc}
use Rattle.sctp_state.specs.declared.api.handover.HandoverOutgoingStream.{HandoverOutgoingStream}
use Rattle.sctp_state.specs.declared.api.handover.HandoverStreamMessage.{HandoverStreamMessage}
use Rattle.sctp_state.specs.Handover.{HandoverState, StreamMessage, stream_message_of}
use Rattle.sctp_state.specs.Validity.{rises_from, outgoing_ids, has_stream, is_valid_message, are_valid_messages, queued_bytes, is_valid_reception, has_valid_queue, has_valid_items, payload_fits, outstanding_bytes, is_valid_connection, is_valid_as, is_valid_state}
use Rattle.sctp_state.specs.Numbers.{most_u32}
use Rattle.sctp_state.specs.declared.api.handover.HandoverSocketState.TheVariants.{Connected}
use Rattle.sctp_stream_scheduler.specs.StreamScheduler.{Scheduler, set_bytes_remaining}
use Rattle.sctp_tx_queue.specs.SendQueue.{Queued, Stream, Streams, Entries, amount_of, total_of, remaining_bytes, blank, stream, put_stream, with_stream, push, sendable}
use Rattle.sctp_tx_queue.specs.Restored.{message_from, is_on, messages_from, stream_from, entries_from, each_scheduled}
use Rattle.sctp_tx_queue.proofs.StreamsLemmas.{total_written, stream_there}
use Rattle.sctp_serial.proofs.NumberLemmas.{equal_turned}

-- ---- the streams

abbrev pub each_inserted : ℕ → List HandoverOutgoingStream → Entries → Entries
each_inserted threshold [] es = es
each_inserted threshold (s ∷ ss) es = each_inserted threshold ss (insert_entry nat_cmp es s.id (stream_from 0 threshold [] s))

abbrev are_below : ℕ → Entries → Bool
are_below m [] = true
are_below m (e ∷ es) = nat_lt e.0 m && are_below m es

above : (m k : ℕ) → nat_lt k m ≡ true → nat_cmp m k ≡ Greater
above m k e = grind (arith, nat_tests)

wider : (a k m : ℕ) → k ≤ m → nat_lt a k ≡ true → nat_lt a m ≡ true
wider a k m l e = grind (arith, nat_tests)

behind : (id : ℕ) (v : Stream) (es : Entries) → are_below id es ≡ true → insert_entry nat_cmp es id v ≡ es ++ (id, v) ∷ []
behind id v [] h = refl
behind id v (e ∷ es) h = go (nat_lt e.0 id) refl h (behind id v es)
  where
    go : (b : Bool) → nat_lt e.0 id ≡ b → b && are_below id es ≡ true → (are_below id es ≡ true → insert_entry nat_cmp es id v ≡ es ++ (id, v) ∷ [])
        → match_ordering (nat_cmp id e.0) ((id, v) ∷ e ∷ es) ((e.0, v) ∷ es) (e ∷ insert_entry nat_cmp es id v) ≡ e ∷ (es ++ (id, v) ∷ [])
    go true l h ih = ap (λ o. match_ordering o ((id, v) ∷ e ∷ es) ((e.0, v) ∷ es) (e ∷ insert_entry nat_cmp es id v)) (above id e.0 l) ∙ ap (λ xs. e ∷ xs) (ih h)
    go false l h ih = absurd (cc)

lower : (k m : ℕ) (es : Entries) → k ≤ m → are_below k es ≡ true → are_below m es ≡ true
lower k m [] l h = refl
lower k m (e ∷ es) l h =
    let hs = and_parts (nat_lt e.0 k) (are_below k es) h in
    ap (λ b. b && are_below m es) (wider e.0 k m l hs.0) ∙ lower k m es l hs.1

more_below : (k m : ℕ) (v : Stream) (es : Entries) → k ≤ m → are_below k es ≡ true → are_below (m + 1) (es ++ (m, v) ∷ []) ≡ true
more_below k m v [] l h = ap (λ b. b && true) (lt-ltb m (m + 1) (omega arith))
more_below k m v (e ∷ es) l h =
    let hs = and_parts (nat_lt e.0 k) (are_below k es) h in
    ap (λ b. b && are_below (m + 1) (es ++ (m, v) ∷ [])) (wider e.0 k (m + 1) (omega (arith, l)) hs.0) ∙ more_below k m v es l hs.1

inserted_behind : (threshold least : ℕ) (ss : List HandoverOutgoingStream) (es : Entries) → are_below least es ≡ true → rises_from least (outgoing_ids ss) ≡ true
    → each_inserted threshold ss es ≡ es ++ entries_from 0 threshold [] ss
inserted_behind threshold least [] es below h = sym (append-nil es)
inserted_behind threshold least (s ∷ ss) es below h =
    let hs = and_parts (nat_le least s.id) (rises_from (s.id + 1) (outgoing_ids ss)) h in
    let v : Stream = stream_from 0 threshold [] s in
    let l = leb-true least s.id hs.0 in
    ap (λ x. each_inserted threshold ss x) (behind s.id v es (lower least s.id es l below))
    ∙ inserted_behind threshold (s.id + 1) ss (es ++ (s.id, v) ∷ []) (more_below least s.id v es l below) hs.1
    ∙ append_assoc es ((s.id, v) ∷ []) (entries_from 0 threshold [] ss)

pub inserted : (threshold : ℕ) (ss : List HandoverOutgoingStream) → rises_from 0 (outgoing_ids ss) ≡ true → each_inserted threshold ss [] ≡ entries_from 0 threshold [] ss
inserted threshold ss h = inserted_behind threshold 0 ss [] refl h

pub no_bytes : (threshold : ℕ) (ss : List HandoverOutgoingStream) → total_of (entries_from 0 threshold [] ss) ≡ 0
no_bytes threshold [] = refl
no_bytes threshold (s ∷ ss) = no_bytes threshold ss

-- ---- a message behind the others of its stream

messages_more : (now id : ℕ) (done : List StreamMessage) (m : StreamMessage) (b : Bool) → is_on id m ≡ b → messages_from now id (done ++ m ∷ []) ≡ messages_from now id done ++ cond b (message_from now m ∷ []) []
messages_more now id done m b e =
    ap (λ (ms : List StreamMessage). map (message_from now) ms) (filter-append (is_on id) done (m ∷ []))
    ∙ map-append (message_from now) (filter (is_on id) done) (filter (is_on id) (m ∷ []))
    ∙ ap (λ t. messages_from now id done ++ map (message_from now) (cond t (m ∷ []) [])) e
    ∙ last b
  where
    last : (b : Bool) → messages_from now id done ++ map (message_from now) (cond b (m ∷ []) []) ≡ messages_from now id done ++ cond b (message_from now m ∷ []) []
    last true = refl
    last false = refl

with_messages : (now threshold : ℕ) (s : HandoverOutgoingStream) (xs ys : List Queued) → xs ≡ ys
    → (let t : Stream = record (stream_from now threshold [] s) { messages = xs } in t) ≡ record (stream_from now threshold [] s) { messages = ys }
with_messages now threshold s xs ys e = ap (λ (ms : List Queued). let t : Stream = record (stream_from now threshold [] s) { messages = ms } in t) e

unchanged : (now threshold : ℕ) (done : List StreamMessage) (m : StreamMessage) (s : HandoverOutgoingStream) → is_on s.id m ≡ false → stream_from now threshold (done ++ m ∷ []) s ≡ stream_from now threshold done s
unchanged now threshold done m s e = with_messages now threshold s _ _ (messages_more now s.id done m false e ∙ append-nil (messages_from now s.id done))

grown : (now threshold : ℕ) (done : List StreamMessage) (m : StreamMessage) (s : HandoverOutgoingStream) → is_on s.id m ≡ true → stream_from now threshold (done ++ m ∷ []) s ≡ push (message_from now m) (stream_from now threshold done s)
grown now threshold done m s e = with_messages now threshold s _ _ (messages_more now s.id done m true e)

not_on : (a b least : ℕ) → a < least → nat_le least b ≡ true → (a == b) ≡ false
not_on a b least l e = grind (arith, nat_tests)

others : (now threshold least : ℕ) (done : List StreamMessage) (m : StreamMessage) (ss : List HandoverOutgoingStream) → m.stream_id < least → rises_from least (outgoing_ids ss) ≡ true
    → entries_from now threshold (done ++ m ∷ []) ss ≡ entries_from now threshold done ss
others now threshold least done m [] l h = refl
others now threshold least done m (s ∷ ss) l h =
    let hs = and_parts (nat_le least s.id) (rises_from (s.id + 1) (outgoing_ids ss)) h in
    ap (λ (t : Stream). (s.id, t) ∷ entries_from now threshold (done ++ m ∷ []) ss) (unchanged now threshold done m s (not_on m.stream_id s.id least l hs.0))
    ∙ ap (λ (es : Entries). (s.id, stream_from now threshold done s) ∷ es) (others now threshold (s.id + 1) done m ss (omega (arith, l, leb-true least s.id hs.0)) hs.1)

at_it : (a b : ℕ) → (a == b) ≡ true → is_at (nat_cmp b) a ≡ true
at_it a b e = grind (arith, nat_tests)

off_it : (a b : ℕ) → (a == b) ≡ false → is_at (nat_cmp b) a ≡ false
off_it a b e = grind (arith, nat_tests)

is_below : (a b : ℕ) → (a == b) ≡ true → b < a + 1
is_below a b e = grind (arith, nat_tests)

pub found : (now threshold id : ℕ) (done : List StreamMessage) (ss : List HandoverOutgoingStream) → has_stream ss id ≡ true → is_some (lookup (is_at (nat_cmp id)) (entries_from now threshold done ss)) ≡ true
found now threshold id done [] h = absurd (cc)
found now threshold id done (s ∷ ss) h = go (s.id == id) refl h (found now threshold id done ss)
  where
    rest : Option Stream
    rest = lookup (is_at (nat_cmp id)) (entries_from now threshold done ss)

    go : (b : Bool) → (s.id == id) ≡ b → b || has_stream ss id ≡ true → (has_stream ss id ≡ true → is_some rest ≡ true) → is_some (cond (is_at (nat_cmp id) s.id) (Some (stream_from now threshold done s)) rest) ≡ true
    go true e h ih = ap (λ t. is_some (cond t (Some (stream_from now threshold done s)) rest)) (at_it s.id id e)
    go false e h ih = ap (λ t. is_some (cond t (Some (stream_from now threshold done s)) rest)) (off_it s.id id e) ∙ ih h

written : (now threshold least : ℕ) (done : List StreamMessage) (m : StreamMessage) (none : Stream) (ss : List HandoverOutgoingStream) → rises_from least (outgoing_ids ss) ≡ true → has_stream ss m.stream_id ≡ true
    → set_value (is_at (nat_cmp m.stream_id)) (entries_from now threshold done ss) (push (message_from now m) (unwrap_or (lookup (is_at (nat_cmp m.stream_id)) (entries_from now threshold done ss)) none))
    ≡ entries_from now threshold (done ++ m ∷ []) ss
written now threshold least done m none [] h there = absurd (cc)
written now threshold least done m none (s ∷ ss) h there =
    go (s.id == m.stream_id) refl there (written now threshold (s.id + 1) done m none ss (and_parts (nat_le least s.id) (rises_from (s.id + 1) (outgoing_ids ss)) h).1)
  where
    test : ℕ → Bool
    test = is_at (nat_cmp m.stream_id)

    rest : Entries
    rest = entries_from now threshold done ss

    after : Entries
    after = entries_from now threshold (done ++ m ∷ []) ss

    here : Stream
    here = stream_from now threshold done s

    put_by : Bool → Entries
    put_by t =
        let w : Stream = push (message_from now m) (unwrap_or (cond t (Some here) (lookup test rest)) none) in
        cond t ((s.id, w) ∷ rest) ((s.id, here) ∷ set_value test rest w)

    go : (b : Bool) → (s.id == m.stream_id) ≡ b → b || has_stream ss m.stream_id ≡ true
        → (has_stream ss m.stream_id ≡ true → set_value test rest (push (message_from now m) (unwrap_or (lookup test rest) none)) ≡ after)
        → put_by (test s.id) ≡ (s.id, stream_from now threshold (done ++ m ∷ []) s) ∷ after
    go true e there ih =
        ap put_by (at_it s.id m.stream_id e)
        ∙ ap (λ (t : Stream). (s.id, t) ∷ rest) (sym (grown now threshold done m s (equal_turned s.id m.stream_id true e)))
        ∙ ap (λ (es : Entries). (s.id, stream_from now threshold (done ++ m ∷ []) s) ∷ es)
        (sym (others now threshold (s.id + 1) done m ss (is_below s.id m.stream_id e) (and_parts (nat_le least s.id) (rises_from (s.id + 1) (outgoing_ids ss)) h).1))
    go false e there ih =
        ap put_by (off_it s.id m.stream_id e)
        ∙ ap (λ (es : Entries). (s.id, here) ∷ es) (ih there)
        ∙ ap (λ (t : Stream). (s.id, t) ∷ after) (sym (unchanged now threshold done m s (equal_turned s.id m.stream_id false e)))

opened_there : (id : ℕ) (ss : Streams) → is_some (lookup (is_at (nat_cmp id)) ss.entries) ≡ true → with_stream id ss ≡ ss
opened_there id ss there = ap (λ (b : Bool). let r : Streams = record ss { entries = insert_entry nat_cmp ss.entries id (blank ss) } in cond b ss r) there

-- the streams with these messages
abbrev pub holding : ℕ → List HandoverOutgoingStream → List StreamMessage → Streams → Streams
holding now recs ms ss = record ss { entries = entries_from now ss.default_threshold ms recs }

pub message_put : (now : ℕ) (first ss after : Streams) (recs : List HandoverOutgoingStream) (done : List StreamMessage) (m : StreamMessage) (q : Queued)
    → rises_from 0 (outgoing_ids recs) ≡ true → has_stream recs m.stream_id ≡ true → ss ≡ holding now recs done first → q ≡ message_from now m
    → after ≡ put_stream m.stream_id (push q (stream m.stream_id ss)) (with_stream m.stream_id ss) → after ≡ holding now recs (done ++ m ∷ []) first
message_put now first ss after recs done m q rises there is_ss is_q is_after =
    is_after ∙ ap (λ (x : Queued). put_stream id (push x (stream id ss)) (with_stream id ss)) is_q ∙ ap (λ (x : Streams). put_stream id (push (message_from now m) (stream id x)) (with_stream id x)) is_ss
    ∙ ap (λ (x : Streams). put_stream id (push (message_from now m) (stream id (holding now recs done first))) x) (opened_there id (holding now recs done first) (found now first.default_threshold id done recs there))
    ∙ ap (λ (es : Entries). let r : Streams = record first { entries = es } in r) (written now first.default_threshold 0 done m (blank first) recs rises there)
  where
    id : ℕ
    id = m.stream_id

total_pushed : (id : ℕ) (m : Queued) (ss : Streams) → is_some (lookup (is_at (nat_cmp id)) ss.entries) ≡ true → total_of (put_stream id (push m (stream id ss)) ss).entries ≡ total_of ss.entries + remaining_bytes m
total_pushed id m ss there = go (lookup (is_at (nat_cmp id)) ss.entries) refl there
  where
    go : (o : Option Stream) → lookup (is_at (nat_cmp id)) ss.entries ≡ o → is_some o ≡ true → total_of (put_stream id (push m (stream id ss)) ss).entries ≡ total_of ss.entries + remaining_bytes m
    go None e h = absurd (cc)
    go (Some s) e h =
        omega (
          arith,
          total_written id ss.entries s (push m (stream id ss)) (sym e),
          ap amount_of (stream_there id s ss (sym e)),
          sum_by-append remaining_bytes (stream id ss).messages (m ∷ []),
          sum_by-cons remaining_bytes m [],
        )

pub total_put : (now : ℕ) (first ss after : Streams) (recs : List HandoverOutgoingStream) (done : List StreamMessage) (id : ℕ) (q : Queued)
    → has_stream recs id ≡ true → ss ≡ holding now recs done first → after ≡ put_stream id (push q (stream id ss)) (with_stream id ss) → total_of after.entries ≡ total_of ss.entries + remaining_bytes q
total_put now first ss after recs done id q there is_ss is_after =
    let at : is_some (lookup (is_at (nat_cmp id)) ss.entries) ≡ true = ap (λ (x : Streams). is_some (lookup (is_at (nat_cmp id)) x.entries)) is_ss ∙ found now first.default_threshold id done recs there in
    ap (λ (x : Streams). total_of x.entries) (is_after ∙ ap (λ (x : Streams). put_stream id (push q (stream id ss)) x) (opened_there id ss at)) ∙ total_pushed id q ss at

-- ---- messages in turn

pub done_more : (ms : List HandoverStreamMessage) (i : ℕ) (m : HandoverStreamMessage) → i < length ms → m ≡ get_or ms i m → map stream_message_of (take i ms) ++ stream_message_of m ∷ [] ≡ map stream_message_of (take (i + 1) ms)
done_more ms i m l at =
    ap (λ x. map stream_message_of (take i ms) ++ stream_message_of x ∷ []) at
    ∙ sym (
    ap (λ k. map stream_message_of (take k ms)) (add-one i) ∙ ap (λ (xs : List HandoverStreamMessage). map stream_message_of xs) (take-suc ms i m l)
    ∙ map-append stream_message_of (take i ms) (get_or ms i m ∷ [])
    )

pub rest_is : (ms : List HandoverStreamMessage) (i : ℕ) (m : HandoverStreamMessage) → i < length ms → m ≡ get_or ms i m → map stream_message_of (drop i ms) ≡ stream_message_of m ∷ map stream_message_of (drop (i + 1) ms)
rest_is ms i m l at =
    ap (λ (xs : List HandoverStreamMessage). map stream_message_of xs) (drop-cons ms i m l)
    ∙ ap (λ x. stream_message_of x ∷ map stream_message_of (drop (suc i) ms)) (sym at)
    ∙ ap (λ k. stream_message_of m ∷ map stream_message_of (drop k ms)) (sym (add-one i))

-- the first message of what is left, and those behind it
pub record IsNext (recs : List HandoverOutgoingStream) (ms : List HandoverStreamMessage) (i : ℕ) (m : HandoverStreamMessage) : Type 0 where
  pub there : has_stream recs m.stream_id ≡ true
  pub behind : are_valid_messages recs (2 ^ 32) (map stream_message_of (drop (i + 1) ms)) ≡ true
  pub bytes : queued_bytes (map stream_message_of (drop i ms)) ≡ length m.payload.items + queued_bytes (map stream_message_of (drop (i + 1) ms))

pub next_is : (recs : List HandoverOutgoingStream) (ms : List HandoverStreamMessage) (i : ℕ) (m : HandoverStreamMessage) → i < length ms → m ≡ get_or ms i m
    → are_valid_messages recs (2 ^ 32) (map stream_message_of (drop i ms)) ≡ true → IsNext recs ms i m
next_is recs ms i m l at h = record { there = (and_parts (has_stream recs m.stream_id) (nat_lt m.message_id (2 ^ 32)) own.1).0; behind = all.1; bytes = sums }
  where
    left_over : List StreamMessage
    left_over = map stream_message_of (drop (i + 1) ms)

    all : (is_valid_message recs (2 ^ 32) (stream_message_of m) ≡ true) × (are_valid_messages recs (2 ^ 32) left_over ≡ true)
    all = and_parts _ _ (ap (λ (xs : List StreamMessage). are_valid_messages recs (2 ^ 32) xs) (sym (rest_is ms i m l at)) ∙ h)

    own : (nat_lt m.remaining_offset (length m.payload.items) ≡ true) × (has_stream recs m.stream_id && nat_lt m.message_id (2 ^ 32) ≡ true)
    own = and_parts _ _ all.0

    sums : queued_bytes (map stream_message_of (drop i ms)) ≡ length m.payload.items + queued_bytes left_over
    sums = ap (λ (xs : List StreamMessage). queued_bytes xs) (rest_is ms i m l at) ∙ sum_by-cons (λ (x : StreamMessage). length x.payload) (stream_message_of m) left_over

-- ---- streams in turn

pub inserted_next : (threshold i : ℕ) (recs : List HandoverOutgoingStream) (none : HandoverOutgoingStream) (es after : Entries) (s : Stream) → i < length recs → s ≡ stream_from 0 threshold [] (get_or recs i none)
    → after ≡ insert_entry nat_cmp es (get_or recs i none).id s → each_inserted threshold (drop (i + 1) recs) after ≡ each_inserted threshold (drop i recs) es
inserted_next threshold i recs none es after s l is_s is_after =
    ap (λ k. each_inserted threshold (drop k recs) after) (add-one i) ∙ ap (λ (x : Entries). each_inserted threshold (drop (suc i) recs) x) is_after
    ∙ ap (λ (x : Stream). each_inserted threshold (drop (suc i) recs) (insert_entry nat_cmp es (get_or recs i none).id x)) is_s
    ∙ sym (ap (λ (xs : List HandoverOutgoingStream). each_inserted threshold xs es) (drop-cons recs i none l))

pub scheduled_next : (i bytes priority : ℕ) (recs : List HandoverOutgoingStream) (none : HandoverOutgoingStream) (ss : Streams) (sch after : Scheduler) → i < length recs
    → bytes ≡ sendable (stream (get_or recs i none).id ss) → priority ≡ (stream (get_or recs i none).id ss).priority → after ≡ set_bytes_remaining (get_or recs i none).id bytes priority sch
    → each_scheduled (outgoing_ids (drop (i + 1) recs)) ss after ≡ each_scheduled (outgoing_ids (drop i recs)) ss sch
scheduled_next i bytes priority recs none ss sch after l is_bytes is_priority is_after =
    ap (λ k. each_scheduled (outgoing_ids (drop k recs)) ss after) (add-one i) ∙ ap (λ (x : Scheduler). each_scheduled (outgoing_ids (drop (suc i) recs)) ss x) is_after
    ∙ ap (λ b. each_scheduled (outgoing_ids (drop (suc i) recs)) ss (set_bytes_remaining (get_or recs i none).id b priority sch)) is_bytes
    ∙ ap (λ p. each_scheduled (outgoing_ids (drop (suc i) recs)) ss (set_bytes_remaining (get_or recs i none).id (sendable (stream (get_or recs i none).id ss)) p sch)) is_priority
    ∙ sym (ap (λ (xs : List HandoverOutgoingStream). each_scheduled (outgoing_ids xs) ss sch) (drop-cons recs i none l))

-- ---- a valid record's messages have numbers of 32 bits

wide : (n next : ℕ) → next ≤ 2 ^ 32 → nat_lt n next ≡ true → nat_lt n (2 ^ 32) ≡ true
wide n next l e = grind (arith, nat_tests)

wider_messages : (recs : List HandoverOutgoingStream) (next : ℕ) (ms : List StreamMessage) → next ≤ 2 ^ 32 → are_valid_messages recs next ms ≡ true → are_valid_messages recs (2 ^ 32) ms ≡ true
wider_messages recs next [] l h = refl
wider_messages recs next (m ∷ ms) l h =
    let all = and_parts (is_valid_message recs next m) (are_valid_messages recs next ms) h in
    let own = and_parts (nat_lt m.remaining_offset (length m.payload)) (has_stream recs m.stream_id && nat_lt m.message_id next) all.0 in
    let named = and_parts (has_stream recs m.stream_id) (nat_lt m.message_id next) own.1 in
    ap (λ b. (b && (has_stream recs m.stream_id && nat_lt m.message_id (2 ^ 32))) && are_valid_messages recs (2 ^ 32) ms) own.0
    ∙ ap (λ b. (b && nat_lt m.message_id (2 ^ 32)) && are_valid_messages recs (2 ^ 32) ms) named.0
    ∙ ap (λ b. b && are_valid_messages recs (2 ^ 32) ms) (wide m.message_id next l named.1)
    ∙ wider_messages recs next ms l all.1

at_most : (n : ℕ) → nat_le n (2 ^ 32) ≡ true → n ≤ 2 ^ 32
at_most n e = grind (arith, nat_tests)

-- what a valid record is known to have
pub record IsConnection (s : HandoverState) : Type 0 where
  pub rises : rises_from 0 (outgoing_ids s.tx.streams) ≡ true
  pub messages : are_valid_messages s.tx.streams (2 ^ 32) s.tx.queued_messages ≡ true
  pub bytes : queued_bytes s.tx.queued_messages < 2 ^ 32

few_bytes : (n m : ℕ) → nat_le (n + m) most_u32 ≡ true → n < 2 ^ 32
few_bytes n m e = grind (arith, nat_tests)

pub connection : (s : HandoverState) → s.socket_state ≡ Connected → is_valid_state s ≡ true → IsConnection s
connection s connected valid =
    let h : is_valid_connection s ≡ true = ap (λ x. is_valid_as x s) (sym connected) ∙ valid in
    let a = and_parts (nat_lt 0 s.my_verification_tag) _ h in
    let b = and_parts (nat_lt 0 s.peer_verification_tag) _ a.1 in
    let c = and_parts (is_valid_reception s.capabilities.message_interleaving s.rx) _ b.1 in
    let d = and_parts (nat_lt 0 s.tx.cwnd) _ c.1 in
    let e = and_parts (rises_from 0 (outgoing_ids s.tx.streams)) _ d.1 in
    let f = and_parts (has_valid_queue s.capabilities.message_interleaving s.tx) _ e.1 in
    let g = and_parts (nat_le s.tx.next_outgoing_message_id (2 ^ 32)) _ f.0 in
    let k = and_parts (are_valid_messages s.tx.streams s.tx.next_outgoing_message_id s.tx.queued_messages) _ g.1 in
    let n = and_parts (has_valid_items s.tx) (payload_fits s.tx) f.1 in
    record {
      rises = e.0;
      messages = wider_messages s.tx.streams s.tx.next_outgoing_message_id s.tx.queued_messages (at_most s.tx.next_outgoing_message_id g.0) k.0;
      bytes = few_bytes (queued_bytes s.tx.queued_messages) (outstanding_bytes s.tx.outstanding_data) n.1;
    }
