-- Each change keeps streams bounded, and their bytes fit 64 bits.
use Rattle.std.proofs.Common.{◌≡◌, ℕ, ◌+◌, ◌-◌, ◌*◌, ◌<◌, ◌≤◌, ◌^◌, Bool, true, false, cond, Less, Equal, Greater, List, [], ◌∷◌, ◌++◌, length, sum_by, Some, refl, ap, sym, subst, ◌∙◌, arith}
use Rattle.std.specs.Prelude.{nat_lt, nat_le, ◌&&◌, ◌==◌, filter}
use Rattle.std.specs.List.{list_all}
use Rattle.std.specs.List.Sorted.{IsStrictlySortedBy}
use Rattle.std.specs.Map.{lookup, set_value, values_of, keys_of}
use Rattle.std.specs.Ordering.{nat_cmp, match_ordering}
use Rattle.std.specs.declared.cmp.Ordering.{Ordering}
use Rattle.std.specs.BTreeMap.{is_at, insert_entry}
use Rattle.std.proofs.lemmas.Bool.Decides.{nat_tests}
use Rattle.std.proofs.lemmas.Cmp.{nat_cmp_total}
use Rattle.std.proofs.lemmas.List.Sums.{sum_by-cons}
use Rattle.std.proofs.lemmas.Map.Entries.{sum_by-set_value, sum_by-insert_entry}
use Rattle.std.proofs.lemmas.Bool.{and_parts}
use Rattle.sctp_state.specs.declared.api.handover.HandoverOutgoingStream.{HandoverOutgoingStream}
use Rattle.sctp_tx_queue.specs.declared.send_queue.message.MessageNumbers.{MessageNumbers}
use Rattle.sctp_tx_queue.specs.declared.send_queue.stream.ResetStep.{ResetStep}
use Rattle.sctp_tx_queue.specs.declared.send_queue.stream.ResetStep.TheVariants.{Requested, Performed, Refused}
use Rattle.sctp_tx_queue.specs.declared.send_queue.stream.StreamChange.{StreamChange}
use Rattle.sctp_tx_queue.specs.declared.send_queue.stream.StreamChange.TheVariants.{Threshold, Priority, DropStale, Discard, Prepare, Step, Restart, Empty}
use Rattle.sctp_tx_queue.specs.SendQueue.{Queued, Stream, Entries, remaining_bytes, amount_of, total_of, blank_stream, push, has_nothing}
use Rattle.sctp_tx_queue.specs.Produced.{is_stale, fresh, without_stale, moved_front, move_past, ends, pause_if_pending}
use Rattle.sctp_tx_queue.specs.Settings.{without_front}
use Rattle.sctp_tx_queue.specs.Resets.{is_partly, after_step}
use Rattle.sctp_tx_queue.specs.Restored.{entries_from}
use Rattle.sctp_tx_queue.specs.Restarted.{whole_front, whole}
use Rattle.sctp_tx_queue.specs.Change.{changed}
use Rattle.sctp_tx_queue.specs.Bounded.{is_small, are_small, message_count, AreFew}
use Rattle.sctp_tx_queue.proofs.StreamsLemmas.{total_written, amount_at_most}

-- ---- what a change of a stream's messages keeps

pub record Keeps (ms ns : List Queued) : Type 0 where
  pub small : list_all is_small ms ≡ true → list_all is_small ns ≡ true
  pub fewer : length ns ≤ length ms

pub keeps_same : (ms : List Queued) → Keeps ms ms
keeps_same ms = record { small = λ h. h; fewer = omega arith }

pub keeps_none : (ms : List Queued) → Keeps ms []
keeps_none ms = record { small = λ h. refl; fewer = omega arith }

behind : (m : Queued) (rest : List Queued) → Keeps (m ∷ rest) rest
behind m rest = record { small = λ h. (and_parts (is_small m) (list_all is_small rest) h).1; fewer = omega arith }

-- a change behind the front
below : (m : Queued) (rest ns : List Queued) → Keeps rest ns → Keeps (m ∷ rest) ns
below m rest ns k = record { small = λ h. k.small (and_parts (is_small m) (list_all is_small rest) h).1; fewer = omega (arith, k.fewer) }

-- another front, as small as the old one
instead : (m n : Queued) (rest : List Queued) → (is_small m ≡ true → is_small n ≡ true) → Keeps (m ∷ rest) (n ∷ rest)
instead m n rest small =
    record {
      small = λ h. ap (λ b. b && list_all is_small rest) (small (and_parts (is_small m) (list_all is_small rest) h).0) ∙ (and_parts (is_small m) (list_all is_small rest) h).1;
      fewer = omega arith;
    }

pub keeps_fresh : (now : ℕ) (ms : List Queued) → Keeps ms (fresh now ms)
keeps_fresh now [] = keeps_same []
keeps_fresh now (m ∷ rest) = go (is_stale now m) (keeps_fresh now rest)
  where
    go : (b : Bool) → Keeps rest (fresh now rest) → Keeps (m ∷ rest) (cond b (fresh now rest) (m ∷ rest))
    go true ih = below m rest (fresh now rest) ih
    go false ih = keeps_same (m ∷ rest)

small_moved : (offset size whole : ℕ) → nat_le (whole - offset) size ≡ false → nat_lt offset whole && nat_lt whole (2 ^ 32) ≡ true → nat_lt (offset + size) whole && nat_lt whole (2 ^ 32) ≡ true
small_moved offset size whole e h = grind (arith, nat_tests)

pub keeps_moved : (size : ℕ) (n : MessageNumbers) (ms : List Queued) → Keeps ms (moved_front size n ms)
keeps_moved size n [] = keeps_same []
keeps_moved size n (m ∷ rest) = go (ends size m) refl
  where
    go : (b : Bool) → ends size m ≡ b → Keeps (m ∷ rest) (cond b rest (move_past size n m ∷ rest))
    go true e = behind m rest
    go false e = instead m (move_past size n m) rest (small_moved m.offset size (length m.payload) e)

pub keeps_partly : (ms : List Queued) → Keeps ms (filter is_partly ms)
keeps_partly [] = keeps_same []
keeps_partly (m ∷ rest) = go (is_partly m) (keeps_partly rest)
  where
    go : (b : Bool) → Keeps rest (filter is_partly rest) → Keeps (m ∷ rest) (cond b (m ∷ filter is_partly rest) (filter is_partly rest))
    go true ih =
        record {
          small = λ h. ap (λ b. b && list_all is_small (filter is_partly rest)) (and_parts (is_small m) (list_all is_small rest) h).0 ∙ ih.small (and_parts (is_small m) (list_all is_small rest) h).1;
          fewer = omega (arith, ih.fewer);
        }
    go false ih = below m rest (filter is_partly rest) ih

pub keeps_without : (number : ℕ) (ms : List Queued) (s : Stream) → s.messages ≡ ms → Keeps ms (without_front number ms s).messages
keeps_without number [] s e = subst (λ ns. Keeps [] ns) (sym e) (keeps_same [])
keeps_without number (m ∷ rest) s e = go (m.number == number)
  where
    go : (b : Bool) → Keeps (m ∷ rest) (cond b (record s { messages = rest; pause = pause_if_pending s.pause }) s).messages
    go true = behind m rest
    go false = subst (λ ns. Keeps (m ∷ rest) ns) (sym e) (keeps_same (m ∷ rest))

pub keeps_step : (step : ResetStep) (s : Stream) → Keeps s.messages (after_step step s).messages
keeps_step Requested s = keeps_same s.messages
keeps_step Performed s = keeps_same s.messages
keeps_step Refused s = keeps_same s.messages

small_whole : (offset whole : ℕ) → nat_lt offset whole && nat_lt whole (2 ^ 32) ≡ true → nat_lt 0 whole && nat_lt whole (2 ^ 32) ≡ true
small_whole offset whole h = grind (arith, nat_tests)

pub keeps_whole : (ms : List Queued) → Keeps ms (whole_front ms)
keeps_whole [] = keeps_same []
keeps_whole (m ∷ rest) = instead m (whole m) rest (small_whole m.offset (length m.payload))

small_of : (offset whole : ℕ) → offset < whole → whole < 2 ^ 32 → nat_lt offset whole && nat_lt whole (2 ^ 32) ≡ true
small_of offset whole l h = grind (arith, nat_tests)

pub small_one : (m : Queued) → 0 < remaining_bytes m → length m.payload < 2 ^ 32 → is_small m ≡ true
small_one m some h = small_of m.offset (length m.payload) (omega (arith, some)) h

pub small_pushed : (ms : List Queued) (m : Queued) → list_all is_small ms ≡ true → is_small m ≡ true → list_all is_small (ms ++ m ∷ []) ≡ true
small_pushed [] m h w = ap (λ b. b && true) w
small_pushed (x ∷ xs) m h w =
    let hs = and_parts (is_small x) (list_all is_small xs) h in
    ap (λ b. b && list_all is_small (xs ++ m ∷ [])) hs.0 ∙ small_pushed xs m hs.1 w

-- ---- the streams when one of them changes

pub small_found : (test : ℕ → Bool) (es : Entries) (v : Stream) → Some v ≡ lookup test es → list_all are_small (values_of es) ≡ true → are_small v ≡ true
small_found test [] v at h = absurd (cc)
small_found test (e ∷ es) v at h = go (test e.0) at (λ a. small_found test es v a hs.1)
  where
    hs : (are_small e.1 ≡ true) × (list_all are_small (values_of es) ≡ true)
    hs = and_parts (are_small e.1) (list_all are_small (values_of es)) h

    inside : (x : Stream) → Some v ≡ Some x → v ≡ x
    inside x i = cc

    go : (b : Bool) → Some v ≡ cond b (Some e.1) (lookup test es) → (Some v ≡ lookup test es → are_small v ≡ true) → are_small v ≡ true
    go true at ih = ap are_small (inside e.1 at) ∙ hs.0
    go false at ih = ih at

small_written : (test : ℕ → Bool) (es : Entries) (w : Stream) → list_all are_small (values_of es) ≡ true → are_small w ≡ true → list_all are_small (values_of (set_value test es w)) ≡ true
small_written test [] w h s = refl
small_written test (e ∷ es) w h s = go (test e.0) (small_written test es w hs.1 s)
  where
    hs : (are_small e.1 ≡ true) × (list_all are_small (values_of es) ≡ true)
    hs = and_parts (are_small e.1) (list_all are_small (values_of es)) h

    go : (b : Bool) → list_all are_small (values_of (set_value test es w)) ≡ true → list_all are_small (values_of (cond b ((e.0, w) ∷ es) (e ∷ set_value test es w))) ≡ true
    go true ih = ap (λ b. b && list_all are_small (values_of es)) s ∙ hs.1
    go false ih = ap (λ b. b && list_all are_small (values_of (set_value test es w))) hs.0 ∙ ih

small_inserted : (id : ℕ) (es : Entries) (w : Stream) → list_all are_small (values_of es) ≡ true → are_small w ≡ true → list_all are_small (values_of (insert_entry nat_cmp es id w)) ≡ true
small_inserted id [] w h s = ap (λ b. b && true) s
small_inserted id (e ∷ es) w h s = go (nat_cmp id e.0) (small_inserted id es w hs.1 s)
  where
    hs : (are_small e.1 ≡ true) × (list_all are_small (values_of es) ≡ true)
    hs = and_parts (are_small e.1) (list_all are_small (values_of es)) h

    go : (o : Ordering) → list_all are_small (values_of (insert_entry nat_cmp es id w)) ≡ true
        → list_all are_small (values_of (match_ordering o ((id, w) ∷ e ∷ es) ((e.0, w) ∷ es) (e ∷ insert_entry nat_cmp es id w))) ≡ true
    go Less ih = ap (λ b. b && (are_small e.1 && list_all are_small (values_of es))) s ∙ h
    go Equal ih = ap (λ b. b && list_all are_small (values_of es)) s ∙ hs.1
    go Greater ih = ap (λ b. b && list_all are_small (values_of (insert_entry nat_cmp es id w))) hs.0 ∙ ih

abbrev count_of : Entries → ℕ
count_of es = sum_by message_count (values_of es)

few_written : (id : ℕ) (es : Entries) (v w : Stream) → Some v ≡ lookup (is_at (nat_cmp id)) es → are_small w ≡ true → count_of es + length w.messages ≤ 2 ^ 32 + length v.messages → AreFew es
    → AreFew (set_value (is_at (nat_cmp id)) es w)
few_written id es v w at small most h = record {
  small = small_written (is_at (nat_cmp id)) es w h.small small;
  count = omega (arith, sum_by-set_value message_count (is_at (nat_cmp id)) es v w (sym at), most);
}

few_kept : (id : ℕ) (es : Entries) (v w : Stream) → Some v ≡ lookup (is_at (nat_cmp id)) es → Keeps v.messages w.messages → AreFew es → AreFew (set_value (is_at (nat_cmp id)) es w)
few_kept id es v w at keeps h = few_written id es v w at (keeps.small (small_found (is_at (nat_cmp id)) es v at h.small)) (omega (arith, keeps.fewer, h.count)) h

-- `w` is written, which the change made
pub few_changed : (id : ℕ) (es after : Entries) (v w changed : Stream) → Some v ≡ lookup (is_at (nat_cmp id)) es → after ≡ set_value (is_at (nat_cmp id)) es w → w ≡ changed → Keeps v.messages changed.messages → AreFew es → AreFew after
few_changed id es after v w changed at is_after is_w keeps h =
    subst (λ (x : Entries). AreFew x) (sym (is_after ∙ ap (λ (t : Stream). set_value (is_at (nat_cmp id)) es t) is_w)) (few_kept id es v changed at keeps h)

few_inserted : (id : ℕ) (es : Entries) (w : Stream) → IsStrictlySortedBy nat_cmp (keys_of es) → are_small w ≡ true → count_of es + length w.messages ≤ 2 ^ 32 → AreFew es → AreFew (insert_entry nat_cmp es id w)
few_inserted id es w sorted small most h = record {
  small = small_inserted id es w h.small small;
  count = omega (arith, sum_by-insert_entry message_count nat_cmp_total es id w sorted, most);
}

pub few_opened : (id : ℕ) (es after : Entries) (w : Stream) (priority threshold : ℕ) → IsStrictlySortedBy nat_cmp (keys_of es) → after ≡ insert_entry nat_cmp es id w → w ≡ blank_stream priority threshold → AreFew es → AreFew after
few_opened id es after w priority threshold sorted is_after is_w h =
    let s : Stream = blank_stream priority threshold in
    subst (λ (x : Entries). AreFew x) (sym (is_after ∙ ap (λ (t : Stream). insert_entry nat_cmp es id t) is_w)) (few_inserted id es s sorted refl (omega (arith, h.count)) h)

pub few_restored : (threshold : ℕ) (ss : List HandoverOutgoingStream) → AreFew (entries_from 0 threshold [] ss)
few_restored threshold ss = record { small = small ss; count = omega (arith, none ss) }
  where
    small : (ss : List HandoverOutgoingStream) → list_all are_small (values_of (entries_from 0 threshold [] ss)) ≡ true
    small [] = refl
    small (s ∷ ss) = small ss

    none : (ss : List HandoverOutgoingStream) → count_of (entries_from 0 threshold [] ss) ≡ 0
    none [] = refl
    none (s ∷ ss) = none ss

-- ---- messages and bytes

pub left_between : (offset whole : ℕ) → nat_lt offset whole && nat_lt whole (2 ^ 32) ≡ true → (0 < whole - offset) × (whole - offset ≤ 4294967295)
left_between offset whole h = (some offset whole h, most offset whole h)
  where
    some : (offset whole : ℕ) → nat_lt offset whole && nat_lt whole (2 ^ 32) ≡ true → 0 < whole - offset
    some offset whole h = grind (arith, nat_tests)

    most : (offset whole : ℕ) → nat_lt offset whole && nat_lt whole (2 ^ 32) ≡ true → whole - offset ≤ 4294967295
    most offset whole h = grind (arith, nat_tests)

-- each message has at least one byte, and less than 2^32
abbrev IsBetween : ℕ → ℕ → Type 0
IsBetween count amount = (count ≤ amount) × (amount ≤ 4294967295 * count)

stream_between : (ms : List Queued) → list_all is_small ms ≡ true → IsBetween (length ms) (sum_by remaining_bytes ms)
stream_between [] h = (omega arith, omega arith)
stream_between (m ∷ rest) h =
    let hs = and_parts (is_small m) (list_all is_small rest) h in
    let ih = stream_between rest hs.1 in
    let own = left_between m.offset (length m.payload) hs.0 in
    let sums = sum_by-cons remaining_bytes m rest in
    (omega (arith, ih.0, own.0, sums), omega (arith, ih.1, own.1, sums))

all_between : (xs : List Stream) → list_all are_small xs ≡ true → IsBetween (sum_by message_count xs) (sum_by amount_of xs)
all_between [] h = (omega arith, omega arith)
all_between (s ∷ rest) h =
    let hs = and_parts (are_small s) (list_all are_small rest) h in
    let ih = all_between rest hs.1 in
    let own = stream_between s.messages hs.0 in
    let amounts = sum_by-cons amount_of s rest in
    let counts = sum_by-cons message_count s rest in
    (omega (arith, ih.0, own.0, amounts, counts), omega (arith, ih.1, own.1, amounts, counts))

-- there are no more messages than bytes
pub count_at_most : (es : Entries) → AreFew es → count_of es ≤ total_of es
count_at_most es h = (all_between (values_of es) h.small).0

-- no bytes are left where no message is, and nowhere else
none_of : (bytes count others : ℕ) → count ≤ bytes → bytes ≤ 4294967295 * count → (bytes + others == 0) ≡ (count == 0) && (others == 0)
none_of bytes count others least most = grind (arith, nat_tests)

all_empty : (xs : List Stream) → list_all are_small xs ≡ true → (sum_by amount_of xs == 0) ≡ list_all has_nothing xs
all_empty [] h = refl
all_empty (s ∷ rest) h =
    let hs = and_parts (are_small s) (list_all are_small rest) h in
    let own = stream_between s.messages hs.0 in
    ap (λ n. n == 0) (sum_by-cons amount_of s rest) ∙ none_of (amount_of s) (length s.messages) (sum_by amount_of rest) own.0 own.1 ∙ ap (λ b. has_nothing s && b) (all_empty rest hs.1)

pub total_nothing : (es : Entries) → AreFew es → (total_of es == 0) ≡ list_all has_nothing (values_of es)
total_nothing es h = all_empty (values_of es) h.small

-- where a stream's stale messages have all of its bytes, no other is there
pub last_stale : (now id bytes : ℕ) (es : Entries) (s : Stream) → Some s ≡ lookup (is_at (nat_cmp id)) es → AreFew es → bytes + amount_of (without_stale now s) ≡ amount_of s → (bytes == amount_of s) ≡ has_nothing (without_stale now s)
last_stale now id bytes es s at h whole = go bytes (amount_of (without_stale now s)) (amount_of s) (length (fresh now s.messages)) whole own.0 own.1
  where
    own : IsBetween (length (fresh now s.messages)) (sum_by remaining_bytes (fresh now s.messages))
    own = stream_between (fresh now s.messages) ((keeps_fresh now s.messages).small (small_found (is_at (nat_cmp id)) es s at h.small))

    go : (bytes left all count : ℕ) → bytes + left ≡ all → count ≤ left → left ≤ 4294967295 * count → (bytes == all) ≡ (count == 0)
    go bytes left all count whole least most = grind (arith, nat_tests)

-- the bytes fit
pub total_fits : (es : Entries) → AreFew es → total_of es < 2 ^ 64
total_fits es h = omega (arith, (all_between (values_of es) h.small).1, h.count)

-- ---- a message more

pub few_pushed : (id : ℕ) (es after : Entries) (v w : Stream) (m : Queued) → Some v ≡ lookup (is_at (nat_cmp id)) es → after ≡ set_value (is_at (nat_cmp id)) es w → w ≡ push m v → is_small m ≡ true → total_of es < 2 ^ 32 → AreFew es → AreFew after
few_pushed id es after v w m at is_after is_w small room h =
    subst (λ (x : Entries). AreFew x) (sym (is_after ∙ ap (λ (t : Stream). set_value (is_at (nat_cmp id)) es t) is_w))
    (few_written id es v (push m v) at (small_pushed v.messages m (small_found (is_at (nat_cmp id)) es v at h.small) small) (omega (arith, one_more v.messages, count_at_most es h, room)) h)
  where
    one_more : (ms : List Queued) → length (ms ++ m ∷ []) ≡ length ms + 1
    one_more [] = refl
    one_more (x ∷ xs) = omega (arith, one_more xs)

pub few_first : (id : ℕ) (es after : Entries) (w s : Stream) (m : Queued) → IsStrictlySortedBy nat_cmp (keys_of es) → after ≡ insert_entry nat_cmp es id w → w ≡ push m s → s.messages ≡ [] → is_small m ≡ true → total_of es < 2 ^ 32 → AreFew es → AreFew after
few_first id es after w s m sorted is_after is_w none small room h =
    let messages : w.messages ≡ m ∷ [] = ap (λ (t : Stream). t.messages) is_w ∙ ap (λ ms. ms ++ m ∷ []) none in
    subst (λ (x : Entries). AreFew x) (sym is_after)
    (few_inserted id es w sorted (ap (list_all is_small) messages ∙ ap (λ b. b && true) small) (omega (arith, ap length messages, count_at_most es h, room)) h)

-- ---- a change of one stream

pub keeps_changed : (change : StreamChange) (s : Stream) → Keeps s.messages (changed change s).messages
keeps_changed (Threshold bytes) s = keeps_same s.messages
keeps_changed (Priority priority) s = keeps_same s.messages
keeps_changed (DropStale now) s = keeps_fresh now s.messages
keeps_changed (Discard message_id) s = keeps_without message_id.0 s.messages s refl
keeps_changed Prepare s = keeps_partly s.messages
keeps_changed (Step step) s = keeps_step step s
keeps_changed Restart s = keeps_whole s.messages
keeps_changed Empty s = keeps_none s.messages

pub changed_fits : (id : ℕ) (change : StreamChange) (es : Entries) (v : Stream) → Some v ≡ lookup (is_at (nat_cmp id)) es → AreFew es → total_of (set_value (is_at (nat_cmp id)) es (changed change v)) < 2 ^ 64
changed_fits id change es v at h = total_fits (set_value (is_at (nat_cmp id)) es (changed change v)) (few_kept id es v (changed change v) at (keeps_changed change v) h)

pub changed_amount : (id : ℕ) (change : StreamChange) (es : Entries) (v : Stream) → Some v ≡ lookup (is_at (nat_cmp id)) es → AreFew es → amount_of (changed change v) < 2 ^ 64
changed_amount id change es v at h = omega (arith, total_written id es v (changed change v) at, amount_at_most id es v at, changed_fits id change es v at h)
