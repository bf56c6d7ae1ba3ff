-- What was seen stays fit to be reported in a SACK, and the receiver's window stays in its field.
use Rattle.std.proofs.Common.{◌≡◌, ℕ, zero, suc, ◌+◌, ◌-◌, ◌*◌, ◌/◌, ◌^◌, ◌<◌, ◌≤◌, max, not, Bool, true, false, cond, List, [], ◌∷◌, length, take, map, refl, ap, ◌∙◌, arith, ◌&&◌}
use Rattle.std.specs.Prelude.{All, nat_lt, nat_le, ◌==◌, filter}
use Rattle.std.proofs.lemmas.List.Elements.{All-cons, All-nil}
use Rattle.sctp_serial.specs.declared.api.StreamId.{StreamId}
use Rattle.sctp_serial.specs.SerialNumber.{serial_difference}
use Rattle.sctp_serial.specs.Unwrapped.{origin, u32_space}
use Rattle.sctp_chunk.specs.declared.forward_tsn.SkippedStream.{SkippedStream}
use Rattle.sctp_packet.specs.Chunk.{FragmentTree}
use Rattle.sctp_packet.specs.Grammar.{Each, FitsBlock, FitsTsn, FitsSack}
use Rattle.sctp_state.specs.Options.{Options}
use Rattle.sctp_state.specs.Handover.{Receive}
use Rattle.sctp_rx.specs.Seen.{Run, AreRuns, contains, with_number, absorb_runs}
use Rattle.sctp_rx.specs.DataTracker.{Tracker, DataTracker, tracker, update_rto, take_ack, force_ack, packet_end, ack_timeout, insert_number, with_duplicate, has_seen, observe, forward}
use Rattle.sctp_rx.specs.TrackerHandover.{restore}
use Rattle.sctp_rx.specs.Sack.{block, is_near, blocks_of, tsns, sack, clear_duplicates}
use Rattle.sctp_rx.specs.ReassemblyQueue.{Reassembly, Waiting, Added, Forwarded, watermark, queued_bytes, number_of, came, is_kept_back, point_waits, keep_back, add_now, forward_now, add_or_keep_back, forward_or_wait, apply, apply_each, waiting_in, wait_with, resetting}
use Rattle.sctp_rx.specs.ReassemblyStreams.{is_far, entries_in}
use Rattle.sctp_rx.specs.ReassemblyQueue as reassembly
use Rattle.sctp_rx.proofs.SeenOneFormLemmas.{IsInRuns_add, IsInRuns_up_to}
use Rattle.proof_endpoint.specs.Sound.{FitsTracker}
use Rattle.proof_endpoint.proofs.ReceivedLemmas.{each_take}
use Rattle.proof_endpoint.proofs.SoundItemsLemmas.{word_small}

-- ---- the tracker

pub tracker_fits : (o : Options) → FitsTracker (tracker o origin)
tracker_fits o = record { front = omega arith; runs = tt; duplicates = omega arith }

pub rto_fits : (rto : ℕ) (t : Tracker) → FitsTracker t → FitsTracker (update_rto rto t)
rto_fits rto t h = record { front = h.front; runs = h.runs; duplicates = h.duplicates }

pub ack_fits : (b : Bool) (t : Tracker) → FitsTracker t → FitsTracker (take_ack b t)
ack_fits b t h = record { front = h.front; runs = h.runs; duplicates = h.duplicates }

pub forced_fits : (t : Tracker) → FitsTracker t → FitsTracker (force_ack t)
forced_fits t h = record { front = h.front; runs = h.runs; duplicates = h.duplicates }

pub end_fits : (now : ℕ) (t : Tracker) → FitsTracker t → FitsTracker (packet_end now t)
end_fits now t h = record { front = h.front; runs = h.runs; duplicates = h.duplicates }

pub timeout_fits : (now : ℕ) (t : Tracker) → FitsTracker t → FitsTracker (ack_timeout now t)
timeout_fits now t h = record { front = h.front; runs = h.runs; duplicates = h.duplicates }

pub reported_fits : (t : Tracker) → FitsTracker t → FitsTracker (clear_duplicates t)
reported_fits t h = record { front = h.front; runs = h.runs; duplicates = omega arith }

settle_low : (front : ℕ) (rs : List Run) → front ≤ (absorb_runs front rs).front
settle_low front [] = omega arith
settle_low front (r ∷ rs) = go (nat_le r.first (suc front)) (settle_low (max front r.last) rs)
  where
    go : (b : Bool) → max front r.last ≤ (absorb_runs (max front r.last) rs).front
        → front ≤ (cond b (absorb_runs (max front r.last) rs) (record { front = front; runs = r ∷ rs })).front
    go true h = omega (arith, h)
    go false h = omega arith

inserted_length : (n : ℕ) (ms : List ℕ) → length (insert_number n ms) ≤ 1 + length ms
inserted_length n [] = omega arith
inserted_length n (m ∷ ms) = go (nat_lt m n) (n == m) (inserted_length n ms)
  where
    go : (a b : Bool) → length (insert_number n ms) ≤ 1 + length ms
        → length (cond a (m ∷ insert_number n ms) (cond b (m ∷ ms) (n ∷ m ∷ ms))) ≤ 1 + length (m ∷ ms)
    go true b h = omega (arith, h)
    go false true h = omega arith
    go false false h = omega arith

duplicate_few : (n : ℕ) (ms : List ℕ) → length ms ≤ 20 → length (with_duplicate n ms) ≤ 20
duplicate_few n ms h = go (nat_lt (length ms) 20) refl
  where
    below : nat_lt (length ms) 20 ≡ true → length ms < 20
    below e = grind (arith)

    go : (b : Bool) → nat_lt (length ms) 20 ≡ b → length (cond b (insert_number n ms) ms) ≤ 20
    go true e = omega (arith, inserted_length n ms, below e)
    go false e = h

kept_few : (b : Bool) (n : ℕ) (ms : List ℕ) → length ms ≤ 20 → length (cond b ms (with_duplicate n ms)) ≤ 20
kept_few true n ms h = h
kept_few false n ms h = duplicate_few n ms h

pub observe_fits : (n : ℕ) (b : Bool) (t : Tracker) → FitsTracker t → FitsTracker (observe n b t)
observe_fits n b t h = record {
  front = omega (arith, h.front, settle_low t.seen.front (cond (contains t.seen n) t.seen.runs (with_number n t.seen.runs)));
  runs = IsInRuns_add n t.seen h.runs h.front;
  duplicates = kept_few (not (has_seen t n)) n t.duplicates h.duplicates;
}

pub forward_fits : (n : ℕ) (t : Tracker) → FitsTracker t → FitsTracker (forward n t)
forward_fits n t h = record {
  front = omega (arith, h.front, settle_low (max n t.seen.front) t.seen.runs);
  runs = IsInRuns_up_to n t.seen h.runs;
  duplicates = h.duplicates;
}

front_some : (first tsn : ℕ) → 0 < origin + serial_difference u32_space tsn first - 1
front_some first tsn = omega arith

pub restored_fits : (r : Receive) (d : DataTracker) → FitsTracker d.tracker → FitsTracker (restore r d).tracker
restored_fits r d h = record { front = front_some d.first _; runs = tt; duplicates = h.duplicates }

-- ---- a SACK

abbrev IsProper : Run → Type 0
IsProper r = r.first ≤ r.last

are_proper : (below : ℕ) (rs : List Run) → AreRuns below rs → Each IsProper rs
are_proper below [] h = tt
are_proper below (r ∷ rs) h = (h.1, are_proper r.last rs h.2)

near_by : (front n : ℕ) → nat_le (n - front) 65535 ≡ true → n - front ≤ 65535
near_by front n h = grind (arith)

blocks_fit : (front : ℕ) (rs : List Run) → Each IsProper rs → All FitsBlock (blocks_of front rs)
blocks_fit front [] h = All-nil FitsBlock
blocks_fit front (r ∷ rs) h = go (is_near front r) refl (blocks_fit front rs h.1)
  where
    go : (b : Bool) → is_near front r ≡ b → All FitsBlock (blocks_of front rs) → All FitsBlock (map (block front) (cond b (r ∷ filter (is_near front) rs) (filter (is_near front) rs)))
    go true e rest =
        let near : r.last - front ≤ 65535 = near_by front r.last e in
        let start : r.first - front < 2 ^ 16 = omega (arith, near, h.0) in
        let end : r.last - front < 2 ^ 16 = omega (arith, near) in
        All-cons FitsBlock (block front r) (blocks_of front rs) (start, end) rest
    go false e rest = rest

blocks_few : (front : ℕ) (rs : List Run) → length (blocks_of front rs) ≤ length rs
blocks_few front [] = omega arith
blocks_few front (r ∷ rs) = go (is_near front r) (blocks_few front rs)
  where
    go : (b : Bool) → length (blocks_of front rs) ≤ length rs → length (map (block front) (cond b (r ∷ filter (is_near front) rs) (filter (is_near front) rs))) ≤ length (r ∷ rs)
    go true h = omega (arith, h)
    go false h = omega (arith, h)

take_few : {X : Type 0} (n : ℕ) (xs : List X) → length (take n xs) ≤ n
take_few zero xs = omega arith
take_few (suc n) [] = omega arith
take_few (suc n) (x ∷ xs) = omega (arith, take_few n xs)

tsns_fit : (first : ℕ) (ns : List ℕ) → All FitsTsn (tsns first ns)
tsns_fit first [] = All-nil FitsTsn
tsns_fit first (n ∷ ns) = All-cons FitsTsn _ (tsns first ns) (word_small first n) (tsns_fit first ns)

length_tsns : (first : ℕ) (ns : List ℕ) → length (tsns first ns) ≡ length ns
length_tsns first [] = refl
length_tsns first (n ∷ ns) = ap suc (length_tsns first ns)

pub sack_fits : (a_rwnd : ℕ) (d : DataTracker) → a_rwnd < 2 ^ 32 → FitsTracker d.tracker → FitsSack (sack a_rwnd d)
sack_fits a_rwnd d w h =
    let rs : List Run = take 20 d.tracker.seen.runs in
    let proper : Each IsProper rs = each_take IsProper 20 d.tracker.seen.runs (are_proper d.tracker.seen.front d.tracker.seen.runs h.runs) in
    record {
      cumulative_tsn_ack = word_small d.first d.tracker.seen.front;
      a_rwnd = w;
      few_blocks = omega (arith, blocks_few d.tracker.seen.front rs, take_few 20 d.tracker.seen.runs);
      few_duplicates = omega (arith, length_tsns d.first d.tracker.duplicates, h.duplicates);
      blocks = blocks_fit d.tracker.seen.front rs proper;
      duplicates = tsns_fit d.first d.tracker.duplicates;
    }

-- ---- the window

pub window_small : (r : Reassembly) → r.max_size < 2 ^ 32 → watermark r - queued_bytes r < 2 ^ 32
window_small r h = go r.max_size (queued_bytes r) h
  where
    go : (n q : ℕ) → n < 2 ^ 32 → n * 9 / 10 - q < 2 ^ 32
    go n q k = omega (arith, k)

same_if : (b : Bool) (x y : Reassembly) (m : ℕ) → x.max_size ≡ m → y.max_size ≡ m → (cond b x y).max_size ≡ m
same_if true x y m h k = h
same_if false x y m h k = k

pub size_added : (tsn : ℕ) (f : FragmentTree) (r : Reassembly) → (reassembly.add tsn f r).max_size ≡ r.max_size
size_added tsn f r =
    let n : ℕ = number_of r tsn in
    same_if (is_far n) r (add_or_keep_back n f (came tsn r)) r.max_size refl
    (same_if (is_kept_back n f.stream_id (came tsn r).deferred) (keep_back (Added n f) (came tsn r)) (add_now n f (came tsn r)) r.max_size refl refl)

pub size_forwarded : (tsn : ℕ) (es : List SkippedStream) (r : Reassembly) → (reassembly.forward tsn es r).max_size ≡ r.max_size
size_forwarded tsn es r =
    let n : ℕ = number_of r tsn in
    let ids : List StreamId = resetting r.deferred in
    let named : List SkippedStream = entries_in true ids es in
    let part : Reassembly = forward_now n (entries_in false ids es) (came tsn r) in
    same_if (is_far n) r (forward_or_wait n es (came tsn r)) r.max_size refl
    (same_if (point_waits n r.deferred) (wait_with n named part) (forward_now n es (came tsn r)) r.max_size
    (same_if ((length named == 0) && (length (waiting_in r.deferred) == 0)) part (keep_back (Forwarded n named) part) r.max_size refl refl) refl)

size_applied : (w : Waiting) (r : Reassembly) → (apply w r).max_size ≡ r.max_size
size_applied (Added n f) r = refl
size_applied (Forwarded n es) r = refl

size_each : (ws : List Waiting) (r : Reassembly) → (apply_each ws r).max_size ≡ r.max_size
size_each [] r = refl
size_each (w ∷ ws) r = size_each ws (apply w r) ∙ size_applied w r

pub size_reset : (ids : List StreamId) (r : Reassembly) → (reassembly.reset ids r).max_size ≡ r.max_size
size_reset ids r = size_each (waiting_in r.deferred) _
