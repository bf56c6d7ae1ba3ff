-- Streams that a restart leaves as they are, and what a reset goes over.
use Rattle.std.proofs.Common.{◌≡◌, ℕ, zero, suc, ◌+◌, ◌<◌, ◌==◌, Bool, true, false, cond, List, [], ◌∷◌, Option, Some, None, length, take, get_or, refl, ap, sym, subst, ◌∙◌, arith, add-one}
use Rattle.std.specs.Prelude.{map, filter, not, is_some, ◌&&◌, ◌||◌}
use Rattle.std.specs.Map.{lookup, remove_entry, keys_of}
use Rattle.std.specs.Ordering.{nat_cmp}
use Rattle.std.specs.BTreeMap.{is_at}
use Rattle.std.proofs.lemmas.Bool.{eqb-true, and_parts}
use Rattle.std.proofs.lemmas.Bool.Decides.{nat_tests}
use Rattle.std.proofs.lemmas.Map.{keys-set_value}
use Rattle.sctp_serial.specs.declared.api.StreamId.{StreamId}
use Rattle.sctp_serial.proofs.NumberLemmas.{at_itself, at_equal, equal_at}
use Rattle.sctp_stream_scheduler.specs.StreamScheduler.{Times, Scheduler, finish_time, is_active, finish_now, leave, enter, accept, accepted_at, set_bytes_remaining}
use Rattle.sctp_tx_queue.specs.SendQueue.{Queue, Queued, Stream, Streams, stream, put_stream, sendable, set_sendable, has_nothing, front_left}
use Rattle.sctp_state.specs.Events.{Emitted}
use Rattle.sctp_tx_queue.specs.Interrupted.{Same}
use Rattle.sctp_tx_queue.specs.Produced.{Produced, in_line, begun_by, pause_if_pending}
use Rattle.sctp_tx_queue.specs.Settings.{begun_without, front_discarded, without_front, streams_discarded, discard_from, discard}
use Rattle.sctp_tx_queue.specs.Restarted.{whole_front, is_front_unbegun, restart, restarted_one, each_restarted, is_restarted, is_in_line, is_begun, is_kept, is_settled_as, is_settled, is_among, may_differ, ResetKeeps, AreSettled, Joins, JoinsAll, OthersRest, after_reset, unbegun, reset, SomeRestarted}
use Rattle.sctp_tx_queue.proofs.CommonLemmas.{there_among}
use Rattle.sctp_tx_queue.proofs.RestartLemmas.{restart_same, line_same}
use Rattle.sctp_tx_queue.proofs.StaysBegunLemmas.{written_elsewhere, inserted_elsewhere}
use Rattle.sctp_tx_queue.proofs.StreamsLemmas.{put_nowhere, put_same, stream_there, changed_there, changed_nowhere}

-- ---- those that may have changed

pub kept_by : (log : Option (List ℕ)) (q : Queue) → ResetKeeps log q → (k : ℕ) → may_differ log k ≡ false → is_settled k q ≡ true
kept_by None q h k e = absurd (cc)
kept_by (Some ids) q h k e = h k e

pub keeps_by : (log : Option (List ℕ)) (q : Queue) → ((k : ℕ) → may_differ log k ≡ false → is_settled k q ≡ true) → ResetKeeps log q
keeps_by None q h = tt
keeps_by (Some ids) q h = h

-- ---- a stream beside one that changes

removed_elsewhere : (k id : ℕ) (ts : Times) → (k == id) ≡ false → finish_time k (remove_entry (is_at (nat_cmp id)) ts) ≡ finish_time k ts
removed_elsewhere k id [] d = refl
removed_elsewhere k id (e ∷ es) d = go (is_at (nat_cmp id) e.0) refl (removed_elsewhere k id es d)
  where
    elsewhere : is_at (nat_cmp id) e.0 ≡ true → is_at (nat_cmp k) e.0 ≡ false
    elsewhere h = grind (arith, nat_tests)

    go : (b : Bool) → is_at (nat_cmp id) e.0 ≡ b → finish_time k (remove_entry (is_at (nat_cmp id)) es) ≡ finish_time k es
        → finish_time k (cond b es (e ∷ remove_entry (is_at (nat_cmp id)) es)) ≡ cond (is_at (nat_cmp k) e.0) (Some e.1) (finish_time k es)
    go true h ih = sym (ap (λ t. cond t (Some e.1) (finish_time k es)) (elsewhere h))
    go false h ih = ap (λ o. cond (is_at (nat_cmp k) e.0) (Some e.1) o) ih

-- what is active beside it, put in line beside it, and begun beside it
pub record IsBeside (k id : ℕ) (q r : Queue) : Type 0 where
  pub streams : lookup (is_at (nat_cmp k)) r.streams.entries ≡ lookup (is_at (nat_cmp k)) q.streams.entries
  pub active : is_active k r.scheduler ≡ is_active k q.scheduler
  pub begun : is_begun k q.begun ≡ false → is_begun k r.begun ≡ false

-- settled by its parts
parts : (b c : Bool) → (not b && c) ≡ true → (b ≡ false) × (c ≡ true)
parts true c h = absurd (cc)
parts false c h = (refl, h)

whole : (b c : Bool) → b ≡ false → c ≡ true → (not b && c) ≡ true
whole b c none h = ap (λ x. not x && c) none ∙ h

line_by : (k : ℕ) (o : Option Stream) (s t : Scheduler) → is_active k t ≡ is_active k s → is_settled_as k o t ≡ is_settled_as k o s
line_by k None s t e = refl
line_by k (Some v) s t e = ap (λ a. is_restarted v && cond (sendable v == 0) (not a) a) e

pub settled_beside : (k id : ℕ) (q r : Queue) → IsBeside k id q r → is_settled k q ≡ true → is_settled k r ≡ true
settled_beside k id q r beside h =
    let p = parts (is_begun k q.begun) (is_settled_as k (lookup (is_at (nat_cmp k)) q.streams.entries) q.scheduler) h in
    whole (is_begun k r.begun) (is_settled_as k (lookup (is_at (nat_cmp k)) r.streams.entries) r.scheduler) (beside.begun p.0)
    (ap (λ o. is_settled_as k o r.scheduler) beside.streams ∙ line_by k (lookup (is_at (nat_cmp k)) q.streams.entries) q.scheduler r.scheduler beside.active ∙ p.1)

pub keeps_beside : (id : ℕ) (log after : Option (List ℕ)) (q r : Queue) → ResetKeeps log q → Joins true id log after → ((k : ℕ) → (k == id) ≡ false → IsBeside k id q r) → ResetKeeps after r
keeps_beside id log after q r h joins beside =
    keeps_by after r (λ k e.
    let j = joins k e in
    settled_beside k id q r (beside k j.1) (kept_by log q h k j.0))

-- the same queue
pub keeps_joined : (b : Bool) (id : ℕ) (log after : Option (List ℕ)) (q r : Queue) → r ≡ q → ResetKeeps log q → Joins b id log after → ResetKeeps after r
keeps_joined b id log after q r same h joins = subst (λ x. ResetKeeps after x) (sym same) (keeps_by after q (λ k e. kept_by log q h k (joins k e).0))

-- ---- schedulers

left_beside : (k id : ℕ) (s : Scheduler) → (k == id) ≡ false → is_active k (leave id s) ≡ is_active k s
left_beside k id s d = ap is_some (removed_elsewhere k id s.times d)

entered_beside : (k id finish : ℕ) (s : Scheduler) → (k == id) ≡ false → is_active k (enter id finish s) ≡ is_active k s
entered_beside k id finish s d = ap is_some (inserted_elsewhere k id finish s.times d)

pub set_beside : (k id bytes priority : ℕ) (s : Scheduler) → (k == id) ≡ false → is_active k (set_bytes_remaining id bytes priority s) ≡ is_active k s
set_beside k id bytes priority s d = go (bytes == 0) (is_active id s)
  where
    go : (a b : Bool) → is_active k (cond a (leave id s) (cond b s (enter id (finish_now bytes priority s) s))) ≡ is_active k s
    go true b = left_beside k id s d
    go false true = refl
    go false false = entered_beside k id (finish_now bytes priority s) s d

accepted_beside : (k id : ℕ) (s : Scheduler) → (k == id) ≡ false → is_active k (accept id s) ≡ is_active k s
accepted_beside k id s d = go (finish_time id s.times)
  where
    go : (o : Option ℕ) → is_active k (accepted_at id o s) ≡ is_active k s
    go None = refl
    go (Some f) = left_beside k id s d

pub line_beside : (k id bytes priority : ℕ) (made : Option Produced) (s : Scheduler) → (k == id) ≡ false → is_active k (in_line id bytes priority made s) ≡ is_active k s
line_beside k id bytes priority None s d = set_beside k id 0 0 s d
line_beside k id bytes priority (Some made) s d = set_beside k id bytes priority (accept id s) d ∙ accepted_beside k id s d

-- ---- begun messages

pub without_beside : (k id : ℕ) (o : Option ℕ) → is_begun k o ≡ false → is_begun k (begun_without id o) ≡ false
without_beside k id None h = refl
without_beside k id (Some b) h = go (b == id)
  where
    go : (t : Bool) → is_begun k (cond t None (Some b)) ≡ false
    go true = refl
    go false = h

pub begun_beside : (k id : ℕ) (is_interleaved : Bool) (made : Option Produced) → (k == id) ≡ false → is_begun k (begun_by id is_interleaved made) ≡ false
begun_beside k id is_interleaved None d = refl
begun_beside k id is_interleaved (Some made) d = go made.fragment.is_end is_interleaved
  where
    turned : (id == k) ≡ false
    turned = grind (arith, nat_tests)

    go : (a b : Bool) → is_begun k (cond a None (cond b None (Some id))) ≡ false
    go true b = refl
    go false true = refl
    go false false = turned

-- ---- one stream restarts

pub restarted_beside : (k id : ℕ) (q : Queue) → (k == id) ≡ false → IsBeside k id q (restarted_one id q)
restarted_beside k id q d =
    let ss : Streams = put_stream id (restart (stream id q.streams)) q.streams in
    record {
      streams = written_elsewhere k id (restart (stream id q.streams)) q.streams.entries d;
      active = set_beside k id (sendable (stream id ss)) (stream id ss).priority q.scheduler d;
      begun = λ h. without_beside k id q.begun h;
    }

pub put_back : (id : ℕ) (ss : Streams) → put_stream id (stream id ss) ss ≡ ss
put_back id ss = go (lookup (is_at (nat_cmp id)) ss.entries) refl
  where
    go : (o : Option Stream) → lookup (is_at (nat_cmp id)) ss.entries ≡ o → put_stream id (stream id ss) ss ≡ ss
    go None e = put_nowhere id (stream id ss) ss (sym e)
    go (Some s) e = put_same id (stream id ss) ss (ap (λ t. Some t) (stream_there id s ss (sym e)) ∙ sym e)

-- a message that isn't the first of its stream
none_dropped : (number : ℕ) (ms : List Queued) (s : Stream) → None ≡ front_discarded number ms → without_front number ms s ≡ s
none_dropped number [] s h = refl
none_dropped number (m ∷ rest) s h = go (m.number == number) h
  where
    go : (b : Bool) → None ≡ cond b (Some m.lifecycle) None → cond b (record s { messages = rest; pause = pause_if_pending s.pause }) s ≡ s
    go true h = absurd (cc)
    go false h = refl

pub discard_none : {P : Type 0} (id number : ℕ) (q : Queue) (emitted : Emitted P) → None ≡ front_discarded number (stream id q.streams).messages → Same q emitted (discard id number q emitted).queue (discard id number q emitted).emitted
discard_none {P} id number q emitted h = record {
  queue = ap (λ o. (discard_from id (streams_discarded id number q.streams) o q emitted).queue) (sym h) ∙ ap (λ (ss : Streams). let r : Queue = record q { streams = ss } in r) streams;
  events = ap (λ o. (discard_from id (streams_discarded id number q.streams) o q emitted).emitted) (sym h);
}
  where
    streams : streams_discarded id number q.streams ≡ q.streams
    streams = ap (λ t. put_stream id t q.streams) (none_dropped number (stream id q.streams).messages (stream id q.streams) h) ∙ put_back id q.streams

none_left : (id : ℕ) (o : Option ℕ) → is_begun id o ≡ false → begun_without id o ≡ o
none_left id None h = refl
none_left id (Some b) h = ap (λ t. cond t None (Some b)) h

one_more : (k : ℕ) (ids : List StreamId) (i : ℕ) (none : StreamId) → i < length ids → is_among k (take (suc i) (map (λ id. id.0) ids)) ≡ (is_among k (take i (map (λ id. id.0) ids)) || is_at (nat_cmp k) (get_or ids i none).0)
one_more k [] i none more = absurd (omega (arith, more))
one_more k (id ∷ ids) zero none more = or_none (is_at (nat_cmp k) id.0)
  where
    or_none : (b : Bool) → (b || false) ≡ b
    or_none true = refl
    or_none false = refl
one_more k (id ∷ ids) (suc i) none more = go (is_at (nat_cmp k) id.0) (one_more k ids i none (omega (arith, more)))
  where
    rest : ℕ → Bool
    rest n = is_among k (take n (map (λ id. id.0) ids))

    go : (b : Bool) → rest (suc i) ≡ (rest i || is_at (nat_cmp k) (get_or ids i none).0) → (b || rest (suc i)) ≡ ((b || rest i) || is_at (nat_cmp k) (get_or ids i none).0)
    go true h = refl
    go false h = h

pub kept_same : (id : ℕ) (q : Queue) → is_kept id q ≡ true → restarted_one id q ≡ q
kept_same id q h =
    let s : Stream = stream id q.streams in
    let a = parts (is_begun id q.begun) (is_restarted s && is_in_line id (sendable s) q.scheduler) h in
    let b = and_parts (is_restarted s) (is_in_line id (sendable s) q.scheduler) a.1 in
    let streams : put_stream id (restart s) q.streams ≡ q.streams = ap (λ t. put_stream id t q.streams) (restart_same s b.0) ∙ put_back id q.streams in
    ap (λ (ss : Streams). let r : Queue = record q { streams = ss; scheduler = set_sendable id (stream id ss) q.scheduler; begun = begun_without id q.begun } in r) streams
    ∙ ap (λ (sch : Scheduler). let r : Queue = record q { scheduler = sch; begun = begun_without id q.begun } in r) (line_same id (sendable s) s.priority q.scheduler b.1)
    ∙ ap (λ b. let r : Queue = record q { begun = b } in r) (none_left id q.begun a.0)

pub kept_settled : (id : ℕ) (q : Queue) → is_kept id q ≡ true → is_settled id q ≡ true
kept_settled id q h =
    let p = parts (is_begun id q.begun) (is_restarted (stream id q.streams) && is_in_line id (sendable (stream id q.streams)) q.scheduler) h in
    whole (is_begun id q.begun) (is_settled_as id (lookup (is_at (nat_cmp id)) q.streams.entries) q.scheduler) p.0 (go (lookup (is_at (nat_cmp id)) q.streams.entries) refl p.1)
  where
    go : (o : Option Stream) → lookup (is_at (nat_cmp id)) q.streams.entries ≡ o → (is_restarted (stream id q.streams) && is_in_line id (sendable (stream id q.streams)) q.scheduler) ≡ true → is_settled_as id o q.scheduler ≡ true
    go None e s = refl
    go (Some v) e s = ap (λ (t : Stream). is_restarted t && is_in_line id (sendable t) q.scheduler) (sym (stream_there id v q.streams (sym e))) ∙ s

-- ---- a stream on which no message waits

idle_sendable : (s : Stream) → has_nothing s ≡ true → sendable (restart s) ≡ 0
idle_sendable s h = go s.messages h
  where
    go : (ms : List Queued) → (length ms == 0) ≡ true → front_left (whole_front ms) ≡ 0
    go [] h = refl
    go (m ∷ rest) h = absurd (omega (arith, eqb-true (length (m ∷ rest)) 0 h))

idle_restarted : (s : Stream) → has_nothing s ≡ true → is_restarted (restart s) ≡ true
idle_restarted s h = go s.messages h
  where
    go : (ms : List Queued) → (length ms == 0) ≡ true → is_front_unbegun (whole_front ms) ≡ true
    go [] h = refl
    go (m ∷ rest) h = absurd (omega (arith, eqb-true (length (m ∷ rest)) 0 h))

module _ (id : ℕ) (ss : Streams) (h : has_nothing (stream id ss) ≡ true) where
  abbrev restarted_in : Streams
  restarted_in = put_stream id (restart (stream id ss)) ss

  pub idle_sendable_in : sendable (stream id restarted_in) ≡ 0
  idle_sendable_in = go (lookup (is_at (nat_cmp id)) ss.entries) refl
    where
      go : (o : Option Stream) → lookup (is_at (nat_cmp id)) ss.entries ≡ o → sendable (stream id restarted_in) ≡ 0
      go None e = ap sendable (changed_nowhere id (restart (stream id ss)) ss (sym e))
      go (Some s) e = ap sendable (changed_there id s (restart (stream id ss)) ss (sym e)) ∙ idle_sendable (stream id ss) h

  idle_restarted_in : is_restarted (stream id restarted_in) ≡ true
  idle_restarted_in = go (lookup (is_at (nat_cmp id)) ss.entries) refl
    where
      go : (o : Option Stream) → lookup (is_at (nat_cmp id)) ss.entries ≡ o → is_restarted (stream id restarted_in) ≡ true
      go None e = ap is_restarted (changed_nowhere id (restart (stream id ss)) ss (sym e))
      go (Some s) e = ap is_restarted (changed_there id s (restart (stream id ss)) ss (sym e)) ∙ idle_restarted (stream id ss) h

-- it is settled, if it isn't active then
pub idle_settled : (id : ℕ) (q : Queue) → has_nothing (stream id q.streams) ≡ true → not (is_active id (restarted_one id q).scheduler) ≡ true → is_settled id (restarted_one id q) ≡ true
idle_settled id q h inactive =
    let r : Queue = restarted_one id q in
    let t : Stream = stream id r.streams in
    let line : is_in_line id (sendable t) r.scheduler ≡ true = ap (λ n. is_in_line id n r.scheduler) (idle_sendable_in id q.streams h) ∙ inactive in
    kept_settled id r (whole (is_begun id r.begun) (is_restarted t && is_in_line id (sendable t) r.scheduler) (not_begun id q.begun)
    (ap (λ b. b && is_in_line id (sendable t) r.scheduler) (idle_restarted_in id q.streams h) ∙ line))
  where
    not_begun : (id : ℕ) (o : Option ℕ) → is_begun id (begun_without id o) ≡ false
    not_begun id None = refl
    not_begun id (Some b) = go (b == id) refl
      where
        go : (t : Bool) → (b == id) ≡ t → is_begun id (cond t None (Some b)) ≡ false
        go true e = refl
        go false e = e

-- a stream that is there and settled
settled_same : (id : ℕ) (q : Queue) → is_some (lookup (is_at (nat_cmp id)) q.streams.entries) ≡ true → is_settled id q ≡ true → restarted_one id q ≡ q
settled_same id q there h = kept_same id q (whole (is_begun id q.begun) (is_restarted (stream id q.streams) && is_in_line id (sendable (stream id q.streams)) q.scheduler) p.0 (go (lookup (is_at (nat_cmp id)) q.streams.entries) refl there p.1))
  where
    p : (is_begun id q.begun ≡ false) × (is_settled_as id (lookup (is_at (nat_cmp id)) q.streams.entries) q.scheduler ≡ true)
    p = parts (is_begun id q.begun) (is_settled_as id (lookup (is_at (nat_cmp id)) q.streams.entries) q.scheduler) h

    go : (o : Option Stream) → lookup (is_at (nat_cmp id)) q.streams.entries ≡ o → is_some o ≡ true → is_settled_as id o q.scheduler ≡ true → (is_restarted (stream id q.streams) && is_in_line id (sendable (stream id q.streams)) q.scheduler) ≡ true
    go None e t s = absurd (cc)
    go (Some v) e t s = ap (λ (t : Stream). is_restarted t && is_in_line id (sendable t) q.scheduler) (stream_there id v q.streams (sym e)) ∙ s

-- ---- streams by a list

among_part : (k : ℕ) (test : ℕ → Bool) (xs : List ℕ) → test k ≡ true → is_among k xs ≡ true → is_among k (filter test xs) ≡ true
among_part k test [] t h = h
among_part k test (x ∷ xs) t h = go (is_at (nat_cmp k) x) refl (test x) refl h (among_part k test xs t)
  where
    go : (b : Bool) → is_at (nat_cmp k) x ≡ b → (c : Bool) → test x ≡ c → (b || is_among k xs) ≡ true → (is_among k xs ≡ true → is_among k (filter test xs) ≡ true) → is_among k (cond c (x ∷ filter test xs) (filter test xs)) ≡ true
    go true e true f h ih = ap (λ t. t || is_among k (filter test xs)) e
    go true e false f h ih = absurd (clash (sym (ap test (equal_at k x e)) ∙ f))
      where
        clash : test k ≡ false → ⊥
        clash g = cc
    go false e true f h ih = ap (λ t. t || is_among k (filter test xs)) e ∙ ih h
    go false e false f h ih = ih h

-- ---- a reset that goes over some streams alone

keeps_restarted : (id : ℕ) (log : Option (List ℕ)) (q : Queue) → may_differ log id ≡ true → ResetKeeps log q → ResetKeeps log (restarted_one id q)
keeps_restarted id log q there h = keeps_by log (restarted_one id q) (λ k e. settled_beside k id q (restarted_one id q) (restarted_beside k id q (other k e (k == id) refl)) (kept_by log q h k e))
  where
    other : (k : ℕ) → may_differ log k ≡ false → (b : Bool) → (k == id) ≡ b → (k == id) ≡ false
    other k e true same = absurd (clash (sym (ap (may_differ log) (eqb-true k id same)) ∙ e))
      where
        clash : may_differ log id ≡ false → ⊥
        clash g = cc
    other k e false d = d

-- streams stay where they are
abbrev AreThere : List ℕ → Queue → Type 0
AreThere ids q = (k : ℕ) → is_among k ids ≡ true → is_some (lookup (is_at (nat_cmp k)) q.streams.entries) ≡ true

still_there : (k id : ℕ) (s : Stream) (ss : Streams) → is_some (lookup (is_at (nat_cmp k)) (put_stream id s ss).entries) ≡ is_some (lookup (is_at (nat_cmp k)) ss.entries)
still_there k id s ss =
    there_among k (put_stream id s ss).entries ∙ ap (λ (ks : List ℕ). is_among k ks) (keys-set_value (is_at (nat_cmp id)) ss.entries s) ∙ sym (there_among k ss.entries)

rest_there : (x : ℕ) (xs : List ℕ) (q : Queue) → AreThere (x ∷ xs) q → AreThere xs q
rest_there x xs q h k e = h k (go (is_at (nat_cmp k) x))
  where
    go : (b : Bool) → (b || is_among k xs) ≡ true
    go true = refl
    go false = e

there_restarted : (id : ℕ) (xs : List ℕ) (q : Queue) → AreThere xs q → AreThere xs (restarted_one id q)
there_restarted id xs q h k e = still_there k id (restart (stream id q.streams)) q.streams ∙ h k e

first_there : (x : ℕ) (xs : List ℕ) (q : Queue) → AreThere (x ∷ xs) q → is_some (lookup (is_at (nat_cmp x)) q.streams.entries) ≡ true
first_there x xs q h = h x (ap (λ t. t || is_among x xs) (at_itself x))

pub part_same : (log : Option (List ℕ)) (xs : List ℕ) (q : Queue) → ResetKeeps log q → AreThere xs q → each_restarted (filter (may_differ log) xs) q ≡ each_restarted xs q
part_same log [] q h there = refl
part_same log (x ∷ xs) q h there = go (may_differ log x) refl (part_same log xs)
  where
    go : (b : Bool) → may_differ log x ≡ b → ((r : Queue) → ResetKeeps log r → AreThere xs r → each_restarted (filter (may_differ log) xs) r ≡ each_restarted xs r)
        → each_restarted (cond b (x ∷ filter (may_differ log) xs) (filter (may_differ log) xs)) q ≡ each_restarted xs (restarted_one x q)
    go true e ih = ih (restarted_one x q) (keeps_restarted x log q e h) (there_restarted x xs q (rest_there x xs q there))
    go false e ih =
        ih q h (rest_there x xs q there) ∙ ap (λ (r : Queue). each_restarted xs r) (sym (settled_same x q (first_there x xs q there) (kept_by log q h x e)))

-- the first of them
pub part_some : (log : Option (List ℕ)) (n : ℕ) (xs : List ℕ) (q : Queue) → ResetKeeps log q → AreThere xs q → (count : ℕ) × (each_restarted (take n (filter (may_differ log) xs)) q ≡ each_restarted (take count xs) q)
part_some log zero xs q h there = (0, refl)
part_some log (suc n) [] q h there = (0, refl)
part_some log (suc n) (x ∷ xs) q h there = go (may_differ log x) refl (part_some log n xs) (part_some log (suc n) xs)
  where
    Some_of : ℕ → Type 0
    Some_of n = (r : Queue) → ResetKeeps log r → AreThere xs r → (count : ℕ) × (each_restarted (take n (filter (may_differ log) xs)) r ≡ each_restarted (take count xs) r)

    go : (b : Bool) → may_differ log x ≡ b → Some_of n → Some_of (suc n) → (count : ℕ) × (each_restarted (take (suc n) (cond b (x ∷ filter (may_differ log) xs) (filter (may_differ log) xs))) q ≡ each_restarted (take count (x ∷ xs)) q)
    go true e less same =
        let ih = less (restarted_one x q) (keeps_restarted x log q e h) (there_restarted x xs q (rest_there x xs q there)) in
        (suc ih.0, ih.1)
    go false e less same =
        let ih = same q h (rest_there x xs q there) in
        (suc ih.0, ih.1 ∙ ap (λ (r : Queue). each_restarted (take ih.0 xs) r) (sym (settled_same x q (first_there x xs q there) (kept_by log q h x e))))

part_keeps : (log : Option (List ℕ)) (xs : List ℕ) (q : Queue) → ResetKeeps log q → ResetKeeps log (each_restarted (filter (may_differ log) xs) q)
part_keeps log [] q h = h
part_keeps log (x ∷ xs) q h = go (may_differ log x) refl (part_keeps log xs)
  where
    go : (b : Bool) → may_differ log x ≡ b → ((r : Queue) → ResetKeeps log r → ResetKeeps log (each_restarted (filter (may_differ log) xs) r)) → ResetKeeps log (each_restarted (cond b (x ∷ filter (may_differ log) xs) (filter (may_differ log) xs)) q)
    go true e ih = ih (restarted_one x q) (keeps_restarted x log q e h)
    go false e ih = ih q h

each_there : (k : ℕ) (ids : List ℕ) (q : Queue) → is_some (lookup (is_at (nat_cmp k)) (each_restarted ids q).streams.entries) ≡ is_some (lookup (is_at (nat_cmp k)) q.streams.entries)
each_there k [] q = refl
each_there k (id ∷ ids) q = each_there k ids (restarted_one id q) ∙ still_there k id (restart (stream id q.streams)) q.streams

-- all streams of a queue
all_there : (q : Queue) → AreThere (keys_of q.streams.entries) q
all_there q k e = there_among k q.streams.entries ∙ e

unbegun_settled : (k : ℕ) (q : Queue) → is_settled k q ≡ true → is_settled k (unbegun q) ≡ true
unbegun_settled k q h = (parts (is_begun k q.begun) (is_settled_as k (lookup (is_at (nat_cmp k)) q.streams.entries) q.scheduler) h).1

-- the streams that were gone over are settled, and the others were
pub reset_keeps : (log : Option (List ℕ)) (q r : Queue) (ids : List ℕ) (b : Bool) → ResetKeeps log q → ids ≡ filter (may_differ log) (keys_of q.streams.entries) → r ≡ each_restarted ids q → (b ≡ true → AreSettled ids r) → ResetKeeps (after_reset b) (unbegun r)
reset_keeps log q r ids false h is made settled = tt
reset_keeps log q r ids true h is made settled = λ k none. go k (lookup (is_at (nat_cmp k)) r.streams.entries) refl
  where
    keys : List ℕ
    keys = keys_of q.streams.entries

    whole_r : r ≡ each_restarted (filter (may_differ log) keys) q
    whole_r = made ∙ ap (λ (xs : List ℕ). each_restarted xs q) is

    kept : ResetKeeps log r
    kept = subst (λ x. ResetKeeps log x) (sym whole_r) (part_keeps log keys q h)

    named : (k : ℕ) → is_some (lookup (is_at (nat_cmp k)) r.streams.entries) ≡ true → is_among k keys ≡ true
    named k there = sym (there_among k q.streams.entries) ∙ sym (each_there k ids q) ∙ ap (λ (x : Queue). is_some (lookup (is_at (nat_cmp k)) x.streams.entries)) (sym made) ∙ there

    one : (k : ℕ) → is_some (lookup (is_at (nat_cmp k)) r.streams.entries) ≡ true → (c : Bool) → may_differ log k ≡ c → is_settled k r ≡ true
    one k there true e = settled refl k (ap (λ (xs : List ℕ). is_among k xs) is ∙ among_part k (may_differ log) keys e (named k there))
    one k there false e = kept_by log r kept k e

    go : (k : ℕ) (o : Option Stream) → lookup (is_at (nat_cmp k)) r.streams.entries ≡ o → is_settled k (unbegun r) ≡ true
    go k None e = ap (λ o. is_settled_as k o r.scheduler) e
    go k (Some s) e = unbegun_settled k r (one k (ap is_some e) (may_differ log k) refl)

pub reset_is : (log : Option (List ℕ)) (q r : Queue) (ids : List ℕ) → ResetKeeps log q → ids ≡ filter (may_differ log) (keys_of q.streams.entries) → r ≡ each_restarted ids q → unbegun r ≡ reset q
reset_is log q r ids h is made =
    ap unbegun (made ∙ ap (λ (xs : List ℕ). each_restarted xs q) is ∙ part_same log (keys_of q.streams.entries) q h (all_there q))

pub reset_some : (log : Option (List ℕ)) (n : ℕ) (q r : Queue) (ids : List ℕ) → ResetKeeps log q → ids ≡ filter (may_differ log) (keys_of q.streams.entries) → r ≡ each_restarted (take n ids) q → SomeRestarted q r
reset_some log n q r ids h is made =
    let some = part_some log n (keys_of q.streams.entries) q h (all_there q) in
    (some.0, made ∙ ap (λ (xs : List ℕ). each_restarted (take n xs) q) is ∙ some.1)

-- ---- one after the other

abbrev names : List StreamId → List ℕ
names ids = map (λ id. id.0) ids

pub settled_more : (ids : List StreamId) (i : ℕ) (none : StreamId) (q r : Queue) → i < length ids → r ≡ restarted_one (get_or ids i none).0 q → is_settled (get_or ids i none).0 r ≡ true
    → AreSettled (take i (names ids)) q → AreSettled (take (i + 1) (names ids)) r
settled_more ids i none q r more made here before k h = go (is_at (nat_cmp k) x) refl
  where
    x : ℕ
    x = (get_or ids i none).0

    step : (is_among k (take i (names ids)) || is_at (nat_cmp k) x) ≡ true
    step = sym (one_more k ids i none more) ∙ ap (λ n. is_among k (take n (names ids))) (sym (add-one i)) ∙ h

    go : (b : Bool) → is_at (nat_cmp k) x ≡ b → is_settled k r ≡ true
    go true e = subst (λ i. is_settled i r ≡ true) (equal_at k x e) here
    go false e = subst (λ (y : Queue). is_settled k y ≡ true) (sym made) (settled_beside k x q (restarted_one x q) (restarted_beside k x q (sym (at_equal k x) ∙ e)) (before k (left (is_among k (take i (names ids))) (ap (λ t. is_among k (take i (names ids)) || t) (sym e) ∙ step))))
      where
        left : (b : Bool) → (b || false) ≡ true → b ≡ true
        left true s = refl
        left false s = s

-- ---- streams join one after the other

pub joined_more : (ids : List StreamId) (i : ℕ) (none : StreamId) (first before after : Option (List ℕ)) → i < length ids → Joins true (get_or ids i none).0 before after
    → JoinsAll (take i (names ids)) first before → JoinsAll (take (i + 1) (names ids)) first after
joined_more ids i none first before after more joins done k e =
    let now = joins k e in
    let earlier = done k now.0 in (
      earlier.0,
      ap (λ n. is_among k (take n (names ids))) (add-one i)
          ∙ one_more k ids i none more
          ∙ ap (λ b. b || is_at (nat_cmp k) (get_or ids i none).0) earlier.1
          ∙ at_equal k (get_or ids i none).0
          ∙ now.1,
    )

pub keeps_more : (ids : List ℕ) (log after : Option (List ℕ)) (q : Queue) → ResetKeeps log q → JoinsAll ids log after → ResetKeeps after q
keeps_more ids log after q h joins = keeps_by after q (λ k e. kept_by log q h k (joins k e).0)

-- with the active streams among them, the others rest
pub others_rest : (log after : Option (List ℕ)) (q : Queue) → ResetKeeps log q → JoinsAll (keys_of q.scheduler.times) log after → OthersRest after q.streams q.scheduler
others_rest log after q h joins k e =
    let j = joins k e in (
      (parts (is_begun k q.begun) (is_settled_as k (lookup (is_at (nat_cmp k)) q.streams.entries) q.scheduler) (kept_by log q h k j.0)).1,
      there_among k q.scheduler.times ∙ j.1,
    )
