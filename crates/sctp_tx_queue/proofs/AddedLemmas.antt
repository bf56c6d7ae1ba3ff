-- What a reset goes over, once a message was added, a fragment sent or a stream changed.
use Rattle.std.proofs.Common.{◌≡◌, ℕ, ◌==◌, Bool, true, false, cond, List, [], ◌∷◌, ◌++◌, Option, Some, None, refl, ap, sym, subst, ◌∙◌, inl, inr, ◌⊎◌}
use Rattle.std.specs.Prelude.{not, is_some, ◌&&◌, IsSome}
use Rattle.std.specs.Map.{lookup}
use Rattle.std.specs.Ordering.{nat_cmp}
use Rattle.std.specs.BTreeMap.{is_at, insert_entry}
use Rattle.std.proofs.lemmas.Bool.{eqb-true, and_parts}
use Rattle.sctp_stream_scheduler.specs.StreamScheduler.{Scheduler, finish_time, is_active, finish_now, leave, enter, set_bytes_remaining}
use Rattle.sctp_tx_queue.specs.declared.send_queue.stream.PauseState.{PauseState}
use Rattle.sctp_tx_queue.specs.declared.send_queue.stream.PauseState.TheVariants.{NotPaused, Pending, Paused, Resetting}
use Rattle.sctp_tx_queue.specs.SendQueue.{Queue, Queued, Stream, Streams, stream, blank, put_stream, with_stream, front_left, is_stopped, remaining_bytes, sendable, push}
use Rattle.sctp_tx_queue.specs.Produced.{Produced, in_line, begun_by, streams_after}
use Rattle.sctp_tx_queue.specs.Readiness.{waits, has_reset_pending}
use Rattle.sctp_tx_queue.specs.Restarted.{is_unbegun, is_front_unbegun, has_first_numbers, is_restarted, is_in_line, is_begun, is_settled_as, is_settled, ResetKeeps, Joins}
use Rattle.sctp_tx_queue.proofs.InOrderLemmas.{inserted_here}
use Rattle.sctp_tx_queue.proofs.RestartLemmas.{never_there}
use Rattle.sctp_tx_queue.proofs.SettledLemmas.{kept_by, keeps_by, settled_beside, keeps_beside, set_beside, line_beside, begun_beside}
use Rattle.sctp_tx_queue.proofs.StaysBegunLemmas.{written_elsewhere, inserted_elsewhere}
use Rattle.sctp_tx_queue.proofs.StreamsLemmas.{stream_there, stream_nowhere, lookup_written}

-- ---- a stream that is opened

opened_elsewhere : (k id : ℕ) (ss : Streams) → (k == id) ≡ false → lookup (is_at (nat_cmp k)) (with_stream id ss).entries ≡ lookup (is_at (nat_cmp k)) ss.entries
opened_elsewhere k id ss d = go (is_some (lookup (is_at (nat_cmp id)) ss.entries))
  where
    go : (b : Bool) → lookup (is_at (nat_cmp k)) (let r : Streams = record ss { entries = insert_entry nat_cmp ss.entries id (blank ss) } in let x : Streams = cond b ss r in x.entries) ≡ lookup (is_at (nat_cmp k)) ss.entries
    go true = refl
    go false = inserted_elsewhere k id (blank ss) ss.entries d

opened_there : (id : ℕ) (ss : Streams) → IsSome (lookup (is_at (nat_cmp id)) (with_stream id ss).entries)
opened_there id ss = go (is_some (lookup (is_at (nat_cmp id)) ss.entries)) refl
  where
    go : (b : Bool) → is_some (lookup (is_at (nat_cmp id)) ss.entries) ≡ b → IsSome (lookup (is_at (nat_cmp id)) (let r : Streams = record ss { entries = insert_entry nat_cmp ss.entries id (blank ss) } in let x : Streams = cond b ss r in x.entries))
    go true e = e
    go false e = ap is_some (inserted_here id (blank ss) ss.entries)

-- ---- a message more

pushed_restarted : (m : Queued) (s : Stream) → is_unbegun m ≡ true → is_restarted s ≡ true → is_restarted (push m s) ≡ true
pushed_restarted m s fresh h = go s.messages (and_parts (not (has_reset_pending s)) (has_first_numbers s && is_front_unbegun s.messages) h)
  where
    go : (ms : List Queued) → (not (has_reset_pending s) ≡ true) × ((has_first_numbers s && is_front_unbegun ms) ≡ true) → (not (has_reset_pending s) && (has_first_numbers s && is_front_unbegun (ms ++ m ∷ []))) ≡ true
    go [] p =
        let q = and_parts (has_first_numbers s) true p.1 in
        ap (λ t. t && (has_first_numbers s && is_unbegun m)) p.0 ∙ ap (λ t. t && is_unbegun m) q.0 ∙ fresh
    go (x ∷ xs) p = ap (λ t. t && (has_first_numbers s && is_unbegun x)) p.0 ∙ p.1

-- it has something to send, unless it had nothing and isn't active
pushed_line : (m : Queued) (s : Stream) → (remaining_bytes m == 0) ≡ false → not (has_reset_pending s) ≡ true → ((sendable (push m s) == 0) ≡ false) ⊎ (sendable (push m s) ≡ sendable s)
pushed_line m s some h = go s.pause s.messages h
  where
    go : (p : PauseState) (ms : List Queued) → not (waits p) ≡ true
        → ((cond (is_stopped p) 0 (front_left (ms ++ m ∷ [])) == 0) ≡ false) ⊎ (cond (is_stopped p) 0 (front_left (ms ++ m ∷ [])) ≡ cond (is_stopped p) 0 (front_left ms))
    go NotPaused [] h = inl some
    go NotPaused (x ∷ xs) h = inr refl
    go Pending ms h = absurd (cc)
    go Paused ms h = absurd (cc)
    go Resetting ms h = absurd (cc)

not_true : (b : Bool) → not b ≡ true → b ≡ false
not_true true h = absurd (cc)
not_true false h = refl

-- a stream with bytes is put in line
set_in_line : (id bytes priority : ℕ) (sch : Scheduler) → ((bytes == 0) ≡ true → is_active id sch ≡ false) → is_in_line id bytes (set_bytes_remaining id bytes priority sch) ≡ true
set_in_line id bytes priority sch idle = go (bytes == 0) idle
  where
    entered : is_active id (enter id (finish_now bytes priority sch) sch) ≡ true
    entered = ap is_some (inserted_here id (finish_now bytes priority sch) sch.times)

    active : (a : Bool) → is_active id sch ≡ a → is_active id (cond a sch (enter id (finish_now bytes priority sch) sch)) ≡ true
    active true e = e
    active false e = entered

    go : (b : Bool) → (b ≡ true → is_active id sch ≡ false) → (let after : Scheduler = cond b (leave id sch) (cond (is_active id sch) sch (enter id (finish_now bytes priority sch) sch)) in cond b (not (is_active id after)) (is_active id after)) ≡ true
    go true idle = ap (λ o. not (is_some (finish_time id o))) (never_there id sch.times (idle refl)) ∙ ap not (idle refl)
    go false idle = active (is_active id sch) refl

pub blank_restarted : (ss : Streams) → is_restarted (blank ss) ≡ true
blank_restarted ss = refl

-- the stream that gets it
added_settled : (id priority : ℕ) (m : Queued) (q r : Queue) → is_unbegun m ≡ true → (remaining_bytes m == 0) ≡ false → r.streams ≡ put_stream id (push m (stream id q.streams)) (with_stream id q.streams)
    → r.scheduler ≡ set_bytes_remaining id (sendable (push m (stream id q.streams))) priority q.scheduler → r.begun ≡ q.begun → is_settled id q ≡ true → is_settled id r ≡ true
added_settled id priority m q r fresh some streams line begun h = ap (λ b. not b && is_settled_as id (lookup (is_at (nat_cmp id)) r.streams.entries) r.scheduler) (ap (is_begun id) begun ∙ p.0) ∙ ap (λ o. is_settled_as id o r.scheduler) there ∙ ap (λ sch. is_restarted s && is_in_line id (sendable s) sch) line ∙ go (lookup (is_at (nat_cmp id)) q.streams.entries) refl p.1
  where
    s : Stream
    s = push m (stream id q.streams)

    split : (b c : Bool) → (not b && c) ≡ true → (b ≡ false) × (c ≡ true)
    split true c h = absurd (cc)
    split false c h = (refl, h)

    p : (is_begun id q.begun ≡ false) × (is_settled_as id (lookup (is_at (nat_cmp id)) q.streams.entries) q.scheduler ≡ true)
    p = split (is_begun id q.begun) (is_settled_as id (lookup (is_at (nat_cmp id)) q.streams.entries) q.scheduler) h

    there : lookup (is_at (nat_cmp id)) r.streams.entries ≡ Some s
    there = ap (λ (ss : Streams). lookup (is_at (nat_cmp id)) ss.entries) streams ∙ lookup_written (is_at (nat_cmp id)) s (with_stream id q.streams).entries (opened_there id q.streams)

    both : (t : Stream) → stream id q.streams ≡ t → is_restarted t ≡ true → ((sendable (push m t) == 0) ≡ true → is_active id q.scheduler ≡ false) → (is_restarted s && is_in_line id (sendable s) (set_bytes_remaining id (sendable s) priority q.scheduler)) ≡ true
    both t e restarted idle =
        ap (λ (x : Stream). is_restarted (push m x) && is_in_line id (sendable (push m x)) (set_bytes_remaining id (sendable (push m x)) priority q.scheduler)) e
        ∙ ap (λ b. b && is_in_line id (sendable (push m t)) (set_bytes_remaining id (sendable (push m t)) priority q.scheduler)) (pushed_restarted m t fresh restarted)
        ∙ set_in_line id (sendable (push m t)) priority q.scheduler idle

    none_left : (n : ℕ) → (remaining_bytes m == 0) ≡ true → is_active id q.scheduler ≡ false
    none_left n e = absurd (clash (sym some ∙ e))
      where
        clash : false ≡ true → ⊥
        clash h = cc

    idle : (t : Stream) → is_restarted t ≡ true → is_in_line id (sendable t) q.scheduler ≡ true → (sendable (push m t) == 0) ≡ true → is_active id q.scheduler ≡ false
    idle t restarted in_line e =
        elim (pushed_line m t some (and_parts (not (has_reset_pending t)) (has_first_numbers t && is_front_unbegun t.messages) restarted).0) [
          | inl more ↦ absurd (clash (sym more ∙ e))
          | inr same ↦ not_true (is_active id q.scheduler) (sym (ap (λ b. cond b (not (is_active id q.scheduler)) (is_active id q.scheduler)) (ap (λ n. n == 0) (sym same) ∙ e)) ∙ in_line)
        ]
      where
        clash : false ≡ true → ⊥
        clash h = cc

    go : (o : Option Stream) → lookup (is_at (nat_cmp id)) q.streams.entries ≡ o → is_settled_as id o q.scheduler ≡ true → (is_restarted s && is_in_line id (sendable s) (set_bytes_remaining id (sendable s) priority q.scheduler)) ≡ true
    go None e h = both (blank q.streams) (stream_nowhere id q.streams (sym e)) (blank_restarted q.streams) (none_left 0)
    go (Some t) e h =
        let b = and_parts (is_restarted t) (is_in_line id (sendable t) q.scheduler) h in
        both t (stream_there id t q.streams (sym e)) b.0 (idle t b.0 b.1)

pub keeps_added : (log : Option (List ℕ)) (id priority : ℕ) (m : Queued) (q r : Queue) → is_unbegun m ≡ true → (remaining_bytes m == 0) ≡ false → r.streams ≡ put_stream id (push m (stream id q.streams)) (with_stream id q.streams)
    → r.scheduler ≡ set_bytes_remaining id (sendable (push m (stream id q.streams))) priority q.scheduler → r.begun ≡ q.begun → ResetKeeps log q → ResetKeeps log r
keeps_added log id priority m q r fresh some streams line begun h = keeps_by log r (λ k e. go k (kept_by log q h k e) (k == id) refl)
  where
    s : Stream
    s = push m (stream id q.streams)

    go : (k : ℕ) → is_settled k q ≡ true → (b : Bool) → (k == id) ≡ b → is_settled k r ≡ true
    go k settled true e = subst (λ i. is_settled i r ≡ true) (sym (eqb-true k id e)) (added_settled id priority m q r fresh some streams line begun (subst (λ i. is_settled i q ≡ true) (eqb-true k id e) settled))
    go k settled false d =
        settled_beside k id q r (record {
          streams = ap (λ (ss : Streams). lookup (is_at (nat_cmp k)) ss.entries) streams ∙ written_elsewhere k id s (with_stream id q.streams).entries d ∙ opened_elsewhere k id q.streams d;
          active = ap (is_active k) line ∙ set_beside k id (sendable s) priority q.scheduler d;
          begun = λ b. ap (is_begun k) begun ∙ b;
        }) settled

pub leaves_line : (id bytes left priority : ℕ) (s : Scheduler) → left ≡ bytes → left ≡ 0 → leave id s ≡ set_bytes_remaining id bytes priority s
leaves_line id bytes left priority s e none = sym (ap (λ b. cond b (leave id s) (cond (is_active id s) s (enter id (finish_now bytes priority s) s))) (ap (λ n. n == 0) (sym e ∙ none)))

-- ---- a stream sends

-- it is among those that may have changed
joined : (id : ℕ) (log after : Option (List ℕ)) (q : Queue) → ResetKeeps log q → Joins (is_restarted (stream id q.streams)) id log after → Joins true id log after
joined id log after q h joins k e = ((joins k e).0, go (k == id) refl)
  where
    settled : is_settled k q ≡ true
    settled = kept_by log q h k (joins k e).0

    second : (b c : Bool) → (not b && c) ≡ true → c ≡ true
    second true c h = absurd (cc)
    second false c h = h

    restarted : (o : Option Stream) → lookup (is_at (nat_cmp id)) q.streams.entries ≡ o → is_settled_as id o q.scheduler ≡ true → is_restarted (stream id q.streams) ≡ true
    restarted None at s = ap is_restarted (stream_nowhere id q.streams (sym at)) ∙ blank_restarted q.streams
    restarted (Some t) at s = ap is_restarted (stream_there id t q.streams (sym at)) ∙ (and_parts (is_restarted t) (is_in_line id (sendable t) q.scheduler) s).0

    go : (b : Bool) → (k == id) ≡ b → (k == id) ≡ false
    go true same =
        let here = subst (λ i. is_settled i q ≡ true) (eqb-true k id same) settled in
        let is = restarted (lookup (is_at (nat_cmp id)) q.streams.entries) refl (second (is_begun id q.begun) (is_settled_as id (lookup (is_at (nat_cmp id)) q.streams.entries) q.scheduler) here) in
        ap (λ b. b && (k == id)) (sym is) ∙ (joins k e).1
    go false d = d

pub keeps_sent : (id size bytes priority : ℕ) (is_interleaved : Bool) (found : Option Produced) (log after : Option (List ℕ)) (q r : Queue) → ResetKeeps log q → Joins (is_restarted (stream id q.streams)) id log after → r.streams ≡ streams_after id size q.streams
    → r.scheduler ≡ in_line id bytes priority found q.scheduler → r.begun ≡ begun_by id is_interleaved found → ResetKeeps after r
keeps_sent id size bytes priority is_interleaved found log after q r h joins streams line begun =
    keeps_beside id log after q r h (joined id log after q h joins) (λ k d. record {
      streams = ap (λ (ss : Streams). lookup (is_at (nat_cmp k)) ss.entries) streams ∙ written_elsewhere k id _ q.streams.entries d;
      active = ap (is_active k) line ∙ line_beside k id bytes priority found q.scheduler d;
      begun = λ b. ap (is_begun k) begun ∙ begun_beside k id is_interleaved found d;
    })

-- ---- the mode

pub mode_keeps : (log : Option (List ℕ)) (q r : Queue) → r.streams ≡ q.streams → r.scheduler.times ≡ q.scheduler.times → r.begun ≡ q.begun → ResetKeeps log q → ResetKeeps log r
mode_keeps log q r streams times begun h =
    keeps_by log r (λ k e.
    settled_beside k 0 q r (record {
      streams = ap (λ (ss : Streams). lookup (is_at (nat_cmp k)) ss.entries) streams;
      active = ap (λ ts. is_some (finish_time k ts)) times;
      begun = λ b. ap (is_begun k) begun ∙ b;
    }) (kept_by log q h k e))

-- ---- a queue without streams, and one of which nothing is known

pub new_keeps : (log : Option (List ℕ)) (q : Queue) → log ≡ Some [] → q.streams.entries ≡ [] → q.begun ≡ None → ResetKeeps log q
new_keeps log q e none begun = subst (λ o. ResetKeeps o q) (sym e) (λ k h. ap (λ b. not (is_begun k b) && is_settled_as k (lookup (is_at (nat_cmp k)) q.streams.entries) q.scheduler) begun ∙ ap (λ es. is_settled_as k (lookup (is_at (nat_cmp k)) es) q.scheduler) none)

pub any_keeps : (log : Option (List ℕ)) (q : Queue) → log ≡ None → ResetKeeps log q
any_keeps log q e = subst (λ o. ResetKeeps o q) (sym e) tt

-- ---- one that joins

pub joins_as : (id : ℕ) (b : Bool) (before after : Option (List ℕ)) → b ≡ true → Joins true id before after → Joins b id before after
joins_as id b before after is h k e = ((h k e).0, ap (λ c. c && (k == id)) is ∙ (h k e).1)

-- ---- a stream changes

pub keeps_one : (id bytes priority : ℕ) (s : Stream) (log after : Option (List ℕ)) (q r : Queue) → ResetKeeps log q → Joins true id log after → r.streams ≡ put_stream id s q.streams → r.scheduler ≡ set_bytes_remaining id bytes priority q.scheduler
    → ((k : ℕ) → is_begun k q.begun ≡ false → is_begun k r.begun ≡ false) → ResetKeeps after r
keeps_one id bytes priority s log after q r h joins streams line begun =
    keeps_beside id log after q r h joins (λ k d. record {
      streams = ap (λ (ss : Streams). lookup (is_at (nat_cmp k)) ss.entries) streams ∙ written_elsewhere k id s q.streams.entries d;
      active = ap (is_active k) line ∙ set_beside k id bytes priority q.scheduler d;
      begun = λ b. begun k b;
    })

-- the scheduler has no part in it
pub keeps_put : (id : ℕ) (s : Stream) (log after : Option (List ℕ)) (q r : Queue) → ResetKeeps log q → Joins true id log after → r.streams ≡ put_stream id s q.streams → r.scheduler ≡ q.scheduler → r.begun ≡ q.begun → ResetKeeps after r
keeps_put id s log after q r h joins streams line begun =
    keeps_beside id log after q r h joins (λ k d. record {
      streams = ap (λ (ss : Streams). lookup (is_at (nat_cmp k)) ss.entries) streams ∙ written_elsewhere k id s q.streams.entries d;
      active = ap (is_active k) line;
      begun = λ b. ap (is_begun k) begun ∙ b;
    })

-- a stream that is there from then on
pub keeps_set : (id : ℕ) (s : Stream) (log after : Option (List ℕ)) (q r : Queue) → ResetKeeps log q → Joins true id log after → r.streams ≡ put_stream id s (with_stream id q.streams)
    → ((k : ℕ) → (k == id) ≡ false → is_active k r.scheduler ≡ is_active k q.scheduler) → r.begun ≡ q.begun → ResetKeeps after r
keeps_set id s log after q r h joins streams line begun =
    keeps_beside id log after q r h joins (λ k d. record {
      streams = ap (λ (ss : Streams). lookup (is_at (nat_cmp k)) ss.entries) streams ∙ written_elsewhere k id s (with_stream id q.streams).entries d ∙ opened_elsewhere k id q.streams d;
      active = line k d;
      begun = λ b. ap (is_begun k) begun ∙ b;
    })
