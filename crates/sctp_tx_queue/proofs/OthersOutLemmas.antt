-- An association has ended: only streams that have messages or are in line are gone over.
use Rattle.std.proofs.Common.{◌≡◌, ℕ, Bool, true, false, cond, List, [], ◌∷◌, ◌++◌, refl, ap, sym, ◌∙◌}
use Rattle.std.specs.Prelude.{unwrap_or, map, filter, not, ◌==◌}
use Rattle.std.specs.List.Sorted.{IsStrictlySortedBy}
use Rattle.std.specs.Map.{keys_of}
use Rattle.std.specs.Ordering.{nat_cmp}
use Rattle.std.proofs.lemmas.Bool.{eqb-true, or_parts}
use Rattle.std.proofs.lemmas.List.{append_assoc, append-nil}
use Rattle.sctp_serial.specs.declared.api.StreamId.{StreamId}
use Rattle.sctp_state.specs.Events.{Emitted}
use Rattle.sctp_stream_scheduler.specs.StreamScheduler.{Times, Scheduler, is_active, set_bytes_remaining}
use Rattle.sctp_tx_queue.specs.SendQueue.{Queue, Stream, Streams, Entries, blank, stream, put_stream, sendable, set_sendable, has_nothing}
use Rattle.sctp_tx_queue.specs.Restarted.{unbegun}
use Rattle.sctp_tx_queue.specs.Emptied.{emptied, emptied_one, each_emptied, is_to_empty, streams_to_empty, empty}
use Rattle.sctp_tx_queue.proofs.EmptiedLemmas.{nothing_sendable, empty_is}
use Rattle.sctp_tx_queue.proofs.IdleLemmas.{none_of}
use Rattle.sctp_tx_queue.proofs.InTurnLemmas.{Has, has_all}
use Rattle.sctp_tx_queue.proofs.RestartLemmas.{never_there}
use Rattle.sctp_tx_queue.proofs.SettledLemmas.{put_back, set_beside}
use Rattle.sctp_tx_queue.proofs.StaysBegunLemmas.{written_elsewhere}

-- a stream without messages that isn't in line
record IsOut (k : ℕ) (q : Queue) : Type 0 where
  none : (stream k q.streams).messages ≡ []
  inactive : is_active k q.scheduler ≡ false

not_false : (b : Bool) → not b ≡ false → b ≡ true
not_false true h = refl
not_false false h = absurd (cc)

pub none_waits : (id : ℕ) (s : Stream) (sch : Scheduler) → is_to_empty id s sch ≡ false → s.messages ≡ []
none_waits id s sch h = none_of s.messages (not_false (has_nothing s) (or_parts (not (has_nothing s)) (is_active id sch) h).0)

is_out : (k : ℕ) (q : Queue) → is_to_empty k (stream k q.streams) q.scheduler ≡ false → IsOut k q
is_out k q h = record {
  none = none_waits k (stream k q.streams) q.scheduler h;
  inactive = (or_parts (not (has_nothing (stream k q.streams))) (is_active k q.scheduler) h).1;
}

out_same : (id : ℕ) (q : Queue) → IsOut id q → emptied_one id q ≡ q
out_same id q out =
    let s : Stream = stream id q.streams in
    let streams : put_stream id (emptied s) q.streams ≡ q.streams = ap (λ t. put_stream id t q.streams) (sym (empty_is s out.none)) ∙ put_back id q.streams in
    let zero : sendable s ≡ 0 = ap sendable (empty_is s out.none) ∙ nothing_sendable s in
    let line : set_sendable id s q.scheduler ≡ q.scheduler =
    ap (λ n. set_bytes_remaining id n s.priority q.scheduler) zero
    ∙ ap (λ (ts : Times). let r : Scheduler = record q.scheduler { times = ts } in r) (never_there id q.scheduler.times out.inactive) in
    ap (λ (ss : Streams). let r : Queue = record q { streams = ss; scheduler = set_sendable id (stream id ss) q.scheduler } in r) streams
    ∙ ap (λ (sch : Scheduler). let r : Queue = record q { scheduler = sch } in r) line

out_beside : (k id : ℕ) (q : Queue) → (k == id) ≡ false → IsOut k q → IsOut k (emptied_one id q)
out_beside k id q d out =
    let ss : Streams = put_stream id (emptied (stream id q.streams)) q.streams in
    record {
      none = ap (λ o. (unwrap_or o (blank q.streams)).messages) (written_elsewhere k id (emptied (stream id q.streams)) q.streams.entries d) ∙ out.none;
      inactive = set_beside k id (sendable (stream id ss)) (stream id ss).priority q.scheduler d ∙ out.inactive;
    }

others_out : (test : ℕ → Bool) (ids : List ℕ) (q : Queue) → ((k : ℕ) → test k ≡ false → IsOut k q) → each_emptied (filter test ids) q ≡ each_emptied ids q
others_out test [] q out = refl
others_out test (id ∷ ids) q out = go (test id) refl (others_out test ids)
  where
    differs : test id ≡ true → (k : ℕ) → test k ≡ false → (b : Bool) → (k == id) ≡ b → (k == id) ≡ false
    differs there k e true same = absurd (clash (sym there ∙ ap test (sym (eqb-true k id same)) ∙ e))
      where
        clash : true ≡ false → ⊥
        clash h = cc
    differs there k e false d = d

    go : (b : Bool) → test id ≡ b → ((r : Queue) → ((k : ℕ) → test k ≡ false → IsOut k r) → each_emptied (filter test ids) r ≡ each_emptied ids r)
        → each_emptied (cond b (id ∷ filter test ids) (filter test ids)) q ≡ each_emptied ids (emptied_one id q)
    go true e ih = ih (emptied_one id q) (λ k f. out_beside k id q (differs e k f (k == id) refl) (out k f))
    go false e ih = ih q out ∙ ap (λ (r : Queue). each_emptied ids r) (sym (out_same id q (out id e)))

pub listed : (q : Queue) (es : Entries) → Has q es → streams_to_empty q.scheduler es ≡ filter (λ k. is_to_empty k (stream k q.streams) q.scheduler) (keys_of es)
listed q [] h = refl
listed q (e ∷ es) h =
    ap (λ (ids : List ℕ). cond (is_to_empty e.0 e.1 q.scheduler) (e.0 ∷ ids) ids) (listed q es h.1)
    ∙ ap (λ (s : Stream). cond (is_to_empty e.0 s q.scheduler) (e.0 ∷ filter (λ k. is_to_empty k (stream k q.streams) q.scheduler) (keys_of es)) (filter (λ k. is_to_empty k (stream k q.streams) q.scheduler) (keys_of es))) (sym h.0)

pub emptied_some : {P : Type 0} (q r : Queue) (t : Emitted P) (ids : List ℕ) → IsStrictlySortedBy nat_cmp (keys_of q.streams.entries) → ids ≡ streams_to_empty q.scheduler q.streams.entries → r ≡ each_emptied ids q → unbegun r ≡ (empty q t).queue
emptied_some q r t ids sorted is made =
    ap unbegun (
    made
    ∙ ap (λ (xs : List ℕ). each_emptied xs q) (is ∙ listed q q.streams.entries (has_all q sorted))
    ∙ others_out (λ k. is_to_empty k (stream k q.streams) q.scheduler) (keys_of q.streams.entries) q (λ k h. is_out k q h)
    )

-- ---- one after the other

abbrev pub names : List StreamId → List ℕ
names ids = map (λ id. id.0) ids

pub listed_more : (id : ℕ) (s : Stream) (sch : Scheduler) (ids : List ℕ) (es : Entries)
    → (ids ++ cond (is_to_empty id s sch) (id ∷ []) []) ++ streams_to_empty sch es ≡ ids ++ streams_to_empty sch ((id, s) ∷ es)
listed_more id s sch ids es = go (is_to_empty id s sch)
  where
    rest : List ℕ
    rest = streams_to_empty sch es

    go : (b : Bool) → (ids ++ cond b (id ∷ []) []) ++ rest ≡ ids ++ cond b (id ∷ rest) rest
    go true = append_assoc ids (id ∷ []) rest
    go false = ap (λ xs. xs ++ rest) (append-nil ids)
