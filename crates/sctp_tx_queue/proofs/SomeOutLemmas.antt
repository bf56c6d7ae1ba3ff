-- An association has ended: to go over the streams that may have changed or are active is enough.
use Rattle.std.proofs.Common.{◌≡◌, ℕ, suc, ◌+◌, ◌<◌, Bool, true, false, cond, List, [], ◌∷◌, ◌++◌, Option, Some, None, length, drop, get_or, refl, ap, sym, ◌∙◌, arith, add-one}
use Rattle.std.specs.Prelude.{unwrap_or, map, filter, not, ◌==◌, ◌&&◌, ◌||◌}
use Rattle.std.specs.List.{list_all}
use Rattle.std.specs.List.Sorted.{IsStrictlySortedBy}
use Rattle.std.specs.Map.{lookup, keys_of, values_of}
use Rattle.std.specs.Ordering.{nat_cmp}
use Rattle.std.specs.BTreeMap.{is_at}
use Rattle.std.proofs.Math.Seq.{drop-cons}
use Rattle.std.proofs.lemmas.Bool.{eqb-true, and_parts}
use Rattle.std.proofs.lemmas.List.{append_assoc, append-nil}
use Rattle.sctp_serial.specs.declared.api.StreamId.{StreamId}
use Rattle.sctp_state.specs.Events.{Emitted}
use Rattle.sctp_stream_scheduler.specs.StreamScheduler.{Scheduler, is_active}
use Rattle.sctp_tx_queue.specs.declared.send_queue.stream.PauseState.{PauseState}
use Rattle.sctp_tx_queue.specs.declared.send_queue.stream.PauseState.TheVariants.{NotPaused, Pending, Paused, Resetting}
use Rattle.sctp_tx_queue.specs.SendQueue.{Queued, Queue, Stream, Streams, Entries, blank, stream, sendable, is_stopped, front_left, has_nothing}
use Rattle.sctp_tx_queue.specs.Readiness.{waits, has_reset_pending}
use Rattle.sctp_tx_queue.specs.Bounded.{is_small, are_small}
use Rattle.sctp_tx_queue.specs.Restarted.{has_first_numbers, is_front_unbegun, is_restarted, is_in_line, is_settled_as, may_differ, OthersRest}
use Rattle.sctp_tx_queue.specs.Emptied.{emit_ended, emit_all_ended, is_to_empty, streams_to_empty}
use Rattle.sctp_tx_queue.proofs.BoundLemmas.{small_found, left_between}
use Rattle.sctp_tx_queue.proofs.InTurnLemmas.{Has, has_all}
use Rattle.sctp_tx_queue.proofs.OthersOutLemmas.{names, listed, none_waits}

-- ---- a stream that rests

nothing_waits : (p : PauseState) (ms : List Queued) → list_all is_small ms ≡ true → not (waits p) ≡ true → cond (is_stopped p) 0 (front_left ms) ≡ 0 → (length ms == 0) ≡ true
nothing_waits p [] small flows zero = refl
nothing_waits NotPaused (m ∷ rest) small flows zero = absurd (omega (arith, zero, (left_between m.offset (length m.payload) (and_parts (is_small m) (list_all is_small rest) small).0).0))
nothing_waits Pending (m ∷ rest) small flows zero = absurd (cc)
nothing_waits Paused (m ∷ rest) small flows zero = absurd (cc)
nothing_waits Resetting (m ∷ rest) small flows zero = absurd (cc)

nothing_in_line : (bytes : ℕ) (active : Bool) → cond (bytes == 0) (not active) active ≡ true → active ≡ false → bytes ≡ 0
nothing_in_line bytes active line inactive = go (bytes == 0) refl line
  where
    go : (b : Bool) → (bytes == 0) ≡ b → cond b (not active) active ≡ true → bytes ≡ 0
    go true e line = eqb-true bytes 0 e
    go false e line = absurd (cc)

rests : (k : ℕ) (ss : Streams) (sch : Scheduler) → list_all are_small (values_of ss.entries) ≡ true → is_settled_as k (lookup (is_at (nat_cmp k)) ss.entries) sch ≡ true → is_active k sch ≡ false
    → is_to_empty k (stream k ss) sch ≡ false
rests k ss sch small settled inactive = go (lookup (is_at (nat_cmp k)) ss.entries) refl settled
  where
    go : (o : Option Stream) → lookup (is_at (nat_cmp k)) ss.entries ≡ o → is_settled_as k o sch ≡ true → is_to_empty k (unwrap_or o (blank ss)) sch ≡ false
    go None e h = inactive
    go (Some s) e h =
        let settled = and_parts (is_restarted s) (is_in_line k (sendable s) sch) h in
        let flows = (and_parts (not (has_reset_pending s)) (has_first_numbers s && is_front_unbegun s.messages) settled.0).0 in
        let zero = nothing_in_line (sendable s) (is_active k sch) settled.1 inactive in
        let none : has_nothing s ≡ true = nothing_waits s.pause s.messages (small_found (is_at (nat_cmp k)) ss.entries s (sym e) small) flows zero in
        ap (λ b. not b || is_active k sch) none ∙ inactive

-- ---- those that may have changed

some_of : (test part : ℕ → Bool) (xs : List ℕ) → ((k : ℕ) → test k ≡ false → part k ≡ false) → filter part (filter test xs) ≡ filter part xs
some_of test part [] out = refl
some_of test part (x ∷ xs) out = go (test x) refl (some_of test part xs out)
  where
    go : (b : Bool) → test x ≡ b → filter part (filter test xs) ≡ filter part xs → filter part (cond b (x ∷ filter test xs) (filter test xs)) ≡ cond (part x) (x ∷ filter part xs) (filter part xs)
    go true e ih = ap (λ (ys : List ℕ). cond (part x) (x ∷ ys) ys) ih
    go false e ih = ih ∙ sym (ap (λ b. cond b (x ∷ filter part xs) (filter part xs)) (out x e))

emitted_of_some : {P : Type 0} (test : ℕ → Bool) (q : Queue) (es : Entries) (t : Emitted P) → Has q es → ((k : ℕ) → test k ≡ false → (stream k q.streams).messages ≡ [])
    → emit_all_ended (map (λ k. stream k q.streams) (filter test (keys_of es))) t ≡ emit_all_ended (values_of es) t
emitted_of_some test q [] t has out = refl
emitted_of_some {P} test q (e ∷ es) t has out = go (test e.0) refl (λ u. emitted_of_some test q es u has.1 out)
  where
    some : List ℕ
    some = filter test (keys_of es)

    go : (b : Bool) → test e.0 ≡ b → ((u : Emitted P) → emit_all_ended (map (λ k. stream k q.streams) some) u ≡ emit_all_ended (values_of es) u)
        → emit_all_ended (map (λ k. stream k q.streams) (cond b (e.0 ∷ some) some)) t ≡ emit_all_ended (values_of es) (emit_ended e.1.messages t)
    go true h ih = ih (emit_ended (stream e.0 q.streams).messages t) ∙ ap (λ (s : Stream). emit_all_ended (values_of es) (emit_ended s.messages t)) has.0
    go false h ih = ih t ∙ sym (ap (λ (ms : List Queued). emit_all_ended (values_of es) (emit_ended ms t)) (ap (λ (s : Stream). s.messages) (sym has.0) ∙ out e.0 h))

module _ (log : Option (List ℕ)) (ss : Streams) (sch : Scheduler) (sorted : IsStrictlySortedBy nat_cmp (keys_of ss.entries)) (small : list_all are_small (values_of ss.entries) ≡ true) (rest : OthersRest log ss sch) where
  abbrev held : Queue
  held = record { streams = ss; scheduler = sch; next_number = 0; begun = None }

  out : (k : ℕ) → may_differ log k ≡ false → is_to_empty k (stream k ss) sch ≡ false
  out k e = let r = rest k e in rests k ss sch small r.0 r.1

  pub some_listed : filter (λ k. is_to_empty k (stream k ss) sch) (filter (may_differ log) (keys_of ss.entries)) ≡ streams_to_empty sch ss.entries
  some_listed = some_of (may_differ log) (λ k. is_to_empty k (stream k ss) sch) (keys_of ss.entries) out ∙ sym (listed held ss.entries (has_all held sorted))

  pub some_emitted : {P : Type 0} (t : Emitted P) → emit_all_ended (map (λ k. stream k ss) (filter (may_differ log) (keys_of ss.entries))) t ≡ emit_all_ended (values_of ss.entries) t
  some_emitted t = emitted_of_some (may_differ log) held ss.entries t (has_all held sorted) (λ k e. none_waits k (stream k ss) sch (out k e))

-- ---- one after the other

pub next_listed : (test : ℕ → Bool) (ids : List StreamId) (i : ℕ) (none : StreamId) (found : List ℕ) → i < length ids
    → (found ++ cond (test (get_or ids i none).0) ((get_or ids i none).0 ∷ []) []) ++ filter test (names (drop (i + 1) ids)) ≡ found ++ filter test (names (drop i ids))
next_listed test ids i none found more =
    ap (λ n. (found ++ cond (test x) (x ∷ []) []) ++ filter test (names (drop n ids))) (add-one i) ∙ go (test x) ∙ sym (ap (λ (xs : List StreamId). found ++ filter test (names xs)) (drop-cons ids i none more))
  where
    x : ℕ
    x = (get_or ids i none).0

    rest : List ℕ
    rest = filter test (names (drop (suc i) ids))

    go : (b : Bool) → (found ++ cond b (x ∷ []) []) ++ rest ≡ found ++ cond b (x ∷ rest) rest
    go true = append_assoc found (x ∷ []) rest
    go false = ap (λ xs. xs ++ rest) (append-nil found)

pub next_emitted : {P : Type 0} (ss : Streams) (ids : List StreamId) (i : ℕ) (none : StreamId) (t u : Emitted P) → i < length ids → u ≡ emit_ended (stream (get_or ids i none).0 ss).messages t
    → emit_all_ended (map (λ k. stream k ss) (names (drop (i + 1) ids))) u ≡ emit_all_ended (map (λ k. stream k ss) (names (drop i ids))) t
next_emitted {P} ss ids i none t u more ended =
    ap (λ n. emit_all_ended (map (λ k. stream k ss) (names (drop n ids))) u) (add-one i)
    ∙ ap (λ (v : Emitted P). emit_all_ended (map (λ k. stream k ss) (names (drop (suc i) ids))) v) ended
    ∙ sym (ap (λ (xs : List StreamId). emit_all_ended (map (λ k. stream k ss) (names xs)) t) (drop-cons ids i none more))
