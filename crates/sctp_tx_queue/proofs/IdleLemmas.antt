-- An association has ended where nothing waits: all stays as it is.
use Rattle.std.proofs.Common.{◌≡◌, ℕ, Bool, true, false, cond, List, [], ◌∷◌, Option, Some, None, length, refl, ap, sym, ◌∙◌, arith}
use Rattle.std.specs.Prelude.{not, is_some, unwrap_or, ◌==◌, ◌&&◌}
use Rattle.std.specs.List.{list_all}
use Rattle.std.specs.Map.{lookup, remove_entry, keys_of, values_of}
use Rattle.std.specs.Ordering.{nat_cmp}
use Rattle.std.specs.BTreeMap.{is_at}
use Rattle.std.proofs.lemmas.Bool.{and_parts, eqb-true}
use Rattle.sctp_state.specs.Events.{Emitted}
use Rattle.sctp_stream_scheduler.specs.StreamScheduler.{Times, Scheduler, set_bytes_remaining}
use Rattle.sctp_tx_queue.specs.SendQueue.{Queue, Stream, Streams, Entries, blank, stream, put_stream, sendable, set_sendable, has_nothing, is_empty}
use Rattle.sctp_tx_queue.specs.Restarted.{unbegun}
use Rattle.sctp_tx_queue.specs.Emptied.{emptied, emptied_one, each_emptied, emit_ended, emit_each_ended, empty, is_idle}
use Rattle.sctp_tx_queue.proofs.EmptiedLemmas.{nothing_sendable, empty_is}
use Rattle.sctp_tx_queue.proofs.SettledLemmas.{put_back}

none_begun : (q : Queue) → q.begun ≡ None → unbegun q ≡ q
none_begun q h = ap (λ b. let r : Queue = record q { begun = b } in r) (sym h)

pub none_of : {X : Type 0} (xs : List X) → (length xs == 0) ≡ true → xs ≡ []
none_of {X} xs h = go xs (eqb-true (length xs) 0 h)
  where
    go : (ys : List X) → length ys ≡ 0 → ys ≡ []
    go [] e = refl
    go (y ∷ ys) e = absurd (omega (arith, e))

-- what is looked up has no messages
has_none : (id : ℕ) (es : Entries) (s : Stream) → s.messages ≡ [] → list_all has_nothing (values_of es) ≡ true → (unwrap_or (lookup (is_at (nat_cmp id)) es) s).messages ≡ []
has_none id [] s none h = none
has_none id (e ∷ es) s none h =
    let p = and_parts (has_nothing e.1) (list_all has_nothing (values_of es)) h in
    go (is_at (nat_cmp id) e.0) (none_of e.1.messages p.0) (has_none id es s none p.1)
  where
    go : (b : Bool) → e.1.messages ≡ [] → (unwrap_or (lookup (is_at (nat_cmp id)) es) s).messages ≡ [] → (unwrap_or (cond b (Some e.1) (lookup (is_at (nat_cmp id)) es)) s).messages ≡ []
    go true here ih = here
    go false here ih = ih

module _ (q : Queue) (nothing : is_empty q ≡ true) (out : q.scheduler.times ≡ []) where
  one_same : (id : ℕ) → emptied_one id q ≡ q
  one_same id =
      let s : Stream = stream id q.streams in
      let none : s.messages ≡ [] = has_none id q.streams.entries (blank q.streams) refl nothing in
      let streams : put_stream id (emptied s) q.streams ≡ q.streams = ap (λ t. put_stream id t q.streams) (sym (empty_is s none)) ∙ put_back id q.streams in
      let zero : sendable s ≡ 0 = ap sendable (empty_is s none) ∙ nothing_sendable s in
      let line : set_sendable id s q.scheduler ≡ q.scheduler =
      ap (λ n. set_bytes_remaining id n s.priority q.scheduler) zero
      ∙ ap (λ (ts : Times). let r : Scheduler = record q.scheduler { times = remove_entry (is_at (nat_cmp id)) ts } in r) out
      ∙ ap (λ (ts : Times). let r : Scheduler = record q.scheduler { times = ts } in r) (sym out) in
      ap (λ (ss : Streams). let r : Queue = record q { streams = ss; scheduler = set_sendable id (stream id ss) q.scheduler } in r) streams
      ∙ ap (λ (sch : Scheduler). let r : Queue = record q { scheduler = sch } in r) line

  each_same : (ids : List ℕ) → each_emptied ids q ≡ q
  each_same [] = refl
  each_same (id ∷ ids) = ap (λ r. each_emptied ids r) (one_same id) ∙ each_same ids

  none_emitted : {P : Type 0} (ids : List ℕ) (emitted : Emitted P) → emit_each_ended ids q emitted ≡ emitted
  none_emitted [] emitted = refl
  none_emitted (id ∷ ids) emitted =
      ap (λ r. emit_each_ended ids r (emit_ended (stream id q.streams).messages emitted)) (one_same id)
      ∙ ap (λ ms. emit_each_ended ids q (emit_ended ms emitted)) (has_none id q.streams.entries (blank q.streams) refl nothing)
      ∙ none_emitted ids emitted

pub record IsSame {P : Type 0} (q : Queue) (t : Emitted P) : Type 0 where
  pub queue : q ≡ (empty q t).queue
  pub emitted : t ≡ (empty q t).emitted

pub idle_same : {P : Type 0} (q : Queue) (emitted : Emitted P) → is_idle q ≡ true → IsSame q emitted
idle_same q emitted h =
    let a = and_parts (not (is_some q.begun)) (is_empty q && (length q.scheduler.times == 0)) h in
    let b = and_parts (is_empty q) (length q.scheduler.times == 0) a.1 in
    let out = none_of q.scheduler.times b.1 in
    record {
      queue = sym (none_begun q (unbegun_is q.begun a.0)) ∙ ap unbegun (sym (each_same q b.0 out (keys_of q.streams.entries)));
      emitted = sym (none_emitted q b.0 out (keys_of q.streams.entries) emitted);
    }
  where
    unbegun_is : (o : Option ℕ) → not (is_some o) ≡ true → o ≡ None
    unbegun_is None h = refl
    unbegun_is (Some n) h = absurd (cc)
