-- Each stream stands once in the queue, ascending by id; so the streams that go into a request are ready, and are each of them once.
use Rattle.std.proofs.Common.{◌≡◌, ◌≢◌, ℕ, zero, suc, ◌+◌, ◌≤◌, Bool, true, false, cond, inl, inr, Option, Some, List, [], ◌∷◌, take, refl, ap, ◌∙◌, subst, arith}
use Rattle.std.specs.Prelude.{nat_le, ◌&&◌, is_some, unwrap_or}
use Rattle.std.specs.Map.{lookup, set_value, keys_of}
use Rattle.std.specs.Ordering.{nat_cmp}
use Rattle.std.specs.BTreeMap.{is_at, insert_entry}
use Rattle.std.proofs.lemmas.Bool.{and_parts, cond-true, cond-false, leb-true}
use Rattle.sctp_state.specs.Events.{Emitted}
use Rattle.sctp_tx_queue.specs.declared.send_queue.stream.PauseState.{PauseState}
use Rattle.sctp_tx_queue.specs.declared.send_queue.stream.PauseState.TheVariants.{NotPaused, Pending, Paused, Resetting}
use Rattle.sctp_tx_queue.specs.declared.send_queue.stream.ResetStep.{ResetStep}
use Rattle.sctp_tx_queue.specs.SendQueue as queue
use Rattle.sctp_tx_queue.specs.SendQueue.{Queue, Stream, Streams, Entries, stream, with_stream, blank}
use Rattle.sctp_tx_queue.specs.Produced.{without_stale, streams_without_stale, advance, turn}
use Rattle.sctp_tx_queue.specs.Settings.{without_front, streams_discarded, front_discarded, discard}
use Rattle.sctp_tx_queue.specs.Resets.{is_paused, is_ready, ready, streams_to_request, after_step, apply_reset_step, each_stepped}
use Rattle.sctp_tx_queue.specs.Restarted.{restart, restarted_one, each_restarted, reset}
use Rattle.sctp_tx_queue.proofs.InOrderLemmas.{discard_streams}
use Rattle.proof_protocol.specs.State.{IsAmong}
use Rattle.proof_refines.specs.Line.{are_ascending}
use Rattle.proof_refines.specs.Pauses.{AreEach}
use Rattle.proof_refines.proofs.LineLemmas.{inserted_ascending}
use Rattle.sctp_serial.proofs.NumberLemmas.{at_same, at_other}

-- ---- entries

-- another value in its place
set_keyed : (id least : ℕ) (s : Stream) (es : Entries) → are_ascending least (set_value (is_at (nat_cmp id)) es s) ≡ are_ascending least es
set_keyed id least s [] = refl
set_keyed id least s (e ∷ es) = go (is_at (nat_cmp id) e.0) (set_keyed id (e.0 + 1) s es)
  where
    go : (b : Bool) → are_ascending (e.0 + 1) (set_value (is_at (nat_cmp id)) es s) ≡ are_ascending (e.0 + 1) es
        → are_ascending least (cond b ((e.0, s) ∷ es) (e ∷ set_value (is_at (nat_cmp id)) es s)) ≡ are_ascending least (e ∷ es)
    go true h = refl
    go false h = ap (λ c. nat_le least e.0 && c) h

-- ---- the calls

pub put_keyed : (id : ℕ) (s : Stream) (ss : Streams) → are_ascending 0 ss.entries ≡ true → are_ascending 0 (queue.put_stream id s ss).entries ≡ true
put_keyed id s ss h = set_keyed id 0 s ss.entries ∙ h

opened_keyed : (id : ℕ) (ss : Streams) → are_ascending 0 ss.entries ≡ true → are_ascending 0 (with_stream id ss).entries ≡ true
opened_keyed id ss h = go (is_some (lookup (is_at (nat_cmp id)) ss.entries))
  where
    opened_if : Bool → Streams
    opened_if b =
        let r : Streams = record ss { entries = insert_entry nat_cmp ss.entries id (blank ss) } in
        cond b ss r

    go : (b : Bool) → are_ascending 0 (opened_if b).entries ≡ true
    go true = h
    go false = inserted_ascending id (blank ss) 0 ss.entries (omega arith) h

-- of a stream that is opened where it isn't there
pub written_keyed : (id : ℕ) (s : Stream) (ss : Streams) → are_ascending 0 ss.entries ≡ true → are_ascending 0 (queue.put_stream id s (with_stream id ss)).entries ≡ true
written_keyed id s ss h = put_keyed id s (with_stream id ss) (opened_keyed id ss h)

pub steps_keyed : (step : ResetStep) (ids : List ℕ) (q : Queue) → are_ascending 0 q.streams.entries ≡ true → are_ascending 0 (each_stepped step ids q).streams.entries ≡ true
steps_keyed step [] q h = h
steps_keyed step (id ∷ ids) q h = steps_keyed step ids (apply_reset_step step id q) (put_keyed id (after_step step (stream id q.streams)) q.streams h)

each_restart_keyed : (ids : List ℕ) (q : Queue) → are_ascending 0 q.streams.entries ≡ true → are_ascending 0 (each_restarted ids q).streams.entries ≡ true
each_restart_keyed [] q h = h
each_restart_keyed (id ∷ ids) q h = each_restart_keyed ids (restarted_one id q) (put_keyed id (restart (stream id q.streams)) q.streams h)

pub reset_keyed : (q : Queue) → are_ascending 0 q.streams.entries ≡ true → are_ascending 0 (reset q).streams.entries ≡ true
reset_keyed q h = each_restart_keyed (keys_of q.streams.entries) q h

pub discard_keyed : {P : Type 0} (id number : ℕ) (q : Queue) (emitted : Emitted P) → are_ascending 0 q.streams.entries ≡ true → are_ascending 0 (discard id number q emitted).queue.streams.entries ≡ true
discard_keyed id number q emitted h =
    let s : Stream = stream id q.streams in
    ap (λ (ss : Streams). are_ascending 0 ss.entries) (discard_streams id (streams_discarded id number q.streams) (front_discarded number s.messages) q emitted)
    ∙ put_keyed id (without_front number s.messages s) q.streams h

pub turn_keyed : {P : Type 0} (now id size : ℕ) (q : Queue) (emitted : Emitted P) → are_ascending 0 q.streams.entries ≡ true → are_ascending 0 (turn now id size q emitted).queue.streams.entries ≡ true
turn_keyed now id size q emitted h =
    let ss : Streams = streams_without_stale now id q.streams in
    put_keyed id (advance size (stream id ss)) ss (put_keyed id (without_stale now (stream id q.streams)) q.streams h)

-- ---- streams that are ready

record IsReady (id least : ℕ) (es : Entries) : Type 0 where
  above : least ≤ id
  stream_is : Stream
  there : lookup (is_at (nat_cmp id)) es ≡ Some stream_is
  paused : stream_is.pause ≡ Paused

paused_is : (p : PauseState) → is_paused p ≡ true → p ≡ Paused
paused_is NotPaused e = absurd (cc)
paused_is Pending e = absurd (cc)
paused_is Paused e = refl
paused_is Resetting e = absurd (cc)

is_ready_in : (least : ℕ) (es : Entries) → are_ascending least es ≡ true → (id : ℕ) → IsAmong id (ready es) → IsReady id least es
is_ready_in least [] h id a = absurd a
is_ready_in least (e ∷ es) h id a =
    go (is_ready e.1) refl a (λ m. is_ready_in (e.0 + 1) es (and_parts (nat_le least e.0) (are_ascending (e.0 + 1) es) h).1 id m)
  where
    low : least ≤ e.0
    low = leb-true least e.0 (and_parts (nat_le least e.0) (are_ascending (e.0 + 1) es) h).0

    later : IsReady id (e.0 + 1) es → IsReady id least (e ∷ es)
    later r =
        let above = r.above in
        record {
          above = omega (arith, above, low);
          stream_is = r.stream_is;
          there = cond-false (is_at (nat_cmp id) e.0) (Some e.1) (lookup (is_at (nat_cmp id)) es) (at_other id e.0 (λ c. omega (arith, c, above))) ∙ r.there;
          paused = r.paused;
        }

    first : id ≡ e.0 → is_ready e.1 ≡ true → IsReady id least (e ∷ es)
    first c f = record {
      above = omega (arith, c, low);
      stream_is = e.1;
      there = cond-true (is_at (nat_cmp id) e.0) (Some e.1) (lookup (is_at (nat_cmp id)) es) (at_same id e.0 c);
      paused = paused_is e.1.pause f;
    }

    go : (b : Bool) → is_ready e.1 ≡ b → IsAmong id (cond (is_ready e.1) (e.0 ∷ ready es) (ready es)) → (IsAmong id (ready es) → IsReady id (e.0 + 1) es) → IsReady id least (e ∷ es)
    go false f m ih = later (ih (subst (IsAmong id) (cond-false (is_ready e.1) (e.0 ∷ ready es) (ready es) f) m))
    go true f m ih = elim (subst (IsAmong id) (cond-true (is_ready e.1) (e.0 ∷ ready es) (ready es) f) m) [
      | inl c ↦ first c f
      | inr n ↦ later (ih n)
    ]

-- each id stands once
abbrev AreOnce : List ℕ → Type 0
AreOnce [] = Unit {0}
AreOnce (id ∷ ids) = ((j : ℕ) → IsAmong j ids → id ≢ j) × AreOnce ids

ready_once : (least : ℕ) (es : Entries) → are_ascending least es ≡ true → AreOnce (ready es)
ready_once least [] h = tt
ready_once least (e ∷ es) h =
    let k = (and_parts (nat_le least e.0) (are_ascending (e.0 + 1) es) h).1 in
    go (is_ready e.1) k (ready_once (e.0 + 1) es k)
  where
    go : (b : Bool) → are_ascending (e.0 + 1) es ≡ true → AreOnce (ready es) → AreOnce (cond b (e.0 ∷ ready es) (ready es))
    go true k ih = ((λ j a c. let above = (is_ready_in (e.0 + 1) es k j a).above in omega (arith, c, above)), ih)
    go false k ih = ih

among_taken : (n id : ℕ) (ids : List ℕ) → IsAmong id (take n ids) → IsAmong id ids
among_taken zero id ids a = absurd a
among_taken (suc n) id [] a = absurd a
among_taken (suc n) id (j ∷ ids) (inl e) = inl e
among_taken (suc n) id (j ∷ ids) (inr a) = inr (among_taken n id ids a)

taken_once : (n : ℕ) (ids : List ℕ) → AreOnce ids → AreOnce (take n ids)
taken_once zero ids h = tt
taken_once (suc n) [] h = tt
taken_once (suc n) (id ∷ ids) h = ((λ j a. h.0 j (among_taken n j ids a)), taken_once n ids h.1)

each_is : (p : PauseState) (q : Queue) (ids : List ℕ) → AreOnce ids → ((id : ℕ) → IsAmong id ids → (stream id q.streams).pause ≡ p) → AreEach p q ids
each_is p q [] once h = tt
each_is p q (id ∷ ids) once h = (h id (inl refl), once.0, each_is p q ids once.1 (λ j a. h j (inr a)))

pub requested_ready : (q : Queue) (most : ℕ) → are_ascending 0 q.streams.entries ≡ true → AreEach Paused q (streams_to_request most q)
requested_ready q most h = each_is Paused q (streams_to_request most q) (taken_once most (ready q.streams.entries) (ready_once 0 q.streams.entries h)) paused
  where
    paused : (id : ℕ) → IsAmong id (streams_to_request most q) → (stream id q.streams).pause ≡ Paused
    paused id a =
        let r = is_ready_in 0 q.streams.entries h id (among_taken most id (ready q.streams.entries) a) in
        ap (λ (o : Option Stream). let s : Stream = unwrap_or o (blank q.streams) in s.pause) r.there ∙ r.paused
