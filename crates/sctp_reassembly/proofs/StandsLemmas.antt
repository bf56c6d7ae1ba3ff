-- What a call on all streams, or on the queue, leaves where memory runs out before its end.
use Rattle.std.proofs.Common.{◌≡◌, ℕ, suc, ◌+◌, ◌-◌, ◌<◌, ◌^◌, ◌⊎◌, Bool, true, false, cond, List, [], ◌∷◌, ◌++◌, length, drop, get_or, refl, ap, sym, ◌∙◌, arith, append_assoc, append-nil, inl, inr, length-append, drop-cons}
use Rattle.sctp_serial.specs.Messages.{Message}
use Rattle.sctp_chunk.specs.Chunk.{FragmentTree}
use Rattle.sctp_chunk.specs.declared.forward_tsn.SkippedStream.{SkippedStream}
use Rattle.sctp_fragments.specs.Held.{Held}
use Rattle.sctp_reassembly.specs.Delivery.{OrderedStream, OrderedDelivery, UnorderedStream, UnorderedDelivery, fresh_ordered, fresh_unordered, unordered_forward}
use Rattle.sctp_reassembly.specs.ReassemblyStreams.{Entries, stream_at, set_stream, Streams, Outcome, is_far, held_as, ordered_number, unordered_number, with_ordered, with_unordered, unchanged, skip_unordered, followed_by, skip, skip_each, by_stream, dropped_to}
use Rattle.sctp_reassembly.specs.ReassemblyQueue.{Reassembly, Waiting, apply, apply_outcome, forward_now, saturating_sum}
use Rattle.sctp_reassembly.specs.InterruptedStreams.{ordered_arrival_in_part, ordered_forward_in_part, unordered_arrival_in_part, Stands, add_ordered_in_part, add_unordered_in_part, add_to_stream_in_part, add_in_part, skip_ordered_in_part, skip_in_part, skip_each_in_part}
use Rattle.sctp_reassembly.specs.InterruptedQueue.{apply_in_part, apply_each_in_part, forward_now_in_part}

-- ---- the streams of an association, where one of a map changed

pub stands_ordered : (ss : Streams) (outcome : ℕ → Outcome) (id : ℕ) (d : ℕ → OrderedDelivery) (new : Entries OrderedStream) (before ready : List Message) → outcome 0 ≡ unchanged ss → ((steps : ℕ) → outcome (suc steps) ≡ with_ordered id (d steps) ss)
    → ((new ≡ ss.ordered) × (ready ≡ before)) ⊎ ((steps : ℕ) × ((new ≡ set_stream fresh_ordered id (d steps).stream ss.ordered) × (ready ≡ before ++ (d steps).messages)))
    → (steps : ℕ) × Stands (outcome steps) before (record ss { ordered = new }) ready
stands_ordered ss outcome id d new before ready none some left =
    elim left [
      | inl (same, silent) ↦ (
        0,
        record {
          streams = ap (λ (t : Entries OrderedStream). record ss { ordered = t }) same ∙ sym (ap (λ (o : Outcome). o.streams) none);
          messages = silent ∙ (sym (append-nil before) ∙ sym (ap (λ (o : Outcome). before ++ o.messages) none));
        },
      )
      | inr (steps, (made, more)) ↦ (
        suc steps,
        record {
          streams = ap (λ (t : Entries OrderedStream). record ss { ordered = t }) made ∙ sym (ap (λ (o : Outcome). o.streams) (some steps));
          messages = more ∙ sym (ap (λ (o : Outcome). before ++ o.messages) (some steps));
        },
      )
    ]

pub stands_unordered : (ss : Streams) (outcome : ℕ → Outcome) (id : ℕ) (d : ℕ → UnorderedDelivery) (new : Entries UnorderedStream) (before ready : List Message) → outcome 0 ≡ unchanged ss → ((steps : ℕ) → outcome (suc steps) ≡ with_unordered id (d steps) ss)
    → ((new ≡ ss.unordered) × (ready ≡ before)) ⊎ ((steps : ℕ) × ((new ≡ set_stream fresh_unordered id (d steps).stream ss.unordered) × (ready ≡ before ++ (d steps).messages)))
    → (steps : ℕ) × Stands (outcome steps) before (record ss { unordered = new }) ready
stands_unordered ss outcome id d new before ready none some left =
    elim left [
      | inl (same, silent) ↦ (
        0,
        record {
          streams = ap (λ (t : Entries UnorderedStream). record ss { unordered = t }) same ∙ sym (ap (λ (o : Outcome). o.streams) none);
          messages = silent ∙ (sym (append-nil before) ∙ sym (ap (λ (o : Outcome). before ++ o.messages) none));
        },
      )
      | inr (steps, (made, more)) ↦ (
        suc steps,
        record {
          streams = ap (λ (t : Entries UnorderedStream). record ss { unordered = t }) made ∙ sym (ap (λ (o : Outcome). o.streams) (some steps));
          messages = more ∙ sym (ap (λ (o : Outcome). before ++ o.messages) (some steps));
        },
      )
    ]

module _ (ss : Streams) (tsn id : ℕ) (f : FragmentTree) (x : Held) (stream : f.stream_id ≡ id) (steps : ℕ) where
  pub arrives_ordered : f.is_unordered ≡ false → is_far (ordered_number ss.is_interleaved f (stream_at fresh_ordered id ss.ordered)) ≡ false → x ≡ held_as ss.is_interleaved (ordered_number ss.is_interleaved f (stream_at fresh_ordered id ss.ordered)) tsn f
      → add_in_part (suc steps) tsn f ss ≡ with_ordered id (ordered_arrival_in_part steps x (stream_at fresh_ordered id ss.ordered)) ss
  arrives_ordered kind near is =
      ap (λ (b : Bool). add_to_stream_in_part b steps tsn f ss) kind
      ∙ (ap (λ (i : ℕ). add_ordered_in_part steps i (held_as ss.is_interleaved (ordered_number ss.is_interleaved f (stream_at fresh_ordered i ss.ordered)) tsn f) ss) stream
      ∙ (ap (λ (b : Bool). cond b (unchanged ss) (with_ordered id (ordered_arrival_in_part steps (held_as ss.is_interleaved (ordered_number ss.is_interleaved f (stream_at fresh_ordered id ss.ordered)) tsn f) (stream_at fresh_ordered id ss.ordered)) ss)) near
      ∙ ap (λ (h : Held). with_ordered id (ordered_arrival_in_part steps h (stream_at fresh_ordered id ss.ordered)) ss) (sym is)))

  pub arrives_unordered : f.is_unordered ≡ true → is_far (unordered_number ss.is_interleaved f (stream_at fresh_unordered id ss.unordered)) ≡ false → x ≡ held_as ss.is_interleaved (unordered_number ss.is_interleaved f (stream_at fresh_unordered id ss.unordered)) tsn f
      → add_in_part (suc steps) tsn f ss ≡ with_unordered id (unordered_arrival_in_part steps x (stream_at fresh_unordered id ss.unordered)) ss
  arrives_unordered kind near is =
      ap (λ (b : Bool). add_to_stream_in_part b steps tsn f ss) kind
      ∙ (ap (λ (i : ℕ). add_unordered_in_part steps i (held_as ss.is_interleaved (unordered_number ss.is_interleaved f (stream_at fresh_unordered i ss.unordered)) tsn f) ss) stream
      ∙ (ap (λ (b : Bool). cond b (unchanged ss) (with_unordered id (unordered_arrival_in_part steps (held_as ss.is_interleaved (unordered_number ss.is_interleaved f (stream_at fresh_unordered id ss.unordered)) tsn f) (stream_at fresh_unordered id ss.unordered)) ss)) near
      ∙ ap (λ (h : Held). with_unordered id (unordered_arrival_in_part steps h (stream_at fresh_unordered id ss.unordered)) ss) (sym is)))

pub forwards : (ss : Streams) (id n steps : ℕ) → is_far n ≡ false → skip_ordered_in_part steps id n ss ≡ with_ordered id (ordered_forward_in_part steps n (stream_at fresh_ordered id ss.ordered)) ss
forwards ss id n steps near = ap (λ (b : Bool). cond b (unchanged ss) (with_ordered id (ordered_forward_in_part steps n (stream_at fresh_ordered id ss.ordered)) ss)) near

pub forwards_unordered : (ss : Streams) (id n : ℕ) → is_far n ≡ false → skip_unordered id n ss ≡ with_unordered id (record { stream = unordered_forward n (stream_at fresh_unordered id ss.unordered); messages = [] }) ss
forwards_unordered ss id n near =
    ap (λ (b : Bool). cond b (unchanged ss) (record { streams = record ss { unordered = set_stream fresh_unordered id (unordered_forward n (stream_at fresh_unordered id ss.unordered)) ss.unordered }; messages = [] })) near

-- what became ready is counted
pub applied_in_part : (o : Outcome) (r : Reassembly) (ss : Streams) (ready : List Message) (n : ℕ) → n ≡ saturating_sum r.ready_count (length ready - length r.ready) → Stands o r.ready ss ready → record r { streams = ss; ready = ready; ready_count = n } ≡ apply_outcome o r
applied_in_part o r ss ready n is stands =
    ap (λ (t : Streams). record r { streams = t; ready = ready; ready_count = n }) stands.streams
    ∙ (ap (λ (ms : List Message). record r { streams = o.streams; ready = ms; ready_count = n }) stands.messages
    ∙ ap (λ (k : ℕ). record r { streams = o.streams; ready = r.ready ++ o.messages; ready_count = k }) counted)
  where
    counted : n ≡ saturating_sum r.ready_count (length o.messages)
    counted = omega (arith, is, ap length stands.messages, length-append r.ready o.messages)

-- ---- entries of a forward point

-- what is done in part from here is done in part from the start
pub record SkipsGoOn (es : List SkippedStream) (ss : Streams) (ready : List Message) (all : List SkippedStream) (first : Streams) (before : List Message) : Type 0 where
  pub total : ℕ → ℕ → ℕ
  pub streams : (taken steps : ℕ) → (skip_each_in_part taken steps es ss).streams ≡ (skip_each_in_part (total taken steps) steps all first).streams
  pub messages : (taken steps : ℕ) → ready ++ (skip_each_in_part taken steps es ss).messages ≡ before ++ (skip_each_in_part (total taken steps) steps all first).messages

pub skips_begin : (es : List SkippedStream) (ss : Streams) (ready : List Message) → SkipsGoOn es ss ready es ss ready
skips_begin es ss ready = record { total = λ taken steps. taken; streams = λ taken steps. refl; messages = λ taken steps. refl }

module _ (es : List SkippedStream) (i : ℕ) (d : SkippedStream) (h : i < length es) (ss : Streams) (ready : List Message) where
  abbrev entry : SkippedStream
  entry = get_or es i d

  abbrev rest : List SkippedStream
  rest = drop (i + 1) es

  rest_is : drop i es ≡ entry ∷ rest
  rest_is = let up : suc i ≡ i + 1 = omega arith in drop-cons es i d h ∙ ap (λ (k : ℕ). entry ∷ drop k es) up

  module _ (new : Streams) (pushed : List Message) (made : new ≡ (skip (get_or es i d) ss).streams) (more : pushed ≡ ready ++ (skip (get_or es i d) ss).messages) where
    joined : (o : Outcome) → pushed ++ o.messages ≡ ready ++ (followed_by (skip entry ss) o).messages
    joined o = ap (λ (t : List Message). t ++ o.messages) more ∙ append_assoc ready (skip entry ss).messages o.messages

    pub streams_after : (whole : Streams) → (skip_each (drop i es) ss).streams ≡ whole → (skip_each (drop (i + 1) es) new).streams ≡ whole
    streams_after whole before = ap (λ (t : Streams). (skip_each rest t).streams) made ∙ (ap (λ (t : List SkippedStream). (skip_each t ss).streams) (sym rest_is) ∙ before)

    pub messages_after : (whole : List Message) → ready ++ (skip_each (drop i es) ss).messages ≡ whole → pushed ++ (skip_each (drop (i + 1) es) new).messages ≡ whole
    messages_after whole before =
        ap (λ (t : Streams). pushed ++ (skip_each rest t).messages) made
        ∙ (joined (skip_each rest (skip entry ss).streams)
        ∙ (ap (λ (t : List SkippedStream). ready ++ (skip_each t ss).messages) (sym rest_is) ∙ before))

    pub skips_step : (first : Streams) (before : List Message) → SkipsGoOn (drop i es) ss ready es first before → SkipsGoOn (drop (i + 1) es) new pushed es first before
    skips_step first before on = record {
      total = λ taken steps. on.total (suc taken) steps;
      streams = λ taken steps.
          ap (λ (t : Streams). (skip_each_in_part taken steps rest t).streams) made ∙ (ap (λ (t : List SkippedStream). (skip_each_in_part (suc taken) steps t ss).streams) (sym rest_is) ∙ on.streams (suc taken) steps);
      messages = λ taken steps.
          ap (λ (t : Streams). pushed ++ (skip_each_in_part taken steps rest t).messages) made
          ∙ (joined (skip_each_in_part taken steps rest (skip entry ss).streams)
          ∙ (ap (λ (t : List SkippedStream). ready ++ (skip_each_in_part (suc taken) steps t ss).messages) (sym rest_is) ∙ on.messages (suc taken) steps));
    }

  pub skips_end : (new : Streams) (pushed : List Message) (first : Streams) (before : List Message) → SkipsGoOn (drop i es) ss ready es first before → (steps : ℕ) × Stands (skip_in_part steps (get_or es i d) ss) ready new pushed
      → (taken steps : ℕ) × Stands (skip_each_in_part taken steps es first) before new pushed
  skips_end new pushed first before on (steps, stands) = (
    on.total 0 steps,
    steps,
    record {
      streams = stands.streams ∙ (ap (λ (t : List SkippedStream). (skip_each_in_part 0 steps t ss).streams) (sym rest_is) ∙ on.streams 0 steps);
      messages = stands.messages ∙ (ap (λ (t : List SkippedStream). ready ++ (skip_each_in_part 0 steps t ss).messages) (sym rest_is) ∙ on.messages 0 steps);
    },
  )

skips_whole : (es : List SkippedStream) (ss : Streams) → skip_each_in_part (length es) 0 es ss ≡ skip_each es ss
skips_whole [] ss = refl
skips_whole (e ∷ es) ss = ap (followed_by (skip e ss)) (skips_whole es (skip e ss).streams)

-- ---- the queue

pub nothing_applied : (r : Reassembly) → r.ready_count < 2 ^ 64 → r ≡ apply_outcome (unchanged r.streams) r
nothing_applied r small = ap (λ (n : ℕ). record r { ready_count = n }) counted ∙ ap (λ (ms : List Message). record r { ready = ms; ready_count = saturating_sum r.ready_count 0 }) ready
  where
    counted : r.ready_count ≡ saturating_sum r.ready_count 0
    counted = omega (arith, small)

    ready : r.ready ≡ r.ready ++ []
    ready = sym (append-nil r.ready)

pub wholly_forwarded : (n : ℕ) (es : List SkippedStream) (r : Reassembly) → forward_now n es r ≡ forward_now_in_part (suc (length (by_stream es))) 0 n es r
wholly_forwarded n es r = ap (λ (o : Outcome). apply_outcome o r) (sym (skips_whole (by_stream es) (dropped_to n r.streams)))

-- what is applied in part from here is applied in part from the start
pub record AppliesGoOn (ws : List Waiting) (r : Reassembly) (all : List Waiting) (first : Reassembly) : Type 0 where
  pub total : ℕ → ℕ → ℕ → ℕ
  pub same : (applied taken steps : ℕ) → apply_each_in_part applied taken steps ws r ≡ apply_each_in_part (total applied taken steps) taken steps all first

pub applies_begin : (ws : List Waiting) (r : Reassembly) → AppliesGoOn ws r ws r
applies_begin ws r = record { total = λ applied taken steps. applied; same = λ applied taken steps. refl }

module _ (w : Waiting) (ws rest : List Waiting) (r new : Reassembly) (all : List Waiting) (first : Reassembly) (is : ws ≡ w ∷ rest) (on : AppliesGoOn ws r all first) where
  pub applies_step : new ≡ apply w r → AppliesGoOn rest new all first
  applies_step made = record {
    total = λ applied taken steps. on.total (suc applied) taken steps;
    same = λ applied taken steps. ap (apply_each_in_part applied taken steps rest) made ∙ (ap (λ (t : List Waiting). apply_each_in_part (suc applied) taken steps t r) (sym is) ∙ on.same (suc applied) taken steps);
  }

  pub applies_end : (taken steps : ℕ) × (new ≡ apply_in_part taken steps w r) → (applied taken steps : ℕ) × (new ≡ apply_each_in_part applied taken steps all first)
  applies_end (taken, steps, made) = (on.total 0 taken steps, taken, steps, made ∙ (ap (λ (t : List Waiting). apply_each_in_part 0 taken steps t r) (sym is) ∙ on.same 0 taken steps))
