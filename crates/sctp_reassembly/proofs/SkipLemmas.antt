-- Fragments and entries of forward points, where one stream of a map changed unless the number is too far.
use Rattle.std.proofs.Common.{◌≡◌, ℕ, Bool, true, false, cond, Some, None, List, [], ◌++◌, refl, ap, sym, ◌∙◌}
use Rattle.sctp_serial.specs.Messages.{Message}
use Rattle.sctp_chunk.specs.Chunk.{FragmentTree}
use Rattle.sctp_fragments.specs.Held.{Held}
use Rattle.sctp_reassembly.specs.Delivery.{OrderedStream, UnorderedStream, OrderedDelivery, UnorderedDelivery, fresh_ordered, fresh_unordered, ordered_arrival, unordered_arrival, ordered_forward, unordered_forward}
use Rattle.sctp_reassembly.specs.ReassemblyStreams.{Entries, Streams, Outcome, add, add_in_order, held_as, place_of, ordered_number, unordered_number, unchanged, number_unless_far, is_far, stream_at, set_stream, with_ordered, with_unordered, add_ordered, add_unordered, skip_ordered, skip_unordered}

same : (b : Bool) (n m : ℕ) → cond b None (Some n) ≡ Some m → n ≡ m
same true n m h = absurd (cc)
same false n m h = cc

pub same_from : (n m : ℕ) → number_unless_far n ≡ Some m → n ≡ m
same_from n m h = same (is_far n) n m h

abbrev numbered : ℕ → ℕ → FragmentTree → Held
numbered n index f = record { number = n; index = index; fragment = f }

module _ (is_interleaved : Bool) (o : Entries OrderedStream) (u : Entries UnorderedStream) where
  abbrev written : Entries OrderedStream → Entries UnorderedStream → Streams
  written ordered unordered = record { is_interleaved = is_interleaved; ordered = ordered; unordered = unordered }

  abbrev old : Streams
  old = written o u

  written_ordered : (id : ℕ) (b : Bool) (d : OrderedDelivery) (new : Entries OrderedStream) → new ≡ cond b o (set_stream fresh_ordered id d.stream o) → written new u ≡ (cond b (unchanged old) (with_ordered id d old)).streams
  written_ordered id b d new made = ap (λ (t : Entries OrderedStream). written t u) made ∙ go b
    where
      go : (b : Bool) → written (cond b o (set_stream fresh_ordered id d.stream o)) u ≡ (cond b (unchanged old) (with_ordered id d old)).streams
      go true = refl
      go false = refl

  written_unordered : (id : ℕ) (b : Bool) (d : UnorderedDelivery) (new : Entries UnorderedStream) → new ≡ cond b u (set_stream fresh_unordered id d.stream u) → written o new ≡ (cond b (unchanged old) (with_unordered id d old)).streams
  written_unordered id b d new made = ap (λ (t : Entries UnorderedStream). written o t) made ∙ go b
    where
      go : (b : Bool) → written o (cond b u (set_stream fresh_unordered id d.stream u)) ≡ (cond b (unchanged old) (with_unordered id d old)).streams
      go true = refl
      go false = refl

  told : (b : Bool) (outcome : Outcome) (before ready : List Message) → ready ≡ before ++ cond b [] outcome.messages → ready ≡ before ++ (cond b (unchanged old) outcome).messages
  told true outcome before ready is = is
  told false outcome before ready is = is

  -- ---- a fragment came

  module _ (tsn id index : ℕ) (f : FragmentTree) (stream : f.stream_id ≡ id) (place : index ≡ place_of is_interleaved tsn f) where
    abbrev to_ordered : OrderedDelivery
    to_ordered = ordered_arrival (numbered (ordered_number is_interleaved f (stream_at fresh_ordered id o)) index f) (stream_at fresh_ordered id o)

    abbrev to_unordered : UnorderedDelivery
    to_unordered = unordered_arrival (numbered (unordered_number is_interleaved f (stream_at fresh_unordered id u)) index f) (stream_at fresh_unordered id u)

    module _ (kind : f.is_unordered ≡ false) where
      comes_ordered : add tsn f old ≡ add_ordered id (numbered (ordered_number is_interleaved f (stream_at fresh_ordered id o)) index f) old
      comes_ordered =
          ap (λ (b : Bool). add_in_order b tsn f old) kind
          ∙ (ap (λ (i : ℕ). add_ordered i (held_as is_interleaved (ordered_number is_interleaved f (stream_at fresh_ordered i o)) tsn f) old) stream
          ∙ ap (λ (i : ℕ). add_ordered id (numbered (ordered_number is_interleaved f (stream_at fresh_ordered id o)) i f) old) (sym place))

      pub added_ordered : (new : Entries OrderedStream) → new ≡ cond (is_far (ordered_number is_interleaved f (stream_at fresh_ordered id o))) o (set_stream fresh_ordered id to_ordered.stream o) → written new u ≡ (add tsn f old).streams
      added_ordered new made =
          written_ordered id (is_far (ordered_number is_interleaved f (stream_at fresh_ordered id o))) to_ordered new made ∙ sym (ap (λ (t : Outcome). t.streams) comes_ordered)

      pub told_ordered : (before ready : List Message) → ready ≡ before ++ cond (is_far (ordered_number is_interleaved f (stream_at fresh_ordered id o))) [] to_ordered.messages → ready ≡ before ++ (add tsn f old).messages
      told_ordered before ready is =
          told (is_far (ordered_number is_interleaved f (stream_at fresh_ordered id o))) (with_ordered id to_ordered old) before ready is ∙ sym (ap (λ (t : Outcome). before ++ t.messages) comes_ordered)

    module _ (kind : f.is_unordered ≡ true) where
      comes_unordered : add tsn f old ≡ add_unordered id (numbered (unordered_number is_interleaved f (stream_at fresh_unordered id u)) index f) old
      comes_unordered =
          ap (λ (b : Bool). add_in_order b tsn f old) kind
          ∙ (ap (λ (i : ℕ). add_unordered i (held_as is_interleaved (unordered_number is_interleaved f (stream_at fresh_unordered i u)) tsn f) old) stream
          ∙ ap (λ (i : ℕ). add_unordered id (numbered (unordered_number is_interleaved f (stream_at fresh_unordered id u)) i f) old) (sym place))

      pub added_unordered : (new : Entries UnorderedStream) → new ≡ cond (is_far (unordered_number is_interleaved f (stream_at fresh_unordered id u))) u (set_stream fresh_unordered id to_unordered.stream u) → written o new ≡ (add tsn f old).streams
      added_unordered new made =
          written_unordered id (is_far (unordered_number is_interleaved f (stream_at fresh_unordered id u))) to_unordered new made ∙ sym (ap (λ (t : Outcome). t.streams) comes_unordered)

      pub told_unordered : (before ready : List Message) → ready ≡ before ++ cond (is_far (unordered_number is_interleaved f (stream_at fresh_unordered id u))) [] to_unordered.messages → ready ≡ before ++ (add tsn f old).messages
      told_unordered before ready is =
          told (is_far (unordered_number is_interleaved f (stream_at fresh_unordered id u))) (with_unordered id to_unordered old) before ready is ∙ sym (ap (λ (t : Outcome). before ++ t.messages) comes_unordered)

  -- ---- an entry came

  module _ (id n : ℕ) where
    pub skipped_ordered : (new : Entries OrderedStream) → new ≡ cond (is_far n) o (set_stream fresh_ordered id (ordered_forward n (stream_at fresh_ordered id o)).stream o) → written new u ≡ (skip_ordered id n old).streams
    skipped_ordered new made = written_ordered id (is_far n) (ordered_forward n (stream_at fresh_ordered id o)) new made

    pub told_skipped : (before ready : List Message) → ready ≡ before ++ cond (is_far n) [] (ordered_forward n (stream_at fresh_ordered id o)).messages → ready ≡ before ++ (skip_ordered id n old).messages
    told_skipped before ready is = told (is_far n) (with_ordered id (ordered_forward n (stream_at fresh_ordered id o)) old) before ready is

    abbrev behind : UnorderedDelivery
    behind = record { stream = unordered_forward n (stream_at fresh_unordered id u); messages = [] }

    pub skipped_unordered : (new : Entries UnorderedStream) → new ≡ cond (is_far n) u (set_stream fresh_unordered id (unordered_forward n (stream_at fresh_unordered id u)) u) → written o new ≡ (skip_unordered id n old).streams
    skipped_unordered new made = written_unordered id (is_far n) behind new made

    pub told_silently : (before ready : List Message) → ready ≡ before ++ cond (is_far n) [] [] → ready ≡ before ++ (skip_unordered id n old).messages
    told_silently before ready is = told (is_far n) (with_unordered id behind old) before ready is
