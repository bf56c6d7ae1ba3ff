-- The streams of a queue stay at rest.
use Rattle.std.proofs.Common.{ℕ, ◌+◌, ◌&&◌, Bool, true, false, cond, List, [], ◌∷◌, length}
use Rattle.std.specs.Prelude.{◌==◌}
use Rattle.sctp_serial.specs.declared.api.StreamId.{StreamId}
use Rattle.sctp_chunk.specs.declared.forward_tsn.SkippedStream.{SkippedStream}
use Rattle.sctp_chunk.specs.Chunk.{FragmentTree}
use Rattle.sctp_reassembly.specs.ReassemblyStreams.{is_far, entries_in}
use Rattle.sctp_reassembly.specs.ReassemblyQueue.{Waiting, Added, Forwarded, Reassembly, reassembly, number_of, came, keep_back, add_now, forward_now, is_kept_back, point_waits, add_or_keep_back, resetting, waiting_in, wait_with, forward_or_wait, add, forward, apply, apply_each, reset}
use Rattle.std.specs.List.{All}
use Rattle.std.specs.Map.{values_of}
use Rattle.std.proofs.lemmas.List.Elements.{All-nil, All-cons}
use Rattle.sctp_serial.specs.Unwrapped.{origin}
use Rattle.sctp_state.specs.declared.api.handover.HandoverOrderedStream.{HandoverOrderedStream}
use Rattle.sctp_state.specs.declared.api.handover.HandoverUnorderedStream.{HandoverUnorderedStream}
use Rattle.sctp_state.specs.Handover.{Receive}
use Rattle.sctp_reassembly.specs.Delivery.{fresh_unordered}
use Rattle.sctp_reassembly.specs.ReassemblyHandover.{ordered_entries, unordered_entries, restore}
use Rattle.proof_refines.specs.SettledStreams.{IsSettledInOrder, IsSettled, AreSettled}
use Rattle.proof_refines.proofs.SettledStreamsLemmas.{settled_none, settled_add, settled_point, settled_reset}

pub settled_new : (max_size : ℕ) (b : Bool) → AreSettled (reassembly max_size b).streams
settled_new max_size b = settled_none b

module _ (r : Reassembly) (h : AreSettled r.streams) where
  pub settled_arrives : (tsn : ℕ) (f : FragmentTree) → AreSettled (add tsn f r).streams
  settled_arrives tsn f = go (is_far (number_of r tsn))
    where
      now : (b : Bool) → AreSettled (cond b (keep_back (Added (number_of r tsn) f) (came tsn r)) (add_now (number_of r tsn) f (came tsn r))).streams
      now true = h
      now false = settled_add r.streams h (number_of r tsn) f

      go : (b : Bool) → AreSettled (cond b r (add_or_keep_back (number_of r tsn) f (came tsn r))).streams
      go true = h
      go false = now (is_kept_back (number_of r tsn) f.stream_id r.deferred)

  pub settled_passes : (tsn : ℕ) (es : List SkippedStream) → AreSettled (forward tsn es r).streams
  settled_passes tsn es = go (is_far (number_of r tsn))
    where
      n : ℕ
      n = number_of r tsn

      part : Reassembly
      part = forward_now n (entries_in false (resetting r.deferred) es) (came tsn r)

      named : List SkippedStream
      named = entries_in true (resetting r.deferred) es

      later : (b : Bool) → AreSettled part.streams → AreSettled (cond b part (keep_back (Forwarded n named) part)).streams
      later true k = k
      later false k = k

      now : (b : Bool) → AreSettled (cond b (wait_with n named part) (forward_now n es (came tsn r))).streams
      now true = later ((length named == 0) && (length (waiting_in r.deferred) == 0)) (settled_point n (entries_in false (resetting r.deferred) es) r.streams h)
      now false = settled_point n es r.streams h

      go : (b : Bool) → AreSettled (cond b r (forward_or_wait (number_of r tsn) es (came tsn r))).streams
      go true = h
      go false = now (point_waits (number_of r tsn) r.deferred)

settled_applied : (w : Waiting) (r : Reassembly) → AreSettled r.streams → AreSettled (apply w r).streams
settled_applied (Added n f) r h = settled_add r.streams h n f
settled_applied (Forwarded n es) r h = settled_point n es r.streams h

settled_all : (ws : List Waiting) (r : Reassembly) → AreSettled r.streams → AreSettled (apply_each ws r).streams
settled_all [] r h = h
settled_all (w ∷ ws) r h = settled_all ws (apply w r) (settled_applied w r h)

pub settled_begins_anew : (ids : List StreamId) (r : Reassembly) → AreSettled r.streams → AreSettled (reset ids r).streams
settled_begins_anew ids r h = settled_all (waiting_in r.deferred) _ (settled_reset r.streams h ids)

-- ---- what a record holds

restored_ordered : (ss : List HandoverOrderedStream) → All IsSettledInOrder (values_of (ordered_entries ss))
restored_ordered [] = All-nil IsSettledInOrder
restored_ordered (s ∷ ss) = All-cons IsSettledInOrder (record { next = origin + s.next_ssn; held = [] }) (values_of (ordered_entries ss)) (record { order = tt; none = tt }) (restored_ordered ss)

restored_unordered : (ss : List HandoverUnorderedStream) → All IsSettled (values_of (unordered_entries ss))
restored_unordered [] = All-nil IsSettled
restored_unordered (s ∷ ss) = All-cons IsSettled fresh_unordered (values_of (unordered_entries ss)) (record { order = tt; none = tt }) (restored_unordered ss)

pub settled_restored : (rx : Receive) (r : Reassembly) → AreSettled (restore rx r).streams
settled_restored rx r = record { ordered = restored_ordered rx.ordered_streams; unordered = restored_unordered rx.unordered_streams }
