-- A queue that takes a record up is in order, where the record's messages have numbers exactly where something of them is
-- sent. Those of a queue in order have.
use Rattle.std.specs.Prelude.{◌≡◌, ℕ, not, Bool, true, if◌then◌else◌, is_some}
use Rattle.std.specs.List.{list_all}
use Rattle.std.specs.List.Sorted.{IsStrictlySortedBy}
use Rattle.std.specs.Map.{keys_of}
use Rattle.std.specs.Ordering.{nat_cmp}
use Rattle.sctp_state.specs.Handover.{StreamMessage, Transmission}
use Rattle.sctp_state.specs.Validity.{is_partly_sent, is_valid_transmission}
use Rattle.sctp_tx_queue.specs.SendQueue.{Queue}
use Rattle.sctp_tx_queue.specs.Handover.{write_handover}
use Rattle.sctp_tx_queue.specs.InOrder.{IsInOrder}
use Rattle.sctp_tx_queue.specs.Restored.{restore}

-- a message has its MID from its first fragment on
abbrev pub is_numbered_as_sent : StreamMessage → Bool
is_numbered_as_sent m = if is_some m.mid then is_partly_sent m else not (is_partly_sent m)

abbrev pub RestoredInOrder : Type 0
RestoredInOrder =
    (now : ℕ) (is_interleaved : Bool) (tx : Transmission) (q : Queue) → is_valid_transmission is_interleaved tx ≡ true → list_all is_numbered_as_sent tx.queued_messages ≡ true → IsInOrder (restore now is_interleaved tx q)

abbrev pub WrittenAsSent : Type 0
WrittenAsSent =
    (now : ℕ) (tx : Transmission) (q : Queue) → IsStrictlySortedBy nat_cmp (keys_of q.streams.entries) → IsInOrder q → list_all is_numbered_as_sent (write_handover now q tx).queued_messages ≡ true
