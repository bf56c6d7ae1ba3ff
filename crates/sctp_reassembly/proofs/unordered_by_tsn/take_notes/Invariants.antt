use Rattle.std.proofs.Common.{◌≡◌, ℕ, false}
use Rattle.sctp_reassembly.specs.UnorderedByTsn.{IsNoted}
use Rattle.sctp_reassembly.specs.ReassemblyStreams.{is_named}
use Rattle.sctp_reassembly.proofs.unordered_by_tsn.take_notes.Given as goal

abbrev pub invariant-loop-id : goal.invariant-loop-id
invariant-loop-id l = (note : ℕ × ℕ) → is_named l.ids note.1 ≡ false → IsNoted l.fn.notes.entries note → IsNoted l.notes.entries note
