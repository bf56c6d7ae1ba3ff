use Rattle.std.proofs.Common.{◌≡◌, length, take}
use Rattle.sctp_crc32c.specs.Crc32c.{remainder, tables}
use Rattle.sctp_crc32c.proofs.remainder.Given as goal

abbrev pub invariant-loop-rest : goal.invariant-loop-rest
invariant-loop-rest l = (remainder l.word l.rest ≡ remainder l.start l.bytes) × (l.entries ≡ tables)

abbrev pub decreases-loop-rest : goal.decreases-loop-rest
decreases-loop-rest l = length l.rest

abbrev pub invariant-loop-rest-2 : goal.invariant-loop-rest-2
invariant-loop-rest-2 l = (remainder l.word l.rest ≡ remainder l.start l.bytes) × (l.entries ≡ tables)

abbrev pub decreases-loop-rest-2 : goal.decreases-loop-rest-2
decreases-loop-rest-2 l = length l.rest

abbrev pub invariant-loop-byte : goal.invariant-loop-byte
invariant-loop-byte l = (l.word ≡ remainder l.initial.word (take l.byte-index l.byte-items)) × (l.entries ≡ tables)
