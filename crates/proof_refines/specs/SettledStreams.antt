-- Streams at rest: nothing that is complete and in turn is held.
use Rattle.std.specs.Prelude.{None, List}
use Rattle.std.specs.List.{All}
use Rattle.std.specs.Map.{values_of}
use Rattle.sctp_fragments.specs.Runs.{AreRuns}
use Rattle.sctp_fragments.specs.Held.{Held, rank_of, goes_on, intervals_of, NoneComplete, NoneInTurn}
use Rattle.sctp_reassembly.specs.Delivery.{OrderedStream, UnorderedStream}
use Rattle.sctp_reassembly.specs.ReassemblyStreams.{Streams}

-- in the order of their keys, no two with one key: then the intervals are the maximal runs, and these are in order
abbrev pub AreInOrder : List Held → Type 0
AreInOrder hs = AreRuns rank_of goes_on None (intervals_of hs)

-- no complete message has the next number
pub record IsSettledInOrder (s : OrderedStream) : Type 0 where
  pub order : AreInOrder s.held
  pub none : NoneInTurn s.next (intervals_of s.held)

-- no message is complete
pub record IsSettled (s : UnorderedStream) : Type 0 where
  pub order : AreInOrder s.held
  pub none : NoneComplete (intervals_of s.held)

pub record AreSettled (ss : Streams) : Type 0 where
  pub ordered : All IsSettledInOrder (values_of ss.ordered)
  pub unordered : All IsSettled (values_of ss.unordered)
