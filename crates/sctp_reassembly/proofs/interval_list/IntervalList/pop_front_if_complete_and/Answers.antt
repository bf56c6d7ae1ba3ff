use Rattle.sctp_fragments.specs.Held.{intervals_of}
use Rattle.sctp_fragments.specs.ReassemblyKey.{rank_at}
use Rattle.sctp_reassembly.proofs.FinishedLemmas.{least_earlier}
use Rattle.sctp_reassembly.proofs.interval_list.IntervalList.pop_front_if_complete_and.Goals as goal

pub pop_front_from-requires : goal.pop_front_from-requires
pop_front_from-requires g c = record { earlier = least_earlier c.args.number (rank_at g.K.ReassemblyKey.number g.K.ReassemblyKey.index c.least_of.result) (intervals_of c.args.self.now) c.least_of.ensures }
