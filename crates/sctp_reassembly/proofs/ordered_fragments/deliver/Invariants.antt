use Rattle.std.proofs.Common.{◌≡◌, ◌+◌, ◌<◌, ◌≤◌, ◌^◌, ◌++◌, length}
use Rattle.sctp_fragments.specs.Held.{bytes_of, intervals_of}
use Rattle.sctp_fragments.specs.ReassemblyKey.{pair_rank}
use Rattle.sctp_reassembly.specs.Finished.{NoneMissed}
use Rattle.sctp_reassembly.specs.Delivery.{deliver, ready_bytes, Extends}
use Rattle.sctp_reassembly.proofs.InterruptedLemmas.{TurnsGoOn}
use Rattle.sctp_reassembly.proofs.ordered_fragments.deliver.Given as goal

abbrev pub invariant-loop-interval : goal.invariant-loop-interval
invariant-loop-interval g l = record {
  stream : (deliver (l.last + 1) l.list).stream ≡ (deliver (l.fn.last + 1) l.fn.list).stream;
  messages : l.ready ++ (deliver (l.last + 1) l.list).messages ≡ l.fn.ready ++ (deliver (l.fn.last + 1) l.fn.list).messages;
  onward : l.fn.last ≤ l.last;
  fits : l.last < 2 ^ 64;
  part : TurnsGoOn (l.last + 1) l.list l.ready (l.fn.last + 1) l.fn.list l.fn.ready;
  kept : Extends l.fn.ready l.ready;
  bytes : bytes_of l.list + ready_bytes l.ready ≤ bytes_of l.fn.list + ready_bytes l.fn.ready;
  fragments : length l.list ≤ length l.fn.list;
  noted : NoneMissed g.K.ReassemblyKey.number g.K.ReassemblyKey.index (pair_rank (l.last + 1) 0) l.finished (intervals_of l.list);
}

abbrev pub decreases-loop-interval : goal.decreases-loop-interval
decreases-loop-interval g l = length (intervals_of l.list)
