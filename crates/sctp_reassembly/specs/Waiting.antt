-- What waits for a reset, as the program has it.
use Rattle.sctp_chunk.specs.Views.{fragment_tree}
use Rattle.sctp_reassembly.specs.declared.reassembly_queue.waiting.Waiting as given
use Rattle.sctp_reassembly.specs.declared.reassembly_queue.waiting.Waiting.TheVariants.{Fragment, Point}
use Rattle.sctp_reassembly.specs.ReassemblyQueue.{Waiting, Added, Forwarded}

abbrev pub waiting_of : given.Waiting → Waiting
waiting_of (Fragment n d) = Added n (fragment_tree d)
waiting_of (Point n es) = Forwarded n es.items
