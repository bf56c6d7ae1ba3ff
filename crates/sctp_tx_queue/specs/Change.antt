-- What may be changed of one stream that is there.
use Rattle.sctp_tx_queue.specs.declared.send_queue.stream.StreamChange.{StreamChange}
use Rattle.sctp_tx_queue.specs.declared.send_queue.stream.StreamChange.TheVariants.{Threshold, Priority, DropStale, Discard, Prepare, Step, Restart, Empty}
use Rattle.sctp_tx_queue.specs.SendQueue.{Stream}
use Rattle.sctp_tx_queue.specs.Produced.{without_stale}
use Rattle.sctp_tx_queue.specs.Settings.{with_threshold, with_priority, without_front}
use Rattle.sctp_tx_queue.specs.Resets.{prepare_stream, after_step}
use Rattle.sctp_tx_queue.specs.Restarted.{restart}
use Rattle.sctp_tx_queue.specs.Emptied.{emptied}

abbrev pub changed : StreamChange → Stream → Stream
changed (Threshold bytes) s = with_threshold bytes s
changed (Priority priority) s = with_priority priority s
changed (DropStale now) s = without_stale now s
changed (Discard message_id) s = without_front message_id.0 s.messages s
changed Prepare s = prepare_stream s
changed (Step step) s = after_step step s
changed Restart s = restart s
changed Empty s = emptied s
