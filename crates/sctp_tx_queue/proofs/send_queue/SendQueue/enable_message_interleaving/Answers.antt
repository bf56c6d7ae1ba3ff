use Rattle.std.proofs.Common.{refl, ap}
use Rattle.std.specs.Prelude.{option_map}
use Rattle.sctp_stream_scheduler.specs.StreamScheduler.{Scheduler}
use Rattle.sctp_tx_queue.specs.SendQueue.{Queue}
use Rattle.sctp_tx_queue.proofs.AddedLemmas.{mode_keeps}
use Rattle.sctp_tx_queue.proofs.send_queue.SendQueue.enable_message_interleaving.Goals as goal

pub invariant_of-self : goal.invariant_of-self
invariant_of-self c =
    let queue : Scheduler → Queue = λ sch. record { streams = c.self.inside.streams; scheduler = sch; next_number = c.self.inside.next_message_id.0; begun = option_map (λ i. i.0) c.self.inside.begun } in
    mode_keeps c.self.inside.changed (queue c.self.inside.scheduler) (queue c.enable_message_interleaving.new.self) refl (ap (λ (sch : Scheduler). sch.times) c.enable_message_interleaving.ensures) refl c.self.invariant
