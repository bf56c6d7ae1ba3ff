use Rattle.std.proofs.Common.{◌≡◌, ℕ}
use Rattle.sctp_tx_queue.specs.Produced.{produce, produce_within}
use Rattle.sctp_tx_queue.specs.Interrupted.{Passed}
use Rattle.sctp_tx_queue.proofs.send_queue.SendQueue.ask.Given as goal

abbrev pub invariant-loop-turns : goal.invariant-loop-turns
invariant-loop-turns l = record {
  rest : produce_within l.turns l.now l.size l.self l.events ≡ produce l.now l.size l.initial.self l.initial.events;
  passed : (count : ℕ) × Passed count l.now l.size l.initial.self l.initial.events l.self l.events;
}

abbrev pub decreases-loop-turns : goal.decreases-loop-turns
decreases-loop-turns l = l.turns
