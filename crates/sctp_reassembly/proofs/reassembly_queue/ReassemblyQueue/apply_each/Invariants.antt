use Rattle.std.proofs.Common.{◌≡◌, ◌+◌, ◌<◌, ◌≤◌, ◌^◌, length, map}
use Rattle.std.specs.List.{sum_by}
use Rattle.sctp_reassembly.specs.Delivery.{Extends}
use Rattle.sctp_reassembly.specs.ReassemblyQueue.{IsCounted, AreSmall, apply_each, queued_bytes, waiting_bytes, held_fragments, waiting_fragments}
use Rattle.sctp_reassembly.specs.Waiting.{waiting_of}
use Rattle.sctp_reassembly.proofs.StandsLemmas.{AppliesGoOn}
use Rattle.sctp_reassembly.proofs.reassembly_queue.ReassemblyQueue.apply_each.Given as goal

abbrev pub invariant-loop-next : goal.invariant-loop-next
invariant-loop-next l = record {
  rest : apply_each (map waiting_of l.waiting.items) l.self ≡ apply_each (map waiting_of l.fn.waiting.items) l.fn.self;
  part : AppliesGoOn (map waiting_of l.waiting.items) l.self (map waiting_of l.fn.waiting.items) l.fn.self;
  small : AreSmall (map waiting_of l.waiting.items);
  kept : Extends l.fn.self.ready l.self.ready;
  counted : IsCounted l.fn.self l.self;
  room : queued_bytes l.self + sum_by waiting_bytes (map waiting_of l.waiting.items) < 2 ^ 64;
  bytes : queued_bytes l.self + sum_by waiting_bytes (map waiting_of l.waiting.items) ≤ queued_bytes l.fn.self + sum_by waiting_bytes (map waiting_of l.fn.waiting.items);
  room_fragments : held_fragments l.self + sum_by waiting_fragments (map waiting_of l.waiting.items) < 2 ^ 64;
  fragments : held_fragments l.self + sum_by waiting_fragments (map waiting_of l.waiting.items) ≤ held_fragments l.fn.self + sum_by waiting_fragments (map waiting_of l.fn.waiting.items);
}

abbrev pub decreases-loop-next : goal.decreases-loop-next
decreases-loop-next l = length l.waiting.items
