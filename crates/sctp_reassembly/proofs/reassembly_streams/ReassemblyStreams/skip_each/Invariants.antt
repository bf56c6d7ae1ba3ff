use Rattle.std.proofs.Common.{◌≡◌, ◌+◌, ◌≤◌, ◌++◌, drop}
use Rattle.sctp_reassembly.specs.Delivery.{ready_bytes, Extends}
use Rattle.sctp_reassembly.specs.ReassemblyStreams.{skip_each, held_bytes, fragments_of}
use Rattle.sctp_reassembly.proofs.StandsLemmas.{SkipsGoOn}
use Rattle.sctp_reassembly.proofs.reassembly_streams.ReassemblyStreams.skip_each.Given as goal

abbrev pub invariant-loop-entry : goal.invariant-loop-entry
invariant-loop-entry l = record {
  streams : (skip_each (drop l.entry-index l.entries) l.self).streams ≡ (skip_each l.entries l.fn.self).streams;
  messages : l.ready ++ (skip_each (drop l.entry-index l.entries) l.self).messages ≡ l.fn.ready ++ (skip_each l.entries l.fn.self).messages;
  part : SkipsGoOn (drop l.entry-index l.entries) l.self l.ready l.entries l.fn.self l.fn.ready;
  kept : Extends l.fn.ready l.ready;
  bytes : held_bytes l.self + ready_bytes l.ready ≤ held_bytes l.fn.self + ready_bytes l.fn.ready;
  fragments : fragments_of l.self ≤ fragments_of l.fn.self;
}
