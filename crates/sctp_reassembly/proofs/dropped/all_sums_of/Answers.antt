use Rattle.std.proofs.Common.{arith}
use Rattle.sctp_fragments.specs.Interval.{held_of}
use Rattle.sctp_reassembly.proofs.LowLemmas.{later_bytes, first_bytes}
use Rattle.sctp_reassembly.proofs.dropped.all_sums_of.Goals as goal

pub sums_of-bytes-requires-clause-bytes : goal.sums_of-bytes-requires-clause-bytes
sums_of-bytes-requires-clause-bytes g c = omega (arith, later_bytes (held_of g.K.ReassemblyKey.number g.K.ReassemblyKey.index) c.args.low.now.first c.args.low.now.later.entries, c.requires.bytes)

pub total_bytes-requires : goal.total_bytes-requires
total_bytes-requires g c = omega (arith, first_bytes (held_of g.K.ReassemblyKey.number g.K.ReassemblyKey.index) c.in-Some.interval c.args.low.now.first c.args.low.now.later.entries c.in-Some.is, c.requires.bytes)

pub overflow_add-result : goal.overflow_add-result
overflow_add-result g c = omega (arith, first_bytes (held_of g.K.ReassemblyKey.number g.K.ReassemblyKey.index) c.in-Some.interval c.args.low.now.first c.args.low.now.later.entries c.in-Some.is, c.sums_of-bytes.ensures.bytes, c.total_bytes.ensures, c.requires.bytes)

pub returns-in-Some-clause-bytes : goal.returns-in-Some-clause-bytes
returns-in-Some-clause-bytes g c = omega (arith, first_bytes (held_of g.K.ReassemblyKey.number g.K.ReassemblyKey.index) c.in-Some.interval c.args.low.now.first c.args.low.now.later.entries c.in-Some.is, c.sums_of-bytes.ensures.bytes, c.total_bytes.ensures)
