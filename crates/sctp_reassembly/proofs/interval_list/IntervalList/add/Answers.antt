use Rattle.std.proofs.Common.{ap, subst, arith, length}
use Rattle.sctp_fragments.specs.Interval.{as_held}
use Rattle.sctp_reassembly.specs.ListState.{IsListState}
use Rattle.sctp_reassembly.proofs.ListStateLemmas.{keeps_length}
use Rattle.sctp_reassembly.proofs.interval_list.IntervalList.add.Goals as goal

pub invariant_of-self : goal.invariant_of-self
invariant_of-self g c =
    let many = subst (IsListState g.K.ReassemblyKey.number g.K.ReassemblyKey.index) c.in-Many.is c.self.invariant in
    omega (arith, many, ap length c.deref_mut.ensures.value, keeps_length c.add.result (as_held (g.K.ReassemblyKey.number c.args.key) (g.K.ReassemblyKey.index c.args.key) c.args.fragment) c.deref_mut.result.now c.add.new.self c.add.ensures.value c.add.ensures.err)
