use Rattle.std.proofs.Common.{◌≡◌, sym, subst, rules}
use Rattle.sctp_fragments.specs.Held.{intervals_of, NonePass}
use Rattle.sctp_fragments.specs.Interval.{held_of}
use Rattle.sctp_reassembly.specs.ListState.{held_in}
use Rattle.sctp_reassembly.proofs.interval_list.IntervalList.retain.Goals as goal

pub returns-in-Many-clause-stays : goal.returns-in-Many-clause-stays
returns-in-Many-clause-stays g c test only none =
    let old : c.deref_mut.result.now ≡ c.args.self.now = search rules in
    let new : held_in (held_of g.K.ReassemblyKey.number g.K.ReassemblyKey.index) c.narrow.new.state ≡ c.retain.new.self = search rules in
    subst (λ hs. NonePass test (intervals_of hs)) (sym new) (c.retain.ensures.stays test only (subst (λ hs. NonePass test (intervals_of hs)) (sym old) none))
