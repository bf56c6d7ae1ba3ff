use Rattle.std.proofs.Common.{◌≡◌, Some, rules}
use Rattle.sctp_fragments.specs.ReassemblyKey.{rank_at}
use Rattle.sctp_reassembly.proofs.FinishedLemmas.{least_earlier, search_kept, search_some, search_none}
use Rattle.sctp_reassembly.proofs.finished.Finished.search.Goals as goal

pub returns-in_default-clause-some : goal.returns-in_default-clause-some
returns-in_default-clause-some g c rs none = least_earlier c.args.number (rank_at g.K.ReassemblyKey.number g.K.ReassemblyKey.index c.least_of-least.result) rs c.least_of-least.ensures

pub returns-clause-some : goal.returns-clause-some
returns-clause-some g c =
    let is : c.args.self.now ≡ Some c.deref_mut.result.now = search rules in
    search_some g.K.ReassemblyKey.number g.K.ReassemblyKey.index c.args.number (rank_at g.K.ReassemblyKey.number g.K.ReassemblyKey.index c.least_of-least.result) c.least_of-least.ensures c.args.self.now c.deref_mut.result.now c.search_from.new.keys is c.search_from.ensures.kept c.search_from.result c.search_from.ensures.some

pub returns-clause-none : goal.returns-clause-none
returns-clause-none g c =
    let is : c.args.self.now ≡ Some c.deref_mut.result.now = search rules in
    search_none g.K.ReassemblyKey.number g.K.ReassemblyKey.index c.args.number (rank_at g.K.ReassemblyKey.number g.K.ReassemblyKey.index c.least_of-least.result) c.least_of-least.ensures c.args.self.now c.deref_mut.result.now c.search_from.new.keys is c.search_from.ensures.kept c.search_from.result c.search_from.ensures.none

pub returns-clause-kept : goal.returns-clause-kept
returns-clause-kept g c =
    let is : c.args.self.now ≡ Some c.deref_mut.result.now = search rules in
    search_kept g.K.ReassemblyKey.number g.K.ReassemblyKey.index c.args.number (rank_at g.K.ReassemblyKey.number g.K.ReassemblyKey.index c.least_of-least.result) c.least_of-least.ensures c.args.self.now c.deref_mut.result.now c.search_from.new.keys is c.search_from.ensures.kept
