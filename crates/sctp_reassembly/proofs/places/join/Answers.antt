use Rattle.std.proofs.Common.{◌++◌, ◌∷◌, []}
use Rattle.std.proofs.lemmas.Result.{on_err_weaker}
use Rattle.sctp_reassembly.proofs.MapLemmas.{second_is}
use Rattle.sctp_reassembly.proofs.PutLemmas.{same_there}
use Rattle.sctp_reassembly.proofs.places.join.Goals as goal

pub returns-then-is_below-clause-err : goal.returns-then-is_below-clause-err
returns-then-is_below-clause-err g c =
    on_err_weaker c.join_to_second.result (λ made ps qs i j is low up named.
    same_there g.K.ReassemblyKey.is_key g.K.ReassemblyKey.number g.K.ReassemblyKey.index c.args.later.now.entries (ps ++ (c.args.place, i) ∷ []) qs c.join_to_second.new.later.entries c.args.next j (second_is g.K.Ord.cmp g.K.ReassemblyKey.is_key g.K.ReassemblyKey.number g.K.ReassemblyKey.index g.met.K.ReassemblyKey.by_rank c.args.place c.args.next c.known.ensures c.known-2.ensures up c.args.later.now.entries ps qs i j is) named (made ps qs i j is low up)) c.join_to_second.ensures.err

pub returns-clause-err : goal.returns-clause-err
returns-clause-err g c =
    on_err_weaker c.join_to_first.result (λ made ps qs i j is low up named. same_there g.K.ReassemblyKey.is_key g.K.ReassemblyKey.number g.K.ReassemblyKey.index c.args.later.now.entries ps ((c.args.next, j) ∷ qs) c.join_to_first.new.later.entries c.args.place i is named (made ps qs i j is low up)) c.join_to_first.ensures.err
