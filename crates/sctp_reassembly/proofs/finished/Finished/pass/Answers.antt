use Rattle.std.proofs.Common.{◌≡◌, Some, subst, arith, rules}
use Rattle.sctp_reassembly.specs.Finished.{NoneMissed}
use Rattle.sctp_reassembly.proofs.FinishedLemmas.{none_kept}
use Rattle.sctp_reassembly.proofs.finished.Finished.pass.Goals as goal

pub returns : goal.returns
returns g c m rs low none =
    let is : c.args.self.now ≡ Some c.deref_mut.result.now = search rules in
    none_kept g.K.ReassemblyKey.number g.K.ReassemblyKey.index m c.deref_mut.result.now c.drop_before.new.keys rs (λ n l. c.drop_before.ensures.kept n (omega (arith, l, low, c.least_of.ensures)))
    (subst (λ o. NoneMissed g.K.ReassemblyKey.number g.K.ReassemblyKey.index m o rs) is none)
