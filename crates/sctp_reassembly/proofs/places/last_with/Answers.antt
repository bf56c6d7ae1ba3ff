use Rattle.std.proofs.Common.{[], sym, ◌∙◌}
use Rattle.sctp_fragments.specs.ReassemblyKey.{rank_at}
use Rattle.sctp_reassembly.proofs.AtEndLemmas.{last_is, holds_last, last_runs}
use Rattle.sctp_reassembly.proofs.places.last_with.Goals as goal

pub returns : goal.returns
returns g c =
    let n = rank_at g.K.ReassemblyKey.number g.K.ReassemblyKey.index c.args.key in
    let t = last_is c.args.later.now.entries (c.in-Some.place.now, c.in-Some.interval.now) c.in-Some.ensures.last in
    let l = last_runs g.K.ReassemblyKey.is_key g.K.ReassemblyKey.number g.K.ReassemblyKey.index c.args.later.now.entries t.0 c.in-Some.place.now c.in-Some.interval.now t.1 c.requires.named c.requires.runs in
    holds_last g.K.ReassemblyKey.is_key g.K.ReassemblyKey.number g.K.ReassemblyKey.index c.args.later.now.entries t.0 c.in-Some.place.now c.in-Some.interval.now t.1 c.requires.named c.requires.runs n (sym (c.has_key.ensures l.0 [] l.1) ∙ c.if-not-has_key.false)
