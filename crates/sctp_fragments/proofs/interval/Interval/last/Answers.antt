use Rattle.std.proofs.Common.{◌≡◌, ◌-◌, arith, length, get_or, subst}
use Rattle.sctp_fragments.specs.Entries.{items_of}
use Rattle.sctp_fragments.specs.Interval.{held_of}
use Rattle.sctp_fragments.proofs.PlaceLemmas.{last_held}
use Rattle.sctp_fragments.proofs.interval.Interval.last.Goals as goal

pub returns : goal.returns
returns g c h hs is =
    let entry = c.back.result.now in
    let items = items_of c.args.self.now.entries.value in
    last_held (held_of g.K.ReassemblyKey.number g.K.ReassemblyKey.index) items entry h hs (length items - 1) (omega (arith, c.args.self.now.some))
    (subst (λ e. entry ≡ get_or (items_of e) (length (items_of e) - 1) entry) c.deref.ensures c.back.ensures) is
