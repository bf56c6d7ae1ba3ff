use Rattle.std.proofs.Common.{◌≡◌, ◌≤◌, ◌-◌, ◌<◌, length, slice_index_or, subst, rules, arith}
use Rattle.std.proofs.lemmas.Bool.{leb-true}
use Rattle.sctp_tx_outstanding.proofs.BreakLemmas.{pushed_after}
use Rattle.sctp_tx_outstanding.proofs.breakpoints.is_after.Goals as goal

pub returns-in-Some : goal.returns-in-Some
returns-in-Some c = λ t h.
    let bs = c.args.breakpoints.now.items in
    let last = c.in-Some.last.now in
    let some : 0 < length bs = search rules in
    let at : last ≡ slice_index_or bs (length bs - 1) last = search rules in
    let le : last ≤ c.args.number = leb-true last c.args.number t in
    pushed_after 0 c.args.number bs (length bs - 1) last (omega (arith, some)) (subst (λ m. m ≤ c.args.number) at le) h
