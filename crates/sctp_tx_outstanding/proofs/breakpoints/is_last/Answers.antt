use Rattle.std.proofs.Common.{◌≡◌, ◌-◌, ◌<◌, length, nat_eq, slice_index_or, ap, sym, ◌∙◌, rules, arith}
use Rattle.sctp_tx_outstanding.proofs.BreakLemmas.{last_is}
use Rattle.sctp_tx_outstanding.proofs.breakpoints.is_last.Goals as goal

pub returns-in-Some : goal.returns-in-Some
returns-in-Some c =
    let bs = c.args.breakpoints.now.items in
    let last = c.in-Some.last.now in
    let some : 0 < length bs = search rules in
    let at : last ≡ slice_index_or bs (length bs - 1) last = search rules in
    ap (λ b. nat_eq b c.args.number) at ∙ sym (last_is c.args.number bs (length bs - 1) last (omega (arith, some)))
