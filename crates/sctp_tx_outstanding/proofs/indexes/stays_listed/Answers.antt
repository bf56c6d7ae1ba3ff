use Rattle.std.proofs.Common.{◌≡◌, ◌≤◌, true, arith}
use Rattle.std.specs.Prelude.{nat_le}
use Rattle.std.proofs.lemmas.Bool.Decides.{nat_tests}
use Rattle.sctp_tx_outstanding.proofs.TotalsLemmas.{replaced_same}
use Rattle.sctp_tx_outstanding.proofs.indexes.stays_listed.Goals as goal

pub returns-clause-totals : goal.returns-clause-totals
returns-clause-totals c = λ yes h.
    let totals = c.args.totals in
    let new = c.args.new in
    let last : nat_le totals.earliest new.earliest ≡ true = yes in
    let later : totals.earliest ≤ new.earliest = grind (arith, nat_tests, last) in
    replaced_same c.args.old new totals h (omega arith) (omega arith) (omega arith) later (omega arith) (omega arith) (omega arith) (omega arith) (omega arith)
