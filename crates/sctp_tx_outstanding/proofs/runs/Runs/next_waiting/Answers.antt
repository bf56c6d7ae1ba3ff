use Rattle.std.proofs.Common.{◌≡◌, false, sym, subst}
use Rattle.sctp_tx_outstanding.specs.Waiting.{waits_at}
use Rattle.sctp_tx_outstanding.proofs.RunsLemmas.{none_waits, none_fast}
use Rattle.sctp_tx_outstanding.proofs.runs.Runs.next_waiting.Goals as goal

pub returns-then-fast-clause-none : goal.returns-then-fast-clause-none
returns-then-fast-clause-none c = λ is h k above below.
    subst (λ f. waits_at f k is ≡ false) (sym c.if-fast.true) (none_fast c.args.self.now.known.items c.args.self.now.offset is h.known k (c.next.ensures.none k above below))

pub returns-clause-none : goal.returns-clause-none
returns-clause-none c = λ is h k above below.
    subst (λ f. waits_at f k is ≡ false) (sym c.if-fast.false) (none_waits c.args.self.now.known.items c.args.self.now.offset is h.known k (c.next-2.ensures.none k above below))
