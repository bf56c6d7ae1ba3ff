use Rattle.std.proofs.Common.{ap}
use Rattle.sctp_rx.specs.Sack.{gap_ack_blocks}
use Rattle.sctp_rx.proofs.SeenOneFormLemmas.{one_form}
use Rattle.sctp_rx.proofs.set_laws.a_set_has_one_form.Goals as goal

pub returns-clause-form : goal.returns-clause-form
returns-clause-form c s t r q same = one_form s t r q same

pub returns-clause-blocks : goal.returns-clause-blocks
returns-clause-blocks c t u r q same = ap gap_ack_blocks (one_form t.seen u.seen r.runs q.runs same)
