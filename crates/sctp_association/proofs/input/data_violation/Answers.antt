use Rattle.std.proofs.Common.{◌∙◌}
use Rattle.sctp_endpoint.specs.Views.{tcb_of}
use Rattle.sctp_association.proofs.PlaceLemmas.{misused_as}
use Rattle.sctp_association.proofs.input.data_violation.Goals as goal

pub returns-in-Open : goal.returns-in-Open
returns-in-Open c = λ v. rw c.in-Open.is (c.data_misused.ensures ∙ misused_as c.args.is_interleaved (tcb_of c.in-Open.tcb) v)
