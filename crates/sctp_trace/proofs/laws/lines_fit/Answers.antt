use Rattle.sctp_trace.proofs.Columns.{heading_fits, lines_fit}
use Rattle.sctp_trace.proofs.laws.lines_fit.Goals as goal

pub returns : goal.returns
returns c = record { heading = heading_fits; each = lines_fit }
