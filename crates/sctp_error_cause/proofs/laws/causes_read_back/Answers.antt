use Rattle.sctp_wire.specs.Cause.{IsCause, cause_item}
use Rattle.sctp_wire.specs.ReadBack.{CauseReadsBack}
use Rattle.sctp_wire.proofs.ReadBackLemmas.{parses_all_padded, parses_all_inner}
use Rattle.sctp_error_cause.proofs.LawLemmas.{cause_written}
use Rattle.sctp_error_cause.proofs.laws.causes_read_back.Goals as goal

pub returns-clause-padded : goal.returns-clause-padded
returns-clause-padded c = parses_all_padded IsCause cause_item CauseReadsBack cause_written

pub returns-clause-inner : goal.returns-clause-inner
returns-clause-inner c = parses_all_inner IsCause cause_item CauseReadsBack cause_written
