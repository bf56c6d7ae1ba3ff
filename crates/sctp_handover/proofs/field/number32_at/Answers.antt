use Rattle.sctp_handover.proofs.FieldLemmas.{found32, none32}
use Rattle.sctp_handover.proofs.field.number32_at.Goals as goal

pub returns-in-Ok : goal.returns-in-Ok
returns-in-Ok c = found32 c.args.bytes.now c.in-Ok.read.1.now c.in-Ok.read.0 c.in-Ok.ensures.ok c.in-Ok.ensures.fits

pub returns-in-Err : goal.returns-in-Err
returns-in-Err c = none32 c.args.bytes.now c.args.bytes.now 0 c.in-Err.ensures.short
