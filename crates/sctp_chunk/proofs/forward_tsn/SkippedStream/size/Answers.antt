use Rattle.std.proofs.Common.{refl}
use Rattle.sctp_wire.specs.Field.{be16, be32}
use Rattle.sctp_chunk.specs.Written.{skip_bytes}
use Rattle.sctp_chunk.proofs.forward_tsn.SkippedStream.size.Goals as goal

pub returns-in-ForwardTsn-clause-size : goal.returns-in-ForwardTsn-clause-size
unfolding skip_bytes be16 be32
returns-in-ForwardTsn-clause-size c = rw c.in-ForwardTsn.is refl

pub returns-in-IForwardTsn-clause-size : goal.returns-in-IForwardTsn-clause-size
unfolding skip_bytes be16 be32
returns-in-IForwardTsn-clause-size c = rw c.in-IForwardTsn.is refl
