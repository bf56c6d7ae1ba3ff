use Rattle.std.proofs.Common.{subst}
use Rattle.sctp_association.specs.Socket.{SocketValue}
use Rattle.spec_endpoint.specs.Receiving.{Judges}
use Rattle.sctp_association.proofs.socket.Socket.refuses.Goals as goal

pub returns-clause-judged : goal.returns-clause-judged
returns-clause-judged g c =
    subst (λ (v : SocketValue _ _). Judges (g.C.Checksum.word_of v.context.checksum) c.args.bytes.now v.context.options v.state c.judge.result) c.self.view_is c.judge.ensures
