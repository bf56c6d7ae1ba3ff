use Rattle.sctp_association.specs.Socket.{endpoint}
use Rattle.spec_endpoint.specs.Receiving.{Receives}
use Rattle.sctp_c_calls.proofs.OutcomeLemmas.{ends, done}
use Rattle.sctp_c_calls.proofs.calls.handle_input.Goals as goal

pub returns-clause-ends : goal.returns-clause-ends
returns-clause-ends g c = rw c.call_number.ensures.number (ends c.handle_input.result c.args.socket.now c.handle_input.new.self c.handle_input.ensures.ends)

pub returns-clause-ok : goal.returns-clause-ok
returns-clause-ok g c = rw c.call_number.ensures.number (done (Receives (g.C.Checksum.word_of c.args.socket.now.context.checksum) c.args.bytes.now (endpoint g.R.Rng.stream g.C.Checksum.word_of c.args.socket.now) (endpoint g.R.Rng.stream g.C.Checksum.word_of c.handle_input.new.self)) c.handle_input.result c.handle_input.ensures.ok)
