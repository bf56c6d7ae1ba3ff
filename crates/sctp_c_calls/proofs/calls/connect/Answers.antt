use Rattle.std.proofs.Common.{◌≡◌}
use Rattle.sctp_association.specs.Socket.{endpoint}
use Rattle.spec_endpoint.specs.Opening as opening
use Rattle.sctp_c_calls.proofs.OutcomeLemmas.{ends, done}
use Rattle.sctp_c_calls.proofs.calls.connect.Goals as goal

pub returns-clause-ends : goal.returns-clause-ends
returns-clause-ends g c = rw c.call_number.ensures.number (ends c.connect.result c.args.socket.now c.connect.new.self c.connect.ensures.ends)

pub returns-clause-ok : goal.returns-clause-ok
returns-clause-ok g c = rw c.call_number.ensures.number (done (endpoint g.R.Rng.stream g.C.Checksum.word_of c.connect.new.self ≡ opening.connect (endpoint g.R.Rng.stream g.C.Checksum.word_of c.args.socket.now)) c.connect.result c.connect.ensures.ok)
