use Rattle.std.proofs.Common.{◌≡◌}
use Rattle.sctp_association.specs.Socket.{endpoint}
use Rattle.spec_endpoint.specs.Shutdown as closing
use Rattle.spec_endpoint.specs.Input.{in_endpoint_state}
use Rattle.sctp_c_calls.proofs.OutcomeLemmas.{ends, done}
use Rattle.sctp_c_calls.proofs.calls.close.Goals as goal

pub returns-clause-ends : goal.returns-clause-ends
returns-clause-ends g c = rw c.call_number.ensures.number (ends c.close.result c.args.socket.now c.close.new.self c.close.ensures.ends)

pub returns-clause-ok : goal.returns-clause-ok
returns-clause-ok g c = rw c.call_number.ensures.number (done (endpoint g.R.Rng.stream g.C.Checksum.word_of c.close.new.self ≡ in_endpoint_state closing.close (endpoint g.R.Rng.stream g.C.Checksum.word_of c.args.socket.now)) c.close.result c.close.ensures.ok)
