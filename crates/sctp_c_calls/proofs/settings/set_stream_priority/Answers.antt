use Rattle.std.proofs.Common.{◌≡◌}
use Rattle.sctp_association.specs.Socket.{endpoint}
use Rattle.spec_endpoint.specs.Association.{in_context}
use Rattle.spec_endpoint.specs.Calls as calls
use Rattle.spec_endpoint.specs.Input.{in_endpoint_state}
use Rattle.sctp_c_calls.proofs.OutcomeLemmas.{ends, done}
use Rattle.sctp_c_calls.proofs.settings.set_stream_priority.Goals as goal

pub returns-clause-ends : goal.returns-clause-ends
returns-clause-ends g c = rw c.call_number.ensures.number (ends c.set_stream_priority.result c.args.socket.now c.set_stream_priority.new.self c.set_stream_priority.ensures.ends)

pub returns-clause-ok : goal.returns-clause-ok
returns-clause-ok g c = rw c.call_number.ensures.number (done (endpoint g.R.Rng.stream g.C.Checksum.word_of c.set_stream_priority.new.self ≡ in_endpoint_state (in_context (calls.set_priority c.args.id c.args.priority)) (endpoint g.R.Rng.stream g.C.Checksum.word_of c.args.socket.now)) c.set_stream_priority.result c.set_stream_priority.ensures.ok)
