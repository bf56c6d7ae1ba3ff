use Rattle.std.proofs.Common.{◌≡◌}
use Rattle.sctp_association.specs.Socket.{endpoint}
use Rattle.spec_endpoint.specs.Association.{in_context}
use Rattle.spec_endpoint.specs.Calls as calls
use Rattle.spec_endpoint.specs.Input.{in_endpoint_state}
use Rattle.sctp_c_calls.proofs.OutcomeLemmas.{ends, done}
use Rattle.sctp_c_calls.proofs.settings.set_buffered_amount_low_threshold.Goals as goal

pub returns-clause-ends : goal.returns-clause-ends
returns-clause-ends g c = rw c.call_number.ensures.number (ends c.set_buffered_amount_low_threshold.result c.args.socket.now c.set_buffered_amount_low_threshold.new.self c.set_buffered_amount_low_threshold.ensures.ends)

pub returns-clause-ok : goal.returns-clause-ok
returns-clause-ok g c = rw c.call_number.ensures.number (done (endpoint g.R.Rng.stream g.C.Checksum.word_of c.set_buffered_amount_low_threshold.new.self ≡ in_endpoint_state (in_context (calls.set_low_threshold c.args.id c.args.bytes)) (endpoint g.R.Rng.stream g.C.Checksum.word_of c.args.socket.now)) c.set_buffered_amount_low_threshold.result c.set_buffered_amount_low_threshold.ensures.ok)
