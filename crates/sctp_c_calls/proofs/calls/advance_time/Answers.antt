use Rattle.std.proofs.Common.{◌≡◌, ℕ, OnOk, subst}
use Rattle.sctp_association.specs.Socket.{endpoint}
use Rattle.spec_endpoint.specs.Timers as time
use Rattle.spec_endpoint.specs.Input.{in_endpoint_state}
use Rattle.sctp_c_calls.proofs.OutcomeLemmas.{ends, done}
use Rattle.sctp_c_calls.proofs.calls.advance_time.Goals as goal

pub returns-clause-ends : goal.returns-clause-ends
returns-clause-ends g c = rw c.call_number.ensures.number (ends c.advance_time.result c.args.socket.now c.advance_time.new.self c.advance_time.ensures.ends)

pub returns-clause-ok : goal.returns-clause-ok
returns-clause-ok g c = rw c.call_number.ensures.number (done (endpoint g.R.Rng.stream g.C.Checksum.word_of c.advance_time.new.self ≡ in_endpoint_state (time.advance c.args.nanos) (endpoint g.R.Rng.stream g.C.Checksum.word_of c.args.socket.now)) c.advance_time.result (subst (λ (t : ℕ). OnOk c.advance_time.result (endpoint g.R.Rng.stream g.C.Checksum.word_of c.advance_time.new.self ≡ in_endpoint_state (time.advance t) (endpoint g.R.Rng.stream g.C.Checksum.word_of c.args.socket.now))) c.moment.ensures c.advance_time.ensures.ok))
