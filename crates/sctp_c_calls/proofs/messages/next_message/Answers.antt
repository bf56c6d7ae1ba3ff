use Rattle.spec_endpoint.specs.Calls as calls
use Rattle.sctp_c_calls.proofs.ReadyLemmas.{nothing_ready}
use Rattle.sctp_c_calls.proofs.messages.next_message.Goals as goal

pub returns-in-None-clause-nothing : goal.returns-in-None-clause-nothing
returns-in-None-clause-nothing g c = nothing_ready (calls.ready_in c.args.socket.now.state) c.in-None.ensures
