use Rattle.sctp_state.specs.Handover.{handover_state_of}
use Rattle.sctp_tx_queue.proofs.RestoreLemmas.{connection}
use Rattle.sctp_tx_queue.proofs.send_queue.SendQueue.restore_from_state.Goals as goal

pub restored-requires-clause-rises : goal.restored-requires-clause-rises
restored-requires-clause-rises c = (connection (handover_state_of c.args.state.now) c.requires.connected c.requires.valid).rises

pub restored-requires-clause-valid : goal.restored-requires-clause-valid
restored-requires-clause-valid c = (connection (handover_state_of c.args.state.now) c.requires.connected c.requires.valid).messages

pub restored-requires-clause-small : goal.restored-requires-clause-small
restored-requires-clause-small c = (connection (handover_state_of c.args.state.now) c.requires.connected c.requires.valid).bytes
