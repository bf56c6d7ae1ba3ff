use Rattle.std.proofs.lemmas.Result.{on_err_weaker}
use Rattle.sctp_channels.proofs.StandsLemmas.{stands_ack, stands_then}
use Rattle.sctp_channels.proofs.channels.Channels.on_payload.Goals as goal

pub returns-clause-err : goal.returns-clause-err
returns-clause-err c =
    on_err_weaker c.deliver.result (stands_then c.args.self.now c.on_ack.new.self c.deliver.new.self (stands_ack c.args.id.0 c.args.self.now c.on_ack.new.self c.in_ok-on_ack.ensures.ok))
    c.deliver.ensures.err
