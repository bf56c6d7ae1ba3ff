use Rattle.std.proofs.lemmas.Result.{on_err_weaker}
use Rattle.sctp_channels.proofs.StandsLemmas.{ends_then}
use Rattle.sctp_channels.proofs.channels.Channels.open_there.Goals as goal

pub returns-clause-err : goal.returns-clause-err
returns-clause-err c =
    on_err_weaker c.take_open-2.result (ends_then c.lifecycle-lifecycle.result c.args.id.0 c.args.self.now c.tell_end.new.self c.take_open-2.new.self c.in_ok-tell_end.ensures.ok) c.take_open-2.ensures.err
