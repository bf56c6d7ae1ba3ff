use Rattle.std.proofs.lemmas.Result.{on_ok_weaker}
use Rattle.sctp_channels.proofs.FollowsLemmas.{follows_then, told_then}
use Rattle.sctp_channels.proofs.data_channels.DataChannels.collect_all.Goals as goal

pub returns-clause-steps : goal.returns-clause-steps
returns-clause-steps g c =
    on_ok_weaker c.take_rest.result (follows_then c.args.self.now c.take_ready.new.self c.take_rest.new.self c.in_ok-take_ready.ensures.steps) c.take_rest.ensures.steps

pub returns-clause-told : goal.returns-clause-told
returns-clause-told g c = told_then c.args.self.now c.take_ready.new.self c.take_rest.new.self c.take_ready.ensures.told c.take_rest.ensures.told
