use Rattle.std.proofs.lemmas.Result.{on_ok_weaker}
use Rattle.sctp_channels.proofs.FollowsLemmas.{follows_then, told_then}
use Rattle.sctp_channels.proofs.data_channels.DataChannels.take_ready.Goals as goal

pub returns-clause-steps : goal.returns-clause-steps
returns-clause-steps g c =
    on_ok_weaker c.settle.result (follows_then c.args.self.now c.take_messages.new.self c.settle.new.self c.in_ok-take_messages.ensures.steps) c.settle.ensures.steps

pub returns-clause-told : goal.returns-clause-told
returns-clause-told g c = told_then c.args.self.now c.take_messages.new.self c.settle.new.self c.take_messages.ensures.told c.settle.ensures.told
