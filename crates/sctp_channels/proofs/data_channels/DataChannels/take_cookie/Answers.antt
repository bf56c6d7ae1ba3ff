use Rattle.std.proofs.lemmas.Result.{on_ok_weaker}
use Rattle.sctp_channels.proofs.FollowsLemmas.{follows_then, told_then}
use Rattle.sctp_channels.proofs.data_channels.DataChannels.take_cookie.Goals as goal

pub returns-clause-steps : goal.returns-clause-steps
returns-clause-steps g c =
    on_ok_weaker c.take_begun.result (follows_then c.args.self.now c.collect.new.self c.take_begun.new.self c.in_ok-collect.ensures.steps) c.take_begun.ensures.steps

pub returns-clause-told : goal.returns-clause-told
returns-clause-told g c = told_then c.args.self.now c.collect.new.self c.take_begun.new.self c.collect.ensures.told c.take_begun.ensures.told
