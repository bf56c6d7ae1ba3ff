use Rattle.std.proofs.lemmas.Result.{on_ok_weaker}
use Rattle.sctp_channels.proofs.FollowsLemmas.{follows_then, told_then}
use Rattle.sctp_channels.proofs.data_channels.DataChannels.settle_all.Goals as goal

pub returns-clause-steps : goal.returns-clause-steps
returns-clause-steps g c =
    on_ok_weaker c.carry_out.result (follows_then c.args.self.now c.settle_closing.new.self c.carry_out.new.self c.in_ok-settle_closing.ensures.steps) c.carry_out.ensures.steps

pub returns-clause-told : goal.returns-clause-told
returns-clause-told g c = told_then c.args.self.now c.settle_closing.new.self c.carry_out.new.self c.settle_closing.ensures.told c.carry_out.ensures.told
