use Rattle.std.proofs.lemmas.Result.{on_ok_weaker}
use Rattle.sctp_channels.proofs.FollowsLemmas.{follows_then, told_then}
use Rattle.sctp_channels.proofs.data_channels.DataChannels.settle_closing.Goals as goal

pub returns-clause-steps : goal.returns-clause-steps
returns-clause-steps g c =
    on_ok_weaker c.settle_in_turn.result (follows_then c.args.self.now c.settle_due.new.self c.settle_in_turn.new.self c.in_ok-settle_due.ensures.steps) c.settle_in_turn.ensures.steps

pub returns-clause-told : goal.returns-clause-told
returns-clause-told g c = told_then c.args.self.now c.settle_due.new.self c.settle_in_turn.new.self c.settle_due.ensures.told c.settle_in_turn.ensures.told
