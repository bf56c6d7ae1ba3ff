use Rattle.std.specs.Prelude.{option_to_list}
use Rattle.sctp_channels.proofs.FollowsLemmas.{answered_more}
use Rattle.sctp_channels.proofs.unanswered.answer_each.Goals as goal

pub loop-preserved : goal.loop-preserved
loop-preserved g c =
    answered_more c.args.unanswered.now (option_to_list c.take_first.result) c.loop.unanswered c.take_first.new.self c.take_first.ensures c.loop.invariant
