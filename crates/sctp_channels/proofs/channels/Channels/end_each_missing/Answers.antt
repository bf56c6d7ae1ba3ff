use Rattle.std.proofs.Common.{◌∙◌}
use Rattle.sctp_channels.specs.Channels.{end_missing}
use Rattle.sctp_channels.proofs.FollowsLemmas.{each_one}
use Rattle.sctp_channels.proofs.channels.Channels.end_each_missing.Goals as goal

pub loop-id-preserved : goal.loop-id-preserved
loop-id-preserved c =
    each_one end_missing c.args.ids.now c.loop-id.id-index (record { 0 = 0 }) c.loop-id.self c.end_missing.new.self c.loop-id-test.true c.in_ok-end_missing.ensures.ok ∙ c.loop-id.invariant
