use Rattle.std.proofs.Common.{◌∙◌}
use Rattle.sctp_channels.specs.Channels.{on_reset_denied}
use Rattle.sctp_channels.proofs.FollowsLemmas.{each_one}
use Rattle.sctp_channels.proofs.channels.Channels.on_resets_denied.Goals as goal

pub loop-id-preserved : goal.loop-id-preserved
loop-id-preserved c =
    each_one on_reset_denied c.args.ids.now c.loop-id.id-index (record { 0 = 0 }) c.loop-id.self c.on_reset_denied.new.self c.loop-id-test.true c.in_ok-on_reset_denied.ensures.ok ∙ c.loop-id.invariant
