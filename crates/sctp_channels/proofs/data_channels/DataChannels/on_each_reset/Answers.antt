use Rattle.std.proofs.Common.{◌∙◌}
use Rattle.sctp_channels.specs.Channels.{on_incoming_reset}
use Rattle.sctp_channels.proofs.FollowsLemmas.{each_with}
use Rattle.sctp_channels.proofs.data_channels.DataChannels.on_each_reset.Goals as goal

pub loop-id-preserved : goal.loop-id-preserved
loop-id-preserved c = record {
  row = each_with on_incoming_reset c.args.ids.now c.loop-id.id-index (record { 0 = 0 }) c.loop-id.self c.on_incoming_reset.new.self c.loop-id-test.true c.in_ok-on_incoming_reset.ensures.row
      ∙ c.loop-id.invariant.row;
  told = c.on_incoming_reset.ensures.told ∙ c.loop-id.invariant.told;
}

pub returns-in_err-on_incoming_reset-clause-told : goal.returns-in_err-on_incoming_reset-clause-told
returns-in_err-on_incoming_reset-clause-told c = c.on_incoming_reset.ensures.told ∙ c.loop-id.invariant.told
