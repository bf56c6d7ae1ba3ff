use Rattle.std.proofs.Common.{refl}
use Rattle.sctp_channels.proofs.FollowsLemmas.{follows_same, follows_then, told_same, told_then}
use Rattle.sctp_channels.proofs.data_channels.DataChannels.take_turns.Goals as goal

pub loop-init : goal.loop-init
loop-init g c = record { steps = follows_same c.args.self.now c.args.self.now refl; told = told_same c.args.self.now c.args.self.now refl }

pub loop-preserved : goal.loop-preserved
loop-preserved g c = record {
  steps = follows_then c.args.self.now c.loop.self c.take_event.new.self c.loop.invariant.steps c.in_ok-take_event.ensures.steps;
  told = told_then c.args.self.now c.loop.self c.take_event.new.self c.loop.invariant.told c.take_event.ensures.told;
}
