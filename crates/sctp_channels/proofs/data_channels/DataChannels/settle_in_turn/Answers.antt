use Rattle.std.proofs.Common.{refl}
use Rattle.sctp_channels.proofs.FollowsLemmas.{follows_same, follows_then, told_same, told_then}
use Rattle.sctp_channels.proofs.data_channels.DataChannels.settle_in_turn.Goals as goal

pub loop-init : goal.loop-init
loop-init g c = record { steps = follows_same c.args.self.now c.args.self.now refl; told = told_same c.args.self.now c.args.self.now refl }

pub returns-in_err-settle_some-clause-told : goal.returns-in_err-settle_some-clause-told
returns-in_err-settle_some-clause-told g c = told_then c.args.self.now c.loop.self c.settle_some.new.self c.loop.invariant.told c.settle_some.ensures.told

pub returns-then-not-branch-clause-steps : goal.returns-then-not-branch-clause-steps
returns-then-not-branch-clause-steps g c = follows_then c.args.self.now c.loop.self c.settle_some.new.self c.loop.invariant.steps c.in_ok-settle_some.ensures.steps

pub returns-then-not-branch-clause-told : goal.returns-then-not-branch-clause-told
returns-then-not-branch-clause-told g c = told_then c.args.self.now c.loop.self c.settle_some.new.self c.loop.invariant.told c.settle_some.ensures.told

pub loop-preserved : goal.loop-preserved
loop-preserved g c = record {
  steps = follows_then c.args.self.now c.loop.self c.settle_some.new.self c.loop.invariant.steps c.in_ok-settle_some.ensures.steps;
  told = told_then c.args.self.now c.loop.self c.settle_some.new.self c.loop.invariant.told c.settle_some.ensures.told;
}
