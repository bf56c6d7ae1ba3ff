use Rattle.std.proofs.Common.{refl, ap}
use Rattle.sctp_channels.specs.Steps.{DataChannels}
use Rattle.sctp_channels.proofs.FollowsLemmas.{follows_same, follows_then, told_same, told_then}
use Rattle.sctp_channels.proofs.data_channels.DataChannels.settle_some.Goals as goal

pub loop-id-init : goal.loop-id-init
loop-id-init g c = record { steps = follows_same c.next_closing.new.self c.next_closing.new.self refl; told = told_same c.next_closing.new.self c.next_closing.new.self refl }

pub returns-in_err-settle_one-clause-told : goal.returns-in_err-settle_one-clause-told
returns-in_err-settle_one-clause-told g c =
    told_then c.args.self.now c.next_closing.new.self c.settle_one.new.self
    (told_same c.args.self.now c.next_closing.new.self (ap (λ (x : DataChannels). x.events) c.next_closing.ensures))
    (told_then c.next_closing.new.self c.loop-id.self c.settle_one.new.self c.loop-id.invariant.told c.settle_one.ensures.told)

pub returns-clause-steps : goal.returns-clause-steps
returns-clause-steps g c =
    follows_then c.args.self.now c.next_closing.new.self c.loop-id.self (follows_same c.args.self.now c.next_closing.new.self c.next_closing.ensures) c.loop-id.invariant.steps

pub returns-clause-told : goal.returns-clause-told
returns-clause-told g c =
    told_then c.args.self.now c.next_closing.new.self c.loop-id.self
    (told_same c.args.self.now c.next_closing.new.self (ap (λ (x : DataChannels). x.events) c.next_closing.ensures)) c.loop-id.invariant.told
