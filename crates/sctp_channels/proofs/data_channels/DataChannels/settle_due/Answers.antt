use Rattle.std.proofs.Common.{ap}
use Rattle.sctp_channels.specs.Steps.{DataChannels}
use Rattle.sctp_channels.proofs.FollowsLemmas.{told_same, told_then}
use Rattle.sctp_channels.proofs.data_channels.DataChannels.settle_due.Goals as goal

pub returns-in_err-settle_one-in-Some-clause-told : goal.returns-in_err-settle_one-in-Some-clause-told
returns-in_err-settle_one-in-Some-clause-told g c =
    told_then c.args.self.now c.loop.self c.settle_one.new.self c.loop.invariant.told
    (told_then c.loop.self c.next_due.new.self c.settle_one.new.self (told_same c.loop.self c.next_due.new.self (ap (λ (x : DataChannels). x.events) c.next_due.ensures)) c.settle_one.ensures.told)
