use Rattle.std.proofs.Common.{◌≡◌, drop}
use Rattle.sctp_state.specs.Events.{numbers_of}
use Rattle.sctp_channels.specs.Channels.{end_missing}
use Rattle.sctp_channels.specs.Steps.{each}
use Rattle.sctp_channels.proofs.channels.Channels.end_each_missing.Given as goal

abbrev pub invariant-loop-id : goal.invariant-loop-id
invariant-loop-id l = each end_missing (numbers_of (drop l.id-index l.ids)) l.self ≡ each end_missing (numbers_of l.ids) l.initial.self
