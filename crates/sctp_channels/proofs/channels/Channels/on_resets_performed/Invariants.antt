use Rattle.std.proofs.Common.{◌≡◌, drop}
use Rattle.sctp_state.specs.Events.{numbers_of}
use Rattle.sctp_channels.specs.Channels.{on_reset_performed}
use Rattle.sctp_channels.specs.Steps.{each}
use Rattle.sctp_channels.proofs.channels.Channels.on_resets_performed.Given as goal

abbrev pub invariant-loop-id : goal.invariant-loop-id
invariant-loop-id l = each on_reset_performed (numbers_of (drop l.id-index l.ids)) l.self ≡ each on_reset_performed (numbers_of l.ids) l.initial.self
