use Rattle.std.proofs.Common.{◌≡◌, drop}
use Rattle.sctp_state.specs.Events.{numbers_of}
use Rattle.sctp_channels.specs.Channels.{on_incoming_reset}
use Rattle.sctp_channels.specs.Steps.{each, with_channels}
use Rattle.sctp_channels.proofs.data_channels.DataChannels.on_each_reset.Given as goal

abbrev pub invariant-loop-id : goal.invariant-loop-id
invariant-loop-id l = record {
  row : with_channels (each on_incoming_reset (numbers_of (drop l.id-index l.ids)) l.self.channels) l.self ≡ with_channels (each on_incoming_reset (numbers_of l.ids) l.initial.self.channels) l.initial.self;
  told : l.self.events ≡ l.initial.self.events;
}
