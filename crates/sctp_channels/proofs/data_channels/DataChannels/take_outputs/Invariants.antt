use Rattle.std.proofs.Common.{◌≡◌, length}
use Rattle.sctp_channels.specs.Steps.{StaysTold, with_outputs}
use Rattle.sctp_channels.proofs.data_channels.DataChannels.take_outputs.Given as goal

abbrev pub invariant-loop-output : goal.invariant-loop-output
invariant-loop-output g l = record {
  row : with_outputs l.self ≡ with_outputs l.initial.self;
  told : StaysTold l.initial.self l.self;
}

abbrev pub decreases-loop-output : goal.decreases-loop-output
decreases-loop-output g l = length l.self.channels.outputs
