use Rattle.sctp_channels.specs.Steps.{Follows, StaysTold}
use Rattle.sctp_channels.proofs.data_channels.DataChannels.settle_some.Given as goal

abbrev pub invariant-loop-id : goal.invariant-loop-id
invariant-loop-id g l = record {
  steps : Follows l.initial.self l.self;
  told : StaysTold l.initial.self l.self;
}
