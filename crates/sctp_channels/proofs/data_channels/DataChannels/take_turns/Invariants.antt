use Rattle.sctp_channels.specs.Steps.{Follows, StaysTold}
use Rattle.sctp_channels.proofs.data_channels.DataChannels.take_turns.Given as goal

abbrev pub invariant-loop : goal.invariant-loop
invariant-loop g l = record {
  steps : Follows l.initial.self l.self;
  told : StaysTold l.initial.self l.self;
}
