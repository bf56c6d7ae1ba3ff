use Rattle.std.proofs.Common.{◌≡◌, ◌++◌, List}
use Rattle.std.specs.Prelude.{map}
use Rattle.sctp_channels.specs.Channels.{Output, output_of, shown_streams, tell_closed}
use Rattle.sctp_channels.proofs.channels.tell_all_closed.Given as goal

abbrev pub invariant-loop-id : goal.invariant-loop-id
invariant-loop-id l = record {
  row : map output_of l.outputs.items ++ map tell_closed (shown_streams l.id-iterator) ≡ map output_of l.initial.outputs.items ++ map tell_closed (shown_streams l.channels.entries);
  more : (more : List Output) × (map output_of l.outputs.items ≡ map output_of l.initial.outputs.items ++ more);
}
