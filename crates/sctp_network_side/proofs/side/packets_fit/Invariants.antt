use Rattle.std.proofs.Common.{map, take}
use Rattle.sctp_packet.specs.Grammar.{Each}
use Rattle.spec_endpoint.specs.Wire.{AreBytes}
use Rattle.sctp_network_side.proofs.side.packets_fit.Given as goal

abbrev pub invariant-loop-bytes : goal.invariant-loop-bytes
invariant-loop-bytes l = Each AreBytes (map (λ bytes. bytes.items) (take l.bytes-index l.packets))
