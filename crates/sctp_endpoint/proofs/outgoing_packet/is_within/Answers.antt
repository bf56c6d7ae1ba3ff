use Rattle.std.proofs.Common.{length}
use Rattle.sctp_wire.specs.Serialize.{padded_item}
use Rattle.sctp_endpoint.proofs.OutgoingLemmas.{within}
use Rattle.sctp_endpoint.proofs.outgoing_packet.is_within.Goals as goal

pub returns : goal.returns
returns g c = within (length (padded_item (g.T.SerializableTlv.item_of c.args.chunk.now))) c.serialized_size.result c.args.room c.serialized_size.ensures c.requires
