-- Ends whose packets are lists of chunks: the one is the other under other names, and so is each packet.
use Rattle.spec_endpoint.specs.Association.{EndpointState}
use Rattle.proof_endpoint.specs.Mapped.{Mapping, Carried, as_carried, map_endpoint_state}
use Rattle.proof_draws.specs.NamedChunks.{Names, named_header, named_chunks}
use Rattle.proof_draws.specs.Names.{named_endpoint_state}

abbrev pub named_carried : Names → Carried → Carried
named_carried n p = record { header = named_header n p.header; is_summed = p.is_summed; chunks = named_chunks n p.chunks }

abbrev pub as_named : Names → Mapping Carried Carried
as_named n = record { of = named_carried n; word_of = as_carried.word_of }

-- the end under these names, with each packet that it emitted under them
abbrev pub image : Names → EndpointState Carried → EndpointState Carried
image n s = named_endpoint_state n as_carried (map_endpoint_state (as_named n) s)
