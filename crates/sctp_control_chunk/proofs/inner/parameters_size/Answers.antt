use Rattle.std.proofs.Common.{rules}
use Rattle.std.proofs.lemmas.Simd.{map-map}
use Rattle.sctp_control_chunk.proofs.inner.parameters_size.Goals as goal

pub returns : goal.returns
returns c = rw map-map (search rules)
