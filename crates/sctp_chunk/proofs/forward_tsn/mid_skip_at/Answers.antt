use Rattle.std.proofs.Common.{◌++◌, ℕ, ap, sym}
use Rattle.sctp_wire.specs.Field.{be16, be32}
use Rattle.sctp_chunk.proofs.SkipLemmas.{three_fields}
use Rattle.sctp_chunk.proofs.forward_tsn.mid_skip_at.Goals as goal

pub returns-clause-ok : goal.returns-clause-ok
returns-clause-ok c = (
  be16 c.first_u16-id.result.0 ++ (be16 c.first_u16-flags.result.0 ++ be32 c.first_u32-mid.result.0),
  three_fields c.args.bytes.now _ _ _ _ _ _ c.first_u16-id.ensures.number c.first_u16-flags.ensures.number c.first_u32-mid.ensures.number,
  (c.first_u16-flags.result.0, c.first_u16-flags.ensures.fits, ap (λ (n : ℕ). be16 n ++ (be16 c.first_u16-flags.result.0 ++ be32 c.first_u32-mid.result.0)) (sym c.stream_key-key.ensures.stream), c.stream_key-key.ensures.kind),
)
