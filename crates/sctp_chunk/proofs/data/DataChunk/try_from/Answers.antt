use Rattle.std.proofs.Common.{sym, subst}
use Rattle.sctp_chunk.specs.Chunk.{FragmentTree, data_chunk}
use Rattle.sctp_chunk.specs.Grammar.{IsChunk}
use Rattle.sctp_chunk.specs.Views.{raw_chunk}
use Rattle.sctp_chunk.proofs.data.DataChunk.try_from.Goals as goal

pub returns-clause-ok : goal.returns-clause-ok
returns-clause-ok c =
    subst (λ (f : FragmentTree). IsChunk (raw_chunk c.args.raw) (data_chunk c.in_ok-view.view.tsn.0 c.in_ok-view.view.immediate_ack f)) (sym c.in_ok-to_data.ensures) c.in_ok-view.ensures.ok
