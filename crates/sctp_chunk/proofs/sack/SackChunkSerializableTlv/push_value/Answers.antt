use Rattle.std.proofs.Common.{◌∙◌}
use Rattle.std.proofs.lemmas.Result.{IfOk-equal}
use Rattle.sctp_chunk.specs.Written.{chunk_value}
use Rattle.sctp_chunk.proofs.SackLemmas.{sack_written}
use Rattle.sctp_chunk.proofs.sack.SackChunkSerializableTlv.push_value.Goals as goal

pub returns-clause-wrote : goal.returns-clause-wrote
unfolding chunk_value
returns-clause-wrote c =
    IfOk-equal c.push_entries-2.result _ _ _ c.push_entries-2.ensures.wrote
    (sack_written _ _ _ _ _ c.args.output.now.items _ _ (c.len-blocks.ensures ∙ c.args.self.now.gap_ack_blocks.ok.0) (c.len-duplicates.ensures ∙ c.args.self.now.duplicate_tsns.ok.0)
    c.deref.ensures.value c.deref-2.ensures.value c.in_ok-push_front.ensures.wrote c.in_ok-push_entries.ensures.wrote)
