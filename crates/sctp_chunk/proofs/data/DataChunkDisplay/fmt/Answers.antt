use Rattle.std.proofs.Common.{◌≡◌, length, ap, ◌∙◌, append_assoc}
use Rattle.std.proofs.lemmas.List.{append-nil}
use Rattle.sctp_serial.specs.declared.api.StreamId.{StreamId}
use Rattle.sctp_chunk.specs.Written.{key_stream}
use Rattle.sctp_chunk.specs.ChunkText.{chunk_text}
use Rattle.sctp_chunk.proofs.ValueLemmas.{key_id}
use Rattle.sctp_chunk.proofs.data.DataChunkDisplay.fmt.Goals as goal

pub returns-clause-writes : goal.returns-clause-writes
unfolding chunk_text
returns-clause-writes g c = λ plain ok.
    let w = c.write.ensures.writes plain ok in
    let stream : c.id.result.0 ≡ key_stream c.args.self.now.data.stream_key = ap (λ (id : StreamId). id.0) c.id.ensures ∙ key_id c.args.self.now.data.stream_key in
    let many : c.len.result ≡ length c.args.self.now.data.payload.items = c.len.ensures ∙ c.args.self.now.data.payload.ok.0 in
    simp (append_assoc, append-nil) (rw (stream, many, c.shown_flags.ensures) at w)
