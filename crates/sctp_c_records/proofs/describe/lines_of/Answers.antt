use Rattle.std.proofs.Common.{ℕ, List, [], ◌∷◌, ◌++◌, map, refl, ap, ◌∙◌, string_bytes}
use Rattle.sctp_chunk.specs.ChunkText.{chunk_text}
use Rattle.sctp_packet.specs.declared.Chunk.{Chunk}
use Rattle.sctp_packet.specs.ChunkView.{chunk_tree}
use Rattle.sctp_c_records.specs.Describe.{chunk_lines}
use Rattle.sctp_c_records.proofs.WorkLemmas.{work_more, work_done}
use Rattle.sctp_c_records.proofs.describe.lines_of.Goals as goal

abbrev lines : List Chunk → List ℕ
lines chunks = chunk_lines (map chunk_tree chunks)

abbrev line : Chunk → List ℕ
line chunk = chunk_text (chunk_tree chunk) ++ (10 ∷ [])

pub loop-chunk-preserved : goal.loop-chunk-preserved
loop-chunk-preserved c = work_more lines line (λ _ _. refl) (string_bytes c.loop-chunk.text) (string_bytes c.push_str.new.self) c.args.chunks.now
    c.loop-chunk.chunk-index c.chunk-item.result c.loop-chunk-test.true
    (c.in_ok-push_str.ensures.bytes
    ∙ ap (λ (l : List ℕ). string_bytes c.loop-chunk.text ++ l) (c.deref.ensures ∙ (c.in_ok-line.ensures.ok ∙ ap line c.chunk-item.is)))
    c.loop-chunk.invariant

pub returns : goal.returns
returns c = work_done lines refl (string_bytes c.loop-chunk.text) c.args.chunks.now c.loop-chunk.chunk-index c.loop-chunk-test.false c.loop-chunk.invariant
