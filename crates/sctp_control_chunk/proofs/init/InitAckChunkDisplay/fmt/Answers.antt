use Rattle.std.proofs.Common.{◌≡◌, length, map, sym, ◌∙◌}
use Rattle.std.proofs.lemmas.List.{append-nil, length-map}
use Rattle.sctp_parameter.specs.ParameterViews.{parameter_tree}
use Rattle.sctp_chunk.specs.ChunkText.{chunk_text}
use Rattle.sctp_control_chunk.proofs.init.InitAckChunkDisplay.fmt.Goals as goal

pub returns-clause-writes : goal.returns-clause-writes
unfolding chunk_text
returns-clause-writes g c = λ plain ok.
    let w = c.write.ensures.writes plain ok in
    let many : c.len.result ≡ length (map parameter_tree c.args.self.now.parameters.items) =
    c.len.ensures ∙ c.args.self.now.parameters.ok.0 ∙ sym (length-map c.args.self.now.parameters.items parameter_tree) in
    rw append-nil (rw many at w)
