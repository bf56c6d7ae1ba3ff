use Rattle.std.proofs.Common.{map}
use Rattle.std.proofs.lemmas.List.{append-nil}
use Rattle.sctp_wire.specs.ParameterText.{parameter_text, stream_text}
use Rattle.sctp_wire.specs.Show.{join_texts}
use Rattle.sctp_parameter.proofs.reset.OutgoingSsnResetRequestParameterDisplay.fmt.Goals as goal

pub returns-clause-writes : goal.returns-clause-writes
unfolding parameter_text
returns-clause-writes g c = λ plain ok.
    rw (append-nil (join_texts (map stream_text c.args.self.now.streams.items)), ← c.deref.ensures.value) (c.write.ensures.writes plain ok)
