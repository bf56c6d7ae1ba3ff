use Rattle.std.proofs.Common.{rules, ◌∙◌}
use Rattle.sctp_packet.specs.Views.{raw_chunk}
use Rattle.sctp_handshake.proofs.OutlineLemmas.{item_as}
use Rattle.sctp_handshake.proofs.validation.Outline.of_chunk.Goals as goal

pub returns : goal.returns
returns c = λ t is. search (rules) ∙ item_as (raw_chunk c.args.raw.now) t is
