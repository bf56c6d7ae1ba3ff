use Rattle.std.proofs.Common.{◌++◌, [], List, ℕ, drop, ap, ◌∙◌}
use Rattle.sctp_packet.specs.PacketView.{header_tree}
use Rattle.sctp_packet.proofs.BuilderLemmas.{unsummed_behind}
use Rattle.sctp_packet.proofs.builder.write_header.Goals as goal

pub returns : goal.returns
returns c = ap (λ (x : List ℕ). x ++ drop 12 c.args.bytes.now) (c.copy_from_slice.ensures.after ∙ c.header_of.ensures) ∙ unsummed_behind (header_tree c.args.header) [] (drop 12 c.args.bytes.now)
