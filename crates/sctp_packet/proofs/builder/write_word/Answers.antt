use Rattle.std.proofs.Common.{◌++◌, List, ℕ, take, drop, ap, ◌∙◌}
use Rattle.sctp_wire.specs.Field.{be32}
use Rattle.sctp_packet.proofs.BuilderLemmas.{twelve}
use Rattle.sctp_packet.proofs.builder.write_word.Goals as goal

pub returns : goal.returns
unfolding be32
returns c = ap (λ (x : List ℕ). take 8 c.args.bytes.now ++ x) (ap (λ (x : List ℕ). c.copy_from_slice.new.self ++ x) (twelve c.args.bytes.now) ∙ ap (λ (x : List ℕ). x ++ drop 12 c.args.bytes.now) (c.copy_from_slice.ensures.after ∙ c.to_be_bytes.ensures))
