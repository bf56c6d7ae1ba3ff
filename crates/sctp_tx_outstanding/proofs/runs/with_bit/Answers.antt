use Rattle.std.proofs.Common.{w64}
use Rattle.std.proofs.lemmas.Nat.Bits.{bit_at_set_same, bit_at_set_other, bit_at_clear_same, bit_at_clear_other}
use Rattle.sctp_tx_outstanding.proofs.runs.with_bit.Goals as goal

pub returns-then-is_set-clause-set : goal.returns-then-is_set-clause-set
returns-then-is_set-clause-set c = λ e. bit_at_set_same w64 c.args.bits c.args.bit c.requires.small

pub returns-then-is_set-clause-others : goal.returns-then-is_set-clause-others
returns-then-is_set-clause-others c = λ b less other. bit_at_set_other w64 c.args.bits c.args.bit c.requires.small b other

pub returns-else-is_set-clause-clear : goal.returns-else-is_set-clause-clear
returns-else-is_set-clause-clear c = λ e. bit_at_clear_same w64 c.args.bits c.args.bit c.requires.small

pub returns-else-is_set-clause-others : goal.returns-else-is_set-clause-others
returns-else-is_set-clause-others c = λ b less other. bit_at_clear_other w64 c.args.bits c.args.bit c.requires.small b less other
