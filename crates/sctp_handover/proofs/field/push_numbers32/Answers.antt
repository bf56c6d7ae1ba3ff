use Rattle.std.proofs.Common.{append-nil, sym, arith}
use Rattle.std.proofs.lemmas.List.Elements.{All-from_get_or}
use Rattle.sctp_wire.specs.Field.{be32}
use Rattle.sctp_handover.specs.Bounds.{Is32}
use Rattle.sctp_handover.proofs.PartLemmas.{all_written, number_on}
use Rattle.sctp_handover.proofs.field.push_numbers32.Goals as goal

pub loop-number-init : goal.loop-number-init
loop-number-init c = sym (append-nil c.args.output.now.items)

pub loop-number-preserved : goal.loop-number-preserved
loop-number-preserved c = number_on be32 c.args.numbers.now c.loop-number.number-index 0 _ _ _ c.loop-number-test.true c.loop-number.invariant c.in_ok-push_u32.ensures.wrote

pub returns-clause-wrote : goal.returns-clause-wrote
returns-clause-wrote c = all_written be32 c.args.numbers.now c.loop-number.number-index _ _ c.loop-number-test.false c.loop-number.invariant

pub returns-clause-fits : goal.returns-clause-fits
returns-clause-fits c = All-from_get_or Is32 c.args.numbers.now 0 (λ i within. omega (arith, c.type_inv.numbers i))
