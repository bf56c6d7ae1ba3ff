use Rattle.std.proofs.Common.{arith, ap, ◌∙◌}
use Rattle.std.specs.Int.{w16, from_be_bytes}
use Rattle.sctp_wire.proofs.FieldLemmas.{be16_front}
use Rattle.sctp_wire.proofs.field.first_u16.Goals as goal

pub returns-clause-number : goal.returns-clause-number
returns-clause-number c =
    let cases = c.in-Some.ensures.cases in
    rw cases.1 (be16_front c.args.bytes.now c.from_be_bytes.result (λ i. omega (arith, c.type_inv.bytes i)) (omega arith)
    (c.from_be_bytes.ensures ∙ ap (from_be_bytes w16) cases.0))
