use Rattle.std.proofs.Common.{ℕ, subst, sym}
use Rattle.sctp_serial.specs.SerialNumber.{IsGreater, serial_sum}
use Rattle.sctp_serial.proofs.UnwrappedLemmas.{IsGreater_sum, lt_of_IsGreater_sum}
use Rattle.sctp_serial.proofs.types.laws.is_greater_by_offset.Goals as goal

pub returns : goal.returns
returns g c =
    let space : ℕ = g.S.SerialNumber.SPACE in
    let base : ℕ = g.S.SerialNumber.number c.args.base in
    let P : ℕ → Type 0 = λ a. IsGreater space a (g.S.SerialNumber.number c.wrapped-2.result) in
    let Q : ℕ → Type 0 = λ b. IsGreater space (serial_sum space base c.args.i) b in (
      λ greater. lt_of_IsGreater_sum space base c.args.i c.args.j c.requires.first c.requires.second
          (subst Q c.wrapped-2.ensures (subst P c.wrapped.ensures (c.greater_than.ensures.0 greater))),
      λ less. c.greater_than.ensures.1
          (subst P (sym c.wrapped.ensures) (subst Q (sym c.wrapped-2.ensures) (IsGreater_sum space base c.args.i c.args.j c.requires.first less))),
    )
