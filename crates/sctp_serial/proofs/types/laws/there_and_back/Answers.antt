use Rattle.std.proofs.Common.{ℕ, ◌≤◌, ◌∙◌, ap, arith}
use Rattle.sctp_serial.specs.Unwrapped.{nearest}
use Rattle.sctp_serial.proofs.UnwrappedLemmas.{nearest_wire}
use Rattle.sctp_serial.proofs.types.laws.there_and_back.Goals as goal

pub returns : goal.returns
returns g c =
    let space : ℕ = g.S.SerialNumber.SPACE in
    let first : ℕ = g.S.SerialNumber.number c.args.first in
    let room : space ≤ c.args.near = omega (arith, g.met.S.SerialNumber.space_fits.1, c.requires.from_origin) in
    c.unwrapped_near.ensures.value
    ∙ ap (nearest space first c.args.near) c.wrapped.ensures
    ∙ nearest_wire space first c.args.near c.args.n room c.requires.not_above c.requires.not_below
