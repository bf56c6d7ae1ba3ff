use Rattle.std.proofs.Common.{ℕ, ◌≡◌, ◌≤◌, ◌+◌, ◌-◌, subst, sym, arith, rules}
use Rattle.sctp_serial.specs.Unwrapped.{IsNearest, nearest}
use Rattle.sctp_serial.proofs.UnwrappedLemmas.{IsNearest_nearest}
use Rattle.sctp_serial.proofs.types.serial_number.SerialNumber.unwrapped_near.Goals as goal

pub returns-then-ahead-SPACE-clause-is_nearest : goal.returns-then-ahead-SPACE-clause-is_nearest
returns-then-ahead-SPACE-clause-is_nearest g c = λ small.
    let space : ℕ = g.Self.SerialNumber.SPACE in
    let first : ℕ = g.Self.SerialNumber.number c.args.first in
    let self : ℕ = g.Self.SerialNumber.number c.args.self in
    let room : space ≤ c.args.near = omega (arith, g.met.Self.SerialNumber.space_fits.1, c.requires.from_origin) in
    let value : c.args.near + c.steps_from-ahead.result ≡ nearest space first c.args.near self = search rules in
    subst (IsNearest space first c.args.near self) (sym value)
    (IsNearest_nearest space first c.args.near self g.met.Self.SerialNumber.space_fits.2 small room)

pub returns-else-ahead-SPACE-clause-is_nearest : goal.returns-else-ahead-SPACE-clause-is_nearest
returns-else-ahead-SPACE-clause-is_nearest g c = λ small.
    let space : ℕ = g.Self.SerialNumber.SPACE in
    let first : ℕ = g.Self.SerialNumber.number c.args.first in
    let self : ℕ = g.Self.SerialNumber.number c.args.self in
    let room : space ≤ c.args.near = omega (arith, g.met.Self.SerialNumber.space_fits.1, c.requires.from_origin) in
    let value : c.args.near + c.steps_from-ahead.result - c.SPACE-else-ahead-SPACE.result ≡ nearest space first c.args.near self = search rules in
    subst (IsNearest space first c.args.near self) (sym value)
    (IsNearest_nearest space first c.args.near self g.met.Self.SerialNumber.space_fits.2 small room)
