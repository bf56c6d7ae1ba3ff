use Rattle.std.proofs.Common.{ℕ, List, arith}
use Rattle.std.proofs.lemmas.Result.{on_ok_weaker}
use Rattle.sctp_wire.specs.Item.{Item}
use Rattle.sctp_chunk.proofs.ShapedLemmas.{shaped_says}
use Rattle.sctp_control_chunk.proofs.check.check_value.Goals as goal

abbrev item : ℕ → ℕ → List ℕ → Item
item typ flags value = record { first = typ; second = flags; value = value }

pub returns-clause-ok : goal.returns-clause-ok
returns-clause-ok c =
    on_ok_weaker c.check_shape.result (shaped_says (item c.args.typ c.args.flags c.args.value.now) (λ i. omega (arith, c.type_inv.value i))) c.check_shape.ensures.ok
