use Rattle.std.proofs.Common.{◌+◌, length}
use Rattle.proof_refines.proofs.LedLemmas.{led_none}
use Rattle.proof_refines.proofs.TurnLemmas.{produces}
use Rattle.proof_refines.proofs.sender.fragments_are_numbered.Goals as goal

pub returns : goal.returns
returns c = λ message lifecycle is_interleaved x q s k sh now size emitted none some.
    produces message lifecycle is_interleaved x emitted s.outstanding.items none now size some (length q.scheduler.times + 2) q emitted (led_none message lifecycle is_interleaved x emitted q s.outstanding.items k sh)
