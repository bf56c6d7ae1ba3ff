use Rattle.std.proofs.Common.{◌<◌, ◌^◌, arith, rules}
use Rattle.std.proofs.lemmas.Nat.{mul-lt}
use Rattle.sctp_state.proofs.timer.Timer.doubled.Goals as goal

pub overflow_mul-result : goal.overflow_mul-result
overflow_mul-result c =
    let nanos : c.as_nanos-in-Exponential.result < 2 ^ 94 = search rules in
    let times : c.doublings.result < 2 ^ 32 = omega (arith, c.doublings.ensures.small) in
    omega (arith, mul-lt c.as_nanos-in-Exponential.result c.doublings.result (2 ^ 94) (2 ^ 32) nanos times)
