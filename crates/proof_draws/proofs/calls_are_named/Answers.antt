use Rattle.proof_draws.proofs.CallLemmas.{send_named, send_many_named, take_named}
use Rattle.proof_draws.proofs.calls_are_named.Goals as goal

pub returns : goal.returns
returns c = record {
  calls = record {
    send = λ m how n are pack s k. send_named n are pack m how s k;
    send_many = λ ms how n are pack s k. send_many_named n are pack ms how s k;
    take_message = λ n are pack s k. take_named n are pack s;
  };
}
