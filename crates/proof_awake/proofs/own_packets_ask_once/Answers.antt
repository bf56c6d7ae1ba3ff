use Rattle.proof_awake.proofs.AskingLemmas.{own_packets_ask_once}
use Rattle.proof_awake.proofs.own_packets_ask_once.Goals as goal

pub returns : goal.returns
returns c = record { calls = own_packets_ask_once }
