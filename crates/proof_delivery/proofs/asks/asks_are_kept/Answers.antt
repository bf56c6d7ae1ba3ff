use Rattle.proof_delivery.proofs.AsksLemmas.{asks_stay, asks_stay_reset, ask_is_sent, ask_is_performed, ask_is_answered}
use Rattle.proof_delivery.proofs.asks.asks_are_kept.Goals as goal

pub returns-clause-transfers : goal.returns-clause-transfers
returns-clause-transfers c message is_interleaved x asks done answered e are kept may = asks_stay message is_interleaved x asks done answered are e kept may

pub returns-clause-resets : goal.returns-clause-resets
returns-clause-resets c message is_interleaved x asks done answered s are = asks_stay_reset message is_interleaved x asks done answered are s

pub returns-clause-sent : goal.returns-clause-sent
returns-clause-sent c message is_interleaved x asks done answered a are all fine upto raised = ask_is_sent message is_interleaved x asks done answered are a all fine upto raised

pub returns-clause-performed : goal.returns-clause-performed
returns-clause-performed c message is_interleaved x asks done answered a are there = ask_is_performed message is_interleaved asks done a there x answered are

pub returns-clause-answered : goal.returns-clause-answered
returns-clause-answered c message is_interleaved x asks done answered a are there behind raised = ask_is_answered message is_interleaved asks answered a there x done are behind raised
