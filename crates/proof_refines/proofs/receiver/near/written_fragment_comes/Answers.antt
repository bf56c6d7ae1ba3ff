use Rattle.proof_refines.proofs.NearComesLemmas.{held_near, late_near}
use Rattle.proof_refines.proofs.receiver.near.written_fragment_comes.Goals as goal

pub returns-clause-held : goal.returns-clause-held
returns-clause-held c message is_interleaved base first shift x handed t r k tsn f now kept windows few shown near is_tracker none tsn_is carries written unseen is_now ordered current =
    held_near message is_interleaved base first shift x kept windows handed t r shown near k tsn f tsn_is carries unseen is_now is_tracker none few written ordered now current

pub returns-clause-late : goal.returns-clause-late
returns-clause-late c message is_interleaved base first shift x handed t r k tsn f now kept windows few shown near is_tracker none tsn_is carries written unseen is_now ordered late =
    late_near message is_interleaved base first shift x kept windows handed t r shown near k tsn f tsn_is carries unseen is_now is_tracker none few written ordered now late
