use Rattle.proof_refines.proofs.DeferralRowLemmas.{held_while, late_while}
use Rattle.proof_refines.proofs.receiver.resets.fragments_come_in_epochs.Goals as goal

pub returns-clause-held : goal.returns-clause-held
returns-clause-held c message is_interleaved first shift x handed t r k tsn f now is windows shown near waiting is_tracker few tsn_is carries written unseen ordered current =
    held_while message is_interleaved first shift x is windows handed t r shown near waiting is_tracker k tsn f few tsn_is carries written unseen ordered now current

pub returns-clause-late : goal.returns-clause-late
returns-clause-late c message is_interleaved first shift x handed t r k tsn f now is windows shown near waiting is_tracker few tsn_is carries written unseen ordered late =
    late_while message is_interleaved first shift x is windows handed t r shown near waiting is_tracker k tsn f few tsn_is carries written unseen ordered now late
