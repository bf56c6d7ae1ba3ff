use Rattle.proof_refines.proofs.DeferralRowLemmas.{point_while}
use Rattle.proof_refines.proofs.receiver.resets.points_come_in_epochs.Goals as goal

pub returns : goal.returns
returns c = record {
  goes = λ message is_interleaved first shift x handed t r k tsn f entries is windows shown near waiting is_tracker few sent last moves tsn_is apart ordered are.
      point_while message is_interleaved first shift x is windows handed t r shown near waiting is_tracker k tsn f few sent last moves tsn_is apart ordered entries are;
}
