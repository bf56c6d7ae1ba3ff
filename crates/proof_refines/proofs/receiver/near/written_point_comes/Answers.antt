use Rattle.proof_refines.proofs.NearComesLemmas.{point_near}
use Rattle.proof_refines.proofs.receiver.near.written_point_comes.Goals as goal

pub returns : goal.returns
returns c = record {
  goes = λ message is_interleaved base first shift x handed t r k tsn f entries kept windows few shown near is_tracker none sent last moves tsn_is apart are are_now ordered.
      point_near message is_interleaved base first shift x kept windows handed t r shown near is_tracker k tsn f sent last moves are_now tsn_is apart none few ordered entries are;
}
