use Rattle.proof_refines.proofs.NearComesLemmas.{is_read}
use Rattle.proof_refines.proofs.receiver.near.fragments_are_read.Goals as goal

pub returns : goal.returns
returns c = record {
  read = λ message is_interleaved base first shift x handed t r k tsn f kept windows few shown near tsn_is carries written unseen is_now ordered.
      is_read message is_interleaved base first shift x kept windows handed t r shown near k tsn f tsn_is carries unseen is_now few written ordered;
}
