use Rattle.std.proofs.Common.{false, refl}
use Rattle.sctp_tx_outstanding.specs.OutstandingData.{no_items}
use Rattle.proof_refines.proofs.StartLemmas.{new_shows, begins_shows, reset_shows}
use Rattle.proof_refines.proofs.sender.new_values_show_the_start.Goals as goal

pub returns : goal.returns
returns c = record {
  new = new_shows;
  beginning = λ message lifecycle is_interleaved is_partial n q sh. begins_shows message lifecycle false n q (no_items false false) sh refl is_interleaved is_partial refl;
  reset = reset_shows;
}
