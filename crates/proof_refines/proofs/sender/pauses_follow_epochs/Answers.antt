use Rattle.proof_refines.proofs.PrepareLemmas.{prepares_row}
use Rattle.proof_refines.proofs.PausedLemmas.{accepting_keeps, preparing_keeps, requesting_may, requesting_keeps, committing_keeps}
use Rattle.proof_refines.proofs.PauseRowLemmas.{settings_pause, discards_pause, turn_pauses, requests_pause, answers_pause, sending_pauses}
use Rattle.proof_refines.proofs.BegunLemmas.{turn_begins}
use Rattle.proof_refines.proofs.sender.pauses_follow_epochs.Goals as goal

pub returns : goal.returns
returns c = record {
  accepting = λ message lifecycle is_interleaved x q s k sh h expires limit. accepting_keeps message lifecycle is_interleaved x q s sh h expires limit;
  preparing = λ message lifecycle is_interleaved x q s k sh h id emitted.
      preparing_keeps message lifecycle is_interleaved x q s sh h id emitted (prepares_row message lifecycle is_interleaved x.transfer q s k sh id emitted).may;
  requesting = λ message lifecycle is_interleaved x q s k sh h id ready.
      (requesting_may message lifecycle is_interleaved x q s sh h id ready, requesting_keeps message lifecycle is_interleaved x q s sh h id ready);
  committing = λ message lifecycle is_interleaved x q s k sh h id asked done. committing_keeps message lifecycle is_interleaved x q s sh h id asked done;
  requests = λ message lifecycle is_interleaved x q s k sh h ids each. requests_pause message lifecycle is_interleaved s ids x q sh h each;
  answers = λ message lifecycle is_interleaved x q s k sh h ids each done. answers_pause message lifecycle is_interleaved s ids x q sh h each done;
  settings = λ message lifecycle is_interleaved x q s k sh h id n emitted. settings_pause x q h id n emitted;
  discarding = λ message lifecycle is_interleaved x q s emitted sh h. discards_pause message lifecycle is_interleaved x.transfer.sender x s.discards q emitted sh.queue sh.discards h;
  turning = λ message lifecycle is_interleaved x q s k sh h now id size emitted flows. turn_pauses x q sh.queue.order sh.queue.rising h now id size emitted flows;
  beginning = λ message lifecycle is_interleaved x q s k sh h now id size emitted es t flows may all points shown. turn_begins message lifecycle is_interleaved x q s k sh h now id size emitted flows es may all t shown points;
  sending = λ message is_interleaved x q es all h. sending_pauses message is_interleaved es x q all h;
}
