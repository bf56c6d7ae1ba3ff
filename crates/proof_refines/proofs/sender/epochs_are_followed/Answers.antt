use Rattle.proof_refines.proofs.BreakLemmas.{next_counted}
use Rattle.proof_refines.proofs.FollowLemmas.{others_follow, beginning_follows, accepting_follows, settings_follow, preparing_follows, requesting_follows, answering_follows}
use Rattle.proof_refines.proofs.FollowPacketLemmas.{breaks_are_kept, items_follow, sending_follows, fast_follows, receiving_follows}
use Rattle.proof_refines.proofs.sender.epochs_are_followed.Goals as goal

pub returns : goal.returns
returns c = record {
  beginning = beginning_follows;
  accepting = λ message lifecycle is_interleaved x q s k sh h expires limit. accepting_follows message lifecycle is_interleaved x q s.outstanding.items k sh h expires limit;
  settings = λ message lifecycle is_interleaved x q s k sh h id n emitted. settings_follow message lifecycle is_interleaved x q s.outstanding.items k sh h id n emitted;
  preparing = λ message lifecycle is_interleaved x q s k sh h id emitted. preparing_follows message lifecycle is_interleaved x q s.outstanding.items k sh h id emitted;
  requesting = λ message lifecycle is_interleaved x q s k sh h most. requesting_follows message lifecycle is_interleaved x q s.outstanding.items k sh h most;
  counted = λ message lifecycle is_interleaved x q s k sh. next_counted message lifecycle is_interleaved x q s.outstanding.items sh;
  answering = λ message lifecycle is_interleaved x q s k sh h ids each done. answering_follows message lifecycle is_interleaved x q s.outstanding.items k sh h ids each done;
  sending = λ message lifecycle is_interleaved x q s k sh h now most emitted l. sending_follows message lifecycle is_interleaved x q s k sh h now most emitted l;
  fast = λ message lifecycle is_interleaved x q s k sh h now most. fast_follows message lifecycle is_interleaved x q s k sh h now most;
  hearing = λ message lifecycle is_interleaved x q s k sh h now cumulative point a_rwnd blocks emitted valid upto sent receives.
      receiving_follows message lifecycle is_interleaved x q s k sh h now cumulative point a_rwnd blocks emitted upto receives;
  items = λ message lifecycle is_interleaved x q s k sh h t emitted later breaks l. items_follow message lifecycle is_interleaved x q s k sh h t emitted later breaks l;
  breaks = breaks_are_kept;
  others = others_follow;
}
