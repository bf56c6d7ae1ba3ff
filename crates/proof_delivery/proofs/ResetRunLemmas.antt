-- The trace in which a stream is reset, computed.
use Rattle.std.proofs.Common.{◌≡◌, ◌-◌, ◌^◌, ◌<◌, Bool, true, false, length, refl, inr}
use Rattle.std.proofs.lemmas.Bool.{ltb-true}
use Rattle.rand_core.specs.Stream.{next_u32, next_u64}
use Rattle.sctp_wire.specs.Field.{be16, be32, be64}
use Rattle.sctp_wire.specs.Serialize.{padded_item, inner_items}
use Rattle.sctp_wire.specs.Parameter.{parameter_value}
use Rattle.sctp_wire.specs.Cause.{cause_value}
use Rattle.sctp_wire.specs.CauseText.{cause_text}
use Rattle.sctp_wire.specs.Show.{join_texts}
use Rattle.sctp_packet.specs.Written.{chunk_bytes, chunks_bytes, chunk_value, data_value, idata_value, init_fields, block_bytes, sack_value, skip_bytes, forward_value}
use Rattle.sctp_capabilities.specs.StateCookie.{cookie_bytes, capability_bytes, cookie_from, read_cookie}
use Rattle.spec_endpoint.specs.Timers.{tick_timers}
use Rattle.proof_pair.specs.Trace.{run, side_of}
use Rattle.proof_pair.specs.Opens.{at_first}
use Rattle.proof_delivery.specs.Answered.{none_asked, performed_in}
use Rattle.proof_delivery.specs.StreamEpochs.{NoneIsRefused}
use Rattle.proof_delivery.specs.Accepted.{accepted}
use Rattle.proof_delivery.specs.Windows.{no_stamps}
use Rattle.proof_delivery.specs.Resetting.{one_is_reset, OneIsReset}
use Rattle.proof_delivery.proofs.BoundsLemmas.{near_next, all_near, keeps_within, is_within, is_young, young_if, is_timely, both_within, keeps_windows, windows_kept, keeps_requests, requests_kept}

windows_are : keeps_windows one_is_reset at_first no_stamps ≡ true
unfolding keeps_windows both_within is_within keeps_within all_near near_next is_timely young_if is_young next_u32 next_u64 be16 be32 be64 padded_item inner_items parameter_value cause_value cause_text join_texts chunk_bytes chunks_bytes chunk_value data_value idata_value init_fields block_bytes sack_value skip_bytes forward_value cookie_bytes capability_bytes cookie_from read_cookie tick_timers
windows_are = refl

few_accepted : (from_a : Bool) → length (accepted from_a one_is_reset at_first) < 2 ^ 32
unfolding next_u32 next_u64 be16 be32 be64 padded_item inner_items parameter_value cause_value cause_text join_texts chunk_bytes chunks_bytes chunk_value data_value idata_value init_fields block_bytes sack_value skip_bytes forward_value cookie_bytes capability_bytes cookie_from read_cookie tick_timers
few_accepted true = ltb-true 2 (2 ^ 32) refl
few_accepted false = ltb-true 0 (2 ^ 32) refl

requests_are : keeps_requests one_is_reset at_first none_asked ≡ true
unfolding keeps_requests next_u32 next_u64 be16 be32 be64 padded_item inner_items parameter_value cause_value cause_text join_texts chunk_bytes chunks_bytes chunk_value data_value idata_value init_fields block_bytes sack_value skip_bytes forward_value cookie_bytes capability_bytes cookie_from read_cookie tick_timers
requests_are = refl

few_performed : (x : Bool) → performed_in (side_of x (run one_is_reset at_first)).emitted < 2 ^ 32 - 1
unfolding next_u32 next_u64 be16 be32 be64 padded_item inner_items parameter_value cause_value cause_text join_texts chunk_bytes chunks_bytes chunk_value data_value idata_value init_fields block_bytes sack_value skip_bytes forward_value cookie_bytes capability_bytes cookie_from read_cookie tick_timers
few_performed true = ltb-true 1 (2 ^ 32 - 1) refl
few_performed false = ltb-true 0 (2 ^ 32 - 1) refl

refusals : NoneIsRefused one_is_reset at_first
unfolding next_u32 next_u64 be16 be32 be64 padded_item inner_items parameter_value cause_value cause_text join_texts chunk_bytes chunks_bytes chunk_value data_value idata_value init_fields block_bytes sack_value skip_bytes forward_value cookie_bytes capability_bytes cookie_from read_cookie tick_timers
refusals true = refl
refusals false = refl

pub one_reset : OneIsReset
unfolding next_u32 next_u64 be16 be32 be64 padded_item inner_items parameter_value cause_value cause_text join_texts chunk_bytes chunks_bytes chunk_value data_value idata_value init_fields block_bytes sack_value skip_bytes forward_value cookie_bytes capability_bytes cookie_from read_cookie tick_timers
one_reset = record {
  follows = (inr refl, (tt, (tt, (tt, (tt, (tt, (tt, (tt, (tt, (tt, (tt, (tt, (tt, (tt, tt))))))))))))));
  not_ended = record { a = refl; b = refl };
  bounds = record {
    windows = windows_kept one_is_reset at_first no_stamps windows_are;
    resets = record { answered = requests_kept one_is_reset at_first none_asked requests_are; few = few_performed };
    few = few_accepted;
    limits = refl;
  };
  epochs = refl;
  readies = refl;
  emitted = refl;
  performed = refl;
  none_refused = refusals;
}
