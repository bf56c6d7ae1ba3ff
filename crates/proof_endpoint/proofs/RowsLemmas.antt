-- The conversations, computed.
use Rattle.std.proofs.Common.{refl}
use Rattle.rand_core.specs.Stream.{next_u32, next_u64}
use Rattle.sctp_wire.specs.Field.{be16, be32, be64}
use Rattle.sctp_wire.specs.Serialize.{padded_item, inner_items}
use Rattle.sctp_wire.specs.Parameter.{parameter_value}
use Rattle.sctp_wire.specs.Cause.{cause_value}
use Rattle.sctp_wire.specs.CauseText.{cause_text}
use Rattle.sctp_wire.specs.Show.{join_texts}
use Rattle.sctp_packet.specs.Written.{chunk_bytes, chunks_bytes, chunk_value, data_value, idata_value, init_fields, block_bytes, sack_value, skip_bytes, forward_value}
use Rattle.sctp_capabilities.specs.StateCookie.{cookie_bytes, capability_bytes, cookie_from, read_cookie}
use Rattle.spec_endpoint.specs.Timers.{tick_timers}
use Rattle.spec_endpoint.specs.Rows.{Beats, BothConnect, Closes, FirstConversation, Fragments, GivenUpOnce, OtherOrder, ShutsDown, TakenUp, ResetsOnce, ResetWaits}

pub first_goes : FirstConversation
unfolding next_u32 next_u64 be16 be32 be64 padded_item inner_items parameter_value cause_value cause_text join_texts chunk_bytes chunks_bytes chunk_value data_value idata_value init_fields block_bytes sack_value skip_bytes forward_value cookie_bytes capability_bytes cookie_from read_cookie tick_timers
first_goes = record {
  opening = refl;
  mirrored = (refl, refl, refl, refl);
  sent = refl;
  came = refl;
  answered = refl;
  repeated = refl;
}

pub order_goes : OtherOrder
unfolding next_u32 next_u64 be16 be32 be64 padded_item inner_items parameter_value cause_value cause_text join_texts chunk_bytes chunks_bytes chunk_value data_value idata_value init_fields block_bytes sack_value skip_bytes forward_value cookie_bytes capability_bytes cookie_from read_cookie tick_timers
order_goes = record {
  waits = refl;
  ordered = refl;
  unordered = refl;
}

pub both_goes : BothConnect
unfolding next_u32 next_u64 be16 be32 be64 padded_item inner_items parameter_value cause_value cause_text join_texts chunk_bytes chunks_bytes chunk_value data_value idata_value init_fields block_bytes sack_value skip_bytes forward_value cookie_bytes capability_bytes cookie_from read_cookie tick_timers
both_goes = record {
  together = refl;
  mirrored = (refl, refl, refl, refl);
  discarded = refl;
  goes_on = refl;
  mirrored_late = (refl, refl, refl, refl);
  again = refl;
  same = (refl, refl, refl, refl);
}

pub given_up_goes : GivenUpOnce
unfolding next_u32 next_u64 be16 be32 be64 padded_item inner_items parameter_value cause_value cause_text join_texts chunk_bytes chunks_bytes chunk_value data_value idata_value init_fields block_bytes sack_value skip_bytes forward_value cookie_bytes capability_bytes cookie_from read_cookie tick_timers
given_up_goes = record {
  held = refl;
  given_up = refl;
  came = refl;
  silent = refl;
  delivered = refl;
}

pub fragments_goes : Fragments
unfolding next_u32 next_u64 be16 be32 be64 padded_item inner_items parameter_value cause_value cause_text join_texts chunk_bytes chunks_bytes chunk_value data_value idata_value init_fields block_bytes sack_value skip_bytes forward_value cookie_bytes capability_bytes cookie_from read_cookie tick_timers
fragments_goes = record {
  sent = refl;
  answered = refl;
  came = refl;
}

pub closes_goes : Closes
unfolding next_u32 next_u64 be16 be32 be64 padded_item inner_items parameter_value cause_value cause_text join_texts chunk_bytes chunks_bytes chunk_value data_value idata_value init_fields block_bytes sack_value skip_bytes forward_value cookie_bytes capability_bytes cookie_from read_cookie tick_timers
closes_goes = record {
  emitted = refl;
  resent = refl;
}

pub shuts_down_goes : ShutsDown
unfolding next_u32 next_u64 be16 be32 be64 padded_item inner_items parameter_value cause_value cause_text join_texts chunk_bytes chunks_bytes chunk_value data_value idata_value init_fields block_bytes sack_value skip_bytes forward_value cookie_bytes capability_bytes cookie_from read_cookie tick_timers
shuts_down_goes = record {
  emitted = refl;
  waits = refl;
  goes_on = refl;
  at_once = refl;
  gives_up = refl;
}

pub resets_goes : ResetsOnce
unfolding next_u32 next_u64 be16 be32 be64 padded_item inner_items parameter_value cause_value cause_text join_texts chunk_bytes chunks_bytes chunk_value data_value idata_value init_fields block_bytes sack_value skip_bytes forward_value cookie_bytes capability_bytes cookie_from read_cookie tick_timers
resets_goes = record {
  asked = refl;
  performed = refl;
  repeated = refl;
  answered = refl;
}

pub reset_waits_goes : ResetWaits
unfolding next_u32 next_u64 be16 be32 be64 padded_item inner_items parameter_value cause_value cause_text join_texts chunk_bytes chunks_bytes chunk_value data_value idata_value init_fields block_bytes sack_value skip_bytes forward_value cookie_bytes capability_bytes cookie_from read_cookie tick_timers
reset_waits_goes = record {
  waits = refl;
  in_progress = refl;
  performed = refl;
  repeated = refl;
  results = refl;
  again = refl;
  errors = refl;
}

pub beats_goes : Beats
unfolding next_u32 next_u64 be16 be32 be64 padded_item inner_items parameter_value cause_value cause_text join_texts chunk_bytes chunks_bytes chunk_value data_value idata_value init_fields block_bytes sack_value skip_bytes forward_value cookie_bytes capability_bytes cookie_from read_cookie tick_timers
beats_goes = record {
  asked = refl;
  answered = refl;
  again = refl;
  errors = refl;
  none = refl;
  later = refl;
}

pub taken_up_goes : TakenUp
unfolding next_u32 next_u64 be16 be32 be64 padded_item inner_items parameter_value cause_value cause_text join_texts chunk_bytes chunks_bytes chunk_value data_value idata_value init_fields block_bytes sack_value skip_bytes forward_value cookie_bytes capability_bytes cookie_from read_cookie tick_timers
taken_up_goes = record {
  ready = refl;
  left = refl;
  restored = refl;
  mirrored = (refl, refl, refl, refl);
  sent = refl;
  invalid = refl;
  not_closed = refl;
  neither = refl;
}
