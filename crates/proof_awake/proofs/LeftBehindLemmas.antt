-- The conversation, computed.
use Rattle.std.proofs.Common.{refl}
use Rattle.rand_core.specs.Stream.{next_u32, next_u64}
use Rattle.sctp_wire.specs.Field.{be16, be32, be64}
use Rattle.sctp_wire.specs.Serialize.{padded_item, inner_items}
use Rattle.sctp_wire.specs.Parameter.{parameter_value}
use Rattle.sctp_wire.specs.Cause.{cause_value}
use Rattle.sctp_wire.specs.CauseText.{cause_text}
use Rattle.sctp_wire.specs.Show.{join_texts}
use Rattle.sctp_packet.specs.Written.{chunk_bytes, chunks_bytes, chunk_value, data_value, idata_value, init_fields, block_bytes, sack_value, skip_bytes, forward_value}
use Rattle.sctp_capabilities.specs.StateCookie.{cookie_bytes, capability_bytes, cookie_from, read_cookie}
use Rattle.spec_endpoint.specs.Timers.{tick_timers}
use Rattle.proof_awake.specs.LeftBehind.{AResetIsLeftBehind, NumbersAreLeftBehind, ALineIsLeft}

pub left_behind : AResetIsLeftBehind
unfolding next_u32 next_u64 be16 be32 be64 padded_item inner_items parameter_value cause_value cause_text join_texts chunk_bytes chunks_bytes chunk_value data_value idata_value init_fields block_bytes sack_value skip_bytes forward_value cookie_bytes capability_bytes cookie_from read_cookie tick_timers
left_behind = record { connected = (refl, refl); queued = refl; not_in_line = refl }

pub line_left : ALineIsLeft
unfolding next_u32 next_u64 be16 be32 be64 padded_item inner_items parameter_value cause_value cause_text join_texts chunk_bytes chunks_bytes chunk_value data_value idata_value init_fields block_bytes sack_value skip_bytes forward_value cookie_bytes capability_bytes cookie_from read_cookie tick_timers
line_left = record { connected = (refl, refl); in_line = refl }

pub numbers_left : NumbersAreLeftBehind
unfolding next_u32 next_u64 be16 be32 be64 padded_item inner_items parameter_value cause_value cause_text join_texts chunk_bytes chunks_bytes chunk_value data_value idata_value init_fields block_bytes sack_value skip_bytes forward_value cookie_bytes capability_bytes cookie_from read_cookie tick_timers
numbers_left = record { nothing_kept = (refl, refl); nothing_queued = refl; connected = (refl, refl); not_ready = refl }
