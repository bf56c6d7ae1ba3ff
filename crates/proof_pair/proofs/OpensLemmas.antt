-- The two traces, computed.
use Rattle.std.proofs.Common.{inr, refl, arith}
use Rattle.rand_core.specs.Stream.{next_u32, next_u64}
use Rattle.sctp_wire.specs.Field.{be16, be32, be64}
use Rattle.sctp_wire.specs.Serialize.{padded_item, inner_items}
use Rattle.sctp_wire.specs.Parameter.{parameter_value}
use Rattle.sctp_wire.specs.Cause.{cause_value}
use Rattle.sctp_wire.specs.CauseText.{cause_text}
use Rattle.sctp_wire.specs.Show.{join_texts}
use Rattle.sctp_packet.specs.Written.{chunk_bytes, chunks_bytes, chunk_value, data_value, idata_value, init_fields, block_bytes, sack_value, skip_bytes, forward_value}
use Rattle.sctp_capabilities.specs.StateCookie.{cookie_bytes, capability_bytes, cookie_from, read_cookie}
use Rattle.spec_endpoint.specs.Timers.{tick_timers}
use Rattle.sctp_state.specs.Options.{defaults}
use Rattle.proof_pair.specs.Trace.{AreValidOptions}
use Rattle.proof_pair.specs.Opens.{OneConnects, BothConnect}

pub given_defaults : AreValidOptions defaults
given_defaults = record {
  valid = record {
    sizes = record {
      mtu_least = omega arith;
      mtu_most = omega arith;
      receiver_window = omega arith;
      send_buffer = omega arith;
      stream_queue = omega arith;
      message = omega arith;
    };
    times = record {
      rto_range = omega arith;
      rto_min = omega arith;
      rto_initial = omega arith;
      t1_init = omega arith;
      t1_cookie = omega arith;
      delayed_ack = omega arith;
    };
    windows = record {
      initial_least = omega arith;
      initial_most = omega arith;
      min_least = omega arith;
      min_most = omega arith;
      avoid_least = omega arith;
      avoid_most = omega arith;
      immediate_most = omega arith;
    };
  };
  incoming = omega arith;
  outgoing = omega arith;
  method = omega arith;
}

pub one_opens : OneConnects
unfolding next_u32 next_u64 be16 be32 be64 padded_item inner_items parameter_value cause_value cause_text join_texts chunk_bytes chunks_bytes chunk_value data_value idata_value init_fields block_bytes sack_value skip_bytes forward_value cookie_bytes capability_bytes cookie_from read_cookie tick_timers
one_opens = record {
  given = given_defaults;
  follows = (inr refl, (tt, (tt, (tt, (tt, tt)))));
  not_ended = record { a = refl; b = refl };
  a_connected = refl;
  b_connected = refl;
}

pub both_open : BothConnect
unfolding next_u32 next_u64 be16 be32 be64 padded_item inner_items parameter_value cause_value cause_text join_texts chunk_bytes chunks_bytes chunk_value data_value idata_value init_fields block_bytes sack_value skip_bytes forward_value cookie_bytes capability_bytes cookie_from read_cookie tick_timers
both_open = record {
  given = given_defaults;
  follows = (inr refl, (inr refl, (tt, (tt, (tt, (tt, (tt, (tt, tt))))))));
  not_ended = record { a = refl; b = refl };
  a_connected = refl;
  b_connected = refl;
}
