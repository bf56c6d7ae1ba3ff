-- A restart, and an old cookie: two traces, computed.
use Rattle.std.proofs.Common.{inl, inr, refl, ap, arith}
use Rattle.rand_core.specs.Stream.{next_u32, next_u64}
use Rattle.sctp_wire.specs.Field.{be16, be32, be64}
use Rattle.sctp_wire.specs.Serialize.{padded_item, inner_items}
use Rattle.sctp_wire.specs.Parameter.{parameter_value}
use Rattle.sctp_wire.specs.Cause.{cause_value}
use Rattle.sctp_wire.specs.CauseText.{cause_text}
use Rattle.sctp_wire.specs.Show.{join_texts}
use Rattle.sctp_packet.specs.Written.{chunk_bytes, chunks_bytes, chunk_value, data_value, idata_value, init_fields, block_bytes, sack_value, skip_bytes, forward_value}
use Rattle.sctp_capabilities.specs.StateCookie.{cookie_bytes, capability_bytes, cookie_from, read_cookie}
use Rattle.spec_endpoint.specs.Timers.{tick_timers}
use Rattle.proof_pair.specs.Agreement.{Draw}
use Rattle.proof_pair.specs.Reopens.{AnOldCookieOpens, ARestartOpens}

pub old_cookie_opens : AnOldCookieOpens
unfolding next_u32 next_u64 be16 be32 be64 padded_item inner_items parameter_value cause_value cause_text join_texts chunk_bytes chunks_bytes chunk_value data_value idata_value init_fields block_bytes sack_value skip_bytes forward_value cookie_bytes capability_bytes cookie_from read_cookie tick_timers
old_cookie_opens = record {
  reopens = record {
    allowed = (tt, (tt, (tt, (tt, (tt, (tt, (tt, (tt, tt))))))));
    distinct = ((λ e h t. absurd h, tt), (λ e h t. absurd h, tt));
    emits = refl;
    b_holds = refl;
  };
  a_holds_none = refl;
}

pub restart_opens : ARestartOpens
unfolding next_u32 next_u64 be16 be32 be64 padded_item inner_items parameter_value cause_value cause_text join_texts chunk_bytes chunks_bytes chunk_value data_value idata_value init_fields block_bytes sack_value skip_bytes forward_value cookie_bytes capability_bytes cookie_from read_cookie tick_timers
restart_opens = record {
  allowed = (tt, (tt, (tt, (tt, (tt, (tt, (tt, (tt, (tt, (tt, tt))))))))));
  distinct = (
    (λ e h t. elim h [ inl p ↦ omega (arith, t, ap (λ (d : Draw). d.tag) p) | inr r ↦ absurd r ], (λ e h t. absurd h, tt)),
    (λ e h t. elim h [ inl p ↦ omega (arith, t, ap (λ (d : Draw). d.tag) p) | inr r ↦ absurd r ], (λ e h t. absurd h, tt)),
  );
  emits = refl;
  b_holds = refl;
}
