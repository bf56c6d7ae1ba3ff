-- The run of a world in which a message is skipped: its trace, computed, is that of a world.
use Rattle.std.proofs.Common.{◌≡◌, Bool, true, false, List, map, drop, All, refl, sym, ap, subst, ◌∙◌}
use Rattle.std.specs.Prelude.{nat_lt}
use Rattle.std.proofs.lemmas.Bool.{ltb-true}
use Rattle.rand_core.specs.Stream.{next_u32, next_u64}
use Rattle.sctp_wire.specs.Field.{be16, be32, be64}
use Rattle.sctp_wire.specs.Serialize.{padded_item, inner_items}
use Rattle.sctp_wire.specs.Parameter.{parameter_value}
use Rattle.sctp_wire.specs.Cause.{cause_value}
use Rattle.sctp_wire.specs.CauseText.{cause_text}
use Rattle.sctp_wire.specs.Show.{join_texts}
use Rattle.sctp_packet.specs.Packet.{header_bytes, packet_bytes}
use Rattle.sctp_packet.specs.Written.{chunk_bytes, chunks_bytes, chunk_value, data_value, idata_value, init_fields, block_bytes, sack_value, skip_bytes, forward_value}
use Rattle.sctp_capabilities.specs.StateCookie.{cookie_bytes, capability_bytes, cookie_from, read_cookie}
use Rattle.sctp_state.specs.Options.{defaults}
use Rattle.spec_endpoint.specs.Pair.{counting_from}
use Rattle.spec_endpoint.specs.Timers.{tick_timers}
use Rattle.proof_endpoint.specs.Mapped.{as_written}
use Rattle.proof_pair.specs.Trace.{Pair, EndAction, emitted_packets, run}
use Rattle.proof_pair.specs.Opens.{at_first}
use Rattle.proof_delivery.specs.Accepted.{AcceptedMessage}
use Rattle.proof_delivery.specs.Skipping as delivery
use Rattle.proof_delivery.proofs.SkippingLemmas.{one_skipped}
use Rattle.spec_world.specs.Observations.{A}
use Rattle.proof_world.specs.Reachable.{ActionFits}
use Rattle.proof_world.specs.Traces.{AreActionsOf}
use Rattle.proof_world.specs.Skipping.{one_is_lost, OneIsSkipped}
use Rattle.proof_world.specs.Worlds.{BothEmitBytes}
use Rattle.proof_world.proofs.DeliveredLemmas.{offers_accepted}
use Rattle.proof_world.proofs.ShownLemmas.{used_in, Shown, shown}
use Rattle.proof_world.proofs.ComputedLemmas.{no_sum, actions_of, is_there, are_there, actions_are, are_small, all_small, all_true, fits_defaults, each_fits, text_fits}
use Rattle.proof_pair.proofs.OpensLemmas.{given_defaults}

-- ---- the trace, computed

abbrev last : Pair
last = run delivery.one_is_lost at_first

all_are_there : are_there delivery.one_is_lost at_first ≡ true
unfolding are_there is_there next_u32 next_u64 be16 be32 be64 padded_item inner_items parameter_value cause_value cause_text join_texts chunk_bytes chunks_bytes chunk_value data_value idata_value init_fields block_bytes sack_value skip_bytes forward_value cookie_bytes capability_bytes cookie_from read_cookie tick_timers
all_are_there = refl

small_a : all_small (map (as_written no_sum) (emitted_packets last.a)) ≡ true
unfolding all_small are_small packet_bytes header_bytes next_u32 next_u64 be16 be32 be64 padded_item inner_items parameter_value cause_value cause_text join_texts chunk_bytes chunks_bytes chunk_value data_value idata_value init_fields block_bytes sack_value skip_bytes forward_value cookie_bytes capability_bytes cookie_from read_cookie tick_timers
small_a = refl

small_b : all_small (map (as_written no_sum) (emitted_packets last.b)) ≡ true
unfolding all_small are_small packet_bytes header_bytes next_u32 next_u64 be16 be32 be64 padded_item inner_items parameter_value cause_value cause_text join_texts chunk_bytes chunks_bytes chunk_value data_value idata_value init_fields block_bytes sack_value skip_bytes forward_value cookie_bytes capability_bytes cookie_from read_cookie tick_timers
small_b = refl

few_computed : (x : Bool) → nat_lt (used_in x delivery.one_is_lost at_first) 32000 ≡ true
unfolding next_u32 next_u64 be16 be32 be64 padded_item inner_items parameter_value cause_value cause_text join_texts chunk_bytes chunks_bytes chunk_value data_value idata_value init_fields block_bytes sack_value skip_bytes forward_value cookie_bytes capability_bytes cookie_from read_cookie tick_timers
few_computed true = refl
few_computed false = refl

-- ---- the world

actions_fit : All ActionFits one_is_lost
actions_fit = each_fits one_is_lost (tt, (tt, (tt, (tt, (tt, (text_fits 97, (text_fits 98, (text_fits 99, (tt, (tt, (tt, (tt, (tt, (tt, (tt, (tt, tt))))))))))))))))

same_actions : actions_of one_is_lost ≡ delivery.one_is_lost
same_actions = refl

actions : AreActionsOf no_sum no_sum one_is_lost delivery.one_is_lost at_first
actions =
    subst (λ (es : List (Bool × EndAction)). AreActionsOf no_sum no_sum one_is_lost es at_first) same_actions
    (actions_are one_is_lost at_first refl (subst (λ (es : List (Bool × EndAction)). are_there es at_first ≡ true) (sym same_actions) all_are_there))

bytes : BothEmitBytes no_sum no_sum last
bytes = record { a = all_true (map (as_written no_sum) (emitted_packets last.a)) small_a; b = all_true (map (as_written no_sum) (emitted_packets last.b)) small_b }

shown_there : Shown one_is_lost delivery.one_is_lost at_first
shown_there =
    shown defaults defaults (counting_from 456) (counting_from 1000) no_sum no_sum one_is_lost delivery.one_is_lost given_defaults.valid given_defaults.valid fits_defaults fits_defaults actions_fit refl actions bytes
    one_skipped.follows one_skipped.not_ended

pub one_skipped_there : OneIsSkipped
one_skipped_there =
    let s : Shown one_is_lost delivery.one_is_lost at_first = shown_there in
    record {
      origin = s.origin;
      world = s.world;
      reachable = s.reachable;
      undisturbed = record { follows = s.follows (drop 1 one_is_lost) refl refl; stands = s.over };
      bounds = s.bounds refl one_skipped.bounds;
      few = s.few one_skipped.bounds (λ x. ltb-true (used_in x delivery.one_is_lost at_first) 32000 (few_computed x));
      accepts = offers_accepted A s.world.log ∙ (ap (map (λ (o : AcceptedMessage). o.message)) s.offers_a ∙ one_skipped.accepts);
      readies = s.ready_b ∙ one_skipped.readies;
      gives_up = s.given_up_a ∙ one_skipped.gives_up;
      reports = s.reported_a ∙ one_skipped.reports;
      rests = s.rests one_skipped.rests;
    }
