-- The run of a world in which a stream is reset: its trace, computed, is that of a world.
use Rattle.std.proofs.Common.{◌≡◌, ℕ, Bool, true, false, List, [], ◌∷◌, map, drop, All, refl, sym, ap, subst, ◌∙◌, arith}
use Rattle.std.specs.Prelude.{nat_lt}
use Rattle.std.proofs.lemmas.Bool.{ltb-true}
use Rattle.rand_core.specs.Stream.{next_u32, next_u64}
use Rattle.sctp_wire.specs.Field.{be16, be32, be64}
use Rattle.sctp_wire.specs.Serialize.{padded_item, inner_items}
use Rattle.sctp_wire.specs.Parameter.{parameter_value}
use Rattle.sctp_wire.specs.Cause.{cause_value}
use Rattle.sctp_wire.specs.CauseText.{cause_text}
use Rattle.sctp_wire.specs.Show.{join_texts}
use Rattle.sctp_packet.specs.Packet.{header_bytes, packet_bytes}
use Rattle.sctp_packet.specs.Written.{chunk_bytes, chunks_bytes, chunk_value, data_value, idata_value, init_fields, block_bytes, sack_value, skip_bytes, forward_value}
use Rattle.sctp_capabilities.specs.StateCookie.{cookie_bytes, capability_bytes, cookie_from, read_cookie}
use Rattle.sctp_state.specs.Options.{defaults}
use Rattle.sctp_state.specs.Events.{Event}
use Rattle.spec_endpoint.specs.Pair.{counting_from}
use Rattle.spec_endpoint.specs.Timers.{tick_timers}
use Rattle.proof_endpoint.specs.Mapped.{as_written}
use Rattle.proof_pair.specs.Trace.{Pair, EndAction, emitted_packets, run}
use Rattle.proof_pair.specs.Opens.{at_first}
use Rattle.proof_delivery.specs.Accepted.{AcceptedMessage}
use Rattle.proof_delivery.specs.Accepted.{accepted}
use Rattle.proof_delivery.specs.Delivery.{plain}
use Rattle.proof_delivery.specs.Resetting as delivery
use Rattle.proof_delivery.specs.StreamEpochs.{performed_of, resets_emitted}
use Rattle.proof_delivery.proofs.ResetRunLemmas.{one_reset}
use Rattle.spec_world.specs.Observations.{A}
use Rattle.proof_world.specs.Reachable.{ActionFits}
use Rattle.proof_world.specs.Traces.{AreActionsOf}
use Rattle.proof_world.specs.Resetting.{one_is_reset, OneIsReset}
use Rattle.proof_world.specs.Worlds.{BothEmitBytes}
use Rattle.proof_world.proofs.HappenedLemmas.{bare_resets, bare_names}
use Rattle.proof_world.proofs.DeliveredLemmas.{offers_accepted}
use Rattle.proof_world.proofs.ShownLemmas.{used_in, Shown, shown}
use Rattle.proof_world.proofs.ComputedLemmas.{no_sum, actions_of, is_there, are_there, actions_are, are_small, all_small, all_true, fits_defaults, each_fits, text_fits}
use Rattle.proof_pair.proofs.OpensLemmas.{given_defaults}

-- ---- the trace, computed

abbrev last : Pair
last = run delivery.one_is_reset at_first

all_are_there : are_there delivery.one_is_reset at_first ≡ true
unfolding are_there is_there next_u32 next_u64 be16 be32 be64 padded_item inner_items parameter_value cause_value cause_text join_texts chunk_bytes chunks_bytes chunk_value data_value idata_value init_fields block_bytes sack_value skip_bytes forward_value cookie_bytes capability_bytes cookie_from read_cookie tick_timers
all_are_there = refl

small_a : all_small (map (as_written no_sum) (emitted_packets last.a)) ≡ true
unfolding all_small are_small packet_bytes header_bytes next_u32 next_u64 be16 be32 be64 padded_item inner_items parameter_value cause_value cause_text join_texts chunk_bytes chunks_bytes chunk_value data_value idata_value init_fields block_bytes sack_value skip_bytes forward_value cookie_bytes capability_bytes cookie_from read_cookie tick_timers
small_a = refl

small_b : all_small (map (as_written no_sum) (emitted_packets last.b)) ≡ true
unfolding all_small are_small packet_bytes header_bytes next_u32 next_u64 be16 be32 be64 padded_item inner_items parameter_value cause_value cause_text join_texts chunk_bytes chunks_bytes chunk_value data_value idata_value init_fields block_bytes sack_value skip_bytes forward_value cookie_bytes capability_bytes cookie_from read_cookie tick_timers
small_b = refl

two_accepted : accepted true delivery.one_is_reset at_first ≡ plain 97 ∷ plain 98 ∷ []
unfolding next_u32 next_u64 be16 be32 be64 padded_item inner_items parameter_value cause_value cause_text join_texts chunk_bytes chunks_bytes chunk_value data_value idata_value init_fields block_bytes sack_value skip_bytes forward_value cookie_bytes capability_bytes cookie_from read_cookie tick_timers
two_accepted = refl

few_computed : (x : Bool) → nat_lt (used_in x delivery.one_is_reset at_first) 32000 ≡ true
unfolding next_u32 next_u64 be16 be32 be64 padded_item inner_items parameter_value cause_value cause_text join_texts chunk_bytes chunks_bytes chunk_value data_value idata_value init_fields block_bytes sack_value skip_bytes forward_value cookie_bytes capability_bytes cookie_from read_cookie tick_timers
few_computed true = refl
few_computed false = refl

-- ---- the world

actions_fit : All ActionFits one_is_reset
actions_fit = each_fits one_is_reset (tt, (tt, (tt, (tt, (tt, (text_fits 97, ((omega arith, tt), ((omega arith, tt), (text_fits 98, (tt, (tt, (tt, (tt, (tt, tt))))))))))))))

same_actions : actions_of one_is_reset ≡ delivery.one_is_reset
same_actions = refl

actions : AreActionsOf no_sum no_sum one_is_reset delivery.one_is_reset at_first
actions =
    subst (λ (es : List (Bool × EndAction)). AreActionsOf no_sum no_sum one_is_reset es at_first) same_actions
    (actions_are one_is_reset at_first refl (subst (λ (es : List (Bool × EndAction)). are_there es at_first ≡ true) (sym same_actions) all_are_there))

bytes : BothEmitBytes no_sum no_sum last
bytes = record { a = all_true (map (as_written no_sum) (emitted_packets last.a)) small_a; b = all_true (map (as_written no_sum) (emitted_packets last.b)) small_b }

shown_there : Shown one_is_reset delivery.one_is_reset at_first
shown_there =
    shown defaults defaults (counting_from 456) (counting_from 1000) no_sum no_sum one_is_reset delivery.one_is_reset given_defaults.valid given_defaults.valid fits_defaults fits_defaults actions_fit refl actions bytes
    one_reset.follows one_reset.not_ended

pub one_reset_there : OneIsReset
one_reset_there =
    let s : Shown one_is_reset delivery.one_is_reset at_first = shown_there in
    record {
      origin = s.origin;
      world = s.world;
      reachable = s.reachable;
      undisturbed = record { follows = s.follows (drop 1 one_is_reset) refl refl; stands = s.over };
      bounds = s.bounds refl one_reset.bounds;
      few = s.few one_reset.bounds (λ x. ltb-true (used_in x delivery.one_is_reset at_first) 32000 (few_computed x));
      accepts = offers_accepted A s.world.log ∙ (ap (map (λ (o : AcceptedMessage). o.message)) s.offers_a ∙ ap (map (λ (o : AcceptedMessage). o.message)) two_accepted);
      epochs = s.epochs_a ∙ one_reset.epochs;
      readies = s.ready_b ∙ one_reset.readies;
      emitted = ap (λ (es : List (Event (List ℕ))). resets_emitted 1 es) s.emitted_b ∙ (bare_resets 1 last.b.emitted ∙ one_reset.emitted);
      performed = ap (λ (es : List (Event (List ℕ))). performed_of es) s.emitted_a ∙ (bare_names last.a.emitted ∙ one_reset.performed);
    }
