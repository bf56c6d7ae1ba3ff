-- Runs of worlds that are computed: the traces of their actions, packets that are bytes, and what two ends start with.
use Rattle.std.proofs.Common.{◌≡◌, ℕ, ◌^◌, ◌<◌, ◌==◌, ◌&&◌, ◌||◌, not, Bool, true, false, Option, Some, None, List, [], ◌∷◌, map, slice_get, All, refl, sym, ap, ◌∙◌, arith}
use Rattle.std.specs.Prelude.{nat_lt}
use Rattle.std.specs.Option.{is_some}
use Rattle.std.specs.List.{list_any, AllByRecursion}
use Rattle.std.proofs.lemmas.Bool.{and_parts, ltb-true, or_right, or_parts}
use Rattle.std.proofs.lemmas.List.Elements.{All-nil, All-cons}
use Rattle.sctp_packet.specs.Chunk.{ChunkTree}
use Rattle.sctp_packet.specs.Packet.{HeaderTree}
use Rattle.sctp_state.specs.Options.{Options, defaults}
use Rattle.spec_endpoint.specs.Laws as table
use Rattle.spec_endpoint.specs.Wire.{field_of, AreBytes}
use Rattle.proof_endpoint.specs.Mapped.{Carried}
use Rattle.proof_endpoint.specs.Sound.{OptionsFit, FitsMessage}
use Rattle.proof_pair.specs.Trace as traces
use Rattle.proof_pair.specs.Trace.{Pair, EndAction, Calls, Gives, emitted_packets, goes}
use Rattle.proof_pair.specs.Handing.{text}
use Rattle.spec_world.specs.Observations.{A, B}
use Rattle.spec_world.specs.World.{Action, CallOf, Give, GiveForeign, AdvanceTime, table_call}
use Rattle.proof_world.specs.Reachable.{ActionFits}
use Rattle.proof_world.specs.Traces.{is_a, end_of, is_let_through, give_action, IsGiveAction, IsActionOf, AreActionsOf}
use Rattle.proof_world.specs.Worlds.{is_foreign, NoneIsForeign}

-- ---- where each checksum is 0, each packet is let through

abbrev pub no_sum : List ℕ → ℕ
no_sum bytes = 0

abbrev pub action_of : Action → EndAction
action_of (CallOf x call) = Calls (table_call call)
action_of (Give n x) = Gives n 0
action_of (GiveForeign x bytes) = Calls table.ReceiveNoPacket
action_of (AdvanceTime x now) = Calls (table.Advance now)

abbrev pub actions_of : List Action → List (Bool × EndAction)
actions_of actions = map (λ (action : Action). (is_a (end_of action), action_of action)) actions

zero_field : (is_summed : Bool) (h : HeaderTree) (chunks : List ChunkTree) → field_of no_sum h is_summed chunks ≡ 0
zero_field true h chunks = refl
zero_field false h chunks = refl

passes : (o : Options) (p : Carried) → is_let_through no_sum no_sum o p ≡ true
passes o p =
    ap (λ (n : ℕ). o.disable_checksum_verification || ((n == 0) || ((n == 0) && not (o.zero_checksum_method == 0)))) (zero_field p.is_summed p.header p.chunks)
    ∙ or_right o.disable_checksum_verification true refl

receives : (n : ℕ) (end beside : traces.Side) (o : Option Carried) → slice_get (emitted_packets beside) n ≡ o → is_some o ≡ true → IsGiveAction no_sum no_sum n end beside (Gives n 0)
receives n end beside None e h = cc
receives n end beside (Some p) e h = record {
  carried = p;
  there = e;
  received = sym (ap (λ (b : Bool). give_action b n (field_of no_sum p.header p.is_summed p.chunks)) (passes end.end.endpoint_state.context.options p) ∙ ap (λ (sum : ℕ). Gives n sum) (zero_field p.is_summed p.header p.chunks));
}

-- the packets that are given are there
unfoldable pub is_there : EndAction → traces.Side → Bool
is_there (Gives n checksum) beside = is_some (slice_get (emitted_packets beside) n)
is_there turn beside = true

unfoldable pub are_there : List (Bool × EndAction) → Pair → Bool
are_there [] c = true
are_there (e ∷ es) c = is_there e.1 (traces.side_of (not e.0) c) && are_there es (goes e.0 e.1 c)

one_action : (action : Action) (c : Pair) → is_foreign action ≡ false → is_there (action_of action) (traces.side_of (not (is_a (end_of action))) c) ≡ true
    → IsActionOf no_sum no_sum action (action_of action) c
unfolding is_there
one_action (CallOf x call) c k h = refl
one_action (Give n A) c k h = receives n c.a c.b (slice_get (emitted_packets c.b) n) refl h
one_action (Give n B) c k h = receives n c.b c.a (slice_get (emitted_packets c.a) n) refl h
one_action (GiveForeign x bytes) c k h = cc
one_action (AdvanceTime x now) c k h = refl

pub actions_are : (actions : List Action) (c : Pair) → NoneIsForeign actions → are_there (actions_of actions) c ≡ true → AreActionsOf no_sum no_sum actions (actions_of actions) c
unfolding are_there
actions_are [] c none h = tt
actions_are (action ∷ actions) c none h =
    let at_a : Bool = is_a (end_of action) in
    let parts = and_parts (is_there (action_of action) (traces.side_of (not at_a) c)) (are_there (actions_of actions) (goes at_a (action_of action) c)) h in (
      refl,
      one_action action c ((or_parts (is_foreign action) (list_any is_foreign actions) none).0) parts.0,
      actions_are actions (goes at_a (action_of action) c) ((or_parts (is_foreign action) (list_any is_foreign actions) none).1) parts.1,
    )

-- ---- bytes

unfoldable pub are_small : List ℕ → Bool
are_small [] = true
are_small (b ∷ bs) = nat_lt b (2 ^ 8) && are_small bs

unfoldable pub all_small : List (List ℕ) → Bool
all_small [] = true
all_small (bytes ∷ packets) = are_small bytes && all_small packets

small_true : (bs : List ℕ) → are_small bs ≡ true → AreBytes bs
unfolding are_small
small_true [] h = All-nil (λ (b : ℕ). b < 2 ^ 8)
small_true (b ∷ bs) h =
    let parts = and_parts (nat_lt b (2 ^ 8)) (are_small bs) h in
    All-cons (λ (b : ℕ). b < 2 ^ 8) b bs (ltb-true b (2 ^ 8) parts.0) (small_true bs parts.1)

pub all_true : (packets : List (List ℕ)) → all_small packets ≡ true → All AreBytes packets
unfolding all_small
all_true [] h = All-nil AreBytes
all_true (bytes ∷ packets) h =
    let parts = and_parts (are_small bytes) (all_small packets) h in
    All-cons AreBytes bytes packets (small_true bytes parts.0) (all_true packets parts.1)

-- ---- what two ends start with

pub fits_defaults : OptionsFit defaults
fits_defaults = record {
  local_port = omega arith;
  remote_port = omega arith;
  incoming_streams = omega arith;
  outgoing_streams = omega arith;
  receiver_window = omega arith;
  zero_checksum_method = omega arith;
  mtu_least = omega arith;
  mtu_most = omega arith;
}

pub each_fits : (actions : List Action) → AllByRecursion ActionFits actions → All ActionFits actions
each_fits [] h = All-nil ActionFits
each_fits (action ∷ actions) h = All-cons ActionFits action actions h.0 (each_fits actions h.1)

pub text_fits : (byte : ℕ) → FitsMessage (text byte)
text_fits byte = record { stream = omega arith; ppid = omega arith }
