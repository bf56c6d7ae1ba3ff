-- Along a trace: no action changes whether an end avoids stalls.
use Rattle.std.proofs.Common.{◌≡◌, ℕ, Option, Some, None, List, refl, ◌∙◌, slice_get}
use Rattle.sctp_packet.specs.Packet.{PacketTree}
use Rattle.spec_endpoint.specs.Association.{Context, Endpoint}
use Rattle.spec_endpoint.specs.Input.{packet_refusal}
use Rattle.spec_endpoint.specs.ResetRequests.{Outcome, Unsettled, Done, Denied, outcome}
use Rattle.spec_endpoint.specs.StreamReset.{on_outcome}
use Rattle.spec_endpoint.specs.Laws.{Call, ReceivePacket, called}
use Rattle.proof_endpoint.specs.Mapped.{Carried}
use Rattle.proof_endpoint.specs.Acts.{EndWithPacket, PacketAct, begins, before_packets, after_packets, OpeningAct, connects, before_opening, after_opening, ClosingAct, closes, before_closing, after_closing, DataAct, takes_data, before_data, after_data, SackAct, takes_sack, before_sack, after_sack, SendingAct, asks, forces_ack, before_sending, after_sending, TimeAct, advances, before_time, after_time, CallAct, accepts, before_call, after_call, ResetAct, takes_response, before_reset, after_reset, HandoverAct, leaves, before_handover, after_handover, InputAct, ends_packet, before_input, after_input, Preserves}
use Rattle.proof_pair.specs.Trace.{Side, Pair, emitted_packets, EndAction, Calls, Gives, Refuses, as_received, give_carried, foreign_if, act, goes, state_of}
use Rattle.proof_pair.specs.Trace as traces
use Rattle.proof_endpoint.proofs.ActsLemmas.{keeps_call}
use Rattle.proof_delivery.specs.Justified.{avoids_stalls}
use Rattle.spec_world.specs.Observations.{End, A, B}
use Rattle.proof_world.specs.Traces.{is_a}

abbrev SameOption : (before after : EndWithPacket Carried) → Type 0
SameOption m n = n.context.options.avoid_stalls ≡ m.context.options.avoid_stalls

-- ---- acts

module _ (call : Call) where
  on_packets : (act : PacketAct Carried call) → SameOption (before_packets act) (after_packets act)
  on_packets (begins p m new summed to) = refl
  on_packets act = refl

  on_opening : (act : OpeningAct Carried call) → SameOption (before_opening act) (after_opening act)
  on_opening (connects m is) = refl
  on_opening act = refl

  on_closing : (act : ClosingAct Carried call) → SameOption (before_closing act) (after_closing act)
  on_closing (closes e m there is) = refl
  on_closing act = refl

  on_data : (act : DataAct Carried call) → SameOption (before_data act) (after_data act)
  on_data (takes_data tag tsn is_immediate f phase t m received right some takes) = refl
  on_data act = refl

  on_sack : (act : SackAct Carried call) → SameOption (before_sack act) (after_sack act)
  on_sack (takes_sack tag k phase t m received valid) = refl
  on_sack act = refl

  on_sending : (act : SendingAct Carried call) → SameOption (before_sending act) (after_sending act)
  on_sending (asks also_if_delayed phase t m) = refl
  on_sending (forces_ack phase t m) = refl
  on_sending act = refl

  on_time : (act : TimeAct Carried call) → SameOption (before_time act) (after_time act)
  on_time (advances now m is on) = refl
  on_time act = refl

  on_calls : (act : CallAct Carried call) → SameOption (before_call act) (after_call act)
  on_calls (accepts message o m offered fine) = refl
  on_calls act = refl

  on_answer : (o : Outcome) (c : Context Carried) → (on_outcome o c).options.avoid_stalls ≡ c.options.avoid_stalls
  on_answer Unsettled c = refl
  on_answer (Done streams) c = refl
  on_answer (Denied streams) c = refl

  on_resets : (act : ResetAct Carried call) → SameOption (before_reset act) (after_reset act)
  on_resets (takes_response rto number result sender receiver phase t m asked) = on_answer (outcome number result t.requests.current) m.context
  on_resets act = refl

  on_handover : (act : HandoverAct Carried call) → SameOption (before_handover act) (after_handover act)
  on_handover (leaves phase t m is) = refl
  on_handover act = refl

  on_input : (act : InputAct Carried call) → SameOption (before_input act) (after_input act)
  on_input (ends_packet phase t m) = refl

  stays : Preserves call SameOption
  stays = record {
    same = λ m. refl;
    through = λ {a} {b} {c} e f. f ∙ e;
    packets = on_packets;
    opening = on_opening;
    closing = on_closing;
    data_acts = on_data;
    acknowledging = on_sack;
    sending = on_sending;
    time = on_time;
    calls = on_calls;
    resets = on_resets;
    handover = on_handover;
    input = on_input;
  }

-- ---- actions

called_stands : (call : Call) (e : Endpoint Carried) → (called call e).endpoint_state.context.options.avoid_stalls ≡ e.endpoint_state.context.options.avoid_stalls
called_stands call e = keeps_call call (stays call) e

given_stands : (p : Option Carried) (checksum : ℕ) (x : Side) → avoids_stalls (give_carried p checksum x) ≡ avoids_stalls x
given_stands None checksum x = refl
given_stands (Some p) checksum x = called_stands (ReceivePacket (as_received p checksum)) x.end

refused_stands : (r : Option (List ℕ)) (p : PacketTree) (x : Side) → avoids_stalls (foreign_if r p x) ≡ avoids_stalls x
refused_stands None p x = refl
refused_stands (Some text) p x = called_stands (ReceivePacket p) x.end

action_stands : (t : EndAction) (x y : Side) → avoids_stalls (act t x y) ≡ avoids_stalls x
action_stands (Calls call) x y = called_stands call x.end
action_stands (Gives which checksum) x y = given_stands (slice_get (emitted_packets y) which) checksum x
action_stands (Refuses p) x y = refused_stands (packet_refusal p.header.verification_tag p.chunks (state_of x)) p x

-- of end x, at an action of end y
pub option_stands : (x y : End) (turn : EndAction) (c : Pair) → avoids_stalls (traces.side_of (is_a x) (goes (is_a y) turn c)) ≡ avoids_stalls (traces.side_of (is_a x) c)
option_stands A A turn c = action_stands turn c.a c.b
option_stands B A turn c = refl
option_stands A B turn c = refl
option_stands B B turn c = action_stands turn c.b c.a
