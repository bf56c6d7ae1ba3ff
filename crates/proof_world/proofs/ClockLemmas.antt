-- Along a trace: no action but a moment moves an end's clock.
use Rattle.std.proofs.Common.{◌≡◌, ℕ, Bool, true, false, Option, Some, None, List, refl, ap, ◌∙◌, slice_get}
use Rattle.sctp_packet.specs.Packet.{PacketTree}
use Rattle.spec_endpoint.specs.Association.{Context, Endpoint}
use Rattle.spec_endpoint.specs.Input.{packet_refusal}
use Rattle.spec_endpoint.specs.ResetRequests.{Outcome, Unsettled, Done, Denied, outcome}
use Rattle.spec_endpoint.specs.StreamReset.{on_outcome}
use Rattle.spec_endpoint.specs.Laws.{Call, Advance, ReceivePacket, called}
use Rattle.proof_endpoint.specs.Mapped.{Carried}
use Rattle.proof_endpoint.specs.Acts.{EndWithPacket, PacketAct, begins, before_packets, after_packets, OpeningAct, connects, before_opening, after_opening, ClosingAct, closes, before_closing, after_closing, DataAct, takes_data, before_data, after_data, SackAct, takes_sack, before_sack, after_sack, SendingAct, asks, forces_ack, before_sending, after_sending, TimeAct, advances, before_time, after_time, CallAct, accepts, before_call, after_call, ResetAct, takes_response, before_reset, after_reset, HandoverAct, leaves, before_handover, after_handover, InputAct, ends_packet, before_input, after_input, Preserves}
use Rattle.proof_pair.specs.Trace.{Side, emitted_packets, EndAction, Calls, Gives, Refuses, as_received, give_carried, foreign_if, act, state_of}
use Rattle.proof_endpoint.proofs.ActsLemmas.{keeps_call}
use Rattle.proof_delivery.specs.Justified.{clock}
use Rattle.proof_protocol.proofs.ToolsLemmas.{not_both}

abbrev SameClock : (before after : EndWithPacket Carried) → Type 0
SameClock m n = n.context.now ≡ m.context.now

-- ---- acts

module _ (call : Call) (still : (now : ℕ) → call ≡ Advance now → ⊥) where
  on_packets : (act : PacketAct Carried call) → SameClock (before_packets act) (after_packets act)
  on_packets (begins p m new summed to) = refl
  on_packets act = refl

  on_opening : (act : OpeningAct Carried call) → SameClock (before_opening act) (after_opening act)
  on_opening (connects m is) = refl
  on_opening act = refl

  on_closing : (act : ClosingAct Carried call) → SameClock (before_closing act) (after_closing act)
  on_closing (closes e m there is) = refl
  on_closing act = refl

  on_data : (act : DataAct Carried call) → SameClock (before_data act) (after_data act)
  on_data (takes_data tag tsn is_immediate f phase t m received right some takes) = refl
  on_data act = refl

  on_sack : (act : SackAct Carried call) → SameClock (before_sack act) (after_sack act)
  on_sack (takes_sack tag k phase t m received valid) = refl
  on_sack act = refl

  on_sending : (act : SendingAct Carried call) → SameClock (before_sending act) (after_sending act)
  on_sending (asks also_if_delayed phase t m) = refl
  on_sending (forces_ack phase t m) = refl
  on_sending act = refl

  on_time : (act : TimeAct Carried call) → SameClock (before_time act) (after_time act)
  on_time (advances now m is on) = absurd (still now is)
  on_time act = refl

  on_calls : (act : CallAct Carried call) → SameClock (before_call act) (after_call act)
  on_calls (accepts message o m offered fine) = refl
  on_calls act = refl

  on_answer : (o : Outcome) (c : Context Carried) → (on_outcome o c).now ≡ c.now
  on_answer Unsettled c = refl
  on_answer (Done streams) c = refl
  on_answer (Denied streams) c = refl

  on_resets : (act : ResetAct Carried call) → SameClock (before_reset act) (after_reset act)
  on_resets (takes_response rto number result sender receiver phase t m asked) = on_answer (outcome number result t.requests.current) m.context
  on_resets act = refl

  on_handover : (act : HandoverAct Carried call) → SameClock (before_handover act) (after_handover act)
  on_handover (leaves phase t m is) = refl
  on_handover act = refl

  on_input : (act : InputAct Carried call) → SameClock (before_input act) (after_input act)
  on_input (ends_packet phase t m) = refl

  stays : Preserves call SameClock
  stays = record {
    same = λ m. refl;
    through = λ {a} {b} {c} e f. f ∙ e;
    packets = on_packets;
    opening = on_opening;
    closing = on_closing;
    data_acts = on_data;
    acknowledging = on_sack;
    sending = on_sending;
    time = on_time;
    calls = on_calls;
    resets = on_resets;
    handover = on_handover;
    input = on_input;
  }

-- ---- actions

abbrev pub moves : EndAction → Bool
moves (Calls (Advance now)) = true
moves action = false

called_still : (call : Call) → moves (Calls call) ≡ false → (e : Endpoint Carried) → (called call e).endpoint_state.context.now ≡ e.endpoint_state.context.now
called_still call none e = keeps_call call (stays call (λ now is. not_both (ap (λ (c : Call). moves (Calls c)) is) none)) e

given_still : (p : Option Carried) (checksum : ℕ) (x : Side) → clock (give_carried p checksum x) ≡ clock x
given_still None checksum x = refl
given_still (Some p) checksum x = called_still (ReceivePacket (as_received p checksum)) refl x.end

refused_still : (r : Option (List ℕ)) (p : PacketTree) (x : Side) → clock (foreign_if r p x) ≡ clock x
refused_still None p x = refl
refused_still (Some text) p x = called_still (ReceivePacket p) refl x.end

pub action_still : (t : EndAction) (x y : Side) → moves t ≡ false → clock (act t x y) ≡ clock x
action_still (Calls call) x y none = called_still call none x.end
action_still (Gives which checksum) x y none = given_still (slice_get (emitted_packets y) which) checksum x
action_still (Refuses p) x y none = refused_still (packet_refusal p.header.verification_tag p.chunks (state_of x)) p x
