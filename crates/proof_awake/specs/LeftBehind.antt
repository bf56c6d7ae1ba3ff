-- What is queued may wait for a reset of an association that is over: unless stalls are avoided, a closed end to which a cookie comes back keeps
-- its queue, and with it the streams that waited for an answer.
use Rattle.std.specs.Prelude.{◌≡◌, ℕ, ◌-◌, true, false, None, List, [], ◌∷◌, ◌++◌, length}
use Rattle.sctp_wire.specs.Parameter.{outgoing_reset_request, reset_response}
use Rattle.sctp_packet.specs.Chunk.{re_config_chunk}
use Rattle.sctp_state.specs.Options.{plainly}
use Rattle.sctp_tx_queue.specs.SendQueue.{is_empty}
use Rattle.spec_endpoint.specs.Association.{Established, State, Open, Endpoint}
use Rattle.spec_endpoint.specs.Calls.{ready_in}
use Rattle.spec_endpoint.specs.Pair.{Move, Connect, Give, Send, Close, Reset, SentPacket, after_moves, give_packet}
use Rattle.spec_endpoint.specs.Input.{my_tag}
use Rattle.spec_endpoint.specs.Rows.{message, opened}

-- b asks to reset its stream 1, a message waits, b closes, and a connects again
abbrev pub reopened : List Move
reopened = opened
    ++ (Reset false 1 ∷ Send false (message 1 (120 ∷ [])) plainly ∷ Close false ∷ Give 3 true ∷ Connect true ∷ Give 2 false ∷ Give 4 true ∷ Give 3 false ∷ [])

abbrev pub HasNothingUnderWay : State → Type 0
HasNothingUnderWay (Open Established t) = (t.sender.outstanding.items.kept ≡ []) × (t.requests.current ≡ None)
HasNothingUnderWay s = ⊥

pub record AResetIsLeftBehind : Type 0 where
  pub connected : HasNothingUnderWay (after_moves reopened).b.endpoint_state.state
  pub queued : is_empty (after_moves reopened).b.endpoint_state.context.queue ≡ false
  pub not_in_line : (after_moves reopened).b.endpoint_state.context.queue.scheduler.times ≡ []

-- ---- numbers of an association that is over

-- a message of b on stream 1 arrives, b closes, a connects again, and another one on that stream is sent, given and acknowledged
abbrev pub answered_anew : List Move
answered_anew = opened
    ++ (Send false (message 1 (120 ∷ [])) plainly ∷ Give 2 true ∷ Give 2 false ∷ Close false ∷ Give 3 true ∷ Connect true ∷ Give 3 false ∷ Give 4 true ∷ Give 4 false ∷ Give 5 true
    ∷ Send false (message 1 (121 ∷ [])) plainly ∷ Give 6 true ∷ Give 5 false ∷ [])

-- It has the number behind the first one's, and is never ready: its sender is at rest.
pub record NumbersAreLeftBehind : Type 0 where
  pub nothing_kept : HasNothingUnderWay (after_moves answered_anew).b.endpoint_state.state
  pub nothing_queued : is_empty (after_moves answered_anew).b.endpoint_state.context.queue ≡ true
  pub connected : HasNothingUnderWay (after_moves answered_anew).a.endpoint_state.state
  pub not_ready : ready_in (after_moves answered_anew).a.endpoint_state.state ≡ []

-- ---- an answer beside two requests

-- a asks to reset its stream 1, and a message waits
abbrev pub asking : Endpoint SentPacket
asking = (after_moves (opened ++ (Reset true 1 ∷ Send true (message 1 (120 ∷ [])) plainly ∷ []))).a

abbrev pub next_request : State → ℕ
next_request (Open phase t) = t.requests.next
next_request s = 0

-- the answer, and two requests of the peer, of which a RE-CONFIG may have one (RFC 6525 section 3.1)
abbrev pub answer_beside_two : SentPacket
answer_beside_two = record {
  header = record { source_port = 5000; destination_port = 5000; verification_tag = my_tag asking.endpoint_state.state };
  chunks = re_config_chunk (reset_response (next_request asking.endpoint_state.state - 1) 1 None None ∷ outgoing_reset_request 0 0 (record { 0 = 0 }) [] ∷ outgoing_reset_request 0 0 (record { 0 = 0 }) [] ∷ []) ∷ [];
}

abbrev pub answered : Endpoint SentPacket
answered = give_packet answer_beside_two asking

-- The message is in line, and nothing is sent until something else happens.
pub record ALineIsLeft : Type 0 where
  pub connected : HasNothingUnderWay answered.endpoint_state.state
  pub in_line : length answered.endpoint_state.context.queue.scheduler.times ≡ 1
