-- What a sending leaves, once connected: no stream is in line where no item is kept.
use Rattle.std.specs.Prelude.{◌≡◌, ℕ, ◌≤◌, ◌&&◌, ◌||◌, not, Bool, true, false, None, List, [], ◌∷◌}
use Rattle.rand_core.specs.Stream.{Stream}
use Rattle.sctp_wire.specs.Parameter.{ParameterTree}
use Rattle.sctp_packet.specs.Chunk.{ChunkTree, re_config_chunk}
use Rattle.sctp_serial.specs.Messages.{Message}
use Rattle.sctp_state.specs.Options.{Options, IsValid, SendOptions}
use Rattle.sctp_tx_outstanding.specs.Item.{Item}
use Rattle.sctp_tx_queue.specs.SendQueue.{Queue}
use Rattle.spec_endpoint.specs.Association.{Tcb, Phase, CookieEchoed, Established, ShutdownPending, ShutdownSent, ShutdownReceived, ShutdownAckSent, State, Closed, CookieWait, Open, Packing, Context, EndpointState, Endpoint, fresh}
use Rattle.spec_endpoint.specs.Calls.{send_many}
use Rattle.spec_endpoint.specs.StreamReset.{is_outgoing, reset_refusal, reset_streams}
use Rattle.spec_endpoint.specs.Laws.{Call, ReceivePacket, called}
use Rattle.spec_endpoint.specs.Packets.{PacketDraft}
use Rattle.spec_endpoint.specs.Sending.{AfterSending, send_with}
use Rattle.proof_awake.specs.Awake.{is_none}
use Rattle.proof_endpoint.specs.Lifecycles.{is_restore}
use Rattle.proof_awake.specs.Invariant.{WindowsHaveRoom, IsTimed}

abbrev pub IsNoneInLine : {P : Type 0} → AfterSending P → Type 0
IsNoneInLine x = is_none x.tcb.sender.outstanding.items.kept ≡ true → x.context.queue.scheduler.times ≡ []

-- A burst of two packets or more, since the first one may be full of a request to reset streams.
abbrev pub SendingsLeaveNoLine : Type 0
SendingsLeaveNoLine =
    (p : PacketDraft) (t : Tcb) (c : Context (List ℕ)) → 2 ≤ c.options.max_burst → 44 ≤ p.limit → WindowsHaveRoom t.sender.windows
    → IsNoneInLine (send_with false p t c)

-- once connected
abbrev pub PhaseHasNoLine : Phase → List Item → Queue → Type 0
PhaseHasNoLine (CookieEchoed t1 cookie) kept q = Unit {0}
PhaseHasNoLine Established kept q = is_none kept ≡ true → q.scheduler.times ≡ []
PhaseHasNoLine ShutdownPending kept q = Unit {0}
PhaseHasNoLine (ShutdownSent t2) kept q = Unit {0}
PhaseHasNoLine ShutdownReceived kept q = Unit {0}
PhaseHasNoLine (ShutdownAckSent t2) kept q = Unit {0}

abbrev pub StateHasNoLine : State → Queue → Type 0
StateHasNoLine Closed q = Unit {0}
StateHasNoLine (CookieWait tag first t1) q = Unit {0}
StateHasNoLine (Open phase t) q = PhaseHasNoLine phase t.sender.outstanding.items.kept q

abbrev pub HasNoLine : {P : Type 0} → EndpointState P → Type 0
HasNoLine s = StateHasNoLine s.state s.context.queue

-- So do the calls that send, whatever they are handed.
pub record CallsLeaveNoLine (s : EndpointState (List ℕ)) : Type 0 where
  pub sent : (ms : List Message) (o : SendOptions) → HasNoLine (send_many ms o s)
  pub reset : (streams : List ℕ) → reset_refusal s.state ≡ None → HasNoLine (reset_streams streams s)

abbrev pub SendingCallsLeaveNoLine : Type 0
SendingCallsLeaveNoLine = (s : EndpointState (List ℕ)) → IsTimed s → 2 ≤ s.context.options.max_burst → CallsLeaveNoLine s

-- ---- calls after which it holds: a RE-CONFIG has one request for outgoing streams at most (RFC 6525 section 3.1)

abbrev pub asks_once : (has_asked : Bool) → List ParameterTree → Bool
asks_once has_asked [] = true
asks_once has_asked (p ∷ ps) = not (is_outgoing p && has_asked) && asks_once (is_outgoing p || has_asked) ps

abbrev pub chunk_asks_once : ChunkTree → Bool
chunk_asks_once (re_config_chunk ps) = asks_once false ps
chunk_asks_once chunk = true

abbrev pub all_ask_once : List ChunkTree → Bool
all_ask_once [] = true
all_ask_once (chunk ∷ chunks) = chunk_asks_once chunk && all_ask_once chunks

abbrev pub call_asks_once : Call → Bool
call_asks_once (ReceivePacket p) = all_ask_once p.chunks
call_asks_once call = true

-- with bursts of two packets or more
pub record IsLined {P : Type 0} (s : EndpointState P) : Type 0 where
  pub timed : IsTimed s
  pub burst : 2 ≤ s.context.options.max_burst
  pub line : HasNoLine s

abbrev pub EachCallKeepsLined : Type 0
EachCallKeepsLined =
    (call : Call) (s : Endpoint (List ℕ)) → is_restore call ≡ false → call_asks_once call ≡ true → IsLined s.endpoint_state → IsLined (called call s).endpoint_state

abbrev pub NewEndsAreLined : Type 0
NewEndsAreLined = (o : Options) (pack : Packing (List ℕ)) (draws : Stream) → IsValid o → 2 ≤ o.max_burst → IsLined (fresh o pack draws).endpoint_state
