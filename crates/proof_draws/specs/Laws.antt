-- The laws: rows of the table under other names.
use Rattle.std.specs.Prelude.{◌≡◌, ℕ, ◌<◌, ◌==◌, not, nat_lt, Bool, true, false, Option, Some, None, is_some, List, length}
use Rattle.std.specs.List.{list_all}
use Rattle.rand_core.specs.Stream.{Stream, next_u32}
use Rattle.sctp_chunk.specs.declared.forward_tsn.SkippedStream.{SkippedStream}
use Rattle.sctp_serial.specs.Unwrapped.{u32_space}
use Rattle.sctp_wire.specs.Cause.{CauseTree}
use Rattle.sctp_wire.specs.Parameter.{ParameterTree, state_cookie, outgoing_reset_request, incoming_reset_request, reset_response}
use Rattle.sctp_packet.specs.Chunk.{ChunkTree, FragmentTree, InitTree, SackTree, data_chunk, idata_chunk, init_chunk, init_ack_chunk, sack_chunk, heartbeat_request_chunk, heartbeat_ack_chunk, abort_chunk, shutdown_chunk, shutdown_ack_chunk, error_chunk, cookie_echo_chunk, cookie_ack_chunk, shutdown_complete_chunk, re_config_chunk, forward_tsn_chunk, i_forward_tsn_chunk, unknown_chunk}
use Rattle.sctp_serial.specs.Messages.{Message}
use Rattle.sctp_state.specs.Options.{SendOptions}
use Rattle.sctp_capabilities.specs.StateCookie.{Cookie, cookie_bytes}
use Rattle.spec_endpoint.specs.Association.{Identity, Tcb, Phase, State, Closed, CookieWait, Open, Context, EndpointState, Endpoint, where_open, Packing}
use Rattle.spec_endpoint.specs.Packets.{PacketDraft}
use Rattle.spec_endpoint.specs.ResetRequests.{Request, Requests}
use Rattle.spec_endpoint.specs.Sending.{after_sending, send_with}
use Rattle.spec_endpoint.specs.Opening.{tsn_from, tag_from, connect, resolve_cookie, cookie_for, answer, anew, echo, maker, on_cookie_ack}
use Rattle.spec_endpoint.specs.Calls.{send, send_many, take_message}
use Rattle.spec_endpoint.specs.Shutdown.{close, shutdown, on_shutdown, on_shutdown_complete, aborted}
use Rattle.spec_endpoint.specs.Data.{on_data, on_forward}
use Rattle.spec_endpoint.specs.Sack.{on_sack}
use Rattle.spec_endpoint.specs.Input.{packet_refusal, on_packet_end, on_accepted_packet}
use Rattle.spec_endpoint.specs.Timers.{advance}
use Rattle.proof_draws.specs.NamedChunks.{Names, AreNames, flip, move_by, named_init, named_sack, named_chunks}
use Rattle.proof_draws.specs.Names.{named_cookie, named_identity, named_packet, named_tcb, named_state, named_endpoint_state, named_end, plain, under, with_random}

-- ---- draws

-- the second stream draws the names of what the first one draws: a first TSN, then a tag
pub record DrawsTwo (n : Names) (w v : Stream) : Type 0 where
  pub first : tsn_from (next_u32 v).0 ≡ move_by n.own (tsn_from (next_u32 w).0)
  pub tag : tag_from (next_u32 (next_u32 v).1).0 ≡ n.tag (tag_from (next_u32 (next_u32 w).1).0)

abbrev pub ConnectIsNamed : Type 0
ConnectIsNamed =
    (n : Names) → AreNames n → (pack : Packing (List ℕ)) (s : EndpointState (List ℕ)) (w v : Stream) → s.context.pack ≡ under n pack
    → (s.state ≡ Closed → DrawsTwo n w v)
    → (connect (with_random v (named_endpoint_state n pack s))).endpoint_state ≡ named_endpoint_state n pack (connect (with_random w s)).endpoint_state

-- ---- tags and ties

-- the ties of a control block and a cookie are told apart as before, or not looked at
pub data TiesTell (n : Names) (tag : ℕ) (i : Identity) (k : Cookie) : Type 0 where
  under_own : (tag == i.my_tag) ≡ true → TiesTell n tag i k
  apart : (n.cookie_tie k.tie_tag == n.tie i.tie) ≡ (k.tie_tag == i.tie) → (n.cookie_tie k.tie_tag == 0) ≡ (k.tie_tag == 0) → TiesTell n tag i k

-- a packet is refused or not, the texts aside
abbrev pub RefusalsAreNamed : Type 0
RefusalsAreNamed =
    (n : Names) → AreNames n → (tag : ℕ) (chunks : List ChunkTree) (s : State)
    → is_some (packet_refusal (n.tag tag) (named_chunks (flip n) chunks) (named_state n s)) ≡ is_some (packet_refusal tag chunks s)

abbrev pub ResolutionsAreNamed : Type 0
ResolutionsAreNamed =
    (n : Names) → AreNames n → (avoids_stalls : Bool) (tag : ℕ) (k : Cookie) (s : State) → ((phase : Phase) (t : Tcb) → s ≡ Open phase t → TiesTell n tag t.identity k)
    → resolve_cookie avoids_stalls (n.tag tag) (named_cookie n k) (named_state n s) ≡ resolve_cookie avoids_stalls tag k s

-- ---- numbers

abbrev pub DataIsNamed : Type 0
DataIsNamed =
    (n : Names) (pack : Packing (List ℕ)) (tsn : ℕ) (is_immediate : Bool) (f : FragmentTree) (s : EndpointState (List ℕ)) → (length f.payload == 0) ≡ false
    → on_data (move_by n.peer tsn) is_immediate f (named_endpoint_state n pack s) ≡ named_endpoint_state n pack (on_data tsn is_immediate f s)

abbrev pub ForwardPointsAreNamed : Type 0
ForwardPointsAreNamed =
    (n : Names) (pack : Packing (List ℕ)) (tsn : ℕ) (skipped : List SkippedStream) (s : EndpointState (List ℕ))
    → on_forward (move_by n.peer tsn) skipped (named_endpoint_state n pack s) ≡ named_endpoint_state n pack (on_forward tsn skipped s)

-- ---- bursts

-- the chunks of acknowledgements, forward points, requests and data are the same under other names, and so are the packets
abbrev pub BurstsAreNamed : Type 0
BurstsAreNamed =
    (n : Names) → AreNames n → (pack : Packing (List ℕ)) (is_alone : Bool) (p : PacketDraft) (t : Tcb) (c : Context (List ℕ)) → c.pack ≡ under n pack
    → send_with is_alone (named_packet n p) (named_tcb n t) (plain n pack c)
    ≡ after_sending (named_tcb n (send_with is_alone p t c).tcb) (plain n pack (send_with is_alone p t c).context)

-- ---- acknowledgements

-- a SACK, written under the names that the peer sees
abbrev pub SacksAreNamed : Type 0
SacksAreNamed =
    (n : Names) → AreNames n → (pack : Packing (List ℕ)) (h : SackTree) (s : EndpointState (List ℕ)) → s.context.pack ≡ under n pack
    → on_sack (named_sack (flip n) h) (named_endpoint_state n pack s) ≡ named_endpoint_state n pack (on_sack h s)

-- ---- cookies and associations

-- the names know the cookie that the end makes
abbrev pub Makes : Names → Cookie → Type 0
Makes n k = n.cookie (cookie_bytes k) ≡ cookie_bytes (named_cookie n k)

-- an INIT is answered, with a tag and a first TSN that may have been drawn for it
abbrev pub AnswersAreNamed : Type 0
AnswersAreNamed =
    (n : Names) → AreNames n → (pack : Packing (List ℕ)) (i : InitTree) (tag first tie : ℕ) (c : Context (List ℕ)) → Makes n (cookie_for i tag first tie)
    → c.pack ≡ under n pack
    → answer (named_init (flip n) i) (n.tag tag) (move_by n.own first) (n.cookie_tie tie) (plain n pack c) ≡ plain n pack (answer i tag first tie c)

-- a control block is made by a cookie that came back
abbrev pub NewBlocksAreNamed : Type 0
NewBlocksAreNamed =
    (n : Names) → AreNames n → (pack : Packing (List ℕ)) (resets : Bool) (k : Cookie) (tie : ℕ) (c : Context (List ℕ)) → c.pack ≡ under n pack
    → anew resets (named_cookie n k) (n.tie tie) (plain n pack c) ≡ named_endpoint_state n pack (anew resets k tie c)

-- or by an INIT ACK, whose cookie is echoed
abbrev pub EchoesAreNamed : Type 0
EchoesAreNamed =
    (n : Names) → AreNames n → (pack : Packing (List ℕ)) (i : InitTree) (cookie : List ℕ) (me : Identity) (c : Context (List ℕ))
    → maker (n.cookie cookie) ≡ maker cookie → c.pack ≡ under n pack
    → echo (named_init (flip n) i) (n.cookie cookie) (named_identity n me) (plain n pack c) ≡ named_endpoint_state n pack (echo i cookie me c)

-- ---- the end of an association, and of a packet

-- a row of an endpoint state
abbrev pub RowIsNamed : (row : EndpointState (List ℕ) → EndpointState (List ℕ)) → Type 0
RowIsNamed row =
    (n : Names) → AreNames n → (pack : Packing (List ℕ)) (s : EndpointState (List ℕ)) → s.context.pack ≡ under n pack
    → row (named_endpoint_state n pack s) ≡ named_endpoint_state n pack (row s)

pub record EndingsAreNamed : Type 0 where
  pub close : RowIsNamed close
  pub shutdown : RowIsNamed shutdown
  pub on_shutdown : RowIsNamed (where_open on_shutdown)
  pub on_shutdown_complete : RowIsNamed (where_open on_shutdown_complete)
  pub aborted : (causes : List CauseTree) → RowIsNamed (aborted causes)
  pub on_cookie_ack : RowIsNamed (where_open on_cookie_ack)
  pub packet_end : RowIsNamed (where_open on_packet_end)

-- the passing of time, with all timers
abbrev pub MomentsAreNamed : Type 0
MomentsAreNamed = (now : ℕ) → RowIsNamed (advance now)

-- the calls that send, and the one that takes a message
pub record CallsAreNamed : Type 0 where
  pub send : (m : Message) (how : SendOptions) → RowIsNamed (send m how)
  pub send_many : (ms : List Message) (how : SendOptions) → RowIsNamed (send_many ms how)
  pub take_message : RowIsNamed take_message

-- ---- request numbers, which are told apart on the circle of 32 bits

abbrev pub NumberFits : Option Request → Type 0
NumberFits None = Unit {0}
NumberFits (Some r) = r.number < u32_space

pub record NumbersFit (r : Requests) : Type 0 where
  pub next : r.next < u32_space
  pub current : NumberFits r.current
  pub last : r.last < u32_space

abbrev pub NumbersFitIn : State → Type 0
NumbersFitIn Closed = Unit {0}
NumbersFitIn (CookieWait tag first t1) = Unit {0}
NumbersFitIn (Open phase t) = NumbersFit t.requests

-- and an INIT ACK alone has a cookie
abbrev pub number_fits : ParameterTree → Bool
number_fits (state_cookie cookie) = false
number_fits (outgoing_reset_request number response last_tsn streams) = nat_lt number u32_space
number_fits (incoming_reset_request number streams) = nat_lt number u32_space
number_fits (reset_response number result sender receiver) = nat_lt number u32_space
number_fits parameter = true

-- ---- packets

-- chunks that open no association; DATA has a payload, and request numbers are of 32 bits
abbrev pub is_flowing : ChunkTree → Bool
is_flowing (data_chunk tsn immediate f) = not (length f.payload == 0)
is_flowing (idata_chunk tsn immediate f) = not (length f.payload == 0)
is_flowing (init_chunk i) = false
is_flowing (init_ack_chunk i) = false
is_flowing (sack_chunk k) = true
is_flowing (heartbeat_request_chunk parameters) = true
is_flowing (heartbeat_ack_chunk parameters) = true
is_flowing (abort_chunk reflected causes) = true
is_flowing (shutdown_chunk tsn) = true
is_flowing shutdown_ack_chunk = true
is_flowing (error_chunk causes) = true
is_flowing (cookie_echo_chunk cookie) = false
is_flowing cookie_ack_chunk = true
is_flowing (shutdown_complete_chunk reflected) = true
is_flowing (re_config_chunk parameters) = list_all number_fits parameters
is_flowing (forward_tsn_chunk tsn skipped) = true
is_flowing (i_forward_tsn_chunk tsn skipped) = true
is_flowing (unknown_chunk typ flags value) = true

-- a packet of such chunks that is taken, written under the names that the peer sees
abbrev pub PacketsAreNamed : Type 0
PacketsAreNamed =
    (n : Names) → AreNames n → (pack : Packing (List ℕ)) (tag : ℕ) (chunks : List ChunkTree) (e : Endpoint (List ℕ)) → list_all is_flowing chunks ≡ true
    → NumbersFitIn e.endpoint_state.state → e.endpoint_state.context.pack ≡ under n pack
    → on_accepted_packet (n.tag tag) (named_chunks (flip n) chunks) (named_end n pack e) ≡ named_end n pack (on_accepted_packet tag chunks e)
