-- Calls under other names: what the words that are drawn, the cookies and a packet that comes have to be, and the law of each call.
use Rattle.std.specs.Prelude.{◌≡◌, ℕ, ◌<◌, Bool, true, false, Option, Some, None, Result, Ok, Err, List, [], ◌∷◌, ⊤}
use Rattle.std.specs.List.{list_all}
use Rattle.rand_core.specs.Stream.{Stream, next_u32, next_u64}
use Rattle.sctp_serial.specs.Unwrapped.{u32_space}
use Rattle.sctp_packet.specs.Chunk.{ChunkTree, InitTree, init_chunk, init_ack_chunk, cookie_echo_chunk}
use Rattle.sctp_packet.specs.Packet.{PacketTree}
use Rattle.sctp_capabilities.specs.declared.state_cookie.StateCookieError.{StateCookieError}
use Rattle.sctp_capabilities.specs.StateCookie.{Cookie, read_cookie}
use Rattle.spec_endpoint.specs.Association.{Tcb, Phase, CookieEchoed, Established, ShutdownPending, ShutdownSent, ShutdownReceived, ShutdownAckSent, State, Closed, CookieWait, Open, EndpointState}
use Rattle.spec_endpoint.specs.Opening.{tsn_from, tag_from, next_first, cookie_for, cookie_in, maker, CookieResolution, EstablishNew, RestartDetected, SimultaneousInit, MaintainExisting, Discard, InvalidTag, resolve_cookie, emit_parse_error}
use Rattle.spec_endpoint.specs.Input.{packet_refusal, count_packet_at}
use Rattle.spec_endpoint.specs.Laws.{Call, Connect, Restore, ReceivePacket, called}
use Rattle.proof_endpoint.specs.Mapped.{Carried, as_carried}
use Rattle.proof_draws.specs.NamedChunks.{Names, AreNames, flip, named_header, named_chunks}
use Rattle.proof_draws.specs.Names.{named_cookie, with_random}
use Rattle.proof_draws.specs.Laws.{DrawsTwo, TiesTell, Makes, NumbersFitIn, is_flowing}
use Rattle.proof_draws.specs.Images.{image}

-- ---- draws

-- the second stream draws the name of the tag that the first one draws
pub record DrawsTag (n : Names) (w v : Stream) : Type 0 where
  pub tag : tag_from (next_u32 v).0 ≡ n.tag (tag_from (next_u32 w).0)

-- or of a tie
pub record DrawsTie (n : Names) (w v : Stream) : Type 0 where
  pub tie : (next_u64 v).0 ≡ n.tie (next_u64 w).0

-- ---- INIT

-- the names know the cookie of an answer, and its tie
pub record KnowsAnswer (n : Names) (i : InitTree) (tag first tie named_tie : ℕ) : Type 0 where
  pub makes : Makes n (cookie_for i tag first tie)
  pub cookie_tie : n.cookie_tie tie ≡ named_tie

-- by what is drawn, a first TSN and a tag, and not kept
pub record AnswersNew (n : Names) (i : InitTree) (w v : Stream) : Type 0 where
  pub draws : DrawsTwo n w v
  pub knows : KnowsAnswer n i (tag_from (next_u32 (next_u32 w).1).0) (tsn_from (next_u32 w).0) 0 0

-- or a tag alone, beside an association
pub record AnswersAgain (n : Names) (i : InitTree) (t : Tcb) (w v : Stream) : Type 0 where
  pub draws : DrawsTag n w v
  pub knows : KnowsAnswer n i (tag_from (next_u32 w).0) (next_first t) t.identity.tie (n.tie t.identity.tie)

abbrev pub InitIsNamedOpen : Names → InitTree → Phase → Tcb → (w v : Stream) → Type 0
InitIsNamedOpen n i (CookieEchoed t1 cookie) t w v = KnowsAnswer n i t.identity.my_tag t.identity.my_first 0 0
InitIsNamedOpen n i Established t w v = AnswersAgain n i t w v
InitIsNamedOpen n i ShutdownPending t w v = AnswersAgain n i t w v
InitIsNamedOpen n i (ShutdownSent t2) t w v = AnswersAgain n i t w v
InitIsNamedOpen n i ShutdownReceived t w v = AnswersAgain n i t w v
InitIsNamedOpen n i (ShutdownAckSent t2) t w v = ⊤

abbrev pub InitIsNamed : Names → InitTree → State → (w v : Stream) → Type 0
InitIsNamed n i Closed w v = AnswersNew n i w v
InitIsNamed n i (CookieWait tag first t1) w v = KnowsAnswer n i tag first 0 0
InitIsNamed n i (Open phase t) w v = InitIsNamedOpen n i phase t w v

-- ---- INIT ACK

-- the named cookie names its maker as before, and a tie is drawn
pub record KnowsEcho (n : Names) (cookie : List ℕ) (w v : Stream) : Type 0 where
  pub maker : maker (n.cookie cookie) ≡ maker cookie
  pub draws : DrawsTie n w v

abbrev pub EchoIsNamed : Names → Option (List ℕ) → (w v : Stream) → Type 0
EchoIsNamed n None w v = ⊤
EchoIsNamed n (Some cookie) w v = KnowsEcho n cookie w v

abbrev pub InitAckIsNamed : Names → InitTree → State → (w v : Stream) → Type 0
InitAckIsNamed n i Closed w v = ⊤
InitAckIsNamed n i (CookieWait tag first t1) w v = EchoIsNamed n (cookie_in i.parameters) w v
InitAckIsNamed n i (Open phase t) w v = ⊤

-- ---- COOKIE ECHO

abbrev pub read_under : Names → Result Cookie StateCookieError → Result Cookie StateCookieError
read_under n (Ok k) = Ok (named_cookie n k)
read_under n (Err fault) = Err fault

-- a control block is made, and its tie is drawn
abbrev pub is_new : CookieResolution → Bool
is_new EstablishNew = true
is_new RestartDetected = true
is_new SimultaneousInit = true
is_new MaintainExisting = false
is_new Discard = false
is_new InvalidTag = false

-- in a packet under this tag; the first TSN in it, where requests are counted from, is of 32 bits
pub record CookieIsNamed (n : Names) (tag : ℕ) (cookie : List ℕ) (s : State) (w v : Stream) : Type 0 where
  pub reads : read_cookie (n.cookie cookie) ≡ read_under n (read_cookie cookie)
  pub ties : (k : Cookie) → read_cookie cookie ≡ Ok k → (phase : Phase) (t : Tcb) → s ≡ Open phase t → TiesTell n tag t.identity k
  pub draws : (k : Cookie) → read_cookie cookie ≡ Ok k → is_new (resolve_cookie false tag k s) ≡ true → DrawsTie n w v
  pub first : (k : Cookie) → read_cookie cookie ≡ Ok k → k.my_initial_tsn < u32_space

-- ---- packets

-- what opens an association comes first, and INIT and INIT ACK alone
pub data AreNamed (n : Names) (tag : ℕ) (chunks : List ChunkTree) (s : State) (w v : Stream) : Type 0 where
  flow : list_all is_flowing chunks ≡ true → AreNamed n tag chunks s w v
  init : (i : InitTree) → chunks ≡ init_chunk i ∷ [] → InitIsNamed n i s w v → AreNamed n tag chunks s w v
  init_ack : (i : InitTree) → chunks ≡ init_ack_chunk i ∷ [] → InitAckIsNamed n i s w v → AreNamed n tag chunks s w v
  cookie_echo : (cookie : List ℕ) (rest : List ChunkTree) → chunks ≡ cookie_echo_chunk cookie ∷ rest → CookieIsNamed n tag cookie s w v
      → list_all is_flowing rest ≡ true → AreNamed n tag chunks s w v

-- a packet that is taken in this state, whose request numbers are of 32 bits
pub record IsNamed (n : Names) (p : PacketTree) (s : State) (w v : Stream) : Type 0 where
  pub taken : packet_refusal p.header.verification_tag p.chunks s ≡ None
  pub numbers : NumbersFitIn s
  pub chunks : AreNamed n p.header.verification_tag p.chunks s w v

-- a packet of the peer, who writes it under the names that it sees
abbrev pub named_received : Names → PacketTree → PacketTree
named_received n p = record p { header = named_header n p.header; chunks = named_chunks (flip n) p.chunks }

-- ---- calls

abbrev pub named_call : Names → Call → Call
named_call n (ReceivePacket p) = ReceivePacket (named_received n p)
named_call n call = call

-- no record is taken up
abbrev pub CallIsNamed : Names → Call → State → (w v : Stream) → Type 0
CallIsNamed n Connect s w v = s ≡ Closed → DrawsTwo n w v
CallIsNamed n (ReceivePacket p) s w v = IsNamed n p s w v
CallIsNamed n (Restore h) s w v = ⊥
CallIsNamed n call s w v = ⊤

-- ---- the laws

-- An end under other names is after each call what it was before, under the same names, and has emitted the same packets under them.
abbrev pub EachCallIsNamed : Type 0
EachCallIsNamed =
    (n : Names) → AreNames n → (call : Call) (s : EndpointState Carried) (w v : Stream) → s.context.pack ≡ as_carried → CallIsNamed n call s.state w v
    → (called (named_call n call) (with_random v (image n s))).endpoint_state ≡ image n (called call (with_random w s)).endpoint_state

-- a packet that is refused: the tags in the texts differ
pub record BothRefuse (n : Names) (p : PacketTree) (s : EndpointState Carried) (w v : Stream) : Type 0 where
  pub text : List ℕ
  pub named_text : List ℕ
  pub first : called (ReceivePacket p) (with_random w s) ≡ emit_parse_error text (count_packet_at (with_random w s))
  pub second : called (ReceivePacket (named_received n p)) (with_random v (image n s)) ≡ emit_parse_error named_text (count_packet_at (with_random v (image n s)))

abbrev pub EachRefusalIsNamed : Type 0
EachRefusalIsNamed =
    (n : Names) → AreNames n → (p : PacketTree) (s : EndpointState Carried) (w v : Stream) (text : List ℕ)
    → packet_refusal p.header.verification_tag p.chunks s.state ≡ Some text → BothRefuse n p s w v
