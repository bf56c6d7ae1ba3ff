-- An end under other names. The table knows tags by equality alone and numbers by their differences alone, so the end does the
-- same; and its packets are the same, written under these names by the one who writes them.
use Rattle.std.specs.Prelude.{ℕ, option_map}
use Rattle.rand_core.specs.Stream.{Stream}
use Rattle.sctp_capabilities.specs.StateCookie.{Cookie}
use Rattle.sctp_rx.specs.DataTracker.{DataTracker}
use Rattle.sctp_rx.specs.ReassemblyQueue.{Reassembly}
use Rattle.sctp_tx_outstanding.specs.OutstandingData.{Outstanding}
use Rattle.sctp_tx.specs.RetransmissionQueue.{Sender}
use Rattle.spec_endpoint.specs.Association.{Identity, Tcb, Phase, CookieEchoed, Established, ShutdownPending, ShutdownSent, ShutdownReceived, ShutdownAckSent, State, Closed, CookieWait, Open, Context, EndpointState, Endpoint, Packing}
use Rattle.spec_endpoint.specs.ResetRequests.{Request, Requests}
use Rattle.spec_endpoint.specs.Packets.{PacketDraft}
use Rattle.proof_draws.specs.NamedChunks.{Names, move_by, named_chunks, named_header}

-- a packet that is put together
abbrev pub named_packet : Names → PacketDraft → PacketDraft
named_packet n p = record p { tag = n.tag p.tag; chunks = named_chunks n p.chunks }

-- ---- the end

abbrev pub named_identity : Names → Identity → Identity
named_identity n i = record {
  my_tag = n.tag i.my_tag;
  my_first = move_by n.own i.my_first;
  peer_tag = n.tag i.peer_tag;
  peer_first = move_by n.peer i.peer_first;
  tie = n.tie i.tie;
}

abbrev pub named_tracker : Names → DataTracker → DataTracker
named_tracker n d = record d { first = move_by n.peer d.first }

abbrev pub named_reassembly : Names → Reassembly → Reassembly
named_reassembly n r = record r { first = option_map (move_by n.peer) r.first }

abbrev pub named_outstanding : Names → Outstanding → Outstanding
named_outstanding n d = record d { first = move_by n.own d.first }

abbrev pub named_sender : Names → Sender → Sender
named_sender n s = record s { outstanding = named_outstanding n s.outstanding }

abbrev pub named_request : Names → Request → Request
named_request n r = record r { number = move_by n.own r.number; last_tsn = move_by n.own r.last_tsn }

abbrev pub named_requests : Names → Requests → Requests
named_requests n r = record r {
  next = move_by n.own r.next;
  current = option_map (named_request n) r.current;
  last = move_by n.peer r.last;
}

-- what is counted from the first number on stays
abbrev pub named_tcb : Names → Tcb → Tcb
named_tcb n t = record t {
  identity = named_identity n t.identity;
  tracker = named_tracker n t.tracker;
  reassembly = named_reassembly n t.reassembly;
  sender = named_sender n t.sender;
  requests = named_requests n t.requests;
}

-- a cookie is the peer's, who made it
abbrev pub named_phase : Names → Phase → Phase
named_phase n (CookieEchoed t1 cookie) = CookieEchoed t1 (n.cookie cookie)
named_phase n Established = Established
named_phase n ShutdownPending = ShutdownPending
named_phase n (ShutdownSent t2) = ShutdownSent t2
named_phase n ShutdownReceived = ShutdownReceived
named_phase n (ShutdownAckSent t2) = ShutdownAckSent t2

abbrev pub named_state : Names → State → State
named_state n Closed = Closed
named_state n (CookieWait tag first t1) = CookieWait (n.tag tag) (move_by n.own first) t1
named_state n (Open phase t) = Open (named_phase n phase) (named_tcb n t)

-- ---- who writes the packets

-- a writer that knows the names
abbrev pub under : {P : Type 0} → Names → Packing P → Packing P
under n pack = record {
  write = λ header is_summed chunks. pack.write (named_header n header) is_summed (named_chunks n chunks);
  word_of = pack.word_of;
}

-- nothing else in a context is drawn
abbrev pub named_context : {P : Type 0} → (tag : ℕ → ℕ) → Context P → Context P
named_context tag c = record c { last_tag = tag c.last_tag }

-- with this writer; what was emitted stays
abbrev pub plain : {P : Type 0} → Names → Packing P → Context P → Context P
plain n pack c = record (named_context n.tag c) { pack = pack }

abbrev pub named_endpoint_state : {P : Type 0} → Names → Packing P → EndpointState P → EndpointState P
named_endpoint_state n pack s = record { state = named_state n s.state; context = plain n pack s.context }

abbrev pub named_end : {P : Type 0} → Names → Packing P → Endpoint P → Endpoint P
named_end n pack e = record e { endpoint_state = named_endpoint_state n pack e.endpoint_state }

abbrev pub with_random : {P : Type 0} → Stream → EndpointState P → Endpoint P
with_random w s = record { endpoint_state = s; draws = w }

-- ---- what a cookie says, to the end that made it

abbrev pub named_cookie : Names → Cookie → Cookie
named_cookie n k = record k {
  peer_tag = n.tag k.peer_tag;
  my_tag = n.tag k.my_tag;
  peer_initial_tsn = move_by n.peer k.peer_initial_tsn;
  my_initial_tsn = move_by n.own k.my_initial_tsn;
  tie_tag = n.cookie_tie k.tie_tag;
}
