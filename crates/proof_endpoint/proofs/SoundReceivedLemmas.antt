-- What a sound end emits is received as what it put together, and fits as an argument.
use Rattle.std.proofs.Common.{◌≡◌, ℕ, ◌≤◌, true, List, [], ◌∷◌, ◌++◌, length, map, All, refl, sym, subst, arith}
use Rattle.std.proofs.lemmas.List.Elements.{All-weaker, All-cons, All-nil, All-head, All-tail}
use Rattle.sctp_wire.specs.Field.{be32}
use Rattle.sctp_packet.specs.Chunk.{ChunkTree, init_ack_chunk}
use Rattle.sctp_packet.specs.Grammar.{Each, carried}
use Rattle.sctp_packet.specs.Packet.{PacketTree, IsPacket, header_bytes}
use Rattle.sctp_packet.proofs.LawLemmas.{one_packet_lem}
use Rattle.sctp_state.specs.Options.{Options, defaults}
use Rattle.sctp_state.specs.Events.{Event, SendPacket}
use Rattle.spec_endpoint.specs.Association.{Context, Endpoint, Packing}
use Rattle.spec_endpoint.specs.Input.{on_packet}
use Rattle.spec_endpoint.specs.Wire.{field_of, writing, AreBytes}
use Rattle.spec_endpoint.specs.Receiving.{Receives}
use Rattle.spec_endpoint.specs.Laws.{Call, called}
use Rattle.proof_endpoint.specs.Mapped.{Carried, as_written, as_carried}
use Rattle.proof_endpoint.specs.ReceivedBack.{IsReceivable, as_received}
use Rattle.proof_endpoint.specs.Sound.{IsSound, ArgumentFits, HasSomeCookie}
use Rattle.proof_endpoint.specs.ReadBack.{ReadsBack, CanBeRead, EmitsWhatCanBeRead, LetsThrough, IsReceivedAs, CanBeReceived, EmitsWhatCanBeReceived, ReadsBackIn, EmitsWhatReadsBack, IsReceivedAsWritten, EmitsWhatIsReceived, AcceptedPacketsFit, EmittedPacketsFit}
use Rattle.proof_endpoint.proofs.ReceivedBackLemmas.{is_accepted, written_received, written_alone, length_written}
use Rattle.proof_endpoint.proofs.ReceivedLemmas.{IsByte, each_back, each_of_all}
use Rattle.proof_endpoint.proofs.SoundLawsLemmas.{can_be_read, chunks_read_back}

-- ---- received

hearable : (o : Options) (most : ℕ) (p : Carried) → most ≤ 65535 → ReadsBack most p → LetsThrough o p → IsReceivable o p
hearable o most p m r lets = record { header = r.header; chunks = r.chunks; short = omega (arith, r.short, m); sum = lets }

module _ (word_of : List ℕ → ℕ) (most : ℕ) (m : most ≤ 65535) where
  received_as : (bytes : List ℕ) (p : Carried) → bytes ≡ as_written word_of p → ReadsBack most p → IsReceivedAs word_of bytes p
  received_as bytes p e r = record {
    spelled = e;
    received = λ s lets. subst (λ (b : List ℕ). Receives word_of b s (on_packet (as_received word_of p) s)) (sym e) (written_received word_of p s (hearable s.endpoint_state.context.options most p m r lets));
    alone = λ s t lets set_sendable. written_alone word_of p s t (hearable s.endpoint_state.context.options most p m r lets) (subst (λ (b : List ℕ). Receives word_of b s t) e set_sendable);
  }

  event_received : (e : Event (List ℕ)) → CanBeRead (writing word_of) most e → CanBeReceived word_of e
  event_received (SendPacket bytes) w = (w.carried, received_as bytes w.carried w.made w.reads_back)
  event_received e w = tt

chunks_event_received : (word_of : List ℕ → ℕ) (most : ℕ) → most ≤ 65535 → (e : Event Carried) → ReadsBackIn most e → IsReceivedAsWritten word_of e
chunks_event_received word_of most m (SendPacket p) r = received_as word_of most m (as_written word_of p) p refl r
chunks_event_received word_of most m e r = tt

chunks_received_of : (word_of : List ℕ → ℕ) (c d : Context Carried) → c.options.mtu ≤ 65535 → EmitsWhatReadsBack c d → EmitsWhatIsReceived word_of c d
chunks_received_of word_of c d most w = record {
  events = w.events;
  behind = w.behind;
  received = All-weaker (ReadsBackIn c.options.mtu) (IsReceivedAsWritten word_of) (chunks_event_received word_of c.options.mtu most) w.events w.reads_back;
}

pub chunks_are_received : (word_of : List ℕ → ℕ) (call : Call) (s : Endpoint Carried) → s.endpoint_state.context.pack ≡ as_carried → IsSound s → ArgumentFits call
    → EmitsWhatIsReceived word_of s.endpoint_state.context (called call s).endpoint_state.context
chunks_are_received word_of call s is k f = chunks_received_of word_of s.endpoint_state.context (called call s).endpoint_state.context k.options.mtu_most (chunks_read_back call s is k f)

received_of : (word_of : List ℕ → ℕ) (c d : Context (List ℕ)) → c.pack ≡ writing word_of → c.options.mtu ≤ 65535 → EmitsWhatCanBeRead c d → EmitsWhatCanBeReceived word_of c d
received_of word_of c d is most w = record {
  events = w.events;
  behind = w.behind;
  can_be_received = All-weaker (CanBeRead (writing word_of) c.options.mtu) (CanBeReceived word_of) (event_received word_of c.options.mtu most) w.events
      (subst (λ (pack : Packing (List ℕ)). All (CanBeRead pack c.options.mtu) w.events) is w.can_be_read);
}

pub can_be_received : (word_of : List ℕ → ℕ) (call : Call) (s : Endpoint (List ℕ)) → s.endpoint_state.context.pack ≡ writing word_of → IsSound s → ArgumentFits call
    → EmitsWhatCanBeReceived word_of s.endpoint_state.context (called call s).endpoint_state.context
can_be_received word_of call s is k f = received_of word_of s.endpoint_state.context (called call s).endpoint_state.context is k.options.mtu_most (can_be_read call s k f)

-- ---- arguments

all_of_each : (bs : List ℕ) → Each IsByte bs → AreBytes bs
all_of_each [] h = All-nil IsByte
all_of_each (b ∷ bs) h = All-cons IsByte b bs h.0 (all_of_each bs h.1)

body_bytes : (bytes : List ℕ) (p : PacketTree) (is : IsPacket bytes p) → AreBytes bytes → AreBytes is.body
body_bytes bytes p is h =
    let all : Each IsByte (header_bytes p.header ++ (be32 p.checksum ++ is.body)) = subst (Each IsByte) is.joined (each_of_all IsByte bytes h) in
    all_of_each is.body (each_back IsByte (be32 p.checksum) is.body (each_back IsByte (header_bytes p.header) (be32 p.checksum ++ is.body) all))

pub accepted_fit : AcceptedPacketsFit
accepted_fit policy word bytes p small accepts cookies = record {
  tag = accepts.packet.header_fits.verification_tag;
  chunks = record { bytes = accepts.packet.body; small = body_bytes bytes p accepts.packet small; parses = accepts.packet.chunks };
  cookies = cookies;
}

carried_cookie : (c : ChunkTree) → HasSomeCookie c → HasSomeCookie (carried c)
carried_cookie (init_ack_chunk init) h = h
carried_cookie c h = tt

carried_cookies : (cs : List ChunkTree) → All HasSomeCookie cs → Each HasSomeCookie (map carried cs)
carried_cookies [] h = tt
carried_cookies (c ∷ cs) h = (carried_cookie c (All-head HasSomeCookie c cs h), carried_cookies cs (All-tail HasSomeCookie c cs h))

-- options that let every checksum through
abbrev open_options : Options
open_options = record defaults { disable_checksum_verification = true }

received_packet : (word_of : List ℕ → ℕ) (most : ℕ) (p : Carried) → ReadsBack most p → length (as_written word_of p) ≤ 65535 → IsPacket (as_written word_of p) (as_received word_of p)
received_packet word_of most p r short =
    let field : ℕ = field_of word_of p.header p.is_summed p.chunks in
    let h : IsReceivable open_options p = record {
      header = r.header;
      chunks = r.chunks;
      short = omega (arith, short, length_written p.header field p.chunks);
      sum = refl;
    } in
    (is_accepted word_of p open_options h).packet

pub emitted_fit : EmittedPacketsFit
emitted_fit word_of most p policy word q r small accepts =
    let bytes : List ℕ = as_written word_of p in
    let same : q ≡ as_received word_of p = one_packet_lem bytes q (as_received word_of p) accepts.packet (received_packet word_of most p r accepts.short_enough) in
    accepted_fit policy word bytes q small accepts
    (subst (λ (x : PacketTree). Each HasSomeCookie x.chunks) (sym same) (carried_cookies p.chunks r.cookies))
