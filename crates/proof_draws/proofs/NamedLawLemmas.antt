-- The law of each call, and of packets that are refused: rows under other names and the map of what was emitted, joined.
use Rattle.std.proofs.Common.{◌≡◌, ℕ, Option, is_some, List, refl, ap, ◌∙◌}
use Rattle.rand_core.specs.Stream.{Stream}
use Rattle.sctp_packet.specs.Chunk.{ChunkTree}
use Rattle.spec_endpoint.specs.Association.{Context, EndpointState, Endpoint, Packing}
use Rattle.spec_endpoint.specs.Input.{packet_refusal, count_packet_at, packet_unless}
use Rattle.spec_endpoint.specs.Laws.{Call, Connect, Close, Shutdown, Send, SendMany, ResetStreams, TakeMessage, SetLowThreshold, SetPriority, SetMaxMessageSize, Advance, HandOver, Restore, ReceivePacket, ReceiveNoPacket, called}
use Rattle.proof_endpoint.specs.Mapped.{Carried, map_context, map_endpoint_state, as_carried}
use Rattle.proof_endpoint.proofs.MappedLemmas.{maps_called}
use Rattle.proof_draws.specs.NamedChunks.{Names, AreNames, flip, named_chunks}
use Rattle.proof_draws.specs.Names.{named_state, named_endpoint_state, with_random}
use Rattle.proof_draws.specs.Images.{named_carried, as_named, image}
use Rattle.proof_draws.specs.NamedCalls.{named_call, CallIsNamed, EachCallIsNamed, EachRefusalIsNamed}
use Rattle.proof_draws.proofs.WritingLemmas.{Knows}
use Rattle.proof_draws.proofs.TagLemmas.{refused_named}
use Rattle.proof_draws.proofs.OpeningLemmas.{named_connect}
use Rattle.proof_draws.proofs.ClosingLemmas.{close_named, shutdown_named}
use Rattle.proof_draws.proofs.TimeLemmas.{advance_named}
use Rattle.proof_draws.proofs.CallLemmas.{send_named, send_many_named, take_named, reset_streams_named, hand_over_named}
use Rattle.proof_draws.proofs.TakenLemmas.{some_of, packet_named}

module _ {P : Type 0} (n : Names) (are : AreNames n) (pack : Packing P) where
  pub call_named : (call : Call) (s : EndpointState P) (w v : Stream) → CallIsNamed n call s.state w v → Knows n pack s.context
      → (called (named_call n call) (with_random v (named_endpoint_state n pack s))).endpoint_state ≡ named_endpoint_state n pack (called call (with_random w s)).endpoint_state
  call_named Connect s w v is k = named_connect n are pack s w v k is
  call_named Close s w v is k = close_named n are pack s k
  call_named Shutdown s w v is k = shutdown_named n are pack s k
  call_named (Send m how) s w v is k = send_named n are pack m how s k
  call_named (SendMany ms how) s w v is k = send_many_named n are pack ms how s k
  call_named (ResetStreams streams) s w v is k = reset_streams_named n are pack streams s k
  call_named TakeMessage s w v is k = take_named n are pack s
  call_named (SetLowThreshold stream bytes) s w v is k = refl
  call_named (SetPriority stream priority) s w v is k = refl
  call_named (SetMaxMessageSize bytes) s w v is k = refl
  call_named (Advance now) s w v is k = advance_named n are pack now s k
  call_named HandOver s w v is k = hand_over_named n pack s
  call_named (Restore h) s w v is k = absurd is
  call_named (ReceivePacket p) s w v is k = packet_named n are pack p s w v is k
  call_named ReceiveNoPacket s w v is k = refl

-- packets that are named as they are emitted are written by one who knows the names
abbrev naming : Names → Packing Carried → Packing Carried
naming n pack = record {
  write = λ header is_summed chunks. named_carried n (pack.write header is_summed chunks);
  word_of = as_carried.word_of;
}

knows : (n : Names) (c : Context Carried) → c.pack ≡ as_carried → Knows n as_carried (map_context (as_named n) c)
knows n c k = ap (λ (w : Packing Carried). naming n w) k

pub each_call : EachCallIsNamed
each_call n are call s w v k is =
    let u : EndpointState Carried = map_endpoint_state (as_named n) s in
    call_named n are as_carried call u w v is (knows n s.context k)
    ∙ ap (λ (e : Endpoint Carried). named_endpoint_state n as_carried e.endpoint_state) (maps_called (as_named n) call (with_random w s))

pub each_refusal : EachRefusalIsNamed
each_refusal n are p s w v text e =
    let tag : ℕ = p.header.verification_tag in
    let ds : List ChunkTree = named_chunks (flip n) p.chunks in
    let other = some_of (packet_refusal (n.tag tag) ds (named_state n s.state)) (refused_named n are (flip n) tag p.chunks s.state ∙ ap (λ (o : Option (List ℕ)). is_some o) e) in
    record {
      text = text;
      named_text = other.0;
      first = ap (λ (o : Option (List ℕ)). packet_unless o tag p.chunks (count_packet_at (with_random w s))) e;
      second = ap (λ (o : Option (List ℕ)). packet_unless o (n.tag tag) ds (count_packet_at (with_random v (image n s)))) other.1;
    }
