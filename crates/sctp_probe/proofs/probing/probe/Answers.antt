use Rattle.std.proofs.Common.{◌≡◌, rules, ap, ◌∙◌}
use Rattle.sctp_serial.specs.declared.api.StreamId.{StreamId}
use Rattle.sctp_packet.specs.PacketView.{packet_tree}
use Rattle.sctp_packet.specs.Views.{fragment_tree}
use Rattle.sctp_packet.specs.Written.{key_stream}
use Rattle.sctp_chunk.proofs.ValueLemmas.{key_id}
use Rattle.sctp_probe.proofs.ProbeLemmas.{accepted, reported}
use Rattle.sctp_probe.proofs.probing.probe.Goals as goal

pub returns-in-Err : goal.returns-in-Err
returns-in-Err c = rw c.refusal.ensures (reported _ _ c.args.bytes.now c.in-Err.fault (search rules) c.word_of.ensures c.in-Err.ensures.refused)

pub returns-in_default : goal.returns-in_default
returns-in_default c = record {
  packet = packet_tree c.in-Ok.packet;
  accepted = accepted _ _ _ _ (search rules) c.word_of.ensures c.in-Ok.ensures.packet;
  no_message = c.in_default.ensures.none;
}

pub returns : goal.returns
returns c =
    let key = c.in-Some.chunk.data.stream_key in
    let stream : c.id.result.0 ≡ key_stream key = ap (λ (id : StreamId). id.0) c.id.ensures ∙ key_id key in
    record {
      packet = packet_tree c.in-Ok.packet;
      tsn = c.in-Some.chunk.tsn.0;
      fragment = fragment_tree c.in-Some.chunk.data;
      accepted = accepted _ _ _ _ (search rules) c.word_of.ensures c.in-Ok.ensures.packet;
      message = c.in-Some.ensures.some;
      stream_is = ap (λ (id : StreamId). id.0) c.new.ensures.stream ∙ stream;
      ppid_is = search rules;
      payload_is = search rules;
      reply_is = c.in_ok-reply.ensures;
    }
