use Rattle.std.proofs.Common.{◌≡◌, ◌+◌, [], ◌∷◌, length, map, ap, ◌∙◌, arith}
use Rattle.std.proofs.lemmas.List.{length-append, length-map}
use Rattle.sctp_state.specs.Events.{event_of}
use Rattle.spec_endpoint.specs.Packets.{packets_in}
use Rattle.sctp_network_side.specs.SideView.{end_tree, without_events}
use Rattle.sctp_association.specs.Socket.{SocketValue}
use Rattle.sctp_network_side.proofs.CutLemmas.{more_made}
use Rattle.sctp_network_side.proofs.EmittedLemmas.{packets_taken, emitted_taken}
use Rattle.sctp_network_side.proofs.side.take_events.Goals as goal

pub loop-event-preserved : goal.loop-event-preserved
loop-event-preserved g c =
    let e = event_of c.in-Some.event in
    let rest = ap (λ (v : SocketValue _ _). v.context.emitted.events) c.poll_event.ensures.rest in
    let count : length c.take_event.new.packets.items ≡ length c.loop-event.packets.items + length (packets_in (e ∷ [])) =
    omega (
      arith,
      length-map c.take_event.new.packets.items (λ bytes. bytes.items),
      length-map c.loop-event.packets.items (λ bytes. bytes.items),
      ap length c.in_ok-take_event.ensures.packets,
      length-append (map (λ bytes. bytes.items) c.loop-event.packets.items) (packets_in (e ∷ [])),
    ) in
    record {
      socket = ap without_events c.poll_event.ensures.rest ∙ c.loop-event.invariant.socket;
      packets = packets_taken e c.loop-event.socket.context.emitted.events c.poll_event.new.self.context.emitted.events _ _ c.in-Some.ensures.first rest c.in_ok-take_event.ensures.packets
          ∙ c.loop-event.invariant.packets;
      log = emitted_taken (end_tree c.args.end) (length c.loop-event.packets.items) (length c.take_event.new.packets.items) e c.loop-event.socket.context.emitted.events c.poll_event.new.self.context.emitted.events _ _
          c.in-Some.ensures.first rest count c.in_ok-take_event.ensures.log ∙ c.loop-event.invariant.log;
      begun = more_made _ _ _ _ c.loop-event.invariant.begun c.in_ok-take_event.ensures.log;
    }
