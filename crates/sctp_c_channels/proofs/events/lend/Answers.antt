use Rattle.std.proofs.Common.{ℕ, ap, ◌∙◌}
use Rattle.sctp_state.specs.declared.api.SocketEvent.TheVariants as sockets
use Rattle.sctp_channels.specs.declared.event.ChannelEvent.TheVariants as events
use Rattle.sctp_c_records.specs.Event.{shown}
use Rattle.sctp_c_channels.specs.Events.{kind_number}
use Rattle.sctp_c_channels.proofs.ShowsLemmas.{shows}
use Rattle.sctp_c_channels.proofs.events.lend.Goals as goal

pub returns-in-Socket-SendPacket-clause-shown : goal.returns-in-Socket-SendPacket-clause-shown
returns-in-Socket-SendPacket-clause-shown c =
    let s = c.show in
    let bytes = c.in-Socket-SendPacket.bytes in
    shows (events.Socket (sockets.SendPacket bytes)) c.of_packet.result s.result c.args.head.now s.new.head s.new.lent.items s.ensures.answer s.ensures.head
    (c.of_packet.ensures ∙ ap (λ (n : ℕ). shown 0 0 0 0 n) (c.len.ensures ∙ bytes.ok.0)) s.ensures.bytes

pub returns-in-Message-clause-shown : goal.returns-in-Message-clause-shown
returns-in-Message-clause-shown c =
    let s = c.show-in-Message in
    let m = c.in-Message in
    shows (events.Message m.id m.kind m.bytes) c.head_of-record.result s.result c.args.head.now s.new.head s.new.lent.items s.ensures.answer s.ensures.head
    (c.head_of-record.ensures ∙ ap (λ (kind : ℕ). shown kind 0 m.id.0 0 c.len-in-Message.result) c.kind_number.ensures
    ∙ ap (λ (n : ℕ). shown (kind_number m.kind) 0 m.id.0 0 n) (c.len-in-Message.ensures ∙ m.bytes.ok.0))
    s.ensures.bytes

pub returns-in-Opened-clause-shown : goal.returns-in-Opened-clause-shown
returns-in-Opened-clause-shown c =
    let s = c.show-in-Opened in
    shows (events.Opened c.in-Opened.id) c.head_of.result s.result c.args.head.now s.new.head s.new.lent.items s.ensures.answer s.ensures.head c.head_of.ensures (s.ensures.bytes ∙ c.new-none.ensures.items)

pub returns-in-BufferedAmountLow-clause-shown : goal.returns-in-BufferedAmountLow-clause-shown
returns-in-BufferedAmountLow-clause-shown c =
    let s = c.show-in-BufferedAmountLow in
    shows (events.BufferedAmountLow c.in-BufferedAmountLow.id) c.head_of-in-BufferedAmountLow.result s.result c.args.head.now s.new.head s.new.lent.items s.ensures.answer s.ensures.head c.head_of-in-BufferedAmountLow.ensures (s.ensures.bytes ∙ c.new-none.ensures.items)

pub returns-in-Closed-clause-shown : goal.returns-in-Closed-clause-shown
returns-in-Closed-clause-shown c =
    let s = c.show-in-Closed in
    shows (events.Closed c.in-Closed.id) c.head_of-in-Closed.result s.result c.args.head.now s.new.head s.new.lent.items s.ensures.answer s.ensures.head c.head_of-in-Closed.ensures (s.ensures.bytes ∙ c.new-none.ensures.items)

pub returns-in-Refused-clause-shown : goal.returns-in-Refused-clause-shown
returns-in-Refused-clause-shown c =
    let s = c.show-in-Refused in
    shows (events.Refused c.in-Refused.id c.in-Refused.why) c.head_of-in-Refused.result s.result c.args.head.now s.new.head s.new.lent.items s.ensures.answer s.ensures.head (c.head_of-in-Refused.ensures ∙ ap (λ (why : ℕ). shown 20 why c.in-Refused.id.0 0 0) c.refusal_number.ensures) (s.ensures.bytes ∙ c.new-none.ensures.items)
