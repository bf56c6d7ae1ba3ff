use Rattle.std.proofs.Common.{refl, ap, sym, ◌∙◌, true, false}
use Rattle.sctp_tx.specs.Sending.{is_idle}
use Rattle.sctp_endpoint.specs.Views.{ContextValue, filling_of}
use Rattle.sctp_endpoint.proofs.DataLemmas.{data_added, nothing_added}
use Rattle.sctp_endpoint.proofs.GoesOnLemmas.{goes_on_from, goes_on_through}
use Rattle.sctp_endpoint.proofs.GrownLemmas.{sent_events, partly_sent_events}
use Rattle.sctp_endpoint.proofs.context.Context.add_data.Goals as goal

pub returns-then-is_idle-clause-ok : goal.returns-then-is_idle-clause-ok
returns-then-is_idle-clause-ok g c =
    let idle = ap (λ (v : ContextValue _). is_idle c.args.tcb.now.retransmission_queue v.queue) (sym c.self.view_is) ∙ sym c.is_idle.ensures.idle ∙ c.if-is_idle.true in
    nothing_added (filling_of g.C.Checksum.word_of c.args.packet.now c.args.tcb.now c.args.self.now) c.is_idle.ensures.small idle

pub returns-then-not-is_sent-clause-ok : goal.returns-then-not-is_sent-clause-ok
returns-then-not-is_sent-clause-ok g c =
    let said = c.in_ok-is_sent.ensures in
    data_added g.C.Checksum.word_of c.args.packet.now c.args.tcb.now _ c.args.self.now c.bytes_remaining-room.result c.asks_at_once.result
    c.send_into.new.packet c.send_into.new.self _ c.send_into.new.queue c.send_into.new.events c.in_ok-is_sent.is_sent false c.self.view_is
    c.bytes_remaining-room.ensures.room c.asks_at_once.ensures said.packet said.sender said.queue said.emitted said.sent c.if-not-is_sent.true refl

pub returns-clause-ok : goal.returns-clause-ok
returns-clause-ok g c =
    let said = c.in_ok-is_sent.ensures in
    data_added g.C.Checksum.word_of c.args.packet.now c.args.tcb.now _ c.args.self.now c.bytes_remaining-room.result c.asks_at_once.result
    c.send_into.new.packet c.send_into.new.self _ c.send_into.new.queue c.send_into.new.events c.in_ok-is_sent.is_sent true c.self.view_is
    c.bytes_remaining-room.ensures.room c.asks_at_once.ensures said.packet said.sender said.queue said.emitted said.sent c.if-not-is_sent.false c.restart_heartbeat_interval.ensures.ok

pub returns-in_err-is_sent-clause-goes_on : goal.returns-in_err-is_sent-clause-goes_on
returns-in_err-is_sent-clause-goes_on g c =
    let after = c.send_into.new in
    goes_on_from c.args.self.now _ _ c.self.view_is (partly_sent_events c.self.inside.clock c.bytes_remaining-room.result c.args.tcb.now.retransmission_queue
    c.self.inside.send_queue c.self.inside.events after.self after.queue after.events c.in_err-is_sent.ensures.err) refl

pub returns-then-not-is_sent-clause-goes_on : goal.returns-then-not-is_sent-clause-goes_on
returns-then-not-is_sent-clause-goes_on g c =
    goes_on_from c.args.self.now _ _ c.self.view_is (sent_events c.self.inside.clock c.bytes_remaining-room.result c.args.tcb.now.retransmission_queue
    c.self.inside.send_queue c.self.inside.events c.send_into.new.events c.in_ok-is_sent.ensures.emitted) refl

pub returns-clause-goes_on : goal.returns-clause-goes_on
returns-clause-goes_on g c =
    goes_on_through c.args.self.now _ _ (goes_on_from c.args.self.now _ _ c.self.view_is (sent_events c.self.inside.clock c.bytes_remaining-room.result c.args.tcb.now.retransmission_queue
    c.self.inside.send_queue c.self.inside.events c.send_into.new.events c.in_ok-is_sent.ensures.emitted) refl) c.restart_heartbeat_interval.ensures.goes_on
