use Rattle.std.proofs.Common.{rules}
use Rattle.sctp_packet.specs.View.{viewed_packet}
use Rattle.sctp_endpoint.specs.Views.{context_of, endpoint_of, endpoint_state_of}
use Rattle.sctp_association.proofs.InterruptedLemmas.{read_in, unread_in}
use Rattle.sctp_association.proofs.ReceiveLemmas.{received_ok, not_received_ok, on_ok_of}
use Rattle.sctp_association.proofs.input.handle_input.Goals as goal

pub returns-in-Ok-clause-ok : goal.returns-in-Ok-clause-ok
returns-in-Ok-clause-ok g c =
    let seen = c.in-Ok.ensures.packet in
    received_ok c.handle_packet.result (g.C.Checksum.word_of c.args.context.now.checksum) c.policy.result c.packet_word-word.result c.args.bytes.now (viewed_packet c.in-Ok.view seen.0)
    (endpoint_of g.R.Rng.stream g.C.Checksum.word_of c.args.state.now c.args.context.now c.args.rng.now) _ (search rules) (search rules) seen.1 (c.handle_packet.ensures.ok seen.0 seen.2)

pub returns-in-Err-clause-ok : goal.returns-in-Err-clause-ok
returns-in-Err-clause-ok g c =
    not_received_ok c.refuse_bytes.result (g.C.Checksum.word_of c.args.context.now.checksum) c.policy.result c.packet_word-word.result c.args.bytes.now c.in-Err.field-0
    (endpoint_of g.R.Rng.stream g.C.Checksum.word_of c.args.state.now c.args.context.now c.args.rng.now) _ (search rules) (search rules) c.in-Err.ensures.refused
    (on_ok_of c.refuse_bytes.result c.in-Err.ensures.never_memory) (search rules)

pub returns-in-Ok-clause-stops : goal.returns-in-Ok-clause-stops
returns-in-Ok-clause-stops g c =
    let seen = c.in-Ok.ensures.packet in
    read_in c.handle_packet.result (g.C.Checksum.word_of c.args.context.now.checksum) c.policy.result c.packet_word-word.result c.args.bytes.now (viewed_packet c.in-Ok.view seen.0)
    (endpoint_of g.R.Rng.stream g.C.Checksum.word_of c.args.state.now c.args.context.now c.args.rng.now) (endpoint_state_of g.C.Checksum.word_of c.handle_packet.new.state c.handle_packet.new.context) (search rules) (search rules) seen.1
    (c.handle_packet.ensures.stops seen.0 seen.2)

pub returns-in-Err-clause-stops : goal.returns-in-Err-clause-stops
returns-in-Err-clause-stops g c =
    unread_in c.refuse_bytes.result (g.C.Checksum.word_of c.args.context.now.checksum) c.args.bytes.now (endpoint_of g.R.Rng.stream g.C.Checksum.word_of c.args.state.now c.args.context.now c.args.rng.now)
    (context_of g.C.Checksum.word_of c.refuse_bytes.new.context) c.refuse_bytes.ensures.goes_on.emitted.announced
