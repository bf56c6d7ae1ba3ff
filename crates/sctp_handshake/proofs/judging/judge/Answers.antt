use Rattle.std.proofs.Common.{rules}
use Rattle.std.specs.Prelude.{option_map}
use Rattle.sctp_packet.specs.View.{viewed_packet}
use Rattle.sctp_handshake.specs.RefusalView.{refusal_text}
use Rattle.sctp_endpoint.specs.Views.{state_of}
use Rattle.sctp_handshake.proofs.JudgeLemmas.{judged_as, not_judged, some_by}
use Rattle.sctp_handshake.proofs.judging.judge.Goals as goal

pub returns-in-Ok : goal.returns-in-Ok
returns-in-Ok g c =
    let s = state_of c.args.state.now in
    let seen = c.in-Ok.ensures.packet in
    judged_as (g.C.Checksum.word_of c.args.context.now.checksum) c.policy.result c.packet_word-word.result c.args.bytes.now (viewed_packet c.in-Ok.view seen.0) c.args.context.now.options s
    (option_map refusal_text c.refusal_of.result) c.is_some.result (search rules) (search rules) seen.1
    (c.refusal_of.ensures seen.0 seen.2)
    (some_by refusal_text c.refusal_of.result c.is_some.result c.is_some.ensures)

pub returns-in-Err : goal.returns-in-Err
returns-in-Err g c =
    not_judged (g.C.Checksum.word_of c.args.context.now.checksum) c.policy.result c.packet_word-word.result c.args.bytes.now c.in-Err.field-0 c.args.context.now.options
    (state_of c.args.state.now) _ (search rules) (search rules) c.in-Err.ensures.refused c.in-Err.ensures.never_memory (search rules)
