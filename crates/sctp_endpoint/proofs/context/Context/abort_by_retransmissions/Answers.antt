use Rattle.std.proofs.Common.{◌≡◌, ℕ, List, [], ◌∷◌, false, codes, OnOk, ap, subst, ◌∙◌}
use Rattle.sctp_wire.specs.Cause.{CauseTree}
use Rattle.sctp_packet.specs.Chunk.{abort_chunk}
use Rattle.sctp_state.specs.declared.api.ErrorKind.TheVariants.{TooManyRetries}
use Rattle.sctp_state.specs.Events.{OnAborted}
use Rattle.spec_endpoint.specs.Association.{Context}
use Rattle.spec_endpoint.specs.Shutdown.{over}
use Rattle.spec_endpoint.specs.Packets.{emit_chunk}
use Rattle.sctp_endpoint.specs.Views.{context_of, tcb_of}
use Rattle.sctp_endpoint.proofs.context.Context.abort_by_retransmissions.Goals as goal

pub returns-clause-ok : goal.returns-clause-ok
returns-clause-ok g c =
    let word_of = g.C.Checksum.word_of in
    let sent = c.in_ok-send_abort.ensures.ok
    ∙ ap (λ (cause : CauseTree). emit_chunk (abort_chunk false (cause ∷ [])) (tcb_of c.args.tcb.now) (context_of word_of c.args.self.now)) c.in_ok-cause.ensures in
    subst (λ (x : Context (List ℕ)). OnOk c.emit_no_answer.result (context_of word_of c.emit_no_answer.new.self ≡ over (OnAborted TooManyRetries (codes "Too many retransmissions")) x))
    sent c.emit_no_answer.ensures.ok
