use Rattle.std.proofs.Common.{refl, ap, subst, sym}
use Rattle.std.specs.Prelude.{is_err}
use Rattle.sctp_association.specs.Socket.{SocketValue, endpoint}
use Rattle.spec_endpoint.specs.Receiving.{Receives}
use Rattle.sctp_endpoint.specs.Views.{context_of, endpoint_of, endpoint_state_of}
use Rattle.sctp_association.specs.Interrupted.{StopsIn, unread}
use Rattle.sctp_association.proofs.InterruptedLemmas.{leaves_quietly, on_err_of, where_err}
use Rattle.sctp_association.proofs.ReceiveLemmas.{where_ok}
use Rattle.sctp_association.proofs.socket.SocketDcSctpSocket.handle_input.Goals as goal

pub returns-clause-ok : goal.returns-clause-ok
returns-clause-ok g c =
    let after = endpoint_of g.R.Rng.stream g.C.Checksum.word_of c.handle_input-done.new.state c.handle_input-done.new.context c.handle_input-done.new.rng in
    subst (λ (v : SocketValue _ _). Receives (g.C.Checksum.word_of v.context.checksum) c.args.bytes.now (endpoint g.R.Rng.stream g.C.Checksum.word_of v) after) c.self.view_is
    (where_ok c.handle_input-done.result (ap is_err (sym c.in_ok-ended.ensures.same)) c.handle_input-done.ensures.ok)

pub returns-then-self-clause-stops : goal.returns-then-self-clause-stops
returns-then-self-clause-stops g c =
    let context = context_of g.C.Checksum.word_of c.args.self.now.context in
    unread (leaves_quietly c.args.self.now.state context context refl)

pub returns-in_err-ended-clause-stops : goal.returns-in_err-ended-clause-stops
returns-in_err-ended-clause-stops g c =
    let now = endpoint_state_of g.C.Checksum.word_of c.handle_input-done.new.state c.handle_input-done.new.context in
    where_err c.from_residual.result (subst (λ (v : SocketValue _ _). StopsIn (g.C.Checksum.word_of v.context.checksum) c.args.bytes.now (endpoint g.R.Rng.stream g.C.Checksum.word_of v) now) c.self.view_is
    (on_err_of c.handle_input-done.result (ap is_err (sym c.in_err-ended.ensures.same)) c.handle_input-done.ensures.stops))
