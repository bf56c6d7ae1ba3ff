use Rattle.std.proofs.Common.{ℕ, List, map, ap, ◌∙◌}
use Rattle.sctp_serial.specs.Messages.{message_of}
use Rattle.sctp_state.specs.declared.api.SocketState.{SocketState}
use Rattle.sctp_state.specs.Options.{send_options_of}
use Rattle.spec_endpoint.specs.Association.{Context, EndpointState, where_open}
use Rattle.spec_endpoint.specs.Sending.{send_in}
use Rattle.spec_endpoint.specs.Calls.{offer_all, refusals}
use Rattle.sctp_endpoint.specs.Views.{state_of, context_of}
use Rattle.sctp_endpoint.proofs.QuietLemmas.{quietly_through}
use Rattle.sctp_calls.proofs.calls.send_many.Goals as goal

pub returns-clause-refusals : goal.returns-clause-refusals
returns-clause-refusals g c =
    c.in_ok-refusals.ensures.refusals
    ∙ ap (λ (shown : SocketState). refusals 0 (map message_of c.args.messages.items) (send_options_of c.args.options.now) shown (context_of g.C.Checksum.word_of c.args.context.now)) c.socket_state-shown.ensures

pub returns-clause-sent : goal.returns-clause-sent
returns-clause-sent g c =
    let offered =
    c.in_ok-refusals.ensures.offered
    ∙ ap (λ (shown : SocketState). offer_all (map message_of c.args.messages.items) (send_options_of c.args.options.now) shown (context_of g.C.Checksum.word_of c.args.context.now)) c.socket_state-shown.ensures in
    c.in_ok-send_waiting.ensures.ok
    ∙ ap (λ (x : Context (List ℕ)). let s : EndpointState (List ℕ) = record { state = state_of c.args.state.now; context = x } in where_open send_in s) offered

pub returns-clause-grown : goal.returns-clause-grown
returns-clause-grown g c =
    quietly_through c.args.context.now.emitted c.offer_all.new.context.emitted c.send_waiting.new.context.emitted c.offer_all.ensures.grown c.send_waiting.ensures.goes_on.emitted

pub returns-clause-ready : goal.returns-clause-ready
returns-clause-ready g c = c.send_waiting.ensures.received

pub returns-clause-association : goal.returns-clause-association
returns-clause-association g c = c.send_waiting.ensures.association

pub returns-in_err-refusals-clause-grown : goal.returns-in_err-refusals-clause-grown
returns-in_err-refusals-clause-grown g c = c.offer_all.ensures.grown

pub returns-in_err-send_waiting-clause-grown : goal.returns-in_err-send_waiting-clause-grown
returns-in_err-send_waiting-clause-grown g c =
    quietly_through c.args.context.now.emitted c.offer_all.new.context.emitted c.send_waiting.new.context.emitted c.offer_all.ensures.grown c.send_waiting.ensures.goes_on.emitted

pub returns-in_err-send_waiting-clause-ready : goal.returns-in_err-send_waiting-clause-ready
returns-in_err-send_waiting-clause-ready g c = c.send_waiting.ensures.received

pub returns-in_err-send_waiting-clause-association : goal.returns-in_err-send_waiting-clause-association
returns-in_err-send_waiting-clause-association g c = c.send_waiting.ensures.association
