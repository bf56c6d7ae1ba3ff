use Rattle.std.proofs.Common.{true}
use Rattle.sctp_capabilities.specs.StateCookie.{cookie_of}
use Rattle.sctp_endpoint.specs.Views.{context_of, endpoint_state_of, state_of}
use Rattle.sctp_handshake.proofs.AnnouncedLemmas.{announced_with, begun_held, greeted_with}
use Rattle.sctp_handshake.proofs.cookie_echo.restart_anew.Goals as goal

pub returns-in_err-announce-clause-goes_on : goal.returns-in_err-announce-clause-goes_on
returns-in_err-announce-clause-goes_on g c =
    let word_of = g.C.Checksum.word_of in
    announced_with c.args.context.now c.begin.new.context c.announce.new.self (state_of c.begin.new.state) c.begin.ensures.goes_on c.announce.ensures.goes_on
    (begun_held true (cookie_of c.args.cookie.now) c.args.tie_tag (context_of word_of c.args.context.now) (endpoint_state_of word_of c.begin.new.state c.begin.new.context) c.in_ok-begin.ensures.ok)

pub returns-clause-goes_on : goal.returns-clause-goes_on
returns-clause-goes_on g c =
    let word_of = g.C.Checksum.word_of in
    greeted_with c.args.context.now c.begin.new.context c.announce.new.self (state_of c.begin.new.state) c.begin.ensures.goes_on c.announce.ensures.goes_on
    (begun_held true (cookie_of c.args.cookie.now) c.args.tie_tag (context_of word_of c.args.context.now) (endpoint_state_of word_of c.begin.new.state c.begin.new.context) c.in_ok-begin.ensures.ok)
    c.greet.new.context (state_of c.greet.new.state) c.greet.ensures.goes_on c.greet.ensures.association
