use Rattle.std.proofs.Common.{◌≡◌, refl, ap, ◌∙◌, arith}
use Rattle.std.proofs.lemmas.Grind.{common_steps}
use Rattle.std.specs.Prelude.{◌*◌, min}
use Rattle.std.specs.Duration.{as_nanos}
use Rattle.sctp_serial.specs.Time.{later}
use Rattle.sctp_state.specs.Numbers.{ms}
use Rattle.sctp_state.specs.RetransmissionTimeout.{srtt}
use Rattle.sctp_endpoint.specs.Views.{ContextValue, context_of, tcb_of}
use Rattle.sctp_endpoint.proofs.ForwardLemmas.{forward_pushed}
use Rattle.sctp_endpoint.proofs.GoesOnLemmas.{goes_on_from}
use Rattle.sctp_endpoint.proofs.QuietLemmas.{quietly_same}
use Rattle.sctp_endpoint.proofs.context.Context.push_forward_tsn.Goals as goal

pub returns-clause-ok : goal.returns-clause-ok
returns-clause-ok g c =
    let span : as_nanos c.min-pause.result ≡ min (200 * ms) (srtt c.args.tcb.now.rto) = grind (arith, common_steps) in
    let pause = as_nanos c.forward_pause.result in
    let fit = c.in_ok-add_if_it_fits in
    forward_pushed c.args.packet.now c.add_if_it_fits.new.self (tcb_of c.args.tcb.now) (context_of g.C.Checksum.word_of c.args.self.now) _
    _ fit.field-0 c.add-self-inside.result pause _ c.in_ok-chunk.ensures fit.ensures.test c.if-not-branch.false fit.ensures.added
    (c.add-self-inside.ensures ∙ ap (λ (v : ContextValue _). later v.clock pause) c.self.view_is) c.forward_pause.ensures span
    (ap (λ (v : ContextValue _). record (context_of g.C.Checksum.word_of v) { forward_from = c.add-self-inside.result }) c.self.view_is)

pub returns-clause-goes_on : goal.returns-clause-goes_on
returns-clause-goes_on g c = goes_on_from c.args.self.now _ _ c.self.view_is (quietly_same c.self.inside.events) refl
