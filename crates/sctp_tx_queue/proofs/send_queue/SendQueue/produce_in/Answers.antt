use Rattle.std.proofs.Common.{ap, sym, subst, ◌∙◌}
use Rattle.std.specs.Prelude.{option_map}
use Rattle.sctp_tx_queue.specs.Views.{produced_of}
use Rattle.sctp_tx_queue.specs.Begun.{IsBegun}
use Rattle.sctp_tx_queue.proofs.BegunLemmas.{begins, goes_on}
use Rattle.sctp_tx_queue.proofs.ProduceLemmas.{produced_idle}
use Rattle.sctp_tx_queue.proofs.send_queue.SendQueue.produce_in.Goals as goal

pub returns-clause-idle : goal.returns-clause-idle
returns-clause-idle c = λ e. ap (λ q. q.scheduler.times) c.in_ok-made.ensures.queue
    ∙ produced_idle c.args.now c.args.max_payload c.args.self.now c.args.events.now (ap (λ o. option_map produced_of o) (sym e) ∙ c.in_ok-made.ensures.made)

pub returns-clause-begins : goal.returns-clause-begins
returns-clause-begins c = λ p is mode e.
    subst (λ q. IsBegun p.fragment.stream_id p.number q) (sym c.in_ok-made.ensures.queue)
    (begins c.args.now c.args.max_payload c.args.self.now c.args.events.now c.requires p (sym c.in_ok-made.ensures.made ∙ is) mode e)

pub returns-clause-goes_on : goal.returns-clause-goes_on
returns-clause-goes_on c = λ id number b.
    let g = goes_on c.args.now c.args.max_payload c.args.self.now c.args.events.now id number b in
    (g.0, (c.in_ok-made.ensures.made ∙ g.1.0, g.1.1))
