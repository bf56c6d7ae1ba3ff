use Rattle.std.proofs.Common.{suc, arith}
use Rattle.sctp_tx_outstanding.proofs.RunsLemmas.{passed_within, passed_run}
use Rattle.sctp_tx_outstanding.proofs.runs.Runs.pass.Goals as goal

pub returns-then-self-lt63 : goal.returns-then-self-lt63
returns-then-self-lt63 c = λ i is h. record {
  small = omega (arith, c.if-self-lt63.true);
  known = passed_within c.args.self.now.known.items c.args.self.now.offset i is h.known;
  least = λ k. h.least (suc k);
}

pub returns : goal.returns
returns c = λ i is h. record {
  small = omega arith;
  known = passed_run c.args.self.now.known.items c.take_first.new.queue.items c.args.self.now.offset i is (omega (arith, c.if-self-lt63.false, h.small)) c.take_first.ensures.rest h.known;
  least = λ k. h.least (suc k);
}
