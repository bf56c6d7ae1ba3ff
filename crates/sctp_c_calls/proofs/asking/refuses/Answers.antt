use Rattle.std.proofs.Common.{Bool, sym, subst}
use Rattle.spec_endpoint.specs.Receiving.{Judges}
use Rattle.sctp_c_calls.proofs.asking.refuses.Goals as goal

pub returns-in-Ok-clause-judged : goal.returns-in-Ok-clause-judged
returns-in-Ok-clause-judged g c = subst
    (λ (b : Bool). Judges (g.C.Checksum.word_of c.args.socket.now.context.checksum) c.args.bytes.now c.args.socket.now.context.options c.args.socket.now.state b)
    (sym c.one_if.ensures.is_one) c.in-Ok.ensures.judged
