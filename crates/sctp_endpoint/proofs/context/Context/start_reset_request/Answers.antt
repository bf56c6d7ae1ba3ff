use Rattle.std.proofs.Common.{vec_len}
use Rattle.sctp_endpoint.specs.Views.{filling_of}
use Rattle.sctp_endpoint.proofs.RequestLemmas.{request_of_some}
use Rattle.sctp_endpoint.proofs.context.Context.start_reset_request.Goals as goal

pub returns-clause-ok : goal.returns-clause-ok
returns-clause-ok g c =
    let word_of = g.C.Checksum.word_of in
    request_of_some c.carry_reset_request.result (vec_len c.args.streams) c.args.streams.items (filling_of word_of c.args.packet.now c.args.tcb.now c.args.self.now)
    (filling_of word_of c.carry_reset_request.new.packet c.carry_reset_request.new.tcb c.args.self.now) c.if-is_empty.ensures c.args.streams.ok.0 c.carry_reset_request.ensures.ok
