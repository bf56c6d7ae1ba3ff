use Rattle.std.proofs.lemmas.Result.{on_err_weaker}
use Rattle.sctp_channels.specs.Channels.{acknowledge, tell_opened}
use Rattle.sctp_channels.proofs.StandsLemmas.{emits_then, emits_none}
use Rattle.sctp_channels.proofs.channels.Channels.take_open.Goals as goal

pub returns-clause-err : goal.returns-clause-err
returns-clause-err c =
    on_err_weaker c.place.result
    (λ same. emits_then (acknowledge c.args.id.0) c.args.self.now c.emit.new.self c.place.new.self c.in_ok-emit.ensures.ok
    (emits_then (tell_opened c.args.id.0) c.emit.new.self c.emit-2.new.self c.place.new.self c.in_ok-emit-2.ensures.ok (emits_none c.emit-2.new.self c.place.new.self same)))
    c.place.ensures.err
