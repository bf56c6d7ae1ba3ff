use Rattle.std.proofs.Common.{refl}
use Rattle.sctp_state.specs.Events.{SendPacket}
use Rattle.sctp_endpoint.proofs.GoesOnLemmas.{goes_on_from}
use Rattle.sctp_endpoint.proofs.QuietLemmas.{quietly_same, quietly_as, quietly_by}
use Rattle.sctp_endpoint.proofs.context.Context.emit.Goals as goal

pub returns-clause-goes_on : goal.returns-clause-goes_on
returns-clause-goes_on g c =
    goes_on_from c.args.self.now _ _ c.self.view_is (quietly_by (SendPacket c.in_ok-bytes.bytes.items) c.self.inside.events c.add.new.self refl c.in_ok-add.ensures.ok) refl

pub returns-in_err-add-clause-goes_on : goal.returns-in_err-add-clause-goes_on
returns-in_err-add-clause-goes_on g c =
    goes_on_from c.args.self.now _ _ c.self.view_is (quietly_as c.self.inside.events c.self.inside.events c.add.new.self c.in_err-add.ensures.err (quietly_same c.self.inside.events)) refl
