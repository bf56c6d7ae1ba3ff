use Rattle.std.proofs.Common.{◌∙◌}
use Rattle.sctp_channels.specs.declared.event.ChannelEvent.TheVariants as events
use Rattle.sctp_c_channels.proofs.ShowsLemmas.{shows}
use Rattle.sctp_c_channels.proofs.events.lend_other.Goals as goal

pub returns-in-Ok-clause-shown : goal.returns-in-Ok-clause-shown
returns-in-Ok-clause-shown c =
    let s = c.show in
    shows (events.Socket c.args.event) c.in-Ok.field-0.head s.result c.args.head.now s.new.head s.new.lent.items s.ensures.answer s.ensures.head c.in-Ok.ensures.head
    (s.ensures.bytes ∙ c.in-Ok.ensures.bytes)
