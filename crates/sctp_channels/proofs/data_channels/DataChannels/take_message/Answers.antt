use Rattle.std.proofs.Common.{Some, refl, sym, ap, ◌∙◌}
use Rattle.sctp_channels.specs.declared.payload.PayloadProtocol.{PayloadProtocol}
use Rattle.sctp_channels.proofs.WholeLemmas.{follows_whole}
use Rattle.sctp_channels.proofs.data_channels.DataChannels.take_message.Goals as goal

pub returns-then-counts_at_once-clause-steps : goal.returns-then-counts_at_once-clause-steps
returns-then-counts_at_once-clause-steps c =
    let counts = c.if-counts_at_once.ensures in
    follows_whole c.args.message.stream_id.0 c.args.message.ppid.0 c.in-Some-Data.kind c.args.message.payload.items c.len.result c.args.self.now c.counts_at_once.new.self c.tell.new.self
    (ap (λ (p : PayloadProtocol). Some p) (sym c.in-Some-Data.field-0-is) ∙ c.in-Some-Data.ensures) (c.len.ensures ∙ c.args.message.payload.ok.0) (counts.quiet refl) (counts.whole refl) (counts.row refl) c.in_ok-tell.ensures.ok
