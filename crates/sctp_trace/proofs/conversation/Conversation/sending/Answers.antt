use Rattle.std.proofs.Common.{◌∙◌, ap, nat_cmp}
use Rattle.std.specs.BTreeMap.{get}
use Rattle.sctp_trace.specs.declared.conversation.Ways.{Ways}
use Rattle.sctp_trace.proofs.conversation.Conversation.sending.Goals as goal

pub returns : goal.returns
returns c =
    c.copied.ensures
    ∙ (c.get.ensures.value
    ∙ (ap (λ (ways : Ways). get nat_cmp ways.sent c.args.number) c.ways_from.ensures ∙ (c.requires c.args.from).sent c.args.number))
