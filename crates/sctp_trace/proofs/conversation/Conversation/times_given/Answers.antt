use Rattle.std.proofs.Common.{◌∙◌, ℕ, ap, nat_cmp}
use Rattle.std.specs.BTreeMap.{get}
use Rattle.std.specs.Option.{unwrap_or}
use Rattle.std.specs.Prelude.{Option}
use Rattle.sctp_trace.specs.declared.conversation.Ways.{Ways}
use Rattle.sctp_trace.proofs.conversation.Conversation.times_given.Goals as goal

pub returns : goal.returns
returns c =
    c.unwrap_or.ensures
    ∙ (ap (λ (found : Option ℕ). unwrap_or found 0)
    (c.copied.ensures ∙ (c.get.ensures.value ∙ ap (λ (ways : Ways). get nat_cmp ways.given c.args.number) c.ways_from.ensures))
    ∙ (c.requires c.args.from).given c.args.number)
