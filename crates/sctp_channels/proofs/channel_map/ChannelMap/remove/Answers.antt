use Rattle.std.proofs.Common.{ap, ◌∙◌}
use Rattle.sctp_channels.specs.Entries.{kept_at}
use Rattle.sctp_channels.proofs.IncomingLemmas.{incoming_forget}
use Rattle.sctp_channels.proofs.KeptLemmas.{counted_forget}
use Rattle.sctp_channels.proofs.channel_map.ChannelMap.remove.Goals as goal

pub invariant_of-self : goal.invariant_of-self
invariant_of-self c =
    let entries = c.self.inside.entries.entries in (
      counted_forget c.args.id.now entries c.remove.new.self.entries c.self.inside.kept c.kept_of-before.result c.recounted-self-inside.result c.self.invariant.0
          c.remove.ensures.ordered c.remove.ensures.entries (c.kept_of-before.ensures ∙ ap kept_at c.remove.ensures.value) c.recounted-self-inside.ensures,
      incoming_forget c.args.id.now entries c.remove.new.self.entries c.self.inside.incoming.keys c.remove-2.new.self.keys c.self.invariant.1 c.len-count.ensures.ordered
          c.remove.ensures.entries c.remove-2.ensures.keys,
    )
