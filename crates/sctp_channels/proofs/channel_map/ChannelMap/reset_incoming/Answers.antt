use Rattle.std.proofs.Common.{ap}
use Rattle.sctp_channels.specs.Channel.{Channel}
use Rattle.sctp_channels.proofs.IncomingLemmas.{incoming_reset}
use Rattle.sctp_channels.proofs.KeptLemmas.{counted_set}
use Rattle.sctp_channels.proofs.channel_map.ChannelMap.reset_incoming.Goals as goal

pub invariant_of-self : goal.invariant_of-self
invariant_of-self c =
    let channel = c.in-Some.channel.now in
    let changed = c.reset_incoming.new.self in
    let back = (c.get_mut.follows.holds changed).0 in
    let found = c.in-Some.ensures.value in
    let entries = c.self.inside.entries.entries in (
      counted_set c.args.id.now channel changed entries _ c.self.inside.kept c.kept_bytes-before.result c.kept_bytes.result c.recounted-self-inside.result c.self.invariant.0
          c.get_mut.ensures.ordered back found c.kept_bytes-before.ensures.kept c.kept_bytes.ensures.kept c.kept_bytes.ensures.small c.recounted-self-inside.ensures,
      incoming_reset c.args.id.now channel changed entries _ c.self.inside.incoming.keys c.remove.new.self.keys c.self.invariant.1 c.get_mut.ensures.ordered back found
          (ap (λ (d : Channel). d.lifecycle.is_incoming_reset) c.reset_incoming.ensures) c.remove.ensures.keys,
    )
