use Rattle.std.proofs.Common.{ap, ◌∙◌}
use Rattle.sctp_channels.specs.Channel.{Channel, kept_by}
use Rattle.sctp_channels.specs.Entries.{channel_at}
use Rattle.sctp_channels.proofs.IncomingLemmas.{found_keeps, incoming_same}
use Rattle.sctp_channels.proofs.KeptLemmas.{counted_same}
use Rattle.sctp_channels.proofs.channel_map.ChannelMap.set_lifecycle.Goals as goal

pub invariant_of-self-2 : goal.invariant_of-self-2
invariant_of-self-2 c =
    let channel = c.in-Some.channel.now in
    let changed = c.set_lifecycle.new.self in
    let back = (c.get_mut.follows.holds changed).0 in
    let found = c.in-Some.ensures.value in
    let entries = c.self.inside.entries.entries in (
      counted_same c.args.id.now channel changed entries _ c.self.inside.kept c.self.invariant.0 back found (ap (λ (d : Channel). kept_by d) c.set_lifecycle.ensures),
      incoming_same c.args.id.now channel changed entries _ c.self.inside.incoming.keys c.self.invariant.1 back found
          (ap (λ (d : Channel). d.lifecycle.is_incoming_reset) c.set_lifecycle.ensures ∙ found_keeps (channel_at c.args.id.now c.args.self.now) channel c.args.lifecycle c.requires (found ∙ ap (channel_at c.args.id.now) c.self.view_is)),
    )
