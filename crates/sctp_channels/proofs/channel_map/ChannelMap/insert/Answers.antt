use Rattle.std.proofs.Common.{ap, subst, sym, ◌∙◌}
use Rattle.sctp_channels.specs.Entries.{AreCounted, kept_at}
use Rattle.sctp_channels.proofs.IncomingLemmas.{incoming_put, incoming_undone}
use Rattle.sctp_channels.proofs.KeptLemmas.{counted_put}
use Rattle.sctp_channels.proofs.channel_map.ChannelMap.insert.Goals as goal

pub invariant_of-self-in-Err : goal.invariant_of-self-in-Err
invariant_of-self-in-Err c = (
  subst (AreCounted c.self.inside.kept) (sym c.in-Err.ensures.err) c.self.invariant.0,
  incoming_undone c.args.id c.self.inside.entries.entries c.insert-2.new.self.entries c.self.inside.incoming.keys c.insert.new.self.keys c.remove.new.self.keys c.self.invariant.1 c.in-Err.ensures.err
      c.in-Err.ensures.absent c.in_ok-insert.ensures.keys c.remove.ensures.keys,
)

pub invariant_of-self-in-Ok : goal.invariant_of-self-in-Ok
invariant_of-self-in-Ok c =
    let entries = c.self.inside.entries.entries in (
      counted_put c.args.id c.args.channel entries c.insert-2.new.self.entries c.self.inside.kept c.kept_of.result c.kept_bytes-after.result c.recounted-self-inside.result c.self.invariant.0
          c.insert-2.ensures.was_ordered c.insert-2.ensures.ordered c.in-Ok.ensures.entries c.ranges.id.fits (c.kept_of.ensures ∙ ap kept_at c.in-Ok.ensures.old) c.kept_bytes-after.ensures.kept
          c.kept_bytes-after.ensures.small c.recounted-self-inside.ensures,
      incoming_put c.args.id c.args.channel entries c.insert-2.new.self.entries c.self.inside.incoming.keys c.insert.new.self.keys c.self.invariant.1 c.insert-2.ensures.was_ordered
          c.in-Ok.ensures.entries c.requires c.in_ok-insert.ensures.keys,
    )
