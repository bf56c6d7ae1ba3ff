use Rattle.std.proofs.Common.{ap, ◌∙◌}
use Rattle.sctp_channels.specs.Channel.{Channel, kept_by}
use Rattle.sctp_channels.proofs.IncomingLemmas.{data_lifecycle, incoming_same}
use Rattle.sctp_channels.proofs.KeptLemmas.{counted_same, counted_set, on_each}
use Rattle.sctp_channels.proofs.StandsLemmas.{unchanged}
use Rattle.sctp_channels.specs.declared.lifecycle.Lifecycle.{Lifecycle}
use Rattle.sctp_channels.proofs.channel_map.ChannelMap.on_data.Goals as goal

pub invariant_of-self-in_err-received : goal.invariant_of-self-in_err-received
invariant_of-self-in_err-received c =
    let channel = c.in-Some.channel.now in
    let changed = c.on_data.new.self in
    let back = (c.get_mut.follows.holds changed).0 in
    let found = c.in-Some.ensures.value in
    let same = c.in_err-received.ensures.err in
    let entries = c.self.inside.entries.entries in (
      counted_same c.args.id.now channel changed entries _ c.self.inside.kept c.self.invariant.0 back found (ap (λ (d : Channel). kept_by d) same),
      incoming_same c.args.id.now channel changed entries _ c.self.inside.incoming.keys c.self.invariant.1 back found (ap (λ (d : Channel). d.lifecycle.is_incoming_reset) same),
    )

pub returns-in_err-received-clause-err : goal.returns-in_err-received-clause-err
returns-in_err-received-clause-err c =
    let changed = c.on_data.new.self in
    on_each c.from_residual.result
    (unchanged c.args.id.now c.in-Some.channel.now changed c.self.inside.entries.entries _ (c.get_mut.follows.holds changed).0 c.in-Some.ensures.value c.in_err-received.ensures.err ∙ c.self.view_is)

pub invariant_of-self-2 : goal.invariant_of-self-2
invariant_of-self-2 c =
    let channel = c.in-Some.channel.now in
    let changed = c.on_data.new.self in
    let back = (c.get_mut.follows.holds changed).0 in
    let found = c.in-Some.ensures.value in
    let entries = c.self.inside.entries.entries in (
      counted_set c.args.id.now channel changed entries _ c.self.inside.kept c.kept_bytes-before.result c.kept_bytes.result c.recounted-self-inside.result c.self.invariant.0
          c.get_mut.ensures.ordered back found c.kept_bytes-before.ensures.kept c.kept_bytes.ensures.kept c.kept_bytes.ensures.small c.recounted-self-inside.ensures,
      incoming_same c.args.id.now channel changed entries _ c.self.inside.incoming.keys c.self.invariant.1 back found
          (ap (λ (d : Channel). d.lifecycle.is_incoming_reset) c.in_ok-received.ensures.row
          ∙ ap (λ (l : Lifecycle). l.is_incoming_reset) (data_lifecycle c.args.limit c.args.protocol c.args.payload.items channel)),
    )
