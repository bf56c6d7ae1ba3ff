use Rattle.std.proofs.Common.{ap, ◌∙◌}
use Rattle.sctp_channels.specs.Channel.{Channel, kept_by}
use Rattle.sctp_channels.proofs.IncomingLemmas.{incoming_same}
use Rattle.sctp_channels.proofs.KeptLemmas.{counted_same, either_answer}
use Rattle.sctp_channels.proofs.StandsLemmas.{unchanged}
use Rattle.sctp_channels.proofs.channel_map.ChannelMap.count_whole.Goals as goal

pub invariant_of-self-2 : goal.invariant_of-self-2
invariant_of-self-2 c =
    let channel = c.in-Some.channel.now in
    let changed = c.count_whole.new.self in
    let back = (c.get_mut.follows.holds changed).0 in
    let found = c.in-Some.ensures.value in
    let entries = c.self.inside.entries.entries in
    let row = c.count_whole.ensures.row in
    let none = c.count_whole.ensures.none in (
      counted_same c.args.id.now channel changed entries _ c.self.inside.kept c.self.invariant.0 back found
          (either_answer c.count_whole.result (λ is. ap (λ (d : Channel). kept_by d) (row is)) (λ is. ap (λ (d : Channel). kept_by d) (none is))),
      incoming_same c.args.id.now channel changed entries _ c.self.inside.incoming.keys c.self.invariant.1 back found
          (either_answer c.count_whole.result (λ is. ap (λ (d : Channel). d.lifecycle.is_incoming_reset) (row is)) (λ is. ap (λ (d : Channel). d.lifecycle.is_incoming_reset) (none is))),
    )

pub returns-clause-none : goal.returns-clause-none
returns-clause-none c =
    let changed = c.count_whole.new.self in
    λ is. unchanged c.args.id.now c.in-Some.channel.now changed c.self.inside.entries.entries _ (c.get_mut.follows.holds changed).0 c.in-Some.ensures.value (c.count_whole.ensures.none is) ∙ c.self.view_is
