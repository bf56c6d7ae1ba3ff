use Rattle.std.proofs.Common.{ap, ◌∙◌}
use Rattle.std.proofs.lemmas.Result.{on_err_weaker, on_ok_weaker}
use Rattle.sctp_channels.specs.Channel.{Channel, kept_by}
use Rattle.sctp_channels.proofs.IncomingLemmas.{incoming_same}
use Rattle.sctp_channels.proofs.KeptLemmas.{counted_same, either_way}
use Rattle.sctp_channels.proofs.StandsLemmas.{unchanged}
use Rattle.sctp_channels.proofs.channel_map.ChannelMap.send.Goals as goal

pub invariant_of-self-2 : goal.invariant_of-self-2
invariant_of-self-2 g c =
    let channel = c.in-Some.channel.now in
    let changed = c.send.new.self in
    let back = (c.get_mut.follows.holds changed).0 in
    let found = c.in-Some.ensures.value in
    let entries = c.self.inside.entries.entries in
    let as_much = either_way c.send.result (on_ok_weaker c.send.result (λ is. ap (λ (d : Channel). kept_by d) is) c.send.ensures.ok)
    (on_err_weaker c.send.result (λ is. ap (λ (d : Channel). kept_by d) is) c.send.ensures.err) in
    let same = either_way c.send.result (on_ok_weaker c.send.result (λ is. ap (λ (d : Channel). d.lifecycle.is_incoming_reset) is) c.send.ensures.ok)
    (on_err_weaker c.send.result (λ is. ap (λ (d : Channel). d.lifecycle.is_incoming_reset) is) c.send.ensures.err) in (
      counted_same c.args.id.now channel changed entries _ c.self.inside.kept c.self.invariant.0 back found as_much,
      incoming_same c.args.id.now channel changed entries _ c.self.inside.incoming.keys c.self.invariant.1 back found same,
    )

pub returns-clause-err : goal.returns-clause-err
returns-clause-err g c =
    let changed = c.send.new.self in
    on_err_weaker c.send.result
    (λ same. unchanged c.args.id.now c.in-Some.channel.now changed c.self.inside.entries.entries _ (c.get_mut.follows.holds changed).0 c.in-Some.ensures.value same ∙ c.self.view_is) c.send.ensures.err
