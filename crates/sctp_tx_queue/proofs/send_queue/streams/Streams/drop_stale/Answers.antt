use Rattle.std.proofs.Common.{Some, ap, sym, ◌∙◌}
use Rattle.std.specs.Prelude.{◌==◌}
use Rattle.std.specs.Map.{lookup}
use Rattle.std.specs.Ordering.{nat_cmp}
use Rattle.std.specs.BTreeMap.{is_at}
use Rattle.sctp_tx_queue.specs.SendQueue.{Stream, stream}
use Rattle.sctp_tx_queue.specs.Produced.{is_front_stale, without_stale}
use Rattle.sctp_tx_queue.proofs.BoundLemmas.{last_stale}
use Rattle.sctp_tx_queue.proofs.StaleLemmas.{nowhere_dropped, fresh_dropped, left_nothing}
use Rattle.sctp_tx_queue.proofs.StreamsLemmas.{put_nowhere, stream_there}
use Rattle.sctp_tx_queue.proofs.WholeLemmas.{streams_fresh}
use Rattle.sctp_tx_queue.proofs.send_queue.streams.Streams.drop_stale.Goals as goal

pub returns-in_default-clause-ok : goal.returns-in_default-clause-ok
returns-in_default-clause-ok c =
    let id = c.args.id.0 in
    let ss = c.args.self.now in
    sym (put_nowhere id (without_stale c.args.now (stream id ss)) ss (c.in_default.ensures.value ∙ ap (λ x. lookup (is_at (nat_cmp id)) x.entries) c.self.view_is))

pub returns-in_default-clause-emitted : goal.returns-in_default-clause-emitted
returns-in_default-clause-emitted c =
    nowhere_dropped c.args.now c.args.id.0 c.args.self.now c.args.events.now (c.in_default.ensures.value ∙ ap (λ x. lookup (is_at (nat_cmp c.args.id.0)) x.entries) c.self.view_is)

pub returns-then-not-is_front_stale-clause-ok : goal.returns-then-not-is_front_stale-clause-ok
returns-then-not-is_front_stale-clause-ok c =
    let id = c.args.id.0 in
    let ss = c.args.self.now in
    let at = c.in-Some.ensures.value ∙ ap (λ x. lookup (is_at (nat_cmp id)) x.entries) c.self.view_is in
    let front = ap (λ (s : Stream). is_front_stale c.args.now s.messages) (stream_there id c.in-Some.stream.now ss at) ∙ sym c.is_front_stale.ensures ∙ c.if-not-is_front_stale.true in
    streams_fresh c.args.now id ss front

pub returns-then-not-is_front_stale-clause-emitted : goal.returns-then-not-is_front_stale-clause-emitted
returns-then-not-is_front_stale-clause-emitted c =
    let id = c.args.id.0 in
    let ss = c.args.self.now in
    let at = c.in-Some.ensures.value ∙ ap (λ x. lookup (is_at (nat_cmp id)) x.entries) c.self.view_is in
    let front = ap (λ (s : Stream). is_front_stale c.args.now s.messages) (stream_there id c.in-Some.stream.now ss at) ∙ sym c.is_front_stale.ensures ∙ c.if-not-is_front_stale.true in
    fresh_dropped c.args.now id ss c.args.events.now front

pub returns-clause-left : goal.returns-clause-left
returns-clause-left c =
    let id = c.args.id.0 in
    let v = c.in-Some.stream.now in
    let at = c.in-Some.ensures.value ∙ ap (λ x. lookup (is_at (nat_cmp id)) x.entries) c.self.view_is in
    ap (λ b. Some b) (ap (λ n. c.in-Ok.bytes == n) c.amount.ensures ∙ last_stale c.args.now id c.in-Ok.bytes c.self.inside.streams.entries v c.in-Some.ensures.value c.self.invariant.few c.in-Ok.ensures.bytes)
    ∙ left_nothing c.args.now id c.in-Some.stream.now c.args.self.now at (sym c.is_front_stale.ensures ∙ c.if-not-is_front_stale.false)
