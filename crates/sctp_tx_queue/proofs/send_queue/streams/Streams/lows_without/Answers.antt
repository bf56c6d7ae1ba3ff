use Rattle.std.proofs.Common.{ap, ◌∙◌, arith}
use Rattle.std.specs.Map.{lookup}
use Rattle.std.specs.Ordering.{nat_cmp}
use Rattle.std.specs.BTreeMap.{is_at}
use Rattle.sctp_tx_queue.specs.SendQueue.{stream}
use Rattle.sctp_tx_queue.specs.Settings.{without_front}
use Rattle.sctp_tx_queue.proofs.FallenLemmas.{low_there, total_there, low_nowhere, total_nowhere, without_threshold}
use Rattle.sctp_tx_queue.proofs.StreamsLemmas.{amount_at_most}
use Rattle.sctp_tx_queue.proofs.send_queue.streams.Streams.lows_without.Goals as goal

pub lows_by-requires-clause-own : goal.lows_by-requires-clause-own
lows_by-requires-clause-own c = omega (arith, c.front_bytes.ensures)

pub lows_by-requires-clause-all : goal.lows_by-requires-clause-all
lows_by-requires-clause-all c =
    let at = c.in-Some.ensures.value ∙ ap (λ x. lookup (is_at (nat_cmp c.args.id.0)) x.entries) c.self.view_is in
    omega (arith, c.front_bytes.ensures, amount_at_most c.args.id.0 c.args.self.now.entries c.in-Some.stream.now at)

pub returns-in-Some-clause-low : goal.returns-in-Some-clause-low
returns-in-Some-clause-low c =
    let number = c.args.message_id.0 in
    let v = c.in-Some.stream.now in
    let at = c.in-Some.ensures.value ∙ ap (λ x. lookup (is_at (nat_cmp c.args.id.0)) x.entries) c.self.view_is in
    c.lows_by.ensures.low ∙ low_there c.args.id.0 c.front_bytes.result (λ s. without_front number s.messages s) v c.args.self.now at c.front_bytes.ensures (without_threshold number v.messages v)

pub returns-in-Some-clause-total : goal.returns-in-Some-clause-total
returns-in-Some-clause-total c =
    let number = c.args.message_id.0 in
    let at = c.in-Some.ensures.value ∙ ap (λ x. lookup (is_at (nat_cmp c.args.id.0)) x.entries) c.self.view_is in
    c.lows_by.ensures.total ∙ total_there c.args.id.0 c.front_bytes.result (λ s. without_front number s.messages s) c.in-Some.stream.now c.args.self.now at c.front_bytes.ensures

pub returns-in-None-clause-low : goal.returns-in-None-clause-low
returns-in-None-clause-low c =
    let ss = c.args.self.now in
    let s = stream c.args.id.0 ss in
    low_nowhere c.args.id.0 (without_front c.args.message_id.0 s.messages s) ss (c.in-None.ensures.value ∙ ap (λ x. lookup (is_at (nat_cmp c.args.id.0)) x.entries) c.self.view_is)

pub returns-in-None-clause-total : goal.returns-in-None-clause-total
returns-in-None-clause-total c =
    let ss = c.args.self.now in
    let s = stream c.args.id.0 ss in
    total_nowhere c.args.id.0 (without_front c.args.message_id.0 s.messages s) ss (c.in-None.ensures.value ∙ ap (λ x. lookup (is_at (nat_cmp c.args.id.0)) x.entries) c.self.view_is)
