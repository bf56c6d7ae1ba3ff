use Rattle.std.proofs.Common.{rules, ap, ◌≡◌, ◌&&◌, not, true, arith}
use Rattle.sctp_packet.specs.Views.{viewed_fragment}
use Rattle.sctp_rx.specs.ReassemblyQueue.{queued_bytes, held_fragments}
use Rattle.sctp_rx.specs.DataTracker.{number_of, is_valid, has_seen}
use Rattle.sctp_endpoint.specs.Views.{tcb_of}
use Rattle.sctp_transfer.proofs.DataLemmas.{taken_new}
use Rattle.sctp_transfer.proofs.data.keep_data.Goals as goal

pub add-requires-clause-room : goal.add-requires-clause-room
add-requires-clause-room c = omega (arith, ap queued_bytes c.copy_of.ensures.others, c.requires.bytes, c.in_ok-data.data.payload.small)

pub add-requires-clause-fragments : goal.add-requires-clause-fragments
add-requires-clause-fragments c = omega (arith, ap held_fragments c.copy_of.ensures.others, c.requires.fragments)

pub returns-in_ok-add-clause-ok : goal.returns-in_ok-add-clause-ok
returns-in_ok-add-clause-ok c =
    let t = tcb_of c.args.tcb.now in
    let n = number_of t.tracker c.args.fragment.tsn.0 in
    let new : (is_valid t.tracker.tracker n && not (has_seen t.tracker.tracker n)) ≡ true = search rules in
    taken_new c.args.fragment.tsn.0 c.args.fragment.immediate_ack (viewed_fragment c.args.fragment) t c.observe.new.self c.add.new.self new c.in_ok-observe.ensures.value (search rules)
