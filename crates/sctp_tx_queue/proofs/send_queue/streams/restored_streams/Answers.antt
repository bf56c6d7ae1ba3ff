use Rattle.std.proofs.Common.{List, ap, sym, ◌∙◌}
use Rattle.std.proofs.lemmas.List.{at_drop_all}
use Rattle.sctp_state.specs.declared.api.handover.HandoverOutgoingStream.{HandoverOutgoingStream}
use Rattle.sctp_tx_queue.specs.SendQueue.{Entries}
use Rattle.sctp_tx_queue.proofs.RestoreLemmas.{each_inserted, inserted, inserted_next}
use Rattle.sctp_tx_queue.proofs.send_queue.streams.restored_streams.Goals as goal

pub loop-stream-preserved : goal.loop-stream-preserved
loop-stream-preserved c =
    inserted_next c.args.low_threshold c.loop-stream.stream-index c.args.records.now (record { id = 0; next_ssn = 0; next_unordered_mid = 0; next_ordered_mid = 0; priority = 0 })
    c.loop-stream.streams.entries c.insert.new.self.entries c.restored-restored.result c.loop-stream-test.true c.restored-restored.ensures c.in_ok-insert.ensures.entries
    ∙ c.loop-stream.invariant

pub returns : goal.returns
returns c =
    sym (at_drop_all (λ (xs : List HandoverOutgoingStream). each_inserted c.args.low_threshold xs c.loop-stream.streams.entries) c.args.records.now c.loop-stream.stream-index c.loop-stream-test.false)
    ∙ c.loop-stream.invariant
    ∙ ap (λ (es : Entries). each_inserted c.args.low_threshold c.args.records.now es) c.new-streams.ensures.empty
    ∙ inserted c.args.low_threshold c.args.records.now c.requires
