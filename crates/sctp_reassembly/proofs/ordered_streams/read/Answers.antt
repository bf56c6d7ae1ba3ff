use Rattle.std.proofs.Common.{[], ◌+◌}
use Rattle.sctp_serial.specs.Unwrapped.{origin}
use Rattle.sctp_state.specs.declared.api.handover.HandoverOrderedStream.{HandoverOrderedStream}
use Rattle.sctp_reassembly.proofs.RestoredLemmas.{read_more}
use Rattle.sctp_reassembly.proofs.ordered_streams.read.Goals as goal

pub loop-record-preserved : goal.loop-record-preserved
loop-record-preserved g c =
    read_more (λ (s : HandoverOrderedStream). s.id) (λ (s : HandoverOrderedStream). record { next = origin + s.next_ssn; held = [] }) c.args.records.now c.loop-record.record-index (record { id = 0; next_ssn = 0 }) _ c.loop-record.streams.entries c.insert.new.self.entries c.requires c.loop-record-test.true c.restored.ensures c.loop-record.invariant c.in_ok-insert.ensures.entries
