use Rattle.sctp_state.specs.declared.api.handover.HandoverUnorderedStream.{HandoverUnorderedStream}
use Rattle.sctp_reassembly.specs.Delivery.{fresh_unordered}
use Rattle.sctp_reassembly.proofs.RestoredLemmas.{read_more}
use Rattle.sctp_reassembly.proofs.unordered_streams.read.Goals as goal

pub loop-record-preserved : goal.loop-record-preserved
loop-record-preserved g c =
    read_more (λ (s : HandoverUnorderedStream). s.id) (λ (s : HandoverUnorderedStream). fresh_unordered) c.args.records.now c.loop-record.record-index (record { id = 0 }) _ c.loop-record.streams.entries c.insert.new.self.entries c.requires c.loop-record-test.true c.new.ensures c.loop-record.invariant c.in_ok-insert.ensures.entries
