use Rattle.std.proofs.Common.{refl, ap, sym, ◌∙◌, length}
use Rattle.sctp_state.specs.declared.api.handover.HandoverUnorderedStream.{HandoverUnorderedStream}
use Rattle.sctp_fragments.specs.Held.{bytes_of}
use Rattle.sctp_reassembly.specs.Delivery.{UnorderedStream, fresh_unordered}
use Rattle.sctp_reassembly.specs.ReassemblyStreams.{unordered_bytes, unordered_fragments}
use Rattle.sctp_reassembly.proofs.RestoredLemmas.{weightless}
use Rattle.sctp_reassembly.proofs.unordered_streams.StreamMap+UnorderedStream+K.restored.Goals as goal

pub invariant_of-result : goal.invariant_of-result
invariant_of-result g c = record {
  bytes_are = sym (ap unordered_bytes c.in_ok-read.ensures ∙ weightless (λ (s : HandoverUnorderedStream). s.id) (λ (s : HandoverUnorderedStream). fresh_unordered) (λ (s : UnorderedStream). bytes_of s.held) (λ r. refl) c.args.records.now);
  fragments_are = sym (ap unordered_fragments c.in_ok-read.ensures ∙ weightless (λ (s : HandoverUnorderedStream). s.id) (λ (s : HandoverUnorderedStream). fresh_unordered) (λ (s : UnorderedStream). length s.held) (λ r. refl) c.args.records.now);
}
