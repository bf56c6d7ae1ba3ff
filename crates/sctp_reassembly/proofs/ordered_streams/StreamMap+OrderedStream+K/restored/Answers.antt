use Rattle.std.proofs.Common.{[], ◌+◌, refl, ap, sym, ◌∙◌, length}
use Rattle.sctp_serial.specs.Unwrapped.{origin}
use Rattle.sctp_state.specs.declared.api.handover.HandoverOrderedStream.{HandoverOrderedStream}
use Rattle.sctp_fragments.specs.Held.{bytes_of}
use Rattle.sctp_reassembly.specs.Delivery.{OrderedStream}
use Rattle.sctp_reassembly.specs.ReassemblyStreams.{ordered_bytes, ordered_fragments}
use Rattle.sctp_reassembly.proofs.RestoredLemmas.{weightless}
use Rattle.sctp_reassembly.proofs.ordered_streams.StreamMap+OrderedStream+K.restored.Goals as goal

pub invariant_of-result : goal.invariant_of-result
invariant_of-result g c = record {
  bytes_are = sym (ap ordered_bytes c.in_ok-read.ensures ∙ weightless (λ (s : HandoverOrderedStream). s.id) (λ (s : HandoverOrderedStream). record { next = origin + s.next_ssn; held = [] }) (λ (s : OrderedStream). bytes_of s.held) (λ r. refl) c.args.records.now);
  fragments_are = sym (ap ordered_fragments c.in_ok-read.ensures ∙ weightless (λ (s : HandoverOrderedStream). s.id) (λ (s : HandoverOrderedStream). record { next = origin + s.next_ssn; held = [] }) (λ (s : OrderedStream). length s.held) (λ r. refl) c.args.records.now);
}
