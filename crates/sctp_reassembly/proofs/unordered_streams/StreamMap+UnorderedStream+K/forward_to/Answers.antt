use Rattle.std.proofs.Common.{refl, ap, ◌∙◌, arith, length}
use Rattle.std.specs.Ordering.{nat_cmp}
use Rattle.std.specs.BTreeMap.{is_at}
use Rattle.sctp_fragments.specs.ReassemblyKey.{rank_at}
use Rattle.sctp_fragments.specs.Held.{bytes_of}
use Rattle.sctp_reassembly.specs.Delivery.{UnorderedStream, fresh_unordered, held_from}
use Rattle.sctp_reassembly.specs.ReassemblyStreams.{unordered_bytes, stream_at, put_stream, unordered_fragments}
use Rattle.sctp_reassembly.proofs.EntriesLemmas.{sum_written, sum_at_least}
use Rattle.sctp_reassembly.proofs.NoteLemmas.{not_written}
use Rattle.sctp_reassembly.proofs.unordered_streams.StreamMap+UnorderedStream+K.forward_to.Goals as goal

pub invariant_of-self-2 : goal.invariant_of-self-2
invariant_of-self-2 g c =
    let entries = c.self.inside.streams.entries in
    let written = (c.get_mut.follows.holds c.forward_to.new.self).0 in
    let bytes = sum_written (λ (s : UnorderedStream). bytes_of s.held) c.args.id.0 entries c.in-Some.stream.now c.forward_to.new.self c.in-Some.ensures.value in
    let least_bytes = sum_at_least (λ (s : UnorderedStream). bytes_of s.held) c.args.id.0 entries c.in-Some.stream.now fresh_unordered refl c.in-Some.ensures.value in
    let fragments = sum_written (λ (s : UnorderedStream). length s.held) c.args.id.0 entries c.in-Some.stream.now c.forward_to.new.self c.in-Some.ensures.value in
    let least = sum_at_least (λ (s : UnorderedStream). length s.held) c.args.id.0 entries c.in-Some.stream.now fresh_unordered refl c.in-Some.ensures.value in
    record {
      bytes_are = omega (arith, ap (λ m. unordered_bytes m) written, bytes, least_bytes, c.queued_bytes-before.ensures, c.queued_bytes.ensures, c.self.invariant.bytes_are);
      fragments_are = omega (arith, ap (λ m. unordered_fragments m) written, fragments, least, c.held_fragments-fragments_before.ensures, c.held_fragments.ensures, c.self.invariant.fragments_are);
    }

pub returns-clause-bytes : goal.returns-clause-bytes
returns-clause-bytes g c =
    let entries = c.self.inside.streams.entries in
    let written = ap (λ m. unordered_bytes m) (c.get_mut.follows.holds c.forward_to.new.self).0 in
    let sums = sum_written (λ (s : UnorderedStream). bytes_of s.held) c.args.id.0 entries c.in-Some.stream.now c.forward_to.new.self c.in-Some.ensures.value in
    let least = sum_at_least (λ (s : UnorderedStream). bytes_of s.held) c.args.id.0 entries c.in-Some.stream.now fresh_unordered refl c.in-Some.ensures.value in
    omega (arith, written, sums, least, c.forward_to.ensures.bytes, ap unordered_bytes c.self.view_is)

pub returns-clause-fragments : goal.returns-clause-fragments
returns-clause-fragments g c =
    let entries = c.self.inside.streams.entries in
    let written = ap (λ m. unordered_fragments m) (c.get_mut.follows.holds c.forward_to.new.self).0 in
    let sums = sum_written (λ (s : UnorderedStream). length s.held) c.args.id.0 entries c.in-Some.stream.now c.forward_to.new.self c.in-Some.ensures.value in
    let least = sum_at_least (λ (s : UnorderedStream). length s.held) c.args.id.0 entries c.in-Some.stream.now fresh_unordered refl c.in-Some.ensures.value in
    omega (arith, written, sums, least, c.forward_to.ensures.fragments, ap unordered_fragments c.self.view_is)

pub returns-in_default-clause-value : goal.returns-in_default-clause-value
returns-in_default-clause-value g c =
    let left = held_from (rank_at g.K.ReassemblyKey.number g.K.ReassemblyKey.index c.args.first) (stream_at fresh_unordered c.args.id.0 c.args.self.now) in
    ap (λ m. m.entries) c.get_mut.follows.holds-at-none
    ∙ (not_written (is_at (nat_cmp c.args.id.0)) left c.self.inside.streams.entries c.in_default.ensures.value ∙ ap (λ es. put_stream c.args.id.0 left es) c.self.view_is)
