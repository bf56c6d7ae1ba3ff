use Rattle.std.proofs.Common.{rules, ap, arith, ◌∙◌, map, length}
use Rattle.std.proofs.lemmas.Map.Made.{map_same_pairs}
use Rattle.sctp_fragments.specs.ReassemblyKey.{rank_at}
use Rattle.sctp_fragments.specs.Held.{bytes_of}
use Rattle.sctp_reassembly.specs.Delivery.{UnorderedStream, held_from}
use Rattle.sctp_reassembly.specs.ReassemblyStreams.{unordered_bytes, unordered_fragments}
use Rattle.sctp_reassembly.proofs.EntriesLemmas.{sum_mapped, from_rank_bytes}
use Rattle.sctp_reassembly.proofs.CountLemmas.{from_rank_length}
use Rattle.sctp_reassembly.proofs.unordered_streams.StreamMap+UnorderedStream+K.forward_all.Goals as goal

pub bytes_in-self-inside-requires : goal.bytes_in-self-inside-requires
bytes_in-self-inside-requires g c =
    let rank = rank_at g.K.ReassemblyKey.number g.K.ReassemblyKey.index c.args.first in
    let made = map_same_pairs _ (held_from rank) _ (λ k v b w f' t. search rules) c.self.inside.streams.entries c.retain.new.self.entries c.retain.ensures.filtered in
    let less = sum_mapped (λ (s : UnorderedStream). bytes_of s.held) (held_from rank) (λ s. from_rank_bytes rank s.held) c.self.inside.streams.entries in
    omega (arith, ap unordered_bytes made, less, c.self.invariant.bytes_are, c.self.ranges)

pub fragments_in-self-inside-requires : goal.fragments_in-self-inside-requires
fragments_in-self-inside-requires g c =
    let rank = rank_at g.K.ReassemblyKey.number g.K.ReassemblyKey.index c.args.first in
    let made = map_same_pairs _ (held_from rank) _ (λ k v b w f' t. search rules) c.self.inside.streams.entries c.retain.new.self.entries c.retain.ensures.filtered in
    let less = sum_mapped (λ (s : UnorderedStream). length s.held) (held_from rank) (λ s. from_rank_length rank s.held) c.self.inside.streams.entries in
    omega (arith, ap unordered_fragments made, less, c.self.invariant.fragments_are, c.self.ranges)

pub returns-clause-value : goal.returns-clause-value
returns-clause-value g c =
    let rank = rank_at g.K.ReassemblyKey.number g.K.ReassemblyKey.index c.args.first in
    map_same_pairs _ (held_from rank) _ (λ k v b w f' t. search rules) c.self.inside.streams.entries c.retain.new.self.entries c.retain.ensures.filtered ∙ ap (map (λ e. (e.0, held_from rank e.1))) c.self.view_is

pub returns-clause-bytes : goal.returns-clause-bytes
returns-clause-bytes g c =
    let rank = rank_at g.K.ReassemblyKey.number g.K.ReassemblyKey.index c.args.first in
    let made = map_same_pairs _ (held_from rank) _ (λ k v b w f' t. search rules) c.self.inside.streams.entries c.retain.new.self.entries c.retain.ensures.filtered in
    let less = sum_mapped (λ (s : UnorderedStream). bytes_of s.held) (held_from rank) (λ s. from_rank_bytes rank s.held) c.self.inside.streams.entries in
    omega (arith, ap unordered_bytes made, less, ap unordered_bytes c.self.view_is)

pub returns-clause-fragments : goal.returns-clause-fragments
returns-clause-fragments g c =
    let rank = rank_at g.K.ReassemblyKey.number g.K.ReassemblyKey.index c.args.first in
    let made = map_same_pairs _ (held_from rank) _ (λ k v b w f' t. search rules) c.self.inside.streams.entries c.retain.new.self.entries c.retain.ensures.filtered in
    let less = sum_mapped (λ (s : UnorderedStream). length s.held) (held_from rank) (λ s. from_rank_length rank s.held) c.self.inside.streams.entries in
    omega (arith, ap unordered_fragments made, less, ap unordered_fragments c.self.view_is)
