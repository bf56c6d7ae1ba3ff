use Rattle.std.proofs.Common.{ap, sym, ◌∙◌, length}
use Rattle.std.specs.Map.{lookup}
use Rattle.std.specs.Ordering.{nat_cmp}
use Rattle.std.specs.BTreeMap.{is_at, insert_entry}
use Rattle.sctp_fragments.specs.Held.{bytes_of}
use Rattle.sctp_reassembly.specs.ReassemblyStreams.{bytes_held, fragments_held}
use Rattle.sctp_reassembly.proofs.EntriesLemmas.{sum_opened}
use Rattle.sctp_reassembly.proofs.stream_map.StreamMap.open.Goals as goal

pub invariant_of-self-2 : goal.invariant_of-self-2
invariant_of-self-2 g c = record {
  bytes_are = c.self.invariant.bytes_are ∙ sym (ap (bytes_held g.S.ReassemblyStream.held) c.in_ok-insert.ensures.entries ∙ (ap (λ s. bytes_held g.S.ReassemblyStream.held (insert_entry nat_cmp c.self.inside.streams.entries c.args.id.0 s)) c.new-stream.ensures
      ∙ sum_opened (λ s. bytes_of (g.S.ReassemblyStream.held s)) c.args.id.0 c.self.inside.streams.entries g.S.ReassemblyStream.fresh (ap bytes_of g.met.S.ReassemblyStream.is_blank) c.insert.ensures.was_ordered (c.requires.absent ∙ ap (lookup (is_at (nat_cmp c.args.id.0))) (sym c.self.view_is))));
  fragments_are = c.self.invariant.fragments_are ∙ sym (ap (fragments_held g.S.ReassemblyStream.held) c.in_ok-insert.ensures.entries ∙ (ap (λ s. fragments_held g.S.ReassemblyStream.held (insert_entry nat_cmp c.self.inside.streams.entries c.args.id.0 s)) c.new-stream.ensures
      ∙ sum_opened (λ s. length (g.S.ReassemblyStream.held s)) c.args.id.0 c.self.inside.streams.entries g.S.ReassemblyStream.fresh (ap length g.met.S.ReassemblyStream.is_blank) c.insert.ensures.was_ordered (c.requires.absent ∙ ap (lookup (is_at (nat_cmp c.args.id.0))) (sym c.self.view_is))));
}

pub returns-clause-bytes : goal.returns-clause-bytes
returns-clause-bytes g c =
    ap (bytes_held g.S.ReassemblyStream.held) c.in_ok-insert.ensures.entries ∙ (ap (λ s. bytes_held g.S.ReassemblyStream.held (insert_entry nat_cmp c.self.inside.streams.entries c.args.id.0 s)) c.new-stream.ensures
    ∙ sum_opened (λ s. bytes_of (g.S.ReassemblyStream.held s)) c.args.id.0 c.self.inside.streams.entries g.S.ReassemblyStream.fresh (ap bytes_of g.met.S.ReassemblyStream.is_blank) c.insert.ensures.was_ordered (c.requires.absent ∙ ap (lookup (is_at (nat_cmp c.args.id.0))) (sym c.self.view_is))) ∙ ap (bytes_held g.S.ReassemblyStream.held) c.self.view_is

pub returns-clause-fragments : goal.returns-clause-fragments
returns-clause-fragments g c =
    ap (fragments_held g.S.ReassemblyStream.held) c.in_ok-insert.ensures.entries ∙ (ap (λ s. fragments_held g.S.ReassemblyStream.held (insert_entry nat_cmp c.self.inside.streams.entries c.args.id.0 s)) c.new-stream.ensures
    ∙ sum_opened (λ s. length (g.S.ReassemblyStream.held s)) c.args.id.0 c.self.inside.streams.entries g.S.ReassemblyStream.fresh (ap length g.met.S.ReassemblyStream.is_blank) c.insert.ensures.was_ordered (c.requires.absent ∙ ap (lookup (is_at (nat_cmp c.args.id.0))) (sym c.self.view_is))) ∙ ap (fragments_held g.S.ReassemblyStream.held) c.self.view_is
