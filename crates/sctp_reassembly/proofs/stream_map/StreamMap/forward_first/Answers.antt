use Rattle.std.proofs.Common.{ℕ, ◌≡◌, ap, sym, ◌∙◌, arith, length}
use Rattle.std.specs.Ordering.{nat_cmp}
use Rattle.std.specs.Map.{lookup}
use Rattle.std.specs.BTreeMap.{is_at, insert_entry}
use Rattle.sctp_fragments.specs.Held.{bytes_of}
use Rattle.sctp_reassembly.specs.Delivery.{ready_bytes}
use Rattle.sctp_reassembly.specs.ReassemblyStreams.{bytes_held, fragments_held, is_far}
use Rattle.sctp_reassembly.specs.WireNumber.{nearest_of}
use Rattle.sctp_reassembly.proofs.EntriesLemmas.{sum_opened, stream_absent}
use Rattle.sctp_reassembly.proofs.WireNumberLemmas.{near_first, silent_unless_far, put_opened, opened_absent, set_first}
use Rattle.sctp_reassembly.proofs.stream_map.StreamMap.forward_first.Goals as goal

pub invariant_of-self-2 : goal.invariant_of-self-2
invariant_of-self-2 g c =
    let n : g.row.S.Denot → ℕ = λ s. nearest_of c.args.number (g.S.ReassemblyStream.reading_point s) in
    let silent = silent_unless_far _ _ c.args.ready.now c.forward_behind.new.ready (ap (λ s. g.S.ReassemblyStream.forwarded (n s) s) c.new-stream.ensures ∙ g.met.S.ReassemblyStream.forwards_none (n g.S.ReassemblyStream.fresh)) c.in_ok-forward_behind.ensures.ready in
    let no_bytes : bytes_of (g.S.ReassemblyStream.held c.new-stream.result) ≡ 0 = ap (λ s. bytes_of (g.S.ReassemblyStream.held s)) c.new-stream.ensures ∙ ap bytes_of g.met.S.ReassemblyStream.is_blank in
    let no_fragments : length (g.S.ReassemblyStream.held c.new-stream.result) ≡ 0 = ap (λ s. length (g.S.ReassemblyStream.held s)) c.new-stream.ensures ∙ ap length g.met.S.ReassemblyStream.is_blank in
    let none = c.requires.absent ∙ ap (lookup (is_at (nat_cmp c.args.id.0))) (sym c.self.view_is) in
    let bytes = sum_opened (λ s. bytes_of (g.S.ReassemblyStream.held s)) c.args.id.0 c.self.inside.streams.entries c.forward_behind.new.stream (omega (arith, no_bytes, ap ready_bytes silent, c.forward_behind.ensures.bytes)) c.insert.ensures.was_ordered none in
    let fragments = sum_opened (λ s. length (g.S.ReassemblyStream.held s)) c.args.id.0 c.self.inside.streams.entries c.forward_behind.new.stream (omega (arith, no_fragments, c.forward_behind.ensures.fragments)) c.insert.ensures.was_ordered none in
    record {
      bytes_are = c.self.invariant.bytes_are ∙ sym (ap (bytes_held g.S.ReassemblyStream.held) c.in_ok-insert.ensures.entries ∙ bytes);
      fragments_are = c.self.invariant.fragments_are ∙ sym (ap (fragments_held g.S.ReassemblyStream.held) c.in_ok-insert.ensures.entries ∙ fragments);
    }

pub returns-clause-ok : goal.returns-clause-ok
returns-clause-ok g c =
    let n : g.row.S.Denot → ℕ = λ s. nearest_of c.args.number (g.S.ReassemblyStream.reading_point s) in
    let fresh = g.S.ReassemblyStream.fresh in
    let at = stream_absent fresh c.args.id.0 c.args.self.now c.requires.absent in
    set_first fresh c.args.id.0 (λ s. is_far (n s)) (λ s. g.S.ReassemblyStream.after_forward (n s) s) c.args.self.now c.insert.new.self.entries c.new-stream.result c.forward_behind.new.stream (insert_entry nat_cmp c.self.inside.streams.entries c.args.id.0 fresh)
    (c.in_ok-insert.ensures.entries ∙ put_opened c.args.id.0 fresh c.forward_behind.new.stream c.self.inside.streams.entries)
    (opened_absent fresh c.args.id.0 c.self.inside.streams.entries c.args.self.now c.self.view_is c.requires.absent)
    (c.new-stream.ensures ∙ at)
    (ap (λ s. is_far (n s)) (sym at) ∙ (ap (λ near. is_far (nearest_of c.args.number near)) g.met.S.ReassemblyStream.begins ∙ near_first c.args.number))
    c.in_ok-forward_behind.ensures.ok

pub returns-clause-bytes : goal.returns-clause-bytes
returns-clause-bytes g c =
    let n : g.row.S.Denot → ℕ = λ s. nearest_of c.args.number (g.S.ReassemblyStream.reading_point s) in
    let silent = silent_unless_far _ _ c.args.ready.now c.forward_behind.new.ready (ap (λ s. g.S.ReassemblyStream.forwarded (n s) s) c.new-stream.ensures ∙ g.met.S.ReassemblyStream.forwards_none (n g.S.ReassemblyStream.fresh)) c.in_ok-forward_behind.ensures.ready in
    let no_bytes : bytes_of (g.S.ReassemblyStream.held c.new-stream.result) ≡ 0 = ap (λ s. bytes_of (g.S.ReassemblyStream.held s)) c.new-stream.ensures ∙ ap bytes_of g.met.S.ReassemblyStream.is_blank in
    let none = c.requires.absent ∙ ap (lookup (is_at (nat_cmp c.args.id.0))) (sym c.self.view_is) in
    let bytes = sum_opened (λ s. bytes_of (g.S.ReassemblyStream.held s)) c.args.id.0 c.self.inside.streams.entries c.forward_behind.new.stream (omega (arith, no_bytes, ap ready_bytes silent, c.forward_behind.ensures.bytes)) c.insert.ensures.was_ordered none in
    omega (arith, ap (bytes_held g.S.ReassemblyStream.held) c.in_ok-insert.ensures.entries, bytes, ap ready_bytes silent, ap (bytes_held g.S.ReassemblyStream.held) c.self.view_is)

pub returns-clause-fragments : goal.returns-clause-fragments
returns-clause-fragments g c =
    let no_fragments : length (g.S.ReassemblyStream.held c.new-stream.result) ≡ 0 = ap (λ s. length (g.S.ReassemblyStream.held s)) c.new-stream.ensures ∙ ap length g.met.S.ReassemblyStream.is_blank in
    let none = c.requires.absent ∙ ap (lookup (is_at (nat_cmp c.args.id.0))) (sym c.self.view_is) in
    let fragments = sum_opened (λ s. length (g.S.ReassemblyStream.held s)) c.args.id.0 c.self.inside.streams.entries c.forward_behind.new.stream (omega (arith, no_fragments, c.forward_behind.ensures.fragments)) c.insert.ensures.was_ordered none in
    omega (arith, ap (fragments_held g.S.ReassemblyStream.held) c.in_ok-insert.ensures.entries, fragments, ap (fragments_held g.S.ReassemblyStream.held) c.self.view_is)
