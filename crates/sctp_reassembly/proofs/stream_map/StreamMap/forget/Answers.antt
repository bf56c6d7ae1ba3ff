use Rattle.std.proofs.Common.{◌==◌, ap, sym, ◌∙◌, arith, length}
use Rattle.std.specs.Prelude.{not}
use Rattle.std.specs.List.{list_any}
use Rattle.sctp_fragments.specs.Held.{bytes_of}
use Rattle.sctp_reassembly.specs.ReassemblyStreams.{bytes_held, forget, fragments_held}
use Rattle.sctp_reassembly.proofs.EntriesLemmas.{sum_kept}
use Rattle.sctp_reassembly.proofs.ForgetLemmas.{all_forgotten, named_forgotten}
use Rattle.sctp_reassembly.proofs.stream_map.StreamMap.forget.Goals as goal

pub returns-then-is_empty-clause-value : goal.returns-then-is_empty-clause-value
returns-then-is_empty-clause-value g c = c.clear.ensures.empty ∙ all_forgotten c.args.ids.now c.args.self.now (sym c.is_empty.ensures ∙ c.if-is_empty.true)

pub returns-clause-value : goal.returns-clause-value
returns-clause-value g c =
    c.remove_each.ensures.streams ∙ (named_forgotten c.args.ids.now c.self.inside.streams.entries (sym c.is_empty.ensures ∙ c.if-is_empty.false) ∙ ap (forget c.args.ids.now) c.self.view_is)

pub returns-clause-bytes : goal.returns-clause-bytes
returns-clause-bytes g c =
    let kept = ap (bytes_held g.S.ReassemblyStream.held) c.remove_each.ensures.streams in
    let less = sum_kept (λ s. bytes_of (g.S.ReassemblyStream.held s)) (λ e. not (list_any (λ i. i.0 == e.0) c.args.ids.now)) c.self.inside.streams.entries in
    omega (arith, kept, less, ap (bytes_held g.S.ReassemblyStream.held) c.self.view_is)

pub returns-clause-fragments : goal.returns-clause-fragments
returns-clause-fragments g c =
    let kept = ap (fragments_held g.S.ReassemblyStream.held) c.remove_each.ensures.streams in
    let less = sum_kept (λ s. length (g.S.ReassemblyStream.held s)) (λ e. not (list_any (λ i. i.0 == e.0) c.args.ids.now)) c.self.inside.streams.entries in
    omega (arith, kept, less, ap (fragments_held g.S.ReassemblyStream.held) c.self.view_is)
