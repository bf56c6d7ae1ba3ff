use Rattle.std.proofs.Common.{◌≡◌, false, ap, sym, ◌∙◌}
use Rattle.sctp_reassembly.specs.ReassemblyMode.{streams_of}
use Rattle.sctp_reassembly.specs.ReassemblyStreams.{Streams}
use Rattle.sctp_reassembly.proofs.WrittenLemmas.{valid_plain}
use Rattle.sctp_reassembly.proofs.reassembly_streams.ReassemblyStreams.add_to_handover_state.Goals as goal

pub returns-in_ok-unordered-in-Traditional-clause-valid : goal.returns-in_ok-unordered-in-Traditional-clause-valid
returns-in_ok-unordered-in-Traditional-clause-valid c =
    let same : c.args.self.now.is_interleaved ≡ false = ap (λ (s : Streams). s.is_interleaved) (sym c.self.view_is ∙ ap streams_of c.in-Traditional.is) in
    rw same
    (valid_plain c.in_ok-ordered-in-Traditional.ordered.items c.in_ok-unordered-in-Traditional.unordered.items c.in-Traditional.ordered c.in_ok-ordered-in-Traditional.ensures.value c.in_ok-ordered-in-Traditional.ensures.rises c.in_ok-unordered-in-Traditional.ensures.rises)
