use Rattle.std.proofs.Common.{◌++◌, ℕ, List, length, ◌∙◌, append_assoc}
use Rattle.std.specs.List.{flat_map}
use Rattle.sctp_wire.specs.Field.{be64}
use Rattle.sctp_handover.specs.Bytes.{list_bytes}
use Rattle.sctp_handover.proofs.FieldLemmas.{passes_if}
use Rattle.sctp_handover.proofs.part.list_at.Goals as goal

pub returns : goal.returns
unfolding list_bytes
returns g c = passes_if c.parts_at.result c.parts_at.ensures (λ read back xs after fits e.
    let tail : List ℕ = flat_map g.P.Part.bytes_of xs in
    let at = c.number64_at-count.ensures (length xs) (tail ++ after) fits.few (e ∙ append_assoc (be64 (length xs)) tail after) in
    back xs after at.0 fits.each at.1)
