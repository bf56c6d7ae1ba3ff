use Rattle.std.proofs.Common.{◌≡◌, ℕ, List, length, string_bytes}
use Rattle.std.specs.Str.{encode_utf8_all}
use Rattle.sctp_wire.specs.Text.{ReadsChars}
use Rattle.sctp_wire.proofs.text.text_from_bytes.Given as goal

abbrev pub invariant-loop-rest : goal.invariant-loop-rest
invariant-loop-rest l = (cs : List ℕ) × ReadsChars l.fn.bytes cs l.rest × (string_bytes l.text ≡ encode_utf8_all cs)

abbrev pub decreases-loop-rest : goal.decreases-loop-rest
decreases-loop-rest l = length l.rest
