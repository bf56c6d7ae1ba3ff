-- What is behind the first eight of equal bytes is equal.
use Rattle.std.proofs.Common.{◌≡◌, ℕ, List, ◌++◌, length, ◌∙◌, append_assoc, arith}
use Rattle.std.proofs.lemmas.List.{length-append}
use Rattle.sctp_wire.specs.Field.{be32, length_be32}
use Rattle.sctp_wire.proofs.ParsesAllLemmas.{cut_same}

-- two numbers of four bytes, whose ranges don't matter
pub cut_eight : (a b : ℕ) (x front y : List ℕ) → length front ≡ 8 → be32 a ++ (be32 b ++ x) ≡ front ++ y → x ≡ y
cut_eight a b x front y len e =
    (cut_same (be32 a ++ be32 b) x front y (omega (arith, len, length-append (be32 a) (be32 b), length_be32 a, length_be32 b)) (append_assoc (be32 a) (be32 b) x ∙ e)).1
