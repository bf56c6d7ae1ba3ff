-- Forward points whose entries name each stream and kind once (RFC 3758 section 3.2, RFC 8260 section 2.3.1).
use Rattle.std.specs.Prelude.{◌≡◌, List, [], ◌∷◌}
use Rattle.proof_protocol.specs.State.{Entry, IsAmong}

-- not of one kind and stream
abbrev pub IsApart : Entry → Entry → Type 0
IsApart d e = d.ordered ≡ e.ordered → d.stream ≡ e.stream → ⊥

abbrev pub AreApart : List Entry → Type 0
AreApart [] = Unit {0}
AreApart (e ∷ es) = ((d : Entry) → IsAmong d es → IsApart e d) × AreApart es
