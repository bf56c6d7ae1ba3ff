-- A message is laid down item by item.
use Rattle.std.proofs.Common.{◌≡◌, ℕ, zero, suc, false, Some, None, List, [], ◌∷◌, refl, ap}
use Rattle.std.specs.Prelude.{slice_get}
use Rattle.sctp_tx_outstanding.specs.Item.{Item, is_of}
use Rattle.sctp_tx_outstanding.specs.OutstandingData.{abandon_if_of, is_of_at}

pub is_of_at_here : (number k : ℕ) (is : List Item) (i : Item) → Some i ≡ slice_get is k → is_of_at number k is ≡ is_of number i
is_of_at_here number k [] i at = absurd (cc)
is_of_at_here number zero (x ∷ is) i at =
    let same : x ≡ i = cc in
    ap (λ j. is_of number j) same
is_of_at_here number (suc k) (x ∷ is) i at = is_of_at_here number k is i at

pub is_of_at_beyond : (number k : ℕ) (is : List Item) → None ≡ slice_get is k → is_of_at number k is ≡ false
is_of_at_beyond number k [] at = refl
is_of_at_beyond number zero (x ∷ is) at = absurd (cc)
is_of_at_beyond number (suc k) (x ∷ is) at = is_of_at_beyond number k is at

-- the first k items are laid down
abbrev pub laid : ℕ → ℕ → List Item → List Item
laid zero number is = is
laid (suc k) number [] = []
laid (suc k) number (i ∷ is) = abandon_if_of number i ∷ laid k number is
