-- What becomes ready, stated over the map of fragments, with no word on intervals.
use Rattle.std.specs.Prelude.{◌≡◌, ℕ, suc, ◌+◌, ◌==◌, ◌⊎◌, true, Option, None, Some, List, [], ◌∷◌, ◌++◌, length, map}
use Rattle.std.specs.List.{find, All}
use Rattle.sctp_serial.specs.Messages.{Message}
use Rattle.sctp_fragments.specs.Runs.{flat, IsMessage}
use Rattle.sctp_fragments.specs.Held.{Held, rank_of, goes_on, begins, ends, is_in_turn, message_of_run}
use Rattle.sctp_reassembly.specs.Delivery.{OrderedDelivery}

-- the fragment under the key of a rank
abbrev pub held_at : ℕ → List Held → Option Held
held_at n hs = find (λ h. rank_of h == n) hs

-- fragments that are held
abbrev pub AreHeld : List Held → List Held → Type 0
AreHeld hs [] = Unit {0}
AreHeld hs (e ∷ es) = (held_at (rank_of e) hs ≡ Some e) × AreHeld hs es

-- fragments from a beginning to an end, each with the key after the one before
abbrev pub IsWhole : List Held → Type 0
IsWhole r = IsMessage rank_of goes_on begins ends r

-- each fragment of the old map is in one of the two, and no other is
abbrev pub AreParted : (old kept taken : List Held) → Type 0
AreParted old kept taken = (n : ℕ) → ((held_at n kept ≡ held_at n old) × (held_at n taken ≡ None)) ⊎ ((held_at n kept ≡ None) × (held_at n taken ≡ held_at n old))

-- messages became ready: whole ones, whose fragments are held no more, while the others still are
pub record AreReady (old new : List Held) (messages : List Message) : Type 0 where
  pub runs : List (List Held)
  pub made : messages ≡ map message_of_run runs
  pub whole : All IsWhole runs
  pub parted : AreParted old new (flat runs)

-- they have the numbers from n on, one after the other
abbrev pub AreInTurn : ℕ → List (List Held) → Type 0
AreInTurn n [] = Unit {0}
AreInTurn n (r ∷ rs) = (is_in_turn n r ≡ true) × AreInTurn (suc n) rs

-- on an ordered stream they have the numbers from its next one on
pub record AreReadyInTurn (next : ℕ) (old : List Held) (d : OrderedDelivery) : Type 0 where
  pub ready : AreReady old d.stream.held d.messages
  pub turns : AreInTurn next ready.runs
  pub onward : d.stream.next ≡ next + length ready.runs

-- a message among what is held
pub record IsIn (run hs : List Held) : Type 0 where
  pub front : List Held
  pub back : List Held
  pub split : hs ≡ front ++ (run ++ back)
