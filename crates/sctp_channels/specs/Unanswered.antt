-- Streams whose DATA_CHANNEL_OPEN is to be answered.
use Rattle.std.specs.Prelude.{◌≡◌, ℕ, cond, nat_eq, Bool, List, [], ◌∷◌, ◌++◌, All}
use Rattle.std.specs.List.{IsDistinct, list_any}
use Rattle.sctp_channels.specs.Entries.{IsStream}

abbrev pub waits : ℕ → List ℕ → Bool
waits id ids = list_any (nat_eq id) ids

-- a stream waits once, at its first place
abbrev pub wait : ℕ → List ℕ → List ℕ
wait id ids = cond (waits id ids) ids (ids ++ id ∷ [])

-- the set has the streams that wait, of which none waits twice
pub record AreWaiting (keys ids : List ℕ) : Type 0 where
  pub same : (id : ℕ) → waits id keys ≡ waits id ids
  pub once : IsDistinct nat_eq ids
  pub streams : All IsStream ids
