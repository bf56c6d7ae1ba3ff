-- Memory runs out while an event is logged.
use Rattle.std.specs.Prelude.{◌≡◌, ℕ, List, ◌++◌}
use Rattle.spec_world.specs.Observations.{End, Entry}
use Rattle.spec_world.specs.World.{Side, TakesBytes, MeetsForeignAt}

-- a log that has grown from the old one, and is a beginning of the whole one, or all of it
pub record IsCut (old whole log : List Entry) : Type 0 where
  pub made : List Entry
  pub left : List Entry
  pub begun : log ≡ old ++ made
  pub goes_on : whole ≡ log ++ left

-- A log that an event left, where memory ran out: the one before the event, or a beginning of one that the event makes of it.
pub data StopsWithin (IsMade : List Entry → Type 0) (old log : List Entry) : Type 0 where
  unlogged : log ≡ old → StopsWithin IsMade old log
  begun : (whole : List Entry) → IsMade whole → IsCut old whole log → StopsWithin IsMade old log

-- the logs that bytes which come to an end make of the old one
abbrev pub TakesBytesSo : (x : End) (first : Entry) (bytes : List ℕ) (old : Side) (log longer : List Entry) → Type 0
TakesBytesSo x first bytes old log longer = (new : Side) × TakesBytes x first bytes old new log longer

abbrev pub MeetsForeignSo : (x : End) (bytes : List ℕ) (old : Side) (log longer : List Entry) → Type 0
MeetsForeignSo x bytes old log longer = (new : Side) × MeetsForeignAt x bytes old new log longer
