-- Moments, in nanoseconds since a socket's clock started.
use Rattle.std.specs.Prelude.{ℕ, ◌+◌, min}
use Rattle.std.specs.Duration.{max_nanos}

-- the moment that never comes
abbrev pub forever : ℕ
forever = max_nanos

-- a span after a moment
abbrev pub later : ℕ → ℕ → ℕ
later moment span = min (moment + span) forever
