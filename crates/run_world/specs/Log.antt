-- What a row shows, and what an entry of the log says of packets and of the time.
use Rattle.std.specs.Prelude.{ℕ, ◌-◌, ◌^◌, min, List, [], ◌∷◌, slice_get, Option, Some, None}
use Rattle.spec_world.specs.Observations as observations
use Rattle.sctp_trace.specs.declared.rows.End.{End}
use Rattle.sctp_trace.specs.declared.rows.End.TheVariants as ends
use Rattle.sctp_trace.specs.declared.rows.What.{What}
use Rattle.sctp_trace.specs.declared.rows.What.TheVariants as kinds
use Rattle.sctp_trace.specs.declared.rows.Row.{Row}
use Rattle.run_world.specs.declared.log.Clocks.{Clocks}

-- A packet that an end sent, by its number and its bytes; one that was given to it; or something else of it.
pub data Shown : Type 0 where
  Packet : End → ℕ → List ℕ → Shown
  Giving : End → ℕ → Shown
  Other : End → Shown

abbrev pub what_shows : End → What → Shown
what_shows end (kinds.Sent number bytes label) = Packet end number bytes.items
what_shows end (kinds.Given number) = Giving end number
what_shows end (kinds.Note text) = Other end

abbrev pub row_shows : Row → Shown
row_shows row = what_shows row.end row.what

abbrev pub row_time : Row → ℕ
row_time row = row.nanoseconds

abbrev pub lifeline : observations.End → End
lifeline observations.A = ends.A
lifeline observations.B = ends.B

-- no bytes where there is none
abbrev pub bytes_in : Option (List ℕ) → List ℕ
bytes_in None = []
bytes_in (Some bytes) = bytes

-- the packets are those that each end ever sent
abbrev pub entry_shows : (observations.End → List (List ℕ)) → observations.Entry → Shown
entry_shows packets (observations.Called x clock call answer) = Other (lifeline x)
entry_shows packets (observations.Given x clock number) = Giving (lifeline x) number
entry_shows packets (observations.Foreign x clock bytes) = Other (lifeline x)
entry_shows packets (observations.Timed x clock now) = Other (lifeline x)
entry_shows packets (observations.Associated x association) = Other (lifeline x)
entry_shows packets (observations.EmittedPacket x number) = Packet (lifeline x) number (bytes_in (slice_get (packets x) number))
entry_shows packets (observations.EmittedEvent x event) = Other (lifeline x)
entry_shows packets (observations.GaveUp x given_up) = Other (lifeline x)
entry_shows packets (observations.BecameReady x message) = Other (lifeline x)

abbrev pub entry_end : observations.Entry → observations.End
entry_end (observations.Called x clock call answer) = x
entry_end (observations.Given x clock number) = x
entry_end (observations.Foreign x clock bytes) = x
entry_end (observations.Timed x clock now) = x
entry_end (observations.Associated x association) = x
entry_end (observations.EmittedPacket x number) = x
entry_end (observations.EmittedEvent x event) = x
entry_end (observations.GaveUp x given_up) = x
entry_end (observations.BecameReady x message) = x

-- a moment in 64 bits: later ones than fit are the last
abbrev pub stamp : ℕ → ℕ
stamp moment = min moment (2 ^ 64 - 1)

abbrev pub clock_of : observations.End → Clocks → ℕ
clock_of observations.A clocks = clocks.a
clock_of observations.B clocks = clocks.b

abbrev pub with_clock : observations.End → ℕ → Clocks → Clocks
with_clock observations.A moment clocks = record { a = stamp moment; b = clocks.b }
with_clock observations.B moment clocks = record { a = clocks.a; b = stamp moment }

-- calls, packets that are given, bytes from elsewhere and moments have the clock of their end
abbrev pub clocks_after : Clocks → observations.Entry → Clocks
clocks_after clocks (observations.Called x clock call answer) = with_clock x clock clocks
clocks_after clocks (observations.Given x clock number) = with_clock x clock clocks
clocks_after clocks (observations.Foreign x clock bytes) = with_clock x clock clocks
clocks_after clocks (observations.Timed x clock now) = with_clock x clock clocks
clocks_after clocks (observations.Associated x association) = clocks
clocks_after clocks (observations.EmittedPacket x number) = clocks
clocks_after clocks (observations.EmittedEvent x event) = clocks
clocks_after clocks (observations.GaveUp x given_up) = clocks
clocks_after clocks (observations.BecameReady x message) = clocks

-- each entry is at the clock of its end
abbrev pub times_from : Clocks → List observations.Entry → List ℕ
times_from clocks [] = []
times_from clocks (entry ∷ entries) = clock_of (entry_end entry) (clocks_after clocks entry) ∷ times_from (clocks_after clocks entry) entries

-- both clocks begin at zero
abbrev pub times_of : List observations.Entry → List ℕ
times_of entries = times_from (record { a = 0; b = 0 }) entries
