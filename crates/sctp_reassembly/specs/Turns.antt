-- The first interval of a list that passes a test.
use Rattle.std.specs.Prelude.{◌≡◌, ℕ, Bool, true, List, ◌∷◌, ◌++◌}
use Rattle.sctp_fragments.specs.declared.interval.Interval.{Interval}
use Rattle.sctp_fragments.specs.ReassemblyKey.{rank_at}
use Rattle.sctp_fragments.specs.Held.{Held, NonePass}
use Rattle.sctp_fragments.specs.Interval.{held_of, run_of}
use Rattle.sctp_reassembly.specs.Places.{AreLow, IsOut, runs_at}

-- the first run that passes the test went out
pub record IsFirstOut (test : List Held → Bool) (old : List (List Held)) (run : List Held) (new : List (List Held)) : Type 0 where
  pub out : IsOut old run new
  pub passes : test run ≡ true
  pub none : NonePass test out.front

-- the interval under the key passes the test, and none before it
pub record IsFirstPassing {K : Type 0} (is_key : K → Type 0) (number index : K → ℕ) (test : List Held → Bool) (key : K) (es : List (K × Interval K)) : Type 0 where
  pub front : List (K × Interval K)
  pub interval : Interval K
  pub back : List (K × Interval K)
  pub is : es ≡ front ++ (key, interval) ∷ back
  pub low : AreLow is_key (rank_at number index) (rank_at number index key) front
  pub passes : test (run_of (held_of number index) interval) ≡ true
  pub none : NonePass test (runs_at number index front)
