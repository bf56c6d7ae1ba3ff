-- Lines of an input that comes in pieces, and what was written while they were run.
use Rattle.std.specs.Prelude.{◌≡◌, ℕ, ◌+◌, false, ◌==◌, List, ◌∷◌, ◌++◌, length, All, Option}
use Rattle.std.specs.Io.KnownBytes.{Appends}
use Rattle.sctp_world.specs.Command.{lines_of, IsNoCommand}
use Rattle.sctp_world.specs.Script.{RunsLines, refusal_text}
use Rattle.spec_world.specs.World.{World}

-- no byte is a newline
abbrev pub IsOneLine : List ℕ → Type 0
IsOneLine bytes = All (λ b. (b == 10) ≡ false) bytes

-- whatever follows, the bytes are these lines, and then the rest begins a line
abbrev pub BeginsWith : List ℕ → List (List ℕ) → List ℕ → Type 0
BeginsWith bytes lines rest = (more : List ℕ) → lines_of (bytes ++ more) ≡ lines ++ lines_of (rest ++ more)

-- the lines at the front of the bytes were run and took the world from w to v; the text is theirs, and it was written
pub record HasRun (bytes : List ℕ) (lines : List (List ℕ)) (rest : List ℕ) (w v : World) (old new : Option (List ℕ)) : Type 0 where
  pub text : List ℕ
  pub front : BeginsWith bytes lines rest
  pub runs : RunsLines lines w v text
  pub written : Appends old new text

-- some lines at the front of the bytes were run
pub record HasRunSome (bytes : List ℕ) (w : World) (old new : Option (List ℕ)) : Type 0 where
  pub lines : List (List ℕ)
  pub rest : List ℕ
  pub left : World
  pub ran : HasRun bytes lines rest w left old new

-- the lines before line n were run, it is no command, and that was written; `before` lines stand before the bytes
pub record HasStopped (bytes : List ℕ) (before n : ℕ) (w : World) (old new : Option (List ℕ)) : Type 0 where
  pub lines : List (List ℕ)
  pub line : List ℕ
  pub rest : List ℕ
  pub left : World
  pub text : List ℕ
  pub front : (more : List ℕ) → lines_of (bytes ++ more) ≡ lines ++ (line ∷ lines_of (rest ++ more))
  pub number : n ≡ before + length lines + 1
  pub no_command : IsNoCommand line
  pub runs : RunsLines lines w left text
  pub written : Appends old new (text ++ refusal_text n)
