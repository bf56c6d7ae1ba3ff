-- What a line asks for, and how its words spell it.
use Rattle.std.specs.Prelude.{◌≡◌, ◌≢◌, ℕ, ◌*◌, ◌<◌, ◌≤◌, ◌^◌, ◌==◌, Bool, false, true, Option, Some, None, List, [], ◌∷◌, length, Ok, codes}
use Rattle.std.specs.Char.{is_ascii_digit}
use Rattle.std.specs.Option.{option_map}
use Rattle.std.specs.List.{slice_split, list_all}
use Rattle.std.specs.Str.Parse.{digits_value}
use Rattle.hex.specs.Hex.{decode_of}
use Rattle.sctp_serial.specs.Messages.{Message}
use Rattle.sctp_state.specs.Options.{SendOptions}
use Rattle.spec_world.specs.Observations.{End, Connect, Shutdown, Close, Send, SendMany, TakeMessage, Reset, SetPriority, SetMaxMessageSize, SetLowThreshold, HandOver, end_name}
use Rattle.spec_world.specs.World.{Action, CallOf, Give, GiveForeign, AdvanceTime, other}

-- ---- lines and words

-- the lines of an input, without their newlines; behind a last newline stands one more, empty line
abbrev pub lines_of : List ℕ → List (List ℕ)
lines_of input = slice_split (λ b. b == 10) input

-- the words of a line, which one space parts
abbrev pub words_of : List ℕ → List (List ℕ)
words_of line = slice_split (λ b. b == 32) line

-- ---- single words

-- decimal digits alone
pub record IsNumber (word : List ℕ) (n : ℕ) : Type 0 where
  pub digits : list_all is_ascii_digit word ≡ true
  pub some : 0 < length word
  pub value : digits_value 10 word ≡ n

-- an even number of hex digits of either case, not 0
pub record IsHex (word bytes : List ℕ) : Type 0 where
  pub some : 0 < length word
  pub decoded : decode_of word ≡ Ok bytes

-- ---- commands

-- what the bytes of a packet say; an event of the world; a moment to which the time of both ends is advanced, in nanoseconds; the packet of
-- this number that an end sent
pub data Asked : Type 0 where
  probe_of : List ℕ → Asked
  happens : Action → Asked
  passes : (now : ℕ) → Asked
  shown : End → (packet : ℕ) → Asked

-- the word, or words that don't begin with it
abbrev pub IsFlag : (name : List ℕ) → (words rest : List (List ℕ)) → Bool → Type 0
IsFlag name words rest true = words ≡ name ∷ rest
IsFlag name words rest false = (words ≡ rest) × ((more : List (List ℕ)) → words ≢ name ∷ more)

-- the word and a number, or words that don't begin with it
abbrev pub IsNamed : (name : List ℕ) → (words rest : List (List ℕ)) → Option ℕ → Type 0
IsNamed name words rest None = (words ≡ rest) × ((more : List (List ℕ)) → words ≢ name ∷ more)
IsNamed name words rest (Some n) = (number : List ℕ) × (words ≡ name ∷ number ∷ rest) × IsNumber number n × (n < 2 ^ 64)

abbrev pub nanoseconds : (milliseconds : ℕ) → ℕ
nanoseconds n = n * 1000000

-- `[id N]`, with N above 0
abbrev pub SpellsId : List (List ℕ) → (id : Option ℕ) → Type 0
SpellsId words id = IsNamed (codes "id") words [] id × (id ≢ Some 0)

-- `[rtx N] [id N]`, the first below 2^16
abbrev pub SpellsLimit : List (List ℕ) → (limit id : Option ℕ) → Type 0
SpellsLimit words limit id =
    (rest : List (List ℕ)) × IsNamed (codes "rtx") words rest limit × ((n : ℕ) → limit ≡ Some n → n < 2 ^ 16) × SpellsId rest id

-- `[life MS] [rtx N] [id N]`
abbrev pub SpellsLife : List (List ℕ) → (milliseconds limit id : Option ℕ) → Type 0
SpellsLife words milliseconds limit id =
    (rest : List (List ℕ)) × IsNamed (codes "life") words rest milliseconds × SpellsLimit rest limit id

-- the last words of `send`: `[unordered] [life MS] [rtx N] [id N]`
pub record SpellsOptions (words : List (List ℕ)) (options : SendOptions) : Type 0 where
  pub rest : List (List ℕ)
  pub order : IsFlag (codes "unordered") words rest options.unordered
  pub milliseconds : Option ℕ
  pub lifetime : options.lifetime ≡ option_map nanoseconds milliseconds
  pub others : SpellsLife rest milliseconds options.max_retransmissions options.lifecycle_id

-- `send X S P HEX`, and the options
pub record SpellsSend (words : List (List ℕ)) (x : End) (m : Message) (options : SendOptions) : Type 0 where
  pub stream : List ℕ
  pub ppid : List ℕ
  pub payload : List ℕ
  pub rest : List (List ℕ)
  pub words_are : words ≡ codes "send" ∷ end_name x ∷ stream ∷ ppid ∷ payload ∷ rest
  pub stream_is : IsNumber stream m.stream
  pub stream_fits : m.stream < 2 ^ 16
  pub ppid_is : IsNumber ppid m.ppid
  pub ppid_fits : m.ppid < 2 ^ 32
  pub payload_is : IsHex payload m.payload
  pub options_are : SpellsOptions rest options

-- `probe HEX`, `connect X`, `shutdown X`, `close X`, `send ..`, `recv X`, `give X K Y`, `reset X S`, `foreign X HEX`, `time MS`,
-- `show X K`; Y is the other end
abbrev pub SpellsWords : List (List ℕ) → Asked → Type 0
SpellsWords words (probe_of bytes) = (hex : List ℕ) × (words ≡ codes "probe" ∷ hex ∷ []) × IsHex hex bytes
SpellsWords words (happens (CallOf x Connect)) = words ≡ codes "connect" ∷ end_name x ∷ []
SpellsWords words (happens (CallOf x Shutdown)) = words ≡ codes "shutdown" ∷ end_name x ∷ []
SpellsWords words (happens (CallOf x Close)) = words ≡ codes "close" ∷ end_name x ∷ []
SpellsWords words (happens (CallOf x (Send m options))) = SpellsSend words x m options
SpellsWords words (happens (CallOf x TakeMessage)) = words ≡ codes "recv" ∷ end_name x ∷ []
SpellsWords words (happens (CallOf x (SendMany ms options))) = ⊥
SpellsWords words (happens (CallOf x (Reset streams))) =
    (number : List ℕ) × (stream : ℕ) × (words ≡ codes "reset" ∷ end_name x ∷ number ∷ []) × IsNumber number stream × (stream < 2 ^ 16)
    × (streams ≡ stream ∷ [])
SpellsWords words (happens (CallOf x (SetPriority stream priority))) = ⊥
SpellsWords words (happens (CallOf x (SetMaxMessageSize bytes))) = ⊥
SpellsWords words (happens (CallOf x (SetLowThreshold stream bytes))) = ⊥
SpellsWords words (happens (CallOf x HandOver)) = ⊥
SpellsWords words (happens (Give packet x)) =
    (number : List ℕ) × (words ≡ codes "give" ∷ end_name (other x) ∷ number ∷ end_name x ∷ []) × IsNumber number packet × (packet < 2 ^ 64)
SpellsWords words (happens (GiveForeign x bytes)) = (hex : List ℕ) × (words ≡ codes "foreign" ∷ end_name x ∷ hex ∷ []) × IsHex hex bytes
SpellsWords words (happens (AdvanceTime x now)) = ⊥
SpellsWords words (passes now) =
    (number : List ℕ) × (milliseconds : ℕ) × (words ≡ codes "time" ∷ number ∷ []) × IsNumber number milliseconds × (milliseconds < 2 ^ 64)
    × (now ≡ nanoseconds milliseconds)
SpellsWords words (shown x packet) = (number : List ℕ) × (words ≡ codes "show" ∷ end_name x ∷ number ∷ []) × IsNumber number packet × (packet < 2 ^ 64)

-- the line spells the command
pub record Spells (line : List ℕ) (asked : Asked) : Type 0 where
  pub words : SpellsWords (words_of line) asked
  pub short_enough : length line ≤ 1048576

abbrev pub SpellsNone : List ℕ → Type 0
SpellsNone line = (asked : Asked) → Spells line asked → ⊥

-- the line is neither empty nor a command
pub record IsNoCommand (line : List ℕ) : Type 0 where
  pub some : line ≢ []
  pub none : SpellsNone line
