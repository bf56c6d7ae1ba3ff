-- A run in which few numbers are used: no number on the wire can be read as another one, whatever is lost, delayed or repeated. All is
-- read off the log.
use Rattle.std.specs.Prelude.{◌≡◌, ℕ, ◌+◌, ◌-◌, ◌^◌, ◌<◌, ◌==◌, ◌&&◌, not, Bool, true, false, List, [], ◌∷◌, ◌++◌, length}
use Rattle.proof_delivery.specs.Accepted.{AcceptedMessage}
use Rattle.proof_delivery.specs.Answered.{performed_in}
use Rattle.spec_world.specs.Observations.{End, Entry, given_up}
use Rattle.proof_world.specs.Consistent.{NoEndingIsLogged}
use Rattle.proof_world.specs.Delivered.{accepted_messages, emitted_events}

-- as many fragments at most take these messages: each has a byte at least
abbrev pub most_fragments : List AcceptedMessage → ℕ
most_fragments [] = 0
most_fragments (o ∷ os) = length o.message.payload + 1 + most_fragments os

abbrev pub one_if : Bool → ℕ
one_if true = 1
one_if false = 0

-- how many of them are ordered, on this stream
abbrev pub ordered_on : (stream : ℕ) → List AcceptedMessage → ℕ
ordered_on stream [] = 0
ordered_on stream (o ∷ os) = one_if ((o.message.stream == stream) && not o.options.unordered) + ordered_on stream os

-- So far: the bytes and the messages that the end accepted, with one more for each that it gave up, which may end with a fragment without
-- bytes; ordered messages of each stream; and how often a reset was performed.
pub record UsesFew (x : End) (log : List Entry) : Type 0 where
  pub fragments : most_fragments (accepted_messages x log) + length (given_up x log) < 2 ^ 30
  pub messages : (stream : ℕ) → ordered_on stream (accepted_messages x log) < 32000
  pub resets : performed_in (emitted_events x log) < 2 ^ 32 - 1

-- until an end first emits that an association is over
abbrev pub LogUsesFew : List Entry → Type 0
LogUsesFew log = (x : End) (early late : List Entry) → log ≡ early ++ late → NoEndingIsLogged early → UsesFew x early
