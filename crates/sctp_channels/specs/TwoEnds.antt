-- What the owner of one end is told of what the other end accepted.
use Rattle.std.specs.Prelude.{◌≡◌, ℕ, ◌≤◌, Bool, true, false, Option, Some, option_map, List, [], ◌∷◌, ◌++◌, length, map, slice_get, All}
use Rattle.std.specs.List.{flat_map}
use Rattle.std.specs.Map.{values_of}
use Rattle.sctp_serial.specs.Messages.{Message}
use Rattle.sctp_channels.specs.Channel.{Channel}
use Rattle.sctp_channels.specs.Channels.{Channels, Output, tell_message}
use Rattle.sctp_channels.specs.Steps.{DataChannels, Event, Runs, Step, gets, of_channels}
use Rattle.sctp_channels.specs.Runs.{Content, sent_as}

-- ---- what one end accepts: a message of its owner on a channel, or one that opens a channel or answers

pub data Offer : Type 0 where
  of_owner : (m : Content) → Offer
  of_opening : (stream : ℕ) (payload : List ℕ) → Offer

abbrev pub offered_as : Offer → Message
offered_as (of_owner m) = sent_as m
offered_as (of_opening stream payload) = record { stream = stream; ppid = 50; payload = payload }

-- a message of the owner is no longer than the other end takes
abbrev pub IsShort : ℕ → Offer → Type 0
IsShort limit (of_owner m) = length m.bytes ≤ limit
IsShort limit (of_opening stream payload) = Unit {0}

-- the messages that the other end's socket hands out are those accepted at these places, as the law of delivery has it
abbrev pub AreAccepted : List Offer → (places : List ℕ) → List Message → Type 0
AreAccepted offers places ms = map (λ (place : ℕ). option_map offered_as (slice_get offers place)) places ≡ map (λ (m : Message). Some m) ms

-- what of it is for the owner
abbrev pub content_of : Option Offer → List Content
content_of (Some (of_owner m)) = m ∷ []
content_of _ = []

abbrev pub contents_at : List Offer → (places : List ℕ) → List Content
contents_at offers places = flat_map (λ (place : ℕ). content_of (slice_get offers place)) places

-- ---- what the owner of the other end is told

abbrev pub message_in : Output → List Content
message_in (tell_message id kind bytes) = record { stream = id; kind = kind; bytes = bytes } ∷ []
message_in o = []

abbrev pub told_in : Event → List Content
told_in (of_channels o) = message_in o
told_in e = []

-- messages that it is still to be told, in order
abbrev pub to_tell : DataChannels → List Content
to_tell d = flat_map told_in d.events ++ flat_map message_in d.channels.outputs

-- the messages that its socket handed out
abbrev pub got_by : Step → List Message
got_by (gets m) = m ∷ []
got_by s = []

-- ---- no message waits for a part

pub record HasNoParts (c : Channel) : Type 0 where
  pub parts : c.parts ≡ []
  pub is_whole : c.is_too_long ≡ false

abbrev pub AreWhole : Channels → Type 0
AreWhole cs = All HasNoParts (values_of cs.entries)

-- ---- some of a list, in its order

abbrev pub chosen : {A : Type 0} → List Bool → List A → List A
chosen [] xs = []
chosen (is ∷ choice) [] = []
chosen (true ∷ choice) (x ∷ xs) = x ∷ chosen choice xs
chosen (false ∷ choice) (x ∷ xs) = chosen choice xs

-- the owner is told, in this order and of the same kind, what the other end accepted: some of the contents at these places, each once
abbrev pub WhatIsToldWasAccepted : Type 0
WhatIsToldWasAccepted =
    (steps : List Step) (d e : DataChannels) → Runs steps d e → AreWhole d.channels → (offers : List Offer) (places : List ℕ) → All (IsShort d.channels.limit) offers
    → AreAccepted offers places (flat_map got_by steps) → (choice : List Bool) × (to_tell e ≡ to_tell d ++ chosen choice (contents_at offers places))
