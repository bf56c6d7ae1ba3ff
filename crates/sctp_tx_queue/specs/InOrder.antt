-- What holds of a queue from the first call on. Of a stream, only the first message is partly sent. Without interleaving
-- no more than one message of all is: the first one of the stream that is named as begun.
use Rattle.std.specs.Prelude.{◌≡◌, ◌⊎◌, ℕ, ◌+◌, ◌^◌, ◌<◌, ◌≤◌, ◌==◌, ◌&&◌, nat_lt, nat_le, not, length, Bool, true, false, if◌then◌else◌, Option, Some, None, is_some, List, [], ◌∷◌}
use Rattle.std.specs.List.{list_all}
use Rattle.sctp_state.specs.Events.{Emitted}
use Rattle.sctp_state.specs.Options.{Options}
use Rattle.sctp_tx_queue.specs.declared.send_queue.stream.ResetStep.{ResetStep}
use Rattle.sctp_tx_queue.specs.SendQueue.{Queued, Queue, stream, queue, add}
use Rattle.sctp_tx_queue.specs.Produced.{Produced, produce}
use Rattle.sctp_tx_queue.specs.Settings.{set_low_threshold, set_priority, set_mode, discard}
use Rattle.sctp_tx_queue.specs.Resets.{prepare_reset, each_stepped}
use Rattle.sctp_tx_queue.specs.Restarted.{reset}
use Rattle.sctp_tx_queue.specs.Emptied.{empty}

-- nothing of it is sent, and it has no numbers
abbrev pub is_unsent : Queued → Bool
is_unsent m = not (is_some m.numbers) && (m.offset == 0)

-- it has numbers exactly where something of it is sent
abbrev pub is_begun_or_waiting : Queued → Bool
is_begun_or_waiting m = if is_some m.numbers then nat_lt 0 m.offset else m.offset == 0

abbrev pub are_in_order : List Queued → Bool
are_in_order [] = true
are_in_order (m ∷ rest) = is_begun_or_waiting m && list_all is_unsent rest

abbrev pub is_first_begun : List Queued → Bool
is_first_begun [] = false
is_first_begun (m ∷ rest) = is_some m.numbers

abbrev pub is_this : ℕ → Option ℕ → Bool
is_this k None = false
is_this k (Some id) = k == id

pub record IsInOrder (q : Queue) : Type 0 where
  pub order : (k : ℕ) → are_in_order (stream k q.streams).messages ≡ true
  pub begun : q.scheduler.is_interleaved ≡ false → (k : ℕ) → is_first_begun (stream k q.streams).messages ≡ is_this k q.begun

-- no message is partly sent
pub record IsUnsent (q : Queue) : Type 0 where
  pub first : (k : ℕ) → is_first_begun (stream k q.streams).messages ≡ false
  pub begun : q.begun ≡ None

-- each number is at least `least`, above the one before it, and below `most`
abbrev pub are_rising : ℕ → ℕ → List Queued → Bool
are_rising least most [] = true
are_rising least most (m ∷ rest) = (nat_le least m.number && nat_lt m.number most) && are_rising (m.number + 1) most rest

-- a stream's messages stand in the order of acceptance
pub record IsNumbered (q : Queue) : Type 0 where
  pub rising : (k : ℕ) → are_rising 0 q.next_number (stream k q.streams).messages ≡ true

-- something of the message is left to be sent
abbrev pub has_rest : Queued → Bool
has_rest m = nat_lt m.offset (length m.payload)

pub record HasRests (q : Queue) : Type 0 where
  pub rests : (k : ℕ) → list_all has_rest (stream k q.streams).messages ≡ true

-- a fragment has bytes, and no more than these
abbrev pub IsFilled : ℕ → Option Produced → Type 0
IsFilled size made = (p : Produced) → made ≡ Some p → (0 < length p.fragment.payload) × (length p.fragment.payload ≤ size)

-- ---- the calls

pub record NewIsInOrder : Type 0 where
  pub order : (o : Options) → IsInOrder (queue o)
  pub unsent : (o : Options) → IsUnsent (queue o)

abbrev pub AddedInOrder : Type 0
AddedInOrder = (id : ℕ) (m : Queued) (q : Queue) → is_unsent m ≡ true → IsInOrder q → IsInOrder (add id m q)

abbrev pub ProducedInOrder : Type 0
ProducedInOrder = (now size : ℕ) (q : Queue) (emitted : Emitted (List ℕ)) → 0 < size → IsInOrder q → IsInOrder (produce now size q emitted).queue

pub record SettingsInOrder : Type 0 where
  pub threshold : (id bytes : ℕ) (q : Queue) (emitted : Emitted (List ℕ)) → IsInOrder q → IsInOrder (set_low_threshold id bytes q emitted).queue
  pub priority : (id priority : ℕ) (q : Queue) → IsInOrder q → IsInOrder (set_priority id priority q)
  -- the mode is set anew, or nothing is sent
  pub mode : (is_interleaved : Bool) (q : Queue) → (q.scheduler.is_interleaved ≡ is_interleaved) ⊎ IsUnsent q → IsInOrder q → IsInOrder (set_mode is_interleaved q)

pub record ResetsInOrder : Type 0 where
  pub prepared : (id : ℕ) (q : Queue) (emitted : Emitted (List ℕ)) → IsInOrder q → IsInOrder (prepare_reset id q emitted).queue
  pub steps : (step : ResetStep) (ids : List ℕ) (q : Queue) → IsInOrder q → IsInOrder (each_stepped step ids q)

abbrev pub DiscardedInOrder : Type 0
DiscardedInOrder = (id message : ℕ) (q : Queue) (emitted : Emitted (List ℕ)) → IsInOrder q → IsInOrder (discard id message q emitted).queue

pub record RestartedInOrder : Type 0 where
  pub order : (q : Queue) → IsInOrder q → IsInOrder (reset q)
  pub unsent : (q : Queue) → IsUnsent (reset q)

-- whatever the queue was before
pub record EmptiedInOrder : Type 0 where
  pub order : (q : Queue) (emitted : Emitted (List ℕ)) → IsInOrder (empty q emitted).queue
  pub unsent : (q : Queue) (emitted : Emitted (List ℕ)) → IsUnsent (empty q emitted).queue
  pub messages : (q : Queue) (emitted : Emitted (List ℕ)) (k : ℕ) → (stream k (empty q emitted).queue.streams).messages ≡ []

-- as long as the numbers of messages don't wrap
pub record CallsNumber : Type 0 where
  pub new : (o : Options) → IsNumbered (queue o)
  pub added : (id : ℕ) (m : Queued) (q : Queue) → m.number ≡ q.next_number → q.next_number + 1 < 2 ^ 32 → IsNumbered q → IsNumbered (add id m q)
  pub produced : (now size : ℕ) (q : Queue) (emitted : Emitted (List ℕ)) → IsNumbered q → IsNumbered (produce now size q emitted).queue
  pub threshold : (id bytes : ℕ) (q : Queue) (emitted : Emitted (List ℕ)) → IsNumbered q → IsNumbered (set_low_threshold id bytes q emitted).queue
  pub priority : (id priority : ℕ) (q : Queue) → IsNumbered q → IsNumbered (set_priority id priority q)
  pub mode : (is_interleaved : Bool) (q : Queue) → IsNumbered q → IsNumbered (set_mode is_interleaved q)
  pub discarded : (id message : ℕ) (q : Queue) (emitted : Emitted (List ℕ)) → IsNumbered q → IsNumbered (discard id message q emitted).queue
  pub prepared : (id : ℕ) (q : Queue) (emitted : Emitted (List ℕ)) → IsNumbered q → IsNumbered (prepare_reset id q emitted).queue
  pub steps : (step : ResetStep) (ids : List ℕ) (q : Queue) → IsNumbered q → IsNumbered (each_stepped step ids q)
  pub restarted : (q : Queue) → IsNumbered q → IsNumbered (reset q)
  pub emptied : (q : Queue) (emitted : Emitted (List ℕ)) → IsNumbered (empty q emitted).queue

pub record CallsLeaveRests : Type 0 where
  pub new : (o : Options) → HasRests (queue o)
  pub added : (id : ℕ) (m : Queued) (q : Queue) → has_rest m ≡ true → HasRests q → HasRests (add id m q)
  pub produced : (now size : ℕ) (q : Queue) (emitted : Emitted (List ℕ)) → HasRests q → HasRests (produce now size q emitted).queue
  pub filled : (now size : ℕ) (q : Queue) (emitted : Emitted (List ℕ)) → 0 < size → HasRests q → IsFilled size (produce now size q emitted).made
  pub threshold : (id bytes : ℕ) (q : Queue) (emitted : Emitted (List ℕ)) → HasRests q → HasRests (set_low_threshold id bytes q emitted).queue
  pub priority : (id priority : ℕ) (q : Queue) → HasRests q → HasRests (set_priority id priority q)
  pub mode : (is_interleaved : Bool) (q : Queue) → HasRests q → HasRests (set_mode is_interleaved q)
  pub discarded : (id message : ℕ) (q : Queue) (emitted : Emitted (List ℕ)) → HasRests q → HasRests (discard id message q emitted).queue
  pub prepared : (id : ℕ) (q : Queue) (emitted : Emitted (List ℕ)) → HasRests q → HasRests (prepare_reset id q emitted).queue
  pub steps : (step : ResetStep) (ids : List ℕ) (q : Queue) → HasRests q → HasRests (each_stepped step ids q)
  pub restarted : (q : Queue) → HasRests q → HasRests (reset q)
  pub emptied : (q : Queue) (emitted : Emitted (List ℕ)) → HasRests (empty q emitted).queue
