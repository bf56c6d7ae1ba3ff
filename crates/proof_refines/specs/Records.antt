-- One record a message: those that the user took and those that wait name each message that was given up once, and no other.
use Rattle.std.specs.Prelude.{◌≡◌, ℕ, ◌&&◌, not, Bool, true, false, Option, Some, List, [], ◌∷◌, ◌++◌}
use Rattle.std.specs.List.{AllByRecursion}
use Rattle.sctp_state.specs.Events.{GivenUp, Emitted}
use Rattle.sctp_tx_queue.specs.SendQueue.{Queued, Queue}
use Rattle.sctp_tx_outstanding.specs.Item.{Item, is_abandoned}
use Rattle.sctp_tx_outstanding.specs.OutstandingData.{Items}
use Rattle.proof_protocol.specs.State as rules
use Rattle.proof_protocol.specs.State.{Message, Transfer, IsAmong, start, has}
use Rattle.proof_protocol.specs.Rules.{accept, after}
use Rattle.proof_refines.specs.Reachable.{recorded_places, SenderLeadsTo}
use Rattle.proof_refines.specs.SenderRefinement.{SenderRefines, find, messages_of}
use Rattle.proof_refines.specs.Rows.{leave_fragments}

abbrev pub are_distinct : List ℕ → Bool
are_distinct [] = true
are_distinct (p ∷ ps) = not (has p ps) && are_distinct ps

-- the places that all records of an association name. `taken` are those of the records that the user took
abbrev pub all_recorded : {P : Type 0} → (taken : List ℕ) → Emitted P → List ℕ
all_recorded taken emitted = taken ++ recorded_places emitted

pub record OneRecord {P : Type 0} (taken : List ℕ) (o : rules.Sender) (emitted : Emitted P) : Type 0 where
  pub once : are_distinct (all_recorded taken emitted) ≡ true
  pub exact : (p : ℕ) → o.given_up p ≡ has p (all_recorded taken emitted)

-- ---- from a new association on, whatever its sender does keeps it

abbrev pub NewHaveNone : Type 0
NewHaveNone = (emitted : Emitted (List ℕ)) → emitted.given_up ≡ [] → OneRecord [] start.sender emitted

abbrev pub AcceptingKeepsOne : Type 0
AcceptingKeepsOne = (message : ℕ → Message) (is_interleaved : Bool) (x : Transfer) (taken : List ℕ) (emitted : Emitted (List ℕ))
    → OneRecord taken x.sender emitted → OneRecord taken (after message is_interleaved x accept).sender emitted

-- fragments are numbered, messages are given up, packets are filled
abbrev pub SendingKeepsOne : Type 0
SendingKeepsOne = (message : ℕ → Message) (lifecycle : ℕ → Option ℕ) (is_interleaved : Bool) (x : Transfer) (q : Queue) (s : Items) (emitted later : Emitted (List ℕ)) (taken : List ℕ)
    → (l : SenderLeadsTo message lifecycle is_interleaved x emitted q s later) → OneRecord taken x.sender emitted → OneRecord taken l.after.sender later

-- n fragments leave
abbrev pub LeavingKeepsOne : Type 0
LeavingKeepsOne = (n : ℕ) (x : Transfer) (taken : List ℕ) (emitted : Emitted (List ℕ)) → OneRecord taken x.sender emitted → OneRecord taken (leave_fragments n x).sender emitted

-- the user takes the first record
abbrev pub TakingKeepsOne : Type 0
TakingKeepsOne = (o : rules.Sender) (taken : List ℕ) (g : GivenUp) (rest : List GivenUp) (emitted : Emitted (List ℕ))
    → emitted.given_up ≡ g ∷ rest → OneRecord taken o emitted → OneRecord (taken ++ g.number ∷ []) o (record emitted { given_up = rest })

-- ---- what it says of the values

-- an item is given up exactly where its message has a record; a message in the queue that isn't to be discarded has none
pub record HasOneRecord {P : Type 0} (taken : List ℕ) (q : Queue) (s : Items) (emitted : Emitted P) : Type 0 where
  pub once : are_distinct (all_recorded taken emitted) ≡ true
  pub kept : AllByRecursion (λ (i : Item). is_abandoned i ≡ has i.number (all_recorded taken emitted)) s.kept
  pub queued : (k p : ℕ) (m : Queued) → find p (messages_of q k) ≡ Some m → (IsAmong (record { stream = k; number = p }) s.discards → ⊥)
      → has p (all_recorded taken emitted) ≡ false

abbrev pub ValuesHaveOneRecord : Type 0
ValuesHaveOneRecord = (message : ℕ → Message) (lifecycle : ℕ → Option ℕ) (is_interleaved : Bool) (x : Transfer) (q : Queue) (s : Items) (taken : List ℕ) (emitted : Emitted (List ℕ))
    → SenderRefines message lifecycle is_interleaved x q s → OneRecord taken x.sender emitted → HasOneRecord taken q s emitted
