-- What the send queue gives fits what it was offered; and a packet that is filled, turn by turn.
use Rattle.std.proofs.Common.{◌≡◌, ℕ, zero, suc, ◌+◌, ◌≤◌, ◌<◌, Bool, true, false, Option, Some, None, List, [], ◌∷◌, length, drop, IfSome, refl, arith}
use Rattle.std.specs.Prelude.{unwrap_or, option_map, is_some, if◌then◌else◌}
use Rattle.std.proofs.lemmas.List.{length-take}
use Rattle.sctp_chunk.specs.Chunk.{FragmentTree}
use Rattle.sctp_state.specs.Events.{Emitted}
use Rattle.sctp_tx_queue.specs.declared.send_queue.message.MessageNumbers.{MessageNumbers}
use Rattle.sctp_tx_queue.specs.SendQueue.{Queue, Queued, stream}
use Rattle.sctp_tx_queue.specs.Produced.{Produced, Turn, front_made, front_numbers, streams_without_stale, turn, idle, next_stream, produce_within, produce}
use Rattle.sctp_tx.specs.RetransmissionQueue.{Sender}
use Rattle.sctp_tx.specs.Sending.{Filling, filling, next_turn, fill}

-- ---- fragments fit

abbrev pub Fits : ℕ → Option Produced → Type 0
Fits size made = IfSome made (λ p. length p.fragment.payload ≤ size)

front_fits : (id size : ℕ) (n : MessageNumbers) (ms : List Queued) → Fits size (front_made id size n ms)
front_fits id size n [] = tt
front_fits id size n (m ∷ rest) = omega (arith, length-take size (drop m.offset m.payload))

module _ {P : Type 0} (now size : ℕ) where
  either_fits : (b : Bool) (t u : Turn P) → Fits size t.made → Fits size u.made → Fits size (if b then t else u).made
  either_fits true t u f g = f
  either_fits false t u f g = g

  turn_fits : (id : ℕ) (q : Queue) (emitted : Emitted P) → Fits size (turn now id size q emitted).made
  turn_fits id q emitted =
      let s = stream id (streams_without_stale now id q.streams) in
      front_fits id size (front_numbers s.messages s) s.messages

  next_fits : (turns : ℕ) (q : Queue) (emitted : Emitted P) → ((r : Queue) (t : Emitted P) → Fits size (produce_within turns now size r t).made) → (next : Option ℕ)
      → Fits size (unwrap_or (option_map (λ id.
      let t = turn now id size q emitted in
      if is_some t.made then t else produce_within turns now size t.queue t.emitted) next) (idle q emitted)).made
  next_fits turns q emitted others None = tt
  next_fits turns q emitted others (Some id) =
      let t = turn now id size q emitted in
      either_fits (is_some t.made) t (produce_within turns now size t.queue t.emitted) (turn_fits id q emitted) (others t.queue t.emitted)

  within_fits : (turns : ℕ) (q : Queue) (emitted : Emitted P) → Fits size (produce_within turns now size q emitted).made
  within_fits zero q emitted = tt
  within_fits (suc turns) q emitted = next_fits turns q emitted (within_fits turns) (next_stream q)

  pub made_fits : (q : Queue) (emitted : Emitted P) (made : Option Produced) → made ≡ (produce now size q emitted).made → Fits size made
  made_fits q emitted made is = rw is (within_fits (length q.scheduler.times + 2) q emitted)

-- ---- turns

module _ {P : Type 0} (now turns left : ℕ) (s : Sender) (q : Queue) (emitted : Emitted P) (chunks : List (ℕ × FragmentTree)) (all : Filling P) where
  abbrev pub before : Filling P
  before = filling s q emitted chunks left

  -- the last turn
  pub ended : left < turns → fill turns now before ≡ all → (next_turn now before).is_more ≡ false → (next_turn now before).filling ≡ all
  ended enough is stop = ended_by turns enough is where
    ended_by : (k : ℕ) → left < k → fill k now before ≡ all → (next_turn now before).filling ≡ all
    ended_by zero enough is = absurd (omega (arith, enough))
    ended_by (suc k) enough is = rw stop at is

  -- a turn that isn't the last
  pub goes_on : (t : Sender) (r : Queue) (later : Emitted P) (longer : List (ℕ × FragmentTree)) (rest : ℕ) → left < turns → fill turns now before ≡ all
      → (next_turn now before).is_more ≡ true → t ≡ (next_turn now before).filling.sender → r ≡ (next_turn now before).filling.queue
      → later ≡ (next_turn now before).filling.emitted → longer ≡ (next_turn now before).filling.chunks → rest ≡ (next_turn now before).filling.left → rest < left
      → (k : ℕ) × (rest < k) × (fill k now (filling t r later longer rest) ≡ all)
  goes_on t r later longer rest enough is more es eq et ec el less = goes_by turns enough is where
    goes_by : (k : ℕ) → left < k → fill k now before ≡ all → (j : ℕ) × (rest < j) × (fill j now (filling t r later longer rest) ≡ all)
    goes_by zero enough is = absurd (omega (arith, enough))
    goes_by (suc k) enough is = (k, omega (arith, enough, less), rw (es, eq, et, ec, el) (rw more at is))

-- what a turn gives, put together
module _ {P : Type 0} (now left : ℕ) (s : Sender) (q : Queue) (emitted : Emitted P) (chunks : List (ℕ × FragmentTree)) where
  pub on_by : (t : Sender) (r : Queue) (later : Emitted P) (longer : List (ℕ × FragmentTree)) (rest : ℕ)
      → t ≡ (next_turn now (filling s q emitted chunks left)).filling.sender → r ≡ (next_turn now (filling s q emitted chunks left)).filling.queue
      → later ≡ (next_turn now (filling s q emitted chunks left)).filling.emitted → longer ≡ (next_turn now (filling s q emitted chunks left)).filling.chunks
      → rest ≡ (next_turn now (filling s q emitted chunks left)).filling.left → filling t r later longer rest ≡ (next_turn now (filling s q emitted chunks left)).filling
  on_by t r later longer rest es eq et ec el = rw (es, eq, et, ec, el) refl
