-- What only grows as the sender or the receiver goes on.
use Rattle.std.proofs.Common.{◌≡◌, ℕ, ◌<◌, ◌≤◌, Bool, true, false, ◌⊎◌}
use Rattle.proof_protocol.specs.State.{Message, Sender, Receiver, fragment, place_of, count, has, stream_of, ordered_of}

module _ (message : ℕ → Message) where
  -- the sender went on by one rule
  pub record Later (o o' : Sender) : Type 0 where
    pub count_grows : count o ≤ count o'
    pub same_fragment : (t : ℕ) → t < count o → fragment o' t ≡ fragment o t
    pub given_stays : (p : ℕ) → o.given_up p ≡ true → o'.given_up p ≡ true
    pub begun_stays : (p : ℕ) → o.begun p ≡ true → o'.begun p ≡ true
    pub number_stays : (p : ℕ) → o.begun p ≡ true → o'.number p ≡ o.number p
    pub written_stays : (p : ℕ) → o.begun p ≡ true → o'.written p ≡ o.written p
    pub newly : (p : ℕ) → o'.begun p ≡ true → (o.begun p ≡ true) ⊎ (o.counts (ordered_of message p) (stream_of message p) ≤ o'.number p)
    pub counts_grow : (kind : Bool) (s : ℕ) → o.counts kind s ≤ o'.counts kind s
    pub ended_stays : (p : ℕ) → o.begun p ≡ true → o.partly p ≡ false → o'.partly p ≡ false
    pub new_part : (t : ℕ) → count o ≤ t → t < count o' → o.partly (place_of o' t) ≡ true

  -- the receiver went on
  pub record Onward (i i' : Receiver) : Type 0 where
    pub seen_stays : (t : ℕ) → i.seen t ≡ true → i'.seen t ≡ true
    pub ready_stays : (p : ℕ) → has p i.places ≡ true → has p i'.places ≡ true
    pub next_stays : (s : ℕ) → i.next s ≤ i'.next s
