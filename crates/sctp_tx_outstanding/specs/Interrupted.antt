-- What a call leaves that ran out of memory before its end: its first steps are done, and nothing else.
use Rattle.std.specs.Prelude.{◌≡◌, ℕ, not, Bool, List}
use Rattle.sctp_state.specs.Events.{Emitted}
use Rattle.sctp_tx_outstanding.specs.declared.item.MissIndication.{MissIndication}
use Rattle.sctp_tx_outstanding.specs.OutstandingData.{Outstanding}
use Rattle.sctp_chunk.specs.declared.sack.GapAckBlock.{GapAckBlock}
use Rattle.sctp_tx_outstanding.specs.Sack.{report_by, receive_sack_first}
use Rattle.sctp_tx_outstanding.specs.Losses.{Step, first_step, nack_below, expire_below}

-- the items and what was emitted are those of a step
pub record Stands {P : Type 0} (first : Outstanding) (x : Step P) (after : Outstanding) (later : Emitted P) : Type 0 where
  pub items : after ≡ record first { items = x.items }
  pub events : later ≡ x.emitted

abbrev pub SomeNacked : {P : Type 0} → (indication : MissIndication) (fast : Bool) → Outstanding → Emitted P → Outstanding → Emitted P → Type 0
SomeNacked indication fast d emitted after later = (count : ℕ) × Stands d (nack_below indication fast count (first_step d.items emitted)) after later

abbrev pub SomeExpired : {P : Type 0} → ℕ → Outstanding → Emitted P → Outstanding → Emitted P → Type 0
SomeExpired now d emitted after later = (count : ℕ) × Stands d (expire_below now count (first_step d.items emitted)) after later

-- all is as it was
pub record Same {P : Type 0} (first : Outstanding) (emitted : Emitted P) (after : Outstanding) (later : Emitted P) : Type 0 where
  pub items : after ≡ first
  pub events : later ≡ emitted

-- a SACK is taken, but not all of the missing reports
abbrev pub SackPartlyTaken : {P : Type 0} → ℕ → List GapAckBlock → (once_a_flight is_in_fast_recovery : Bool) → Outstanding → Emitted P → Outstanding → Emitted P → Type 0
SackPartlyTaken number blocks once_a_flight is_in_fast_recovery d emitted after later =
    (count : ℕ) × Stands d (nack_below (report_by once_a_flight number blocks d.items) (not is_in_fast_recovery) count (receive_sack_first number blocks d.items emitted)) after later
