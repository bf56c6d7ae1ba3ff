-- What a call of the sender leaves that ran out of memory before its end: the items took its first steps.
use Rattle.std.specs.Prelude.{◌≡◌, ◌⊎◌, ◌<◌, ◌-◌, ℕ, zero, suc, min, not, true, false, Some, List, take, drop}
use Rattle.sctp_chunk.specs.declared.sack.GapAckBlock.{GapAckBlock}
use Rattle.sctp_state.specs.Events.{Emitted}
use Rattle.sctp_state.specs.Timer.{expire}
use Rattle.sctp_tx_outstanding.specs.declared.item.MissIndication.TheVariants.{Timeout}
use Rattle.sctp_tx_outstanding.specs.Interrupted.{Same, SomeNacked, SomeExpired, SackPartlyTaken}
use Rattle.sctp_tx_outstanding.specs.OutstandingData.{Outstanding}
use Rattle.sctp_tx_outstanding.specs.Resending.{SomeResent, empty_packet}
use Rattle.sctp_tx_queue.specs.SendQueue.{Queue}
use Rattle.sctp_tx_queue.specs.Produced.{Produced, produce}
use Rattle.sctp_tx_queue.specs.Settings.{Changed}
use Rattle.sctp_tx_queue.specs.Interrupted.{Interrupted}
use Rattle.sctp_tx.specs.Windows.{is_open, timed_out}
use Rattle.sctp_tx.specs.RetransmissionQueue.{Sender}
use Rattle.sctp_tx.specs.Resent.{flight, may_send_new, resent}
use Rattle.sctp_tx.specs.Sending.{Filling, offered_payload, next_turn, discard_all, without_discards, filled_with}

-- the windows, the timer and the counts are as they were
abbrev pub ItemsAlone : Sender → Sender → Type 0
ItemsAlone s after = after ≡ record s { outstanding = after.outstanding }

-- of a SACK
pub record PartlyAcknowledged {P : Type 0} (n : ℕ) (blocks : List GapAckBlock) (s : Sender) (emitted : Emitted P) (after : Sender) (later : Emitted P) : Type 0 where
  pub items : Same s.outstanding emitted after.outstanding later ⊎ SackPartlyTaken n blocks s.windows.avoids_stalls (not (is_open n s.windows)) s.outstanding emitted after.outstanding later
  pub alone : ItemsAlone s after

-- of a timeout: the windows are cut, and the timer's expiry is counted
pub record PartlyTimedOut {P : Type 0} (now : ℕ) (s : Sender) (emitted : Emitted P) (after : Sender) (later : Emitted P) : Type 0 where
  pub items : SomeNacked Timeout false s.outstanding emitted after.outstanding later
  pub rest : after ≡ record s { outstanding = after.outstanding; windows = timed_out s.windows; t3 = expire now s.t3 }

-- of the lifetimes that passed
pub record PartlyExpired {P : Type 0} (now : ℕ) (s : Sender) (emitted : Emitted P) (after : Sender) (later : Emitted P) : Type 0 where
  pub items : SomeExpired now s.outstanding emitted after.outstanding later
  pub alone : ItemsAlone s after

-- of the packet that ignores the congestion window
pub record PartlyResentFast (most : ℕ) (s after : Sender) : Type 0 where
  pub items : SomeResent true (empty_packet most 0 s.outstanding) after.outstanding
  pub alone : ItemsAlone s after

-- ---- a packet that was being filled (`send`): it is handed out to none

-- the queue and what was emitted are those of a step
pub record Stands {P : Type 0} (x : Changed P) (rest : Queue) (later : Emitted P) : Type 0 where
  pub queue : rest ≡ x.queue
  pub events : later ≡ x.emitted

-- of the messages that were given up so many left the queue, and the others are still to leave it
pub record SomeDiscarded {P : Type 0} (d : Outstanding) (q : Queue) (emitted : Emitted P) (after : Outstanding) (rest : Queue) (later : Emitted P) : Type 0 where
  pub count : ℕ
  pub items : after ≡ record d { items = record d.items { discards = drop count d.items.discards } }
  pub queue : Stands (discard_all (take count d.items.discards) q emitted) rest later

-- some of the items that wait went again, into so much of a packet, and are not counted
pub record PartlyResent (most : ℕ) (s after : Sender) : Type 0 where
  pub items : SomeResent false (empty_packet (min most (s.windows.cwnd - flight s)) s.windows.rwnd s.outstanding) after.outstanding
  pub alone : ItemsAlone s after

-- the queue gave no fragment
pub record NotProduced {P : Type 0} (now : ℕ) (x : Filling P) (after : Sender) (rest : Queue) (later : Emitted P) : Type 0 where
  pub sender : after ≡ x.sender
  pub queue : Interrupted now (offered_payload x.left x.sender) x.queue x.emitted rest later

-- it gave one, which is lost: it has no TSN
pub record NotAppended {P : Type 0} (now : ℕ) (x : Filling P) (after : Sender) (rest : Queue) (later : Emitted P) : Type 0 where
  pub fragment : Produced
  pub made : (produce now (offered_payload x.left x.sender) x.queue x.emitted).made ≡ Some fragment
  pub sender : after ≡ x.sender
  pub queue : rest ≡ (produce now (offered_payload x.left x.sender) x.queue x.emitted).queue
  pub events : later ≡ (produce now (offered_payload x.left x.sender) x.queue x.emitted).emitted

-- a turn that was not taken to its end; the windows let it begin
pub record TurnStopped {P : Type 0} (now : ℕ) (x : Filling P) (after : Sender) (rest : Queue) (later : Emitted P) : Type 0 where
  pub may_send : may_send_new x.sender ≡ true
  pub room : 0 < offered_payload x.left x.sender
  pub stopped : NotProduced now x after rest later ⊎ NotAppended now x after rest later

abbrev pub after_turns : {P : Type 0} → (turns : ℕ) → ℕ → Filling P → Filling P
after_turns zero now x = x
after_turns (suc turns) now x = (next_turn now (after_turns turns now x)).filling

-- so many turns were taken
pub record PartlyFilled {P : Type 0} (now : ℕ) (x : Filling P) (after : Sender) (rest : Queue) (later : Emitted P) : Type 0 where
  pub turns : ℕ
  pub turn : TurnStopped now (after_turns turns now x) after rest later

-- it stopped while messages that were given up left the queue,
pub record WhileDiscarding {P : Type 0} (s : Sender) (q : Queue) (emitted : Emitted P) (after : Sender) (rest : Queue) (later : Emitted P) : Type 0 where
  pub discarded : SomeDiscarded s.outstanding q emitted after.outstanding rest later
  pub alone : ItemsAlone s after

-- while items were sent again,
pub record WhileResending {P : Type 0} (most : ℕ) (s : Sender) (q : Queue) (emitted : Emitted P) (after : Sender) (rest : Queue) (later : Emitted P) : Type 0 where
  pub sender : PartlyResent most (without_discards s) after
  pub queue : Stands (discard_all s.outstanding.items.discards q emitted) rest later

-- or while new fragments were taken
abbrev pub WhileFilling : {P : Type 0} → ℕ → (most : ℕ) → Sender → Queue → Emitted P → Sender → Queue → Emitted P → Type 0
WhileFilling now most s q emitted after rest later =
    PartlyFilled now (filled_with most (without_discards s) (resent most (without_discards s)) (discard_all s.outstanding.items.discards q emitted)) after rest later

abbrev pub PartlySent : {P : Type 0} → ℕ → (most : ℕ) → Sender → Queue → Emitted P → Sender → Queue → Emitted P → Type 0
PartlySent now most s q emitted after rest later =
    WhileDiscarding s q emitted after rest later ⊎ (WhileResending most s q emitted after rest later ⊎ WhileFilling now most s q emitted after rest later)
