-- What a packet takes behind that: new fragments, as long as the windows let them go, the packet has room, and one waits.
use Rattle.std.specs.Prelude.{◌≡◌, ℕ, true, false, Some, None, List, [], ◌∷◌, ◌++◌}
use Rattle.sctp_state.specs.Events.{Emitted}
use Rattle.sctp_tx_outstanding.specs.OutstandingData.{next_number, wire_tsn}
use Rattle.sctp_tx_queue.specs.SendQueue.{Queue}
use Rattle.sctp_tx_queue.specs.Produced.{Produced, produce}
use Rattle.sctp_tx.specs.RetransmissionQueue.{Sender}
use Rattle.sctp_tx.specs.Resent.{may_send_new, resent}
use Rattle.sctp_tx.specs.Sending.{Filling, offered_payload, sent_new, filled_with, discard_all, without_discards, send, timed_filling}

-- one more fragment goes: the queue is offered what is left, and its fragment takes the next TSN
pub record Goes {P : Type 0} (now : ℕ) (x y : Filling P) (p : Produced) : Type 0 where
  pub let_go : may_send_new x.sender ≡ true
  pub made : (produce now (offered_payload x.left x.sender) x.queue x.emitted).made ≡ Some p
  pub queue : y.queue ≡ (produce now (offered_payload x.left x.sender) x.queue x.emitted).queue
  pub emitted : y.emitted ≡ (produce now (offered_payload x.left x.sender) x.queue x.emitted).emitted
  pub sender : y.sender ≡ sent_new now p x.sender
  pub chunks : y.chunks ≡ x.chunks ++ (wire_tsn x.sender.outstanding (next_number x.sender.outstanding.items), p.fragment) ∷ []

-- none goes: the windows don't let it, or the packet has no room for a byte, or no stream has anything to send
pub data Stops {P : Type 0} (now : ℕ) (x y : Filling P) : Type 0 where
  windows : may_send_new x.sender ≡ false → y ≡ x → Stops now x y
  room : offered_payload x.left x.sender ≡ 0 → y ≡ x → Stops now x y
  nothing : (produce now (offered_payload x.left x.sender) x.queue x.emitted).made ≡ None → y.queue.scheduler.times ≡ [] → y.chunks ≡ x.chunks → y.sender ≡ x.sender → Stops now x y

pub data IsFilled {P : Type 0} (now : ℕ) : Filling P → Filling P → Type 0 where
  ends : {x y : Filling P} → Stops now x y → IsFilled now x y
  goes_on : {x z : Filling P} (y : Filling P) (p : Produced) → Goes now x y p → IsFilled now y z → IsFilled now x z

-- ---- the law: a packet is what waits to be sent again, then new fragments until none goes

abbrev pub began : {P : Type 0} → (most : ℕ) → Sender → Queue → Emitted P → Filling P
began most s q emitted = filled_with most (without_discards s) (resent most (without_discards s)) (discard_all s.outstanding.items.discards q emitted)

pub record TakesWhatIsDue {P : Type 0} (now most : ℕ) (s : Sender) (q : Queue) (emitted : Emitted P) : Type 0 where
  pub filled : Filling P
  pub again : (began most s q emitted).chunks ≡ (resent most (without_discards s)).chunks
  pub new : IsFilled now (began most s q emitted) filled
  pub all : send now most s q emitted ≡ timed_filling now filled

abbrev pub PacketsTakeWhatIsDue : Type 0
PacketsTakeWhatIsDue = (now most : ℕ) (s : Sender) (q : Queue) (emitted : Emitted (List ℕ)) → TakesWhatIsDue now most s q emitted
