-- Each fragment that a packet takes has a payload.
use Rattle.std.proofs.Common.{◌≡◌, ℕ, zero, suc, ◌<◌, ◌==◌, ◌&&◌, nat_lt, Bool, true, false, cond, Option, Some, None, List, [], ◌∷◌, length, not, ◌≤◌, inr, refl, subst}
use Rattle.sctp_chunk.specs.declared.sack.GapAckBlock.{GapAckBlock}
use Rattle.sctp_packet.specs.Grammar.{Each}
use Rattle.sctp_state.specs.Events.{Emitted}
use Rattle.sctp_tx_outstanding.specs.OutstandingData.{Discard}
use Rattle.sctp_tx_outstanding.specs.Resending.{Resent}
use Rattle.sctp_tx_queue.specs.SendQueue.{Queue}
use Rattle.sctp_tx_queue.specs.InOrder.{HasRests}
use Rattle.sctp_tx_queue.specs.Produced.{Produced, Turn, produce}
use Rattle.sctp_tx_queue.specs.Settings.{Changed, discard}
use Rattle.sctp_tx_queue.proofs.RestLemmas.{calls_leave_rests}
use Rattle.sctp_tx.specs.Windows.{is_open}
use Rattle.sctp_tx.specs.RetransmissionQueue.{Sender, sender_if}
use Rattle.sctp_tx.specs.Resent.{may_send_new, resent, resent_fast, start_t3_if, send_fast}
use Rattle.sctp_tx.specs.ForwardPoints.{abandon_expired}
use Rattle.sctp_tx.specs.Sending.{Filling, QueueStep, item_of, append, offered_payload, queue_step_if, next_turn, fill, discard_all, without_discards, filled_with, send}
use Rattle.proof_endpoint.specs.Mapped.{Carried, Mapping, map_emitted}
use Rattle.proof_endpoint.proofs.EmittedMapsLemmas.{map_fragments, maps_fragments_sent}
use Rattle.proof_endpoint.proofs.ReceivedLemmas.{each_push}
use Rattle.proof_draws.proofs.FilledItemsLemmas.{IsFilled, AreFilled, expired_filled, receive_filled, HasPayload, ResentIsFilled, resend_filled}
use Rattle.sctp_serial.proofs.NumberLemmas.{not_zero, positive_of_both}

abbrev pub SenderIsFilled : Sender → Type 0
SenderIsFilled s = AreFilled s.outstanding.items

module _ {P : Type 0} where
  pub received_filled : (b : Bool) (now n a_rwnd : ℕ) (blocks : List GapAckBlock) (s : Sender) (t : Emitted P) → SenderIsFilled s
      → SenderIsFilled (sender_if b now n a_rwnd blocks s t)
  received_filled true now n a_rwnd blocks s t h = receive_filled n blocks s.windows.avoids_stalls (not (is_open n s.windows)) s.outstanding.items t h
  received_filled false now n a_rwnd blocks s t h = h

  pub sender_expired_filled : (now : ℕ) (s : Sender) (t : Emitted P) → SenderIsFilled s → SenderIsFilled (abandon_expired now s t)
  sender_expired_filled now s t h = expired_filled now s.outstanding.items t h

-- ---- what is sent again

timed_filled : (b : Bool) (now : ℕ) (s : Sender) → SenderIsFilled s → SenderIsFilled (start_t3_if b now s)
timed_filled true now s h = h
timed_filled false now s h = h

pub resent_fast_filled : (most : ℕ) (s : Sender) → SenderIsFilled s → ResentIsFilled (resent_fast most s)
resent_fast_filled most s h = resend_filled true most 0 s.outstanding h

pub sent_fast_filled : (now most : ℕ) (s : Sender) → SenderIsFilled s → SenderIsFilled (send_fast now most s)
sent_fast_filled now most s h = timed_filled (nat_lt 0 (length (resent_fast most s).chunks)) now _ (resent_fast_filled most s h).items

-- ---- what a packet takes

pub record FillingIsFilled {P : Type 0} (x : Filling P) : Type 0 where
  pub sender : SenderIsFilled x.sender
  pub queue : HasRests x.queue
  pub chunks : Each HasPayload x.chunks

-- all that is made has a payload
abbrev IsMade : Option Produced → Type 0
IsMade None = Unit {0}
IsMade (Some p) = (length p.fragment.payload == 0) ≡ false

is_made : (size : ℕ) (o : Option Produced)
    → ((p : Produced) → o ≡ Some p → (0 < length p.fragment.payload) × (length p.fragment.payload ≤ size)) → IsMade o
is_made size None f = tt
is_made size (Some p) f = not_zero (length p.fragment.payload) (f p refl).0

discards_rest : (ds : List Discard) (q : Queue) (t : Emitted (List ℕ)) → HasRests q → HasRests (discard_all ds q t).queue
discards_rest [] q t h = h
discards_rest (d ∷ ds) q t h =
    let x : Changed (List ℕ) = discard d.stream d.number q t in
    discards_rest ds x.queue x.emitted (calls_leave_rests.discarded d.stream d.number q t h)

appended_filled : (now : ℕ) (o : Option Produced) (x : Filling (List ℕ)) → IsMade o → FillingIsFilled x → FillingIsFilled (append now o x)
appended_filled now None x f h = h
appended_filled now (Some p) x f h = record {
  sender = each_push IsFilled x.sender.outstanding.items.kept (item_of now p) h.sender (inr f);
  queue = h.queue;
  chunks = each_push HasPayload x.chunks _ h.chunks f;
}

turned_if_filled : (b : Bool) (now : ℕ) (x : Filling (List ℕ)) → (b ≡ true → 0 < offered_payload x.left x.sender) → FillingIsFilled x
    → FillingIsFilled (queue_step_if b now x).filling
turned_if_filled true now x some h =
    let n : ℕ = offered_payload x.left x.sender in
    let y : Turn (List ℕ) = produce now n x.queue x.emitted in
    appended_filled now y.made (record x { queue = y.queue; emitted = y.emitted })
    (is_made n y.made (calls_leave_rests.filled now n x.queue x.emitted (some refl) h.queue))
    (record { sender = h.sender; queue = calls_leave_rests.produced now n x.queue x.emitted h.queue; chunks = h.chunks })
turned_if_filled false now x some h = h

turned_filled : (now : ℕ) (x : Filling (List ℕ)) → FillingIsFilled x → FillingIsFilled (next_turn now x).filling
turned_filled now x h =
    let n : ℕ = offered_payload x.left x.sender in
    turned_if_filled (may_send_new x.sender && nat_lt 0 n) now x (positive_of_both (may_send_new x.sender) n) h

filled_if : (b : Bool) (x y : Filling (List ℕ)) → FillingIsFilled x → FillingIsFilled y → FillingIsFilled (cond b x y)
filled_if true x y h k = h
filled_if false x y h k = k

fill_filled : (n now : ℕ) (x : Filling (List ℕ)) → FillingIsFilled x → FillingIsFilled (fill n now x)
fill_filled zero now x h = h
fill_filled (suc n) now x h =
    let y : QueueStep (List ℕ) = next_turn now x in
    let k : FillingIsFilled y.filling = turned_filled now x h in
    filled_if y.is_more (fill n now y.filling) y.filling (fill_filled n now y.filling k) k

send_filled : (now most : ℕ) (s : Sender) (q : Queue) (t : Emitted (List ℕ)) → SenderIsFilled s → HasRests q → FillingIsFilled (send now most s q t)
send_filled now most s q t h k =
    let left : Changed (List ℕ) = discard_all s.outstanding.items.discards q t in
    let again : Resent = resent most (without_discards s) in
    let f : ResentIsFilled again = resend_filled false _ _ (without_discards s).outstanding h in
    let x : Filling (List ℕ) = filled_with most (without_discards s) again left in
    let y : Filling (List ℕ) = fill (suc x.left) now x in
    let z : FillingIsFilled y = fill_filled (suc x.left) now x (record { sender = f.items; queue = discards_rest s.outstanding.items.discards q t k; chunks = f.chunks }) in
    record { sender = timed_filled (nat_lt 0 (length y.chunks)) now y.sender z.sender; queue = z.queue; chunks = z.chunks }

-- and whatever packets are
pub fragments_filled : (now most : ℕ) (s : Sender) (q : Queue) (t : Emitted Carried) → SenderIsFilled s → HasRests q → FillingIsFilled (send now most s q t)
fragments_filled now most s q t h k =
    let f : Mapping Carried (List ℕ) = record { of = λ p. []; word_of = λ bytes. 0 } in
    let y : FillingIsFilled (map_fragments f (send now most s q t)) =
    subst FillingIsFilled (maps_fragments_sent f now most s q t) (send_filled now most s q (map_emitted f t) h k) in
    record { sender = y.sender; queue = y.queue; chunks = y.chunks }
