-- What the sender sends and keeps stays fitting.
use Rattle.std.proofs.Common.{ℕ, zero, suc, not, nat_lt, Bool, true, false, cond, Option, Some, None, List, [], ◌∷◌, length}
use Rattle.std.specs.Prelude.{◌&&◌}
use Rattle.sctp_chunk.specs.declared.sack.GapAckBlock.{GapAckBlock}
use Rattle.sctp_packet.specs.Grammar.{Each, FitsFragment, FitsChunk}
use Rattle.sctp_state.specs.Events.{Emitted}
use Rattle.sctp_state.specs.Handover.{OutstandingData, Transmission}
use Rattle.sctp_tx_outstanding.specs.OutstandingData.{Discard, next_number}
use Rattle.sctp_tx_outstanding.specs.Handover.{fragment_from}
use Rattle.sctp_tx_outstanding.specs.Resending.{Resent}
use Rattle.sctp_tx_queue.specs.SendQueue.{Queue}
use Rattle.sctp_tx_queue.specs.Produced.{Produced, Turn, produce}
use Rattle.sctp_tx_queue.specs.Settings.{Changed, discard}
use Rattle.sctp_tx.specs.Windows.{is_open}
use Rattle.sctp_tx.specs.RetransmissionQueue.{Sender, sender_if}
use Rattle.sctp_tx.specs.Resent.{is_interleaved, may_send_new, resent, resent_fast, start_t3_if, send_fast}
use Rattle.sctp_tx.specs.ForwardPoints.{abandon_expired, most_of, chunk_if, forward_chunk}
use Rattle.sctp_tx.specs.Sending.{Filling, QueueStep, item_of, append, offered_payload, queue_step_if, next_turn, fill, discard_all, without_discards, filled_with, send}
use Rattle.sctp_tx.specs.Handover.{restore}
use Rattle.proof_endpoint.specs.Sound.{FitsItem, FitsItems, FitsQueue}
use Rattle.proof_endpoint.proofs.ReceivedLemmas.{each_push}
use Rattle.proof_endpoint.proofs.SoundItemsLemmas.{receive_fits, expired_fits, FitsSent, word_small, FitsResent, resend_fits, point_fits, ssn_skips_fit, mid_skips_fit, items_from_fit}
use Rattle.proof_endpoint.proofs.SoundQueueLemmas.{discard_fits, FitsMade, FitsTurn, produce_fits}

abbrev pub FitsSender : Sender → Type 0
FitsSender s = FitsItems s.outstanding.items

module _ {P : Type 0} where
  pub received_fits : (b : Bool) (now n a_rwnd : ℕ) (blocks : List GapAckBlock) (s : Sender) (t : Emitted P) → FitsSender s → FitsSender (sender_if b now n a_rwnd blocks s t)
  received_fits true now n a_rwnd blocks s t h = receive_fits n blocks s.windows.avoids_stalls (not (is_open n s.windows)) s.outstanding.items t h
  received_fits false now n a_rwnd blocks s t h = h

  pub sender_expired_fits : (now : ℕ) (s : Sender) (t : Emitted P) → FitsSender s → FitsSender (abandon_expired now s t)
  sender_expired_fits now s t h = expired_fits now s.outstanding.items t h

pub sender_restored_fits : (now : ℕ) (tx : Transmission) (s : Sender) → Each (λ (d : OutstandingData). FitsFragment (fragment_from d)) tx.outstanding_data → FitsSender (restore now tx s)
sender_restored_fits now tx s h = items_from_fit now tx.outstanding_data h

-- ---- a forward point

point_chunk_fits : (b : Bool) (s : Sender) → FitsSender s → FitsChunk (chunk_if b s)
point_chunk_fits true s h = record { new_cumulative_tsn = word_small s.outstanding.first _; entries = mid_skips_fit _ (point_fits (most_of s) s.outstanding.items h) }
point_chunk_fits false s h = record { new_cumulative_tsn = word_small s.outstanding.first _; entries = ssn_skips_fit _ (point_fits (most_of s) s.outstanding.items h) }

pub forward_chunk_fits : (s : Sender) → FitsSender s → FitsChunk (forward_chunk s)
forward_chunk_fits s h = point_chunk_fits (is_interleaved s) s h

-- ---- what is sent again

timed_fits : (b : Bool) (now : ℕ) (s : Sender) → FitsSender s → FitsSender (start_t3_if b now s)
timed_fits true now s h = h
timed_fits false now s h = h

pub resent_fast_fits : (most : ℕ) (s : Sender) → FitsSender s → FitsResent (resent_fast most s)
resent_fast_fits most s h = resend_fits true most 0 s.outstanding h

pub sent_fast_fits : (now most : ℕ) (s : Sender) → FitsSender s → FitsSender (send_fast now most s)
sent_fast_fits now most s h = timed_fits (nat_lt 0 (length (resent_fast most s).chunks)) now _ (resent_fast_fits most s h).items

-- ---- what a packet takes

pub record FitsFilling {P : Type 0} (x : Filling P) : Type 0 where
  pub sender : FitsSender x.sender
  pub queue : FitsQueue x.queue
  pub chunks : Each FitsSent x.chunks

module _ {P : Type 0} where
  discards_fit : (ds : List Discard) (q : Queue) (t : Emitted P) → FitsQueue q → FitsQueue (discard_all ds q t).queue
  discards_fit [] q t h = h
  discards_fit (d ∷ ds) q t h =
      let x : Changed P = discard d.stream d.number q t in
      discards_fit ds x.queue x.emitted (discard_fits d.stream d.number q t h)

  appended_fits : (now : ℕ) (o : Option Produced) (x : Filling P) → FitsMade o → FitsFilling x → FitsFilling (append now o x)
  appended_fits now None x f h = h
  appended_fits now (Some p) x f h = record {
    sender = each_push FitsItem x.sender.outstanding.items.kept (item_of now p) h.sender f;
    queue = h.queue;
    chunks = each_push FitsSent x.chunks _ h.chunks (word_small x.sender.outstanding.first (next_number x.sender.outstanding.items), f);
  }

  turned_fits : (b : Bool) (now : ℕ) (x : Filling P) → FitsFilling x → FitsFilling (queue_step_if b now x).filling
  turned_fits true now x h =
      let y : Turn P = produce now (offered_payload x.left x.sender) x.queue x.emitted in
      let k : FitsTurn y = produce_fits now (offered_payload x.left x.sender) x.queue x.emitted h.queue in
      appended_fits now y.made (record x { queue = y.queue; emitted = y.emitted }) k.made (record { sender = h.sender; queue = k.queue; chunks = h.chunks })
  turned_fits false now x h = h

  fits_if : (b : Bool) (x y : Filling P) → FitsFilling x → FitsFilling y → FitsFilling (cond b x y)
  fits_if true x y h k = h
  fits_if false x y h k = k

  fill_fits : (n now : ℕ) (x : Filling P) → FitsFilling x → FitsFilling (fill n now x)
  fill_fits zero now x h = h
  fill_fits (suc n) now x h =
      let y : QueueStep P = next_turn now x in
      let k : FitsFilling y.filling = turned_fits (may_send_new x.sender && nat_lt 0 (offered_payload x.left x.sender)) now x h in
      fits_if y.is_more (fill n now y.filling) y.filling (fill_fits n now y.filling k) k

  pub send_fits : (now most : ℕ) (s : Sender) (q : Queue) (t : Emitted P) → FitsSender s → FitsQueue q → FitsFilling (send now most s q t)
  send_fits now most s q t h k =
      let left : Changed P = discard_all s.outstanding.items.discards q t in
      let again : Resent = resent most (without_discards s) in
      let f : FitsResent again = resend_fits false _ _ (without_discards s).outstanding h in
      let x : Filling P = filled_with most (without_discards s) again left in
      let y : Filling P = fill (suc x.left) now x in
      let z : FitsFilling y = fill_fits (suc x.left) now x (record { sender = f.items; queue = discards_fit s.outstanding.items.discards q t k; chunks = f.chunks }) in
      record { sender = timed_fits (nat_lt 0 (length y.chunks)) now y.sender z.sender; queue = z.queue; chunks = z.chunks }
