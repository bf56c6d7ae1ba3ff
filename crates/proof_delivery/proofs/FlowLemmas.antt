-- What a sender does leaves its first TSN and the size of its packets as they are.
use Rattle.std.proofs.Common.{◌≡◌, ℕ, zero, suc, ◌≤◌, ◌&&◌, Bool, true, false, cond, Option, Some, None, List, length, refl, ◌∙◌, arith}
use Rattle.std.specs.Prelude.{slice_get, nat_lt, nat_le}
use Rattle.sctp_chunk.specs.declared.sack.GapAckBlock.{GapAckBlock}
use Rattle.sctp_state.specs.Options.{Options}
use Rattle.sctp_state.specs.Events.{Emitted}
use Rattle.sctp_tx_queue.specs.SendQueue.{Queue}
use Rattle.sctp_tx_queue.specs.Produced.{Produced, Turn, produce}
use Rattle.sctp_tx_queue.specs.Settings.{Changed}
use Rattle.sctp_tx_outstanding.specs.Item.{Item, is_fast, should_be_retransmitted}
use Rattle.sctp_tx_outstanding.specs.OutstandingData.{Items}
use Rattle.sctp_tx_outstanding.specs.Resending.{Resent, size_in, allowance, again_of, fast_turn, queued_turn, turn_of, apply_turn, resent_below}
use Rattle.sctp_tx.specs.Windows.{Windows, maybe_exit_fast_recovery, update_rwnd, is_open}
use Rattle.sctp_tx.specs.RetransmissionQueue.{Sender, sender, sender_if, timed_out_sender, grown_if, recovering_if, windows_after}
use Rattle.sctp_tx.specs.Resent.{may_send_new, resent, resent_fast, resent_by, start_t3_if, start_t3_if_sent, send_fast}
use Rattle.sctp_tx.specs.ForwardPoints.{abandon_expired, most_of}
use Rattle.sctp_tx.specs.Sending.{Filling, append, offered_payload, queue_step_if, next_turn, fill, discard_all, without_discards, filled_with, send}

pub record HasSame (before after : Sender) : Type 0 where
  pub first : after.outstanding.first ≡ before.outstanding.first
  pub mtu : after.windows.mtu ≡ before.windows.mtu

pub same_sender : (s : Sender) → HasSame s s
same_sender s = record { first = refl; mtu = refl }

pub same_then : (s t u : Sender) → HasSame s t → HasSame t u → HasSame s u
same_then s t u a b = record { first = b.first ∙ a.first; mtu = b.mtu ∙ a.mtu }

-- a forward point with an entry fits a packet
pub room_at_first : (o : Options) (first a_rwnd : ℕ) (is_partial is_interleaved : Bool) → 256 ≤ o.mtu → 16 ≤ most_of (sender o first a_rwnd is_partial is_interleaved)
room_at_first o first a_rwnd is_partial is_interleaved least = omega (arith, least)

pub room_stays : (s t : Sender) → HasSame s t → 16 ≤ most_of s → 16 ≤ most_of t
room_stays s t h room = omega (arith, h.mtu, room)

-- ---- windows

grows_if : (b : Bool) (before acked : ℕ) (w : Windows) → (grown_if b before acked w).mtu ≡ w.mtu
grows_if true before acked w = refl
grows_if false before acked w = refl

recovers_if : (b : Bool) (exit : ℕ) (w : Windows) → (recovering_if b exit w).mtu ≡ w.mtu
recovers_if true exit w = refl
recovers_if false exit w = refl

windows_same : (n a_rwnd : ℕ) (moved is_lossy : Bool) (before acked payload exit : ℕ) (w : Windows)
    → (windows_after n a_rwnd moved is_lossy before acked payload exit w).mtu ≡ w.mtu
windows_same n a_rwnd moved is_lossy before acked payload exit w =
    recovers_if (is_lossy && is_open n w) exit _ ∙ grows_if (moved && is_open n w) before acked (update_rwnd a_rwnd payload (maybe_exit_fast_recovery n w))

timed_same : (b : Bool) (now : ℕ) (s : Sender) → HasSame s (start_t3_if b now s)
timed_same true now s = record { first = refl; mtu = refl }
timed_same false now s = record { first = refl; mtu = refl }

-- ---- what is sent again

again_first : (k : ℕ) (o : Option Item) (x : Resent) → (again_of k o x).outstanding.first ≡ x.outstanding.first
again_first k None x = refl
again_first k (Some i) x = refl

fast_first : (a b : Bool) (i : Item) (k : ℕ) (x : Resent) → is_fast i ≡ a → nat_le (size_in x i) x.room ≡ b
    → (apply_turn (fast_turn i x) k x).outstanding.first ≡ x.outstanding.first
fast_first true true i k x e f = rw (e, f) (again_first k (slice_get x.outstanding.items.kept k) x)
fast_first true false i k x e f = rw (e, f) refl
fast_first false b i k x e f = rw e refl

queued_first : (b : Bool) (i : Item) (k : ℕ) (x : Resent) → (should_be_retransmitted i && nat_le (size_in x i) (allowance x)) ≡ b
    → (apply_turn (queued_turn i x) k x).outstanding.first ≡ x.outstanding.first
queued_first true i k x e = rw e (again_first k (slice_get x.outstanding.items.kept k) x)
queued_first false i k x e = rw e refl

apply_turn_keeps_first : (fast : Bool) (o : Option Item) (k : ℕ) (x : Resent) → (apply_turn (turn_of fast o x) k x).outstanding.first ≡ x.outstanding.first
apply_turn_keeps_first fast None k x = refl
apply_turn_keeps_first true (Some i) k x = fast_first (is_fast i) (nat_le (size_in x i) x.room) i k x refl refl
apply_turn_keeps_first false (Some i) k x = queued_first (should_be_retransmitted i && nat_le (size_in x i) (allowance x)) i k x refl

below_first : (fast : Bool) (n : ℕ) (x : Resent) → (resent_below fast n x).outstanding.first ≡ x.outstanding.first
below_first fast zero x = refl
below_first fast (suc n) x =
    let y : Resent = resent_below fast n x in
    apply_turn_keeps_first fast (slice_get y.outstanding.items.kept n) n y ∙ below_first fast n x

resends_same : (x : Resent) (s : Sender) → x.outstanding.first ≡ s.outstanding.first → HasSame s (resent_by s x)
resends_same x s e = record { first = e; mtu = refl }

-- ---- the operations

module _ {P : Type 0} where
  pub received_same : (b : Bool) (now n a_rwnd : ℕ) (blocks : List GapAckBlock) (s : Sender) (t : Emitted P) → HasSame s (sender_if b now n a_rwnd blocks s t)
  received_same true now n a_rwnd blocks s t = record { first = refl; mtu = windows_same n a_rwnd _ _ _ _ _ _ s.windows }
  received_same false now n a_rwnd blocks s t = same_sender s

  pub expired_same : (now : ℕ) (s : Sender) (t : Emitted P) → HasSame s (abandon_expired now s t)
  expired_same now s t = record { first = refl; mtu = refl }

  appends_same : (now : ℕ) (o : Option Produced) (x : Filling P) → HasSame x.sender (append now o x).sender
  appends_same now None x = same_sender x.sender
  appends_same now (Some p) x = record { first = refl; mtu = refl }

  actions_same : (b : Bool) (now : ℕ) (x : Filling P) → HasSame x.sender (queue_step_if b now x).filling.sender
  actions_same true now x =
      let y : Turn P = produce now (offered_payload x.left x.sender) x.queue x.emitted in
      appends_same now y.made (record x { queue = y.queue; emitted = y.emitted })
  actions_same false now x = same_sender x.sender

  fills_if : (b : Bool) (s : Sender) (x y : Filling P) → HasSame s x.sender → HasSame s y.sender → HasSame s (cond b y x).sender
  fills_if true s x y h k = k
  fills_if false s x y h k = h

  fills_same : (n now : ℕ) (x : Filling P) → HasSame x.sender (fill n now x).sender
  fills_same zero now x = same_sender x.sender
  fills_same (suc n) now x =
      let y : Filling P = (next_turn now x).filling in
      let h : HasSame x.sender y.sender = actions_same (may_send_new x.sender && nat_lt 0 (offered_payload x.left x.sender)) now x in
      fills_if (next_turn now x).is_more x.sender y (fill n now y) h (same_then x.sender y.sender (fill n now y).sender h (fills_same n now y))

  pub send_same : (now most : ℕ) (s : Sender) (q : Queue) (t : Emitted P) → HasSame s (send now most s q t).sender
  send_same now most s q t =
      let left : Changed P = discard_all s.outstanding.items.discards q t in
      let bare : Sender = without_discards s in
      let again : Resent = resent most bare in
      let x : Filling P = filled_with most bare again left in
      let y : Filling P = fill (suc x.left) now x in
      let first : again.outstanding.first ≡ s.outstanding.first = below_first false (length bare.outstanding.items.kept) _ in
      let h : HasSame s x.sender = record { first = first; mtu = refl } in
      let k : HasSame s y.sender = same_then s x.sender y.sender h (fills_same (suc x.left) now x) in
      same_then s y.sender (start_t3_if_sent now y.chunks y.sender) k (timed_same (nat_lt 0 (length y.chunks)) now y.sender)

pub timed_out_same : (now : ℕ) (after : Items) (s : Sender) → HasSame s (timed_out_sender now after s)
timed_out_same now after s = record { first = refl; mtu = refl }

pub send_fast_same : (now most : ℕ) (s : Sender) → HasSame s (send_fast now most s)
send_fast_same now most s =
    let x : Resent = resent_fast most s in
    let y : Sender = resent_by s x in
    let h : HasSame s y = resends_same x s (below_first true (length s.outstanding.items.kept) _) in
    same_then s y (start_t3_if_sent now x.chunks y) h (timed_same (nat_lt 0 (length x.chunks)) now y)
