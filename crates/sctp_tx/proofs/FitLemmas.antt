-- What goes into a packet fits it.
use Rattle.std.proofs.Common.{◌≡◌, ℕ, zero, suc, ◌+◌, ◌-◌, ◌*◌, ◌/◌, ◌^◌, ◌≤◌, ◌<◌, Bool, true, false, min, Option, Some, None, List, length, refl, ap, sym, ◌∙◌, arith}
use Rattle.std.specs.Prelude.{◌&&◌, nat_lt, if◌then◌else◌}
use Rattle.std.proofs.lemmas.List.Sums.{sum_by_push}
use Rattle.sctp_chunk.specs.Chunk.{FragmentTree}
use Rattle.sctp_state.specs.Events.{Emitted}
use Rattle.sctp_tx_queue.specs.SendQueue.{Queue}
use Rattle.sctp_tx_queue.specs.Produced.{Produced, produce}
use Rattle.sctp_tx_outstanding.specs.Item.{header_size, size_of}
use Rattle.sctp_tx_outstanding.specs.OutstandingData.{next_number, wire_tsn}
use Rattle.sctp_tx_outstanding.specs.Resending.{Resent, empty_packet}
use Rattle.sctp_tx_outstanding.proofs.RoomLemmas.{resend_fits, resent_is_interleaved, fast_room, flying}
use Rattle.sctp_tx.specs.Windows.{saturate_u64}
use Rattle.sctp_tx.specs.RetransmissionQueue.{Sender}
use Rattle.sctp_tx.specs.Resent.{sizes, is_interleaved, flight, room_of, may_send_new, resent_by, resent_fast, send_fast, start_t3_if}
use Rattle.sctp_tx.specs.Resent as again
use Rattle.sctp_tx.specs.Sending.{Filling, offered_payload, append, queue_step_if, next_turn, fill, discard_all, without_discards, filled_with, send}
use Rattle.sctp_tx.specs.Flight.{AddsAtMost, FitWithin}
use Rattle.sctp_tx.proofs.SendingLemmas.{Fits, made_fits}
use Rattle.sctp_tx.proofs.FlightLemmas.{some_offered}

-- what is in the packet, and what it has left
abbrev load : Filling (List ℕ) → ℕ
load x = sizes (is_interleaved x.sender) x.chunks + x.left

-- a chunk whose payload fits what is left behind the header fits what is left
chunk_within : (left room header payload : ℕ) → 0 < min left room / 4 * 4 - header → payload ≤ min left room / 4 * 4 - header → (header + payload + 3) / 4 * 4 ≤ left
chunk_within left room header payload some fits = omega (arith, some, fits)

module _ (now : ℕ) where
  new_load : (x : Filling (List ℕ)) (p : Produced) → 0 < offered_payload x.left x.sender → length p.fragment.payload ≤ offered_payload x.left x.sender → load (append now (Some p) x) ≤ load x
  new_load x p some fits =
      let m = is_interleaved x.sender in
      let sum = sum_by_push (λ (c : ℕ × FragmentTree). size_of m c.1) x.chunks (wire_tsn x.sender.outstanding (next_number x.sender.outstanding.items), p.fragment) in
      let size : size_of m p.fragment ≤ x.left = chunk_within x.left (room_of x.sender) (header_size m) (length p.fragment.payload) some fits in
      omega (arith, sum, size)

  made_load : (x : Filling (List ℕ)) (q : Queue) (emitted : Emitted (List ℕ)) (made : Option Produced) → 0 < offered_payload x.left x.sender → Fits (offered_payload x.left x.sender) made
      → load (append now made (record x { queue = q; emitted = emitted })) ≤ load x
  made_load x q emitted None some fits = omega arith
  made_load x q emitted (Some p) some fits = new_load (record x { queue = q; emitted = emitted }) p some fits

  turn_load : (x : Filling (List ℕ)) → load (next_turn now x).filling ≤ load x
  turn_load x = go (may_send_new x.sender && nat_lt 0 (offered_payload x.left x.sender)) refl where
    go : (b : Bool) → may_send_new x.sender && nat_lt 0 (offered_payload x.left x.sender) ≡ b → load (queue_step_if b now x).filling ≤ load x
    go true e =
        let t = produce now (offered_payload x.left x.sender) x.queue x.emitted in
        made_load x t.queue t.emitted t.made (some_offered (may_send_new x.sender) (offered_payload x.left x.sender) e) (made_fits now (offered_payload x.left x.sender) x.queue x.emitted t.made refl)
    go false e = omega arith

  made_is_interleaved : (x : Filling (List ℕ)) (made : Option Produced) → is_interleaved (append now made x).sender ≡ is_interleaved x.sender
  made_is_interleaved x None = refl
  made_is_interleaved x (Some p) = refl

  turn_is_interleaved : (x : Filling (List ℕ)) → is_interleaved (next_turn now x).filling.sender ≡ is_interleaved x.sender
  turn_is_interleaved x = go (may_send_new x.sender && nat_lt 0 (offered_payload x.left x.sender)) where
    go : (b : Bool) → is_interleaved (queue_step_if b now x).filling.sender ≡ is_interleaved x.sender
    go true =
        let t = produce now (offered_payload x.left x.sender) x.queue x.emitted in
        made_is_interleaved (record x { queue = t.queue; emitted = t.emitted }) t.made
    go false = refl

  record Filled (x y : Filling (List ℕ)) : Type 0 where
    load_is : load y ≤ load x
    interleaved_is : is_interleaved y.sender ≡ is_interleaved x.sender

  fill_fits : (turns : ℕ) (x : Filling (List ℕ)) → Filled x (fill turns now x)
  fill_fits zero x = record { load_is = omega arith; interleaved_is = refl }
  fill_fits (suc turns) x = go (next_turn now x).is_more (turn_load x) (turn_is_interleaved x) (fill_fits turns (next_turn now x).filling) where
    go : (b : Bool) → load (next_turn now x).filling ≤ load x → is_interleaved (next_turn now x).filling.sender ≡ is_interleaved x.sender → Filled (next_turn now x).filling (fill turns now (next_turn now x).filling)
        → Filled x (if b then fill turns now (next_turn now x).filling else (next_turn now x).filling)
    go true a m h = record { load_is = omega (arith, a, h.load_is); interleaved_is = h.interleaved_is ∙ m }
    go false a m h = record { load_is = a; interleaved_is = m }

-- what is left of the packet besides what is sent again
left_over : (bytes room most : ℕ) → most < 2 ^ 64 → bytes ≤ min most room → bytes + (most - saturate_u64 bytes) ≤ most
left_over bytes room most small h = omega (arith, small, h)

pub sent_fits : (now most : ℕ) (s : Sender) (q : Queue) (emitted : Emitted (List ℕ)) → most < 2 ^ 64 → FitWithin most s (send now most s q emitted).chunks
sent_fits now most s q emitted small =
    let first = without_discards s in
    let r : Resent = again.resent most first in
    let x = filled_with most first r (discard_all s.outstanding.items.discards q emitted) in
    let y = fill (suc x.left) now x in
    let room : ℕ = first.windows.cwnd - flight first in
    let again_fits : sizes (is_interleaved s) r.chunks ≤ min most room = resend_fits false (min most room) first.windows.rwnd first.outstanding in
    let m : is_interleaved x.sender ≡ is_interleaved s = resent_is_interleaved false (length first.outstanding.items.kept) (empty_packet (min most room) first.windows.rwnd first.outstanding) in
    let same : sizes (is_interleaved x.sender) r.chunks ≡ sizes (is_interleaved s) r.chunks = ap (λ b. sizes b r.chunks) m in
    let h = fill_fits now (suc x.left) x in
    let end : sizes (is_interleaved s) y.chunks ≡ sizes (is_interleaved y.sender) y.chunks = ap (λ b. sizes b y.chunks) (sym (h.interleaved_is ∙ m)) in
    let over : sizes (is_interleaved x.sender) r.chunks + (most - saturate_u64 (sizes (is_interleaved x.sender) r.chunks)) ≤ most = left_over (sizes (is_interleaved x.sender) r.chunks) room most small (omega (arith, again_fits, same)) in
    omega (arith, h.load_is, end, over)

-- ---- the packet that ignores the congestion window

pub fast_fits : (most : ℕ) (s : Sender) → FitWithin most s (resent_fast most s).chunks
fast_fits most s = resend_fits true most 0 s.outstanding

timed_adds : (b : Bool) (now most : ℕ) (s t : Sender) → AddsAtMost most s t → AddsAtMost most s (start_t3_if b now t)
timed_adds true now most s t h = record { flight = h.flight; cwnd = h.cwnd }
timed_adds false now most s t h = h

pub fast_adds : (now most : ℕ) (s : Sender) → AddsAtMost most s (send_fast now most s)
fast_adds now most s =
    let before = empty_packet most 0 s.outstanding in
    let after : Resent = resent_fast most s in
    let room : flying after + after.room ≤ flying before + before.room = fast_room (length s.outstanding.items.kept) before in
    let adds : AddsAtMost most s (resent_by s after) = record { flight = omega (arith, room); cwnd = refl } in
    timed_adds (nat_lt 0 (length after.chunks)) now most s (resent_by s after) adds
