-- What a packet adds to the bytes in flight.
use Rattle.std.proofs.Common.{◌≡◌, ℕ, zero, suc, ◌+◌, ◌-◌, ◌*◌, ◌/◌, ◌^◌, ◌≤◌, ◌<◌, Bool, true, false, min, max, Option, Some, None, List, length, refl, ◌∙◌, arith}
use Rattle.std.specs.Prelude.{◌&&◌, nat_lt, if◌then◌else◌}
use Rattle.std.proofs.lemmas.Bool.Decides.{nat_tests}
use Rattle.std.proofs.lemmas.List.Sums.{sum_by_push}
use Rattle.sctp_state.specs.Events.{Emitted}
use Rattle.sctp_tx_queue.specs.SendQueue.{Queue}
use Rattle.sctp_tx_queue.specs.Produced.{Produced, produce}
use Rattle.sctp_tx_outstanding.specs.Item.{header_size, size_of}
use Rattle.sctp_tx_outstanding.specs.OutstandingData.{packet_part, flight_bytes}
use Rattle.sctp_tx_outstanding.specs.Resending.{resent_below, empty_packet}
use Rattle.sctp_tx_outstanding.proofs.RoomLemmas.{flying, resent_room}
use Rattle.sctp_tx.specs.Windows.{saturate_u64, room_within}
use Rattle.sctp_tx.specs.RetransmissionQueue.{Sender, nothing_in_flight}
use Rattle.sctp_tx.specs.Resent.{flight, room_of, may_send_new, resent_by, start_t3_if}
use Rattle.sctp_tx.specs.Resent as again
use Rattle.sctp_tx.specs.Sending.{Filling, offered_payload, item_of, sent_new, append, queue_step_if, next_turn, fill, discard_all, without_discards, filled_with, send}
use Rattle.sctp_tx.specs.Flight.{StaysWithin}
use Rattle.sctp_tx.proofs.SendingLemmas.{Fits, made_fits}

-- ---- new fragments fit the room

within_left : (b : Bool) (left rwnd : ℕ) → room_within b left rwnd ≤ left
within_left true left rwnd = omega arith
within_left false left rwnd = omega arith

room_left : (s : Sender) → room_of s ≤ s.windows.cwnd - saturate_u64 (flight_bytes s.outstanding.items)
room_left s = within_left (nothing_in_flight s.outstanding.items) (s.windows.cwnd - flight s) s.windows.rwnd

-- a chunk whose payload fits what is left behind the header fits the room
chunk_fits : (left room header payload : ℕ) → 0 < min left room / 4 * 4 - header → payload ≤ min left room / 4 * 4 - header → (header + payload + 3) / 4 * 4 ≤ room
chunk_fits left room header payload some fits = omega (arith, some, fits)

pub some_offered : (b : Bool) (n : ℕ) → b && nat_lt 0 n ≡ true → 0 < n
some_offered true n e = grind (arith, nat_tests)
some_offered false n e = absurd (cc)

no_more_lem : (flight after cwnd size room : ℕ) → cwnd < 2 ^ 64 → room ≤ cwnd - saturate_u64 flight → size ≤ room → 4 ≤ room → after ≡ flight + size → after ≤ max flight cwnd
no_more_lem flight after cwnd size room small a b c e = omega (arith, small, a, b, c, e)

pub itself : (s : Sender) → StaysWithin s s
itself s = record { flight = omega arith; cwnd = refl }

on : (s t u : Sender) → StaysWithin s t → StaysWithin t u → StaysWithin s u
on s t u a b = record { flight = omega (arith, a.flight, a.cwnd, b.flight); cwnd = b.cwnd ∙ a.cwnd }

room_needed : (left room header payload : ℕ) → 0 < min left room / 4 * 4 - header → 4 ≤ room
room_needed left room header payload some = omega (arith, some)

new_stays : (now left : ℕ) (s : Sender) (p : Produced) → s.windows.cwnd < 2 ^ 64 → 0 < offered_payload left s → length p.fragment.payload ≤ offered_payload left s → StaysWithin s (sent_new now p s)
new_stays now left s p small some fits =
    let m = s.outstanding.items.is_interleaved in
    let f : ℕ = flight_bytes s.outstanding.items in
    let sum : flight_bytes (sent_new now p s).outstanding.items ≡ f + size_of m p.fragment = sum_by_push (packet_part m) s.outstanding.items.kept (item_of now p) in
    let size : size_of m p.fragment ≤ room_of s = chunk_fits left (room_of s) (header_size m) (length p.fragment.payload) some fits in
    let some_room = room_needed left (room_of s) (header_size m) 0 some in
    record { flight = no_more_lem f (flight_bytes (sent_new now p s).outstanding.items) s.windows.cwnd (size_of m p.fragment) (room_of s) small (room_left s) size some_room sum; cwnd = refl }

module _ (now : ℕ) where
  made_stays : (x : Filling (List ℕ)) (q : Queue) (emitted : Emitted (List ℕ)) (made : Option Produced) → x.sender.windows.cwnd < 2 ^ 64 → 0 < offered_payload x.left x.sender
      → Fits (offered_payload x.left x.sender) made → StaysWithin x.sender (append now made (record x { queue = q; emitted = emitted })).sender
  made_stays x q emitted None small some fits = itself x.sender
  made_stays x q emitted (Some p) small some fits = new_stays now x.left x.sender p small some fits

  turn_stays : (x : Filling (List ℕ)) → x.sender.windows.cwnd < 2 ^ 64 → StaysWithin x.sender (next_turn now x).filling.sender
  turn_stays x small = go (may_send_new x.sender && nat_lt 0 (offered_payload x.left x.sender)) refl where
    go : (b : Bool) → may_send_new x.sender && nat_lt 0 (offered_payload x.left x.sender) ≡ b → StaysWithin x.sender (queue_step_if b now x).filling.sender
    go true e =
        let t = produce now (offered_payload x.left x.sender) x.queue x.emitted in
        made_stays x t.queue t.emitted t.made small (some_offered (may_send_new x.sender) (offered_payload x.left x.sender) e) (made_fits now (offered_payload x.left x.sender) x.queue x.emitted t.made refl)
    go false e = itself x.sender

  fill_stays : (turns : ℕ) (x : Filling (List ℕ)) → x.sender.windows.cwnd < 2 ^ 64 → StaysWithin x.sender (fill turns now x).sender
  fill_stays zero x small = itself x.sender
  fill_stays (suc turns) x small =
      let first = turn_stays x small in
      go (next_turn now x).is_more first (fill_stays turns (next_turn now x).filling (omega (arith, small, first.cwnd)))
    where
      go : (b : Bool) → StaysWithin x.sender (next_turn now x).filling.sender → StaysWithin (next_turn now x).filling.sender (fill turns now (next_turn now x).filling).sender
          → StaysWithin x.sender (if b then fill turns now (next_turn now x).filling else (next_turn now x).filling).sender
      go true a b = on x.sender (next_turn now x).filling.sender (fill turns now (next_turn now x).filling).sender a b
      go false a b = a

  timed_stays : (b : Bool) (s : Sender) → StaysWithin s (start_t3_if b now s)
  timed_stays true s = record { flight = omega arith; cwnd = refl }
  timed_stays false s = itself s

-- ---- the whole

not_over : (before after room most cwnd : ℕ) → cwnd < 2 ^ 64 → after + room ≤ before + min most (cwnd - saturate_u64 before) → after ≤ max before cwnd
not_over before after room most cwnd small h = omega (arith, small, h)

resent_stays : (most : ℕ) (s : Sender) → s.windows.cwnd < 2 ^ 64 → StaysWithin s (resent_by s (again.resent most s))
resent_stays most s small =
    let before = empty_packet (min most (s.windows.cwnd - flight s)) s.windows.rwnd s.outstanding in
    let after = resent_below false (length s.outstanding.items.kept) before in
    record {
      flight = not_over (flight_bytes s.outstanding.items) (flying after) after.room most s.windows.cwnd small (resent_room (length s.outstanding.items.kept) before);
      cwnd = refl;
    }

pub stays_within : (now most : ℕ) (s : Sender) (q : Queue) (emitted : Emitted (List ℕ)) → s.windows.cwnd < 2 ^ 64 → StaysWithin s (send now most s q emitted).sender
stays_within now most s q emitted small =
    let first = without_discards s in
    let x = filled_with most first (again.resent most first) (discard_all s.outstanding.items.discards q emitted) in
    let y = fill (suc x.left) now x in
    let a : StaysWithin first x.sender = resent_stays most first small in
    let b : StaysWithin x.sender y.sender = fill_stays now (suc x.left) x small in
    let c : StaysWithin first y.sender = on first x.sender y.sender a b in
    let d : StaysWithin y.sender (start_t3_if (nat_lt 0 (length y.chunks)) now y.sender) = timed_stays now (nat_lt 0 (length y.chunks)) y.sender in
    let e = on first y.sender (start_t3_if (nat_lt 0 (length y.chunks)) now y.sender) c d in
    record { flight = e.flight; cwnd = e.cwnd }
