-- Bursts that find nothing to send.
use Rattle.std.proofs.Common.{◌≡◌, ℕ, suc, ◌-◌, ◌&&◌, nat_lt, if◌then◌else◌, Bool, true, false, None, List, [], refl, ap, ◌∙◌, arith}
use Rattle.sctp_packet.specs.Chunk.{FragmentTree}
use Rattle.sctp_state.specs.Events.{Emitted}
use Rattle.sctp_state.specs.Timer.{Timer}
use Rattle.sctp_tx_outstanding.specs.Item.{Item}
use Rattle.sctp_tx_outstanding.specs.OutstandingData.{Outstanding}
use Rattle.sctp_tx_outstanding.specs.Resending.{Resent, resend, empty_packet}
use Rattle.sctp_tx_queue.specs.SendQueue.{Streams, Queue}
use Rattle.sctp_tx_queue.specs.Settings.{Changed}
use Rattle.sctp_tx.specs.Windows.{Windows, consume_rwnd}
use Rattle.sctp_tx.specs.RetransmissionQueue.{Sender}
use Rattle.sctp_tx.specs.Resent.{may_send_new}
use Rattle.sctp_tx.specs.Sending as fragments
use Rattle.sctp_tx.specs.Sending.{filling, fill, offered_payload, filled_with, timed_filling, send}
use Rattle.spec_endpoint.specs.Association.{Tcb, Context}
use Rattle.spec_endpoint.specs.Packets.{PacketDraft, has_chunks, room}
use Rattle.spec_endpoint.specs.Sending.{Filling, with_fragments, with_data, burst_step_if, continue_burst, burst}

minus_none : (n : ℕ) → n - 0 ≡ n
minus_none n = omega arith

consume_none : (w : Windows) → consume_rwnd 0 w ≡ w
consume_none w = ap (λ (n : ℕ). record w { rwnd = n }) (minus_none w.rwnd)

-- a sender that never sent anything again, with these items
abbrev pub kept_items : (first acked : ℕ) → List Item → Outstanding
kept_items first acked kept = record {
  first = first;
  items = record { acked = acked; kept = kept; breaks = []; discards = []; is_partial = true; is_interleaved = false };
}

abbrev pub still : Outstanding → Windows → Timer → (is_sampled : Bool) → Sender
still d w t3 is_sampled = record { outstanding = d; windows = w; t3 = t3; rtx_packets = 0; rtx_bytes = 0; is_sampled = is_sampled }

pub none_kept : (first acked left window : ℕ) → resend false left window (kept_items first acked []) ≡ empty_packet left window (kept_items first acked [])
none_kept first acked left window = refl

-- ---- nothing is queued

module _ {P : Type 0} (ss : Streams) (time most_payload number : ℕ) (emitted : Emitted P) where
  abbrev pub idle_queue : Queue
  idle_queue = record {
    streams = ss;
    scheduler = record { times = []; virtual_time = time; is_interleaved = false; most_payload = most_payload };
    next_number = number;
    begun = None;
  }

  turned_idle : (now : ℕ) (may : Bool) (s : Sender) (chunks : List (ℕ × FragmentTree)) (left : ℕ)
      → fragments.queue_step_if may now (filling s idle_queue emitted chunks left) ≡ record { filling = filling s idle_queue emitted chunks left; is_more = false }
  turned_idle now true s chunks left = refl
  turned_idle now false s chunks left = refl

  pub fill_idle : (turns now : ℕ) (s : Sender) (chunks : List (ℕ × FragmentTree)) (left : ℕ)
      → fill (suc turns) now (filling s idle_queue emitted chunks left) ≡ filling s idle_queue emitted chunks left
  fill_idle turns now s chunks left =
      ap (λ (t : fragments.QueueStep P). if t.is_more then fill turns now t.filling else t.filling)
      (turned_idle now (may_send_new s && nat_lt 0 (offered_payload left s)) s chunks left)

  -- ---- and nothing is to be sent again

  module _ (first acked : ℕ) (kept : List Item) (w : Windows) (t3 : Timer) (is_sampled : Bool) where
    abbrev d : Outstanding
    d = kept_items first acked kept

    abbrev s : Sender
    s = still d w t3 is_sampled

    module _ (none : (left window : ℕ) → resend false left window d ≡ empty_packet left window d) where
      send_idle : (now most : ℕ) → send now most s idle_queue emitted ≡ filling s idle_queue emitted [] (most - 0)
      send_idle now most =
          let left : Changed P = record { queue = idle_queue; emitted = emitted } in
          ap (λ (x : Resent). fragments.fill_and_start_t3 now (filled_with most s x left)) (none _ _)
          ∙ ap (λ (x : fragments.Filling P). timed_filling now x) (fill_idle (most - 0) now (still d (consume_rwnd 0 w) t3 is_sampled) [] (most - 0))
          ∙ ap (λ (v : Windows). filling (still d v t3 is_sampled) idle_queue emitted [] (most - 0)) (consume_none w)

      pub data_idle : (p : PacketDraft) (t : Tcb) (c : Context P)
          → with_data (record { packet = p; tcb = record t { sender = s }; context = record c { queue = idle_queue; emitted = emitted } })
          ≡ record { packet = p; tcb = record t { sender = s }; context = record c { queue = idle_queue; emitted = emitted } }
      data_idle p t c =
          ap (λ (f : fragments.Filling P). with_fragments f (record { packet = p; tcb = record t { sender = s }; context = record c { queue = idle_queue; emitted = emitted } }))
          (send_idle c.now (room p))

      -- a further packet of a burst isn't sent
      pub burst_ends : (turns : ℕ) (p : PacketDraft) (t : Tcb) (c : Context P)
          → burst (suc turns) false false (record { packet = record p { chunks = [] }; tcb = record t { sender = s }; context = record c { queue = idle_queue; emitted = emitted } })
          ≡ record { packet = record p { chunks = [] }; tcb = record t { sender = s }; context = record c { queue = idle_queue; emitted = emitted } }
      burst_ends turns p t c =
          ap (λ (y : Filling P). continue_burst (burst turns false false) (burst_step_if (has_chunks y.packet) false y)) (data_idle (record p { chunks = [] }) t c)
