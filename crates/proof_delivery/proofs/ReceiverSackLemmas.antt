-- An acknowledgement that a receiver makes, by the rules: what it says is true, and the values show the state after it.
use Rattle.std.proofs.Common.{◌≡◌, ℕ, ◌+◌, ◌-◌, Bool, inl, List, [], ◌∷◌, refl, ap, arith}
use Rattle.sctp_serial.specs.Messages as messages
use Rattle.sctp_serial.specs.Unwrapped.{origin, u32_space, wire}
use Rattle.proof_protocol.specs.State.{Message}
use Rattle.proof_protocol.specs.Rules.{IsAllowed, send_sack}
use Rattle.proof_refines.specs.Resets.{base_now}
use Rattle.proof_refines.proofs.RowLemmas.{sack_allowed, sender_goes}
use Rattle.proof_refines.proofs.NearRowLemmas.{sender_keeps}
use Rattle.proof_refines.proofs.NearKeptLemmas.{sender_keeps_mids}
use Rattle.spec_endpoint.specs.Association.{Tcb}
use Rattle.spec_endpoint.specs.Sending.{selective_ack}
use Rattle.proof_delivery.proofs.ClaimLemmas.{Direction, transfer_of, IsKept, IsReceiving, SaysIn}
use Rattle.proof_delivery.proofs.ReadingLemmas.{front_of, front_at, front_between}
use Rattle.proof_delivery.proofs.ReceiverToolLemmas.{led, receiving_goes, led_kept, waits_still}
use Rattle.proof_delivery.proofs.ReceiverDataLemmas.{Leads}

module _ (message : ℕ → Message) (is_interleaved : Bool) (x : Direction) (kept : IsKept message is_interleaved x) (handed : List messages.Message) (t : Tcb) (shown : IsReceiving message is_interleaved handed t x) where
  abbrev point : ℕ
  point = front_of t.tracker.tracker

  may : IsAllowed message is_interleaved (transfer_of x) (send_sack point)
  may =
      sack_allowed message is_interleaved shown.shift (base_now x.rules) (transfer_of x) handed t.tracker.tracker t.reassembly shown.refines kept.epochs.order.kept point
      (front_at message is_interleaved (base_now x.rules) shown.shift (transfer_of x) kept.epochs.order.kept handed t.tracker.tracker t.reassembly shown.refines shown.is_tracker)

  abbrev sack_sent : Direction
  sack_sent = led message is_interleaved x (send_sack point ∷ [])

  abbrev sack_leads : Leads message is_interleaved handed x t
  sack_leads = record {
    to = sack_sent;
    goes = receiving_goes message is_interleaved x (send_sack point ∷ []) ((may, tt), tt) refl;
    kept = led_kept message is_interleaved x (send_sack point ∷ []) kept ((may, tt), tt);
    stay = (refl, refl);
    performed = λ s. refl;
    shown = record {
      shift = shown.shift;
      refines = sender_goes message is_interleaved shown.shift (base_now x.rules) (transfer_of x) handed t.tracker.tracker t.reassembly shown.refines (send_sack point) kept.epochs.order.kept may refl;
      near = record {
        tsns = sender_keeps message is_interleaved t.tracker.first shown.shift (transfer_of x) (send_sack point) t.reassembly kept.epochs.order.kept may refl shown.near.tsns;
        mids = λ m. sender_keeps_mids message is_interleaved (transfer_of x) kept.epochs.order.kept m (send_sack point) may refl (base_now x.rules) t.reassembly (shown.near.mids m);
        start = shown.near.start;
      };
      is_tracker = shown.is_tracker;
      waiting = waits_still x.rules sack_sent.rules refl (λ r a. a) shown.shift t.reassembly.first t.reassembly.deferred shown.waiting;
      first = shown.first;
      answers = shown.answers;
    };
  }

  sack_says : SaysIn t.tracker.first (transfer_of x).acknowledged sack_sent (selective_ack t)
  sack_says =
      let at = front_at message is_interleaved (base_now x.rules) shown.shift (transfer_of x) kept.epochs.order.kept handed t.tracker.tracker t.reassembly shown.refines shown.is_tracker in
      let between = front_between message is_interleaved (base_now x.rules) shown.shift (transfer_of x) kept.epochs.order.kept handed t.tracker.tracker t.reassembly shown.refines shown.is_tracker in
      let front : t.tracker.tracker.seen.front ≡ origin + point - 1 = omega (arith, at) in
      record {
        point = point;
        sent = inl refl;
        written = ap (λ n. wire u32_space t.tracker.first n) front;
        from = between.0;
      }

  -- it leads on, and says what is true then
  pub sack_made : (l : Leads message is_interleaved handed x t) × SaysIn t.tracker.first (transfer_of x).acknowledged l.to (selective_ack t)
  sack_made = (sack_leads, sack_says)
