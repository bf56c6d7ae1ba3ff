-- Where there is nothing to send, a packet takes nothing, and nothing changes.
use Rattle.std.proofs.Common.{◌≡◌, ℕ, zero, suc, ◌+◌, ◌-◌, ◌≤◌, ◌<◌, ◌^◌, Bool, true, false, min, Option, Some, None, List, [], ◌∷◌, length, refl, ◌∙◌, ap, sym, arith}
use Rattle.std.specs.Prelude.{◌==◌, ◌&&◌, ◌||◌, not, nat_lt, is_some}
use Rattle.std.proofs.lemmas.Bool.Decides.{nat_tests}
use Rattle.sctp_state.specs.Events.{Emitted}
use Rattle.sctp_tx_queue.specs.SendQueue.{Queue}
use Rattle.sctp_tx_queue.specs.Produced.{produce, idle}
use Rattle.sctp_tx_queue.specs.Settings.{Changed}
use Rattle.sctp_tx_outstanding.specs.OutstandingData.{Discard, waiting_items}
use Rattle.sctp_tx_outstanding.specs.Resending.{Resent, empty_packet}
use Rattle.sctp_tx_outstanding.proofs.RoomLemmas.{resend_quiet, no_more_lem}
use Rattle.sctp_tx.specs.Windows.{saturate_u64}
use Rattle.sctp_tx.specs.RetransmissionQueue.{Sender}
use Rattle.sctp_tx.specs.Resent.{flight, may_send_new, resent_by}
use Rattle.sctp_tx.specs.Resent as again
use Rattle.sctp_tx.specs.Sending.{Filling, filling, offered_payload, queue_step_if, fill, without_discards, discard_all, filled_with, timed_filling, fill_and_start_t3, send, is_idle}

record Idle (s : Sender) (q : Queue) : Type 0 where
  discards : s.outstanding.items.discards ≡ []
  waiting : waiting_items s.outstanding.items ≤ 0
  begun : q.begun ≡ None
  times : q.scheduler.times ≡ []

pub none_of : {T : Type 0} (l : List T) → length l == 0 ≡ true → l ≡ []
none_of [] e = refl
none_of (x ∷ l) e = grind (arith, nat_tests)

pub no_one : {T : Type 0} (x : Option T) → is_some x ≡ false → x ≡ None
no_one None e = refl
no_one (Some x) e = absurd (cc)

idle_of : (s : Sender) (q : Queue) → is_idle s q ≡ true → Idle s q
idle_of s q e = of (length s.outstanding.items.discards == 0) (nat_lt 0 (waiting_items s.outstanding.items)) (is_some q.begun) (length q.scheduler.times == 0) refl refl refl refl e where
  of : (a b c d : Bool) → length s.outstanding.items.discards == 0 ≡ a → nat_lt 0 (waiting_items s.outstanding.items) ≡ b → is_some q.begun ≡ c → length q.scheduler.times == 0 ≡ d
      → a && (not b && not (c || not d)) ≡ true → Idle s q
  of true false false true ea eb ec ed e = record { discards = none_of s.outstanding.items.discards ea; waiting = no_more_lem (waiting_items s.outstanding.items) eb; begun = no_one q.begun ec; times = none_of q.scheduler.times ed }
  of false b c d ea eb ec ed e = absurd (cc)
  of true true c d ea eb ec ed e = absurd (cc)
  of true false true d ea eb ec ed e = absurd (cc)
  of true false false false ea eb ec ed e = absurd (cc)

-- the queue gives none
none_made : {P : Type 0} (now size : ℕ) (q : Queue) (emitted : Emitted P) → q.begun ≡ None → q.scheduler.times ≡ [] → produce now size q emitted ≡ idle q emitted
none_made now size q emitted begun times = rw (begun, times) refl

module _ {P : Type 0} (now : ℕ) where
  pub idle_turn : (b : Bool) (x : Filling P) → x.queue.begun ≡ None → x.queue.scheduler.times ≡ [] → queue_step_if b now x ≡ record { filling = x; is_more = false }
  idle_turn false x begun times = refl
  idle_turn true x begun times = rw (none_made now (offered_payload x.left x.sender) x.queue x.emitted begun times) refl

  idle_fill : (turns : ℕ) (x : Filling P) → x.queue.begun ≡ None → x.queue.scheduler.times ≡ [] → fill turns now x ≡ x
  idle_fill zero x begun times = refl
  idle_fill (suc turns) x begun times = rw (idle_turn (may_send_new x.sender && nat_lt 0 (offered_payload x.left x.sender)) x begun times) refl

-- nothing is sent again
resent_none : (room window : ℕ) (s : Sender) → s.rtx_bytes < 2 ^ 64 → resent_by s (empty_packet room window s.outstanding) ≡ s
resent_none room window s small =
    let bytes : saturate_u64 (s.rtx_bytes + 0) ≡ s.rtx_bytes = omega (arith, small) in
    let rwnd : s.windows.rwnd - 0 ≡ s.windows.rwnd = omega arith in
    ap (λ (n : ℕ). record s { windows = record s.windows { rwnd = s.windows.rwnd - 0 }; rtx_bytes = n }) bytes ∙ ap (λ (n : ℕ). record s { windows = record s.windows { rwnd = n } }) rwnd

-- where no item waits to be sent again, none is, and the sender stays as it is
module _ (most : ℕ) (s : Sender) where
  pub none_again : nat_lt 0 (waiting_items s.outstanding.items) ≡ false → again.resent most s ≡ empty_packet (min most (s.windows.cwnd - flight s)) s.windows.rwnd s.outstanding
  none_again e = resend_quiet (min most (s.windows.cwnd - flight s)) s.windows.rwnd s.outstanding (no_more_lem (waiting_items s.outstanding.items) e)

  pub same_again : s.rtx_bytes < 2 ^ 64 → nat_lt 0 (waiting_items s.outstanding.items) ≡ false → s ≡ resent_by s (again.resent most s)
  same_again small e = sym (ap (λ (r : Resent). resent_by s r) (none_again e) ∙ resent_none (min most (s.windows.cwnd - flight s)) s.windows.rwnd s small)

module _ {P : Type 0} (now most : ℕ) (s : Sender) (q : Queue) (emitted : Emitted P) where
  pub idle_send : s.rtx_bytes < 2 ^ 64 → is_idle s q ≡ true → send now most s q emitted ≡ filling s q emitted [] (most - 0)
  idle_send small e =
      let i = idle_of s q e in
      let kept : without_discards s ≡ s = ap (λ ds. record s { outstanding = record s.outstanding { items = record s.outstanding.items { discards = ds } } }) (sym i.discards) in
      let none : again.resent most s ≡ empty_packet (min most (s.windows.cwnd - flight s)) s.windows.rwnd s.outstanding = resend_quiet (min most (s.windows.cwnd - flight s)) s.windows.rwnd s.outstanding i.waiting in
      let same = resent_none (min most (s.windows.cwnd - flight s)) s.windows.rwnd s small in
      let left : Changed P = record { queue = q; emitted = emitted } in
      let x : filled_with most s (again.resent most s) left ≡ filling s q emitted [] (most - 0) =
      ap (λ (r : Resent). filled_with most s r left) none ∙ ap (λ (t : Sender). filling t q emitted [] (most - 0)) same in
      ap (λ (t : Sender). fill_and_start_t3 now (filled_with most t (again.resent most t) (discard_all s.outstanding.items.discards q emitted))) kept
      ∙ ap (λ (ds : List Discard). fill_and_start_t3 now (filled_with most s (again.resent most s) (discard_all ds q emitted))) i.discards
      ∙ ap (λ (y : Filling P). fill_and_start_t3 now y) x
      ∙ ap (λ (y : Filling P). timed_filling now y) (idle_fill now (suc (most - 0)) (filling s q emitted [] (most - 0)) i.begun i.times)
