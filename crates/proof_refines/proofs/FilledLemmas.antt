-- A packet is filled until nothing more goes: each turn takes a byte of it at least.
use Rattle.std.proofs.Common.{◌≡◌, ℕ, zero, suc, ◌+◌, ◌-◌, ◌*◌, ◌/◌, ◌<◌, ◌≤◌, Bool, true, false, min, Option, Some, None, length, refl, sym, ap, subst, ◌∙◌, arith}
use Rattle.std.specs.Prelude.{◌&&◌, nat_lt, if◌then◌else◌}
use Rattle.std.proofs.lemmas.Bool.{ltb-true, ltb-false}
use Rattle.sctp_state.specs.Events.{Emitted}
use Rattle.sctp_tx_queue.specs.SendQueue.{Queue}
use Rattle.sctp_tx_queue.specs.Produced.{Produced, Turn, produce}
use Rattle.sctp_tx_outstanding.specs.Item.{header_size}
use Rattle.sctp_tx.specs.RetransmissionQueue.{Sender}
use Rattle.sctp_tx.specs.Resent.{is_interleaved, may_send_new, room_of}
use Rattle.sctp_tx.specs.Sending.{Filling, QueueStep, offered_payload, append, is_made, queue_step_if, fill}
use Rattle.proof_refines.specs.Filled as filled
use Rattle.proof_refines.specs.Filled.{windows, nothing, IsFilled, ends, goes_on, began, TakesWhatIsDue}
use Rattle.proof_refines.proofs.ScheduledLemmas.{idle_where_none}

zero_of : (n : ℕ) → nat_lt 0 n ≡ false → n ≡ 0
zero_of n e = let h = ltb-false 0 n e in omega (arith, h)

-- a chunk has a header, so that less is left
less_left : (left room header length m : ℕ) → 0 < min left room / 4 * 4 - header → left < suc m → 16 ≤ header → left - (header + length + 3) / 4 * 4 < m
less_left left room header length m some l h = omega (arith, some, l, h)

has_header : (b : Bool) → 16 ≤ header_size b
has_header true = omega arith
has_header false = omega arith

module _ {P : Type 0} (now m : ℕ) (x : Filling P) (l : x.left < suc m) (ih : (y : Filling P) → y.left < m → IsFilled now y (fill m now y)) where
  abbrev Result : QueueStep P → Type 0
  Result t = IsFilled now x (if t.is_more then fill m now t.filling else t.filling)

  abbrev made : Turn P
  made = produce now (offered_payload x.left x.sender) x.queue x.emitted

  abbrev after : Option Produced → QueueStep P
  after o = record { filling = append now o (record x { queue = made.queue; emitted = made.emitted }); is_more = is_made o }

  -- the queue was asked
  answered : may_send_new x.sender ≡ true → 0 < offered_payload x.left x.sender → (o : Option Produced) → made.made ≡ o → Result (after o)
  answered free some None e = ends (nothing e (idle_where_none now (offered_payload x.left x.sender) x.queue x.emitted e) refl refl)
  answered free some (Some p) e =
      goes_on (append now (Some p) (record x { queue = made.queue; emitted = made.emitted })) p (record { let_go = free; made = e; queue = refl; emitted = refl; sender = refl; chunks = refl })
      (ih (append now (Some p) (record x { queue = made.queue; emitted = made.emitted }))
      (less_left x.left (room_of x.sender) (header_size (is_interleaved x.sender)) (length p.fragment.payload) m some l (has_header (is_interleaved x.sender))))

  asks : (b c : Bool) → may_send_new x.sender ≡ b → nat_lt 0 (offered_payload x.left x.sender) ≡ c → Result (queue_step_if (b && c) now x)
  asks false c e f = ends (windows e refl)
  asks true false e f = ends (filled.room (zero_of (offered_payload x.left x.sender) f) refl)
  asks true true e f = answered e (ltb-true 0 (offered_payload x.left x.sender) f) made.made refl

  pub one_more_turn : IsFilled now x (fill (suc m) now x)
  one_more_turn = by_tests (may_send_new x.sender) (nat_lt 0 (offered_payload x.left x.sender)) refl refl
    where
      by_tests : (b c : Bool) → may_send_new x.sender ≡ b → nat_lt 0 (offered_payload x.left x.sender) ≡ c → Result (queue_step_if (may_send_new x.sender && nat_lt 0 (offered_payload x.left x.sender)) now x)
      by_tests b c e f = subst (λ (z : Bool). Result (queue_step_if z now x)) (sym (ap (λ (z : Bool). z && nat_lt 0 (offered_payload x.left x.sender)) e ∙ ap (λ (z : Bool). b && z) f)) (asks b c e f)

pub filled_by : {P : Type 0} (now m : ℕ) (x : Filling P) → x.left < m → IsFilled now x (fill m now x)
filled_by now zero x l = absurd (omega (arith, l))
filled_by now (suc m) x l = one_more_turn now m x l (λ y h. filled_by now m y h)

pub takes_what_is_due : {P : Type 0} (now most : ℕ) (s : Sender) (q : Queue) (emitted : Emitted P) → TakesWhatIsDue now most s q emitted
takes_what_is_due now most s q emitted = record {
  filled = fill (suc (began most s q emitted).left) now (began most s q emitted);
  again = refl;
  new = filled_by now (suc (began most s q emitted).left) (began most s q emitted) (omega arith);
  all = refl;
}
