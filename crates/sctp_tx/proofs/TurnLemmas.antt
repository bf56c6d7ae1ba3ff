-- What a turn leaves: all as it was, where the queue has nothing or the windows and the packet have no room; else what the
-- queue gives.
use Rattle.std.proofs.Common.{◌≡◌, ℕ, zero, suc, ◌-◌, ◌<◌, Bool, true, false, Option, Some, None, List, [], ◌∷◌, length, refl, ap, sym, subst, ◌∙◌, arith}
use Rattle.std.specs.Prelude.{◌==◌, ◌&&◌, ◌||◌, not, nat_lt, is_some, option_map}
use Rattle.std.proofs.lemmas.Bool.Decides.{nat_tests}
use Rattle.sctp_chunk.specs.Chunk.{FragmentTree}
use Rattle.sctp_state.specs.Events.{Emitted}
use Rattle.sctp_tx_outstanding.specs.Item.{size_of}
use Rattle.sctp_tx_outstanding.specs.OutstandingData.{next_number, wire_tsn}
use Rattle.sctp_tx_queue.specs.SendQueue.{Queue}
use Rattle.sctp_tx_queue.specs.Produced.{Produced, produce}
use Rattle.sctp_tx.specs.RetransmissionQueue.{Sender}
use Rattle.sctp_tx.specs.Resent.{is_interleaved, may_send_new}
use Rattle.sctp_tx.specs.Sending.{Filling, QueueStep, filling, offered_payload, sent_new, take_turn, queue_step_if, next_turn}
use Rattle.sctp_tx.proofs.IdleLemmas.{none_of, no_one, idle_turn}

-- what a turn gives, part by part
pub record Gives {P : Type 0} (x : QueueStep P) (after : Sender) (rest : Queue) (later : Emitted P) (taken : List (ℕ × FragmentTree)) (room : ℕ) (is_more : Bool) : Type 0 where
  pub sender : after ≡ x.filling.sender
  pub queue : rest ≡ x.filling.queue
  pub emitted : later ≡ x.filling.emitted
  pub chunks : taken ≡ x.filling.chunks
  pub left : room ≡ x.filling.left
  pub more : is_more ≡ x.is_more

gives : {P : Type 0} (x : QueueStep P) (y : Filling P) (is_more : Bool) → x ≡ record { filling = y; is_more = is_more } → Gives x y.sender y.queue y.emitted y.chunks y.left is_more
gives x y is_more is = record {
  sender = ap (λ (z : QueueStep _). z.filling.sender) (sym is);
  queue = ap (λ (z : QueueStep _). z.filling.queue) (sym is);
  emitted = ap (λ (z : QueueStep _). z.filling.emitted) (sym is);
  chunks = ap (λ (z : QueueStep _). z.filling.chunks) (sym is);
  left = ap (λ (z : QueueStep _). z.filling.left) (sym is);
  more = ap (λ (z : QueueStep _). z.is_more) (sym is);
}

has_room : (size : ℕ) → 0 < size → nat_lt 0 size ≡ true
has_room size some = grind (arith, nat_tests)

both : (a b : Bool) → true ≡ a → b ≡ true → a && b ≡ true
both a b ea eb = rw (sym ea, eb) refl

module _ {P : Type 0} (now left : ℕ) (s : Sender) (q : Queue) (emitted : Emitted P) where
  abbrev start : Filling P
  start = filling s q emitted [] left

  abbrev Stays : Type 0
  Stays = Gives (next_turn now start) s q emitted [] left false

  goes : (b : Bool) → b ≡ true → queue_step_if b now start ≡ take_turn now (produce now (offered_payload left s) q emitted) start
  goes b is = rw is refl

  stays : (b : Bool) → b ≡ false → queue_step_if b now start ≡ record { filling = start; is_more = false }
  stays b is = rw is refl

  -- the queue has no stream to ask
  pub queue_idle : false ≡ (is_some q.begun || not (length q.scheduler.times == 0)) → Stays
  queue_idle e = of (is_some q.begun) (length q.scheduler.times == 0) refl refl e where
    of : (a b : Bool) → is_some q.begun ≡ a → length q.scheduler.times == 0 ≡ b → false ≡ (a || not b) → Stays
    of false true ea eb e = gives (next_turn now start) start false (idle_turn now (may_send_new s && nat_lt 0 (offered_payload left s)) start (no_one q.begun ea) (none_of q.scheduler.times eb))
    of true b ea eb e = absurd (cc)
    of false false ea eb e = absurd (cc)

  -- the windows let none go
  pub windows_shut : false ≡ may_send_new s → Stays
  windows_shut e = gives (next_turn now start) start false (rw (sym e) refl)

  -- the packet or the windows have no room
  pub no_room : offered_payload left s ≡ 0 → Stays
  no_room e = of (may_send_new s) refl where
    of : (b : Bool) → may_send_new s ≡ b → Stays
    of true is = gives (next_turn now start) start false (stays (may_send_new s && nat_lt 0 (offered_payload left s)) (rw (is, e) refl))
    of false is = windows_shut (sym is)

  module _ (may : true ≡ may_send_new s) (size : ℕ) (offered : size ≡ offered_payload left s) (some : 0 < size) where
    began : next_turn now start ≡ take_turn now (produce now size q emitted) start
    began =
        subst (λ (n : ℕ). next_turn now start ≡ take_turn now (produce now n q emitted) start) (sym offered)
        (goes (may_send_new s && nat_lt 0 (offered_payload left s)) (both (may_send_new s) (nat_lt 0 (offered_payload left s)) may (has_room (offered_payload left s) (rw offered at some))))

    module _ (v : Sender) (same : v ≡ s) (r : Queue) (later : Emitted P) (er : r ≡ (produce now size q emitted).queue) (el : later ≡ (produce now size q emitted).emitted) where
      -- the queue gave none
      pub none_given : None ≡ (produce now size q emitted).made → Gives (next_turn now start) v r later [] left false
      none_given made = rw (same, er, el) (gives (next_turn now start) (filling s (produce now size q emitted).queue (produce now size q emitted).emitted [] left) false (began ∙ rw (sym made) refl))

      -- it gave one, which took the next TSN
      pub one_given : (p : Produced) → Some p ≡ (produce now size q emitted).made → (t : Sender) → t ≡ sent_new now p v → (n : ℕ) → n ≡ size_of (is_interleaved v) p.fragment → (rest : ℕ) → rest ≡ left - n
          → Gives (next_turn now start) t r later ((wire_tsn v.outstanding (next_number v.outstanding.items), p.fragment) ∷ []) rest true
      one_given p made t et n en rest is =
          rw (is, en, et, same, er, el) (gives (next_turn now start)
          (filling (sent_new now p s) (produce now size q emitted).queue (produce now size q emitted).emitted ((wire_tsn s.outstanding (next_number s.outstanding.items), p.fragment) ∷ []) (left - size_of (is_interleaved s) p.fragment)) true
          (began ∙ rw (sym made) refl))
