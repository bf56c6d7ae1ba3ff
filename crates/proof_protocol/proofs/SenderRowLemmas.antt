-- Whole rows of the send queue are sequences of the rules.
use Rattle.std.proofs.Common.{◌≡◌, ℕ, ◌<◌, Bool, true, false, cond, inl, inr, Option, Some, None, List, [], ◌∷◌, ◌++◌, refl, sym, ◌∙◌}
use Rattle.std.proofs.lemmas.Bool.{cases_eq}
use Rattle.proof_protocol.specs.State.{Message, Transfer, is_empty, put, stream_of}
use Rattle.proof_protocol.specs.Rules.{TransferEvent, accept, begin, number, end_with_placeholder, give_up, IsAllowed, Happens, after, run}
use Rattle.proof_protocol.specs.Sending.{Waiting, Queued}
use Rattle.proof_protocol.specs.Invariant.{Invariant}
use Rattle.proof_protocol.specs.Joints.{Sends}
use Rattle.proof_protocol.proofs.ToolsLemmas.{put_at, put_off}
use Rattle.proof_protocol.proofs.RulesKeepLemmas.{keeps, all_kept}
use Rattle.proof_protocol.proofs.SendingLemmas.{queued_accept, may_begin, queued_begin, may_number, queued_number, queued_drop, queued_close, queued_give}

-- a queue that says the same of each place
queued_same : (message : ℕ → Message) (x : Transfer) (f g : ℕ → Option Waiting) → ((p : ℕ) → g p ≡ f p) → Queued message x.sender f → Queued message x.sender g
queued_same message x f g same q = record {
  dequeued = λ p h e. q.dequeued p h (sym (same p) ∙ e);
  waits = λ p w e b. q.waits p w (sym (same p) ∙ e) b;
  partly = λ p w e b. q.partly p w (sym (same p) ∙ e) b;
  rest = λ p w e. q.rest p w (sym (same p) ∙ e);
}

put_twice : {A : Type 0} (f : ℕ → A) (k : ℕ) (v w : A) (n : ℕ) → put f k w n ≡ put (put f k v) k w n
put_twice f k v w n =
    elim (cases_eq n k) [
      | inl e ↦ put_at f k w n e ∙ sym (put_at (put f k v) k w n e)
      | inr d ↦ put_off f k w n d ∙ (sym (put_off f k v n d) ∙ sym (put_off (put f k v) k w n d))
    ]

module _ (message : ℕ → Message) (is_interleaved : Bool) (x : Transfer) (k : Invariant message is_interleaved x) (queue : ℕ → Option Waiting) (q : Queued message x.sender queue) where
  sends : (es : List TransferEvent) (r : ℕ → Option Waiting) → Happens message is_interleaved x es → Queued message (run message is_interleaved x es).sender r
      → run message is_interleaved x es ≡ record x { sender = (run message is_interleaved x es).sender } → Sends message is_interleaved x es r
  sends es r h z e = record { may = h; kept = all_kept message is_interleaved es x k h; queued = z; rest_stays = e }

  -- a message is accepted
  pub accepted : Sends message is_interleaved x (accept ∷ []) (put queue x.sender.accepted (Some (record { begun = false; rest = (message x.sender.accepted).payload })))
  accepted = sends (accept ∷ []) _ (tt, tt) (queued_accept message is_interleaved x.sender k.outgoing queue q) refl

  -- the next fragment of a message that is partly sent
  pub next_fragment : (p : ℕ) (w : Waiting) (bytes more : List ℕ) → queue p ≡ Some w → w.begun ≡ true → w.rest ≡ bytes ++ more
      → Sends message is_interleaved x (number p bytes more ∷ []) (put queue p (cond (is_empty more) None (Some (record { begun = true; rest = more }))))
  next_fragment p w bytes more e b r =
      sends (number p bytes more ∷ []) _ (may_number message is_interleaved x.sender k.outgoing queue q p w bytes more e b r, tt) (queued_number message is_interleaved x.sender k.outgoing queue q p w bytes more e b r) refl

  -- the first fragment of the first message of its stream
  pub first_fragment : (p : ℕ) (w : Waiting) (bytes more : List ℕ) → queue p ≡ Some w → w.begun ≡ false → w.rest ≡ bytes ++ more
      → ((a : ℕ) → a < p → stream_of message a ≡ stream_of message p → queue a ≡ None)
      → (is_interleaved ≡ false → (a : ℕ) (v : Waiting) → queue a ≡ Some v → v.begun ≡ false)
      → Sends message is_interleaved x (begin p ∷ number p bytes more ∷ []) (put queue p (cond (is_empty more) None (Some (record { begun = true; rest = more }))))
  first_fragment p w bytes more e b r first none =
      let w1 : Waiting = record { begun = true; rest = w.rest } in
      let mid = put queue p (Some w1) in
      let y = after message is_interleaved x (begin p) in
      let a : IsAllowed message is_interleaved x (begin p) = may_begin message is_interleaved x.sender k.outgoing queue q p w e b first none in
      let ky = keeps message is_interleaved x k (begin p) a in
      let qy = queued_begin message is_interleaved x.sender k.outgoing queue q p w e b in
      let here : mid p ≡ Some w1 = put_at queue p (Some w1) p refl in
      let entry = cond (is_empty more) None (Some (record { begun = true; rest = more })) in
      let z = queued_number message is_interleaved y.sender ky.outgoing mid qy p w1 bytes more here refl r in
      sends (begin p ∷ number p bytes more ∷ []) _ (a, (may_number message is_interleaved y.sender ky.outgoing mid qy p w1 bytes more here refl r, tt))
      (queued_same message (after message is_interleaved y (number p bytes more)) (put mid p entry) (put queue p entry) (put_twice queue p (Some w1) entry) z) refl

  -- a message of which nothing was sent is given up
  pub unsent_dropped : (p : ℕ) (w : Waiting) → queue p ≡ Some w → w.begun ≡ false → Sends message is_interleaved x (give_up p ∷ []) (put queue p None)
  unsent_dropped p w e b =
      let y = q.waits p w e b in
      sends (give_up p ∷ []) _ ((y.below, not_partly (x.sender.partly p) refl, y.not_given_up), tt) (queued_drop message is_interleaved x.sender k.outgoing queue q p w e b) refl
    where
      not_partly : (c : Bool) → x.sender.partly p ≡ c → x.sender.partly p ≡ false
      not_partly false h = h
      not_partly true h = let a = k.outgoing.partly_begun p h in let n = (q.waits p w e b).not_begun in cc

  -- a message that is partly sent is given up: a placeholder ends it, and the rest leaves the queue
  pub rest_dropped : (p : ℕ) (w : Waiting) → queue p ≡ Some w → w.begun ≡ true → Sends message is_interleaved x (end_with_placeholder p ∷ give_up p ∷ []) (put queue p None)
  rest_dropped p w e b =
      let h = q.partly p w e b in
      let below = k.outgoing.begun_below p (k.outgoing.partly_begun p h) in
      sends (end_with_placeholder p ∷ give_up p ∷ []) _ (h, ((below, put_at x.sender.partly p false p refl, k.outgoing.partly_kept p h), tt)) (queued_close message is_interleaved x.sender k.outgoing queue q p w e b) refl

  -- a message whose end has its TSN is given up, once
  pub sent_given_up : (p : ℕ) → p < x.sender.accepted → x.sender.given_up p ≡ false → queue p ≡ None → Sends message is_interleaved x (give_up p ∷ []) queue
  sent_given_up p h live e = sends (give_up p ∷ []) queue ((h, (q.dequeued p h e).not_partly, live), tt) (queued_give message is_interleaved x.sender k.outgoing queue q p e) refl
