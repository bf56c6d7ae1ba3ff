-- The messages of the send queue, as one of them changes.
use Rattle.std.proofs.Common.{◌≡◌, ◌≢◌, ℕ, ◌%◌, ◌^◌, ◌≤◌, Bool, true, false, cond, inl, inr, Option, Some, None, List, refl, sym, ap, ◌∙◌, subst, arith}
use Rattle.std.specs.Prelude.{◌==◌, option_map}
use Rattle.std.proofs.lemmas.Bool.{cases_eq, cond-true, cond-false}
use Rattle.sctp_tx_queue.specs.declared.send_queue.message.MessageNumbers.{MessageNumbers}
use Rattle.sctp_tx_queue.specs.SendQueue.{Queued}
use Rattle.sctp_tx_outstanding.specs.OutstandingData.{Discard}
use Rattle.proof_protocol.specs.State.{Message, Sender, IsAmong, parts, put, stream_of}
use Rattle.proof_protocol.specs.Sending as sending
use Rattle.proof_protocol.specs.Sending.{Waiting}
use Rattle.proof_protocol.proofs.ToolsLemmas.{put_at, put_off}
use Rattle.proof_protocol.proofs.CommonLemmas.{none_some}
use Rattle.proof_refines.specs.SenderRefinement.{find, waiting_of, queue_of, numbers_at, IsEntry, AreQueued, AreDiscards}
use Rattle.proof_refines.proofs.FoundLemmas.{funext, one_value}

-- what the rules say of another place
pub record Frame (o o' : Sender) (r : ℕ) : Type 0 where
  pub number : o'.written r ≡ o.written r
  pub given_up : o'.given_up r ≡ o.given_up r
  pub parts_are : parts r o'.numbered ≡ parts r o.numbered

module _ (message : ℕ → Message) where
  pub queue_as : (o : Sender) (f g : ℕ → Option Waiting) → ((p : ℕ) → g p ≡ f p) → sending.Queued message o f → sending.Queued message o g
  queue_as o f g same q = subst (λ (z : ℕ → Option Waiting). sending.Queued message o z) (funext f g (λ p. sym (same p))) q

  pub queue_some : (o : Sender) (ms : ℕ → List Queued) (p : ℕ) (m : Queued) → o.given_up p ≡ false → find p (ms (stream_of message p)) ≡ Some m → queue_of message o ms p ≡ Some (waiting_of m)
  queue_some o ms p m g f = cond-false (o.given_up p) None (option_map waiting_of (find p (ms (stream_of message p)))) g ∙ ap (λ z. option_map waiting_of z) f

  pub queue_given : (o : Sender) (ms : ℕ → List Queued) (p : ℕ) → o.given_up p ≡ true → queue_of message o ms p ≡ None
  queue_given o ms p g = cond-true (o.given_up p) None (option_map waiting_of (find p (ms (stream_of message p)))) g

  pub queue_lacks : (o : Sender) (ms : ℕ → List Queued) (p : ℕ) → find p (ms (stream_of message p)) ≡ None → queue_of message o ms p ≡ None
  queue_lacks o ms p f = ap (λ z. cond (o.given_up p) None (option_map waiting_of z)) f ∙ nothing (o.given_up p)
    where
      nothing : (b : Bool) → cond b None (option_map waiting_of None) ≡ None
      nothing true = refl
      nothing false = refl

  -- the message that is queued at a place
  pub record IsQueued (o : Sender) (ms : ℕ → List Queued) (p : ℕ) (w : Waiting) : Type 0 where
    pub live : o.given_up p ≡ false
    pub entry : Queued
    pub found_there : find p (ms (stream_of message p)) ≡ Some entry
    pub is : waiting_of entry ≡ w

  pub queued_is : (o : Sender) (ms : ℕ → List Queued) (p : ℕ) (w : Waiting) → queue_of message o ms p ≡ Some w → IsQueued o ms p w
  queued_is o ms p w e = go (o.given_up p) refl (find p (ms (stream_of message p))) refl e
    where
      go : (b : Bool) → o.given_up p ≡ b → (f : Option Queued) → find p (ms (stream_of message p)) ≡ f → cond b None (option_map waiting_of f) ≡ Some w → IsQueued o ms p w
      go true g f h c = absurd (none_some (option_map waiting_of None) w c refl)
      go false g None h c = absurd (none_some (option_map waiting_of None) w c refl)
      go false g (Some m) h c = record { live = g; entry = m; found_there = h; is = one_value (Some (waiting_of m)) (waiting_of m) w refl c }

module _ (message : ℕ → Message) (lifecycle : ℕ → Option ℕ) where
  pub entry_moves : (o o' : Sender) (k r : ℕ) (m : Queued) → Frame o o' r → o.accepted ≤ o'.accepted → IsEntry message lifecycle o k r m → IsEntry message lifecycle o' k r m
  entry_moves o o' k r m f more e =
      let below = e.accepted in
      record {
        accepted = omega (arith, below, more);
        on_stream = e.on_stream;
        kind = e.kind;
        protocol_id = e.protocol_id;
        payload = e.payload;
        lifecycle_id = e.lifecycle_id;
        numbers = λ g n h. subst (λ z. n ≡ with_number z) (sym f.number) (e.numbers (sym f.given_up ∙ g) n h);
        index = λ g. e.index (sym f.given_up ∙ g) ∙ ap (λ z. z % 2 ^ 32) (sym f.parts_are);
        begins = λ g. e.begins (sym f.given_up ∙ g) ∙ ap (λ z. z == 0) (sym f.parts_are);
        partly_sent = λ g. e.partly_sent (sym f.given_up ∙ g);
      }
    where
      with_number : ℕ → MessageNumbers
      with_number n = numbers_at message (record o { written = λ q. n }) r

  -- a message of place p changes, or leaves, and nothing else
  module _ (o o' : Sender) (ms ms' : ℕ → List Queued) (p : ℕ) (elsewhere : (k r : ℕ) → r ≢ p → find r (ms' k) ≡ find r (ms k))
      (frame : (r : ℕ) → r ≢ p → Frame o o' r) where
    pub change : o.accepted ≤ o'.accepted → ((k : ℕ) (m : Queued) → find p (ms' k) ≡ Some m → IsEntry message lifecycle o' k p m)
        → (w : Option Waiting) → queue_of message o' ms' p ≡ w → sending.Queued message o' (put (queue_of message o ms) p w)
        → AreQueued message lifecycle o ms → AreQueued message lifecycle o' ms'
    change more entry w here queue a = record { entries = entries; queued = queue_as message o' (put (queue_of message o ms) p w) (queue_of message o' ms') alike queue }
      where
        entries : (k r : ℕ) (m : Queued) → find r (ms' k) ≡ Some m → IsEntry message lifecycle o' k r m
        entries k r m f =
            elim (cases_eq r p) [
              | inl e ↦ subst (λ z. IsEntry message lifecycle o' k z m) (sym e) (entry k m (ap (λ z. find z (ms' k)) (sym e) ∙ f))
              | inr d ↦ entry_moves o o' k r m (frame r d) more (a.entries k r m (sym (elsewhere k r d) ∙ f))
            ]

        alike : (r : ℕ) → queue_of message o' ms' r ≡ put (queue_of message o ms) p w r
        alike r =
            elim (cases_eq r p) [
              | inl e ↦ ap (λ z. queue_of message o' ms' z) e ∙ (here ∙ sym (put_at (queue_of message o ms) p w r e))
              | inr d ↦
                  ap (λ z. cond z None (option_map waiting_of (find r (ms' (stream_of message r))))) ((frame r d).given_up)
                  ∙ (ap (λ z. cond (o.given_up r) None (option_map waiting_of z)) (elsewhere (stream_of message r) r d) ∙ sym (put_off (queue_of message o ms) p w r d))
            ]

    pub change_discards : (ds : List Discard) → AreDiscards o ms ds → ((k : ℕ) (m : Queued) → find p (ms' k) ≡ Some m → o'.given_up p ≡ true → IsAmong (record { stream = k; number = p }) ds)
        → ((r : ℕ) → o.given_up r ≡ true → o'.given_up r ≡ true) → AreDiscards o' ms' ds
    change_discards ds a here keeps = record { named = named; given_up = λ d h. keeps d.number (a.given_up d h) }
      where
        named : (k r : ℕ) (m : Queued) → find r (ms' k) ≡ Some m → o'.given_up r ≡ true → IsAmong (record { stream = k; number = r }) ds
        named k r m f g =
            elim (cases_eq r p) [
              | inl e ↦ subst (λ z. IsAmong (record { stream = k; number = z }) ds) (sym e) (here k m (ap (λ z. find z (ms' k)) (sym e) ∙ f) (ap o'.given_up (sym e) ∙ g))
              | inr d ↦ a.named k r m (sym (elsewhere k r d) ∙ f) (sym (frame r d).given_up ∙ g)
            ]
