-- What a fragment takes from its stream.
use Rattle.std.proofs.Common.{◌≡◌, ℕ, Bool, true, false, cond, List, [], ◌∷◌, refl, ap, ◌∙◌}
use Rattle.std.specs.Prelude.{is_some}
use Rattle.sctp_state.specs.ThresholdWatcher.{Watched, crosses}
use Rattle.sctp_tx_queue.specs.SendQueue.{Queued, Stream}
use Rattle.sctp_tx_queue.specs.declared.send_queue.message.MessageNumbers.{MessageNumbers}
use Rattle.sctp_tx_queue.specs.declared.send_queue.stream.PauseState.{PauseState}
use Rattle.sctp_tx_queue.specs.declared.send_queue.stream.ResetStep.{ResetStep}
use Rattle.sctp_tx_queue.specs.declared.send_queue.stream.ResetStep.TheVariants.{Requested, Performed, Refused}
use Rattle.sctp_tx_queue.specs.Produced.{took, front_took, front_numbers, front_ends, moved_front, pause_after, next_wrapping, advance}
use Rattle.sctp_tx_queue.specs.Resets.{after_step}

took_messages : (m : Queued) (s : Stream) → (took m s).messages ≡ s.messages
took_messages m s = go (is_some m.numbers) m.is_unordered
  where
    go : (a b : Bool) → (cond a s (cond b (record s { next_unordered_mid = next_wrapping s.next_unordered_mid }) (record s { next_ssn = next_wrapping s.next_ssn; next_ordered_mid = next_wrapping s.next_ordered_mid }))).messages ≡ s.messages
    go true b = refl
    go false true = refl
    go false false = refl

pub front_took_messages : (ms : List Queued) (s : Stream) → (front_took ms s).messages ≡ s.messages
front_took_messages [] s = refl
front_took_messages (m ∷ rest) s = took_messages m s

took_priority : (m : Queued) (s : Stream) → (took m s).priority ≡ s.priority
took_priority m s = go (is_some m.numbers) m.is_unordered
  where
    go : (a b : Bool) → (cond a s (cond b (record s { next_unordered_mid = next_wrapping s.next_unordered_mid }) (record s { next_ssn = next_wrapping s.next_ssn; next_ordered_mid = next_wrapping s.next_ordered_mid }))).priority ≡ s.priority
    go true b = refl
    go false true = refl
    go false false = refl

front_took_priority : (ms : List Queued) (s : Stream) → (front_took ms s).priority ≡ s.priority
front_took_priority [] s = refl
front_took_priority (m ∷ rest) s = took_priority m s

pub advanced_priority : (size : ℕ) (s : Stream) → (advance size s).priority ≡ s.priority
advanced_priority size s = front_took_priority s.messages s

took_pause : (m : Queued) (s : Stream) → (took m s).pause ≡ s.pause
took_pause m s = go (is_some m.numbers) m.is_unordered
  where
    go : (a b : Bool) → (cond a s (cond b (record s { next_unordered_mid = next_wrapping s.next_unordered_mid }) (record s { next_ssn = next_wrapping s.next_ssn; next_ordered_mid = next_wrapping s.next_ordered_mid }))).pause ≡ s.pause
    go true b = refl
    go false true = refl
    go false false = refl

front_took_pause : (ms : List Queued) (s : Stream) → (front_took ms s).pause ≡ s.pause
front_took_pause [] s = refl
front_took_pause (m ∷ rest) s = took_pause m s

-- the stream after a fragment, by what became of its parts: `t` has its numbers
pub advanced_is : (size : ℕ) (n : MessageNumbers) (is_end : Bool) (s t : Stream) (ms : List Queued) (p : PauseState) (threshold : ℕ)
    → n ≡ front_numbers s.messages s → is_end ≡ front_ends size s.messages → t ≡ front_took s.messages s
    → ms ≡ moved_front size n t.messages → p ≡ pause_after is_end t.pause → threshold ≡ t.threshold
    → (let u : Stream = record t { messages = ms; pause = p; threshold = threshold } in u) ≡ advance size s
advanced_is size n is_end s t ms p threshold is_n ends is_t is_ms is_p is_threshold =
    ap (λ x. built t x p threshold) is_ms ∙ ap (λ x. built t (moved_front size n t.messages) x threshold) is_p ∙ ap (λ x. built t (moved_front size n t.messages) (pause_after is_end t.pause) x) is_threshold
    ∙ ap (λ x. made x is_end t) is_n ∙ ap (λ b. made numbers b t) ends ∙ ap (λ x. made numbers (front_ends size s.messages) x) is_t
    ∙ ap (λ x. built numbered (moved_front size numbers x) (pause_after (front_ends size s.messages) numbered.pause) numbered.threshold) (front_took_messages s.messages s)
    ∙ ap (λ x. built numbered (moved_front size numbers s.messages) (pause_after (front_ends size s.messages) x) numbered.threshold) (front_took_pause s.messages s)
  where
    numbers : MessageNumbers
    numbers = front_numbers s.messages s

    numbered : Stream
    numbered = front_took s.messages s

    built : Stream → List Queued → PauseState → ℕ → Stream
    built x xs y z = record x { messages = xs; pause = y; threshold = z }

    made : MessageNumbers → Bool → Stream → Stream
    made k b x = built x (moved_front size k x.messages) (pause_after b x.pause) x.threshold

pub crosses_same : (a b c d : Watched) → a.amount ≡ c.amount → a.low_threshold ≡ c.low_threshold → b.amount ≡ d.amount → b.low_threshold ≡ d.low_threshold → crosses a b ≡ crosses c d
crosses_same a b c d e f g h = rw (e, f, g, h) refl

-- no step of a reset changes a stream's messages
pub step_messages : (step : ResetStep) (s : Stream) → (after_step step s).messages ≡ s.messages
step_messages Requested s = refl
step_messages Performed s = refl
step_messages Refused s = refl
