-- What a call leaves that ran out of memory.
use Rattle.std.proofs.Common.{◌≡◌, ℕ, zero, suc, ◌<◌, Bool, true, false, List, [], ◌∷◌, Some, sym, subst, ap, ◌∙◌, refl, inl, inr, take}
use Rattle.std.specs.Prelude.{◌==◌}
use Rattle.std.specs.Map.{keys_of}
use Rattle.std.proofs.lemmas.Bool.{eqb-true}
use Rattle.sctp_state.specs.Events.{Emitted}
use Rattle.sctp_tx_queue.specs.declared.send_queue.stream.ResetStep.{ResetStep}
use Rattle.sctp_tx_queue.specs.SendQueue.{Queue, Stream, stream, put_stream}
use Rattle.sctp_tx_queue.specs.Produced.{without_stale, streams_without_stale, turn, next_stream}
use Rattle.sctp_tx_queue.specs.Settings.{begun_without}
use Rattle.sctp_tx_queue.specs.Resets.{each_stepped}
use Rattle.sctp_tx_queue.specs.Restarted.{restart, restarted_one, each_restarted}
use Rattle.sctp_tx_queue.specs.Interrupted.{Passed, Stopped}
use Rattle.sctp_tx_queue.specs.InOrder.{are_in_order, is_first_begun, is_this, IsInOrder, IsNumbered, HasRests}
use Rattle.sctp_tx_queue.specs.Unfinished.{IsKept}
use Rattle.sctp_tx_queue.proofs.InOrderLemmas as order
use Rattle.sctp_tx_queue.proofs.InOrderLemmas.{each_put, put_messages, put_elsewhere, whole_order, whole_first, none_here, same_there, set_bytes_mode}
use Rattle.sctp_tx_queue.proofs.NumberLemmas as number
use Rattle.sctp_tx_queue.proofs.RestLemmas as rest

-- a queue without the expired messages at the front of a stream
abbrev freed : ℕ → ℕ → Queue → Queue
freed now id q = record q { streams = streams_without_stale now id q.streams }

module _ (P : Queue → Type 0) (turned : (now id size : ℕ) (q : Queue) (emitted : Emitted (List ℕ)) → 0 < size → next_stream q ≡ Some id → P q → P (turn now id size q emitted).queue) where
  passed : (turns now size : ℕ) (q : Queue) (emitted : Emitted (List ℕ)) (after : Queue) (later : Emitted (List ℕ)) → 0 < size → P q → Passed turns now size q emitted after later → P after
  passed zero now size q emitted after later some h p = subst P (sym p.queue) h
  passed (suc turns) now size q emitted after later some h p =
      passed turns now size (turn now p.0 size q emitted).queue (turn now p.0 size q emitted).emitted after later some (turned now p.0 size q emitted some p.1.0 h) p.1.1.1

  module _ (frees : (now id : ℕ) (q : Queue) → P q → P (freed now id q)) where
    stops : (now id : ℕ) (q : Queue) (emitted : Emitted (List ℕ)) (after : Queue) (later : Emitted (List ℕ)) → P q → Stopped now id q emitted after later → P after
    stops now id q emitted after later h (inl same) = subst P (sym same.queue) h
    stops now id q emitted after later h (inr f) = subst P (sym f.queue) (frees now id q h)

    module _ (steps : (step : ResetStep) (ids : List ℕ) (q : Queue) → P q → P (each_stepped step ids q)) (restarts : (ids : List ℕ) (q : Queue) → P q → P (each_restarted ids q)) where
      kept_so : IsKept P
      kept_so = record {
        produced = λ now size q emitted after later some h i. stops now i.id i.queue i.emitted after later (passed i.turns now size q emitted i.queue i.emitted some h i.passed) i.stopped;
        stepped = λ step ids q after h s. subst P (sym s.1) (steps step (take s.0 ids) q h);
        restarted = λ q after h s. subst P (sym s.1) (restarts (take s.0 (keys_of q.streams.entries)) q h);
      }

-- ---- order

freed_in_order : (now id : ℕ) (q : Queue) → IsInOrder q → IsInOrder (freed now id q)
freed_in_order now id q h =
    let s : Stream = stream id q.streams in
    let f = order.fresh_both now s.messages (h.order id) in
    order.put_stream_keeps_order id (without_stale now s) q.streams q (freed now id q) (λ k. refl) refl refl refl f.0 f.1 h

one_in_order : (id : ℕ) (q : Queue) → IsInOrder q → IsInOrder (restarted_one id q)
one_in_order id q h = record {
  order = λ k. each_put (λ i ms. are_in_order ms ≡ true) id (restart (stream id q.streams)) q.streams h.order (whole_order (stream id q.streams).messages (h.order id)) k;
  begun = λ mode k. begun_on (sym (set_bytes_mode id _ _ q.scheduler) ∙ mode) k (k == id) refl;
}
  where
    begun_on : q.scheduler.is_interleaved ≡ false → (k : ℕ) (b : Bool) → (k == id) ≡ b → is_first_begun (stream k (put_stream id (restart (stream id q.streams)) q.streams)).messages ≡ is_this k (begun_without id q.begun)
    begun_on mode k true e =
        subst (λ i. is_first_begun (stream i (put_stream id (restart (stream id q.streams)) q.streams)).messages ≡ is_this i (begun_without id q.begun)) (sym (eqb-true k id e))
        (ap is_first_begun (put_messages id restart q.streams refl) ∙ whole_first (stream id q.streams).messages ∙ sym (none_here id q.begun))
    begun_on mode k false e =
        ap (λ (t : Stream). is_first_begun t.messages) (put_elsewhere k id (restart (stream id q.streams)) q.streams e) ∙ h.begun mode k ∙ same_there k id q.begun e

restarts_in_order : (ids : List ℕ) (q : Queue) → IsInOrder q → IsInOrder (each_restarted ids q)
restarts_in_order [] q h = h
restarts_in_order (id ∷ ids) q h = restarts_in_order ids (restarted_one id q) (one_in_order id q h)

pub order_kept : IsKept IsInOrder
order_kept = kept_so IsInOrder (λ now id size q emitted some next h. order.turn_in_order now id size q emitted some next h) freed_in_order order.steps_in_order restarts_in_order

-- ---- numbers, and what is left

freed_numbered : (now id : ℕ) (q : Queue) → IsNumbered q → IsNumbered (freed now id q)
freed_numbered now id q h =
    let s : Stream = stream id q.streams in
    number.put_stream_keeps_numbers id (without_stale now s) q.streams q (freed now id q) (λ k. refl) refl refl (number.fresh_rising 0 q.next_number now s.messages (h.rising id)) h

pub numbers_kept : IsKept IsNumbered
numbers_kept = kept_so IsNumbered (λ now id size q emitted some next h. number.turn_numbered now id size q emitted h) freed_numbered number.steps_numbered number.restarted_numbered

pub rests_kept : IsKept HasRests
rests_kept = kept_so HasRests (λ now id size q emitted some next h. rest.turn_rests now id size q emitted h) (λ now id q h. record { rests = rest.without_stale_rests now id q h }) rest.steps_rests rest.restarted_rests
