-- What waits is given up where an association ends: what is emitted, and what is left of the queue.
use Rattle.std.proofs.Common.{◌≡◌, ℕ, Bool, true, false, List, [], ◌∷◌, refl, ap, ◌∙◌, arith}
use Rattle.std.specs.Map.{keys_of}
use Rattle.sctp_state.specs.declared.api.GivenUpCause.TheVariants.{Ended}
use Rattle.sctp_state.specs.Events.{Emitted, emit_events, emit_given_up, expired_events}
use Rattle.sctp_tx_queue.specs.SendQueue.{Queued, Stream, Queue, stream}
use Rattle.sctp_tx_queue.specs.Settings.{Changed}
use Rattle.sctp_tx_queue.specs.Emptied.{emptied, emptied_one, each_emptied, emit_ended, emit_each_ended, empty}
use Rattle.sctp_tx_queue.specs.InOrder.{IsInOrder, HasRests}
use Rattle.sctp_tx_queue.proofs.EmptiedLemmas as left
use Rattle.spec_endpoint.specs.Association.{Packing}
use Rattle.spec_endpoint.specs.Shutdown.{empty_if}
use Rattle.proof_endpoint.specs.Lifecycles.{waiting}
use Rattle.proof_endpoint.specs.Mapped.{Mapping, map_emitted}
use Rattle.proof_endpoint.specs.Sound.{FitsQueue}
use Rattle.proof_endpoint.proofs.StepsLemmas.{Emits}
use Rattle.proof_endpoint.proofs.EmitsLemmas.{quiet_expiry, emits_nothing, emits_given_up, emits_all, emits_then}
use Rattle.proof_endpoint.proofs.EmittedMapsLemmas.{map_changed, maps_expiry, maps_emit_event_all}
use Rattle.proof_endpoint.proofs.SoundQueueLemmas.{put_fits}
use Rattle.proof_endpoint.proofs.SpendsLemmas.{Spends, ends_expiry, spends_nothing, spends_given_up, spends_all, spends_then, spends_within}
use Rattle.proof_endpoint.proofs.QueueSpendsLemmas.{in_queue, waiting_put}

-- ---- what is emitted is neither a packet nor an ending

module _ {P : Type 0} (pack : Packing P) (most : ℕ) where
  emits_ended : (ms : List Queued) (t : Emitted P) → Emits pack most 0 t (emit_ended ms t)
  emits_ended [] t = emits_nothing pack most t
  emits_ended (m ∷ ms) t =
      let recorded : Emitted P = emit_given_up m.number Ended t in
      let said : Emitted P = emit_events (expired_events m.lifecycle) recorded in
      emits_then pack most t said (emit_ended ms said)
      (emits_then pack most t recorded said (emits_given_up pack most m.number Ended t) (emits_all pack most (expired_events m.lifecycle) recorded (quiet_expiry P m.lifecycle)))
      (emits_ended ms said)

  emits_each_ended : (ids : List ℕ) (q : Queue) (t : Emitted P) → Emits pack most 0 t (emit_each_ended ids q t)
  emits_each_ended [] q t = emits_nothing pack most t
  emits_each_ended (id ∷ ids) q t =
      let ms : List Queued = (stream id q.streams).messages in
      emits_then pack most t (emit_ended ms t) (emit_each_ended ids (emptied_one id q) (emit_ended ms t)) (emits_ended ms t)
      (emits_each_ended ids (emptied_one id q) (emit_ended ms t))

  pub emits_emptied : (b : Bool) (q : Queue) (t : Emitted P) → Emits pack most 0 t (empty_if b q t).emitted
  emits_emptied true q t = emits_each_ended (keys_of q.streams.entries) q t
  emits_emptied false q t = emits_nothing pack most t

-- ---- it is the same whatever packets are

module _ {P Q : Type 0} (f : Mapping P Q) where
  maps_ended : (ms : List Queued) (t : Emitted P) → emit_ended ms (map_emitted f t) ≡ map_emitted f (emit_ended ms t)
  maps_ended [] t = refl
  maps_ended (m ∷ ms) t =
      let recorded : Emitted P = emit_given_up m.number Ended t in
      let events = expired_events m.lifecycle in
      ap (λ (u : Emitted Q). emit_ended ms u) (maps_emit_event_all f events (expired_events m.lifecycle) recorded (maps_expiry f m.lifecycle))
      ∙ maps_ended ms (emit_events events recorded)

  maps_each_ended : (ids : List ℕ) (q : Queue) (t : Emitted P) → emit_each_ended ids q (map_emitted f t) ≡ map_emitted f (emit_each_ended ids q t)
  maps_each_ended [] q t = refl
  maps_each_ended (id ∷ ids) q t =
      let ms : List Queued = (stream id q.streams).messages in
      ap (λ (u : Emitted Q). emit_each_ended ids (emptied_one id q) u) (maps_ended ms t) ∙ maps_each_ended ids (emptied_one id q) (emit_ended ms t)

  pub maps_emptied : (b : Bool) (q : Queue) (t : Emitted P) → empty_if b q (map_emitted f t) ≡ map_changed f (empty_if b q t)
  maps_emptied true q t = ap (λ (u : Emitted Q). changed_to (empty q t).queue u) (maps_each_ended (keys_of q.streams.entries) q t)
    where
      changed_to : Queue → Emitted Q → Changed Q
      changed_to r u = record { queue = r; emitted = u }
  maps_emptied false q t = refl

-- ---- each message's lifecycle ends with it

module _ {P : Type 0} (l : ℕ) where
  spends_ended : (ms : List Queued) (t : Emitted P) → Spends l t (emit_ended ms t) (waiting l ms) 0
  spends_ended [] t = spends_nothing l t 0 0 (omega arith)
  spends_ended (m ∷ ms) t =
      let recorded : Emitted P = emit_given_up m.number Ended t in
      let said : Emitted P = emit_events (expired_events m.lifecycle) recorded in
      let all : ℕ = waiting l (m ∷ ms) in
      spends_then l (spends_given_up l m.number Ended t all all (omega arith))
      (spends_then l (spends_all l (expired_events m.lifecycle) recorded all (waiting l ms) (omega (arith, ends_expiry P l m.lifecycle))) (spends_ended ms said))

  spends_each_ended : (ids : List ℕ) (q : Queue) (t : Emitted P) → Spends l t (emit_each_ended ids q t) (in_queue l q) (in_queue l (each_emptied ids q))
  spends_each_ended [] q t = spends_nothing l t (in_queue l q) (in_queue l q) (omega arith)
  spends_each_ended (id ∷ ids) q t =
      let s : Stream = stream id q.streams in
      spends_then l (spends_within l (in_queue l q) (in_queue l (emptied_one id q)) (spends_ended s.messages t) (omega (arith, waiting_put l id (emptied s) q.streams)))
      (spends_each_ended ids (emptied_one id q) (emit_ended s.messages t))

  pub spends_emptied : (b : Bool) (q : Queue) (t : Emitted P) → Spends l t (empty_if b q t).emitted (in_queue l q) (in_queue l (empty_if b q t).queue)
  spends_emptied true q t = spends_each_ended (keys_of q.streams.entries) q t
  spends_emptied false q t = spends_nothing l t (in_queue l q) (in_queue l q) (omega arith)

-- ---- nothing is left that wouldn't fit

each_fits : (ids : List ℕ) (q : Queue) → FitsQueue q → FitsQueue (each_emptied ids q)
each_fits [] q h = h
each_fits (id ∷ ids) q h = each_fits ids (emptied_one id q) (put_fits id (emptied (stream id q.streams)) q.streams tt h)

pub emptied_fits : {P : Type 0} (b : Bool) (q : Queue) (t : Emitted P) → FitsQueue q → FitsQueue (empty_if b q t).queue
emptied_fits true q t h = each_fits (keys_of q.streams.entries) q h
emptied_fits false q t h = h

-- ---- it stays in order, and something is left of each message

module _ {P : Type 0} where
  pub emptied_in_order : (b : Bool) (q : Queue) (t : Emitted P) → IsInOrder q → IsInOrder (empty_if b q t).queue
  emptied_in_order true q t h = left.emptied_in_order q t
  emptied_in_order false q t h = h

  pub emptied_rests : (b : Bool) (q : Queue) (t : Emitted P) → HasRests q → HasRests (empty_if b q t).queue
  emptied_rests true q t h = left.emptied_rests q t
  emptied_rests false q t h = h
