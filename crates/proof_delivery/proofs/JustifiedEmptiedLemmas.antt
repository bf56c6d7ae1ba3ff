-- A queue that is emptied counts on; and where each message may be given up as an association is over, the records that are made are right.
use Rattle.std.proofs.Common.{ℕ, Option, List, [], ◌∷◌}
use Rattle.std.specs.List.{AllByRecursion}
use Rattle.std.specs.Map.{keys_of}
use Rattle.sctp_state.specs.declared.api.GivenUpCause.TheVariants.{Ended}
use Rattle.sctp_state.specs.Events.{GivenUp, Emitted, emit_given_up, emit_events, expired_events}
use Rattle.sctp_tx_queue.specs.SendQueue.{Queued, Queue, stream}
use Rattle.sctp_tx_queue.specs.Emptied.{emptied, emptied_one, each_emptied, emit_ended, emit_each_ended, empty}
use Rattle.proof_delivery.proofs.JustifiedQueueLemmas.{AllWait, Holds, all_behind, stream_stands, put_stands}

module _ (Known : ℕ → ℕ → Option ℕ → ℕ → Type 0) where
  holds_emptied : (next id : ℕ) (q : Queue) → Holds Known next q → Holds Known next (emptied_one id q)
  holds_emptied next id q h = record { stand = put_stands Known id (emptied (stream id q.streams)) q.streams tt h.stand; counts = h.counts }

  holds_each_emptied : (next : ℕ) (ids : List ℕ) (q : Queue) → Holds Known next q → Holds Known next (each_emptied ids q)
  holds_each_emptied next [] q h = h
  holds_each_emptied next (id ∷ ids) q h = holds_each_emptied next ids (emptied_one id q) (holds_emptied next id q h)

  pub holds_empty : {P : Type 0} (next : ℕ) (q : Queue) (t : Emitted P) → Holds Known next q → Holds Known next (empty q t).queue
  holds_empty next q t h =
      let k : Holds Known next (each_emptied (keys_of q.streams.entries) q) = holds_each_emptied next (keys_of q.streams.entries) q h in record { stand = k.stand; counts = k.counts }

  module _ {P : Type 0} (Right : GivenUp → Type 0) (over : (id n limit : ℕ) (o : Option ℕ) → Known id n o limit → Right (record { number = n; cause = Ended })) where
    abbrev AllRight : Emitted P → Type 0
    AllRight t = AllByRecursion Right t.given_up

    ended_right : (id : ℕ) (ms : List Queued) (t : Emitted P) → AllWait Known id ms → AllRight t → AllRight (emit_ended ms t)
    ended_right id [] t ws h = h
    ended_right id (m ∷ ms) t ws h =
        ended_right id ms (emit_events (expired_events m.lifecycle) (emit_given_up m.number Ended t)) ws.1
        (all_behind Right t.given_up _ h (over id m.number m.limit m.expires ws.0, tt))

    each_right : (next : ℕ) (ids : List ℕ) (q : Queue) (t : Emitted P) → Holds Known next q → AllRight t → AllRight (emit_each_ended ids q t)
    each_right next [] q t h k = k
    each_right next (id ∷ ids) q t h k =
        each_right next ids (emptied_one id q) (emit_ended (stream id q.streams).messages t) (holds_emptied next id q h)
        (ended_right id (stream id q.streams).messages t (stream_stands Known id q.streams h.stand) k)

    pub empty_right : (next : ℕ) (q : Queue) (t : Emitted P) → Holds Known next q → AllRight t → AllRight (empty q t).emitted
    empty_right next q t h k = each_right next (keys_of q.streams.entries) q t h k
