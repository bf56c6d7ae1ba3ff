-- The queue asks one stream after another, as they go next.
use Rattle.std.proofs.Common.{◌≡◌, ℕ, zero, suc, ◌+◌, ◌<◌, Option, Some, None, [], length, refl, sym, subst, arith}
use Rattle.sctp_state.specs.Events.{Emitted}
use Rattle.sctp_tx_queue.specs.SendQueue.{Queue}
use Rattle.sctp_tx_queue.specs.Produced.{Produced, Turn, turn, next_stream, produce_within, produce}
use Rattle.sctp_tx_queue.proofs.ProduceLemmas.{idles, gives, turned, tries, fewer, few_tries, produced_idle}
use Rattle.proof_refines.specs.Scheduled as scheduled
use Rattle.proof_refines.specs.Scheduled.{IsProduced, none_waits, all_expired}

module _ {P : Type 0} (now size : ℕ) where
  by_turns : (m : ℕ) (q : Queue) (emitted : Emitted P) → tries q < m → IsProduced now size q emitted (produce_within m now size q emitted)
  by_turns zero q emitted few = absurd (omega (arith, few))
  by_turns (suc m) q emitted few = go (next_stream q) refl (λ r t. by_turns m r t)
    where
      go : (o : Option ℕ) → next_stream q ≡ o → ((r : Queue) (t : Emitted P) → tries r < m → IsProduced now size r t (produce_within m now size r t))
          → IsProduced now size q emitted (produce_within (suc m) now size q emitted)
      go None e ih = subst (λ (t : Turn P). IsProduced now size q emitted t) (sym (idles m now size q emitted e)) (none_waits e)
      go (Some id) e ih = pick (turn now id size q emitted).made refl
        where
          pick : (o : Option Produced) → o ≡ (turn now id size q emitted).made → IsProduced now size q emitted (produce_within (suc m) now size q emitted)
          pick (Some made) is = subst (λ (t : Turn P). IsProduced now size q emitted t) (sym (gives m now size id q emitted made e is)) (scheduled.gives id made e (sym is))
          pick None is =
              subst (λ (t : Turn P). IsProduced now size q emitted t) (sym (turned m now size id q emitted e is))
              (all_expired id (produce_within m now size (turn now id size q emitted).queue (turn now id size q emitted).emitted) e (sym is)
              (ih (turn now id size q emitted).queue (turn now id size q emitted).emitted (omega (arith, few, fewer now size id q emitted e is))))

  pub by_scheduler : (q : Queue) (emitted : Emitted P) → IsProduced now size q emitted (produce now size q emitted)
  by_scheduler q emitted = by_turns (length q.scheduler.times + 2) q emitted (few_tries q)

  pub idle_where_none : (q : Queue) (emitted : Emitted P) → (produce now size q emitted).made ≡ None → (produce now size q emitted).queue.scheduler.times ≡ []
  idle_where_none q emitted e = produced_idle now size q emitted (sym e)
