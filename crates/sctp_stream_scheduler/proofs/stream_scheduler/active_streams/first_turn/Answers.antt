use Rattle.std.proofs.Common.{◌≡◌, ◌<◌, ℕ, List, [], ◌∷◌, length, false, true, refl, sym, ap, None, arith}
use Rattle.std.specs.Option.{option_map}
use Rattle.sctp_stream_scheduler.specs.StreamScheduler.{best, stream_in}
use Rattle.sctp_stream_scheduler.proofs.SchedulerLemmas.{first_is_next, best_next, no_turns}
use Rattle.sctp_stream_scheduler.proofs.stream_scheduler.active_streams.first_turn.Goals as goal

empty : (turns : List (ℕ × ℕ)) → (0 < length turns → false ≡ true) → turns ≡ []
empty [] h = refl
empty (t ∷ turns) h = absurd (never (h (omega arith)))
  where
    never : false ≡ true → ⊥
    never e = cc

pub returns-in-Some-clause-value : goal.returns-in-Some-clause-value
returns-in-Some-clause-value c =
    sym (best_next _ _ c.len-count.ensures.ordered (first_is_next c.args.turns.now.keys _ c.in-Some.turn.now c.len-count.ensures.ordered c.requires c.in-Some.ensures.member c.in-Some.ensures.least))

pub returns-in-Some-clause-next : goal.returns-in-Some-clause-next
returns-in-Some-clause-next c =
    first_is_next c.args.turns.now.keys _ c.in-Some.turn.now c.len-count.ensures.ordered c.requires c.in-Some.ensures.member c.in-Some.ensures.least

pub returns-in-None-clause-value : goal.returns-in-None-clause-value
returns-in-None-clause-value c =
    sym (ap (λ ts. option_map stream_in (best None ts)) (no_turns c.args.turns.now.keys c.args.finish_times.now.entries c.requires (empty c.args.turns.now.keys c.in-None.ensures.variant.1)))

pub returns-in-None-clause-none : goal.returns-in-None-clause-none
returns-in-None-clause-none c =
    no_turns c.args.turns.now.keys c.args.finish_times.now.entries c.requires (empty c.args.turns.now.keys c.in-None.ensures.variant.1)
