use Rattle.std.proofs.Common.{◌≡◌, ◌++◌, ◌∷◌, List, true, sym, subst, arith}
use Rattle.sctp_fragments.specs.Runs.{is_held}
use Rattle.sctp_fragments.specs.Held.{Held, intervals_of, rank_of}
use Rattle.sctp_fragments.specs.ReassemblyKey.{rank_at}
use Rattle.sctp_reassembly.specs.Finished.{BeginsAt, NoneMissed}
use Rattle.sctp_reassembly.proofs.FinishedLemmas.{none_later, none_unknown, none_placed, not_missed}
use Rattle.sctp_reassembly.proofs.HolderLemmas.{some_at, none_at}
use Rattle.sctp_reassembly.proofs.ordered_fragments.note_in.Goals as goal

pub returns-then-len-eq-MANY-clause-noted : goal.returns-then-len-eq-MANY-clause-noted
returns-then-len-eq-MANY-clause-noted g c m old x placed same none = none_later g.K.ReassemblyKey.number g.K.ReassemblyKey.index 0 m c.finished.result (intervals_of c.args.list.now) (omega arith) c.finished.ensures

pub returns-else-len-eq-MANY-clause-noted : goal.returns-else-len-eq-MANY-clause-noted
returns-else-len-eq-MANY-clause-noted g c m old x placed same none =
    subst (λ o. NoneMissed g.K.ReassemblyKey.number g.K.ReassemblyKey.index m o (intervals_of c.args.list.now)) (sym (c.is_known.ensures c.if-not-is_known.true)) (none_unknown g.K.ReassemblyKey.number g.K.ReassemblyKey.index m (intervals_of c.args.list.now))

pub returns-in-Some-clause-noted : goal.returns-in-Some-clause-noted
returns-in-Some-clause-noted g c m old x placed same none =
    none_placed g.K.ReassemblyKey.number g.K.ReassemblyKey.index m c.args.finished.now c.note.new.self old c.args.list.now x placed (c.note.ensures.kept m)
    (λ front back r runs held. c.note.ensures.noted m r (some_at (λ k. (front back : List (List Held)) (r : List Held) → intervals_of c.args.list.now ≡ front ++ r ∷ back → is_held rank_of (rank_at g.K.ReassemblyKey.number g.K.ReassemblyKey.index c.args.key) r ≡ true → BeginsAt (rank_at g.K.ReassemblyKey.number g.K.ReassemblyKey.index k) r) c.finished_at-first.result c.in-Some.first c.in-Some.is c.finished_at-first.ensures.some front back r runs (subst (λ n. is_held rank_of n r ≡ true) same held))) none

pub returns-in_default-clause-noted : goal.returns-in_default-clause-noted
returns-in_default-clause-noted g c m old x placed same none =
    none_placed g.K.ReassemblyKey.number g.K.ReassemblyKey.index m c.args.finished.now c.args.finished.now old c.args.list.now x placed (λ r h. h)
    (λ front back r runs held. not_missed g.K.ReassemblyKey.number g.K.ReassemblyKey.index m c.args.finished.now r (none_at c.finished_at-first.result c.in_default.is c.finished_at-first.ensures.none front back r runs (subst (λ n. is_held rank_of n r ≡ true) same held))) none
