use Rattle.std.proofs.Common.{sym, subst}
use Rattle.sctp_fragments.specs.Held.{intervals_of, is_in_turn}
use Rattle.sctp_fragments.specs.ReassemblyKey.{pair_rank, rank_at}
use Rattle.sctp_reassembly.specs.Finished.{NoneMissed, is_missed}
use Rattle.sctp_reassembly.proofs.FindLemmas.{not_found, without_none, left_none}
use Rattle.sctp_reassembly.proofs.FinishedLemmas.{pass_without}
use Rattle.sctp_reassembly.proofs.ordered_fragments.pop_in_turn.Goals as goal

pub pop_front_from-requires : goal.pop_front_from-requires
pop_front_from-requires g c = record { earlier = c.in-Some.ensures.some (intervals_of c.args.list.now) c.requires.noted }

pub returns-in-Some-clause-noted : goal.returns-in-Some-clause-noted
returns-in-Some-clause-noted g c =
    let m = pair_rank c.args.number 0 in
    subst (NoneMissed g.K.ReassemblyKey.number g.K.ReassemblyKey.index m c.search.new.self) (sym c.pop_front_from.ensures.intervals)
    (pass_without (is_missed (rank_at g.K.ReassemblyKey.number g.K.ReassemblyKey.index) m c.search.new.self) (is_in_turn c.args.number) (intervals_of c.args.list.now) (c.search.ensures.kept (intervals_of c.args.list.now) c.requires.noted))

pub returns-in-None-clause-taken : goal.returns-in-None-clause-taken
returns-in-None-clause-taken g c = sym (not_found (is_in_turn c.args.number) (intervals_of c.args.list.now) (c.in-None.ensures.none (intervals_of c.args.list.now) c.requires.noted))

pub returns-in-None-clause-intervals : goal.returns-in-None-clause-intervals
returns-in-None-clause-intervals g c = sym (without_none (is_in_turn c.args.number) (intervals_of c.args.list.now) (c.in-None.ensures.none (intervals_of c.args.list.now) c.requires.noted))

pub returns-in-None-clause-value : goal.returns-in-None-clause-value
returns-in-None-clause-value g c = sym (left_none (is_in_turn c.args.number) c.args.list.now (c.in-None.ensures.none (intervals_of c.args.list.now) c.requires.noted))

pub returns-in-None-clause-noted : goal.returns-in-None-clause-noted
returns-in-None-clause-noted g c = c.search.ensures.kept (intervals_of c.args.list.now) c.requires.noted
