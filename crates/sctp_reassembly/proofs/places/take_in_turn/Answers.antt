use Rattle.sctp_fragments.specs.ReassemblyKey.{rank_at}
use Rattle.sctp_reassembly.proofs.HolderLemmas.{later_runs}
use Rattle.sctp_reassembly.proofs.InTurnLemmas.{first_out, later_indexed, later_earlier, turn_out, turn_found, turn_named}
use Rattle.sctp_reassembly.proofs.places.take_in_turn.Goals as goal

pub returns-then-is_in_turn-clause-taken : goal.returns-then-is_in_turn-clause-taken
returns-then-is_in_turn-clause-taken g c = first_out g.K.ReassemblyKey.is_key g.K.ReassemblyKey.number g.K.ReassemblyKey.index c.args.number c.args.first.now c.take_first.new.first c.args.later.now.entries c.take_first.new.later.entries c.take_first.result c.in-Some.interval c.is_in_turn.result c.in-Some.is c.take_first.ensures.result c.take_first.ensures.others c.is_in_turn.ensures c.if-is_in_turn.true

pub place_in_turn-requires-clause-runs : goal.place_in_turn-requires-clause-runs
place_in_turn-requires-clause-runs g c =
    later_runs g.K.ReassemblyKey.is_key g.K.ReassemblyKey.number g.K.ReassemblyKey.index c.args.first.now c.args.later.now.entries c.requires.led c.requires.runs

pub place_in_turn-requires-clause-small : goal.place_in_turn-requires-clause-small
place_in_turn-requires-clause-small g c = later_indexed g.K.ReassemblyKey.is_key g.K.ReassemblyKey.number g.K.ReassemblyKey.index c.args.number c.args.first.now c.args.later.now.entries c.in-Some.interval c.in-Some.is c.requires.small

pub place_in_turn-requires-clause-earlier : goal.place_in_turn-requires-clause-earlier
place_in_turn-requires-clause-earlier g c =
    later_earlier g.K.ReassemblyKey.is_key g.K.ReassemblyKey.number g.K.ReassemblyKey.index c.args.number c.args.first.now c.args.later.now.entries c.in-Some.interval c.in-Some.is (rank_at g.K.ReassemblyKey.number g.K.ReassemblyKey.index c.args.key) c.requires.earlier

pub returns-clause-taken : goal.returns-clause-taken
returns-clause-taken g c = turn_out g.K.ReassemblyKey.is_key g.K.ReassemblyKey.number g.K.ReassemblyKey.index c.args.number c.args.first.now c.args.later.now.entries c.in-Some.interval c.in-Some.is c.is_in_turn.result c.is_in_turn.ensures c.if-is_in_turn.false c.in-Some-place_in_turn.place c.in-Some-place_in_turn.ensures.some g.K.Ord.cmp g.met.K.ReassemblyKey.by_rank c.known.ensures c.remove.result c.remove.new.self.entries c.remove.ensures.value c.remove.ensures.entries

pub returns-clause-unturned : goal.returns-clause-unturned
returns-clause-unturned g c = turn_found g.K.ReassemblyKey.is_key g.K.ReassemblyKey.number g.K.ReassemblyKey.index c.args.number c.args.first.now c.args.later.now.entries c.in-Some.interval c.in-Some.is c.is_in_turn.result c.is_in_turn.ensures c.if-is_in_turn.false c.in-Some-place_in_turn.place c.in-Some-place_in_turn.ensures.some g.K.Ord.cmp g.met.K.ReassemblyKey.by_rank c.known.ensures c.remove.result c.remove.new.self.entries c.remove.ensures.value _

pub returns-clause-named : goal.returns-clause-named
returns-clause-named g c = turn_named g.K.ReassemblyKey.is_key g.K.ReassemblyKey.number g.K.ReassemblyKey.index c.args.number c.args.first.now c.args.later.now.entries c.in-Some.interval c.in-Some.is c.is_in_turn.result c.is_in_turn.ensures c.if-is_in_turn.false c.in-Some-place_in_turn.place c.in-Some-place_in_turn.ensures.some g.K.Ord.cmp g.met.K.ReassemblyKey.by_rank c.known.ensures c.remove.result c.remove.new.self.entries c.remove.ensures.value c.requires.named c.remove.ensures.entries
