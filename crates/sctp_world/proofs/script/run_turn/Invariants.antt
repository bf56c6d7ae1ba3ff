use Rattle.std.proofs.Common.{◌+◌, ◌++◌, length}
use Rattle.sctp_world.proofs.TurnLemmas.{IsRunTo}
use Rattle.sctp_network.specs.WorldView.{world_of}
use Rattle.sctp_world.proofs.script.run_turn.Given as goal

abbrev pub invariant-loop-end : goal.invariant-loop-end
invariant-loop-end g l = IsRunTo (l.initial.line.items ++ l.bytes) l.before l.count l.line.items l.rest
    (world_of g.R.Rng.stream g.C.Checksum.word_of l.initial.world) (world_of g.R.Rng.stream g.C.Checksum.word_of l.world)
    (g.W.Write.contents l.initial.writer) (g.W.Write.contents l.writer) (l.before + length l.bytes)

abbrev pub decreases-loop-end : goal.decreases-loop-end
decreases-loop-end g l = length l.rest
