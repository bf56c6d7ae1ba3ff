use Rattle.sctp_fragments.specs.ReassemblyKey.{rank_at}
use Rattle.sctp_reassembly.proofs.FinishedLemmas.{dropped}
use Rattle.sctp_reassembly.proofs.finished.drop_before.Goals as goal

pub loop-init : goal.loop-init
loop-init g c = record { keys = c.requires.keys; held = λ n l h. h }

pub loop-preserved : goal.loop-preserved
loop-preserved g c =
    let d = dropped g.K.ReassemblyKey.number g.K.ReassemblyKey.index g.K.ReassemblyKey.is_key (rank_at g.K.ReassemblyKey.number g.K.ReassemblyKey.index c.args.key) c.loop.keys.keys c.pop_first.new.self.keys c.pop_first.result c.pop_first.ensures.removal c.pop_first.ensures.unchanged (c.begins_before.ensures.before c.if-not-begins_before.false) in
    record { keys = d.keys c.loop.invariant.keys; held = λ n l h. d.held n l (c.loop.invariant.held n l h) }
