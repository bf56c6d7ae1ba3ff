use Rattle.std.proofs.lemmas.Result.{IfOk-weaker}
use Rattle.sctp_state.specs.Options.{options_of}
use Rattle.proof_world.specs.Reachable.{origin}
use Rattle.sctp_network.proofs.ReachableLemmas.{reachable_new}
use Rattle.sctp_network.proofs.world.World.new.Goals as goal

pub returns-clause-reachable : goal.returns-clause-reachable
returns-clause-reachable g c =
    IfOk-weaker c.made.result _ _
    (λ w is. reachable_new (origin (options_of c.args.options_a.now) (options_of c.args.options_b.now) (g.R.Rng.stream c.args.rng_a) (g.R.Rng.stream c.args.rng_b)
    (g.C.Checksum.word_of c.args.checksum_a) (g.C.Checksum.word_of c.args.checksum_b)) c.requires.a c.requires.b
    c.options_fit.ensures.fit c.options_fit-2.ensures.fit _ is) c.made.ensures.world
