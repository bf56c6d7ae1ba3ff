use Rattle.std.proofs.Common.{[], map, subst}
use Rattle.sctp_state.specs.Options.{options_of}
use Rattle.spec_world.specs.World.{World, RunsUpToDisabled}
use Rattle.proof_world.specs.Reachable.{Origin, origin, IsReachable}
use Rattle.sctp_network_side.specs.SideView.{action_of}
use Rattle.sctp_network.specs.WorldView.{world_of}
use Rattle.sctp_network.proofs.world.World.after.Goals as goal

pub returns-in-Ok-clause-delivers : goal.returns-in-Ok-clause-delivers
returns-in-Ok-clause-delivers g c =
    let o : Origin = origin (options_of c.args.options_a.now) (options_of c.args.options_b.now) (g.R.Rng.stream c.args.rng_a) (g.R.Rng.stream c.args.rng_b)
    (g.C.Checksum.word_of c.args.checksum_a) (g.C.Checksum.word_of c.args.checksum_b) in
    let last : World = world_of g.R.Rng.stream g.C.Checksum.word_of c.run.new.world in
    let l : IsReachable o (map action_of c.args.events.now) last = c.in-Ok.ensures.reachable o [] c.in_ok-world.ensures.reachable in
    (l.runs, (c.run.ensures.composes o (map action_of c.args.events.now) l).delivers_few)

pub returns-in-Ok-clause-composes : goal.returns-in-Ok-clause-composes
returns-in-Ok-clause-composes g c =
    let o : Origin = origin (options_of c.args.options_a.now) (options_of c.args.options_b.now) (g.R.Rng.stream c.args.rng_a) (g.R.Rng.stream c.args.rng_b)
    (g.C.Checksum.word_of c.args.checksum_a) (g.C.Checksum.word_of c.args.checksum_b) in
    let last : World = world_of g.R.Rng.stream g.C.Checksum.word_of c.run.new.world in
    let l : IsReachable o (map action_of c.args.events.now) last = c.in-Ok.ensures.reachable o [] c.in_ok-world.ensures.reachable in
    (l, c.run.ensures.composes o (map action_of c.args.events.now) l)

pub returns-in-Ok-clause-agrees : goal.returns-in-Ok-clause-agrees
returns-in-Ok-clause-agrees g c =
    let o : Origin = origin (options_of c.args.options_a.now) (options_of c.args.options_b.now) (g.R.Rng.stream c.args.rng_a) (g.R.Rng.stream c.args.rng_b)
    (g.C.Checksum.word_of c.args.checksum_a) (g.C.Checksum.word_of c.args.checksum_b) in
    let last : World = world_of g.R.Rng.stream g.C.Checksum.word_of c.run.new.world in
    let l : IsReachable o (map action_of c.args.events.now) last = c.in-Ok.ensures.reachable o [] c.in_ok-world.ensures.reachable in
    (l.runs, λ distinct. c.run.ensures.agrees o (map action_of c.args.events.now) l distinct)

pub returns-in-Ok-clause-awake : goal.returns-in-Ok-clause-awake
returns-in-Ok-clause-awake g c =
    let o : Origin = origin (options_of c.args.options_a.now) (options_of c.args.options_b.now) (g.R.Rng.stream c.args.rng_a) (g.R.Rng.stream c.args.rng_b)
    (g.C.Checksum.word_of c.args.checksum_a) (g.C.Checksum.word_of c.args.checksum_b) in
    c.run.ensures.awake o (map action_of c.args.events.now) (c.in-Ok.ensures.reachable o [] c.in_ok-world.ensures.reachable)

pub returns-in-Ok-clause-no_line : goal.returns-in-Ok-clause-no_line
returns-in-Ok-clause-no_line g c =
    let o : Origin = origin (options_of c.args.options_a.now) (options_of c.args.options_b.now) (g.R.Rng.stream c.args.rng_a) (g.R.Rng.stream c.args.rng_b)
    (g.C.Checksum.word_of c.args.checksum_a) (g.C.Checksum.word_of c.args.checksum_b) in
    c.run.ensures.no_line o (map action_of c.args.events.now) (c.in-Ok.ensures.reachable o [] c.in_ok-world.ensures.reachable)

pub returns-in-Ok-clause-works : goal.returns-in-Ok-clause-works
returns-in-Ok-clause-works g c = c.in-Ok.ensures.works.1

pub returns-in-Err-clause-stopped : goal.returns-in-Err-clause-stopped
returns-in-Err-clause-stopped g c =
    let last : World = world_of g.R.Rng.stream g.C.Checksum.word_of c.run.new.world in
    λ is. (last, subst (λ (first : World). RunsUpToDisabled (map action_of c.args.events.now) first last) c.in_ok-world.ensures.world (c.in-Err.ensures.disabled is))
