use Rattle.sctp_world.proofs.command.limit_of.Goals as goal

pub returns-clause-some : goal.returns-clause-some
returns-clause-some c = (_, c.in_ok-limit.ensures.some.0, c.in_ok-limit.ensures.some.1, c.in_ok-id.ensures.some)
