use Rattle.std.proofs.lemmas.Result.{on_ok_weaker}
use Rattle.sctp_channels.specs.Steps.{Follows}
use Rattle.sctp_channels.proofs.FollowsLemmas.{follows_then, told_then}
use Rattle.sctp_channels.proofs.data_channels.DataChannels.take_begun.Goals as goal

pub returns-in-Some-clause-steps : goal.returns-in-Some-clause-steps
returns-in-Some-clause-steps g c =
    on_ok_weaker c.take_others.result
    (λ (f : Follows c.take_ready.new.self c.take_others.new.self).
    follows_then c.args.self.now c.take_turns.new.self c.take_others.new.self c.in_ok-first.ensures.steps
    (follows_then c.take_turns.new.self c.take_ready.new.self c.take_others.new.self c.in_ok-take_ready.ensures.steps f))
    c.take_others.ensures.steps

pub returns-in-None-clause-steps : goal.returns-in-None-clause-steps
returns-in-None-clause-steps g c =
    on_ok_weaker c.take_rest.result
    (λ (f : Follows c.take_ready.new.self c.take_rest.new.self).
    follows_then c.args.self.now c.take_turns.new.self c.take_rest.new.self c.in_ok-first.ensures.steps
    (follows_then c.take_turns.new.self c.take_ready.new.self c.take_rest.new.self c.in_ok-take_ready.ensures.steps f))
    c.take_rest.ensures.steps

pub returns-in_err-take_ready-clause-told : goal.returns-in_err-take_ready-clause-told
returns-in_err-take_ready-clause-told g c = told_then c.args.self.now c.take_turns.new.self c.take_ready.new.self c.take_turns.ensures.told c.take_ready.ensures.told

pub returns-in-Some-clause-told : goal.returns-in-Some-clause-told
returns-in-Some-clause-told g c =
    told_then c.args.self.now c.take_turns.new.self c.take_others.new.self c.take_turns.ensures.told
    (told_then c.take_turns.new.self c.take_ready.new.self c.take_others.new.self c.take_ready.ensures.told c.take_others.ensures.told)

pub returns-in-None-clause-told : goal.returns-in-None-clause-told
returns-in-None-clause-told g c =
    told_then c.args.self.now c.take_turns.new.self c.take_rest.new.self c.take_turns.ensures.told
    (told_then c.take_turns.new.self c.take_ready.new.self c.take_rest.new.self c.take_ready.ensures.told c.take_rest.ensures.told)
