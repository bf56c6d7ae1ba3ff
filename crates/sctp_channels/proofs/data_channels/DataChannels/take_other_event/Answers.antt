use Rattle.std.proofs.Common.{ap, ◌∙◌}
use Rattle.sctp_state.specs.Events as sockets
use Rattle.sctp_channels.specs.Steps.{DataChannels, event_of}
use Rattle.sctp_channels.proofs.FollowsLemmas.{follows_hears, follows_passes, follows_then, told_more, told_same, told_then}
use Rattle.sctp_channels.proofs.data_channels.DataChannels.take_other_event.Goals as goal

pub returns-in_ok-tell-clause-steps : goal.returns-in_ok-tell-clause-steps
returns-in_ok-tell-clause-steps g c =
    let event = sockets.event_of c.args.event in
    follows_then c.args.self.now c.note_streams.new.self c.tell.new.self c.note_streams.ensures.steps
    (follows_then c.note_streams.new.self c.hear.new.self c.tell.new.self (follows_hears event c.note_streams.new.self c.hear.new.self c.in_ok-hear.ensures.row)
    (follows_then c.hear.new.self c.carry_out.new.self c.tell.new.self c.in_ok-carry_out.ensures.steps
    (follows_passes event (event_of c.in-Some.event) c.carry_out.new.self c.tell.new.self c.in-Some.ensures c.in_ok-tell.ensures.ok)))

pub returns-in_default-clause-steps : goal.returns-in_default-clause-steps
returns-in_default-clause-steps g c =
    follows_then c.args.self.now c.note_streams.new.self c.hear.new.self c.note_streams.ensures.steps
    (follows_hears (sockets.event_of c.args.event) c.note_streams.new.self c.hear.new.self c.in_ok-hear.ensures.row)

pub returns-in_err-carry_out-clause-told : goal.returns-in_err-carry_out-clause-told
returns-in_err-carry_out-clause-told g c =
    told_then c.args.self.now c.hear.new.self c.carry_out.new.self (told_same c.args.self.now c.hear.new.self (c.hear.ensures.told ∙ c.note_streams.ensures.told)) c.carry_out.ensures.told

pub returns-in_ok-tell-clause-told : goal.returns-in_ok-tell-clause-told
returns-in_ok-tell-clause-told g c =
    told_then c.args.self.now c.hear.new.self c.tell.new.self (told_same c.args.self.now c.hear.new.self (c.hear.ensures.told ∙ c.note_streams.ensures.told))
    (told_then c.hear.new.self c.carry_out.new.self c.tell.new.self c.carry_out.ensures.told
    (told_more c.carry_out.new.self c.tell.new.self (event_of c.in-Some.event) c.in_ok-tell.ensures.ok))

pub returns-in_default-clause-told : goal.returns-in_default-clause-told
returns-in_default-clause-told g c = told_same c.args.self.now c.hear.new.self (c.hear.ensures.told ∙ c.note_streams.ensures.told)

pub returns-in_err-hear-clause-told : goal.returns-in_err-hear-clause-told
returns-in_err-hear-clause-told g c = told_same c.args.self.now c.hear.new.self (c.hear.ensures.told ∙ c.note_streams.ensures.told)

pub returns-in_err-tell-clause-told : goal.returns-in_err-tell-clause-told
returns-in_err-tell-clause-told g c =
    told_then c.args.self.now c.hear.new.self c.tell.new.self (told_same c.args.self.now c.hear.new.self (c.hear.ensures.told ∙ c.note_streams.ensures.told))
    (told_then c.hear.new.self c.carry_out.new.self c.tell.new.self c.carry_out.ensures.told
    (told_same c.carry_out.new.self c.tell.new.self (ap (λ (x : DataChannels). x.events) c.in_err-tell.ensures.err)))
