use Rattle.std.proofs.Common.{◌∙◌}
use Rattle.sctp_channels.proofs.FollowsLemmas.{all_carried, follows_carried, follows_then, told_same, told_then}
use Rattle.sctp_channels.proofs.data_channels.DataChannels.carry_out_all.Goals as goal

pub returns-in_err-answer_all-clause-told : goal.returns-in_err-answer_all-clause-told
returns-in_err-answer_all-clause-told g c =
    told_then c.args.self.now c.take_outputs.new.self c.answer_all.new.self c.take_outputs.ensures.told (told_same c.take_outputs.new.self c.answer_all.new.self c.answer_all.ensures.told)

pub returns-in_err-ask_for_resets-clause-told : goal.returns-in_err-ask_for_resets-clause-told
returns-in_err-ask_for_resets-clause-told g c =
    told_then c.args.self.now c.take_outputs.new.self c.ask_for_resets.new.self c.take_outputs.ensures.told
    (told_same c.take_outputs.new.self c.ask_for_resets.new.self (c.ask_for_resets.ensures.told ∙ c.answer_all.ensures.told))

pub returns-in_err-take_outputs-2-clause-told : goal.returns-in_err-take_outputs-2-clause-told
returns-in_err-take_outputs-2-clause-told g c =
    told_then c.args.self.now c.take_outputs.new.self c.take_outputs-2.new.self c.take_outputs.ensures.told
    (told_then c.take_outputs.new.self c.ask_for_resets.new.self c.take_outputs-2.new.self
    (told_same c.take_outputs.new.self c.ask_for_resets.new.self (c.ask_for_resets.ensures.told ∙ c.answer_all.ensures.told)) c.take_outputs-2.ensures.told)

pub returns-clause-steps : goal.returns-clause-steps
returns-clause-steps g c =
    follows_then c.args.self.now c.take_outputs.new.self c.take_outputs-2.new.self (follows_carried c.args.self.now c.take_outputs.new.self c.in_ok-take_outputs.ensures.row)
    (follows_then c.take_outputs.new.self c.answer_all.new.self c.take_outputs-2.new.self c.in_ok-answer_all.ensures.steps
    (follows_then c.answer_all.new.self c.ask_for_resets.new.self c.take_outputs-2.new.self c.in_ok-ask_for_resets.ensures.steps
    (follows_carried c.ask_for_resets.new.self c.take_outputs-2.new.self c.in_ok-take_outputs-2.ensures.row)))

pub returns-clause-done : goal.returns-clause-done
returns-clause-done g c = all_carried c.ask_for_resets.new.self c.take_outputs-2.new.self c.in_ok-take_outputs-2.ensures.row

pub returns-clause-told : goal.returns-clause-told
returns-clause-told g c =
    told_then c.args.self.now c.take_outputs.new.self c.take_outputs-2.new.self c.take_outputs.ensures.told
    (told_then c.take_outputs.new.self c.ask_for_resets.new.self c.take_outputs-2.new.self
    (told_same c.take_outputs.new.self c.ask_for_resets.new.self (c.ask_for_resets.ensures.told ∙ c.answer_all.ensures.told)) c.take_outputs-2.ensures.told)
