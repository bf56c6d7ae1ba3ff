use Rattle.std.proofs.Common.{◌∙◌}
use Rattle.sctp_channels.proofs.data_channels.DataChannels.take_other.Goals as goal

pub returns-clause-row : goal.returns-clause-row
returns-clause-row c =
    record { channels = c.on_message.new.self.channels; row = c.in_ok-on_message.ensures.row; done = c.note_message.ensures ∙ c.in_ok-on_message.ensures.rest }
