use Rattle.std.proofs.Common.{map}
use Rattle.sctp_state.specs.Events.{numbers_of}
use Rattle.sctp_channels.specs.Steps.{event_of}
use Rattle.sctp_channels.proofs.FollowsLemmas.{refuses_within}
use Rattle.sctp_channels.proofs.data_channels.DataChannels.ask_for_resets.Goals as goal

pub returns-in_ok-on_resets_denied-in-Err-clause-steps : goal.returns-in_ok-on_resets_denied-in-Err-clause-steps
returns-in_ok-on_resets_denied-in-Err-clause-steps g c =
    refuses_within (numbers_of c.args.ids.now) c.self.inside.channels c.on_resets_denied.new.self c.self.inside.peer_max_message_size c.self.inside.max_buffered_amount
    (map event_of c.self.inside.events.items) c.self.inside.unanswered c.args.self.now c.self.view_is c.in_ok-on_resets_denied-in-Err.ensures
