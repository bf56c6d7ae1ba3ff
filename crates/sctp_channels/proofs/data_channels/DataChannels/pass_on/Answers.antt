use Rattle.std.specs.Prelude.{option_map, option_to_list}
use Rattle.sctp_channels.specs.Steps.{event_of}
use Rattle.sctp_channels.proofs.FollowsLemmas.{follows_none, follows_told, low_at_once, packet_at_once, told_at_once, told_first, told_none}
use Rattle.sctp_channels.proofs.data_channels.DataChannels.pass_on.Goals as goal

pub returns-in-None-clause-steps : goal.returns-in-None-clause-steps
returns-in-None-clause-steps g c = follows_none c.args.self.now

pub returns-in-None-clause-first : goal.returns-in-None-clause-first
returns-in-None-clause-first g c = told_none c.args.self.now

pub returns-in-Some-SendPacket-clause-steps : goal.returns-in-Some-SendPacket-clause-steps
returns-in-Some-SendPacket-clause-steps g c = packet_at_once _ c.args.self.now c.requires

pub returns-in-Some-SendPacket-clause-first : goal.returns-in-Some-SendPacket-clause-first
returns-in-Some-SendPacket-clause-first g c = told_at_once _ c.args.self.now c.requires

pub returns-in-Some-OnBufferedAmountLow-clause-steps : goal.returns-in-Some-OnBufferedAmountLow-clause-steps
returns-in-Some-OnBufferedAmountLow-clause-steps g c = low_at_once _ c.args.self.now c.requires

pub returns-in-Some-OnBufferedAmountLow-clause-first : goal.returns-in-Some-OnBufferedAmountLow-clause-first
returns-in-Some-OnBufferedAmountLow-clause-first g c = told_at_once _ c.args.self.now c.requires

pub returns-in_ok-take_marked-in-Some-clause-steps : goal.returns-in_ok-take_marked-in-Some-clause-steps
returns-in_ok-take_marked-in-Some-clause-steps g c =
    follows_told (option_to_list (option_map event_of c.next_event.result)) c.args.self.now c.take_marked.new.self c.next_event.new.self c.in_ok-take_marked-in-Some.ensures.steps c.next_event.ensures.taken

pub returns-in_ok-take_marked-in-Some-clause-first : goal.returns-in_ok-take_marked-in-Some-clause-first
returns-in_ok-take_marked-in-Some-clause-first g c =
    told_first (option_to_list (option_map event_of c.next_event.result)) c.args.self.now c.take_marked.new.self c.next_event.new.self c.take_marked.ensures.told c.next_event.ensures.taken
