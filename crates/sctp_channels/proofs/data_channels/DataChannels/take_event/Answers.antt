use Rattle.std.proofs.Common.{ap}
use Rattle.sctp_channels.proofs.FollowsLemmas.{follows_then, packet_told, told_more, told_same, told_then}
use Rattle.sctp_channels.specs.Steps.{DataChannels, event_of}
use Rattle.sctp_channels.specs.declared.event.ChannelEvent.TheVariants.{Socket}
use Rattle.sctp_state.specs.declared.api.SocketEvent.TheVariants.{SendPacket}
use Rattle.sctp_channels.proofs.data_channels.DataChannels.take_event.Goals as goal

pub returns-in_ok-tell-in-SendPacket-clause-steps : goal.returns-in_ok-tell-in-SendPacket-clause-steps
returns-in_ok-tell-in-SendPacket-clause-steps g c =
    follows_then c.args.self.now c.carry_out_again.new.self c.tell.new.self c.in_ok-carry_out_again-in-SendPacket.ensures.steps
    (packet_told c.in-SendPacket.bytes.items c.carry_out_again.new.self c.tell.new.self c.in_ok-tell-in-SendPacket.ensures.ok)

pub returns-in_ok-tell-in-SendPacket-clause-told : goal.returns-in_ok-tell-in-SendPacket-clause-told
returns-in_ok-tell-in-SendPacket-clause-told g c =
    told_then c.args.self.now c.carry_out_again.new.self c.tell.new.self c.carry_out_again.ensures.told
    (told_more c.carry_out_again.new.self c.tell.new.self (event_of (Socket (SendPacket c.in-SendPacket.bytes))) c.in_ok-tell-in-SendPacket.ensures.ok)

pub returns-in_err-tell-in-SendPacket-clause-told : goal.returns-in_err-tell-in-SendPacket-clause-told
returns-in_err-tell-in-SendPacket-clause-told g c =
    told_then c.args.self.now c.carry_out_again.new.self c.tell.new.self c.carry_out_again.ensures.told
    (told_same c.carry_out_again.new.self c.tell.new.self (ap (λ (x : DataChannels). x.events) c.in_err-tell-in-SendPacket.ensures.err))
