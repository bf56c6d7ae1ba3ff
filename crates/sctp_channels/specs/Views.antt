-- What the program's messages say, without where they lie in memory.
use Rattle.std.specs.Prelude.{string_bytes}
use Rattle.sctp_channels.specs.declared.message.ChannelMessage.{ChannelMessage}
use Rattle.sctp_channels.specs.declared.message.ChannelMessage.TheVariants as messages
use Rattle.sctp_channels.specs.declared.message.DataChannelOpen.{DataChannelOpen}
pub use Rattle.sctp_channels.specs.Message.{Open, Establishment, opens, acknowledges}

abbrev pub open_of : DataChannelOpen → Open
open_of o = record { unordered = o.unordered; reliability = o.reliability; priority = o.priority; label = string_bytes o.label; protocol = string_bytes o.protocol }

abbrev pub message_of : ChannelMessage → Establishment
message_of (messages.Open o) = opens (open_of o)
message_of messages.Ack = acknowledges
