-- Streams and the keys of their messages.
use Rattle.sctp_serial.specs.declared.types.StreamKey.{StreamKey}
use Rattle.sctp_serial.specs.declared.types.StreamKey.TheVariants.{Ordered, Unordered}
use Rattle.sctp_serial.specs.declared.api.StreamId.{StreamId}

-- the stream of a key
abbrev pub stream_of : StreamKey → StreamId
stream_of (Ordered id) = id
stream_of (Unordered id) = id
