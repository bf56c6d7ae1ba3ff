-- Entries of forward points as the chunks have them.
use Rattle.std.specs.Prelude.{◌%◌, ◌^◌, if◌then◌else◌}
use Rattle.sctp_chunk.specs.declared.forward_tsn.SkippedStream.{SkippedStream}
use Rattle.sctp_chunk.specs.declared.forward_tsn.SkippedStream.TheVariants.{ForwardTsn, IForwardTsn}
use Rattle.sctp_serial.specs.declared.types.StreamKey.TheVariants.{Ordered, Unordered}
use Rattle.sctp_tx_outstanding.specs.declared.skips.SkipEntry.{SkipEntry}

abbrev pub ssn_skip : SkipEntry → SkippedStream
ssn_skip e = ForwardTsn e.stream_id (record { 0 = e.number % 2 ^ 16 })

abbrev pub mid_skip : SkipEntry → SkippedStream
mid_skip e = IForwardTsn (if e.is_unordered then Unordered e.stream_id else Ordered e.stream_id) (record { 0 = e.number })
