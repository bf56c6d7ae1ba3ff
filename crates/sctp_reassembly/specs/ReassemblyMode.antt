-- The streams in either form.
use Rattle.std.specs.Prelude.{true, false}
use Rattle.sctp_reassembly.specs.declared.reassembly_streams.ReassemblyMode.{ReassemblyMode}
use Rattle.sctp_reassembly.specs.declared.reassembly_streams.ReassemblyMode.TheVariants.{Traditional, Interleaved}
use Rattle.sctp_reassembly.specs.ReassemblyStreams.{Streams}

abbrev pub streams_of : ReassemblyMode → Streams
streams_of (Traditional ordered unordered) = record { is_interleaved = false; ordered = ordered; unordered = unordered }
streams_of (Interleaved ordered unordered) = record { is_interleaved = true; ordered = ordered; unordered = unordered }
