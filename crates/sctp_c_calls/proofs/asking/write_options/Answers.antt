use Rattle.std.proofs.Common.{rules}
use Rattle.sctp_c_calls.proofs.asking.write_options.Goals as goal

pub returns : goal.returns
returns g c = record { shown = c.of.result; options = search rules; checksum = search rules; written = search rules }
