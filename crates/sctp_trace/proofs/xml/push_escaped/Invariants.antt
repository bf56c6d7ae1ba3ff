use Rattle.std.proofs.Common.{◌≡◌, ◌++◌, take}
use Rattle.sctp_trace.specs.Xml.{escape}
use Rattle.sctp_trace.proofs.xml.push_escaped.Given as goal

abbrev pub invariant-loop-byte : goal.invariant-loop-byte
invariant-loop-byte l = l.output.items ≡ l.initial.output.items ++ escape (take l.byte-index l.text)
