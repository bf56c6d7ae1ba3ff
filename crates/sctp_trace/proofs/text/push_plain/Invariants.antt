use Rattle.std.proofs.Common.{◌≡◌, ◌++◌, map, take}
use Rattle.sctp_trace.specs.Ascii.{plain}
use Rattle.sctp_trace.proofs.text.push_plain.Given as goal

abbrev pub invariant-loop-byte : goal.invariant-loop-byte
invariant-loop-byte l = l.text.items ≡ l.initial.text.items ++ map plain (take l.byte-index l.words)
