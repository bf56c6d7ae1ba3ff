use Rattle.std.proofs.Common.{◌≡◌, ◌++◌, take}
use Rattle.std.specs.List.{flat_map}
use Rattle.sctp_trace.specs.Text.{heading, line_of}
use Rattle.sctp_trace.proofs.text.lines.Given as goal

abbrev pub invariant-loop-row : goal.invariant-loop-row
invariant-loop-row l = l.text.items ≡ heading ++ flat_map (line_of l.conversation.rows.now) (take l.row-index l.conversation.rows.now)
