-- Rows with what became of their packets.
use Rattle.std.specs.Prelude.{List}
use Rattle.sctp_trace.specs.declared.rows.End.{End}
use Rattle.sctp_trace.specs.declared.rows.End.TheVariants as ends
use Rattle.sctp_trace.specs.declared.rows.Row.{Row}
use Rattle.sctp_trace.specs.declared.conversation.Ways.{Ways}
use Rattle.sctp_trace.specs.declared.conversation.Conversation.{Conversation}
use Rattle.sctp_trace.specs.Giving.{HasSent, HasGiven}

-- the packets that this end sent
pub record HasWays (rows : List Row) (from : End) (ways : Ways) : Type 0 where
  pub sent : HasSent rows from ways.sent
  pub given : HasGiven rows from ways.given

abbrev pub ways_from : End → Conversation → Ways
ways_from ends.A conversation = conversation.a
ways_from ends.B conversation = conversation.b

abbrev pub IsFollowed : Conversation → Type 0
IsFollowed conversation = (from : End) → HasWays conversation.rows.now from (ways_from from conversation)
