-- What is known of the kept items besides themselves.
use Rattle.std.specs.Prelude.{Bool, List}
use Rattle.sctp_tx_outstanding.specs.declared.indexes.Indexes.{Indexes}
use Rattle.sctp_tx_outstanding.specs.Item.{Item}
use Rattle.sctp_tx_outstanding.specs.Expiries.{Expects}
use Rattle.sctp_tx_outstanding.specs.LastBlocks.{Knows}
use Rattle.sctp_tx_outstanding.specs.Messages.{Finds}
use Rattle.sctp_tx_outstanding.specs.Passed.{IsPassed}
use Rattle.sctp_tx_outstanding.specs.Runs.{HasRuns}
use Rattle.sctp_tx_outstanding.specs.Totals.{AreTotals}

-- each of the indexes is of these items
pub record AreIndexes (is_interleaved : Bool) (is : List Item) (x : Indexes) : Type 0 where
  pub totals : AreTotals is_interleaved is x.totals
  pub last_blocks : Knows x.last_blocks is
  pub runs : HasRuns x.runs is
  pub messages : Finds x.messages is
  pub expiries : Expects x.expiries is
  pub passed : IsPassed is_interleaved is x.passed
