use Rattle.proof_refines.proofs.NearComesLemmas.{entries_read}
use Rattle.proof_refines.proofs.NearRowLemmas.{point_is_read, point_below}
use Rattle.proof_refines.proofs.receiver.near.points_are_read.Goals as goal

pub returns-clause-tsn : goal.returns-clause-tsn
returns-clause-tsn c message is_interleaved base first shift x handed t r k tsn f kept windows shown near is_tracker sent last moves tsn_is = point_is_read message is_interleaved base first shift x kept windows handed t r shown near.tsns is_tracker k tsn f sent last moves tsn_is

pub returns-clause-below : goal.returns-clause-below
returns-clause-below c message is_interleaved x k f kept few sent last = point_below message is_interleaved x kept few k f sent last

pub returns-clause-entries : goal.returns-clause-entries
returns-clause-entries c message is_interleaved base first shift x handed t r k f entries kept windows few shown near is_tracker sent last moves apart are are_now ordered =
    entries_read message is_interleaved base first shift x kept windows handed t r shown near is_tracker k 0 f sent last moves are_now few apart ordered entries are
