use Rattle.std.proofs.Common.{rules, ◌+◌, length}
use Rattle.sctp_supervision.proofs.MisuseLemmas.{value_is, high, low}
use Rattle.sctp_supervision.proofs.misuse.first_bytes.Goals as goal

pub returns : goal.returns
returns c =
    let value = c.args.chunk.now.value.items in
    rw (value_is c.args.chunk.now.typ c.args.chunk.now.flags value) (search (rules, high (4 + length value), low (4 + length value)))
