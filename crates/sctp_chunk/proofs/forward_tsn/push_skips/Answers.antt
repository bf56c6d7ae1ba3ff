use Rattle.std.proofs.Common.{◌+◌, ◌≤◌, length, take, get_or, rules}
use Rattle.std.specs.List.{flat_map}
use Rattle.sctp_chunk.specs.declared.forward_tsn.SkippedStream.{SkippedStream}
use Rattle.sctp_chunk.specs.declared.forward_tsn.SkippedStream.TheVariants as skips
use Rattle.sctp_chunk.specs.Written.{skip_bytes}
use Rattle.sctp_chunk.proofs.SkipLemmas.{front_fits}
use Rattle.sctp_chunk.proofs.forward_tsn.push_skips.Goals as goal

pub returns-in_err-push_to-clause-room : goal.returns-in_err-push_to-clause-room
returns-in_err-push_to-clause-room c =
    let xs = c.args.skipped.now in
    let i = c.loop-skip.skip-index in
    let d : SkippedStream = skips.ForwardTsn (record { 0 = 0 }) (record { 0 = 0 }) in
    let fits : length (flat_map skip_bytes (take i xs)) + length (skip_bytes (get_or xs i d)) ≤ length (flat_map skip_bytes xs) = front_fits skip_bytes xs i d c.loop-skip-test.true in
    let room = c.in_err-push_to.ensures.room in
    let before = c.loop-skip.invariant in
    search rules
