use Rattle.std.proofs.Common.{◌≡◌, ◌≤◌, true, false, length, rules, of_calls, arith}
use Rattle.std.proofs.lemmas.Fn.{always_returns_same}
use Rattle.sctp_tx_outstanding.specs.Forward.{is_before}
use Rattle.sctp_tx_outstanding.specs.Touched.{entries_in}
use Rattle.sctp_tx_outstanding.proofs.EntriesLemmas.{place_is}
use Rattle.sctp_tx_outstanding.proofs.TouchedLemmas.{parted_by_entry, within_entries, within_entries_to, entries_length}
use Rattle.sctp_tx_outstanding.proofs.skips.place_of.Goals as goal

pub returns-clause-place : goal.returns-clause-place
returns-clause-place c =
    let ts = c.args.touched.now in
    let e = c.args.entry in
    let k = c.partition_point.result in
    let point = c.partition_point.ensures.partitioned (λ t. is_before t.entry e) (always_returns_same _ _ _ (λ a r f k. search (rules, of_calls))) (parted_by_entry e ts c.requires) in
    let within : k ≤ length (entries_in ts) = omega (arith, c.partition_point.ensures.bound, entries_length ts) in
    place_is e (entries_in ts) k within (within_entries (λ d. is_before d e ≡ true) ts 0 k point.0) (within_entries_to (λ d. is_before d e ≡ false) ts k point.1)
