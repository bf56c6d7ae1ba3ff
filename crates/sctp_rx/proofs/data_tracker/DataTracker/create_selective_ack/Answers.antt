use Rattle.std.proofs.Common.{sym, subst, ap, length, List, arith}
use Rattle.std.specs.List.{All, Contains}
use Rattle.std.proofs.lemmas.List.{length-map}
use Rattle.sctp_serial.specs.declared.types.tsn.Tsn.{Tsn}
use Rattle.sctp_chunk.specs.declared.sack.GapAckBlock.{GapAckBlock}
use Rattle.sctp_chunk.specs.Covered.{AreRuns}
use Rattle.sctp_rx.specs.DataTracker.{DataTracker}
use Rattle.sctp_rx.specs.Reported.{IsReported}
use Rattle.sctp_rx.specs.Sack.{tsn}
use Rattle.sctp_rx.proofs.ReportedLemmas.{blocks_are_reported, blocks_stand_apart, reported_are_blocks}
use Rattle.sctp_rx.proofs.TrackerLemmas.{covered_was_seen}
use Rattle.sctp_rx.proofs.data_tracker.DataTracker.create_selective_ack.Goals as goal

pub returns-clause-seen : goal.returns-clause-seen
returns-clause-seen c = λ offset covered.
    let is_covered = rw c.in_ok-gap_ack_blocks.ensures at covered in
    rw (← c.self.view_is) (covered_was_seen c.self.inside.seen c.self.invariant.runs offset is_covered)

pub returns-clause-maximal : goal.returns-clause-maximal
returns-clause-maximal c =
    let P : List GapAckBlock → Type 0 = λ bs. All (IsReported c.self.inside.seen) bs in
    rw (← c.self.view_is) (subst P (sym c.in_ok-gap_ack_blocks.ensures) (blocks_are_reported c.self.inside.seen c.self.invariant.runs))

pub returns-clause-ascending : goal.returns-clause-ascending
returns-clause-ascending c = subst (λ (bs : List GapAckBlock). AreRuns 2 bs) (sym c.in_ok-gap_ack_blocks.ensures) (blocks_stand_apart c.self.inside.seen c.self.invariant.runs)

pub returns-clause-every : goal.returns-clause-every
returns-clause-every c = λ run is_reported.
    let P : List GapAckBlock → Type 0 = λ bs. Contains bs run in
    let Q : DataTracker → Type 0 = λ d. IsReported d.tracker.seen run in
    let old : IsReported c.self.inside.seen run = subst Q (sym c.self.view_is) is_reported in
    subst P (sym c.in_ok-gap_ack_blocks.ensures) (reported_are_blocks c.self.inside.seen c.self.invariant.runs run old)

pub returns-clause-once : goal.returns-clause-once
returns-clause-once c = rw (← c.self.view_is) (c.in_ok-duplicate_tsns.ensures.written, c.in_ok-duplicate_tsns.ensures.ascending)

pub returns-clause-few : goal.returns-clause-few
returns-clause-few c =
    omega (arith, ap (λ (ns : List Tsn). length ns) c.in_ok-duplicate_tsns.ensures.written, length-map c.self.inside.duplicates (tsn c.self.inside.first.0), c.self.invariant.few)
