use Rattle.std.proofs.Common.{◌≡◌, take}
use Rattle.std.specs.Fmt.{HasWritten, IsPlainFormatter}
use Rattle.sctp_state.specs.Readiness.{is_nil, joined_names, names_among, reasons_of}
use Rattle.sctp_state.proofs.api.handover.readiness.HandoverReadiness.write_reasons.Given as goal

abbrev pub invariant-reasons : goal.invariant-reasons
invariant-reasons g l =
    (l.is_first ≡ is_nil (names_among l.self.0 (reasons_of (take l.reason-index l.reasons))))
    × (IsPlainFormatter l.initial.f → HasWritten g.W.Write.write_str_gives l.initial.f (joined_names l.self.0 (reasons_of (take l.reason-index l.reasons))) l.f)
