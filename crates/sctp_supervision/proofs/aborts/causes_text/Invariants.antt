use Rattle.std.proofs.Common.{◌≡◌, ◌++◌, map, drop, string_bytes}
use Rattle.sctp_error_cause.specs.CauseViews.{cause_tree}
use Rattle.spec_endpoint.specs.Shutdown.{causes_text, behind_commas}
use Rattle.sctp_supervision.proofs.aborts.causes_text.Given as goal

abbrev pub invariant-loop-cause : goal.invariant-loop-cause
invariant-loop-cause l =
    string_bytes l.text ++ behind_commas (map cause_tree (drop l.cause-index l.rest)) ≡ causes_text (map cause_tree l.causes)
