use Rattle.std.proofs.Common.{◌≡◌, length, drop}
use Rattle.sctp_c_calls.specs.Answers.{mark_refused}
use Rattle.sctp_c_calls.proofs.batch.note.Given as goal

abbrev pub invariant-loop-refused : goal.invariant-loop-refused
invariant-loop-refused l = record {
  noted : mark_refused (drop l.refused-index l.refusals) l.answers.items ≡ mark_refused l.refusals l.initial.answers.items;
  len : length l.answers.items ≡ length l.initial.answers.items;
}
