use Rattle.std.proofs.Common.{◌∙◌}
use Rattle.sctp_stream_scheduler.proofs.SchedulerLemmas.{renewed, removed}
use Rattle.sctp_stream_scheduler.proofs.stream_scheduler.active_streams.renew.Goals as goal

pub returns-then-next-finish-clause-ok : goal.returns-then-next-finish-clause-ok
returns-then-next-finish-clause-ok c = c.in_ok-insert.ensures.entries ∙ renewed c.args.id c.args.next c.args.finish c.args.finish_times.now.entries c.insert.ensures.was_ordered c.requires.there

pub returns-then-next-finish-clause-absent : goal.returns-then-next-finish-clause-absent
returns-then-next-finish-clause-absent c = removed c.args.id c.args.finish_times.now.entries c.insert.ensures.was_ordered

pub returns-clause-ok : goal.returns-clause-ok
returns-clause-ok c = c.in_ok-insert-3.ensures.entries ∙ renewed c.args.id c.args.next c.args.finish c.args.finish_times.now.entries c.insert-3.ensures.was_ordered c.requires.there

pub returns-clause-absent : goal.returns-clause-absent
returns-clause-absent c = removed c.args.id c.args.finish_times.now.entries c.insert-3.ensures.was_ordered
