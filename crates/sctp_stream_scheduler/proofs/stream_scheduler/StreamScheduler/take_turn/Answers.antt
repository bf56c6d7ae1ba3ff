use Rattle.std.proofs.Common.{◌∙◌, sym, ap}
use Rattle.std.specs.Ordering.{nat_cmp}
use Rattle.std.specs.Map.{remove_entry}
use Rattle.std.specs.BTreeMap.{is_at}
use Rattle.sctp_stream_scheduler.specs.StreamScheduler.{Scheduler, finish_time}
use Rattle.sctp_stream_scheduler.proofs.SchedulerLemmas.{leaves_once}
use Rattle.sctp_stream_scheduler.proofs.stream_scheduler.StreamScheduler.take_turn.Goals as goal

pub returns-in-Some-clause-ok : goal.returns-in-Some-clause-ok
returns-in-Some-clause-ok c =
    ap (λ (s : Scheduler). record s { times = c.leave.new.self; virtual_time = c.in-Some.finish }) c.self.view_is
    ∙ leaves_once c.args.id.0 c.args.bytes c.args.priority c.in-Some.finish c.args.self.now _ c.if-bytes-eq0.true (sym (ap (λ (s : Scheduler). finish_time c.args.id.0 s.times) c.self.view_is) ∙ sym c.leave.ensures.time ∙ c.in-Some.is)
    (c.leave.ensures.times ∙ ap (λ (s : Scheduler). remove_entry (is_at (nat_cmp c.args.id.0)) s.times) c.self.view_is) c.leave.ensures.removed
