use Rattle.std.proofs.Common.{sym, subst}
use Rattle.sctp_stream_scheduler.specs.StreamScheduler.{Indexes}
use Rattle.sctp_stream_scheduler.proofs.SchedulerLemmas.{put_back}
use Rattle.sctp_stream_scheduler.proofs.stream_scheduler.active_streams.enter.Goals as goal

pub returns-in-Err-clause-indexed : goal.returns-in-Err-clause-indexed
returns-in-Err-clause-indexed c =
    subst (λ ts. Indexes c.remove.new.self.keys ts) (sym c.in-Err.ensures.err)
    (put_back c.args.turns.now.keys c.insert.new.self.keys c.remove.new.self.keys c.args.finish_times.now.entries (c.args.finish, c.args.id) c.requires.index c.requires.absent c.in_ok-insert.ensures.updates.0 c.remove.ensures.updates.0)
