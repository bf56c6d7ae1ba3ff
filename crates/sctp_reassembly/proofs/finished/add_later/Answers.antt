use Rattle.std.proofs.Common.{[], sym, ◌∙◌}
use Rattle.std.specs.Map.{values_of}
use Rattle.sctp_reassembly.proofs.FinishedLemmas.{seen_next, seen_all}
use Rattle.sctp_reassembly.proofs.finished.add_later.Goals as goal

pub loop-interval-init : goal.loop-interval-init
loop-interval-init g c = record {
  next = tt;
  finite = tt;
  keys = c.requires.keys;
  seen = record { front = []; is = sym c.values-interval-items.ensures.rest ∙ sym c.into_iter-interval-iterator.ensures.into_iter_gives; none = tt };
}

pub add_complete-requires : goal.add_complete-requires
add_complete-requires g c = record { keys = c.loop-interval.invariant.keys }

pub loop-interval-preserved : goal.loop-interval-preserved
loop-interval-preserved g c = record {
  next = tt;
  finite = tt;
  keys = c.in_ok-add_complete.ensures.keys;
  seen = seen_next g.K.ReassemblyKey.number g.K.ReassemblyKey.index c.loop-interval.keys c.add_complete.new.keys (values_of c.args.later.now.entries) c.loop-interval.interval-iterator c.next.new.self c.in-Some.interval.now c.loop-interval.invariant.seen c.in-Some.ensures.steps c.in_ok-add_complete.ensures.kept c.in_ok-add_complete.ensures.added;
}

pub returns-clause-keys : goal.returns-clause-keys
returns-clause-keys g c = c.loop-interval.invariant.keys

pub returns-clause-none : goal.returns-clause-none
returns-clause-none g c = seen_all g.K.ReassemblyKey.number g.K.ReassemblyKey.index c.loop-interval.keys (values_of c.args.later.now.entries) c.loop-interval.interval-iterator c.loop-interval.invariant.seen c.in-None.ensures.steps.0
