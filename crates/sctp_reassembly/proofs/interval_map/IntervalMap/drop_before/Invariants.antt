use Rattle.std.proofs.Common.{◌≡◌, ◌≤◌, length}
use Rattle.sctp_fragments.specs.Runs.{from_rank}
use Rattle.sctp_fragments.specs.Held.{rank_of, NoneComplete, intervals_of, bytes_of}
use Rattle.sctp_fragments.specs.Interval.{held_of, lists_of, entries_of}
use Rattle.sctp_fragments.specs.ReassemblyKey.{rank_at}
use Rattle.sctp_reassembly.specs.Places.{all_of}
use Rattle.sctp_reassembly.specs.Listed.{IsListed}
use Rattle.sctp_reassembly.proofs.interval_map.IntervalMap.drop_before.Given as goal

abbrev pub invariant-loop-key : goal.invariant-loop-key
invariant-loop-key g l = record {
  listed : IsListed g.K.ReassemblyKey.is_key g.K.ReassemblyKey.number g.K.ReassemblyKey.index l.self-inside.first l.self-inside.later.entries l.self-inside.bytes l.self-inside.fragments;
  same : from_rank rank_of (rank_at g.K.ReassemblyKey.number g.K.ReassemblyKey.index l.key) (entries_of (held_of g.K.ReassemblyKey.number g.K.ReassemblyKey.index) (all_of l.self-inside.first l.self-inside.later.entries)) ≡ from_rank rank_of (rank_at g.K.ReassemblyKey.number g.K.ReassemblyKey.index l.key) l.fn.self;
  fewer : bytes_of (entries_of (held_of g.K.ReassemblyKey.number g.K.ReassemblyKey.index) (all_of l.self-inside.first l.self-inside.later.entries)) ≤ bytes_of l.fn.self;
  fewer_fragments : length (entries_of (held_of g.K.ReassemblyKey.number g.K.ReassemblyKey.index) (all_of l.self-inside.first l.self-inside.later.entries)) ≤ length l.fn.self;
  none : NoneComplete (intervals_of l.fn.self) → NoneComplete (lists_of (held_of g.K.ReassemblyKey.number g.K.ReassemblyKey.index) (all_of l.self-inside.first l.self-inside.later.entries));
}

abbrev pub decreases-loop-key : goal.decreases-loop-key
decreases-loop-key g l = length (entries_of (held_of g.K.ReassemblyKey.number g.K.ReassemblyKey.index) (all_of l.self-inside.first l.self-inside.later.entries))
