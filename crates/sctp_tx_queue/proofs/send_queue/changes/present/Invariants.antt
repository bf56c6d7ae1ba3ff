use Rattle.std.proofs.Common.{◌≡◌, ◌++◌}
use Rattle.std.specs.Prelude.{map, filter, is_some}
use Rattle.std.specs.Map.{lookup}
use Rattle.std.specs.Ordering.{nat_cmp}
use Rattle.std.specs.BTreeMap.{is_at}
use Rattle.sctp_tx_queue.proofs.send_queue.changes.present.Given as goal

abbrev pub invariant-loop-id : goal.invariant-loop-id
invariant-loop-id l = map (λ id. id.0) l.found.items ++ filter (λ k. is_some (lookup (is_at (nat_cmp k)) l.streams.entries)) l.id-iterator ≡ filter (λ k. is_some (lookup (is_at (nat_cmp k)) l.streams.entries)) l.ids.keys
