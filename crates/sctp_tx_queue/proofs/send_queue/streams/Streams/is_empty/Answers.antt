use Rattle.std.proofs.Common.{ap, ◌∙◌}
use Rattle.std.specs.Prelude.{◌==◌}
use Rattle.std.specs.List.{list_all}
use Rattle.std.specs.Map.{values_of}
use Rattle.sctp_tx_queue.specs.SendQueue.{has_nothing}
use Rattle.sctp_tx_queue.proofs.BoundLemmas.{total_nothing}
use Rattle.sctp_tx_queue.proofs.send_queue.streams.Streams.is_empty.Goals as goal

pub returns : goal.returns
returns c = ap (λ n. n == 0) (c.amount.ensures ∙ c.self.invariant.counted) ∙ total_nothing c.self.inside.streams.entries c.self.invariant.few ∙ ap (λ ss. list_all has_nothing (values_of ss.entries)) c.self.view_is
