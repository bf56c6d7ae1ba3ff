use Rattle.std.proofs.Common.{ap, ◌∙◌}
use Rattle.std.specs.Prelude.{nat_lt}
use Rattle.std.specs.List.{list_any}
use Rattle.std.specs.Map.{values_of}
use Rattle.sctp_tx_queue.specs.Resets.{is_ready}
use Rattle.sctp_tx_queue.proofs.ReadyLemmas.{some_ready}
use Rattle.sctp_tx_queue.proofs.send_queue.streams.Streams.has_ready.Goals as goal

pub returns : goal.returns
returns c = ap (λ n. nat_lt 0 n) c.self.invariant.ready ∙ some_ready c.self.inside.streams.entries ∙ ap (λ ss. list_any is_ready (values_of ss.entries)) c.self.view_is
